-- The latest ends of the lines into each element, with one line more.
use Rattle.std.proofs.Common.{◌≡◌, ℕ, ◌+◌, ◌*◌, ◌<◌, ◌≤◌, true, List, length, get_or, Some, refl, sym, ap, subst, ◌∙◌, inl, inr, arith}
use Rattle.std.specs.Prelude.{◌≢◌, ◌⊎◌, max, slice_get, slice_set, slice_index_or, if◌then◌else◌}
use Rattle.std.specs.Option.{option_map}
use Rattle.std.proofs.lemmas.Bool.{cases_lt, cases_eq}
use Rattle.std.proofs.lemmas.List.{length-set}
use Rattle.std.proofs.lemmas.Option.{same_Some, slice_get_cases, slice_get-get_or}
use Rattle.sync_topo.specs.declared.input.LineId.{LineId}
use Rattle.sync_topo.specs.declared.returns.ReturnRule.TheVariants.{BarredFromLast}
use Rattle.sync_topo.specs.Topology.{Topology}
use Rattle.sync_topo.specs.Limits.{greatest_delay, link_limit}
use Rattle.sync_topo.specs.Lines.{line_count, delay_of, IsNominated, sender_of, receiver_of}
use Rattle.sync_topo.specs.Hops.{bears_on}
use Rattle.sync_topo.proofs.LineLaws.{IsNominated-within}
use Rattle.sync_topo.proofs.Lists.{slice_get-set_same, slice_get-set_other}
use Rattle.sync_topo.specs.WellFormed.{IsWellFormed}
use Rattle.rank_cert.specs.Ranks.{Ranks}
use Rattle.net_rules.specs.Settling.{IsGreatest}
use Rattle.reach_rules.specs.Failing.{IsTimeOf, AreTimes}
use Rattle.cycle_plan.specs.private.Numbers.{number_in, number_out}
use Rattle.cycle_plan.specs.private.Peeling.{line_in, IsAmongFirst, IsOrder}
use Rattle.cycle_plan.specs.private.Latest.{IsEnd, IsLate, AreLates, IsLong, IsIntoBelow, AreDelaysInto}
use Rattle.cycle_plan.specs.declared.greatest.Greatest.{Greatest}
use Rattle.cycle_plan.specs.private.Greatest.{no_greatest, greatest_but, raised_greatest, IsGreatestWay}
use Rattle.cycle_plan.proofs.GreatestLaws.{IsGreatestWay-same, IsGreatestWay-raised, IsBelow-raised, IsBelow-more, above-but, reached-but, below-but}
use Rattle.cycle_plan.proofs.HopFacts.{hop_parts, hop_from}
use Rattle.cycle_plan.proofs.MostLemmas.{more_first, one_less}
use Rattle.cycle_plan.proofs.ReachLemmas.{line_there}

-- two numbers that are both the greatest of a kind are one
one_greatest : (One : ℕ → Type 0) (one other : ℕ) → IsGreatest One one → IsGreatest One other → one ≡ other
one_greatest One one other first second = omega (arith, less one other first second, less other one second first)
  where
    less : (a b : ℕ) → IsGreatest One a → IsGreatest One b → a ≤ b
    less a b is also = elim is.reached [
      | inl none ↦ omega (arith, none)
      | inr some ↦ also.most a some
    ]

-- once all lines that bear on a line are done, the latest end of the lines into its sender but those of its number, or the
-- greatest delay of those lines, is its time
module _ (plan : Topology) (order : List LineId) (n line delay : ℕ) (time : ℕ → ℕ) (late : Greatest) (times : AreTimes plan time) (nominated : IsNominated plan line)
    (delay_is : IsIntoBelow plan (line_count plan) (sender_of plan line) delay) (only : (other : ℕ) → IsAmongFirst order n other → IsNominated plan other)
    (done : (from : ℕ) → bears_on plan from line ≡ true → IsAmongFirst order n from)
    (is : IsGreatestWay (IsEnd plan order n (sender_of plan line) time) late) where
  abbrev out : ℕ
  out = number_out BarredFromLast plan line

  above : (m : ℕ) → IsTimeOf plan time line m → m ≤ max delay (greatest_but late out)
  above m (inl into) = let within = delay_is.most into.before (IsNominated-within plan into.before into.nominated) into.nominated into.into in omega (arith, into.is, within)
  above m (inr over) =
      let parts = hop_parts BarredFromLast plan over.before line over.hops in
      let within = above-but (IsEnd plan order n (sender_of plan line) time) late out is (number_in BarredFromLast plan over.before) m (record {
        line = over.before;
        first = done over.before over.hops;
        into = parts.2;
        number_is = refl;
        end_is = sym over.is;
      }) parts.3 in
      omega (arith, within)

  late-reached : (greatest_but late out ≡ 0) ⊎ IsTimeOf plan time line (greatest_but late out)
  late-reached = elim (reached-but (IsEnd plan order n (sender_of plan line) time) late out is) [
    | inl none ↦ inl none
    | inr some ↦
        let way = some.1 in
        inr (inr (record {
          before = way.line;
          hops = hop_from BarredFromLast plan way.line line (only way.line way.first) nominated way.into (λ same. some.2 (sym way.number_is ∙ same));
          is = sym way.end_is;
        }))
  ]

  reached : (max delay (greatest_but late out) ≡ 0) ⊎ IsTimeOf plan time line (max delay (greatest_but late out))
  reached = elim (cases_lt delay (greatest_but late out)) [
    | inl less ↦
        let e : max delay (greatest_but late out) ≡ greatest_but late out = omega (arith, less) in
        elim late-reached [
          | inl none ↦ inl (e ∙ none)
          | inr some ↦ inr (subst (IsTimeOf plan time line) (sym e) some)
        ]
    | inr more ↦
        let e : max delay (greatest_but late out) ≡ delay = omega (arith, more) in
        elim delay_is.reached [
          | inl none ↦ inl (e ∙ none)
          | inr into ↦ inr (subst (IsTimeOf plan time line) (sym e) (inl into))
        ]
  ]

  pub time-is : max delay (greatest_but late out) ≡ time line
  time-is = one_greatest (IsTimeOf plan time line) (max delay (greatest_but late out)) (time line) (record { most = above; reached = reached }) (times line nominated)

-- an end among those of the first n lines is one among those of one more
more_ends : (plan : Topology) (order : List LineId) (n element : ℕ) (time : ℕ → ℕ) (number end : ℕ) → IsEnd plan order n element time number end
    → IsEnd plan order (n + 1) element time number end
more_ends plan order n element time number end is = record {
  line = is.line;
  first = more_first order n is.line is.first;
  into = is.into;
  number_is = is.number_is;
  end_is = is.end_is;
}

-- an end is one of those before, or that of the line at place n
one_end : (plan : Topology) (order : List LineId) (n element line : ℕ) (time : ℕ → ℕ) (number end : ℕ) → line_in order n ≡ Some line
    → (way : IsEnd plan order (n + 1) element time number end) → IsEnd plan order n element time number end ⊎ (line ≡ way.line)
one_end plan order n element line time number end here way = elim (one_less order n line way.line here way.first) [
  | inl first ↦ inl (record { line = way.line; first = first; into = way.into; number_is = way.number_is; end_is = way.end_is })
  | inr same ↦ inr same
]

ends-other : (plan : Topology) (order : List LineId) (n element line : ℕ) (time : ℕ → ℕ) (late : Greatest) → line_in order n ≡ Some line
    → receiver_of plan line ≢ element → IsGreatestWay (IsEnd plan order n element time) late → IsGreatestWay (IsEnd plan order (n + 1) element time) late
ends-other plan order n element line time late here elsewhere =
    IsGreatestWay-same (IsEnd plan order n element time) (IsEnd plan order (n + 1) element time) late (more_ends plan order n element time)
    (λ number end way. elim (one_end plan order n element line time number end here way) [
      | inl old ↦ old
      | inr same ↦ absurd (elsewhere (ap (receiver_of plan) same ∙ way.into))
    ])

ends-raised : (plan : Topology) (order : List LineId) (n line : ℕ) (time : ℕ → ℕ) (late : Greatest) (new : ℕ) → line_in order n ≡ Some line
    → time line + delay_of plan line ≡ new → IsGreatestWay (IsEnd plan order n (receiver_of plan line) time) late
    → IsGreatestWay (IsEnd plan order (n + 1) (receiver_of plan line) time) (raised_greatest late (number_in BarredFromLast plan line) new)
ends-raised plan order n line time late new here new_is =
    IsGreatestWay-raised (IsEnd plan order n (receiver_of plan line) time) (IsEnd plan order (n + 1) (receiver_of plan line) time) late
    (number_in BarredFromLast plan line) new
    (record { line = line; first = record { place = n; early = omega arith; there = here }; into = refl; number_is = refl; end_is = new_is })
    (more_ends plan order n (receiver_of plan line) time)
    (λ number end way. elim (one_end plan order n (receiver_of plan line) line time number end here way) [
      | inl old ↦ inl old
      | inr same ↦
          let e : end ≡ new = sym way.end_is ∙ ap (λ l. time l + delay_of plan l) (sym same) ∙ new_is in
          inr (ap (λ l. number_in BarredFromLast plan l) same ∙ way.number_is, omega (arith, e))
    ])

-- the line that is read at a place of the order is a line of the plan
pub line_inside : (plan : Topology) (ranks : Ranks) (order : List LineId) (place : ℕ) (line : LineId) → IsOrder BarredFromLast plan ranks order → place < length order
    → line ≡ get_or order place line → line.0 < line_count plan
line_inside plan ranks order place line ordered within read = IsNominated-within plan line.0 (ordered.only place line.0 (line_there order place line within read))

-- the time that is found of a line
pub record IsTimed (plan : Topology) (line : ℕ) (delays : List ℕ) (lates : List Greatest) (sender time : ℕ) : Type 0 where
  pub sender_is : sender ≡ sender_of plan line
  pub sender_within : sender < length plan.elements
  pub time_is : time ≡ max (slice_index_or delays sender 0) (greatest_but (slice_index_or lates sender no_greatest) (number_out BarredFromLast plan line))

module _ (plan : Topology) (ranks : Ranks) (order : List LineId) (n line : ℕ) (delays : List ℕ) (lates : List Greatest) (sender time : ℕ)
    (ordered : IsOrder BarredFromLast plan ranks order) (here : line_in order n ≡ Some line) (into : AreDelaysInto plan (line_count plan) delays)
    (are : AreLates plan order n lates) (timed : IsTimed plan line delays lates sender time) where
  from_is : IsLate plan order n sender (slice_index_or lates sender no_greatest)
  from_is = are.each sender (slice_index_or lates sender no_greatest) (slice_get-get_or lates sender no_greatest (rw are.counted timed.sender_within))

  delay_below : IsIntoBelow plan (line_count plan) sender (slice_index_or delays sender 0)
  delay_below = into.each sender (slice_index_or delays sender 0) (slice_get-get_or delays sender 0 (rw into.counted timed.sender_within))

  -- it is the line's time
  pub passed-time : (times : ℕ → ℕ) → AreTimes plan times → time ≡ times line
  passed-time times are_times =
      timed.time_is
      ∙ time-is plan order n line (slice_index_or delays sender 0) times (slice_index_or lates sender no_greatest) are_times (ordered.only n line here)
      (subst (λ e. IsIntoBelow plan (line_count plan) e (slice_index_or delays sender 0)) timed.sender_is delay_below)
      (λ other first. ordered.only first.place other first.there)
      (λ before bears. ordered.after n line before here bears)
      (subst (λ e. IsGreatestWay (IsEnd plan order n e times) (slice_index_or lates sender no_greatest)) timed.sender_is (from_is.is times are_times))

  pub passed-few : time ≤ (n + 1) * greatest_delay
  passed-few =
      let late = below-but (slice_index_or lates sender no_greatest) (number_out BarredFromLast plan line) ((n + 1) * greatest_delay) from_is.few in
      let one : slice_index_or delays sender 0 ≤ (n + 1) * greatest_delay = omega (arith, delay_below.few) in
      omega (arith, timed.time_is, late, one)

-- there is room for its end
pub passed-room : (plan : Topology) (ranks : Ranks) (order : List LineId) (n time : ℕ) → IsWellFormed plan → IsOrder BarredFromLast plan ranks order → n < length order
    → time ≤ (n + 1) * greatest_delay → time ≤ (2 * link_limit + 1) * greatest_delay
passed-room plan ranks order n time well ordered within few = omega (arith, within, few, ordered.few, well.few_links)

-- what is done of a line that is passed
pub record IsPassed (plan : Topology) (line : ℕ) (lates : List Greatest) (receiver time : ℕ) (new : Greatest) : Type 0 where
  pub receiver_is : receiver ≡ receiver_of plan line
  pub receiver_within : receiver < length plan.elements
  pub end : ℕ
  pub end_is : end ≡ time + delay_of plan line
  pub new_is : new ≡ raised_greatest (slice_index_or lates receiver no_greatest) (number_in BarredFromLast plan line) end
  pub short : delay_of plan line ≤ greatest_delay

module _ (plan : Topology) (order : List LineId) (n line : ℕ) (lates : List Greatest) (receiver time : ℕ) (new : Greatest) (here : line_in order n ≡ Some line)
    (time_is : (times : ℕ → ℕ) → AreTimes plan times → time ≡ times line) (time_few : time ≤ (n + 1) * greatest_delay)
    (are : AreLates plan order n lates) (is : IsPassed plan line lates receiver time new) where
  to_is : IsLate plan order n receiver (slice_index_or lates receiver no_greatest)
  to_is = are.each receiver (slice_index_or lates receiver no_greatest) (slice_get-get_or lates receiver no_greatest (rw are.counted is.receiver_within))

  raised : IsLate plan order (n + 1) (receiver_of plan line) new
  raised = subst (IsLate plan order (n + 1) (receiver_of plan line)) (sym is.new_is) (record {
    few = IsBelow-raised (slice_index_or lates receiver no_greatest) (number_in BarredFromLast plan line) is.end ((n + 1 + 1) * greatest_delay)
        (IsBelow-more (slice_index_or lates receiver no_greatest) ((n + 1) * greatest_delay) ((n + 1 + 1) * greatest_delay) (omega arith) to_is.few)
        (omega (arith, time_few, is.short, is.end_is));
    is = λ times are_times.
        ends-raised plan order n line times (slice_index_or lates receiver no_greatest) is.end here
        (ap (λ t. t + delay_of plan line) (sym (time_is times are_times)) ∙ sym is.end_is)
        (subst (λ e. IsGreatestWay (IsEnd plan order n e times) (slice_index_or lates receiver no_greatest)) is.receiver_is (to_is.is times are_times));
  })

  pub AreLates-next : AreLates plan order (n + 1) (slice_set lates receiver new)
  AreLates-next = record {
    counted = length-set lates receiver new ∙ are.counted;
    each = λ element late there. elim (cases_eq element receiver) [
      | inl same ↦
          let late_is : new ≡ late =
          same_Some new late (sym (slice_get-set_same lates receiver new (rw are.counted is.receiver_within)) ∙ ap (λ e. slice_get (slice_set lates receiver new) e) (sym same) ∙ there) in
          subst (λ e. IsLate plan order (n + 1) e late) (sym (same ∙ is.receiver_is)) (subst (IsLate plan order (n + 1) (receiver_of plan line)) late_is raised)
      | inr differs ↦
          let old = are.each element late (sym (slice_get-set_other lates receiver element new (λ same. differs (sym same))) ∙ there) in
          record {
            few = IsBelow-more late ((n + 1) * greatest_delay) ((n + 1 + 1) * greatest_delay) (omega arith) old.few;
            is = λ times are_times.
                ends-other plan order n element line times late here (λ same. differs (sym (is.receiver_is ∙ same))) (old.is times are_times);
          }
    ];
  }

pub IsLong-next : (plan : Topology) (order : List LineId) (n line longest time : ℕ) → line_in order n ≡ Some line → time ≤ (n + 1) * greatest_delay
    → ((times : ℕ → ℕ) → AreTimes plan times → time ≡ times line) → IsLong plan order n longest → IsLong plan order (n + 1) (max longest time)
IsLong-next plan order n line longest time here few same long = record {
  few = omega (arith, long.few, few);
  is = λ times are_times.
      let is = long.is times are_times in
      let own = same times are_times in
      record {
        above = λ other first. elim (one_less order n line other here first) [
          | inl old ↦ let less = is.above other old in omega (arith, less)
          | inr new ↦ let e : times line ≡ times other = ap times new in omega (arith, own, e)
        ];
        reached = elim (cases_lt longest time) [
          | inl less ↦
              let e : max longest time ≡ times line = omega (arith, less, own) in
              inr (line, record { place = n; early = omega arith; there = here }, e)
          | inr more ↦
              let e : max longest time ≡ longest = omega (arith, more) in
              elim is.reached [
                | inl none ↦ inl (e ∙ none)
                | inr some ↦ inr (some.0, more_first order n some.0 some.1, e ∙ some.2)
              ]
        ];
      };
}

-- whichever line stands there
pub IsLong-passed : (plan : Topology) (order : List LineId) (n longest time : ℕ) → n < length order → time ≤ (n + 1) * greatest_delay
    → ((times : ℕ → ℕ) (line : ℕ) → AreTimes plan times → line_in order n ≡ Some line → time ≡ times line) → IsLong plan order n longest
    → IsLong plan order (n + 1) (max longest time)
IsLong-passed plan order n longest time within few same long = elim (slice_get_cases order n).1 [
  | inl there ↦
      let here : line_in order n ≡ Some there.0.0 = ap (λ o. option_map (λ (l : LineId). l.0) o) there.2 in
      IsLong-next plan order n there.0.0 longest time here few (λ times are. same times there.0.0 are here) long
  | inr past ↦ absurd (omega (arith, within, past.0))
]
