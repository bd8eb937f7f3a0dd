-- How endings become known.
use Rattle.std.proofs.Common.{◌≡◌, ◌≢◌, ◌≤◌, ◌<◌, ◌+◌, ◌⊎◌, ◌++◌, ℕ, zero, suc, Bool, true, false, List, [], ◌∷◌, length, map, replicate, Option, None, Some, is_some, IfSome, ap, sym, subst, ◌∙◌, inl, inr, arith, refl}
use Rattle.std.specs.Prelude.{slice_set, slice_get}
use Rattle.std.proofs.Math.Decide.{dec_lt}
use Rattle.std.proofs.lemmas.Bool.{true≢false}
use Rattle.std.proofs.lemmas.Bool.Decides.{eqb_tells}
use Rattle.std.proofs.lemmas.List.{get_or-set_same, get_or-set_other, length-set, length-replicate, length-map}
use Rattle.std.proofs.lemmas.Option.{none-some, same_Some}
use Rattle.sync_text.proofs.Each.{Each-append}
use Rattle.sync_text.specs.Each.{Each}
use Rattle.sync_topo.specs.declared.input.InputId.{InputId}
use Rattle.sync_topo.specs.declared.input.LineId.{LineId}
use Rattle.sync_topo.specs.Topology.{Topology}
use Rattle.sync_topo.specs.Lines.{line_input, line_count, sender_of, receiver_of, numbers}
use Rattle.sync_topo.specs.WellFormed.{IsWellFormed}
use Rattle.net_rules.specs.Inputs.{IsInputOf}
use Rattle.net_rules.specs.GoingBack.{line_before, ComesBack}
use Rattle.net_rules.specs.Walks.{Taken, AreApart, IsOneOf, TraceEnd, at_source, at_clock, at_loop, EndsAt, IsTraceAfter, IsTrace}
use Rattle.net_rules.proofs.BackWalk.{AreOwn}
use Rattle.net_rules.proofs.WalkLaws.{line_input-same}
use Rattle.net_rules.proofs.PlanLaws.{sender-within, receiver-within}
use Rattle.net_rules.proofs.TraceLaws.{has_trace, at_most}
use Rattle.closed_walks.specs.declared.traced.End.{End}
use Rattle.closed_walks.specs.declared.traced.End.TheVariants as end_as
use Rattle.closed_walks.specs.declared.traced.Ending.{Ending}
use Rattle.closed_walks.specs.Taking.{taken_in_list, AreTaken}
use Rattle.closed_walks.specs.Traces.{end_of, EndsSo, AreFound}
use Rattle.closed_walks.specs.declared.following.Next.{Next}
use Rattle.closed_walks.specs.declared.following.Next.TheVariants.{On, Over}
use Rattle.closed_walks.specs.Following.{next_of, Follows, IsPassed, is_met, AreMet}
use Rattle.closed_walks.specs.private.Known.{known_at, IsKnown, AreKnown, IsOnLoop, IsEndAt, IsMoreKnown}
use Rattle.closed_walks.proofs.FollowLaws.{trace-begins, ends-over}
use Rattle.closed_walks.proofs.Rings.{comes-back, loop-ends, loop-next, loop-takes, rotated}

-- what is taken is an input of the element's own
pub taken-line : (plan : Topology) (inputs : List (Option InputId)) (element line : ℕ) → AreTaken plan inputs
    → taken_in_list inputs element ≡ Some (line_input line) → IsInputOf plan element (line_input line)
taken-line plan inputs element line are takes = subst (λ (o : Option InputId). IfSome o (IsInputOf plan element)) takes (are.own element)

pub taken-own : (plan : Topology) (inputs : List (Option InputId)) → AreTaken plan inputs → AreOwn plan (taken_in_list inputs)
taken-own plan inputs are element line takes = (taken-line plan inputs element line are takes).of_element

pub taken-within : (plan : Topology) (inputs : List (Option InputId)) → IsWellFormed plan → AreTaken plan inputs
    → (element line : ℕ) → taken_in_list inputs element ≡ Some (line_input line) → sender_of plan line < length plan.elements
taken-within plan inputs well are element line takes = sender-within plan well line (taken-line plan inputs element line are takes).has

-- a trace has at most as many lines as there are elements
few-lines : (plan : Topology) (taken : Taken) (n : ℕ) → ((element line : ℕ) → taken element ≡ Some (line_input line) → sender_of plan line < n)
    → (lines passed : List ℕ) (element : ℕ) (end : TraceEnd) → element < n → AreApart passed → Each (λ x. x < n) passed
    → IsTraceAfter plan taken passed element lines end → length lines + length passed ≤ n
few-lines plan taken n senders [] passed element end within apart below trace = let few = at_most n passed apart below in omega (arith, few)
few-lines plan taken n senders (line ∷ rest) passed element end within apart below trace =
    let few = few-lines plan taken n senders rest (element ∷ passed) (sender_of plan line) end (senders element line trace.1) (trace.0, apart) (within, below) trace.2 in
    omega (arith, few)

pub few-ending : (plan : Topology) (inputs : List (Option InputId)) (element : ℕ) (ending : Ending) → IsWellFormed plan → AreTaken plan inputs
    → element < length plan.elements → EndsSo plan (taken_in_list inputs) element ending → ending.lines ≤ length plan.elements
few-ending plan inputs element ending well are within ends =
    let few = few-lines plan (taken_in_list inputs) (length plan.elements) (taken-within plan inputs well are) ends.0 [] element (end_of ending.end) within tt tt ends.2 in
    let same = ends.1 in
    omega (arith, few, same)

-- an element on a loop traces it once round
pub loop-ends-so : (plan : Topology) (inputs : List (Option InputId)) (n line : ℕ) → IsWellFormed plan → AreTaken plan inputs
    → ComesBack plan (taken_in_list inputs) n line → taken_in_list inputs (receiver_of plan line) ≡ Some (line_input line)
    → EndsSo plan (taken_in_list inputs) (receiver_of plan line) (record { lines = n; end = end_as.Loop (receiver_of plan line) })
loop-ends-so plan inputs n line well are comes takes =
    let taken : Taken = taken_in_list inputs in
    let within = receiver-within plan well line (taken-line plan inputs (receiver_of plan line) line are takes).has in
    let trace = has_trace plan taken (length plan.elements) (taken-within plan inputs well are) (receiver_of plan line) within in
    let facts = loop-ends plan taken n line trace.lines trace.end (taken-own plan inputs are) comes takes trace.is in
    (trace.lines, facts.1, subst (λ e. IsTrace plan taken (receiver_of plan line) trace.lines e) facts.0 trace.is)

-- one element more is known
pub known-still : (known : List (Option Ending)) (element k : ℕ) (ending : Ending) → element < length known → IsKnown known k → IsKnown (slice_set known element (Some ending)) k
known-still known element k ending within is = elim (eqb_tells k element) [
  | inl same ↦ subst (λ j. IsKnown (slice_set known element (Some ending)) j) (sym same.1) (ap is_some (get_or-set_same known element (Some ending) None within))
  | inr other ↦ ap is_some (get_or-set_other known element k (Some ending) None other.1) ∙ is
]

pub known-here : (known : List (Option Ending)) (element : ℕ) (ending : Ending) → element < length known → IsKnown (slice_set known element (Some ending)) element
known-here known element ending within = ap is_some (get_or-set_same known element (Some ending) None within)

known-was : (known : List (Option Ending)) (element k : ℕ) (ending : Ending) → IsKnown (slice_set known element (Some ending)) k → (k ≡ element) ⊎ IsKnown known k
known-was known element k ending is = elim (eqb_tells k element) [
  | inl same ↦ inl same.1
  | inr other ↦ inr (sym (ap is_some (get_or-set_other known element k (Some ending) None other.1)) ∙ is)
]

pub holds-set : (plan : Topology) (taken : Taken) (known : List (Option Ending)) (element : ℕ) (ending : Ending) → element < length known
    → ((k : ℕ) → IfSome (known_at known k) (EndsSo plan taken k)) → EndsSo plan taken element ending
    → (k : ℕ) → IfSome (known_at (slice_set known element (Some ending)) k) (EndsSo plan taken k)
holds-set plan taken known element ending within holds ends k = elim (eqb_tells k element) [
  | inl same ↦ subst (λ j. IfSome (known_at (slice_set known element (Some ending)) j) (EndsSo plan taken j)) (sym same.1)
      (subst (λ (o : Option Ending). IfSome o (EndsSo plan taken element)) (sym (get_or-set_same known element (Some ending) None within)) ends)
  | inr other ↦ subst (λ (o : Option Ending). IfSome o (EndsSo plan taken k)) (sym (get_or-set_other known element k (Some ending) None other.1)) (holds k)
]

pub more-known : (plan : Topology) (taken : Taken) (known : List (Option Ending)) (element : ℕ) (ending : Ending) → element < length known
    → AreKnown plan taken known → EndsSo plan taken element ending
    → ((line : ℕ) → taken element ≡ Some (line_input line) → IsKnown known (sender_of plan line))
    → IsMoreKnown plan taken known (slice_set known element (Some ending))
more-known plan taken known element ending within are ends on = record {
  known = record {
    count = length-set known element (Some ending) ∙ are.count;
    holds = holds-set plan taken known element ending within are.holds ends;
    on = λ k line is takes. elim (known-was known element k ending is) [
      | inl same ↦ known-still known element (sender_of plan line) ending within (on line (ap taken (sym same) ∙ takes))
      | inr earlier ↦ known-still known element (sender_of plan line) ending within (are.on k line earlier takes)
    ];
  };
  still = λ k is. known-still known element k ending within is;
}

-- a trace is as well one from an element that it doesn't meet
one-more-passed : (x : ℕ) (passed : List ℕ) (element : ℕ) → IsOneOf x passed → IsOneOf x (passed ++ element ∷ [])
one-more-passed x [] element one = absurd one
one-more-passed x (y ∷ ys) element one = elim one [
  | inl same ↦ inl same
  | inr later ↦ inr (one-more-passed x ys element later)
]

known-apart : (known : List (Option Ending)) (x element : ℕ) → IsKnown known x → known_at known element ≡ None → x ≢ element
known-apart known x element is none same = true≢false (sym is ∙ ap is_some (ap (known_at known) same ∙ none))

longer : (plan : Topology) (taken : Taken) (known : List (Option Ending)) (element : ℕ) (end : TraceEnd) → AreKnown plan taken known → known_at known element ≡ None
    → (lines passed : List ℕ) (x : ℕ) → IsKnown known x → IsTraceAfter plan taken passed x lines end → IsTraceAfter plan taken (passed ++ element ∷ []) x lines end
longer plan taken known element (at_source source) are none [] passed x is trace =
    (Each-append (λ other. x ≢ other) passed (element ∷ []) trace.0 (known-apart known x element is none, tt), trace.1)
longer plan taken known element (at_clock clock) are none [] passed x is trace =
    (Each-append (λ other. x ≢ other) passed (element ∷ []) trace.0 (known-apart known x element is none, tt), trace.1, trace.2)
longer plan taken known element (at_loop again) are none [] passed x is trace =
    (one-more-passed x passed element trace.0, trace.1)
longer plan taken known element end are none (line ∷ rest) passed x is trace = (
  Each-append (λ other. x ≢ other) passed (element ∷ []) trace.0 (known-apart known x element is none, tt),
  trace.1,
  longer plan taken known element end are none rest (x ∷ passed) (sender_of plan line) (are.on x line is trace.1) trace.2,
)

pub ends-longer : (plan : Topology) (taken : Taken) (known : List (Option Ending)) (element line : ℕ) (ending : Ending) → AreKnown plan taken known
    → known_at known element ≡ None → taken element ≡ Some (line_input line) → known_at known (sender_of plan line) ≡ Some ending
    → EndsSo plan taken element (record { lines = ending.lines + 1; end = ending.end })
ends-longer plan taken known element line ending are none takes is =
    let ends : EndsSo plan taken (sender_of plan line) ending = subst (λ (o : Option Ending). IfSome o (EndsSo plan taken (sender_of plan line))) is (are.holds (sender_of plan line)) in
    let count = ends.1 in
    (line ∷ ends.0, omega (arith, count), (tt, takes, longer plan taken known element (end_of ending.end) are none ends.0 [] (sender_of plan line) (ap is_some is) ends.2))

-- the elements of a loop, of which the first k are noted
pub record AreNoted (plan : Topology) (taken : Taken) (line k : ℕ) (before after : List (Option Ending)) : Type 0 where
  pub count : length after ≡ length plan.elements
  pub holds : (element : ℕ) → IfSome (known_at after element) (EndsSo plan taken element)
  pub still : (element : ℕ) → IsKnown before element → IsKnown after element
  pub noted : (i : ℕ) → i < k → IsKnown after (receiver_of plan (line_before plan taken i line))
  pub others : (element : ℕ) → IsKnown after element → IsKnown before element ⊎ ((i : ℕ) × (i < k) × (element ≡ receiver_of plan (line_before plan taken i line)))

pub noted-none : (plan : Topology) (taken : Taken) (line : ℕ) (known : List (Option Ending)) → AreKnown plan taken known → AreNoted plan taken line 0 known known
noted-none plan taken line known are = record {
  count = are.count;
  holds = are.holds;
  still = λ element is. is;
  noted = λ i within. absurd (omega (arith, within));
  others = λ element is. inl is;
}

pub noted-more : (plan : Topology) (taken : Taken) (line k at : ℕ) (ending : Ending) (before after : List (Option Ending)) → at < length plan.elements
    → at ≡ receiver_of plan (line_before plan taken k line) → EndsSo plan taken at ending → AreNoted plan taken line k before after
    → AreNoted plan taken line (k + 1) before (slice_set after at (Some ending))
noted-more plan taken line k at ending before after within is ends was =
    let inside : at < length after = (let count = was.count in omega (arith, within, count)) in
    record {
      count = length-set after at (Some ending) ∙ was.count;
      holds = holds-set plan taken after at ending inside was.holds ends;
      still = λ element known. known-still after at element ending inside (was.still element known);
      noted = λ i few. elim (eqb_tells i k) [
        | inl same ↦ subst (λ e. IsKnown (slice_set after at (Some ending)) e) (is ∙ ap (λ j. receiver_of plan (line_before plan taken j line)) (sym same.1)) (known-here after at ending inside)
        | inr other ↦ known-still after at (receiver_of plan (line_before plan taken i line)) ending inside (was.noted i (let apart = other.1 in omega (arith, few, apart)))
      ];
      others = λ element known. elim (known-was after at element ending known) [
        | inl same ↦ inr (k, omega arith, same ∙ is)
        | inr earlier ↦ elim (was.others element earlier) [
          | inl old ↦ inl old
          | inr one ↦ inr (one.0, (let few = one.1 in omega (arith, few)), one.2)
        ]
      ];
    }

-- once all are noted, all is known that was, and with it the loop
pub noted-all : (plan : Topology) (taken : Taken) (n line : ℕ) (before after : List (Option Ending)) → AreOwn plan taken → ComesBack plan taken n line
    → taken (receiver_of plan line) ≡ Some (line_input line) → AreKnown plan taken before → AreNoted plan taken line n before after
    → IsMoreKnown plan taken before after
noted-all plan taken n line before after own comes takes_first are was = record {
  known = record {
    count = was.count;
    holds = was.holds;
    on = λ element next is takes. elim (was.others element is) [
      | inl old ↦ was.still (sender_of plan next) (are.on element next old takes)
      | inr one ↦ along element next takes one.0 one.1 one.2
    ];
  };
  still = was.still;
}
  where
    along : (element next : ℕ) → taken element ≡ Some (line_input next) → (i : ℕ) → i < n → element ≡ receiver_of plan (line_before plan taken i line)
        → IsKnown after (sender_of plan next)
    along element next takes i within is =
        let same : next ≡ line_before plan taken i line =
        line_input-same next (line_before plan taken i line)
        (same_Some (line_input next) (line_input (line_before plan taken i line))
        (sym takes ∙ ap taken is ∙ loop-takes plan taken n line i own comes takes_first (omega (arith, within)))) in
        let to : sender_of plan next ≡ receiver_of plan (line_before plan taken (suc i) line) =
        ap (sender_of plan) same ∙ sym (loop-next plan taken n line i own comes within) in
        subst (IsKnown after) (sym to) (elim (dec_lt (suc i) n) [
          | yes more ↦ was.noted (suc i) more
          | no last ↦
              let whole : suc i ≡ n = omega (arith, within, last) in
              let back : receiver_of plan (line_before plan taken (suc i) line) ≡ receiver_of plan line =
              ap (receiver_of plan) (ap (λ j. line_before plan taken j line) whole ∙ comes.round) in
              subst (IsKnown after) (sym back) (was.noted 0 comes.some)
        ])

-- marks are those of a list
pub record HasMarks (met : List Bool) : Type 0 where
  pub marked : List ℕ
  pub are : AreMet met marked

next_numbers : List ℕ → List ℕ
next_numbers [] = []
next_numbers (n ∷ ns) = suc n ∷ next_numbers ns

next-one : (k : ℕ) (ns : List ℕ) → IsOneOf k ns → IsOneOf (suc k) (next_numbers ns)
unfolding next_numbers
next-one k [] one = absurd one
next-one k (n ∷ ns) one = elim one [
  | inl same ↦ inl (ap suc same)
  | inr later ↦ inr (next-one k ns later)
]

one-next : (k : ℕ) (ns : List ℕ) → IsOneOf (suc k) (next_numbers ns) → IsOneOf k ns
unfolding next_numbers
one-next k [] one = absurd one
one-next k (n ∷ ns) one = elim one [
  | inl same ↦ inl (omega (arith, same))
  | inr later ↦ inr (one-next k ns later)
]

zero-next : (ns : List ℕ) → IsOneOf 0 (next_numbers ns) → ⊥
unfolding next_numbers
zero-next [] one = one
zero-next (n ∷ ns) one = elim one [
  | inl same ↦ omega (arith, same)
  | inr later ↦ zero-next ns later
]

mark_list : Bool → List ℕ → List ℕ
mark_list true ns = 0 ∷ next_numbers ns
mark_list false ns = next_numbers ns

mark-zero : (b : Bool) (ns : List ℕ) → (b ≡ true → IsOneOf 0 (mark_list b ns)) × (IsOneOf 0 (mark_list b ns) → b ≡ true)
unfolding mark_list
mark-zero true ns = (λ _. inl refl, λ _. refl)
mark-zero false ns = (λ is. absurd (true≢false (sym is)), λ one. absurd (zero-next ns one))

mark-suc : (b : Bool) (k : ℕ) (ns : List ℕ) → (IsOneOf k ns → IsOneOf (suc k) (mark_list b ns)) × (IsOneOf (suc k) (mark_list b ns) → IsOneOf k ns)
unfolding mark_list
mark-suc false k ns = (next-one k ns, one-next k ns)
mark-suc true k ns = (
  λ one. inr (next-one k ns one),
  λ one. elim one [
    | inl same ↦ absurd (omega (arith, same))
    | inr later ↦ one-next k ns later
  ],
)

pub has-marks : (met : List Bool) → HasMarks met
has-marks [] = record { marked = []; are = λ k. (λ is. absurd (true≢false (sym is)), λ one. absurd one) }
has-marks (b ∷ met) = by (has-marks met)
  where
    at : (ns : List ℕ) → AreMet met ns → AreMet (b ∷ met) (mark_list b ns)
    at ns are zero = mark-zero b ns
    at ns are (suc k) = (λ is. (mark-suc b k ns).0 ((are k).0 is), λ one. (are k).1 ((mark-suc b k ns).1 one))

    by : HasMarks met → HasMarks (b ∷ met)
    by rest = record { marked = mark_list b rest.marked; are = at rest.marked rest.are }

-- where following came to
record HasEnd (plan : Topology) (taken : Taken) (passed : List ℕ) (x : ℕ) (lines : List ℕ) (last : ℕ) (end : TraceEnd) : Type 0 where
  met : List ℕ
  ends : EndsAt taken met last end
  from : (k : ℕ) → IsOneOf k met → IsOneOf k passed ⊎ IsPassed plan x lines k

has-end : (plan : Topology) (taken : Taken) (lines passed : List ℕ) (x last : ℕ) (end : TraceEnd) → Follows plan taken x lines last
    → IsTraceAfter plan taken passed x lines end → HasEnd plan taken passed x lines last end
has-end plan taken [] passed x last end follows trace = record {
  met = passed;
  ends = subst (λ e. EndsAt taken passed e end) follows trace;
  from = λ k one. inl one;
}
has-end plan taken (line ∷ rest) passed x last end follows trace =
    let later = has-end plan taken rest (x ∷ passed) (sender_of plan line) last end follows.1 trace.2 in
    record {
      met = later.met;
      ends = later.ends;
      from = λ k one. elim (later.from k one) [
        | inl earlier ↦ elim earlier [
          | inl here ↦ inr (inl here)
          | inr before ↦ inl before
        ]
        | inr way ↦ inr (inr way)
      ];
    }

-- an element that is passed and met again is on a loop
on-loop : (plan : Topology) (taken : Taken) (lines passed : List ℕ) (x element : ℕ) → AreOwn plan taken → IsPassed plan x lines element
    → IsTraceAfter plan taken passed x lines (at_loop element) → IsOnLoop plan taken element
on-loop plan taken [] passed x element own passes trace = absurd passes
on-loop plan taken (line ∷ rest) passed x element own passes trace = elim passes [
  | inl here ↦ record {
    count = suc (length rest);
    line = line;
    takes = ap taken here ∙ trace.1;
    comes = comes-back plan taken line element rest passed own
        (subst (λ e. IsTraceAfter plan taken passed e (line ∷ rest) (at_loop element)) (sym here) trace);
  }
  | inr later ↦ on-loop plan taken rest (x ∷ passed) (sender_of plan line) element own later trace.2
]

pub end-at : (plan : Topology) (taken : Taken) (known : List (Option Ending)) (met : List Bool) (lines : List ℕ) (x last : ℕ) (end : End) → AreOwn plan taken
    → ((k : ℕ) → is_met met k ≡ true → IsKnown known k) → Follows plan taken x lines last
    → ((before : List ℕ) → AreMet met before → IsTraceAfter plan taken before x lines (end_of end))
    → IsEndAt plan taken known last end
end-at plan taken known met lines x last (end_as.Source source) own known_met follows trace =
    let marks = has-marks met in
    let has = has-end plan taken lines marks.marked x last (at_source source) follows (trace marks.marked marks.are) in
    (tt, has.ends.1)
end-at plan taken known met lines x last (end_as.OwnClock clock) own known_met follows trace =
    let marks = has-marks met in
    let has = has-end plan taken lines marks.marked x last (at_clock clock) follows (trace marks.marked marks.are) in
    (tt, has.ends.1, has.ends.2)
end-at plan taken known met lines x last (end_as.Loop again) own known_met follows trace =
    let marks = has-marks met in
    let whole = trace marks.marked marks.are in
    let has = has-end plan taken lines marks.marked x last (at_loop again) follows whole in
    elim (has.from last has.ends.0) [
      | inl before ↦ inl (known_met last ((marks.are last).1 before))
      | inr way ↦ inr (on-loop plan taken lines marks.marked x last own way
          (subst (λ e. IsTraceAfter plan taken marks.marked x lines (at_loop e)) has.ends.1 whole))
    ]

-- on a way to a known element all are known once the first is
pub known-way : (plan : Topology) (taken : Taken) (known : List (Option Ending)) (lines : List ℕ) (x last k : ℕ) → AreKnown plan taken known
    → Follows plan taken x lines last → IsKnown known x → IsPassed plan x lines k → IsKnown known k
known-way plan taken known [] x last k are follows is passes = absurd passes
known-way plan taken known (line ∷ rest) x last k are follows is passes = elim passes [
  | inl here ↦ subst (IsKnown known) (sym here) is
  | inr later ↦ known-way plan taken known rest (sender_of plan line) last k are follows.1 (are.on x line is follows.0) later
]

-- a way that ends in a line
pub way-splits : (plan : Topology) (taken : Taken) (lines : List LineId) (x last : ℕ) (line : LineId) → AreOwn plan taken
    → Follows plan taken x (numbers (lines ++ line ∷ [])) last
    → Follows plan taken x (numbers lines) (receiver_of plan line.0) × (taken (receiver_of plan line.0) ≡ Some (line_input line.0)) × (sender_of plan line.0 ≡ last)
way-splits plan taken [] x last line own follows =
    let same : receiver_of plan line.0 ≡ x = own x line.0 follows.0 in
    (sym same, ap taken same ∙ follows.0, follows.1)
way-splits plan taken (first ∷ rest) x last line own follows =
    let later = way-splits plan taken rest (sender_of plan first.0) last line own follows.1 in
    ((follows.0, later.0), later.1, later.2)

-- lines from an element on lead to one that is known
pub record LeadsToKnown (plan : Topology) (taken : Taken) (known : List (Option Ending)) (element : ℕ) (lines : List LineId) : Type 0 where
  pub last : ℕ
  pub follows : Follows plan taken element (numbers lines) last
  pub is : IsKnown known last

pub more-still : (plan : Topology) (taken : Taken) (first before after : List (Option Ending)) → IsMoreKnown plan taken first before
    → IsMoreKnown plan taken before after → IsMoreKnown plan taken first after
more-still plan taken first before after was is = record { known = is.known; still = λ k known. is.still k (was.still k known) }

-- one line less
pub leads-less : (plan : Topology) (taken : Taken) (known : List (Option Ending)) (element : ℕ) (lines : List LineId) (line : LineId) → AreOwn plan taken
    → LeadsToKnown plan taken known element (lines ++ line ∷ [])
    → Follows plan taken element (numbers lines) (receiver_of plan line.0) × (taken (receiver_of plan line.0) ≡ Some (line_input line.0)) × IsKnown known (sender_of plan line.0)
leads-less plan taken known element lines line own leads =
    let parts = way-splits plan taken lines element leads.last line own leads.follows in
    (parts.0, parts.1, subst (IsKnown known) (sym parts.2) leads.is)

-- nothing is known at first
pub none-are : (plan : Topology) (taken : Taken) (count : ℕ) → count ≡ length plan.elements → AreKnown plan taken (replicate count None)
none-are plan taken count same = record {
  count = length-replicate count None ∙ same;
  holds = λ k. subst (λ (o : Option Ending). IfSome o (EndsSo plan taken k)) (sym (none count k)) tt;
  on = λ k line is takes. absurd (true≢false (sym is ∙ ap is_some (none count k)));
}
  where
    none : (n i : ℕ) → known_at (replicate n None) i ≡ None
    none zero i = refl
    none (suc n) zero = refl
    none (suc n) (suc i) = none n i

-- one step round a loop
module _ (plan : Topology) (taken : Taken) (n line : ℕ) (own : AreOwn plan taken) (comes : ComesBack plan taken n line) where
  pub round-next : (k at to : ℕ) → taken (receiver_of plan line) ≡ Some (line_input line) → k < n → at ≡ receiver_of plan (line_before plan taken k line)
      → ((l : ℕ) → taken at ≡ Some (line_input l) → to ≡ sender_of plan l) → to ≡ receiver_of plan (line_before plan taken (k + 1) line)
  round-next k at to first within here from =
      let more : suc k ≡ k + 1 = omega arith in
      from (line_before plan taken k line) (ap taken here ∙ loop-takes plan taken n line k own comes first (omega (arith, within)))
      ∙ sym (loop-next plan taken n line k own comes within) ∙ ap (λ i. receiver_of plan (line_before plan taken i line)) more

  pub round-full : (k : ℕ) → taken (receiver_of plan line) ≡ Some (line_input line) → k < n → receiver_of plan (line_before plan taken (k + 1) line) ≡ receiver_of plan line → k + 1 ≡ n
  round-full k first within again = elim (dec_lt (k + 1) n) [
    | yes inside ↦ absurd (comes.first (k + 1) (omega arith) inside
        (line_input-same (line_before plan taken (k + 1) line) line
        (same_Some (line_input (line_before plan taken (k + 1) line)) (line_input line)
        (sym (loop-takes plan taken n line (k + 1) own comes first (omega (arith, inside))) ∙ ap taken again ∙ first))))
    | no whole ↦ omega (arith, within, whole)
  ]

  pub round-back : (k : ℕ) → k ≡ n → receiver_of plan (line_before plan taken k line) ≡ receiver_of plan line
  round-back k whole = ap (receiver_of plan) (ap (λ i. line_before plan taken i line) whole ∙ comes.round)

pub few-round : (plan : Topology) (inputs : List (Option InputId)) (n line : ℕ) → IsWellFormed plan → AreTaken plan inputs
    → ComesBack plan (taken_in_list inputs) n line → taken_in_list inputs (receiver_of plan line) ≡ Some (line_input line) → n ≤ length plan.elements
few-round plan inputs n line well are comes takes =
    few-ending plan inputs (receiver_of plan line) (record { lines = n; end = end_as.Loop (receiver_of plan line) }) well are
    (receiver-within plan well line (taken-line plan inputs (receiver_of plan line) line are takes).has)
    (loop-ends-so plan inputs n line well are comes takes)

pub not-known : (o : Option Ending) → is_some o ≡ false → o ≡ None
not-known None is = refl
not-known (Some ending) is = absurd (true≢false is)

-- one line less to note
pub leads-on : (plan : Topology) (taken : Taken) (first before after : List (Option Ending)) (element taker : ℕ) (items rest : List LineId) (line : LineId) → AreOwn plan taken
    → items ≡ rest ++ line ∷ [] → taker ≡ receiver_of plan line.0
    → IsMoreKnown plan taken first before → LeadsToKnown plan taken before element items
    → ((l : ℕ) → taken taker ≡ Some (line_input l) → IsKnown before (sender_of plan l) → IsMoreKnown plan taken before after × IsKnown after taker)
    → IsMoreKnown plan taken first after × LeadsToKnown plan taken after element rest
leads-on plan taken first before after element taker items rest line own is to was leads notes =
    let parts = leads-less plan taken before element rest line own (subst (LeadsToKnown plan taken before element) is leads) in
    let noted = notes line.0 (ap taken to ∙ parts.1) parts.2 in (
      more-still plan taken first before after was noted.0,
      record { last = receiver_of plan line.0; follows = parts.0; is = subst (IsKnown after) to noted.1 },
    )

pub line-within : (plan : Topology) (inputs : List (Option InputId)) (known : List (Option Ending)) (element : ℕ) (items rest : List LineId) (line : LineId) → AreTaken plan inputs
    → items ≡ rest ++ line ∷ [] → LeadsToKnown plan (taken_in_list inputs) known element items → line.0 < line_count plan
line-within plan inputs known element items rest line are is leads =
    (taken-line plan inputs (receiver_of plan line.0) line.0 are
    (leads-less plan (taken_in_list inputs) known element rest line (taken-own plan inputs are) (subst (LeadsToKnown plan (taken_in_list inputs) known element) is leads)).1).has

-- an element takes one line
pub known-next : (plan : Topology) (taken : Taken) (known : List (Option Ending)) (element line other : ℕ) → taken element ≡ Some (line_input line)
    → IsKnown known (sender_of plan line) → taken element ≡ Some (line_input other) → IsKnown known (sender_of plan other)
known-next plan taken known element line other takes is takes_other =
    subst (λ l. IsKnown known (sender_of plan l)) (line_input-same line other (same_Some (line_input line) (line_input other) (sym takes ∙ takes_other))) is

-- one element of a loop more is noted
pub note-step : (plan : Topology) (inputs : List (Option InputId)) (n line k element at to : ℕ) (before after : List (Option Ending)) → IsWellFormed plan → AreTaken plan inputs
    → taken_in_list inputs element ≡ Some (line_input line) → ComesBack plan (taken_in_list inputs) n line → k < n → at < length plan.elements
    → ((l : ℕ) → taken_in_list inputs at ≡ Some (line_input l) → to ≡ sender_of plan l)
    → AreNoted plan (taken_in_list inputs) line k before after × (at ≡ receiver_of plan (line_before plan (taken_in_list inputs) k line))
    → AreNoted plan (taken_in_list inputs) line (k + 1) before (slice_set after at (Some (record { lines = n; end = end_as.Loop at })))
    × (to ≡ receiver_of plan (line_before plan (taken_in_list inputs) (k + 1) line))
note-step plan inputs n line k element at to before after well are takes comes few within from was =
    let taken : Taken = taken_in_list inputs in
    let own = taken-own plan inputs are in
    let first : taken (receiver_of plan line) ≡ Some (line_input line) = ap taken (own element line takes) ∙ takes in
    let here : ℕ = line_before plan taken k line in
    let ends : EndsSo plan taken at (record { lines = n; end = end_as.Loop at }) =
    subst (λ e. EndsSo plan taken e (record { lines = n; end = end_as.Loop e })) (sym was.1)
    (loop-ends-so plan inputs n here well are (rotated plan taken n line k comes) (loop-takes plan taken n line k own comes first (omega (arith, few)))) in (
      noted-more plan taken line k at (record { lines = n; end = end_as.Loop at }) before after within was.1 ends was.0,
      round-next plan taken n line own comes k at to first few was.1 from,
    )

pub note-over : (plan : Topology) (inputs : List (Option InputId)) (n line k element : ℕ) (before after : List (Option Ending)) → AreTaken plan inputs
    → taken_in_list inputs element ≡ Some (line_input line) → ComesBack plan (taken_in_list inputs) n line → k ≡ n
    → AreKnown plan (taken_in_list inputs) before → AreNoted plan (taken_in_list inputs) line k before after
    → IsMoreKnown plan (taken_in_list inputs) before after × IsKnown after element
note-over plan inputs n line k element before after are takes comes whole known noted =
    let taken : Taken = taken_in_list inputs in
    let own = taken-own plan inputs are in
    let to : receiver_of plan line ≡ element = own element line takes in (
      noted-all plan taken n line before after own comes (ap taken to ∙ takes) known (subst (λ i. AreNoted plan taken line i before after) whole noted),
      subst (IsKnown after) to (noted.noted 0 (let some = comes.some in omega (arith, whole, some))),
    )

-- what is known of all
pub each-known : (endings : List Ending) (known : List (Option Ending)) (element : ℕ) (ending : Ending) → map Some endings ≡ known → slice_get endings element ≡ Some ending
    → known_at known element ≡ Some ending
each-known endings known element ending is at = ap (λ xs. known_at xs element) (sym is) ∙ there endings element at
  where
    there : (xs : List Ending) (i : ℕ) → slice_get xs i ≡ Some ending → known_at (map Some xs) i ≡ Some ending
    there [] i none = absurd (none-some ending none)
    there (x ∷ xs) zero here = here
    there (x ∷ xs) (suc i) later = there xs i later

pub each-ends : (plan : Topology) (taken : Taken) (endings : List Ending) (known : List (Option Ending)) → AreKnown plan taken known → map Some endings ≡ known
    → (element : ℕ) (ending : Ending) → slice_get endings element ≡ Some ending → EndsSo plan taken element ending
each-ends plan taken endings known are is element ending at =
    subst (λ (o : Option Ending). IfSome o (EndsSo plan taken element)) (each-known endings known element ending is at) (are.holds element)

pub find-known : (endings : List Ending) (known : List (Option Ending)) (element : ℕ) (ending : Ending) → map Some endings ≡ known → known_at known element ≡ Some ending
    → slice_get endings element ≡ Some ending
find-known endings known element ending is at = there endings element (ap (λ xs. known_at xs element) is ∙ at)
  where
    there : (xs : List Ending) (i : ℕ) → known_at (map Some xs) i ≡ Some ending → slice_get xs i ≡ Some ending
    there [] i none = absurd (none-some ending none)
    there (x ∷ xs) zero here = here
    there (x ∷ xs) (suc i) later = there xs i later

-- all are known
all-given : (known : List (Option Ending)) → ((k : ℕ) → k < length known → IsKnown known k) → (endings : List Ending) × (map Some endings ≡ known)
all-given [] all = ([], refl)
all-given (None ∷ known) all = absurd (true≢false (sym (all 0 (omega arith))))
all-given (Some ending ∷ known) all =
    let rest = all-given known (λ k within. all (suc k) (omega (arith, within))) in
    (ending ∷ rest.0, ap (λ xs. Some ending ∷ xs) rest.1)

pub all-found : (plan : Topology) (taken : Taken) (known : List (Option Ending)) → AreKnown plan taken known → ((k : ℕ) → k < length plan.elements → IsKnown known k) → AreFound plan taken known
all-found plan taken known are all =
    let given = all-given known (λ k within. all k (let count = are.count in omega (arith, within, count))) in
    record {
      endings = given.0;
      is = given.1;
      are = record {
        count = sym (length-map given.0 Some) ∙ ap length given.1 ∙ are.count;
        each = each-ends plan taken given.0 known are given.1;
      };
    }

pub found-each : (plan : Topology) (taken : Taken) (known : List (Option Ending)) (endings : List Ending) → AreFound plan taken known → map Some endings ≡ known
    → (element : ℕ) (ending : Ending) → slice_get endings element ≡ Some ending → EndsSo plan taken element ending
found-each plan taken known endings found is element ending at =
    found.are.each element ending (find-known found.endings known element ending found.is (each-known endings known element ending is at))

pub found-known : (plan : Topology) (taken : Taken) (known : List (Option Ending)) → AreFound plan taken known → (k : ℕ) → k < length known → IsKnown known k
found-known plan taken known found k within =
    subst (λ xs. IsKnown xs k) found.is (there found.endings k (let count = length-map found.endings Some in let same = ap length found.is in omega (arith, within, count, same)))
  where
    there : (xs : List Ending) (i : ℕ) → i < length xs → IsKnown (map Some xs) i
    there [] i none = absurd (omega (arith, none))
    there (x ∷ xs) zero inside = refl
    there (x ∷ xs) (suc i) inside = there xs i (omega (arith, inside))

pub found-count : (plan : Topology) (taken : Taken) (known : List (Option Ending)) (endings : List Ending) → AreFound plan taken known → map Some endings ≡ known
    → length endings ≡ length plan.elements
found-count plan taken known endings found is =
    sym (length-map endings Some) ∙ ap length (is ∙ sym found.is) ∙ length-map found.endings Some ∙ found.are.count

-- an element that takes no line
pub over-here : (plan : Topology) (taken : Taken) (element : ℕ) (end : End) (next : Next) → next ≡ next_of (taken element) element → next ≡ Over end
    → EndsSo plan taken element (record { lines = 0; end = end })
over-here plan taken element end next is over =
    ([], refl, ends-over plan taken [] element [] [] element end next (trace-begins plan taken [] element [] (λ k. (λ met. absurd (true≢false (sym met)), λ one. absurd one))) refl is over)

pub over-none : (taken : Taken) (element line : ℕ) (end : End) (next : Next) → next ≡ next_of (taken element) element → next ≡ Over end → taken element ≡ Some (line_input line) → ⊥
over-none taken element line end next is over takes = never (record { 0 = line }) (sym (is ∙ ap (λ o. next_of o element) takes) ∙ over)
  where
    never : (l : LineId) → On l ≡ Over end → ⊥
    never l same = cc
