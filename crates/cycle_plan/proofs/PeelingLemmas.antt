-- How things stand after one more line is ranked.
use Rattle.std.proofs.Common.{◌≡◌, ℕ, ◌+◌, ◌<◌, false, List, [], ◌∷◌, ◌++◌, length, get_or, Option, Some, None, refl, sym, ap, subst, ◌∙◌, inl, inr, arith, length-append}
use Rattle.std.specs.Prelude.{◌≢◌, slice_get, slice_set, is_none, if◌then◌else◌}
use Rattle.std.specs.Option.{option_map_or, option_flatten}
use Rattle.std.specs.List.{Contains}
use Rattle.std.proofs.lemmas.Bool.{cases_eq}
use Rattle.std.proofs.lemmas.List.Elements.{All-push, Contains-push, Contains-append_left}
use Rattle.std.proofs.lemmas.List.Sums.{sum_by-set, count_by-le-length}
use Rattle.std.proofs.lemmas.Option.{none-some, same_Some, slice_get-get_or}
use Rattle.rank_cert.proofs.RuleLaws.{some-rank}
use Rattle.sync_topo.specs.Topology.{Topology}
use Rattle.sync_topo.specs.Ranks.{HopTest}
use Rattle.sync_topo.specs.Lines.{line_count, line_id, IsNominated, receiver_of, sender_of, inputs_of}
use Rattle.rank_cert.specs.Ranks.{Ranks, rank_at}
use Rattle.sync_topo.specs.declared.input.InputId.{InputId}
use Rattle.sync_topo.specs.declared.returns.ReturnRule.{ReturnRule}
use Rattle.sync_topo.specs.Hops.{HopsBy, hops_by}
use Rattle.cycle_plan.specs.private.Inputs.{line_at, is_open, IsOpenLine, AreOpenInputs}
use Rattle.cycle_plan.specs.private.Peeling.{IsOpenInto, IsNext, left_over, IsRanking, IsPeeling, IsMore}
use Rattle.cycle_plan.specs.declared.inputs.OpenInputs.{OpenInputs}
use Rattle.cycle_plan.specs.declared.ranking.Ranking.{Ranking}
use Rattle.cycle_plan.proofs.HopFacts.{hop_parts}
use Rattle.cycle_plan.proofs.OrderLemmas.{IsOrder-given}

-- no rank is lost or changed
abbrev pub Grows : (ℕ → Option ℕ) → (ℕ → Option ℕ) → Type 0
Grows before after = (line rank : ℕ) → before line ≡ Some rank → after line ≡ Some rank

-- a line without a rank had none
pub fewer : (before after : ℕ → Option ℕ) → Grows before after → (line : ℕ) → after line ≡ None → before line ≡ None
fewer before after grows line none = cases (before line) refl
  where
    cases : (o : Option ℕ) → before line ≡ o → o ≡ None
    cases None e = refl
    cases (Some rank) e = absurd (none-some rank (sym none ∙ grows line rank e))

-- a rank that is next stays so
pub IsNext-grows : (hop : HopTest) (before after : ℕ → Option ℕ) (line rank : ℕ) → Grows before after → IsNext hop before line rank → IsNext hop after line rank
IsNext-grows hop before after line rank grows next = record {
  above = λ from hops. let lower = next.above from hops in (lower.0, grows from lower.0 lower.1, lower.2);
  reached = elim next.reached [
    | inl none ↦ inl none
    | inr some ↦ inr (some.0, some.1, some.2, grows some.0 some.1 some.3, some.4)
  ];
}

-- 1 where there is no rank
abbrev gap : Option ℕ → ℕ
gap o = if is_none o then 1 else 0

-- one line less is left over
left_over-set : (ranks : Ranks) (line rank : ℕ) → line < length ranks → rank_at ranks line ≡ None → left_over (slice_set ranks line (Some rank)) + 1 ≡ left_over ranks
left_over-set ranks line rank inside none =
    let at : slice_get ranks line ≡ Some (get_or ranks line None) = slice_get-get_or ranks line None inside in
    let is : get_or ranks line None ≡ None = sym (ap (λ o. option_flatten o) at) ∙ none in
    let counts = sum_by-set gap ranks line (Some rank) None inside in
    let one : gap (get_or ranks line None) ≡ 1 = rw is refl in
    omega (arith, counts, one)

-- an input that isn't open stays so
closed-grows : (before after : Ranks) (inputs : List InputId) (place : ℕ) → Grows (rank_at before) (rank_at after)
    → is_open before inputs place ≡ false → is_open after inputs place ≡ false
closed-grows before after inputs place grows closed = cases (line_at inputs place) closed
  where
    cases : (o : Option ℕ) → option_map_or (λ line. is_none (rank_at before line)) o false ≡ false
        → option_map_or (λ line. is_none (rank_at after line)) o false ≡ false
    cases None e = refl
    cases (Some line) e =
        let some = some-rank (rank_at before line) e in rw (grows line some.0 some.1) refl

-- a line without a rank had none
open-grows : (before after : Ranks) (inputs : List InputId) (place line : ℕ) → Grows (rank_at before) (rank_at after) → IsOpenLine after inputs place line
    → IsOpenLine before inputs place line
open-grows before after inputs place line grows stands =
    record { here = stands.here; unranked = fewer (rank_at before) (rank_at after) grows line stands.unranked }

pub IsOpenInto-grows : (plan : Topology) (before after : Ranks) (element line : ℕ) → Grows (rank_at before) (rank_at after) → IsOpenInto plan after element line
    → IsOpenInto plan before element line
IsOpenInto-grows plan before after element line grows stands =
    record { nominated = stands.nominated; into = stands.into; unranked = fewer (rank_at before) (rank_at after) grows line stands.unranked }

AreOpenInputs-grows : (returns : ReturnRule) (plan : Topology) (before after : Ranks) (inputs : List InputId) (watch : OpenInputs) → Grows (rank_at before) (rank_at after)
    → AreOpenInputs returns plan before inputs watch → AreOpenInputs returns plan after inputs watch
AreOpenInputs-grows returns plan before after inputs watch grows watched = record {
  first_within = watched.first_within;
  second_within = watched.second_within;
  before = λ place low. closed-grows before after inputs place grows (watched.before place low);
  between = λ place other line next from_first low other_from other_low here there.
      watched.between place other line next from_first low other_from other_low
      (open-grows before after inputs place line grows here) (open-grows before after inputs other next grows there);
}

-- a line of this number gets this rank
pub record IsGiven (plan : Topology) (before after : Ranks) (line rank : ℕ) : Type 0 where
  pub set : after ≡ slice_set before line (Some rank)
  pub counted : length after ≡ length before
  pub here : rank_at after line ≡ Some rank
  pub others : (other : ℕ) → other ≢ line → rank_at after other ≡ rank_at before other

Grows-given : (plan : Topology) (before after : Ranks) (line rank : ℕ) → rank_at before line ≡ None → IsGiven plan before after line rank
    → Grows (rank_at before) (rank_at after)
Grows-given plan before after line rank none given other lower ranked = elim (cases_eq other line) [
  | inl same ↦ absurd (none-some lower (sym none ∙ ap (λ l. rank_at before l) (sym same) ∙ ranked))
  | inr differs ↦ given.others other differs ∙ ranked
]

-- a rank is below what is left of the lines
below-given : (returns : ReturnRule) (plan : Topology) (before : Ranks) (line rank left : ℕ) → IsRanking returns plan before → IsNext (hops_by returns plan) (rank_at before) line rank
    → left + 1 ≡ left_over before → rank + left < line_count plan
below-given returns plan before line rank left ranking next less = elim next.reached [
  | inl zero_rank ↦ let all = count_by-le-length is_none before in omega (arith, zero_rank, all, less, ranking.counted)
  | inr some ↦ let low = ranking.below some.0 some.1 some.3 in omega (arith, some.4, low, less)
]

IsRanking-given : (returns : ReturnRule) (plan : Topology) (before after : Ranks) (line rank : ℕ) → IsRanking returns plan before → IsNominated plan line → line < line_count plan
    → rank_at before line ≡ None → IsNext (hops_by returns plan) (rank_at before) line rank → IsGiven plan before after line rank → IsRanking returns plan after
IsRanking-given returns plan before after line rank ranking nominated within none next given =
    let grows = Grows-given plan before after line rank none given in
    let less : left_over after + 1 ≡ left_over before =
    rw given.set (left_over-set before line rank (rw ranking.counted within) none) in
    record {
      counted = given.counted ∙ ranking.counted;
      exact = λ other lower ranked. elim (cases_eq other line) [
        | inl same ↦
            let rank_is : rank ≡ lower = same_Some rank lower (sym given.here ∙ ap (λ l. rank_at after l) (sym same) ∙ ranked) in
            subst (λ l. IsNext (hops_by returns plan) (rank_at after) l lower) (sym same)
            (subst (λ r. IsNext (hops_by returns plan) (rank_at after) line r) rank_is (IsNext-grows (hops_by returns plan) (rank_at before) (rank_at after) line rank grows next))
        | inr differs ↦
            IsNext-grows (hops_by returns plan) (rank_at before) (rank_at after) other lower grows
            (ranking.exact other lower (sym (given.others other differs) ∙ ranked))
      ];
      only = λ other lower ranked. elim (cases_eq other line) [
        | inl same ↦ subst (λ l. IsNominated plan l) (sym same) nominated
        | inr differs ↦ ranking.only other lower (sym (given.others other differs) ∙ ranked)
      ];
      below = λ other lower ranked. elim (cases_eq other line) [
        | inl same ↦
            let rank_is : rank ≡ lower = same_Some rank lower (sym given.here ∙ ap (λ l. rank_at after l) (sym same) ∙ ranked) in
            let low = below-given returns plan before line rank (left_over after) ranking next less in
            omega (arith, rank_is, low)
        | inr differs ↦
            let low = ranking.below other lower (sym (given.others other differs) ∙ ranked) in omega (arith, low, less)
      ];
    }

-- one more line is ranked, and its receiver waits
pub IsMore-given : (returns : ReturnRule) (plan : Topology) (before after : Ranking) (line rank : ℕ) → IsPeeling returns plan before → IsNominated plan line → line < line_count plan
    → rank_at before.ranks line ≡ None → IsNext (hops_by returns plan) (rank_at before.ranks) line rank → IsGiven plan before.ranks after.ranks line rank
    → receiver_of plan line < length plan.elements → after.waiting.items ≡ before.waiting.items ++ receiver_of plan line ∷ [] → after.watches ≡ before.watches
    → after.order.items ≡ before.order.items ++ line_id line ∷ [] → IsMore returns plan before after
IsMore-given returns plan before after line rank peeling nominated within none next given receiver waiting watches order =
    let grows = Grows-given plan before.ranks after.ranks line rank none given in
    let less : left_over after.ranks + 1 ≡ left_over before.ranks =
    rw given.set (left_over-set before.ranks line rank (rw peeling.ranked.counted within) none) in
    record {
      peeling = record {
        ranked = IsRanking-given returns plan before.ranks after.ranks line rank peeling.ranked nominated within none next given;
        watches = rw watches peeling.watches;
        watched = λ element watch there.
            let was = peeling.watched element watch (subst (λ w. slice_get w.items element ≡ Some watch) watches there) in
            record {
              watched = AreOpenInputs-grows returns plan before.ranks after.ranks (inputs_of plan element) watch grows was.watched;
              back = λ is_back other from other_nominated sent stands bundles left.
                  was.back is_back other from other_nominated sent (IsOpenInto-grows plan before.ranks after.ranks element from grows stands) bundles
                  (fewer (rank_at before.ranks) (rank_at after.ranks) grows other left);
              done = λ is_done other other_nominated sent left. was.done is_done other other_nominated sent (fewer (rank_at before.ranks) (rank_at after.ranks) grows other left);
            };
        waiting = rw waiting (All-push (λ e. e < length plan.elements) before.waiting.items (receiver_of plan line) peeling.waiting receiver);
        ordered = rw order (IsOrder-given returns plan before.ranks after.ranks before.order.items (line_id line) rank peeling.ordered nominated less next given.others);
      };
      grows = grows;
      keeps = λ other kept. elim kept [
        | inl held ↦ elim (cases_eq held.0 line) [
          | inl same ↦
              let meets : receiver_of plan line ≡ sender_of plan other = (hop_parts returns plan line other (subst (λ l. HopsBy returns plan l other) same held.1)).2 in
              inr (rw waiting (subst (λ e. Contains (before.waiting.items ++ receiver_of plan line ∷ []) e) meets (Contains-push before.waiting.items (receiver_of plan line))))
          | inr differs ↦ inl (held.0, held.1, given.others held.0 differs ∙ held.2)
        ]
        | inr waits ↦ inr (rw waiting (Contains-append_left before.waiting.items (receiver_of plan line ∷ []) (sender_of plan other) waits))
      ];
      work = rw waiting (omega (arith, less, length-append before.waiting.items (receiver_of plan line ∷ [])));
    }
