-- The order in which lines get their ranks: one line more.
use Rattle.std.proofs.Common.{◌≡◌, ℕ, ◌+◌, ◌<◌, ◌≤◌, Option, List, [], ◌∷◌, ◌++◌, length, Some, None, refl, sym, ap, subst, ◌∙◌, inl, inr, ◌⊎◌, arith, length-append}
use Rattle.std.specs.Prelude.{is_none, replicate}
use Rattle.std.specs.Option.{option_map, option_flatten}
use Rattle.std.proofs.lemmas.Bool.{cases_lt, cases_eq}
use Rattle.std.proofs.lemmas.Option.{none-some, same_Some, slice_get_past, slice_get-get_or}
use Rattle.std.proofs.lemmas.List.{length-replicate, get_or-replicate}
use Rattle.std.proofs.lemmas.List.Sums.{count_by-le-length}
use Rattle.sync_topo.specs.declared.input.LineId.{LineId}
use Rattle.sync_topo.specs.declared.returns.ReturnRule.{ReturnRule}
use Rattle.sync_topo.specs.Topology.{Topology}
use Rattle.sync_topo.specs.Lines.{line_count, IsNominated}
use Rattle.sync_topo.specs.Hops.{HopsBy, hops_by}
use Rattle.sync_topo.proofs.Lists.{slice_get-push_before, slice_get-push_last}
use Rattle.rank_cert.specs.Ranks.{Ranks, rank_at}
use Rattle.cycle_plan.specs.private.Peeling.{IsNext, left_over, line_in, IsAmongFirst, IsOrder}

abbrev number : LineId → ℕ
number line = line.0

line_in-before : (order : List LineId) (line : LineId) (place : ℕ) → place < length order → line_in (order ++ line ∷ []) place ≡ line_in order place
line_in-before order line place early = ap (λ o. option_map number o) (slice_get-push_before order line place early)

line_in-last : (order : List LineId) (line : LineId) (place : ℕ) → place ≡ length order → line_in (order ++ line ∷ []) place ≡ Some line.0
line_in-last order line place at = ap (λ o. option_map number o) (slice_get-push_last order line place at)

line_in-past : (order : List LineId) (place : ℕ) → length order ≤ place → line_in order place ≡ None
line_in-past order place past = ap (λ o. option_map number o) (slice_get_past order place past)

-- what stands in an order with one line more stood there before, or is that line
line_in-cases : (order : List LineId) (line : LineId) (place other : ℕ) → line_in (order ++ line ∷ []) place ≡ Some other
    → ((place < length order) × (line_in order place ≡ Some other)) ⊎ ((place ≡ length order) × (line.0 ≡ other))
line_in-cases order line place other there = elim (cases_lt place (length order)) [
  | inl early ↦ inl (early, sym (line_in-before order line place early) ∙ there)
  | inr late ↦ elim (cases_eq place (length order)) [
    | inl at ↦ inr (at, same_Some line.0 other (sym (line_in-last order line place at) ∙ there))
    | inr past ↦
        absurd (none-some other (sym (line_in-past (order ++ line ∷ []) place (omega (arith, late, past, length-append order (line ∷ [])))) ∙ there))
  ]
]

-- who stands among the first ones still does
pub first-more : (order : List LineId) (line : LineId) (n m other : ℕ) → n ≤ length order → n ≤ m → IsAmongFirst order n other
    → IsAmongFirst (order ++ line ∷ []) m other
first-more order line n m other inside more first = record {
  place = first.place;
  early = omega (arith, first.early, more);
  there = line_in-before order line first.place (omega (arith, first.early, inside)) ∙ first.there;
}

-- one line more that has a rank, to which only lines with ranks hop
pub IsOrder-given : (returns : ReturnRule) (plan : Topology) (before after : Ranks) (order : List LineId) (line : LineId) (rank : ℕ)
    → IsOrder returns plan before order → IsNominated plan line.0 → left_over after + 1 ≡ left_over before → IsNext (hops_by returns plan) (rank_at before) line.0 rank
    → ((other : ℕ) → (other ≡ line.0 → ⊥) → rank_at after other ≡ rank_at before other)
    → IsOrder returns plan after (order ++ line ∷ [])
IsOrder-given returns plan before after order line rank ordered nominated less next others = record {
  few = omega (arith, length-append order (line ∷ []), less, ordered.few);
  only = λ place other there. elim (line_in-cases order line place other there) [
    | inl stood ↦ ordered.only place other stood.1
    | inr here ↦ subst (λ l. IsNominated plan l) here.1 nominated
  ];
  each = λ other lower ranked. elim (cases_eq other line.0) [
    | inl same ↦ record {
      place = length order;
      early = omega (arith, length-append order (line ∷ []));
      there = line_in-last order line (length order) refl ∙ ap (λ l. Some l) (sym same);
    }
    | inr differs ↦
        first-more order line (length order) (length (order ++ line ∷ [])) other (omega arith) (omega (arith, length-append order (line ∷ [])))
        (ordered.each other lower (sym (others other differs) ∙ ranked))
  ];
  after = λ place other from there hop. elim (line_in-cases order line place other there) [
    | inl stood ↦ first-more order line place place from (omega (arith, stood.0)) (omega arith) (ordered.after place other from stood.1 hop)
    | inr here ↦
        let lower = next.above from (subst (λ l. HopsBy returns plan from l) (sym here.1) hop) in
        first-more order line (length order) place from (omega arith) (omega (arith, here.0)) (ordered.each from lower.0 lower.1)
  ];
}

pub no_rank : (n line : ℕ) → rank_at (replicate n None) line ≡ None
no_rank n line = elim (cases_lt line n) [
  | inl within ↦
      ap (λ o. option_flatten o)
      (slice_get-get_or (replicate n None) line None (rw (length-replicate {A = Option ℕ} n None) within) ∙ ap (λ o. Some o) (get_or-replicate {A = Option ℕ} n line None None within))
  | inr past ↦ ap (λ o. option_flatten o) (slice_get_past (replicate n None) line (rw (length-replicate {A = Option ℕ} n None) past))
]

-- without ranks nothing is ordered
pub nothing_ordered : (returns : ReturnRule) (plan : Topology) (ranks : Ranks) (order : List LineId) → ranks ≡ replicate (line_count plan) None → order ≡ [] → IsOrder returns plan ranks order
nothing_ordered returns plan ranks order unranked none = record {
  few = omega (arith, count_by-le-length is_none ranks, ap length unranked, length-replicate {A = Option ℕ} (line_count plan) None, ap length none);
  only = λ place line there. absurd (none-some line (ap (λ o. line_in o place) (sym none) ∙ there));
  each = λ line rank ranked. absurd (none-some rank (sym (ap (λ r. rank_at r line) unranked ∙ no_rank (line_count plan) line) ∙ ranked));
  after = λ place line from there hop. absurd (none-some line (ap (λ o. line_in o place) (sym none) ∙ there));
}
