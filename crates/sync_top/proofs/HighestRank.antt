-- The greatest of the ranks of a plan's lines is the greatest of its least ranks.
use Rattle.std.proofs.Common.{◌≡◌, ℕ, ◌<◌, ◌≤◌, zero, suc, max, Option, None, Some, refl, sym, ap, ◌∙◌, inl, inr, ◌⊎◌, arith}
use Rattle.std.specs.Prelude.{unwrap_or}
use Rattle.std.proofs.lemmas.Bool.{cases_lt, cases_Bool}
use Rattle.std.proofs.lemmas.Option.{same_Some, none-some}
use Rattle.sync_topo.specs.Topology.{Topology}
use Rattle.sync_topo.specs.Lines.{line_count, is_nominated}
use Rattle.sync_topo.specs.Hops.{hops}
use Rattle.sync_topo.specs.Ranks.{AreLeastRanks}
use Rattle.sync_topo.proofs.LineLaws.{IsNominated-within}
use Rattle.net_rules.specs.Settling.{IsRank, IsGreatest}
use Rattle.rank_cert.specs.Ranks.{Ranks, rank_at}
use Rattle.cycle_plan.proofs.Walks.{one_least}

-- the greatest rank of the first n lines, where a line without one has 0
abbrev pub highest : Ranks → ℕ → ℕ
highest ranks zero = 0
highest ranks (suc n) = max (highest ranks n) (unwrap_or (rank_at ranks n) 0)

-- no line of the first n has a greater one
none_higher : (ranks : Ranks) (n line rank : ℕ) → line < n → rank_at ranks line ≡ Some rank → rank ≤ highest ranks n
none_higher ranks zero line rank low has = absurd (omega (arith, low))
none_higher ranks (suc n) line rank low has = elim (cases_lt line n) [
  | inl less ↦ let most = none_higher ranks n line rank less has in omega (arith, most)
  | inr not_less ↦
      let here : line ≡ n = omega (arith, low, not_less) in
      let is : unwrap_or (rank_at ranks n) 0 ≡ rank = ap (λ k. unwrap_or (rank_at ranks k) 0) (sym here) ∙ ap (λ o. unwrap_or o 0) has in
      omega (arith, is)
]

-- a line has it, or it is 0
someone_has : (ranks : Ranks) (n : ℕ) → (highest ranks n ≡ 0) ⊎ ((line : ℕ) × (rank_at ranks line ≡ Some (highest ranks n)))
someone_has ranks zero = inl refl
someone_has ranks (suc n) = by (rank_at ranks n) refl (someone_has ranks n)
  where
    Had : ℕ → Type 0
    Had rank = (rank ≡ 0) ⊎ ((line : ℕ) × (rank_at ranks line ≡ Some rank))

    by : (found : Option ℕ) → rank_at ranks n ≡ found → Had (highest ranks n) → Had (max (highest ranks n) (unwrap_or found 0))
    by None is before = let same : max (highest ranks n) 0 ≡ highest ranks n = omega arith in rw same before
    by (Some rank) is before = elim (cases_lt (highest ranks n) rank) [
      | inl less ↦ let same : max (highest ranks n) rank ≡ rank = omega (arith, less) in rw same (inr (n, is))
      | inr more ↦ let same : max (highest ranks n) rank ≡ highest ranks n = omega (arith, more) in rw same before
    ]

-- over all lines of a plan with least ranks
pub greatest-highest : (plan : Topology) (ranks : Ranks) → AreLeastRanks (hops plan) (is_nominated plan) (rank_at ranks)
    → IsGreatest (IsRank plan) (highest ranks (line_count plan))
greatest-highest plan ranks least = record {
  most = λ n is.
      let mine = least.least is.line is.nominated in
      let same = one_least (hops plan) is.line mine.0 n mine.2 is.is in
      let most = none_higher ranks (line_count plan) is.line mine.0 (IsNominated-within plan is.line is.nominated) mine.1 in
      omega (arith, most, same);
  reached = elim (someone_has ranks (line_count plan)) [
    | inl none ↦ inl none
    | inr some ↦ inr (ranked some.0 (highest ranks (line_count plan)) some.1)
  ];
}
  where
    ranked : (line rank : ℕ) → rank_at ranks line ≡ Some rank → IsRank plan rank
    ranked line rank has = elim (cases_Bool (is_nominated plan line)) [
      | inl nominated ↦
          let mine = least.least line nominated in
          let same = same_Some mine.0 rank (sym mine.1 ∙ has) in
          record { line = line; nominated = nominated; is = rw (← same) mine.2 }
      | inr not_nominated ↦ absurd (none-some rank (sym (least.none line not_nominated) ∙ has))
    ]
