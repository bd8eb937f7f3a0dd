-- The greatest rank after one more input.
use Rattle.std.proofs.Common.{◌≡◌, ℕ, ◌+◌, ◌<◌, ◌≤◌, List, Some, sym, ap, ◌∙◌, inl, inr, arith, refl}
use Rattle.std.specs.Prelude.{◌⊎◌}
use Rattle.std.proofs.lemmas.Bool.{cases_lt}
use Rattle.std.proofs.lemmas.Option.{same_Some}
use Rattle.sync_topo.specs.Topology.{Topology}
use Rattle.sync_topo.specs.declared.input.InputId.{InputId}
use Rattle.sync_topo.specs.declared.returns.ReturnRule.{ReturnRule}
use Rattle.rank_cert.specs.Ranks.{Ranks, rank_at}
use Rattle.cycle_plan.specs.declared.greatest.Greatest.{Greatest}
use Rattle.cycle_plan.specs.private.Greatest.{no_greatest, raised_greatest}
use Rattle.cycle_plan.specs.private.Numbers.{number_in}
use Rattle.cycle_plan.specs.private.Inputs.{line_at}
use Rattle.cycle_plan.specs.private.Tops.{IsRankedAt, IsTop}
use Rattle.cycle_plan.proofs.GreatestLaws.{IsGreatestWay-none, IsGreatestWay-same, IsGreatestWay-raised}

module _ (returns : ReturnRule) (plan : Topology) (ranks : Ranks) (inputs : List InputId) where
  -- what stands among the first n inputs stands among one more
  one_more : (n number next : ℕ) → IsRankedAt returns plan ranks inputs n number next → IsRankedAt returns plan ranks inputs (n + 1) number next
  one_more n number next stands = record {
    line = stands.line;
    rank = stands.rank;
    place = stands.place;
    low = omega (arith, stands.low);
    here = stands.here;
    ranked = stands.ranked;
    number_is = stands.number_is;
    next_is = stands.next_is;
  }

  -- what stands among n + 1 inputs stands among n, or at place n
  one_less : (n number next : ℕ) (stands : IsRankedAt returns plan ranks inputs (n + 1) number next)
      → IsRankedAt returns plan ranks inputs n number next ⊎ (line_at inputs n ≡ Some stands.line)
  one_less n number next stands = elim (cases_lt stands.place n) [
    | inl before ↦ inl (record {
      line = stands.line;
      rank = stands.rank;
      place = stands.place;
      low = before;
      here = stands.here;
      ranked = stands.ranked;
      number_is = stands.number_is;
      next_is = stands.next_is;
    })
    | inr not_before ↦
        let same : n ≡ stands.place = omega (arith, stands.low, not_before) in
        inr (ap (λ i. line_at inputs i) same ∙ stands.here)
  ]

  pub IsTop-none : IsTop returns plan ranks inputs 0 no_greatest
  IsTop-none = IsGreatestWay-none (IsRankedAt returns plan ranks inputs 0) (λ number next stands. let low = stands.low in absurd (omega (arith, low)))

  -- an input without a rank changes nothing
  pub IsTop-same : (n : ℕ) (top : Greatest) → ((line rank : ℕ) → line_at inputs n ≡ Some line → rank_at ranks line ≡ Some rank → ⊥)
      → IsTop returns plan ranks inputs n top → IsTop returns plan ranks inputs (n + 1) top
  IsTop-same n top unranked =
      IsGreatestWay-same (IsRankedAt returns plan ranks inputs n) (IsRankedAt returns plan ranks inputs (n + 1)) top (one_more n)
      (λ number next stands. elim (one_less n number next stands) [
        | inl inside ↦ inside
        | inr last ↦ absurd (unranked stands.line stands.rank last stands.ranked)
      ])

  -- a line with a rank
  pub IsTop-raised : (n : ℕ) (top : Greatest) (line rank : ℕ) → line_at inputs n ≡ Some line → rank_at ranks line ≡ Some rank
      → IsTop returns plan ranks inputs n top → IsTop returns plan ranks inputs (n + 1) (raised_greatest top (number_in returns plan line) (rank + 1))
  IsTop-raised n top line rank here ranked =
      IsGreatestWay-raised (IsRankedAt returns plan ranks inputs n) (IsRankedAt returns plan ranks inputs (n + 1)) top (number_in returns plan line) (rank + 1)
      (record { line = line; rank = rank; place = n; low = omega arith; here = here; ranked = ranked; number_is = refl; next_is = refl })
      (one_more n) old_or_new
    where
      old_or_new : (number next : ℕ) → IsRankedAt returns plan ranks inputs (n + 1) number next
          → IsRankedAt returns plan ranks inputs n number next ⊎ ((number_in returns plan line ≡ number) × (next ≤ rank + 1))
      old_or_new number next stands = elim (one_less n number next stands) [
        | inl inside ↦ inl inside
        | inr last ↦
            let lines : line ≡ stands.line = same_Some line stands.line (sym here ∙ last) in
            let same : rank ≡ stands.rank = same_Some rank stands.rank (sym ranked ∙ ap (λ l. rank_at ranks l) lines ∙ stands.ranked) in
            inr (ap (λ l. number_in returns plan l) lines ∙ stands.number_is, omega (arith, same, stands.next_is))
      ]
