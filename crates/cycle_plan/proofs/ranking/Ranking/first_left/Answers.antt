use Rattle.std.proofs.Common.{◌≡◌, ◌<◌, false, refl, sym, subst, ◌∙◌, inl, inr, arith}
use Rattle.std.specs.Prelude.{◌&&◌, is_none}
use Rattle.std.proofs.lemmas.Bool.{cases_lt, true≢false, and_from}
use Rattle.sync_topo.specs.Lines.{is_nominated, line_count}
use Rattle.sync_topo.proofs.LineLaws.{IsNominated-within}
use Rattle.rank_cert.specs.Ranks.{rank_at}
use Rattle.cycle_plan.proofs.Before.{lowest_left, left_from}
use Rattle.cycle_plan.proofs.ranking.Ranking.first_left.Goals as goal

pub returns-then-lacks_rank-clause-lowest : goal.returns-then-lacks_rank-clause-lowest
returns-then-lacks_rank-clause-lowest c =
    lowest_left c.args.returns c.args.plan.now c.args.self.now.ranks c.loop-number.number c.requires.peeled
    (left_from c.args.plan.now c.args.self.now.ranks c.loop-number.number (sym c.if-lacks_rank.ensures))
    (λ other left. elim (cases_lt other c.loop-number.number) [
      | inl before ↦
          absurd (true≢false (sym (and_from (is_nominated c.args.plan.now other) (is_none (rank_at c.args.self.now.ranks other)) left.nominated (rw left.unranked refl))
          ∙ c.loop-number.invariant other before))
      | inr not_before ↦ not_before
    ])

pub loop-number-preserved : goal.loop-number-preserved
loop-number-preserved c = λ line low. elim (cases_lt line c.loop-number.number) [
  | inl before ↦ c.loop-number.invariant line before
  | inr last ↦
      let same : line ≡ c.loop-number.number = omega (arith, low, last) in
      subst (λ l. (is_nominated c.args.plan.now l && is_none (rank_at c.args.self.now.ranks l)) ≡ false) (sym same) (sym c.if-lacks_rank.ensures)
]

pub returns-clause-none : goal.returns-clause-none
returns-clause-none c = λ _ line nominated none.
    let within : line < line_count c.args.plan.now = IsNominated-within c.args.plan.now line nominated in
    let before : line < c.loop-number.number = omega (arith, within, c.lines-number-end.ensures.count, c.loop-number-test.false) in
    true≢false (sym (and_from (is_nominated c.args.plan.now line) (is_none (rank_at c.args.self.now.ranks line)) nominated (rw none refl)) ∙ c.loop-number.invariant line before)
