use Rattle.std.proofs.Common.{◌<◌, ◌&&◌, sym, ◌∙◌, arith}
use Rattle.std.specs.Prelude.{is_none}
use Rattle.sync_text.proofs.Ranges.{find_range-next}
use Rattle.sync_topo.specs.Lines.{line_count, is_nominated}
use Rattle.rank_cert.specs.Ranks.{rank_at}
use Rattle.rank_cert.proofs.reading.first_without.Goals as goal

pub loop-number-preserved : goal.loop-number-preserved
loop-number-preserved c =
    let within : c.loop-number.number < line_count c.args.plan.now = omega (arith, c.lines-number-end.ensures.count) in
    find_range-next (λ line. is_nominated c.args.plan.now line && is_none (rank_at c.args.cert.now line)) c.loop-number.number (line_count c.args.plan.now) within
    (sym c.lacks_rank.ensures ∙ c.if-lacks_rank.false) ∙ c.loop-number.invariant
