use Rattle.std.proofs.Common.{◌≤◌, arith}
use Rattle.sync_topo.specs.Lines.{line_count}
use Rattle.rank_cert.proofs.RankLaws.{IsFirstBelow-more, IsRising-from, IsFirstFall-from}
use Rattle.rank_cert.proofs.rising.check_with.Goals as goal

pub loop-number-preserved : goal.loop-number-preserved
loop-number-preserved c =
    rw c.earlier-first.ensures
    (IsFirstBelow-more c.args.returns c.args.plan.now c.args.cert.now c.loop-number.first c.first_to.result (record { 0 = c.loop-number.number }) c.loop-number.invariant c.first_to.ensures)

pub returns-in-Some : goal.returns-in-Some
returns-in-Some c = record {
  verdict =
      let all : line_count c.args.plan.now ≤ c.loop-number.number = omega (arith, c.lines-number-end.ensures.count) in
      IsFirstFall-from c.args.returns c.args.plan.now c.args.cert.now c.loop-number.number c.in-Some.line c.in-Some.next all (rw c.in-Some.is at c.loop-number.invariant);
}

pub returns-in-None : goal.returns-in-None
returns-in-None c = record {
  verdict =
      let all : line_count c.args.plan.now ≤ c.loop-number.number = omega (arith, c.lines-number-end.ensures.count) in
      IsRising-from c.args.returns c.args.plan.now c.args.cert.now c.loop-number.number all (rw c.in-None.is at c.loop-number.invariant);
}
