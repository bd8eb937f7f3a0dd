use Rattle.std.proofs.Common.{arith}
use Rattle.rank_cert.proofs.WrittenText.{AreWritten-more, read-back-written}
use Rattle.rank_cert.proofs.WrittenLength.{written-short}
use Rattle.rank_cert.proofs.writing.write_cert.Goals as goal

pub loop-number-preserved : goal.loop-number-preserved
loop-number-preserved c =
    AreWritten-more c.args.plan.now c.args.cert.now c.loop-number.number c.loop-number.text _ c.requires.ranked c.requires.no_other c.loop-number.invariant c.in_ok-put_line.ensures.put c.in_ok-put_line.ensures.fits

pub returns-clause-read_back : goal.returns-clause-read_back
returns-clause-read_back c =
    read-back-written c.args.plan.now c.args.cert.now c.loop-number.number c.loop-number.text c.lines-number-end.ensures.well_formed c.requires.ranked c.requires.no_other
    (omega (arith, c.lines-number-end.ensures.count, c.loop-number-test.false)) (omega (arith, c.lines-number-end.ensures.count, c.loop-number.auto.number-end)) c.loop-number.invariant

pub returns-clause-short : goal.returns-clause-short
returns-clause-short c =
    written-short c.args.plan.now c.args.cert.now c.loop-number.number c.loop-number.text c.lines-number-end.ensures.well_formed c.requires.ranked
    (omega (arith, c.lines-number-end.ensures.count, c.loop-number.auto.number-end)) c.loop-number.invariant
