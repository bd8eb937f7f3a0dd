use Rattle.std.proofs.Common.{arith}
use Rattle.node_replay.proofs.Losses.{still-heard, still-lost}
use Rattle.node_replay.proofs.inputs.word_loss.Goals as goal

pub returns-then-age-lt-HEARING_TIME-clause-heard : goal.returns-then-age-lt-HEARING_TIME-clause-heard
returns-then-age-lt-HEARING_TIME-clause-heard c = λ m later early.
    still-heard c.args.word c.args.now m (omega (arith, c.saturating_sub-age.ensures, c.if-age-lt-HEARING_TIME.true)) later
    (omega (arith, c.saturating_sub-age.ensures, early))

pub returns-clause-heard : goal.returns-clause-heard
returns-clause-heard c = λ m later early.
    still-lost c.args.word c.args.now m (omega (arith, c.saturating_sub-age.ensures, c.if-age-lt-HEARING_TIME.false)) later
