use Rattle.std.proofs.Common.{sym, ◌∙◌, arith}
use Rattle.std.proofs.lemmas.Bool.{true≢false}
use Rattle.timings.proofs.TimingLemmas.{longest-more, longest-same}
use Rattle.timings.proofs.counted.longest_with.Goals as goal
use Rattle.timings.proofs.counted.longest_with.Goals.{else-has_ended-via-then-has_ended+else-longest-ending, else-has_ended-via-else-has_ended}

pub returns-then-longest-ending : goal.returns-then-longest-ending
returns-then-longest-ending c = λ front is.
    longest-more front c.args.ending.now c.args.longest (sym c.has_ended.ensures ∙ c.if-has_ended.true) (omega (arith, c.if-longest-ending.true)) is

pub returns : goal.returns
returns c = λ front is.
    longest-same front c.args.ending.now c.args.longest (λ ended. elim c.else-has_ended.branch [
      | else-has_ended-via-then-has_ended+else-longest-ending w ↦ omega (arith, w.if-longest-ending.false)
      | else-has_ended-via-else-has_ended w ↦ absurd (true≢false (sym ended ∙ sym c.has_ended.ensures ∙ w.if-has_ended.false))
    ]) is
