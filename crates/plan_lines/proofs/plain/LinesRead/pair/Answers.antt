use Rattle.std.proofs.Common.{refl, sym, subst}
use Rattle.plan_lines.specs.private.Lines.{TakesValue}
use Rattle.plan_lines.proofs.PlainSteps.{put_leads}
use Rattle.plan_lines.proofs.plain.LinesRead.pair.Goals as goal

pub returns-clause-read : goal.returns-clause-read
returns-clause-read c = λ doc follows.
    subst (λ o. TakesValue o c.args.key.now doc c.in_ok-value.rest.now c.put.new.self) (sym (c.in_ok-value.ensures.read 80))
    (refl, put_leads c.args.key.now _ c.args.self.now c.put.new.self doc c.in_ok-put.ensures follows)
