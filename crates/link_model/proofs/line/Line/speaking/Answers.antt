use Rattle.std.proofs.Common.{◌&&◌, ap, sym, ◌∙◌}
use Rattle.link_model.specs.StandsFor.{StandsFor}
use Rattle.link_model.proofs.line.Line.speaking.Goals as goal

pub returns-then-self : goal.returns-then-self
unfolding StandsFor
returns-then-self c =
    rw (← c.self.view_is)
    (λ past stands. sym (ap (λ up. up && c.self.inside.esmc) c.if-self.true) ∙ ap (λ now. now.up && now.esmc) stands.kept.now)

pub returns-else-self : goal.returns-else-self
unfolding StandsFor
returns-else-self c =
    rw (← c.self.view_is)
    (λ past stands. c.if-self.false ∙ sym (ap (λ up. up && c.self.inside.esmc) c.if-self.false) ∙ ap (λ now. now.up && now.esmc) stands.kept.now)
