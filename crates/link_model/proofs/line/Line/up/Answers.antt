use Rattle.std.proofs.Common.{ap}
use Rattle.link_model.specs.StandsFor.{StandsFor}
use Rattle.link_model.proofs.line.Line.up.Goals as goal

pub returns : goal.returns
unfolding StandsFor
returns c = rw (← c.self.view_is) (λ past stands. ap (λ now. now.up) stands.kept.now)
