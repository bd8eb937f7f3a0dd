use Rattle.std.proofs.Common.{map, ap, ◌∙◌}
use Rattle.link_model.specs.Spoken.{message_of}
use Rattle.link_model.specs.StandsFor.{StandsFor, AreOfOption}
use Rattle.link_model.specs.Whole.{next_of, kept_in}
use Rattle.link_model.proofs.Dues.{few-words, option-words, carried-words}
use Rattle.link_model.proofs.line.Line.on_way.Goals as goal

pub returns-clause-few : goal.returns-clause-few
returns-clause-few c =
    rw (← c.self.view_is, c.as_slice.ensures)
    (few-words c.self.inside.delay (next_of c.self.inside.turn) c.self.inside.words.arrived c.self.inside.words.on_way.items c.self.invariant.ordered)

pub returns-clause-options : goal.returns-clause-options
unfolding AreOfOption
returns-clause-options c =
    rw (← c.self.view_is, c.as_slice.ensures)
    (λ option are k d within. option-words option c.self.inside.words.arrived c.self.inside.words.on_way.items are k d within)

pub returns-clause-on_way : goal.returns-clause-on_way
unfolding StandsFor
returns-clause-on_way c =
    rw (← c.self.view_is)
    (λ past stands. ap (map message_of) c.as_slice.ensures ∙ stands.kept.on_way)

pub returns-clause-carried : goal.returns-clause-carried
unfolding StandsFor
returns-clause-carried c =
    rw (← c.self.view_is)
    (λ past k level stands late delivered. carried-words c.self.inside.delay c.self.inside.turn (kept_in c.self.inside) past k level c.self.invariant stands late delivered)
