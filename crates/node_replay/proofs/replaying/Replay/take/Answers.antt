use Rattle.std.proofs.Common.{[], ◌∷◌, ◌++◌, sym, subst}
use Rattle.node_replay.specs.Rows.{IsRowList}
use Rattle.node_replay.specs.ReplayState.{ReplayState, StandsFor}
use Rattle.node_replay.proofs.replaying.Replay.take.Goals as goal

pub returns-clause-stands : goal.returns-clause-stands
unfolding StandsFor
returns-clause-stands c = λ rows is list.
    c.in_ok-take.ensures.stands rows
    (subst (λ (s : ReplayState). StandsFor s rows) (sym c.self.view_is) is)
    (subst (λ (s : ReplayState). IsRowList s.plan s.element (rows ++ c.args.row ∷ [])) (sym c.self.view_is) list)
