use Rattle.std.proofs.Common.{sym, subst}
use Rattle.std.specs.Prelude.{IfOk}
use Rattle.node_replay.specs.ReplayState.{ReplayState, StandsFor}
use Rattle.node_replay.specs.Replayed.{IsReplayed}
use Rattle.node_replay.proofs.replaying.Replay.finish.Goals as goal

pub returns : goal.returns
unfolding StandsFor
returns c = record {
  replayed = λ rows is.
      subst (λ (s : ReplayState). IfOk c.finish.result (IsReplayed s.plan s.element s.until rows)) c.replay.view_is
      (c.finish.ensures.replayed rows (subst (λ (s : ReplayState). StandsFor s rows) (sym c.replay.view_is) is));
}
