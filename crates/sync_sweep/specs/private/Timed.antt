-- Private to this crate: what serves to time the cases that begin at a network.
use Rattle.std.specs.Prelude.{◌≡◌}
use Rattle.closed_walks.specs.Taking.{taken_in_list}
use Rattle.sync_net.specs.NetState.{NetState}
use Rattle.settle_trace.specs.Taking.{AreTaking}
use Rattle.sync_sweep.specs.declared.timed.Timed.{Timed}
use Rattle.timings.specs.Timing.{IsTiming}

pub record IsTimed (net : NetState) (timed : Timed) : Type 0 where
  pub taken : AreTaking net timed.taken.items
  pub same : timed.now.items ≡ timed.taken.items
  pub timing : IsTiming net.plan (taken_in_list timed.taken.items) timed.timing
