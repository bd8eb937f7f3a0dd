-- Beside specs/EventTimes.antt, under no public clause: the events at a millisecond.
use Rattle.std.specs.Prelude.{◌≡◌, ◌<◌, ℕ, suc, List}
use Rattle.sync_topo.specs.declared.event.Event.{Event}
use Rattle.net_rules.specs.Signals.{events_at}
use Rattle.event_times.specs.EventTimes.{AreBetween}

-- the events at a millisecond, and the later ones
pub record AreParted (now until : ℕ) (events told later : List Event) : Type 0 where
  pub here : events_at now events ≡ told
  pub rest : (t : ℕ) → now < t → events_at t events ≡ events_at t later
  pub between : AreBetween (suc now) until later
