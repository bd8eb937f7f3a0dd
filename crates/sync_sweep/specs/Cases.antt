-- What happens in a run: what happens in all runs, and what happens in this one alone. This
-- project's own.
use Rattle.std.specs.Prelude.{◌≤◌, ◌≢◌, ℕ, nat_lt, List, [], ◌∷◌, if◌then◌else◌}
use Rattle.sync_topo.specs.declared.event.Event.{Event}
use Rattle.net_rules.specs.Signals.{events_at}
use Rattle.net_rules.specs.Settling.{IsGreatest}

-- an event after those of a list that are earlier, and then `rest` of the others
unfoldable pub after_earlier : Event → (List Event → List Event) → List Event → List Event
after_earlier event rest [] = event ∷ rest []
after_earlier event rest (own ∷ owns) =
    if nat_lt own.at event.at then own ∷ after_earlier event rest owns else event ∷ rest (own ∷ owns)

-- all events of a run, in order of time; in one millisecond those of all runs come first
unfoldable pub merged : List Event → List Event → List Event
merged [] own = own
merged (event ∷ common) own = after_earlier event (merged common) own

-- something happens in this millisecond, which is not after another
abbrev pub IsTimeUntil : List Event → ℕ → ℕ → Type 0
IsTimeUntil events until t = (t ≤ until) × (events_at t events ≢ [])

-- the last millisecond up to another in which something happens, or 0
abbrev pub IsLastUntil : List Event → ℕ → ℕ → Type 0
IsLastUntil events until last = IsGreatest (IsTimeUntil events until) last
