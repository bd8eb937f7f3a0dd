-- Beside specs/Cases.antt, under no public clause: what happens in a run: what happens in all runs, and what happens in
-- this one alone.
use Rattle.std.specs.Prelude.{◌≤◌, ℕ, List}
use Rattle.std.specs.List.{All}
use Rattle.sync_topo.specs.declared.event.Case.{Case}

-- nothing happens in any of the cases before a millisecond
abbrev pub NoneBefore : ℕ → List Case → Type 0
NoneBefore from cases = All (λ case. All (λ event. from ≤ event.at) case.events) cases
