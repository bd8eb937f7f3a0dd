-- What a case costs on the way: how each element stands beside how it stood before the case. Levels are
-- after G.781; the rest is this project's own.
use Rattle.std.specs.Prelude.{◌≡◌, ◌<◌, ◌+◌, ◌-◌, ℕ, min, nat_eq, nat_lt, ◌&&◌, Bool, List, [], ◌∷◌, length}
use Rattle.std.specs.List.{count_by, find, range_with_len}
use Rattle.sync_ql.specs.declared.levels.Level.{Level}
use Rattle.sync_topo.specs.declared.event.Event.{Event}
use Rattle.sync_topo.specs.Topology.{Topology}
use Rattle.net_rules.specs.Settling.{IsGreatest}
use Rattle.sync_sweep.specs.declared.on_way.OnWay.{OnWay}
use Rattle.sync_sweep.specs.Outcomes.{level_in}

-- the millisecond before the first of a case's own events, or 0 where that is at 0; the last one of
-- all where none comes before its end
abbrev pub before_own : List Event → ℕ → ℕ
before_own [] until = until
before_own (event ∷ events) until = min (event.at - 1) until

-- a level is worse than another of its option where it stands later in the table
abbrev pub is_worse : Level → Level → Bool
is_worse before level = nat_lt before.place level.place

-- the level of an element at the end of a millisecond is worse than it was at the end of one before
abbrev pub is_worse_in : Topology → List Event → ℕ → ℕ → ℕ → Bool
is_worse_in plan events before element t = is_worse (level_in plan events before element) (level_in plan events t element)

-- in how many milliseconds after that one, up to the last, it is
abbrev pub worse_for : Topology → List Event → ℕ → ℕ → ℕ → ℕ
worse_for plan events before until element = count_by (is_worse_in plan events before element) (range_with_len (before + 1) (until - before))

-- so many they are for one of the elements
pub record IsWorseFor (plan : Topology) (events : List Event) (before until n : ℕ) : Type 0 where
  pub element : ℕ
  pub within : element < length plan.elements
  pub is : n ≡ worse_for plan events before until element

-- how many elements are worse in some millisecond; in how many milliseconds the one is that is worse
-- for longest, and which element is the first that is worse for so long; and how many are at the end
pub record IsOnWay (plan : Topology) (events : List Event) (before until : ℕ) (way : OnWay) : Type 0 where
  pub hurt : way.hurt ≡ count_by (λ element. nat_lt 0 (worse_for plan events before until element)) (range_with_len 0 (length plan.elements))
  pub dark : IsGreatest (IsWorseFor plan events before until) way.dark
  pub darkest : way.darkest ≡ find (λ element. nat_lt 0 way.dark && nat_eq (worse_for plan events before until element) way.dark) (range_with_len 0 (length plan.elements))
  pub still : way.still ≡ count_by (λ element. is_worse_in plan events before element until) (range_with_len 0 (length plan.elements))
