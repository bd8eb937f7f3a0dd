-- What an element keeps of its inputs. No clause elsewhere looks into it.
use Rattle.std.specs.Prelude.{◌≡◌, ◌≤◌, ℕ, Bool, true, false, List, length, map, slice_index_or, Option, None}
use Rattle.sync_ql.specs.declared.rules.Cond.TheVariants.{Good}
use Rattle.sync_ql.specs.declared.rules.Candidate.{Candidate}
use Rattle.sync_ql.specs.Condition.{Signal, continued}
use Rattle.sync_ql.specs.Switches.{Switches}
use Rattle.input_monitor.specs.Monitored.{Monitored}
use Rattle.input_monitor.specs.StandsFor as Monitor
use Rattle.sync_element.specs.declared.watched.Watched.{Watched}

-- of the inputs, by place: what each was told last, with its monitor; when its running time ends; and
-- what the choice looks at
pub record InputsKept : Type 0 where
  pub watched : List Watched
  pub dues : List (Option ℕ)
  pub candidates : List Candidate

-- when the running time of each input ends
abbrev pub dues_of : List Watched → List (Option ℕ)
dues_of watched = map (λ w. w.monitor.due) watched

-- the inputs; the switches; the input that is taken, and whether there was one in any millisecond
pub record Kept : Type 0 where
  pub inputs : InputsKept
  pub switches : Switches
  pub selection : Option ℕ
  pub was_locked : Bool

-- the input at a place; beyond the list one that was told nothing
abbrev pub unused : Watched
unused = record {
  monitor = record {
    timers = record { holdoff = 0; wtr = 0 };
    next = 0;
    condition = Good;
    failed = false;
    due = None;
  };
  up = true;
  level = None;
  cleared = false;
}

abbrev pub watched_in : List Watched → ℕ → Watched
watched_in watched i = slice_index_or watched i unused

-- a monitor that stands for the first of some milliseconds, after which nothing happened in the others
pub record Follows (m : Monitored) (past : List Signal) : Type 0 where
  pub told : List Signal
  pub stands : Monitor.StandsFor m told
  pub later : length told ≤ length past
  pub quiet : past ≡ continued (length past) told
