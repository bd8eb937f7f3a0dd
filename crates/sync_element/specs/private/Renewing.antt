-- Private to this crate: inputs renewed in a step, which only clauses of private functions cite.
use Rattle.std.specs.Prelude.{◌≡◌, ◌≤◌, ◌<◌, ◌+◌, ◌⊎◌, ℕ, Bool, true, false, not, ◌&&◌, ◌||◌, nat_eq, List, ◌∷◌, set, length, Option, None, Some, IfSome}
use Rattle.std.specs.List.{list_any}
use Rattle.sync_ql.specs.declared.levels.NetOption.{NetOption}
use Rattle.sync_ql.specs.declared.levels.Level.{Level}
use Rattle.sync_ql.specs.declared.rules.Candidate.{Candidate}
use Rattle.sync_ql.specs.declared.rules.InputEvent.{InputEvent}
use Rattle.sync_ql.specs.declared.rules.InputEvent.TheVariants.{Signal, Heard, ClearWtr, Command}
use Rattle.sync_ql.specs.declared.rules.Cmd.TheVariants.{Lockout, Unlock}
use Rattle.sync_ql.specs.Condition as condition
use Rattle.sync_ql.specs.Switches.{Switches, is_locked}
use Rattle.sync_ql.specs.Selection.{candidate, is_better}
use Rattle.sync_text.specs.Tests.{differs}
use Rattle.sync_ql.specs.Told.{IsOfOption}
use Rattle.sync_ql.specs.declared.limits.TheConstants.{MOST_INPUTS}
use Rattle.input_monitor.specs.Monitored.{Monitored, up_of}
use Rattle.input_monitor.specs.StandsFor.{StandsFor}
use Rattle.sync_element.specs.declared.watched.Watched.{Watched}
use Rattle.agenda.specs.DueTimes.{due_in}
use Rattle.sync_element.specs.Kept.{InputsKept, watched_in, Follows}
use Rattle.sync_element.specs.private.Kept.{HasEnd}

abbrev pub ends_at : ℕ → Option ℕ → Bool
ends_at now None = false
ends_at now (Some due) = nat_eq due now

-- whether something happens to an input in a millisecond: it is cleared, goes up or down, or its
-- running time ends
abbrev pub must_step : ℕ → Watched → Bool
must_step now w = w.cleared || differs w.up (up_of w.monitor.condition) || ends_at now w.monitor.due

-- a monitor may be told of a millisecond
pub record IsReady (now : ℕ) (m : Monitored) : Type 0 where
  pub later : m.next ≤ now
  pub in_time : IfSome m.due (λ due. now ≤ due)

-- a monitor was told of a millisecond
pub record IsToldOf (now : ℕ) (signal : condition.Signal) (m m_then : Monitored) : Type 0 where
  pub timers : m_then.timers ≡ m.timers
  pub next : m_then.next ≡ now + 1
  pub up : up_of m_then.condition ≡ signal.up
  pub stands : (past : List condition.Signal) → StandsFor m past → StandsFor m_then (signal ∷ condition.continued now past)

abbrev pub signal_of : Watched → condition.Signal
signal_of w = record { up = w.up; clear = w.cleared }

-- a monitor was told of a millisecond exactly where something happens in it
pub record IsStepped (now : ℕ) (w w_then : Watched) : Type 0 where
  pub told : must_step now w ≡ true → IsToldOf now (signal_of w) w.monitor w_then.monitor
  pub quiet : must_step now w ≡ false → w_then.monitor ≡ w.monitor
  pub up : w_then.up ≡ w.up
  pub level : w_then.level ≡ w.level
  pub cleared : w_then.cleared ≡ false
  pub ends : HasEnd w_then.monitor

-- the millisecond of a step, and by what inputs may be taken then: the switches and the floor
pub record Renewal : Type 0 where
  pub now : ℕ
  pub switches : Switches
  pub floor : Option Level

-- what the choice looks at in an input
abbrev pub candidate_of : Renewal → ℕ → ℕ → Watched → Candidate
candidate_of at i priority w = record {
  level = w.level;
  priority = priority;
  usable = not (is_locked at.switches i) && not w.monitor.failed && not (is_better at.floor w.level);
}

-- the input at a place is renewed, and no other
pub record IsRenewed (at : Renewal) (i : ℕ) (x x_then : InputsKept) : Type 0 where
  pub input : Watched
  pub stepped : IsStepped at.now (watched_in x.watched i) input
  pub watched : x_then.watched ≡ set x.watched i input
  pub dues : x_then.dues ≡ set x.dues i input.monitor.due
  pub candidates : x_then.candidates ≡ set x.candidates i (candidate_of at i (candidate x.candidates i).priority input)

-- what renewing inputs needs, and keeps
pub record CanRenew (now : ℕ) (option : NetOption) (x : InputsKept) : Type 0 where
  pub few : length x.watched ≤ MOST_INPUTS
  pub dues_length : length x.dues ≡ length x.watched
  pub candidates_length : length x.candidates ≡ length x.watched
  pub ready : (i : ℕ) → i < length x.watched → must_step now (watched_in x.watched i) ≡ true → IsReady now (watched_in x.watched i).monitor
  pub ends : (i : ℕ) → i < length x.watched → HasEnd (watched_in x.watched i).monitor
  pub not_later : (i : ℕ) → i < length x.watched → (watched_in x.watched i).monitor.next ≤ now + 1
  pub in_time : (i : ℕ) → i < length x.watched → IfSome (watched_in x.watched i).monitor.due (λ due. now ≤ due)
  pub dues : (i : ℕ) → i < length x.watched → due_in x.dues i ≡ (watched_in x.watched i).monitor.due
  pub levels : (i : ℕ) → IsOfOption option (watched_in x.watched i).level
  pub candidate_levels : (i : ℕ) → IsOfOption option (candidate x.candidates i).level

-- an input is as the rules have it at the end of the millisecond, by what it was told
pub record IsDone (at : Renewal) (i : ℕ) (told : Watched) (before : Candidate) (w : Watched) (due : Option ℕ) (c : Candidate) : Type 0 where
  pub up : w.up ≡ told.up
  pub level : w.level ≡ told.level
  pub cleared : w.cleared ≡ false
  pub settled : must_step at.now w ≡ false
  pub timers : w.monitor.timers ≡ told.monitor.timers
  pub next : w.monitor.next ≤ at.now + 1
  pub stands : (past : List condition.Signal) → length past ≤ at.now → Follows told.monitor past → Follows w.monitor (signal_of told ∷ condition.continued at.now past)
  pub ends : HasEnd w.monitor
  pub later : IfSome w.monitor.due (λ d. at.now < d)
  pub due_is : due ≡ w.monitor.due
  pub candidate_is : c ≡ candidate_of at i before.priority w

-- or it is as it was told
pub record IsPending (told : Watched) (before : Candidate) (w : Watched) (due : Option ℕ) (c : Candidate) : Type 0 where
  pub watched : w ≡ told
  pub due_is : due ≡ told.monitor.due
  pub candidate_is : c ≡ before

abbrev pub IsDoneAt : Renewal → List Watched → List Candidate → ℕ → InputsKept → Type 0
IsDoneAt at told before i x = IsDone at i (watched_in told i) (candidate before i) (watched_in x.watched i) (due_in x.dues i) (candidate x.candidates i)

abbrev pub IsPendingAt : List Watched → List Candidate → ℕ → InputsKept → Type 0
IsPendingAt told before i x = IsPending (watched_in told i) (candidate before i) (watched_in x.watched i) (due_in x.dues i) (candidate x.candidates i)

-- so is each input
pub record AreRenewed (at : Renewal) (told : List Watched) (before : List Candidate) (x : InputsKept) : Type 0 where
  pub watched_length : length x.watched ≡ length told
  pub dues_length : length x.dues ≡ length told
  pub candidates_length : length x.candidates ≡ length told
  pub each : (i : ℕ) → i < length told → IsDoneAt at told before i x ⊎ IsPendingAt told before i x

-- the input that an event touches
abbrev pub touched_by : InputEvent → Option ℕ
touched_by (Signal i up) = Some i
touched_by (Heard i level) = Some i
touched_by (ClearWtr i) = Some i
touched_by (Command (Lockout i)) = Some i
touched_by (Command (Unlock i)) = Some i
touched_by (Command command) = None

abbrev pub touches : ℕ → InputEvent → Bool
touches i event = ends_at i (touched_by event)

-- each input that some of all events touch is done, or is touched by one of those that are left
pub record AreTaken (at : Renewal) (told : List Watched) (before : List Candidate) (all left : List InputEvent) (x : InputsKept) : Type 0 where
  pub renewed : AreRenewed at told before x
  pub touched : (i : ℕ) → i < length told → list_any (touches i) all ≡ true → (list_any (touches i) left ≡ true) ⊎ IsDoneAt at told before i x

-- an input that was done still is, and the inputs are renewed as before or more of them
pub record AreKept (at : Renewal) (told : List Watched) (before : List Candidate) (x x_then : InputsKept) : Type 0 where
  pub renewed : AreRenewed at told before x_then
  pub done : (i : ℕ) → i < length told → IsDoneAt at told before i x → IsDoneAt at told before i x_then

-- the input that an event touches is renewed, if it touches one
pub record IsTouched (at : Renewal) (option : NetOption) (event : InputEvent) (x x_then : InputsKept) : Type 0 where
  pub can : CanRenew at.now option x_then
  pub count : length x_then.watched ≡ length x.watched
  pub kept : (told : List Watched) (before : List Candidate) → AreRenewed at told before x → AreKept at told before x x_then
  pub touched : (told : List Watched) (before : List Candidate) → AreRenewed at told before x → (i : ℕ) → i < length told → touches i event ≡ true → IsDoneAt at told before i x_then
