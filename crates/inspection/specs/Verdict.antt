-- Why an element takes an input, or doesn't. After G.781, selection; the floor, and the order of
-- the reasons, are this project's own.
use Rattle.std.specs.Prelude.{ℕ, suc, Bool, false, nat_eq, if◌then◌else◌, List, Option, None, Some, codes, ⊤}
use Rattle.sync_ql.specs.declared.levels.Level.{Level}
use Rattle.sync_ql.specs.Condition.{failed_at}
use Rattle.sync_ql.specs.Switches.{is_locked}
use Rattle.sync_ql.specs.Selection.{is_above_do_not_use, is_better}
use Rattle.sync_ql.specs.Moment.{Moment, Settings, signals_of, level_now, switches_at, selection_at}
use Rattle.sync_topo.specs.declared.input.InputId.{InputId}
use Rattle.sync_topo.specs.Topology.{Topology}
use Rattle.net_rules.specs.Signals.{Signals}
use Rattle.net_rules.specs.History.{Levels, settings_of, heard, input_level, element_past, taken_at, failed_by}
use Rattle.shown_words.specs.Sameness.{is_same_taken}
use Rattle.inspection.specs.declared.verdicts.InputVerdict.{InputVerdict}
use Rattle.inspection.specs.declared.verdicts.InputVerdict.TheVariants.{Taken, LockedOut, Failed, Silent, DoNotUse, BelowFloor, Reserve}

-- what its level says of an input that is neither locked out nor failed
abbrev pub level_verdict : Option Level → Option Level → InputVerdict
level_verdict floor None = Silent
level_verdict floor (Some level) =
    if is_above_do_not_use (Some level) then (if is_better floor (Some level) then BelowFloor else Reserve)
    else DoNotUse

-- the first reason that holds
abbrev pub verdict_of : Bool → Bool → Bool → Option Level → Option Level → InputVerdict
verdict_of taken locked failed floor level =
    if taken then Taken else if locked then LockedOut else if failed then Failed
    else level_verdict floor level

-- a place is the one that is taken
abbrev pub is_place : Option ℕ → ℕ → Bool
is_place None i = false
is_place (Some taken) i = nat_eq taken i

-- why the input at a place is taken after a past, or isn't
unfoldable pub verdict_at : Settings → List Moment → ℕ → InputVerdict
verdict_at settings past i =
    verdict_of (is_place (selection_at settings past) i) (is_locked (switches_at settings past) i)
    (failed_at settings.timers (signals_of i past)) settings.floor (level_now i past)

-- the same of the input at a place of an element of a network, by what the element takes and by the
-- input itself
abbrev pub verdict_in : Topology → Signals → Levels → ℕ → ℕ → ℕ → InputId → InputVerdict
verdict_in plan signals out element t i input =
    verdict_of (is_same_taken (taken_at plan signals out element t) (Some input))
    (is_locked (switches_at (settings_of plan element) (element_past plan signals out element (suc t))) i)
    (failed_by plan signals input t) (settings_of plan element).floor
    (input_level signals (heard plan signals out) input t)

-- it is taken, or it could be
abbrev pub MayBeUsed : InputVerdict → Type 0
MayBeUsed Taken = ⊤
MayBeUsed LockedOut = ⊥
MayBeUsed Failed = ⊥
MayBeUsed Silent = ⊥
MayBeUsed DoNotUse = ⊥
MayBeUsed BelowFloor = ⊥
MayBeUsed Reserve = ⊤

-- the words
abbrev pub verdict_word : InputVerdict → List ℕ
verdict_word Taken = codes "taken"
verdict_word LockedOut = codes "locked-out"
verdict_word Failed = codes "failed"
verdict_word Silent = codes "silent"
verdict_word DoNotUse = codes "do-not-use"
verdict_word BelowFloor = codes "below-floor"
verdict_word Reserve = codes "reserve"
