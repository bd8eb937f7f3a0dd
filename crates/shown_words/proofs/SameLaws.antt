-- Each mode, each state and each input, or none, is the same as itself.
use Rattle.std.proofs.Common.{◌≡◌, true, Option, None, Some, refl}
use Rattle.std.proofs.lemmas.Bool.{eq-eqb}
use Rattle.sync_ql.specs.declared.rules.Mode.{Mode}
use Rattle.sync_ql.specs.declared.rules.Mode.TheVariants.{Auto, Forced, Manual}
use Rattle.sync_ql.specs.declared.rules.ClockState.{ClockState}
use Rattle.sync_ql.specs.declared.rules.ClockState.TheVariants.{FreeRun, Locked, Holdover}
use Rattle.sync_topo.specs.declared.input.InputId.{InputId}
use Rattle.sync_topo.specs.declared.input.InputId.TheVariants.{Line, Source}
use Rattle.shown_words.specs.Sameness.{is_same_mode, is_same_state, is_same_taken}

pub same-mode : (mode : Mode) → is_same_mode mode mode ≡ true
same-mode Auto = refl
same-mode Forced = refl
same-mode Manual = refl

pub same-state : (state : ClockState) → is_same_state state state ≡ true
same-state FreeRun = refl
same-state Locked = refl
same-state Holdover = refl

pub same-taken : (taken : Option InputId) → is_same_taken taken taken ≡ true
same-taken None = refl
same-taken (Some (Line line)) = eq-eqb line.0 line.0 refl
same-taken (Some (Source source)) = eq-eqb source source refl
