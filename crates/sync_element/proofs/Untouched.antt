-- Of an input that no event touches, nothing is told.
use Rattle.std.proofs.Common.{◌≡◌, ℕ, Bool, true, false, ◌||◌, List, [], ◌∷◌, None, refl, ap, ◌∙◌, nat_eq, arith, get_or-set_other}
use Rattle.std.specs.Prelude.{if◌then◌else◌, is_some}
use Rattle.std.specs.List.{list_any}
use Rattle.std.specs.Option.{option_or}
use Rattle.std.proofs.lemmas.Bool.Decides.{nat_tests}
use Rattle.std.proofs.lemmas.Bool.{or_parts}
use Rattle.sync_ql.specs.declared.rules.Cmd.{Cmd}
use Rattle.sync_ql.specs.declared.rules.Cmd.TheVariants.{Lockout, Unlock, Forced, Manual, Clear}
use Rattle.sync_ql.specs.declared.rules.InputEvent.{InputEvent}
use Rattle.sync_ql.specs.declared.rules.InputEvent.TheVariants.{Signal, Heard, ClearWtr, Command}
use Rattle.sync_ql.specs.Switches.{Switches, is_locked, after_command, after_commands, carried_out}
use Rattle.sync_ql.specs.Told.{last_said, says_up, says_level, clears, commands_in}
use Rattle.sync_element.specs.private.Renewing.{touches}

-- one event
up-one : (i : ℕ) (event : InputEvent) → touches i event ≡ false → says_up i event ≡ None
up-one i (Signal k up) none = rw none refl
up-one i (Heard k level) none = refl
up-one i (ClearWtr k) none = refl
up-one i (Command command) none = refl

level-one : (i : ℕ) (event : InputEvent) → touches i event ≡ false → says_level i event ≡ None
level-one i (Signal k up) none = refl
level-one i (Heard k level) none = rw none refl
level-one i (ClearWtr k) none = refl
level-one i (Command command) none = refl

clear-one : (i : ℕ) (event : InputEvent) → touches i event ≡ false → clears i event ≡ false
clear-one i (Signal k up) none = refl
clear-one i (Heard k level) none = refl
clear-one i (ClearWtr k) none = none
clear-one i (Command command) none = refl

apart : (i k : ℕ) → nat_eq k i ≡ false → ¬ (i ≡ k)
apart i k none = grind (arith, nat_tests)

locked-if : (s t : Switches) (i : ℕ) (b : Bool) → is_locked t i ≡ is_locked s i → is_locked (if b then s else t) i ≡ is_locked s i
locked-if s t i true same = refl
locked-if s t i false same = same

locked-one : (s : Switches) (i : ℕ) (command : Cmd) → touches i (Command command) ≡ false → is_locked (after_command s command) i ≡ is_locked s i
locked-one s i (Lockout k) none = get_or-set_other s.locked k i true false (apart i k none)
locked-one s i (Unlock k) none = get_or-set_other s.locked k i false false (apart i k none)
locked-one s i (Forced k) none = locked-if s (carried_out s (Forced k)) i (is_locked s k) refl
locked-one s i (Manual k) none = locked-if s (carried_out s (Manual k)) i (is_locked s k || is_some s.forced) refl
locked-one s i Clear none = refl

-- all events
pub up-untouched : (i : ℕ) (events : List InputEvent) → list_any (touches i) events ≡ false → last_said (says_up i) events ≡ None
up-untouched i [] none = refl
up-untouched i (event ∷ events) none =
    let parts = or_parts (touches i event) (list_any (touches i) events) none in
    ap (λ o. option_or o (says_up i event)) (up-untouched i events parts.1) ∙ up-one i event parts.0

pub level-untouched : (i : ℕ) (events : List InputEvent) → list_any (touches i) events ≡ false → last_said (says_level i) events ≡ None
level-untouched i [] none = refl
level-untouched i (event ∷ events) none =
    let parts = or_parts (touches i event) (list_any (touches i) events) none in
    ap (λ o. option_or o (says_level i event)) (level-untouched i events parts.1) ∙ level-one i event parts.0

pub clear-untouched : (i : ℕ) (events : List InputEvent) → list_any (touches i) events ≡ false → list_any (clears i) events ≡ false
clear-untouched i [] none = refl
clear-untouched i (event ∷ events) none =
    let parts = or_parts (touches i event) (list_any (touches i) events) none in
    rw (clear-one i event parts.0) (clear-untouched i events parts.1)

pub locked-untouched : (i : ℕ) (events : List InputEvent) (s : Switches) → list_any (touches i) events ≡ false → is_locked (after_commands s (commands_in events)) i ≡ is_locked s i
locked-untouched i [] s none = refl
locked-untouched i (Signal k up ∷ events) s none = locked-untouched i events s (or_parts (touches i (Signal k up)) (list_any (touches i) events) none).1
locked-untouched i (Heard k level ∷ events) s none = locked-untouched i events s (or_parts (touches i (Heard k level)) (list_any (touches i) events) none).1
locked-untouched i (ClearWtr k ∷ events) s none = locked-untouched i events s (or_parts (touches i (ClearWtr k)) (list_any (touches i) events) none).1
locked-untouched i (Command command ∷ events) s none =
    let parts = or_parts (touches i (Command command)) (list_any (touches i) events) none in
    locked-untouched i events (after_command s command) parts.1 ∙ locked-one s i command parts.0
