-- Two tables that reject the same: they have the same lockouts and the same forced input.
use Rattle.std.proofs.Common.{◌≡◌, Bool, true, false, not, ◌||◌, List, [], ◌∷◌, ◌++◌, length, Option, None, Some, refl, ap, ◌∙◌}
use Rattle.std.specs.Prelude.{slice_index_or, slice_set, is_some, if◌then◌else◌}
use Rattle.std.proofs.lemmas.List.{length-set}
use Rattle.sync_ql.specs.declared.rules.Cmd.{Cmd}
use Rattle.sync_ql.specs.declared.rules.Cmd.TheVariants.{Lockout, Unlock, Forced, Manual, Clear}
use Rattle.sync_ql.specs.Switches.{Switches, other_than, is_rejected, carried_out, after_command, after_commands}
use Rattle.inspection.specs.Commands.{is_taken}

pub record SameBars (s t : Switches) : Type 0 where
  pub locked : s.locked ≡ t.locked
  pub forced : s.forced ≡ t.forced

pub same-rejected : (s t : Switches) (command : Cmd) → SameBars s t → is_rejected s command ≡ is_rejected t command
same-rejected s t (Lockout i) same = refl
same-rejected s t (Unlock i) same = refl
same-rejected s t (Forced i) same = ap (λ l. slice_index_or l i false) same.locked
same-rejected s t (Manual i) same =
    ap (λ l. slice_index_or l i false || is_some s.forced) same.locked ∙ ap (λ f. slice_index_or t.locked i false || is_some f) same.forced
same-rejected s t Clear same = refl

same-carried : (s t : Switches) (command : Cmd) → SameBars s t → SameBars (carried_out s command) (carried_out t command)
same-carried s t (Lockout i) same = record { locked = ap (λ l. slice_set l i true) same.locked; forced = ap (other_than i) same.forced }
same-carried s t (Unlock i) same = record { locked = ap (λ l. slice_set l i false) same.locked; forced = same.forced }
same-carried s t (Forced i) same = record { locked = same.locked; forced = refl }
same-carried s t (Manual i) same = record { locked = same.locked; forced = same.forced }
same-carried s t Clear same = record { locked = same.locked; forced = refl }

same-after : (s t : Switches) (command : Cmd) → SameBars s t → SameBars (after_command s command) (after_command t command)
same-after s t command same = by (is_rejected s command) (is_rejected t command) (same-rejected s t command same)
  where
    by : (b d : Bool) → b ≡ d → SameBars (if b then s else carried_out s command) (if d then t else carried_out t command)
    by true true is = same
    by false false is = same-carried s t command same
    by true false is = absurd (cc)
    by false true is = absurd (cc)

pub same-commands : (commands : List Cmd) (s t : Switches) → SameBars s t → SameBars (after_commands s commands) (after_commands t commands)
same-commands [] s t same = same
same-commands (command ∷ commands) s t same = same-commands commands (after_command s command) (after_command t command) (same-after s t command same)

pub same-taken : (s t : Switches) (command : Option Cmd) → SameBars s t → is_taken s command ≡ is_taken t command
same-taken s t None same = refl
same-taken s t (Some command) same = ap not (same-rejected s t command same)

-- commands one after another
pub after-append : (xs ys : List Cmd) (s : Switches) → after_commands s (xs ++ ys) ≡ after_commands (after_commands s xs) ys
after-append [] ys s = refl
after-append (x ∷ xs) ys s = after-append xs ys (after_command s x)

-- how many inputs a table has stays
length-carried : (s : Switches) (command : Cmd) → length (carried_out s command).locked ≡ length s.locked
length-carried s (Lockout i) = length-set s.locked i true
length-carried s (Unlock i) = length-set s.locked i false
length-carried s (Forced i) = refl
length-carried s (Manual i) = refl
length-carried s Clear = refl

length-after : (s : Switches) (command : Cmd) → length (after_command s command).locked ≡ length s.locked
length-after s command = by (is_rejected s command)
  where
    by : (b : Bool) → length (if b then s else carried_out s command).locked ≡ length s.locked
    by true = refl
    by false = length-carried s command

pub length-commands : (commands : List Cmd) (s : Switches) → length (after_commands s commands).locked ≡ length s.locked
length-commands [] s = refl
length-commands (command ∷ commands) s = length-commands commands (after_command s command) ∙ length-after s command
