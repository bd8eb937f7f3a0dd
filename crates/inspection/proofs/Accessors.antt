-- What an element's accessors say in the millisecond of its network's last step.
use Rattle.std.proofs.Common.{◌≡◌, ◌<◌, ◌+◌, ℕ, suc, Bool, true, false, List, Option, None, Some, refl, ap, sym, ◌∙◌, arith}
use Rattle.sync_ql.specs.declared.levels.NetOption.{NetOption}
use Rattle.sync_ql.specs.declared.levels.Level.{Level}
use Rattle.sync_ql.specs.declared.rules.Cond.{Cond}
use Rattle.sync_ql.specs.declared.rules.Cond.TheVariants.{Good, HoldOff, Failed, Restoring}
use Rattle.sync_ql.specs.Condition.{Signal, Timers, is_up, failed_at, left_at, condition_of, condition_at, IsSameKind}
use Rattle.sync_ql.specs.Switches.{is_locked}
use Rattle.sync_ql.specs.Selection.{SameOption}
use Rattle.sync_ql.specs.Moment.{Moment, Settings, signals_of, level_now, switches_at, selection_at}
use Rattle.sync_ql.specs.Told.{moments_until, IsOfOption}
use Rattle.sync_element.specs.ElementState.{ElementState, IsInTime}
use Rattle.sync_element.specs.StandsFor.{StandsFor}
use Rattle.sync_topo.specs.Topology.{Topology}
use Rattle.net_rules.specs.Signals.{Signals}
use Rattle.net_rules.specs.History.{Levels, settings_of, element_past}
use Rattle.sync_net.specs.Standing.{ElementStands}
use Rattle.inspection.specs.Verdict.{is_place, verdict_of, verdict_at}
use Rattle.inspection.specs.private.Verdict.{is_failed_in}

-- an answer over any past is that of the rules' history
pub at-until : {A : Type 0} (f : Settings → List Moment → A) (plan : Topology) (signals : Signals) (out : Levels) (e until : ℕ) (element : ElementState) (answer : A)
    → ElementStands plan signals out e (until + 1) element
    → ((past : List Moment) (n : ℕ) → StandsFor element past → IsInTime element n → 0 < n → answer ≡ f element.settings (moments_until element.settings n past))
    → answer ≡ f (settings_of plan e) (element_past plan signals out e (suc until))
at-until f plan signals out e until element answer is says =
    says past (until + 1) is.stands is.in_time (omega arith)
    ∙ ap (λ s. f s (moments_until s (until + 1) past)) is.settings
    ∙ ap (f (settings_of plan e)) (sym is.quiet)
    ∙ ap (λ n. f (settings_of plan e) (element_past plan signals out e n)) after
  where
    past : List Moment
    past = element_past plan signals out e element.next

    after : until + 1 ≡ suc until
    after = omega arith

-- conditions of one kind are failed alike
same-failed : (a b : Cond) → IsSameKind a b → is_failed_in a ≡ is_failed_in b
same-failed Good Good same = refl
same-failed (HoldOff m) (HoldOff n) same = refl
same-failed Failed Failed same = refl
same-failed (Restoring m) (Restoring n) same = refl
same-failed Good (HoldOff n) same = absurd same
same-failed Good Failed same = absurd same
same-failed Good (Restoring n) same = absurd same
same-failed (HoldOff m) Good same = absurd same
same-failed (HoldOff m) Failed same = absurd same
same-failed (HoldOff m) (Restoring n) same = absurd same
same-failed Failed Good same = absurd same
same-failed Failed (HoldOff n) same = absurd same
same-failed Failed (Restoring n) same = absurd same
same-failed (Restoring m) Good same = absurd same
same-failed (Restoring m) (HoldOff n) same = absurd same
same-failed (Restoring m) Failed same = absurd same

-- a condition tells whether the input is failed
failed-of : (up failed : Bool) (left : ℕ) → is_failed_in (condition_of up failed left) ≡ failed
failed-of true false left = refl
failed-of false false left = refl
failed-of false true left = refl
failed-of true true left = refl

failed-seen : (timers : Timers) (past : List Signal) (condition : Cond) → IsSameKind condition (condition_at timers past) → is_failed_in condition ≡ failed_at timers past
unfolding condition_at
failed-seen timers past condition same =
    same-failed condition (condition_of (is_up past) (failed_at timers past) (left_at timers past)) same ∙ failed-of (is_up past) (failed_at timers past) (left_at timers past)

-- levels of one option
pub same-option : (option : NetOption) (floor level : Option Level) → IsOfOption option floor → IsOfOption option level → SameOption floor level
same-option option None None first second = tt
same-option option None (Some level) first second = tt
same-option option (Some floor) None first second = tt
same-option option (Some floor) (Some level) first second = first ∙ sym second

-- what the accessors say of an input is its verdict
pub verdict-seen : (settings : Settings) (after : List Moment) (i : ℕ) (selected : Option ℕ) (locked : Bool) (condition : Cond) (floor level : Option Level)
    → selected ≡ selection_at settings after → locked ≡ is_locked (switches_at settings after) i
    → IsSameKind condition (condition_at settings.timers (signals_of i after)) → floor ≡ settings.floor → level ≡ level_now i after
    → verdict_of (is_place selected i) locked (is_failed_in condition) floor level ≡ verdict_at settings after i
unfolding verdict_at
verdict-seen settings after i selected locked condition floor level is_selected is_locked_out kind is_floor is_level =
    ap (λ o. verdict_of (is_place o i) locked (is_failed_in condition) floor level) is_selected
    ∙ ap (λ b. verdict_of (is_place (selection_at settings after) i) b (is_failed_in condition) floor level) is_locked_out
    ∙ ap (λ b. verdict_of (is_place (selection_at settings after) i) (is_locked (switches_at settings after) i) b floor level) (failed-seen settings.timers (signals_of i after) condition kind)
    ∙ ap (λ f. verdict_of (is_place (selection_at settings after) i) (is_locked (switches_at settings after) i) (failed_at settings.timers (signals_of i after)) f level) is_floor
    ∙ ap (verdict_of (is_place (selection_at settings after) i) (is_locked (switches_at settings after) i) (failed_at settings.timers (signals_of i after)) settings.floor) is_level
