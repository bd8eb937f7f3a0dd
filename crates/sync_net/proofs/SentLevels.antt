-- The level that a line is given is the one that the rules send.
use Rattle.std.proofs.Common.{◌≡◌, ℕ, false, List, Option, slice_get, ap, sym, subst, ◌∙◌}
use Rattle.std.specs.Prelude.{option_and_then, if◌then◌else◌}
use Rattle.sync_ql.specs.declared.levels.Level.{Level}
use Rattle.sync_ql.specs.Level.{do_not_use_of}
use Rattle.sync_ql.specs.Moment.{Moment, selection_at}
use Rattle.sync_ql.specs.Output.{clock_level_at}
use Rattle.sync_ql.specs.Told.{moments_until}
use Rattle.sync_element.specs.ElementState.{ElementState, IsInTime}
use Rattle.sync_element.specs.StandsFor as Element
use Rattle.sync_topo.specs.Topology.{Topology}
use Rattle.sync_topo.specs.Lines.{sender_of, inputs_of}
use Rattle.net_rules.specs.History.{settings_of, taken_by, is_way_back, sent_by}

-- a level that is the sender's own, where the line doesn't lead back
pub own-sent : (plan : Topology) (line : ℕ) (sender : ElementState) (selected : Option ℕ) (level : Level) →
    sender.settings ≡ settings_of plan (sender_of plan line) →
    ((past : List Moment) (n : ℕ) → Element.StandsFor sender past → IsInTime sender n → selected ≡ selection_at sender.settings (moments_until sender.settings n past)) →
    ((past : List Moment) (n : ℕ) → Element.StandsFor sender past → IsInTime sender n → level ≡ clock_level_at sender.settings (moments_until sender.settings n past)) →
    is_way_back plan (option_and_then (slice_get (inputs_of plan (sender_of plan line))) selected) line ≡ false →
    (past : List Moment) (n : ℕ) → Element.StandsFor sender past → IsInTime sender n → level ≡ sent_by plan line (moments_until sender.settings n past)
own-sent plan line sender selected level settings takes has onward past n stands in_time =
    let p : List Moment = moments_until sender.settings n past in
    let e : ℕ = sender_of plan line in
    let selection : selected ≡ selection_at (settings_of plan e) p = takes past n stands in_time ∙ ap (λ s. selection_at s p) settings in
    let is_own : is_way_back plan (taken_by plan e p) line ≡ false =
    subst (λ s. is_way_back plan (option_and_then (slice_get (inputs_of plan e)) s) line ≡ false) selection onward in
    has past n stands in_time ∙ ap (λ s. clock_level_at s p) settings
    ∙ sym (ap (λ b. if b then do_not_use_of plan.option else clock_level_at (settings_of plan e) p) is_own)
