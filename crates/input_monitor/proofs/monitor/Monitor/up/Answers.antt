use Rattle.std.proofs.Common.{◌≡◌, ◌⊎◌, inl, inr, ℕ, true, false, refl, ◌∙◌}
use Rattle.sync_ql.specs.declared.rules.Cond.{Cond}
use Rattle.sync_ql.specs.declared.rules.Cond.TheVariants.{Good, HoldOff, Failed, Restoring}
use Rattle.sync_ql.specs.Condition.{Timers}
use Rattle.input_monitor.specs.Monitored.{up_of}
use Rattle.input_monitor.proofs.Steps.{up_in_past}
use Rattle.input_monitor.proofs.monitor.Monitor.up.Goals as goal

is_up : (c : Cond) → (c ≡ Good) ⊎ ((left : ℕ) × (c ≡ Restoring left)) → true ≡ up_of c
is_up Good is = refl
is_up (HoldOff left) is = absurd (elim is [ inl good ↦ (cc) | inr restoring ↦ (cc (restoring.1)) ])
is_up Failed is = absurd (elim is [ inl good ↦ (cc) | inr restoring ↦ (cc (restoring.1)) ])
is_up (Restoring left) is = refl

is_down : (c : Cond) → ¬ (c ≡ Good) → ((left : ℕ) → c ≡ Restoring left → ⊥) → false ≡ up_of c
is_down Good not_good not_restoring = absurd (not_good refl)
is_down (HoldOff left) not_good not_restoring = refl
is_down Failed not_good not_restoring = refl
is_down (Restoring left) not_good not_restoring = absurd (not_restoring left refl)

pub returns-in-Good-clause-up : goal.returns-in-Good-clause-up
returns-in-Good-clause-up c =
    let m = c.self.inside in
    let timers : Timers = record { holdoff = m.holdoff; wtr = m.wtr } in
    rw (← c.self.view_is) (λ past stands. is_up m.condition c.in-Good.is ∙ up_in_past timers m.condition past stands.condition)

pub returns-in_default-clause-up : goal.returns-in_default-clause-up
returns-in_default-clause-up c =
    let m = c.self.inside in
    let timers : Timers = record { holdoff = m.holdoff; wtr = m.wtr } in
    rw (← c.self.view_is) (λ past stands. is_down m.condition c.in_default.not-Good c.in_default.not-Restoring ∙ up_in_past timers m.condition past stands.condition)
