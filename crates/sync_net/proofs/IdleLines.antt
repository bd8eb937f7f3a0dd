-- A line on which nothing will be heard anew, if nothing is told, is settled.
use Rattle.std.proofs.Common.{◌≡◌, ◌≤◌, ◌+◌, ◌-◌, ℕ, zero, suc, Bool, true, false, ◌∷◌, Option, None, Some, is_some, refl, ap, sym, subst, ◌∙◌, arith}
use Rattle.std.specs.Prelude.{nat_le, if◌then◌else◌, IsSome}
use Rattle.sync_ql.specs.declared.levels.Level.{Level}
use Rattle.sync_ql.specs.Pasts.{past_of}
use Rattle.sync_ql.specs.Messages.{LineMoment, said_in, came, heard_at, hearing_time, after_unchanged}
use Rattle.sync_ql.proofs.Delivered.{heard-delivered, unheard-none}
use Rattle.link_model.proofs.Pasts.{delivered-now, came-undelivered}
use Rattle.link_model.proofs.Times.{within, is_within}
use Rattle.sync_topo.specs.Topology.{Topology}
use Rattle.sync_topo.specs.Lines.{line_input, delay_of}
use Rattle.net_rules.specs.Signals.{Signals, speaks_at}
use Rattle.net_rules.specs.History.{Levels, line_moment_at, heard}
use Rattle.net_rules.specs.Settled.{is_sent_at, IsOnWay}
use Rattle.net_rules.proofs.Lists.{past-same}
use Rattle.net_rules.proofs.Arrivals.{sent-said}
use Rattle.net_rules.proofs.PairLaws.{speaks-said, speaks-up, silent-said, is_heard}
use Rattle.net_rules.proofs.QuietLaws.{some-IsSome}

-- what was up to a millisecond, and from there on nothing is told
abbrev stays : (ℕ → LineMoment) → ℕ → ℕ → LineMoment
stays f t u = if nat_le u t then f u else f t

stays-before : (f : ℕ → LineMoment) (t u : ℕ) → u ≤ t → stays f t u ≡ f u
stays-before f t u until = ap (λ b. if b then f u else f t) (within u t until)

stays-after : (f : ℕ → LineMoment) (t u : ℕ) → t ≤ u → stays f t u ≡ f t
stays-after f t u after = by (nat_le u t) refl
  where
    by : (b : Bool) → nat_le u t ≡ b → (if b then f u else f t) ≡ f t
    by true until = let early : u ≤ t = is_within u t until in ap f (omega (arith, early, after))
    by false until = refl

-- as a list
past-stays : (f : ℕ → LineMoment) (t k : ℕ) → past_of (stays f t) (k + suc t) ≡ after_unchanged k (past_of f (suc t))
past-stays f t zero =
    let e : zero + suc t ≡ suc t = omega arith in
    ap (past_of (stays f t)) e ∙ past-same (stays f t) f (suc t) (λ u early. stays-before f t u (omega (arith, early)))
past-stays f t (suc k) =
    let e : suc k + suc t ≡ suc (k + suc t) = omega arith in
    ap (past_of (stays f t)) e
    ∙ ap (λ m. m ∷ past_of (stays f t) (k + suc t)) (stays-after f t (k + suc t) (omega arith))
    ∙ ap (λ past. f t ∷ past) (past-stays f t k)

module _ (plan : Topology) (signals : Signals) (out : Levels) (line t : ℕ)
    (same : (k : ℕ) → heard_at (delay_of plan line) (after_unchanged k (past_of (line_moment_at signals out line) (suc t)))
    ≡ heard_at (delay_of plan line) (past_of (line_moment_at signals out line) (suc t))) where
  abbrev d : ℕ
  d = delay_of plan line

  abbrev f : ℕ → LineMoment
  f = line_moment_at signals out line

  -- what would be heard later is heard now
  heard-now : (now : ℕ) (level : Option Level) → t ≤ now → heard_at d (past_of (stays f t) (suc now)) ≡ level → heard plan signals out line t ≡ level
  heard-now now level after is =
      let e : suc now ≡ (now - t) + suc t = omega (arith, after) in
      is_heard plan signals out line t
      (sym (same (now - t)) ∙ ap (heard_at d) (sym (past-stays f t (now - t)) ∙ ap (past_of (stays f t)) (sym e)) ∙ is)

  -- what was said in a millisecond, and would still come if nothing is told
  delivered-idle : (from : ℕ) (level : Level) → from ≤ t → t ≤ d + from → said_in (f from) ≡ Some level
      → ((u : ℕ) → from ≤ u → u ≤ t → (f u).up ≡ true) → heard plan signals out line t ≡ Some level
  delivered-idle from level begun recent says up =
      heard-now (d + from) (Some level) recent
      (heard-delivered (stays f t) level d from (d + from) refl (ap said_in (stays-before f t from begun) ∙ says)
      (λ u since _. by u since (nat_le u t) refl))
    where
      by : (u : ℕ) → from ≤ u → (b : Bool) → nat_le u t ≡ b → (if b then f u else f t).up ≡ true
      by u since true until = up u since (is_within u t until)
      by u since false until = up t begun (omega arith)

  -- so each message that is on its way has the level that is heard
  pub carried-idle : (from : ℕ) → is_sent_at signals out line from ≡ true → IsOnWay plan signals line from t → heard plan signals out line t ≡ Some (out line from)
  carried-idle from sent way =
      delivered-idle from (out line from) way.begun (let recent = way.recent in omega (arith, recent))
      (of (speaks_at signals line from) (sent-said f from sent)) (λ u since before. way.up u since before)
    where
      of : (speaks : Bool) → is_some (if speaks then Some (out line from) else None) ≡ true → (if speaks then Some (out line from) else None) ≡ Some (out line from)
      of true some = refl
      of false some = cc

  -- a line that speaks is heard, and one that is silent isn't
  pub spoken-idle : speaks_at signals line t ≡ true → IsSome (heard plan signals out line t)
  spoken-idle speaks =
      some-IsSome (heard plan signals out line t) (out line t)
      (delivered-idle t (out line t) (omega arith) (omega arith) (speaks-said signals out line t speaks)
      (λ u since before. let here : t ≡ u = omega (arith, since, before) in subst (λ k. signals.up (line_input line) k ≡ true) here (speaks-up signals line t speaks)))

  pub silent-idle : speaks_at signals line t ≡ false → heard plan signals out line t ≡ None
  silent-idle silent =
      heard-now (t + d + hearing_time) None (omega arith)
      (unheard-none (stays f t) d (t + d + hearing_time) (λ a until recent.
      let e : suc a ≡ (a - t) + suc t = omega (arith, recent) in
      ap (came d) (ap (past_of (stays f t)) e ∙ past-stays f t (a - t))
      ∙ came-undelivered d (after_unchanged (a - t) (past_of f (suc t)))
      (delivered-now d (a - t) (f t) (past_of f t) (omega (arith, recent)) ∙ silent-said signals out line t silent)))
