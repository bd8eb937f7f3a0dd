use Rattle.std.proofs.Common.{◌≡◌, ℕ, suc, ◌-◌, Bool, true, false, not, ◌&&◌, if◌then◌else◌, List, ◌∷◌, length, Option, None, refl, ap, ◌∙◌}
use Rattle.sync_ql.specs.declared.levels.Level.{Level}
use Rattle.sync_ql.specs.Messages.{LineMoment, unchanged, line_until}
use Rattle.link_model.specs.Calls.{told, turned, with_up, with_esmc, with_level}
use Rattle.link_model.specs.StandsFor.{StandsFor}
use Rattle.link_model.proofs.Pasts.{unchanged-after}
use Rattle.link_model.proofs.Standing.{length-until, until-same, until-next, until-told}
use Rattle.link_model.proofs.laws.calls_law.Goals as goal

abbrev moment : Bool → Bool → Option Level → LineMoment
moment up esmc level = record { up = up; esmc = esmc; level = level }

same_level : (speaks : Bool) (level : Option Level) → (if speaks && not speaks then None else level) ≡ level
same_level true level = refl
same_level false level = refl

one_after_another : (up esmc : Bool) (level : Level) (now : ℕ) (x : LineMoment) (before : List LineMoment) → length before ≡ now
    → with_level level (line_until (suc now) (line_until (suc now) (with_esmc esmc (line_until (suc now) (with_up up (x ∷ before)))))) ≡ told up esmc level ∷ before
one_after_another up esmc level now x before long =
    ap (λ p. with_level level (line_until (suc now) (line_until (suc now) (with_esmc esmc p)))) (until-told now (turned x up x.esmc) before long)
    ∙ ap (λ p. with_level level (line_until (suc now) p)) (until-told now (turned (turned x up x.esmc) up esmc) before long)
    ∙ ap (with_level level) (until-told now (turned (turned x up x.esmc) up esmc) before long)

pub returns-clause-all : goal.returns-clause-all
returns-clause-all c up esmc level now before = refl

pub returns-clause-calls : goal.returns-clause-calls
returns-clause-calls c up esmc level now past early =
    ap (λ p. with_level level (line_until (suc now) (line_until (suc now) (with_esmc esmc (line_until (suc now) (with_up up p)))))) (until-next now past early)
    ∙ one_after_another up esmc level now (unchanged (line_until now past)) (line_until now past) (length-until now past early)

pub returns-clause-same : goal.returns-clause-same
returns-clause-same c now = ap (moment now.up now.esmc) (same_level (now.up && now.esmc) now.level)

pub returns-clause-low : goal.returns-clause-low
unfolding StandsFor
returns-clause-low c line past stands = stands.turn_low

pub returns-clause-high : goal.returns-clause-high
unfolding StandsFor
returns-clause-high c line past stands = stands.turn_high

pub returns-clause-still : goal.returns-clause-still
returns-clause-still c n past long = until-same n past long

pub returns-clause-next : goal.returns-clause-next
returns-clause-next c now past early =
    until-next now past early ∙ ap (λ head. head ∷ line_until now past) (unchanged-after (now - length past) past)

pub returns-clause-long : goal.returns-clause-long
returns-clause-long c n past early = length-until n past early
