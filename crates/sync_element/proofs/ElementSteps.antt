-- An element stands for one more millisecond of a history, whether it makes a step in it or nothing is told.
use Rattle.std.proofs.Common.{◌≡◌, ◌≤◌, ◌<◌, ◌-◌, ℕ, suc, List, [], ◌∷◌, length, Option, None, Some, IfSome, refl, ap, sym, subst, ◌∙◌, arith, add-one}
use Rattle.sync_ql.specs.declared.rules.InputEvent.{InputEvent}
use Rattle.sync_ql.specs.Pasts.{past_of}
use Rattle.sync_ql.specs.Moment.{Moment, Settings}
use Rattle.sync_ql.specs.Told.{moment_after, quiet_moment, quiet_moments, moments_until}
use Rattle.sync_ql.proofs.Delivered.{length-past_of}
use Rattle.sync_element.specs.ElementState.{ElementState, IsInTime}
use Rattle.sync_element.specs.StandsFor.{StandsFor}
use Rattle.sync_element.specs.StandsAfter.{StandsAfter, IsStepped}

-- what is later than a millisecond is not before the next
pub later-due : (now : ℕ) (due : Option ℕ) → IfSome due (λ d. now < d) → IfSome due (λ d. suc now ≤ d)
later-due now None later = tt
later-due now (Some d) later = omega (arith, later)

-- a past that is long enough stays
until-self : (set : Settings) (past : List Moment) (n : ℕ) → length past ≡ n → moments_until set n past ≡ past
until-self set past n long = let none : n - length past ≡ 0 = omega (arith, long) in ap (λ k. quiet_moments set k past) none

-- one more millisecond in which nothing is told
until-more : (set : Settings) (n : ℕ) (past : List Moment) → length past ≤ n
    → moments_until set (suc n) past ≡ quiet_moment set (moments_until set n past) ∷ moments_until set n past
until-more set n past early =
    let one : suc n - length past ≡ suc (n - length past) = omega (arith, early) in
    ap (λ k. quiet_moments set k past) one

-- after its step an element is in time for the next millisecond
pub stepped-in_time : (now : ℕ) (words : List InputEvent) (before after : ElementState) → IsStepped now words before after → IsInTime after (suc now)
stepped-in_time now words before after stepped = record {
  first = λ none. (let next = stepped.next in absurd (omega (arith, next, none)));
  later = (let next = stepped.next in omega (arith, next));
  until_due = later-due now after.due stepped.due_later;
}

-- an element that made no step yet is in time for its first
pub new-in_time : (element : ElementState) → element.next ≡ 0 → element.due ≡ None → IsInTime element 0
new-in_time element next due = record {
  first = λ never. refl;
  later = omega (arith, next);
  until_due = subst (λ o. IfSome o (λ d. 0 ≤ d)) (sym due) tt;
}

module _ (set : Settings) (moments : ℕ → Moment) where
  -- a new element stands for no millisecond
  pub stands-new : (element : ElementState) → element.settings ≡ set → element.next ≡ 0 → element.due ≡ None → StandsFor element []
      → StandsAfter set moments 0 element
  stands-new element settings next due stands = record {
    settings = settings;
    in_time = new-in_time element next due;
    stands = subst (λ n. StandsFor element (past_of moments n)) (sym next) stands;
    quiet = subst (λ n. past_of moments 0 ≡ moments_until set 0 (past_of moments n)) (sym next) refl;
  }

  -- an element that made a step stands for one more millisecond
  pub stands-stepped : (now : ℕ) (words : List InputEvent) (before after : ElementState) → IsStepped now words before after
      → StandsAfter set moments now before → moment_after set (past_of moments now) words ≡ moments now
      → StandsAfter set moments (suc now) after
  stands-stepped now words before after stepped is told =
      let past : ℕ → List Moment = past_of moments in
      let next : after.next ≡ suc now = stepped.next ∙ add-one now in
      let quiet : moments_until before.settings now (past before.next) ≡ past now =
      ap (λ s. moments_until s now (past before.next)) is.settings ∙ sym is.quiet in
      let head : moment_after before.settings (moments_until before.settings now (past before.next)) words ≡ moments now =
      ap (λ p. moment_after before.settings p words) quiet ∙ ap (λ s. moment_after s (past now) words) is.settings ∙ told in
      let whole : (moment_after before.settings (moments_until before.settings now (past before.next)) words ∷ moments_until before.settings now (past before.next)) ≡ past (suc now) =
      ap (λ m. m ∷ moments_until before.settings now (past before.next)) head ∙ ap (λ p. moments now ∷ p) quiet in
      let long : length (past (suc now)) ≡ suc now = length-past_of moments (suc now) in
      record {
        settings = stepped.settings ∙ is.settings;
        in_time = stepped-in_time now words before after stepped;
        stands = subst (λ n. StandsFor after (past n)) (sym next) (subst (StandsFor after) whole (stepped.stands (past before.next) is.stands));
        quiet = subst (λ n. past (suc now) ≡ moments_until set (suc now) (past n)) (sym next) (sym (until-self set (past (suc now)) (suc now) long));
      }

  -- where nothing is told in a millisecond, the past with it is that up to the last step, and nothing told since
  pub past-quiet : (n : ℕ) (element : ElementState) → StandsAfter set moments n element → moments n ≡ quiet_moment set (past_of moments n)
      → past_of moments (suc n) ≡ moments_until set (suc n) (past_of moments element.next)
  past-quiet n element is none =
      let long = length-past_of moments element.next in
      let later = is.in_time.later in
      ap (λ moment. moment ∷ past_of moments n) none
      ∙ ap (λ past. quiet_moment set past ∷ past) is.quiet
      ∙ sym (until-more set n (past_of moments element.next) (omega (arith, long, later)))

  -- so an element to which nothing is told, and which isn't due, stands for one more millisecond
  pub stands-quiet : (n : ℕ) (element : ElementState) → IsInTime element (suc n) → StandsAfter set moments n element
      → moments n ≡ quiet_moment set (past_of moments n) → StandsAfter set moments (suc n) element
  stands-quiet n element in_time is none = record {
    settings = is.settings;
    in_time = in_time;
    stands = is.stands;
    quiet = past-quiet n element is none;
  }
