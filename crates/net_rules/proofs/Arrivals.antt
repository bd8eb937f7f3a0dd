-- What arrives on a line, and from when it is.
use Rattle.std.proofs.Common.{◌≡◌, ◌≤◌, ◌<◌, ◌+◌, ◌-◌, ◌⊎◌, ℕ, zero, suc, Bool, true, false, ◌&&◌, List, [], drop, take, None, is_some, refl, ap, sym, subst, inl, inr, arith, Some, Option, ◌∷◌, ◌∙◌}
use Rattle.std.specs.Prelude.{if◌then◌else◌}
use Rattle.std.proofs.Math.Decide.{dec_lt}
use Rattle.std.proofs.lemmas.Bool.{and_parts}
use Rattle.std.proofs.lemmas.Option.{none-some}
use Rattle.sync_ql.specs.declared.levels.Level.{Level}
use Rattle.sync_ql.specs.Pasts.{past_of, first_within}
use Rattle.sync_ql.specs.Messages.{LineMoment, said_in, said, is_sent, was_up, came, heard_at, hearing_time, arrives, arrivals}
use Rattle.sync_ql.proofs.Delivered.{drop-past, unheard-none}

drop-none : {A : Type 0} (f : ℕ → A) (d n : ℕ) → n ≤ d → drop d (past_of f n) ≡ []
drop-none f zero zero early = refl
drop-none f (suc d) zero early = refl
drop-none f zero (suc n) early = absurd (omega (arith, early))
drop-none f (suc d) (suc n) early = drop-none f d n (omega (arith, early))

-- a line that was up in its last milliseconds was up in each of them
pub up-in : (f : ℕ → LineMoment) (d from now : ℕ) → now ≡ d + from → was_up (take (suc d) (past_of f (suc now))) ≡ true
    → (u : ℕ) → from ≤ u → u ≤ now → (f u).up ≡ true
up-in f zero from now same up u after until =
    let here : u ≡ now = omega (arith, same, after, until) in
    subst (λ k. (f k).up ≡ true) (sym here) (and_parts (f now).up (was_up (take zero (past_of f now))) up).0
up-in f (suc d) from zero same up u after until = absurd (omega (arith, same))
up-in f (suc d) from (suc now) same up u after until =
    let both = and_parts (f (suc now)).up (was_up (take (suc d) (past_of f (suc now)))) up in
    elim (dec_lt now u) [
      | yes last ↦ let here : u ≡ suc now = omega (arith, last, until) in subst (λ k. (f k).up ≡ true) (sym here) both.0
      | no earlier ↦ up-in f d from now (omega (arith, same)) both.1 u after (omega (arith, earlier))
    ]

-- a message arrives that went out a delay ago
pub record CameFrom (f : ℕ → LineMoment) (d now : ℕ) : Type 0 where
  pub from : ℕ
  pub ago : now ≡ d + from
  pub sent : is_sent (past_of f (suc from)) ≡ true
  pub up : (u : ℕ) → from ≤ u → u ≤ now → (f u).up ≡ true

pub came-or_not : (f : ℕ → LineMoment) (d now : ℕ) → CameFrom f d now ⊎ (came d (past_of f (suc now)) ≡ None)
unfolding came
came-or_not f d now = elim (dec_lt now d) [
  | yes early ↦ inr (ap (λ dropped. if is_sent dropped && was_up (take (suc d) (past_of f (suc now))) then said dropped else None) (drop-none f d (suc now) (omega (arith, early))))
  | no late ↦ by_from (now - d) (omega (arith, late))
]
  where
    by_from : (from : ℕ) → now ≡ d + from → CameFrom f d now ⊎ ((if is_sent (drop d (past_of f (suc now))) && was_up (take (suc d) (past_of f (suc now))) then said (drop d (past_of f (suc now))) else None) ≡ None)
    by_from from same =
        by (is_sent (past_of f (suc from))) (was_up (take (suc d) (past_of f (suc now)))) refl refl
      where
        ago : drop d (past_of f (suc now)) ≡ past_of f (suc from)
        ago = drop-past f d (suc now) (suc from) (omega (arith, same))

        by : (sent up : Bool) → is_sent (past_of f (suc from)) ≡ sent → was_up (take (suc d) (past_of f (suc now))) ≡ up
            → CameFrom f d now ⊎ ((if is_sent (drop d (past_of f (suc now))) && was_up (take (suc d) (past_of f (suc now))) then said (drop d (past_of f (suc now))) else None) ≡ None)
        by true true is_here up = inl (record { from = from; ago = same; sent = is_here; up = up-in f d from now same up })
        by false up is_none _ = inr (rw (ago, is_none) refl)
        by true false is_here down = inr (rw (ago, is_here, down) refl)

-- what went out was said
pub sent-said : (f : ℕ → LineMoment) (from : ℕ) → is_sent (past_of f (suc from)) ≡ true → is_some (said_in (f from)) ≡ true
sent-said f from sent = (and_parts (is_some (said_in (f from))) _ sent).0

-- nothing is heard where nothing went out that could have arrived in five seconds
pub unheard : (f : ℕ → LineMoment) (d now : ℕ)
    → ((from : ℕ) → d + from ≤ now → now < d + from + hearing_time → ((u : ℕ) → from ≤ u → u ≤ d + from → (f u).up ≡ true) → is_sent (past_of f (suc from)) ≡ true → ⊥)
    → heard_at d (past_of f (suc now)) ≡ None
unheard f d now none = unheard-none f d now (λ a until recent. elim (came-or_not f d a) [
  | inl c ↦ absurd (none c.from (omega (arith, c.ago, until)) (omega (arith, c.ago, recent)) (λ u after before. c.up u after (omega (arith, c.ago, before))) c.sent)
  | inr nothing ↦ nothing
])

-- what arrives was said a delay ago
pub came-said : (f : ℕ → LineMoment) (d from now : ℕ) (level : Level) → now ≡ d + from → came d (past_of f (suc now)) ≡ Some level → said_in (f from) ≡ Some level
unfolding came
came-said f d from now level same is = of (arrives d (past_of f (suc now))) is
  where
    of : (b : Bool) → (if b then said (drop d (past_of f (suc now))) else None) ≡ Some level → said_in (f from) ≡ Some level
    of true is = ap said (sym (drop-past f d (suc now) (suc from) (omega (arith, same)))) ∙ is
    of false is = absurd (none-some level is)

-- a level that is heard arrived not longer ago than five seconds
pub record Heard (f : ℕ → LineMoment) (d n now : ℕ) (level : Level) : Type 0 where
  pub at : ℕ
  pub until : at ≤ now
  pub recent : now < at + n
  pub came_then : came d (past_of f (suc at)) ≡ Some level

heard_when : (f : ℕ → LineMoment) (d n now : ℕ) (level : Level) → first_within n (arrivals d (past_of f (suc now))) ≡ Some level → Heard f d n now level
heard_when f d zero now level is = absurd (none-some level is)
heard_when f d (suc n) zero level is = of (came d (past_of f 1)) refl is
  where
    empty : (k : ℕ) → first_within k (arrivals d (past_of f 0)) ≡ None
    empty zero = refl
    empty (suc k) = refl

    of : (o : Option Level) → came d (past_of f 1) ≡ o → first_within (suc n) (o ∷ arrivals d (past_of f 0)) ≡ Some level → Heard f d (suc n) zero level
    of (Some own) at here = record { at = 0; until = omega arith; recent = omega arith; came_then = at ∙ here }
    of None at here = absurd (none-some level (sym (empty n) ∙ here))
heard_when f d (suc n) (suc now) level is = of (came d (past_of f (suc (suc now)))) refl is (heard_when f d n now level)
  where
    of : (o : Option Level) → came d (past_of f (suc (suc now))) ≡ o → first_within (suc n) (o ∷ arrivals d (past_of f (suc now))) ≡ Some level
        → (first_within n (arrivals d (past_of f (suc now))) ≡ Some level → Heard f d n now level) → Heard f d (suc n) (suc now) level
    of (Some own) at here earlier = record { at = suc now; until = omega arith; recent = omega arith; came_then = at ∙ here }
    of None at here earlier =
        let h = earlier here in
        record { at = h.at; until = omega (arith, h.until); recent = omega (arith, h.recent); came_then = h.came_then }

heard_in : (f : ℕ → LineMoment) (d now : ℕ) (level : Level) → heard_at d (past_of f (suc now)) ≡ Some level → Heard f d hearing_time now level
unfolding heard_at
heard_in f d now level is = heard_when f d hearing_time now level is

-- and was said a delay before that, and the line was up since
pub heard-said : (f : ℕ → LineMoment) (level : Level) (d now : ℕ) → heard_at d (past_of f (suc now)) ≡ Some level
    → (from : ℕ) × (from + d ≤ now) × (now < from + d + 5000) × (said_in (f from) ≡ Some level) × ((t : ℕ) → from ≤ t → t ≤ from + d → (f t).up ≡ true)
heard-said f level d now is =
    let h = heard_in f d now level is in
    elim (came-or_not f d h.at) [
      | inl c ↦ (
        c.from,
        omega (arith, c.ago, h.until),
        omega (arith, c.ago, h.recent),
        came-said f d c.from h.at level c.ago h.came_then,
        λ t after before. c.up t after (omega (arith, c.ago, before)),
      )
      | inr nothing ↦ absurd (none-some level (sym nothing ∙ h.came_then))
    ]

-- what is heard arrives in this millisecond, or was heard in the one before
first_more : {A : Type 0} (n : ℕ) (xs : List (Option A)) (x : A) → first_within n xs ≡ Some x → first_within (suc n) xs ≡ Some x
first_more zero xs x is = absurd (none-some x is)
first_more (suc n) [] x is = absurd (none-some x is)
first_more (suc n) (Some y ∷ xs) x is = is
first_more (suc n) (None ∷ xs) x is = first_more n xs x is

pub heard-came : (f : ℕ → LineMoment) (d t : ℕ) (level : Level) → heard_at d (past_of f (suc (suc t))) ≡ Some level
    → (came d (past_of f (suc (suc t))) ≡ Some level) ⊎ (heard_at d (past_of f (suc t)) ≡ Some level)
unfolding heard_at
heard-came f d t level is = of (came d (past_of f (suc (suc t)))) is
  where
    of : (o : Option Level) → first_within hearing_time (o ∷ arrivals d (past_of f (suc t))) ≡ Some level
        → (o ≡ Some level) ⊎ (first_within hearing_time (arrivals d (past_of f (suc t))) ≡ Some level)
    of (Some own) here = inl here
    of None earlier = inr (first_more 4999 (arrivals d (past_of f (suc t))) level earlier)
