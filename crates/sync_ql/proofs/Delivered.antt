-- A line is a delay: what it says is heard a delay later, and nothing that didn't arrive is heard.
use Rattle.std.proofs.lemmas.Bool.{eqb-true, and_parts}
use Rattle.std.proofs.lemmas.Bool.Decides.{nat_tests}
use Rattle.std.proofs.lemmas.Option.{none-some}
use Rattle.std.proofs.Math.Bool.{and-true}
use Rattle.std.proofs.Math.Decide.{dec_lt}
use Rattle.std.proofs.Common.{◌≡◌, ◌≤◌, ◌<◌, ℕ, zero, suc, ◌+◌, ◌%◌, Bool, true, false, not, ◌&&◌, ◌||◌, nat_eq, if◌then◌else◌, List, [], ◌∷◌, length, drop, take, Option, None, Some, is_some, refl, ap, sym, subst, ◌∙◌, arith}
use Rattle.sync_ql.specs.declared.levels.Level.{Level}
use Rattle.sync_ql.specs.declared.levels.NetOption.{NetOption}
use Rattle.sync_ql.specs.declared.levels.NetOption.TheVariants.{I, II}
use Rattle.sync_ql.specs.Level.{level_at}
use Rattle.sync_ql.specs.Pasts.{past_of, first_within}
use Rattle.sync_ql.specs.Messages.{LineMoment, said_in, said, is_same_option, is_same_level, is_sent, was_up, came, arrivals, heard_at, second, hearing_time}
use Rattle.sync_ql.proofs.Tables.{level_at-place}

pub length-past_of : {A : Type 0} (f : ℕ → A) (n : ℕ) → length (past_of f n) ≡ n
length-past_of f zero = refl
length-past_of f (suc n) = ap suc (length-past_of f n)

-- what stands a delay ago
pub drop-past : {A : Type 0} (f : ℕ → A) (d m n : ℕ) → m ≡ d + n → drop d (past_of f m) ≡ past_of f n
drop-past f zero m n same = ap (past_of f) (omega (arith, same))
drop-past f (suc d) zero n same = absurd (omega (arith, same))
drop-past f (suc d) (suc m) n same = drop-past f d m n (omega (arith, same))

-- the line was up from a millisecond on until another
pub up-since : (f : ℕ → LineMoment) (d from now : ℕ) → now ≡ d + from → ((u : ℕ) → from ≤ u → u ≤ now → (f u).up ≡ true) → was_up (take (suc d) (past_of f (suc now))) ≡ true
up-since f zero from now same up = rw (up now (omega (arith, same)) (omega arith)) refl
up-since f (suc d) from zero same up = absurd (omega (arith, same))
up-since f (suc d) from (suc now) same up =
    rw (up (suc now) (omega (arith, same)) (omega arith))
    (up-since f d from now (omega (arith, same)) (λ u after until. up u after (omega (arith, until))))

same_option-is : (a b : NetOption) → is_same_option a b ≡ true → a ≡ b
same_option-is I I same = refl
same_option-is II II same = refl
same_option-is I II same = cc
same_option-is II I same = cc

same_level : (a b : Level) → a.option ≡ b.option → a.place ≡ b.place → ◌≡◌ {A = Option Level} (Some a) (Some b)
same_level a b option place =
    sym (level_at-place a) ∙ ap (λ o. level_at o a.place) option ∙ ap (level_at b.option) place ∙ level_at-place b

pub same-is : (a b : Option Level) → is_same_level a b ≡ true → a ≡ b
same-is None None same = refl
same-is (Some a) (Some b) same =
    let both = and_parts (is_same_option a.option b.option) (nat_eq a.place b.place) same in
    same_level a b (same_option-is a.option b.option both.0) (eqb-true a.place b.place both.1)
same-is None (Some b) same = cc
same-is (Some a) None same = cc

-- what is not sent though the line speaks is no news, and its millisecond is no whole second
pub record IsUnsent (now : LineMoment) (before : List LineMoment) : Type 0 where
  pub same : said_in now ≡ said before
  pub no_second : nat_eq (length before % second) 0 ≡ false

unsent_parts : (same whole : Bool) → (not same || whole) ≡ false → (same ≡ true) × (whole ≡ false)
unsent_parts true false none = (refl, refl)
unsent_parts true true none = cc
unsent_parts false whole none = cc

unsent : (now : LineMoment) (before : List LineMoment) (level : Level) → said_in now ≡ Some level → is_sent (now ∷ before) ≡ false → IsUnsent now before
unsent now before level says none =
    let some : is_some (said_in now) ≡ true = ap is_some says in
    let here : (not (is_same_level (said_in now) (said before)) || nat_eq (length before % second) 0) ≡ false =
    sym (rw some refl) ∙ none in
    let both = unsent_parts (is_same_level (said_in now) (said before)) (nat_eq (length before % second) 0) here in
    record { same = same-is (said_in now) (said before) both.0; no_second = both.1 }

-- on a line that was up since, what arrives is what went out a delay ago
came-up : (f : ℕ → LineMoment) (d from now : ℕ) → now ≡ d + from → ((u : ℕ) → from ≤ u → u ≤ now → (f u).up ≡ true)
    → came d (past_of f (suc now)) ≡ (if is_sent (past_of f (suc from)) then said_in (f from) else None)
unfolding came
came-up f d from now same up =
    let ago = drop-past f d (suc now) (suc from) (omega (arith, same)) in
    ap (λ dropped. if is_sent dropped && was_up (take (suc d) (past_of f (suc now))) then said dropped else None) ago
    ∙ ap (λ b. if is_sent (past_of f (suc from)) && b then said_in (f from) else None) (up-since f d from now same up)
    ∙ ap (λ b. if b then said_in (f from) else None) (and-true (is_sent (past_of f (suc from))))

not_second : (r n : ℕ) → nat_eq (suc r % second) 0 ≡ false → suc r % second < suc n → r % second < n
not_second r n none soon = grind (arith, nat_tests)

-- one millisecond more of a line that speaks on with one level
one-more : (f : ℕ → LineMoment) (level : Level) (d n from now : ℕ) → now ≡ d + from → from % second < suc n
    → said_in (f from) ≡ Some level → ((u : ℕ) → from ≤ u → u ≤ now → (f u).up ≡ true)
    → ((r m : ℕ) → m ≡ d + r → r % second < n → said_in (f r) ≡ Some level → ((u : ℕ) → r ≤ u → u ≤ m → (f u).up ≡ true)
    → first_within n (arrivals d (past_of f (suc m))) ≡ Some level)
    → first_within (suc n) (arrivals d (past_of f (suc now))) ≡ Some level
one-more f level d n from now same soon says up earlier =
    ap (λ came. first_within (suc n) (came ∷ arrivals d (past_of f now))) (came-up f d from now same up)
    ∙ by (is_sent (past_of f (suc from))) refl
  where
    up_before : (r : ℕ) → said (past_of f (suc r)) ≡ Some level → (f r).up ≡ true
    up_before r says = of (f r).up (f r).esmc refl says
      where
        of : (up esmc : Bool) → (f r).up ≡ up → (if up && esmc then (f r).level else None) ≡ Some level → (f r).up ≡ true
        of true esmc is says = is
        of false esmc is says = cc

    silent : (r m : ℕ) → from ≡ r → now ≡ m → IsUnsent (f from) (past_of f from) → first_within n (arrivals d (past_of f m)) ≡ Some level
    silent zero m at_from at_now last = absurd (none-some level (ap (λ k. said (past_of f k)) (sym at_from) ∙ sym last.same ∙ says))
    silent (suc r) zero at_from at_now last = absurd (omega (arith, same, at_from, at_now))
    silent (suc r) (suc m) at_from at_now last =
        let says_before : said_in (f r) ≡ Some level = ap (λ k. said (past_of f k)) (sym at_from) ∙ sym last.same ∙ says in
        earlier r m (omega (arith, same, at_from, at_now))
        (not_second r n (subst (λ k. nat_eq (k % second) 0 ≡ false) (length-past_of f from ∙ at_from) last.no_second) (subst (λ k. k % second < suc n) at_from soon))
        says_before
        (λ u after until. elim (dec_lt r u) [
          | yes later ↦ up u (omega (arith, at_from, later)) (omega (arith, at_now, until))
          | no here ↦ subst (λ k. (f k).up ≡ true) (omega (arith, here, after)) (up_before r says_before)
        ])

    by : (sent : Bool) → is_sent (past_of f (suc from)) ≡ sent → first_within (suc n) ((if sent then said_in (f from) else None) ∷ arrivals d (past_of f now)) ≡ Some level
    by true sent = ap (λ said. first_within (suc n) (said ∷ arrivals d (past_of f now))) says
    by false unsent_here = silent from now refl refl (unsent (f from) (past_of f from) level says unsent_here)

heard-within : (f : ℕ → LineMoment) (level : Level) (d n from now : ℕ) → now ≡ d + from → from % second < n
    → said_in (f from) ≡ Some level → ((u : ℕ) → from ≤ u → u ≤ now → (f u).up ≡ true)
    → first_within n (arrivals d (past_of f (suc now))) ≡ Some level
heard-within f level d zero from now same soon says up = absurd (omega (arith, soon))
heard-within f level d (suc n) from now same soon says up = one-more f level d n from now same soon says up (heard-within f level d n)

-- what a line says is heard a delay later, if it was up since
pub heard-delivered : (f : ℕ → LineMoment) (level : Level) (d from now : ℕ) → now ≡ d + from
    → said_in (f from) ≡ Some level → ((u : ℕ) → from ≤ u → u ≤ now → (f u).up ≡ true)
    → heard_at d (past_of f (suc now)) ≡ Some level
unfolding heard_at
heard-delivered f level d from now same says up = heard-within f level d hearing_time from now same (omega arith) says up

-- nothing is heard where nothing arrived in so many milliseconds
none-within : (f : ℕ → LineMoment) (d n now : ℕ) → ((a : ℕ) → a ≤ now → now < a + n → came d (past_of f (suc a)) ≡ None)
    → first_within n (arrivals d (past_of f (suc now))) ≡ None
none-within f d zero now none = refl
none-within f d (suc n) zero none = rw (none 0 (omega arith) (omega arith)) (empty n)
  where
    empty : (k : ℕ) → first_within k (arrivals d []) ≡ None
    empty zero = refl
    empty (suc k) = refl
none-within f d (suc n) (suc now) none =
    rw (none (suc now) (omega arith) (omega arith))
    (none-within f d n now (λ a until recent. none a (omega (arith, until)) (omega (arith, recent))))

pub unheard-none : (f : ℕ → LineMoment) (d now : ℕ) → ((a : ℕ) → a ≤ now → now < a + hearing_time → came d (past_of f (suc a)) ≡ None)
    → heard_at d (past_of f (suc now)) ≡ None
unfolding heard_at
unheard-none f d now none = none-within f d hearing_time now none

-- what arrived last is heard for five seconds
last-within : (f : ℕ → LineMoment) (level : Level) (d n a now : ℕ) → a ≤ now → came d (past_of f (suc a)) ≡ Some level
    → ((b : ℕ) → a < b → b ≤ now → came d (past_of f (suc b)) ≡ None) → now < a + n
    → first_within n (arrivals d (past_of f (suc now))) ≡ Some level
last-within f level d zero a now until came_at none recent = absurd (omega (arith, recent, until))
last-within f level d (suc n) a zero until came_at none recent =
    let same : a ≡ 0 = omega (arith, until) in
    rw (subst (λ k. came d (past_of f (suc k)) ≡ Some level) same came_at) refl
last-within f level d (suc n) a (suc now) until came_at none recent = elim (dec_lt a (suc now)) [
  | yes later ↦ rw (none (suc now) later (omega arith))
      (last-within f level d n a now (omega (arith, later)) came_at (λ b after b_until. none b after (omega (arith, b_until))) (omega (arith, recent)))
  | no here ↦ let same : a ≡ suc now = omega (arith, here, until) in
      rw (subst (λ k. came d (past_of f (suc k)) ≡ Some level) same came_at) refl
]

pub heard-last : (f : ℕ → LineMoment) (level : Level) (d a now : ℕ) → a ≤ now → came d (past_of f (suc a)) ≡ Some level
    → ((b : ℕ) → a < b → b ≤ now → came d (past_of f (suc b)) ≡ None) → now < a + hearing_time
    → heard_at d (past_of f (suc now)) ≡ Some level
unfolding heard_at
heard-last f level d a now until came_at none recent = last-within f level d hearing_time a now until came_at none recent

-- what arrives, and so what is heard, doesn't depend on what is said in the millisecond itself
pub came-head : (d : ℕ) (a b : LineMoment) (before : List LineMoment) → 1 ≤ d → a.up ≡ b.up → came d (a ∷ before) ≡ came d (b ∷ before)
unfolding came
came-head zero a b before low up = absurd (omega (arith, low))
came-head (suc d) a b before low up = rw up refl

pub heard_at-head : (d : ℕ) (a b : LineMoment) (before : List LineMoment) → 1 ≤ d → a.up ≡ b.up → heard_at d (a ∷ before) ≡ heard_at d (b ∷ before)
unfolding heard_at
heard_at-head d a b before low up = ap (λ came. first_within hearing_time (came ∷ arrivals d before)) (came-head d a b before low up)
