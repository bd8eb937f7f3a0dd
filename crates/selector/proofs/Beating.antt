-- Of two inputs, which beats which.
use Rattle.std.proofs.Common.{◌≡◌, ℕ, Bool, true, false, ◌&&◌, ◌||◌, nat_lt, nat_eq, Option, None, Some, refl, arith}
use Rattle.std.proofs.lemmas.Bool.Decides.{nat_tests}
use Rattle.sync_ql.specs.declared.levels.Level.{Level}
use Rattle.sync_ql.specs.declared.rules.Candidate.{Candidate}
use Rattle.sync_ql.specs.Level.{place_of}
use Rattle.sync_ql.specs.Selection.{is_above_do_not_use, is_eligible, is_better, is_as_good, beats}

-- one place and priority number comes before another
abbrev ahead : ℕ → ℕ → ℕ → ℕ → Bool
ahead x p y q = nat_lt x y || nat_eq x y && nat_lt p q

not_ahead-trans : (x y z p q r : ℕ) → ahead x p y q ≡ false → ahead y q z r ≡ false → ahead x p z r ≡ false
not_ahead-trans x y z p q r first second = grind (arith, nat_tests)

not_better-trans : (x y z p q : ℕ) → ahead x p y q ≡ false → nat_lt y z ≡ false → nat_lt x z ≡ false
not_better-trans x y z p q first second = grind (arith, nat_tests)

-- the same by levels and priority numbers
abbrev by : Option Level → ℕ → Option Level → ℕ → Bool
by x p y q = is_better x y || is_as_good x y && nat_lt p q

not_by-trans : (x y z : Option Level) (p q r : ℕ) (u : Bool) → (u && is_above_do_not_use y) ≡ true → by x p y q ≡ false → by y q z r ≡ false → by x p z r ≡ false
not_by-trans (Some x) (Some y) (Some z) p q r u eligible first second = not_ahead-trans (place_of x) (place_of y) (place_of z) p q r first second
not_by-trans None y z p q r u eligible first second = refl
not_by-trans (Some x) y None p q r u eligible first second = refl
not_by-trans (Some x) None (Some z) p q r true eligible first second = absurd (cc)
not_by-trans (Some x) None (Some z) p q r false eligible first second = absurd (cc)

no_better-by : (x y z : Option Level) (p q : ℕ) (u : Bool) → (u && is_above_do_not_use y) ≡ true → by x p y q ≡ false → is_better y z ≡ false → is_better x z ≡ false
no_better-by (Some x) (Some y) (Some z) p q u eligible first second = not_better-trans (place_of x) (place_of y) (place_of z) p q first second
no_better-by None y z p q u eligible first second = refl
no_better-by (Some x) y None p q u eligible first second = refl
no_better-by (Some x) None (Some z) p q true eligible first second = absurd (cc)
no_better-by (Some x) None (Some z) p q false eligible first second = absurd (cc)

-- what doesn't beat an eligible input beats none that this one doesn't beat
pub not_beats-trans : (a b c : Candidate) → is_eligible b ≡ true → beats a b ≡ false → beats b c ≡ false → beats a c ≡ false
not_beats-trans a b c eligible first second = not_by-trans a.level b.level c.level a.priority b.priority c.priority b.usable eligible first second

-- and has no level that is better than one than which this one's isn't better
pub no_better-trans : (a b c : Candidate) → is_eligible b ≡ true → beats a b ≡ false → is_better b.level c.level ≡ false → is_better a.level c.level ≡ false
no_better-trans a b c eligible first second = no_better-by a.level b.level c.level a.priority b.priority b.usable eligible first second
