-- Answers of tests, and what follows from two of them.
use Rattle.std.proofs.Common.{◌≡◌, Bool, true, false, ◌||◌, refl}
use Rattle.std.specs.Prelude.{if◌then◌else◌}
use Rattle.sync_text.specs.Tests.{differs}

-- answers that aren't other are the same
pub same-answer : (a b : Bool) → differs a b ≡ false → a ≡ b
same-answer true true none = refl
same-answer false false none = refl
same-answer true false none = absurd (cc)
same-answer false true none = absurd (cc)

pub answer-same : (a b : Bool) → a ≡ b → differs a b ≡ false
answer-same true true same = refl
answer-same false false same = refl
answer-same true false same = absurd (cc)
answer-same false true same = absurd (cc)

-- the second of two tests is enough
pub or-second : (a b : Bool) → b ≡ true → (a || b) ≡ true
or-second true b is = refl
or-second false b is = is

-- where both ways give the same, the test says nothing
pub if-same : {A : Type 0} (b : Bool) (x : A) → (if b then x else x) ≡ x
if-same true x = refl
if-same false x = refl
