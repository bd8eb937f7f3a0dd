-- Beside specs/Gives.antt, under no public clause: answers whose values stand for what `see` makes of them.
use Rattle.std.specs.Prelude.{◌≡◌, Result, Ok, Err}
use Rattle.sync_text.specs.declared.errors.NoAnswer.{NoAnswer}
use Rattle.sync_text.specs.Gives.{Refuses}

-- the answer is the definition's, value or refusal
abbrev pub Sees : {A B E : Type 0} → (A → B) → Result A E → Result B E → Type 0
Sees see (Ok value) answer = answer ≡ Ok (see value)
Sees see (Err error) answer = answer ≡ Err error

-- the same, and out of memory says nothing
abbrev pub GivesBy : {A B E : Type 0} → (A → B) → Result A (NoAnswer E) → Result B E → Type 0
GivesBy see (Ok value) answer = answer ≡ Ok (see value)
GivesBy see (Err failed) answer = Refuses failed answer
