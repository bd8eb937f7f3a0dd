-- What a call answers that may refuse what it is given, or be out of memory, by what its definition gives.
use Rattle.std.specs.Prelude.{◌≡◌, ⊤, Result, Ok, Err}
use Rattle.sync_text.specs.declared.errors.NoAnswer.{NoAnswer}
use Rattle.sync_text.specs.declared.errors.NoAnswer.TheVariants.{NoMemory, Refused}

-- what holds of the refusal; out of memory says nothing
abbrev pub IfRefusal : {E : Type 0} → NoAnswer E → (E → Type 0) → Type 0
IfRefusal NoMemory Fact = ⊤
IfRefusal (Refused error) Fact = Fact error

-- the same of an answer; a value says nothing
abbrev pub IfRefused : {A E : Type 0} → Result A (NoAnswer E) → (E → Type 0) → Type 0
IfRefused (Ok value) Fact = ⊤
IfRefused (Err failed) Fact = IfRefusal failed Fact

-- the refusal is the definition's; out of memory says nothing
abbrev pub Refuses : {A E : Type 0} → NoAnswer E → Result A E → Type 0
Refuses failed answer = IfRefusal failed (λ error. answer ≡ Err error)

-- the answer is the definition's, value or refusal; out of memory says nothing
abbrev pub Gives : {A E : Type 0} → Result A (NoAnswer E) → Result A E → Type 0
Gives (Ok value) answer = answer ≡ Ok value
Gives (Err failed) answer = Refuses failed answer
