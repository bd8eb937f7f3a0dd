-- What holds of a refusal.
use Rattle.sync_text.specs.declared.errors.NoAnswer.{NoAnswer}
use Rattle.sync_text.specs.declared.errors.NoAnswer.TheVariants.{NoMemory, Refused}
use Rattle.sync_text.specs.Gives.{IfRefusal}

-- what holds of the refusal may be followed by more
pub refused-more : {E : Type 0} {P Q : E → Type 0} (failed : NoAnswer E) → ((error : E) → P error → Q error) → IfRefusal failed P → IfRefusal failed Q
refused-more NoMemory more holds = tt
refused-more (Refused error) more holds = more error holds
