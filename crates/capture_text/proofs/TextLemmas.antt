-- A text that grows line by line.
use Rattle.std.proofs.Common.{◌≡◌, ℕ, ◌+◌, List, [], ◌∷◌, ◌++◌, Result, Ok, Err, refl, sym, ap, append_assoc, append-nil, ◌∙◌}
use Rattle.capture_text.specs.declared.error.CaptureErr.{CaptureErr}
use Rattle.sync_text.specs.declared.errors.NoAnswer.{NoAnswer}
use Rattle.sync_text.specs.declared.errors.NoAnswer.TheVariants.{NoMemory, Refused}
use Rattle.sync_text.specs.Gives.{Refuses}
use Rattle.sync_text.specs.Chain.{◌>>=◌}
use Rattle.capture_text.specs.Capture.{text_of_lines}
use Rattle.capture_text.specs.private.Steps.{with_front}

joined : (front : List ℕ) (line rest : Result (List ℕ) CaptureErr) → with_front front (line >>= (λ text. rest >>= (λ more. Ok (text ++ more)))) ≡ (with_front front line >>= (λ new. with_front new rest))
joined front (Ok text) (Ok more) = ap Ok (sym (append_assoc front text more))
joined front (Ok text) (Err refused) = refl
joined front (Err refused) rest = refl

-- the text of a line goes to the text before it
pub with_line : (text_of_line : ℕ → List ℕ → Result (List ℕ) CaptureErr) (n : ℕ) (line : List ℕ) (lines : List (List ℕ)) (front new : List ℕ) → with_front front (text_of_line n line) ≡ Ok new → with_front front (text_of_lines text_of_line n (line ∷ lines)) ≡ with_front new (text_of_lines text_of_line (n + 1) lines)
with_line text_of_line n line lines front new put = rw (joined front (text_of_line n line) (text_of_lines text_of_line (n + 1) lines), put) refl

stays : (failed : NoAnswer CaptureErr) {A B : Type 0} (answer : Result A CaptureErr) (next : A → Result B CaptureErr) → Refuses failed answer → Refuses failed (answer >>= next)
stays NoMemory answer next refused = tt
stays (Refused error) answer next refused = rw refused refl

-- where no line is left, the text is the whole text
pub all_lines : (text : List ℕ) (whole : Result (List ℕ) CaptureErr) → with_front text (Ok []) ≡ whole → whole ≡ Ok text
all_lines text whole is = sym is ∙ ap Ok (append-nil text)
