-- Beside specs/Steps.antt, under no public clause: the steps of a text, which only clauses of private functions cite.
use Rattle.std.specs.Prelude.{◌≡◌, ℕ, ◌+◌, ◌<◌, Bool, true, false, List, [], ◌∷◌, ◌++◌, codes, length, take, drop, Option, None, Some, Result, Ok, Err, if◌then◌else◌}
use Rattle.std.specs.Borrow.{Bor}
use Rattle.std.specs.Str.{bytes_eq}
use Rattle.sync_text.specs.declared.errors.NoAnswer.{NoAnswer}
use Rattle.sync_text.specs.Gives.{Refuses}
use Rattle.capture_text.specs.declared.error.CaptureErr.{CaptureErr}
use Rattle.capture_text.specs.Row.{fields_behind}
use Rattle.esmc_frame.specs.declared.frame.Extended.{Extended}
use Rattle.hex.specs.Hex.{IsBytes}

-- the answer of a step that has made the value is the definition's
abbrev pub GivesThat : {A : Type 0} → Result (Unit {0}) (NoAnswer CaptureErr) → A → Result A CaptureErr → Type 0
GivesThat (Ok done) value answer = answer ≡ Ok value
GivesThat (Err failed) value answer = Refuses failed answer

-- a text, and what is put behind it
abbrev pub with_front : List ℕ → Result (List ℕ) CaptureErr → Result (List ℕ) CaptureErr
with_front front (Ok text) = Ok (front ++ text)
with_front front (Err refused) = Err refused

-- whether digits give octets, and these are put where they do
abbrev pub IsPut : {E : Type 0} → Result (List ℕ) E → Bool → List ℕ → Type 0
IsPut (Ok octets) is put = (is ≡ true) × (put ≡ octets)
IsPut (Err error) is put = is ≡ false

-- at most how many lines can still come
abbrev pub size_left : Option (Bor (List ℕ)) → ℕ
size_left None = 0
size_left (Some rest) = length rest.now + 1

-- whether the kind between the first two commas is that of an event message, and what stands behind them
abbrev pub kind_and_rest : List ℕ → Option (Bool × List ℕ)
kind_and_rest text =
    if bytes_eq (take 6 text) (codes ",info,") then Some (false, drop 6 text)
    else if bytes_eq (take 7 text) (codes ",event,") then Some (true, drop 7 text)
    else None

-- texts, each with a comma before it
abbrev pub with_commas : List (List ℕ) → List ℕ
with_commas [] = []
with_commas (text ∷ texts) = 44 ∷ text ++ with_commas texts

-- what stands behind the level in a row
abbrev pub behind_text : Option Extended → List ℕ
behind_text extended = with_commas (fields_behind extended)

-- the fields of an extended QL TLV are octets, eight of them the clock's
pub record AreOctets (extended : Extended) : Type 0 where
  pub eight : length extended.clock ≡ 8
  pub clock : IsBytes extended.clock
  pub flags : extended.flags < 256
  pub eeecs : extended.eeecs < 256
  pub eecs : extended.eecs < 256
