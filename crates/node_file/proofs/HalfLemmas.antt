-- Digits that are decoded into room for half as many octets.
use Rattle.std.proofs.Common.{◌≡◌, ◌/◌, ◌%◌, ◌==◌, ℕ, Bool, true, List, length, Result, Ok, Err, sym, ap, ◌∙◌, inl, inr, arith}
use Rattle.std.specs.Prelude.{is_ok, MatchResult}
use Rattle.std.proofs.lemmas.Bool.{cases_Bool, cond-true, cond-false}
use Rattle.std.proofs.lemmas.Bool.Decides.{nat_tests}
use Rattle.hex.specs.declared.error.FromHexError.{FromHexError}
use Rattle.hex.specs.Hex.{decode_of, decode_sized}
use Rattle.capture_text.specs.private.Steps.{IsPut}

-- into room for half as many octets a text is decoded as it is without bound
half_sized : (text : List ℕ) → decode_sized text (length text / 2) ≡ decode_of text
half_sized text =
    let half : (length text / 2 == length text / 2) ≡ true = grind (arith, nat_tests) in
    elim (cases_Bool (length text % 2 == 1)) [
      | inl odd ↦ cond-true _ _ _ odd ∙ sym (cond-true _ _ _ odd)
      | inr even ↦ cond-false _ _ _ even ∙ cond-true _ _ _ half ∙ sym (cond-false _ _ _ even)
    ]

-- what is put
put_is : (given : Result (List ℕ) FromHexError) (result : Result (Unit {0}) FromHexError) (out : List ℕ) (is : Bool) → MatchResult given (λ octets. (result ≡ Ok tt) × (out ≡ octets)) (λ error. result ≡ Err error) → is ≡ is_ok result → IsPut given is out
put_is (Ok octets) result out is says same = (same ∙ ap is_ok says.0, says.1)
put_is (Err error) result out is says same = same ∙ ap is_ok says

pub half_put : (digits room : List ℕ) (result : Result (Unit {0}) FromHexError) (out : List ℕ) (is : Bool) → MatchResult (decode_sized digits (length room)) (λ octets. (result ≡ Ok tt) × (out ≡ octets)) (λ error. result ≡ Err error) → length room ≡ length digits / 2 → is ≡ is_ok result → IsPut (decode_of digits) is out
half_put digits room result out is says half same =
    let given : decode_sized digits (length room) ≡ decode_of digits = ap (decode_sized digits) half ∙ half_sized digits in
    rw (← given) (put_is (decode_sized digits (length room)) result out is says same)
