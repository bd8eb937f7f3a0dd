-- Numbers: what `parse` gives, and that reading and writing are inverse.
use Rattle.std.proofs.Common.{◌≡◌, ℕ, ◌==◌, ◌^◌, ◌<◌, true, false, ◌&&◌, ◌||◌, List, [], ◌∷◌, length, get_or, Some, None, Result, Ok, Err, inl, inr, ltb, refl, sym, ap, ◌∙◌, arith, rules, lit<}
use Rattle.std.specs.Result.{OkIff, result_ok}
use Rattle.std.specs.Str.{all_ascii_digits, IsUtf8, IsAscii}
use Rattle.std.specs.Str.Parse.{ParsesUnsigned}
use Rattle.std.specs.Char.{is_ascii_digit}
use Rattle.std.specs.Fmt.{decimal}
use Rattle.std.proofs.lemmas.Bool.{cases_Bool, and_parts, cond-false, cond-true, not-true, ltb-true, eqb-true, eqb-false, both_ways, or_cases, or_parts, cases_eq}
use Rattle.std.proofs.lemmas.Bool.Decides.{nat_tests}
use Rattle.std.proofs.lemmas.Str.{IsUtf8-from_ascii}
use Rattle.std.proofs.lemmas.Str.Ascii.{IsAscii-nil, IsAscii-cons}
use Rattle.std.proofs.lemmas.Str.Parse.{IsNumeralModel, numerals_by_weight, tells_all_ascii_digits, parse_plain}
use Rattle.std.proofs.lemmas.Fmt.{decimal-digits_value, digits_decimal, digits_value-decimal, decimal_nonempty, first_decimal, decimal_digit}
use Rattle.sync_text.specs.Number.{is_padded, is_decimal, value_of, number_of}

-- the words of std for decimal digits are those of this crate
pub own : IsNumeralModel (λ ds. all_ascii_digits ds ≡ true) value_of
own = numerals_by_weight _ tells_all_ascii_digits value_of (search rules)

-- a decimal below 2^64 is its value
pub number_of_value : (bs : List ℕ) → all_ascii_digits bs ≡ true → 0 < length bs → is_padded bs ≡ false → value_of bs < 2 ^ 64 → number_of bs ≡ Some (value_of bs)
unfolding number_of
number_of_value bs digits some plain small = grind (arith, nat_tests)

-- a decimal that is small enough
pub record IsDecimal (bs : List ℕ) : Type 0 where
  pub some : 0 < length bs
  pub digits : all_ascii_digits bs ≡ true
  pub plain : is_padded bs ≡ false
  pub small : value_of bs < 2 ^ 64

-- the parts of the test
pub decimal_parts : (bs : List ℕ) → (is_decimal bs && ltb (value_of bs) (2 ^ 64)) ≡ true → IsDecimal bs
decimal_parts bs all =
    let parts = and_parts _ _ all in
    let front = and_parts _ _ parts.0 in
    let first = and_parts _ _ front.0 in
    record { some = ltb-true _ _ first.0; digits = first.1; plain = not-true _ front.1; small = ltb-true _ _ parts.1 }

-- bytes that are no such decimal are no number
pub number_of_none : (bs : List ℕ) → (IsDecimal bs → ⊥) → number_of bs ≡ None
unfolding number_of
number_of_none bs never =
    elim (cases_Bool (is_decimal bs && ltb (value_of bs) (2 ^ 64))) [
      | inl all ↦ absurd (never (decimal_parts bs all))
      | inr not_all ↦ cond-false _ _ _ not_all
    ]

-- a number's bytes are such a decimal, of that value
pub number_of_some : (bs : List ℕ) (n : ℕ) → number_of bs ≡ Some n → IsDecimal bs × (value_of bs ≡ n)
unfolding number_of
number_of_some bs n e =
    elim (cases_Bool (is_decimal bs && ltb (value_of bs) (2 ^ 64))) [
      | inl all ↦ let value : number_of bs ≡ Some (value_of bs) = cond-true _ _ _ all in (decimal_parts bs all, cc)
      | inr not_all ↦ let none : number_of bs ≡ None = cond-false _ _ _ not_all in absurd (cc)
    ]

digit_ascii : (c : ℕ) → is_ascii_digit c ≡ true → c < 128
digit_ascii c e = grind (arith, nat_tests)

-- digits are text
pub digits_ascii : (bs : List ℕ) → all_ascii_digits bs ≡ true → IsAscii bs
digits_ascii [] e = IsAscii-nil
digits_ascii (c ∷ cs) e =
    let parts = and_parts _ _ e in
    IsAscii-cons c cs (digit_ascii c parts.0) (digits_ascii cs parts.1)

-- bytes that are no text are no number
pub no_text : (bs : List ℕ) → ¬ (IsUtf8 bs) → number_of bs ≡ None
no_text bs never = number_of_none bs (λ own. never (IsUtf8-from_ascii bs (digits_ascii bs own.digits)))

not_plus : (c : ℕ) → is_ascii_digit c ≡ true → c ≡ 43 → ⊥
not_plus c digit plus = grind (arith, nat_tests)

-- a plus sign is no digit
no_plus : (bs : List ℕ) → all_ascii_digits bs ≡ true → get_or bs 0 0 ≡ 43 → ⊥
no_plus [] digits plus = omega arith
no_plus (c ∷ cs) digits plus = not_plus c (and_parts _ _ digits).0 plus

-- bytes that begin with a sign or a padding zero are no number
pub wrong_start : (bs : List ℕ) → (is_padded bs || (get_or bs 0 0 == 43)) ≡ true → number_of bs ≡ None
wrong_start bs wrong =
    number_of_none bs (λ own. elim (or_cases _ _ wrong) [
      | inl padded ↦ both_ways _ own.plain padded
      | inr plus ↦ no_plus bs own.digits (eqb-true _ _ plus)
    ])

number_from_result : {E : Type 0} (bs : List ℕ) (r : Result ℕ E) → OkIff r ((all_ascii_digits bs ≡ true) × (0 < length bs) × (value_of bs < 2 ^ 64)) (value_of bs) → is_padded bs ≡ false → result_ok r ≡ number_of bs
number_from_result bs (Ok n) h plain = ap Some h.1 ∙ sym (number_of_value bs h.0.0 h.0.1 plain h.0.2)
number_from_result bs (Err e) h plain = sym (number_of_none bs (λ own. h (own.digits, own.some, own.small)))

-- what `parse` gives for bytes with neither a sign nor a padding zero
pub number_from_parse : {E : Type 0} (bs : List ℕ) (r : Result ℕ E) → ParsesUnsigned 64 10 bs r → (is_padded bs || (get_or bs 0 0 == 43)) ≡ false → result_ok r ≡ number_of bs
number_from_parse bs r h plain =
    let parts = or_parts _ _ plain in
    number_from_result bs r (parse_plain own 64 bs r h (eqb-false _ _ parts.1)) parts.0

alone : (bs : List ℕ) → is_padded bs ≡ false → 0 < length bs → get_or bs 0 0 ≡ 48 → length bs ≡ 1
alone [] plain some zero = omega arith
alone (c ∷ cs) plain some zero = grind (arith, nat_tests)

-- a number's bytes are what std writes for it
pub decimal_number_of : (bs : List ℕ) (n : ℕ) → number_of bs ≡ Some n → bs ≡ decimal n
decimal_number_of bs n e =
    let is = number_of_some bs n e in
    sym (decimal-digits_value own bs is.0.digits is.0.some (alone bs is.0.plain is.0.some) is.0.small) ∙ ap decimal is.1

plain_above : (bs : List ℕ) → 48 < get_or bs 0 0 → is_padded bs ≡ false
plain_above [] above = refl
plain_above (c ∷ cs) above = grind (arith, nat_tests)

plain_decimal : (n : ℕ) → n < 2 ^ 64 → is_padded (decimal n) ≡ false
plain_decimal n small = elim (cases_eq n 0) [
  | inl zero ↦ rw (zero, decimal_digit 0 (lit< tt)) refl
  | inr above ↦ plain_above (decimal n) (first_decimal n (omega arith) small)
]

-- what std writes for a number is read as that number
pub number_of_decimal : (bs : List ℕ) (n : ℕ) → n < 2 ^ 64 → bs ≡ decimal n → number_of bs ≡ Some n
number_of_decimal bs n small e =
    rw e (number_of_value (decimal n) (digits_decimal own n small) (decimal_nonempty n small) (plain_decimal n small)
    (rw (digits_value-decimal own n small) small) ∙ ap Some (digits_value-decimal own n small))
