-- The codes that the text of a level stands for.
use Rattle.std.proofs.Common.{◌≡◌, ◌<◌, ◌&&◌, ℕ, ◌+◌, zero, suc, Bool, true, false, List, ◌++◌, codes, refl, nat_eq, Option, None, Some, inl, inr, sym, ap, subst, ◌∙◌, arith}
use Rattle.std.specs.Prelude.{is_none, option_map}
use native.Mathlib.Decide.{dec_lt}
use Rattle.std.specs.Fmt.{decimal, digits}
use Rattle.std.specs.List.{find, list_all, range_with_len}
use Rattle.std.specs.Option.{option_or}
use Rattle.std.specs.Str.{bytes_eq}
use Rattle.std.proofs.lemmas.Bool.{cases_Bool, cond-true, cond-false, eqb-true, and_parts}
use Rattle.std.proofs.lemmas.Slice.Eq.{bytes_eq-Decides}
use Rattle.sync_ql.specs.declared.levels.NetOption.{NetOption}
use Rattle.sync_ql.specs.declared.levels.NetOption.TheVariants.{I, II}
use Rattle.sync_ql.specs.declared.levels.Level.{Level}
use Rattle.sync_ql.specs.Table.{not_enhanced}
use Rattle.sync_ql.specs.Level.{code_of, enhanced_of, name_of, level_of_code, level_of_codes, level_of_name}
use Rattle.sync_ql.proofs.Tables.{level_of_name-name_of, codes_name, found_by_codes, found_by_name, found_with, none_alone, ff_says_nothing, code_of-bound}
use Rattle.capture_text.specs.declared.reading.Codes.{Codes}
use Rattle.capture_text.specs.Row.{level_text, name_or_number}
use Rattle.capture_text.specs.Reading.{enhanced_or_none, enhanced_named, codes_of_level, codes_of_code, code_of_number, codes_of_text}
use Rattle.sync_ql.proofs.Tables.{at_each}

nothing : {A : Type 0} (found : Option A) → is_none found ≡ true → found ≡ None
nothing None is = refl
nothing (Some x) is = cc

-- what a search over numbers finds
pub found_number : (test : ℕ → Bool) (first n number : ℕ) → find test (range_with_len first n) ≡ Some number → (test number ≡ true) × (number < first + n)
found_number test first zero number is = cc
found_number test first (suc n) number is =
    elim (cases_Bool (test first)) [
      | inl passes ↦
          let here : find test (range_with_len first (suc n)) ≡ Some first = cond-true _ _ _ passes in
          let same : first ≡ number = cc in
          (rw (← same) passes, omega arith)
      | inr fails ↦
          let later : find test (range_with_len first (suc n)) ≡ find test (range_with_len (first + 1) n) = cond-false _ _ _ fails in
          let rest = found_number test (first + 1) n number (sym later ∙ is) in
          let below = rest.1 in
          (rest.0, omega (arith, below))
    ]

-- a text that is found is the number of its code, which no level has
pub number_is : (option : NetOption) (text : List ℕ) (code : ℕ) → code_of_number option text ≡ Some code → (level_of_code option code ≡ None) × (codes "code-" ++ decimal code ≡ text) × (code < 16)
unfolding code_of_number
number_is option text code is =
    let found = found_number (λ c. is_none (level_of_code option c) && bytes_eq (codes "code-" ++ decimal c) text) 0 16 code is in
    let both = and_parts _ _ found.0 in
    let small = found.1 in
    (nothing (level_of_code option code) both.0, (bytes_eq-Decides (codes "code-" ++ decimal code) text).0 both.1, omega (arith, small))

-- the number of each code is found, where no level has it, and is no name
abbrev is_number : Option ℕ → Option Level → ℕ → Bool
is_number (Some found) None code = nat_eq found code
is_number None (Some level) code = true
is_number found level code = false

number_found : NetOption → ℕ → Bool
number_found option code = is_number (code_of_number option (codes "code-" ++ decimal code)) (level_of_code option code) code && is_none (level_of_name option (codes "code-" ++ decimal code))

numbers_found : (option : NetOption) → list_all (number_found option) (range_with_len 0 16) ≡ true
unfolding number_found code_of_number digits dec_lt
numbers_found I = refl
numbers_found II = refl

number_at : (found : Option ℕ) (level : Option Level) (code : ℕ) → is_number found level code ≡ true → level ≡ None → found ≡ Some code
number_at (Some found) None code is none = ap Some (eqb-true found code is)
number_at None None code is none = cc
number_at found (Some level) code is none = cc

-- the number of a code that no level has stands for it
pub code_of_its_number : (option : NetOption) (code : ℕ) → code < 16 → level_of_code option code ≡ None → code_of_number option (codes "code-" ++ decimal code) ≡ Some code
unfolding number_found
code_of_its_number option code small unknown =
    let here = and_parts _ _ (at_each (number_found option) 16 code (numbers_found option) small) in
    number_at _ _ code here.0 unknown

number_no_name : (option : NetOption) (code : ℕ) → code < 16 → level_of_name option (codes "code-" ++ decimal code) ≡ None
unfolding number_found
number_no_name option code small =
    nothing _ (and_parts _ _ (at_each (number_found option) 16 code (numbers_found option) small)).1

-- the text of codes stands for them, with the enhanced code of the level that they name, or ff
text_stands : (option : NetOption) (code : ℕ) (enhanced : Option ℕ) → code < 16 → (found : Option Level) → level_of_codes option code enhanced ≡ found → codes_of_text option (name_or_number found code) ≡ Some (record { code = code; enhanced = enhanced_or_none found })
text_stands option code enhanced small None is =
    rw (number_no_name option code small, code_of_its_number option code small (none_alone option code enhanced is)) refl
text_stands option code enhanced small (Some level) is =
    let parts = found_by_codes option code enhanced level is in
    let named : level_of_name option (name_of level) ≡ Some level = subst (λ o. level_of_name o (name_of level) ≡ Some level) parts.0 (level_of_name-name_of level) in
    rw (named, parts.1) refl

pub codes_of_level_text : (option : NetOption) (code : ℕ) (enhanced : Option ℕ) → code < 16 → codes_of_text option (level_text option code enhanced) ≡ Some (record { code = code; enhanced = enhanced_named option code enhanced })
codes_of_level_text option code enhanced small = text_stands option code enhanced small (level_of_codes option code enhanced) refl

-- what a text stands for: it is that of the codes, of which the enhanced one is that of the level
-- which they name, or ff
pub record StandsFor (option : NetOption) (text : List ℕ) (both : Codes) : Type 0 where
  pub written : text ≡ level_text option both.code (Some both.enhanced)
  pub named : both.enhanced ≡ enhanced_named option both.code (Some both.enhanced)
  pub small : both.code < 16

stands_by : (option : NetOption) (text : List ℕ) (both : Codes) (name : Option Level) (number : Option ℕ) → level_of_name option text ≡ name → code_of_number option text ≡ number → option_or (option_map codes_of_level name) (option_map codes_of_code number) ≡ Some both → StandsFor option text both
stands_by option text both (Some level) number is number_found found =
    let e : codes_of_level level ≡ both = cc in
    let parts = found_by_name option text level is in
    let names : level_of_codes option (code_of level) (Some (enhanced_of level)) ≡ Some level = subst (λ o. level_of_codes o (code_of level) (Some (enhanced_of level)) ≡ Some level) parts.0 (codes_name level) in
    subst (StandsFor option text) e (record {
      written = sym parts.1 ∙ ap (λ found. name_or_number found (code_of level)) (sym names);
      named = ap enhanced_or_none (sym names);
      small = code_of-bound level;
    })
stands_by option text both None (Some code) is number_found found =
    let e : codes_of_code code ≡ both = cc in
    let parts = number_is option text code number_found in
    let names : level_of_codes option code (Some not_enhanced) ≡ None = ff_says_nothing option code ∙ parts.0 in
    subst (StandsFor option text) e (record {
      written = sym parts.1 ∙ ap (λ found. name_or_number found code) (sym names);
      named = ap enhanced_or_none (sym names);
      small = parts.2;
    })
stands_by option text both None None is number_found found = cc

pub text_stands_for : (option : NetOption) (text : List ℕ) (both : Codes) → codes_of_text option text ≡ Some both → StandsFor option text both
text_stands_for option text both found = stands_by option text both (level_of_name option text) (code_of_number option text) refl refl found

-- a code alone is read with ff
alone_named : (option : NetOption) (code : ℕ) (found : Option Level) → level_of_code option code ≡ found → enhanced_or_none found ≡ not_enhanced
alone_named option code None is = refl
alone_named option code (Some level) is = (found_with option code not_enhanced level is).2

pub alone_has_none : (option : NetOption) (code : ℕ) → enhanced_named option code None ≡ not_enhanced
alone_has_none option code = alone_named option code (level_of_code option code) refl

-- with ff the text is that of the code alone
pub text_alone : (option : NetOption) (code : ℕ) → level_text option code (Some not_enhanced) ≡ level_text option code None
text_alone option code = ap (λ found. name_or_number found code) (ff_says_nothing option code)

-- a text that is the number of no such code stands for none
pub no_number : (option : NetOption) (text : List ℕ) → ((n : ℕ) → n < 16 → level_of_code option n ≡ None → text ≡ codes "code-" ++ decimal n → ⊥) → (found : Option ℕ) → code_of_number option text ≡ found → found ≡ None
no_number option text never None is = refl
no_number option text never (Some code) is =
    let parts = number_is option text code is in
    absurd (never code parts.2 parts.0 (sym parts.1))
