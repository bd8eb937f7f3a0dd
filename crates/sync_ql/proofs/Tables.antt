-- What holds of the tables of both options.
use Rattle.std.proofs.Common.{◌≡◌, ◌<◌, ◌↔◌, ◌==◌, ◌&&◌, ℕ, Bool, true, false, List, [], length, refl, ap, subst, Option, None, Some, position, arith, zero-add, sym, ◌∙◌, nat_eq, nat_lt, get_or}
use Rattle.std.specs.Prelude.{option_and_then}
use Rattle.std.specs.Option.{option_or}
use Rattle.std.specs.List.{list_all, range_with_len}
use Rattle.std.specs.Str.{bytes_eq}
use Rattle.std.proofs.Math.Decide.{dec_lt}
use Rattle.std.proofs.Math.Bridge.{le_prop}
use Rattle.std.proofs.lemmas.Bool.{and_parts, eqb-true}
use Rattle.std.proofs.lemmas.Bool.Decides.{nat_tests}
use Rattle.std.proofs.lemmas.List.FromFn.{length-range_with_len, get_or-range_with_len}
use Rattle.std.proofs.lemmas.List.Quantifiers.{position-Some}
use Rattle.std.proofs.lemmas.List.Recursion.{and_at}
use Rattle.std.proofs.lemmas.Slice.Eq.{bytes_eq-Decides}
use Rattle.sync_ql.specs.declared.levels.NetOption.{NetOption}
use Rattle.sync_ql.specs.declared.levels.NetOption.TheVariants.{I, II}
use Rattle.sync_ql.specs.declared.levels.Level.{Level}
use Rattle.sync_ql.specs.declared.rows.Row as declared
use Rattle.sync_ql.specs.Table.{Row, row, not_enhanced, levels_of}
use Rattle.sync_ql.specs.private.Rows.{seen, rows_seen}
use Rattle.sync_ql.specs.Level.{row_at, row_of, level_at, place_of_codes, place_of_name, level_with_both, level_of_code, level_of_codes, level_of_name, code_of, enhanced_of, name_of}
use Rattle.sync_ql.proofs.Positions.{position-map}

abbrev level_of_row : (option : NetOption) (place : ℕ) → place < length (levels_of option) → Level
level_of_row option place within = record { option = option; place = place; is_row = within }

abbrev level_if : (option : NetOption) (place : ℕ) → Dec (place < length (levels_of option)) → Option Level
level_if option place d = elim d as (λ _. Option Level) [ yes within ↦ Some (level_of_row option place within) | no beyond ↦ None ]

-- the level at a level's place is that level
pub level_at-place : (level : Level) → level_at level.option level.place ≡ Some level
level_at-place level =
    elim (dec_lt level.place (length (levels_of level.option))) as (λ d. level_if level.option level.place d ≡ Some level) [
      | yes within ↦ ap (λ w. Some (level_of_row level.option level.place w)) (le_prop within level.is_row)
      | no beyond ↦ absurd (beyond level.is_row)
    ]

-- a test finds in the code's rows what it finds in the table
pub position-rows_seen : (p : Row → Bool) (rows : List declared.Row) (option : NetOption) → rows_seen rows ≡ levels_of option → position (λ r. p (seen r)) rows ≡ position p (levels_of option)
position-rows_seen p rows option same = sym (position-map p seen rows) ∙ ap (position p) same

-- whether a place was found, and is this one
abbrev is_place : Option ℕ → ℕ → Bool
is_place None place = false
is_place (Some found) place = nat_eq found place

is_place-true : (found : Option ℕ) (place : ℕ) → is_place found place ≡ true → found ≡ Some place
is_place-true None place is = cc
is_place-true (Some found) place is = ap Some (eqb-true found place is)

-- a test of all places below n holds at each of them
pub at_each : (test : ℕ → Bool) (n place : ℕ) → list_all test (range_with_len 0 n) ≡ true → place < n → test place ≡ true
at_each test n place all within =
    let inside : place < length (range_with_len 0 n) = omega (arith, length-range_with_len 0 n, within) in
    let here : test (get_or (range_with_len 0 n) place 0) ≡ true = and_at (list_all test) test refl (λ _ _. refl) (range_with_len 0 n) place 0 inside all in
    ap test (sym (get_or-range_with_len 0 n place 0 within ∙ zero-add place)) ∙ here

finds_codes : NetOption → ℕ → Bool
finds_codes option place = is_place (place_of_codes option (row_at option place).code (row_at option place).enhanced) place

codes_found : (option : NetOption) → list_all (finds_codes option) (range_with_len 0 (length (levels_of option))) ≡ true
unfolding finds_codes
codes_found I = refl
codes_found II = refl

finds_name : NetOption → ℕ → Bool
finds_name option place = is_place (place_of_name option (row_at option place).name) place

names_found : (option : NetOption) → list_all (finds_name option) (range_with_len 0 (length (levels_of option))) ≡ true
unfolding finds_name
names_found I = refl
names_found II = refl

-- no two levels of an option have the same codes
pub both_name : (level : Level) → level_with_both level.option (code_of level) (enhanced_of level) ≡ Some level
unfolding finds_codes
both_name level =
    let found = at_each (finds_codes level.option) (length (levels_of level.option)) level.place (codes_found level.option) level.is_row in
    ap (option_and_then (level_at level.option)) (is_place-true (place_of_codes level.option (code_of level) (enhanced_of level)) level.place found) ∙ level_at-place level

-- so both codes name the level
pub codes_name : (level : Level) → level_of_codes level.option (code_of level) (Some (enhanced_of level)) ≡ Some level
codes_name level = ap (λ found. option_or found (level_of_code level.option (code_of level))) (both_name level)

-- the level at a place is of that table, and has the row there
level_at-row : (option : NetOption) (place : ℕ) (level : Level) → level_at option place ≡ Some level → (level.option ≡ option) × (row_of level ≡ row_at option place)
level_at-row option place level at =
    elim (dec_lt place (length (levels_of option))) as (λ d. level_if option place d ≡ Some level → (level.option ≡ option) × (row_of level ≡ row_at option place)) [
      | yes within ↦ λ same. let e : level ≡ level_of_row option place within = cc in (ap (λ (l : Level). l.option) e, ap row_of e)
      | no beyond ↦ λ same. cc
    ] at

-- what a place has that is found
found_at : (option : NetOption) (code enhanced : ℕ) (place : ℕ) → place_of_codes option code enhanced ≡ Some place → (place < length (levels_of option)) × ((row_at option place).code ≡ code) × ((row_at option place).enhanced ≡ enhanced)
found_at option code enhanced place found =
    let at = position-Some (λ row. row.code == code && row.enhanced == enhanced) (levels_of option) place (row [] 0 0) found in
    let both = and_parts _ _ at.1 in
    (at.0, eqb-true _ _ both.0, eqb-true _ _ both.1)

-- the level that is found has the codes that were asked for
level_found : (option : NetOption) (code enhanced : ℕ) (found : Option ℕ) → place_of_codes option code enhanced ≡ found → (level : Level) → option_and_then (level_at option) found ≡ Some level → (level.option ≡ option) × (code_of level ≡ code) × (enhanced_of level ≡ enhanced)
level_found option code enhanced None is level named = cc
level_found option code enhanced (Some place) is level named =
    let at = level_at-row option place level named in
    let row_is = found_at option code enhanced place is in
    (at.0, ap (λ (r : Row). r.code) at.1 ∙ row_is.1, ap (λ (r : Row). r.enhanced) at.1 ∙ row_is.2)

pub found_with : (option : NetOption) (code enhanced : ℕ) (level : Level) → level_with_both option code enhanced ≡ Some level → (level.option ≡ option) × (code_of level ≡ code) × (enhanced_of level ≡ enhanced)
found_with option code enhanced level named = level_found option code enhanced (place_of_codes option code enhanced) refl level named

-- a level that codes name is of the option, and has the four-bit code
found_or : (option : NetOption) (code enhanced : ℕ) (found : Option Level) → level_with_both option code enhanced ≡ found → (level : Level) → option_or found (level_of_code option code) ≡ Some level → (level.option ≡ option) × (code_of level ≡ code)
found_or option code enhanced None is level named = let h = found_with option code not_enhanced level named in (h.0, h.1)
found_or option code enhanced (Some first) is level named = let h = found_with option code enhanced level (is ∙ named) in (h.0, h.1)

pub found_by_codes : (option : NetOption) (code : ℕ) (enhanced : Option ℕ) (level : Level) → level_of_codes option code enhanced ≡ Some level → (level.option ≡ option) × (code_of level ≡ code)
found_by_codes option code None level named = let h = found_with option code not_enhanced level named in (h.0, h.1)
found_by_codes option code (Some enhanced) level named = found_or option code enhanced (level_with_both option code enhanced) refl level named

-- where codes name no level, the four-bit code alone names none
none_or : (first second : Option Level) → option_or first second ≡ None → second ≡ None
none_or None second is = is
none_or (Some level) second is = cc

pub none_alone : (option : NetOption) (code : ℕ) (enhanced : Option ℕ) → level_of_codes option code enhanced ≡ None → level_of_code option code ≡ None
none_alone option code None is = is
none_alone option code (Some enhanced) is = none_or (level_with_both option code enhanced) (level_of_code option code) is

-- ff beside a code says nothing
same_or : (found : Option Level) → option_or found found ≡ found
same_or None = refl
same_or (Some level) = refl

pub ff_says_nothing : (option : NetOption) (code : ℕ) → level_of_codes option code (Some not_enhanced) ≡ level_of_code option code
ff_says_nothing option code = same_or (level_of_code option code)

-- the code alone names the level exactly where it has no enhanced code
pub alone_names : (level : Level) → (level_of_code level.option (code_of level) ≡ Some level) ↔ (enhanced_of level ≡ not_enhanced)
alone_names level = (
  λ named. (found_with level.option (code_of level) not_enhanced level named).2,
  λ alone. subst (λ enhanced. level_with_both level.option (code_of level) enhanced ≡ Some level) alone (both_name level),
)

-- a level that a name names is of the option, and has the name
name_at : (option : NetOption) (name : List ℕ) (found : Option ℕ) → place_of_name option name ≡ found → (level : Level) → option_and_then (level_at option) found ≡ Some level → (level.option ≡ option) × (name_of level ≡ name)
name_at option name None is level named = cc
name_at option name (Some place) is level named =
    let at = level_at-row option place level named in
    let same = (position-Some (λ (row : Row). bytes_eq row.name name) (levels_of option) place (row [] 0 0) is).1 in
    (at.0, ap (λ (r : Row). r.name) at.1 ∙ (bytes_eq-Decides (row_at option place).name name).0 same)

pub found_by_name : (option : NetOption) (name : List ℕ) (level : Level) → level_of_name option name ≡ Some level → (level.option ≡ option) × (name_of level ≡ name)
found_by_name option name level named = name_at option name (place_of_name option name) refl level named

-- the level with both codes is named, if there is one
pub both_named : (option : NetOption) (code : ℕ) (enhanced : Option ℕ) (level : Level) → level.option ≡ option → code_of level ≡ code → enhanced ≡ Some (enhanced_of level) → level_of_codes option code enhanced ≡ Some level
both_named option code enhanced level a b c =
    let here = codes_name level in
    subst (λ o. level_of_codes o code enhanced ≡ Some level) a
    (subst (λ n. level_of_codes level.option n enhanced ≡ Some level) b (subst (λ e. level_of_codes level.option (code_of level) e ≡ Some level) (sym c) here))

-- no two levels of an option have one name
pub level_of_name-name_of : (level : Level) → level_of_name level.option (name_of level) ≡ Some level
unfolding finds_name
level_of_name-name_of level =
    let found = at_each (finds_name level.option) (length (levels_of level.option)) level.place (names_found level.option) level.is_row in
    ap (option_and_then (level_at level.option)) (is_place-true (place_of_name level.option (name_of level)) level.place found) ∙ level_at-place level

has_four_bits : NetOption → ℕ → Bool
has_four_bits option place = nat_lt (row_at option place).code 16

codes_have_four_bits : (option : NetOption) → list_all (has_four_bits option) (range_with_len 0 (length (levels_of option))) ≡ true
unfolding has_four_bits
codes_have_four_bits I = refl
codes_have_four_bits II = refl

-- every code has four bits
pub code_of-bound : (level : Level) → code_of level < 16
unfolding has_four_bits
code_of-bound level =
    let small = at_each (has_four_bits level.option) (length (levels_of level.option)) level.place (codes_have_four_bits level.option) level.is_row in
    grind (arith, nat_tests)

is_octet : NetOption → ℕ → Bool
is_octet option place = nat_lt (row_at option place).enhanced 256

enhanced_are_octets : (option : NetOption) → list_all (is_octet option) (range_with_len 0 (length (levels_of option))) ≡ true
unfolding is_octet
enhanced_are_octets I = refl
enhanced_are_octets II = refl

-- every enhanced code is an octet
pub enhanced_of-bound : (level : Level) → enhanced_of level < 256
unfolding is_octet
enhanced_of-bound level =
    let small = at_each (is_octet level.option) (length (levels_of level.option)) level.place (enhanced_are_octets level.option) level.is_row in
    grind (arith, nat_tests)
