-- What a record leaves of a text: it takes a byte, and the text may end after it.
use Rattle.std.proofs.Common.{◌≡◌, ◌≤◌, ◌<◌, ◌+◌, ◌-◌, ℕ, Bool, true, false, List, [], ◌∷◌, ◌++◌, length, Some, None, if◌then◌else◌, ◌==◌, ◌&&◌, refl, arith, ◌∙◌}
use Rattle.csv.specs.Machine.{Read, after_end, ends_at_end, ends_with, field_after, fields_after, in_field, is_byte, is_end, next_record, start_field, start_record, step}
use Rattle.csv.specs.declared.error.ErrorKind.TheVariants as kind
use Rattle.csv.specs.declared.reader.Trim.TheVariants as trim
use Rattle.csv.specs.declared.parser.Config.{Config}
use Rattle.csv.specs.declared.parser.State.{State}
use Rattle.csv.specs.declared.parser.State.TheVariants as st
use Rattle.csv.specs.declared.parser.Action.{Action}
use Rattle.csv.specs.declared.parser.Terminator.{Terminator}
use Rattle.csv.specs.declared.parser.Terminator.TheVariants as term

-- where a byte ends a record, the text may end after it
abbrev StopsCleanly : State × Action → Type 0
StopsCleanly next = is_end next.1 ≡ true → ends_at_end next.0 ≡ false

either : (b : Bool) (x y : State × Action) → StopsCleanly x → StopsCleanly y → StopsCleanly (if b then x else y)
either true x y hx hy = hx
either false x y hx hy = hy

after_end-stops : (t : Terminator) (c : ℕ) → ends_at_end (after_end t c) ≡ false
after_end-stops term.CRLF c = elim (c == 13) as (λ b. ends_at_end (if b then st.AfterCr else st.StartRecord) ≡ false) [ true ↦ refl | false ↦ refl ]
after_end-stops (term.Any t) c = refl

in_field-stops : (cfg : Config) (c : ℕ) → StopsCleanly (in_field cfg c)
in_field-stops cfg c =
    either (c == cfg.delimiter) _ _ (λ e. cc)
    (either (ends_with cfg.terminator c) _ _ (λ _. after_end-stops cfg.terminator c) (λ e. cc))

start_field-stops : (cfg : Config) (c : ℕ) → StopsCleanly (start_field cfg c)
start_field-stops cfg c = either (cfg.quoting && (c == cfg.quote)) _ _ (λ e. cc) (in_field-stops cfg c)

start_record-stops : (cfg : Config) (c : ℕ) → StopsCleanly (start_record cfg c)
start_record-stops cfg c =
    either (ends_with cfg.terminator c) _ _ (λ e. cc) (either (is_byte cfg.comment c) _ _ (λ e. cc) (start_field-stops cfg c))

step-stops : (cfg : Config) (s : State) (c : ℕ) → StopsCleanly (step cfg s c)
step-stops cfg st.StartRecord c = start_record-stops cfg c
step-stops cfg st.StartField c = start_field-stops cfg c
step-stops cfg st.InField c = in_field-stops cfg c
step-stops cfg st.InQuoted c =
    either (cfg.quoting && (c == cfg.quote)) _ _ (λ e. cc) (either (cfg.quoting && is_byte cfg.escape c) _ _ (λ e. cc) (λ e. cc))
step-stops cfg st.InEscape c = λ e. cc
step-stops cfg st.AfterQuote c = either (cfg.quoting && cfg.double_quote && (c == cfg.quote)) _ _ (λ e. cc) (in_field-stops cfg c)
step-stops cfg st.InComment c = either (c == 10) _ _ (λ e. cc) (λ e. cc)
step-stops cfg st.AfterCr c = either (c == 10) _ _ (λ e. cc) (start_record-stops cfg c)

-- after a record the text may end, and what is left is no longer than the text before it
pub record LeavesOff (p : Read) (size : ℕ) : Type 0 where
  pub stops : ends_at_end p.1 ≡ false
  pub left : length p.2 ≤ size

-- the first byte of a text ends the record, or the bytes after it give it
after_byte : (cfg : Config) (s : State) (fields : List (List ℕ)) (field : List ℕ) (c : ℕ) (rest : List ℕ) (p : Read)
    → next_record cfg s fields field (c ∷ rest) ≡ Some p
    → (next_record cfg (step cfg s c).0 (fields_after (step cfg s c).1 fields field) (field_after (step cfg s c).1 c field) rest ≡ Some p → LeavesOff p (length rest))
    → LeavesOff p (length rest)
unfolding next_record
after_byte cfg s fields field c rest p e more = by (is_end (step cfg s c).1) refl e
  where
    by : (b : Bool) → is_end (step cfg s c).1 ≡ b
        → (if b then Some (fields_after (step cfg s c).1 fields field, (step cfg s c).0, rest)
        else next_record cfg (step cfg s c).0 (fields_after (step cfg s c).1 fields field) (field_after (step cfg s c).1 c field) rest) ≡ Some p
        → LeavesOff p (length rest)
    by true ends h =
        let same : (fields_after (step cfg s c).1 fields field, (step cfg s c).0, rest) ≡ p = cc in
        rw (← same) (record { stops = step-stops cfg s c ends; left = omega arith })
    by false ends h = more h

leaves_off : (cfg : Config) (s : State) (fields : List (List ℕ)) (field xs : List ℕ) (p : Read)
    → next_record cfg s fields field xs ≡ Some p → LeavesOff p (length xs)
unfolding next_record
leaves_off cfg s fields field [] p e = at_end (ends_at_end s) e
  where
    at_end : (b : Bool) → (if b then Some (fields ++ (field ∷ []), st.StartRecord, []) else None) ≡ Some p → LeavesOff p 0
    at_end true h = let same : (fields ++ (field ∷ []), st.StartRecord, []) ≡ p = cc in rw (← same) (record { stops = refl; left = omega arith })
    at_end false h = cc
leaves_off cfg s fields field (c ∷ rest) p e =
    let later = after_byte cfg s fields field c rest p e
    (leaves_off cfg (step cfg s c).0 (fields_after (step cfg s c).1 fields field) (field_after (step cfg s c).1 c field) rest p) in
    record { stops = later.stops; left = omega (arith, later.left) }

-- from a state in which the text may end, a record takes a byte
pub takes_a_byte : (cfg : Config) (s : State) (xs : List ℕ) (p : Read) → ends_at_end s ≡ false
    → next_record cfg s [] [] xs ≡ Some p → LeavesOff p (length xs - 1) × (0 < length xs)
unfolding next_record
takes_a_byte cfg s [] p may e = cc (rw may at e)
takes_a_byte cfg s (c ∷ rest) p may e =
    let later = after_byte cfg s [] [] c rest p e
    (leaves_off cfg (step cfg s c).0 (fields_after (step cfg s c).1 [] []) (field_after (step cfg s c).1 c []) rest p) in
    (record { stops = later.stops; left = omega (arith, later.left) }, omega arith)
