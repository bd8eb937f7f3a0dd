-- What TOML's grammar reads of a plain line.
use Rattle.std.proofs.Common.{if◌then◌else◌, option_and_then, ◌≡◌, ℕ, suc, ◌-◌, ◌<◌, ◌^◌, pos, length, slice_index, append-nil, Bool, true, false, ◌&&◌, ◌||◌, ◌==◌, List, [], ◌∷◌, ◌++◌, take, drop, codes, Option, Some, None, refl, ap, sym, subst, ◌∙◌, inl, inr, arith}
use Rattle.std.specs.List.{prefix_len, list_all}
use Rattle.std.specs.Char.{is_ascii_digit}
use Rattle.std.specs.Fmt.{decimal}
use Rattle.std.proofs.lemmas.Bool.{cases_Bool, and_parts}
use Rattle.std.proofs.lemmas.Bool.Decides.{nat_tests}
use Rattle.std.proofs.lemmas.Option.{none-some}
use Rattle.toml_parser.specs.Lexical.{Read, first, is_word, is_bare, skip_ws, skip_blank}
use Rattle.toml_parser.specs.Numbers.{unquoted}
use Rattle.toml_parser.specs.Strings.{starts_string, is_plain, quoted, one_line, special, simple_key, key_after}
use Rattle.toml_parser.specs.declared.scalar.Scalar.{Scalar}
use Rattle.toml_parser.specs.declared.scalar.Scalar.TheVariants.{Integer}
use Rattle.toml_parser.proofs.LexicalLemmas.{skip_ws_space}
use Rattle.toml_parser.proofs.StringsLemmas.{body_run}
use Rattle.toml_writer.proofs.Scalars.{unquoted-word, IsWord-pos}
use Rattle.toml.specs.Data.{Data, string, integer}
use Rattle.toml.specs.Tables.{no_nodes, close, Document, Expression, define, key_value, array_table}
use Rattle.toml.specs.Parse.{read_map, key_equals, after_element, val, atom, scalar_data, header_key, expression, line, lines, ends_line, skip_bom, parse_document}
use Rattle.toml.proofs.Turns.{val_atom, val_deep, lines_more, lines_end, document_some}
use Rattle.plan_lines.specs.declared.entry.EntryKind.{EntryKind}
use Rattle.plan_lines.specs.declared.entry.EntryKind.TheVariants as kind
use Rattle.plan_lines.specs.declared.plain.LinesRead.{LinesRead}
use Rattle.plan_lines.specs.private.Lines.{key_of, Follows, Leads, Takes, TakesValue}

-- a run that isn't empty begins with a byte that passes
run_starts : (p : ℕ → Bool) (s : List ℕ) → 0 < prefix_len p s → p (first s) ≡ true
run_starts p [] some = absurd (omega arith)
run_starts p (c ∷ cs) some = elim (cases_Bool (p c)) [
  | inl here ↦ here
  | inr other ↦ absurd (let none : 0 < 0 = rw other at some in omega arith)
]

simple_bare : (s : List ℕ) → is_bare (first s) ≡ true → simple_key s ≡ Some (take (prefix_len is_bare s) s, drop (prefix_len is_bare s) s)
unfolding simple_key
simple_bare s bare =
    let other : starts_string s ≡ false = grind (arith, nat_tests) in
    rw (other, bare) refl

one_part : (s part after : List ℕ) → simple_key s ≡ Some (part, after) → (first (skip_ws after) == 46) ≡ false → key_after 80 [] s ≡ Some (([], part), skip_ws after)
unfolding key_after
one_part s part after read other = rw (read, other) refl

then_equals : (s part after : List ℕ) → key_after 80 [] s ≡ Some (([], part), after) → (first after == 61) ≡ true → key_equals s ≡ Some (([], part), skip_ws (drop 1 after))
unfolding key_equals
then_equals s part after read equals = rw (read, equals) refl

-- a bare key with `=` after it
pub bare_key : (s : List ℕ) → 0 < prefix_len is_bare s → first (skip_ws (drop (prefix_len is_bare s) s)) ≡ 61
    → key_equals s ≡ Some (([], take (prefix_len is_bare s) s), skip_ws (drop 1 (skip_ws (drop (prefix_len is_bare s) s))))
bare_key s some equals =
    let n = prefix_len is_bare s in
    let rest = skip_ws (drop n s) in
    let no_dot : (first rest == 46) ≡ false = rw equals refl in
    let is_equals : (first rest == 61) ≡ true = rw equals refl in
    then_equals s (take n s) rest (one_part s (take n s) (drop n s) (simple_bare s (run_starts is_bare s some)) no_dot) is_equals

-- a string and a scalar are values at any depth
pub string_value : (depth : ℕ) (s text rest : List ℕ) → starts_string s ≡ true → quoted s ≡ Some (text, rest) → val depth s ≡ Some (string text, rest)
unfolding atom
string_value depth s text rest starts read =
    let no_array : (first s == 91) ≡ false = grind (arith, nat_tests) in
    let no_table : (first s == 123) ≡ false = grind (arith, nat_tests) in
    val_atom depth s no_array no_table ∙ rw (starts, read) refl

atom_scalar : (s rest : List ℕ) (scalar : Scalar) → starts_string s ≡ false → unquoted s ≡ Some (scalar, rest) → atom s ≡ Some (scalar_data scalar, rest)
unfolding atom
atom_scalar s rest scalar starts read = rw (starts, read) refl

at_end : (s : List ℕ) → val 0 s ≡ atom s
unfolding val
at_end s = refl

-- no bracket begins one
no_bracket : (s rest : List ℕ) (d : Data) → atom s ≡ Some (d, rest) → ((first s == 91) || (first s == 123)) ≡ false
no_bracket s rest d read = elim (cases_Bool ((first s == 91) || (first s == 123))) [
  | inr other ↦ other
  | inl bracket ↦ absurd (none-some (d, rest) (sym (val_deep s bracket) ∙ at_end s ∙ read))
]

pub scalar_value : (depth : ℕ) (s rest : List ℕ) (scalar : Scalar) → starts_string s ≡ false → unquoted s ≡ Some (scalar, rest) → val depth s ≡ Some (scalar_data scalar, rest)
scalar_value depth s rest scalar starts read =
    let is : atom s ≡ Some (scalar_data scalar, rest) = atom_scalar s rest scalar starts read in
    let none = no_bracket s rest (scalar_data scalar) is in
    let no_array : (first s == 91) ≡ false = grind (arith, nat_tests) in
    let no_table : (first s == 123) ≡ false = grind (arith, nat_tests) in
    val_atom depth s no_array no_table ∙ is

-- a string with no backslash
pub string_cut : (s : List ℕ) → first s ≡ 34 → 0 < prefix_len (is_plain 34 false) (drop 1 s) → first (drop (prefix_len (is_plain 34 false) (drop 1 s)) (drop 1 s)) ≡ 34
    → quoted s ≡ Some (take (prefix_len (is_plain 34 false) (drop 1 s)) (drop 1 s), drop 1 (drop (prefix_len (is_plain 34 false) (drop 1 s)) (drop 1 s)))
unfolding quoted one_line special
string_cut [] opens some closes = absurd (omega (arith, opens))
string_cut (c ∷ inner) opens some closes =
    let starts : is_plain 34 false (first inner) ≡ true = run_starts (is_plain 34 false) inner some in
    let other : (first inner == 34) ≡ false = grind (arith, nat_tests) in
    let (turns, room, run) = body_run 34 false inner (length (c ∷ inner)) (omega arith) in
    let ends : (first (drop (prefix_len (is_plain 34 false) inner) inner) == 34) ≡ true = rw closes refl in
    rw (opens, other, run, ends, append-nil) refl

-- a number that is written as it is printed
pub number_cut : (number : ℕ) (s rest : List ℕ) → number < 2 ^ 63 → s ≡ decimal number ++ rest → is_word (first rest) ≡ false → (first rest == 32) ≡ false
    → (depth : ℕ) → val depth s ≡ Some (integer (pos number), rest)
number_cut number s rest fits is ends other depth =
    let word = IsWord-pos number fits in
    let whole : (first rest == 32 && is_ascii_digit (slice_index rest 1)) ≡ false = rw other refl in
    let read : unquoted (decimal number ++ rest) ≡ Some (Integer (pos number), rest) = unquoted-word (decimal number) rest (Integer (pos number)) word.some word.all (ends, whole) word.value in
    let starts : is_word (first (decimal number ++ rest)) ≡ true = word_starts (decimal number) rest word.some word.all in
    let no_string : starts_string (decimal number ++ rest) ≡ false = grind (arith, nat_tests) in
    subst (λ t. val depth t ≡ Some (integer (pos number), rest)) (sym is) (scalar_value depth (decimal number ++ rest) rest (Integer (pos number)) no_string read)
  where
    word_starts : (w rest : List ℕ) → 0 < length w → list_all is_word w ≡ true → is_word (first (w ++ rest)) ≡ true
    word_starts [] rest some all = absurd (omega arith)
    word_starts (c ∷ cs) rest some all = (and_parts (is_word c) (list_all is_word cs) all).0

-- a space, and where there is none
pub after_one_space : (s : List ℕ) → first s ≡ 32 → skip_ws s ≡ skip_ws (drop 1 s)
after_one_space [] space = absurd (omega (arith, space))
after_one_space (c ∷ cs) space = ap (λ b. skip_ws (b ∷ cs)) space ∙ skip_ws_space cs

-- a comma after an element, and the closing bracket
pub comma_after : (closing : ℕ) (s : List ℕ) → first (skip_blank s) ≡ 44 → after_element closing s ≡ Some (drop 1 (skip_blank s))
unfolding after_element
comma_after closing s comma = rw comma refl

pub closing_after : (closing : ℕ) (s : List ℕ) → (first (skip_blank s) == 44) ≡ false → (first (skip_blank s) == closing) ≡ true → after_element closing s ≡ Some (skip_blank s)
unfolding after_element
closing_after closing s other closes = rw (other, closes) refl

-- a value at a key is an expression
pub pair_taken : (s key at_value rest : List ℕ) (doc : Document) (read : LinesRead) → (first s == 91) ≡ false → key_equals s ≡ Some (([], key), at_value)
    → TakesValue (val 80 at_value) key doc rest read → Takes (expression s) doc rest read
unfolding expression
pair_taken s key at_value rest doc read other is taken = rw (other, is) (by (val 80 at_value) taken)
  where
    by : (o : Read Data) → TakesValue o key doc rest read → Takes (read_map (λ (p : ((List (List ℕ)) × List ℕ) × Data). (p.0, key_value p.1)) (read_map (λ (d : Data). (([], key), d)) o)) doc rest read
    by None taken = absurd taken
    by (Some (d, after)) taken = taken

-- a header of a section
pub header_read : (k : EntryKind) (rest : List ℕ) → expression (codes "[[" ++ (key_of k ++ (codes "]]" ++ rest))) ≡ Some ((([], key_of k), array_table), rest)
unfolding expression header_key key_after simple_key skip_ws
header_read kind.Element rest = refl
header_read kind.Link rest = refl
header_read kind.Source rest = refl

pub header_taken : (k : EntryKind) (s rest : List ℕ) (doc : Document) (read : LinesRead) → s ≡ codes "[[" ++ (key_of k ++ (codes "]]" ++ rest))
    → Leads (define doc (([], key_of k), array_table)) read → Takes (expression s) doc rest read
header_taken k s rest doc read is leads = rw (is, header_read k rest) (refl, leads)

-- an expression that ends its line
pub line_taken : (s rest : List ℕ) (doc : Document) (read : LinesRead) → Takes (expression s) doc rest read → ends_line (skip_ws rest) ≡ true → Takes (line s) doc rest read
unfolding line
line_taken s rest doc read taken ends = by (expression s) taken
  where
    by : (o : Read Expression) → Takes o doc rest read → Takes (option_and_then (λ (e : Expression × List ℕ). if ends_line (skip_ws e.1) then Some e else None) o) doc rest read
    by None taken = absurd taken
    by (Some (e, after)) taken = rw (taken.0, ends) (refl, taken.1)

-- what a line that is taken defines
pub record IsTaken (read : Read Expression) (doc : Document) (rest : List ℕ) (lines : LinesRead) : Type 0 where
  pub e : Expression
  pub next : Document
  pub reads : read ≡ Some (e, rest)
  pub defines : define doc e ≡ Some next
  pub follows : Follows lines next

pub taken_is : (o : Read Expression) (doc : Document) (rest : List ℕ) (read : LinesRead) → Takes o doc rest read → IsTaken o doc rest read
taken_is None doc rest read taken = absurd taken
taken_is (Some (e, after)) doc rest read (same, leads) = by (define doc e) refl leads
  where
    by : (next : Option Document) → define doc e ≡ next → Leads next read → IsTaken (Some (e, after)) doc rest read
    by None is leads = absurd leads
    by (Some next) is leads = record { e = e; next = next; reads = ap (λ a. Some (e, a)) same; defines = is; follows = leads }

-- a text of which this rest is left, and what the lines so far say
pub record HasRead (text rest : List ℕ) (read : LinesRead) : Type 0 where
  pub doc : Document
  pub turns : ℕ
  pub room : length rest < turns
  pub reads : lines (suc (length text)) (no_nodes, []) text ≡ lines turns doc rest
  pub follows : Follows read doc

pub line_more : (text rest after : List ℕ) (before read : LinesRead) → HasRead text rest before → (length (skip_blank rest) == 0) ≡ false → length after < length rest
    → ((doc : Document) → Follows before doc → Takes (line (skip_blank rest)) doc after read) → HasRead text after read
line_more text rest after before read so_far some shorter takes =
    let taken = taken_is (line (skip_blank rest)) so_far.doc after read (takes so_far.doc so_far.follows) in
    record {
      doc = taken.next;
      turns = so_far.turns - 1;
      room = omega (arith, so_far.room, shorter);
      reads = so_far.reads ∙ lines_more so_far.turns so_far.doc taken.next rest taken.e after (omega (arith, so_far.room)) some taken.reads taken.defines;
      follows = taken.follows;
    }

no_mark : (text : List ℕ) → (first text == 0xEF) ≡ false → skip_bom text ≡ text
unfolding skip_bom
no_mark text other = rw other refl

-- the document of a text that is read to its end
pub all_read : (text rest : List ℕ) (read : LinesRead) (so_far : HasRead text rest read) → (first text == 0xEF) ≡ false → length (skip_blank rest) ≡ 0 → parse_document text ≡ Some (close so_far.doc.0)
all_read text rest read so_far other none =
    document_some text so_far.doc
    (ap (lines (suc (length text)) (no_nodes, [])) (no_mark text other) ∙ (so_far.reads ∙ lines_end so_far.turns so_far.doc rest (omega (arith, so_far.room)) none))
