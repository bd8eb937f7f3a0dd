-- A name is spelled as it is: bare where it is a key, and between quotes where it is a value.
use Rattle.std.proofs.Common.{◌≡◌, ℕ, ◌<◌, ◌≤◌, Bool, true, false, not, ◌&&◌, ◌||◌, ◌==◌, List, [], ◌∷◌, ◌++◌, length, codes, refl, subst, arith}
use Rattle.std.specs.List.{list_all, list_any, range_with_len}
use Rattle.std.specs.Str.{IsAscii}
use Rattle.std.proofs.lemmas.Bool.{and_parts, leb-true, lt-ltb, not-true}
use Rattle.std.proofs.lemmas.Bool.Decides.{nat_tests}
use Rattle.std.proofs.lemmas.Str.Ascii.{IsAscii-nil, IsAscii-cons}
use Rattle.toml_parser.specs.Lexical.{line_feed, quote, backslash, is_bare}
use Rattle.toml_writer.specs.Text.{string_text, key_text, encoding_of, escaped, needs_escape, quotes_after, is_control}
use Rattle.sync_ql.specs.declared.levels.NetOption.{NetOption}
use Rattle.sync_ql.specs.declared.levels.NetOption.TheVariants.{I, II}
use Rattle.sync_ql.specs.declared.levels.Level.{Level}
use Rattle.sync_ql.specs.Table.{levels_of}
use Rattle.sync_ql.specs.Level.{row_at, name_of}
use Rattle.sync_ql.proofs.Tables.{at_each}
use Rattle.sync_topo.specs.Names.{is_name, is_name_byte}
use Rattle.plan_file.specs.Writing.{option_name}

-- ---- the bytes of a name

pub ascii_byte : (byte : ℕ) → is_name_byte byte ≡ true → byte < 128
ascii_byte byte h = grind (arith, nat_tests)

-- a byte that nothing asks to be spelled otherwise
is_plain : ℕ → Bool
is_plain c = is_bare c && (not (is_control c) && (not (needs_escape false 0 c) && (not (c == quote) && (not (c == backslash) && not (c == line_feed)))))

may_stand : ℕ → Bool
may_stand c = not (is_name_byte c) || is_plain c

all_may_stand : list_all may_stand (range_with_len 0 128) ≡ true
unfolding may_stand is_plain needs_escape
all_may_stand = refl

byte_plain : (c : ℕ) → is_name_byte c ≡ true → is_plain c ≡ true
unfolding may_stand
byte_plain c named =
    let stands : (not (is_name_byte c) || is_plain c) ≡ true = at_each may_stand 128 c all_may_stand (ascii_byte c named) in
    subst (λ b. (not b || is_plain c) ≡ true) named stands

record Plain (c : ℕ) : Type 0 where
  bare : is_bare c ≡ true
  control : is_control c ≡ false
  escape : needs_escape false 0 c ≡ false
  quoted : (c == quote) ≡ false
  slashed : (c == backslash) ≡ false
  fed : (c == line_feed) ≡ false

parts_of : (c : ℕ) → is_name_byte c ≡ true → Plain c
unfolding is_plain
parts_of c named =
    let one = and_parts _ _ (byte_plain c named) in
    let two = and_parts _ _ one.1 in
    let three = and_parts _ _ two.1 in
    let four = and_parts _ _ three.1 in
    let five = and_parts _ _ four.1 in
    record {
      bare = one.0;
      control = not-true _ two.0;
      escape = not-true _ three.0;
      quoted = not-true _ four.0;
      slashed = not-true _ five.0;
      fed = not-true _ five.1;
    }

all_pass : (test : ℕ → Bool) (bytes : List ℕ) → ((c : ℕ) → is_name_byte c ≡ true → test c ≡ true) → list_all is_name_byte bytes ≡ true → list_all test bytes ≡ true
all_pass test [] each all = refl
all_pass test (byte ∷ bytes) each all =
    let parts = and_parts (is_name_byte byte) (list_all is_name_byte bytes) all in
    rw (each byte parts.0, all_pass test bytes each parts.1) refl

none_passes : (test : ℕ → Bool) (bytes : List ℕ) → ((c : ℕ) → is_name_byte c ≡ true → test c ≡ false) → list_all is_name_byte bytes ≡ true → list_any test bytes ≡ false
none_passes test [] each all = refl
none_passes test (byte ∷ bytes) each all =
    let parts = and_parts (is_name_byte byte) (list_all is_name_byte bytes) all in
    rw (each byte parts.0, none_passes test bytes each parts.1) refl

escaped_bytes : (bytes : List ℕ) → list_all is_name_byte bytes ≡ true → escaped false 0 bytes ≡ bytes
unfolding escaped quotes_after
escaped_bytes [] all = refl
escaped_bytes (byte ∷ bytes) all =
    let parts = and_parts (is_name_byte byte) (list_all is_name_byte bytes) all in
    let plain = parts_of byte parts.0 in
    rw (plain.escape, plain.quoted, escaped_bytes bytes parts.1) refl

-- ---- a name

pub name_bytes : (name : List ℕ) → is_name name ≡ true → list_all is_name_byte name ≡ true
name_bytes name named = (and_parts _ _ named).1

pub key_of_name : (name : List ℕ) → is_name name ≡ true → key_text name ≡ name
unfolding key_text
key_of_name name named =
    let some : 1 ≤ length name = leb-true _ _ (and_parts _ _ (and_parts _ _ named).0).0 in
    let bare = all_pass is_bare name (λ c n. (parts_of c n).bare) (name_bytes name named) in
    rw (lt-ltb 0 (length name) some, bare) refl

pub string_of_name : (name : List ℕ) → is_name name ≡ true → string_text name ≡ codes "\"" ++ (name ++ codes "\"")
unfolding string_text encoding_of
string_of_name name named =
    let all = name_bytes name named in
    rw (
      none_passes is_control name (λ c n. (parts_of c n).control) all,
      none_passes (λ c. c == backslash) name (λ c n. (parts_of c n).slashed) all,
      none_passes (λ c. c == quote) name (λ c n. (parts_of c n).quoted) all,
      none_passes (λ c. c == line_feed) name (λ c n. (parts_of c n).fed) all,
      escaped_bytes name all,
    ) refl

ascii_bytes : (bytes : List ℕ) → list_all is_name_byte bytes ≡ true → IsAscii bytes
ascii_bytes [] all = IsAscii-nil
ascii_bytes (byte ∷ bytes) all =
    let parts = and_parts (is_name_byte byte) (list_all is_name_byte bytes) all in
    IsAscii-cons byte bytes (ascii_byte byte parts.0) (ascii_bytes bytes parts.1)

pub ascii_name : (name : List ℕ) → is_name name ≡ true → IsAscii name
ascii_name name named = ascii_bytes name (name_bytes name named)

-- ---- names of levels and options

has_name : NetOption → ℕ → Bool
has_name option place = is_name (row_at option place).name

levels_have : (option : NetOption) → list_all (has_name option) (range_with_len 0 (length (levels_of option))) ≡ true
unfolding has_name
levels_have I = refl
levels_have II = refl

pub level_is_named : (level : Level) → is_name (name_of level) ≡ true
unfolding has_name
level_is_named level = at_each (has_name level.option) (length (levels_of level.option)) level.place (levels_have level.option) level.is_row

pub option_is_named : (option : NetOption) → is_name (option_name option) ≡ true
option_is_named I = refl
option_is_named II = refl
