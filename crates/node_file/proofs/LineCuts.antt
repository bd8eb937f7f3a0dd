-- Parts of bytes, and the octets of digits.
use Rattle.std.proofs.Common.{◌≡◌, ◌≤◌, ◌++◌, ℕ, ◌+◌, Bool, true, false, List, [], ◌∷◌, length, None, refl, ap, sym, ◌∙◌, ◌<◌, ◌⊎◌, arith, inl, inr, append-nil}
use Rattle.std.specs.Prelude.{Result, Ok, Err}
use Rattle.std.specs.Prelude.{◌==◌}
use Rattle.std.specs.List.{slice_split, onto_first, count_by, join_with_byte}
use Rattle.std.proofs.lemmas.Bool.{cases_Bool}
use Rattle.std.proofs.lemmas.List.Splits.{slice_split-cons_no, length-slice_split, join_with_byte-slice_split}
use Rattle.csv_records.specs.Fields.{four_of}
use Rattle.sync_ql.specs.declared.levels.NetOption.{NetOption}
use Rattle.sync_topo.specs.declared.input.LineId.{LineId}
use Rattle.esmc_frame.specs.Reading.{reading_of}
use Rattle.hex.specs.declared.error.FromHexError.{FromHexError}
use Rattle.capture_text.specs.private.Steps.{IsPut}
use Rattle.node_file.specs.declared.error.NodeErr.TheVariants as refusal
use Rattle.node_file.specs.NodeFile.{frame_said, octets_said}

-- the first part of some bytes is no longer than they are
pub first_short : (p : ℕ → Bool) (xs : List ℕ) (a : List ℕ) (rest : List (List ℕ)) → slice_split p xs ≡ a ∷ rest → length a ≤ length xs
first_short p [] a rest is = let none : a ≡ [] = cc in rw none (omega arith)
first_short p (x ∷ xs) a rest is = by (λ b others. first_short p xs b others) (cases_Bool (p x))
  where
    by_first : ((b : List ℕ) (others : List (List ℕ)) → slice_split p xs ≡ b ∷ others → length b ≤ length xs)
        → (parts : List (List ℕ)) → slice_split p xs ≡ parts → onto_first x parts ≡ a ∷ rest → length a ≤ length (x ∷ xs)
    by_first shorter [] split same = let one : a ≡ x ∷ [] = cc in rw one (omega arith)
    by_first shorter (b ∷ others) split same =
        let short = shorter b others split in
        let first : a ≡ x ∷ b = cc in
        rw first (omega (arith, short))

    by : ((b : List ℕ) (others : List (List ℕ)) → slice_split p xs ≡ b ∷ others → length b ≤ length xs)
        → (p x ≡ true) ⊎ (p x ≡ false) → length a ≤ length (x ∷ xs)
    by shorter (inl passes) = let none : a ≡ [] = cc in rw none (omega arith)
    by shorter (inr not) = by_first shorter (slice_split p xs) refl (sym (slice_split-cons_no p x xs not) ∙ is)

-- and it has no further cut
pub first_alone : (p : ℕ → Bool) (xs : List ℕ) (a : List ℕ) (rest : List (List ℕ)) → slice_split p xs ≡ a ∷ rest → slice_split p a ≡ a ∷ []
first_alone p [] a rest is = let none : a ≡ [] = cc in rw none refl
first_alone p (x ∷ xs) a rest is = by (λ b others. first_alone p xs b others) (cases_Bool (p x))
  where
    by_first : ((b : List ℕ) (others : List (List ℕ)) → slice_split p xs ≡ b ∷ others → slice_split p b ≡ b ∷ []) → p x ≡ false
        → (parts : List (List ℕ)) → slice_split p xs ≡ parts → onto_first x parts ≡ a ∷ rest → slice_split p a ≡ a ∷ []
    by_first alone not [] split same = let one : a ≡ x ∷ [] = cc in rw one (slice_split-cons_no p x [] not)
    by_first alone not (b ∷ others) split same =
        let first : a ≡ x ∷ b = cc in
        rw first (slice_split-cons_no p x b not ∙ ap (onto_first x) (alone b others split))

    by : ((b : List ℕ) (others : List (List ℕ)) → slice_split p xs ≡ b ∷ others → slice_split p b ≡ b ∷ [])
        → (p x ≡ true) ⊎ (p x ≡ false) → slice_split p a ≡ a ∷ []
    by alone (inl passes) = let none : a ≡ [] = cc in rw none refl
    by alone (inr not) = by_first alone not (slice_split p xs) refl (sym (slice_split-cons_no p x xs not) ∙ is)

-- there are as many parts as cuts, and one
some_parts : (p : ℕ → Bool) (xs : List ℕ) → length (slice_split p xs) ≡ count_by p xs + 1
some_parts p xs = length-slice_split p xs

-- what the parts say of the bytes
pub whole_piece : (piece front : List ℕ) → slice_split (λ byte. byte == 10) piece ≡ front ∷ [] → piece ≡ front
whole_piece piece front is = sym (join_with_byte-slice_split 10 piece) ∙ ap (join_with_byte 10) is

cut_join : (front : List ℕ) (parts : List (List ℕ)) → 0 < length parts → join_with_byte 10 (front ∷ parts) ≡ front ++ 10 ∷ join_with_byte 10 parts
cut_join front [] some = absurd (omega (arith, some))
cut_join front (part ∷ parts) some = refl

pub cut_piece : (piece front rest : List ℕ) → slice_split (λ byte. byte == 10) piece ≡ front ∷ slice_split (λ byte. byte == 10) rest → piece ≡ front ++ 10 ∷ rest
cut_piece piece front rest is =
    sym (join_with_byte-slice_split 10 piece) ∙ ap (join_with_byte 10) is
    ∙ cut_join front (slice_split (λ byte. byte == 10) rest) (let many = some_parts (λ byte. byte == 10) rest in omega (arith, many))
    ∙ ap (λ more. front ++ 10 ∷ more) (join_with_byte-slice_split 10 rest)

-- parts are never none, so that four parts and more are no four fields
no_four : (a b c d : List ℕ) (parts : List (List ℕ)) → 0 < length parts → four_of (a ∷ b ∷ c ∷ d ∷ parts) ≡ None
no_four a b c d [] some = absurd (omega (arith, some))
no_four a b c d (e ∷ parts) some = refl

pub five_parts : (p : ℕ → Bool) (a b c d xs : List ℕ) → four_of (a ∷ b ∷ c ∷ d ∷ slice_split p xs) ≡ None
five_parts p a b c d xs = let many = some_parts p xs in no_four a b c d (slice_split p xs) (omega (arith, many))

-- octets that are put say what their digits say
octets_put : (n : ℕ) (option : NetOption) (line : LineId) (given : Result (List ℕ) FromHexError) (is : Bool) (out : List ℕ)
    → IsPut given is out → is ≡ true → octets_said n option line given ≡ frame_said n option line (reading_of out)
octets_put n option line (Ok octets) is out put done = ap (λ o. frame_said n option line (reading_of o)) (sym put.1)
octets_put n option line (Err error) is out put done = cc

pub octets_read : (n : ℕ) (option : NetOption) (line : LineId) (given : Result (List ℕ) FromHexError) (is : Bool) (out : List ℕ)
    → IsPut given is out → is ≡ true → frame_said n option line (reading_of out) ≡ octets_said n option line given
octets_read n option line given is out put done = sym (octets_put n option line given is out put done)

-- a piece goes on behind its first part, or ends there
pub piece_more : (piece front : List ℕ) (others : List (List ℕ)) → slice_split (λ byte. byte == 10) piece ≡ front ∷ others
    → (more : List ℕ) × (piece ≡ front ++ more)
piece_more piece front [] is = ([], whole_piece piece front is ∙ sym (append-nil front))
piece_more piece front (part ∷ parts) is =
    (10 ∷ join_with_byte 10 (part ∷ parts), sym (join_with_byte-slice_split 10 piece) ∙ ap (join_with_byte 10) is)
