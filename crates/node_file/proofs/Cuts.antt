-- Where bytes are cut into lines, and more bytes follow.
use Rattle.std.proofs.Common.{◌≡◌, ◌<◌, ℕ, Bool, true, false, ◌⊎◌, List, [], ◌∷◌, ◌++◌, length, refl, ap, sym, ◌∙◌, arith, inl, inr, append-nil}
use Rattle.std.specs.Prelude.{◌==◌}
use Rattle.std.specs.List.{slice_split, onto_first}
use Rattle.std.proofs.lemmas.Bool.{cases_Bool}
use Rattle.std.proofs.lemmas.List.Splits.{slice_split-cons_yes, slice_split-cons_no, length-slice_split}
use Rattle.node_file.specs.NodeFile.{lines_of}
use Rattle.node_file.specs.Cutting.{ended_in, begun_in, lines_ended, line_begun}

-- parts, the first of which has something before it
abbrev pub with_front : List ℕ → List (List ℕ) → List (List ℕ)
with_front front [] = front ∷ []
with_front front (part ∷ parts) = (front ++ part) ∷ parts

-- there is always a part
pub some_part : (p : ℕ → Bool) (xs : List ℕ) → 0 < length (slice_split p xs)
some_part p xs = let many = length-slice_split p xs in omega (arith, many)

nothing_before : (parts : List (List ℕ)) → 0 < length parts → with_front [] parts ≡ parts
nothing_before [] some = absurd (omega (arith, some))
nothing_before (part ∷ parts) some = refl

one_before : (x : ℕ) (front : List ℕ) (parts : List (List ℕ)) → onto_first x (with_front front parts) ≡ with_front (x ∷ front) parts
one_before x front [] = refl
one_before x front (part ∷ parts) = refl

-- one byte more before bytes that are cut, with what follows them
begun_more : (s : List (List ℕ)) (y : List (List ℕ)) → 0 < length s → [] ∷ (ended_in s ++ with_front (begun_in s) y) ≡ ended_in ([] ∷ s) ++ with_front (begun_in ([] ∷ s)) y
begun_more [] y some = absurd (omega (arith, some))
begun_more (part ∷ parts) y some = refl

first_more : (x : ℕ) (s : List (List ℕ)) (y : List (List ℕ)) → 0 < length s
    → onto_first x (ended_in s ++ with_front (begun_in s) y) ≡ ended_in (onto_first x s) ++ with_front (begun_in (onto_first x s)) y
first_more x [] y some = absurd (omega (arith, some))
first_more x (part ∷ []) y some = one_before x part y
first_more x (part ∷ next ∷ parts) y some = refl

-- bytes that follow others are cut as alone, but for what stands before their first part
pub cut_further : (p : ℕ → Bool) (xs ys : List ℕ)
    → slice_split p (xs ++ ys) ≡ ended_in (slice_split p xs) ++ with_front (begun_in (slice_split p xs)) (slice_split p ys)
cut_further p [] ys = sym (nothing_before (slice_split p ys) (some_part p ys))
cut_further p (x ∷ xs) ys = by (cut_further p xs ys) (cases_Bool (p x))
  where
    by : slice_split p (xs ++ ys) ≡ ended_in (slice_split p xs) ++ with_front (begun_in (slice_split p xs)) (slice_split p ys)
        → (p x ≡ true) ⊎ (p x ≡ false)
        → slice_split p (x ∷ (xs ++ ys)) ≡ ended_in (slice_split p (x ∷ xs)) ++ with_front (begun_in (slice_split p (x ∷ xs))) (slice_split p ys)
    by rest (inl passes) =
        slice_split-cons_yes p x (xs ++ ys) passes ∙ ap (λ parts. [] ∷ parts) rest
        ∙ begun_more (slice_split p xs) (slice_split p ys) (some_part p xs)
        ∙ ap (λ s. ended_in s ++ with_front (begun_in s) (slice_split p ys)) (sym (slice_split-cons_yes p x xs passes))
    by rest (inr not) =
        slice_split-cons_no p x (xs ++ ys) not ∙ ap (onto_first x) rest
        ∙ first_more x (slice_split p xs) (slice_split p ys) (some_part p xs)
        ∙ ap (λ s. ended_in s ++ with_front (begun_in s) (slice_split p ys)) (sym (slice_split-cons_no p x xs not))

-- the last part of some lines and more
ended_append : (a b : List (List ℕ)) → 0 < length b → ended_in (a ++ b) ≡ a ++ ended_in b
ended_append [] b some = refl
ended_append (line ∷ []) [] some = absurd (omega (arith, some))
ended_append (line ∷ []) (next ∷ lines) some = refl
ended_append (line ∷ other ∷ a) b some = ap (λ lines. line ∷ lines) (ended_append (other ∷ a) b some)

begun_append : (a b : List (List ℕ)) → 0 < length b → begun_in (a ++ b) ≡ begun_in b
begun_append [] b some = refl
begun_append (line ∷ []) [] some = absurd (omega (arith, some))
begun_append (line ∷ []) (next ∷ lines) some = refl
begun_append (line ∷ other ∷ a) b some = begun_append (other ∷ a) b some

some_front : (front : List ℕ) (parts : List (List ℕ)) → 0 < length (with_front front parts)
some_front front [] = omega arith
some_front front (part ∷ parts) = omega arith

-- all lines are those that have ended, and the one that has begun
pub all_lines : (bytes : List ℕ) → lines_of bytes ≡ lines_ended bytes ++ line_begun bytes ∷ []
all_lines bytes = by (lines_of bytes) (some_part (λ byte. byte == 10) bytes)
  where
    by : (parts : List (List ℕ)) → 0 < length parts → parts ≡ ended_in parts ++ begun_in parts ∷ []
    by [] some = absurd (omega (arith, some))
    by (part ∷ []) some = refl
    by (part ∷ next ∷ parts) some = ap (λ lines. part ∷ lines) (by (next ∷ parts) (omega arith))

-- the lines of bytes that follow others
pub lines_further : (xs ys : List ℕ) → lines_of (xs ++ ys) ≡ lines_ended xs ++ with_front (line_begun xs) (lines_of ys)
lines_further xs ys = cut_further (λ byte. byte == 10) xs ys

pub ended_further : (xs ys : List ℕ) → lines_ended (xs ++ ys) ≡ lines_ended xs ++ ended_in (with_front (line_begun xs) (lines_of ys))
ended_further xs ys =
    ap ended_in (lines_further xs ys) ∙ ended_append (lines_ended xs) (with_front (line_begun xs) (lines_of ys)) (some_front (line_begun xs) (lines_of ys))

pub begun_further : (xs ys : List ℕ) → line_begun (xs ++ ys) ≡ begun_in (with_front (line_begun xs) (lines_of ys))
begun_further xs ys =
    ap begun_in (lines_further xs ys) ∙ begun_append (lines_ended xs) (with_front (line_begun xs) (lines_of ys)) (some_front (line_begun xs) (lines_of ys))

-- bytes without a line feed go on with the line that has begun
pub put_ended : (xs ys : List ℕ) → lines_of ys ≡ ys ∷ [] → lines_ended (xs ++ ys) ≡ lines_ended xs
put_ended xs ys one = ended_further xs ys ∙ ap (λ lines. lines_ended xs ++ ended_in (with_front (line_begun xs) lines)) one ∙ append-nil (lines_ended xs)

pub put_begun : (xs ys : List ℕ) → lines_of ys ≡ ys ∷ [] → line_begun (xs ++ ys) ≡ line_begun xs ++ ys
put_begun xs ys one = begun_further xs ys ∙ ap (λ lines. begun_in (with_front (line_begun xs) lines)) one

-- a line feed ends it
pub fed_ended : (xs : List ℕ) → lines_ended (xs ++ 10 ∷ []) ≡ lines_ended xs ++ line_begun xs ∷ []
fed_ended xs = ended_further xs (10 ∷ []) ∙ ap (λ line. lines_ended xs ++ line ∷ []) (append-nil (line_begun xs))

pub fed_begun : (xs : List ℕ) → line_begun (xs ++ 10 ∷ []) ≡ []
fed_begun xs = begun_further xs (10 ∷ [])
