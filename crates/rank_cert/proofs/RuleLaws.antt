-- A certificate is refused for the first broken rule, and taken where none is broken.
use Rattle.std.proofs.Common.{◌≡◌, ℕ, ◌+◌, ◌<◌, ◌≤◌, zero, suc, Bool, true, false, ◌&&◌, List, [], ◌∷◌, length, map, take, find, Option, Some, None, Ok, Err, slice_get, refl, ap, sym, ◌∙◌, subst, inl, inr, arith}
use Rattle.std.specs.Prelude.{◌≢◌, is_none, is_some, IsSome, IfOk, if◌then◌else◌, Result}
use Rattle.std.specs.List.{range_with_len}
use Rattle.std.specs.Option.{option_or, option_and_then}
use Rattle.std.proofs.lemmas.Bool.{true≢false, and_parts, cases_lt}
use Rattle.std.proofs.lemmas.Bool.Decides.{eqb_tells}
use Rattle.std.proofs.lemmas.Option.{none-some, same_Some, slice_get_within, slice_get_past}
use Rattle.std.proofs.lemmas.List.{length-map}
use Rattle.sync_topo.proofs.Lists.{item_at}
use Rattle.csv_records.specs.FirstRefusal.{first_refusal}
use Rattle.sync_text.proofs.Ranges.{find_range-Some, find_range-None}
use Rattle.sync_text.proofs.Options.{is_some-false}
use Rattle.sync_topo.specs.declared.input.LineId.{LineId}
use Rattle.sync_topo.specs.Topology.{Topology}
use Rattle.sync_topo.specs.Lines.{line_count, is_nominated, IsNominated}
use Rattle.sync_topo.proofs.LineLaws.{IsNominated-within}
use Rattle.rank_cert.specs.declared.error.CertErr.{CertErr}
use Rattle.rank_cert.specs.declared.error.CertErr.TheVariants.{Header, Row, Line, Twice, Missing}
use Rattle.rank_cert.specs.Ranks.{Ranks, rank_at}
use Rattle.rank_cert.specs.Rows.{Fields, rank_in_row, line_in_row, is_row_of, rank_for, rank_by_rows, ranks_by_rows}
use Rattle.rank_cert.specs.CertificateText.{is_header, refusal_of, row_refusal, refusal_at, first_without, certificate_of_records}
use Rattle.sync_text.specs.declared.errors.NoAnswer.{NoAnswer}
use Rattle.sync_text.specs.declared.errors.NoAnswer.TheVariants.{NoMemory, Refused}
use Rattle.sync_text.specs.Gives.{Gives, IfRefused}
use Rattle.rank_cert.specs.Rules.{row_at, HasLine, HasRow, IsSoundRow, IsSoundBefore, IsReached, IsFirstBroken, NamesLine, IsCertificateOf}
use Rattle.rank_cert.proofs.Certificates.{is_row_of-line, rank_by_rows-other}

-- a row of a line is one
is_row_of-from : (plan : Topology) (line : ℕ) (row : Fields) → line_in_row plan row ≡ Some line → is_row_of plan line row ≡ true
is_row_of-from plan line row of_row = elim (eqb_tells line line) [
  | inl same ↦ rw of_row same.0
  | inr other ↦ absurd (other.1 refl)
]

-- where rows give a line no rank, none of them has that line and a rank
no_row-of : (plan : Topology) (rows : List Fields) (line place : ℕ) (row : Fields) → rank_by_rows plan rows line ≡ None → slice_get rows place ≡ Some row
    → line_in_row plan row ≡ Some line → rank_in_row row ≡ None
no_row-of plan [] line place row none at of_row = absurd (none-some row at)
no_row-of plan (first ∷ rows) line zero row none at of_row =
    let same : first ≡ row = same_Some first row at in
    let none_here : option_or (rank_for plan line row) (rank_by_rows plan rows line) ≡ None = rw same at none in
    let given : option_or (rank_in_row row) (rank_by_rows plan rows line) ≡ None = rw (is_row_of-from plan line row of_row) at none_here in
    front (rank_in_row row) given
  where
    front : (o : Option ℕ) → option_or o (rank_by_rows plan rows line) ≡ None → o ≡ None
    front None e = refl
    front (Some rank) e = absurd (none-some rank (sym e))
no_row-of plan (first ∷ rows) line (suc place) row none at of_row = no_row-of plan rows line place row (rest (rank_for plan line first) none) at of_row
  where
    rest : (o : Option ℕ) → option_or o (rank_by_rows plan rows line) ≡ None → rank_by_rows plan rows line ≡ None
    rest None e = e
    rest (Some rank) e = absurd (none-some rank (sym e))

-- a row that gives a line its rank
pub record GivesRank (plan : Topology) (rows : List Fields) (line rank : ℕ) : Type 0 where
  pub place : ℕ
  pub row : Fields
  pub at : slice_get rows place ≡ Some row
  pub of_row : line_in_row plan row ≡ Some line
  pub given : rank_in_row row ≡ Some rank

row-of : (plan : Topology) (rows : List Fields) (line rank : ℕ) → rank_by_rows plan rows line ≡ Some rank → GivesRank plan rows line rank
row-of plan [] line rank some = absurd (none-some rank some)
row-of plan (first ∷ rows) line rank some =
    cases (is_row_of plan line first) refl (rank_in_row first) refl (λ rest.
    let later = row-of plan rows line rank rest in
    record { place = later.place + 1; row = later.row; at = behind later.place later.row later.at; of_row = later.of_row; given = later.given })
  where
    behind : (place : ℕ) (row : Fields) → slice_get rows place ≡ Some row → slice_get (first ∷ rows) (place + 1) ≡ Some row
    behind place row at = let next : place + 1 ≡ suc place = omega arith in rw next at

    cases : (b : Bool) → is_row_of plan line first ≡ b → (o : Option ℕ) → rank_in_row first ≡ o
        → (rank_by_rows plan rows line ≡ Some rank → GivesRank plan (first ∷ rows) line rank) → GivesRank plan (first ∷ rows) line rank
    cases false e o f more = more (rw e at some)
    cases true e None f more = more (rw (e, f) at some)
    cases true e (Some given) f more =
        let same : Some given ≡ Some rank = rw (e, f) at some in
        record { place = 0; row = first; at = refl; of_row = is_row_of-line plan line first e; given = f ∙ same }

-- the row at a place, by its number
row_at-place : (first : Fields) (rows : List Fields) (place : ℕ) (row : Fields) → slice_get rows place ≡ Some row → row_at (first ∷ rows) (place + 1) ≡ row
row_at-place first rows place row at =
    let next : place + 1 ≡ suc place = omega arith in
    rw (next, at) refl

-- a row with a line stands somewhere
row_at-line : (plan : Topology) (first : Fields) (rows : List Fields) (n line : ℕ) → HasLine plan (first ∷ rows) n line
    → (place : ℕ) × (row : Fields) × (n ≡ place + 1) × (slice_get rows place ≡ Some row) × (line_in_row plan row ≡ Some line)
row_at-line plan first rows zero line has = absurd (omega (arith, has.0))
row_at-line plan first rows (suc place) line has = cases (slice_get rows place) refl
  where
    cases : (o : Option Fields) → slice_get rows place ≡ o → (p : ℕ) × (row : Fields) × (suc place ≡ p + 1) × (slice_get rows p ≡ Some row) × (line_in_row plan row ≡ Some line)
    cases None e = let never : None ≡ Some line = rw e at has.1 in absurd (none-some line never)
    cases (Some row) e = (place, row, omega arith, e, rw e at has.1)

-- the front of a list holds what stands there
slice_get-take : {A : Type 0} (xs : List A) (n place : ℕ) (x : A) → place < n → slice_get xs place ≡ Some x → slice_get (take n xs) place ≡ Some x
slice_get-take [] n place x before at = absurd (none-some x at)
slice_get-take (y ∷ ys) zero place x before at = absurd (omega (arith, before))
slice_get-take (y ∷ ys) (suc n) zero x before at = at
slice_get-take (y ∷ ys) (suc n) (suc place) x before at = slice_get-take ys n place x (omega (arith, before)) at

pub from_take : {A : Type 0} (xs : List A) (n place : ℕ) (x : A) → slice_get (take n xs) place ≡ Some x → (place < n) × (slice_get xs place ≡ Some x)
from_take [] zero place x at = absurd (none-some x at)
from_take [] (suc n) place x at = absurd (none-some x at)
from_take (y ∷ ys) zero place x at = absurd (none-some x at)
from_take (y ∷ ys) (suc n) zero x at = (omega arith, at)
from_take (y ∷ ys) (suc n) (suc place) x at = let rest = from_take ys n place x at in (omega (arith, rest.0), rest.1)

-- what a row without refusal has
record Passes (n : ℕ) (is_taken : ℕ → Bool) (rank line : Option ℕ) : Type 0 where
  has_rank : IsSome rank
  its_line : ℕ
  has_line : line ≡ Some its_line
  is_free : is_taken its_line ≡ false

passes : (n : ℕ) (is_taken : ℕ → Bool) (rank line : Option ℕ) → refusal_of n is_taken rank line ≡ None → Passes n is_taken rank line
passes n is_taken None line none = absurd (none-some _ (sym none))
passes n is_taken (Some rank) None none = absurd (none-some _ (sym none))
passes n is_taken (Some rank) (Some line) none = record { has_rank = refl; its_line = line; has_line = refl; is_free = free (is_taken line) none }
  where
    free : (b : Bool) → (if b then Some (Twice n) else None) ≡ None → b ≡ false
    free true e = absurd (none-some _ (sym e))
    free false e = refl

has_rank-not : (o : Option ℕ) → IsSome o → o ≡ None → ⊥
has_rank-not None some none = true≢false (sym some)
has_rank-not (Some rank) some none = none-some rank (sym none)

-- a row without refusal keeps the rules, where those before it do
sound-row : (plan : Topology) (first : Fields) (rows : List Fields) (place : ℕ) (row : Fields) → slice_get rows place ≡ Some row → refusal_at plan rows place ≡ None
    → ((n : ℕ) → 1 ≤ n → n < place + 1 → IsSome (rank_in_row (row_at (first ∷ rows) n))) → IsSoundRow plan (first ∷ rows) (place + 1)
sound-row plan first rows place row at none before =
    let here : row_at (first ∷ rows) (place + 1) ≡ row = row_at-place first rows place row at in
    let known : row_refusal plan (take place rows) (place + 1) row ≡ None = rw at at none in
    let own = passes (place + 1) (λ line. is_some (rank_by_rows plan (take place rows) line)) (rank_in_row row) (line_in_row plan row) known in
    record {
      has_rank = rw here own.has_rank;
      line = own.its_line;
      has_line = (omega arith, rw here own.has_line);
      is_new = λ earlier before_it of_line.
          let found = row_at-line plan first rows earlier own.its_line of_line in
          let inside : slice_get (take place rows) found.0 ≡ Some found.1 = slice_get-take rows place found.0 found.1 (omega (arith, found.2)) found.3 in
          let lost = no_row-of plan (take place rows) own.its_line found.0 found.1 (is_some-false _ own.is_free) inside found.4 in
          let ranked : IsSome (rank_in_row found.1) = rw (found.2, row_at-place first rows found.0 found.1 found.3) at (before earlier of_line.0 before_it) in
          has_rank-not (rank_in_row found.1) ranked lost;
    }

-- rows without refusal keep the rules
sound-before : (plan : Topology) (first : Fields) (rows : List Fields) (count : ℕ) → is_header first ≡ true → count ≤ length rows
    → ((place : ℕ) → place < count → refusal_at plan rows place ≡ None) → IsSoundBefore plan (first ∷ rows) (count + 1)
sound-before plan first rows zero header within none = record { has_header = header; sound = λ row low high. absurd (omega arith) }
sound-before plan first rows (suc count) header within none =
    let before = sound-before plan first rows count header (omega arith) (λ place less. none place (omega arith)) in
    record {
      has_header = header;
      sound = λ row low high. elim (eqb_tells row (count + 1)) [
        | inl same ↦
            let at = item_at rows count (omega arith) in
            rw same.1 (sound-row plan first rows count at.0 at.1 (none count (omega arith)) (λ n one less. (before.sound n one less).has_rank))
        | inr other ↦ before.sound row low (omega (arith, other.1))
      ];
    }

-- no refusal at any place
never-refuses : {E : Type 0} (refused_at : ℕ → Option E) (count : ℕ) → first_refusal refused_at count ≡ None → (place : ℕ) → place < count → refused_at place ≡ None
never-refuses refused_at count none place within = cases (find (λ i. is_some (refused_at i)) (range_with_len 0 count)) refl none
  where
    cases : (o : Option ℕ) → find (λ i. is_some (refused_at i)) (range_with_len 0 count) ≡ o → option_and_then refused_at o ≡ None → refused_at place ≡ None
    cases None f is = is_some-false (refused_at place) (find_range-None (λ i. is_some (refused_at i)) 0 count f place (omega arith) (omega arith))
    cases (Some k) f is =
        let facts = find_range-Some (λ i. is_some (refused_at i)) 0 count k f in
        let never : false ≡ true = rw is at facts.0 in
        absurd (true≢false (sym never))

-- all rows without refusal
sound-all : (plan : Topology) (first : Fields) (rows : List Fields) → is_header first ≡ true → first_refusal (refusal_at plan rows) (length rows) ≡ None
    → IsSoundBefore plan (first ∷ rows) (length (first ∷ rows))
sound-all plan first rows header none =
    let whole : length rows + 1 ≡ length (first ∷ rows) = omega arith in
    subst (IsSoundBefore plan (first ∷ rows)) whole (sound-before plan first rows (length rows) header (omega arith) (never-refuses (refusal_at plan rows) (length rows) none))

-- a row that breaks a rule, after rows that keep them
broken-row : (plan : Topology) (first : Fields) (rows : List Fields) (place : ℕ) (row : Fields) (e : CertErr) → slice_get rows place ≡ Some row
    → IsSoundBefore plan (first ∷ rows) (place + 1) → refusal_at plan rows place ≡ Some e → IsFirstBroken plan (first ∷ rows) e
broken-row plan first rows place row e at sound broken =
    cases (rank_in_row row) refl (line_in_row plan row) refl (rw at at broken)
  where
    here : row_at (first ∷ rows) (place + 1) ≡ row
    here = row_at-place first rows place row at

    inside : place + 1 < length (first ∷ rows)
    inside = let within = slice_get_within rows place row at in omega (arith, within)

    taken : ℕ → Bool
    taken = λ line. is_some (rank_by_rows plan (take place rows) line)

    reached : IsReached plan (first ∷ rows) (place + 1)
    reached = record { one = omega arith; within = inside; before = sound }

    twice : (rank line : ℕ) → rank_in_row row ≡ Some rank → line_in_row plan row ≡ Some line → (o : Option ℕ) → rank_by_rows plan (take place rows) line ≡ o
        → (if is_some o then Some (Twice (place + 1)) else None) ≡ Some e → IsFirstBroken plan (first ∷ rows) e
    twice rank line r l None given never = absurd (none-some e never)
    twice rank line r l (Some before) given is =
        let from = row-of plan (take place rows) line before given in
        let there = from_take rows place from.place from.row from.at in
        let earlier : row_at (first ∷ rows) (from.place + 1) ≡ from.row = row_at-place first rows from.place from.row there.1 in
        let has_rank : IsSome (rank_in_row row) = rw r refl in
        subst (IsFirstBroken plan (first ∷ rows)) (same_Some (Twice (place + 1)) e is)
        (reached, rw here has_rank, line, from.place + 1, (omega arith, rw here l), (omega arith, rw earlier from.of_row), omega (arith, there.0))

    cases : (r : Option ℕ) → rank_in_row row ≡ r → (l : Option ℕ) → line_in_row plan row ≡ l → refusal_of (place + 1) taken r l ≡ Some e → IsFirstBroken plan (first ∷ rows) e
    cases None r l m is = subst (IsFirstBroken plan (first ∷ rows)) (same_Some (Row (place + 1)) e is) (reached, rw here r)
    cases (Some rank) r None m is =
        let has_rank : IsSome (rank_in_row row) = rw r refl in
        subst (IsFirstBroken plan (first ∷ rows)) (same_Some (Line (place + 1)) e is) (reached, rw here has_rank, rw here m)
    cases (Some rank) r (Some line) m is = twice rank line r m (rank_by_rows plan (take place rows) line) refl is

-- the first refusal stands at a place, and none stands before it
pub record RefusesFirst {E : Type 0} (refused_at : ℕ → Option E) (count : ℕ) (e : E) : Type 0 where
  pub place : ℕ
  pub within : place < count
  pub refused : refused_at place ≡ Some e
  pub before : (i : ℕ) → i < place → refused_at i ≡ None

refuses-first : {E : Type 0} (refused_at : ℕ → Option E) (count : ℕ) (e : E) → first_refusal refused_at count ≡ Some e → RefusesFirst refused_at count e
refuses-first refused_at count e found = cases (find (λ place. is_some (refused_at place)) (range_with_len 0 count)) refl found
  where
    cases : (o : Option ℕ) → find (λ place. is_some (refused_at place)) (range_with_len 0 count) ≡ o → option_and_then refused_at o ≡ Some e → RefusesFirst refused_at count e
    cases None f is = absurd (none-some e is)
    cases (Some place) f is =
        let facts = find_range-Some (λ i. is_some (refused_at i)) 0 count place f in
        record { place = place; within = omega (arith, facts.3); refused = is; before = λ i less. is_some-false (refused_at i) (facts.1 i (omega arith) less) }

-- the ranks by rows, line by line
rank_at-by_rows : (plan : Topology) (rows : List Fields) (line : ℕ) → line < line_count plan → rank_at (ranks_by_rows plan rows) line ≡ rank_by_rows plan rows line
rank_at-by_rows plan rows line within = let plain : 0 + line ≡ line = omega arith in at (rank_by_rows plan rows) 0 (line_count plan) line within ∙ ap (rank_by_rows plan rows) plain
  where
    at : (f : ℕ → Option ℕ) (a n i : ℕ) → i < n → rank_at (map f (range_with_len a n)) i ≡ f (a + i)
    at f a zero i less = absurd (omega (arith, less))
    at f a (suc n) zero less = let plain : a + 0 ≡ a = omega arith in rw plain refl
    at f a (suc n) (suc i) less = let next : a + suc i ≡ a + 1 + i = omega arith in rw next (at f (a + 1) n i (omega (arith, less)))

by_rows-length : (plan : Topology) (rows : List Fields) → length (ranks_by_rows plan rows) ≡ line_count plan
by_rows-length plan rows = length-map (range_with_len 0 (line_count plan)) (rank_by_rows plan rows) ∙ range-length 0 (line_count plan)
  where
    range-length : (a n : ℕ) → length (range_with_len a n) ≡ n
    range-length a zero = refl
    range-length a (suc n) = ap suc (range-length (a + 1) n)

rank_at-past : (ranks : Ranks) (line : ℕ) → length ranks ≤ line → rank_at ranks line ≡ None
rank_at-past ranks line past = rw (slice_get_past ranks line past) refl

by_rows-other : (plan : Topology) (rows : List Fields) (line : ℕ) → ¬ IsNominated plan line → rank_at (ranks_by_rows plan rows) line ≡ None
by_rows-other plan rows line other = elim (cases_lt line (line_count plan)) [
  | inl within ↦ rank_at-by_rows plan rows line within ∙ rank_by_rows-other plan rows line other
  | inr past ↦ rank_at-past (ranks_by_rows plan rows) line (omega (arith, past, by_rows-length plan rows))
]

-- a line that rows give a rank has a row
has-row : (plan : Topology) (first : Fields) (rows : List Fields) (line rank : ℕ) → rank_by_rows plan rows line ≡ Some rank
    → (n : ℕ) × HasLine plan (first ∷ rows) n line × (Some rank ≡ rank_in_row (row_at (first ∷ rows) n))
has-row plan first rows line rank given =
    let from = row-of plan rows line rank given in
    let there : row_at (first ∷ rows) (from.place + 1) ≡ from.row = row_at-place first rows from.place from.row from.at in
    (from.place + 1, (omega arith, rw there from.of_row), rw there (sym from.given))

-- where all rows keep the rules, a line without a rank by them has no row
no-row : (plan : Topology) (first : Fields) (rows : List Fields) (line : ℕ) → IsSoundBefore plan (first ∷ rows) (length (first ∷ rows)) → rank_by_rows plan rows line ≡ None
    → ¬ HasRow plan (first ∷ rows) line
no-row plan first rows line sound none = λ has.
    let found = row_at-line plan first rows has.0 line has.1 in
    let lost = no_row-of plan rows line found.0 found.1 none found.3 found.4 in
    let within = slice_get_within rows found.0 found.1 found.3 in
    let own = sound.sound has.0 has.1.0 (omega (arith, found.2, within)) in
    let ranked : IsSome (rank_in_row found.1) = rw (found.2, row_at-place first rows found.0 found.1 found.3) at own.has_rank in
    has_rank-not (rank_in_row found.1) ranked lost

pub is_none-of : (o : Option ℕ) → is_none o ≡ true → o ≡ None
is_none-of None e = refl
is_none-of (Some rank) e = absurd (true≢false (sym e))

pub some-rank : (o : Option ℕ) → is_none o ≡ false → (rank : ℕ) × (o ≡ Some rank)
some-rank None e = absurd (true≢false e)
some-rank (Some rank) e = (rank, refl)

-- the lowest-numbered nominated line without a row
missing-line : (plan : Topology) (first : Fields) (rows : List Fields) (line : LineId) → IsSoundBefore plan (first ∷ rows) (length (first ∷ rows))
    → first_without plan (ranks_by_rows plan rows) ≡ Some line.0 → IsFirstBroken plan (first ∷ rows) (Missing line)
missing-line plan first rows line sound found =
    let lacks : ℕ → Bool = λ l. is_nominated plan l && is_none (rank_at (ranks_by_rows plan rows) l) in
    let facts = find_range-Some lacks 0 (line_count plan) line.0 found in
    let both = and_parts (is_nominated plan line.0) (is_none (rank_at (ranks_by_rows plan rows) line.0)) facts.0 in
    let none : rank_by_rows plan rows line.0 ≡ None = sym (rank_at-by_rows plan rows line.0 (omega (arith, facts.3))) ∙ is_none-of _ both.1 in (
      sound,
      both.0,
      no-row plan first rows line.0 sound none,
      λ lower less nominated.
          let fails : is_none (rank_at (ranks_by_rows plan rows) lower) ≡ false = rw nominated at (facts.1 lower (omega arith) less) in
          let some = some-rank _ fails in
          let has = has-row plan first rows lower some.0 (sym (rank_at-by_rows plan rows lower (omega (arith, less, facts.3))) ∙ some.1) in
          (has.0, has.1),
    )

same_Err : (a b : CertErr) → ◌≡◌ {A = Result Ranks CertErr} (Err a) (Err b) → a ≡ b
same_Err a b e = cc

same_Ok : (a b : Ranks) → ◌≡◌ {A = Result Ranks CertErr} (Ok a) (Ok b) → a ≡ b
same_Ok a b e = cc

not_both : (a : Ranks) (e : CertErr) → ◌≡◌ {A = Result Ranks CertErr} (Ok a) (Err e) → ⊥
not_both a e is = cc

-- the rule of a refusal is the first that is broken
pub first-broken : (plan : Topology) (records : List Fields) (e : CertErr) → certificate_of_records plan records ≡ Err e → IsFirstBroken plan records e
unfolding certificate_of_records
first-broken plan [] e is = subst (IsFirstBroken plan []) (same_Err Header e is) (λ never. never)
first-broken plan (first ∷ rows) e is = by_header (is_header first) refl
  where
    by_line : (o : Option ℕ) → first_without plan (ranks_by_rows plan rows) ≡ o → is_header first ≡ true → first_refusal (refusal_at plan rows) (length rows) ≡ None
        → IsFirstBroken plan (first ∷ rows) e
    by_line None f h none = absurd (not_both _ _ (rw (h, none, f) at is))
    by_line (Some line) f h none =
        let sound = sound-all plan first rows h none in
        subst (IsFirstBroken plan (first ∷ rows)) (same_Err _ e (rw (h, none, f) at is)) (missing-line plan first rows (record { 0 = line }) sound f)

    by_row : (o : Option CertErr) → first_refusal (refusal_at plan rows) (length rows) ≡ o → is_header first ≡ true → IsFirstBroken plan (first ∷ rows) e
    by_row None f h = by_line (first_without plan (ranks_by_rows plan rows)) refl h f
    by_row (Some broken) f h =
        let found = refuses-first (refusal_at plan rows) (length rows) broken f in
        let at = item_at rows found.place found.within in
        let sound = sound-before plan first rows found.place h (omega (arith, found.within)) found.before in
        subst (IsFirstBroken plan (first ∷ rows)) (same_Err broken e (rw (h, f) at is)) (broken-row plan first rows found.place at.0 broken at.1 sound found.refused)

    by_header : (b : Bool) → is_header first ≡ b → IsFirstBroken plan (first ∷ rows) e
    by_header false h = subst (IsFirstBroken plan (first ∷ rows)) (same_Err Header e (rw h at is)) (λ header. true≢false (sym header ∙ h))
    by_header true h = by_row (first_refusal (refusal_at plan rows) (length rows)) refl h

-- ranks are given where no rule is broken
pub certificate-sound : (plan : Topology) (records : List Fields) (ranks : Ranks) → certificate_of_records plan records ≡ Ok ranks → IsCertificateOf plan records ranks
unfolding certificate_of_records
certificate-sound plan [] ranks is = absurd (not_both _ _ (sym is))
certificate-sound plan (first ∷ rows) ranks is = by_header (is_header first) refl
  where
    by_line : (o : Option ℕ) → first_without plan (ranks_by_rows plan rows) ≡ o → is_header first ≡ true → first_refusal (refusal_at plan rows) (length rows) ≡ None
        → IsCertificateOf plan (first ∷ rows) ranks
    by_line (Some line) f h none = absurd (not_both _ _ (sym (rw (h, none, f) at is)))
    by_line None f h none =
        let same : ranks_by_rows plan rows ≡ ranks = same_Ok _ ranks (rw (h, none, f) at is) in
        record {
          sound = sound-all plan first rows h none;
          counted = rw (← same) (by_rows-length plan rows);
          no_other = λ line other. rw (← same) (by_rows-other plan rows line other);
          ranked = λ line nominated.
              let within = IsNominated-within plan line nominated in
              let fails = find_range-None (λ l. is_nominated plan l && is_none (rank_at (ranks_by_rows plan rows) l)) 0 (line_count plan) f line (omega arith) (omega (arith, within)) in
              let has_one : is_none (rank_at (ranks_by_rows plan rows) line) ≡ false = rw nominated at fails in
              let some = some-rank _ has_one in
              let has = has-row plan first rows line some.0 (sym (rank_at-by_rows plan rows line within) ∙ some.1) in
              (has.0, has.1, rw (← same) (some.1 ∙ has.2));
        }

    by_row : (o : Option CertErr) → first_refusal (refusal_at plan rows) (length rows) ≡ o → is_header first ≡ true → IsCertificateOf plan (first ∷ rows) ranks
    by_row None f h = by_line (first_without plan (ranks_by_rows plan rows)) refl h f
    by_row (Some broken) f h = absurd (not_both _ _ (sym (rw (h, f) at is)))

    by_header : (b : Bool) → is_header first ≡ b → IsCertificateOf plan (first ∷ rows) ranks
    by_header false h = absurd (not_both _ _ (sym (rw h at is)))
    by_header true h = by_row (first_refusal (refusal_at plan rows) (length rows)) refl h

-- ranks with the same rank for each line are the same
same-ranks : (xs ys : Ranks) → length xs ≡ length ys → ((line : ℕ) → rank_at xs line ≡ rank_at ys line) → xs ≡ ys
same-ranks [] [] counted each = refl
same-ranks [] (y ∷ ys) counted each = absurd (omega (arith, counted))
same-ranks (x ∷ xs) [] counted each = absurd (omega (arith, counted))
same-ranks (x ∷ xs) (y ∷ ys) counted each =
    let here : x ≡ y = each 0 in
    let rest : xs ≡ ys = same-ranks xs ys (omega (arith, counted)) (λ line. each (suc line)) in
    rw (here, rest) refl

-- a row that has a line or a rank is one of the records
within-by-line : (plan : Topology) (records : List Fields) (n line : ℕ) → line_in_row plan (row_at records n) ≡ Some line → n < length records
within-by-line plan records n line of_row = elim (cases_lt n (length records)) [
  | inl inside ↦ inside
  | inr past ↦ let never : None ≡ Some line = rw (slice_get_past records n past) at of_row in absurd (none-some line never)
]

-- a line has one row
one-row : (plan : Topology) (records : List Fields) (line m n : ℕ) → IsSoundBefore plan records (length records) → HasLine plan records m line → HasLine plan records n line → m ≡ n
one-row plan records line m n sound first second = elim (cases_lt m n) [
  | inl before ↦ absurd (later m n before first second)
  | inr not_before ↦ elim (cases_lt n m) [
    | inl after ↦ absurd (later n m after second first)
    | inr not_after ↦ omega (arith, not_before, not_after)
  ]
]
  where
    later : (low high : ℕ) → low < high → HasLine plan records low line → HasLine plan records high line → ⊥
    later low high less of_low of_high =
        let own = sound.sound high of_high.0 (within-by-line plan records high line of_high.1) in
        let same : own.line ≡ line = same_Some own.line line (sym own.has_line.1 ∙ of_high.1) in
        own.is_new low less (rw same of_low)

-- records give one certificate
one-certificate : (plan : Topology) (records : List Fields) (xs ys : Ranks) → IsCertificateOf plan records xs → IsCertificateOf plan records ys → xs ≡ ys
one-certificate plan records xs ys first second =
    same-ranks xs ys (first.counted ∙ sym second.counted) (λ line. by_nomination line (is_nominated plan line) refl)
  where
    by_nomination : (line : ℕ) (b : Bool) → is_nominated plan line ≡ b → rank_at xs line ≡ rank_at ys line
    by_nomination line true e =
        let one = first.ranked line e in
        let two = second.ranked line e in
        one.2 ∙ ap (λ (n : ℕ). rank_in_row (row_at records n)) (one-row plan records line one.0 two.0 first.sound one.1 two.1) ∙ sym two.2
    by_nomination line false e =
        let other : ¬ IsNominated plan line = λ nominated. true≢false (sym nominated ∙ e) in
        first.no_other line other ∙ sym (second.no_other line other)

-- a row at which the reading stops: it is reached, and doesn't keep the rules
record IsStop (plan : Topology) (records : List Fields) (n : ℕ) : Type 0 where
  reached : IsReached plan records n
  unsound : IsSoundRow plan records n → ⊥

row-stops : (plan : Topology) (records : List Fields) (n : ℕ) → IsFirstBroken plan records (Row n) → IsStop plan records n
row-stops plan records n broken = record { reached = broken.0; unsound = λ own. has_rank-not (rank_in_row (row_at records n)) own.has_rank broken.1 }

line-stops : (plan : Topology) (records : List Fields) (n : ℕ) → IsFirstBroken plan records (Line n) → IsStop plan records n
line-stops plan records n broken = record { reached = broken.0; unsound = λ own. none-some own.line (sym broken.2 ∙ own.has_line.1) }

twice-stops : (plan : Topology) (records : List Fields) (n : ℕ) → IsFirstBroken plan records (Twice n) → IsStop plan records n
twice-stops plan records n broken = record {
  reached = broken.0;
  unsound = λ own.
      let same : own.line ≡ broken.2 = same_Some own.line broken.2 (sym own.has_line.1 ∙ broken.4.1) in
      own.is_new broken.3 broken.6 (rw same broken.5);
}

-- the reading stops at one row, and at none where all keep the rules
same-stop : (plan : Topology) (records : List Fields) (m n : ℕ) → IsStop plan records m → IsStop plan records n → m ≡ n
same-stop plan records m n first second = elim (cases_lt m n) [
  | inl before ↦ absurd (first.unsound (second.reached.before.sound m first.reached.one before))
  | inr not_before ↦ elim (cases_lt n m) [
    | inl after ↦ absurd (second.unsound (first.reached.before.sound n second.reached.one after))
    | inr not_after ↦ omega (arith, not_before, not_after)
  ]
]

no-stop : (plan : Topology) (records : List Fields) (n : ℕ) → IsSoundBefore plan records (length records) → IsStop plan records n → ⊥
no-stop plan records n sound stop = stop.unsound (sound.sound n stop.reached.one stop.reached.within)

rank-both : (records : List Fields) (m n : ℕ) → m ≡ n → rank_in_row (row_at records m) ≡ None → IsSome (rank_in_row (row_at records n)) → ⊥
rank-both records m n same none some = has_rank-not (rank_in_row (row_at records n)) some (rw same at none)

line-both : (plan : Topology) (records : List Fields) (m n line : ℕ) → m ≡ n → line_in_row plan (row_at records m) ≡ None → line_in_row plan (row_at records n) ≡ Some line → ⊥
line-both plan records m n line same none some =
    let gone : line_in_row plan (row_at records n) ≡ None = rw same at none in
    none-some line (sym gone ∙ some)

lowest-missing : (plan : Topology) (records : List Fields) (m n : LineId) → IsFirstBroken plan records (Missing m) → IsFirstBroken plan records (Missing n) → m.0 ≡ n.0
lowest-missing plan records m n first second = elim (cases_lt m.0 n.0) [
  | inl before ↦ absurd (first.2 (second.3 m.0 before first.1))
  | inr not_before ↦ elim (cases_lt n.0 m.0) [
    | inl after ↦ absurd (second.2 (first.3 n.0 after second.1))
    | inr not_after ↦ omega (arith, not_before, not_after)
  ]
]

-- one rule is the first that is broken
same-broken : (plan : Topology) (records : List Fields) (d e : CertErr) → IsFirstBroken plan records d → IsFirstBroken plan records e → d ≡ e
same-broken plan records Header Header b c = refl
same-broken plan records Header (Row n) b c = absurd (b c.0.before.has_header)
same-broken plan records Header (Line n) b c = absurd (b c.0.before.has_header)
same-broken plan records Header (Twice n) b c = absurd (b c.0.before.has_header)
same-broken plan records Header (Missing n) b c = absurd (b c.0.has_header)
same-broken plan records (Row m) Header b c = absurd (c b.0.before.has_header)
same-broken plan records (Line m) Header b c = absurd (c b.0.before.has_header)
same-broken plan records (Twice m) Header b c = absurd (c b.0.before.has_header)
same-broken plan records (Missing m) Header b c = absurd (c b.0.has_header)
same-broken plan records (Row m) (Row n) b c = ap Row (same-stop plan records m n (row-stops plan records m b) (row-stops plan records n c))
same-broken plan records (Row m) (Line n) b c =
    absurd (rank-both records m n (same-stop plan records m n (row-stops plan records m b) (line-stops plan records n c)) b.1 c.1)
same-broken plan records (Row m) (Twice n) b c =
    absurd (rank-both records m n (same-stop plan records m n (row-stops plan records m b) (twice-stops plan records n c)) b.1 c.1)
same-broken plan records (Row m) (Missing n) b c = absurd (no-stop plan records m c.0 (row-stops plan records m b))
same-broken plan records (Line m) (Row n) b c =
    absurd (rank-both records n m (same-stop plan records n m (row-stops plan records n c) (line-stops plan records m b)) c.1 b.1)
same-broken plan records (Line m) (Line n) b c = ap Line (same-stop plan records m n (line-stops plan records m b) (line-stops plan records n c))
same-broken plan records (Line m) (Twice n) b c =
    absurd (line-both plan records m n c.2 (same-stop plan records m n (line-stops plan records m b) (twice-stops plan records n c)) b.2 c.4.1)
same-broken plan records (Line m) (Missing n) b c = absurd (no-stop plan records m c.0 (line-stops plan records m b))
same-broken plan records (Twice m) (Row n) b c =
    absurd (rank-both records n m (same-stop plan records n m (row-stops plan records n c) (twice-stops plan records m b)) c.1 b.1)
same-broken plan records (Twice m) (Line n) b c =
    absurd (line-both plan records n m b.2 (same-stop plan records n m (line-stops plan records n c) (twice-stops plan records m b)) c.2 b.4.1)
same-broken plan records (Twice m) (Twice n) b c = ap Twice (same-stop plan records m n (twice-stops plan records m b) (twice-stops plan records n c))
same-broken plan records (Twice m) (Missing n) b c = absurd (no-stop plan records m c.0 (twice-stops plan records m b))
same-broken plan records (Missing m) (Row n) b c = absurd (no-stop plan records n b.0 (row-stops plan records n c))
same-broken plan records (Missing m) (Line n) b c = absurd (no-stop plan records n b.0 (line-stops plan records n c))
same-broken plan records (Missing m) (Twice n) b c = absurd (no-stop plan records n b.0 (twice-stops plan records n c))
same-broken plan records (Missing m) (Missing n) b c = ap (λ (line : ℕ). Missing (record { 0 = line })) (lowest-missing plan records m n b c)

-- none is broken where there is a certificate
never-broken : (plan : Topology) (records : List Fields) (ranks : Ranks) (e : CertErr) → IsCertificateOf plan records ranks → IsFirstBroken plan records e → ⊥
never-broken plan records ranks Header own broken = broken own.sound.has_header
never-broken plan records ranks (Row n) own broken = no-stop plan records n own.sound (row-stops plan records n broken)
never-broken plan records ranks (Line n) own broken = no-stop plan records n own.sound (line-stops plan records n broken)
never-broken plan records ranks (Twice n) own broken = no-stop plan records n own.sound (twice-stops plan records n broken)
never-broken plan records ranks (Missing line) own broken = let has = own.ranked line.0 broken.1 in broken.2 (has.0, has.1)

-- the answer is that of the first broken rule, or else the certificate
is-refused : (plan : Topology) (records : List Fields) (e : CertErr) → IsFirstBroken plan records e → certificate_of_records plan records ≡ Err e
is-refused plan records e broken = cases (certificate_of_records plan records) refl
  where
    cases : (answer : Result Ranks CertErr) → certificate_of_records plan records ≡ answer → certificate_of_records plan records ≡ Err e
    cases (Ok ranks) is = absurd (never-broken plan records ranks e (certificate-sound plan records ranks is) broken)
    cases (Err d) is = is ∙ ap (λ (x : CertErr). Err x) (same-broken plan records d e (first-broken plan records d is) broken)

is-accepted : (plan : Topology) (records : List Fields) (ranks : Ranks) → IsCertificateOf plan records ranks → certificate_of_records plan records ≡ Ok ranks
is-accepted plan records ranks own = cases (certificate_of_records plan records) refl
  where
    cases : (answer : Result Ranks CertErr) → certificate_of_records plan records ≡ answer → certificate_of_records plan records ≡ Ok ranks
    cases (Ok given) is = is ∙ ap (λ (x : Ranks). Ok x) (one-certificate plan records given ranks (certificate-sound plan records given is) own)
    cases (Err e) is = absurd (never-broken plan records ranks e own (first-broken plan records e is))

-- the same of what a call answers
pub refused-from : (plan : Topology) (records : List Fields) (result : Result Ranks (NoAnswer CertErr)) → Gives result (certificate_of_records plan records)
    → IfRefused result (IsFirstBroken plan records)
refused-from plan records (Ok ranks) gives = tt
refused-from plan records (Err NoMemory) gives = tt
refused-from plan records (Err (Refused e)) gives = first-broken plan records e gives

pub refuses-from : (plan : Topology) (records : List Fields) (result : Result Ranks (NoAnswer CertErr)) → Gives result (certificate_of_records plan records)
    → (e : CertErr) → IsFirstBroken plan records e → Gives result (Err e)
refuses-from plan records result gives e broken = rw (is-refused plan records e broken) at gives

pub accepted-from : (plan : Topology) (records : List Fields) (result : Result Ranks (NoAnswer CertErr)) → Gives result (certificate_of_records plan records) → IfOk result (IsCertificateOf plan records)
accepted-from plan records (Ok ranks) gives = certificate-sound plan records ranks gives
accepted-from plan records (Err e) gives = tt

pub accepts-from : (plan : Topology) (records : List Fields) (result : Result Ranks (NoAnswer CertErr)) → Gives result (certificate_of_records plan records)
    → (ranks : Ranks) → IsCertificateOf plan records ranks → Gives result (Ok ranks)
accepts-from plan records result gives ranks own = rw (is-accepted plan records ranks own) at gives

pub named-from : (plan : Topology) (records : List Fields) (result : Result Ranks (NoAnswer CertErr)) → Gives result (certificate_of_records plan records) → IfRefused result (NamesLine plan)
named-from plan records (Ok ranks) gives = tt
named-from plan records (Err NoMemory) gives = tt
named-from plan records (Err (Refused Header)) gives = tt
named-from plan records (Err (Refused (Row n))) gives = tt
named-from plan records (Err (Refused (Line n))) gives = tt
named-from plan records (Err (Refused (Twice n))) gives = tt
named-from plan records (Err (Refused (Missing line))) gives = IsNominated-within plan line.0 (first-broken plan records (Missing line) gives).1
