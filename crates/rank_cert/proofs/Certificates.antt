-- When records give a certificate, and what its ranks are.
use Rattle.std.proofs.Common.{◌≡◌, ℕ, ◌+◌, ◌<◌, suc, Bool, true, false, ◌&&◌, List, [], ◌∷◌, length, map, Option, Some, None, Ok, Err, refl, ap, sym, ◌∙◌, inl, inr, arith}
use Rattle.std.specs.Prelude.{◌==◌, is_none, IsSome, if◌then◌else◌}
use Rattle.std.specs.List.{range_with_len}
use Rattle.std.specs.Option.{option_and_then, option_map_or}
use Rattle.std.proofs.lemmas.Bool.{true≢false}
use Rattle.std.proofs.lemmas.Bool.Decides.{eqb_tells}
use Rattle.std.proofs.lemmas.Option.{none-some, same_Some}
use Rattle.csv_records.specs.FirstRefusal.{first_refusal}
use Rattle.sync_text.proofs.Ranges.{find_range-None}
use Rattle.csv_records.specs.Fields.{pair_of}
use Rattle.sync_topo.specs.declared.input.LineId.{LineId}
use Rattle.sync_topo.specs.Topology.{Topology}
use Rattle.sync_topo.specs.Lines.{line_count, is_nominated, IsNominated, line_of_name}
use Rattle.sync_topo.proofs.LineLaws.{IsNominated-within}
use Rattle.rank_cert.specs.declared.error.CertErr.TheVariants.{Missing}
use Rattle.rank_cert.specs.Ranks.{Ranks, rank_at, IsRanked, RanksNoOther}
use Rattle.rank_cert.specs.Rows.{Fields, line_in_row, if_nominated, is_row_of, rank_by_rows, ranks_by_rows}
use Rattle.rank_cert.specs.CertificateText.{is_header, refusal_at, first_without, certificate_of_records}
use Rattle.rank_cert.specs.private.RowsTaken.{AreRanksBy}

-- ranks are told by the rank of each line
ranks-map : (ranks : Ranks) (f : ℕ → Option ℕ) (a : ℕ) → ((i : ℕ) → i < length ranks → rank_at ranks i ≡ f (a + i)) → ranks ≡ map f (range_with_len a (length ranks))
ranks-map [] f a each = refl
ranks-map (rank ∷ ranks) f a each =
    let here : rank ≡ f a = rw (a_zero a) at (each 0 (omega arith)) in
    let rest : ranks ≡ map f (range_with_len (a + 1) (length ranks)) = ranks-map ranks f (a + 1) (λ i within.
    let at : a + suc i ≡ a + 1 + i = omega arith in
    rw at at (each (suc i) (omega arith))) in
    rw (← here, ← rest) refl
  where
    a_zero : (n : ℕ) → n + 0 ≡ n
    a_zero n = omega arith

pub ranks-are : (plan : Topology) (rows : List Fields) (ranks : Ranks) → AreRanksBy plan rows ranks → ranks ≡ ranks_by_rows plan rows
ranks-are plan rows ranks by = rw (← by.counted) (ranks-map ranks (rank_by_rows plan rows) 0 (λ i within. let plain : 0 + i ≡ i = omega arith in rw plain (by.each i)))

-- rows that break no rule give their ranks, where no nominated line lacks one
pub certificate-of : (plan : Topology) (first : Fields) (rows : List Fields) (ranks : Ranks) → is_header first ≡ true → first_refusal (refusal_at plan rows) (length rows) ≡ None
    → AreRanksBy plan rows ranks → first_without plan ranks ≡ None → certificate_of_records plan (first ∷ rows) ≡ Ok ranks
unfolding certificate_of_records
certificate-of plan first rows ranks header sound by complete =
    let same = ranks-are plan rows ranks by in
    rw (header, sound, ← same, complete) refl

-- and else the lowest-numbered such line is missing
pub line-missing : (plan : Topology) (first : Fields) (rows : List Fields) (ranks : Ranks) (line : LineId) → is_header first ≡ true
    → first_refusal (refusal_at plan rows) (length rows) ≡ None → AreRanksBy plan rows ranks → Some line.0 ≡ first_without plan ranks
    → certificate_of_records plan (first ∷ rows) ≡ Err (Missing line)
unfolding certificate_of_records
line-missing plan first rows ranks line header sound by lacks =
    let same = ranks-are plan rows ranks by in
    rw (header, sound, ← same, ← lacks) refl

-- every nominated line has a rank, where none lacks one
pub IsRanked-complete : (plan : Topology) (ranks : Ranks) → length ranks ≡ line_count plan → first_without plan ranks ≡ None → IsRanked plan ranks
IsRanked-complete plan ranks counted none = record {
  counted = counted;
  ranked = λ line nominated.
      let fails = find_range-None (λ l. is_nominated plan l && is_none (rank_at ranks l)) 0 (line_count plan) none line (omega arith) (omega (arith, IsNominated-within plan line nominated)) in
      has_one (rank_at ranks line) (rw nominated at fails);
}
  where
    has_one : (o : Option ℕ) → (true && is_none o) ≡ false → IsSome o
    has_one None e = absurd (true≢false e)
    has_one (Some rank) e = refl

-- the line of a row is nominated
pub line_in_row-nominated : (plan : Topology) (row : Fields) (line : ℕ) → line_in_row plan row ≡ Some line → is_nominated plan line ≡ true
line_in_row-nominated plan row line of_row = by_pair (pair_of row) of_row
  where
    by_test : (named : ℕ) (b : Bool) → is_nominated plan named ≡ b → (if b then Some named else None) ≡ Some line → is_nominated plan line ≡ true
    by_test named true e is = rw (← same_Some named line is) e
    by_test named false e is = absurd (none-some line is)

    by_name : (named : Option ℕ) → option_and_then (if_nominated plan) named ≡ Some line → is_nominated plan line ≡ true
    by_name None is = absurd (none-some line is)
    by_name (Some named) is = by_test named (is_nominated plan named) refl is

    by_pair : (fields : Option (List ℕ × List ℕ)) → option_and_then (λ pair. option_and_then (if_nominated plan) (line_of_name plan pair.0)) fields ≡ Some line → is_nominated plan line ≡ true
    by_pair None is = absurd (none-some line is)
    by_pair (Some pair) is = by_name (line_of_name plan pair.0) is

-- a row of a line names it
pub is_row_of-line : (plan : Topology) (line : ℕ) (row : Fields) → is_row_of plan line row ≡ true → line_in_row plan row ≡ Some line
is_row_of-line plan line row is = cases (line_in_row plan row) is
  where
    cases : (named : Option ℕ) → option_map_or (λ l. l == line) named false ≡ true → named ≡ Some line
    cases None e = absurd (true≢false (sym e))
    cases (Some named) e = elim (eqb_tells named line) [
      | inl same ↦ ap Some same.1
      | inr other ↦ absurd (true≢false (sym e ∙ other.0))
    ]

-- a line that isn't nominated gets no rank by any rows
pub rank_by_rows-other : (plan : Topology) (rows : List Fields) (line : ℕ) → ¬ IsNominated plan line → rank_by_rows plan rows line ≡ None
rank_by_rows-other plan [] line other = refl
rank_by_rows-other plan (row ∷ rows) line other = cases (is_row_of plan line row) refl (rank_by_rows-other plan rows line other)
  where
    cases : (b : Bool) → is_row_of plan line row ≡ b → rank_by_rows plan rows line ≡ None → rank_by_rows plan (row ∷ rows) line ≡ None
    cases true e rest = absurd (other (line_in_row-nominated plan row line (is_row_of-line plan line row e)))
    cases false e rest = rw e rest

pub RanksNoOther-from : (plan : Topology) (rows : List Fields) (ranks : Ranks) → AreRanksBy plan rows ranks → RanksNoOther plan ranks
RanksNoOther-from plan rows ranks by = λ line other. by.each line ∙ rank_by_rows-other plan rows line other
