-- How many records a text has.
use Rattle.std.proofs.Common.{◌≤◌, ◌+◌, ℕ, zero, suc, Bool, true, false, List, [], ◌∷◌, length, Option, Some, None, if◌then◌else◌, arith}
use Rattle.csv.specs.Machine.{Read, next_record}
use Rattle.csv.specs.Reading.{default_config, strip_bom, is_bom, records_from, records_next}
use Rattle.csv.specs.declared.parser.Config.{Config}
use Rattle.csv.specs.declared.parser.State.{State}
use Rattle.csv.specs.declared.parser.State.TheVariants as st
use Rattle.csv_records.specs.Records.{records_of}

-- a turn gives at most one
turns : (cfg : Config) (n : ℕ) (s : State) (xs : List ℕ) → length (records_from cfg n s xs) ≤ n
unfolding records_from
turns cfg zero s xs = omega arith
turns cfg (suc n) s xs = by (turns cfg n) (next_record cfg s [] [] xs)
  where
    by : ((s : State) (xs : List ℕ) → length (records_from cfg n s xs) ≤ n) → (o : Option Read) → length (records_next (records_from cfg n) o) ≤ suc n
    by rest None = omega arith
    by rest (Some p) = omega (arith, rest p.1 p.2)

strip_bom-short : (bytes : List ℕ) → length (strip_bom bytes) ≤ length bytes
unfolding strip_bom
strip_bom-short [] = omega arith
strip_bom-short (a ∷ []) = omega arith
strip_bom-short (a ∷ b ∷ []) = omega arith
strip_bom-short (a ∷ b ∷ c ∷ rest) = by (is_bom a b c)
  where
    by : (mark : Bool) → length (if mark then rest else a ∷ b ∷ c ∷ rest) ≤ length (a ∷ b ∷ c ∷ rest)
    by true = omega arith
    by false = omega arith

-- a text has at most one record more than bytes
pub few_records : (bytes : List ℕ) → length (records_of bytes) ≤ length bytes + 1
unfolding records_of
few_records bytes =
    omega (arith, turns default_config (length (strip_bom bytes) + 1) st.StartRecord (strip_bom bytes), strip_bom-short bytes)
