-- What a reader has left after it took a record.
use Rattle.std.proofs.Common.{◌≡◌, ◌<◌, ◌+◌, ◌-◌, ℕ, zero, suc, true, false, List, [], ◌∷◌, length, Option, Some, None, refl, sym, ap, inl, arith, ◌∙◌}
use Rattle.std.specs.Prelude.{unwrap_or}
use Rattle.csv.specs.Machine.{Read, ends_at_end, next_record}
use Rattle.csv.specs.Reading.{Reached, ReadRecord, default_config, strip_bom, is_flexible, records_from, records_next, source_of, took_first}
use Rattle.csv.proofs.ReadFacts.{rows-end, rows-more}
use Rattle.csv.specs.declared.reader.Reader.{Reader}
use Rattle.csv.specs.declared.parser.Config.{Config}
use Rattle.csv.specs.declared.parser.State.{State}
use Rattle.csv.specs.declared.parser.State.TheVariants as st
use Rattle.csv_records.specs.Records.{records_of}
use Rattle.csv_records.specs.Stream.{records_left, unread}
use Rattle.csv_records.specs.private.Stream.{IsReading}
use Rattle.csv_records.proofs.OneRecord.{LeavesOff, takes_a_byte}

-- any number of turns that goes beyond the bytes gives the same records
same_records : (cfg : Config) (n m : ℕ) (s : State) (xs : List ℕ) → ends_at_end s ≡ false → length xs < n → length xs < m
    → records_from cfg n s xs ≡ records_from cfg m s xs
unfolding records_from
same_records cfg zero m s xs may room more = absurd (omega arith)
same_records cfg (suc n) zero s xs may room more = absurd (omega arith)
same_records cfg (suc n) (suc m) s xs may room more =
    by (λ p byte. same_records cfg n m p.1 p.2 byte.0.stops (omega (arith, byte.0.left, byte.1)) (omega (arith, byte.0.left, byte.1))) (next_record cfg s [] [] xs) refl
  where
    by : ((p : Read) → LeavesOff p (length xs - 1) × (0 < length xs) → records_from cfg n p.1 p.2 ≡ records_from cfg m p.1 p.2)
        → (o : Option Read) → next_record cfg s [] [] xs ≡ o → records_next (records_from cfg n) o ≡ records_next (records_from cfg m) o
    by rest None is = refl
    by rest (Some p) is = ap (λ more. p.0 ∷ more) (rest p (takes_a_byte cfg s xs p may is))

-- the records of so many turns, by what the next read gives
turn : (cfg : Config) (n : ℕ) (s : State) (xs : List ℕ) (o : Option Read) → next_record cfg s [] [] xs ≡ o
    → records_from cfg (suc n) s xs ≡ records_next (records_from cfg n) o
unfolding records_from
turn cfg n s xs o is = ap (λ read. records_next (records_from cfg n) read) is

-- a next record is the first of those that are left
left_more : (cfg : Config) (s : State) (xs : List ℕ) (p : Read) → ends_at_end s ≡ false → next_record cfg s [] [] xs ≡ Some p
    → (records_from cfg (length xs + 1) s xs ≡ p.0 ∷ records_from cfg (length p.2 + 1) p.1 p.2) × (ends_at_end p.1 ≡ false)
left_more cfg s xs p may is =
    let byte = takes_a_byte cfg s xs p may is in
    let one : length xs + 1 ≡ suc (length xs) = omega arith in (
      ap (λ n. records_from cfg n s xs) one ∙ turn cfg (length xs) s xs (Some p) is
          ∙ ap (λ rest. p.0 ∷ rest) (same_records cfg (length xs) (length p.2 + 1) p.1 p.2 byte.0.stops (omega (arith, byte.0.left, byte.1)) (omega arith)),
      byte.0.stops,
    )

-- with no next record none is left
left_none : (cfg : Config) (s : State) (xs : List ℕ) → next_record cfg s [] [] xs ≡ None → records_from cfg (length xs + 1) s xs ≡ []
left_none cfg s xs is =
    let one : length xs + 1 ≡ suc (length xs) = omega arith in
    ap (λ n. records_from cfg n s xs) one ∙ turn cfg (length xs) s xs None is

-- what is unread, where it is known
unread_is : {R : Type 0} (rem : R → Option (List ℕ)) (reader : Reader R) (bytes : List ℕ) → source_of rem reader ≡ Some bytes → unread rem reader ≡ bytes
unread_is rem reader bytes source = ap (λ o. unwrap_or o []) source

-- no record leads nowhere else, and one record is the next
reached_none : (s : State) (xs : List ℕ) → Reached default_config s xs [] s xs
unfolding Reached
reached_none s xs = (refl, refl)

reached_one : (s s2 : State) (xs ys : List ℕ) (fields : List (List ℕ)) → Reached default_config s xs (fields ∷ []) s2 ys
    → (p : Read) × (next_record default_config s [] [] xs ≡ Some p) × (fields ≡ p.0) × (p.1 ≡ s2) × (p.2 ≡ ys)
unfolding Reached
reached_one s s2 xs ys fields (p, is, taken, (state, bytes)) = (p, is, taken, state, bytes)

-- a read that gave a record took the first of those that are left, and the reader reads on
pub after_record : {R : Type 0} (rem : R → Option (List ℕ)) (a b : Reader R) (fields : List (List ℕ))
    → IsReading rem a → ReadRecord rem a b true fields → took_first b ≡ true → is_flexible b ≡ is_flexible a
    → IsReading rem b × (records_left a.state (unread rem a) ≡ fields ∷ records_left b.state (unread rem b))
after_record rem a b fields reading read first same =
    let next = rows-more rem a b fields default_config a.state (unread rem a) (unread rem a) [] reading.config reading.source (reached_none a.state (unread rem a)) read in
    step next.0 next.1 (reached_one a.state b.state (unread rem a) next.0 fields next.2)
  where
    step : (rest : List ℕ) → source_of rem b ≡ Some rest
        → ((p : Read) × (next_record default_config a.state [] [] (unread rem a) ≡ Some p) × (fields ≡ p.0) × (p.1 ≡ b.state) × (p.2 ≡ rest))
        → IsReading rem b × (records_left a.state (unread rem a) ≡ fields ∷ records_left b.state (unread rem b))
    step rest source (p, is, taken, state, bytes) =
        let left = left_more default_config a.state (unread rem a) p reading.between is in
        let open_bytes = unread_is rem b rest source in (
          record {
            trims = read.3 ∙ reading.trims;
            ready = inl first;
            flexible = same ∙ reading.flexible;
            config = read.2 ∙ reading.config;
            source = source ∙ ap (λ xs. Some xs) (sym open_bytes);
            between = rw (← state) left.1;
          },
          left.0 ∙ ap (λ row. row ∷ records_left p.1 p.2) (sym taken) ∙ ap (λ s. fields ∷ records_left s p.2) state
              ∙ ap (λ xs. fields ∷ records_left b.state xs) (bytes ∙ sym open_bytes),
        )

-- a read that gave none came to the end
pub after_end : {R : Type 0} (rem : R → Option (List ℕ)) (a b : Reader R) (fields : List (List ℕ))
    → IsReading rem a → ReadRecord rem a b false fields → records_left a.state (unread rem a) ≡ []
after_end rem a b fields reading read =
    left_none default_config a.state (unread rem a) (rows-end rem a b fields default_config (unread rem a) reading.config reading.source read)

-- a reader that has just begun has all records left
pub all_left : {R : Type 0} (rem : R → Option (List ℕ)) (reader : Reader R) (bytes : List ℕ) → reader.state ≡ st.StartRecord
    → source_of rem reader ≡ Some (strip_bom bytes) → records_left reader.state (unread rem reader) ≡ records_of bytes
unfolding records_of
all_left rem reader bytes state source =
    ap (λ s. records_left s (unread rem reader)) state ∙ ap (λ xs. records_left st.StartRecord xs) (unread_is rem reader (strip_bom bytes) source)
