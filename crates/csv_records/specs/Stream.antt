-- The records of a text, taken one after another.
use Rattle.std.specs.Prelude.{◌+◌, ℕ, Bool, List, [], length, Option, unwrap_or, if◌then◌else◌}
use Rattle.csv.specs.Reading.{default_config, records_from, source_of}
use Rattle.csv.specs.declared.parser.State.{State}
use Rattle.csv.specs.declared.reader.Reader.{Reader}

-- a reader of records: the record that it took last, the records that it has left, and whether it stopped out of memory
pub record Stream : Type 0 where
  pub taken : List (List ℕ)
  pub left : List (List (List ℕ))
  pub spent : Bool

-- Private: how the reader of the crate `csv` is seen.

-- the records that some bytes have left from a state of the reader
abbrev pub records_left : State → List ℕ → List (List (List ℕ))
records_left state bytes = records_from default_config (length bytes + 1) state bytes

-- the bytes that are unread
abbrev pub unread : {R : Type 0} → (R → Option (List ℕ)) → Reader R → List ℕ
unread known reader = unwrap_or (source_of known reader) []

-- the records that a reader has left; none once it came to the end
abbrev pub left_of : {R : Type 0} → (R → Option (List ℕ)) → Reader R → Bool → List (List (List ℕ))
left_of known reader ended = if ended then [] else records_left reader.state (unread known reader)
