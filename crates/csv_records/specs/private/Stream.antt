-- Beside specs/Stream.antt, under no public clause: the records of a text, taken one after another.
use Rattle.std.specs.Prelude.{◌≡◌, ℕ, true, false, List, Option, Some}
use Rattle.csv.specs.Machine.{ends_at_end}
use Rattle.csv.specs.Reading.{Ready, default_config, is_flexible, source_of}
use Rattle.csv.specs.declared.reader.Reader.{Reader}
use Rattle.csv.specs.declared.reader.Trim.TheVariants as trim
use Rattle.csv_records.specs.Stream.{unread}

-- a reader of records of any length with a comma between fields, which stands between two records
pub record IsReading {R : Type 0} (known : R → Option (List ℕ)) (reader : Reader R) : Type 0 where
  pub trims : reader.trim ≡ trim.None
  pub ready : Ready reader
  pub flexible : is_flexible reader ≡ true
  pub config : reader.config ≡ default_config
  pub source : source_of known reader ≡ Some (unread known reader)
  pub between : ends_at_end reader.state ≡ false
