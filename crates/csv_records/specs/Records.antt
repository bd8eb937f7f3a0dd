-- The records of a text of comma-separated fields.
use Rattle.std.specs.Prelude.{ℕ, List}
use Rattle.csv.specs.Reading.{default_config, records, strip_bom}

-- the records of these bytes, each the list of its fields, as `csv` reads them with a comma between fields, double
-- quotes and no header row of its own, after a byte order mark at the start. After RFC 4180
unfoldable pub records_of : List ℕ → List (List (List ℕ))
records_of bytes = records default_config (strip_bom bytes)
