-- The bytes of a text, wherever they stand.
use Rattle.std.specs.Prelude.{ℕ, List}
use Rattle.sync_text.specs.declared.lists.Bytes.{Bytes}
use Rattle.sync_text.specs.declared.lists.Bytes.TheVariants.{InPlace, Apart}

abbrev pub bytes_of : Bytes → List ℕ
bytes_of (InPlace kept) = kept
bytes_of (Apart kept) = kept.items
