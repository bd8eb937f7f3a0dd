-- The groups that a text gives, or the first rule that it breaks. This project's own.
use Rattle.std.specs.Prelude.{ℕ, Bool, false, ◌&&◌, List, [], ◌∷◌, length, map, codes, Result, Err, if◌then◌else◌}
use Rattle.std.specs.Str.{bytes_eq}
use Rattle.sync_text.specs.Chain.{unless}
use Rattle.csv_records.specs.Records.{records_of}
use Rattle.csv_records.specs.FirstRefusal.{first_refusal}
use Rattle.sync_topo.specs.Topology.{Topology}
use Rattle.event_file.specs.Rows.{Fields}
use Rattle.event_file.specs.CaseText.{names_of}
use Rattle.reach_rules.specs.declared.group.Group.{Group}
use Rattle.group_file.specs.declared.error.GroupErr.{GroupErr}
use Rattle.group_file.specs.declared.error.GroupErr.TheVariants.{Header}
use Rattle.group_file.specs.declared.kind.Kind.TheVariants.{Link, Source, Element}
use Rattle.group_file.specs.Rows.{parts_in, rows_of, refusal_at}

-- the record is the header
abbrev pub is_header : Fields → Bool
is_header (group ∷ kind ∷ part ∷ []) = bytes_eq group (codes "group") && bytes_eq kind (codes "kind") && bytes_eq part (codes "part")
is_header _ = false

-- a group has the parts that its rows name, of each kind in their order
abbrev pub group_of : Topology → List Fields → List ℕ → Group
group_of plan rows name =
    record {
      name = name;
      links = parts_in plan Link (rows_of rows name);
      sources = parts_in plan Source (rows_of rows name);
      elements = parts_in plan Element (rows_of rows name);
    }

-- the groups of some rows, in the order in which they stand
abbrev pub groups_in : Topology → List Fields → List Group
groups_in plan rows = map (group_of plan rows) (names_of rows)

-- the groups of some rows, or the first refusal
abbrev pub groups_of_rows : Topology → List Fields → Result (List Group) GroupErr
groups_of_rows plan rows = unless (first_refusal (refusal_at plan rows) (length rows)) (groups_in plan rows)

-- the header first, and then a row for each part
abbrev pub groups_of_records : Topology → List Fields → Result (List Group) GroupErr
groups_of_records plan [] = Err Header
groups_of_records plan (first ∷ rows) = if is_header first then groups_of_rows plan rows else Err Header

-- the groups of a text
abbrev pub groups_of : Topology → List ℕ → Result (List Group) GroupErr
groups_of plan bytes = groups_of_records plan (records_of bytes)
