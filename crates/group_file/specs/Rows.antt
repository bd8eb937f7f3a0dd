-- What a row of a group file says. The name of the group that it belongs to is its first field, as that of a case in a case file.
-- This project's own.
use Rattle.std.specs.Prelude.{ℕ, ◌+◌, Bool, false, not, nat_lt, List, [], ◌∷◌, filter, take, is_none, Option, Some, None, option_map, option_and_then, slice_get, if◌then◌else◌}
use Rattle.std.specs.List.{filter_map}
use Rattle.std.specs.Option.{option_map_or}
use Rattle.std.specs.Str.{bytes_eq}
use Rattle.sync_topo.specs.Names.{is_name}
use Rattle.sync_topo.specs.Topology.{Topology}
use Rattle.sync_topo.specs.Sizes.{event_limit}
use Rattle.event_file.specs.Rows.{Fields}
use Rattle.event_file.specs.CaseRows.{case_in, is_apart}
use Rattle.reach_rules.specs.Protection.{is_among}
use Rattle.group_file.specs.declared.error.GroupErr.{GroupErr}
use Rattle.group_file.specs.declared.error.GroupErr.TheVariants as refusal
use Rattle.group_file.specs.declared.kind.Kind.{Kind}
use Rattle.group_file.specs.Kinds.{kind_of, is_same_kind, part_of_name}

-- all fields of a row of three
abbrev pub three_of : Fields → Option (List ℕ × List ℕ × List ℕ)
three_of (a ∷ b ∷ c ∷ []) = Some (a, b, c)
three_of _ = None

-- the kind of the part that a row names, by its second field
abbrev pub kind_in : Fields → Option Kind
kind_in row = option_and_then (λ fields. kind_of fields.1) (three_of row)

-- the part itself, of this kind and of the name that the third field has, with its number
abbrev pub named_by : Topology → List ℕ → Kind → Option (Kind × ℕ)
named_by plan name kind = option_map (λ part. (kind, part)) (part_of_name plan kind name)

abbrev pub part_in : Topology → Fields → Option (Kind × ℕ)
part_in plan row = option_and_then (λ fields. option_and_then (named_by plan fields.2) (kind_of fields.1)) (three_of row)

-- of the parts that rows name the numbers of those of a kind, in order
abbrev pub if_of_kind : Kind → Kind × ℕ → Option ℕ
if_of_kind kind part = if is_same_kind part.0 kind then Some part.1 else None

abbrev pub number_in : Topology → Kind → Fields → Option ℕ
number_in plan kind row = option_and_then (if_of_kind kind) (part_in plan row)

abbrev pub parts_in : Topology → Kind → List Fields → List ℕ
parts_in plan kind rows = filter_map (number_in plan kind) rows

-- of some rows those of one group
abbrev pub rows_of : List Fields → List ℕ → List Fields
rows_of rows name = filter (λ row. bytes_eq name (case_in row)) rows

-- an earlier row of the group names the same part
abbrev pub is_repeated : Topology → List Fields → Fields → Bool
is_repeated plan earlier row =
    option_map_or (λ part. is_among (parts_in plan part.0 (rows_of earlier (case_in row))) part.1) (part_in plan row) false

-- the rule that row n breaks, if it breaks one, after these rows
unfoldable pub row_refusal : Topology → List Fields → ℕ → Fields → Option GroupErr
row_refusal plan earlier n row =
    if nat_lt (event_limit plan) n then Some refusal.Limit
    else if is_none (three_of row) then Some (refusal.Fields n)
    else if not (is_name (case_in row)) then Some (refusal.Name n)
    else if is_apart earlier (case_in row) then Some (refusal.Apart n)
    else if is_none (kind_in row) then Some (refusal.Kind n)
    else if is_none (part_in plan row) then Some (refusal.Part n)
    else if is_repeated plan earlier row then Some (refusal.Part n)
    else None

-- the same of the row at a place, after the rows before it. Places count from 0, and the numbers of rows from 1
abbrev pub refusal_at : Topology → List Fields → ℕ → Option GroupErr
refusal_at plan rows place = option_and_then (row_refusal plan (take place rows) (place + 1)) (slice_get rows place)
