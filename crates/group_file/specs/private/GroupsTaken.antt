-- How far the rows of a group file are gone through: what only private clauses cite.
use Rattle.std.specs.Prelude.{◌≡◌, ℕ, ◌≤◌, ◌<◌, false, List, [], ◌∷◌, ◌++◌, length, map, Option, Some, None, if◌then◌else◌}
use Rattle.std.specs.Str.{bytes_eq}
use Rattle.sync_topo.specs.Topology.{Topology}
use Rattle.sync_topo.specs.Sizes.{event_limit}
use Rattle.sync_topo.specs.Names.{is_named}
use Rattle.event_file.specs.Rows.{Fields}
use Rattle.event_file.specs.CaseRows.{case_before}
use Rattle.event_file.specs.CaseText.{names_of}
use Rattle.reach_rules.specs.declared.group.Group.{Group}
use Rattle.group_file.specs.declared.kind.Kind.{Kind}
use Rattle.group_file.specs.declared.parts.PartsSoFar.{PartsSoFar}
use Rattle.group_file.specs.declared.progress.GroupsSoFar.{GroupsSoFar}
use Rattle.group_file.specs.Rows.{parts_in, rows_of, refusal_at}
use Rattle.group_file.specs.GroupText.{group_of}
use Rattle.group_file.specs.private.PartsTaken.{listed_in, HasRoom, group_with}

-- the group that is read, after those that are whole
abbrev pub with_current : List Group → PartsSoFar → Option (List ℕ) → List Group
with_current whole parts None = whole
with_current whole parts (Some name) = whole ++ group_with parts name ∷ []

-- the names after some rows, where the next row is of this group
abbrev pub names_with : List Fields → List ℕ → List (List ℕ)
names_with done name = names_of done ++ (if bytes_eq name (case_before done) then [] else name ∷ [])

-- of the names the last is that of the group that is read, and those before it are of the whole ones
pub record IsLast (plan : Topology) (done : List Fields) (names : List (List ℕ)) (whole : List Group) (name : List ℕ) (parts : PartsSoFar) (current : List ℕ) : Type 0 where
  pub front : List (List ℕ)
  pub split : names ≡ front ++ name ∷ []
  pub other : is_named front name ≡ false
  pub closed : whole ≡ map (group_of plan done) front
  pub same : current ≡ name
  pub given : (kind : Kind) → listed_in parts kind ≡ parts_in plan kind (rows_of done name)

-- the group that is read is of this name; before the first one no group has a name
abbrev pub IsCurrent : Topology → List Fields → List (List ℕ) → List Group → List ℕ → PartsSoFar → Option (List ℕ) → Type 0
IsCurrent plan done names whole name parts None = (names ≡ []) × (whole ≡ []) × (name ≡ [])
IsCurrent plan done names whole name parts (Some current) = IsLast plan done names whole name parts current

-- none of these rows is refused, they gave what is kept, and the next row is of this group
pub record AreSorted (plan : Topology) (done : List Fields) (name : List ℕ) (kept : GroupsSoFar) : Type 0 where
  pub numbered : kept.rows ≡ length done
  pub few : kept.rows ≤ event_limit plan
  pub sound : (place : ℕ) → place < length done → refusal_at plan done place ≡ None
  pub all_names : kept.names ≡ names_with done name
  pub room : HasRoom plan kept.parts
  pub here : IsCurrent plan done kept.names kept.whole name kept.parts kept.current

-- the rows are gone through, and this is what they gave
abbrev pub AreGroupsTaken : Topology → List Fields → GroupsSoFar → Type 0
AreGroupsTaken plan done kept = AreSorted plan done (case_before done) kept

-- a group of a new name begins, of which no row is taken yet
pub record HasBegun (name : List ℕ) (before after : GroupsSoFar) : Type 0 where
  pub rows : after.rows ≡ before.rows
  pub names : after.names ≡ before.names ++ name ∷ []
  pub whole : after.whole ≡ with_current before.whole before.parts before.current
  pub current : after.current ≡ Some name
  pub room : (plan : Topology) → HasRoom plan before.parts → HasRoom plan after.parts
  pub none : (kind : Kind) → listed_in after.parts kind ≡ []

-- of all rows these are left, and what is kept is of those before them
pub record AreGroupsLeft (plan : Topology) (rows left : List Fields) (kept : GroupsSoFar) : Type 0 where
  pub done : List Fields
  pub parts : rows ≡ done ++ left
  pub taken : AreGroupsTaken plan done kept
