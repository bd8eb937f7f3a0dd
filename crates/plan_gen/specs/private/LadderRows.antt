-- Private: what a plan file would say of the ladder, which only clauses of private functions cite.
use Rattle.std.specs.Prelude.{ℕ, ◌-◌, ◌==◌, if◌then◌else◌, ℤ, pos, List, [], ◌∷◌, map, flat_map, codes, Some, None}
use Rattle.std.specs.List.{range_with_len}
use Rattle.sync_ql.specs.declared.levels.NetOption.TheVariants.{I}
use Rattle.sync_topo.specs.declared.rows.ElementRow.{ElementRow}
use Rattle.sync_topo.specs.declared.rows.LinkRow.{LinkRow}
use Rattle.sync_topo.specs.declared.rows.SourceRow.{SourceRow}
use Rattle.sync_topo.specs.declared.rows.PlanRows.{PlanRows}
use Rattle.plan_gen.specs.Ladder.{numbered}

-- an element of which only the name is said
abbrev pub element_row : ℕ → ElementRow
element_row j = record { name = numbered (codes "E") j; own = None; floor = None; holdoff = None; wtr = None }

-- a link from an earlier element up to element j
abbrev pub link_row : List ℕ → ℕ → ℕ → ℤ → LinkRow
link_row letter from j priority = record {
  name = numbered letter j;
  a = numbered (codes "E") from;
  b = numbered (codes "E") j;
  priority_a = None;
  priority_b = Some priority;
  delay_a = Some (pos 10);
  delay_b = Some (pos 10);
  bundle = None;
}

abbrev pub step_row : ℕ → LinkRow
step_row j = link_row (codes "S") (j - 1) j (pos 2)

abbrev pub rail_row : ℕ → LinkRow
rail_row j = link_row (codes "R") (j - 2) j (pos 1)

-- the links up to element j
abbrev pub link_rows_up_to : ℕ → List LinkRow
link_rows_up_to j = if j == 0 then [] else if j == 1 then step_row j ∷ [] else step_row j ∷ rail_row j ∷ []

-- a source of which the priority isn't said
abbrev pub source_row : List ℕ → List ℕ → List ℕ → SourceRow
source_row name at level = record { name = name; at = at; level = level; priority = None }

-- what is said of the ladder of n elements
abbrev pub ladder_rows : ℕ → PlanRows
ladder_rows n = record {
  option = I;
  elements = map element_row (range_with_len 0 n);
  links = flat_map link_rows_up_to (range_with_len 0 n);
  sources = source_row (codes "P0") (codes "E0") (codes "QL-PRC") ∷ source_row (codes "P1") (codes "E1") (codes "QL-SSU-A") ∷ [];
}
