-- Private: the steps of the making of a plan, which only clauses of private functions cite.
use Rattle.std.specs.Prelude.{◌≡◌, ⊤, List, [], ◌∷◌, ◌++◌, map, Option, Some, None, Result, Ok, Err}
use Rattle.sync_text.specs.declared.errors.NoAnswer.{NoAnswer}
use Rattle.sync_text.specs.declared.errors.NoAnswer.TheVariants.{NoMemory, Refused}
use Rattle.sync_ql.specs.declared.levels.NetOption.{NetOption}
use Rattle.sync_topo.specs.declared.element.Element.{Element}
use Rattle.sync_topo.specs.declared.link.Link.{Link}
use Rattle.sync_topo.specs.declared.rows.ElementRow.{ElementRow}
use Rattle.sync_topo.specs.declared.rows.LinkRow.{LinkRow}
use Rattle.sync_topo.specs.declared.rows.SourceRow.{SourceRow}
use Rattle.sync_topo.specs.RowValues.{element_from, link_from, source_from}
use Rattle.sync_topo.specs.declared.error.PlanErr.{PlanErr}
use Rattle.sync_topo.specs.Rules.{Rule, element_rules, link_rules, source_rules}
use Rattle.sync_topo.specs.PlanRows.{first_broken}

-- the refusal is this one; out of memory says nothing
abbrev pub Tells : NoAnswer PlanErr → Option PlanErr → Type 0
Tells NoMemory refusal = ⊤
Tells (Refused error) refusal = refusal ≡ Some error

-- the step goes on where no rule is broken, and otherwise refuses with the first one that is
abbrev pub Follows : {A : Type 0} → List Rule → Result A (NoAnswer PlanErr) → Type 0
Follows rules (Ok value) = first_broken rules ≡ None
Follows rules (Err error) = Tells error (first_broken rules)

-- what rules there are for the rows that are left, after those that are behind
abbrev pub rows_from : {A : Type 0} → (List A → A → List Rule) → List A → List A → List Rule
rows_from rules behind [] = []
rows_from rules behind (row ∷ rows) = rules behind row ++ rows_from rules (behind ++ row ∷ []) rows

-- the rules for an element row, after the rows before it alone
abbrev pub element_rules_after : NetOption → List ElementRow → ElementRow → List Rule
element_rules_after option before row =
    element_rules (record { option = option; elements = map (element_from option) before; links = []; sources = [] }) row

-- the rules for a link row, after these elements and the link rows before it
abbrev pub link_rules_after : NetOption → List Element → List LinkRow → LinkRow → List Rule
link_rules_after option elements before row =
    link_rules (record { option = option; elements = elements; links = map (link_from elements) before; sources = [] }) row

-- the rules for a source row, after these elements and links and the source rows before it
abbrev pub source_rules_after : NetOption → List Element → List Link → List SourceRow → SourceRow → List Rule
source_rules_after option elements links before row =
    source_rules (record { option = option; elements = elements; links = links; sources = map (source_from option elements) before }) row
