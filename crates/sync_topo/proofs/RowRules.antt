-- The rules for rows are those of the plan that is made row by row.
use Rattle.std.proofs.Common.{◌≡◌, List, [], ◌++◌, map, None, Result, Ok, Err, ap, sym, ◌∙◌}
use Rattle.sync_ql.specs.declared.levels.NetOption.{NetOption}
use Rattle.sync_topo.specs.declared.element.Element.{Element}
use Rattle.sync_topo.specs.declared.link.Link.{Link}
use Rattle.sync_topo.specs.declared.source.Source.{Source}
use Rattle.sync_topo.specs.declared.rows.ElementRow.{ElementRow}
use Rattle.sync_topo.specs.declared.rows.LinkRow.{LinkRow}
use Rattle.sync_topo.specs.declared.rows.SourceRow.{SourceRow}
use Rattle.sync_topo.specs.declared.rows.PlanRows.{PlanRows}
use Rattle.sync_text.specs.declared.errors.NoAnswer.{NoAnswer}
use Rattle.sync_topo.specs.declared.error.PlanErr.{PlanErr}
use Rattle.sync_topo.specs.Topology.{Topology}
use Rattle.sync_topo.specs.RowValues.{element_from, link_from, source_from}
use Rattle.sync_topo.specs.Rules.{Rule, element_rules, link_rules, source_rules}
use Rattle.sync_topo.specs.PlanRows.{each_row, element_row_rules, link_row_rules, source_row_rules, limits_of, rules_of, first_broken}
use Rattle.sync_topo.specs.private.Steps.{Tells, Follows, rows_from, element_rules_after, link_rules_after, source_rules_after}
use Rattle.sync_topo.proofs.RowLoops.{Tells-front, kept-front}
use Rattle.sync_topo.proofs.RuleLemmas.{rows_from-each}

-- a plan of these parts
abbrev plan_with : NetOption → List Element → List Link → List Source → Topology
plan_with option elements links sources = record { option = option; elements = elements; links = links; sources = sources }

-- the rules for a row, where the plan so far has been made of the rows before it
pub element_rules-so_far : (plan : Topology) (option : NetOption) (before : List ElementRow) (row : ElementRow)
    → plan.option ≡ option → plan.elements ≡ map (element_from option) before → element_rules plan row ≡ element_rules_after option before row
element_rules-so_far plan option before row o e =
    ap (λ (x : NetOption). element_rules (plan_with x plan.elements [] []) row) o
    ∙ ap (λ (x : List Element). element_rules (plan_with option x [] []) row) e

pub link_rules-so_far : (plan : Topology) (option : NetOption) (elements : List Element) (before : List LinkRow) (row : LinkRow)
    → plan.option ≡ option → plan.elements ≡ elements → plan.links ≡ map (link_from elements) before → plan.sources ≡ []
    → link_rules plan row ≡ link_rules_after option elements before row
link_rules-so_far plan option elements before row o e l s =
    ap (λ (x : NetOption). link_rules (plan_with x plan.elements plan.links plan.sources) row) o
    ∙ ap (λ (x : List Element). link_rules (plan_with option x plan.links plan.sources) row) e
    ∙ ap (λ (x : List Link). link_rules (plan_with option elements x plan.sources) row) l
    ∙ ap (λ (x : List Source). link_rules (plan_with option elements (map (link_from elements) before) x) row) s

pub source_rules-so_far : (plan : Topology) (option : NetOption) (elements : List Element) (links : List Link) (before : List SourceRow) (row : SourceRow)
    → plan.option ≡ option → plan.elements ≡ elements → plan.links ≡ links → plan.sources ≡ map (source_from option elements) before
    → source_rules plan row ≡ source_rules_after option elements links before row
source_rules-so_far plan option elements links before row o e l s =
    ap (λ (x : NetOption). source_rules (plan_with x plan.elements plan.links plan.sources) row) o
    ∙ ap (λ (x : List Element). source_rules (plan_with option x plan.links plan.sources) row) e
    ∙ ap (λ (x : List Link). source_rules (plan_with option elements x plan.sources) row) l
    ∙ ap (λ (x : List Source). source_rules (plan_with option elements links x) row) s

-- the rules for all rows of a section
pub element_rules-are : (rows : PlanRows) (option : NetOption) → option ≡ rows.option
    → rows_from (element_rules_after option) [] rows.elements ≡ each_row (element_row_rules rows) rows.elements
element_rules-are rows option o =
    ap (λ (x : NetOption). rows_from (element_rules_after x) [] rows.elements) o ∙ rows_from-each (element_row_rules rows) rows.elements

pub link_rules-are : (rows : PlanRows) (option : NetOption) (elements : List Element) → option ≡ rows.option → elements ≡ map (element_from rows.option) rows.elements
    → rows_from (link_rules_after option elements) [] rows.links ≡ each_row (link_row_rules rows) rows.links
link_rules-are rows option elements o e =
    ap (λ (x : NetOption). rows_from (link_rules_after x elements) [] rows.links) o
    ∙ ap (λ (x : List Element). rows_from (link_rules_after rows.option x) [] rows.links) e
    ∙ rows_from-each (link_row_rules rows) rows.links

pub source_rules-are : (rows : PlanRows) (option : NetOption) (elements : List Element) (links : List Link) → option ≡ rows.option
    → elements ≡ map (element_from rows.option) rows.elements → links ≡ map (link_from elements) rows.links
    → rows_from (source_rules_after option elements links) [] rows.sources ≡ each_row (source_row_rules rows) rows.sources
source_rules-are rows option elements links o e l =
    ap (λ (x : List Link). rows_from (source_rules_after option elements x) [] rows.sources) l
    ∙ ap (λ (x : NetOption). rows_from (source_rules_after x elements (map (link_from elements) rows.links)) [] rows.sources) o
    ∙ ap (λ (x : List Element). rows_from (source_rules_after rows.option x (map (link_from x) rows.links)) [] rows.sources) e
    ∙ rows_from-each (source_row_rules rows) rows.sources

-- what is told of the limits, and then of each section, is told of all rules
pub limits-told : (rows : PlanRows) (error : NoAnswer PlanErr) → Tells error (first_broken (limits_of rows)) → Tells error (first_broken (rules_of rows))
limits-told rows error tells =
    let A = limits_of rows in
    let B = each_row (element_row_rules rows) rows.elements in
    let C = each_row (link_row_rules rows) rows.links in
    let D = each_row (source_row_rules rows) rows.sources in
    Tells-front error (A ++ B ++ C) D (Tells-front error (A ++ B) C (Tells-front error A B tells))

pub elements-told : (rows : PlanRows) (error : NoAnswer PlanErr) (own : List Rule) → first_broken (limits_of rows) ≡ None
    → own ≡ each_row (element_row_rules rows) rows.elements → Tells error (first_broken own) → Tells error (first_broken (rules_of rows))
elements-told rows error own limits is tells =
    let A = limits_of rows in
    let B = each_row (element_row_rules rows) rows.elements in
    let C = each_row (link_row_rules rows) rows.links in
    let D = each_row (source_row_rules rows) rows.sources in
    let here : Tells error (first_broken B) = rw is at tells in
    let front : Tells error (first_broken (A ++ B)) = rw (kept-front A B limits) here in
    Tells-front error (A ++ B ++ C) D (Tells-front error (A ++ B) C front)

pub links-told : (rows : PlanRows) (error : NoAnswer PlanErr) (elements own : List Rule) → first_broken (limits_of rows) ≡ None
    → elements ≡ each_row (element_row_rules rows) rows.elements → first_broken elements ≡ None
    → own ≡ each_row (link_row_rules rows) rows.links → Tells error (first_broken own) → Tells error (first_broken (rules_of rows))
links-told rows error elements own limits of_elements elements_kept is tells =
    let A = limits_of rows in
    let B = each_row (element_row_rules rows) rows.elements in
    let C = each_row (link_row_rules rows) rows.links in
    let D = each_row (source_row_rules rows) rows.sources in
    let here : Tells error (first_broken C) = rw is at tells in
    let kept_B : first_broken B ≡ None = rw of_elements at elements_kept in
    let front : Tells error (first_broken (A ++ B ++ C)) = rw (kept-front (A ++ B) C (kept-front A B limits ∙ kept_B)) here in
    Tells-front error (A ++ B ++ C) D front

-- what is told of the rules for sources alone, once all others are kept
sources-last : (rows : PlanRows) (elements links own : List Rule) → first_broken (limits_of rows) ≡ None
    → elements ≡ each_row (element_row_rules rows) rows.elements → first_broken elements ≡ None
    → links ≡ each_row (link_row_rules rows) rows.links → first_broken links ≡ None
    → own ≡ each_row (source_row_rules rows) rows.sources → first_broken (rules_of rows) ≡ first_broken own
sources-last rows elements links own limits of_elements elements_kept of_links links_kept is =
    let A = limits_of rows in
    let B = each_row (element_row_rules rows) rows.elements in
    let C = each_row (link_row_rules rows) rows.links in
    let D = each_row (source_row_rules rows) rows.sources in
    let kept_B : first_broken B ≡ None = rw of_elements at elements_kept in
    let kept_C : first_broken C ≡ None = rw of_links at links_kept in
    kept-front (A ++ B ++ C) D (kept-front (A ++ B) C (kept-front A B limits ∙ kept_B) ∙ kept_C) ∙ ap first_broken (sym is)

-- where the refusals are the same, a step that follows the one follows the other
follows-same : {A : Type 0} (rules others : List Rule) (result : Result A (NoAnswer PlanErr)) → first_broken rules ≡ first_broken others
    → Follows others result → Follows rules result
follows-same rules others (Ok value) is kept = is ∙ kept
follows-same rules others (Err error) is tells = rw is tells

pub sources-follow : {A : Type 0} (rows : PlanRows) (elements links own : List Rule) (result : Result A (NoAnswer PlanErr)) → first_broken (limits_of rows) ≡ None
    → elements ≡ each_row (element_row_rules rows) rows.elements → first_broken elements ≡ None
    → links ≡ each_row (link_row_rules rows) rows.links → first_broken links ≡ None
    → own ≡ each_row (source_row_rules rows) rows.sources → Follows own result → Follows (rules_of rows) result
sources-follow rows elements links own result limits of_elements elements_kept of_links links_kept is =
    follows-same (rules_of rows) own result (sources-last rows elements links own limits of_elements elements_kept of_links links_kept is)
