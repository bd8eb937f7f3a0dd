-- Rows of a plan with any priorities of its lines say that plan, whether it keeps the rules or not.
use Rattle.std.proofs.Common.{◌≡◌, ℕ, ◌+◌, ◌*◌, List, [], ◌∷◌, map, refl, ap, ◌∙◌}
use Rattle.std.specs.Prelude.{Ok, Err}
use Rattle.sync_topo.specs.declared.element.Element.{Element}
use Rattle.sync_topo.specs.declared.link.Link.{Link}
use Rattle.sync_topo.specs.declared.rows.PlanRows.{PlanRows}
use Rattle.sync_topo.specs.declared.error.PlanErr.{PlanErr}
use Rattle.sync_topo.specs.PlanRows.{plan_of_rows}
use Rattle.sync_topo.specs.RowValues.{link_from, plan_from}
use Rattle.sync_topo.specs.RowsOfPlan.{row_of_link, rows_of_plan}
use Rattle.sync_topo.specs.Topology.{Topology}
use Rattle.sync_topo.specs.WellFormed.{IsWellFormed}
use Rattle.sync_topo.proofs.RowsOfPlan.{plan_from-rows_of_plan}
use Rattle.nominate.specs.Nomination.{with_priorities, plan_with}
use Rattle.nominate.proofs.RowLemmas.{not_both}

-- what links with priorities say, through their rows, is what the links say, with these priorities
with-said : (elements : List Element) (plan : Topology) (f : ℕ → ℕ) (k : ℕ) (links : List Link)
    → map (link_from elements) (map (row_of_link plan) (with_priorities f k links))
    ≡ with_priorities f k (map (link_from elements) (map (row_of_link plan) links))
with-said elements plan f k [] = refl
with-said elements plan f k (link ∷ links) =
    ap (λ (rest : List Link). record (link_from elements (row_of_link plan link)) { priority_a = f (2 * k + 1); priority_b = f (2 * k) } ∷ rest)
    (with-said elements plan f (k + 1) links)

-- so the plan that the rows say is the plan with the priorities
pub said-with : (plan : Topology) (f : ℕ → ℕ) → IsWellFormed plan → plan_from (rows_of_plan (plan_with plan f)) ≡ plan_with plan f
said-with plan f well =
    ap (λ (links : List Link). record (plan_from (rows_of_plan plan)) { links = links })
    (with-said (plan_from (rows_of_plan plan)).elements plan f 0 plan.links)
    ∙ ap (λ (said : Topology). plan_with said f) (plan_from-rows_of_plan plan well)

-- rows that are refused say a plan that breaks a rule
pub refused-with : (plan : Topology) (f : ℕ → ℕ) (rows : PlanRows) (error : PlanErr) → rows ≡ rows_of_plan (plan_with plan f)
    → ((p : Topology) → IsWellFormed p → plan_of_rows (rows_of_plan p) ≡ Ok p)
    → plan_of_rows rows ≡ Err error → ¬ IsWellFormed (plan_with plan f)
refused-with plan f rows error are again refused well =
    not_both (plan_of_rows rows) (plan_with plan f) error (ap plan_of_rows are ∙ again (plan_with plan f) well) refused
