-- What rows give in a size.
use Rattle.std.proofs.Common.{◌≡◌, ◌≤◌, Bool, true, false, ◌&&◌, nat_le, length, Option, Some, None, refl, sym, ap, subst, arith}
use Rattle.std.specs.Prelude.{if◌then◌else◌, nat_lt, Result, Ok, Err, IfOk}
use Rattle.std.proofs.lemmas.Bool.{and_parts, not-true, leb-true, le-leb, le-ltb, ltb-false}
use Rattle.std.proofs.lemmas.List.{length-map}
use Rattle.sync_text.specs.Chain.{◌>>=◌}
use Rattle.sync_topo.specs.declared.error.PlanErr.{PlanErr}
use Rattle.sync_topo.specs.declared.rows.PlanRows.{PlanRows}
use Rattle.sync_topo.specs.declared.sizes.Size.{Size}
use Rattle.sync_topo.specs.RowValues.{element_from, link_from, source_from, plan_from}
use Rattle.sync_topo.specs.RowsOfPlan.{row_of_element, row_of_link, row_of_source, rows_of_plan}
use Rattle.sync_topo.specs.PlanRows.{size_limits, first_broken, or_refusal, plan_of_rows, plan_of_sized, IsFirstBroken}
use Rattle.sync_topo.specs.declared.sizes.Size.TheVariants.{Standard, Large}
use Rattle.sync_topo.specs.Limits.{element_limit, link_limit, source_limit}
use Rattle.sync_topo.specs.Sizes.{most_elements, most_links, most_sources, is_within, is_standard, size_of, events_of_size, event_limit}
use Rattle.sync_topo.specs.Topology.{Topology}
use Rattle.sync_topo.specs.WellFormed.{IsWellFormed}
use Rattle.sync_topo.proofs.FirstBroken.{all-kept, first-found}
use Rattle.sync_topo.proofs.RowsOfPlan.{plan_of_rows-rows_of_plan}
use Rattle.sync_topo.proofs.Accepted.{given-plan, accepted-well_formed}

-- rows that are few enough for a size say a plan that is
pub rows-within : (size : Size) (rows : PlanRows) → length rows.elements ≤ most_elements size → length rows.links ≤ most_links size → length rows.sources ≤ most_sources size
    → is_within size (plan_from rows) ≡ true
rows-within size rows few_elements few_links few_sources =
    let plan : Topology = plan_from rows in
    let elements : nat_le (length plan.elements) (most_elements size) ≡ true = le-leb (length plan.elements) (most_elements size) (omega (arith, length-map rows.elements (element_from rows.option), few_elements)) in
    let links : nat_le (length plan.links) (most_links size) ≡ true = le-leb (length plan.links) (most_links size) (omega (arith, length-map rows.links (link_from plan.elements), few_links)) in
    let sources : nat_le (length plan.sources) (most_sources size) ≡ true
    = le-leb (length plan.sources) (most_sources size) (omega (arith, length-map rows.sources (source_from rows.option plan.elements), few_sources)) in
    rw (elements, links, sources) refl

-- so that a plan of what they say is no larger than the size
pub within-gives : {E : Type 0} (size : Size) (rows : PlanRows) (result : Result Topology E) → IfOk result (λ plan. plan ≡ plan_from rows) → is_within size (plan_from rows) ≡ true
    → IfOk result (λ plan. is_within size plan ≡ true)
within-gives size rows (Ok plan) same within = subst (λ p. is_within size p ≡ true) (sym same) within
within-gives size rows (Err error) same within = tt

-- the same of rows that break no limit of the size
kept-within : (size : Size) (rows : PlanRows) → first_broken (size_limits size rows) ≡ None → is_within size (plan_from rows) ≡ true
kept-within size rows none =
    let few_elements = and_parts _ _ (all-kept (size_limits size rows) none) in
    let few_links = and_parts _ _ few_elements.1 in
    let few_sources = and_parts _ _ few_links.1 in
    rows-within size rows (ltb-false (most_elements size) (length rows.elements) (not-true _ few_elements.0))
    (ltb-false (most_links size) (length rows.links) (not-true _ few_links.0))
    (ltb-false (most_sources size) (length rows.sources) (not-true _ few_sources.0))

-- a plan that rows give in a size keeps every rule and is no larger
pub sized-accepted : (size : Size) (rows : PlanRows) (plan : Topology) → plan_of_sized size rows ≡ Ok plan → IsWellFormed plan × (is_within size plan ≡ true)
sized-accepted size rows plan = by (first_broken (size_limits size rows)) refl
  where
    by : (found : Option PlanErr) → first_broken (size_limits size rows) ≡ found → (or_refusal found rows >>= plan_of_rows) ≡ Ok plan → IsWellFormed plan × (is_within size plan ≡ true)
    by None none given =
        (accepted-well_formed rows plan given, subst (λ p. is_within size p ≡ true) (given-plan rows plan given) (kept-within size rows none))
    by (Some error) some given = absurd (cc)

-- rows that break a limit of the size are refused with the first one
pub sized-limit : (size : Size) (rows : PlanRows) (refusal : PlanErr) → IsFirstBroken (size_limits size rows) refusal → plan_of_sized size rows ≡ Err refusal
sized-limit size rows refusal first =
    ap (λ (found : Option PlanErr). or_refusal found rows >>= plan_of_rows) (first-found (size_limits size rows) refusal first)

-- a plan that keeps the rules and is no larger than a size is what its rows give in it
pub sized-again : (size : Size) (plan : Topology) → IsWellFormed plan → is_within size plan ≡ true → plan_of_sized size (rows_of_plan plan) ≡ Ok plan
sized-again size plan well within =
    let rows : PlanRows = rows_of_plan plan in
    let elements : Bool = nat_le (length plan.elements) (most_elements size) in
    let links : Bool = nat_le (length plan.links) (most_links size) in
    let sources : Bool = nat_le (length plan.sources) (most_sources size) in
    let all = and_parts (elements && links) sources within in
    let both = and_parts elements links all.0 in
    let few_elements : nat_lt (most_elements size) (length rows.elements) ≡ false
    = le-ltb (most_elements size) (length rows.elements) (omega (arith, length-map plan.elements row_of_element, leb-true (length plan.elements) (most_elements size) both.0)) in
    let few_links : nat_lt (most_links size) (length rows.links) ≡ false
    = le-ltb (most_links size) (length rows.links) (omega (arith, length-map plan.links (row_of_link plan), leb-true (length plan.links) (most_links size) both.1)) in
    let few_sources : nat_lt (most_sources size) (length rows.sources) ≡ false
    = le-ltb (most_sources size) (length rows.sources) (omega (arith, length-map plan.sources (row_of_source plan), leb-true (length plan.sources) (most_sources size) all.1)) in
    rw (few_elements, few_links, few_sources) (plan_of_rows-rows_of_plan plan well)

-- ---- the size that a plan has

-- every plan is no larger than a large one
pub well-within : (plan : Topology) → IsWellFormed plan → is_within Large plan ≡ true
well-within plan well =
    let elements : nat_le (length plan.elements) element_limit ≡ true = le-leb (length plan.elements) element_limit well.few_elements in
    let links : nat_le (length plan.links) link_limit ≡ true = le-leb (length plan.links) link_limit well.few_links in
    let sources : nat_le (length plan.sources) source_limit ≡ true = le-leb (length plan.sources) source_limit well.few_sources in
    rw (elements, links, sources) refl

-- the elements of a plan are no more than the events that it may have
pub elements-few : (plan : Topology) → IsWellFormed plan → length plan.elements ≤ event_limit plan
unfolding size_of event_limit
elements-few plan well = by (is_standard plan) refl
  where
    by : (standard : Bool) → is_standard plan ≡ standard → length plan.elements ≤ events_of_size (if standard then Standard else Large)
    by true standard =
        let elements : Bool = nat_le (length plan.elements) (most_elements Standard) in
        let links : Bool = nat_le (length plan.links) (most_links Standard) in
        let sources : Bool = nat_le (length plan.sources) (most_sources Standard) in
        let few = leb-true (length plan.elements) (most_elements Standard) (and_parts elements links (and_parts (elements && links) sources standard).0).0 in
        omega (arith, few)
    by false large = omega (arith, well.few_elements)
