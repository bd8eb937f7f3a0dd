-- What is said of the ladder gives the ladder.
use Rattle.std.proofs.Common.{◌≡◌, ℕ, ◌+◌, ◌-◌, ◌<◌, ◌≤◌, zero, suc, true, List, [], ◌∷◌, ◌++◌, map, Some, slice_get, refl, sym, ap, subst, ◌∙◌, arith}
use Rattle.std.specs.Prelude.{flat_map, codes, Ok, Err, Result, pos, unwrap_or}
use Rattle.std.specs.List.{AllByRecursion, range_with_len}
use Rattle.std.specs.Fmt.{digits}
use Rattle.std.proofs.Math.Decide.{dec_lt}
use Rattle.std.proofs.lemmas.Bool.{ne_eqb}
use Rattle.std.proofs.lemmas.List.{append-nil, map-append}
use Rattle.std.proofs.lemmas.Grind.{flat_map-append}
use Rattle.std.proofs.lemmas.Simd.{map-map}
use Rattle.sync_ql.specs.declared.levels.NetOption.TheVariants.{I}
use Rattle.sync_topo.specs.declared.link.Link.{Link}
use Rattle.sync_topo.specs.declared.error.PlanErr.{PlanErr}
use Rattle.sync_topo.specs.Topology.{Topology}
use Rattle.sync_topo.specs.Limits.{element_limit}
use Rattle.sync_topo.specs.Names.{is_named, element_names}
use Rattle.sync_topo.specs.RowValues.{element_of_name, element_from, link_from, plan_from}
use Rattle.sync_topo.specs.PlanRows.{plan_of_rows}
use Rattle.sync_topo.specs.WellFormed.{IsWellFormed}
use Rattle.sync_topo.proofs.RuleLemmas.{is_named-at}
use Rattle.sync_topo.proofs.KeptRules.{ElementRowFits, LinkRowFits, RowsFit, plan_of_rows-kept}
use Rattle.sync_topo.proofs.RowsOfPlan.{all-map, place_of-distinct}
use Rattle.plan_gen.specs.Ladder.{numbered, link_up, links_up_to, ladder}
use Rattle.plan_gen.specs.private.LadderRows.{element_row, link_row, step_row, rail_row, link_rows_up_to, ladder_rows}
use Rattle.sync_text.proofs.Ranges.{range_more}
use Rattle.plan_gen.proofs.Ranges.{range_get}
use Rattle.plan_gen.proofs.LadderPlan.{elements_by_name, IsWellFormed-ladder}

-- ---- loops over a range

pub element_rows_more : (j : ℕ) → map element_row (range_with_len 0 (j + 1)) ≡ map element_row (range_with_len 0 j) ++ element_row j ∷ []
element_rows_more j = rw (range_more j) (map-append element_row (range_with_len 0 j) (j ∷ []))

pub link_rows_more : (j : ℕ) → flat_map link_rows_up_to (range_with_len 0 (j + 1)) ≡ flat_map link_rows_up_to (range_with_len 0 j) ++ link_rows_up_to j
link_rows_more j = rw (range_more j, flat_map-append link_rows_up_to (range_with_len 0 j) (j ∷ []), append-nil (link_rows_up_to j)) refl

-- what holds of the items made from each number holds of all of them
all-append : {A : Type 0} (P : A → Type 0) (items more : List A) → AllByRecursion P items → AllByRecursion P more → AllByRecursion P (items ++ more)
all-append P [] more all others = others
all-append P (item ∷ items) more all others = (all.0, all-append P items more all.1 others)

all-flat_map : {A : Type 0} (P : A → Type 0) (f : ℕ → List A) (start n : ℕ) → ((j : ℕ) → j < start + n → AllByRecursion P (f j)) → AllByRecursion P (flat_map f (range_with_len start n))
all-flat_map P f start zero all = tt
all-flat_map P f start (suc n) all = all-append P (f start) (flat_map f (range_with_len (start + 1) n)) (all start (omega arith)) (all-flat_map P f (start + 1) n (λ j inside. all j (omega arith)))

-- a function over what is made from each number
pub map-flat_map : {A B : Type 0} (g : A → B) (f : ℕ → List A) (h : ℕ → List B) (start n : ℕ) → ((j : ℕ) → j < start + n → map g (f j) ≡ h j)
    → map g (flat_map f (range_with_len start n)) ≡ flat_map h (range_with_len start n)
map-flat_map g f h start zero same = refl
map-flat_map g f h start (suc n) same =
    rw (map-append g (f start) (flat_map f (range_with_len (start + 1) n)), same start (omega arith), map-flat_map g f h (start + 1) n (λ j inside. same j (omega arith))) refl

-- ---- elements

elements_said : (n : ℕ) → map (element_from I) (map element_row (range_with_len 0 n)) ≡ (ladder n).elements
elements_said n = map-map (element_from I) element_row (range_with_len 0 n)

name_stands : (n j : ℕ) → j < n → slice_get (element_names (ladder n).elements) j ≡ Some (numbered (codes "E") j)
name_stands n j inside = rw (elements_by_name n) (range_get (numbered (codes "E")) n j inside)

found : (n j : ℕ) → IsWellFormed (ladder n) → j < n → element_of_name (ladder n).elements (numbered (codes "E") j) ≡ j
found n j well inside =
    ap (λ place. unwrap_or place 0) (place_of-distinct (element_names (ladder n).elements) (numbered (codes "E") j) j well.elements_distinct (name_stands n j inside))

named : (n j : ℕ) → j < n → is_named (element_names (ladder n).elements) (numbered (codes "E") j) ≡ true
named n j inside = is_named-at (element_names (ladder n).elements) (numbered (codes "E") j) j (name_stands n j inside)

-- ---- links

link_said : (n : ℕ) (letter : List ℕ) (from j priority : ℕ) → IsWellFormed (ladder n) → from < n → j < n
    → link_from (ladder n).elements (link_row letter from j (pos priority)) ≡ link_up letter from j priority
link_said n letter from j priority well from_inside inside = rw (found n from well from_inside, found n j well inside) refl

links_said : (n j : ℕ) → IsWellFormed (ladder n) → j < n → map (link_from (ladder n).elements) (link_rows_up_to j) ≡ links_up_to j
links_said n zero well inside = refl
links_said n (suc zero) well inside = ap (λ (link : Link). link ∷ []) (link_said n (codes "S") 0 1 2 well (omega (arith, inside)) inside)
links_said n (suc (suc i)) well inside =
    let j : ℕ = suc (suc i) in
    let first : map (link_from (ladder n).elements) (link_rows_up_to j) ≡ link_from (ladder n).elements (step_row j) ∷ link_from (ladder n).elements (rail_row j) ∷ []
    = rw (ne_eqb j 0 (λ e. omega (arith, e)), ne_eqb j 1 (λ e. omega (arith, e))) refl in
    first ∙ rw (link_said n (codes "S") (j - 1) j 2 well (omega (arith, inside)) inside, link_said n (codes "R") (j - 2) j 1 well (omega (arith, inside)) inside) refl

step_fits : (n from j : ℕ) → from < n → j < n → LinkRowFits (ladder n).elements (link_row (codes "S") from j (pos 2))
step_fits n from j from_inside inside = record { end_a = named n from from_inside; end_b = named n j inside; numbers = refl }

rail_fits : (n from j : ℕ) → from < n → j < n → LinkRowFits (ladder n).elements (link_row (codes "R") from j (pos 1))
rail_fits n from j from_inside inside = record { end_a = named n from from_inside; end_b = named n j inside; numbers = refl }

links_fit : (n j : ℕ) → j < n → AllByRecursion (LinkRowFits (ladder n).elements) (link_rows_up_to j)
links_fit n zero inside = tt
links_fit n (suc zero) inside = (step_fits n 0 1 (omega (arith, inside)) inside, tt)
links_fit n (suc (suc i)) inside =
    let j : ℕ = suc (suc i) in
    rw (ne_eqb j 0 (λ e. omega (arith, e)), ne_eqb j 1 (λ e. omega (arith, e)))
    (step_fits n (j - 1) j (omega (arith, inside)) inside, (rail_fits n (j - 2) j (omega (arith, inside)) inside, tt))

-- ---- the whole

said : (n : ℕ) → 2 ≤ n → IsWellFormed (ladder n) → plan_from (ladder_rows n) ≡ ladder n
unfolding digits dec_lt
said n low well =
    let links = map-flat_map (link_from (ladder n).elements) link_rows_up_to links_up_to 0 n (λ j inside. links_said n j well (omega (arith, inside))) in
    let first : element_of_name (ladder n).elements (codes "E0") ≡ 0 = found n 0 well (omega (arith, low)) in
    let second : element_of_name (ladder n).elements (codes "E1") ≡ 1 = found n 1 well (omega (arith, low)) in
    rw (elements_said n, links, first, second) refl

fit : (n : ℕ) → 2 ≤ n → RowsFit (ladder_rows n)
unfolding digits dec_lt
fit n low = record {
  elements = all-map (ElementRowFits I) element_row (range_with_len 0 n) (λ i j at. record { times = refl; levels = refl });
  links = rw (elements_said n) (all-flat_map (LinkRowFits (ladder n).elements) link_rows_up_to 0 n (λ j inside. links_fit n j (omega (arith, inside))));
  sources = rw (elements_said n)
      (record { at = named n 0 (omega (arith, low)); priority = refl; level = refl }, (record { at = named n 1 (omega (arith, low)); priority = refl; level = refl }, tt));
}

-- what is said of the ladder breaks no rule, and gives the ladder
pub plan_of_rows-ladder : (n : ℕ) → 2 ≤ n → n ≤ element_limit → plan_of_rows (ladder_rows n) ≡ Ok (ladder n)
plan_of_rows-ladder n low high =
    let well = IsWellFormed-ladder n low high in
    let same = said n low well in
    plan_of_rows-kept (ladder_rows n) (subst IsWellFormed (sym same) well) (fit n low) ∙ ap Ok same

-- the plan that is given is the one that there is
pub same_plan : (answer : Result Topology PlanErr) (plan other : Topology) → answer ≡ Ok plan → answer ≡ Ok other → plan ≡ other
same_plan answer plan other given is = cc

-- and a plan that is given is not refused
pub not_refused : {E : Type 0} (answer : Result Topology E) (plan : Topology) (error : E) → answer ≡ Ok plan → answer ≡ Err error → ⊥
not_refused (Ok plan) other error is also = absurd (cc also)
not_refused (Err error) other refusal is also = absurd (cc is)
