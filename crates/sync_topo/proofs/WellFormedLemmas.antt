-- A plan that keeps every rule still does when one more element, link or source comes.
use Rattle.std.proofs.Common.{◌≡◌, ℕ, ◌+◌, ◌*◌, ◌<◌, ◌≤◌, true, false, List, [], ◌∷◌, ◌++◌, length, map, Some, slice_get, refl, sym, ◌∙◌, inl, inr, arith, length-append}
use Rattle.std.specs.List.{list_all}
use Rattle.std.proofs.lemmas.Bool.{cases_lt, leb-true, true≢false}
use Rattle.std.proofs.lemmas.Bool.Decides.{eqb_tells}
use Rattle.std.proofs.lemmas.List.{append-nil, map-append}
use Rattle.std.proofs.lemmas.List.Folds.{list_all-append}
use Rattle.std.proofs.lemmas.Option.{slice_get_within, same_Some, none-some}
use Rattle.sync_ql.specs.declared.levels.NetOption.{NetOption}
use Rattle.sync_topo.specs.declared.element.Element.{Element}
use Rattle.sync_topo.specs.declared.link.Link.{Link}
use Rattle.sync_topo.specs.declared.source.Source.{Source}
use Rattle.sync_topo.specs.declared.input.InputId.TheVariants as input
use Rattle.sync_topo.specs.Topology.{Topology}
use Rattle.sync_topo.specs.Lines.{inputs_of, line_input}
use Rattle.sync_topo.specs.Names.{is_name, is_named, element_names, link_names, source_names}
use Rattle.sync_topo.specs.Limits.{element_limit, link_limit, source_limit, input_limit}
use Rattle.sync_topo.specs.private.Held.{taken}
use Rattle.sync_topo.specs.WellFormed.{AreDistinct, JoinsTwo, IsSourceOf, IsWellFormed}
use Rattle.sync_topo.specs.declared.parts.PlanTables.{PlanTables}
use Rattle.sync_topo.specs.private.Kept.{AreBundlesOf}
use Rattle.sync_topo.specs.private.Wired.{IsWired}
use Rattle.sync_topo.specs.Indexed.{topology}
use Rattle.sync_topo.specs.private.Indexed.{IsIndexed, MayJoin, MayLink, MayFeed}
use Rattle.sync_topo.proofs.Lists.{slice_get-push_before, slice_get-push_last, is_named-at}
use Rattle.sync_topo.proofs.BundleRules.{good-name, BundlesJoin-push}
use Rattle.sync_topo.proofs.Inputs.{with_link, with_source, inputs_of-link, inputs_of-source, taken-other}

-- a name that none of them is may come last
pub AreDistinct-push : (names : List (List ℕ)) (name : List ℕ) → AreDistinct names → is_named names name ≡ false → AreDistinct (names ++ name ∷ [])
AreDistinct-push names name distinct fresh i j before within same =
    let size : length (names ++ name ∷ []) ≡ length names + 1 = length-append names (name ∷ []) in
    let i_here : slice_get (names ++ name ∷ []) i ≡ slice_get names i = slice_get-push_before names name i (omega arith) in
    elim (cases_lt j (length names)) [
      | inl inside ↦ distinct i j before inside (sym i_here ∙ same ∙ slice_get-push_before names name j inside)
      | inr end ↦
          let last : slice_get (names ++ name ∷ []) j ≡ Some name = slice_get-push_last names name j (omega arith) in
          let stands : slice_get names i ≡ Some name = sym i_here ∙ same ∙ last in
          true≢false (sym (is_named-at names name i stands) ∙ fresh)
    ]

list_all-push : (names : List (List ℕ)) (name : List ℕ) → list_all is_name names ≡ true → is_name name ≡ true → list_all is_name (names ++ name ∷ []) ≡ true
list_all-push names name all one = rw (list_all-append is_name names (name ∷ []), all, one) refl

-- what holds of each item, by its place, still does when one more comes of which it holds
each-push : {A : Type 0} (P : A → Type 0) (xs : List A) (last : A) → ((i : ℕ) (x : A) → slice_get xs i ≡ Some x → P x) → P last
    → (i : ℕ) (x : A) → slice_get (xs ++ last ∷ []) i ≡ Some x → P x
each-push {A} P xs last each one i x at =
    elim (cases_lt i (length xs)) [
      | inl before ↦ each i x (sym (slice_get-push_before xs last i before) ∙ at)
      | inr end ↦
          let within : i < length (xs ++ last ∷ []) = slice_get_within _ i x at in
          let e : i ≡ length xs = omega (arith, length-append xs (last ∷ [])) in
          let same : last ≡ x = same_Some last x (sym (slice_get-push_last xs last i e) ∙ at) in
          rw (← same) one
    ]

JoinsTwo-more : (n : ℕ) (link : Link) → JoinsTwo n link → JoinsTwo (n + 1) link
JoinsTwo-more n link joins = record {
  a_is_element = omega (arith, joins.a_is_element);
  b_is_element = omega (arith, joins.b_is_element);
  apart = joins.apart;
  priority_a_fits = joins.priority_a_fits;
  priority_b_fits = joins.priority_b_fits;
  least_delay_a = joins.least_delay_a;
  greatest_delay_a = joins.greatest_delay_a;
  least_delay_b = joins.least_delay_b;
  greatest_delay_b = joins.greatest_delay_b;
}

IsSourceOf-more : (option : NetOption) (n : ℕ) (source : Source) → IsSourceOf option n source → IsSourceOf option (n + 1) source
IsSourceOf-more option n source fits = record {
  at_is_element = omega (arith, fits.at_is_element);
  of_option = fits.of_option;
  priority_fits = fits.priority_fits;
}

-- a plan of nothing keeps every rule
pub IsWellFormed-empty : (option : NetOption) → IsWellFormed (record { option = option; elements = []; links = []; sources = [] })
IsWellFormed-empty option = record {
  few_elements = omega arith;
  few_links = omega arith;
  few_sources = omega arith;
  elements_named = refl;
  elements_distinct = λ i j before within same. omega arith;
  elements_fit = λ e element at. absurd (none-some element at);
  links_named = refl;
  links_distinct = λ i j before within same. omega arith;
  links_join = λ k link at. absurd (none-some link at);
  bundles_named = λ k link at. absurd (none-some link at);
  bundles_join = λ i j one other at_i at_j same. absurd (none-some one at_i);
  sources_named = refl;
  sources_distinct = λ i j before within same. omega arith;
  sources_are_no_links = λ j source at. absurd (none-some source at);
  sources_fit = λ j source at. absurd (none-some source at);
  few_inputs = λ element. omega arith;
}

pub IsIndexed-empty : (parts : PlanTables) → parts.elements.items ≡ [] → parts.links.items ≡ [] → parts.sources.items ≡ [] → parts.element_names ≡ [] → parts.link_names ≡ []
    → parts.source_names ≡ [] → IsWired (topology parts) parts.wiring → AreBundlesOf parts.bundles.names parts.bundles.firsts.items parts.bundles.numbers.items []
    → IsIndexed parts
IsIndexed-empty parts elements links sources element_names link_names source_names wired bundles = record {
  well_formed = rw (elements, links, sources) (IsWellFormed-empty parts.option);
  element_names_kept = rw (element_names, elements) refl;
  link_names_kept = rw (link_names, links) refl;
  source_names_kept = rw (source_names, sources) refl;
  bundles_kept = rw links bundles;
  wired = wired;
}

pub IsWellFormed-element : (plan : Topology) (element : Element) → IsWellFormed plan → length plan.elements < element_limit → MayJoin plan element
    → IsWellFormed (record plan { elements = plan.elements ++ element ∷ [] })
IsWellFormed-element plan element well room may =
    let size : length (plan.elements ++ element ∷ []) ≡ length plan.elements + 1 = length-append plan.elements (element ∷ []) in
    let names : element_names (plan.elements ++ element ∷ []) ≡ element_names plan.elements ++ element.name ∷ [] = map-append (λ (e : Element). e.name) plan.elements (element ∷ []) in
    record {
      few_elements = rw size (omega arith);
      few_links = well.few_links;
      few_sources = well.few_sources;
      elements_named = rw names (list_all-push (element_names plan.elements) element.name well.elements_named may.named);
      elements_distinct = rw names (AreDistinct-push (element_names plan.elements) element.name well.elements_distinct may.fresh);
      elements_fit = each-push _ plan.elements element well.elements_fit may.fits;
      links_named = well.links_named;
      links_distinct = well.links_distinct;
      links_join = λ k link at. rw size (JoinsTwo-more (length plan.elements) link (well.links_join k link at));
      bundles_named = well.bundles_named;
      bundles_join = well.bundles_join;
      sources_named = well.sources_named;
      sources_distinct = well.sources_distinct;
      sources_are_no_links = well.sources_are_no_links;
      sources_fit = λ j source at. rw size (IsSourceOf-more plan.option (length plan.elements) source (well.sources_fit j source at));
      few_inputs = well.few_inputs;
    }

few_inputs-link : (plan : Topology) (link : Link) (element : ℕ) → IsWellFormed plan → plan.sources ≡ [] → MayLink plan link
    → length (inputs_of (with_link plan link) element) ≤ input_limit
few_inputs-link plan link element well empty may =
    elim (eqb_tells link.a element) [
      | inl at_a ↦ rw (← at_a.1) (leb-true _ _ may.room_at_a)
      | inr not_a ↦ elim (eqb_tells link.b element) [
        | inl at_b ↦ rw (← at_b.1) (leb-true _ _ may.room_at_b)
        | inr not_b ↦
            let n = length plan.links in
            let none_a : taken link.a link.priority_a (line_input (2 * n + 1)) element ≡ [] = taken-other link.a link.priority_a (line_input (2 * n + 1)) element not_a.1 in
            let none_b : taken link.b link.priority_b (line_input (2 * n)) element ≡ [] = taken-other link.b link.priority_b (line_input (2 * n)) element not_b.1 in
            rw (inputs_of-link plan link element empty, none_a, none_b, append-nil (inputs_of plan element ++ []), append-nil (inputs_of plan element)) (well.few_inputs element)
      ]
    ]

pub IsWellFormed-link : (plan : Topology) (link : Link) → IsWellFormed plan → plan.sources ≡ [] → length plan.links < link_limit → MayLink plan link
    → IsWellFormed (with_link plan link)
IsWellFormed-link plan link well empty room may =
    let size : length (plan.links ++ link ∷ []) ≡ length plan.links + 1 = length-append plan.links (link ∷ []) in
    let names : link_names (plan.links ++ link ∷ []) ≡ link_names plan.links ++ link.name ∷ [] = map-append (λ (l : Link). l.name) plan.links (link ∷ []) in
    record {
      few_elements = well.few_elements;
      few_links = rw size (omega arith);
      few_sources = well.few_sources;
      elements_named = well.elements_named;
      elements_distinct = well.elements_distinct;
      elements_fit = well.elements_fit;
      links_named = rw names (list_all-push (link_names plan.links) link.name well.links_named may.named);
      links_distinct = rw names (AreDistinct-push (link_names plan.links) link.name well.links_distinct may.fresh);
      links_join = each-push _ plan.links link well.links_join may.joins;
      bundles_named = each-push _ plan.links link well.bundles_named (good-name plan.links link may.bundle_fits);
      bundles_join = BundlesJoin-push plan.links link well.bundles_join may.bundle_fits;
      sources_named = well.sources_named;
      sources_distinct = well.sources_distinct;
      sources_are_no_links = λ j source at. absurd (none j source (rw empty at at));
      sources_fit = well.sources_fit;
      few_inputs = λ element. few_inputs-link plan link element well empty may;
    }
  where
    none : (j : ℕ) (source : Source) → slice_get [] j ≡ Some source → ⊥
    none j source at = omega (arith, slice_get_within [] j source at)

few_inputs-source : (plan : Topology) (source : Source) (element : ℕ) → IsWellFormed plan → MayFeed plan source
    → length (inputs_of (with_source plan source) element) ≤ input_limit
few_inputs-source plan source element well may =
    elim (eqb_tells source.at element) [
      | inl here ↦ rw (← here.1) (leb-true _ _ may.room)
      | inr other ↦
          let none : taken source.at source.priority (input.Source (length plan.sources)) element ≡ [] = taken-other source.at source.priority (input.Source (length plan.sources)) element other.1 in
          rw (inputs_of-source plan source element, none, append-nil (inputs_of plan element)) (well.few_inputs element)
    ]

pub IsWellFormed-source : (plan : Topology) (source : Source) → IsWellFormed plan → length plan.sources < source_limit → MayFeed plan source
    → IsWellFormed (with_source plan source)
IsWellFormed-source plan source well room may =
    let size : length (plan.sources ++ source ∷ []) ≡ length plan.sources + 1 = length-append plan.sources (source ∷ []) in
    let names : source_names (plan.sources ++ source ∷ []) ≡ source_names plan.sources ++ source.name ∷ [] = map-append (λ (s : Source). s.name) plan.sources (source ∷ []) in
    record {
      few_elements = well.few_elements;
      few_links = well.few_links;
      few_sources = rw size (omega arith);
      elements_named = well.elements_named;
      elements_distinct = well.elements_distinct;
      elements_fit = well.elements_fit;
      links_named = well.links_named;
      links_distinct = well.links_distinct;
      links_join = well.links_join;
      bundles_named = well.bundles_named;
      bundles_join = well.bundles_join;
      sources_named = rw names (list_all-push (source_names plan.sources) source.name well.sources_named may.named);
      sources_distinct = rw names (AreDistinct-push (source_names plan.sources) source.name well.sources_distinct may.fresh);
      sources_are_no_links = each-push (λ s. is_named (link_names plan.links) s.name ≡ false) plan.sources source well.sources_are_no_links may.no_link;
      sources_fit = each-push _ plan.sources source well.sources_fit may.fits;
      few_inputs = λ element. few_inputs-source plan source element well may;
    }

-- the names that are kept follow the elements, the links and the sources
pub names-push : {A : Type 0} (name_of : A → List ℕ) (items now : List A) (item : A) (names names_now : List (List ℕ)) (name : List ℕ)
    → names ≡ map name_of items → now ≡ items ++ item ∷ [] → names_now ≡ names ++ name ∷ [] → name ≡ name_of item → names_now ≡ map name_of now
names-push name_of items now item names names_now name kept pushed added e =
    rw (added, kept, e, pushed, map-append name_of items (item ∷ [])) refl
