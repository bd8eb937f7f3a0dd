-- What a name tells: one element, link, source, line or input of the plan, or none.
use Rattle.std.proofs.Common.{◌≡◌, ◌↔◌, ℕ, ◌/◌, ◌%◌, ◌<◌, ◌≤◌, zero, suc, Bool, true, false, List, [], ◌∷◌, length, Option, Some, None, slice_get, option_map, refl, ap, sym, ◌∙◌, inl, inr, arith}
use Rattle.std.specs.Prelude.{◌==◌, ◌≢◌, if◌then◌else◌}
use Rattle.std.specs.List.{list_all}
use Rattle.std.specs.Option.{option_or}
use Rattle.std.specs.Str.{bytes_eq}
use Rattle.std.proofs.lemmas.Bool.{and_parts, eqb-true, leb-true, true≢false}
use Rattle.std.proofs.lemmas.Bool.Decides.{eqb_tells}
use Rattle.std.proofs.lemmas.List.{length-map}
use Rattle.std.proofs.lemmas.Option.{slice_get_within, slice_get-map, same_Some, none-some}
use Rattle.std.proofs.lemmas.Slice.Eq.{bytes_eq-Decides}
use Rattle.sync_text.proofs.Ranges.{find_range-Some, find_range-None}
use Rattle.sync_topo.specs.declared.element.Element.{Element}
use Rattle.sync_topo.specs.declared.link.Link.{Link}
use Rattle.sync_topo.specs.declared.source.Source as declared
use Rattle.sync_topo.specs.declared.input.InputId.{InputId}
use Rattle.sync_topo.specs.declared.input.InputId.TheVariants.{Line, Source}
use Rattle.sync_topo.specs.Topology.{Topology}
use Rattle.sync_topo.specs.Lines.{line_count, receiver_of, line_name, line_of_name, element_name, source_name, line_input, IsInput, input_name, input_of_name}
use Rattle.sync_topo.specs.Names.{is_name, place_of, element_names, link_names, source_names}
use Rattle.sync_topo.specs.private.Naming.{has_sign}
use Rattle.sync_topo.specs.WellFormed.{AreDistinct, IsWellFormed}
use Rattle.sync_topo.proofs.LineNames.{no_sign, cut_once, link_there, link_no_sign, line_name-is, one_link, unsigned-names_no_line}
use Rattle.sync_topo.proofs.Lists.{place_of-names}
use Rattle.sync_topo.proofs.PlaceLaws.{one-place, name-there}
use Rattle.sync_topo.proofs.RowsOfPlan.{place_of-distinct}

-- the receiver of a line, by the direction that it runs in
receiver-is : (plan : Topology) (line : ℕ) (link : Link) (to_b : Bool) → slice_get plan.links (line / 2) ≡ Some link → (line % 2 == 0) ≡ to_b
    → receiver_of plan line ≡ (if to_b then link.b else link.a)
receiver-is plan line link to_b at e = rw (at, e) refl

receiver-within : (plan : Topology) (line : ℕ) (link : Link) (to_b : Bool) → IsWellFormed plan → slice_get plan.links (line / 2) ≡ Some link → (line % 2 == 0) ≡ to_b
    → receiver_of plan line < length plan.elements
receiver-within plan line link true well at e = rw (receiver-is plan line link true at e) (well.links_join (line / 2) link at).b_is_element
receiver-within plan line link false well at e = rw (receiver-is plan line link false at e) (well.links_join (line / 2) link at).a_is_element

is_odd : (n : ℕ) → (n % 2 == 0) ≡ false → n % 2 ≡ 1
is_odd n e = elim (eqb_tells (n % 2) 0) [
  | inl even ↦ absurd (true≢false (sym even.0 ∙ e))
  | inr odd ↦ omega (arith, odd.1)
]

-- two lines of one link into one element are one line
one_direction : (plan : Topology) (k l : ℕ) (link : Link) (k_to_b l_to_b : Bool) → link.a ≢ link.b → k / 2 ≡ l / 2
    → (k % 2 == 0) ≡ k_to_b → (l % 2 == 0) ≡ l_to_b → (if k_to_b then link.b else link.a) ≡ (if l_to_b then link.b else link.a) → k ≡ l
one_direction plan k l link true true apart half e f same = omega (arith, half, eqb-true (k % 2) 0 e, eqb-true (l % 2) 0 f)
one_direction plan k l link true false apart half e f same = absurd (apart (sym same))
one_direction plan k l link false true apart half e f same = absurd (apart same)
one_direction plan k l link false false apart half e f same = omega (arith, half, is_odd k e, is_odd l f)

-- two lines of one name are one line
one_line : (plan : Topology) (k l : ℕ) → IsWellFormed plan → k < line_count plan → l < line_count plan → line_name plan k ≡ line_name plan l → k ≡ l
one_line plan k l well k_within l_within same =
    let there_k = link_there plan k k_within in
    let there_l = link_there plan l l_within in
    let parts = cut_once there_k.0.name there_l.0.name (element_name plan (receiver_of plan k)) (element_name plan (receiver_of plan l))
    (link_no_sign plan.links (k / 2) there_k.0 well.links_named there_k.1) (link_no_sign plan.links (l / 2) there_l.0 well.links_named there_l.1)
    (sym (line_name-is plan k there_k.0 there_k.1) ∙ same ∙ line_name-is plan l there_l.0 there_l.1) in
    let name_of : Link → List ℕ = λ x. x.name in
    let at_k : slice_get (link_names plan.links) (k / 2) ≡ Some there_l.0.name = slice_get-map name_of plan.links (k / 2) ∙ (rw (there_k.1) (ap Some parts.0)) in
    let at_l : slice_get (link_names plan.links) (l / 2) ≡ Some there_l.0.name = slice_get-map name_of plan.links (l / 2) ∙ (rw (there_l.1) refl) in
    let half : k / 2 ≡ l / 2 = one_link plan (k / 2) (l / 2) there_l.0.name well at_k at_l in
    let link_k : slice_get plan.links (k / 2) ≡ Some there_l.0 = ap (slice_get plan.links) half ∙ there_l.1 in
    let k_to_b : Bool = k % 2 == 0 in
    let l_to_b : Bool = l % 2 == 0 in
    let receivers = one-place (element_names plan.elements) (receiver_of plan k) (receiver_of plan l) (element_name plan (receiver_of plan l)) well.elements_distinct
    (name-there (λ (x : Element). x.name) plan.elements (receiver_of plan k) (receiver-within plan k there_l.0 k_to_b well link_k refl) ∙ ap Some parts.1)
    (name-there (λ (x : Element). x.name) plan.elements (receiver_of plan l) (receiver-within plan l there_l.0 l_to_b well there_l.1 refl)) in
    one_direction plan k l there_l.0 k_to_b l_to_b (well.links_join (l / 2) there_l.0 there_l.1).apart half refl refl
    (sym (receiver-is plan k there_l.0 k_to_b link_k refl) ∙ receivers ∙ receiver-is plan l there_l.0 l_to_b there_l.1 refl)

-- a line is found by its name, and nothing else is
pub line-by-name : (plan : Topology) (name : List ℕ) → IsWellFormed plan
    → (line : ℕ) → (line_of_name plan name ≡ Some line) ↔ ((line < line_count plan) × (line_name plan line ≡ name))
line-by-name plan name well line = (found line, λ is. by_case (line_of_name plan name) refl is.0 is.1)
  where
    found : (k : ℕ) → line_of_name plan name ≡ Some k → (k < line_count plan) × (line_name plan k ≡ name)
    found k e =
        let facts = find_range-Some (λ l. bytes_eq (line_name plan l) name) 0 (line_count plan) k e in
        (omega (arith, facts.3), (bytes_eq-Decides (line_name plan k) name).0 facts.0)

    by_case : (answer : Option ℕ) → line_of_name plan name ≡ answer → line < line_count plan → line_name plan line ≡ name → line_of_name plan name ≡ Some line
    by_case (Some k) e within named =
        let there = found k e in
        e ∙ ap Some (one_line plan k line well there.0 within (there.1 ∙ sym named))
    by_case None e within named =
        let missed = find_range-None (λ l. bytes_eq (line_name plan l) name) 0 (line_count plan) e line (omega arith) (omega arith) in
        absurd (true≢false (sym ((bytes_eq-Decides (line_name plan line) name).1 named) ∙ missed))

-- an element, a link or a source is found by its name, and nothing else is
pub found-by-name : (names : List (List ℕ)) (name : List ℕ) → AreDistinct names
    → (i : ℕ) → (place_of names name ≡ Some i) ↔ (slice_get names i ≡ Some name)
found-by-name names name distinct i =
    (λ e. place_of-names names name (Some i) (sym e), λ at. place_of-distinct names name i distinct at)

-- the sign > stands in none of these names
name_no_sign : (names : List (List ℕ)) (j : ℕ) (name : List ℕ) → list_all is_name names ≡ true → slice_get names j ≡ Some name → has_sign name ≡ false
name_no_sign [] j name all at = absurd (none-some name at)
name_no_sign (first ∷ names) zero name all at =
    let good : is_name first ≡ true = (and_parts _ _ all).0 in
    rw (← same_Some first name at) (no_sign first (and_parts _ _ good).1)
name_no_sign (first ∷ names) (suc j) name all at = name_no_sign names j name (and_parts _ _ all).1 at

-- an input is found by its name, and nothing else is
pub input-by-name : (plan : Topology) (name : List ℕ) → IsWellFormed plan
    → (i : InputId) → (input_of_name plan name ≡ Some i) ↔ (IsInput plan i × (input_name plan i ≡ name))
input-by-name plan name well i =
    (λ e. found (line_of_name plan name) (place_of (source_names plan.sources) name) refl refl e, given i)
  where
    found : (line source : Option ℕ) → line_of_name plan name ≡ line → place_of (source_names plan.sources) name ≡ source
        → option_or (option_map line_input line) (option_map Source source) ≡ Some i → IsInput plan i × (input_name plan i ≡ name)
    found (Some l) source line_is source_is e =
        let is : line_input l ≡ i = same_Some (line_input l) i e in
        let facts = (line-by-name plan name well l).0 line_is in
        rw (← is) (facts.0, facts.1)
    found None (Some j) line_is source_is e =
        let is : Source j ≡ i = same_Some (Source j) i e in
        let at = place_of-names (source_names plan.sources) name (Some j) (sym source_is) in
        let within : j < length plan.sources = omega (arith, slice_get_within (source_names plan.sources) j name at, length-map plan.sources (λ (s : declared.Source). s.name)) in
        let named : source_name plan j ≡ name = same_Some _ _ (sym (name-there (λ (s : declared.Source). s.name) plan.sources j within) ∙ at) in
        rw (← is) (within, named)
    found None None line_is source_is e = absurd (none-some i e)

    given : (input : InputId) → IsInput plan input × (input_name plan input ≡ name) → input_of_name plan name ≡ Some input
    given (Line line) facts = rw ((line-by-name plan name well line.0).1 (facts.0, facts.1)) refl
    given (Source j) facts =
        let name_of : declared.Source → List ℕ = λ s. s.name in
        let at : slice_get (source_names plan.sources) j ≡ Some name = name-there name_of plan.sources j facts.0 ∙ ap Some facts.1 in
        let no_line = unsigned-names_no_line plan name well (name_no_sign (source_names plan.sources) j name well.sources_named at) in
        rw (no_line, place_of-distinct (source_names plan.sources) name j well.sources_distinct at) refl

-- a name has at most 32 bytes
pub name-short : (name : List ℕ) → is_name name ≡ true → length name ≤ 32
name-short name named = leb-true _ _ (and_parts _ _ (and_parts _ _ named).0).1
