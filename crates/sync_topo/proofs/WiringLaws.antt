-- What is kept of a plan's elements when one more element, link or source comes.
use Rattle.std.proofs.Common.{◌≡◌, ℕ, ◌+◌, ◌*◌, ◌<◌, ◌≤◌, List, [], ◌∷◌, ◌++◌, length, Some, slice_get, refl, sym, ap, ◌∙◌, arith, subst, inl, inr, length-append}
use Rattle.std.specs.Prelude.{◌≢◌, ◌⊎◌, IsTrue, slice_index}
use Rattle.std.proofs.lemmas.Bool.{cases_lt, cases_eq}
use Rattle.std.proofs.lemmas.List.{append-nil, get_or_append_left}
use Rattle.std.proofs.Math.Seq.{get_or-append_seam}
use Rattle.sync_topo.specs.declared.element.Element.{Element}
use Rattle.sync_topo.specs.declared.link.Link.{Link}
use Rattle.sync_topo.specs.declared.source.Source as declared
use Rattle.sync_topo.specs.declared.input.InputId.{InputId}
use Rattle.sync_topo.specs.declared.input.InputId.TheVariants.{Line, Source}
use Rattle.sync_topo.specs.declared.wiring.Wiring.{Wiring}
use Rattle.sync_topo.specs.Topology.{Topology}
use Rattle.sync_topo.specs.Lines.{line_input, line_id, inputs_of, IsInput, is_nominated_input, is_same_input, place_at, element_of, element_of_source, receiver_of}
use Rattle.sync_topo.specs.Held.{held}
use Rattle.sync_topo.specs.private.Held.{taken}
use Rattle.sync_topo.specs.private.Wired.{IsWired, IsWidened, HasLine, HasSource, kept_place}
use Rattle.sync_topo.proofs.Lists.{slice_get-push_before, slice_get-push_last}
use Rattle.sync_topo.proofs.Inputs.{with_link, with_source, inputs_of-link, inputs_of-source, lines_out-link, taken-other, taken-own, priority-before, priority-to_b, priority-to_a, receivers}
use Rattle.sync_topo.proofs.InputPlaces.{new-placed, place-kept, place-last}

-- the item at the end of a list
pub last-item : (xs : List ℕ) (x i : ℕ) → i ≡ length xs → slice_index (xs ++ x ∷ []) i ≡ x
last-item xs x i at = rw at (get_or-append_seam xs x [] 0)

-- nothing is kept of no elements
pub wired-empty : (plan : Topology) (wiring : Wiring) → plan.elements ≡ [] → plan.links ≡ [] → plan.sources ≡ []
    → wiring.inputs.items ≡ [] → wiring.lines_out.items ≡ [] → wiring.line_places.items ≡ [] → wiring.source_places.items ≡ [] → IsWired plan wiring
wired-empty plan wiring elements links sources inputs outward line_places source_places = record {
  inputs_counted = rw (inputs, elements) refl;
  lines_out_counted = rw (outward, elements) refl;
  line_places_counted = rw (line_places, links) refl;
  source_places_counted = rw (source_places, sources) refl;
  inputs_kept = λ element. rw (inputs, links, sources) refl;
  lines_out_kept = λ element. rw (outward, links) refl;
  places_kept = none;
}
  where
    none : (input : InputId) → IsInput plan input → IsTrue (is_nominated_input plan input) → place_at plan (element_of plan input) input ≡ Some (kept_place wiring input)
    none (Line line) has nominated = absurd (omega (arith, has, ap length links))
    none (Source source) has nominated = absurd (omega (arith, has, ap length sources))

-- one element more
pub wired-element : (plan : Topology) (element : Element) (before after : Wiring) → IsWired plan before → IsWidened before after
    → IsWired (record plan { elements = plan.elements ++ element ∷ [] }) after
wired-element plan element before after wired widened = record {
  inputs_counted = omega (arith, widened.inputs_counted, wired.inputs_counted, length-append plan.elements (element ∷ []));
  lines_out_counted = omega (arith, widened.lines_out_counted, wired.lines_out_counted, length-append plan.elements (element ∷ []));
  line_places_counted = ap length widened.line_places ∙ wired.line_places_counted;
  source_places_counted = ap length widened.source_places ∙ wired.source_places_counted;
  inputs_kept = λ e. widened.inputs e ∙ wired.inputs_kept e;
  lines_out_kept = λ e. widened.lines_out e ∙ wired.lines_out_kept e;
  places_kept = places;
}
  where
    places : (input : InputId) → IsInput plan input → IsTrue (is_nominated_input plan input) → place_at plan (element_of plan input) input ≡ Some (kept_place after input)
    places (Line line) has nominated = wired.places_kept (Line line) has nominated ∙ ap (λ places. Some (slice_index places line.0)) (sym widened.line_places)
    places (Source source) has nominated = wired.places_kept (Source source) has nominated ∙ ap (λ places. Some (slice_index places source)) (sym widened.source_places)

-- one link more, while there are no sources
pub wired-link : (plan : Topology) (link : Link) (before between after : Wiring) → plan.sources ≡ [] → link.a ≢ link.b → IsWired plan before
    → HasLine (line_id (2 * length plan.links)) link.a link.b link.priority_b before between
    → HasLine (line_id (2 * length plan.links + 1)) link.b link.a link.priority_a between after
    → IsWired (with_link plan link) after
wired-link plan link before between after none apart wired to_b to_a = record {
  inputs_counted = to_a.inputs_counted ∙ to_b.inputs_counted ∙ wired.inputs_counted;
  lines_out_counted = to_a.lines_out_counted ∙ to_b.lines_out_counted ∙ wired.lines_out_counted;
  line_places_counted = omega (
    arith,
    ap length kept,
    length-append before.line_places.items (at_b ∷ []),
    length-append (before.line_places.items ++ at_b ∷ []) (at_a ∷ []),
    wired.line_places_counted,
    length-append plan.links (link ∷ []),
  );
  source_places_counted = ap length (to_a.source_places ∙ to_b.source_places) ∙ wired.source_places_counted;
  inputs_kept = λ e. rw (to_a.inputs e, to_b.inputs e, wired.inputs_kept e) (sym (inputs_of-link plan link e none));
  lines_out_kept = λ e. rw (to_a.lines_out e, to_b.lines_out e, wired.lines_out_kept e) (sym (lines_out-link plan link e));
  places_kept = places;
}
  where
    n : ℕ
    n = length plan.links

    at_b : ℕ
    at_b = length (held before.inputs.items link.b)

    at_a : ℕ
    at_a = length (held between.inputs.items link.a)

    kept : after.line_places.items ≡ before.line_places.items ++ at_b ∷ [] ++ at_a ∷ []
    kept = to_a.line_places ∙ ap (λ places. places ++ at_a ∷ []) to_b.line_places

    -- what one of the plan's lines finds, as before
    old : (line : ℕ) → line < 2 * n → IsTrue (is_nominated_input (with_link plan link) (line_input line))
        → place_at (with_link plan link) (receiver_of (with_link plan link) line) (line_input line) ≡ Some (kept_place after (line_input line))
    old line has nominated =
        let e = receiver_of plan line in
        let was : place_at plan e (line_input line) ≡ Some (kept_place before (line_input line))
        = wired.places_kept (line_input line) has (rw (priority-before plan link line has) at nominated) in
        let still : slice_index after.line_places.items line ≡ slice_index before.line_places.items line
        = ap (λ places. slice_index places line) kept
        ∙ get_or_append_left (before.line_places.items ++ at_b ∷ []) (at_a ∷ []) 0 line (omega (arith, wired.line_places_counted, length-append before.line_places.items (at_b ∷ [])))
        ∙ get_or_append_left before.line_places.items (at_b ∷ []) 0 line (omega (arith, wired.line_places_counted)) in
        rw ((receivers plan link).before line has, inputs_of-link plan link e none, still)
        (place-kept (is_same_input (line_input line)) (inputs_of plan e ++ taken link.b link.priority_b (line_input (2 * n)) e) link.a link.priority_a (line_input (2 * n + 1)) e _
        (place-kept (is_same_input (line_input line)) (inputs_of plan e) link.b link.priority_b (line_input (2 * n)) e _ was))

    first : IsTrue (is_nominated_input (with_link plan link) (line_input (2 * n)))
        → place_at (with_link plan link) (receiver_of (with_link plan link) (2 * n)) (line_input (2 * n)) ≡ Some (kept_place after (line_input (2 * n)))
    first nominated =
        let e = link.b in
        let own : taken link.b link.priority_b (line_input (2 * n)) e ≡ line_input (2 * n) ∷ [] = taken-own link.b link.priority_b (line_input (2 * n)) (rw (priority-to_b plan link) at nominated) in
        let at : slice_index after.line_places.items (2 * n) ≡ at_b
        = ap (λ places. slice_index places (2 * n)) kept
        ∙ get_or_append_left (before.line_places.items ++ at_b ∷ []) (at_a ∷ []) 0 (2 * n) (omega (arith, wired.line_places_counted, length-append before.line_places.items (at_b ∷ [])))
        ∙ last-item before.line_places.items at_b (2 * n) (sym wired.line_places_counted) in
        rw ((receivers plan link).at_b, inputs_of-link plan link e none, own, at)
        (place-kept (is_same_input (line_input (2 * n))) (inputs_of plan e ++ line_input (2 * n) ∷ []) link.a link.priority_a (line_input (2 * n + 1)) e _
        (place-last (inputs_of plan e) (line_input (2 * n)) (new-placed plan e (line_input (2 * n)) (λ has. absurd (omega (arith, has)))) ∙ ap (λ xs. Some (length xs)) (sym (wired.inputs_kept e))))

    second : IsTrue (is_nominated_input (with_link plan link) (line_input (2 * n + 1)))
        → place_at (with_link plan link) (receiver_of (with_link plan link) (2 * n + 1)) (line_input (2 * n + 1)) ≡ Some (kept_place after (line_input (2 * n + 1)))
    second nominated =
        let e = link.a in
        let other : taken link.b link.priority_b (line_input (2 * n)) e ≡ [] = taken-other link.b link.priority_b (line_input (2 * n)) e (λ same. apart (sym same)) in
        let own : taken link.a link.priority_a (line_input (2 * n + 1)) e ≡ line_input (2 * n + 1) ∷ [] = taken-own link.a link.priority_a (line_input (2 * n + 1)) (rw (priority-to_a plan link) at nominated) in
        let count : at_a ≡ length (inputs_of plan e) = ap length (to_b.inputs e ∙ ap (λ xs. held before.inputs.items e ++ xs) other ∙ append-nil (held before.inputs.items e) ∙ wired.inputs_kept e) in
        let at : slice_index after.line_places.items (2 * n + 1) ≡ at_a
        = ap (λ places. slice_index places (2 * n + 1)) kept
        ∙ last-item (before.line_places.items ++ at_b ∷ []) at_a (2 * n + 1) (omega (arith, wired.line_places_counted, length-append before.line_places.items (at_b ∷ []))) in
        rw ((receivers plan link).at_a, inputs_of-link plan link e none, other, append-nil (inputs_of plan e), own, at)
        (place-last (inputs_of plan e) (line_input (2 * n + 1)) (new-placed plan e (line_input (2 * n + 1)) (λ has. absurd (omega (arith, has)))) ∙ ap Some (sym count))

    Placed : ℕ → Type 0
    Placed line = IsTrue (is_nominated_input (with_link plan link) (line_input line))
        → place_at (with_link plan link) (receiver_of (with_link plan link) line) (line_input line) ≡ Some (kept_place after (line_input line))

    places : (input : InputId) → IsInput (with_link plan link) input → IsTrue (is_nominated_input (with_link plan link) input)
        → place_at (with_link plan link) (element_of (with_link plan link) input) input ≡ Some (kept_place after input)
    places (Source source) has nominated = absurd (omega (arith, has, ap length none))
    places (Line line) has nominated = by (cases_lt line.0 (2 * n)) (cases_eq line.0 (2 * n))
      where
        by : (line.0 < 2 * n) ⊎ (2 * n ≤ line.0) → (line.0 ≡ 2 * n) ⊎ (line.0 ≢ 2 * n)
            → place_at (with_link plan link) (element_of (with_link plan link) (Line line)) (Line line) ≡ Some (kept_place after (Line line))
        by (inl earlier) _ = old line.0 earlier nominated
        by (inr later) (inl is) = subst (Placed) (sym is) first nominated
        by (inr later) (inr is_not) = subst (Placed) (omega (arith, later, is_not, has, length-append plan.links (link ∷ []))) second nominated

-- one source more
pub wired-source : (plan : Topology) (source : declared.Source) (before after : Wiring) → IsWired plan before
    → HasSource (length plan.sources) source.at source.priority before after → IsWired (with_source plan source) after
wired-source plan source before after wired has_source = record {
  inputs_counted = has_source.inputs_counted ∙ wired.inputs_counted;
  lines_out_counted = has_source.lines_out_counted ∙ wired.lines_out_counted;
  line_places_counted = ap length has_source.line_places ∙ wired.line_places_counted;
  source_places_counted = omega (
    arith,
    ap length has_source.source_places,
    length-append before.source_places.items (place ∷ []),
    wired.source_places_counted,
    length-append plan.sources (source ∷ []),
  );
  inputs_kept = λ e. rw (has_source.inputs e, wired.inputs_kept e) (sym (inputs_of-source plan source e));
  lines_out_kept = λ e. has_source.lines_out e ∙ wired.lines_out_kept e;
  places_kept = places;
}
  where
    m : ℕ
    m = length plan.sources

    place : ℕ
    place = length (held before.inputs.items source.at)

    -- what an earlier input finds, as before
    kept : (input : InputId) (e k : ℕ) → place_at plan e input ≡ Some k → place_at (with_source plan source) e input ≡ Some k
    kept input e k is =
        rw (inputs_of-source plan source e) (place-kept (is_same_input input) (inputs_of plan e) source.at source.priority (Source m) e k is)

    old : (other : ℕ) → other < m → IsTrue (is_nominated_input (with_source plan source) (Source other))
        → place_at (with_source plan source) (element_of_source (with_source plan source) other) (Source other) ≡ Some (kept_place after (Source other))
    old other has nominated =
        let there : slice_get (plan.sources ++ source ∷ []) other ≡ slice_get plan.sources other = slice_get-push_before plan.sources source other has in
        let e = element_of_source plan other in
        let was : place_at plan e (Source other) ≡ Some (kept_place before (Source other)) = wired.places_kept (Source other) has (rw there at nominated) in
        let still : slice_index after.source_places.items other ≡ slice_index before.source_places.items other
        = ap (λ places. slice_index places other) has_source.source_places
        ∙ get_or_append_left before.source_places.items (place ∷ []) 0 other (omega (arith, wired.source_places_counted)) in
        rw (there, still) (kept (Source other) e _ was)

    last : IsTrue (is_nominated_input (with_source plan source) (Source m))
        → place_at (with_source plan source) (element_of_source (with_source plan source) m) (Source m) ≡ Some (kept_place after (Source m))
    last nominated =
        let there : slice_get (plan.sources ++ source ∷ []) m ≡ Some source = slice_get-push_last plan.sources source m refl in
        let e = source.at in
        let own : taken source.at source.priority (Source m) e ≡ Source m ∷ [] = taken-own source.at source.priority (Source m) (rw there at nominated) in
        let at : slice_index after.source_places.items m ≡ place
        = ap (λ places. slice_index places m) has_source.source_places ∙ last-item before.source_places.items place m (sym wired.source_places_counted) in
        rw (there, inputs_of-source plan source e, own, at)
        (place-last (inputs_of plan e) (Source m) (new-placed plan e (Source m) (λ has. absurd (omega (arith, has)))) ∙ ap (λ xs. Some (length xs)) (sym (wired.inputs_kept e)))

    Placed : ℕ → Type 0
    Placed other = IsTrue (is_nominated_input (with_source plan source) (Source other))
        → place_at (with_source plan source) (element_of_source (with_source plan source) other) (Source other) ≡ Some (kept_place after (Source other))

    places : (input : InputId) → IsInput (with_source plan source) input → IsTrue (is_nominated_input (with_source plan source) input)
        → place_at (with_source plan source) (element_of (with_source plan source) input) input ≡ Some (kept_place after input)
    places (Line line) has nominated =
        kept (Line line) (receiver_of plan line.0) _ (wired.places_kept (Line line) has nominated ∙ ap (λ places. Some (slice_index places line.0)) (sym has_source.line_places))
    places (Source other) has nominated = by (cases_lt other m)
      where
        by : (other < m) ⊎ (m ≤ other) → place_at (with_source plan source) (element_of (with_source plan source) (Source other)) (Source other) ≡ Some (kept_place after (Source other))
        by (inl earlier) = old other earlier nominated
        by (inr later) = subst (Placed) (omega (arith, later, has, length-append plan.sources (source ∷ []))) last nominated
