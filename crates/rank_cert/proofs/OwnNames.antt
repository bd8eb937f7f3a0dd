-- A line is found by its own name.
use Rattle.std.proofs.Common.{◌≡◌, ℕ, ◌/◌, ◌%◌, ◌<◌, zero, suc, Bool, true, false, List, [], ◌∷◌, ◌++◌, length, map, Some, slice_get, refl, ap, sym, ◌∙◌, inl, inr, arith, append_assoc}
use Rattle.std.specs.Prelude.{◌≢◌, if◌then◌else◌}
use Rattle.std.specs.List.{list_all}
use Rattle.std.specs.Str.{bytes_eq}
use Rattle.std.proofs.lemmas.Bool.{cases_lt, and_parts, true≢false}
use Rattle.std.proofs.lemmas.Bool.Decides.{eqb_tells}
use Rattle.std.proofs.lemmas.Option.{slice_get_within, slice_get-map, same_Some, none-some}
use Rattle.std.proofs.lemmas.Slice.Eq.{bytes_eq-Decides}
use Rattle.sync_text.proofs.Ranges.{find_range-first}
use Rattle.sync_topo.proofs.Lists.{item_at}
use Rattle.sync_topo.specs.declared.link.Link.{Link}
use Rattle.sync_topo.specs.Topology.{Topology}
use Rattle.sync_topo.specs.Lines.{line_count, receiver_of, line_name, line_of_name, element_name, ends_at_b}
use Rattle.sync_topo.specs.Names.{is_name, is_name_byte}
use Rattle.sync_topo.specs.WellFormed.{IsWellFormed, AreDistinct}

-- what passes all items passes each
pub passes_at : {A : Type 0} (test : A → Bool) (xs : List A) (n : ℕ) (x : A) → list_all test xs ≡ true → slice_get xs n ≡ Some x → test x ≡ true
passes_at test [] n x all at = absurd (none-some x at)
passes_at test (y ∷ ys) zero x all at = rw (← same_Some y x at) (and_parts _ _ all).0
passes_at test (y ∷ ys) (suc n) x all at = passes_at test ys n x (and_parts _ _ all).1 at

-- the sign >, whose code is 62, stands in no name
sign_is_none : (byte : ℕ) → is_name_byte byte ≡ true → (byte ≡ 62) → ⊥
sign_is_none byte named same = let never : false ≡ true = rw same at named in true≢false (sym never)

-- bytes are cut at their first sign in one way only
cut_once : (front other back rest : List ℕ) → list_all is_name_byte front ≡ true → list_all is_name_byte other ≡ true → front ++ 62 ∷ back ≡ other ++ 62 ∷ rest
    → (front ≡ other) × (back ≡ rest)
cut_once [] [] back rest f g e = (refl, cc)
cut_once [] (x ∷ other) back rest f g e = let sign : 62 ≡ x = cc in absurd (sign_is_none x (and_parts _ _ g).0 (sym sign))
cut_once (x ∷ front) [] back rest f g e = let sign : x ≡ 62 = cc in absurd (sign_is_none x (and_parts _ _ f).0 sign)
cut_once (x ∷ front) (y ∷ other) back rest f g e =
    let same : x ≡ y = cc in
    let tails : front ++ 62 ∷ back ≡ other ++ 62 ∷ rest = cc in
    let parts = cut_once front other back rest (and_parts _ _ f).1 (and_parts _ _ g).1 tails in
    let fronts : x ∷ front ≡ y ∷ other = rw (same, parts.0) refl in
    (fronts, parts.1)

-- distinct names stand at one place each
same_place : (names : List (List ℕ)) (i j : ℕ) → AreDistinct names → i < length names → j < length names → slice_get names i ≡ slice_get names j → i ≡ j
same_place names i j distinct within inside same = elim (cases_lt i j) [
  | inl before ↦ absurd (distinct i j before inside same)
  | inr not_before ↦ elim (cases_lt j i) [
    | inl after ↦ absurd (distinct j i after within (sym same))
    | inr not_after ↦ omega (arith, not_before, not_after)
  ]
]

-- a line of a plan with its link
pub record HasNamedLink (plan : Topology) (line : ℕ) : Type 0 where
  pub link : Link
  pub at : slice_get plan.links (line / 2) ≡ Some link
  pub named_at : slice_get (map (λ link. link.name) plan.links) (line / 2) ≡ Some link.name
  pub named : list_all is_name_byte link.name ≡ true
  pub whole : line_name plan line ≡ link.name ++ 62 ∷ element_name plan (receiver_of plan line)
  pub apart : link.a ≢ link.b
  pub to : receiver_of plan line ≡ (if ends_at_b line then link.b else link.a)
  pub is_element : receiver_of plan line < length plan.elements

pub has-named-link : (plan : Topology) (line : ℕ) → IsWellFormed plan → line < line_count plan → HasNamedLink plan line
has-named-link plan line well within =
    let there = item_at plan.links (line / 2) (omega arith) in
    let joins = well.links_join (line / 2) there.0 there.1 in
    let to : receiver_of plan line ≡ (if ends_at_b line then there.0.b else there.0.a) = rw there.1 refl in
    let named : slice_get (map (λ link. link.name) plan.links) (line / 2) ≡ Some there.0.name = slice_get-map (λ link. link.name) plan.links (line / 2) ∙ rw there.1 refl in
    let good : is_name there.0.name ≡ true = passes_at is_name (map (λ link. link.name) plan.links) (line / 2) there.0.name well.links_named named in
    record {
      link = there.0;
      at = there.1;
      named_at = named;
      named = (and_parts _ _ good).1;
      whole = rw there.1 (append_assoc there.0.name (62 ∷ []) _);
      apart = joins.apart;
      to = to;
      is_element = rw to (inside (ends_at_b line) there.0.a there.0.b joins.a_is_element joins.b_is_element);
    }
  where
    inside : (b : Bool) (x y : ℕ) → x < length plan.elements → y < length plan.elements → (if b then y else x) < length plan.elements
    inside true x y first second = second
    inside false x y first second = first

-- an element's name stands at its place
pub element_named : (plan : Topology) (element : ℕ) → element < length plan.elements → slice_get (map (λ e. e.name) plan.elements) element ≡ Some (element_name plan element)
element_named plan element within =
    let there = item_at plan.elements element within in
    slice_get-map (λ e. e.name) plan.elements element ∙ rw there.1 refl

-- two lines with one name are one line
pub same-line : (plan : Topology) (line other : ℕ) → IsWellFormed plan → line < line_count plan → other < line_count plan → line_name plan line ≡ line_name plan other → line ≡ other
same-line plan line other well within inside same = by_ends a b half parts.1
  where
    a : HasNamedLink plan line
    a = has-named-link plan line well within

    b : HasNamedLink plan other
    b = has-named-link plan other well inside

    parts : (a.link.name ≡ b.link.name) × (element_name plan (receiver_of plan line) ≡ element_name plan (receiver_of plan other))
    parts = cut_once a.link.name b.link.name _ _ a.named b.named (sym a.whole ∙ same ∙ b.whole)

    half : line / 2 ≡ other / 2
    half =
        same_place (map (λ link. link.name) plan.links) (line / 2) (other / 2) well.links_distinct
        (slice_get_within (map (λ link. link.name) plan.links) (line / 2) a.link.name a.named_at)
        (slice_get_within (map (λ link. link.name) plan.links) (other / 2) b.link.name b.named_at)
        (a.named_at ∙ ap Some parts.0 ∙ sym b.named_at)

    receivers : element_name plan (receiver_of plan line) ≡ element_name plan (receiver_of plan other) → receiver_of plan line ≡ receiver_of plan other
    receivers named =
        let first = element_named plan (receiver_of plan line) a.is_element in
        let second = element_named plan (receiver_of plan other) b.is_element in
        same_place (map (λ e. e.name) plan.elements) (receiver_of plan line) (receiver_of plan other) well.elements_distinct
        (slice_get_within (map (λ e. e.name) plan.elements) (receiver_of plan line) _ first)
        (slice_get_within (map (λ e. e.name) plan.elements) (receiver_of plan other) _ second)
        (first ∙ ap Some named ∙ sym second)

    by_ends : (x : HasNamedLink plan line) (y : HasNamedLink plan other) → line / 2 ≡ other / 2 → element_name plan (receiver_of plan line) ≡ element_name plan (receiver_of plan other) → line ≡ other
    by_ends x y halves named =
        let one : x.link ≡ y.link = same_Some x.link y.link (sym x.at ∙ ap (slice_get plan.links) halves ∙ y.at) in
        let ends : (if ends_at_b line then x.link.b else x.link.a) ≡ (if ends_at_b other then y.link.b else y.link.a) = sym x.to ∙ receivers named ∙ y.to in
        elim (eqb_tells (line % 2) 0) [
          | inl even ↦ elim (eqb_tells (other % 2) 0) [
            | inl too ↦ omega (arith, even.1, too.1, halves)
            | inr odd ↦ let wrong : x.link.b ≡ y.link.a = rw (even.0, odd.0) at ends in absurd (y.apart (sym (rw one at wrong)))
          ]
          | inr odd ↦ elim (eqb_tells (other % 2) 0) [
            | inl even ↦ let wrong : x.link.a ≡ y.link.b = rw (odd.0, even.0) at ends in absurd (y.apart (rw one at wrong))
            | inr too ↦ omega (arith, odd.1, too.1, halves)
          ]
        ]

-- a line is found by its own name
pub own-name : (plan : Topology) (line : ℕ) → IsWellFormed plan → line < line_count plan → line_of_name plan (line_name plan line) ≡ Some line
own-name plan line well within =
    find_range-first (λ l. bytes_eq (line_name plan l) (line_name plan line)) 0 (line_count plan) line (omega arith) (omega (arith, within))
    ((bytes_eq-Decides (line_name plan line) (line_name plan line)).1 refl)
    (λ l low before. is_false (bytes_eq (line_name plan l) (line_name plan line)) (λ same.
    let one = same-line plan l line well (omega (arith, before, within)) within ((bytes_eq-Decides (line_name plan l) (line_name plan line)).0 same) in
    omega (arith, before, one)))
  where
    is_false : (b : Bool) → (b ≡ true → ⊥) → b ≡ false
    is_false true never = absurd (never refl)
    is_false false never = refl

all-append : (test : ℕ → Bool) (xs ys : List ℕ) → list_all test xs ≡ true → list_all test ys ≡ true → list_all test (xs ++ ys) ≡ true
all-append test [] ys first second = second
all-append test (x ∷ xs) ys first second = let parts = and_parts (test x) (list_all test xs) first in rw parts.0 (all-append test xs ys parts.1 second)

-- what passes a test passes a weaker one
pub all-weaker : (test weaker : ℕ → Bool) → ((x : ℕ) → test x ≡ true → weaker x ≡ true) → (xs : List ℕ) → list_all test xs ≡ true → list_all weaker xs ≡ true
all-weaker test weaker implies [] all = refl
all-weaker test weaker implies (x ∷ xs) all = let parts = and_parts (test x) (list_all test xs) all in rw (implies x parts.0) (all-weaker test weaker implies xs parts.1)

-- a line's name is bytes of names and the sign >
pub line_name-all : (plan : Topology) (line : ℕ) (test : ℕ → Bool) → IsWellFormed plan → line < line_count plan → ((byte : ℕ) → is_name_byte byte ≡ true → test byte ≡ true) → test 62 ≡ true
    → list_all test (line_name plan line) ≡ true
line_name-all plan line test well within implies sign =
    let own = has-named-link plan line well within in
    let element : list_all is_name (map (λ e. e.name) plan.elements) ≡ true = well.elements_named in
    let good : is_name (element_name plan (receiver_of plan line)) ≡ true
    = passes_at is_name (map (λ e. e.name) plan.elements) (receiver_of plan line) _ element (element_named plan (receiver_of plan line) own.is_element) in
    let front = all-weaker is_name_byte test implies own.link.name own.named in
    let back = all-weaker is_name_byte test implies (element_name plan (receiver_of plan line)) (and_parts _ _ good).1 in
    rw own.whole (all-append test own.link.name (62 ∷ element_name plan (receiver_of plan line)) front (rw sign back))
