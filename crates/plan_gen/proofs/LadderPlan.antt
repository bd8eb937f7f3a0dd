-- The ladder keeps every rule for plans.
use Rattle.std.proofs.Common.{◌≡◌, ℕ, ◌+◌, ◌-◌, ◌*◌, ◌/◌, ◌%◌, ◌^◌, ◌<◌, ◌≤◌, zero, suc, true, false, ◌&&◌, ◌==◌, List, [], ◌∷◌, ◌++◌, length, map, get_or, drop, Some, slice_get, refl, sym, ap, subst, ◌∙◌, inl, inr, arith, None}
use Rattle.std.specs.Prelude.{◌≢◌, ◌⊎◌, Option, codes, nat_lt, nat_le, if◌then◌else◌}
use Rattle.std.specs.List.{list_all, range_with_len}
use Rattle.std.specs.Str.{bytes_eq, all_ascii_digits}
use Rattle.std.specs.Fmt.{decimal}
use Rattle.std.specs.Char.{is_ascii_digit}
use Rattle.std.proofs.Math.Decide.{dec_lt}
use Rattle.std.proofs.lemmas.Bool.{cases_Bool, true≢false, and_parts, le-leb, eqb-true, both_ways}
use Rattle.std.proofs.lemmas.Bool.Decides.{nat_tests}
use Rattle.std.proofs.lemmas.Slice.Eq.{bytes_eq-Decides}
use Rattle.std.proofs.lemmas.List.FromFn.{length-map-range_with_len}
use Rattle.std.proofs.lemmas.Option.{none-some, same_Some}
use Rattle.std.proofs.lemmas.Fmt.{decimal_injective, length-decimal-le, digits_decimal}
use Rattle.std.proofs.lemmas.Simd.{map-map}
use Rattle.sync_topo.proofs.WellFormedLemmas.{AreDistinct-push}
use Rattle.sync_text.proofs.Decimals.{own}
use Rattle.sync_ql.specs.declared.levels.NetOption.TheVariants.{I}
use Rattle.sync_topo.specs.declared.element.Element.{Element}
use Rattle.sync_topo.specs.declared.link.Link.{Link}
use Rattle.sync_topo.specs.declared.source.Source.{Source}
use Rattle.sync_topo.specs.Topology.{Topology}
use Rattle.sync_topo.specs.Limits.{element_limit}
use Rattle.sync_topo.specs.Names.{is_name, is_name_byte, is_named, element_names, link_names, source_names}
use Rattle.sync_topo.specs.Lines.{link_of, ends_at_b, is_nominated, receiver_of, source_priority, element_of_source, inputs_of}
use Rattle.sync_topo.specs.Bundles.{is_same_bundle}
use Rattle.sync_topo.specs.Rules.{is_bad_bundle_name}
use Rattle.sync_topo.specs.WellFormed.{AreDistinct, IsElementOf, JoinsTwo, IsSourceOf, IsWellFormed}
use Rattle.sync_topo.proofs.KeptRules.{inputs_counted}
use Rattle.plan_gen.specs.Ladder.{numbered, ladder_element, ladder}
use Rattle.plan_gen.proofs.Ranges.{range_at, range_get, list_all-range, list_any-range, AreDistinct-range, filter_range-between}
use Rattle.plan_gen.proofs.LadderLinks.{is_step, top_of, ladder_link, link_is_step, link_is_rail, rail_is_even, step_is_first_or_odd, links_by_number}

-- ---- names

digit_in_name : (c : ℕ) → is_ascii_digit c ≡ true → is_name_byte c ≡ true
digit_in_name c digit = grind (arith, nat_tests)

digits_in_name : (bytes : List ℕ) → all_ascii_digits bytes ≡ true → list_all is_name_byte bytes ≡ true
digits_in_name [] h = refl
digits_in_name (c ∷ bytes) h =
    let parts = and_parts (is_ascii_digit c) (all_ascii_digits bytes) h in
    rw (digit_in_name c parts.0, digits_in_name bytes parts.1) refl

-- a letter and the number of an element are a name
numbered_is_name : (letter j : ℕ) → is_name_byte letter ≡ true → j < element_limit → is_name (numbered (letter ∷ []) j) ≡ true
numbered_is_name letter j letter_fits small =
    let wide : j < 2 ^ 64 = omega arith in
    let short : length (decimal j) ≤ 5 = length-decimal-le 5 j (omega arith) (omega arith) wide in
    let digits : list_all is_name_byte (decimal j) ≡ true = digits_in_name (decimal j) (digits_decimal own j wide) in
    let least : nat_le 1 (length (letter ∷ decimal j)) ≡ true = le-leb 1 (length (letter ∷ decimal j)) (omega arith) in
    let greatest : nat_le (length (letter ∷ decimal j)) 32 ≡ true = le-leb (length (letter ∷ decimal j)) 32 (omega (arith, short)) in
    rw (least, greatest, letter_fits, digits) refl

-- different numbers make different names, and so do different letters
same_number : (a b i j : ℕ) → i < element_limit → j < element_limit → numbered (a ∷ []) i ≡ numbered (b ∷ []) j → i ≡ j
same_number a b i j small_i small_j same = decimal_injective i j (omega arith) (omega arith) (ap (λ bytes. drop 1 bytes) same)

same_letter : (a b i j : ℕ) → numbered (a ∷ []) i ≡ numbered (b ∷ []) j → a ≡ b
same_letter a b i j same = ap (λ bytes. get_or bytes 0 0) same

-- ---- elements

element_fits : (j : ℕ) → IsElementOf I (ladder_element j)
unfolding dec_lt
element_fits j = record {
  own_is_clock_level = record { of_option = refl; above_do_not_use = omega arith };
  floor_is_clock_level = tt;
  least_holdoff = omega arith;
  greatest_holdoff = omega arith;
  whole_minutes = (5, omega arith, refl);
}

pub element_count : (n : ℕ) → length (ladder n).elements ≡ n
element_count n = length-map-range_with_len ladder_element 0 n

pub elements_by_name : (n : ℕ) → element_names (ladder n).elements ≡ map (numbered (codes "E")) (range_with_len 0 n)
elements_by_name n = map-map (λ (element : Element). element.name) ladder_element (range_with_len 0 n)

-- ---- links

-- the letter and the name of link k
abbrev letter_of : ℕ → ℕ
letter_of k = if is_step k then 83 else 82

abbrev link_name : ℕ → List ℕ
link_name k = (ladder_link k).name

link_name_is : (k : ℕ) → link_name k ≡ numbered (letter_of k ∷ []) (top_of k)
link_name_is k = elim (cases_Bool (is_step k)) [
  | inl is_one ↦
      let letter : letter_of k ≡ 83 = rw is_one refl in
      ap (λ (link : Link). link.name) (link_is_step k is_one) ∙ ap (λ c. numbered (c ∷ []) (top_of k)) (sym letter)
  | inr rail_one ↦
      let letter : letter_of k ≡ 82 = rw rail_one refl in
      ap (λ (link : Link). link.name) (link_is_rail k rail_one) ∙ ap (λ c. numbered (c ∷ []) (top_of k)) (sym letter)
]

letter_in_name : (k : ℕ) → is_name_byte (letter_of k) ≡ true
letter_in_name k = elim (cases_Bool (is_step k)) [
  | inl is_one ↦ rw is_one refl
  | inr rail_one ↦ rw rail_one refl
]

letter_is_no_p : (k : ℕ) → letter_of k ≢ 80
letter_is_no_p k = elim (cases_Bool (is_step k)) [
  | inl is_one ↦ rw is_one (λ e. omega (arith, e))
  | inr rail_one ↦ rw rail_one (λ e. omega (arith, e))
]

-- links of one letter to one element are one link
one_link : (i j : ℕ) → letter_of i ≡ letter_of j → top_of i ≡ top_of j → i ≡ j
one_link i j letters tops =
    elim (cases_Bool (is_step i)) [
      | inl step_i ↦ elim (cases_Bool (is_step j)) [
        | inl step_j ↦ steps (step_is_first_or_odd i step_i) (step_is_first_or_odd j step_j)
        | inr rail_j ↦ let apart : 83 ≡ 82 = rw (step_i, rail_j) at letters in absurd (omega (arith, apart))
      ]
      | inr rail_i ↦ elim (cases_Bool (is_step j)) [
        | inl step_j ↦ let apart : 82 ≡ 83 = rw (rail_i, step_j) at letters in absurd (omega (arith, apart))
        | inr rail_j ↦
            let even_i = rail_is_even i rail_i in
            let even_j = rail_is_even j rail_j in
            omega (arith, tops, even_i.1, even_j.1)
      ]
    ]
  where
    steps : (i ≡ 0) ⊎ (i % 2 ≡ 1) → (j ≡ 0) ⊎ (j % 2 ≡ 1) → i ≡ j
    steps (inl a) (inl b) = omega (arith, a, b)
    steps (inl a) (inr b) = omega (arith, a, b, tops)
    steps (inr a) (inl b) = omega (arith, a, b, tops)
    steps (inr a) (inr b) = omega (arith, a, b, tops)

link_names_differ : (m i j : ℕ) → m + 2 ≤ element_limit → i < j → j < 2 * m + 1 → link_name i ≢ link_name j
link_names_differ m i j few before within same =
    let seen : numbered (letter_of i ∷ []) (top_of i) ≡ numbered (letter_of j ∷ []) (top_of j) = sym (link_name_is i) ∙ same ∙ link_name_is j in
    let letters = same_letter (letter_of i) (letter_of j) (top_of i) (top_of j) seen in
    let tops = same_number (letter_of i) (letter_of j) (top_of i) (top_of j) (omega arith) (omega arith) seen in
    let one = one_link i j letters tops in
    absurd (omega (arith, one, before))

links_by_name : (m : ℕ) → link_names (ladder (m + 2)).links ≡ map link_name (range_with_len 0 (2 * m + 1))
links_by_name m = rw (links_by_number m) (map-map (λ (link : Link). link.name) ladder_link (range_with_len 0 (2 * m + 1)))

link_joins : (m k : ℕ) → k < 2 * m + 1 → JoinsTwo (m + 2) (ladder_link k)
link_joins m k within =
    elim (cases_Bool (is_step k)) [
      | inl is_one ↦ rw (link_is_step k is_one) (record {
        a_is_element = omega arith;
        b_is_element = omega arith;
        apart = λ e. omega (arith, e);
        priority_a_fits = omega arith;
        priority_b_fits = omega arith;
        least_delay_a = omega arith;
        greatest_delay_a = omega arith;
        least_delay_b = omega arith;
        greatest_delay_b = omega arith;
      })
      | inr rail_one ↦
          let even = rail_is_even k rail_one in
          rw (link_is_rail k rail_one) (record {
            a_is_element = omega arith;
            b_is_element = omega arith;
            apart = λ e. omega (arith, e, even.0, even.1);
            priority_a_fits = omega arith;
            priority_b_fits = omega arith;
            least_delay_a = omega arith;
            greatest_delay_a = omega arith;
            least_delay_b = omega arith;
            greatest_delay_b = omega arith;
          })
    ]

-- no link is named as a source
no_source_name : (j k : ℕ) → j < 10 → bytes_eq (codes "P" ++ (48 + j) ∷ []) (link_name k) ≡ false
no_source_name j k small =
    elim (cases_Bool (bytes_eq (80 ∷ (48 + j) ∷ []) (link_name k))) [
      | inr differ ↦ differ
      | inl same ↦
          let e : 80 ∷ (48 + j) ∷ [] ≡ link_name k = (bytes_eq-Decides (80 ∷ (48 + j) ∷ []) (link_name k)).0 same in
          let letters : 80 ≡ letter_of k = ap (λ bytes. get_or bytes 0 0) (e ∙ link_name_is k) in
          absurd (letter_is_no_p k (sym letters))
    ]

links_distinct : (m : ℕ) → m + 2 ≤ element_limit → AreDistinct (link_names (ladder (m + 2)).links)
links_distinct m few = rw (links_by_name m) (AreDistinct-range link_name (2 * m + 1) (λ i j before within. link_names_differ m i j few before within))

sources_distinct : (m : ℕ) → AreDistinct (source_names (ladder (m + 2)).sources)
sources_distinct m = AreDistinct-push (codes "P0" ∷ []) (codes "P1") (λ i j before within. absurd (omega (arith, before, within))) refl

no_links : (m j : ℕ) (source : Source) → slice_get (ladder (m + 2)).sources j ≡ Some source → is_named (link_names (ladder (m + 2)).links) source.name ≡ false
no_links m zero source at =
    rw (← same_Some _ source at, links_by_name m) (list_any-range (bytes_eq (codes "P0")) link_name 0 (2 * m + 1) (λ k. no_source_name 0 k (omega arith)))
no_links m (suc zero) source at =
    rw (← same_Some _ source at, links_by_name m) (list_any-range (bytes_eq (codes "P1")) link_name 0 (2 * m + 1) (λ k. no_source_name 1 k (omega arith)))
no_links m (suc (suc j)) source at = absurd (none-some source at)

-- ---- inputs

b_is_top : (k : ℕ) → (ladder_link k).b ≡ top_of k
b_is_top k = elim (cases_Bool (is_step k)) [
  | inl is_one ↦ rw is_one refl
  | inr rail_one ↦ rw rail_one refl
]

priority_a_is_none : (k : ℕ) → (ladder_link k).priority_a ≡ 0
priority_a_is_none k = elim (cases_Bool (is_step k)) [
  | inl is_one ↦ rw is_one refl
  | inr rail_one ↦ rw rail_one refl
]

link_of_line : (m line : ℕ) → line < 2 * (2 * m + 1) → link_of (ladder (m + 2)) line ≡ Some (ladder_link (line / 2))
link_of_line m line within = rw (links_by_number m) (range_get ladder_link (2 * m + 1) (line / 2) (omega arith))

receiver_is_top : (m line : ℕ) → line < 2 * (2 * m + 1) → ends_at_b line ≡ true → receiver_of (ladder (m + 2)) line ≡ top_of (line / 2)
receiver_is_top m line within even = rw (link_of_line m line within, even) (b_is_top (line / 2))

way_down_is_not_nominated : (m line : ℕ) → line < 2 * (2 * m + 1) → ends_at_b line ≡ false → is_nominated (ladder (m + 2)) line ≡ false
way_down_is_not_nominated m line within odd = rw (link_of_line m line within, odd, priority_a_is_none (line / 2)) refl

-- a nominated line into an element is one of the four of the step and the rail up to it
line_leads_up : (m line element : ℕ) → line < 2 * (2 * m + 1)
    → (is_nominated (ladder (m + 2)) line && receiver_of (ladder (m + 2)) line == element) ≡ true
    → (4 * element - 6 ≤ line) × (line < 4 * element - 2)
line_leads_up m line element within both =
    let parts = and_parts (is_nominated (ladder (m + 2)) line) (receiver_of (ladder (m + 2)) line == element) both in
    let at : receiver_of (ladder (m + 2)) line ≡ element = eqb-true (receiver_of (ladder (m + 2)) line) element parts.1 in
    elim (cases_Bool (ends_at_b line)) [
      | inl up ↦
          let even : line % 2 ≡ 0 = eqb-true (line % 2) 0 up in
          let top : top_of (line / 2) ≡ element = sym (receiver_is_top m line within up) ∙ at in
          (omega (arith, even, top), omega (arith, even, top))
      | inr down ↦ absurd (both_ways (is_nominated (ladder (m + 2)) line) (way_down_is_not_nominated m line within down) parts.0)
    ]

link_count : (m : ℕ) → length (ladder (m + 2)).links ≡ 2 * m + 1
link_count m = rw (links_by_number m) (length-map-range_with_len ladder_link 0 (2 * m + 1))

few_inputs : (m element : ℕ) → length (inputs_of (ladder (m + 2)) element) ≤ 64
few_inputs m element =
    let plan : Topology = ladder (m + 2) in
    let lines = filter_range-between (λ line. is_nominated plan line && receiver_of plan line == element) (4 * element - 6) (4 * element - 2) 0 (2 * length plan.links)
    (λ line inside passes. line_leads_up m line element (omega (arith, inside, link_count m)) passes) in
    let sources = filter_range-between (λ source. nat_lt 0 (source_priority plan source) && element_of_source plan source == element) 0 2 0 2
    (λ source inside passes. (omega arith, omega (arith, inside))) in
    omega (arith, inputs_counted plan element, lines.0, sources.0)

-- ---- sources

source_fits : (m j : ℕ) (source : Source) → slice_get (ladder (m + 2)).sources j ≡ Some source → IsSourceOf I (length (ladder (m + 2)).elements) source
unfolding dec_lt
source_fits m zero source at =
    subst (IsSourceOf I (length (ladder (m + 2)).elements)) (same_Some _ source at)
    (record { at_is_element = omega (arith, element_count (m + 2)); of_option = refl; priority_fits = omega arith })
source_fits m (suc zero) source at =
    subst (IsSourceOf I (length (ladder (m + 2)).elements)) (same_Some _ source at)
    (record { at_is_element = omega (arith, element_count (m + 2)); of_option = refl; priority_fits = omega arith })
source_fits m (suc (suc j)) source at = absurd (none-some source at)

-- ---- the whole

-- no link names a bundle
no_bundle : (m k : ℕ) (link : Link) → slice_get (ladder (m + 2)).links k ≡ Some link → link.bundle ≡ None
no_bundle m k link at =
    let made = range_at ladder_link (2 * m + 1) k link (rw (links_by_number m) at at) in
    ap (λ (l : Link). l.bundle) (sym made.1) ∙ none k
  where
    none : (k : ℕ) → (ladder_link k).bundle ≡ None
    none k = elim (cases_Bool (is_step k)) [
      | inl is_one ↦ rw is_one refl
      | inr rail_one ↦ rw rail_one refl
    ]

unnamed : (m k : ℕ) (link : Link) → slice_get (ladder (m + 2)).links k ≡ Some link → is_bad_bundle_name link.bundle ≡ false
unnamed m k link at = rw (no_bundle m k link at) refl

from_two : (m : ℕ) → m + 2 ≤ element_limit → IsWellFormed (ladder (m + 2))
from_two m few = record {
  few_elements = omega (arith, element_count (m + 2));
  few_links = omega (arith, link_count m);
  few_sources = omega arith;
  elements_named = rw (elements_by_name (m + 2)) (list_all-range is_name (numbered (codes "E")) 0 (m + 2) (λ j inside. numbered_is_name 69 j refl (omega (arith, inside))));
  elements_distinct = rw (elements_by_name (m + 2)) (AreDistinct-range (numbered (codes "E")) (m + 2)
      (λ i j before within same. absurd (omega (arith, before, same_number 69 69 i j (omega (arith, before, within)) (omega (arith, within)) same))));
  elements_fit = λ e element at. subst (IsElementOf I) (range_at ladder_element (m + 2) e element at).1 (element_fits e);
  links_named = rw (links_by_name m) (list_all-range is_name link_name 0 (2 * m + 1)
      (λ k inside. rw (link_name_is k) (numbered_is_name (letter_of k) (top_of k) (letter_in_name k) (omega (arith, inside)))));
  links_join = λ k link at.
      let made = range_at ladder_link (2 * m + 1) k link (rw (links_by_number m) at at) in
      rw (element_count (m + 2)) (subst (JoinsTwo (m + 2)) made.1 (link_joins m k made.0));
  bundles_named = λ k link at. unnamed m k link at;
  bundles_join = λ i j one other at_i at_j same. absurd (true≢false (sym (ap (λ (b : Option (List ℕ)). is_same_bundle b other.bundle) (sym (no_bundle m i one at_i)) ∙ same)));
  sources_named = refl;
  links_distinct = links_distinct m few;
  sources_distinct = sources_distinct m;
  sources_are_no_links = no_links m;
  sources_fit = source_fits m;
  few_inputs = few_inputs m;
}

-- the ladder of any number of elements that a plan may have keeps every rule
pub IsWellFormed-ladder : (n : ℕ) → 2 ≤ n → n ≤ element_limit → IsWellFormed (ladder n)
IsWellFormed-ladder n low high =
    let e : n - 2 + 2 ≡ n = omega (arith, low) in
    subst (λ count. IsWellFormed (ladder count)) e (from_two (n - 2) (omega (arith, high)))
