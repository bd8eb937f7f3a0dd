-- A network that goes back to what another keeps.
use Rattle.std.proofs.Common.{◌≡◌, ◌≢◌, ◌≤◌, ◌<◌, ◌+◌, ◌-◌, ◌⊎◌, ℕ, Bool, true, false, List, [], ◌∷◌, Option, None, length, set, drop, refl, ap, sym, subst, ◌∙◌, inl, inr, arith, length-set, get_or-set_other}
use Rattle.std.specs.Prelude.{nat_eq, slice_index, slice_index_or, option_and_then}
use Rattle.std.specs.List.{list_any, All}
use Rattle.std.proofs.Math.Decide.{dec_lt}
use Rattle.std.proofs.lemmas.Bool.{or_from}
use Rattle.std.proofs.lemmas.Bool.Decides.{eqb_tells, nat_tests}
use Rattle.std.proofs.lemmas.List.{get_or-set_same, ext_get_or, drop_all}
use Rattle.std.proofs.lemmas.List.Folds.{list_any_none}
use Rattle.agenda.specs.DueTimes.{due_in}
use Rattle.agenda.proofs.MarkedPlaces.{to_come}
use Rattle.sync_element.specs.ElementState.{ElementState}
use Rattle.sync_topo.specs.Topology.{Topology}
use Rattle.sync_topo.specs.Lines.{line_count}
use Rattle.sync_net.specs.declared.parts.NetParts.{NetParts}
use Rattle.sync_net.specs.private.Whole.{IsWhole}
use Rattle.sync_net.specs.private.Copied.{AreSameBut, AreRenewed, IsElementDue, IsLineDue}
use Rattle.sync_net.proofs.QuietGap.{some_element}

-- lists of one length that have the same at each place are one
pub same_lists : {A : Type 0} (xs ys : List A) → length xs ≡ length ys → ((k : ℕ) (other : A) → k < length ys → slice_index_or xs k other ≡ slice_index_or ys k other) → xs ≡ ys
same_lists [] [] count same = refl
same_lists [] (y ∷ ys) count same = absurd (omega (arith, count))
same_lists (x ∷ xs) [] count same = absurd (omega (arith, count))
same_lists (x ∷ xs) (y ∷ ys) count same = ext_get_or x (x ∷ xs) (y ∷ ys) count (λ k within. same k x (omega (arith, within, count)))

-- one more place has what the other list has there
pub same_but_next : {A : Type 0} (places : List ℕ) (i : ℕ) (xs ys : List A) (x : A) → i < length places → slice_index places i < length ys
    → ((other : A) → x ≡ slice_index_or ys (slice_index places i) other) → AreSameBut (drop i places) xs ys
    → AreSameBut (drop (i + 1) places) (set xs (slice_index places i) x) ys
same_but_next {A} places i xs ys x inside within is but = record {
  count = length-set xs (slice_index places i) x ∙ but.count;
  same = λ k other here none. at k other here none (eqb_tells k (slice_index places i));
}
  where
    at : (k : ℕ) (other : A) → k < length ys → list_any (nat_eq k) (drop (i + 1) places) ≡ false
        → ((nat_eq k (slice_index places i) ≡ true) × (k ≡ slice_index places i)) ⊎ ((nat_eq k (slice_index places i) ≡ false) × (k ≢ slice_index places i))
        → slice_index_or (set xs (slice_index places i) x) k other ≡ slice_index_or ys k other
    at k other here none tells = elim tells [
      | inl same ↦ ap (λ j. slice_index_or (set xs (slice_index places i) x) j other) same.1
          ∙ get_or-set_same xs (slice_index places i) x other (omega (arith, within, but.count)) ∙ is other
          ∙ ap (λ j. slice_index_or ys j other) (sym same.1)
      | inr apart ↦ get_or-set_other xs (slice_index places i) k x other apart.1
          ∙ but.same k other here (to_come k i places inside ∙ or_from (nat_eq k (slice_index places i)) (list_any (nat_eq k) (drop (i + 1) places)) apart.0 none)
    ]

-- and after the last place the lists are one
pub same_but_none : {A : Type 0} (places : List ℕ) (i : ℕ) (xs ys : List A) → length places ≤ i → AreSameBut (drop i places) xs ys → xs ≡ ys
same_but_none places i xs ys done but =
    same_lists xs ys but.count (λ k other within. but.same k other within (ap (list_any (nat_eq k)) (drop_all i places done)))

-- what is beyond all places of a list isn't one of them
beyond_places : (places : List ℕ) (n k : ℕ) → All (λ e. e < n) places → n ≤ k → list_any (nat_eq k) places ≡ false
beyond_places places n k within beyond = list_any_none (nat_eq k) places (λ j d inside. not_place k (slice_index_or places j d) (omega (arith, within j d inside, beyond)))
  where
    not_place : (k e : ℕ) → e < k → nat_eq k e ≡ false
    not_place k e low = grind (arith, nat_tests)

-- once the due times of all elements and lines that differ are renewed, all are those of the other
module _ (plan : Topology) (before base : NetParts) (elements lines : List ℕ) (between after : List (Option ℕ)) (whole : IsWhole plan before) (base_whole : IsWhole plan base)
    (elements_within : All (λ e. e < length base.elements.items) elements)
    (elements_same : AreSameBut elements before.elements.items base.elements.items) (lines_same : AreSameBut lines before.lines.items base.lines.items)
    (first : AreRenewed 0 elements (IsElementDue base.elements.items) before.dues between)
    (second : AreRenewed (length plan.elements) lines (IsLineDue base.lines.items) between after) where
  element_left : (k : ℕ) → list_any (nat_eq k) elements ≡ false → due_in between k ≡ due_in before.dues k
  element_left k none =
      let zero_is : 0 + k ≡ k = omega arith in
      ap (due_in between) (sym zero_is) ∙ first.left k none ∙ ap (due_in before.dues) zero_is

  element_renewed : (k : ℕ) → list_any (nat_eq k) elements ≡ true → IsElementDue base.elements.items k (due_in between k)
  element_renewed k listed =
      let zero_is : 0 + k ≡ k = omega arith in
      subst (λ j. IsElementDue base.elements.items k (due_in between j)) zero_is (first.renewed k listed)

  element_back : (e : ℕ) → e < length plan.elements → due_in after e ≡ due_in base.dues e
  element_back e within = second.earlier e within ∙ by (list_any (nat_eq e) elements) refl
    where
      other : ElementState
      other = some_element plan

      by : (listed : Bool) → list_any (nat_eq e) elements ≡ listed → due_in between e ≡ due_in base.dues e
      by true is = element_renewed e is other ∙ sym (base_whole.element_dues e other within)
      by false is =
          element_left e is ∙ whole.element_dues e other within
          ∙ ap (λ s. s.due) (elements_same.same e other (omega (arith, within, base_whole.elements_count)) is) ∙ sym (base_whole.element_dues e other within)

  line_back : (l : ℕ) → l < line_count plan → due_in after (length plan.elements + l) ≡ due_in base.dues (length plan.elements + l)
  line_back l within = by (list_any (nat_eq l) lines) refl
    where
      apart : list_any (nat_eq (length plan.elements + l)) elements ≡ false
      apart = beyond_places elements (length base.elements.items) (length plan.elements + l) elements_within (omega (arith, base_whole.elements_count))

      by : (listed : Bool) → list_any (nat_eq l) lines ≡ listed → due_in after (length plan.elements + l) ≡ due_in base.dues (length plan.elements + l)
      by true is = second.renewed l is ∙ sym (base_whole.line_dues l within)
      by false is =
          second.left l is ∙ element_left (length plan.elements + l) apart ∙ whole.line_dues l within
          ∙ ap (option_and_then (λ state. state.due)) (lines_same.same l None (omega (arith, within, base_whole.lines_count)) is) ∙ sym (base_whole.line_dues l within)

  pub dues_back : after ≡ base.dues
  dues_back = ext_get_or None after base.dues count (λ k within. at k within (dec_lt k (length plan.elements)))
    where
      count : length after ≡ length base.dues
      count = second.count ∙ first.count ∙ whole.dues_count ∙ sym base_whole.dues_count

      at : (k : ℕ) → k < length after → Dec (k < length plan.elements) → due_in after k ≡ due_in base.dues k
      at k within (yes low) = element_back k low
      at k within (no high) =
          let l : ℕ = k - length plan.elements in
          let split : length plan.elements + l ≡ k = omega (arith, high) in
          subst (λ j. due_in after j ≡ due_in base.dues j) split (line_back l (omega (arith, split, within, count, base_whole.dues_count)))
