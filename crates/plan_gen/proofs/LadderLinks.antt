-- The links of the ladder by their numbers.
use Rattle.std.proofs.Common.{◌≡◌, ℕ, ◌+◌, ◌*◌, ◌/◌, ◌%◌, ◌<◌, zero, suc, Bool, true, false, ◌||◌, ◌==◌, List, [], ◌∷◌, ◌++◌, map, refl, sym, ap, ◌∙◌, inl, inr, arith, append_assoc}
use Rattle.std.specs.Prelude.{◌⊎◌, flat_map, if◌then◌else◌}
use Rattle.std.specs.List.{range_with_len}
use Rattle.std.proofs.lemmas.Bool.{ne_eqb, or_cases, or_parts, eqb-true, eqb-false}
use Rattle.std.proofs.lemmas.List.{map-append}
use Rattle.std.proofs.lemmas.Grind.{flat_map-append}
use Rattle.sync_topo.specs.declared.link.Link.{Link}
use Rattle.plan_gen.specs.Ladder.{step, rail, links_up_to}
use Rattle.sync_text.proofs.Ranges.{range_more}

-- link k is a step where k is 0 or odd
abbrev pub is_step : ℕ → Bool
is_step k = k == 0 || k % 2 == 1

-- the element that link k goes up to
abbrev pub top_of : ℕ → ℕ
top_of k = (k + 3) / 2

abbrev pub ladder_link : ℕ → Link
ladder_link k = if is_step k then step (top_of k) else rail (top_of k)

pub link_is_step : (k : ℕ) → is_step k ≡ true → ladder_link k ≡ step (top_of k)
link_is_step k h = rw h refl

pub link_is_rail : (k : ℕ) → is_step k ≡ false → ladder_link k ≡ rail (top_of k)
link_is_rail k h = rw h refl

odd_is_step : (k : ℕ) → k % 2 ≡ 1 → is_step k ≡ true
odd_is_step k odd = rw (odd, ne_eqb k 0 (λ z. omega (arith, z, odd))) refl

even_is_rail : (k : ℕ) → 0 < k → k % 2 ≡ 0 → is_step k ≡ false
even_is_rail k some even = rw (even, ne_eqb k 0 (λ z. omega (arith, z, some))) refl

-- a rail goes up to element 2 or a later one
pub rail_is_even : (k : ℕ) → is_step k ≡ false → (0 < k) × (k % 2 ≡ 0)
rail_is_even k h =
    let parts = or_parts (k == 0) (k % 2 == 1) h in
    let some = eqb-false k 0 parts.0 in
    let even = eqb-false (k % 2) 1 parts.1 in
    (omega (arith, some), omega (arith, even))

pub step_is_first_or_odd : (k : ℕ) → is_step k ≡ true → (k ≡ 0) ⊎ (k % 2 ≡ 1)
step_is_first_or_odd k h = elim (or_cases (k == 0) (k % 2 == 1) h) [
  | inl first ↦ inl (eqb-true k 0 first)
  | inr odd ↦ inr (eqb-true (k % 2) 1 odd)
]

two_more : (m : ℕ) → links_up_to (m + 2) ≡ step (m + 2) ∷ rail (m + 2) ∷ []
two_more m =
    let e : m + 2 ≡ suc (suc m) = omega arith in
    rw e refl

-- the links of m + 2 elements are those of these numbers
pub links_by_number : (m : ℕ) → flat_map links_up_to (range_with_len 0 (m + 2)) ≡ map ladder_link (range_with_len 0 (2 * m + 1))
links_by_number zero = refl
links_by_number (suc m) =
    let before : List Link = map ladder_link (range_with_len 0 (2 * m + 1)) in
    let more : suc m + 2 ≡ m + 2 + 1 = omega arith in
    let twice : 2 * suc m + 1 ≡ 2 * m + 1 + 1 + 1 = omega arith in
    let left : flat_map links_up_to (range_with_len 0 (suc m + 2)) ≡ before ++ step (m + 2) ∷ rail (m + 2) ∷ []
    = rw (more, range_more (m + 2), flat_map-append links_up_to (range_with_len 0 (m + 2)) ((m + 2) ∷ []), links_by_number m, two_more m) refl in
    let odd : is_step (2 * m + 1) ≡ true = odd_is_step (2 * m + 1) (omega arith) in
    let even : is_step (2 * m + 1 + 1) ≡ false = even_is_rail (2 * m + 1 + 1) (omega arith) (omega arith) in
    let top_odd : top_of (2 * m + 1) ≡ m + 2 = omega arith in
    let top_even : top_of (2 * m + 1 + 1) ≡ m + 2 = omega arith in
    let first : ladder_link (2 * m + 1) ≡ step (m + 2) = link_is_step (2 * m + 1) odd ∙ ap step top_odd in
    let second : ladder_link (2 * m + 1 + 1) ≡ rail (m + 2) = link_is_rail (2 * m + 1 + 1) even ∙ ap rail top_even in
    let right : map ladder_link (range_with_len 0 (2 * suc m + 1)) ≡ (before ++ step (m + 2) ∷ []) ++ rail (m + 2) ∷ []
    = rw (
      twice,
      range_more (2 * m + 1 + 1),
      map-append ladder_link (range_with_len 0 (2 * m + 1 + 1)) ((2 * m + 1 + 1) ∷ []),
      range_more (2 * m + 1),
      map-append ladder_link (range_with_len 0 (2 * m + 1)) ((2 * m + 1) ∷ []),
      first,
      second,
    ) refl in
    left ∙ sym (append_assoc before (step (m + 2) ∷ []) (rail (m + 2) ∷ [])) ∙ sym right
