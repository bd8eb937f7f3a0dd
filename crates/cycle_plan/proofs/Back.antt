-- Going back from line to line: over any test of hops.
use Rattle.std.proofs.Common.{◌≡◌, ℕ, ◌+◌, ◌-◌, ◌<◌, ◌≤◌, zero, suc, Bool, true, false, nat_lt, refl, sym, subst, ◌∙◌, inl, inr, arith}
use Rattle.std.specs.Prelude.{◌≢◌, ◌⊎◌, if◌then◌else◌}
use Rattle.std.proofs.lemmas.Bool.{cases_lt, cases_eq, ltb-true, ltb-false}
use Rattle.sync_topo.specs.Ranks.{HopTest, IsBefore, StepsBack}

-- the line before a line is one line
pub before_same : (hop : HopTest) (line one other : ℕ) → IsBefore hop one line → IsBefore hop other line → one ≡ other
before_same hop line one other first second =
    let low = first.lowest other second.residue second.hops in
    let high = second.lowest one first.residue first.hops in
    omega (arith, low, high)

-- so many steps lead to one line
pub back_same : (hop : HopTest) (steps line one other : ℕ) → StepsBack hop steps line one → StepsBack hop steps line other → one ≡ other
back_same hop zero line one other first second = sym first ∙ second
back_same hop (suc steps) line one other first second =
    let same = back_same hop steps line first.0 second.0 first.1 second.1 in
    before_same hop second.0 one other (subst (λ after. IsBefore hop one after) same first.2) second.2

-- the same number of steps, written otherwise
pub back_at : (hop : HopTest) (steps same line back : ℕ) → steps ≡ same → StepsBack hop steps line back → StepsBack hop same line back
back_at hop steps same line back e taken = subst (λ n. StepsBack hop n line back) e taken

-- steps after steps
pub back_add : (hop : HopTest) (more steps line middle back : ℕ) → StepsBack hop steps line middle → StepsBack hop more middle back → StepsBack hop (steps + more) line back
back_add hop zero steps line middle back first second =
    back_at hop steps (steps + zero) line back (omega arith) (subst (λ l. StepsBack hop steps line l) second first)
back_add hop (suc more) steps line middle back first second =
    back_at hop (suc (steps + more)) (steps + suc more) line back (omega arith)
    (second.0, back_add hop more steps line middle second.0 first second.1, second.2)

-- the line after the first of so many steps
pub back_split : (hop : HopTest) (more steps line back : ℕ) → StepsBack hop (steps + more) line back
    → (middle : ℕ) × StepsBack hop steps line middle × StepsBack hop more middle back
back_split hop zero steps line back taken = (back, back_at hop (steps + zero) steps line back (omega arith) taken, refl)
back_split hop (suc more) steps line back taken =
    let last : StepsBack hop (suc (steps + more)) line back = back_at hop (steps + suc more) (suc (steps + more)) line back (omega arith) taken in
    let rest = back_split hop more steps line last.0 last.1 in
    (rest.0, rest.1, (last.0, rest.2, last.2))

-- what follows the first steps to a line
pub back_rest : (hop : HopTest) (more steps line middle back : ℕ) → StepsBack hop steps line middle → StepsBack hop (steps + more) line back → StepsBack hop more middle back
back_rest hop more steps line middle back first taken =
    let split = back_split hop more steps line back taken in
    subst (λ l. StepsBack hop more l back) (back_same hop steps line split.0 middle split.1 first) split.2

-- from a line that so many steps lead back to, any steps lead to such a line
pub round_kept : (hop : HopTest) (round steps line back : ℕ) → StepsBack hop round line line → StepsBack hop steps line back → StepsBack hop round back back
round_kept hop round steps line back around taken =
    let both : StepsBack hop (steps + round) line back =
    back_at hop (round + steps) (steps + round) line back (omega arith) (back_add hop steps round line line back around taken) in
    back_rest hop round steps line back back taken both

-- a value at one of the first places, or at none
found_or_not : (f : ℕ → ℕ) (value n : ℕ) → ((i : ℕ) × (i ≤ n) × (f i ≡ value)) ⊎ ((i : ℕ) → i ≤ n → f i ≢ value)
found_or_not f value zero = elim (cases_eq (f 0) value) [
  | inl same ↦ inl (0, omega arith, same)
  | inr differs ↦ inr (λ i low. subst (λ k. f k ≢ value) (omega (arith, low)) differs)
]
found_or_not f value (suc n) = elim (found_or_not f value n) [
  | inl found ↦ inl (found.0, omega (arith, found.1), found.2)
  | inr never ↦ elim (cases_eq (f (suc n)) value) [
    | inl same ↦ inl (suc n, omega arith, same)
    | inr differs ↦ inr (λ i low. elim (cases_lt i (suc n)) [
      | inl before ↦ never i (omega arith)
      | inr last ↦ subst (λ k. f k ≢ value) (omega (arith, low, last)) differs
    ])
  ]
]

-- a number without its place above the value
abbrev squeezed : ℕ → ℕ → ℕ
squeezed value n = if nat_lt value n then n - 1 else n

squeezed-below : (value n limit : ℕ) → n ≢ value → value < suc limit → n < suc limit → squeezed value n < limit
squeezed-below value n limit differs value_low low = cases (nat_lt value n) refl
  where
    cases : (b : Bool) → nat_lt value n ≡ b → (if b then n - 1 else n) < limit
    cases true above = let less = ltb-true _ _ above in omega (arith, less, low)
    cases false not_above = let more = ltb-false _ _ not_above in omega (arith, more, differs, value_low)

squeezed-same : (value m n : ℕ) → m ≢ value → n ≢ value → squeezed value m ≡ squeezed value n → m ≡ n
squeezed-same value m n differs other_differs same = cases (nat_lt value m) (nat_lt value n) refl refl same
  where
    cases : (b c : Bool) → nat_lt value m ≡ b → nat_lt value n ≡ c → (if b then m - 1 else m) ≡ (if c then n - 1 else n) → m ≡ n
    cases true true e f equal = let less = ltb-true _ _ e in let more = ltb-true _ _ f in omega (arith, less, more, equal)
    cases true false e f equal = let less = ltb-true _ _ e in let more = ltb-false _ _ f in absurd (omega (arith, less, more, equal, other_differs))
    cases false true e f equal = let less = ltb-false _ _ e in let more = ltb-true _ _ f in absurd (omega (arith, less, more, equal, differs))
    cases false false e f equal = equal

-- more than n numbers below n: two are the same
pub two_are_same : (n : ℕ) (f : ℕ → ℕ) → ((i : ℕ) → i ≤ n → f i < n) → (i : ℕ) × (j : ℕ) × (i < j) × (j ≤ n) × (f i ≡ f j)
two_are_same zero f low = let none = low 0 (omega arith) in absurd (omega (arith, none))
two_are_same (suc n) f low = elim (found_or_not f (f (suc n)) n) [
  | inl found ↦ (found.0, suc n, omega (arith, found.1), omega arith, found.2)
  | inr never ↦
      let last = low (suc n) (omega arith) in
      let rest = two_are_same n (λ i. squeezed (f (suc n)) (f i)) (λ i within. squeezed-below (f (suc n)) (f i) n (never i within) last (low i (omega (arith, within)))) in
      (rest.0, rest.1, rest.2, omega (arith, rest.3), squeezed-same (f (suc n)) (f rest.0) (f rest.1) (never rest.0 (omega (arith, rest.2, rest.3))) (never rest.1 rest.3) rest.4)
]

-- after as many steps as there are lines one is on a ring
pub comes_round : (hop : HopTest) (n start on : ℕ) (trail : (i : ℕ) → (line : ℕ) × StepsBack hop i start line × (line < n)) → StepsBack hop n start on
    → (round : ℕ) × (0 < round) × (round ≤ n) × StepsBack hop round on on
comes_round hop n start on trail taken =
    let same = two_are_same n (λ i. (trail i).0) (λ i within. (trail i).2) in
    around same.0 same.1 same.2 same.3 same.4
  where
    around : (i j : ℕ) → i < j → j ≤ n → (trail i).0 ≡ (trail j).0 → (round : ℕ) × (0 < round) × (round ≤ n) × StepsBack hop round on on
    around i j less within same =
        let first : StepsBack hop i start (trail i).0 = (trail i).1 in
        let again : StepsBack hop (i + (j - i)) start (trail j).0 = back_at hop j (i + (j - i)) start (trail j).0 (omega (arith, less)) (trail j).1 in
        let rest : StepsBack hop (j - i) (trail i).0 (trail j).0 = back_rest hop (j - i) i start (trail i).0 (trail j).0 first again in
        let ring : StepsBack hop (j - i) (trail i).0 (trail i).0 = subst (λ l. StepsBack hop (j - i) (trail i).0 l) (sym same) rest in
        let tail : StepsBack hop (i + (n - i)) start on = back_at hop n (i + (n - i)) start on (omega (arith, less, within)) taken in
        let to_on : StepsBack hop (n - i) (trail i).0 on = back_rest hop (n - i) i start (trail i).0 on first tail in
        (j - i, omega (arith, less), omega (arith, within), round_kept hop (j - i) (n - i) (trail i).0 on ring to_on)
