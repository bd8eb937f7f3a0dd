-- What elements cost on the way, counted one after another.
use Rattle.std.proofs.Common.{◌≡◌, ◌≢◌, ◌≤◌, ◌<◌, ◌⊎◌, inl, inr, ℕ, zero, suc, Bool, true, false, cond, set, List, [], ◌∷◌, ◌++◌, length, Option, None, Some, refl, sym, ap, subst, ◌∙◌, arith, length-set, get_or-set_other}
use Rattle.std.specs.Prelude.{nat_eq, nat_lt, ◌&&◌, ◌||◌, if◌then◌else◌, slice_index_or}
use Rattle.std.specs.List.{count_by, list_any}
use Rattle.std.proofs.lemmas.Bool.{true≢false}
use Rattle.std.proofs.lemmas.Bool.Decides.{eqb_tells, nat_tests}
use Rattle.std.proofs.lemmas.Option.{same_Some, none-some}
use Rattle.std.proofs.lemmas.List.{get_or-set_same}
use Rattle.std.proofs.lemmas.List.Sums.{sum_by-set, sum_by-cons}
use Rattle.sync_sweep.specs.declared.on_way.OnWay.{OnWay}
use Rattle.sync_sweep.specs.declared.spells.Spell.{Spell}
use Rattle.sync_sweep.specs.private.Spells.{no_spell, worse_in, AreNone, AreNoneBut, is_darker, IsWithSpell, IsDarkOf, IsNotDarker, IsWayOf, AreTaken}

-- the darkest element comes behind another that is worse for as long
record IsEarlier (dark : ℕ) (darkest : Option ℕ) (place times : ℕ) : Type 0 where
  old : ℕ
  there : darkest ≡ Some old
  alike : times ≡ dark
  earlier : place < old

-- an element becomes the darkest
record IsDarkerBy (dark : ℕ) (darkest : Option ℕ) (place times : ℕ) (longest : ℕ) (first : Option ℕ) : Type 0 where
  some : 0 < times
  is : longest ≡ times
  first_is : first ≡ Some place
  before : (dark < times) ⊎ IsEarlier dark darkest place times

-- or it doesn't
record IsAsDark (dark : ℕ) (darkest : Option ℕ) (place times : ℕ) (longest : ℕ) (first : Option ℕ) : Type 0 where
  is : longest ≡ dark
  first_is : first ≡ darkest
  at_most : times ≤ dark
  later : (other : ℕ) → darkest ≡ Some other → times ≡ dark → other ≤ place

turned : (spells : List Spell) (next dark place times longest : ℕ) (darkest first : Option ℕ) → IsDarkOf spells next dark darkest
    → longest ≡ (if is_darker darkest dark place times then times else dark)
    → first ≡ (if is_darker darkest dark place times then Some place else darkest)
    → IsDarkerBy dark darkest place times longest first ⊎ IsAsDark dark darkest place times longest first
turned spells next dark place times longest None first one is first_is = of (nat_lt 0 times) refl is first_is
  where
    of : (t : Bool) → nat_lt 0 times ≡ t → longest ≡ (if t then times else dark) → first ≡ (if t then Some place else None)
        → IsDarkerBy dark None place times longest first ⊎ IsAsDark dark None place times longest first
    of true less is first_is = inl (record { some = grind (arith, nat_tests); is = is; first_is = first_is; before = inl (let some : 0 < times = grind (arith, nat_tests) in omega (arith, some, one)) })
    of false less is first_is = inr (record {
      is = is;
      first_is = first_is;
      at_most = (let none : ¬ (0 < times) = grind (arith, nat_tests) in omega (arith, none));
      later = λ other none same. absurd (none-some other none);
    })
turned spells next dark place times longest (Some old) first one is first_is = of (nat_lt dark times) (nat_eq times dark) (nat_lt place old) refl refl refl is first_is
  where
    of : (a b c : Bool) → nat_lt dark times ≡ a → nat_eq times dark ≡ b → nat_lt place old ≡ c → longest ≡ (if a || (b && c) then times else dark) → first ≡ (if a || (b && c) then Some place else Some old)
        → IsDarkerBy dark (Some old) place times longest first ⊎ IsAsDark dark (Some old) place times longest first
    of true b c more same less is first_is =
        let longer : dark < times = grind (arith, nat_tests) in
        inl (record { some = omega (arith, longer); is = is; first_is = first_is; before = inl longer })
    of false true true more same less is first_is =
        let alike : times ≡ dark = grind (arith, nat_tests) in
        let earlier : place < old = grind (arith, nat_tests) in
        inl (record {
          some = omega (arith, one.1, alike);
          is = is;
          first_is = first_is;
          before = inr (record { old = old; there = refl; alike = alike; earlier = earlier });
        })
    of false true false more same less is first_is =
        let alike : times ≡ dark = grind (arith, nat_tests) in
        let late : ¬ (place < old) = grind (arith, nat_tests) in
        inr (record { is = is; first_is = first_is; at_most = omega (arith, alike); later = λ other there same. omega (arith, late, same_Some old other there) })
    of false false c more same less is first_is =
        let short : ¬ (dark < times) = grind (arith, nat_tests) in
        let other : ¬ (times ≡ dark) = grind (arith, nat_tests) in
        inr (record { is = is; first_is = first_is; at_most = omega (arith, short); later = λ old there same. absurd (other same) })

-- what wasn't darker than the darkest isn't darker than the next
still-none : (next dark place times longest k : ℕ) (darkest first : Option ℕ) (spell : Spell)
    → IsDarkerBy dark darkest place times longest first ⊎ IsAsDark dark darkest place times longest first
    → IsNotDarker next dark darkest k spell → IsNotDarker next longest first k spell
still-none next dark place times longest k darkest first spell (inr rest) none = record {
  at_most = omega (arith, none.at_most, rest.is);
  later = λ other there same. none.later other (sym rest.first_is ∙ there) (same ∙ rest.is);
}
still-none next dark place times longest k darkest first spell (inl by) none = of by.before
  where
    of : (dark < times) ⊎ IsEarlier dark darkest place times → IsNotDarker next longest first k spell
    of (inl longer) = record {
      at_most = omega (arith, none.at_most, by.is, longer);
      later = λ other there same. absurd (omega (arith, same, none.at_most, by.is, longer));
    }
    of (inr alike) = record {
      at_most = omega (arith, none.at_most, by.is, alike.alike);
      later = λ other there same.
          let here : other ≡ place = same_Some other place (sym there ∙ by.first_is) in
          let behind : alike.old ≤ k = none.later alike.old alike.there (same ∙ by.is ∙ alike.alike) in
          omega (arith, here, alike.earlier, behind);
    }

-- nor is the element itself
own-none : (next dark place longest : ℕ) (darkest first : Option ℕ) (spell : Spell)
    → IsDarkerBy dark darkest place (worse_in spell next) longest first ⊎ IsAsDark dark darkest place (worse_in spell next) longest first
    → IsNotDarker next longest first place spell
own-none next dark place longest darkest first spell (inl by) = record {
  at_most = omega (arith, by.is);
  later = λ other there same. (let here : other ≡ place = same_Some other place (sym there ∙ by.first_is) in omega (arith, here));
}
own-none next dark place longest darkest first spell (inr rest) = record {
  at_most = omega (arith, rest.is, rest.at_most);
  later = λ other there same. rest.later other (sym rest.first_is ∙ there) (same ∙ rest.is);
}

-- an element that was never worse wasn't for any millisecond
none-worse : (spell : Spell) (next : ℕ) → spell ≡ no_spell → worse_in spell next ≡ 0
none-worse spell next none = ap (λ s. worse_in s next) none

-- in a list with one more place
module _ (places : List ℕ) (place k : ℕ) where
  any-more : list_any (nat_eq k) (places ++ place ∷ []) ≡ (list_any (nat_eq k) places || nat_eq k place)
  any-more = by places
    where
      by : (xs : List ℕ) → list_any (nat_eq k) (xs ++ place ∷ []) ≡ (list_any (nat_eq k) xs || nat_eq k place)
      by [] = last (nat_eq k place)
        where
          last : (b : Bool) → (b || false) ≡ b
          last true = refl
          last false = refl
      by (x ∷ xs) = ap (λ b. nat_eq k x || b) (by xs) ∙ group (nat_eq k x) (list_any (nat_eq k) xs) (nat_eq k place)
        where
          group : (a b c : Bool) → (a || (b || c)) ≡ ((a || b) || c)
          group true b c = refl
          group false b c = refl

  -- it is among them, or it is the last
  pub among : list_any (nat_eq k) (places ++ place ∷ []) ≡ true → (list_any (nat_eq k) places ≡ true) ⊎ (k ≡ place)
  among is = of (list_any (nat_eq k) places) (nat_eq k place) refl refl (sym any-more ∙ is)
    where
      of : (a b : Bool) → list_any (nat_eq k) places ≡ a → nat_eq k place ≡ b → (list_any (nat_eq k) places || nat_eq k place) ≡ true
          → (list_any (nat_eq k) places ≡ true) ⊎ (k ≡ place)
      of true b there here one = inl there
      of false true there here one = inr (grind (arith, nat_tests))
      of false false there here one = absurd (true≢false (sym one ∙ (rw (there, here) refl)))

  -- or it is neither
  pub apart : list_any (nat_eq k) (places ++ place ∷ []) ≡ false → (list_any (nat_eq k) places ≡ false) × (k ≢ place)
  apart is = of (list_any (nat_eq k) places) (nat_eq k place) refl refl (sym any-more ∙ is)
    where
      of : (a b : Bool) → list_any (nat_eq k) places ≡ a → nat_eq k place ≡ b → (list_any (nat_eq k) places || nat_eq k place) ≡ false
          → (list_any (nat_eq k) places ≡ false) × (k ≢ place)
      of true b there here none = absurd (true≢false (sym (ap (λ t. t || nat_eq k place) there) ∙ none))
      of false true there here none = absurd (true≢false (sym (rw (there, here) refl) ∙ none))
      of false false there here none = (there, grind (arith, nat_tests))

-- in a list any default serves
pub index-same : (xs : List Spell) (k : ℕ) (a b : Spell) → k < length xs → slice_index_or xs k a ≡ slice_index_or xs k b
index-same [] k a b inside = absurd (omega (arith, inside))
index-same (x ∷ xs) zero a b inside = refl
index-same (x ∷ xs) (suc k) a b inside = index-same xs k a b (omega (arith, inside))

-- one element more
pub taken-more : (old : List Spell) (next : ℕ) (places : List ℕ) (spells : List Spell) (way : OnWay) (place : ℕ) (spell : Spell) (after : OnWay) → place < length old
    → spell ≡ slice_index_or spells place spell → IsWithSpell way place spell next after → AreTaken old next places spells way
    → AreTaken old next (places ++ place ∷ []) (set spells place no_spell) after
taken-more old next places spells way place spell after within is more taken = record {
  count = length-set spells place no_spell ∙ taken.count;
  hurt = omega (arith, more.hurt, taken.hurt, sum_by-set hurt spells place no_spell spell inside, ap hurt is, hurt_none);
  still = omega (arith, more.still, taken.still, sum_by-set still spells place no_spell spell inside, ap still is, still_none);
  one = one step;
  done = λ k other low there. gone k other low (among places place k there);
  none = λ k other low there. none k other low (among places place k there);
  left = λ k other low there.
      let both = apart places place k there in
      get_or-set_other spells place k no_spell other both.1 ∙ taken.left k other low both.0;
}
  where
    inside : place < length spells
    inside = omega (arith, within, taken.count)

    hurt : Spell → ℕ
    hurt s = cond (nat_lt 0 (worse_in s next)) 1 0

    still : Spell → ℕ
    still s = cond s.worse 1 0

    hurt_none : hurt no_spell ≡ 0
    hurt_none = refl

    still_none : still no_spell ≡ 0
    still_none = refl

    step : IsDarkerBy way.dark way.darkest place (worse_in spell next) after.dark after.darkest ⊎ IsAsDark way.dark way.darkest place (worse_in spell next) after.dark after.darkest
    step = turned old next way.dark place (worse_in spell next) after.dark way.darkest after.darkest taken.one more.dark more.darkest

    -- what is kept of it is as it was, or it is counted and gone
    as-was : (b : Bool) → list_any (nat_eq place) places ≡ b → (spell ≡ no_spell) ⊎ ((other : Spell) → slice_index_or old place other ≡ spell)
    as-was true there = inl (is ∙ taken.done place spell within there)
    as-was false there = inr (λ other. index-same old place other spell within ∙ sym (taken.left place spell within there) ∙ sym is)

    one : IsDarkerBy way.dark way.darkest place (worse_in spell next) after.dark after.darkest ⊎ IsAsDark way.dark way.darkest place (worse_in spell next) after.dark after.darkest
        → IsDarkOf old next after.dark after.darkest
    one (inr rest) = subst (λ d. IsDarkOf old next d after.darkest) (sym rest.is) (subst (IsDarkOf old next way.dark) (sym rest.first_is) taken.one)
    one (inl by) = subst (λ d. IsDarkOf old next d after.darkest) (sym by.is) (subst (IsDarkOf old next (worse_in spell next)) (sym by.first_is)
        (elim (as-was (list_any (nat_eq place) places) refl) [
          | inl gone ↦ absurd (omega (arith, by.some, none-worse spell next gone))
          | inr same ↦ (within, by.some, λ other. ap (λ s. worse_in s next) (same other))
        ]))

    gone : (k : ℕ) (other : Spell) → k < length old → (list_any (nat_eq k) places ≡ true) ⊎ (k ≡ place) → slice_index_or (set spells place no_spell) k other ≡ no_spell
    gone k other low there = elim (eqb_tells k place) [
      | inl same ↦ subst (λ i. slice_index_or (set spells place no_spell) i other ≡ no_spell) (sym same.1) (get_or-set_same spells place no_spell other inside)
      | inr apart ↦ get_or-set_other spells place k no_spell other apart.1 ∙ elim there [
        | inl before ↦ taken.done k other low before
        | inr here ↦ absurd (apart.1 here)
      ]
    ]

    none : (k : ℕ) (other : Spell) → k < length old → (list_any (nat_eq k) places ≡ true) ⊎ (k ≡ place) → IsNotDarker next after.dark after.darkest k (slice_index_or old k other)
    none k other low (inl before) = still-none next way.dark place (worse_in spell next) after.dark k way.darkest after.darkest (slice_index_or old k other) step (taken.none k other low before)
    none k other low (inr here) = subst (λ i. IsNotDarker next after.dark after.darkest i (slice_index_or old i other)) (sym here) (at (list_any (nat_eq place) places) refl)
      where
        at : (b : Bool) → list_any (nat_eq place) places ≡ b → IsNotDarker next after.dark after.darkest place (slice_index_or old place other)
        at true there = still-none next way.dark place (worse_in spell next) after.dark place way.darkest after.darkest (slice_index_or old place other) step (taken.none place other within there)
        at false there =
            subst (IsNotDarker next after.dark after.darkest place) (is ∙ taken.left place spell within there ∙ index-same old place spell other within)
            (own-none next way.dark place after.dark way.darkest after.darkest spell step)

-- elements that were never worse aren't counted
none-counted : (p : Spell → Bool) → p no_spell ≡ false → (xs : List Spell) → ((k : ℕ) (other : Spell) → k < length xs → slice_index_or xs k other ≡ no_spell) → count_by p xs ≡ 0
none-counted p none [] each = refl
none-counted p none (x ∷ xs) each =
    let first : counted x ≡ 0 = ap counted (each 0 x (omega arith)) ∙ ap as-number none in
    let rest : count_by p xs ≡ 0 = none-counted p none xs (λ k other inside. each (suc k) other (omega (arith, inside))) in
    omega (arith, first, rest, sum_by-cons counted x xs)
  where
    as-number : Bool → ℕ
    as-number b = cond b 1 0

    counted : Spell → ℕ
    counted s = as-number (p s)

-- all of them
pub taken-all : (old : List Spell) (next : ℕ) (places : List ℕ) (spells : List Spell) (way : OnWay) → AreTaken old next places spells way → AreNoneBut places old
    → AreNone (length old) spells × IsWayOf old next way
taken-all old next places spells way taken but = (
  record { count = taken.count; each = gone },
  record {
    hurt = omega (arith, taken.hurt, none-counted (λ spell. nat_lt 0 (worse_in spell next)) refl spells all_gone);
    still = omega (arith, taken.still, none-counted (λ spell. spell.worse) refl spells all_gone);
    one = taken.one;
    none = λ k other low. none k other low (list_any (nat_eq k) places) refl;
  },
)
  where
    gone : (k : ℕ) (other : Spell) → k < length old → slice_index_or spells k other ≡ no_spell
    gone k other low = of (list_any (nat_eq k) places) refl
      where
        of : (b : Bool) → list_any (nat_eq k) places ≡ b → slice_index_or spells k other ≡ no_spell
        of true there = taken.done k other low there
        of false there = taken.left k other low there ∙ but k other low there

    all_gone : (k : ℕ) (other : Spell) → k < length spells → slice_index_or spells k other ≡ no_spell
    all_gone k other low = gone k other (omega (arith, low, taken.count))

    none : (k : ℕ) (other : Spell) → k < length old → (b : Bool) → list_any (nat_eq k) places ≡ b → IsNotDarker next way.dark way.darkest k (slice_index_or old k other)
    none k other low true there = taken.none k other low there
    none k other low false there =
        let zero_of : worse_in (slice_index_or old k other) next ≡ 0 = none-worse (slice_index_or old k other) next (but k other low there) in
        record { at_most = omega (arith, zero_of); later = λ first is same. absurd (some way.darkest taken.one first is (zero-dark zero_of same)) }
      where
        zero-dark : worse_in (slice_index_or old k other) next ≡ 0 → worse_in (slice_index_or old k other) next ≡ way.dark → way.dark ≡ 0
        zero-dark nothing same = omega (arith, nothing, same)

        some : (darkest : Option ℕ) → IsDarkOf old next way.dark darkest → (first : ℕ) → darkest ≡ Some first → ¬ (way.dark ≡ 0)
        some None one first is nothing = none-some first is
        some (Some old_first) one first is nothing = omega (arith, one.1, nothing)
