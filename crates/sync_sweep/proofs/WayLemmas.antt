-- What a case costs on the way, by what is counted of each element.
use Rattle.std.proofs.Common.{◌≡◌, ◌≤◌, ◌<◌, ◌⊎◌, inl, inr, ℕ, ◌+◌, ◌-◌, Bool, true, false, List, length, Option, None, Some, refl, sym, ap, ◌∙◌, arith}
use Rattle.std.specs.Prelude.{nat_eq, nat_lt, ◌&&◌, slice_index_or, IfSome}
use Rattle.std.specs.List.{count_by, find, range_with_len}
use Rattle.std.proofs.lemmas.Bool.Decides.{nat_tests}
use Rattle.std.proofs.lemmas.List.{take_all}
use Rattle.sync_text.proofs.Ranges.{find_range-first, find_range-none, find_range-Some}
use Rattle.sync_ql.specs.declared.levels.Level.{Level}
use Rattle.sync_element.specs.ElementState.{ElementState}
use Rattle.sync_topo.specs.declared.event.Event.{Event}
use Rattle.sync_topo.specs.Topology.{Topology}
use Rattle.net_rules.specs.Signals.{signals_by}
use Rattle.net_rules.specs.History.{out_at}
use Rattle.sync_net.specs.NetState.{NetState}
use Rattle.sync_net.specs.Standing.{ElementStands, StandsFor}
use Rattle.sync_sweep.specs.declared.on_way.OnWay.{OnWay}
use Rattle.sync_sweep.specs.declared.spells.Spell.{Spell}
use Rattle.sync_sweep.specs.OnWay.{is_worse_in, worse_for, IsWorseFor, IsOnWay}
use Rattle.sync_sweep.specs.private.Spells.{no_spell, worse_in, AreCountedSo, IsDarkOf, IsNotDarker, IsWayOf}
use Rattle.sync_sweep.proofs.CountLemmas.{alike-counted}
use Rattle.sync_sweep.proofs.SpellLemmas.{worse-then}

lt-true : (a b : ℕ) → a < b → nat_lt a b ≡ true
lt-true a b less = of (nat_lt a b) refl
  where
    of : (t : Bool) → nat_lt a b ≡ t → nat_lt a b ≡ true
    of true is = is
    of false is = absurd (grind (arith, nat_tests))

eq-true : (a b : ℕ) → a ≡ b → nat_eq a b ≡ true
eq-true a b same = of (nat_eq a b) refl
  where
    of : (t : Bool) → nat_eq a b ≡ t → nat_eq a b ≡ true
    of true is = is
    of false is = absurd (grind (arith, nat_tests))

-- a number of the dark is looked for where there is one
abbrev is_dark : (ℕ → ℕ) → ℕ → ℕ → Bool
is_dark times dark k = nat_lt 0 dark && nat_eq (times k) dark

dark-true : (times : ℕ → ℕ) (dark k : ℕ) → 0 < dark → times k ≡ dark → is_dark times dark k ≡ true
dark-true times dark k some same = ap (λ a. a && nat_eq (times k) dark) (lt-true 0 dark some) ∙ ap (λ b. true && b) (eq-true (times k) dark same)

dark-false : (times : ℕ → ℕ) (dark k : ℕ) → ¬ ((0 < dark) × (times k ≡ dark)) → is_dark times dark k ≡ false
dark-false times dark k never = of (nat_lt 0 dark) (nat_eq (times k) dark) refl refl
  where
    of : (a b : Bool) → nat_lt 0 dark ≡ a → nat_eq (times k) dark ≡ b → is_dark times dark k ≡ false
    of true true less same = absurd (never (grind (arith, nat_tests), grind (arith, nat_tests)))
    of true false less same = ap (λ b. nat_lt 0 dark && b) same ∙ ap (λ a. a && false) less
    of false b less same = ap (λ a. a && nat_eq (times k) dark) less

-- the first of so many numbers that is the darkest
darkest-found : (spells : List Spell) (next n dark : ℕ) (darkest : Option ℕ) (times : ℕ → ℕ) → length spells ≡ n
    → ((k : ℕ) → k < n → worse_in (slice_index_or spells k no_spell) next ≡ times k) → IsDarkOf spells next dark darkest
    → ((k : ℕ) → k < n → IsNotDarker next dark darkest k (slice_index_or spells k no_spell))
    → darkest ≡ find (is_dark times dark) (range_with_len 0 n)
darkest-found spells next n dark None times count same one none =
    sym (find_range-none (is_dark times dark) 0 n (λ i low high. dark-false times dark i (λ both. omega (arith, both.0, one))))
darkest-found spells next n dark (Some first) times count same one none =
    let within : first < n = omega (arith, one.0, count) in
    let is : times first ≡ dark = sym (same first within) ∙ one.2 no_spell in
    sym (find_range-first (is_dark times dark) 0 n first (omega arith) (omega (arith, within)) (dark-true times dark first one.1 is)
    (λ i low high. dark-false times dark i (λ both.
    let later : first ≤ i = (none i (omega (arith, high, within))).later first refl (same i (omega (arith, high, within)) ∙ both.1) in
    omega (arith, later, high))))

module _ (law : (net : NetState) (events : List Event) (n element : ℕ) (other : ElementState) → StandsFor net events n → element < length net.plan.elements
    → ElementStands net.plan (signals_by net.plan events) (out_at net.plan (signals_by net.plan events)) element n (slice_index_or net.elements element other)) where
  -- what is counted at the end is what a case costs on the way
  pub way-is : (net : NetState) (levels : List Level) (all : List Event) (before until : ℕ) (spells : List Spell) (way : OnWay)
      → length spells ≡ length net.plan.elements → StandsFor net all (until + 1) → AreCountedSo net levels all before (until + 1) spells → IsWayOf spells (until + 1) way
      → IsOnWay net.plan all before until way
  way-is net levels all before until spells way count stands counted is = record {
    hurt =
        is.hurt
        ∙ alike (λ spell. nat_lt 0 (worse_in spell (until + 1))) (λ k. nat_lt 0 (times k)) (λ k inside. ap (nat_lt 0) (same k inside));
    dark = record { most = most; reached = reached way.darkest is.one };
    darkest = darkest-found spells (until + 1) (length net.plan.elements) way.dark way.darkest times count same is.one (λ k inside. is.none k no_spell (omega (arith, inside, count)));
    still = is.still ∙ alike (λ spell. spell.worse) (λ k. is_worse_in net.plan all before k until)
        (λ k inside. worse-then law net levels all before until k spells counted.some counted.at_first counted.now inside stands);
  }
    where
      times : ℕ → ℕ
      times = worse_for net.plan all before until

      same : (k : ℕ) → k < length net.plan.elements → worse_in (slice_index_or spells k no_spell) (until + 1) ≡ times k
      same k inside =
          (counted.each k inside).is
          ∙ ap (λ n. count_by (is_worse_in net.plan all before k) (range_with_len (before + 1) n)) (let many : until + 1 - (before + 1) ≡ until - before = omega arith in many)

      alike : (p : Spell → Bool) (q : ℕ → Bool) → ((k : ℕ) → k < length net.plan.elements → p (slice_index_or spells k no_spell) ≡ q k)
          → count_by p spells ≡ count_by q (range_with_len 0 (length net.plan.elements))
      alike p q each =
          ap (count_by p) (sym (take_all (length net.plan.elements) spells (omega (arith, count))))
          ∙ alike-counted p q spells no_spell (length net.plan.elements) (omega (arith, count)) each

      most : (n : ℕ) → IsWorseFor net.plan all before until n → n ≤ way.dark
      most n one =
          let most = (is.none one.element no_spell (omega (arith, one.within, count))).at_most in
          omega (arith, most, one.is, same one.element one.within)

      reached : (darkest : Option ℕ) → IsDarkOf spells (until + 1) way.dark darkest → (way.dark ≡ 0) ⊎ IsWorseFor net.plan all before until way.dark
      reached None none = inl none
      reached (Some first) one =
          let inside : first < length net.plan.elements = omega (arith, one.0, count) in
          inr (record { element = first; within = inside; is = sym (one.2 no_spell) ∙ same first inside })

-- the darkest element is one of the plan
pub darkest-within : (plan : Topology) (events : List Event) (before until : ℕ) (way : OnWay) → IsOnWay plan events before until way
    → IfSome way.darkest (λ element. element < length plan.elements)
darkest-within plan events before until way is = by way.darkest is.darkest
  where
    test : ℕ → Bool
    test element = nat_lt 0 way.dark && nat_eq (worse_for plan events before until element) way.dark

    by : (darkest : Option ℕ) → darkest ≡ find test (range_with_len 0 (length plan.elements)) → IfSome darkest (λ element. element < length plan.elements)
    by None same = tt
    by (Some element) same =
        let found = find_range-Some test 0 (length plan.elements) element (sym same) in
        omega (arith, found.3)
