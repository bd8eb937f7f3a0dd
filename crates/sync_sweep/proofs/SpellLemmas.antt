-- For how long elements are worse, over the steps of a run.
use Rattle.std.proofs.Common.{◌≡◌, ◌≤◌, ◌<◌, ℕ, zero, suc, ◌+◌, ◌-◌, Bool, true, false, cond, set, List, [], ◌∷◌, ◌++◌, length, inl, inr, refl, sym, ap, subst, ◌∙◌, arith, get_or-set_other, length-set}
use Rattle.std.specs.Prelude.{if◌then◌else◌, nat_eq, nat_lt, slice_index_or}
use Rattle.std.specs.List.{count_by, list_any, range_with_len}
use Rattle.std.proofs.lemmas.Bool.Decides.{eqb_tells, nat_tests}
use Rattle.std.proofs.lemmas.List.{map-id, get_or-set_same}
use Rattle.std.proofs.lemmas.List.Sums.{sum_by_push}
use Rattle.std.proofs.lemmas.List.FromFn.{map-range_with_len_more}
use Rattle.sync_ql.specs.declared.levels.Level.{Level}
use Rattle.sync_element.specs.ElementState.{ElementState}
use Rattle.sync_topo.specs.declared.event.Event.{Event}
use Rattle.sync_topo.specs.Topology.{Topology}
use Rattle.agenda.specs.Marked.{AreListed}
use Rattle.net_rules.specs.Signals.{Signals, signals_by}
use Rattle.net_rules.specs.History.{out_at}
use Rattle.sync_net.specs.NetState.{NetState}
use Rattle.sync_net.specs.Standing.{ElementStands, StandsFor}
use Rattle.sync_sweep.specs.declared.spells.Spell.{Spell}
use Rattle.sync_sweep.specs.declared.touched.Touched.{Touched}
use Rattle.sync_sweep.specs.OnWay.{is_worse, is_worse_in}
use Rattle.sync_sweep.specs.Outcomes.{level_in}
use Rattle.sync_sweep.specs.private.Branching.{AreMarksOf, IsBranch}
use Rattle.sync_sweep.specs.private.ShownNow.{AreAlikeBut, AreLevels}
use Rattle.sync_sweep.specs.private.Spells.{no_spell, worse_in, AreNone, AreNoneBut, AreNoneUnmarked, IsWorseNow, AreWorseNow, IsNotedAt, AreNotedAt, AreNotedSo, AreLevelsIn, IsCountedSo, AreCountedSo}
use Rattle.sync_sweep.proofs.CountLemmas.{level-now}
use Rattle.sync_sweep.proofs.TakeLemmas.{index-same, among, apart}

-- one number more
count-more : (p : ℕ → Bool) (a n : ℕ) → count_by p (range_with_len a (n + 1)) ≡ count_by p (range_with_len a n) + cond (p (a + n)) 1 0
count-more p a n =
    let more : range_with_len a (n + 1) ≡ range_with_len a n ++ (a + n) ∷ [] = simp map-id at (map-range_with_len_more (λ (x : ℕ). x) a n (a + n) refl) in
    ap (count_by p) more ∙ sum_by_push (λ x. cond (p x) 1 0) (range_with_len a n) (a + n)

-- numbers that pass alike
count-alike : (p : ℕ → Bool) (b : Bool) (a n k : ℕ) → ((t : ℕ) → a + n ≤ t → t < a + n + k → p t ≡ b)
    → count_by p (range_with_len a (n + k)) ≡ count_by p (range_with_len a n) + cond b k 0
count-alike p b a n zero same = ap (λ m. count_by p (range_with_len a m)) (let none : n + 0 ≡ n = omega arith in none) ∙ none b
  where
    none : (b : Bool) → count_by p (range_with_len a n) ≡ count_by p (range_with_len a n) + cond b 0 0
    none true = let e : count_by p (range_with_len a n) ≡ count_by p (range_with_len a n) + 0 = omega arith in e
    none false = let e : count_by p (range_with_len a n) ≡ count_by p (range_with_len a n) + 0 = omega arith in e
count-alike p b a n (suc k) same =
    let before = count-alike p b a n k (λ t low high. same t low (omega (arith, high))) in
    let last : p (a + (n + k)) ≡ b = same (a + (n + k)) (omega arith) (omega arith) in
    let more : n + suc k ≡ n + k + 1 = omega arith in
    ap (λ m. count_by p (range_with_len a m)) more
    ∙ count-more p a (n + k)
    ∙ ap (λ c. count_by p (range_with_len a (n + k)) + cond c 1 0) last
    ∙ ap (λ c. c + cond b 1 0) before
    ∙ one-more b (count_by p (range_with_len a n))
  where
    one-more : (b : Bool) (c : ℕ) → c + cond b k 0 + cond b 1 0 ≡ c + cond b (suc k) 0
    one-more true c = omega arith
    one-more false c = omega arith

-- while nothing is noted, an element that is worse is so in each millisecond
worse-later : (worse : Bool) (otherwise next now : ℕ) → otherwise ≤ next → next ≤ now
    → (if worse then now - otherwise else otherwise) ≡ (if worse then next - otherwise else otherwise) + cond worse (now - next) 0
worse-later true otherwise next now in_time later = omega (arith, in_time, later)
worse-later false otherwise next now in_time later = omega arith

counted-later : (plan : Topology) (all : List Event) (before next now element : ℕ) (spell : Spell) → before < next → next ≤ now
    → ((t : ℕ) → next ≤ t → t < now → is_worse_in plan all before element t ≡ spell.worse)
    → IsCountedSo plan all before next element spell → IsCountedSo plan all before now element spell
counted-later plan all before next now element spell after later same counted =
    let p : ℕ → Bool = is_worse_in plan all before element in
    let n : ℕ = next - (before + 1) in
    let begin : before + 1 + n ≡ next = omega (arith, after) in
    let end : n + (now - next) ≡ now - (before + 1) = omega (arith, after, later) in
    record {
      in_time = omega (arith, counted.in_time, later);
      is =
          worse-later spell.worse spell.otherwise next now counted.in_time later
          ∙ ap (λ c. c + cond spell.worse (now - next) 0) counted.is
          ∙ sym (count-alike p spell.worse (before + 1) n (now - next) (λ t low high. same t (omega (arith, low, after)) (omega (arith, high, after, later))))
          ∙ ap (λ m. count_by p (range_with_len (before + 1) m)) end;
    }

-- one that is noted is counted in its millisecond
counted-noted : (plan : Topology) (all : List Event) (before now element : ℕ) (spell more : Spell) → before < now → IsNotedAt now spell more
    → is_worse_in plan all before element now ≡ more.worse
    → IsCountedSo plan all before now element spell → IsCountedSo plan all before (now + 1) element more
counted-noted plan all before now element spell more after noted is counted =
    let kept = noted counted.in_time in
    counted-later plan all before now (now + 1) element more after (omega arith)
    (λ t low high. subst (λ m. is_worse_in plan all before element m ≡ more.worse) (let same : now ≡ t = omega (arith, low, high) in same) is)
    (record { in_time = kept.0; is = kept.1 ∙ counted.is })

-- what is noted of one place is noted of all
pub noted-set : (now : ℕ) (before spells : List Spell) (place : ℕ) (spell more : Spell) → length spells ≡ length before → place < length before
    → spell ≡ slice_index_or spells place spell → IsNotedAt now spell more → AreNotedAt now before spells → AreNotedAt now before (set spells place more)
noted-set now before spells place spell more count within is one noted = λ k other inside. elim (eqb_tells k place) [
  | inl same ↦ subst (λ i. IsNotedAt now (slice_index_or before i other) (slice_index_or (set spells place more) i other)) (sym same.1) (here other)
  | inr apart ↦ subst (IsNotedAt now (slice_index_or before k other)) (sym (get_or-set_other spells place k more other apart.1)) (noted k other inside)
]
  where
    here : (other : Spell) → IsNotedAt now (slice_index_or before place other) (slice_index_or (set spells place more) place other)
    here other =
        let room : place < length spells = omega (arith, count, within) in
        subst (IsNotedAt now (slice_index_or before place other)) (sym (get_or-set_same spells place more other room))
        (λ early.
        let first = noted place other within early in
        let same : slice_index_or spells place other ≡ spell = index-same spells place other spell room ∙ sym is in
        let second = one (subst (λ s. s.otherwise ≤ now) same first.0) in
        (second.0, second.1 ∙ ap (λ s. worse_in s now) (sym same) ∙ first.1))

-- so is which elements are worse
pub noted-more : (net : NetState) (levels : List Level) (now : ℕ) (before : List Spell) (places : List ℕ) (spells : List Spell) (place : ℕ) (spell more : Spell) → place < length before
    → spell ≡ slice_index_or spells place spell → IsNotedAt now spell more
    → ((element : ElementState) (level : Level) → IsWorseNow (slice_index_or net.elements place element) (slice_index_or levels place level) more)
    → AreNotedSo net levels now before places spells → AreNotedSo net levels now before (places ++ place ∷ []) (set spells place more)
noted-more net levels now before places spells place spell more within is one worse noted = record {
  count = length-set spells place more ∙ noted.count;
  noted = noted-set now before spells place spell more noted.count within is one noted.noted;
  worse = λ k element level other inside there. elim (eqb_tells k place) [
    | inl same ↦ subst (λ i. IsWorseNow (slice_index_or net.elements i element) (slice_index_or levels i level) (slice_index_or (set spells place more) i other)) (sym same.1)
        (subst (IsWorseNow (slice_index_or net.elements place element) (slice_index_or levels place level)) (sym (get_or-set_same spells place more other (omega (arith, noted.count, within)))) (worse element level))
    | inr apart ↦ subst (IsWorseNow (slice_index_or net.elements k element) (slice_index_or levels k level)) (sym (get_or-set_other spells place k more other apart.1))
        (elim (among places place k there) [
          | inl before ↦ noted.worse k element level other inside before
          | inr here ↦ absurd (apart.1 here)
        ])
  ];
  left = λ k other there.
      let both = apart places place k there in
      get_or-set_other spells place k more other both.1 ∙ noted.left k other both.0;
}

-- so it is noted of a network that differs from another at these places alone
pub noted-all : (net base : NetState) (levels : List Level) (now : ℕ) (before : List Spell) (places : List ℕ) (spells : List Spell) → length before ≡ length net.plan.elements
    → AreNotedSo net levels now before places spells → base.plan ≡ net.plan → AreWorseNow base levels before → AreAlikeBut places net base → AreWorseNow net levels spells
noted-all net base levels now before places spells count noted plan worse alike = record { each = λ k element level spell within. of k element level spell within (list_any (nat_eq k) places) refl }
  where
    of : (k : ℕ) (element : ElementState) (level : Level) (spell : Spell) → k < length net.plan.elements → (b : Bool) → list_any (nat_eq k) places ≡ b
        → IsWorseNow (slice_index_or net.elements k element) (slice_index_or levels k level) (slice_index_or spells k spell)
    of k element level spell within true there = noted.worse k element level spell (omega (arith, within, count)) there
    of k element level spell within false there =
        let inside : k < length base.plan.elements = omega (arith, within, ap (λ p. length p.elements) plan) in
        subst (λ e. IsWorseNow e (slice_index_or levels k level) (slice_index_or spells k spell)) (sym (alike k element inside there))
        (subst (IsWorseNow (slice_index_or base.elements k element) (slice_index_or levels k level)) (sym (noted.left k spell there)) (worse.each k element level spell inside))

module _ (law : (net : NetState) (events : List Event) (n element : ℕ) (other : ElementState) → StandsFor net events n → element < length net.plan.elements
    → ElementStands net.plan (signals_by net.plan events) (out_at net.plan (signals_by net.plan events)) element n (slice_index_or net.elements element other)) where
  -- an element that is worse is so by the rules
  pub worse-then : (net : NetState) (levels : List Level) (all : List Event) (before t k : ℕ) (spells : List Spell) (other : ElementState)
      → AreLevelsIn net.plan all before levels → AreWorseNow net levels spells → k < length net.plan.elements → StandsFor net all (t + 1)
      → (slice_index_or spells k no_spell).worse ≡ is_worse_in net.plan all before k t
  worse-then net levels all before t k spells other at_first worse within stands =
      let plan = net.plan in
      let signals = signals_by plan all in
      let level = level_in plan all before k in
      let one = worse.each k other level no_spell within in
      let last : t + 1 - 1 ≡ t = omega arith in
      let now : one.level ≡ level_in plan all t k =
      level-now plan signals (out_at plan signals) k (t + 1) (slice_index_or net.elements k other) (omega arith) (law net all (t + 1) k other stands within) one.level one.shows.is
      ∙ ap (λ m. level_in plan all m k) last in
      one.worse ∙ ap (λ l. is_worse l one.level) (at_first k level within) ∙ ap (is_worse level) now

  -- a step is counted, and the milliseconds before it since the last one
  pub counted-step : (net after : NetState) (levels : List Level) (all : List Event) (before next now : ℕ) (spells more : List Spell)
      → after.plan ≡ net.plan → next ≤ now → ((n : ℕ) → next ≤ n → n ≤ now → StandsFor net all n) → StandsFor after all (now + 1)
      → length spells ≡ length net.plan.elements → AreNotedAt now spells more → (AreWorseNow net levels spells → AreWorseNow after levels more)
      → AreCountedSo net levels all before next spells → AreCountedSo after levels all before (now + 1) more
  counted-step net after levels all before next now spells more plan later quiet stands count noted worse counted = record {
    some = counted.some;
    later = omega (arith, counted.later, later);
    at_first = same_levels;
    now = worse counted.now;
    each = λ k within. subst (λ (p : Topology). IsCountedSo p all before (now + 1) k (slice_index_or more k no_spell)) (sym plan) (one k within (omega (arith, within, ap (λ p. length p.elements) plan)));
  }
    where
      same_levels : AreLevelsIn after.plan all before levels
      same_levels = subst (λ (p : Topology). AreLevelsIn p all before levels) (sym plan) counted.at_first

      one : (k : ℕ) → k < length after.plan.elements → k < length net.plan.elements → IsCountedSo net.plan all before (now + 1) k (slice_index_or more k no_spell)
      one k within inside =
          let spell = slice_index_or spells k no_spell in
          let noted_so = slice_index_or more k no_spell in
          counted-noted net.plan all before now k spell noted_so (omega (arith, counted.later, later)) (noted k no_spell (omega (arith, inside, count)))
          (subst (λ (p : Topology). is_worse_in p all before k now ≡ noted_so.worse) plan
          (sym (worse-then after levels all before now k more counted.some same_levels (worse counted.now) within stands)))
          (counted-later net.plan all before next now k spell counted.later later
          (λ t low high. sym (worse-then net levels all before t k spells counted.some counted.at_first counted.now inside (quiet (t + 1) (omega (arith, low)) (omega (arith, high)))))
          (counted.each k inside))

  -- at first nobody is worse, and nothing is counted
  pub begun : (net : NetState) (levels : List Level) (all : List Event) (from : ℕ) (spells : List Spell) (some : ElementState) → 0 < from → StandsFor net all from
      → AreLevels net levels → AreNone (length net.plan.elements) spells → AreCountedSo net levels all (from - 1) from spells
  begun net levels all from spells some stepped stands shown none = record {
    some = some;
    later = omega (arith, stepped);
    at_first = λ k other within.
        level-now plan signals (out_at plan signals) k from (slice_index_or net.elements k some) stepped (law net all from k some stands within) (slice_index_or levels k other)
        (shown.each k some other within).is;
    now = record {
      each = λ k element level spell within. record {
        level = slice_index_or levels k level;
        shows = shown.each k element level within;
        worse = ap (λ (s : Spell). s.worse) (none.each k spell within) ∙ sym (not-less (slice_index_or levels k level).place);
      };
    };
    each = λ k within. record {
      in_time = omega (arith, ap (λ (s : Spell). s.otherwise) (none.each k no_spell within));
      is = ap (λ s. worse_in s from) (none.each k no_spell within) ∙ ap (λ n. count_by (is_worse_in plan all (from - 1) k) (range_with_len (from - 1 + 1) n)) (let empty : 0 ≡ from - (from - 1 + 1) = omega arith in empty);
    };
  }
    where
      plan : Topology
      plan = net.plan

      signals : Signals
      signals = signals_by net.plan all

      not-less : (n : ℕ) → nat_lt n n ≡ false
      not-less n = of (nat_lt n n) refl
        where
          of : (t : Bool) → nat_lt n n ≡ t → nat_lt n n ≡ false
          of true is = absurd (grind (arith, nat_tests))
          of false is = is

-- what isn't listed isn't marked
pub none-but : (touched : Touched) (spells : List Spell) → AreListed touched.elements → AreNoneUnmarked touched spells → AreNoneBut touched.elements.listed spells
none-but touched spells listed none = λ k other within out. none k other within (listed.listed k ∙ out)

-- and where nobody was ever worse nobody is that isn't marked
pub none-unmarked : (n : ℕ) (touched : Touched) (spells : List Spell) → AreNone n spells → AreNoneUnmarked touched spells
none-unmarked n touched spells none = λ k other within free. none.each k other (omega (arith, within, none.count))

-- a network is a branch of its own, whatever is marked
pub own-branch : (net : NetState) (touched : Touched) → AreMarksOf net.plan touched → IsBranch net net touched
own-branch net touched marks = record {
  plan = refl;
  marks = marks;
  elements_same = λ e other within free. refl;
  lines_same = λ l within free. refl;
  signals_same = λ l within free. refl;
  heards_same = λ l within free. refl;
  sources_same = λ s within free. refl;
}
