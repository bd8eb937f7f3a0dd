-- The tree of fewest hops keeps every rule, is orderly, and serves everyone who is in reach of a clock.
use Rattle.std.proofs.Common.{◌≡◌, ◌≢◌, ◌<◌, ◌≤◌, ◌+◌, ℕ, zero, suc, Bool, true, false, not, ◌&&◌, ◌==◌, List, [], ◌∷◌, length, map, filter, Option, None, Some, refl, sym, ap, subst, ◌∙◌, inl, inr, arith, length-append}
use Rattle.std.specs.Prelude.{nat_eq, nat_lt, slice_index, slice_set, unwrap_or, if◌then◌else◌}
use Rattle.std.specs.Option.{option_flatten, option_map_or}
use Rattle.std.specs.List.{list_all, range_with_len}
use Rattle.std.proofs.lemmas.Bool.{false_from_ne_true, and_parts, cases_eq, eqb-true, eq-eqb, ltb-true}
use Rattle.std.proofs.lemmas.List.{length-map, length-set}
use Rattle.std.proofs.lemmas.List.FromFn.{get_or-map-range_with_len, length-map-range_with_len}
use Rattle.std.proofs.lemmas.Option.{none-some, same_Some}
use Rattle.sync_text.specs.Each.{Each}
use Rattle.sync_text.proofs.Each.{Each-kept}
use Rattle.sync_topo.specs.declared.input.InputId.{InputId}
use Rattle.sync_topo.specs.declared.input.InputId.TheVariants.{Line, Source}
use Rattle.sync_topo.specs.declared.link.Link.{Link}
use Rattle.sync_topo.specs.declared.returns.ReturnRule.TheVariants.{Barred, BarredFromLast}
use Rattle.sync_topo.specs.Topology.{Topology}
use Rattle.sync_topo.specs.Limits.{greatest_priority, input_limit}
use Rattle.sync_topo.specs.Lines.{line_count, line_input, is_nominated, sender_of, receiver_of, lines_into, source_priority, element_of_source, sources_at, inputs_of, IsNominated}
use Rattle.sync_topo.specs.Bundles.{line_bundle}
use Rattle.sync_topo.specs.Hops.{bears_on, IsRising}
use Rattle.sync_topo.specs.Ranks.{Circles, Rises}
use Rattle.sync_topo.specs.WellFormed.{IsWellFormed}
use Rattle.sync_topo.proofs.HopLaws.{hop-meets}
use Rattle.sync_topo.proofs.LineLaws.{IsNominated-within}
use Rattle.sync_topo.proofs.Lists.{slice_get-set_same, slice_get-set_other}
use Rattle.net_rules.specs.Inputs.{IsInputOf}
use Rattle.net_rules.proofs.InputLaws.{inputs-are}
use Rattle.net_rules.proofs.PlanLaws.{sender-within, receiver-within}
use Rattle.net_rules.proofs.WalkLaws.{no_cycle}
use Rattle.reach_rules.specs.declared.failure.Failure.TheVariants as fails
use Rattle.reach_rules.specs.Ways.{IsReached}
use Rattle.reach_rules.specs.Protection.{IsServing, IsJoinedBy, IsServed, IsProtectedFrom}
use Rattle.reach_rules.specs.Agreement.{IsAgreedBound}
use Rattle.reach_rules.specs.Failing.{IsFailureBound, is_planned}
use Rattle.reach_rules.proofs.ReachLaws.{input-within}
use Rattle.nominate.specs.HopCount.{Counts, count_at, is_one_less, IsRoot, IsReachedIn, IsCountOf, AreHopCounts}
use Rattle.nominate.specs.Nomination.{count_below, plan_with}
use Rattle.nominate.proofs.BelowLemmas.{below-false, below-but_one}
use Rattle.nominate.proofs.HopLaws.{count-of_walk, closer-of_count, facts-by_counts, one-list}
use Rattle.nominate.proofs.PlanFacts.{with-same, lines-same, sender-same, receiver-same, priority-is, changed-well}
use Rattle.protection.specs.Orderly.{is_apart, IsOfTwoBundles, IsFound}
use Rattle.protection.proofs.SharedLaws.{walks-same, walks-back}
use Rattle.protection.specs.private.Tree.{comes_closer, pick_at, IsPick, ArePicks, tree_priority, IsTree}

-- what is one less
one-less-is : (a b : Option ℕ) → is_one_less a b ≡ true → (hops : ℕ) × (a ≡ Some hops) × (b ≡ Some (suc hops))
one-less-is None b is = cc
one-less-is (Some one) None is = cc
one-less-is (Some one) (Some other) is = let same : other ≡ suc one = omega (arith, eqb-true (one + 1) other is) in (one, refl, ap Some same)

is-one-less : (a b : Option ℕ) (hops : ℕ) → a ≡ Some hops → b ≡ Some (suc hops) → is_one_less a b ≡ true
is-one-less a b hops first second = rw (first, second) (eq-eqb (hops + 1) (suc hops) (omega arith))

pick-is : (o : Option ℕ) (line : ℕ) → option_map_or (λ pick. nat_eq pick line) o false ≡ true → o ≡ Some line
pick-is None line is = cc
pick-is (Some pick) line is = ap Some (eqb-true pick line is)

all-from : {A : Type 0} (P : A → Type 0) (test : A → Bool) (xs : List A) → ((x : A) → P x → test x ≡ true) → Each P xs → list_all test xs ≡ true
all-from P test [] passes each = refl
all-from P test (x ∷ xs) passes each = rw (passes x each.0, all-from P test xs passes each.1) refl

filter-none : (p : ℕ → Bool) (xs : List ℕ) → ((n : ℕ) → p n ≡ false) → filter p xs ≡ []
filter-none p [] none = refl
filter-none p (x ∷ xs) none = rw (none x) (filter-none p xs none)

-- one that is kept
first-kept : (p : ℕ → Bool) (start n : ℕ) → 0 < length (filter p (range_with_len start n)) → (k : ℕ) × (k < start + n) × (p k ≡ true)
first-kept p start zero some = absurd (omega (arith, some))
first-kept p start (suc n) some = by (p start) refl some (λ more. first-kept p (start + 1) n more)
  where
    by : (b : Bool) → p start ≡ b → 0 < length (if b then start ∷ filter p (range_with_len (start + 1) n) else filter p (range_with_len (start + 1) n))
        → (0 < length (filter p (range_with_len (start + 1) n)) → (k : ℕ) × (k < start + 1 + n) × (p k ≡ true))
        → (k : ℕ) × (k < start + suc n) × (p k ≡ true)
    by true is more rest = (start, omega arith, is)
    by false not more rest = let later = rest more in (later.0, omega (arith, later.1), later.2)

-- ---- how lines are picked

pick-set_same : (picks : List (Option ℕ)) (element line : ℕ) → element < length picks → pick_at (slice_set picks element (Some line)) element ≡ Some line
pick-set_same picks element line inside = ap option_flatten (slice_get-set_same picks element (Some line) inside)

pick-set_other : (picks : List (Option ℕ)) (element other line : ℕ) → element ≢ other → pick_at (slice_set picks element (Some line)) other ≡ pick_at picks other
pick-set_other picks element other line apart = ap option_flatten (slice_get-set_other picks element other (Some line) apart)

pub ArePicks-next : (plan : Topology) (counts : Counts) (n : ℕ) (picks : List (Option ℕ)) (receiver : ℕ) → n < line_count plan → receiver ≡ receiver_of plan n
    → receiver < length plan.elements → comes_closer plan counts n ≡ true → ArePicks plan counts n picks
    → ArePicks plan counts (n + 1) (slice_set picks receiver (Some n))
ArePicks-next plan counts n picks receiver within into inside closer are = record {
  counted = length-set picks receiver (Some n) ∙ are.counted;
  only = λ element line there. elim (cases_eq receiver element) [
    | inl same ↦
        let is : n ≡ line =
        same_Some n line (sym (pick-set_same picks receiver n (rw are.counted inside)) ∙ ap (pick_at (slice_set picks receiver (Some n))) same ∙ there) in
        subst (IsPick plan counts element) is (record { within = within; into = sym into ∙ same; closer = closer })
    | inr differs ↦ are.only element line (sym (pick-set_other picks receiver element n differs) ∙ there)
  ];
  each = λ line low comes none. elim (cases_eq receiver (receiver_of plan line)) [
    | inl same ↦
        none-some n (sym none ∙ ap (pick_at (slice_set picks receiver (Some n))) (sym same) ∙ pick-set_same picks receiver n (rw are.counted inside))
    | inr differs ↦ elim (cases_eq line n) [
      | inl last ↦ differs (into ∙ ap (receiver_of plan) (sym last))
      | inr other ↦ are.each line (omega (arith, low, other)) comes (sym (pick-set_other picks receiver (receiver_of plan line) n differs) ∙ none)
    ]
  ];
}

-- priorities that are listed
pub listed-tree : (plan : Topology) (picks : List (Option ℕ)) (priorities : List ℕ) → priorities ≡ map (tree_priority plan picks) (range_with_len 0 (line_count plan))
    → plan_with plan (λ line. slice_index priorities line) ≡ plan_with plan (tree_priority plan picks)
listed-tree plan picks priorities are =
    ap (λ (links : List Link). record plan { links = links })
    (with-same (λ line. slice_index priorities line) (tree_priority plan picks) 0 plan.links
    (λ line low high.
    ap (λ (xs : List ℕ). slice_index xs line) are
    ∙ get_or-map-range_with_len (tree_priority plan picks) 0 (line_count plan) line line 0 (omega (arith, high)) (omega arith)))

module _ (plan : Topology) (counts : Counts) (picks : List (Option ℕ)) (well : IsWellFormed plan) (are : AreHopCounts plan counts)
    (are_picks : ArePicks plan counts (line_count plan) picks) where
  abbrev given : ℕ → ℕ
  given line = tree_priority plan picks line

  abbrev tree : Topology
  tree = plan_with plan (tree_priority plan picks)

  -- a nominated line is picked
  nominated-within : (line : ℕ) → IsNominated tree line → line < line_count plan
  nominated-within line nominated = subst (λ n. line < n) (lines-same plan given) (IsNominated-within tree line nominated)

  given-one : (line : ℕ) → 0 < tree_priority plan picks line → pick_at picks (receiver_of plan line) ≡ Some line
  given-one line some = by (option_map_or (λ pick. nat_eq pick line) (pick_at picks (receiver_of plan line)) false) refl some
    where
      by : (b : Bool) → option_map_or (λ pick. nat_eq pick line) (pick_at picks (receiver_of plan line)) false ≡ b → 0 < (if b then 1 else 0)
          → pick_at picks (receiver_of plan line) ≡ Some line
      by true is positive = pick-is (pick_at picks (receiver_of plan line)) line is
      by false not positive = absurd (omega (arith, positive))

  nominated-picked : (line : ℕ) → IsNominated tree line → pick_at picks (receiver_of plan line) ≡ Some line
  nominated-picked line nominated =
      given-one line (ltb-true 0 (tree_priority plan picks line) (ap (nat_lt 0) (sym (priority-is plan given line (nominated-within line nominated))) ∙ nominated))

  picked-nominated : (element line : ℕ) → pick_at picks element ≡ Some line → IsNominated tree line
  picked-nominated element line is =
      let facts = are_picks.only element line is in
      let one : tree_priority plan picks line ≡ 1 = rw (ap (pick_at picks) facts.into ∙ is, eq-eqb line line refl) refl in
      ap (nat_lt 0) (priority-is plan given line facts.within ∙ one)

  -- it comes closer
  nominated-closer : (line : ℕ) → IsNominated tree line
      → (hops : ℕ) × (count_at counts (sender_of plan line) ≡ Some hops) × (count_at counts (receiver_of plan line) ≡ Some (suc hops))
  nominated-closer line nominated =
      one-less-is (count_at counts (sender_of plan line)) (count_at counts (receiver_of plan line)) (are_picks.only (receiver_of plan line) line (nominated-picked line nominated)).closer

  same-element : (line other : ℕ) → IsNominated tree line → IsNominated tree other → receiver_of tree line ≡ receiver_of tree other → line ≡ other
  same-element line other nominated also into =
      let same : receiver_of plan line ≡ receiver_of plan other = sym (receiver-same plan given line) ∙ into ∙ receiver-same plan given other in
      same_Some line other (sym (nominated-picked line nominated) ∙ ap (pick_at picks) same ∙ nominated-picked other also)

  -- into an element without a clock of its own
  no-sources : (line : ℕ) → IsNominated tree line → sources_at plan (receiver_of plan line) ≡ []
  no-sources line nominated = by (sources_at plan (receiver_of plan line)) refl
    where
      closer : (hops : ℕ) × (count_at counts (sender_of plan line) ≡ Some hops) × (count_at counts (receiver_of plan line) ≡ Some (suc hops))
      closer = nominated-closer line nominated

      by : (sources : List ℕ) → sources_at plan (receiver_of plan line) ≡ sources → sources ≡ []
      by [] is = refl
      by (source ∷ rest) is =
          let root : IsRoot plan (receiver_of plan line) = rw is (omega arith) in
          let nothing = ((facts-by_counts plan counts well are).roots (receiver_of plan line) (receiver-within plan well line (nominated-within line nominated))).1 root in
          absurd (omega (arith, same_Some (suc closer.0) 0 (sym closer.2 ∙ nothing)))

  -- it keeps every rule
  takes : ℕ → ℕ → Bool
  takes element line = is_nominated tree line && receiver_of tree line == element

  takes-is : (element line : ℕ) → takes element line ≡ true → IsNominated tree line × (receiver_of tree line ≡ element)
  unfolding takes
  takes-is element line is = let both = and_parts (is_nominated tree line) (receiver_of tree line == element) is in (both.0, eqb-true (receiver_of tree line) element both.1)

  lines-long : (element : ℕ) → length (lines_into tree element) ≡ count_below (takes element) (line_count tree)
  unfolding count_below takes
  lines-long element = refl

  few-inputs : (element : ℕ) → length (inputs_of tree element) ≤ input_limit
  few-inputs element = by (pick_at picks element) refl
    where
      long : length (inputs_of tree element) ≡ length (lines_into tree element) + length (sources_at plan element)
      long =
          length-append (map line_input (lines_into tree element)) (map Source (sources_at plan element))
          ∙ rw (length-map (lines_into tree element) line_input, length-map (sources_at plan element) Source) refl

      before : length (inputs_of plan element) ≡ length (lines_into plan element) + length (sources_at plan element)
      before =
          length-append (map line_input (lines_into plan element)) (map Source (sources_at plan element))
          ∙ rw (length-map (lines_into plan element) line_input, length-map (sources_at plan element) Source) refl

      picked : (line : ℕ) → takes element line ≡ true → pick_at picks element ≡ Some line
      picked line is =
          let facts = takes-is element line is in
          ap (pick_at picks) (sym (sym (receiver-same plan given line) ∙ facts.1)) ∙ nominated-picked line facts.0

      by : (o : Option ℕ) → pick_at picks element ≡ o → length (inputs_of tree element) ≤ input_limit
      by None none =
          let empty = below-false (takes element) (line_count tree)
          (λ k low. false_from_ne_true (takes element k) (λ is. none-some k (sym none ∙ picked k is))) in
          omega (arith, long, lines-long element, empty, before, well.few_inputs element)
      by (Some pick) is =
          let nominated = picked-nominated element pick is in
          let into : receiver_of plan pick ≡ element = (are_picks.only element pick is).into in
          let none : length (sources_at plan element) ≡ 0 = ap (λ e. length (sources_at plan e)) (sym into) ∙ ap length (no-sources pick nominated) in
          let one = below-but_one (takes element) (λ k. false) (line_count tree) pick
          (λ k low here. inl (same_Some k pick (sym (picked k here) ∙ is))) in
          let others = below-false (λ k. false) (line_count tree) (λ k low. refl) in
          omega (arith, long, lines-long element, one, others, none)

  pub tree-well : IsWellFormed tree
  tree-well = changed-well plan given well fits few-inputs
    where
      fits : (line : ℕ) → tree_priority plan picks line ≤ greatest_priority
      fits line = by (option_map_or (λ pick. nat_eq pick line) (pick_at picks (receiver_of plan line)) false)
        where
          by : (b : Bool) → (if b then 1 else 0) ≤ greatest_priority
          by true = omega arith
          by false = omega arith

  -- counts rise over its lines
  abbrev rank : ℕ → ℕ
  rank line = unwrap_or (count_at counts (sender_of plan line)) 0

  rank-less : (line next : ℕ) → IsNominated tree line → IsNominated tree next → receiver_of tree line ≡ sender_of tree next → rank line < rank next
  rank-less line next nominated also joined =
      let first = nominated-closer line nominated in
      let meet : receiver_of plan line ≡ sender_of plan next = sym (receiver-same plan given line) ∙ joined ∙ sender-same plan given next in
      let there : count_at counts (sender_of plan next) ≡ Some (suc first.0) = ap (count_at counts) (sym meet) ∙ first.2 in
      let low : rank line ≡ first.0 = ap (λ o. unwrap_or o 0) first.1 in
      let high : rank next ≡ suc first.0 = ap (λ o. unwrap_or o 0) there in
      omega (arith, low, high)

  pub tree-rises : IsRising tree rank
  tree-rises line next hop = let meets = hop-meets Barred tree line next hop in rank-less line next meets.from meets.to meets.joined

  pub tree-agrees : Rises (bears_on tree) rank
  tree-agrees line next bears = let meets = hop-meets BarredFromLast tree line next bears in rank-less line next meets.from meets.to meets.joined

  -- hop counts are the plan's
  counts-same : (others : Counts) → AreHopCounts tree others → counts ≡ others
  counts-same others also = one-list plan counts others are (record {
    counted = also.counted;
    each = λ element inside. back element (count_at others element) (also.each element inside);
  })
    where
      back : (element : ℕ) (o : Option ℕ) → IsCountOf tree element o → IsCountOf plan element o
      back element None none = λ links reached. none links (walks-back plan given links element reached)
      back element (Some hops) is = record {
        reached = walks-same plan given hops element is.reached;
        least = λ links reached. is.least links (walks-back plan given links element reached);
      }

  -- each input of an element with a nominated line is this line
  apart : (line : ℕ) → IsNominated tree line → (input : InputId) → IsInputOf tree (receiver_of tree line) input → is_apart tree line input ≡ true
  apart line nominated (Line other) is = rw (eq-eqb other.0 line (same-element other.0 line is.nominated nominated is.of_element)) refl
  apart line nominated (Source source) is = absurd (none-there)
    where
      at : element_of_source plan source ≡ receiver_of plan line
      at = is.of_element ∙ receiver-same plan given line

      none-there : ⊥
      none-there =
          Each-kept (λ s. ⊥) (λ s. nat_lt 0 (source_priority plan s) && element_of_source plan s == receiver_of plan line) 0 (length plan.sources) source
          (subst (Each (λ s. ⊥)) (sym (no-sources line nominated)) tt) (omega arith) (omega (arith, is.has))
          (rw (is.nominated, eq-eqb (element_of_source plan source) (receiver_of plan line) at) refl)

  two : (element : ℕ) → IsOfTwoBundles tree element
  two element = by (pick_at picks element) refl
    where
      by : (o : Option ℕ) → pick_at picks element ≡ o → IsOfTwoBundles tree element
      by None none = record {
        one = 0;
        other = 0;
        each = λ line nominated into.
            absurd (none-some line (sym none ∙ ap (pick_at picks) (sym (sym (receiver-same plan given line) ∙ into)) ∙ nominated-picked line nominated));
      }
      by (Some pick) is = record {
        one = line_bundle tree pick;
        other = line_bundle tree pick;
        each = λ line nominated into.
            let same : line ≡ pick = same_Some line pick (sym (nominated-picked line nominated) ∙ ap (pick_at picks) (sym (receiver-same plan given line) ∙ into) ∙ is) in
            inl (ap (line_bundle tree) same);
      }

  pub tree-found : (bound failures : ℕ) → IsAgreedBound tree bound → IsFailureBound (is_planned tree) tree failures → IsFound plan tree
  tree-found bound failures agreed failed = record {
    renumbered = (given, refl);
    orderly = record {
      well_formed = tree-well;
      two = two;
      apart = λ line nominated. all-from (IsInputOf tree (receiver_of tree line)) (is_apart tree line) (inputs_of tree (receiver_of tree line)) (apart line nominated) (inputs-are tree (receiver_of tree line));
      fewest = λ others also line nominated first.
          let closer = nominated-closer line nominated in
          subst (λ c. is_one_less (count_at c (sender_of tree line)) (count_at c (receiver_of tree line)) ≡ true) (counts-same others also)
          (is-one-less (count_at counts (sender_of tree line)) (count_at counts (receiver_of tree line)) closer.0
          (ap (count_at counts) (sender-same plan given line) ∙ closer.1) (ap (count_at counts) (receiver-same plan given line) ∙ closer.2));
      rising = (rank, tree-rises);
      bound = (bound, agreed);
      failures = (failures, failed);
    };
  }

  -- who has a count is served
  served-by : (hops element : ℕ) → count_at counts element ≡ Some hops → element < length plan.elements → IsServed tree fails.Nothing element
  served-by zero element is inside =
      let root = ((facts-by_counts plan counts well are).roots element inside).0 is in
      let source = first-kept (λ s. nat_lt 0 (source_priority plan s) && element_of_source plan s == element) 0 (length plan.sources) root in
      let both = and_parts (nat_lt 0 (source_priority plan source.0)) (element_of_source plan source.0 == element) source.2 in (
        source.0,
        [],
        record {
          of = record { has = omega (arith, source.1); nominated = both.0; of_element = eqb-true (element_of_source plan source.0) element both.1 };
          kept = refl;
        },
      )
  served-by (suc hops) element is inside =
      let near = closer-of_count plan counts well are element hops is in
      let closer : comes_closer plan counts near.0 ≡ true =
      is-one-less (count_at counts (sender_of plan near.0)) (count_at counts (receiver_of plan near.0)) hops near.3 (ap (count_at counts) near.2 ∙ is) in
      picked (pick_at picks element) refl (λ none. are_picks.each near.0 near.1 closer (ap (pick_at picks) near.2 ∙ none))
      (λ sender counted within. served-by hops sender counted within)
    where
      picked : (o : Option ℕ) → pick_at picks element ≡ o → (o ≡ None → ⊥)
          → ((sender : ℕ) → count_at counts sender ≡ Some hops → sender < length plan.elements → IsServed tree fails.Nothing sender)
          → IsServed tree fails.Nothing element
      picked None none some before = absurd (some refl)
      picked (Some line) here some before =
          let facts = are_picks.only element line here in
          let nominated = picked-nominated element line here in
          let less = nominated-closer line nominated in
          let same : less.0 ≡ hops = omega (arith, same_Some (suc less.0) (suc hops) (sym less.2 ∙ ap (count_at counts) facts.into ∙ is)) in
          let way = before (sender_of plan line) (less.1 ∙ ap Some same) (sender-within plan well line facts.within) in (
            way.0,
            line ∷ way.1,
            (
              record {
                of = record {
                  has = subst (λ n. line < n) (sym (lines-same plan given)) facts.within;
                  nominated = nominated;
                  of_element = receiver-same plan given line ∙ facts.into;
                };
                kept = refl;
              },
              subst (IsReached tree (IsServing tree fails.Nothing) way.0 way.1) (sym (sender-same plan given line)) way.2,
            ),
          )

  -- and who is in reach has one
  reach-walk : (source : ℕ) (way : List ℕ) (element : ℕ) → IsReached tree (IsJoinedBy tree fails.Nothing) source way element
      → (links : ℕ) × IsReachedIn plan links element × (element < length plan.elements)
  reach-walk source [] element serves = (0, root, input-within tree element (Source source) tree-well serves.of)
    where
      root : IsRoot plan element
      root = by (sources_at plan element) refl
        where
          by : (sources : List ℕ) → sources_at plan element ≡ sources → 0 < length sources
          by (s ∷ rest) is = omega arith
          by [] none =
              absurd (Each-kept (λ s. ⊥) (λ s. nat_lt 0 (source_priority plan s) && element_of_source plan s == element) 0 (length plan.sources) source
              (subst (Each (λ s. ⊥)) (sym none) tt) (omega arith) (omega (arith, serves.of.has))
              (rw (serves.of.nominated, eq-eqb (element_of_source plan source) element serves.of.of_element) refl))
  reach-walk source (line ∷ rest) element (joins, before) =
      let earlier = reach-walk source rest (sender_of tree line) before in
      let within : line < line_count plan = subst (λ n. line < n) (lines-same plan given) joins.within in
      let into : receiver_of plan line ≡ element = sym (receiver-same plan given line) ∙ joins.into in (
        suc earlier.0,
        (line, within, into, subst (IsReachedIn plan earlier.0) (sender-same plan given line) earlier.1),
        subst (λ e. e < length plan.elements) into (receiver-within plan well line within),
      )

  pub tree-serves : IsProtectedFrom tree fails.Nothing
  tree-serves element (source, way, reached) =
      let walk = reach-walk source way element reached in
      let counted = count-of_walk plan counts well are walk.0 element walk.1 in
      served-by counted.0 element counted.1 walk.2

-- by the priorities that are listed
pub listed-well : (plan : Topology) (counts : Counts) (picks : List (Option ℕ)) (priorities : List ℕ) → IsWellFormed plan → AreHopCounts plan counts
    → ArePicks plan counts (line_count plan) picks → priorities ≡ map (tree_priority plan picks) (range_with_len 0 (line_count plan))
    → IsWellFormed (plan_with plan (λ line. slice_index priorities line))
listed-well plan counts picks priorities well are are_picks listed =
    subst IsWellFormed (sym (listed-tree plan picks priorities listed)) (tree-well plan counts picks well are are_picks)

pub listed-long : (plan : Topology) (picks : List (Option ℕ)) (priorities : List ℕ) → priorities ≡ map (tree_priority plan picks) (range_with_len 0 (line_count plan))
    → length priorities ≡ line_count plan
listed-long plan picks priorities listed = ap length listed ∙ length-map-range_with_len (tree_priority plan picks) 0 (line_count plan)

-- so of a tree
pub found-tree : (plan made : Topology) (bound failures : ℕ) → (is : IsTree plan made) → IsAgreedBound made bound → IsFailureBound (is_planned made) made failures
    → IsFound plan made
found-tree plan made bound failures is agreed failed =
    subst (IsFound plan) (sym is.is)
    (tree-found plan is.counts is.picks is.well_formed is.are is.are_picks bound failures (subst (λ p. IsAgreedBound p bound) is.is agreed)
    (subst (λ p. IsFailureBound (is_planned p) p failures) is.is failed))

pub serves-tree : (plan made : Topology) → IsTree plan made → IsProtectedFrom made fails.Nothing
serves-tree plan made is =
    subst (λ p. IsProtectedFrom p fails.Nothing) (sym is.is) (tree-serves plan is.counts is.picks is.well_formed is.are is.are_picks)

pub agrees-tree : (plan made : Topology) (lines : List ℕ) → IsTree plan made → Circles (bears_on made) lines → ⊥
agrees-tree plan made lines is circles =
    no_cycle (bears_on (plan_with plan (tree_priority plan is.picks))) (rank plan is.counts is.picks is.well_formed is.are is.are_picks)
    (tree-agrees plan is.counts is.picks is.well_formed is.are is.are_picks) lines (subst (λ p. Circles (bears_on p) lines) is.is circles)
