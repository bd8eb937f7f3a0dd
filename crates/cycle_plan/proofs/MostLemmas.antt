-- The greatest count of the chains into an element, with one line more: over any count that goes line by line.
use Rattle.std.proofs.Common.{◌≡◌, ℕ, ◌+◌, ◌<◌, ◌≤◌, Bool, true, false, List, [], ◌∷◌, length, Some, refl, sym, ap, subst, ◌∙◌, inl, inr, arith}
use Rattle.std.specs.Prelude.{◌≢◌, ◌⊎◌, if◌then◌else◌}
use Rattle.std.proofs.lemmas.Bool.{cases_lt}
use Rattle.std.proofs.lemmas.Option.{same_Some}
use Rattle.std.proofs.lemmas.List.Sums.{sum_by-cons}
use Rattle.sync_topo.specs.declared.input.LineId.{LineId}
use Rattle.sync_topo.specs.declared.returns.ReturnRule.TheVariants.{Barred}
use Rattle.sync_topo.specs.Topology.{Topology}
use Rattle.sync_topo.specs.Lines.{IsNominated, sender_of, receiver_of}
use Rattle.sync_topo.specs.Bundles.{line_bundle}
use Rattle.sync_topo.specs.Hops.{Hops}
use Rattle.reach_rules.specs.Chains.{begins_at_filter, LeadTo, IsChain, since_of, clocks_of, IsGreatestOf}
use Rattle.cycle_plan.specs.private.Peeling.{line_in, IsAmongFirst}
use Rattle.cycle_plan.specs.private.Mosts.{IsCounted, IsMost, links_step, since_step, clocks_step}
use Rattle.cycle_plan.specs.declared.greatest.Greatest.{Greatest}
use Rattle.cycle_plan.specs.private.Greatest.{no_greatest, greatest_but, raised_greatest}
use Rattle.cycle_plan.proofs.GreatestLaws.{IsGreatestWay-none, IsGreatestWay-same, IsGreatestWay-raised, IsBelow-raised, IsBelow-more, above-but, reached-but}
use Rattle.cycle_plan.proofs.HopFacts.{hop_parts, hop_from}

-- a count that goes line by line, and grows with what is counted before
pub record IsCount (plan : Topology) (count : List ℕ → ℕ) (step : Bool → ℕ → ℕ) : Type 0 where
  pub nothing : count [] ≡ 0
  pub line : (line : ℕ) (before : List ℕ) → count (line ∷ before) ≡ step (begins_at_filter plan line) (count before)
  pub grows : (filters : Bool) (few many : ℕ) → few ≤ many → step filters few ≤ step filters many
  pub slow : (filters : Bool) (before : ℕ) → step filters before ≤ before + 1

-- all three are
pub links_count : (plan : Topology) → IsCount plan length links_step
links_count plan = record {
  nothing = refl;
  line = λ line before. refl;
  grows = λ filters few many less. omega (arith, less);
  slow = λ filters before. omega arith;
}

pub since_count : (plan : Topology) → IsCount plan (since_of plan) since_step
since_count plan = record { nothing = refl; line = λ line before. refl; grows = grows; slow = slow }
  where
    grows : (filters : Bool) (few many : ℕ) → few ≤ many → since_step filters few ≤ since_step filters many
    grows true few many less = omega arith
    grows false few many less = omega (arith, less)

    slow : (filters : Bool) (before : ℕ) → since_step filters before ≤ before + 1
    slow true before = omega arith
    slow false before = omega arith

pub clocks_count : (plan : Topology) → IsCount plan (clocks_of plan) clocks_step
clocks_count plan = record {
  nothing = refl;
  line = λ line before.
      sum_by-cons (λ l. if begins_at_filter plan l then 1 else 0) line before ∙ one (begins_at_filter plan line) (clocks_of plan before);
  grows = grows;
  slow = slow;
}
  where
    one : (filters : Bool) (before : ℕ) → (if filters then 1 else 0) + before ≡ clocks_step filters before
    one true before = omega arith
    one false before = omega arith

    grows : (filters : Bool) (few many : ℕ) → few ≤ many → clocks_step filters few ≤ clocks_step filters many
    grows true few many less = omega (arith, less)
    grows false few many less = less

    slow : (filters : Bool) (before : ℕ) → clocks_step filters before ≤ before + 1
    slow true before = omega arith
    slow false before = omega arith

-- the greatest count of the chains that end in a line
pub record IsLineMost (plan : Topology) (count : List ℕ → ℕ) (line greatest : ℕ) : Type 0 where
  pub above : (before : List ℕ) → LeadTo plan line before → count (line ∷ before) ≤ greatest
  pub reached : (before : List ℕ) × LeadTo plan line before × (count (line ∷ before) ≡ greatest)

-- what is known of the chains into a line's sender, once all lines that hop to it are done
module _ (plan : Topology) (order : List LineId) (n line : ℕ) (count : List ℕ → ℕ) (step : Bool → ℕ → ℕ) (most : Greatest)
    (counts : IsCount plan count step) (nominated : IsNominated plan line)
    (done : (from : ℕ) → Hops plan from line → IsAmongFirst order n from)
    (is : IsMost plan order n (sender_of plan line) count most) where
  abbrev own_bundle : ℕ
  own_bundle = line_bundle plan line

  -- no chain that leads to the line counts more
  below : (before : List ℕ) → LeadTo plan line before → count before ≤ greatest_but most own_bundle
  below [] leads = let none = counts.nothing in omega (arith, none)
  below (from ∷ rest) leads =
      let parts = hop_parts Barred plan from line leads.0 in
      above-but (IsCounted plan order n (sender_of plan line) count) most own_bundle is.is (line_bundle plan from) (count (from ∷ rest)) (record {
        line = from;
        before = rest;
        first = done from leads.0;
        chain = (parts.0, parts.2, leads.1);
        bundle_is = refl;
        counted_is = refl;
      }) parts.3

  -- and one counts as much
  reached : (before : List ℕ) × LeadTo plan line before × (count before ≡ greatest_but most own_bundle)
  reached = elim (reached-but (IsCounted plan order n (sender_of plan line) count) most own_bundle is.is) [
    | inl none ↦ ([], tt, counts.nothing ∙ sym none)
    | inr some ↦
        let way = some.1 in (
          way.line ∷ way.before,
          (hop_from Barred plan way.line line way.chain.0 nominated way.chain.1 (λ same. some.2 (sym way.bundle_is ∙ same)), way.chain.2),
          way.counted_is,
        )
  ]

  pub line_most : IsLineMost plan count line (step (begins_at_filter plan line) (greatest_but most own_bundle))
  line_most = record {
    above = λ before leads. let more = counts.grows (begins_at_filter plan line) (count before) (greatest_but most own_bundle) (below before leads) in
        rw (counts.line line before) more;
    reached = (reached.0, reached.1, counts.line line reached.0 ∙ ap (step (begins_at_filter plan line)) reached.2);
  }

-- what stands among the first n stands among one more
pub more_first : (order : List LineId) (n line : ℕ) → IsAmongFirst order n line → IsAmongFirst order (n + 1) line
more_first order n line first = record { place = first.place; early = omega (arith, first.early); there = first.there }

-- what stands among n + 1 stands among n, or is the line at place n
pub one_less : (order : List LineId) (n line other : ℕ) → line_in order n ≡ Some line → IsAmongFirst order (n + 1) other
    → IsAmongFirst order n other ⊎ (line ≡ other)
one_less order n line other here first = elim (cases_lt first.place n) [
  | inl early ↦ inl (record { place = first.place; early = early; there = first.there })
  | inr late ↦
      let at : n ≡ first.place = omega (arith, first.early, late) in
      inr (same_Some line other (sym here ∙ ap (λ place. line_in order place) at ∙ first.there))
]

more_counted : (plan : Topology) (order : List LineId) (n element : ℕ) (count : List ℕ → ℕ) (bundle counted : ℕ)
    → IsCounted plan order n element count bundle counted → IsCounted plan order (n + 1) element count bundle counted
more_counted plan order n element count bundle counted is = record {
  line = is.line;
  before = is.before;
  first = more_first order n is.line is.first;
  chain = is.chain;
  bundle_is = is.bundle_is;
  counted_is = is.counted_is;
}

-- a chain is counted before, or it ends in the line at place n
one_counted : (plan : Topology) (order : List LineId) (n element line : ℕ) (count : List ℕ → ℕ) (bundle counted : ℕ) → line_in order n ≡ Some line
    → (way : IsCounted plan order (n + 1) element count bundle counted) → IsCounted plan order n element count bundle counted ⊎ (line ≡ way.line)
one_counted plan order n element line count bundle counted here way = elim (one_less order n line way.line here way.first) [
  | inl first ↦ inl (record {
    line = way.line;
    before = way.before;
    first = first;
    chain = way.chain;
    bundle_is = way.bundle_is;
    counted_is = way.counted_is;
  })
  | inr same ↦ inr same
]

-- before any line is done
pub IsMost-none : (plan : Topology) (order : List LineId) (element : ℕ) (count : List ℕ → ℕ) → IsMost plan order 0 element count no_greatest
IsMost-none plan order element count = record {
  is = IsGreatestWay-none (IsCounted plan order 0 element count) (λ bundle counted way. let early = way.first.early in absurd (omega (arith, early)));
  few = record { most = omega arith; without = omega arith };
}

-- another element's chains stay as they are
pub IsMost-other : (plan : Topology) (order : List LineId) (n element line : ℕ) (count : List ℕ → ℕ) (most : Greatest) → line_in order n ≡ Some line
    → receiver_of plan line ≢ element → IsMost plan order n element count most → IsMost plan order (n + 1) element count most
IsMost-other plan order n element line count most here elsewhere is = record {
  is = IsGreatestWay-same (IsCounted plan order n element count) (IsCounted plan order (n + 1) element count) most (more_counted plan order n element count)
      (λ bundle counted way. elim (one_counted plan order n element line count bundle counted here way) [
        | inl old ↦ old
        | inr same ↦ absurd (elsewhere (ap (receiver_of plan) same ∙ way.chain.1))
      ]) is.is;
  few = IsBelow-more most n (n + 1) (omega arith) is.few;
}

-- the chains that end in the line at place n come to those into its receiver
pub IsMost-raised : (plan : Topology) (order : List LineId) (n line : ℕ) (count : List ℕ → ℕ) (most : Greatest) (new : ℕ) → line_in order n ≡ Some line
    → IsNominated plan line → IsLineMost plan count line new → new ≤ n + 1 → IsMost plan order n (receiver_of plan line) count most
    → IsMost plan order (n + 1) (receiver_of plan line) count (raised_greatest most (line_bundle plan line) new)
IsMost-raised plan order n line count most new here nominated line_is small is = record {
  is = IsGreatestWay-raised (IsCounted plan order n (receiver_of plan line) count) (IsCounted plan order (n + 1) (receiver_of plan line) count) most
      (line_bundle plan line) new last (more_counted plan order n (receiver_of plan line) count) old_or_new is.is;
  few = IsBelow-raised most (line_bundle plan line) new (n + 1) (IsBelow-more most n (n + 1) (omega arith) is.few) small;
}
  where
    last : IsCounted plan order (n + 1) (receiver_of plan line) count (line_bundle plan line) new
    last = record {
      line = line;
      before = line_is.reached.0;
      first = record { place = n; early = omega arith; there = here };
      chain = (nominated, refl, line_is.reached.1);
      bundle_is = refl;
      counted_is = line_is.reached.2;
    }

    old_or_new : (bundle counted : ℕ) → IsCounted plan order (n + 1) (receiver_of plan line) count bundle counted
        → IsCounted plan order n (receiver_of plan line) count bundle counted ⊎ ((line_bundle plan line ≡ bundle) × (counted ≤ new))
    old_or_new bundle counted way = elim (one_counted plan order n (receiver_of plan line) line count bundle counted here way) [
      | inl old ↦ inl old
      | inr same ↦
          let leads = subst (λ l. LeadTo plan l way.before) (sym same) way.chain.2 in
          inr (
            ap (λ l. line_bundle plan l) same ∙ way.bundle_is,
            subst (λ c. c ≤ new) (ap (λ l. count (l ∷ way.before)) same ∙ way.counted_is) (line_is.above way.before leads),
          )
    ]

-- once all nominated lines are done, it is the greatest
pub IsMost-all : (plan : Topology) (order : List LineId) (n element : ℕ) (count : List ℕ → ℕ) (most : Greatest) → count [] ≡ 0
    → ((line : ℕ) → IsNominated plan line → IsAmongFirst order n line) → IsMost plan order n element count most → IsGreatestOf plan element count most.most
IsMost-all plan order n element count most nothing all is = record { most = above; reached = reached }
  where
    above : (chain : List ℕ) → IsChain plan element chain → count chain ≤ most.most
    above [] chain = omega (arith, nothing)
    above (line ∷ before) chain = is.is.above (line_bundle plan line) (count (line ∷ before)) (record {
      line = line;
      before = before;
      first = all line chain.0;
      chain = chain;
      bundle_is = refl;
      counted_is = refl;
    })

    reached : (chain : List ℕ) × IsChain plan element chain × (count chain ≡ most.most)
    reached = elim is.is.reached [
      | inl none ↦ ([], tt, nothing ∙ sym none)
      | inr some ↦ (some.1.line ∷ some.1.before, some.1.chain, some.1.counted_is)
    ]
