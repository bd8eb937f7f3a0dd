-- Walks, and lines that are ranked once all that hop to them are: over any test of hops.
use Rattle.std.proofs.Common.{◌≡◌, ℕ, ◌≤◌, zero, suc, Bool, Option, Some, None, refl, sym, subst, ◌∙◌, inl, inr, arith}
use Rattle.std.specs.Prelude.{◌≢◌, ◌⊎◌, IsTrue, unwrap_or}
use Rattle.std.proofs.lemmas.Bool.{true≢false}
use Rattle.sync_topo.specs.Ranks.{HopTest, Rises, HasWalk, IsLeastRank, AreLeastRanks, IsResidue}
use Rattle.cycle_plan.specs.private.Peeling.{AreExact, IsPeeled}

-- as many hops as the rank says lead to a line
walk_of : (hop : HopTest) (rank_at : ℕ → Option ℕ) → AreExact hop rank_at → (rank line : ℕ) → rank_at line ≡ Some rank → HasWalk hop rank line
walk_of hop rank_at exact zero line ranked = tt
walk_of hop rank_at exact (suc rank) line ranked = elim (exact line (suc rank) ranked).reached [
  | inl none ↦ absurd (omega (arith, none))
  | inr some ↦
      let lower : some.1 ≡ rank = omega (arith, some.4) in
      (some.0, some.2, walk_of hop rank_at exact rank some.0 (subst (λ r. rank_at some.0 ≡ Some r) lower some.3))
]

-- no walk is longer
no_longer : (hop : HopTest) (rank_at : ℕ → Option ℕ) → AreExact hop rank_at → (hops line rank : ℕ) → rank_at line ≡ Some rank → HasWalk hop hops line → hops ≤ rank
no_longer hop rank_at exact zero line rank ranked walk = omega arith
no_longer hop rank_at exact (suc hops) line rank ranked walk =
    let lower = (exact line rank ranked).above walk.0 walk.1 in
    let rest = no_longer hop rank_at exact hops walk.0 lower.0 lower.1 walk.2 in
    omega (arith, rest, lower.2)

pub least_of : (hop : HopTest) (rank_at : ℕ → Option ℕ) → AreExact hop rank_at → (line rank : ℕ) → rank_at line ≡ Some rank → IsLeastRank hop line rank
least_of hop rank_at exact line rank ranked = record {
  walked = walk_of hop rank_at exact rank line ranked;
  longest = λ hops walk. no_longer hop rank_at exact hops line rank ranked walk;
}

-- a rank that isn't none
pub some_rank : (o : Option ℕ) → o ≢ None → (rank : ℕ) × (o ≡ Some rank)
some_rank None never = absurd (never refl)
some_rank (Some rank) some = (rank, refl)

-- a line without one, or with one
rank_or_none : (o : Option ℕ) → (o ≡ None) ⊎ ((rank : ℕ) × (o ≡ Some rank))
rank_or_none None = inl refl
rank_or_none (Some rank) = inr (rank, refl)

-- where each nominated line is ranked, the ranks are the least
pub least_ranks : (hop : HopTest) (nominated : ℕ → Bool) (rank_at : ℕ → Option ℕ) → IsPeeled hop nominated rank_at
    → ((line : ℕ) → IsTrue (nominated line) → rank_at line ≢ None) → AreLeastRanks hop nominated rank_at
least_ranks hop nominated rank_at peeled all = record {
  least = λ line is_nominated.
      let some = some_rank (rank_at line) (all line is_nominated) in
      (some.0, some.1, least_of hop rank_at peeled.exact line some.0 some.1);
  none = λ line not_nominated. elim (rank_or_none (rank_at line)) [
    | inl none ↦ none
    | inr some ↦ absurd (true≢false (sym (peeled.only line some.0 some.1) ∙ not_nominated))
  ];
}

-- and they rise
pub ranks_rise : (hop : HopTest) (nominated : ℕ → Bool) (rank_at : ℕ → Option ℕ) → ((line next : ℕ) → IsTrue (hop line next) → IsTrue (nominated next))
    → IsPeeled hop nominated rank_at → ((line : ℕ) → IsTrue (nominated line) → rank_at line ≢ None) → Rises hop (λ line. unwrap_or (rank_at line) 0)
ranks_rise hop nominated rank_at into peeled all line next hops =
    let some = some_rank (rank_at next) (all next (into line next hops)) in
    let lower = (peeled.exact next some.0 some.1).above line hops in
    rw (some.1, lower.1) lower.2

-- walks of every length end in what is left over
pub endless : (hop : HopTest) (nominated : ℕ → Bool) (rank_at : ℕ → Option ℕ) → ((line next : ℕ) → IsTrue (hop line next) → IsTrue (nominated line))
    → IsPeeled hop nominated rank_at → (hops line : ℕ) → IsTrue (nominated line) → rank_at line ≡ None → HasWalk hop hops line
endless hop nominated rank_at from peeled zero line is_nominated left = tt
endless hop nominated rank_at from peeled (suc hops) line is_nominated left =
    let before = peeled.stuck line is_nominated left in
    (before.0, before.1, endless hop nominated rank_at from peeled hops before.0 (from before.0 line before.1) before.2)

-- what has a rank is not in the residue
pub residue_unranked : (hop : HopTest) (rank_at : ℕ → Option ℕ) → AreExact hop rank_at → (line : ℕ) → IsResidue hop line → rank_at line ≡ None
residue_unranked hop rank_at exact line residue = elim (rank_or_none (rank_at line)) [
  | inl none ↦ none
  | inr some ↦ let more = no_longer hop rank_at exact (suc some.0) line some.0 some.1 (residue (suc some.0)) in absurd (omega (arith, more))
]

-- what is in the residue is hopped to
pub residue_nominated : (hop : HopTest) (nominated : ℕ → Bool) → ((line next : ℕ) → IsTrue (hop line next) → IsTrue (nominated next)) → (line : ℕ) → IsResidue hop line
    → IsTrue (nominated line)
residue_nominated hop nominated into line residue = let walk = residue 1 in into walk.0 line walk.1

-- rising ranks bound the walks
below_rank : (hop : HopTest) (rank : ℕ → ℕ) → Rises hop rank → (hops line : ℕ) → HasWalk hop hops line → hops ≤ rank line
below_rank hop rank rises zero line walk = omega arith
below_rank hop rank rises (suc hops) line walk =
    let rest = below_rank hop rank rises hops walk.0 walk.2 in
    let less = rises walk.0 line walk.1 in
    omega (arith, rest, less)

-- where a line is left over no ranks rise
pub none_rise : (hop : HopTest) (rank : ℕ → ℕ) (line : ℕ) → IsResidue hop line → Rises hop rank → ⊥
none_rise hop rank line residue rises =
    let more = below_rank hop rank rises (suc (rank line)) line (residue (suc (rank line))) in
    omega (arith, more)

-- a line has one least rank
pub one_least : (hop : HopTest) (line least other : ℕ) → IsLeastRank hop line least → IsLeastRank hop line other → least ≡ other
one_least hop line least other first second =
    let below = second.longest least first.walked in
    let above = first.longest other second.walked in
    omega (arith, below, above)

-- no ranks that rise are lower
pub lowest_rank : (hop : HopTest) (rank : ℕ → ℕ) → Rises hop rank → (line least : ℕ) → IsLeastRank hop line least → least ≤ rank line
lowest_rank hop rank rises line least is = below_rank hop rank rises least line is.walked
