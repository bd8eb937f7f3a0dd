-- What the trials of a plan come to, and that its failures are those of the plan it was made of.
use Rattle.std.proofs.Common.{◌≡◌, ◌<◌, ◌⊎◌, ℕ, ◌&&◌, ◌==◌, true, List, [], length, get_or, Option, None, Some, slice_get, refl, sym, ap, subst, ◌∙◌}
use Rattle.std.specs.Prelude.{◌||◌, find, is_some, nat_eq, unwrap_or}
use Rattle.std.specs.List.{All, range_with_len}
use Rattle.std.proofs.Math.Path.{fun_ext}
use Rattle.std.proofs.lemmas.Bool.{eqb-true}
use Rattle.std.proofs.lemmas.List.{nil_from_length}
use Rattle.sync_topo.specs.declared.link.Link.{Link}
use Rattle.sync_topo.specs.Topology.{Topology}
use Rattle.sync_topo.specs.Lines.{receiver_of, IsNominated}
use Rattle.sync_topo.specs.Bundles.{is_same_bundle, bundle_name, lowest_of_bundle, bundle_of, line_bundle}
use Rattle.reach_rules.specs.declared.failure.Failure.{Failure}
use Rattle.reach_rules.specs.declared.failure.Failure.TheVariants as fails
use Rattle.reach_rules.specs.Protection.{is_first_of_bundle}
use Rattle.nominate.specs.Nomination.{with_priorities, plan_with}
use Rattle.nominate.proofs.PlanFacts.{with-long, with-get}
use Rattle.protection.specs.declared.gap.Gap.{Gap}
use Rattle.protection.specs.Gaps.{IsNamed, IsGapIn}
use Rattle.protection.specs.Orderly.{IsOfTwoBundles, IsFound}
use Rattle.protection.specs.private.Trying.{bundle_at}

-- two bundles of each element's, by two lists
pub two-from : (plan : Topology) (firsts seconds : List (Option ℕ))
    → ((line : ℕ) → IsNominated plan line → (line_bundle plan line ≡ bundle_at firsts (receiver_of plan line)) ⊎ (line_bundle plan line ≡ bundle_at seconds (receiver_of plan line)))
    → (element : ℕ) → IsOfTwoBundles plan element
two-from plan firsts seconds facts element = record {
  one = bundle_at firsts element;
  other = bundle_at seconds element;
  each = λ line nominated into.
      subst (λ e. (line_bundle plan line ≡ bundle_at firsts e) ⊎ (line_bundle plan line ≡ bundle_at seconds e)) into (facts line nominated);
}

-- the names of bundles are as they were
names-same : (links : List Link) (f : ℕ → ℕ) → bundle_name (with_priorities f 0 links) ≡ bundle_name links
names-same links f = fun_ext (λ k. by k (slice_get links k) refl)
  where
    by : (k : ℕ) (o : Option Link) → slice_get links k ≡ o → bundle_name (with_priorities f 0 links) k ≡ bundle_name links k
    by k None at = rw (with-get f 0 k links, at) refl
    by k (Some link) at = rw (with-get f 0 k links, at) refl

abbrev lowest_by : (ℕ → Option (List ℕ)) → ℕ → ℕ → ℕ
lowest_by names count link =
    unwrap_or (find (λ other. other == link || is_same_bundle (names other) (names link)) (range_with_len 0 count)) link

-- and so is which link is the first of its bundle
bundle-same : (plan : Topology) (f : ℕ → ℕ) (link : ℕ) → bundle_of (plan_with plan f) link ≡ bundle_of plan link
unfolding lowest_of_bundle
bundle-same plan f link =
    ap (λ (names : ℕ → Option (List ℕ)). lowest_by names (length (with_priorities f 0 plan.links)) link) (names-same plan.links f)
    ∙ ap (λ (count : ℕ). lowest_by (bundle_name plan.links) count link) (with-long f 0 plan.links)

first-same : (plan : Topology) (f : ℕ → ℕ) (link : ℕ) → is_first_of_bundle (plan_with plan f) link ≡ is_first_of_bundle plan link
first-same plan f link =
    ap (λ (names : ℕ → Option (List ℕ)). is_some (names link) && nat_eq (bundle_of (plan_with plan f) link) link) (names-same plan.links f)
    ∙ ap (λ (bundle : ℕ). is_some (bundle_name plan.links link) && nat_eq bundle link) (bundle-same plan f link)

-- its failures are the plan's
failure-same : (plan : Topology) (f : ℕ → ℕ) (failure : Failure) → IsNamed (plan_with plan f) failure → IsNamed plan failure
failure-same plan f fails.Nothing is = is
failure-same plan f (fails.Link link) is = subst (λ n. link < n) (with-long f 0 plan.links) is
failure-same plan f (fails.Bundle link) is = (subst (λ n. link < n) (with-long f 0 plan.links) is.0, sym (first-same plan f link) ∙ is.1)
failure-same plan f (fails.Source source) is = is
failure-same plan f (fails.Element element) is = is
failure-same plan f (fails.Group group) is = is

gap-in : (plan found : Topology) (gap : Gap) → IsFound plan found → IsGapIn found gap → IsGapIn plan gap
gap-in plan found gap is within =
    let f = is.renumbered.0 in
    let there : IsGapIn (plan_with plan f) gap = subst (λ p. IsGapIn p gap) is.renumbered.1 within in
    record { failure = failure-same plan f gap.failure there.failure; first = there.first }

-- so each row is of a failure and an element of the plan
pub gaps-in : (plan found : Topology) (gaps : List Gap) → IsFound plan found → All (IsGapIn found) gaps → All (IsGapIn plan) gaps
gaps-in plan found gaps is within = λ k other inside. gap-in plan found (get_or gaps k other) is (within k other inside)

-- rows of which there are none
pub empty-is : (gaps : List Gap) → (length gaps == 0) ≡ true → gaps ≡ []
empty-is gaps none = nil_from_length gaps (eqb-true (length gaps) 0 none)
