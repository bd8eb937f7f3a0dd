-- The three local facts hold of the hop counts, and of no other list.
use Rattle.std.proofs.Common.{◌≡◌, ℕ, zero, suc, ◌+◌, ◌-◌, ◌%◌, ◌<◌, ◌≤◌, Bool, true, false, [], ◌∷◌, length, Option, Some, None, refl, sym, ap, subst, ◌∙◌, arith}
use Rattle.std.specs.Prelude.{if◌then◌else◌, ◌==◌}
use Rattle.std.proofs.lemmas.Bool.{and_parts, eqb-true}
use Rattle.std.proofs.lemmas.Option.{none-some, same_Some}
use Rattle.sync_topo.specs.Topology.{Topology}
use Rattle.sync_topo.specs.Lines.{line_count, sender_of, receiver_of, reverse_of, ends_at_b}
use Rattle.sync_topo.specs.Bundles.{are_bundled}
use Rattle.sync_topo.specs.WellFormed.{IsWellFormed}
use Rattle.sync_topo.proofs.BundleLaws.{back-reverse, back-ends_where_begins}
use Rattle.net_rules.proofs.PlanLaws.{receiver-within}
use Rattle.nominate.specs.HopCount.{Counts, count_at, IsReachedIn, IsCountOf, AreHopCounts}
use Rattle.nominate.specs.LocalFacts.{AreNear, HasNeighbour, AreLocallyRight}
use Rattle.nominate.specs.private.Searching.{IsSearching, AreLed}
use Rattle.nominate.specs.declared.search.HopSearch.{HopSearch}
use Rattle.nominate.proofs.CountLemmas.{count-within}
use Rattle.nominate.proofs.SourceLemmas.{root-within}

-- the other direction of a line
pub reverse-within : (plan : Topology) (line : ℕ) → line < line_count plan → reverse_of line < line_count plan
reverse-within plan line within = by (ends_at_b line) refl
  where
    by : (b : Bool) → ends_at_b line ≡ b → (if b then line + 1 else line - 1) < line_count plan
    by true even = let e : line % 2 ≡ 0 = eqb-true (line % 2) 0 even in omega (arith, e, within)
    by false odd = omega (arith, within)

pub reverse-begins : (plan : Topology) (line : ℕ) → line < line_count plan → sender_of plan (reverse_of line) ≡ receiver_of plan line
reverse-begins plan line within =
    let both = and_parts (receiver_of plan line == sender_of plan (reverse_of line)) (are_bundled plan line (reverse_of line)) (back-reverse plan line within) in
    sym (eqb-true (receiver_of plan line) (sender_of plan (reverse_of line)) both.0)

pub reverse-ends : (plan : Topology) (line : ℕ) → IsWellFormed plan → line < line_count plan → receiver_of plan (reverse_of line) ≡ sender_of plan line
reverse-ends plan line well within =
    back-ends_where_begins plan line (reverse_of line) well within (reverse-within plan line within) (back-reverse plan line within)

-- a walk on over one more line
pub reached-further : (plan : Topology) (line links : ℕ) → line < line_count plan → IsReachedIn plan links (sender_of plan line) → IsReachedIn plan (suc links) (receiver_of plan line)
reached-further plan line links within reached = (line, within, refl, reached)

-- and back over it
pub reached-back : (plan : Topology) (line links : ℕ) → IsWellFormed plan → line < line_count plan → IsReachedIn plan links (receiver_of plan line) → IsReachedIn plan (suc links) (sender_of plan line)
reached-back plan line links well within reached = (
  reverse_of line,
  reverse-within plan line within,
  reverse-ends plan line well within,
  subst (IsReachedIn plan links) (sym (reverse-begins plan line within)) reached,
)

reached-within : (plan : Topology) (links element : ℕ) → IsWellFormed plan → IsReachedIn plan links element → element < length plan.elements
reached-within plan zero element well reached = root-within plan element well reached
reached-within plan (suc links) element well reached = subst (λ e. e < length plan.elements) reached.2 (receiver-within plan well reached.0 reached.1)

-- ---- the local facts give the counts

-- a count is that of a walk
walked : (plan : Topology) (counts : Counts) (hops element : ℕ) → AreLocallyRight plan counts → element < length plan.elements → count_at counts element ≡ Some hops → IsReachedIn plan hops element
walked plan counts zero element right inside is = (right.roots element inside).0 is
walked plan counts (suc hops) element right inside is =
    let near = right.closer element hops inside is in
    (near.0, near.1, near.2, walked plan counts hops (sender_of plan near.0) right (subst (λ n. sender_of plan near.0 < n) right.counted (count-within counts (sender_of plan near.0) hops near.3)) near.3)

-- what is near something with a count has one
near-counted : (o : Option ℕ) (hops : ℕ) → AreNear (Some hops) o → (next : ℕ) × (o ≡ Some next) × (next ≤ suc hops)
near-counted None hops near = absurd near
near-counted (Some next) hops near = (next, refl, near.1)

-- where a walk leads there is a count, and none greater than its length
counted-walk : (plan : Topology) (counts : Counts) (links element : ℕ) → IsWellFormed plan → AreLocallyRight plan counts → IsReachedIn plan links element
    → (hops : ℕ) × (count_at counts element ≡ Some hops) × (hops ≤ links)
counted-walk plan counts zero element well right root = (0, (right.roots element (root-within plan element well root)).1 root, omega arith)
counted-walk plan counts (suc links) element well right reached =
    let before = counted-walk plan counts links (sender_of plan reached.0) well right reached.3 in
    let near : AreNear (Some before.0) (count_at counts (receiver_of plan reached.0)) = subst (λ o. AreNear o (count_at counts (receiver_of plan reached.0))) before.1 (right.near reached.0 reached.1) in
    let next = near-counted (count_at counts (receiver_of plan reached.0)) before.0 near in
    (next.0, ap (count_at counts) (sym reached.2) ∙ next.1, omega (arith, next.2, before.2))

pub counts-by_facts : (plan : Topology) (counts : Counts) → IsWellFormed plan → AreLocallyRight plan counts → AreHopCounts plan counts
counts-by_facts plan counts well right = record { counted = right.counted; each = λ element inside. each element inside (count_at counts element) refl }
  where
    each : (element : ℕ) → element < length plan.elements → (o : Option ℕ) → count_at counts element ≡ o → IsCountOf plan element o
    each element inside None is = λ links reached.
        let counted = counted-walk plan counts links element well right reached in none-some counted.0 (sym is ∙ counted.1)
    each element inside (Some hops) is = record {
      reached = walked plan counts hops element right inside is;
      least = λ links reached.
          let counted = counted-walk plan counts links element well right reached in
          let same : hops ≡ counted.0 = same_Some hops counted.0 (sym is ∙ counted.1) in
          omega (arith, same, counted.2);
    }

-- ---- the counts keep the local facts

module _ (plan : Topology) (counts : Counts) (well : IsWellFormed plan) (are : AreHopCounts plan counts) where
  -- where a walk leads there is a count, and none greater than its length
  pub count-of_walk : (links element : ℕ) → IsReachedIn plan links element → (hops : ℕ) × (count_at counts element ≡ Some hops) × (hops ≤ links)
  count-of_walk links element reached = by (count_at counts element) refl (are.each element (reached-within plan links element well reached))
    where
      by : (o : Option ℕ) → count_at counts element ≡ o → IsCountOf plan element o → (hops : ℕ) × (count_at counts element ≡ Some hops) × (hops ≤ links)
      by None is none = absurd (none links reached)
      by (Some hops) is counted = (hops, is, counted.least links reached)

  pub walk-of_count : (element hops : ℕ) → count_at counts element ≡ Some hops → IsReachedIn plan hops element
  walk-of_count element hops is =
      let inside : element < length plan.elements = subst (λ n. element < n) are.counted (count-within counts element hops is) in
      let counted : IsCountOf plan element (Some hops) = subst (IsCountOf plan element) is (are.each element inside) in
      counted.reached

  pub near-ends : (line : ℕ) → line < line_count plan → AreNear (count_at counts (sender_of plan line)) (count_at counts (receiver_of plan line))
  near-ends line within = by (count_at counts (sender_of plan line)) (count_at counts (receiver_of plan line)) refl refl
    where
      by : (one other : Option ℕ) → count_at counts (sender_of plan line) ≡ one → count_at counts (receiver_of plan line) ≡ other → AreNear one other
      by None None is also = tt
      by None (Some hops) is also =
          let counted = count-of_walk (suc hops) (sender_of plan line) (reached-back plan line hops well within (walk-of_count (receiver_of plan line) hops also)) in
          none-some counted.0 (sym is ∙ counted.1)
      by (Some hops) None is also =
          let counted = count-of_walk (suc hops) (receiver_of plan line) (reached-further plan line hops within (walk-of_count (sender_of plan line) hops is)) in
          none-some counted.0 (sym also ∙ counted.1)
      by (Some one) (Some other) is also =
          let on = count-of_walk (suc one) (receiver_of plan line) (reached-further plan line one within (walk-of_count (sender_of plan line) one is)) in
          let back = count-of_walk (suc other) (sender_of plan line) (reached-back plan line other well within (walk-of_count (receiver_of plan line) other also)) in
          let same_on : other ≡ on.0 = same_Some other on.0 (sym also ∙ on.1) in
          let same_back : one ≡ back.0 = same_Some one back.0 (sym is ∙ back.1) in
          (omega (arith, same_back, back.2), omega (arith, same_on, on.2))

  pub closer-of_count : (element hops : ℕ) → count_at counts element ≡ Some (suc hops) → HasNeighbour plan counts element hops
  closer-of_count element hops is =
      let reached = walk-of_count element (suc hops) is in
      let before = count-of_walk hops (sender_of plan reached.0) reached.3 in
      let walk_on : IsReachedIn plan (suc before.0) element =
      subst (IsReachedIn plan (suc before.0)) reached.2 (reached-further plan reached.0 before.0 reached.1 (walk-of_count (sender_of plan reached.0) before.0 before.1)) in
      let on = count-of_walk (suc before.0) element walk_on in
      let same : suc hops ≡ on.0 = same_Some (suc hops) on.0 (sym is ∙ on.1) in
      let equal : before.0 ≡ hops = omega (arith, same, on.2, before.2) in
      (reached.0, reached.1, reached.2, before.1 ∙ ap Some equal)

  pub facts-by_counts : AreLocallyRight plan counts
  facts-by_counts = record {
    counted = are.counted;
    roots = λ element inside. (
      λ is. walk-of_count element 0 is,
      λ root. let counted = count-of_walk 0 element root in
          let zero_hops : counted.0 ≡ 0 = omega (arith, counted.2) in counted.1 ∙ ap Some zero_hops,
    );
    near = near-ends;
    closer = λ element hops inside is. closer-of_count element hops is;
  }

-- ---- there is one list of counts

same-count : (plan : Topology) (element : ℕ) (one other : Option ℕ) → IsCountOf plan element one → IsCountOf plan element other → one ≡ other
same-count plan element None None first second = refl
same-count plan element None (Some hops) first second = absurd (first hops second.reached)
same-count plan element (Some hops) None first second = absurd (second hops first.reached)
same-count plan element (Some one) (Some other) first second =
    let up : one ≤ other = first.least other second.reached in
    let down : other ≤ one = second.least one first.reached in
    ap Some (omega (arith, up, down))

-- lists with the same at each place are one
same-counts : (one other : Counts) → length one ≡ length other → ((element : ℕ) → element < length one → count_at one element ≡ count_at other element) → one ≡ other
same-counts [] [] long same = refl
same-counts [] (y ∷ ys) long same = absurd (omega (arith, long))
same-counts (x ∷ xs) [] long same = absurd (omega (arith, long))
same-counts (x ∷ xs) (y ∷ ys) long same =
    let first : x ≡ y = same 0 (omega arith) in
    let rest : xs ≡ ys = same-counts xs ys (omega (arith, long)) (λ element inside. same (suc element) (omega (arith, inside))) in
    rw (first, rest) refl

pub one-list : (plan : Topology) (one other : Counts) → AreHopCounts plan one → AreHopCounts plan other → one ≡ other
one-list plan one other first second =
    same-counts one other (first.counted ∙ sym second.counted)
    (λ element inside.
    let within : element < length plan.elements = subst (λ n. element < n) first.counted inside in
    same-count plan element (count_at one element) (count_at other element) (first.each element within) (second.each element within))

-- ---- a search that is done

pub facts-by_search : (plan : Topology) (search : HopSearch) → IsWellFormed plan → IsSearching plan search → AreLed plan search.counts.items → AreLocallyRight plan search.counts.items
facts-by_search plan search well searching led = record {
  counted = searching.counted;
  roots = λ element inside. (searching.zeros element, searching.roots element);
  near = near;
  closer = λ element hops inside is. searching.closer element hops is;
}
  where
    near : (line : ℕ) → line < line_count plan → AreNear (count_at search.counts.items (sender_of plan line)) (count_at search.counts.items (receiver_of plan line))
    near line within = by (count_at search.counts.items (sender_of plan line)) (count_at search.counts.items (receiver_of plan line)) refl refl
      where
        back : (hops : ℕ) → count_at search.counts.items (receiver_of plan line) ≡ Some hops → (next : ℕ) × (count_at search.counts.items (sender_of plan line) ≡ Some next) × (next ≤ suc hops)
        back hops is =
            let close = led (receiver_of plan line) hops is (reverse_of line) (reverse-within plan line within) (reverse-begins plan line within) in
            (close.0, ap (count_at search.counts.items) (sym (reverse-ends plan line well within)) ∙ close.1, close.2)

        by : (one other : Option ℕ) → count_at search.counts.items (sender_of plan line) ≡ one → count_at search.counts.items (receiver_of plan line) ≡ other → AreNear one other
        by None None is also = tt
        by None (Some hops) is also = let close = back hops also in none-some close.0 (sym is ∙ close.1)
        by (Some hops) None is also = let close = led (sender_of plan line) hops is line within refl in none-some close.0 (sym also ∙ close.1)
        by (Some one) (Some other) is also =
            let on = led (sender_of plan line) one is line within refl in
            let behind = back other also in
            let same_on : other ≡ on.0 = same_Some other on.0 (sym also ∙ on.1) in
            let same_back : one ≡ behind.0 = same_Some one behind.0 (sym is ∙ behind.1) in
            (omega (arith, same_back, behind.2), omega (arith, same_on, on.2))
