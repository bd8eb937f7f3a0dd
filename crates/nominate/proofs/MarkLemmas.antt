-- What marks tell.
use Rattle.std.proofs.Common.{◌≡◌, ◌↔◌, ℕ, zero, suc, ◌+◌, ◌<◌, Bool, true, false, List, length, Option, Some, None, refl, sym, ap, subst, ◌∙◌, arith}
use Rattle.std.specs.Prelude.{slice_index_or, replicate}
use Rattle.std.proofs.lemmas.Bool.{false≢true, eq-eqb}
use Rattle.std.proofs.lemmas.Option.{none-some, same_Some}
use Rattle.sync_topo.specs.Topology.{Topology}
use Rattle.sync_topo.specs.Lines.{line_count, sender_of}
use Rattle.sync_topo.specs.WellFormed.{IsWellFormed}
use Rattle.nominate.specs.HopCount.{Counts, count_at, AreHopCounts, is_one_less}
use Rattle.nominate.specs.LocalFacts.{HasNeighbour, HaveCloser, AreLocallyRight}
use Rattle.nominate.specs.private.Marks.{is_above, IsMarked, AreMarks}
use Rattle.nominate.proofs.HopLaws.{counts-by_facts, facts-by_counts}

no_mark : (n element : ℕ) → slice_index_or (replicate n false) element false ≡ false
no_mark zero element = refl
no_mark (suc n) zero = refl
no_mark (suc n) (suc element) = no_mark n element

pub AreMarks-none : (plan : Topology) (counts : Counts) (n : ℕ) (marks : List Bool) → marks ≡ replicate n false → AreMarks plan counts 0 marks
AreMarks-none plan counts n marks none element = (
  λ is. absurd (false≢true (sym (no_mark n element) ∙ ap (λ (m : List Bool). slice_index_or m element false) (sym none) ∙ is)),
  λ marked. absurd (omega (arith, marked.1)),
)

some-one_less : (o : Option ℕ) (hops : ℕ) → o ≡ Some hops → is_one_less o (Some (suc hops)) ≡ true
some-one_less None hops is = absurd (none-some hops is)
some-one_less (Some one) hops is = let same : one ≡ hops = same_Some one hops is in eq-eqb (one + 1) (suc hops) (omega (arith, same))

marked-neighbour : (plan : Topology) (counts : Counts) (element hops : ℕ) → count_at counts element ≡ Some (suc hops)
    → HasNeighbour plan counts element hops → IsMarked plan counts (line_count plan) element
marked-neighbour plan counts element hops is near =
    (near.0, near.1, near.2, subst (λ o. is_one_less (count_at counts (sender_of plan near.0)) o ≡ true) (sym is) (some-one_less (count_at counts (sender_of plan near.0)) hops near.3))

above_is : (o : Option ℕ) → is_above o ≡ true → (hops : ℕ) × (o ≡ Some (suc hops))
above_is None is = absurd (false≢true is)
above_is (Some zero) is = absurd (false≢true is)
above_is (Some (suc hops)) is = (hops, refl)

-- an element above 0 that isn't marked has no such neighbour
pub unmarked-lacks : (plan : Topology) (counts : Counts) (marks : List Bool) (element : ℕ) → element < length plan.elements → AreMarks plan counts (line_count plan) marks
    → slice_index_or marks element false ≡ false → is_above (count_at counts element) ≡ true → HaveCloser plan counts → ⊥
unmarked-lacks plan counts marks element inside are none above have =
    let count = above_is (count_at counts element) above in
    let near = have element count.0 inside count.1 in
    false≢true (sym none ∙ (are element).1 (marked-neighbour plan counts element count.0 count.1 near))

-- the facts hold just of the hop counts
pub facts-tell : (plan : Topology) (counts : Counts) (answer : Bool) → IsWellFormed plan → (answer ≡ true) ↔ AreLocallyRight plan counts → (answer ≡ true) ↔ AreHopCounts plan counts
facts-tell plan counts answer well tells = (
  λ is. counts-by_facts plan counts well (tells.0 is),
  λ are. tells.1 (facts-by_counts plan counts well are),
)
