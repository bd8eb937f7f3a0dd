-- There is one list of all closed walks.
use Rattle.std.proofs.Common.{◌≡◌, ◌<◌, ℕ, List, [], ◌∷◌, refl, sym, ap, ◌∙◌, inl, inr, arith}
use Rattle.sync_text.specs.Each.{Each}
use Rattle.sync_topo.specs.Topology.{Topology}
use Rattle.net_rules.specs.Walks.{Taken}
use Rattle.closed_walks.specs.Loops.{IsLoop, IsListed, AreInOrder, AreLoops, first_line}

-- a walk of a list has what each has
listed-has : (P : List ℕ → Type 0) (walks : List (List ℕ)) (walk : List ℕ) → Each P walks → IsListed walk walks → P walk
listed-has P [] walk each listed = absurd listed
listed-has P (first ∷ rest) walk each (inl same) = rw same each.0
listed-has P (first ∷ rest) walk each (inr listed) = listed-has P rest walk each.1 listed

-- lists in order with the same walks are one
same-walks : (walks others : List (List ℕ)) → AreInOrder walks → AreInOrder others
    → ((walk : List ℕ) → IsListed walk walks → IsListed walk others) → ((walk : List ℕ) → IsListed walk others → IsListed walk walks) → walks ≡ others
same-walks [] [] first second to from = refl
same-walks [] (other ∷ others) first second to from = absurd (from other (inl refl))
same-walks (walk ∷ walks) [] first second to from = absurd (to walk (inl refl))
same-walks (walk ∷ walks) (other ∷ others) first second to from =
    ap (λ w. w ∷ walks) same ∙ ap (λ ws. other ∷ ws) (same-walks walks others first.1 second.1 forth back)
  where
    below : (w : List ℕ) → IsListed w walks → first_line walk < first_line w
    below w listed = listed-has (λ o. first_line walk < first_line o) walks w first.0 listed

    above : (w : List ℕ) → IsListed w others → first_line other < first_line w
    above w listed = listed-has (λ o. first_line other < first_line o) others w second.0 listed

    same : walk ≡ other
    same = elim (to walk (inl refl)) [
      | inl is ↦ is
      | inr listed ↦ elim (from other (inl refl)) [
        | inl is ↦ sym is
        | inr listed_back ↦ let one = above walk listed in let two = below other listed_back in absurd (omega (arith, one, two))
      ]
    ]

    forth : (w : List ℕ) → IsListed w walks → IsListed w others
    forth w listed = elim (to w (inr listed)) [
      | inl is ↦ let less = below w listed in let e = ap first_line (is ∙ sym same) in absurd (omega (arith, less, e))
      | inr there ↦ there
    ]

    back : (w : List ℕ) → IsListed w others → IsListed w walks
    back w listed = elim (from w (inr listed)) [
      | inl is ↦ let less = above w listed in let e = ap first_line (is ∙ same) in absurd (omega (arith, less, e))
      | inr there ↦ there
    ]

-- a network at a millisecond has one list of closed walks
pub one-loops : (plan : Topology) (taken : Taken) (walks others : List (List ℕ)) → AreLoops plan taken walks → AreLoops plan taken others → walks ≡ others
one-loops plan taken walks others first second =
    same-walks walks others first.in_order second.in_order
    (λ walk listed. second.all walk (listed-has (IsLoop plan taken) walks walk first.each listed))
    (λ walk listed. first.all walk (listed-has (IsLoop plan taken) others walk second.each listed))
