-- That the traces of all elements end in one way.
use Rattle.std.proofs.Common.{◌≡◌, ℕ, suc, List, [], ◌∷◌, length, Some, slice_get, refl, sym, ap, ◌∙◌, arith}
use Rattle.sync_topo.specs.Topology.{Topology}
use Rattle.net_rules.specs.Walks.{Taken, TraceEnd, at_source, at_clock, at_loop, IsTrace}
use Rattle.closed_walks.specs.declared.traced.End.{End}
use Rattle.closed_walks.specs.declared.traced.End.TheVariants.{Source, OwnClock, Loop}
use Rattle.closed_walks.specs.declared.traced.Ending.{Ending}
use Rattle.closed_walks.specs.Traces.{end_of, EndsSo, AreEndings}

-- lists that have the same at each place are one
same-list : {A : Type 0} (xs ys : List A) → length xs ≡ length ys
    → ((k : ℕ) (x y : A) → slice_get xs k ≡ Some x → slice_get ys k ≡ Some y → x ≡ y) → xs ≡ ys
same-list [] [] count each = refl
same-list [] (y ∷ ys) count each = absurd (omega (arith, count))
same-list (x ∷ xs) [] count each = absurd (omega (arith, count))
same-list (x ∷ xs) (y ∷ ys) count each =
    ap (λ z. z ∷ xs) (each 0 x y refl refl)
    ∙ ap (λ zs. y ∷ zs) (same-list xs ys (omega (arith, count)) (λ k a b at_xs at_ys. each (suc k) a b at_xs at_ys))

-- an end is the one that is meant
back-of : TraceEnd → End
back-of (at_source source) = Source source
back-of (at_clock element) = OwnClock element
back-of (at_loop element) = Loop element

back-end : (end : End) → back-of (end_of end) ≡ end
unfolding back-of
back-end (Source source) = refl
back-end (OwnClock element) = refl
back-end (Loop element) = refl

module _ (one_trace : (plan : Topology) (taken : Taken) (element : ℕ) (lines others : List ℕ) (end other : TraceEnd)
    → IsTrace plan taken element lines end → IsTrace plan taken element others other → (lines ≡ others) × (end ≡ other)) where
  -- the trace of an element ends in one way
  one-ending : (plan : Topology) (taken : Taken) (element : ℕ) (one other : Ending) → EndsSo plan taken element one → EndsSo plan taken element other → one ≡ other
  one-ending plan taken element one other first second =
      let same = one_trace plan taken element first.0 second.0 (end_of one.end) (end_of other.end) first.2 second.2 in
      let lines : one.lines ≡ other.lines = sym first.1 ∙ ap length same.0 ∙ second.1 in
      let ends : one.end ≡ other.end = sym (back-end one.end) ∙ ap back-of same.1 ∙ back-end other.end in
      ap (λ n. record { lines = n; end = one.end }) lines ∙ ap (λ e. record { lines = other.lines; end = e }) ends

  pub one-endings : (plan : Topology) (taken : Taken) (endings others : List Ending) → AreEndings plan taken endings → AreEndings plan taken others → endings ≡ others
  one-endings plan taken endings others first second =
      same-list endings others (first.count ∙ sym second.count)
      (λ k one other at_one at_other. one-ending plan taken k one other (first.each k one at_one) (second.each k other at_other))
