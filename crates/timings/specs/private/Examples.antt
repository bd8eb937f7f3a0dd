-- Traces that can be told by hand.
use Rattle.std.specs.Prelude.{◌≡◌, ◌≤◌, ℕ, zero, suc, true, slice_get, List, [], ◌∷◌, Some, refl}
use Rattle.std.proofs.Common.{lit≤, inr, ap, sym, subst, ◌∙◌}
use Rattle.std.proofs.lemmas.Option.{same_Some, none-some}
use Rattle.std.proofs.lemmas.Bool.{true≢false}
use native.Mathlib.Decide.{dec_lt}
use Rattle.closed_walks.specs.declared.traced.End.TheVariants.{Source, OwnClock, Loop}
use Rattle.closed_walks.specs.declared.traced.Ending.{Ending}
use Rattle.timings.specs.declared.counted.Timing.{Timing}
use Rattle.timings.specs.Timing.{has_ended, IsCounted, IsLengthIn}

-- the traces of five elements: from a source, from an own clock, from a source, round, from an own clock
abbrev traced : List Ending
traced =
    record { lines = 1; end = Source 0 }
    ∷ record { lines = 0; end = OwnClock 1 }
    ∷ record { lines = 3; end = Source 0 }
    ∷ record { lines = 5; end = Loop 3 }
    ∷ record { lines = 2; end = OwnClock 4 }
    ∷ []

-- three have no source, from the second element on, and the longest that ends is of three lines
abbrev counted : Timing
counted = record { lost = 3; first = Some 1; longest = 3 }

-- none of them that ends is longer
at_most_three : (n : ℕ) → IsLengthIn traced n → n ≤ 3
at_most_three n one = by one.element one.ending one.there one.ended one.is
  where
    lines_of : (ending other : Ending) → Some other ≡ Some ending → n ≡ ending.lines → n ≡ other.lines
    lines_of ending other there is = is ∙ ap (λ (e : Ending). e.lines) (sym (same_Some other ending there))

    by : (element : ℕ) (ending : Ending) → slice_get traced element ≡ Some ending → has_ended ending.end ≡ true → n ≡ ending.lines → n ≤ 3
    by zero ending there ended is = subst (λ k. k ≤ 3) (sym (lines_of ending (record { lines = 1; end = Source 0 }) there is)) (lit≤ tt)
    by (suc zero) ending there ended is = subst (λ k. k ≤ 3) (sym (lines_of ending (record { lines = 0; end = OwnClock 1 }) there is)) (lit≤ tt)
    by (suc (suc zero)) ending there ended is = subst (λ k. k ≤ 3) (sym (lines_of ending (record { lines = 3; end = Source 0 }) there is)) (lit≤ tt)
    by (suc (suc (suc zero))) ending there ended is =
        absurd (true≢false (sym ended ∙ ap (λ (e : Ending). has_ended e.end) (sym (same_Some (record { lines = 5; end = Loop 3 }) ending there))))
    by (suc (suc (suc (suc zero)))) ending there ended is = subst (λ k. k ≤ 3) (sym (lines_of ending (record { lines = 2; end = OwnClock 4 }) there is)) (lit≤ tt)
    by (suc (suc (suc (suc (suc more))))) ending there ended is = absurd (none-some ending there)

counted_by_hand : IsCounted traced counted
unfolding dec_lt
counted_by_hand = record {
  lost = refl;
  first = refl;
  longest = record {
    most = at_most_three;
    reached = inr (record { element = 2; ending = record { lines = 3; end = Source 0 }; there = refl; ended = refl; is = refl });
  };
}
