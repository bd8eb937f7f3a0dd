-- Round a ring, going back: over any test of hops.
use Rattle.std.proofs.Common.{◌≡◌, ℕ, ◌+◌, ◌-◌, ◌<◌, ◌≤◌, zero, suc, List, [], ◌∷◌, ◌++◌, length, reverse, refl, sym, ap, subst, ◌∙◌, inl, inr, arith, length-append}
use Rattle.std.specs.Prelude.{◌≢◌, ◌⊎◌}
use Rattle.std.proofs.lemmas.Bool.{cases_lt}
use Rattle.std.proofs.lemmas.List.{reverse-append, map-append}
use Rattle.std.proofs.lemmas.List.Elements.{All-cons}
use Rattle.sync_topo.specs.declared.input.LineId.{LineId}
use Rattle.sync_topo.specs.Ranks.{HopTest, IsBefore, StepsBack, IsLowestResidue, IsFirstCycleFrom}
use Rattle.sync_topo.specs.Lines.{numbers}
use Rattle.cycle_plan.specs.private.GoingBack.{HasRound, IsLowOn, IsLowest, IsWalked}
use Rattle.cycle_plan.proofs.Back.{back_same, back_at, back_add, back_rest, round_kept}

-- one more step
pub back_more : (hop : HopTest) (steps line middle back : ℕ) → StepsBack hop steps line middle → IsBefore hop back middle → StepsBack hop (steps + 1) line back
back_more hop steps line middle back taken before = back_at hop (suc steps) (steps + 1) line back (omega arith) (middle, taken, before)

-- before any step
pub low_start : (hop : HopTest) (on : ℕ) → IsLowOn hop on 0 on
low_start hop on = record {
  met = (0, refl);
  lowest = λ some other within taken.
      let same : on ≡ other = back_at hop some 0 on other (omega (arith, within)) taken in omega (arith, same);
}

-- the lower of the lowest so far and the next
pub low_more : (hop : HopTest) (on steps at next low lower : ℕ) → IsLowOn hop on steps low → StepsBack hop steps on at → IsBefore hop next at
    → lower ≤ low → lower ≤ next → (lower ≡ low) ⊎ (lower ≡ next) → IsLowOn hop on (steps + 1) lower
low_more hop on steps at next low lower before taken next_before below_low below_next either = record {
  met = elim either [
    | inl same ↦ (before.met.0, subst (λ l. StepsBack hop before.met.0 on l) (sym same) before.met.1)
    | inr same ↦ (steps + 1, subst (λ l. StepsBack hop (steps + 1) on l) (sym same) (back_more hop steps on at next taken next_before))
  ];
  lowest = λ some other within there. elim (cases_lt steps some) [
    | inl last ↦
        let same : next ≡ other =
        back_same hop (steps + 1) on next other (back_more hop steps on at next taken next_before)
        (back_at hop some (steps + 1) on other (omega (arith, within, last)) there) in
        omega (arith, same, below_next)
    | inr earlier ↦ let high = before.lowest some other earlier there in omega (arith, high, below_low)
  ];
}

-- the lowest of as many lines as there may be on the ring is lower than all that one comes to
low_always : (hop : HopTest) (on round n low : ℕ) → 0 < round → round ≤ n → StepsBack hop round on on → IsLowOn hop on n low
    → (fuel steps other : ℕ) → steps ≤ fuel → StepsBack hop steps on other → low ≤ other
low_always hop on round n low positive within around lows zero steps other few taken = lows.lowest steps other (omega (arith, few)) taken
low_always hop on round n low positive within around lows (suc fuel) steps other few taken = elim (cases_lt n steps) [
  | inl more ↦
      let rest : StepsBack hop (steps - round) on other =
      back_rest hop (steps - round) round on on other around (back_at hop steps (round + (steps - round)) on other (omega (arith, within, more)) taken) in
      low_always hop on round n low positive within around lows fuel (steps - round) other (omega (arith, few, positive, within, more)) rest
  | inr not_more ↦ lows.lowest steps other not_more taken
]

pub ring_low : (hop : HopTest) (on n low : ℕ) → HasRound hop n on → IsLowOn hop on n low → IsLowest hop low
ring_low hop on n low round lows steps other taken =
    low_always hop on round.0 n low round.1 round.2 round.3 lows (lows.met.0 + steps) (lows.met.0 + steps) other (omega arith)
    (back_add hop steps lows.met.0 on low other lows.met.1 taken)

-- the lowest line is on the ring too
pub round_low : (hop : HopTest) (on n low : ℕ) → HasRound hop n on → IsLowOn hop on n low → HasRound hop n low
round_low hop on n low round lows = (round.0, round.1, round.2, round_kept hop round.0 lows.met.0 on low round.3 lows.met.1)

-- the numbers of one more line
numbers-push : (lines : List LineId) (line : LineId) → reverse (numbers (lines ++ line ∷ [])) ≡ line.0 ∷ reverse (numbers lines)
numbers-push lines line = ap (λ ns. reverse ns) (map-append (λ (l : LineId). l.0) lines (line ∷ [])) ∙ reverse-append (numbers lines) (line.0 ∷ [])

-- the first line behind
pub walked_first : (hop : HopTest) (low at : ℕ) → IsBefore hop at low → IsWalked hop low at []
walked_first hop low at before = record {
  back = (low, refl, before);
  above = λ steps other positive within taken. absurd (omega (arith, positive, within));
  chain = before;
  higher = λ place line inside. absurd (omega (arith, inside));
}

-- one more line behind
pub walked_more : (hop : HopTest) (low next : ℕ) (at : LineId) (lines : List LineId) → IsLowest hop low → at.0 ≢ low → IsWalked hop low at.0 lines → IsBefore hop next at.0
    → IsWalked hop low next (lines ++ at ∷ [])
walked_more hop low next at lines lowest differs walked before =
    let more : length (lines ++ at ∷ []) ≡ length lines + 1 = length-append lines (at ∷ []) in
    let bound : low ≤ at.0 = lowest (length lines + 1) at.0 walked.back in
    let higher : low < at.0 = omega (arith, bound, differs) in
    record {
      back = rw more (back_more hop (length lines + 1) low at.0 next walked.back before);
      above = λ steps other positive within taken. elim (cases_lt (length lines) steps) [
        | inl last ↦
            let same : at.0 ≡ other = back_same hop (length lines + 1) low at.0 other walked.back (back_at hop steps (length lines + 1) low other (omega (arith, within, more, last)) taken) in
            omega (arith, same, higher)
        | inr earlier ↦ walked.above steps other positive earlier taken
      ];
      chain = rw (numbers-push lines at) (before, walked.chain);
      higher = rw (numbers-push lines at) (All-cons (λ line. low < line) at.0 (reverse (numbers lines)) higher walked.higher);
    }

-- the ring, closed
pub first_from : (hop : HopTest) (start n on low : ℕ) (lines : List LineId) → IsLowestResidue hop start → StepsBack hop n start on → IsLowOn hop on n low
    → IsWalked hop low low lines → IsFirstCycleFrom hop low (reverse (numbers lines))
first_from hop start n on low lines lowest taken lows walked = record {
  closes = walked.chain;
  met = (start, n + lows.met.0, lowest, back_add hop lows.met.0 n start on low taken lows.met.1);
  lowest = walked.higher;
}

-- the numbers of lines in reverse
pub numbers-reverse : (lines : List LineId) → numbers (reverse lines) ≡ reverse (numbers lines)
numbers-reverse [] = refl
numbers-reverse (line ∷ lines) =
    ap (λ ls. numbers ls) (reverse-append (line ∷ []) lines) ∙ map-append (λ (l : LineId). l.0) (reverse lines) (line ∷ [])
    ∙ ap (λ ns. ns ++ line.0 ∷ []) (numbers-reverse lines) ∙ sym (reverse-append (line.0 ∷ []) (numbers lines))
