-- There is one first cycle, and its lines are those that repeat: over any test of hops.
use Rattle.std.proofs.Common.{◌≡◌, ℕ, ◌+◌, ◌-◌, ◌<◌, ◌≤◌, zero, suc, List, [], ◌∷◌, length, refl, subst, inl, inr, arith}
use Rattle.std.specs.List.{Contains}
use Rattle.std.specs.Prelude.{◌↔◌}
use Rattle.std.proofs.lemmas.Bool.{cases_lt}
use Rattle.std.proofs.lemmas.List.Elements.{All-contains, Contains-append_cases, Contains-append_right}
use Rattle.sync_topo.specs.Ranks.{HopTest, IsBefore, StepsBack, IsLowestResidue, Leads, IsFirstCycle, IsFirstCycleFrom}
use Rattle.cycle_plan.specs.Repeats.{Repeats}
use Rattle.cycle_plan.proofs.Back.{before_same, back_same, back_at, back_add, back_rest}
use Rattle.cycle_plan.proofs.Rounds.{back_more}

-- the residue has one lowest-numbered line
start_same : (hop : HopTest) (one other : ℕ) → IsLowestResidue hop one → IsLowestResidue hop other → one ≡ other
start_same hop one other first second =
    let low = first.lowest other second.residue in
    let high = second.lowest one first.residue in
    omega (arith, low, high)

-- a list has its first item, the items behind it, and no others
contains_first : (first : ℕ) (rest : List ℕ) → Contains (first ∷ rest) first
contains_first first rest = (0, omega arith, refl)

contains_rest : (first : ℕ) (rest : List ℕ) (line : ℕ) → Contains rest line → Contains (first ∷ rest) line
contains_rest first rest line stands = Contains-append_right (first ∷ []) rest line stands

contains_one : (one line : ℕ) → Contains (one ∷ []) line → one ≡ line
contains_one one line (zero, within, is) = is
contains_one one line (suc k, within, is) = absurd (omega (arith, within))

-- from behind the lines one comes to the first of them
leads_back : (hop : HopTest) (first : ℕ) (rest : List ℕ) (last : ℕ) → Leads (IsBefore hop) first rest last → StepsBack hop (length rest + 1) last first
leads_back hop first [] last leads = (last, refl, leads)
leads_back hop first (next ∷ rest) last leads =
    back_at hop (length rest + 1 + 1) (length (next ∷ rest) + 1) last first (omega arith)
    (back_more hop (length rest + 1) last next first (leads_back hop next rest last leads.1) leads.0)

-- and before that to the others
rest_back : (hop : HopTest) (first : ℕ) (rest : List ℕ) (last steps back : ℕ) → Leads (IsBefore hop) first rest last
    → 0 < steps → steps ≤ length rest → StepsBack hop steps last back → Contains rest back
rest_back hop first [] last steps back leads positive within taken = absurd (omega (arith, positive, within))
rest_back hop first (next ∷ rest) last steps back leads positive within taken = elim (cases_lt (length rest) steps) [
  | inl more ↦
      let same : next ≡ back =
      back_same hop steps last next back
      (back_at hop (length rest + 1) steps last next (omega (arith, within, more)) (leads_back hop next rest last leads.1)) taken in
      subst (λ l. Contains (next ∷ rest) l) same (contains_first next rest)
  | inr fewer ↦ contains_rest next rest back (rest_back hop next rest last steps back leads.1 positive fewer taken)
]

-- from a ring one comes to no other lines
ring_back : (hop : HopTest) (low : ℕ) (rest : List ℕ) → Leads (IsBefore hop) low rest low → (fuel steps back : ℕ) → steps ≤ fuel
    → StepsBack hop steps low back → Contains (low ∷ rest) back
ring_back hop low rest ring zero steps back few taken =
    let same : low ≡ back = back_at hop steps 0 low back (omega (arith, few)) taken in
    subst (λ l. Contains (low ∷ rest) l) same (contains_first low rest)
ring_back hop low rest ring (suc fuel) steps back few taken = elim (cases_lt (length rest) steps) [
  | inl more ↦
      let left : StepsBack hop (steps - (length rest + 1)) low back =
      back_rest hop (steps - (length rest + 1)) (length rest + 1) low low back (leads_back hop low rest low ring)
      (back_at hop steps (length rest + 1 + (steps - (length rest + 1))) low back (omega (arith, more)) taken) in
      ring_back hop low rest ring fuel (steps - (length rest + 1)) back (omega (arith, few, more)) left
  | inr within ↦ elim (cases_lt 0 steps) [
    | inl positive ↦ contains_rest low rest back (rest_back hop low rest low steps back ring positive within taken)
    | inr none ↦
        let same : low ≡ back = back_at hop steps 0 low back (omega (arith, none)) taken in
        subst (λ l. Contains (low ∷ rest) l) same (contains_first low rest)
  ]
]

-- to each line of a ring one comes
steps_to : (hop : HopTest) (first : ℕ) (rest : List ℕ) (last line : ℕ) → Leads (IsBefore hop) first rest last → Contains (first ∷ rest) line
    → (steps : ℕ) × StepsBack hop steps last line
steps_to hop first [] last line leads stands = (1, subst (λ l. StepsBack hop 1 last l) (contains_one first line stands) (leads_back hop first [] last leads))
steps_to hop first (next ∷ rest) last line leads stands = elim (Contains-append_cases (first ∷ []) (next ∷ rest) line stands) [
  | inl here ↦ (
    length (next ∷ rest) + 1,
    subst (λ l. StepsBack hop (length (next ∷ rest) + 1) last l) (contains_one first line here) (leads_back hop first (next ∷ rest) last leads),
  )
  | inr behind ↦ steps_to hop next rest last line leads.1 behind
]

-- each line of the first cycle repeats
pub cycle_repeats : (hop : HopTest) (low : ℕ) (rest : List ℕ) (line : ℕ) → IsFirstCycleFrom hop low rest → Contains (low ∷ rest) line → Repeats hop line
cycle_repeats hop low rest line first stands =
    let start = first.met.0 in
    let steps = first.met.1 in
    let taken : StepsBack hop steps start low = first.met.3 in
    let onward = steps_to hop low rest low line first.closes stands in
    let round : StepsBack hop (length rest + 1) low low = leads_back hop low rest low first.closes in
    record {
      start = start;
      lowest = first.met.2;
      once = steps + onward.0;
      again = steps + (length rest + 1) + onward.0;
      later = omega arith;
      comes = back_add hop onward.0 steps start low line taken onward.1;
      returns = back_add hop onward.0 (steps + (length rest + 1)) start low line (back_add hop (length rest + 1) steps start low low taken round) onward.1;
    }

-- a line that leads back to itself does so after as many steps as one likes, and more
often : (hop : HopTest) (line round : ℕ) → 0 < round → StepsBack hop round line line → (count : ℕ) → (steps : ℕ) × (count ≤ steps) × StepsBack hop steps line line
often hop line round positive around zero = (0, omega arith, refl)
often hop line round positive around (suc count) =
    let rest = often hop line round positive around count in
    let enough = rest.1 in
    (rest.0 + round, omega (arith, enough, positive), back_add hop round rest.0 line line line rest.2 around)

-- each line that repeats is on the first cycle
pub repeats_on_cycle : (hop : HopTest) (low : ℕ) (rest : List ℕ) (line : ℕ) → IsFirstCycleFrom hop low rest → Repeats hop line → Contains (low ∷ rest) line
repeats_on_cycle hop low rest line first repeats =
    from_start (subst (λ l. StepsBack hop repeats.once l line) same repeats.comes) (subst (λ l. StepsBack hop repeats.again l line) same repeats.returns)
  where
    same : repeats.start ≡ first.met.0
    same = start_same hop repeats.start first.met.0 repeats.lowest first.met.2

    from_start : StepsBack hop repeats.once first.met.0 line → StepsBack hop repeats.again first.met.0 line → Contains (low ∷ rest) line
    from_start comes returns =
        let later = repeats.later in
        let around : StepsBack hop (repeats.again - repeats.once) line line =
        back_rest hop (repeats.again - repeats.once) repeats.once first.met.0 line line comes
        (back_at hop repeats.again (repeats.once + (repeats.again - repeats.once)) first.met.0 line (omega (arith, later)) returns) in
        let far = often hop line (repeats.again - repeats.once) (omega (arith, later)) around first.met.1 in
        let enough = far.1 in
        let onward = repeats.once + far.0 - first.met.1 in
        let all : StepsBack hop (first.met.1 + onward) first.met.0 line =
        back_at hop (repeats.once + far.0) (first.met.1 + onward) first.met.0 line (omega (arith, enough)) (back_add hop far.0 repeats.once first.met.0 line line comes far.2) in
        ring_back hop low rest first.closes onward onward line (omega arith) (back_rest hop onward first.met.1 first.met.0 low line first.met.3 all)

-- so two first cycles begin at one line
low_below : (hop : HopTest) (low : ℕ) (rest : List ℕ) (other : ℕ) (others : List ℕ) → IsFirstCycleFrom hop low rest → IsFirstCycleFrom hop other others → low ≤ other
low_below hop low rest other others first second =
    let repeats = cycle_repeats hop other others other second (contains_first other others) in
    elim (Contains-append_cases (low ∷ []) rest other (repeats_on_cycle hop low rest other first repeats)) [
      | inl here ↦ let same = contains_one low other here in omega (arith, same)
      | inr behind ↦ let less : low < other = All-contains (λ l. low < l) rest other first.lowest behind in omega (arith, less)
    ]

-- and are of one length
not_longer : (hop : HopTest) (low : ℕ) (rest others : List ℕ) → IsFirstCycleFrom hop low rest → IsFirstCycleFrom hop low others → length rest ≤ length others
not_longer hop low rest others first second = elim (cases_lt (length others) (length rest)) [
  | inl longer ↦
      let stands : Contains rest low =
      rest_back hop low rest low (length others + 1) low first.closes (omega arith) (omega (arith, longer)) (leads_back hop low others low second.closes) in
      let less : low < low = All-contains (λ l. low < l) rest low first.lowest stands in
      absurd (omega (arith, less))
  | inr fits ↦ fits
]

-- as many lines, going back from one line, are the same
same_lines : (hop : HopTest) (one other : ℕ) (ones others : List ℕ) (last : ℕ) → length ones ≡ length others
    → Leads (IsBefore hop) one ones last → Leads (IsBefore hop) other others last → (one ≡ other) × (ones ≡ others)
same_lines hop one other [] [] last long first second = (before_same hop last one other first second, refl)
same_lines hop one other [] (next ∷ others) last long first second = absurd (omega (arith, long))
same_lines hop one other (next ∷ ones) [] last long first second = absurd (omega (arith, long))
same_lines hop one other (next ∷ ones) (after ∷ others) last long first second =
    let rest = same_lines hop next after ones others last (omega (arith, long)) first.1 second.1 in
    let before : IsBefore hop one after = subst (λ l. IsBefore hop one l) rest.0 first.0 in
    (before_same hop after one other before second.0, rw (rest.0, rest.1) refl)

-- there is one first cycle
pub one_cycle : (hop : HopTest) (one other : List ℕ) → IsFirstCycle hop one → IsFirstCycle hop other → one ≡ other
one_cycle hop [] other never second = absurd never
one_cycle hop (low ∷ rest) [] first never = absurd never
one_cycle hop (low ∷ rest) (other ∷ others) first second =
    let below = low_below hop low rest other others first second in
    let above = low_below hop other others low rest second first in
    from_low (omega (arith, below, above))
  where
    from_low : low ≡ other → low ∷ rest ≡ other ∷ others
    from_low same =
        let moved : IsFirstCycleFrom hop other rest = subst (λ l. IsFirstCycleFrom hop l rest) same first in
        let short = not_longer hop other rest others moved second in
        let long = not_longer hop other others rest second moved in
        let lines = same_lines hop other other rest others other (omega (arith, short, long)) moved.closes second.closes in
        rw (same, lines.1) refl

-- its lines are those that repeat
pub cycle_lines : (hop : HopTest) (lines : List ℕ) → IsFirstCycle hop lines → (line : ℕ) → Contains lines line ↔ Repeats hop line
cycle_lines hop [] never line = absurd never
cycle_lines hop (low ∷ rest) first line = (cycle_repeats hop low rest line first, repeats_on_cycle hop low rest line first)
