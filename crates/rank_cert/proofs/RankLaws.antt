-- What the test of ranks rests on: falls, and walks over rising ranks.
use Rattle.std.proofs.Common.{◌≡◌, ℕ, ◌+◌, ◌<◌, ◌≤◌, Bool, true, false, nat_le, nat_lt, List, [], ◌∷◌, ◌++◌, Option, Some, None, refl, sym, ◌∙◌, inl, inr, arith}
use Rattle.std.specs.Prelude.{◌⊎◌, if◌then◌else◌}
use Rattle.std.specs.Option.{option_map}
use Rattle.std.specs.Cmp.Derive.{both_true}
use Rattle.std.proofs.lemmas.Bool.{and_parts, true≢false, cases_lt, leb-true, le-leb, ltb-false, ltb-true}
use Rattle.sync_text.proofs.Ranges.{find_range-Some, find_range-None}
use Rattle.sync_topo.specs.Topology.{Topology}
use Rattle.sync_topo.specs.declared.input.LineId.{LineId}
use Rattle.sync_topo.specs.Lines.{line_count}
use Rattle.sync_topo.specs.Hops.{hops_by, HopsBy, IsRising, IsCycle}
use Rattle.sync_topo.specs.private.Hops.{IsWalk}
use Rattle.sync_topo.specs.Ranks.{Rises}
use Rattle.sync_topo.specs.declared.returns.ReturnRule.{ReturnRule}
use Rattle.sync_topo.proofs.HopLaws.{lines-of-hop}
use Rattle.rank_cert.specs.Ranks.{Ranks, rank_of, IsFirstFallOver}
use Rattle.rank_cert.specs.private.FirstFall.{falls, first_to, earlier, IsFirstBelow}

-- a fall is a hop over which the rank doesn't rise
pub fall_parts : (returns : ReturnRule) (plan : Topology) (ranks : Ranks) (line next : ℕ) → falls returns plan ranks line next ≡ true → HopsBy returns plan line next × (rank_of ranks next ≤ rank_of ranks line)
fall_parts returns plan ranks line next fall =
    let parts = and_parts (hops_by returns plan line next) (nat_le (rank_of ranks next) (rank_of ranks line)) fall in
    (parts.0, leb-true _ _ parts.1)

pub fall_from : (returns : ReturnRule) (plan : Topology) (ranks : Ranks) (line next : ℕ) → HopsBy returns plan line next → rank_of ranks next ≤ rank_of ranks line → falls returns plan ranks line next ≡ true
fall_from returns plan ranks line next hop low =
    both_true {s = hops_by returns plan line next} {t = nat_le (rank_of ranks next) (rank_of ranks line)} hop (le-leb _ _ low)

-- the first line whose hop falls comes before every other
pub first_to-Some : (returns : ReturnRule) (plan : Topology) (ranks : Ranks) (next line : ℕ) → first_to returns plan ranks next ≡ Some line
    → (falls returns plan ranks line next ≡ true) × ((other : ℕ) → falls returns plan ranks other next ≡ true → line ≤ other)
first_to-Some returns plan ranks next line found =
    let facts = find_range-Some (λ l. falls returns plan ranks l next) 0 (line_count plan) line found in (
      facts.0,
      λ other fall. elim (cases_lt other line) [
        | inl before ↦ absurd (true≢false (sym fall ∙ facts.1 other (omega arith) before))
        | inr not_before ↦ not_before
      ],
    )

pub first_to-None : (returns : ReturnRule) (plan : Topology) (ranks : Ranks) (next other : ℕ) → first_to returns plan ranks next ≡ None → falls returns plan ranks other next ≡ true → ⊥
first_to-None returns plan ranks next other found fall =
    let inside = (lines-of-hop returns plan other next (fall_parts returns plan ranks other next fall).0).0 in
    true≢false (sym fall ∙ find_range-None (λ l. falls returns plan ranks l next) 0 (line_count plan) found other (omega arith) (omega arith))

-- a fall from a line no earlier, to a line no earlier, is not before
not_before : (line other next after : ℕ) → line ≤ other → next ≤ after → (line < other) ⊎ ((line ≡ other) × (next ≤ after))
not_before line other next after from to = elim (cases_lt line other) [
  | inl later ↦ inl later
  | inr same ↦ inr (omega arith, to)
]

-- one line more
pub IsFirstBelow-more : (returns : ReturnRule) (plan : Topology) (ranks : Ranks) (first : Option (LineId × LineId)) (line : Option LineId) (next : LineId)
    → IsFirstBelow returns plan ranks next.0 first → option_map (λ l. l.0) line ≡ first_to returns plan ranks next.0
    → IsFirstBelow returns plan ranks (next.0 + 1) (earlier first line next)
IsFirstBelow-more returns plan ranks None None next before found =
    λ other after fall. elim (cases_lt next.0 after) [
      | inl beyond ↦ omega arith
      | inr not_beyond ↦ elim (cases_lt after next.0) [
        | inl inside ↦ let low = before other after fall in absurd (omega arith)
        | inr not_inside ↦
            let same : after ≡ next.0 = omega arith in
            absurd (first_to-None returns plan ranks next.0 other (sym found) (rw (← same) fall))
      ]
    ]
IsFirstBelow-more returns plan ranks None (Some line) next before found =
    let here = first_to-Some returns plan ranks next.0 line.0 (sym found) in (
      here.0,
      omega arith,
      λ other after fall inside. elim (cases_lt after next.0) [
        | inl below ↦ let low = before other after fall in absurd (omega arith)
        | inr not_below ↦
            let same : after ≡ next.0 = omega arith in
            let least = here.1 other (rw (← same) fall) in
            not_before line.0 other next.0 after least (omega arith)
      ],
    )
IsFirstBelow-more returns plan ranks (Some fall) None next before found = (
  before.0,
  omega arith,
  λ other after next_fall inside. elim (cases_lt after next.0) [
    | inl below ↦ before.2 other after next_fall below
    | inr not_below ↦
        let same : after ≡ next.0 = omega arith in
        absurd (first_to-None returns plan ranks next.0 other (sym found) (rw (← same) next_fall))
  ],
)
IsFirstBelow-more returns plan ranks (Some fall) (Some line) next before found =
    cases (nat_lt line.0 fall.0.0) refl
  where
    here : (falls returns plan ranks line.0 next.0 ≡ true) × ((other : ℕ) → falls returns plan ranks other next.0 ≡ true → line.0 ≤ other)
    here = first_to-Some returns plan ranks next.0 line.0 (sym found)

    cases : (b : Bool) → nat_lt line.0 fall.0.0 ≡ b → IsFirstBelow returns plan ranks (next.0 + 1) (if b then Some (line, next) else Some fall)
    cases true less = (
      here.0,
      omega arith,
      λ other after next_fall inside. elim (cases_lt after next.0) [
        | inl below ↦ elim (before.2 other after next_fall below) [
          | inl later ↦ let l = ltb-true _ _ less in inl (omega arith)
          | inr tied ↦ let l = ltb-true _ _ less in inl (omega (arith, tied.0))
        ]
        | inr not_below ↦
            let same : after ≡ next.0 = omega arith in
            let least = here.1 other (rw (← same) next_fall) in
            not_before line.0 other next.0 after least (omega arith)
      ],
    )
    cases false not_less = (
      before.0,
      omega arith,
      λ other after next_fall inside. elim (cases_lt after next.0) [
        | inl below ↦ before.2 other after next_fall below
        | inr not_below ↦
            let same : after ≡ next.0 = omega arith in
            let least = here.1 other (rw (← same) next_fall) in
            let order = ltb-false _ _ not_less in
            not_before fall.0.0 other fall.1.0 after (omega arith) (omega arith)
      ],
    )

-- with no fall to any line, ranks rise over every hop
pub IsRising-from : (returns : ReturnRule) (plan : Topology) (ranks : Ranks) (bound : ℕ) → line_count plan ≤ bound → IsFirstBelow returns plan ranks bound None → Rises (hops_by returns plan) (rank_of ranks)
IsRising-from returns plan ranks bound all none line next hop =
    elim (cases_lt (rank_of ranks line) (rank_of ranks next)) [
      | inl rises ↦ rises
      | inr falls_back ↦
          let inside = (lines-of-hop returns plan line next hop).1 in
          let low = none line next (fall_from returns plan ranks line next hop falls_back) in
          absurd (omega arith)
    ]

-- the first fall to any line is the first of all
pub IsFirstFall-from : (returns : ReturnRule) (plan : Topology) (ranks : Ranks) (bound : ℕ) (line next : LineId) → line_count plan ≤ bound → IsFirstBelow returns plan ranks bound (Some (line, next))
    → IsFirstFallOver (hops_by returns plan) ranks line.0 next.0
IsFirstFall-from returns plan ranks bound line next all found =
    let parts = fall_parts returns plan ranks line.0 next.0 found.0 in
    record {
      hops_on = parts.0;
      falls = parts.1;
      first = λ other after hop low.
          let inside = (lines-of-hop returns plan other after hop).1 in
          found.2 other after (fall_from returns plan ranks other after hop low) (omega arith);
    }

-- ranks rise along a walk, so none comes back to where it began
rises_along : (plan : Topology) (rank : ℕ → ℕ) → IsRising plan rank → (first : ℕ) (rest : List ℕ) (last : ℕ) → IsWalk plan (first ∷ rest ++ last ∷ []) → rank first < rank last
rises_along plan rank rising first [] last walk = rising first last walk.0
rises_along plan rank rising first (next ∷ rest) last walk =
    let step = rising first next walk.0 in
    let more = rises_along plan rank rising next rest last walk.1 in
    omega arith

pub IsRising-no_cycle : (plan : Topology) (rank : ℕ → ℕ) → IsRising plan rank → (lines : List ℕ) → IsCycle plan lines → ⊥
IsRising-no_cycle plan rank rising [] cycle = cycle
IsRising-no_cycle plan rank rising (first ∷ rest) cycle =
    let round = rises_along plan rank rising first rest first cycle in
    omega arith
