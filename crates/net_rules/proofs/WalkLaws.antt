-- A closed walk is a facing pair or a cycle of hops.
use Rattle.std.proofs.Common.{◌≡◌, ◌≢◌, ◌<◌, ◌⊎◌, ℕ, List, [], ◌∷◌, ◌++◌, ap, sym, ◌∙◌, inl, inr, arith}
use Rattle.std.specs.Prelude.{IsTrue}
use Rattle.std.proofs.lemmas.Option.{same_Some}
use Rattle.sync_text.proofs.Each.{Each-map, Each-both}
use Rattle.sync_text.specs.Each.{Each}
use Rattle.sync_topo.specs.declared.input.InputId.{InputId}
use Rattle.sync_topo.specs.declared.input.InputId.TheVariants.{Line, Source}
use Rattle.sync_topo.specs.Topology.{Topology}
use Rattle.sync_topo.specs.Lines.{line_input, receiver_of, IsNominated}
use Rattle.sync_topo.specs.Hops.{hops, Hops, IsRising, IsCycle}
use Rattle.sync_topo.specs.Ranks.{HopTest, Walks, Circles, Rises, Leads}
use Rattle.sync_topo.specs.WellFormed.{IsWellFormed}
use Rattle.net_rules.specs.Walks.{Taken, AreApart, IsTaken, Joins, IsClosedWalkFrom, IsClosedWalk, IsFacingPair}
use Rattle.net_rules.proofs.Backs.{back-receiver, back-again, back-other, hop-or_back}

-- what is taken is nominated
abbrev pub AreNominated : Topology → Taken → Type 0
AreNominated plan taken = (line : ℕ) → IsTaken plan taken line → IsNominated plan line

abbrev line_number : InputId → ℕ
line_number (Line line) = line.0
line_number (Source source) = source

pub line_input-same : (line other : ℕ) → line_input line ≡ line_input other → line ≡ other
line_input-same line other same = ap line_number same

-- an element takes one input
pub one_taken : (plan : Topology) (taken : Taken) (line other : ℕ) → IsTaken plan taken line → IsTaken plan taken other
    → receiver_of plan line ≡ receiver_of plan other → line ≡ other
one_taken plan taken line other here there same =
    line_input-same line other (same_Some (line_input line) (line_input other) (sym here ∙ ap taken same ∙ there))

-- the last line of a list leads to where the list ends
final : (plan : Topology) (P : ℕ → Type 0) (line next : ℕ) (rest : List ℕ) (end : ℕ) → Leads (Joins plan) line (next ∷ rest) end
    → Each P (next ∷ rest) → (last : ℕ) × Joins plan last end × P last
final plan P line next [] end leads each = (next, leads.1, each.0)
final plan P line next (third ∷ rest) end leads each = final plan P next third rest end leads.1 each.1

-- a step goes on, since the line before it is another than the one after it
step_hops : (plan : Topology) (taken : Taken) (before line next : ℕ) → IsWellFormed plan → AreNominated plan taken
    → IsTaken plan taken before → IsTaken plan taken line → IsTaken plan taken next
    → Joins plan before line → Joins plan line next → before ≢ next → Hops plan line next
step_hops plan taken before line next well nominated before_taken line_taken next_taken joins_line joins_next apart =
    elim (hop-or_back plan line next (nominated line line_taken) (nominated next next_taken) joins_next) [
      | inl hop ↦ hop
      | inr back ↦ absurd (apart (one_taken plan taken before next before_taken next_taken
          (joins_line ∙ sym (back-receiver plan line next well (nominated line line_taken) (nominated next next_taken) back))))
    ]

-- the first line of a list is another than this one, and where the list is empty the end is
abbrev IsOtherNext : ℕ → List ℕ → ℕ → Type 0
IsOtherNext before [] end = before ≢ end
IsOtherNext before (next ∷ rest) end = before ≢ next

other_next : (line : ℕ) (rest : List ℕ) (end : ℕ) → Each (λ other. line ≢ other) rest → line ≢ end → IsOtherNext line rest end
other_next line [] end others other = other
other_next line (next ∷ rest) end others other = others.0

along : (plan : Topology) (taken : Taken) (before line : ℕ) (rest : List ℕ) (end : ℕ) → IsWellFormed plan → AreNominated plan taken
    → IsTaken plan taken before → Each (IsTaken plan taken) (line ∷ rest) → IsTaken plan taken end
    → Joins plan before line → Leads (Joins plan) line rest end
    → IsOtherNext before rest end → AreApart (line ∷ rest) → Each (λ other. other ≢ end) (line ∷ rest)
    → Leads (λ one next. IsTrue (hops plan one next)) line rest end
along plan taken before line [] end well nominated before_taken each end_taken joins leads other apart others =
    step_hops plan taken before line end well nominated before_taken each.0 end_taken joins leads other
along plan taken before line (next ∷ rest) end well nominated before_taken each end_taken joins leads other apart others = (
  step_hops plan taken before line next well nominated before_taken each.0 each.1.0 joins leads.0 other,
  along plan taken line next rest end well nominated each.0 each.1 end_taken leads.0 leads.1
      (other_next line rest end apart.0.1 others.0) apart.1 others.1,
)

pub walks-leads : (hop : HopTest) (line : ℕ) (rest : List ℕ) (end : ℕ) → Leads (λ one next. IsTrue (hop one next)) line rest end
    → Walks hop (line ∷ rest ++ end ∷ [])
walks-leads hop line [] end leads = (leads, tt)
walks-leads hop line (next ∷ rest) end leads = (leads.0, walks-leads hop next rest end leads.1)

not_same : (a b : ℕ) → a ≢ b → b ≢ a
not_same a b apart same = apart (sym same)

one_line : (plan : Topology) (line : ℕ) → IsWellFormed plan → IsNominated plan line → Joins plan line line → IsCycle plan (line ∷ [])
one_line plan line well nominated joins = elim (hop-or_back plan line line nominated nominated joins) [
  | inl hop ↦ (hop, tt)
  | inr back ↦ absurd (back-other plan line well nominated back)
]

two_lines : (plan : Topology) (line next : ℕ) → IsWellFormed plan → IsNominated plan line → IsNominated plan next
    → Joins plan line next → Joins plan next line → IsFacingPair plan (line ∷ next ∷ []) ⊎ IsCycle plan (line ∷ next ∷ [])
two_lines plan line next well line_nominated next_nominated there back_again =
    elim (hop-or_back plan line next line_nominated next_nominated there) [
      | inr back ↦ inl back
      | inl hop ↦ elim (hop-or_back plan next line next_nominated line_nominated back_again) [
        | inr back ↦ inl (back-again plan next line well next_nominated line_nominated back)
        | inl again ↦ inr (hop, (again, tt))
      ]
    ]

more_lines : (plan : Topology) (taken : Taken) (first next third : ℕ) (rest : List ℕ) → IsWellFormed plan → AreNominated plan taken
    → IsClosedWalkFrom plan taken first (next ∷ third ∷ rest) → IsCycle plan (first ∷ next ∷ third ∷ rest)
more_lines plan taken first next third rest well nominated walk =
    let each = walk.each_taken in
    let apart = walk.apart in
    let joined = walk.joined in
    let last = final plan (λ line. IsTaken plan taken line × (next ≢ line)) next third rest first joined.1
    (Each-both (IsTaken plan taken) (λ line. next ≢ line) (third ∷ rest) each.1.1 apart.1.0) in
    let hop = step_hops plan taken last.0 first next well nominated last.2.0 each.0 each.1.0 last.1 joined.0 (not_same next last.0 last.2.1) in
    let hops_on = along plan taken first next (third ∷ rest) first well nominated each.0 each.1 each.0 joined.0 joined.1
    apart.0.1.0 apart.1 (Each-map (λ other. first ≢ other) (λ other. other ≢ first) (not_same first) (next ∷ third ∷ rest) apart.0) in
    walks-leads (hops plan) first (next ∷ third ∷ rest) first (hop, hops_on)

-- without ranks a closed walk is a facing pair or a cycle
pub pair_or_cycle : (plan : Topology) (taken : Taken) (lines : List ℕ) → IsWellFormed plan → AreNominated plan taken
    → IsClosedWalk plan taken lines → IsFacingPair plan lines ⊎ IsCycle plan lines
pair_or_cycle plan taken [] well nominated walk = absurd walk
pair_or_cycle plan taken (line ∷ []) well nominated walk =
    inr (one_line plan line well (nominated line walk.each_taken.0) walk.joined)
pair_or_cycle plan taken (line ∷ next ∷ []) well nominated walk =
    two_lines plan line next well (nominated line walk.each_taken.0) (nominated next walk.each_taken.1.0) walk.joined.0 walk.joined.1
pair_or_cycle plan taken (first ∷ next ∷ third ∷ rest) well nominated walk =
    inr (more_lines plan taken first next third rest well nominated walk)

-- ranks that rise leave no cycle
rank_rises : (hop : HopTest) (rank : ℕ → ℕ) → Rises hop rank → (line : ℕ) (rest : List ℕ) (end : ℕ)
    → Walks hop (line ∷ rest ++ end ∷ []) → rank line < rank end
rank_rises hop rank rises line [] end walks = rises line end walks.0
rank_rises hop rank rises line (next ∷ rest) end walks =
    omega (arith, rises line next walks.0, rank_rises hop rank rises next rest end walks.1)

pub no_cycle : (hop : HopTest) (rank : ℕ → ℕ) → Rises hop rank → (lines : List ℕ) → Circles hop lines → ⊥
no_cycle hop rank rises [] circles = circles
no_cycle hop rank rises (line ∷ rest) circles = absurd (omega (arith, rank_rises hop rank rises line rest line circles))

pub pair_where_rising : (plan : Topology) (taken : Taken) (rank : ℕ → ℕ) (lines : List ℕ) → IsWellFormed plan → AreNominated plan taken
    → IsRising plan rank → IsClosedWalk plan taken lines → IsFacingPair plan lines
pair_where_rising plan taken rank lines well nominated rising walk =
    elim (pair_or_cycle plan taken lines well nominated walk) [
      | inl pair ↦ pair
      | inr cycle ↦ absurd (no_cycle (hops plan) rank rising lines cycle)
    ]
