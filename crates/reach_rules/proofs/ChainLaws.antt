-- A trace is a chain, but for its last line where it ends in a loop.
use Rattle.std.proofs.Common.{◌≡◌, ◌≢◌, ◌≤◌, ◌+◌, ◌⊎◌, ℕ, suc, Bool, true, false, List, [], ◌∷◌, ◌++◌, length, Some, sym, ap, ◌∙◌, inl, inr, arith, length-append}
use Rattle.std.specs.Prelude.{slice_get, if◌then◌else◌, refl}
use Rattle.std.proofs.lemmas.List.Sums.{sum_by-append}
use Rattle.sync_text.specs.Each.{Each}
use Rattle.sync_topo.specs.Topology.{Topology}
use Rattle.sync_topo.specs.Lines.{line_input, sender_of, receiver_of, IsNominated}
use Rattle.sync_topo.specs.Hops.{IsRising}
use Rattle.sync_topo.specs.WellFormed.{IsWellFormed}
use Rattle.net_rules.specs.Signals.{Signals, signals_by}
use Rattle.net_rules.specs.History.{Levels, Obeys, out_at}
use Rattle.net_rules.specs.Walks.{Taken, TraceEnd, at_source, at_clock, at_loop, IsTraceAfter, IsTrace}
use Rattle.net_rules.specs.Safety.{taken_in}
use Rattle.net_rules.specs.Settled.{IsSettled}
use Rattle.net_rules.proofs.Backs.{back-receiver, hop-or_back}
use Rattle.net_rules.proofs.NetLaws.{taken-is}
use Rattle.net_rules.proofs.SettledLaws.{rising-loop_free}
use Rattle.reach_rules.specs.declared.chain.Chain.{Chain}
use Rattle.reach_rules.specs.Chains.{begins_at_filter, LeadTo, IsChain, clocks_of, since_of, IsGreatestOf, IsRow, AreRows, IsWithin, AreBounds, one_more, IsOrigin}

-- what elements take are nominated lines of their own
abbrev pub AreOwn : Topology → Taken → Type 0
AreOwn plan taken = (element line : ℕ) → taken element ≡ Some (line_input line) → IsNominated plan line × (receiver_of plan line ≡ element)

own-taken : (plan : Topology) (signals : Signals) (out : Levels) (t : ℕ) → AreOwn plan (taken_in plan signals out t)
own-taken plan signals out t element line takes =
    let is = taken-is plan signals out element t (line_input line) takes in (is.of.nominated, is.of.of_element)

-- where a trace ends at a source or clock, it meets no element again
new-element : (plan : Topology) (taken : Taken) (passed : List ℕ) (element : ℕ) (lines : List ℕ) (end : TraceEnd)
    → IsTraceAfter plan taken passed element lines end → IsOrigin end → Each (λ other. element ≢ other) passed
new-element plan taken passed element [] (at_source source) trace origin = trace.0
new-element plan taken passed element [] (at_clock clock) trace origin = trace.0
new-element plan taken passed element [] (at_loop again) trace origin = absurd origin
new-element plan taken passed element (line ∷ lines) end trace origin = trace.0

-- the lines before a line on such a trace lead to it
lead : (plan : Topology) (taken : Taken) → IsWellFormed plan → AreOwn plan taken → (passed : List ℕ) (element line : ℕ) (before : List ℕ) (end : TraceEnd)
    → IsNominated plan line → receiver_of plan line ≡ element → IsTraceAfter plan taken (element ∷ passed) (sender_of plan line) before end → IsOrigin end
    → LeadTo plan line before
lead plan taken well own passed element line [] end nominated into trace origin = tt
lead plan taken well own passed element line (before ∷ rest) end nominated into trace origin =
    let mine = own (sender_of plan line) before trace.1 in
    elim (hop-or_back plan before line mine.0 nominated mine.1) [
      | inl hop ↦ (hop, lead plan taken well own (element ∷ passed) (sender_of plan line) before rest end mine.0 mine.1 trace.2 origin)
      | inr back ↦
          let new = new-element plan taken (sender_of plan line ∷ element ∷ passed) (sender_of plan before) rest end trace.2 origin in
          absurd (new.1.0 (sym (back-receiver plan before line well mine.0 nominated back) ∙ into))
    ]

pub trace-chain : (plan : Topology) (taken : Taken) (element : ℕ) (lines : List ℕ) (end : TraceEnd) → IsWellFormed plan → AreOwn plan taken
    → IsTrace plan taken element lines end → IsOrigin end → IsChain plan element lines
trace-chain plan taken element [] end well own trace origin = tt
trace-chain plan taken element (line ∷ before) end well own trace origin =
    let mine = own element line trace.1 in
    (mine.0, mine.1, lead plan taken well own [] element line before end mine.0 mine.1 trace.2 origin)

-- all lines of a list but perhaps its last
abbrev ButLast : (List ℕ → Type 0) → List ℕ → Type 0
ButLast P lines = P lines ⊎ ((front : List ℕ) × (last : ℕ) × P front × (lines ≡ front ++ last ∷ []))

-- on any trace the lines before a line lead to it, but perhaps the last
lead-any : (plan : Topology) (taken : Taken) → IsWellFormed plan → AreOwn plan taken → (passed : List ℕ) (element line : ℕ) (before : List ℕ) (end : TraceEnd)
    → IsNominated plan line → receiver_of plan line ≡ element → IsTraceAfter plan taken (element ∷ passed) (sender_of plan line) before end
    → ButLast (LeadTo plan line) before
lead-any plan taken well own passed element line [] end nominated into trace = inl tt
lead-any plan taken well own passed element line (before ∷ []) end nominated into trace = inr ([], before, tt, refl)
lead-any plan taken well own passed element line (before ∷ next ∷ rest) end nominated into trace =
    let mine = own (sender_of plan line) before trace.1 in
    elim (hop-or_back plan before line mine.0 nominated mine.1) [
      | inl hop ↦ elim (lead-any plan taken well own (element ∷ passed) (sender_of plan line) before (next ∷ rest) end mine.0 mine.1 trace.2) [
        | inl all ↦ inl (hop, all)
        | inr but ↦ inr (before ∷ but.0, but.1, (hop, but.2), ap (λ lines. before ∷ lines) but.3)
      ]
      | inr back ↦ absurd (trace.2.0.1.0 (sym (back-receiver plan before line well mine.0 nominated back) ∙ into))
    ]

pub trace-any : (plan : Topology) (taken : Taken) (element : ℕ) (lines : List ℕ) (end : TraceEnd) → IsWellFormed plan → AreOwn plan taken
    → IsTrace plan taken element lines end → ButLast (IsChain plan element) lines
trace-any plan taken element [] end well own trace = inl tt
trace-any plan taken element (line ∷ before) end well own trace =
    let mine = own element line trace.1 in
    elim (lead-any plan taken well own [] element line before end mine.0 mine.1 trace.2) [
      | inl all ↦ inl (mine.0, mine.1, all)
      | inr but ↦ inr (line ∷ but.0, but.1, (mine.0, mine.1, but.2), ap (λ lines. line ∷ lines) but.3)
    ]

-- a chain is within the row, and one with a line more is within one more
chain-within : (plan : Topology) (element : ℕ) (row : Chain) (lines : List ℕ) → IsRow plan element row → IsChain plan element lines → IsWithin plan row lines
chain-within plan element row lines is chain = record {
  links = is.links.most lines chain;
  since = is.since.most lines chain;
  clocks = is.clocks.most lines chain;
}

since-last : (plan : Topology) (front : List ℕ) (last : ℕ) → since_of plan (front ++ last ∷ []) ≤ suc (since_of plan front)
since-last plan [] last = by (begins_at_filter plan last)
  where
    by : (b : Bool) → (if b then 1 else 1) ≤ 1
    by true = omega arith
    by false = omega arith
since-last plan (line ∷ front) last = by (begins_at_filter plan line) (since-last plan front last)
  where
    by : (b : Bool) → since_of plan (front ++ last ∷ []) ≤ suc (since_of plan front)
        → (if b then 1 else suc (since_of plan (front ++ last ∷ []))) ≤ suc (if b then 1 else suc (since_of plan front))
    by true less = omega arith
    by false less = omega (arith, less)

clocks-last : (plan : Topology) (front : List ℕ) (last : ℕ) → clocks_of plan (front ++ last ∷ []) ≤ suc (clocks_of plan front)
clocks-last plan front last =
    omega (arith, sum_by-append (λ line. if begins_at_filter plan line then 1 else 0) front (last ∷ []), by (begins_at_filter plan last))
  where
    by : (b : Bool) → 0 + (if b then 1 else 0) ≤ 1
    by true = omega arith
    by false = omega arith

more-within : (plan : Topology) (row : Chain) (front : List ℕ) (last : ℕ) → IsWithin plan row front → IsWithin plan (one_more row) (front ++ last ∷ [])
more-within plan row front last within = record {
  links = omega (arith, length-append front (last ∷ []), within.links);
  since = omega (arith, since-last plan front last, within.since);
  clocks = omega (arith, clocks-last plan front last, within.clocks);
}

loosely-within : (plan : Topology) (row : Chain) (lines : List ℕ) → IsWithin plan row lines → IsWithin plan (one_more row) lines
loosely-within plan row lines within = record {
  links = omega (arith, within.links);
  since = omega (arith, within.since);
  clocks = omega (arith, within.clocks);
}

-- no more lines lead to a line than its rank
few-lead : (plan : Topology) (rank : ℕ → ℕ) → IsRising plan rank → (line : ℕ) (before : List ℕ) → LeadTo plan line before → length before ≤ rank line
few-lead plan rank rising line [] leads = omega arith
few-lead plan rank rising line (before ∷ rest) leads =
    omega (arith, rising before line leads.0, few-lead plan rank rising before rest leads.1)

lead-there : (plan : Topology) (first line : ℕ) (after before : List ℕ) → LeadTo plan first (after ++ line ∷ before) → LeadTo plan line before
lead-there plan first line [] before leads = leads.1
lead-there plan first line (next ∷ after) before leads = lead-there plan next line after before leads.1

chain-there : (plan : Topology) (element line : ℕ) (after before : List ℕ) → IsChain plan element (after ++ line ∷ before) → LeadTo plan line before
chain-there plan element line [] before chain = chain.2
chain-there plan element line (first ∷ after) before chain = lead-there plan first line after before chain.2

-- the law, clause by clause
pub chain-here : (plan : Topology) (signals : Signals) (out : Levels) (element t : ℕ) (lines : List ℕ) (end : TraceEnd) → IsWellFormed plan
    → IsTrace plan (taken_in plan signals out t) element lines end → IsOrigin end → IsChain plan element lines
chain-here plan signals out element t lines end well trace origin =
    trace-chain plan (taken_in plan signals out t) element lines end well (own-taken plan signals out t) trace origin

pub origin-here : (plan : Topology) (signals : Signals) (out : Levels) (element t : ℕ) (row : Chain) (lines : List ℕ) (end : TraceEnd) → IsWellFormed plan
    → IsRow plan element row → IsTrace plan (taken_in plan signals out t) element lines end → IsOrigin end → IsWithin plan row lines
origin-here plan signals out element t row lines end well is trace origin =
    chain-within plan element row lines is (chain-here plan signals out element t lines end well trace origin)

pub rising-here : (plan : Topology) (signals : Signals) (out : Levels) (rank : ℕ → ℕ) (element t line : ℕ) (after before : List ℕ) (end : TraceEnd)
    → IsWellFormed plan → IsRising plan rank → IsTrace plan (taken_in plan signals out t) element (after ++ line ∷ before) end → IsOrigin end
    → length before ≤ rank line
rising-here plan signals out rank element t line after before end well rising trace origin =
    few-lead plan rank rising line before
    (chain-there plan element line after before (chain-here plan signals out element t (after ++ line ∷ before) end well trace origin))

pub any-here : (plan : Topology) (signals : Signals) (out : Levels) (element t : ℕ) (row : Chain) (lines : List ℕ) (end : TraceEnd) → IsWellFormed plan
    → IsRow plan element row → IsTrace plan (taken_in plan signals out t) element lines end → IsWithin plan (one_more row) lines
any-here plan signals out element t row lines end well is trace =
    elim (trace-any plan (taken_in plan signals out t) element lines end well (own-taken plan signals out t) trace) [
      | inl all ↦ loosely-within plan row lines (chain-within plan element row lines is all)
      | inr but ↦ rw but.3 (more-within plan row but.0 but.1 (chain-within plan element row but.0 is but.2))
    ]

pub settled-here : (plan : Topology) (signals : Signals) (out : Levels) (rank : ℕ → ℕ) (element t : ℕ) (row : Chain) (lines : List ℕ) (end : TraceEnd)
    → IsWellFormed plan → Obeys plan signals out → IsRising plan rank → IsSettled plan signals out t → IsRow plan element row
    → IsTrace plan (taken_in plan signals out t) element lines end → IsWithin plan row lines
settled-here plan signals out rank element t row lines (at_source source) well obeys rising settled is trace =
    origin-here plan signals out element t row lines (at_source source) well is trace tt
settled-here plan signals out rank element t row lines (at_clock clock) well obeys rising settled is trace =
    origin-here plan signals out element t row lines (at_clock clock) well is trace tt
settled-here plan signals out rank element t row lines (at_loop again) well obeys rising settled is trace =
    absurd ((rising-loop_free plan signals out rank well obeys rising t).traced settled element lines (at_loop again) trace)

pub rows-bound : (plan : Topology) (rows : List Chain) → IsWellFormed plan → AreRows plan rows → AreBounds plan rows
rows-bound plan rows well are events fits t element row there lines end trace origin =
    origin-here plan (signals_by plan events) (out_at plan (signals_by plan events)) element t row lines end well (are.each element row there) trace origin

-- a count has one greatest
one-greatest : (plan : Topology) (element : ℕ) (count : List ℕ → ℕ) (greatest other : ℕ) → IsGreatestOf plan element count greatest
    → IsGreatestOf plan element count other → greatest ≡ other
one-greatest plan element count greatest other first second =
    omega (
      arith,
      second.most first.reached.0 first.reached.1,
      first.most second.reached.0 second.reached.1,
      first.reached.2,
      second.reached.2,
    )

same-row : (links others since others_since clocks others_clocks : ℕ) → links ≡ others → since ≡ others_since → clocks ≡ others_clocks
    → ◌≡◌ {A = Chain} (record { links = links; since = since; clocks = clocks }) (record { links = others; since = others_since; clocks = others_clocks })
same-row links others since others_since clocks others_clocks a b c = rw (a, b, c) refl

one-row : (plan : Topology) (element : ℕ) (row other : Chain) → IsRow plan element row → IsRow plan element other → row ≡ other
one-row plan element row other first second =
    same-row row.links other.links row.since other.since row.clocks other.clocks
    (one-greatest plan element length row.links other.links first.links second.links)
    (one-greatest plan element (since_of plan) row.since other.since first.since second.since)
    (one-greatest plan element (clocks_of plan) row.clocks other.clocks first.clocks second.clocks)

-- lists of one length with the same at each place are one
same-list : (xs ys : List Chain) → length xs ≡ length ys → ((k : ℕ) (x y : Chain) → slice_get xs k ≡ Some x → slice_get ys k ≡ Some y → x ≡ y) → xs ≡ ys
same-list [] [] long each = refl
same-list [] (y ∷ ys) long each = absurd (omega (arith, long))
same-list (x ∷ xs) [] long each = absurd (omega (arith, long))
same-list (x ∷ xs) (y ∷ ys) long each =
    let first : x ≡ y = each 0 x y refl refl in
    let rest : xs ≡ ys = same-list xs ys (omega (arith, long)) (λ k a b here there. each (suc k) a b here there) in
    rw (first, rest) refl

pub one-list : (plan : Topology) (rows others : List Chain) → AreRows plan rows → AreRows plan others → rows ≡ others
one-list plan rows others first second =
    same-list rows others (first.counted ∙ sym second.counted)
    (λ element row other here there. one-row plan element row other (first.each element row here) (second.each element other there))
