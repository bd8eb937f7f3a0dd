-- Following one line more.
use Rattle.std.proofs.Common.{◌≡◌, ◌≢◌, ◌<◌, ◌⊎◌, ◌++◌, ℕ, zero, suc, Bool, true, false, List, [], ◌∷◌, length, replicate, Option, None, Some, ap, sym, subst, ◌∙◌, inl, inr, refl}
use Rattle.std.specs.Prelude.{slice_set}
use Rattle.std.proofs.lemmas.Bool.{true≢false}
use Rattle.std.proofs.lemmas.Bool.Decides.{eqb_tells}
use Rattle.std.proofs.lemmas.List.{get_or-set_same, get_or-set_other, append-nil}
use Rattle.sync_text.specs.Each.{Each}
use Rattle.sync_topo.specs.declared.input.InputId.{InputId}
use Rattle.sync_topo.specs.declared.input.InputId.TheVariants.{Line, Source}
use Rattle.sync_topo.specs.declared.input.LineId.{LineId}
use Rattle.sync_topo.specs.Topology.{Topology}
use Rattle.sync_topo.specs.Lines.{sender_of, numbers}
use Rattle.net_rules.specs.Walks.{Taken, TraceEnd, at_source, at_clock, at_loop, EndsAt, IsTraceAfter, IsTrace}
use Rattle.net_rules.proofs.TraceLaws.{met_or}
use Rattle.closed_walks.specs.declared.traced.End.{End}
use Rattle.closed_walks.specs.declared.traced.End.TheVariants as end_as
use Rattle.closed_walks.specs.declared.following.Next.{Next}
use Rattle.closed_walks.specs.declared.following.Next.TheVariants.{On, Over}
use Rattle.closed_walks.specs.Traces.{end_of}
use Rattle.closed_walks.specs.Following.{next_of, Follows, IsPassed, is_met, AreMet}
use Rattle.closed_walks.specs.private.Following.{IsOnTrace}

pub follows-more : (plan : Topology) (taken : Taken) (element : ℕ) (lines : List LineId) (last : ℕ) (line : LineId)
    → Follows plan taken element (numbers lines) last → taken last ≡ Some (Line line)
    → Follows plan taken element (numbers (lines ++ line ∷ [])) (sender_of plan line.0)
follows-more plan taken element [] last line follows takes = (ap taken follows ∙ takes, refl)
follows-more plan taken element (first ∷ rest) last line follows takes =
    (follows.0, follows-more plan taken (sender_of plan first.0) rest last line follows.1 takes)

pub passed-more : (plan : Topology) (element : ℕ) (lines : List LineId) (line : LineId) (k : ℕ)
    → IsPassed plan element (numbers lines) k → IsPassed plan element (numbers (lines ++ line ∷ [])) k
passed-more plan element [] line k passed = absurd passed
passed-more plan element (first ∷ rest) line k passed = elim passed [
  | inl same ↦ inl same
  | inr later ↦ inr (passed-more plan (sender_of plan first.0) rest line k later)
]

pub passed-last : (plan : Topology) (taken : Taken) (element : ℕ) (lines : List LineId) (last : ℕ) (line : LineId)
    → Follows plan taken element (numbers lines) last → IsPassed plan element (numbers (lines ++ line ∷ [])) last
passed-last plan taken element [] last line follows = inl (sym follows)
passed-last plan taken element (first ∷ rest) last line follows = inr (passed-last plan taken (sender_of plan first.0) rest last line follows.1)

-- one mark more
pub met-kept : (met : List Bool) (at k : ℕ) → is_met (slice_set met at true) k ≡ true → (k ≡ at) ⊎ (is_met met k ≡ true)
met-kept met at k is = elim (eqb_tells k at) [
  | inl same ↦ inl same.1
  | inr other ↦ inr (sym (get_or-set_other met at k true false other.1) ∙ is)
]

pub met-here : (met : List Bool) (at k : ℕ) → at < length met → k ≡ at → is_met (slice_set met at true) k ≡ true
met-here met at k within same = subst (λ n. is_met (slice_set met at true) n ≡ true) (sym same) (get_or-set_same met at true false within)

pub met-still : (met : List Bool) (at k : ℕ) → at < length met → is_met met k ≡ true → is_met (slice_set met at true) k ≡ true
met-still met at k within is = elim (eqb_tells k at) [
  | inl same ↦ met-here met at k within same.1
  | inr other ↦ get_or-set_other met at k true false other.1 ∙ is
]

pub met-then : (plan : Topology) (taken : Taken) (from : ℕ) (before met : List Bool) (lines : List LineId) (at : ℕ) (line : LineId)
    → Follows plan taken from (numbers lines) at
    → ((k : ℕ) → is_met met k ≡ true → (is_met before k ≡ true) ⊎ IsPassed plan from (numbers lines) k)
    → (k : ℕ) → is_met (slice_set met at true) k ≡ true → (is_met before k ≡ true) ⊎ IsPassed plan from (numbers (lines ++ line ∷ [])) k
met-then plan taken from before met lines at line follows was k is = elim (met-kept met at k is) [
  | inl same ↦ inr (subst (IsPassed plan from (numbers (lines ++ line ∷ []))) (sym same) (passed-last plan taken from lines at line follows))
  | inr earlier ↦ elim (was k earlier) [
    | inl old ↦ inl old
    | inr passed ↦ inr (passed-more plan from lines line k passed)
  ]
]

-- the trace
pub trace-begins : (plan : Topology) (taken : Taken) (before : List ℕ) (from : ℕ) (met : List Bool) → AreMet met before
    → IsOnTrace plan taken before from met [] from
trace-begins plan taken before from met marked = record { passed = before; marked = marked; goes_on = λ rest end trace. trace }

pub numbers-then : (lines : List LineId) (line : LineId) (rest : List ℕ) → numbers lines ++ line.0 ∷ rest ≡ numbers (lines ++ line ∷ []) ++ rest
numbers-then [] line rest = refl
numbers-then (first ∷ lines) line rest = ap (λ ls. first.0 ∷ ls) (numbers-then lines line rest)

-- an element that isn't marked is none of those passed
unmarked-apart : (met : List Bool) (passed : List ℕ) (at : ℕ) → AreMet met passed → is_met met at ≡ false → Each (λ other. at ≢ other) passed
unmarked-apart met passed at marked new = elim (met_or at passed) [
  | inl one ↦ absurd (true≢false (sym ((marked at).1 one) ∙ new))
  | inr apart ↦ apart
]

pub trace-more : (plan : Topology) (taken : Taken) (before : List ℕ) (from : ℕ) (met : List Bool) (lines : List LineId) (at : ℕ) (line : LineId)
    → at < length met → is_met met at ≡ false → taken at ≡ Some (Line line) → IsOnTrace plan taken before from met lines at
    → IsOnTrace plan taken before from (slice_set met at true) (lines ++ line ∷ []) (sender_of plan line.0)
trace-more plan taken before from met lines at line within new takes was = record {
  passed = at ∷ was.passed;
  marked = λ k. (
    λ is. elim (met-kept met at k is) [
      | inl same ↦ inl same
      | inr earlier ↦ inr ((was.marked k).0 earlier)
    ],
    λ one. elim one [
      | inl same ↦ met-here met at k within same
      | inr earlier ↦ met-still met at k within ((was.marked k).1 earlier)
    ],
  );
  goes_on = λ rest end trace.
      subst (λ ls. IsTraceAfter plan taken before from ls end) (numbers-then lines line rest)
      (was.goes_on (line.0 ∷ rest) end (unmarked-apart met was.passed at was.marked new, takes, trace));
}

-- its end
ends : (plan : Topology) (taken : Taken) (before : List ℕ) (from : ℕ) (met : List Bool) (lines : List LineId) (at : ℕ) (end : TraceEnd)
    → (was : IsOnTrace plan taken before from met lines at) → EndsAt taken was.passed at end → IsTraceAfter plan taken before from (numbers lines) end
ends plan taken before from met lines at end was is =
    subst (λ ls. IsTraceAfter plan taken before from ls end) (append-nil (numbers lines)) (was.goes_on [] end is)

pub ends-at_loop : (plan : Topology) (taken : Taken) (before : List ℕ) (from : ℕ) (met : List Bool) (lines : List LineId) (at : ℕ)
    → IsOnTrace plan taken before from met lines at → is_met met at ≡ true → IsTraceAfter plan taken before from (numbers lines) (at_loop at)
ends-at_loop plan taken before from met lines at was is =
    ends plan taken before from met lines at (at_loop at) was ((was.marked at).0 is, refl)

-- what an element takes, by what comes after it
pub takes-on : (taken : Option InputId) (element : ℕ) (line : LineId) (next : Next) → next ≡ next_of taken element → next ≡ On line → taken ≡ Some (Line line)
takes-on (Some (Line other)) element line next is on = ap (λ l. Some (Line l)) (on_line (sym is ∙ on))
  where
    line_of : Next → LineId
    line_of (On l) = l
    line_of (Over e) = other

    on_line : On other ≡ On line → other ≡ line
    on_line same = ap line_of same
takes-on (Some (Source source)) element line next is on = absurd (never (sym is ∙ on))
  where
    never : Over (end_as.Source source) ≡ On line → ⊥
    never same = cc
takes-on None element line next is on = absurd (never (sym is ∙ on))
  where
    never : Over (end_as.OwnClock element) ≡ On line → ⊥
    never same = cc

pub ends-over : (plan : Topology) (taken : Taken) (before : List ℕ) (from : ℕ) (met : List Bool) (lines : List LineId) (at : ℕ) (end : End) (next : Next)
    → IsOnTrace plan taken before from met lines at → is_met met at ≡ false → next ≡ next_of (taken at) at → next ≡ Over end
    → IsTraceAfter plan taken before from (numbers lines) (end_of end)
ends-over plan taken before from met lines at end next was new is over =
    by (taken at) refl is
  where
    apart : Each (λ other. at ≢ other) was.passed
    apart = unmarked-apart met was.passed at was.marked new

    end_in : Next → End
    end_in (On l) = end
    end_in (Over e) = e

    here : (e : End) → Over e ≡ Over end → IsTraceAfter plan taken before from (numbers lines) (end_of e) → IsTraceAfter plan taken before from (numbers lines) (end_of end)
    here e same trace = subst (λ o. IsTraceAfter plan taken before from (numbers lines) (end_of o)) (ap end_in same) trace

    by : (o : Option InputId) → taken at ≡ o → next ≡ next_of o at → IsTraceAfter plan taken before from (numbers lines) (end_of end)
    by (Some (Line line)) takes is_o = absurd (never (sym is_o ∙ over))
      where
        never : On line ≡ Over end → ⊥
        never same = cc
    by (Some (Source source)) takes is_o =
        here (end_as.Source source) (sym is_o ∙ over) (ends plan taken before from met lines at (at_source source) was (apart, takes))
    by None takes is_o =
        here (end_as.OwnClock at) (sym is_o ∙ over) (ends plan taken before from met lines at (at_clock at) was (apart, takes, refl))

-- nobody is marked at first
pub none-met : (count : ℕ) → AreMet (replicate count false) []
none-met count k = (λ is. absurd (true≢false (sym is ∙ none count k)), λ one. absurd one)
  where
    none : (n i : ℕ) → is_met (replicate n false) i ≡ false
    none zero i = refl
    none (suc n) zero = refl
    none (suc n) (suc i) = none n i

-- a trace is one for all that take the same
pub same-trace : (plan : Topology) (taken others : Taken) (element : ℕ) (lines : List ℕ) (end : TraceEnd) → ((k : ℕ) → taken k ≡ others k)
    → IsTrace plan taken element lines end → IsTrace plan others element lines end
same-trace plan taken others element lines end same trace =
    along taken others same lines [] element trace
  where
    ends-same : (taken others : Taken) → ((k : ℕ) → taken k ≡ others k) → (passed : List ℕ) (at : ℕ) (last : TraceEnd)
        → EndsAt taken passed at last → EndsAt others passed at last
    ends-same taken others same passed at (at_source source) is = (is.0, sym (same at) ∙ is.1)
    ends-same taken others same passed at (at_clock clock) is = (is.0, sym (same at) ∙ is.1, is.2)
    ends-same taken others same passed at (at_loop again) is = is

    along : (taken others : Taken) → ((k : ℕ) → taken k ≡ others k) → (rest passed : List ℕ) (at : ℕ)
        → IsTraceAfter plan taken passed at rest end → IsTraceAfter plan others passed at rest end
    along taken others same [] passed at is = ends-same taken others same passed at end is
    along taken others same (line ∷ rest) passed at is =
        (is.0, sym (same at) ∙ is.1, along taken others same rest (at ∷ passed) (sender_of plan line) is.2)
