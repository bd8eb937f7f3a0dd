-- The laws of a network, as contracts see it.
use Rattle.std.proofs.Common.{◌≡◌, ◌≤◌, ◌<◌, ◌+◌, ◌-◌, ◌*◌, ℕ, suc, Bool, true, false, List, length, Option, None, Some, IfSome, ap, sym, subst, ◌∙◌, inl, inr, arith}
use Rattle.std.specs.Prelude.{slice_index_or, IsNone, MatchOption}
use Rattle.std.specs.List.{All}
use Rattle.std.proofs.Math.Decide.{dec_lt}
use Rattle.std.proofs.lemmas.List.{get_or_default}
use Rattle.agenda.specs.DueTimes.{due_in, IsFirstTime}
use Rattle.sync_element.specs.ElementState.{ElementState}
use Rattle.link_model.specs.LineState.{LineState}
use Rattle.sync_topo.specs.declared.event.Event.{Event}
use Rattle.sync_topo.specs.Topology.{Topology}
use Rattle.sync_topo.specs.Lines.{line_count, receiver_of, delay_of, IsNominated}
use Rattle.sync_topo.proofs.LineLaws.{IsNominated-within}
use Rattle.net_rules.specs.Signals.{signals_by, speaks_at}
use Rattle.net_rules.specs.History.{element_past, taken_by, taken_at, out_at}
use Rattle.net_rules.specs.Safety.{taken_in}
use Rattle.net_rules.specs.Walks.{Taken, IsTaken}
use Rattle.net_rules.specs.Activity.{TouchAlike, is_active, is_busy}
use Rattle.sync_ql.specs.Messages.{hearing_time}
use Rattle.sync_ql.specs.Moment.{Moment}
use Rattle.sync_ql.specs.Told.{moments_until}
use Rattle.sync_topo.specs.WellFormed.{IsWellFormed}
use Rattle.net_rules.specs.Settled.{IsSettled}
use Rattle.net_rules.specs.Facing.{Faces}
use Rattle.net_rules.proofs.FinalLaws.{obeys-well, pair-by_events}
use Rattle.net_rules.proofs.PairLaws.{pair-short}
use Rattle.net_rules.proofs.PlanLaws.{receiver-within}
use Rattle.sync_net.specs.declared.parts.NetParts.{NetParts}
use Rattle.sync_net.specs.NetState.{NetState, line_in, NoneDueBefore, IsDueAt}
use Rattle.sync_net.specs.NetState as Net
use Rattle.sync_net.specs.Sound.{AreSound}
use Rattle.sync_net.specs.Standing.{IsOfPast, ElementStands, LineStands, NoneFrom}
use Rattle.sync_net.specs.private.NetStep.{IsNetStep, AreEvaluatedFor}
use Rattle.sync_net.specs.Evaluated.{IsContinued, AreTaking, AreFacing, HaveFaced}
use Rattle.sync_net.specs.Whole.{state_of}
use Rattle.sync_net.specs.private.Whole.{IsReadyLine, IsWhole}
use Rattle.sync_net.proofs.QuietGap.{stands-later, some_element}
use Rattle.sync_net.proofs.IdleNet.{settled-idle}
use Rattle.sync_net.proofs.ActiveLaws.{due-busy}
use Rattle.sync_net.proofs.Appending.{stands-ordered}
use Rattle.sync_net.proofs.Assembling.{if_some_at}
use Rattle.sync_net.proofs.NetLaws.{if-some, whole-sound, whole-later, state-live, stands_after, all_active, first_least, due_here}

-- what is due isn't due before
due-later : (net : NetState) (n at : ℕ) → NoneDueBefore net n → IsDueAt net at → n ≤ at
due-later net n at none (inl element) =
    if_some_at (λ due. n ≤ due) (slice_index_or net.elements element.0 (some_element net.plan)).due at (element.2 (some_element net.plan)) (none.elements element.0 (some_element net.plan) element.1)
due-later net n at none (inr line) =
    if_some_at (λ due. n ≤ due) line.state.due at line.due (if_some_at (λ state. IfSome state.due (λ due. n ≤ due)) (line_in net.lines line.line) line.state line.has (none.lines line.line line.within))

-- what elements take is what the rules say that they take in the last millisecond
taking-is : (net : NetState) (all : List Event) (now : ℕ) (taken : Taken) (element : ℕ) → IsOfPast net all (now + 1) → AreTaking net (now + 1) taken → element < length net.plan.elements
    → taken element ≡ taken_in net.plan (signals_by net.plan all) (out_at net.plan (signals_by net.plan all)) now element
unfolding taken_at
taking-is net all now taken element is taking within =
    taking element (some_element net.plan) past within stands.stands
    ∙ ap (λ settings. taken_by net.plan element (moments_until settings (now + 1) past)) stands.settings
    ∙ ap (taken_by net.plan element) (sym stands.quiet)
    ∙ ap (λ k. taken_by net.plan element (element_past net.plan (signals_by net.plan all) (out_at net.plan (signals_by net.plan all)) element k)) one_more
  where
    stands : ElementStands net.plan (signals_by net.plan all) (out_at net.plan (signals_by net.plan all)) element (now + 1) (slice_index_or net.elements element (some_element net.plan))
    stands = is.elements element (some_element net.plan) within

    past : List Moment
    past = element_past net.plan (signals_by net.plan all) (out_at net.plan (signals_by net.plan all)) element (slice_index_or net.elements element (some_element net.plan)).next

    one_more : now + 1 ≡ suc now
    one_more = omega arith

-- two elements that face each other do so by the rules
faces-now : (net : NetState) (all : List Event) (now line back : ℕ) → IsWellFormed net.plan → IsOfPast net all (now + 1) → AreFacing net (now + 1) line back
    → Faces net.plan (signals_by net.plan all) (out_at net.plan (signals_by net.plan all)) line back now
faces-now net all now line back well is facing = record {
  walk = record {
    joined = facing.walk.joined;
    each_taken = (by_rules line facing.within facing.walk.each_taken.0, (by_rules back facing.back_within facing.walk.each_taken.1.0, tt));
    apart = facing.walk.apart;
  };
  pair = facing.pair;
}
  where
    by_rules : (l : ℕ) → l < line_count net.plan → IsTaken net.plan facing.taken l
        → IsTaken net.plan (taken_in net.plan (signals_by net.plan all) (out_at net.plan (signals_by net.plan all)) now) l
    by_rules l within takes =
        sym (taking-is net all now facing.taken (receiver_of net.plan l) is facing.taking (receiver-within net.plan well l within)) ∙ takes

-- they have faced each other, and do so now
faces-until : (plan : Topology) (net : NetState) (all : List Event) (now line back from : ℕ) → net.plan ≡ plan → IsWellFormed plan → IsOfPast net all (now + 1) → AreFacing net (now + 1) line back
    → HaveFaced plan all line back from now → (t : ℕ) → from ≤ t → t ≤ now → Faces plan (signals_by plan all) (out_at plan (signals_by plan all)) line back t
faces-until plan net all now line back from same well is facing faced t late early = elim (dec_lt t now) [
  | yes before ↦ faced.each t late before
  | no here ↦ subst (λ k. Faces plan (signals_by plan all) (out_at plan (signals_by plan all)) line back k) (omega (arith, here, early))
      (subst (λ p. Faces p (signals_by p all) (out_at p (signals_by p all)) line back now) same (faces-now net all now line back (subst IsWellFormed (sym same) well) is facing))
]

-- an element that was read stands as it stands in the list
pub element-read : (net : NetState) (plan : Topology) (spent : Bool) (p : NetParts) (element : ℕ) (read : ElementState) → state_of plan spent p ≡ net
    → read ≡ slice_index_or p.elements.items element read → element < length net.plan.elements → (all : List Event) (n : ℕ) → IsOfPast net all n
    → ElementStands net.plan (signals_by net.plan all) (out_at net.plan (signals_by net.plan all)) element n read
element-read net plan spent p element read view same within all n is =
    subst (ElementStands net.plan (signals_by net.plan all) (out_at net.plan (signals_by net.plan all)) element n)
    (ap (λ s. slice_index_or s.elements element read) (sym view) ∙ sym same) (is.elements element read within)

pub line-read : (net : NetState) (plan : Topology) (spent : Bool) (p : NetParts) (line : ℕ) (kept : Option LineState) (read : LineState) → state_of plan spent p ≡ net
    → kept ≡ slice_index_or p.lines.items line kept → kept ≡ Some read → length p.lines.items ≡ line_count plan → IsNominated net.plan line → (all : List Event) (n : ℕ) → IsOfPast net all n
    → LineStands net.plan (signals_by net.plan all) (out_at net.plan (signals_by net.plan all)) line n read
line-read net plan spent p line kept read view same has count nominated all n is =
    if_some_at (LineStands net.plan (signals_by net.plan all) (out_at net.plan (signals_by net.plan all)) line n) (line_in net.lines line) read
    (ap (λ s. line_in s.lines line) (sym view) ∙ get_or_default p.lines.items line None kept within ∙ sym same ∙ has) (is.lines line (IsNominated-within net.plan line nominated))
  where
    within : line < length p.lines.items
    within = omega (arith, IsNominated-within net.plan line nominated, ap (λ s. line_count s.plan) view, count)

module _ (net : NetState) (plan : Topology) (spent : Bool) (p : NetParts) (view : state_of plan spent p ≡ net) (live : net.spent ≡ false) (invariant : spent ≡ false → IsWhole plan p) where
  -- it isn't spent
  not_spent : spent ≡ false
  not_spent = ap (λ s. s.spent) view ∙ live

  whole : IsWhole plan p
  whole = invariant not_spent

  seen : state_of plan false p ≡ net
  seen = sym (state-live plan spent p not_spent) ∙ view

  pub seen_stands : (now : ℕ) (events : List Event) (q : NetParts) → Net.IsInTime net now → IsNetStep now events (state_of plan false p) (state_of plan false q)
      → (all : List Event) (n : ℕ) → IsContinued net.plan all n now events → IsOfPast net all n → IsOfPast (state_of plan spent q) all (now + 1)
  seen_stands now events q in_time step all n here is =
      subst (λ s. IsOfPast s all (now + 1)) (sym (state-live plan spent q not_spent))
      (stands_after plan all events n now p q whole
      (subst (λ s. IsOfPast s all n) (sym seen) is)
      (subst (λ s. IsContinued s.plan all n now events) (sym seen) here)
      (subst (λ s. Net.IsInTime s now) (sym seen) in_time) step)

  pub seen_active : (now : ℕ) (events : List Event) (q : NetParts) → Net.IsInTime net now → IsNetStep now events (state_of plan false p) (state_of plan false q)
      → AreEvaluatedFor now events (state_of plan false p) (state_of plan false q)
      → (all : List Event) (n : ℕ) → IsContinued net.plan all n now events → IsOfPast net all n → All (λ element. is_active net.plan all element now ≡ true) q.tellings.active.listed
  seen_active now events q in_time step evaluated all n here is =
      subst (λ s. All (λ element. is_active s.plan all element now ≡ true) q.tellings.active.listed) seen
      (all_active plan all events n now p q whole
      (subst (λ s. IsOfPast s all n) (sym seen) is)
      (subst (λ s. IsContinued s.plan all n now events) (sym seen) here)
      (subst (λ s. Net.IsInTime s now) (sym seen) in_time) step evaluated)

  pub seen_least : (n : ℕ) → ((i : ℕ) → i < length p.dues → IfSome (due_in p.dues i) (λ due. n ≤ due)) → NoneDueBefore net n
  seen_least n none = subst (λ s. NoneDueBefore s n) seen (first_least plan p whole n none)

  seen_before : (at : ℕ) → IsFirstTime p.dues at → (n : ℕ) → n ≤ at → NoneDueBefore net n
  seen_before at first n early = seen_least n (λ i inside. if-some (λ other. at ≤ other) (λ other. n ≤ other) (λ other later. omega (arith, early, later)) (due_in p.dues i) (first.first i inside))

  seen_here : (at : ℕ) → IsFirstTime p.dues at → IsDueAt (state_of plan false p) at
  seen_here at first = due_here plan p whole first.some.0 at first.some.1 first.some.2

  seen_at : (at : ℕ) → IsFirstTime p.dues at → IsDueAt net at
  seen_at at first = subst (λ s. IsDueAt s at) seen (seen_here at first)

  -- none is due before any time, where none is due
  seen_idle : ((i : ℕ) → i < length p.dues → due_in p.dues i ≡ None) → (n : ℕ) → NoneDueBefore net n
  seen_idle idle n = seen_least n (λ i inside. subst (λ o. IfSome o (λ due. n ≤ due)) (sym (idle i inside)) tt)

  -- what is answered of the first time
  abbrev IsFound : Option ℕ → Type 0
  IsFound found = MatchOption found ((i : ℕ) → i < length p.dues → due_in p.dues i ≡ None) (IsFirstTime p.dues)

  pub seen_until : (found : Option ℕ) → IsFound found → (n : ℕ) → IfSome found (λ due. n ≤ due) → NoneDueBefore net n
  seen_until None idle n until = seen_idle idle n
  seen_until (Some at) first n until = seen_before at first n until

  pub seen_due : (found : Option ℕ) → IsFound found → IfSome found (IsDueAt net)
  seen_due None idle = tt
  seen_due (Some at) first = seen_at at first

  pub seen_later : (found : Option ℕ) → IsFound found → IfSome found (λ due. net.next ≤ due)
  seen_later None idle = tt
  seen_later (Some at) first = due-later net net.next at (subst (λ s. NoneDueBefore s s.next) seen (whole-later plan false p whole)) (seen_at at first)

  seen_gap_of : (all : List Event) (m n : ℕ) → IsOfPast net all m → m ≤ n → (net.next ≡ 0 → n ≡ 0) → NoneFrom m n all → NoneDueBefore net n → IsOfPast net all n
  seen_gap_of all m n is early begun none before =
      subst (λ s. IsOfPast s all n) seen
      (stands-later (state_of plan false p) all m n whole.well_formed (whole-sound plan false p whole) (subst (λ s. IsOfPast s all m) (sym seen) is) early
      (λ never. begun (ap (λ s. s.next) (sym seen) ∙ never)) none (subst (λ s. NoneDueBefore s n) (sym seen) before))

  pub seen_gap : (found : Option ℕ) → IsFound found → (all : List Event) (m n : ℕ) → IsOfPast net all m → m ≤ n → (net.next ≡ 0 → n ≡ 0) → NoneFrom m n all → IfSome found (λ due. n ≤ due) → IsOfPast net all n
  seen_gap found is all m n past early begun none until = seen_gap_of all m n past early begun none (seen_until found is n until)

  pub seen_settled : (found : Option ℕ) → IsFound found → IsNone found → 0 < net.next → (all : List Event) → IsOfPast net all net.next
      → IsSettled net.plan (signals_by net.plan all) (out_at net.plan (signals_by net.plan all)) (net.next - 1)
  seen_settled (Some at) first none begun all is = absurd (cc)
  seen_settled None idle none begun all is =
      settled-idle net all (subst (λ s. IsWellFormed s.plan) seen whole.well_formed) (subst AreSound seen (whole-sound plan false p whole)) begun is (seen_idle idle)

  pub seen_busy : (found : Option ℕ) → IsFound found → IfSome found (λ due. (all : List Event) (n : ℕ) → IsOfPast net all n → 0 < net.next → n ≤ due → NoneFrom n due all → is_busy net.plan all due ≡ true)
  seen_busy None idle = tt
  seen_busy (Some at) first = λ all n is begun early none.
      subst (λ s. is_busy s.plan all at ≡ true) seen
      (due-busy (state_of plan false p) all n at whole.well_formed (whole-sound plan false p whole) (subst (λ s. IsOfPast s all n) (sym seen) is)
      (subst (λ s. 0 < s.next) (sym seen) begun) early none (subst (λ s. NoneDueBefore s at) (sym seen) (seen_before at first at (omega arith)))
      (seen_here at first))

  -- the plan is well formed
  well : IsWellFormed net.plan
  well = subst (λ s. IsWellFormed s.plan) seen whole.well_formed

  -- of all events only the order in which they touch each element counts
  pub seen_ordered : (then : NetState) (all others : List Event) (n : ℕ) → then.plan ≡ net.plan → TouchAlike net.plan all others → IsOfPast then all n → IsOfPast then others n
  seen_ordered then all others n same alike is =
      stands-ordered then all others n (subst IsWellFormed (sym same) well) (subst (λ plan. TouchAlike plan all others) (sym same) alike) is

  -- two elements that take their timing from each other do so shortly
  pub seen_short : (then : NetState) (all : List Event) (now line back from : ℕ) → then.plan ≡ net.plan → IsOfPast then all (now + 1) → AreFacing then (now + 1) line back
      → HaveFaced net.plan all line back from now → now < from + (hearing_time + delay_of net.plan line)
  seen_short then all now line back from same is facing faced =
      pair-by_events net.plan all line back from now well faced.early (faces-until net.plan then all now line back from same well is facing faced)

  pub seen_short_speaking : (then : NetState) (all : List Event) (now line back from : ℕ) → then.plan ≡ net.plan → IsOfPast then all (now + 1) → AreFacing then (now + 1) line back
      → HaveFaced net.plan all line back from now → ((t : ℕ) → from ≤ t → t ≤ now → speaks_at (signals_by net.plan all) line t ≡ true) → now < from + delay_of net.plan line
  seen_short_speaking then all now line back from same is facing faced speaks =
      pair-short net.plan (signals_by net.plan all) (out_at net.plan (signals_by net.plan all)) line back from now well
      (obeys-well net.plan (signals_by net.plan all) well) (faces-until net.plan then all now line back from same well is facing faced) speaks faced.early

  -- a line that was read can be asked from the next millisecond on
  pub seen_line : (line : ℕ) (kept : Option LineState) (read : LineState) → kept ≡ slice_index_or p.lines.items line kept → kept ≡ Some read → IsNominated net.plan line
      → (read.turn ≤ 4 * net.next) × IfSome read.due (λ due. net.next ≤ due)
  seen_line line kept read same has nominated =
      let next : p.next ≡ net.next = ap (λ s. s.next) view in
      let within : line < line_count plan = omega (arith, IsNominated-within net.plan line nominated, ap (λ s. line_count s.plan) view) in
      let ready : IsReadyLine plan p.next line read = if_some_at (IsReadyLine plan p.next line) (line_in p.lines.items line) read
      (get_or_default p.lines.items line None kept (omega (arith, within, whole.lines_count)) ∙ sym same ∙ has) (whole.lines line within) in
      (omega (arith, ready.turn, next), subst (λ n. IfSome read.due (λ due. n ≤ due)) next ready.due_later)
