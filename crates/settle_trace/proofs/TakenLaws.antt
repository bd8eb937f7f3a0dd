-- What elements take, by what they answer.
use Rattle.std.proofs.Common.{◌≡◌, ◌≤◌, ◌<◌, ◌-◌, ◌+◌, ◌++◌, ℕ, suc, List, [], ◌∷◌, length, slice_get, slice_index_or, Option, None, Some, IfSome, ap, sym, subst, ◌∙◌, arith, refl}
use Rattle.std.proofs.Math.Decide.{dec_lt}
use Rattle.std.proofs.Math.Seq.{get_or-append_seam}
use Rattle.std.proofs.lemmas.List.{get_or_append_left, length-append, get_or_past}
use Rattle.std.specs.Prelude.{option_and_then}
use Rattle.sync_text.proofs.Each.{item-if}
use Rattle.sync_ql.specs.Moment.{Moment, selection_at}
use Rattle.sync_ql.specs.Told.{moments_until}
use Rattle.sync_element.specs.ElementState.{ElementState, IsInTime}
use Rattle.sync_element.specs.StandsFor as Element
use Rattle.sync_topo.specs.declared.input.InputId.{InputId}
use Rattle.sync_topo.specs.Topology.{Topology}
use Rattle.sync_topo.specs.Lines.{inputs_of}
use Rattle.sync_topo.specs.WellFormed.{IsWellFormed}
use Rattle.sync_topo.specs.declared.event.Event.{Event}
use Rattle.net_rules.specs.Signals.{Signals}
use Rattle.net_rules.specs.Inputs.{IsInputOf}
use Rattle.net_rules.specs.History.{Levels, settings_of, element_past, taken_at}
use Rattle.net_rules.proofs.InputLaws.{inputs-are}
use Rattle.net_rules.proofs.OrderLaws.{input-within}
use Rattle.net_rules.proofs.FinalLaws.{taken-own}
use Rattle.closed_walks.specs.Taking.{taken_in_list}
use Rattle.sync_net.specs.NetState.{NetState}
use Rattle.sync_net.specs.Standing.{ElementStands}
use Rattle.settle_trace.specs.Now.{signals_of, out_of, taken_now}
use Rattle.settle_trace.specs.Taking.{IsTaking, AreTaking}

-- what is taken is an input of the element's own
pub own-input : (plan : Topology) (element : ℕ) (place : Option ℕ) (answer : Option InputId)
    → answer ≡ option_and_then (slice_get (inputs_of plan element)) place → IfSome answer (IsInputOf plan element)
own-input plan element place answer is =
    subst (λ (o : Option InputId). IfSome o (IsInputOf plan element)) (sym is) (item-if (IsInputOf plan element) (inputs_of plan element) place (inputs-are plan element))

-- and it is that of the millisecond of the last step
taking-at : (plan : Topology) (signals : Signals) (out : Levels) (place n : ℕ) (element : ElementState) (answer : Option InputId) → 0 < n
    → ElementStands plan signals out place n element → IsTaking plan place element answer → answer ≡ taken_at plan signals out place (n - 1)
unfolding taken_at
taking-at plan signals out place n element answer begun stands takes =
    let after : n ≡ suc (n - 1) = omega (arith, begun) in
    let past : List Moment = element_past plan signals out place element.next in
    takes.is past n stands.stands stands.in_time
    ∙ ap (option_and_then (slice_get (inputs_of plan place)))
    (ap (λ settings. selection_at settings (moments_until settings n past)) stands.settings
    ∙ sym (ap (selection_at (settings_of plan place)) stands.quiet)
    ∙ ap (λ k. selection_at (settings_of plan place) (element_past plan signals out place k)) after)

pub taken-now : (plan : Topology) (signals : Signals) (out : Levels) (place n : ℕ) (element : ElementState) (selected : Option ℕ) (answer : Option InputId) → 0 < n
    → ElementStands plan signals out place n element
    → ((past : List Moment) (k : ℕ) → Element.StandsFor element past → IsInTime element k → selected ≡ selection_at element.settings (moments_until element.settings k past))
    → answer ≡ option_and_then (slice_get (inputs_of plan place)) selected
    → answer ≡ taken_at plan signals out place (n - 1)
taken-now plan signals out place n element selected answer begun stands is answer_is =
    taking-at plan signals out place n element answer begun stands
    (record { is = λ past k stood in_time. answer_is ∙ ap (option_and_then (slice_get (inputs_of plan place))) (is past k stood in_time) })

-- no element beyond those of the plan takes anything
none-beyond : (plan : Topology) (k : ℕ) (input : Option InputId) → IsWellFormed plan → length plan.elements ≤ k → IfSome input (IsInputOf plan k) → input ≡ None
none-beyond plan k None well beyond own = refl
none-beyond plan k (Some input) well beyond own =
    let within = input-within plan well input own.has in
    let same = own.of_element in
    absurd (omega (arith, within, same, beyond))

-- so what stands in a list is what all take in that millisecond
pub taking-now : (net : NetState) (taken : List (Option InputId)) (some : ElementState) → IsWellFormed net.plan → 0 < net.next → AreTaking net taken
    → (all : List Event)
    → ((k : ℕ) → k < length net.plan.elements → ElementStands net.plan (signals_of net all) (out_of net all) k net.next (slice_index_or net.elements k some))
    → (k : ℕ) → taken_in_list taken k ≡ taken_now net all k
taking-now net taken some well begun taking all stands k = elim (dec_lt k (length net.plan.elements)) [
  | yes within ↦
      taking-at net.plan (signals_of net all) (out_of net all) k net.next (slice_index_or net.elements k some) (taken_in_list taken k) begun (stands k within) (taking.each k some within)
  | no later ↦
      let beyond : length net.plan.elements ≤ k = omega (arith, later) in
      none-beyond net.plan k (taken_in_list taken k) well beyond (taking.own.own k)
      ∙ sym (none-beyond net.plan k (taken_now net all k) well beyond (taken-own net.plan (signals_of net all) (out_of net all) k (net.next - 1)))
]

-- what holds at each place of a list, and at the next one of what is pushed
pub pushed : (P : ℕ → Option InputId → Type 0) (before after : List (Option InputId)) (e : ℕ) (input : Option InputId) → length before ≡ e → after ≡ before ++ input ∷ []
    → ((k : ℕ) → k < e → P k (taken_in_list before k)) → P e input → (k : ℕ) → k < e + 1 → P k (taken_in_list after k)
pushed P before after e input count more each one k within = elim (dec_lt k e) [
  | yes earlier ↦
      subst (P k) (sym (ap (λ list. taken_in_list list k) more ∙ get_or_append_left before (input ∷ []) None k (omega (arith, earlier, count)))) (each k earlier)
  | no last ↦
      let here : k ≡ length before = omega (arith, within, last, count) in
      subst (P k) (sym (ap (λ list. taken_in_list list k) more ∙ ap (taken_in_list (before ++ input ∷ [])) here ∙ get_or-append_seam before input [] None))
      (subst (λ j. P j input) (sym (omega (arith, here, count))) one)
]

pub pushed-count : (before after : List (Option InputId)) (e : ℕ) (input : Option InputId) → length before ≡ e → after ≡ before ++ input ∷ [] → length after ≡ e + 1
pushed-count before after e input count more = omega (arith, ap length more, length-append before (input ∷ []), count)

pub own-pushed : (plan : Topology) (before after : List (Option InputId)) (e : ℕ) (input : Option InputId) → length before ≡ e → after ≡ before ++ input ∷ []
    → ((k : ℕ) → IfSome (taken_in_list before k) (IsInputOf plan k)) → IfSome input (IsInputOf plan e) → (k : ℕ) → IfSome (taken_in_list after k) (IsInputOf plan k)
own-pushed plan before after e input count more each one k = elim (dec_lt k (e + 1)) [
  | yes within ↦ pushed (λ j (i : Option InputId). IfSome i (IsInputOf plan j)) before after e input count more (λ j _. each j) one k within
  | no beyond ↦
      subst (λ (o : Option InputId). IfSome o (IsInputOf plan k))
      (sym (get_or_past after k None (omega (arith, beyond, pushed-count before after e input count more)))) tt
]
