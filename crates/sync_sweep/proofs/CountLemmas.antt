-- States and levels in the millisecond of a network's last step, and one element more.
use Rattle.std.proofs.Common.{◌≡◌, ℕ, zero, suc, ◌+◌, ◌-◌, ◌≤◌, ◌<◌, Bool, cond, length, take, List, add-one, refl, sym, ap, ◌∙◌, arith, inl, inr}
use Rattle.std.specs.List.{count_by, range_with_len}
use Rattle.std.proofs.lemmas.List.Sums.{sum_by_push, sum_by_more}
use Rattle.std.proofs.lemmas.Option.{slice_get_cases, same_Some}
use Rattle.sync_ql.specs.declared.levels.Level.{Level}
use Rattle.sync_ql.specs.declared.rules.ClockState.{ClockState}
use Rattle.sync_ql.specs.declared.rules.ClockState.TheVariants.{FreeRun, Locked, Holdover}
use Rattle.sync_ql.specs.Moment.{Moment, Settings}
use Rattle.sync_ql.specs.Told.{moments_until}
use Rattle.sync_ql.specs.Output.{clock_level_at, state_at}
use Rattle.sync_element.specs.ElementState.{ElementState, IsInTime}
use Rattle.sync_element.specs.StandsFor as Element
use Rattle.sync_topo.specs.declared.event.Event.{Event}
use Rattle.sync_topo.specs.Topology.{Topology}
use Rattle.sync_topo.specs.WellFormed.{IsWellFormed}
use Rattle.net_rules.specs.Signals.{Signals, signals_by}
use Rattle.net_rules.specs.History.{Levels, settings_of, out_at, element_past, element_state, level_at}
use Rattle.sync_net.specs.Standing.{ElementStands}
use Rattle.sync_sweep.specs.declared.counted_states.States.{States}
use Rattle.sync_sweep.specs.Outcomes.{is_in, level_in, IsWorstOf}
use Rattle.sync_sweep.specs.private.Counts.{AreTallied, AreCounted}
use Rattle.sync_sweep.proofs.Tallies.{is_kind}
use Rattle.std.specs.Prelude.{slice_index_or}
use Rattle.std.proofs.lemmas.List.{take_all}
use Rattle.sync_ql.specs.Level.{level_at as level_with}
use Rattle.sync_ql.proofs.Tables.{level_at-place}
use Rattle.sync_text.proofs.Ranges.{range_more}

-- what an element's accessors say after any past is what the rules say in the millisecond of its network's last step
module _ (plan : Topology) (signals : Signals) (out : Levels) (place next : ℕ) (element : ElementState) (stepped : 0 < next) (is : ElementStands plan signals out place next element) where
  by_past : {A : Type 0} (f : Settings → List Moment → A) (answer : A)
      → ((past : List Moment) (n : ℕ) → Element.StandsFor element past → IsInTime element n → answer ≡ f element.settings (moments_until element.settings n past))
      → answer ≡ f (settings_of plan place) (element_past plan signals out place (suc (next - 1)))
  by_past f answer says =
      let past : List Moment = element_past plan signals out place element.next in
      let last : next ≡ suc (next - 1) = omega (arith, stepped) in
      says past next is.stands is.in_time
      ∙ ap (λ s. f s (moments_until s next past)) is.settings
      ∙ ap (λ p. f (settings_of plan place) p) (sym is.quiet)
      ∙ ap (λ n. f (settings_of plan place) (element_past plan signals out place n)) last

  pub state-now : (state : ClockState)
      → ((past : List Moment) (n : ℕ) → Element.StandsFor element past → IsInTime element n → state ≡ state_at element.settings (moments_until element.settings n past))
      → state ≡ element_state plan signals out place (next - 1)
  state-now state says = by_past state_at state says

  pub level-now : (level : Level)
      → ((past : List Moment) (n : ℕ) → Element.StandsFor element past → IsInTime element n → level ≡ clock_level_at element.settings (moments_until element.settings n past))
      → level ≡ level_at plan signals out place (next - 1)
  unfolding level_at
  level-now level says = by_past clock_level_at level says

-- as many pass a test at the front of a list as numbers pass one that is alike
pub alike-counted : {A : Type 0} (p : A → Bool) (q : ℕ → Bool) (list : List A) (other : A) (n : ℕ) → n ≤ length list
    → ((e : ℕ) → e < n → p (slice_index_or list e other) ≡ q e) → count_by p (take n list) ≡ count_by q (range_with_len 0 n)
alike-counted p q list other zero few same = refl
alike-counted p q list other (suc n) few same =
    let before = alike-counted p q list other n (omega (arith, few)) (λ e within. same e (omega (arith, within))) in
    ap (λ k. count_by p (take k list)) (sym (add-one n))
    ∙ sum_by_more (λ x. cond (p x) 1 0) list n other (omega (arith, few))
    ∙ ap (λ k. k + cond (p (slice_index_or list n other)) 1 0) before
    ∙ ap (λ b. count_by q (range_with_len 0 n) + cond b 1 0) (same n (omega arith))
    ∙ sym (ap (count_by q) (range_more n) ∙ sum_by_push (λ x. cond (q x) 1 0) (range_with_len 0 n) n)
    ∙ ap (λ k. count_by q (range_with_len 0 k)) (add-one n)

-- the counts of what is shown are those of the rules
pub all-counted : (plan : Topology) (events : List Event) (t : ℕ) (list : List ClockState) (states : States) → length list ≡ length plan.elements → AreTallied list states
    → ((e : ℕ) → e < length plan.elements → slice_index_or list e FreeRun ≡ element_state plan (signals_by plan events) (out_at plan (signals_by plan events)) e t)
    → AreCounted plan events t (length plan.elements) states
all-counted plan events t list states count tallied same = record {
  locked = tallied.locked ∙ of Locked;
  holdover = tallied.holdover ∙ of Holdover;
  free = tallied.free ∙ of FreeRun;
}
  where
    of : (kind : ClockState) → count_by (is_kind kind) list ≡ count_by (is_in kind plan events t) (range_with_len 0 (length plan.elements))
    of kind =
        ap (count_by (is_kind kind)) (sym (take_all (length plan.elements) list (omega (arith, count))))
        ∙ alike-counted (is_kind kind) (is_in kind plan events t) list FreeRun (length plan.elements) (omega (arith, count))
        (λ e within. ap (is_kind kind) (same e within))

-- a level is told by its option and its place
pub same-level : (a b : Level) → a.option ≡ b.option → a.place ≡ b.place → a ≡ b
same-level a b option place =
    same_Some a b (sym (level_at-place a) ∙ ap (λ o. level_with o a.place) option ∙ ap (level_with b.option) place ∙ level_at-place b)

-- the level of an element is the worst where none has a greater place
pub worst-found : (plan : Topology) (events : List Event) (t n element : ℕ) (worst : Level) → element < n → worst.option ≡ plan.option
    → worst ≡ level_in plan events t element → ((other : ℕ) → other < n → (level_in plan events t other).place ≤ worst.place) → IsWorstOf plan events t n worst
worst-found plan events t n element worst inside of_option is none_greater = record {
  of_option = of_option;
  element = element;
  within = inside;
  has = sym is;
  none_worse = λ other within better. omega (arith, better, none_greater other within);
}

-- a plan with a link has elements
pub some-element : (plan : Topology) (link : ℕ) → IsWellFormed plan → link < length plan.links → 0 < length plan.elements
some-element plan link well within = elim (slice_get_cases plan.links link).1 [
  | inl there ↦ omega (arith, (well.links_join link there.0 there.2).a_is_element)
  | inr past ↦ absurd (omega (arith, within, past.0))
]
