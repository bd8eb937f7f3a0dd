-- Elements without a forced or a manual switch: after the last event that stays so, and the best candidate is taken.
use Rattle.std.proofs.Common.{◌≡◌, ◌≤◌, ◌<◌, ◌+◌, ◌-◌, ℕ, zero, suc, Bool, true, false, not, ◌&&◌, List, [], length, Option, None, Some, slice_get, refl, ap, sym, subst, ◌∙◌, arith, zero-add}
use Rattle.std.proofs.lemmas.Bool.{and_parts}
use Rattle.std.proofs.lemmas.List.FromFn.{length-map-range_with_len, get_or-map-range_with_len}
use Rattle.sync_ql.specs.declared.rules.Candidate.{Candidate}
use Rattle.sync_ql.specs.declared.rules.Cmd.{Cmd}
use Rattle.sync_ql.specs.Condition.{failed_at}
use Rattle.sync_ql.specs.Switches.{Switches, after_commands, is_locked}
use Rattle.sync_ql.specs.Selection.{candidate, is_above_do_not_use, is_better, is_eligible, standing_manual, choice, best_choice}
use Rattle.sync_ql.specs.Moment.{signals_of, level_now, candidates_at, at_end, selection_at}
use Rattle.sync_ql.proofs.Eligible.{nobody, eligible_within}
use Rattle.sync_ql.proofs.QuietMoments.{seen, switches_at-cons, selection_at-cons}
use Rattle.sync_topo.specs.declared.input.InputId.{InputId}
use Rattle.sync_topo.specs.Topology.{Topology}
use Rattle.sync_topo.specs.Lines.{inputs_of, input_priority, element_of}
use Rattle.net_rules.specs.Signals.{Signals}
use Rattle.net_rules.specs.History.{Levels, settings_of, heard, input_level, moment_at, element_past, failed_by}
use Rattle.net_rules.specs.Staying.{IsQuietAfter}
use Rattle.net_rules.proofs.Lists.{map-at}
use Rattle.net_rules.proofs.NetLaws.{failed-at, level-at, many-inputs}
use Rattle.reach_rules.specs.Reaching.{switches_in}
use Rattle.reach_rules.specs.Agreement.{IsAuto}

module _ (plan : Topology) (signals : Signals) (out : Levels) (element : ℕ) where
  -- what the choice looks at in a millisecond, and what is chosen
  abbrev pub candidates_in : ℕ → List Candidate
  candidates_in t = candidates_at (settings_of plan element) (switches_in plan signals out element t) (element_past plan signals out element (suc t))

  abbrev pub chosen_in : ℕ → Option ℕ
  chosen_in t = selection_at (settings_of plan element) (element_past plan signals out element (suc t))

  -- the switches stay where no command is given, but for a manual one
  auto-next : (t : ℕ) → signals.commands element (suc t) ≡ [] → IsAuto plan signals out t element
      → IsAuto plan signals out (suc t) element × ((switches_in plan signals out element (suc t)).locked ≡ (switches_in plan signals out element t).locked)
  unfolding moment_at
  auto-next t none auto = (
    record {
      unforced = ap (λ (s : Switches). s.forced) is ∙ auto.unforced;
      unswitched = ap (λ (s : Switches). s.manual) is
          ∙ ap (standing_manual (candidates_at (settings_of plan element) before (element_past plan signals out element (suc (suc t))))) auto.unswitched;
    },
    ap (λ (s : Switches). s.locked) is,
  )
    where
      before : Switches
      before = switches_in plan signals out element t

      after : List Cmd → Switches
      after commands =
          at_end (candidates_at (settings_of plan element) (after_commands before commands) (element_past plan signals out element (suc (suc t)))) (after_commands before commands)

      is : switches_in plan signals out element (suc t) ≡ after []
      is =
          switches_at-cons (settings_of plan element) (moment_at plan signals (heard plan signals out) element (suc t)) (element_past plan signals out element (suc t))
          ∙ ap after none

  -- so from the last event on
  pub auto-from : (last k : ℕ) → IsQuietAfter signals last → IsAuto plan signals out last element
      → IsAuto plan signals out (k + last) element × ((switches_in plan signals out element (k + last)).locked ≡ (switches_in plan signals out element last).locked)
  auto-from last zero quiet auto =
      let e : last ≡ 0 + last = omega arith in
      (subst (λ t. IsAuto plan signals out t element) e auto, ap (λ t. (switches_in plan signals out element t).locked) (sym e))
  auto-from last (suc k) quiet auto =
      let before = auto-from last k quiet auto in
      let next = auto-next (k + last) (quiet.commands element (k + last) (omega arith)) before.0 in
      let e : suc (k + last) ≡ suc k + last = omega arith in (
        subst (λ t. IsAuto plan signals out t element) e next.0,
        ap (λ t. (switches_in plan signals out element t).locked) (sym e) ∙ next.1 ∙ before.1,
      )

  pub auto-at : (last t : ℕ) → IsQuietAfter signals last → IsAuto plan signals out last element → last ≤ t
      → IsAuto plan signals out t element × ((switches_in plan signals out element t).locked ≡ (switches_in plan signals out element last).locked)
  auto-at last t quiet auto after =
      let e : (t - last) + last ≡ t = omega (arith, after) in
      let there = auto-from last (t - last) quiet auto in (
        subst (λ u. IsAuto plan signals out u element) e there.0,
        ap (λ u. (switches_in plan signals out element u).locked) (sym e) ∙ there.1,
      )

  -- without a switch the best is chosen, of the one before and the others
  pub auto-best : (t : ℕ) → IsAuto plan signals out t element
      → chosen_in t ≡ best_choice (candidates_in t) (selection_at (settings_of plan element) (element_past plan signals out element t))
  auto-best t auto =
      selection_at-cons (settings_of plan element) (moment_at plan signals (heard plan signals out) element t) (element_past plan signals out element t)
      ∙ ap (λ forced. choice (candidates_in t) forced (switches_in plan signals out element t).manual (selection_at (settings_of plan element) (element_past plan signals out element t))) auto.unforced
      ∙ ap (λ manual. choice (candidates_in t) None manual (selection_at (settings_of plan element) (element_past plan signals out element t))) auto.unswitched

  -- the candidate at a place
  seen-at : (t k : ℕ) → k < length (settings_of plan element).priorities
      → candidate (candidates_in t) k ≡ seen (settings_of plan element) (switches_in plan signals out element t) (element_past plan signals out element (suc t)) k
  seen-at t k inside =
      get_or-map-range_with_len (seen (settings_of plan element) (switches_in plan signals out element t) (element_past plan signals out element (suc t)))
      0 (length (settings_of plan element).priorities) k k nobody inside (zero-add k)

  pub eligible-within : (t k : ℕ) → is_eligible (candidate (candidates_in t) k) ≡ true → k < length (inputs_of plan element)
  eligible-within t k eligible =
      let count = length-map-range_with_len (seen (settings_of plan element) (switches_in plan signals out element t) (element_past plan signals out element (suc t)))
      0 (length (settings_of plan element).priorities) in
      subst (λ n. k < n) (count ∙ many-inputs plan element) (eligible_within (candidates_in t) k eligible)

  inside-too : (k : ℕ) → k < length (inputs_of plan element) → k < length (settings_of plan element).priorities
  inside-too k within = subst (λ n. k < n) (sym (many-inputs plan element)) within

  pub level-seen : (t k : ℕ) (input : InputId) → k < length (inputs_of plan element) → slice_get (inputs_of plan element) k ≡ Some input
      → (candidate (candidates_in t) k).level ≡ input_level signals (heard plan signals out) input t
  level-seen t k input within there =
      ap (λ (c : Candidate). c.level) (seen-at t k (inside-too k within)) ∙ level-at plan signals out element t k input there

  pub priority-seen : (t k : ℕ) (input : InputId) → k < length (inputs_of plan element) → slice_get (inputs_of plan element) k ≡ Some input
      → (candidate (candidates_in t) k).priority ≡ input_priority plan input
  unfolding settings_of
  priority-seen t k input within there =
      ap (λ (c : Candidate). c.priority) (seen-at t k (inside-too k within)) ∙ map-at (input_priority plan) (inputs_of plan element) k input 0 there

  -- one that is eligible isn't failed
  pub eligible-good : (t k : ℕ) (input : InputId) → k < length (inputs_of plan element) → slice_get (inputs_of plan element) k ≡ Some input → element_of plan input ≡ element
      → is_eligible (candidate (candidates_in t) k) ≡ true → failed_by plan signals input t ≡ false
  eligible-good t k input within there of eligible =
      sym (failed-at plan signals out element t k input there of)
      ∙ not-failed (is_locked (switches_in plan signals out element t) k) (failed_at (settings_of plan element).timers (signals_of k (element_past plan signals out element (suc t))))
      (is_better (settings_of plan element).floor (level_now k (element_past plan signals out element (suc t))))
      (sym (ap (λ (c : Candidate). c.usable) (seen-at t k (inside-too k within)))
      ∙ (and_parts (candidate (candidates_in t) k).usable (is_above_do_not_use (candidate (candidates_in t) k).level) eligible).0)
    where
      not-failed : (locked failed below : Bool) → (not locked && not failed && not below) ≡ true → failed ≡ false
      not-failed false false below is = refl
      not-failed true failed below is = cc
      not-failed false true below is = cc

  -- a candidate is the same where its input's level and whether it is failed are, and lockouts
  pub seen-same : (t u k : ℕ) (input : InputId) → k < length (inputs_of plan element) → slice_get (inputs_of plan element) k ≡ Some input
      → element_of plan input ≡ element
      → (switches_in plan signals out element u).locked ≡ (switches_in plan signals out element t).locked
      → input_level signals (heard plan signals out) input u ≡ input_level signals (heard plan signals out) input t
      → failed_by plan signals input u ≡ failed_by plan signals input t
      → candidate (candidates_in u) k ≡ candidate (candidates_in t) k
  seen-same t u k input within there of locked level failed =
      seen-at u k (inside-too k within)
      ∙ same
      ∙ sym (seen-at t k (inside-too k within))
    where
      level_same : level_now k (element_past plan signals out element (suc u)) ≡ level_now k (element_past plan signals out element (suc t))
      level_same = level-at plan signals out element u k input there ∙ level ∙ sym (level-at plan signals out element t k input there)

      failed_same : failed_at (settings_of plan element).timers (signals_of k (element_past plan signals out element (suc u)))
          ≡ failed_at (settings_of plan element).timers (signals_of k (element_past plan signals out element (suc t)))
      failed_same = failed-at plan signals out element u k input there of ∙ failed ∙ sym (failed-at plan signals out element t k input there of)

      same : seen (settings_of plan element) (switches_in plan signals out element u) (element_past plan signals out element (suc u)) k
          ≡ seen (settings_of plan element) (switches_in plan signals out element t) (element_past plan signals out element (suc t)) k
      same = rw (locked, level_same, failed_same) refl
