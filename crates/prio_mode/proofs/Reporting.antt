-- What a run shows at its end is what the elements take by the rules.
use Rattle.std.proofs.Common.{◌≡◌, ◌≤◌, ◌<◌, ℕ, suc, List, length, Option, None, Some, IfSome, refl, ap, sym, subst, ◌∙◌, inl, inr, arith}
use Rattle.std.specs.Prelude.{◌++◌, codes}
use Rattle.std.proofs.Math.Path.{fun_ext}
use Rattle.std.proofs.lemmas.Bool.{cases_lt}
use Rattle.std.proofs.Math.ListN.{get_or-map}
use Rattle.std.proofs.lemmas.List.{get_or_past, length-map}
use Rattle.std.proofs.lemmas.Option.{slice_get_cases}
use Rattle.sync_topo.specs.declared.event.Event.{Event}
use Rattle.sync_topo.specs.declared.input.InputId.{InputId}
use Rattle.sync_topo.specs.declared.input.InputId.TheVariants.{Line, Source}
use Rattle.sync_topo.specs.Topology.{Topology}
use Rattle.sync_topo.specs.WellFormed.{IsWellFormed}
use Rattle.sync_topo.specs.Lines.{IsInput, element_of}
use Rattle.net_rules.proofs.PlanLaws.{receiver-within}
use Rattle.net_rules.specs.Inputs.{IsInputOf}
use Rattle.net_rules.specs.Signals.{signals_by}
use Rattle.net_rules.specs.Walks.{Taken}
use Rattle.net_rules.proofs.SettingLaws.{taken-own}
use Rattle.closed_walks.specs.Taking.{taken_in_list, AreTaken}
use Rattle.closed_walks.specs.Loops.{AreLoops}
use Rattle.closed_walks.specs.WalkText.{walk_rows}
use Rattle.prio_mode.specs.declared.shown.ShownByPriority.{ShownByPriority}
use Rattle.prio_mode.specs.declared.shown.Seen.{Seen}
use Rattle.prio_mode.specs.declared.running.PriorityRun.{PriorityRun}
use Rattle.prio_mode.specs.PriorityAlone.{priority_settings, priority_past, priority_taken_at, priority_taken_in}
use Rattle.prio_mode.specs.PriorityRows.{shown_after, rows_until}
use Rattle.prio_mode.specs.PriorityReport.{IsPriorityReport}
use Rattle.prio_mode.specs.private.Running.{IsRun, RunStands, inputs_shown, kept_at, nobody}
use Rattle.prio_mode.proofs.Standing.{shown-is}

-- an input of the plan is of one of its elements
element-within : (plan : Topology) (input : InputId) → IsWellFormed plan → IsInput plan input → element_of plan input < length plan.elements
element-within plan (Line line) well has = receiver-within plan well line.0 has
element-within plan (Source source) well has = elim (slice_get_cases plan.sources source).1 [
  | inl there ↦ rw there.2 (well.sources_fit source there.0 there.2).at_is_element
  | inr past ↦ absurd (omega (arith, has, past.0))
]

-- what elements take by what they show
abbrev taken_shown : List Seen → Taken
taken_shown seen = taken_in_list (inputs_shown seen)

module _ (plan : Topology) (events : List Event) (until : ℕ) (run : PriorityRun) (well : IsWellFormed plan)
    (is : IsRun plan (suc until) run) (stood : RunStands plan events (suc until) run) where
  inside : (e : ℕ) → e < length plan.elements
      → (kept_at plan run e).one.shown.input ≡ priority_taken_in plan (signals_by plan events) until
      e
  unfolding shown_after priority_taken_at
  inside e within = ap (λ (shown : ShownByPriority). shown.input)
      (shown-is plan events e (suc until) (kept_at plan run e).one.element
      (kept_at plan run e).one.shown
      (is.ready e within).shows (stood e within))

  beyond : (e : ℕ) → length plan.elements ≤ e → (o : Option InputId) → priority_taken_in plan (signals_by plan events) until e ≡ o → o ≡ None
  unfolding priority_taken_at
  beyond e past None taken = refl
  beyond e past (Some input) taken =
      let of = taken-own plan (priority_settings plan e) e (priority_past plan (signals_by plan events) e (suc until)) input taken in
      let within = element-within plan input well of.has in
      let at = of.of_element in
      absurd (omega (arith, within, at, past))

  taken-same : taken_shown run.seen.items ≡ priority_taken_in plan (signals_by plan events) until
  taken-same = fun_ext
      (λ e. get_or-map (λ (one : Seen). one.shown.input) run.seen.items e (nobody plan)
      ∙ elim (cases_lt e (length plan.elements)) [
        | inl within ↦ inside e within
        | inr past ↦
            ap (λ (one : Seen). one.shown.input)
            (get_or_past run.seen.items e (nobody plan)
            (let count = is.counted.seen in omega (arith, count, past)))
            ∙ sym (beyond e past (priority_taken_in plan (signals_by plan events) until e) refl)
      ])

  -- each element takes an input of its own
  pub take-own : AreTaken plan (inputs_shown run.seen.items)
  unfolding priority_taken_at
  take-own = record {
    count = length-map run.seen.items (λ (one : Seen). one.shown.input) ∙ is.counted.seen;
    own = λ e. subst (λ (taken : Taken). IfSome (taken e) (IsInputOf plan e)) (sym taken-same) (by e (priority_taken_in plan (signals_by plan events) until e) refl);
  }
    where
      by : (e : ℕ) (o : Option InputId) → priority_taken_in plan (signals_by plan events) until e ≡ o → IfSome o (IsInputOf plan e)
      by e None taken = tt
      by e (Some input) taken = taken-own plan (priority_settings plan e) e (priority_past plan (signals_by plan events) e (suc until)) input taken

  -- the parts that were put are the report
  pub reported : (seen : List Seen) (first second third whole : List ℕ) → seen ≡ run.seen.items
      → first ≡ codes "changes\n"
      → second ≡ first ++ rows_until plan events (suc until) → third ≡ second ++ codes "loops\n"
      → (walks : List (List ℕ)) × AreLoops plan (taken_in_list (inputs_shown seen)) walks ×
      (whole ≡ third ++ walk_rows plan walks)
      → IsPriorityReport plan events until whole
  reported seen first second third whole listed one two three put = record {
    walks = put.0;
    loops = subst (λ (taken : Taken). AreLoops plan taken put.0) taken-same
        (subst (λ (xs : List Seen). AreLoops plan (taken_shown xs) put.0) listed put.1);
    text_is = put.2 ∙ ap (λ front. front ++ walk_rows plan put.0) (three ∙ ap (λ front. front ++ codes "loops\n") (two ∙ ap (λ front. front ++ rows_until plan events (suc until)) one));
  }
