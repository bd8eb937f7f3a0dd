-- A run before its first millisecond.
use Rattle.std.proofs.Common.{◌≡◌, ℕ, false, List, [], length, replicate, None, ap, sym, ◌∙◌, inl, inr, arith}
use Rattle.std.specs.Prelude.{slice_index_or}
use Rattle.std.proofs.lemmas.Bool.{cases_lt}
use Rattle.std.proofs.lemmas.List.{get_or-replicate, length-replicate, get_or_past}
use Rattle.agenda.specs.Marked.{none_marked}
use Rattle.sync_element.proofs.ElementSteps.{new-in_time, stands-new}
use Rattle.sync_topo.specs.declared.event.Event.{Event}
use Rattle.sync_topo.specs.Topology.{Topology}
use Rattle.net_rules.specs.Signals.{signals_by}
use Rattle.net_words.specs.NewElements.{AreEach}
use Rattle.prio_mode.specs.declared.running.PriorityRun.{PriorityRun}
use Rattle.prio_mode.specs.PriorityAlone.{priority_settings, priority_moment}
use Rattle.prio_mode.specs.private.Running.{IsNewSeen, IsRun, RunStands, kept_at, nobody}

replicated : {A : Type 0} (n i : ℕ) (a : A) → slice_index_or (replicate n a) i a ≡ a
replicated n i a = elim (cases_lt i n) [
  | inl low ↦ get_or-replicate n i a a low
  | inr high ↦ get_or_past (replicate n a) i a (let long : length (replicate n a) ≡ n = length-replicate n a in omega (arith, long, high))
]

-- new elements are a run
pub begun : (plan : Topology) (run : PriorityRun)
    → AreEach (IsNewSeen plan) (length plan.elements) run.seen.items
    → run.tellings.changes.items ≡ replicate (length plan.elements) []
    → run.tellings.active ≡ none_marked (length plan.elements)
    → run.dues ≡ replicate (length plan.elements) None → IsRun plan 0 run
unfolding priority_settings
begun plan run seen changes active dues = record {
  counted = record {
    seen = seen.count;
    changes = ap length changes ∙ length-replicate (length plan.elements) [];
    flags = ap (λ m. length m.flags) active ∙ length-replicate (length plan.elements) false;
    dues = ap length dues ∙ length-replicate (length plan.elements) None;
  };
  ready = λ e within. let is = seen.each e (nobody plan) within in record {
    settings = is.new.settings;
    in_time = new-in_time (kept_at plan run e).one.element is.new.next is.new.due;
    shows = is.shows;
    untold = ap (λ xs. slice_index_or xs e []) changes ∙ replicated (length plan.elements) e [];
    due = ap (λ xs. slice_index_or xs e None) dues ∙ replicated (length plan.elements) e None
        ∙ sym is.new.due;
  };
}

-- and stand for no milliseconds
pub begun-stands : (plan : Topology) (run : PriorityRun)
    → AreEach (IsNewSeen plan) (length plan.elements) run.seen.items
    → (all : List Event) → RunStands plan all 0 run
unfolding priority_settings
begun-stands plan run seen all e within =
    let is = (seen.each e (nobody plan) within).new in
    stands-new (priority_settings plan e) (priority_moment plan (signals_by plan all) e)
    (kept_at plan run e).one.element is.settings is.next is.due is.stands
