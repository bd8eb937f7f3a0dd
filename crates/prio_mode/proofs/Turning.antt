-- How a run comes over a millisecond, element by element.
use Rattle.std.proofs.Common.{◌≡◌, ◌≤◌, ◌<◌, ℕ, suc, Bool, true, false, List, [], ◌∷◌, ◌++◌, length, filter, map, cond, IfSome, refl, ap, sym, subst, ◌∙◌, arith, append_assoc, ◌||◌, inl, inr, append-nil}
use Rattle.std.specs.List.{concat, range_with_len, list_any}
use Rattle.std.specs.Prelude.{nat_eq}
use Rattle.std.proofs.Math.Bool.{or-false, or-true}
use Rattle.std.proofs.lemmas.Bool.{true≢false, eq-eqb}
use Rattle.std.proofs.lemmas.Bool.Decides.{eqb_tells}
use Rattle.std.proofs.lemmas.List.{map-append}
use Rattle.std.proofs.lemmas.List.Folds.{concat-append}
use Rattle.sync_text.proofs.Each.{Each-range}
use Rattle.sync_text.specs.Each.{Each}
use Rattle.sync_ql.specs.declared.rules.InputEvent.{InputEvent}
use Rattle.sync_ql.specs.Told.{moment_after}
use Rattle.agenda.specs.Called.{AreInOrder}
use Rattle.agenda.proofs.MarkedPlaces.{flag_within, listed-push}
use Rattle.sync_element.specs.StandsAfter.{IsStepped}
use Rattle.sync_element.proofs.ElementSteps.{later-due, stepped-in_time, stands-stepped}
use Rattle.sync_topo.specs.declared.event.Event.{Event}
use Rattle.sync_topo.specs.Topology.{Topology}
use Rattle.net_rules.specs.Signals.{signals_by}
use Rattle.event_times.specs.EventTimes.{AreHere}
use Rattle.net_words.specs.Tellings.{is_active}
use Rattle.net_words.specs.Words.{all_words}
use Rattle.prio_mode.specs.declared.shown.Seen.{Seen}
use Rattle.prio_mode.specs.declared.running.PriorityRun.{PriorityRun}
use Rattle.prio_mode.specs.PriorityAlone.{priority_settings, priority_moment, priority_past}
use Rattle.prio_mode.specs.PriorityRows.{shown_by, row_between, row_in, rows_in, rows_until}
use Rattle.prio_mode.specs.private.Running.{Shows, Kept, IsReady, IsOfPast, IsRun, HasRun, kept_at}
use Rattle.prio_mode.specs.private.Visiting.{IsCalled, AreCalled, IsVisited, AreVisited, row_of, IsAloneVisited}
use Rattle.prio_mode.proofs.Standing.{told-moment, quiet-stands, shown-is, no-row}

-- after some elements, one that isn't among them
module _ (plan : Topology) (now e : ℕ) (done : List ℕ) (before mid after : PriorityRun)
    (text text_mid text_then : List ℕ) (fresh : list_any (nat_eq e) done ≡ false)
    (walk : AreVisited plan now done before mid text text_mid)
    (one : IsAloneVisited plan now e mid after text_mid text_then) where
  earlier : (other : ℕ) → nat_eq other e ≡ false
      → list_any (nat_eq other) (done ++ e ∷ []) ≡ list_any (nat_eq other) done
  earlier other apart = listed-push other e done
      ∙ ap (λ b. list_any (nat_eq other) done || b) apart ∙ or-false (list_any (nat_eq other) done)

  last : (other : ℕ) → nat_eq other e ≡ true → list_any (nat_eq other) (done ++ e ∷ []) ≡ true
  last other same = listed-push other e done
      ∙ ap (λ b. list_any (nat_eq other) done || b) same ∙ or-true (list_any (nat_eq other) done)

  rows-next : (row : ℕ → List ℕ)
      → concat (map row (done ++ e ∷ [])) ≡ concat (map row done) ++ row e
  rows-next row = ap concat (map-append row done (e ∷ []))
      ∙ concat-append (map row done) (row e ∷ [])
      ∙ ap (λ rows. concat (map row done) ++ rows) (append-nil (row e))

  pub walk-next : AreVisited plan now (done ++ e ∷ []) before after text text_then
  walk-next = record {
    counted = one.counted;
    here = λ other among. elim (eqb_tells other e) [
      | inl same ↦
          subst (λ p. IsVisited plan now p (kept_at plan before p) (kept_at plan after p))
          (sym same.1)
          (subst (λ (kept : Kept). IsVisited plan now e kept (kept_at plan after e))
          (walk.others e fresh)
          one.here)
      | inr apart ↦
          subst (IsVisited plan now other (kept_at plan before other))
          (sym (one.others other apart.1))
          (walk.here other (sym (earlier other apart.0) ∙ among))
    ];
    others = λ other none. elim (eqb_tells other e) [
      | inl same ↦ absurd (true≢false (sym (last other same.0) ∙ none))
      | inr apart ↦ one.others other apart.1
          ∙ walk.others other (sym (earlier other apart.0) ∙ none)
    ];
    rows = λ row is.
        one.row
        ∙ ap (λ front. front ++ row_of plan now e (kept_at plan mid e) (kept_at plan after e))
        (walk.rows row (λ other among. elim (eqb_tells other e) [
          | inl same ↦
              absurd (true≢false (sym among ∙ ap (λ p. list_any (nat_eq p) done) same.1 ∙ fresh))
          | inr apart ↦
              is other (earlier other apart.0 ∙ among)
              ∙ ap (row_of plan now other (kept_at plan before other)) (one.others other apart.1)
        ]))
        ∙ ap (λ own. (text ++ concat (map row done)) ++ own)
        (ap (λ kept. row_of plan now e kept (kept_at plan after e)) (walk.others e fresh)
        ∙ sym (is e (last e (eq-eqb e e refl))))
        ∙ append_assoc text (concat (map row done)) (row e)
        ∙ ap (λ rows. text ++ rows) (sym (rows-next row));
  }

-- an element that isn't due up to a later millisecond is ready for it
pub ready-later : (plan : Topology) (next now e : ℕ) (kept : Kept) → IsReady plan next e kept
    → next ≤ now → (next ≡ 0 → now ≡ 0) → IfSome kept.due (λ due. now ≤ due)
    → IsReady plan now e kept
ready-later plan next now e kept ready later first due = record {
  settings = ready.settings;
  in_time = record {
    first = λ never. first (ready.in_time.first never);
    later = (let begun = ready.in_time.later in omega (arith, begun, later));
    until_due = subst (λ o. IfSome o (λ d. now ≤ d)) ready.due due;
  };
  shows = ready.shows;
  untold = ready.untold;
  due = ready.due;
}

-- the row of an element is by what it showed before a millisecond, and shows after it
pub row-is : (plan : Topology) (all : List Event) (now e : ℕ) (was is : Kept)
    → Shows plan e was.one.element was.one.shown → Shows plan e is.one.element is.one.shown
    → IsOfPast plan all e now was.one.element → IsOfPast plan all e (suc now) is.one.element
    → row_in plan all now e ≡ row_of plan now e was is
row-is plan all now e was is showed shows stood stands = sym (
    ap (λ from. row_between plan now e from is.one.shown)
    (shown-is plan all e now was.one.element was.one.shown showed stood)
    ∙ ap (row_between plan now e (shown_by plan all e now))
    (shown-is plan all e (suc now) is.one.element is.one.shown shows stands))

-- after a millisecond an element is ready for the next one, and stands for one more
pub record IsOver (plan : Topology) (now e : ℕ) (here : List Event) (was is : Kept) : Type 0 where
  pub ready : IsReady plan (suc now) e is
  pub stands : (all : List Event) → AreHere plan all now here
      → IsOfPast plan all e now was.one.element → IsOfPast plan all e (suc now) is.one.element

-- one element: before the millisecond, when it was told its words, and after it
module _ (plan : Topology) (now e : ℕ) (here : List Event) (marked : Bool) (was mid is : Kept)
    (ready : IsReady plan now e was) (call : IsCalled now (all_words plan here e) marked was mid)
  where
    abbrev words : List InputEvent
    words = all_words plan here e

    -- it made its step
    visited-over : IsVisited plan now e mid is → IsOver plan now e here was is
    visited-over visit = record {
      ready = record {
        settings = stepped.settings ∙ ready.settings;
        in_time = stepped-in_time now words was.one.element is.one.element stepped;
        shows = visit.shows;
        untold = visit.untold;
        due = visit.due;
      };
      stands = λ all listed stood.
          stands-stepped (priority_settings plan e) (priority_moment plan (signals_by plan all) e) now
          words
          was.one.element is.one.element stepped stood
          (ap (λ events. moment_after (priority_settings plan e)
          (priority_past plan (signals_by plan all) e now)
          (all_words plan events e)) (sym listed.here)
          ∙ told-moment plan all e now listed.ordered.in_order);
    }
      where
        stepped : IsStepped now words was.one.element is.one.element
        stepped =
            subst (λ (one : Seen). IsStepped now words one.element is.one.element) call.one
            (subst (λ told. IsStepped now told mid.one.element is.one.element) call.told
            visit.stepped)

    -- or it had nothing to do
    idle-over : marked ≡ false → is ≡ mid → IsOver plan now e here was is
    idle-over idle left = subst (IsOver plan now e here was) (sym (left ∙ call.idle idle)) (record {
      ready = still;
      stands = λ all listed stood.
          quiet-stands plan all e now was.one.element listed.ordered.in_order still.in_time
          (ap (λ events. all_words plan events e) listed.here ∙ call.wordless idle) stood;
    })
      where
        still : IsReady plan (suc now) e was
        still = ready-later plan now (suc now) e was ready (omega arith)
            (λ first. absurd (call.started idle first)) (later-due now was.due
            (subst (λ (kept : Kept). IfSome kept.due (λ due. now < due)) (call.idle idle) call.later))

-- the rows that some give are those of all, where the others give none
rows-kept : (row : ℕ → List ℕ) (p : ℕ → Bool) (xs : List ℕ)
    → Each (λ e. p e ≡ false → row e ≡ []) xs
    → concat (map row (filter p xs)) ≡ concat (map row xs)
rows-kept row p [] none = refl
rows-kept row p (x ∷ xs) none = by (p x) refl (rows-kept row p xs none.1)
  where
    by : (b : Bool) → p x ≡ b → concat (map row (filter p xs)) ≡ concat (map row xs)
        → concat (map row (cond b (x ∷ filter p xs) (filter p xs))) ≡ row x ++ concat (map row xs)
    by true is more = ap (λ rows. row x ++ rows) more
    by false is more = more ∙ ap (λ own. own ++ concat (map row xs)) (sym (none.0 is))

-- all elements
module _ (plan : Topology) (now : ℕ) (here : List Event) (before called after : PriorityRun)
    (order : List ℕ)
    (text text_then : List ℕ) (run : IsRun plan now before)
    (calls : AreCalled plan now here before called)
    (sorted : AreInOrder called.tellings.active.flags order)
    (visits : AreVisited plan now order called after text text_then) where
  abbrev marked : ℕ → Bool
  marked e = is_active called.tellings e

  abbrev count : ℕ
  count = length called.tellings.active.flags

  over : (e : ℕ) → e < length plan.elements
      → IsOver plan now e here (kept_at plan before e) (kept_at plan after e)
  over e within = by (marked e) refl
    where
      by : (b : Bool) → marked e ≡ b
          → IsOver plan now e here (kept_at plan before e) (kept_at plan after e)
      by true is = visited-over plan now e here (marked e) (kept_at plan before e)
          (kept_at plan called e)
          (kept_at plan after e) (run.ready e within) (calls.each e within)
          (visits.here e (sorted.marked e ∙ is))
      by false is = idle-over plan now e here (marked e) (kept_at plan before e)
          (kept_at plan called e)
          (kept_at plan after e) (run.ready e within) (calls.each e within) is
          (visits.others e (sorted.marked e ∙ is))

  pub turned : IsRun plan (suc now) after
  turned = record { counted = visits.counted; ready = λ e within. (over e within).ready }

  pub turned-stands : (all : List Event) (first : List ℕ) → AreHere plan all now here
      → HasRun plan all now before first text → HasRun plan all (suc now) after first text_then
  turned-stands all first listed stood = (
    λ e within. (over e within).stands all listed (stood.0 e within),
    visits.rows (row_in plan all now) (λ e among.
        let inside = flagged e (sym (sorted.marked e) ∙ among) in
        row_by e inside
        ∙ ap (λ (one : Seen). row_between plan now e one.shown (kept_at plan after e).one.shown)
        (sym (calls.each e inside).one))
        ∙ ap (λ rows. text ++ rows) (ap (λ xs. concat (map (row_in plan all now) xs)) sorted.kept
        ∙ rows-kept (row_in plan all now) marked (range_with_len 0 count)
        (Each-range (λ e. marked e ≡ false → row_in plan all now e ≡ []) 0 count
        (λ e low high. none e (omega (arith, high))))
        ∙ ap (λ n. concat (map (row_in plan all now) (range_with_len 0 n))) calls.counted.flags)
        ∙ ap (λ front. front ++ rows_in plan all now) stood.1
        ∙ append_assoc first (rows_until plan all now) (rows_in plan all now),
  )
    where
      flagged : (e : ℕ) → marked e ≡ true → e < length plan.elements
      flagged e is =
          let within = flag_within called.tellings.active.flags e is in
          let flags = calls.counted.flags in
          omega (arith, within, flags)

      row_by : (e : ℕ) → e < length plan.elements
          → row_in plan all now e ≡ row_of plan now e (kept_at plan before e) (kept_at plan after e)
      row_by e within = row-is plan all now e (kept_at plan before e) (kept_at plan after e)
          (run.ready e within).shows (over e within).ready.shows (stood.0 e within)
          ((over e within).stands all listed (stood.0 e within))

      none : (e : ℕ) → e < count → marked e ≡ false → row_in plan all now e ≡ []
      none e high idle =
          let within : e < length plan.elements = omega (arith, high, calls.counted.flags) in
          let was = kept_at plan before e in
          row_by e within
          ∙ ap (row_of plan now e was)
          (visits.others e (sorted.marked e ∙ idle) ∙ (calls.each e within).idle idle)
          ∙ no-row plan now e was.one.shown was.one.shown refl
