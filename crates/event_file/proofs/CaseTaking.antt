-- The rows of a case file that are gone through, one more and all.
use Rattle.std.proofs.Common.{◌≡◌, ◌≤◌, ◌<◌, ◌+◌, ℕ, zero, suc, true, false, List, [], ◌∷◌, ◌++◌, length, map, Some, None, refl, sym, ap, arith, ◌∙◌, append_assoc, append-nil, length-append}
use Rattle.std.specs.Prelude.{Ok, Err}
use Rattle.std.specs.List.{All, flat_map, sum_by}
use Rattle.std.proofs.lemmas.Bool.{lt-ltb, le-ltb}
use Rattle.std.proofs.lemmas.List.{length-map}
use Rattle.std.proofs.lemmas.List.Concat.{length-flat_map}
use Rattle.std.proofs.lemmas.List.Elements.{All-append, All-nil}
use Rattle.sync_text.specs.Chain.{unless}
use Rattle.sync_text.specs.declared.errors.NoAnswer.{NoAnswer}
use Rattle.sync_text.specs.Gives.{IfRefusal, Refuses}
use Rattle.sync_text.proofs.Failures.{refused-more}
use Rattle.csv_records.specs.Fields.{five_of}
use Rattle.csv_records.proofs.FirstRefusals.{first_refusal-some, first_refusal-none}
use Rattle.sync_topo.specs.declared.event.Case.{Case}
use Rattle.sync_topo.specs.declared.event.Event.{Event}
use Rattle.sync_topo.specs.Topology.{Topology}
use Rattle.sync_topo.specs.Sizes.{event_limit}
use Rattle.sync_topo.specs.Events.{Fits, IsCase, IsEventList}
use Rattle.event_file.specs.declared.case_file.Cases.{Cases}
use Rattle.event_file.specs.declared.error.EventErr.{EventErr}
use Rattle.event_file.specs.declared.error.EventErr.TheVariants as refusal
use Rattle.event_file.specs.declared.progress.CasesSoFar.{CasesSoFar}
use Rattle.event_file.specs.Rows.{Fields, event_in, time_in, last_time, row_refusal}
use Rattle.event_file.specs.private.Rows.{event_row}
use Rattle.event_file.specs.CaseRows.{case_in, event_fields, case_before, may_follow, is_apart, rows_of, time_after, case_refusal, case_refusal_at}
use Rattle.event_file.specs.CaseText.{names_of, case_of, cases_in, cases_of_rows, all_events}
use Rattle.event_file.specs.private.CasesTaken.{with_current, with_event, AreSorted, AreTimely, IsTimely, AreCasesTaken, AreCasesLeft}
use Rattle.event_file.proofs.CaseRowLaws.{five_row, refusal-said, refusal-before, refusal-here}
use Rattle.event_file.proofs.Sorting.{names-are, all-cases, all-timely, put-taken}

-- the rule that the next row breaks
pub limit-broken : (plan : Topology) (done : List Fields) (kept : CasesSoFar) (row : Fields) → AreCasesTaken plan done kept → event_limit plan < kept.rows + 1
    → case_refusal plan done (length done + 1) row ≡ Some refusal.Limit
unfolding case_refusal
limit-broken plan done kept row taken many =
    let numbered = taken.sorted.numbered in
    rw (lt-ltb (event_limit plan) (length done + 1) (omega (arith, many, numbered))) refl

pub fields-broken : (plan : Topology) (done : List Fields) (kept : CasesSoFar) (row : Fields) → AreCasesTaken plan done kept → kept.rows + 1 ≤ event_limit plan
    → None ≡ five_of row → case_refusal plan done (length done + 1) row ≡ Some (refusal.Fields (kept.rows + 1))
unfolding case_refusal
fields-broken plan done kept row taken few none =
    let numbered = taken.sorted.numbered in
    rw (le-ltb (event_limit plan) (length done + 1) (omega (arith, few, numbered)), ← none, numbered) refl

-- the row has five fields, the first of which is the name of its case
module _ (plan : Topology) (done : List Fields) (row : Fields) (name at word target value : List ℕ) (fields : Some (name, at, word, target, value) ≡ five_of row) where
  by_fields : row ≡ name ∷ event_row at word target value
  by_fields = five_row row name at word target value (sym fields)

  pub name-broken : (kept : CasesSoFar) → AreCasesTaken plan done kept → kept.rows + 1 ≤ event_limit plan → may_follow done name ≡ false
      → case_refusal plan done (length done + 1) row ≡ Some (refusal.Name (kept.rows + 1))
  unfolding case_refusal
  name-broken kept taken few may =
      let numbered = taken.sorted.numbered in
      rw (by_fields, le-ltb (event_limit plan) (length done + 1) (omega (arith, few, numbered)), may, numbered) refl

  pub apart-broken : (kept : CasesSoFar) (failed : NoAnswer EventErr) → AreCasesTaken plan done kept → kept.rows + 1 ≤ event_limit plan → may_follow done name ≡ true
      → IfRefusal failed (λ error. (is_apart done name ≡ true) × (error ≡ refusal.Apart (kept.rows + 1)))
      → IfRefusal failed (λ error. case_refusal plan done (length done + 1) row ≡ Some error)
  unfolding case_refusal
  apart-broken kept failed taken few may stood =
      let numbered = taken.sorted.numbered in
      let of_row : is_apart done name ≡ true → case_refusal plan done (length done + 1) row ≡ Some (refusal.Apart (kept.rows + 1))
      = λ apart. rw (by_fields, le-ltb (event_limit plan) (length done + 1) (omega (arith, few, numbered)), may, apart, numbered) refl in
      refused-more failed (λ error parts. of_row parts.0 ∙ ap Some (sym parts.1)) stood

  said-is : (kept : CasesSoFar) (rows : ℕ) → AreSorted plan done name kept → rows ≡ length done → rows + 1 ≤ event_limit plan → may_follow done name ≡ true → is_apart done name ≡ false
      → case_refusal plan done (length done + 1) row ≡ row_refusal plan (rows + 1) kept.before (event_row at word target value)
  said-is kept rows sorted numbered few may together =
      ap (case_refusal plan done (length done + 1)) by_fields
      ∙ refusal-said plan done (length done + 1) name at word target value (omega (arith, few, numbered)) may together
      ∙ ap (λ n. row_refusal plan (n + 1) (time_after (rows_of done name)) (event_row at word target value)) (sym numbered)
      ∙ ap (λ before. row_refusal plan (rows + 1) before (event_row at word target value)) (sym sorted.time)

  pub said-broken : (kept : CasesSoFar) (rows : ℕ) (error : EventErr) → AreSorted plan done name kept → rows ≡ length done → rows + 1 ≤ event_limit plan → may_follow done name ≡ true
      → is_apart done name ≡ false → row_refusal plan (rows + 1) kept.before (event_row at word target value) ≡ Some error
      → case_refusal plan done (length done + 1) row ≡ Some error
  said-broken kept rows error sorted numbered few may together broken =
      said-is kept rows sorted numbered few may together ∙ broken

  -- and the one that breaks none
  pub row-taken : (kept : CasesSoFar) (rows : ℕ) (event : Event) → AreSorted plan done name kept → rows ≡ length done → rows + 1 ≤ event_limit plan → may_follow done name ≡ true
      → is_apart done name ≡ false → row_refusal plan (rows + 1) kept.before (event_row at word target value) ≡ None
      → event_in plan (event_row at word target value) ≡ Some event → time_in (event_row at word target value) ≡ Some event.at → kept.before ≤ event.at
      → event.at ≤ last_time → Fits plan event → AreCasesTaken plan (done ++ row ∷ []) (with_event kept event)
  row-taken kept rows event sorted numbered few may together sound is time after early fits =
      let kept_rows = sorted.numbered in
      put-taken plan done name kept row event (record {
        sorted = sorted;
        named = ap case_in by_fields;
        sound = said-is kept rows sorted numbered few may together ∙ sound;
        event_is = ap (λ fields. event_in plan (event_fields fields)) by_fields ∙ is;
        time = ap (λ fields. time_in (event_fields fields)) by_fields ∙ time;
        after = after;
        early = early;
        fits = fits;
        few = omega (arith, few, numbered, kept_rows);
      })

-- before any row
pub AreCasesLeft-none : (plan : Topology) (rows : List Fields) → AreCasesLeft plan rows rows (record { rows = 0; common = []; names = []; listed = []; whole = []; current = None; before = 0 })
AreCasesLeft-none plan rows = record {
  done = [];
  parts = refl;
  taken = record {
    sorted = record {
      numbered = refl;
      few = omega arith;
      sound = λ place within. absurd (omega (arith, within));
      all_names = refl;
      same_names = refl;
      time = refl;
      shared = refl;
      begun = refl;
      here = (refl, refl, refl);
      counted = refl;
      common_timely = none_timely;
      whole_timely = All-nil (IsTimely plan);
      current_timely = tt;
      last = All-nil (λ (event : Event). event.at ≤ 0);
    };
    some = tt;
  };
}
  where
    none_timely : AreTimely plan []
    none_timely = record {
      list = record { fit = λ k d within. absurd (omega (arith, within)); in_order = λ k d within. absurd (omega (arith, within)) };
      in_time = λ k d within. absurd (omega (arith, within));
    }

-- one more row
pub AreCasesLeft-more : (plan : Topology) (rows : List Fields) (row : Fields) (rest : List Fields) (kept after : CasesSoFar) → AreCasesLeft plan rows (row ∷ rest) kept
    → ((done : List Fields) → AreCasesTaken plan done kept → AreCasesTaken plan (done ++ row ∷ []) after) → AreCasesLeft plan rows rest after
AreCasesLeft-more plan rows row rest kept after left taken = record {
  done = left.done ++ row ∷ [];
  parts = left.parts ∙ sym (append_assoc left.done (row ∷ []) rest);
  taken = taken left.done left.taken;
}

-- the first row that breaks a rule is the refusal of all
pub cases_refused : (plan : Topology) (rows : List Fields) (row : Fields) (rest : List Fields) (kept : CasesSoFar) (failed : NoAnswer EventErr)
    → AreCasesLeft plan rows (row ∷ rest) kept
    → ((done : List Fields) → AreCasesTaken plan done kept → IfRefusal failed (λ error. case_refusal plan done (length done + 1) row ≡ Some error))
    → Refuses failed (cases_of_rows plan rows)
cases_refused plan rows row rest kept failed left broken = refused-more failed answer (broken left.done left.taken)
  where
    within : length left.done < length rows
    within =
        let size : length (left.done ++ row ∷ rest) ≡ length left.done + length (row ∷ rest) = length-append left.done (row ∷ rest) in
        rw (left.parts, size) (omega arith)

    sound : (place : ℕ) → place < length left.done → case_refusal_at plan rows place ≡ None
    sound place before =
        ap (λ list. case_refusal_at plan list place) left.parts ∙ refusal-before plan left.done (row ∷ rest) place before ∙ left.taken.sorted.sound place before

    answer : (error : EventErr) → case_refusal plan left.done (length left.done + 1) row ≡ Some error → cases_of_rows plan rows ≡ Err error
    answer error is =
        ap (λ found. unless found (cases_in plan rows))
        (first_refusal-some (case_refusal_at plan rows) (length rows) (length left.done) error within
        (ap (λ list. case_refusal_at plan list (length left.done)) left.parts ∙ refusal-here plan left.done row rest ∙ is) sound)

-- what is kept, as cases
abbrev pub cases_kept : CasesSoFar → Cases
cases_kept kept = record { common = kept.common; names = kept.listed; cases = with_current kept.whole kept.current }

-- where no row is left, none broke a rule, and the cases are those of all
pub cases_given : (plan : Topology) (rows : List Fields) (kept : CasesSoFar) → AreCasesLeft plan rows [] kept → cases_of_rows plan rows ≡ Ok (cases_kept kept)
cases_given plan rows kept left =
    let all : rows ≡ left.done = left.parts ∙ append-nil left.done in
    let sorted = left.taken.sorted in
    let names : kept.names ≡ names_of left.done = names-are plan left.done kept left.taken in
    let cases : with_current kept.whole kept.current ≡ map (case_of plan left.done) (names_of left.done)
    = all-cases plan left.done kept.names kept.whole (case_before left.done) kept.current sorted.here ∙ ap (map (case_of plan left.done)) names in
    let same : cases_kept kept ≡ cases_in plan left.done = rw (sorted.shared, sorted.same_names, names, cases) refl in
    ap (cases_of_rows plan) all
    ∙ ap (λ found. unless found (cases_in plan left.done)) (first_refusal-none (case_refusal_at plan left.done) (length left.done) sorted.sound)
    ∙ ap Ok (sym same)

-- and what else holds of them
timely-cases : (plan : Topology) (kept : CasesSoFar) (done : List Fields) → AreCasesTaken plan done kept → All (IsTimely plan) (with_current kept.whole kept.current)
timely-cases plan kept done taken = all-timely plan kept.whole kept.current taken.sorted.whole_timely taken.sorted.current_timely taken.some

pub common-list : (plan : Topology) (rows : List Fields) (kept : CasesSoFar) → AreCasesLeft plan rows [] kept → IsEventList plan kept.common
common-list plan rows kept left = left.taken.sorted.common_timely.list

pub cases-are : (plan : Topology) (rows : List Fields) (kept : CasesSoFar) → AreCasesLeft plan rows [] kept → All (IsCase plan) (with_current kept.whole kept.current)
cases-are plan rows kept left k d within =
    let one = timely-cases plan kept left.done left.taken k d within in record { list = one.timely.list; some = one.some }

pub names-count : (plan : Topology) (rows : List Fields) (kept : CasesSoFar) → AreCasesLeft plan rows [] kept → length kept.listed ≡ length (with_current kept.whole kept.current)
names-count plan rows kept left =
    ap length left.taken.sorted.same_names
    ∙ sym (ap length (all-cases plan left.done kept.names kept.whole (case_before left.done) kept.current left.taken.sorted.here)
    ∙ length-map kept.names (case_of plan left.done))

all-in_time : (plan : Topology) (cases : List Case) → All (IsTimely plan) cases → All (λ event. event.at ≤ last_time) (flat_map (λ case. case.events) cases)
all-in_time plan [] timely = All-nil (λ event. event.at ≤ last_time)
all-in_time plan (case ∷ cases) timely =
    let first = timely zero case (omega arith) in
    All-append (λ event. event.at ≤ last_time) case.events (flat_map (λ c. c.events) cases) first.timely.in_time
    (all-in_time plan cases (λ k d within. timely (suc k) d (omega (arith, within))))

pub events-in_time : (plan : Topology) (rows : List Fields) (kept : CasesSoFar) → AreCasesLeft plan rows [] kept
    → All (λ event. event.at ≤ last_time) (all_events (cases_kept kept))
events-in_time plan rows kept left =
    All-append (λ event. event.at ≤ last_time) kept.common (flat_map (λ case. case.events) (with_current kept.whole kept.current))
    left.taken.sorted.common_timely.in_time (all-in_time plan (with_current kept.whole kept.current) (timely-cases plan kept left.done left.taken))

pub events-few : (plan : Topology) (rows : List Fields) (kept : CasesSoFar) → AreCasesLeft plan rows [] kept → length (all_events (cases_kept kept)) ≤ event_limit plan
events-few plan rows kept left =
    let cases : List Case = with_current kept.whole kept.current in
    let sorted = left.taken.sorted in
    let size : length (all_events (cases_kept kept)) ≡ length kept.common + length (flat_map (λ case. case.events) cases)
    = length-append kept.common (flat_map (λ case. case.events) cases) in
    let joined : length (flat_map (λ case. case.events) cases) ≡ sum_by (λ case. length case.events) cases = length-flat_map (λ case. case.events) cases in
    let counted = sorted.counted in
    let numbered = sorted.numbered in
    let few = sorted.few in
    omega (arith, size, joined, counted, numbered, few)
