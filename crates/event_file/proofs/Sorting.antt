-- What is kept of the rows of a case file, as the next row comes to its case and puts its event there.
use Rattle.std.proofs.Common.{◌≡◌, ℕ, ◌+◌, ◌<◌, ◌≤◌, Bool, true, false, List, [], ◌∷◌, ◌++◌, length, map, Option, Some, None, refl, sym, ap, subst, ◌∙◌, inl, inr, arith, append-nil, length-append}
use Rattle.std.specs.Prelude.{◌==◌, ◌&&◌, ◌≢◌, not, is_some, is_none, slice_get, IfSome, if◌then◌else◌}
use Rattle.std.specs.List.{All, list_all, sum_by}
use Rattle.std.specs.Str.{bytes_eq}
use Rattle.std.proofs.lemmas.Bool.{true≢false, cases_lt, eqb-true}
use Rattle.std.proofs.lemmas.List.{map-append, length-map}
use Rattle.std.proofs.lemmas.List.Elements.{All-nil, All-push}
use Rattle.std.proofs.lemmas.List.Folds.{list_all-append}
use Rattle.std.proofs.lemmas.List.Sums.{sum_by_push}
use Rattle.std.proofs.lemmas.Option.{same_Some, none-some}
use Rattle.sync_topo.specs.declared.event.Case.{Case}
use Rattle.sync_topo.specs.declared.event.Event.{Event}
use Rattle.sync_topo.specs.Names.{is_name, is_named, place_of}
use Rattle.sync_topo.specs.Topology.{Topology}
use Rattle.sync_topo.specs.Sizes.{event_limit}
use Rattle.sync_topo.specs.Events.{Fits}
use Rattle.sync_topo.proofs.Lists.{is_named-at, position-push, place_of-fresh, slice_get-push_last}
use Rattle.event_file.specs.declared.progress.CasesSoFar.{CasesSoFar}
use Rattle.event_file.specs.Rows.{Fields, event_in, time_in, last_time}
use Rattle.event_file.specs.EventText.{events_in}
use Rattle.event_file.specs.CaseRows.{case_in, event_fields, is_common, rows_of, time_after, case_before, may_follow, is_apart, case_refusal, case_refusal_at}
use Rattle.event_file.specs.CaseText.{names_of, case_of}
use Rattle.event_file.specs.private.CasesTaken.{with_current, latest, with_event, with_event_in, AreTimely, IsTimely, names_with, IsLast, IsCurrent, AreSorted, AreCasesTaken}
use Rattle.event_file.proofs.Taking.{in_order_more}
use Rattle.event_file.proofs.CaseNames.{itself, differ, apart, differ-sym, case_before-more, case_before-common, names_of-more, names_of-named}
use Rattle.event_file.proofs.CaseRowLaws.{rows_of-here, rows_of-other, rows_of-none, events-here, cases-other, time_after-more, refusal-before, refusal-here}

never : (b : Bool) → (b && false) ≡ false
never true = refl
never false = refl

-- a text that has no byte, or some
pub no_bytes : (name : List ℕ) → (length name == 0) ≡ true → name ≡ []
no_bytes [] none = refl
no_bytes (byte ∷ name) none = absurd (omega (arith, eqb-true (length (byte ∷ name)) 0 none))

pub some_bytes : (name : List ℕ) → (length name == 0) ≡ false → bytes_eq name [] ≡ false
some_bytes [] some = some
some_bytes (byte ∷ name) some = refl

-- rows are common until the first case begins
begun-is : (plan : Topology) (done : List Fields) (kept : CasesSoFar) → AreCasesTaken plan done kept → is_none kept.current ≡ list_all is_common done
begun-is plan done kept taken = by (list_all is_common done) refl
  where
    by : (common : Bool) → list_all is_common done ≡ common → is_none kept.current ≡ list_all is_common done
    by true is = taken.sorted.begun ∙ rw (is, case_before-common done is) refl
    by false is = taken.sorted.begun ∙ rw is refl

-- a row without a name may follow where no case is begun
pub may_follow-is : (plan : Topology) (done : List Fields) (name : List ℕ) (kept : CasesSoFar) (none : Bool) → is_name name ≡ false → (length name == 0) ≡ true
    → is_some kept.current ≡ not none → AreCasesTaken plan done kept → none ≡ may_follow done name
may_follow-is plan done name kept none unnamed empty same taken =
    let is : none ≡ is_none kept.current = by kept.current none same in
    let nothing : name ≡ [] = no_bytes name empty in
    is ∙ begun-is plan done kept taken ∙ rw nothing refl
  where
    by : (current : Option Case) (none : Bool) → is_some current ≡ not none → none ≡ is_none current
    by None true same = refl
    by None false same = absurd (true≢false (sym same))
    by (Some case) true same = absurd (true≢false same)
    by (Some case) false same = refl

-- a common row goes on with the common ones
may_be_common : (done : List Fields) (name : List ℕ) → name ≡ [] → may_follow done name ≡ true → list_all is_common done ≡ true
may_be_common done name empty may = rw empty at may

pub common-stands : (plan : Topology) (done : List Fields) (name : List ℕ) (kept : CasesSoFar) → (length name == 0) ≡ true → AreCasesTaken plan done kept
    → may_follow done name ≡ true → AreSorted plan done name kept
common-stands plan done name kept empty taken may =
    let nothing : name ≡ [] = no_bytes name empty in
    let before : case_before done ≡ [] = case_before-common done (may_be_common done name nothing may) in
    subst (λ other. AreSorted plan done other kept) (before ∙ sym nothing) taken.sorted

pub common-together : (done : List Fields) (name : List ℕ) → (length name == 0) ≡ true → may_follow done name ≡ true → is_apart done name ≡ false
common-together done name empty may =
    let nothing : name ≡ [] = no_bytes name empty in
    let before : case_before done ≡ [] = case_before-common done (may_be_common done name nothing may) in
    rw (nothing, before) (never (is_named (map case_in done) []))

-- the names so far are those of the rows so far
pub names-are : (plan : Topology) (done : List Fields) (kept : CasesSoFar) → AreCasesTaken plan done kept → kept.names ≡ names_of done
names-are plan done kept taken = taken.sorted.all_names ∙ rw (itself (case_before done)) (append-nil (names_of done))

-- the last of the names is that of the case that is read
whole-count : (plan : Topology) (done : List Fields) (names : List (List ℕ)) (whole : List Case) (name : List ℕ) (case : Case) (last : IsLast plan done names whole name case)
    → length whole ≡ length last.front
whole-count plan done names whole name case last = ap length last.closed ∙ length-map last.front (case_of plan done)

last-there : (plan : Topology) (done : List Fields) (names : List (List ℕ)) (whole : List Case) (name : List ℕ) (current : Option Case) (other : List ℕ) (place : ℕ)
    → IsCurrent plan done names whole name current → slice_get names place ≡ Some other → place ≡ length whole → other ≡ name
last-there plan done names whole name None other place here at end = absurd (none-some other (sym (ap (λ list. slice_get list place) here.0) ∙ at))
last-there plan done names whole name (Some case) other place here at end =
    let last : slice_get (here.front ++ name ∷ []) place ≡ Some name = slice_get-push_last here.front name place (end ∙ whole-count plan done names whole name case here) in
    same_Some other name (sym at ∙ ap (λ list. slice_get list place) here.split ∙ last)

-- and stands nowhere before
last-alone : (plan : Topology) (done : List Fields) (names : List (List ℕ)) (whole : List Case) (name : List ℕ) (current : Option Case) (other : List ℕ) (place : ℕ)
    → IsCurrent plan done names whole name current → place_of names other ≡ Some place → place ≢ length whole → other ≢ name
last-alone plan done names whole name None other place here at differs same = none-some place (sym (ap (λ list. place_of list other) here.0) ∙ at)
last-alone plan done names whole name (Some case) other place here at differs same =
    let last : place_of (here.front ++ name ∷ []) name ≡ Some (length here.front)
    = position-push (bytes_eq name) here.front name ∙ rw (place_of-fresh here.front name here.other, itself name) refl in
    differs
    (same_Some place (length here.front) (sym at ∙ ap (place_of names) same ∙ ap (λ list. place_of list name) here.split ∙ last)
    ∙ sym (whole-count plan done names whole name case here))

-- a new name is none of them
new-differs : (plan : Topology) (done : List Fields) (names : List (List ℕ)) (whole : List Case) (name : List ℕ) (current : Option Case) (other : List ℕ)
    → IsCurrent plan done names whole name current → bytes_eq other [] ≡ false → is_named names other ≡ false → other ≢ name
new-differs plan done names whole name None other here some fresh same = apart other [] some (same ∙ here.2)
new-differs plan done names whole name (Some case) other here some fresh same =
    let there : slice_get names (length here.front) ≡ Some name
    = ap (λ list. slice_get list (length here.front)) here.split ∙ slice_get-push_last here.front name (length here.front) refl in
    true≢false (sym (is_named-at names other (length here.front) (there ∙ ap Some (sym same))) ∙ fresh)

-- all cases so far, with the one that is read
pub all-cases : (plan : Topology) (done : List Fields) (names : List (List ℕ)) (whole : List Case) (name : List ℕ) (current : Option Case)
    → IsCurrent plan done names whole name current → with_current whole current ≡ map (case_of plan done) names
all-cases plan done names whole name None here = here.1 ∙ ap (map (case_of plan done)) (sym here.0)
all-cases plan done names whole name (Some case) here =
    ap (λ list. list ++ case ∷ []) here.closed
    ∙ ap (λ one. map (case_of plan done) here.front ++ one ∷ []) here.given
    ∙ sym (map-append (case_of plan done) here.front (name ∷ []))
    ∙ ap (map (case_of plan done)) (sym here.split)

-- the row goes on with the case of the row before it
pub goes_on-stands : (plan : Topology) (done : List Fields) (name : List ℕ) (kept : CasesSoFar) (place : ℕ) → AreCasesTaken plan done kept
    → slice_get kept.names place ≡ Some name → place ≡ length kept.whole → AreSorted plan done name kept
goes_on-stands plan done name kept place taken at end =
    let same = last-there plan done kept.names kept.whole (case_before done) kept.current name place taken.sorted.here at end in
    subst (λ other. AreSorted plan done other kept) (sym same) taken.sorted

pub goes_on-together : (plan : Topology) (done : List Fields) (name : List ℕ) (kept : CasesSoFar) (place : ℕ) → AreCasesTaken plan done kept
    → slice_get kept.names place ≡ Some name → place ≡ length kept.whole → is_apart done name ≡ false
goes_on-together plan done name kept place taken at end =
    let same = last-there plan done kept.names kept.whole (case_before done) kept.current name place taken.sorted.here at end in
    rw (same, itself (case_before done)) (never (is_named (map case_in done) (case_before done)))

-- a name that stands elsewhere is apart from the other rows of its case
pub apart-is : (plan : Topology) (done : List Fields) (name : List ℕ) (kept : CasesSoFar) (place : ℕ) → AreCasesTaken plan done kept → (length name == 0) ≡ false
    → place_of kept.names name ≡ Some place → is_named kept.names name ≡ true → place ≢ length kept.whole → is_apart done name ≡ true
apart-is plan done name kept place taken some at named differs =
    let other = last-alone plan done kept.names kept.whole (case_before done) kept.current name place taken.sorted.here at differs in
    let before : is_named (map case_in done) name ≡ true
    = sym (names_of-named done name (some_bytes name some)) ∙ ap (λ names. is_named names name) (sym (names-are plan done kept taken)) ∙ named in
    rw (before, differ name (case_before done) other) refl

-- a new name stood in no row
fresh-is : (plan : Topology) (done : List Fields) (name : List ℕ) (kept : CasesSoFar) → AreCasesTaken plan done kept → bytes_eq name [] ≡ false
    → is_named kept.names name ≡ false → is_named (map case_in done) name ≡ false
fresh-is plan done name kept taken some fresh =
    sym (names_of-named done name some) ∙ ap (λ names. is_named names name) (sym (names-are plan done kept taken)) ∙ fresh

pub fresh-together : (plan : Topology) (done : List Fields) (name : List ℕ) (kept : CasesSoFar) → AreCasesTaken plan done kept → (length name == 0) ≡ false
    → is_named kept.names name ≡ false → is_apart done name ≡ false
fresh-together plan done name kept taken some fresh = rw (fresh-is plan done name kept taken (some_bytes name some) fresh) refl

-- a case by its events
abbrev case_with : List Event → Case
case_with events = record { events = events }

-- a case begins, of which no row is taken yet
abbrev begun : CasesSoFar → List ℕ → CasesSoFar
begun kept name =
    record kept { names = kept.names ++ name ∷ []; listed = kept.listed ++ name ∷ []; whole = with_current kept.whole kept.current; current = Some (case_with []); before = 0 }

none-timely : (plan : Topology) → AreTimely plan []
none-timely plan = record {
  list = record { fit = All-nil (Fits plan); in_order = λ k d within. absurd (omega (arith, within)) };
  in_time = All-nil (λ event. event.at ≤ last_time);
}

pub all-timely : (plan : Topology) (whole : List Case) (current : Option Case) → All (IsTimely plan) whole → IfSome current (λ case. AreTimely plan case.events)
    → IfSome current (λ case. 0 < length case.events) → All (IsTimely plan) (with_current whole current)
all-timely plan whole None timely here some = timely
all-timely plan whole (Some case) timely here some = All-push (IsTimely plan) whole case timely (record { timely = here; some = some })

pub begun-stands : (plan : Topology) (done : List Fields) (name : List ℕ) (kept : CasesSoFar) → AreCasesTaken plan done kept → (length name == 0) ≡ false
    → is_named kept.names name ≡ false → AreSorted plan done name (begun kept name)
begun-stands plan done name kept taken long fresh =
    let some : bytes_eq name [] ≡ false = some_bytes name long in
    let none : rows_of done name ≡ [] = rows_of-none done name (fresh-is plan done name kept taken some fresh) in
    let differs : bytes_eq name (case_before done) ≡ false
    = differ name (case_before done) (new-differs plan done kept.names kept.whole (case_before done) kept.current name taken.sorted.here some fresh) in
    let names : kept.names ≡ names_of done = names-are plan done kept taken in
    let all : with_current kept.whole kept.current ≡ map (case_of plan done) kept.names
    = all-cases plan done kept.names kept.whole (case_before done) kept.current taken.sorted.here in record {
      numbered = taken.sorted.numbered;
      few = taken.sorted.few;
      sound = taken.sorted.sound;
      all_names = ap (λ list. list ++ name ∷ []) names ∙ rw differs refl;
      same_names = ap (λ list. list ++ name ∷ []) taken.sorted.same_names;
      time = ap time_after (sym none);
      shared = taken.sorted.shared;
      begun = rw some (sym (never (list_all is_common done)));
      here = record {
        front = kept.names;
        split = refl;
        other = fresh;
        closed = all;
        given = ap (λ rows. case_with (events_in plan rows)) (sym none);
        named = some;
      };
      counted =
          ap (λ n. length kept.common + n) (sum_by_push (λ case. length case.events) (with_current kept.whole kept.current) (case_with []) ∙ omega arith)
          ∙ taken.sorted.counted;
      common_timely = taken.sorted.common_timely;
      whole_timely = all-timely plan kept.whole kept.current taken.sorted.whole_timely taken.sorted.current_timely taken.some;
      current_timely = none-timely plan;
      last = All-nil (λ event. event.at ≤ 0);
    }

-- one event more, which is none too early
timely-more : (plan : Topology) (events : List Event) (event : Event) (before : ℕ) → AreTimely plan events → All (λ e. e.at ≤ before) events
    → before ≤ event.at → event.at ≤ last_time → Fits plan event → AreTimely plan (events ++ event ∷ [])
timely-more plan events event before timely last after early fits = record {
  list = record {
    fit = All-push (Fits plan) events event timely.list.fit fits;
    in_order = in_order_more events event timely.list.in_order (λ k d within. let low = last k d within in omega (arith, low, after));
  };
  in_time = All-push (λ e. e.at ≤ last_time) events event timely.in_time early;
}

last-more : (events : List Event) (event : Event) (before : ℕ) → All (λ e. e.at ≤ before) events → before ≤ event.at
    → All (λ e. e.at ≤ event.at) (events ++ event ∷ [])
last-more events event before last after =
    All-push (λ e. e.at ≤ event.at) events event (λ k d within. let low = last k d within in omega (arith, low, after)) (omega arith)

-- one row more breaks no rule
sound-more : (plan : Topology) (done : List Fields) (row : Fields) → ((place : ℕ) → place < length done → case_refusal_at plan done place ≡ None)
    → case_refusal plan done (length done + 1) row ≡ None → (place : ℕ) → place < length (done ++ row ∷ []) → case_refusal_at plan (done ++ row ∷ []) place ≡ None
sound-more plan done row sound next place within =
    let size : length (done ++ row ∷ []) ≡ length done + 1 = length-append done (row ∷ []) in
    elim (cases_lt place (length done)) [
      | inl before ↦ refusal-before plan done (row ∷ []) place before ∙ sound place before
      | inr not_before ↦
          let same : place ≡ length done = omega (arith, within, size, not_before) in
          ap (case_refusal_at plan (done ++ row ∷ [])) same ∙ refusal-here plan done row [] ∙ next
    ]

-- and is of the case that it came to
names-more : (done : List Fields) (row : Fields) (name : List ℕ) → case_in row ≡ name → names_with (done ++ row ∷ []) name ≡ names_with done name
names-more done row name is =
    let before : case_before (done ++ row ∷ []) ≡ name = case_before-more done row ∙ is in
    let none : names_with (done ++ row ∷ []) name ≡ names_of (done ++ row ∷ []) = rw (before, itself name) (append-nil (names_of (done ++ row ∷ []))) in
    none ∙ names_of-more done row ∙ ap (λ other. names_of done ++ (if bytes_eq other (case_before done) then [] else other ∷ [])) is

common-more : (done : List Fields) (row : Fields) (name : List ℕ) → case_in row ≡ name
    → (list_all is_common (done ++ row ∷ []) && bytes_eq name []) ≡ (list_all is_common done && bytes_eq name [])
common-more done row name is = rw (list_all-append is_common done (row ∷ []), is) (twice (list_all is_common done) (bytes_eq name []))
  where
    twice : (a b : Bool) → (a && (b && true) && b) ≡ (a && b)
    twice true true = refl
    twice true false = refl
    twice false true = refl
    twice false false = refl

-- the next row, as it is told by its event
pub record IsNext (plan : Topology) (done : List Fields) (name : List ℕ) (kept : CasesSoFar) (row : Fields) (event : Event) : Type 0 where
  pub sorted : AreSorted plan done name kept
  pub named : case_in row ≡ name
  pub sound : case_refusal plan done (length done + 1) row ≡ None
  pub event_is : event_in plan (event_fields row) ≡ Some event
  pub time : time_in (event_fields row) ≡ Some event.at
  pub after : kept.before ≤ event.at
  pub early : event.at ≤ last_time
  pub fits : Fits plan event
  pub few : kept.rows + 1 ≤ event_limit plan

-- what holds whatever case it is of
abbrev with_parts : CasesSoFar → Event → List Event → Option Case → CasesSoFar
with_parts kept event common current = record kept { rows = kept.rows + 1; before = event.at; common = common; current = current }

put-sorted : (plan : Topology) (done : List Fields) (name : List ℕ) (kept : CasesSoFar) (row : Fields) (event : Event) (common : List Event) (current : Option Case)
    → IsNext plan done name kept row event
    → common ≡ events_in plan (rows_of (done ++ row ∷ []) []) → is_none current ≡ is_none kept.current → IsCurrent plan (done ++ row ∷ []) kept.names kept.whole name current
    → length common + sum_by (λ case. length case.events) (with_current kept.whole current) ≡ length done + 1
    → AreTimely plan common → IfSome current (λ case. AreTimely plan case.events) → All (λ e. e.at ≤ event.at) (latest common current)
    → AreSorted plan (done ++ row ∷ []) name (with_parts kept event common current)
put-sorted plan done name kept row event common current next shared begun here counted timely current_timely last =
    let size : length (done ++ row ∷ []) ≡ length done + 1 = length-append done (row ∷ []) in
    let of_case : bytes_eq name (case_in row) ≡ true = rw next.named (itself name) in record {
      numbered = ap (λ n. n + 1) next.sorted.numbered ∙ sym size;
      few = next.few;
      sound = sound-more plan done row next.sorted.sound next.sound;
      all_names = next.sorted.all_names ∙ sym (names-more done row name next.named);
      same_names = next.sorted.same_names;
      time =
          sym (ap time_after (rows_of-here done row name of_case) ∙ time_after-more (rows_of done name) (event_fields row) event.at next.time);
      shared = shared;
      begun = begun ∙ next.sorted.begun ∙ sym (common-more done row name next.named);
      here = here;
      counted = counted ∙ sym size;
      common_timely = timely;
      whole_timely = next.sorted.whole_timely;
      current_timely = current_timely;
      last = last;
    }

-- a row of no case, where none is begun
put-common : (plan : Topology) (done : List Fields) (name : List ℕ) (kept : CasesSoFar) (row : Fields) (event : Event)
    → IsNext plan done name kept row event → kept.current ≡ None → AreSorted plan (done ++ row ∷ []) name (with_parts kept event (kept.common ++ event ∷ []) None)
put-common plan done name kept row event next none =
    let here : IsCurrent plan done kept.names kept.whole name None = subst (IsCurrent plan done kept.names kept.whole name) none next.sorted.here in
    let empty : bytes_eq [] (case_in row) ≡ true = rw (next.named, here.2) refl in
    let last : All (λ e. e.at ≤ kept.before) kept.common = subst (λ current. All (λ e. e.at ≤ kept.before) (latest kept.common current)) none next.sorted.last in
    let count : length kept.common + sum_by (λ case. length case.events) kept.whole ≡ length done
    = subst (λ current. length kept.common + sum_by (λ case. length case.events) (with_current kept.whole current) ≡ length done) none next.sorted.counted in
    let size : length (kept.common ++ event ∷ []) ≡ length kept.common + 1 = length-append kept.common (event ∷ []) in
    put-sorted plan done name kept row event (kept.common ++ event ∷ []) None next
    (ap (λ front. front ++ event ∷ []) next.sorted.shared ∙ sym (events-here plan done row [] event empty next.event_is))
    (ap is_none (sym none))
    here
    (rw size (omega (arith, count)))
    (timely-more plan kept.common event kept.before next.sorted.common_timely last next.after next.early next.fits)
    tt
    (last-more kept.common event kept.before last next.after)

-- and one of the case that is read
put-own : (plan : Topology) (done : List Fields) (name : List ℕ) (kept : CasesSoFar) (row : Fields) (event : Event) (case : Case)
    → IsNext plan done name kept row event → kept.current ≡ Some case
    → AreSorted plan (done ++ row ∷ []) name (with_parts kept event kept.common (Some (case_with (case.events ++ event ∷ []))))
put-own plan done name kept row event case next is =
    let more : Case = case_with (case.events ++ event ∷ []) in
    let here : IsLast plan done kept.names kept.whole name case = subst (IsCurrent plan done kept.names kept.whole name) is next.sorted.here in
    let other : bytes_eq [] (case_in row) ≡ false = rw next.named (differ-sym name [] here.named) in
    let of_case : bytes_eq name (case_in row) ≡ true = rw next.named (itself name) in
    let none_before : is_named here.front (case_in row) ≡ false = rw next.named here.other in
    let last : All (λ e. e.at ≤ kept.before) case.events = subst (λ current. All (λ e. e.at ≤ kept.before) (latest kept.common current)) is next.sorted.last in
    let timely : AreTimely plan case.events = subst (λ current. IfSome current (λ c. AreTimely plan c.events)) is next.sorted.current_timely in
    let count : length kept.common + sum_by (λ c. length c.events) (kept.whole ++ case ∷ []) ≡ length done
    = subst (λ current. length kept.common + sum_by (λ c. length c.events) (with_current kept.whole current) ≡ length done) is next.sorted.counted in
    let before : sum_by (λ c. length c.events) (kept.whole ++ case ∷ []) ≡ sum_by (λ c. length c.events) kept.whole + length case.events
    = sum_by_push (λ c. length c.events) kept.whole case in
    let now : sum_by (λ c. length c.events) (kept.whole ++ more ∷ []) ≡ sum_by (λ c. length c.events) kept.whole + length (case.events ++ event ∷ [])
    = sum_by_push (λ c. length c.events) kept.whole more in
    let size : length (case.events ++ event ∷ []) ≡ length case.events + 1 = length-append case.events (event ∷ []) in
    put-sorted plan done name kept row event kept.common (Some more) next
    (next.sorted.shared ∙ ap (events_in plan) (sym (rows_of-other done row [] other)))
    (ap is_none (sym is))
    (record {
      front = here.front;
      split = here.split;
      other = here.other;
      closed = here.closed ∙ sym (cases-other plan done row here.front none_before);
      given = ap (λ c. case_with (c.events ++ event ∷ [])) here.given ∙ ap case_with (sym (events-here plan done row name event of_case next.event_is));
      named = here.named;
    })
    (rw now (omega (arith, count, before, size)))
    next.sorted.common_timely
    (timely-more plan case.events event kept.before timely last next.after next.early next.fits)
    (last-more case.events event kept.before last next.after)

-- the event of the next row is put with those of its case
pub put-taken : (plan : Topology) (done : List Fields) (name : List ℕ) (kept : CasesSoFar) (row : Fields) (event : Event)
    → IsNext plan done name kept row event → AreCasesTaken plan (done ++ row ∷ []) (with_event kept event)
put-taken plan done name kept row event next = by kept.current refl
  where
    of_row : (after : CasesSoFar) → AreSorted plan (done ++ row ∷ []) name after → AreSorted plan (done ++ row ∷ []) (case_before (done ++ row ∷ [])) after
    of_row after sorted =
        subst (λ other. AreSorted plan (done ++ row ∷ []) other after) (sym (case_before-more done row ∙ next.named)) sorted

    by : (current : Option Case) → kept.current ≡ current → AreCasesTaken plan (done ++ row ∷ []) (with_event_in kept event current)
    by None is = record {
      sorted = of_row (with_event_in kept event None)
          (subst (λ current. AreSorted plan (done ++ row ∷ []) name (with_parts kept event (kept.common ++ event ∷ []) current)) (sym is)
          (put-common plan done name kept row event next is));
      some = subst (λ current. IfSome current (λ case. 0 < length case.events)) (sym is) tt;
    }
    by (Some case) is = record {
      sorted = of_row (with_event_in kept event (Some case)) (put-own plan done name kept row event case next is);
      some = let size : length (case.events ++ event ∷ []) ≡ length case.events + 1 = length-append case.events (event ∷ []) in omega (arith, size);
    }
