-- The rows that are gone through, one more and all.
use Rattle.std.proofs.Common.{◌≡◌, ◌≤◌, ◌<◌, ◌+◌, ℕ, suc, List, [], ◌∷◌, ◌++◌, length, Some, None, refl, sym, ap, inl, inr, arith, ◌∙◌, append_assoc, append-nil}
use Rattle.std.specs.Prelude.{slice_get, unwrap_or, option_and_then, Ok, Err}
use Rattle.std.specs.List.{All}
use Rattle.std.proofs.lemmas.Bool.{cases_lt}
use Rattle.std.proofs.lemmas.List.{get_or_append_left, length-append}
use Rattle.std.proofs.Math.Seq.{get_or-append_seam}
use Rattle.std.proofs.lemmas.List.Elements.{All-append, All-cons, All-nil, filter_map-append}
use Rattle.sync_text.specs.Chain.{unless}
use Rattle.sync_topo.specs.declared.event.Event.{Event}
use Rattle.sync_topo.specs.Topology.{Topology}
use Rattle.sync_topo.specs.Sizes.{event_limit}
use Rattle.sync_topo.specs.Events.{Fits, IsInOrder}
use Rattle.csv_records.proofs.FirstRefusals.{first_refusal-some, first_refusal-none}
use Rattle.event_file.specs.declared.error.EventErr.{EventErr}
use Rattle.event_file.specs.Rows.{Fields as Row, event_in, time_in, time_before, row_refusal, refusal_at, last_time}
use Rattle.event_file.specs.EventText.{events_in, events_of_rows}
use Rattle.event_file.specs.private.Taken.{AreTaken}

-- what stands behind some rows
pub at_seam : (done : List Row) (row : Row) (rest : List Row) → slice_get (done ++ row ∷ rest) (length done) ≡ Some row
at_seam [] row rest = refl
at_seam (first ∷ done) row rest = at_seam done row rest

-- the rule that the next row breaks, as it is told by the row and the time before it
pub next_refusal : (plan : Topology) (rows : List Row) (n before : ℕ) (row : Row) (rest : List Row) (events : List Event)
    → AreTaken plan rows n before (row ∷ rest) events → refusal_at plan rows n ≡ row_refusal plan (n + 1) before row
next_refusal plan rows n before row rest events taken =
    let here : slice_get rows n ≡ Some row = rw (taken.whole, ← taken.numbered) (at_seam taken.done row rest) in
    ap (option_and_then (row_refusal plan (n + 1) (time_before rows n))) here
    ∙ ap (λ time. row_refusal plan (n + 1) time row) (sym taken.time)

-- times that don't fall don't fall with one more that is no earlier than any
pub in_order_more : (events : List Event) (event : Event) → IsInOrder events → All (λ e. e.at ≤ event.at) events → IsInOrder (events ++ event ∷ [])
in_order_more events event order last k d within =
    let room : length (events ++ event ∷ []) ≡ length events + 1 = length-append events (event ∷ []) in
    elim (cases_lt (k + 1) (length events)) [
      | inl inside ↦
          rw (get_or_append_left events (event ∷ []) d k (omega arith), get_or_append_left events (event ∷ []) d (k + 1) inside) (order k d inside)
      | inr beyond ↦
          let end : k + 1 ≡ length events = omega (arith, room, within) in
          rw (get_or_append_left events (event ∷ []) d k (omega arith), end, get_or-append_seam events event [] d) (last k d (omega arith))
    ]

-- one more row
pub AreTaken-more : (plan : Topology) (rows : List Row) (n before : ℕ) (row : Row) (rest : List Row) (events : List Event) (event : Event)
    → AreTaken plan rows n before (row ∷ rest) events → row_refusal plan (n + 1) before row ≡ None → event_in plan row ≡ Some event
    → time_in row ≡ Some event.at → before ≤ event.at → event.at ≤ last_time → n + 1 ≤ event_limit plan → Fits plan event
    → AreTaken plan rows (n + 1) event.at rest (events ++ event ∷ [])
AreTaken-more plan rows n before row rest events event taken sound is time after early few fits =
    let here : slice_get rows n ≡ Some row = rw (taken.whole, ← taken.numbered) (at_seam taken.done row rest) in
    let one : n + 1 ≡ suc n = omega arith in
    let last : All (λ (e : Event). e.at ≤ event.at) events = λ k d within. let low = taken.last k d within in omega (arith, low, after) in record {
      done = taken.done ++ row ∷ [];
      whole = taken.whole ∙ sym (append_assoc taken.done (row ∷ []) rest);
      numbered = length-append taken.done (row ∷ []) ∙ ap (λ k. k + 1) taken.numbered;
      sound = λ place within. elim (cases_lt place n) [
        | inl before_it ↦ taken.sound place before_it
        | inr not_before ↦
            let same : place ≡ n = omega arith in
            ap (refusal_at plan rows) same ∙ next_refusal plan rows n before row rest events taken ∙ sound
      ];
      time =
          sym (ap (time_before rows) one ∙ ap (λ found. unwrap_or (option_and_then time_in found) 0) here ∙ ap (λ at. unwrap_or at 0) time);
      given =
          ap (λ front. front ++ event ∷ []) taken.given
          ∙ ap (λ more. events_in plan taken.done ++ more) (sym (one_event plan row event is))
          ∙ sym (filter_map-append (event_in plan) taken.done (row ∷ []));
      few = few;
      counted = length-append events (event ∷ []) ∙ ap (λ k. k + 1) taken.counted;
      fit = All-append (Fits plan) events (event ∷ []) taken.fit (All-cons (Fits plan) event [] fits (All-nil (Fits plan)));
      in_order = in_order_more events event taken.in_order last;
      last = All-append (λ e. e.at ≤ event.at) events (event ∷ []) last (All-cons (λ e. e.at ≤ event.at) event [] (omega arith) (All-nil (λ e. e.at ≤ event.at)));
      in_time = All-append (λ e. e.at ≤ last_time) events (event ∷ []) taken.in_time (All-cons (λ e. e.at ≤ last_time) event [] early (All-nil (λ e. e.at ≤ last_time)));
    }
  where
    one_event : (plan : Topology) (row : Row) (event : Event) → event_in plan row ≡ Some event → events_in plan (row ∷ []) ≡ event ∷ []
    one_event plan row event is = rw is refl

-- the first row that breaks a rule is the refusal of all
pub rows_refused : (plan : Topology) (rows : List Row) (n before : ℕ) (row : Row) (rest : List Row) (events : List Event) (error : EventErr)
    → AreTaken plan rows n before (row ∷ rest) events → row_refusal plan (n + 1) before row ≡ Some error
    → events_of_rows plan rows ≡ Err error
rows_refused plan rows n before row rest events error taken broken =
    ap (λ refusal. unless refusal (events_in plan rows))
    (first_refusal-some (refusal_at plan rows) (length rows) n error within (next_refusal plan rows n before row rest events taken ∙ broken) taken.sound)
  where
    within : n < length rows
    within =
        let size : length (taken.done ++ row ∷ rest) ≡ length taken.done + length (row ∷ rest) = length-append taken.done (row ∷ rest) in
        rw (taken.whole, size, taken.numbered) (omega arith)

-- where no row is left, none broke a rule, and the events are those of all
pub rows_given : (plan : Topology) (rows : List Row) (n before : ℕ) (events : List Event) → AreTaken plan rows n before [] events
    → events_of_rows plan rows ≡ Ok events
rows_given plan rows n before events taken =
    let all : rows ≡ taken.done = taken.whole ∙ append-nil taken.done in
    let size : length rows ≡ n = ap length all ∙ taken.numbered in
    ap (λ refusal. unless refusal (events_in plan rows)) (first_refusal-none (refusal_at plan rows) (length rows) (λ i below. taken.sound i (omega arith)))
    ∙ ap Ok (ap (events_in plan) all ∙ sym taken.given)
