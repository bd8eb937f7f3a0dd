-- The rows that a network brings to an element are a file of them.
use Rattle.std.proofs.Common.{◌≡◌, ◌≤◌, ◌<◌, ◌+◌, ℕ, zero, suc, Bool, true, false, ◌&&◌, List, [], ◌∷◌, ◌++◌, map, filter, length, get_or, Option, None, Some, refl, ap, sym, subst, ◌∙◌, inl, inr, arith}
use Rattle.std.specs.Prelude.{nat_lt, if◌then◌else◌, nat_eq, ◌==◌}
use Rattle.std.specs.List.{flat_map, range_with_len}
use Rattle.std.specs.List.Sorted.{IsNonDecreasingBy}
use Rattle.std.specs.Cmp.Derive.{both_true}
use Rattle.std.proofs.Math.Decide.{dec_lt}
use Rattle.std.proofs.lemmas.Bool.{lt-ltb, le-ltb, eqb-true, eq-eqb, ne_eqb}
use Rattle.std.proofs.lemmas.Bool.Decides.{eqb_tells}
use Rattle.std.proofs.lemmas.List.Elements.{filter-append, filter_map-append}
use Rattle.std.proofs.lemmas.Grind.{flat_map-append}
use Rattle.std.proofs.lemmas.List.Sorted.{IsNonDecreasingBy-from_all_adjacent}
use Rattle.sync_text.specs.Each.{Each}
use Rattle.net_rules.proofs.EventLaws.{none-before}
use Rattle.sync_text.proofs.Each.{Each-any, Each-map, Each-append, Each-made, Each-filter}
use Rattle.sync_ql.specs.declared.levels.Level.{Level}
use Rattle.sync_topo.specs.declared.event.Part.TheVariants as part
use Rattle.sync_topo.specs.declared.event.What.{What}
use Rattle.sync_topo.specs.declared.event.What.TheVariants.{Down, Up}
use Rattle.sync_topo.specs.declared.event.Event.{Event}
use Rattle.sync_topo.specs.Topology.{Topology}
use Rattle.sync_topo.specs.Lines.{line_count, is_nominated, IsNominated, receiver_of, lines_into}
use Rattle.sync_topo.specs.Events.{IsInOrder}
use Rattle.sync_topo.proofs.LineLaws.{IsNominated-within}
use Rattle.net_rules.specs.Signals.{events_before, events_at}
use Rattle.node_file.specs.declared.row.NodeRow.{NodeRow}
use Rattle.node_file.specs.NodeRow.{event_of, events_in, rows_at, said_on, frames_on}
use Rattle.node_rules.specs.FromNetwork.{is_told_to, given_as, on_lines, told_to, AreGivenAs, frame_of, arriving, IsNodeFile}
use Rattle.node_rules.specs.Brought.{event_row, arrival_row, told_rows, arrival_rows, brought_in, brought}
use Rattle.node_rules.proofs.Gathering.{given-in_order}
use Rattle.node_rules.proofs.ExactFiles.{told-alone}

-- ---- events in order of time

-- no event is earlier than one before it
abbrev Rise : List Event → Type 0
Rise [] = Unit {0}
Rise (event ∷ events) = Each (λ later. event.at ≤ later.at) events × Rise events

rise : (events : List Event) → IsNonDecreasingBy (λ event. event.at) events → Rise events
rise [] ordered = tt
rise (event ∷ events) ordered = (
  at-each events (λ k d within. ordered 0 (suc k) d (omega arith) (omega (arith, within))),
  rise events (λ i j d low high. ordered (suc i) (suc j) d (omega (arith, low)) (omega (arith, high))),
)
  where
    at-each : (others : List Event) → ((k : ℕ) (d : Event) → k < length others → event.at ≤ (get_or others k d).at) → Each (λ later. event.at ≤ later.at) others
    at-each [] after = tt
    at-each (other ∷ others) after = (after 0 other (omega arith), at-each others (λ k d within. after (suc k) d (omega (arith, within))))

-- one millisecond more
one-more : (n : ℕ) (events : List Event) → Rise events → events_before (suc n) events ≡ events_before n events ++ events_at n events
one-more n [] rises = refl
one-more n (event ∷ events) rises = elim (eqb_tells event.at n) [
  | inl here ↦
      let later : Each (λ other. n ≤ other.at) events = Each-map (λ other. event.at ≤ other.at) (λ other. n ≤ other.at) (λ other after. omega (arith, here.1, after)) events rises.0 in
      rw (lt-ltb event.at (suc n) (omega (arith, here.1)), le-ltb event.at n (omega (arith, here.1)), here.0, none-before n events later)
      (ap (λ some. event ∷ some) (one-more n events rises.1 ∙ ap (λ some. some ++ events_at n events) (none-before n events later)))
  | inr other ↦ elim (dec_lt event.at n) [
    | yes before ↦
        rw (lt-ltb event.at (suc n) (omega (arith, before)), lt-ltb event.at n before, other.0)
        (ap (λ some. event ∷ some) (one-more n events rises.1))
    | no after ↦
        rw (le-ltb event.at (suc n) (omega (arith, after, other.1)), le-ltb event.at n (omega (arith, after)), other.0)
        (one-more n events rises.1)
  ]
]

-- ---- what is told

happens-in : (events : List Event) → events_in (map event_row events) ≡ events
happens-in [] = refl
happens-in (event ∷ events) = ap (λ some. event ∷ some) (happens-in events)

-- frames are no events
no-events : (t line : ℕ) (levels : List (Option Level)) → events_in (map (arrival_row t line) levels) ≡ []
no-events t line [] = refl
no-events t line (level ∷ levels) = no-events t line levels

none-among : (t : ℕ) (c : ℕ → Option Level) (lines : List ℕ) → events_in (flat_map (λ line. map (arrival_row t line) (frame_of (c line))) lines) ≡ []
none-among t c [] = refl
none-among t c (line ∷ lines) =
    filter_map-append event_of (map (arrival_row t line) (frame_of (c line))) (flat_map (λ other. map (arrival_row t other) (frame_of (c other))) lines)
    ∙ ap (λ some. some ++ events_in (flat_map (λ other. map (arrival_row t other) (frame_of (c other))) lines)) (no-events t line (frame_of (c line)))
    ∙ none-among t c lines

nothing-after : {A : Type 0} (xs : List A) → xs ++ [] ≡ xs
nothing-after [] = refl
nothing-after (x ∷ xs) = ap (λ some. x ∷ some) (nothing-after xs)

told-more : (plan : Topology) (element : ℕ) (events more : List Event) → on_lines (told_to plan element (events ++ more)) ≡ on_lines (told_to plan element events) ++ on_lines (told_to plan element more)
told-more plan element events more =
    ap on_lines (filter-append (λ event. is_told_to plan element event.what) events more)
    ∙ flat_map-append given_as (told_to plan element events) (told_to plan element more)

brought-events : (plan : Topology) (events : List Event) (element n : ℕ) → Rise events → events_in (brought plan events element n) ≡ on_lines (told_to plan element (events_before n events))
brought-events plan events element zero rises = sym (ap (λ some. on_lines (told_to plan element some)) (none-before 0 events (all-late events)))
  where
    all-late : (some : List Event) → Each (λ event. 0 ≤ event.at) some
    all-late [] = tt
    all-late (event ∷ some) = (omega arith, all-late some)
brought-events plan events element (suc n) rises =
    filter_map-append event_of (brought plan events element n) (told_rows plan events element n ++ arrival_rows plan events element n)
    ∙ ap (λ some. events_in (brought plan events element n) ++ some)
    (filter_map-append event_of (told_rows plan events element n) (arrival_rows plan events element n)
    ∙ ap (λ some. events_in (told_rows plan events element n) ++ some) (none-among n (λ line. arriving plan events line n) (lines_into plan element))
    ∙ nothing-after (events_in (told_rows plan events element n))
    ∙ happens-in (on_lines (told_to plan element (events_at n events))))
    ∙ ap (λ some. some ++ on_lines (told_to plan element (events_at n events))) (brought-events plan events element n rises)
    ∙ sym (told-more plan element (events_before n events) (events_at n events))
    ∙ sym (ap (λ some. on_lines (told_to plan element some)) (one-more n events rises))

-- ---- the frames of one line

no-frames : (line : ℕ) (events : List Event) → frames_on line (map event_row events) ≡ []
no-frames line [] = refl
no-frames line (event ∷ events) = no-frames line events

own-frames : (t line : ℕ) (o : Option Level) → frames_on line (map (arrival_row t line) (frame_of o)) ≡ frame_of o
own-frames t line None = refl
own-frames t line (Some level) = rw (eq-eqb line line refl) refl

other-frames : (t line other : ℕ) (o : Option Level) → nat_eq line other ≡ false → frames_on line (map (arrival_row t other) (frame_of o)) ≡ []
other-frames t line other None apart = refl
other-frames t line other (Some level) apart = rw apart refl

module _ (t line : ℕ) (c : ℕ → Option Level) (p : ℕ → Bool) where
  abbrev frames_from : ℕ → ℕ → List NodeRow
  frames_from from n = flat_map (λ l. map (arrival_row t l) (frame_of (c l))) (filter p (range_with_len from n))

  absent : (from n : ℕ) → line < from → frames_on line (frames_from from n) ≡ []
  absent from zero before = refl
  absent from (suc n) before = of (p from) (absent (from + 1) n (omega (arith, before)))
    where
      of : (b : Bool) → frames_on line (frames_from (from + 1) n) ≡ []
          → frames_on line (flat_map (λ l. map (arrival_row t l) (frame_of (c l))) (if b then from ∷ filter p (range_with_len (from + 1) n) else filter p (range_with_len (from + 1) n))) ≡ []
      of true rest =
          filter_map-append (said_on line) (map (arrival_row t from) (frame_of (c from))) (frames_from (from + 1) n)
          ∙ ap (λ some. some ++ frames_on line (frames_from (from + 1) n)) (other-frames t line from (c from) (ne_eqb line from (λ same. omega (arith, before, same))))
          ∙ rest
      of false rest = rest

  present : (from n : ℕ) → p line ≡ true → from ≤ line → line < from + n → frames_on line (frames_from from n) ≡ frame_of (c line)
  present from zero passes low high = absurd (omega (arith, low, high))
  present from (suc n) passes low high = elim (eqb_tells line from) [
    | inl here ↦
        let from_passes : p from ≡ true = subst (λ k. p k ≡ true) here.1 passes in
        ap (λ b. frames_on line (flat_map (λ l. map (arrival_row t l) (frame_of (c l))) (if b then from ∷ filter p (range_with_len (from + 1) n) else filter p (range_with_len (from + 1) n)))) from_passes
        ∙ filter_map-append (said_on line) (map (arrival_row t from) (frame_of (c from))) (frames_from (from + 1) n)
        ∙ ap (λ some. frames_on line (map (arrival_row t from) (frame_of (c from))) ++ some) (absent (from + 1) n (omega (arith, here.1)))
        ∙ nothing-after (frames_on line (map (arrival_row t from) (frame_of (c from))))
        ∙ subst (λ k. frames_on line (map (arrival_row t k) (frame_of (c k))) ≡ frame_of (c line)) here.1 (own-frames t line (c line))
    | inr other ↦ of (p from) other.0 (present (from + 1) n passes (omega (arith, low, other.1)) (omega (arith, high)))
  ]
    where
      of : (b : Bool) → nat_eq line from ≡ false → frames_on line (frames_from (from + 1) n) ≡ frame_of (c line)
          → frames_on line (flat_map (λ l. map (arrival_row t l) (frame_of (c l))) (if b then from ∷ filter p (range_with_len (from + 1) n) else filter p (range_with_len (from + 1) n))) ≡ frame_of (c line)
      of true apart rest =
          filter_map-append (said_on line) (map (arrival_row t from) (frame_of (c from))) (frames_from (from + 1) n)
          ∙ ap (λ some. some ++ frames_on line (frames_from (from + 1) n)) (other-frames t line from (c from) apart)
          ∙ rest
      of false apart rest = rest

-- ---- the rows of one millisecond

all-kept : {A : Type 0} (p : A → Bool) (xs : List A) → Each (λ x. p x ≡ true) xs → filter p xs ≡ xs
all-kept p [] each = refl
all-kept p (x ∷ xs) each = rw each.0 (ap (λ some. x ∷ some) (all-kept p xs each.1))

kept-all : (t : ℕ) (rows : List NodeRow) → Each (λ row. row.at ≡ t) rows → rows_at t rows ≡ rows
kept-all t [] each = refl
kept-all t (row ∷ rows) each = rw (eq-eqb row.at t each.0) (ap (λ some. row ∷ some) (kept-all t rows each.1))

kept-none : (t s : ℕ) (rows : List NodeRow) → nat_eq s t ≡ false → Each (λ row. row.at ≡ s) rows → rows_at t rows ≡ []
kept-none t s [] apart each = refl
kept-none t s (row ∷ rows) apart each = rw (each.0, apart) (kept-none t s rows apart each.1)

pub Each-flat : {A B : Type 0} (P : B → Type 0) (f : A → List B) (xs : List A) → Each (λ x. Each P (f x)) xs → Each P (flat_map f xs)
Each-flat P f [] each = tt
Each-flat P f (x ∷ xs) each = Each-append P (f x) (flat_map f xs) each.0 (Each-flat P f xs each.1)

pub given-at : (at : ℕ) (what : What) → Each (λ (one : Event). one.at ≡ at) (given_as (record { at = at; what = what }))
given-at at (Down (part.Link link)) = (refl, (refl, tt))
given-at at (Up (part.Link link)) = (refl, (refl, tt))
given-at at what = (refl, tt)

module _ (plan : Topology) (events : List Event) (element : ℕ) where
  told-at : (t : ℕ) → Each (λ (row : NodeRow). row.at ≡ t) (told_rows plan events element t)
  told-at t =
      Each-made (λ (row : NodeRow). row.at ≡ t) event_row (on_lines (told_to plan element (events_at t events)))
      (Each-flat (λ (event : Event). event.at ≡ t) given_as (told_to plan element (events_at t events))
      (Each-map (λ (event : Event). event.at ≡ t) (λ event. Each (λ (one : Event). one.at ≡ t) (given_as event))
      (λ event here. Each-map (λ (one : Event). one.at ≡ event.at) (λ one. one.at ≡ t) (λ one same. same ∙ here) (given_as event) (given-at event.at event.what))
      (told_to plan element (events_at t events))
      (Each-map _ (λ (event : Event). event.at ≡ t) (λ event both. both.0) (told_to plan element (events_at t events))
      (Each-filter (λ (event : Event). event.at ≡ t) (λ event. is_told_to plan element event.what) (events_at t events)
      (Each-map _ (λ (event : Event). event.at ≡ t) (λ event both. eqb-true event.at t both.1) (events_at t events)
      (Each-filter (λ (event : Event). Unit {0}) (λ event. nat_eq event.at t) events (Each-any (λ (event : Event). Unit {0}) (λ event. tt) events)))))))

  arrivals-at : (t : ℕ) → Each (λ (row : NodeRow). row.at ≡ t) (arrival_rows plan events element t)
  arrivals-at t =
      Each-flat (λ (row : NodeRow). row.at ≡ t) (λ line. map (arrival_row t line) (frame_of (arriving plan events line t))) (lines_into plan element)
      (Each-any _ (λ line. Each-made (λ (row : NodeRow). row.at ≡ t) (arrival_row t line) (frame_of (arriving plan events line t))
      (Each-any _ (λ level. refl) (frame_of (arriving plan events line t)))) (lines_into plan element))

  pub one-at : (t : ℕ) → Each (λ (row : NodeRow). row.at ≡ t) (brought_in plan events element t)
  one-at t = Each-append (λ (row : NodeRow). row.at ≡ t) (told_rows plan events element t) (arrival_rows plan events element t) (told-at t) (arrivals-at t)

  -- no rows later than those that were brought
  later-none : (n t : ℕ) → n ≤ t → rows_at t (brought plan events element n) ≡ []
  later-none zero t late = refl
  later-none (suc n) t late =
      filter-append (λ row. nat_eq row.at t) (brought plan events element n) (brought_in plan events element n)
      ∙ ap (λ some. some ++ rows_at t (brought_in plan events element n)) (later-none n t (omega (arith, late)))
      ∙ kept-none t n (brought_in plan events element n) (ne_eqb n t (λ same. omega (arith, late, same))) (one-at n)

  brought-at : (n t : ℕ) → t < n → rows_at t (brought plan events element n) ≡ brought_in plan events element t
  brought-at zero t early = absurd (omega (arith, early))
  brought-at (suc n) t early = elim (eqb_tells t n) [
    | inl here ↦
        filter-append (λ row. nat_eq row.at t) (brought plan events element n) (brought_in plan events element n)
        ∙ ap (λ some. some ++ rows_at t (brought_in plan events element n)) (later-none n t (omega (arith, here.1)))
        ∙ subst (λ k. rows_at t (brought_in plan events element k) ≡ brought_in plan events element t) here.1 (kept-all t (brought_in plan events element t) (one-at t))
    | inr other ↦
        filter-append (λ row. nat_eq row.at t) (brought plan events element n) (brought_in plan events element n)
        ∙ ap (λ some. rows_at t (brought plan events element n) ++ some) (kept-none t n (brought_in plan events element n) (ne_eqb n t (λ same. omega (arith, other.1, same))) (one-at n))
        ∙ nothing-after (rows_at t (brought plan events element n))
        ∙ brought-at n t (omega (arith, early, other.1))
  ]

  brought-frames : (n line t : ℕ) → IsNominated plan line → receiver_of plan line ≡ element → t < n
      → frames_on line (rows_at t (brought plan events element n)) ≡ frame_of (arriving plan events line t)
  brought-frames n line t nominated to early =
      ap (frames_on line) (brought-at n t early)
      ∙ filter_map-append (said_on line) (told_rows plan events element t) (arrival_rows plan events element t)
      ∙ ap (λ some. some ++ frames_on line (arrival_rows plan events element t)) (no-frames line (on_lines (told_to plan element (events_at t events))))
      ∙ present t line (λ l. arriving plan events l t) (λ l. is_nominated plan l && receiver_of plan l == element) 0 (line_count plan)
      (both_true {s = is_nominated plan line} {t = receiver_of plan line == element} nominated (eq-eqb (receiver_of plan line) element to))
      (omega arith) (omega (arith, IsNominated-within plan line nominated))

  -- what is told in time is given in time
  given-early : (n : ℕ) → events_before n (on_lines (told_to plan element (events_before n events))) ≡ on_lines (told_to plan element (events_before n events))
  given-early n =
      all-kept (λ event. nat_lt event.at n) (on_lines (told_to plan element (events_before n events)))
      (Each-flat (λ (event : Event). nat_lt event.at n ≡ true) given_as (told_to plan element (events_before n events))
      (Each-map _ (λ event. Each (λ (one : Event). nat_lt one.at n ≡ true) (given_as event))
      (λ event both. Each-map (λ (one : Event). one.at ≡ event.at) (λ one. nat_lt one.at n ≡ true) (λ one same. ap (λ at. nat_lt at n) same ∙ both.0.1) (given_as event) (given-at event.at event.what))
      (told_to plan element (events_before n events))
      (Each-filter (λ (event : Event). Unit {0} × (nat_lt event.at n ≡ true)) (λ event. is_told_to plan element event.what) (events_before n events)
      (Each-filter (λ (event : Event). Unit {0}) (λ event. nat_lt event.at n) events (Each-any (λ (event : Event). Unit {0}) (λ event. tt) events)))))

  -- just what is told is given
  pub brought-told : (until : ℕ) → IsInOrder events
      → AreGivenAs (told_to plan element (events_before (suc until) events)) (events_before (suc until) (events_in (brought plan events element (suc until))))
  brought-told until ordered =
      subst (AreGivenAs (told_to plan element (events_before (suc until) events)))
      (sym (ap (events_before (suc until)) (brought-events plan events element (suc until) (rise events (IsNonDecreasingBy-from_all_adjacent (λ (event : Event). event.at) events ordered)))
      ∙ given-early (suc until)))
      (given-in_order (told_to plan element (events_before (suc until) events)))

  pub brought-is_file : (until : ℕ) → IsInOrder events → IsNodeFile plan events element until (brought plan events element (suc until))
  brought-is_file until ordered = record {
    events_told = told-alone plan element (events_before (suc until) events) (events_before (suc until) (events_in (brought plan events element (suc until)))) (brought-told until ordered);
    frames_told = λ line t nominated to early. brought-frames (suc until) line t nominated to (omega (arith, early));
  }
