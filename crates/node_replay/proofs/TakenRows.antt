-- Rows are taken one after another.
use Rattle.std.proofs.Common.{◌≡◌, ◌≤◌, ◌<◌, ◌+◌, ℕ, suc, List, [], ◌∷◌, ◌++◌, None, refl, ap, sym, subst, ◌∙◌, arith, append_assoc, append-nil, add-one}
use Rattle.std.specs.Prelude.{if◌then◌else◌}
use Rattle.std.proofs.lemmas.Bool.{eq-eqb, ne_eqb}
use Rattle.sync_text.proofs.Each.{Each-map}
use Rattle.sync_text.specs.Each.{Each}
use Rattle.sync_topo.specs.Topology.{Topology}
use Rattle.node_file.specs.declared.row.NodeRow.{NodeRow}
use Rattle.node_file.specs.NodeRow.{rows_at}
use Rattle.node_replay.specs.declared.running.NodeRun.{NodeRun}
use Rattle.node_replay.specs.declared.parts.Collected.{Collected}
use Rattle.node_replay.specs.Rows.{AreInOrder, IsRowList}
use Rattle.node_replay.specs.Running.{RunStands, RunHolds}
use Rattle.node_replay.specs.private.Running.{AreHere, AreAway}
use Rattle.node_replay.specs.Collecting.{StandsAt, IsAfter}
use Rattle.node_replay.specs.private.Collecting.{IsWhole}
use Rattle.node_replay.proofs.EventOrder.{none-at, rows-at-append}
use Rattle.node_replay.proofs.Going.{going-stands, came-to}

-- the last two rows of a list in order
last-two : (rows : List NodeRow) (row next : NodeRow) → AreInOrder ((rows ++ row ∷ []) ++ next ∷ []) → row.at ≤ next.at
last-two [] row next ordered = ordered.0.0
last-two (first ∷ rows) row next ordered = last-two rows row next ordered.1

-- a new run stands for no rows
pub begun-after : (plan : Topology) (element until : ℕ) (run : NodeRun) (here : List NodeRow) → here ≡ [] → run.next ≡ 0 → run.stopped ≡ None
    → ((rows : List NodeRow) → RunStands plan rows element 0 run)
    → IsAfter plan (record { element = element; until = until; run = run; at = 0; here = here }) []
begun-after plan element until run here empty next going stands = record {
  stands = record {
    list = record { each = tt; in_order = tt };
    here = λ still. sym empty;
    away = λ still t low high apart. refl;
    holds = λ more list later.
        subst (RunHolds plan more element until run.next run) (sym going)
        (subst (λ n. RunStands plan more element n run) (sym next) (stands more));
  };
  at_least = λ row list. omega arith;
}

-- one row alone, at a millisecond or not
one-here : (t : ℕ) (row : NodeRow) → row.at ≡ t → rows_at t (row ∷ []) ≡ row ∷ []
one-here t row same = ap (λ b. if b then row ∷ [] else []) (eq-eqb row.at t same)

one-away : (t : ℕ) (row : NodeRow) → (row.at ≡ t → ⊥) → rows_at t (row ∷ []) ≡ []
one-away t row other = ap (λ b. if b then row ∷ [] else []) (ne_eqb row.at t other)

more-away : (t : ℕ) (rows more : List NodeRow) → rows_at t rows ≡ [] → rows_at t more ≡ [] → rows_at t (rows ++ more) ≡ []
more-away t rows more none_in none_of = rows-at-append t rows more ∙ ap (λ front. front ++ rows_at t more) none_in ∙ none_of

module _ (plan : Topology) where
  -- a row that has no effect
  pub taken-nothing : (parts : Collected) (rows : List NodeRow) (row : NodeRow) → IsWhole plan parts → (parts.run.stopped ≡ None → parts.until < row.at)
      → IsAfter plan parts rows → IsRowList plan parts.element (rows ++ row ∷ []) → IsAfter plan parts (rows ++ row ∷ [])
  taken-nothing parts rows row whole late is list =
      let least = is.at_least row list in record {
        stands = record {
          list = list;
          here = λ going.
              let after = late going in
              let end = whole.at_in_range in
              rows-at-append parts.at rows (row ∷ [])
              ∙ ap (λ back. rows_at parts.at rows ++ back) (one-away parts.at row (λ same. omega (arith, same, after, end)))
              ∙ append-nil (rows_at parts.at rows) ∙ is.stands.here going;
          away = λ going t low high other.
              let after = late going in
              more-away t rows (row ∷ []) (is.stands.away going t low high other) (one-away t row (λ same. omega (arith, same, after, high)));
          holds = λ more list_more each.
              let same : (rows ++ row ∷ []) ++ more ≡ rows ++ row ∷ more = append_assoc rows (row ∷ []) more in
              subst (λ all. RunHolds plan all parts.element parts.until parts.run.next parts.run parts.run.stopped) (sym same)
              (is.stands.holds (row ∷ more) (subst (IsRowList plan parts.element) same list_more) (least, each));
        };
        at_least = λ next list_next. (let order = last-two rows row next list_next.in_order in omega (arith, least, order));
      }

  -- a row of the millisecond that is collected
  pub taken-here : (parts after : Collected) (rows : List NodeRow) (row : NodeRow) → StandsAt plan parts rows → row.at ≡ parts.at
      → IsRowList plan parts.element (rows ++ row ∷ []) → after.element ≡ parts.element → after.until ≡ parts.until → after.run ≡ parts.run → after.at ≡ parts.at
      → after.here ≡ parts.here ++ row ∷ [] → IsAfter plan after (rows ++ row ∷ [])
  taken-here parts after rows row is at list element until run time here = record {
    stands = record {
      list = subst (λ e. IsRowList plan e (rows ++ row ∷ [])) (sym element) list;
      here = λ going.
          ap (λ t. rows_at t (rows ++ row ∷ [])) time
          ∙ rows-at-append parts.at rows (row ∷ [])
          ∙ ap (λ back. rows_at parts.at rows ++ back) (one-here parts.at row at)
          ∙ ap (λ front. front ++ row ∷ []) (is.here (sym (ap (λ (r : NodeRun). r.stopped) run) ∙ going))
          ∙ sym here;
      away = λ going t low high other.
          let next = ap (λ (r : NodeRun). r.next) run in
          more-away t rows (row ∷ [])
          (is.away (sym (ap (λ (r : NodeRun). r.stopped) run) ∙ going) t (omega (arith, next, low)) (omega (arith, until, high)) (λ same. other (same ∙ sym time)))
          (one-away t row (λ same. other (sym same ∙ at ∙ sym time)));
      holds = λ more list_more each.
          let same : (rows ++ row ∷ []) ++ more ≡ rows ++ row ∷ more = append_assoc rows (row ∷ []) more in
          let listed = subst (λ e. IsRowList plan e (rows ++ row ∷ more)) element (subst (IsRowList plan after.element) same list_more) in
          let least : parts.at ≤ row.at = omega (arith, at) in
          let held = is.holds (row ∷ more) listed (least, Each-map (λ row. after.at ≤ row.at) (λ row. parts.at ≤ row.at) (λ row later. omega (arith, later, time)) more each) in
          subst (λ (r : NodeRun). RunHolds plan ((rows ++ row ∷ []) ++ more) after.element after.until r.next r r.stopped) (sym run)
          (subst (λ n. RunHolds plan ((rows ++ row ∷ []) ++ more) after.element n parts.run.next parts.run parts.run.stopped) (sym until)
          (subst (λ e. RunHolds plan ((rows ++ row ∷ []) ++ more) e parts.until parts.run.next parts.run parts.run.stopped) (sym element)
          (subst (λ all. RunHolds plan all parts.element parts.until parts.run.next parts.run parts.run.stopped) (sym same) held)));
    };
    at_least = λ next list_next. (let order = last-two rows row next list_next.in_order in omega (arith, time, at, order));
  }

  -- of all rows, those that are kept stand at their millisecond
  all-here : (parts : Collected) (rows more : List NodeRow) → parts.run.stopped ≡ None → StandsAt plan parts rows → IsRowList plan parts.element (rows ++ more)
      → Each (λ row. parts.at < row.at) more → AreHere plan parts.element parts.at parts.here (rows ++ more)
  all-here parts rows more going is list late = record {
    list = list;
    stand = rows-at-append parts.at rows more ∙ ap (λ back. rows_at parts.at rows ++ back) (none-at parts.at more late)
        ∙ append-nil (rows_at parts.at rows) ∙ is.here going;
  }

  -- and none before it
  all-away : (parts : Collected) (rows more : List NodeRow) → parts.run.stopped ≡ None → IsWhole plan parts → StandsAt plan parts rows → IsRowList plan parts.element (rows ++ more)
      → Each (λ row. parts.at < row.at) more → AreAway plan parts.element parts.run.next parts.at (rows ++ more)
  all-away parts rows more going whole is list late = record {
    list = list;
    away = λ t low high.
        let end = whole.at_in_range in
        more-away t rows more (is.away going t low (omega (arith, high, end)) (λ same. omega (arith, same, high)))
        (none-at t more (Each-map (λ row. parts.at < row.at) (λ row. t < row.at) (λ row later. omega (arith, later, high)) more late));
  }

  -- all milliseconds up to that of the rows that are kept were made
  pub came-later : (parts after : Collected) (at : ℕ) (rows : List NodeRow) → IsWhole plan parts → parts.run.stopped ≡ None → parts.at < at → at ≤ parts.until
      → (after.run.stopped ≡ None → after.run.next ≡ parts.at + 1)
      → ((rows : List NodeRow) (until : ℕ) → AreAway plan parts.element parts.run.next parts.at rows → AreHere plan parts.element parts.at parts.here rows → parts.at ≤ until
      → RunStands plan rows parts.element parts.run.next parts.run → RunHolds plan rows parts.element until (suc parts.at) after.run after.run.stopped)
      → after.element ≡ parts.element → after.until ≡ parts.until → after.at ≡ at → after.here ≡ []
      → StandsAt plan parts rows → StandsAt plan after rows
  came-later parts after at rows whole going later early made makes element until time here is = record {
    list = subst (λ e. IsRowList plan e rows) (sym element) is.list;
    here = λ still.
        let next = whole.made in
        ap (λ t. rows_at t rows) time ∙ is.away going at (omega (arith, next, later)) early (λ same. omega (arith, same, later)) ∙ sym here;
    away = λ still t low high other.
        let next = made still in
        let was = whole.made in
        is.away going t (omega (arith, next, low, was)) (omega (arith, until, high)) (λ same. omega (arith, same, next, low));
    holds = λ more list each.
        let listed = subst (λ e. IsRowList plan e (rows ++ more)) element list in
        let late = Each-map (λ row. after.at ≤ row.at) (λ row. parts.at < row.at) (λ row after_at. omega (arith, after_at, time, later)) more each in
        let before = Each-map (λ row. parts.at < row.at) (λ row. parts.at ≤ row.at) (λ row after_at. omega (arith, after_at)) more late in
        let end = whole.at_in_range in
        let stood = going-stands plan parts.element parts.until parts.run.next (rows ++ more) parts.run going (is.holds more listed before) in
        let held = makes (rows ++ more) parts.until (all-away parts rows more going whole is listed late) (all-here parts rows more going is listed late) end stood in
        subst (λ n. RunHolds plan (rows ++ more) after.element n after.run.next after.run after.run.stopped) (sym until)
        (subst (λ e. RunHolds plan (rows ++ more) e parts.until after.run.next after.run after.run.stopped) (sym element)
        (came-to plan parts.element parts.until (suc parts.at) after.run.next (rows ++ more) after.run (λ still. sym (made still ∙ add-one parts.at)) held));
  }

  -- the rest of the milliseconds was made
  pub ran-out : (parts : Collected) (rows : List NodeRow) → IsWhole plan parts → parts.run.stopped ≡ None → IsAfter plan parts rows
      → AreAway plan parts.element parts.run.next parts.at rows × AreHere plan parts.element parts.at parts.here rows
      × RunStands plan rows parts.element parts.run.next parts.run × AreAway plan parts.element (suc parts.at) (suc parts.until) rows
  ran-out parts rows whole going is =
      let nothing : rows ++ [] ≡ rows = append-nil rows in
      let list = is.stands.list in
      let listed = subst (IsRowList plan parts.element) (sym nothing) list in
      let next = whole.made in (
        subst (AreAway plan parts.element parts.run.next parts.at) nothing (all-away parts rows [] going whole is.stands listed tt),
        subst (AreHere plan parts.element parts.at parts.here) nothing (all-here parts rows [] going is.stands listed tt),
        subst (λ all. RunStands plan all parts.element parts.run.next parts.run) nothing
            (going-stands plan parts.element parts.until parts.run.next (rows ++ []) parts.run going (is.stands.holds [] listed tt)),
        record {
          list = list;
          away = λ t low high. is.stands.away going t (omega (arith, next, low)) (omega (arith, high)) (λ same. omega (arith, same, low));
        },
      )

  pub stopped-holds : (parts : Collected) (rows : List NodeRow) → (parts.run.stopped ≡ None → ⊥) → IsAfter plan parts rows
      → RunHolds plan rows parts.element parts.until (suc parts.until) parts.run parts.run.stopped
  stopped-holds parts rows ended is =
      let nothing : rows ++ [] ≡ rows = append-nil rows in
      came-to plan parts.element parts.until parts.run.next (suc parts.until) rows parts.run (λ going. absurd (ended going))
      (subst (λ all. RunHolds plan all parts.element parts.until parts.run.next parts.run parts.run.stopped) nothing
      (is.stands.holds [] (subst (IsRowList plan parts.element) (sym nothing) is.stands.list) tt))
