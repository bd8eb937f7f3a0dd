use Rattle.std.proofs.Common.{◌≡◌, ◌<◌, ◌++◌, List, [], length, map, ap, sym, subst, ◌∙◌, arith}
use Rattle.std.specs.Prelude.{slice_index_or}
use Rattle.std.specs.List.{All}
use Rattle.std.proofs.lemmas.List.{length-append, length-map}
use Rattle.event_sim.specs.declared.shown.Shown.{Shown}
use Rattle.event_sim.specs.declared.change.Change.{Change}
use Rattle.event_sim.specs.Rows.{row_of, shown_after}
use Rattle.event_sim.specs.private.Showing.{others_in, rows_between}
use Rattle.event_sim.proofs.NotingLaws.{others-within}
use Rattle.event_sim.proofs.noting.note_changes.Goals as goal

pub add_rows-requires : goal.add_rows-requires
add_rows-requires c = record {
  within =
      let n = c.args.net.now.plan in
      let shown : List Shown = c.find_changed.new.shown.items in
      let count : length n.elements ≡ length shown = sym (c.in_ok-find_changed.ensures.renewed.count ∙ c.requires.after_step.count) in
      let inside : All (λ place. place < length shown) c.find_changed.new.changed.items =
      subst (All (λ place. place < length shown)) (sym c.in_ok-find_changed.ensures.changed) (others-within n c.args.shown.now.items shown (length shown) count) in
      let all : All (λ place. place < length c.as_slice-2.result.now) c.find_changed.new.changed.items =
      subst (λ (xs : List Shown). All (λ place. place < length xs) c.find_changed.new.changed.items) (sym c.as_slice-2.ensures.value) inside in
      subst (All (λ place. place < length c.as_slice-2.result.now)) (sym c.as_slice.ensures.value) all;
}

pub returns-clause-noted : goal.returns-clause-noted
returns-clause-noted c =
    let plan = c.args.net.now.plan in
    let was : List Shown = c.args.shown.now.items in
    let now : List Shown = c.find_changed.new.shown.items in
    let before : List Change = c.args.changes.now.items in
    let added : c.add_rows.new.changes.items ≡ before ++ rows_between plan c.args.now was now =
    c.in_ok-add_rows.ensures (λ place. shown_after plan place [])
    ∙ ap (λ (shown : List Shown). before ++ map (λ place. row_of c.args.now place (slice_index_or shown place (shown_after plan place []))) c.as_slice.result.now) c.as_slice-2.ensures.value
    ∙ ap (λ places. before ++ map (λ place. row_of c.args.now place (slice_index_or now place (shown_after plan place []))) places) (c.as_slice.ensures.value ∙ c.in_ok-find_changed.ensures.changed) in
    let changed : length c.find_changed.new.changed.items ≡ length (others_in plan was now) = ap length c.in_ok-find_changed.ensures.changed in
    record {
      rows = added;
      few = omega (
        arith,
        ap length added,
        length-append before (rows_between plan c.args.now was now),
        length-map (others_in plan was now) (λ place. row_of c.args.now place (slice_index_or now place (shown_after plan place []))),
        changed,
        c.row_limit-most.ensures,
        c.if-most-len.false,
        c.args.changes.now.ok,
        c.find_changed.new.changed.ok,
        c.requires.few,
      );
    }
