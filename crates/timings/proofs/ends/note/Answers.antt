use Rattle.std.proofs.Common.{◌≡◌, ◌+◌, true, ap, ◌∙◌, arith}
use Rattle.std.specs.Prelude.{Some, slice_set}
use Rattle.sync_topo.specs.Lines.{line_input}
use Rattle.net_rules.specs.Walks.{Taken}
use Rattle.closed_walks.specs.declared.traced.Ending.{Ending}
use Rattle.closed_walks.specs.Taking.{taken_in_list}
use Rattle.closed_walks.specs.Following.{is_met}
use Rattle.closed_walks.proofs.FollowLaws.{takes-on}
use Rattle.timings.specs.Timing.{is_lost}
use Rattle.timings.specs.private.Ends.{lines_at}
use Rattle.timings.proofs.EndsLemmas.{over-noted, line-noted, few-noted, noted-by}
use Rattle.timings.proofs.ends.note.Goals as goal

pub overflow_add-count : goal.overflow_add-count
overflow_add-count c =
    let few = few-noted c.args.plan.now c.args.taken.now c.args.known.now c.args.lines.now c.args.lost.now c.from-from.result c.elements.ensures.well_formed c.requires.taken
    c.requires.noted c.from-from.ensures.within c.if-known-from.true in
    let most = c.elements.ensures.well_formed.few_elements in
    omega (arith, few, most)

pub returns-in-Over : goal.returns-in-Over
returns-in-Over c =
    let plan = c.args.plan.now in
    let taken : Taken = taken_in_list c.args.taken.now in
    let element = c.args.element in
    let ends : Ending = record { lines = 0; end = c.in-Over.end } in
    noted-by plan taken (slice_set c.args.known.now element true) c.note_one.new.known (slice_set c.args.lines.now element 0) c.note_one.new.lines
    (slice_set c.args.lost.now element (is_lost ends)) c.note_one.new.lost
    c.note_one.ensures.known c.note_one.ensures.lines (c.note_one.ensures.lost ∙ ap (slice_set c.args.lost.now element) c.is_lost-is_lost.ensures)
    (over-noted plan taken c.args.known.now c.args.lines.now c.args.lost.now element c.in-Over.end c.next_of.result
    (omega (arith, c.if-element-elements.false, c.elements.ensures.count)) c.requires.noted c.next_of.ensures c.in-Over.is)

pub returns-then-known-from : goal.returns-then-known-from
returns-then-known-from c =
    let plan = c.args.plan.now in
    let taken : Taken = taken_in_list c.args.taken.now in
    let element = c.args.element in
    let from = c.from-from.result in
    let takes : taken element ≡ Some (line_input c.in-On.line.0) = takes-on (taken element) element c.in-On.line c.next_of.result c.next_of.ensures c.in-On.is in
    noted-by plan taken (slice_set c.args.known.now element true) c.note_one-then-known-from.new.known
    (slice_set c.args.lines.now element (lines_at c.args.lines.now from + 1)) c.note_one-then-known-from.new.lines
    (slice_set c.args.lost.now element (is_met c.args.lost.now from)) c.note_one-then-known-from.new.lost
    c.note_one-then-known-from.ensures.known c.note_one-then-known-from.ensures.lines c.note_one-then-known-from.ensures.lost
    (line-noted plan taken c.args.known.now c.args.lines.now c.args.lost.now element c.in-On.line.0 from
    (omega (arith, c.if-element-elements.false, c.elements.ensures.count)) c.requires.noted takes c.from-from.ensures.sender c.from-from.ensures.within
    c.if-known-element.false c.if-known-from.true)
