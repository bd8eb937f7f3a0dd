use Rattle.std.proofs.Common.{◌<◌, ◌≤◌, ◌≡◌, ℕ, List, [], map, length, drop, get_or, ap, sym, subst, ◌∙◌, arith}
use Rattle.std.proofs.Math.ListN.{drop_of_length-le}
use Rattle.std.proofs.lemmas.List.{get_or-map, length-map, append-nil}
use Rattle.sync_text.proofs.Each.{each-all}
use Rattle.sync_topo.specs.Lines.{line_count}
use Rattle.sync_topo.specs.declared.input.LineId.{LineId}
use Rattle.event_file.specs.EventText.{events_of}
use Rattle.prio_mode.specs.ForcedText.{forced_size}
use Rattle.prio_mode.proofs.ForcedRead.{read-back, text-short}
use Rattle.prio_mode.proofs.forced.write_forced.Goals as goal

-- the line's number is one of those that are within
pub put_forced-requires : goal.put_forced-requires
put_forced-requires c =
    let number : LineId → ℕ = λ line. line.0 in
    let lines = c.args.lines.now in
    let i = c.loop-line.line-index in
    let inside : i < length lines = c.loop-line-test.true in
    let within : get_or (map number lines) i 0 < line_count c.args.plan.now = c.requires.within i 0 (rw (length-map lines number) inside) in
    rw (get_or-map number lines i (record { 0 = 0 }) 0 inside) at within

pub returns-clause-text : goal.returns-clause-text
returns-clause-text c =
    let lines = c.args.lines.now in
    let done : drop c.loop-line.line-index lines ≡ [] = drop_of_length-le lines (omega (arith, c.loop-line-test.false)) in
    sym (append-nil c.loop-line.text) ∙ (rw done at c.loop-line.invariant)

pub returns-clause-read_back : goal.returns-clause-read_back
unfolding returns-clause-text
returns-clause-read_back c =
    let numbers : List ℕ = map (λ line. line.0) c.args.lines.now in
    ap (events_of c.args.plan.now) (returns-clause-text c)
    ∙ read-back c.args.plan.now numbers c.lines-lines.ensures.well_formed
    (each-all (λ line. line < line_count c.args.plan.now) numbers c.requires.within)
    c.requires.apart

pub returns-clause-short : goal.returns-clause-short
returns-clause-short c =
    let numbers : List ℕ = map (λ line. line.0) c.args.lines.now in
    subst (λ text. length text ≤ forced_size c.args.plan.now) (sym (returns-clause-text c))
    (text-short c.args.plan.now numbers c.lines-lines.ensures.well_formed
    (each-all (λ line. line < line_count c.args.plan.now) numbers c.requires.within)
    c.requires.apart)
