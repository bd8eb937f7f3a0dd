use Rattle.std.proofs.Common.{◌<◌, ℕ, map, length, get_or}
use Rattle.std.proofs.lemmas.List.{get_or-map, length-map}
use Rattle.sync_topo.specs.Lines.{line_count}
use Rattle.sync_topo.specs.declared.input.LineId.{LineId}
use Rattle.plan_texts.proofs.lines.lines_text.Goals as goal

-- the line's number is one of those that are within
pub put_line-requires : goal.put_line-requires
put_line-requires c =
    let number : LineId → ℕ = λ line. line.0 in
    let lines = c.args.lines.now in
    let i = c.loop-line.line-index in
    let inside : i < length lines = c.loop-line-test.true in
    let within : get_or (map number lines) i 0 < line_count c.args.plan.now = c.requires i 0 (rw (length-map lines number) inside) in
    rw (get_or-map number lines i (record { 0 = 0 }) 0 inside) at within
