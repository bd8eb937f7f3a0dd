use Rattle.std.proofs.Common.{◌≡◌, length, nat_eq, take}
use Rattle.std.specs.List.{list_any}
use Rattle.sync_net.specs.private.Noting.{line_at}
use Rattle.sync_net.specs.private.Hearing.{AreTold}
use Rattle.sync_net.proofs.hearing.hear_lines.Given as goal

-- the lines behind are told
abbrev pub invariant-loop-place : goal.invariant-loop-place
invariant-loop-place l = record {
  lines_count : length l.lines ≡ length l.fn.lines;
  heards_count : length l.heards ≡ length l.fn.heards;
  lists_count : length l.tellings.changes.items ≡ length l.fn.tellings.changes.items;
  flags_count : length l.tellings.active.flags ≡ length l.fn.tellings.active.flags;
  told : AreTold l.plan l.now (line_at l.signals) (λ e. list_any (nat_eq e) (take l.place-index l.called.listed))
      (record { lines = l.fn.lines; heards = l.fn.heards; changes = l.fn.tellings.changes.items; active = l.fn.tellings.active.flags })
      (record { lines = l.lines; heards = l.heards; changes = l.tellings.changes.items; active = l.tellings.active.flags });
}
