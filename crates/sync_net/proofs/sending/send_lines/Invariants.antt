use Rattle.std.proofs.Common.{◌≡◌, length, nat_eq, take}
use Rattle.std.specs.List.{list_any}
use Rattle.sync_net.specs.private.Stages.{AreSent}
use Rattle.sync_net.proofs.sending.send_lines.Given as goal

-- the lines behind have their levels
abbrev pub invariant-loop-place : goal.invariant-loop-place
invariant-loop-place l = record {
  lines_count : length l.lines ≡ length l.fn.lines;
  dues_count : length l.dues ≡ length l.fn.dues;
  sent : AreSent l.plan l.elements l.now (λ e. list_any (nat_eq e) (take l.place-index l.called.listed))
      (record { lines = l.fn.lines; dues = l.fn.dues })
      (record { lines = l.lines; dues = l.dues });
}
