use Rattle.std.proofs.Common.{◌≡◌, ◌<◌, ◌⊎◌, ℕ, true}
use Rattle.sync_topo.specs.Lines.{IsNominated}
use Rattle.agenda.specs.Called.{is_marked}
use Rattle.sync_net.specs.private.Stages.{KeepsMarks}
use Rattle.sync_net.proofs.marking.mark_lines.Given as goal

abbrev pub invariant-loop-line : goal.invariant-loop-line
invariant-loop-line l = record {
  kept : KeepsMarks l.fn.lines.flags l.lines.flags;
  behind : (n : ℕ) → n < l.line → IsNominated l.plan n → is_marked l.lines.flags n ≡ true;
  cause : (n : ℕ) → is_marked l.lines.flags n ≡ true → (is_marked l.fn.lines.flags n ≡ true) ⊎ IsNominated l.plan n;
}
