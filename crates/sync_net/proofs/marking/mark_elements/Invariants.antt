use Rattle.std.proofs.Common.{◌≡◌, ◌<◌, ℕ, true}
use Rattle.agenda.specs.Called.{is_marked}
use Rattle.sync_net.specs.private.Stages.{KeepsMarks}
use Rattle.sync_net.proofs.marking.mark_elements.Given as goal

abbrev pub invariant-loop-element : goal.invariant-loop-element
invariant-loop-element l = record {
  kept : KeepsMarks l.fn.elements.flags l.elements.flags;
  behind : (e : ℕ) → e < l.element → is_marked l.elements.flags e ≡ true;
}
