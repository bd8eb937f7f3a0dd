use Rattle.std.proofs.Common.{◌≡◌, ◌⊎◌, ℕ, true, take}
use Rattle.agenda.specs.Called.{is_marked}
use Rattle.sync_net.specs.private.Stages.{is_among, AreMarked, KeepsMarks}
use Rattle.sync_net.proofs.marking.mark_all.Given as goal

abbrev pub invariant-loop-line : goal.invariant-loop-line
invariant-loop-line l = record {
  kept : KeepsMarks l.fn.marks.flags l.marks.flags;
  marked : AreMarked (is_among (take l.line-index l.lines)) l.marks.flags;
  cause : (k : ℕ) → is_marked l.marks.flags k ≡ true → (is_marked l.fn.marks.flags k ≡ true) ⊎ (is_among (take l.line-index l.lines) k ≡ true);
}
