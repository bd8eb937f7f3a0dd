use Rattle.std.proofs.Common.{◌≡◌, ◌<◌, ℕ, true, length}
use Rattle.agenda.specs.Called.{is_marked}
use Rattle.agenda.proofs.called.mark_all.Given as goal

-- the elements behind are marked
abbrev pub invariant-loop-place : goal.invariant-loop-place
invariant-loop-place l = record {
  count : length l.marks.flags ≡ l.count;
  behind : (e : ℕ) → e < l.place → is_marked l.marks.flags e ≡ true;
}
