use Rattle.std.proofs.Common.{◌≡◌, ℕ, false, length, take}
use Rattle.std.specs.Prelude.{nat_eq, slice_index_or}
use Rattle.std.specs.List.{list_any}
use Rattle.agenda.proofs.marks.give.Given as goal

-- the places behind have a flag, and no other has
abbrev pub invariant-loop-place : goal.invariant-loop-place
invariant-loop-place l = record {
  room : length l.flags ≡ length l.fn.flags;
  flags : (k : ℕ) → slice_index_or l.flags k false ≡ list_any (nat_eq k) (take l.place-index l.listed);
}
