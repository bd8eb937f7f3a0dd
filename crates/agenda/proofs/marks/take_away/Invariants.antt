use Rattle.std.proofs.Common.{◌≡◌, ℕ, true, false, length, drop}
use Rattle.std.specs.Prelude.{nat_eq, slice_index_or}
use Rattle.std.specs.List.{list_any}
use Rattle.agenda.proofs.marks.take_away.Given as goal

-- the places that still have a flag are to come
abbrev pub invariant-loop-place : goal.invariant-loop-place
invariant-loop-place l = record {
  room : length l.flags ≡ length l.fn.flags;
  only : (k : ℕ) → slice_index_or l.flags k false ≡ true → list_any (nat_eq k) (drop l.place-index l.listed) ≡ true;
}
