use Rattle.std.proofs.Common.{nat_eq, take}
use Rattle.std.specs.List.{list_any}
use Rattle.sync_sweep.specs.private.Branching.{AreMarkedToo}
use Rattle.sync_sweep.proofs.touched.mark_all.Given as goal

-- the places behind are marked
abbrev pub invariant-loop-place : goal.invariant-loop-place
invariant-loop-place l = record { marked : AreMarkedToo (λ k. list_any (nat_eq k) (take l.place-index l.places)) l.fn.marks l.marks }
