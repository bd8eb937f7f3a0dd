use Rattle.std.proofs.Common.{◌≡◌, ℕ, ◌<◌, false, Some, slice_get}
use Rattle.std.specs.Prelude.{is_some}
use Rattle.sync_topo.specs.declared.link.Link.{Link}
use Rattle.plan_file.proofs.writing.names_bundle.Given as goal

-- no link so far names a bundle
abbrev pub invariant-loop-link : goal.invariant-loop-link
invariant-loop-link l = (i : ℕ) (link : Link) → i < l.link → slice_get l.fn.plan.links i ≡ Some link → is_some link.bundle ≡ false
