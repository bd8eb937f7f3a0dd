use Rattle.std.proofs.Common.{◌≡◌, take}
use Rattle.sync_net.proofs.copying.share_elements.Given as goal

abbrev pub invariant-loop-element : goal.invariant-loop-element
invariant-loop-element l = l.copies ≡ take l.element-index l.elements
