use Rattle.std.proofs.Common.{false}
use Rattle.std.proofs.lemmas.List.{length-replicate}
use Rattle.agenda.proofs.MarkedPlaces.{none_are_listed}
use Rattle.agenda.proofs.marks.Marks.new.Goals as goal

pub invariant_of-result : goal.invariant_of-result
invariant_of-result c = record {
  all = rw (c.in_ok-flags.ensures, c.in-Ok.ensures.items) (none_are_listed c.args.count);
  room = rw (c.in_ok-flags.ensures, length-replicate c.args.count false) c.in-Ok.ensures.capacity;
}
