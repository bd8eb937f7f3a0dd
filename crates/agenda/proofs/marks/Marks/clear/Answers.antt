use Rattle.std.proofs.Common.{◌≡◌, false, length, replicate, arith, sym, ◌∙◌}
use Rattle.std.specs.Vec.{with_items}
use Rattle.std.proofs.lemmas.List.{with_items_is, length-replicate}
use Rattle.agenda.proofs.MarkedPlaces.{none_are_listed}
use Rattle.agenda.proofs.marks.Marks.clear.Goals as goal

pub invariant_of-self : goal.invariant_of-self
invariant_of-self c =
    let count = length c.self.inside.flags.items in
    let cleared : c.take_away.new.flags ≡ replicate (length c.self.inside.flags.items) false = rw c.as_mut_slice.ensures.value at c.take_away.ensures in
    let same_count : length c.take_away.new.flags ≡ c.self.inside.flags.len = rw cleared (length-replicate (length c.self.inside.flags.items) false ∙ sym c.self.inside.flags.ok.0) in
    let flags : (with_items c.self.inside.flags c.take_away.new.flags).items ≡ replicate (length c.self.inside.flags.items) false = with_items_is c.self.inside.flags c.take_away.new.flags same_count ∙ cleared in
    record {
      all = rw (flags, c.clear.ensures.items) (none_are_listed (length c.self.inside.flags.items));
      room = rw (flags, length-replicate (length c.self.inside.flags.items) false) (omega (arith, c.self.invariant.room, c.clear.ensures.capacity));
    }
