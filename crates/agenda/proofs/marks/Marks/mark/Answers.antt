use Rattle.std.proofs.Common.{◌<◌, ◌≡◌, ◌∷◌, ◌++◌, [], true, false, length, set, arith, sym, subst, ◌∙◌, length-set}
use Rattle.std.specs.Prelude.{slice_index_or}
use Rattle.agenda.specs.Marked.{AreListed}
use Rattle.agenda.specs.MarkedKept.{marked_in}
use Rattle.agenda.proofs.MarkedPlaces.{flag_read, with_mark, room_left}
use Rattle.agenda.proofs.marks.Marks.mark.Goals as goal

pub unwrap-requires : goal.unwrap-requires
unwrap-requires c =
    let within : c.args.object < length c.self.inside.flags.items = rw (← c.self.view_is) at c.requires.place in
    let free : slice_index_or c.self.inside.flags.items c.args.object false ≡ false = flag_read c.self.inside.flags.items c.args.object c.index.result.now within c.index.ensures ∙ c.if-index.false in
    let room = room_left (marked_in c.self.inside) c.args.object c.self.invariant.all within free in
    c.push.ensures.succeeds (omega (arith, room, c.self.invariant.room, c.self.inside.listed.ok.0))

-- the places that are listed afterwards
all_after : (c : goal.After-unwrap) → AreListed (record { flags = set c.self.inside.flags.items c.args.object true; listed = c.push.new.self.items })
all_after c =
    let within : c.args.object < length c.self.inside.flags.items = rw (← c.self.view_is) at c.requires.place in
    let free : slice_index_or c.self.inside.flags.items c.args.object false ≡ false = flag_read c.self.inside.flags.items c.args.object c.index.result.now within c.index.ensures ∙ c.if-index.false in
    let pushed : c.push.new.self.items ≡ c.self.inside.listed.items ++ c.args.object ∷ [] = rw c.unwrap.ensures at c.push.ensures.items in
    subst (λ listed. AreListed (record { flags = set c.self.inside.flags.items c.args.object true; listed = listed })) (sym pushed)
    (with_mark (marked_in c.self.inside) c.args.object c.self.invariant.all within free)

pub invariant_of-self : goal.invariant_of-self
invariant_of-self c = record {
  all = all_after c;
  room = omega (arith, c.self.invariant.room, c.push.ensures.capacity, length-set c.self.inside.flags.items c.args.object true);
}

pub returns-clause-all : goal.returns-clause-all
returns-clause-all c = all_after c
