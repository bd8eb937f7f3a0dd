use Rattle.std.proofs.Common.{false, ◌≡◌, ◌++◌, refl, length, ℕ, arith, ap, sym, ◌∙◌}
use Rattle.std.specs.Vec.{with_items}
use Rattle.std.proofs.lemmas.List.{with_items_is, length-replicate}
use Rattle.agenda.specs.MarkedKept.{marked_in}
use Rattle.agenda.specs.Marked.{Marked, none_marked}
use Rattle.agenda.proofs.MarkedPlaces.{listed_few, same_flags}
use Rattle.agenda.proofs.marks.Marks.copy_from.Goals as goal

-- there are as many places where none is marked
as_many : (mine other : Marked) (n : ℕ) → mine ≡ none_marked n → n ≡ length other.flags → length mine.flags ≡ length other.flags
as_many mine other n none same = ap (λ m. length m.flags) none ∙ length-replicate n false ∙ same

pub unwrap-requires : goal.unwrap-requires
unwrap-requires c =
    let few = listed_few (marked_in c.other.inside) c.other.invariant.all in
    let cleared = c.self.view_is ∙ c.clear.ensures in
    let count = as_many (marked_in c.self.inside) (marked_in c.other.inside) _ cleared (c.requires.count ∙ ap (λ m. length m.flags) (sym c.other.view_is)) in
    let empty : length c.self.inside.listed.items ≡ 0 = ap (λ m. length m.listed) cleared in
    let added : length c.as_slice-2.result.now ≡ length c.other.inside.listed.items = ap length c.as_slice-2.ensures.value in
    c.extend_from_slice.ensures.succeeds (omega (arith, count, few, empty, added, c.self.inside.listed.ok.0, c.self.invariant.room))

pub returns : goal.returns
returns c =
    let cleared = c.self.view_is ∙ c.clear.ensures in
    let count = as_many (marked_in c.self.inside) (marked_in c.other.inside) _ cleared (c.requires.count ∙ ap (λ m. length m.flags) (sym c.other.view_is)) in
    let put = rw c.unwrap.ensures at c.extend_from_slice.ensures.items in
    let listed : c.extend_from_slice.new.self.items ≡ c.other.inside.listed.items =
    put ∙ ap (λ xs. xs ++ c.as_slice-2.result.now) (ap (λ m. m.listed) cleared) ∙ c.as_slice-2.ensures.value in
    let count_given : length c.give.new.flags ≡ length c.self.inside.flags.items = c.give.ensures.count ∙ ap length c.as_mut_slice.ensures.value in
    let given = rw c.as_slice.ensures.value at c.give.ensures.flags in
    let flags : (with_items c.self.inside.flags c.give.new.flags).items ≡ c.other.inside.flags.items =
    with_items_is c.self.inside.flags c.give.new.flags (count_given ∙ sym c.self.inside.flags.ok.0)
    ∙ same_flags c.give.new.flags (marked_in c.other.inside) c.other.invariant.all (count_given ∙ count) given in
    rw (← c.other.view_is, flags, listed) refl
