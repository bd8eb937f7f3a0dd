use Rattle.std.proofs.Common.{◌<◌, ◌++◌, ℕ, [], ◌∷◌, length, take, sym, subst, arith}
use Rattle.std.specs.Prelude.{slice_index_or, slice_set}
use Rattle.std.proofs.lemmas.List.{take_all, take_more}
use Rattle.sync_sweep.specs.declared.spells.Spell.{Spell}
use Rattle.sync_sweep.specs.private.Spells.{no_spell, AreTaken}
use Rattle.sync_sweep.proofs.TakeLemmas.{index-same, taken-more, taken-all}
use Rattle.sync_sweep.proofs.spells.take_way.Goals as goal

pub loop-place-preserved : goal.loop-place-preserved
loop-place-preserved c =
    let old = c.args.spells.now in
    let places = c.args.places.now in
    let i : ℕ = c.loop-place.place-index in
    let place : ℕ = slice_index_or places i 0 in
    let spell : Spell = slice_index_or c.loop-place.spells place no_spell in
    let behind : i < length places = omega (arith, c.loop-place-test.true) in
    let within : place < length old = c.requires.within i 0 behind in
    let room : place < length c.loop-place.spells = omega (arith, within, c.loop-place.invariant.count) in
    subst (λ ps. AreTaken old c.args.next ps (slice_set c.loop-place.spells place c.spell_of_none.result) c.with_spell-way.result) (sym (take_more places i 0 behind))
    (subst (λ s. AreTaken old c.args.next (take i places ++ place ∷ []) (slice_set c.loop-place.spells place s) c.with_spell-way.result) (sym c.spell_of_none.ensures)
    (taken-more old c.args.next (take i places) c.loop-place.spells c.loop-place.way place spell c.with_spell-way.result within
    (index-same c.loop-place.spells place no_spell spell room) c.with_spell-way.ensures c.loop-place.invariant))

pub returns-clause-way : goal.returns-clause-way
returns-clause-way c = λ but.
    let old = c.args.spells.now in
    let places = c.args.places.now in
    let i : ℕ = c.loop-place.place-index in
    (taken-all old c.args.next places c.loop-place.spells c.loop-place.way
    (subst (λ ps. AreTaken old c.args.next ps c.loop-place.spells c.loop-place.way) (take_all i places (omega (arith, c.loop-place-test.false))) c.loop-place.invariant) but).1
