use Rattle.std.proofs.Common.{◌<◌, ℕ, length, take, sym, subst, arith}
use Rattle.std.specs.Prelude.{slice_index_or, slice_set}
use Rattle.std.proofs.lemmas.List.{take_all, take_more}
use Rattle.sync_sweep.specs.declared.spells.Spell.{Spell}
use Rattle.sync_sweep.specs.private.Spells.{no_spell, IsWorseNow, AreNotedSo}
use Rattle.sync_sweep.proofs.TakeLemmas.{index-same}
use Rattle.sync_sweep.proofs.SpellLemmas.{noted-more, noted-all}
use Rattle.sync_sweep.proofs.spells.note_worse.Goals as goal

pub loop-place-preserved : goal.loop-place-preserved
loop-place-preserved c =
    let net = c.args.net.now in
    let levels = c.args.levels.now in
    let places = c.args.places.now in
    let i : ℕ = c.loop-place.place-index in
    let place : ℕ = slice_index_or places i 0 in
    let spell : Spell = slice_index_or c.loop-place.spells place no_spell in
    let behind : i < length places = omega (arith, c.loop-place-test.true) in
    let within : place < length net.plan.elements = c.requires.within i 0 behind in
    let inside : place < length c.args.spells.now = omega (arith, within, c.requires.count) in
    let room : place < length c.loop-place.spells = omega (arith, inside, c.loop-place.invariant.count) in
    subst (λ ps. AreNotedSo net levels c.args.now c.args.spells.now ps (slice_set c.loop-place.spells place c.note_one.result)) (sym (take_more places i 0 behind))
    (noted-more net levels c.args.now c.args.spells.now (take i places) c.loop-place.spells place spell c.note_one.result inside
    (index-same c.loop-place.spells place no_spell spell room) c.note_one.ensures.noted
    (λ element level. subst (λ e. IsWorseNow e (slice_index_or levels place level) c.note_one.result) (c.element.ensures.element element)
    (c.note_one.ensures.worse (slice_index_or levels place level) (c.place-before.ensures level)))
    c.loop-place.invariant)

pub returns-clause-worse : goal.returns-clause-worse
returns-clause-worse c = λ base plan worse alike.
    let places = c.args.places.now in
    let i : ℕ = c.loop-place.place-index in
    noted-all c.args.net.now base c.args.levels.now c.args.now c.args.spells.now places c.loop-place.spells c.requires.count
    (subst (λ ps. AreNotedSo c.args.net.now c.args.levels.now c.args.now c.args.spells.now ps c.loop-place.spells) (take_all i places (omega (arith, c.loop-place-test.false))) c.loop-place.invariant)
    plan worse alike
