use Rattle.std.proofs.Common.{◌≡◌, ◌≤◌, ◌<◌, ℕ, length, arith, ap, sym, subst, ◌∙◌}
use Rattle.std.specs.Prelude.{slice_index_or}
use Rattle.net_rules.proofs.OwnLevels.{own-option}
use Rattle.sync_ql.specs.declared.levels.Level.{Level}
use Rattle.sync_ql.specs.Table.{levels_of}
use Rattle.net_rules.specs.Signals.{signals_by}
use Rattle.net_rules.specs.History.{out_at}
use Rattle.settle_trace.specs.Now.{now_of}
use Rattle.sync_sweep.proofs.CountLemmas.{level-now, same-level, worst-found}
use Rattle.sync_sweep.proofs.counting.worst_of.Goals as goal

pub returns : goal.returns
returns c = λ all stands.
    let net = c.args.net.now in
    let plan = net.plan in
    let signals = signals_by plan all in
    let levels = c.args.levels.now in
    let element = c.element-element.result.now in
    let worst = c.level_at.result in
    let greatest : ℕ = c.greatest_place.result in
    let has = c.greatest_place.ensures.has in
    let inside : has.element < length plan.elements = omega (arith, has.within, c.requires.shown.count) in
    let level = slice_index_or levels has.element worst in
    let shows = c.requires.shown.each has.element element worst inside in
    let is = c.elements_law.ensures.stands net all net.next has.element element stands inside in
    let option : level.option ≡ plan.option = shows.option ∙ ap (λ s. s.own.option) is.settings ∙ own-option plan has.element c.requires.well_formed inside in
    let planned : c.option.result ≡ plan.option = c.option.ensures.option ∙ ap (λ p. p.option) c.plan.ensures in
    let row : greatest < length (levels_of c.option.result) =
    subst (λ o. greatest < length (levels_of o)) (option ∙ sym planned) (subst (λ p. p < length (levels_of level.option)) (has.has worst) level.is_row) in
    let of_option : worst.option ≡ plan.option = c.level_at.ensures.option ∙ planned in
    let place : worst.place ≡ greatest = c.level_at.ensures.place row in
    let same : worst ≡ level = same-level worst level (of_option ∙ sym option) (place ∙ sym (has.has worst)) in
    let now = level-now plan signals (out_at plan signals) has.element net.next (slice_index_or net.elements has.element element) c.requires.stepped is level shows.is in
    worst-found plan all (now_of net) (length plan.elements) has.element worst inside of_option (same ∙ now)
    (λ other within.
    let another = level-now plan signals (out_at plan signals) other net.next (slice_index_or net.elements other element) c.requires.stepped
    (c.elements_law.ensures.stands net all net.next other element stands within) (slice_index_or levels other worst) (c.requires.shown.each other element worst within).is in
    let bound : (slice_index_or levels other worst).place ≤ greatest = c.greatest_place.ensures.none_greater other worst (omega (arith, within, c.requires.shown.count)) in
    omega (arith, bound, place, ap (λ (l : Level). l.place) another))
