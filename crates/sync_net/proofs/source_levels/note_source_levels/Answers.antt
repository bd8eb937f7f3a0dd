use Rattle.std.proofs.Common.{◌≡◌, ℕ, suc, ◌+◌, ◌∷◌, drop, ap, sym, subst, ◌∙◌}
use Rattle.std.proofs.Math.Seq.{drop-cons}
use Rattle.std.proofs.Math.Numerals.{suc-eq-add-one}
use Rattle.sync_net.specs.private.SourceLevels.{AreSourcesSettled, all_level_words}
use Rattle.net_words.specs.private.Tellings.{AreToldSoFar}
use Rattle.sync_net.proofs.LevelsTold.{levels-told, levels-settled}
use Rattle.sync_net.proofs.source_levels.note_source_levels.Goals as goal

pub loop-event-preserved : goal.loop-event-preserved
loop-event-preserved c =
    let so_far = c.loop-event.invariant in
    let all = c.args.events.now in
    let i : ℕ = c.loop-event.event-index in
    let left : drop i all ≡ c.event-item.result ∷ drop (i + 1) all
    = drop-cons all i c.event-item.result c.loop-event-test.true ∙ ap (λ event. event ∷ drop (suc i) all) (sym c.event-item.is)
    ∙ ap (λ k. c.event-item.result ∷ drop k all) (suc-eq-add-one i) in
    record {
      told = levels-told c.args.plan.now c.args.sources.now c.loop-event.sources all (drop (i + 1) all) c.event-item.result _ _ _ so_far.settled.same
          (subst (λ events. AreToldSoFar (all_level_words c.args.plan.now c.args.sources.now all) (all_level_words c.args.plan.now c.args.sources.now events) c.args.tellings.now c.loop-event.tellings)
          left so_far.told) c.in_ok-note_source_level.ensures.told;
      settled = levels-settled all (drop (i + 1) all) c.event-item.result c.args.sources.now c.loop-event.sources c.note_source_level.new.sources
          (subst (λ events. AreSourcesSettled all events c.args.sources.now c.loop-event.sources) left so_far.settled) c.in_ok-note_source_level.ensures.settled;
      of_option = c.in_ok-note_source_level.ensures.of_option;
    }
