use Rattle.std.proofs.Common.{◌++◌, ap, sym, subst, ◌∙◌}
use Rattle.std.specs.List.{All}
use Rattle.sync_ql.specs.Told.{FitsElement}
use Rattle.net_words.specs.Words.{all_words}
use Rattle.prio_mode.specs.PriorityAlone.{priority_settings}
use Rattle.prio_mode.proofs.Standing.{words-fit}
use Rattle.prio_mode.proofs.running.PriorityRun.call.Goals as goal

pub returns-clause-can_step : goal.returns-clause-can_step
returns-clause-can_step c = λ e within.
    let ready = c.requires.run.ready e within in
    let words = all_words c.args.plan.now c.args.here.now e in
    record {
      settings = ready.settings;
      in_time = ready.in_time;
      fits = subst (All (FitsElement (priority_settings c.args.plan.now e)))
          (sym (c.in_ok-tell_events.ensures.list e ∙ ap (λ told. told ++ words) ready.untold))
          (words-fit c.args.plan.now c.args.here.now e c.elements-elements.ensures.well_formed
          within);
    }
