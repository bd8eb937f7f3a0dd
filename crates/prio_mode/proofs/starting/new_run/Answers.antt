use Rattle.std.proofs.Common.{replicate, None, ap, ◌∙◌}
use Rattle.prio_mode.proofs.NewRuns.{begun, begun-stands}
use Rattle.prio_mode.proofs.starting.new_run.Goals as goal

pub returns-clause-run : goal.returns-clause-run
returns-clause-run c =
    begun c.args.plan.now _ c.in_ok-seen.ensures c.in_ok-tellings.ensures.changes
    c.in_ok-tellings.ensures.active
    (c.in_ok-dues.ensures ∙ ap (λ n. replicate n None) c.elements.ensures.count)

pub returns-clause-stands : goal.returns-clause-stands
returns-clause-stands c =
    begun-stands c.args.plan.now
    (record {
      seen = c.in_ok-seen.seen;
      tellings = c.in_ok-tellings.tellings;
      dues = c.in_ok-dues.dues;
    })
    c.in_ok-seen.ensures
