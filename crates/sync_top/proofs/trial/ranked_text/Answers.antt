use Rattle.std.proofs.Common.{◌∙◌}
use Rattle.sync_top.proofs.RunLaws.{trial-text}
use Rattle.sync_top.proofs.trial.ranked_text.Goals as goal

pub returns : goal.returns
returns c =
    let run = c.in_ok-put_run.ensures.put in
    record {
      text = record {
        accepted = c.requires.accepted;
        top = c.args.top;
        greatest = c.requires.top;
        rows = run.0;
        are_rows = run.1;
        settled = run.2.0;
        is_settled = run.2.1;
        is = trial-text c.args.elements c.args.plan.now c.args.top c.from.result c.from-2.result run.0 run.2.0 c.new-text.result
            c.put_counted.new.text c.put_counted-2.new.text c.put_counted-3.new.text c.put_run.new.text c.new-text.ensures c.from.ensures
            (c.from-2.ensures ∙ c.links.ensures.count) c.in_ok-put_counted.ensures c.in_ok-put_counted-2.ensures c.in_ok-put_counted-3.ensures run.2.2;
      };
    }
