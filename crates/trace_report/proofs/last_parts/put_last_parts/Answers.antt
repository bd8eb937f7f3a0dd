use Rattle.std.proofs.Common.{◌++◌, map, ap, refl, ◌∙◌}
use Rattle.sync_topo.specs.Lines.{numbers}
use Rattle.trace_report.specs.LastParts.{traces_part, loops_part, settled_part}
use Rattle.trace_report.proofs.ReportLaws.{three-parts}
use Rattle.trace_report.proofs.last_parts.put_last_parts.Goals as goal

pub returns : goal.returns
returns c =
    let plan = c.args.net.now.plan in
    let endings = c.in_ok-endings.endings in
    let walks = c.in_ok-walks.walks in
    let traced = c.in_ok-put_traces.ensures.put ∙ ap (λ p. c.args.text.now ++ traces_part p c.as_slice.result.now) c.plan.ensures
    ∙ ap (λ e. c.args.text.now ++ traces_part plan e) c.as_slice.ensures in
    let looped = c.in_ok-put_loops.ensures.put ∙ ap (λ p. c.put_traces.new.text ++ loops_part p (map numbers c.as_slice-2.result.now)) c.plan-2.ensures
    ∙ ap (λ w. c.put_traces.new.text ++ loops_part plan (map numbers w)) c.as_slice-2.ensures in
    record {
      put = λ all stands. (
        traces_part plan endings ++ loops_part plan (map numbers walks) ++ settled_part c.settled.result,
        record {
          endings = endings;
          are_endings = record { count = c.in_ok-endings.ensures.count; each = c.in_ok-endings.ensures.exact all stands };
          walks = map numbers walks;
          are_loops = c.in_ok-walks.ensures.exact all stands;
          settled = c.settled.result;
          is_settled = c.settled.ensures.exact all stands;
          is = refl;
        },
        three-parts c.args.text.now c.put_traces.new.text c.put_loops.new.text c.put_settled.new.text
            (traces_part plan endings) (loops_part plan (map numbers walks)) (settled_part c.settled.result) traced looped c.in_ok-put_settled.ensures.put,
      );
    }
