use Rattle.std.proofs.Common.{◌≤◌, length, map, sym, ap, ◌∙◌, arith}
use Rattle.std.proofs.lemmas.List.{length-map}
use Rattle.sync_topo.specs.Lines.{line_count, numbers}
use Rattle.settle_trace.specs.Now.{now_of, signals_of, out_of, taken_now}
use Rattle.sync_sweep.proofs.LoopLemmas.{loops-few}
use Rattle.sync_sweep.proofs.outcomes.count_loops.Goals as goal

pub count_of-requires : goal.count_of-requires
count_of-requires c = record {
  few =
      let net = c.args.net.now in
      let all = c.requires.some.0 in
      let few : length (map numbers c.in_ok-walks.walks) ≤ line_count net.plan =
      loops-few net.plan (taken_now net all) (map numbers c.in_ok-walks.walks)
      (λ element. c.taken_law.ensures.own net.plan (signals_of net all) (out_of net all) element (now_of net))
      (c.in_ok-walks.ensures.exact all c.requires.some.1) in
      omega (arith, few, length-map c.in_ok-walks.walks numbers, ap length c.as_slice.ensures, c.lines-lines.ensures.count, ap line_count c.plan.ensures);
}

pub returns : goal.returns
returns c = λ all stands. record {
  walks = map numbers c.in_ok-walks.walks;
  are_walks = c.in_ok-walks.ensures.exact all stands;
  many = c.count_of.ensures ∙ ap length c.as_slice.ensures ∙ sym (length-map c.in_ok-walks.walks numbers);
}
