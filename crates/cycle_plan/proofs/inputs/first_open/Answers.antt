use Rattle.std.proofs.Common.{◌+◌, sym, inl, inr, arith}
use Rattle.std.proofs.lemmas.Bool.{cases_lt}
use Rattle.cycle_plan.proofs.HopFacts.{line_at_within}
use Rattle.cycle_plan.proofs.WatchLemmas.{AreFirstOpen-other}
use Rattle.cycle_plan.proofs.inputs.first_open.Goals as goal

pub returns-clause-places : goal.returns-clause-places
returns-clause-places c =
    AreFirstOpen-other c.args.returns c.args.plan.now c.args.cert.now c.args.inputs.now c.args.watch c.next_from-first.result c.next_from-second.result c.max-from.result c.in-Some.line.0
    c.args.watch.back c.args.watch.done c.requires.watch
    (record {
      within = c.next_from-first.ensures.within;
      behind = c.next_from-first.ensures.from c.requires.watch.first_within;
      closed = c.next_from-first.ensures.closed;
      open_there = c.next_from-first.ensures.found;
    })
    (sym c.in-Some.ensures) (line_at_within c.args.inputs.now c.next_from-first.result c.in-Some.line.0 (sym c.in-Some.ensures))
    (rw (← c.number_in-bundle.ensures)
    (record {
      within = c.next_from-second.ensures.within;
      behind = c.next_from-second.ensures.after;
      closed = c.next_from-second.ensures.closed;
      other_there = c.next_from-second.ensures.found;
    }))
    (omega (arith, c.max-from.ensures)) (omega (arith, c.max-from.ensures))
    (elim (cases_lt c.args.watch.second (c.next_from-first.result + 1)) [
      | inl low ↦ inr (omega (arith, c.max-from.ensures, low))
      | inr high ↦ inl (omega (arith, c.max-from.ensures, high))
    ])
