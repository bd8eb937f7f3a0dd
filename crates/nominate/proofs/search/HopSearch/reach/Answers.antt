use Rattle.std.proofs.Common.{◌≡◌, ◌+◌, arith, length, None, Some, refl, sym, ◌∙◌}
use Rattle.nominate.specs.HopCount.{count_at}
use Rattle.nominate.proofs.CountLemmas.{count-read, count-set_here, none_is, some_is}
use Rattle.nominate.proofs.SearchLemmas.{IsMore-given, close-there}
use Rattle.nominate.proofs.search.HopSearch.reach.Goals as goal

pub returns-then-is_some-clause-close : goal.returns-then-is_some-clause-close
returns-then-is_some-clause-close c =
    let read : count_at c.args.self.now.counts.items c.to-receiver.result ≡ c.index.result.now =
    count-read c.args.self.now.counts.items (length c.args.plan.now.elements) c.to-receiver.result c.index.result.now (sym c.requires.searching.counted) c.to-receiver.ensures.within c.index.ensures in
    let some = some_is c.index.result.now (sym c.is_some.ensures ∙ c.if-is_some.true) in
    rw (← c.to-receiver.ensures.receiver) (close-there c.args.plan.now c.args.self.now c.to-receiver.result some.0 c.requires.searching (read ∙ some.1))

pub returns-clause-more : goal.returns-clause-more
returns-clause-more c =
    let read : count_at c.args.self.now.counts.items c.to-receiver.result ≡ c.index.result.now =
    count-read c.args.self.now.counts.items (length c.args.plan.now.elements) c.to-receiver.result c.index.result.now (sym c.requires.searching.counted) c.to-receiver.ensures.within c.index.ensures in
    let none : count_at c.args.self.now.counts.items c.to-receiver.result ≡ None = read ∙ none_is c.index.result.now (sym c.is_some.ensures ∙ c.if-is_some.false) in
    IsMore-given c.args.plan.now c.args.self.now _ c.args.line.0 c.requires.searching (record {
      within = c.requires.within;
      inside = rw (← c.to-receiver.ensures.receiver) c.to-receiver.ensures.within;
      of_depth = c.requires.of_depth;
      none = rw (← c.to-receiver.ensures.receiver) none;
      counts = rw (← c.to-receiver.ensures.receiver) refl;
      current = refl;
      next = rw (← c.to-receiver.ensures.receiver) c.in-Ok.ensures.items;
      depth = refl;
    })

pub returns-clause-close : goal.returns-clause-close
returns-clause-close c =
    let now = count-set_here c.args.self.now.counts.items c.to-receiver.result (Some (c.args.self.now.depth + 1)) (rw c.requires.searching.counted c.to-receiver.ensures.within) in
    (c.args.self.now.depth + 1, rw (← c.to-receiver.ensures.receiver) now, omega arith)
