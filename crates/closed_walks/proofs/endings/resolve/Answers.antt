use Rattle.std.proofs.Common.{inl, inr}
use Rattle.closed_walks.specs.Taking.{taken_in_list}
use Rattle.sync_topo.specs.Lines.{numbers}
use Rattle.closed_walks.proofs.KnownLaws.{taken-own, end-at, known-way}
use Rattle.closed_walks.proofs.endings.resolve.Goals as goal

pub note_end-requires-clause-end : goal.note_end-requires-clause-end
note_end-requires-clause-end c =
    end-at c.args.plan.now (taken_in_list c.args.taken.now) c.args.known.now c.args.met.now (numbers c.in_ok-way.way.lines) c.args.element c.in_ok-way.way.last c.in_ok-way.way.end
    (taken-own c.args.plan.now c.args.taken.now c.requires.taken) c.requires.met c.in_ok-way.ensures.follows c.in_ok-way.ensures.trace

pub returns-clause-met : goal.returns-clause-met
returns-clause-met c = λ k is. elim (c.in_ok-way.ensures.met k is) [
  | inl before ↦ c.note_back.ensures.more.still k (c.note_end.ensures.more.still k (c.requires.met k before))
  | inr way ↦ known-way c.args.plan.now (taken_in_list c.args.taken.now) c.note_back.new.known (numbers c.in_ok-way.way.lines) c.args.element c.in_ok-way.way.last k
      c.note_back.ensures.more.known c.in_ok-way.ensures.follows c.note_back.ensures.element way
]
