use Rattle.std.proofs.Common.{◌≡◌, ◌<◌, ap, sym, subst, ◌∙◌, arith, length}
use Rattle.std.specs.Prelude.{Some, IfSome, Option, is_some}
use Rattle.sync_topo.specs.Lines.{line_input, sender_of}
use Rattle.net_rules.specs.Walks.{Taken}
use Rattle.closed_walks.specs.declared.traced.Ending.{Ending}
use Rattle.closed_walks.specs.Taking.{taken_in_list}
use Rattle.closed_walks.specs.Traces.{EndsSo}
use Rattle.closed_walks.specs.private.Known.{known_at}
use Rattle.closed_walks.proofs.FollowLaws.{takes-on}
use Rattle.closed_walks.proofs.KnownLaws.{few-ending, more-known, ends-longer, not-known, known-next, over-here, over-none}
use Rattle.closed_walks.proofs.endings.note_next.Goals as goal

pub overflow_add-known : goal.overflow_add-known
overflow_add-known c =
    let plan = c.args.plan.now in
    let taken : Taken = taken_in_list c.args.taken.now in
    let is : known_at c.args.known.now c.from.result ≡ Some c.in-Some.ending = c.in-Some.is in
    let ends : EndsSo plan taken c.from.result c.in-Some.ending =
    subst (λ (o : Option Ending). IfSome o (EndsSo plan taken c.from.result)) is (c.requires.known.holds c.from.result) in
    let few = few-ending plan c.args.taken.now c.from.result c.in-Some.ending c.elements-elements.ensures.well_formed c.requires.taken c.from.ensures.within ends in
    let most = c.elements-elements.ensures.well_formed.few_elements in
    omega (arith, few, most)

pub returns-in-Over-clause-more : goal.returns-in-Over-clause-more
returns-in-Over-clause-more c =
    let plan = c.args.plan.now in
    let taken : Taken = taken_in_list c.args.taken.now in
    let inside : c.args.element < length c.args.known.now = omega (arith, c.requires.element, c.requires.known.count) in
    more-known plan taken c.args.known.now c.args.element _ inside c.requires.known
    (over-here plan taken c.args.element c.in-Over.end c.next_of.result c.next_of.ensures c.in-Over.is)
    (λ line takes. absurd (over-none taken c.args.element line c.in-Over.end c.next_of.result c.next_of.ensures c.in-Over.is takes))

pub returns-in-Some-clause-more : goal.returns-in-Some-clause-more
returns-in-Some-clause-more c =
    let plan = c.args.plan.now in
    let taken : Taken = taken_in_list c.args.taken.now in
    let inside : c.args.element < length c.args.known.now = omega (arith, c.requires.element, c.requires.known.count) in
    let takes : taken c.args.element ≡ Some (line_input c.in-On.line.0) = takes-on (taken c.args.element) c.args.element c.in-On.line c.next_of.result c.next_of.ensures c.in-On.is in
    let is : known_at c.args.known.now (sender_of plan c.in-On.line.0) ≡ Some c.in-Some.ending = ap (known_at c.args.known.now) (sym c.from.ensures.sender) ∙ c.in-Some.is in
    more-known plan taken c.args.known.now c.args.element _ inside c.requires.known
    (ends-longer plan taken c.args.known.now c.args.element c.in-On.line.0 c.in-Some.ending c.requires.known (not-known (known_at c.args.known.now c.args.element) (sym c.is_some.ensures ∙ c.if-is_some.false)) takes is)
    (λ other takes_other. known-next plan taken c.args.known.now c.args.element c.in-On.line.0 other takes (ap is_some is) takes_other)
