use Rattle.std.proofs.Common.{sym, ◌∙◌}
use Rattle.std.proofs.lemmas.Bool.{eqb-false}
use Rattle.sync_topo.proofs.LineLaws.{IsNominated-within}
use Rattle.cycle_plan.proofs.BoundLemmas.{opposed}
use Rattle.cycle_plan.proofs.bound.keeps_direction.Goals as goal

-- the line whose receiver is kept goes back from this one
pub returns-in-Some-clause-opposite : goal.returns-in-Some-clause-opposite
returns-in-Some-clause-opposite c = λ differs one_way.
    let plan = c.args.plan.now in
    let line = c.args.line.0 in
    let first = c.requires.before.only c.bundle-bundle.result c.in-Some.other c.in-Some.is in
    let nominated = sym c.nominated.ensures.nominated ∙ c.if-not-nominated.false in
    one_way first.0 line first.2 nominated
    (opposed plan first.0 line c.to-receiver.ensures.well_formed (IsNominated-within plan first.0 first.2) c.requires.within
    (λ i j i_within j_within same. (c.bundle_law.ensures.one plan i j i_within j_within).0 same)
    (first.3 ∙ c.bundle-bundle.ensures.bundle)
    (λ same. eqb-false c.in-Some.other c.to-receiver.result differs (sym first.4 ∙ same ∙ sym c.to-receiver.ensures.receiver)))
