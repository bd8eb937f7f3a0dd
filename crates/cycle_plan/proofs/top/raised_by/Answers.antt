use Rattle.std.proofs.Common.{sym, ap, ◌∙◌}
use Rattle.std.proofs.lemmas.Option.{none-some, same_Some}
use Rattle.rank_cert.specs.Ranks.{rank_at}
use Rattle.cycle_plan.proofs.TopLemmas.{IsTop-raised, IsTop-same}
use Rattle.cycle_plan.proofs.top.raised_by.Goals as goal

pub returns-in-Some-rank : goal.returns-in-Some-rank
returns-in-Some-rank c =
    rw (c.raised.ensures, c.number_in.ensures)
    (IsTop-raised c.args.returns c.args.plan.now c.args.cert.now c.args.inputs.now c.args.place c.args.top c.in-Some.line.0 c.in-Some-rank.rank
    (sym c.in-Some.ensures) (sym c.in-Some-rank.ensures.rank) c.requires.top)

pub returns-in-None : goal.returns-in-None
returns-in-None c =
    IsTop-same c.args.returns c.args.plan.now c.args.cert.now c.args.inputs.now c.args.place c.args.top
    (λ line rank here ranked.
    let same = same_Some c.in-Some.line.0 line (c.in-Some.ensures ∙ here) in
    none-some rank (c.in-None.ensures.rank ∙ ap (λ l. rank_at c.args.cert.now l) same ∙ ranked))
    c.requires.top

pub returns-in_default : goal.returns-in_default
returns-in_default c =
    IsTop-same c.args.returns c.args.plan.now c.args.cert.now c.args.inputs.now c.args.place c.args.top (λ line rank here ranked. none-some line (c.in_default.ensures ∙ here)) c.requires.top
