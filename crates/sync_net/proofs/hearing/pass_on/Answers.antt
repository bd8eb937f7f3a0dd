use Rattle.std.proofs.Common.{arith, sym, ◌∙◌, ap}
use Rattle.std.proofs.lemmas.Bool.{true≢false}
use Rattle.sync_ql.specs.Messages.{is_same_level}
use Rattle.sync_net.proofs.HearingLaws.{passed-same, passed-on, read-heard}
use Rattle.sync_net.proofs.hearing.pass_on.Goals as goal

pub returns-then-is_same_heard : goal.returns-then-is_same_heard
returns-then-is_same_heard c =
    passed-same c.args.plan.now c.args.line.0 c.args.level c.args.heards.now _ _
    (ap (is_same_level c.args.level) (read-heard c.args.heards.now c.args.line.0 c.index-heards-line.result (omega (arith, c.requires.line, c.requires.heards)) c.index-heards-line.is)
    ∙ sym c.is_same_heard.ensures.exact ∙ c.if-is_same_heard.true)

pub unreachable-requires : goal.unreachable-requires
unreachable-requires c = true≢false (sym c.requires.nominated ∙ sym c.in_default.ensures.nominated)

pub returns : goal.returns
returns c =
    passed-on c.args.plan.now c.args.line.0 c.in-Some.there.element c.in-Some.there.place c.args.level c.args.heards.now _ _ _ _
    c.requires.well_formed c.requires.nominated c.requires.heards c.in-Some.ensures.within c.requires.option
    (ap (is_same_level c.args.level) (read-heard c.args.heards.now c.args.line.0 c.index-heards-line.result (omega (arith, c.requires.line, c.requires.heards)) c.index-heards-line.is)
    ∙ sym c.is_same_heard.ensures.exact ∙ c.if-is_same_heard.false)
    c.in-Some.ensures.place
    c.in_ok-tell.ensures.told.count c.in_ok-tell.ensures.told.flags_count c.in_ok-tell.ensures.told.list c.in_ok-tell.ensures.told.flag
