use Rattle.std.proofs.Common.{◌≡◌, ◌≤◌, ◌+◌, ◌*◌, suc, IfSome, ap, sym, subst, ◌∙◌, arith}
use Rattle.sync_ql.specs.Told.{IsOfOption}
use Rattle.sync_ql.specs.Messages.{hearing_time}
use Rattle.link_model.specs.Kept.{words_kept, due_of, heard_of}
use Rattle.link_model.specs.StandsFor.{StandsFor, AreOfOption}
use Rattle.link_model.specs.Whole.{next_of, kept_in}
use Rattle.link_model.proofs.Standing.{taken}
use Rattle.link_model.proofs.Replies.{option-taken}
use Rattle.link_model.proofs.Dues.{heard-now, option-heard}
use Rattle.link_model.proofs.line.Line.heard.Goals as goal

pub returns-clause-options : goal.returns-clause-options
unfolding AreOfOption
returns-clause-options c =
    rw (← c.self.view_is)
    (λ option are. subst (IsOfOption option) (sym c.heard_in.ensures)
    (option-heard option c.self.inside.delay hearing_time (c.args.now + 1) (taken c.self.inside.delay c.args.now (words_kept c.self.inside.words)).arrived (taken c.self.inside.delay c.args.now (words_kept c.self.inside.words)).on_way
    (option-taken option c.self.inside.delay c.args.now (words_kept c.self.inside.words) are)))

pub returns-clause-heard : goal.returns-clause-heard
unfolding StandsFor
returns-clause-heard c =
    let early : c.self.inside.turn ≤ 4 * c.args.now + 4 = rw (← c.self.view_is) at c.requires.turn in
    let due : IfSome (due_of c.self.inside.delay (next_of c.self.inside.turn) (kept_in c.self.inside).words) (λ due. c.args.now ≤ due) = rw (← c.self.view_is) at c.requires.in_time in
    let next : c.args.now + 1 ≡ suc c.args.now = omega arith in
    rw (← c.self.view_is)
    (λ past stands. c.heard_in.ensures
    ∙ ap (λ n. heard_of c.self.inside.delay (taken c.self.inside.delay c.args.now (words_kept c.self.inside.words)).arrived hearing_time n) next
    ∙ heard-now c.self.inside.delay c.self.inside.turn c.args.now (kept_in c.self.inside) past early due c.self.invariant stands)
