use Rattle.std.proofs.Common.{◌≤◌, ◌<◌, ◌*◌, ◌+◌, suc, IfSome, sym, subst}
use Rattle.sync_text.specs.Each.{Each}
use Rattle.sync_ql.specs.Messages.{line_until}
use Rattle.link_model.specs.Calls.{turned, with_up}
use Rattle.link_model.specs.Kept.{WordsKept, words_kept, all_words, due_of}
use Rattle.link_model.specs.StandsFor.{StandsFor, AreOfOption}
use Rattle.link_model.specs.Whole.{next_of, kept_in}
use Rattle.link_model.proofs.Called.{words_up, stands-up}
use Rattle.link_model.proofs.Replies.{IsOf, stands-as, whole-up, due-up, option-up}
use Rattle.link_model.proofs.line.Line.set_up.Goals as goal

pub invariant_of-self : goal.invariant_of-self
invariant_of-self c =
    let early : c.self.inside.turn ≤ 4 * c.args.now = rw (← c.self.view_is) at c.requires.turn in
    let due : IfSome (due_of c.self.inside.delay (next_of c.self.inside.turn) (kept_in c.self.inside).words) (λ due. c.args.now ≤ due) = rw (← c.self.view_is) at c.requires.in_time in
    rw c.pass.ensures
    (whole-up c.self.inside.delay c.self.inside.turn c.args.now c.args.up (kept_in c.self.inside)
    (record { up = c.args.up; esmc = c.self.inside.esmc; level = c.level_if-level.result }) c.requires.in_range early due c.self.invariant)

pub returns-clause-due : goal.returns-clause-due
returns-clause-due c =
    let early : c.self.inside.turn ≤ 4 * c.args.now = rw (← c.self.view_is) at c.requires.turn in
    let due : IfSome (due_of c.self.inside.delay (next_of c.self.inside.turn) (kept_in c.self.inside).words) (λ due. c.args.now ≤ due) = rw (← c.self.view_is) at c.requires.in_time in
    subst (λ (words : WordsKept). IfSome (due_of c.self.inside.delay (next_of (4 * c.args.now + 1)) words) (λ due. c.args.now < due)) (sym c.pass.ensures)
    (due-up c.self.inside.delay c.self.inside.turn c.args.now c.args.up (kept_in c.self.inside) early due c.self.invariant)

pub returns-clause-options : goal.returns-clause-options
unfolding AreOfOption
returns-clause-options c =
    rw (← c.self.view_is)
    (λ option are. subst (λ (words : WordsKept). Each (IsOf option) (all_words words)) (sym c.pass.ensures) (option-up option c.self.inside.delay c.args.now c.args.up (words_kept c.self.inside.words) are))

pub returns-clause-stands : goal.returns-clause-stands
unfolding StandsFor
returns-clause-stands c =
    let early : c.self.inside.turn ≤ 4 * c.args.now = rw (← c.self.view_is) at c.requires.turn in
    let due : IfSome (due_of c.self.inside.delay (next_of c.self.inside.turn) (kept_in c.self.inside).words) (λ due. c.args.now ≤ due) = rw (← c.self.view_is) at c.requires.in_time in
    let level = rw (← c.self.view_is) at c.level_if-level.ensures in
    rw (← c.self.view_is)
    (λ past stands. stands-as c.self.inside.delay (4 * c.args.now + 1) c.args.up c.self.inside.esmc
    c.level_if-level.result (turned (kept_in c.self.inside).now c.args.up c.self.inside.esmc).level
    (words_kept c.pass.new.self) (words_up c.self.inside.delay c.args.now c.args.up (words_kept c.self.inside.words))
    (with_up c.args.up (line_until (suc c.args.now) past)) level c.pass.ensures
    (stands-up c.self.inside.delay c.self.inside.turn c.args.now c.args.up (kept_in c.self.inside) past early due c.self.invariant stands))
