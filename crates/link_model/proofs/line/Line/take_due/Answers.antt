use Rattle.std.proofs.Common.{◌≡◌, ◌≤◌, ◌<◌, ◌*◌, ◌+◌, suc, IfSome, refl, ap, sym, subst, ◌∙◌, arith}
use Rattle.sync_text.specs.Each.{Each}
use Rattle.sync_ql.specs.Messages.{line_until}
use Rattle.link_model.specs.Kept.{WordsKept, words_kept, all_words, due_of, heard_of}
use Rattle.link_model.specs.StandsFor.{StandsFor, AreOfOption}
use Rattle.link_model.specs.Whole.{next_of, kept_in}
use Rattle.link_model.specs.private.Whole.{IsWhole}
use Rattle.link_model.proofs.Standing.{taken}
use Rattle.link_model.proofs.Called.{stands-taken, came-taken}
use Rattle.link_model.proofs.Replies.{IsOf, stands-as, whole-taken, due-taken, option-taken}
use Rattle.link_model.proofs.line.Line.take_due.Goals as goal

pub invariant_of-self : goal.invariant_of-self
invariant_of-self c =
    let early : c.self.inside.turn ≤ 4 * c.args.now + 2 = rw (← c.self.view_is) at c.requires.turn in
    let due : IfSome (due_of c.self.inside.delay (next_of c.self.inside.turn) (kept_in c.self.inside).words) (λ due. c.args.now ≤ due) = rw (← c.self.view_is) at c.requires.in_time in
    subst (λ (words : WordsKept). IsWhole c.self.inside.delay (4 * c.args.now + 3) (record { now = record { up = c.self.inside.up; esmc = c.self.inside.esmc; level = c.self.inside.level }; words = words })) (sym c.take_in.ensures)
    (whole-taken c.self.inside.delay c.self.inside.turn c.args.now (kept_in c.self.inside) (kept_in c.self.inside).now c.requires.in_range early due c.self.invariant)

pub returns-clause-due : goal.returns-clause-due
returns-clause-due c =
    let early : c.self.inside.turn ≤ 4 * c.args.now + 2 = rw (← c.self.view_is) at c.requires.turn in
    let due : IfSome (due_of c.self.inside.delay (next_of c.self.inside.turn) (kept_in c.self.inside).words) (λ due. c.args.now ≤ due) = rw (← c.self.view_is) at c.requires.in_time in
    subst (λ (words : WordsKept). IfSome (due_of c.self.inside.delay (next_of (4 * c.args.now + 3)) words) (λ due. c.args.now < due)) (sym c.take_in.ensures)
    (due-taken c.self.inside.delay c.self.inside.turn c.args.now (kept_in c.self.inside) early due c.self.invariant)

pub returns-clause-options : goal.returns-clause-options
unfolding AreOfOption
returns-clause-options c =
    rw (← c.self.view_is)
    (λ option are. subst (λ (words : WordsKept). Each (IsOf option) (all_words words)) (sym c.take_in.ensures) (option-taken option c.self.inside.delay c.args.now (words_kept c.self.inside.words) are))

pub returns-clause-stands : goal.returns-clause-stands
unfolding StandsFor
returns-clause-stands c =
    let early : c.self.inside.turn ≤ 4 * c.args.now + 2 = rw (← c.self.view_is) at c.requires.turn in
    let due : IfSome (due_of c.self.inside.delay (next_of c.self.inside.turn) (kept_in c.self.inside).words) (λ due. c.args.now ≤ due) = rw (← c.self.view_is) at c.requires.in_time in
    rw (← c.self.view_is)
    (λ past stands. stands-as c.self.inside.delay (4 * c.args.now + 3) c.self.inside.up c.self.inside.esmc
    c.self.inside.level c.self.inside.level
    (words_kept c.take_in.new.self) (taken c.self.inside.delay c.args.now (words_kept c.self.inside.words))
    (line_until (suc c.args.now) past) refl c.take_in.ensures
    (stands-taken c.self.inside.delay c.self.inside.turn c.args.now (kept_in c.self.inside) past early due c.self.invariant stands))

pub returns-clause-came : goal.returns-clause-came
unfolding StandsFor
returns-clause-came c =
    let early : c.self.inside.turn ≤ 4 * c.args.now + 2 = rw (← c.self.view_is) at c.requires.turn in
    let due : IfSome (due_of c.self.inside.delay (next_of c.self.inside.turn) (kept_in c.self.inside).words) (λ due. c.args.now ≤ due) = rw (← c.self.view_is) at c.requires.in_time in
    let next : c.args.now + 1 ≡ suc c.args.now = omega arith in
    rw (← c.self.view_is)
    (λ past stands. c.heard.ensures
    ∙ ap (λ n. heard_of c.self.inside.delay (words_kept c.take_in.new.self).arrived 1 n) next
    ∙ ap (λ (words : WordsKept). heard_of c.self.inside.delay words.arrived 1 (suc c.args.now)) c.take_in.ensures
    ∙ came-taken c.self.inside.delay c.self.inside.turn c.args.now (kept_in c.self.inside) past early due c.self.invariant stands)
