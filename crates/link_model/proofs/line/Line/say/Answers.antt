use Rattle.std.proofs.Common.{◌≡◌, ◌≤◌, ◌<◌, ◌*◌, ◌+◌, suc, Some, IfSome, refl, ap, sym, subst, ◌∙◌}
use Rattle.sync_text.specs.Each.{Each}
use Rattle.sync_ql.specs.Messages.{line_until}
use Rattle.link_model.specs.Calls.{with_level}
use Rattle.link_model.specs.Kept.{WordsKept, words_kept, all_words, due_of}
use Rattle.link_model.specs.StandsFor.{StandsFor, AreOfOption}
use Rattle.link_model.specs.Whole.{next_of, kept_in}
use Rattle.link_model.specs.private.Whole.{IsWhole}
use Rattle.link_model.proofs.Called.{words_said, is_other_now, given, stands-said}
use Rattle.link_model.proofs.Replies.{IsOf, stands-as, whole-said, due-said, option-said}
use Rattle.link_model.proofs.line.Line.say.Goals as goal

words_are : (c : goal.After-self-in-Ok-1) → words_kept c.say_if.new.self ≡ words_said c.self.inside.delay c.args.now (is_other_now (kept_in c.self.inside).now c.args.level) c.args.level (words_kept c.self.inside.words)
words_are c =
    let news = rw (← c.self.view_is) at c.says_other-news.ensures in
    c.in-Ok.ensures.ok ∙ ap (λ b. words_said c.self.inside.delay c.args.now b c.args.level (words_kept c.self.inside.words)) news

pub invariant_of-self : goal.invariant_of-self
invariant_of-self c =
    let early : c.self.inside.turn ≤ 4 * c.args.now + 3 = rw (← c.self.view_is) at c.requires.turn in
    let due : IfSome (due_of c.self.inside.delay (next_of c.self.inside.turn) (kept_in c.self.inside).words) (λ due. c.args.now ≤ due) = rw (← c.self.view_is) at c.requires.in_time in
    subst (λ (words : WordsKept). IsWhole c.self.inside.delay (4 * c.args.now + 4) (record { now = record { up = c.self.inside.up; esmc = c.self.inside.esmc; level = Some c.args.level }; words = words })) (sym (words_are c))
    (whole-said c.self.inside.delay c.self.inside.turn c.args.now (is_other_now (kept_in c.self.inside).now c.args.level) c.args.level (kept_in c.self.inside) (given (kept_in c.self.inside).now c.args.level) c.requires.in_range early due c.self.invariant)

pub returns-in-Ok-clause-due : goal.returns-in-Ok-clause-due
returns-in-Ok-clause-due c =
    let early : c.self.inside.turn ≤ 4 * c.args.now + 3 = rw (← c.self.view_is) at c.requires.turn in
    let due : IfSome (due_of c.self.inside.delay (next_of c.self.inside.turn) (kept_in c.self.inside).words) (λ due. c.args.now ≤ due) = rw (← c.self.view_is) at c.requires.in_time in
    subst (λ (words : WordsKept). IfSome (due_of c.self.inside.delay (next_of (4 * c.args.now + 4)) words) (λ due. c.args.now < due)) (sym (words_are c))
    (due-said c.self.inside.delay c.self.inside.turn c.args.now (is_other_now (kept_in c.self.inside).now c.args.level) c.args.level (kept_in c.self.inside) early due c.self.invariant)

pub returns-in-Ok-clause-options : goal.returns-in-Ok-clause-options
unfolding AreOfOption
returns-in-Ok-clause-options c =
    rw (← c.self.view_is)
    (λ option of are. subst (λ (words : WordsKept). Each (IsOf option) (all_words words)) (sym (words_are c))
    (option-said option c.self.inside.delay c.args.now (is_other_now (kept_in c.self.inside).now c.args.level) c.args.level (words_kept c.self.inside.words) c.self.invariant.delay_low of are))

pub returns-in-Ok-clause-stands : goal.returns-in-Ok-clause-stands
unfolding StandsFor
returns-in-Ok-clause-stands c =
    let early : c.self.inside.turn ≤ 4 * c.args.now + 3 = rw (← c.self.view_is) at c.requires.turn in
    let due : IfSome (due_of c.self.inside.delay (next_of c.self.inside.turn) (kept_in c.self.inside).words) (λ due. c.args.now ≤ due) = rw (← c.self.view_is) at c.requires.in_time in
    rw (← c.self.view_is)
    (λ past stands. stands-as c.self.inside.delay (4 * c.args.now + 4) c.self.inside.up c.self.inside.esmc
    (Some c.args.level) (Some c.args.level)
    (words_kept c.say_if.new.self) (words_said c.self.inside.delay c.args.now (is_other_now (kept_in c.self.inside).now c.args.level) c.args.level (words_kept c.self.inside.words))
    (with_level c.args.level (line_until (suc c.args.now) past)) refl (words_are c)
    (stands-said c.self.inside.delay c.self.inside.turn c.args.now c.args.level (kept_in c.self.inside) past early due c.self.invariant stands))
