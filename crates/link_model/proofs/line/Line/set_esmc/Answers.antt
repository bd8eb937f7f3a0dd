use Rattle.std.proofs.Common.{◌≡◌, ◌≤◌, ◌<◌, ◌*◌, ◌+◌, suc, if◌then◌else◌, map, IfSome, ap, sym, subst, ◌∙◌}
use Rattle.sync_text.specs.Each.{Each}
use Rattle.sync_ql.specs.Messages.{line_until}
use Rattle.link_model.specs.Calls.{turned, with_esmc}
use Rattle.link_model.specs.Kept.{WordsKept, words_kept, all_words, due_of}
use Rattle.link_model.specs.private.Kept.{ended, ended_arrived}
use Rattle.link_model.specs.StandsFor.{StandsFor, AreOfOption}
use Rattle.link_model.specs.Whole.{next_of, kept_in}
use Rattle.link_model.specs.private.Whole.{IsWhole}
use Rattle.link_model.proofs.Ordering.{kept_words}
use Rattle.link_model.proofs.Called.{words_esmc, stands-esmc}
use Rattle.link_model.proofs.Replies.{IsOf, stands-as, whole-esmc, due-esmc, option-esmc}
use Rattle.link_model.proofs.line.Line.set_esmc.Goals as goal

words_are : (c : goal.After-self-2-1) → words_kept c.end_unless.new.self ≡ words_esmc c.self.inside.delay c.args.now c.args.on (words_kept c.self.inside.words)
words_are c =
    c.end_unless.ensures
    ∙ ap (λ (k : WordsKept). if c.args.on then k else kept_words (ended_arrived c.args.now k.arrived) (map (ended c.args.now) k.on_way)) c.take_in.ensures

pub invariant_of-self : goal.invariant_of-self
invariant_of-self c =
    let early : c.self.inside.turn ≤ 4 * c.args.now + 1 = rw (← c.self.view_is) at c.requires.turn in
    let due : IfSome (due_of c.self.inside.delay (next_of c.self.inside.turn) (kept_in c.self.inside).words) (λ due. c.args.now ≤ due) = rw (← c.self.view_is) at c.requires.in_time in
    subst (λ (words : WordsKept). IsWhole c.self.inside.delay (4 * c.args.now + 2) (record { now = record { up = c.self.inside.up; esmc = c.args.on; level = c.level_if-level.result }; words = words })) (sym (words_are c))
    (whole-esmc c.self.inside.delay c.self.inside.turn c.args.now c.args.on (kept_in c.self.inside)
    (record { up = c.self.inside.up; esmc = c.args.on; level = c.level_if-level.result }) c.requires.in_range early due c.self.invariant)

pub returns-clause-due : goal.returns-clause-due
returns-clause-due c =
    let early : c.self.inside.turn ≤ 4 * c.args.now + 1 = rw (← c.self.view_is) at c.requires.turn in
    let due : IfSome (due_of c.self.inside.delay (next_of c.self.inside.turn) (kept_in c.self.inside).words) (λ due. c.args.now ≤ due) = rw (← c.self.view_is) at c.requires.in_time in
    subst (λ (words : WordsKept). IfSome (due_of c.self.inside.delay (next_of (4 * c.args.now + 2)) words) (λ due. c.args.now < due)) (sym (words_are c))
    (due-esmc c.self.inside.delay c.self.inside.turn c.args.now c.args.on (kept_in c.self.inside) early due c.self.invariant)

pub returns-clause-options : goal.returns-clause-options
unfolding AreOfOption
returns-clause-options c =
    rw (← c.self.view_is)
    (λ option are. subst (λ (words : WordsKept). Each (IsOf option) (all_words words)) (sym (words_are c)) (option-esmc option c.self.inside.delay c.args.now c.args.on (words_kept c.self.inside.words) are))

pub returns-clause-stands : goal.returns-clause-stands
unfolding StandsFor
returns-clause-stands c =
    let early : c.self.inside.turn ≤ 4 * c.args.now + 1 = rw (← c.self.view_is) at c.requires.turn in
    let due : IfSome (due_of c.self.inside.delay (next_of c.self.inside.turn) (kept_in c.self.inside).words) (λ due. c.args.now ≤ due) = rw (← c.self.view_is) at c.requires.in_time in
    let level = rw (← c.self.view_is) at c.level_if-level.ensures in
    rw (← c.self.view_is)
    (λ past stands. stands-as c.self.inside.delay (4 * c.args.now + 2) c.self.inside.up c.args.on
    c.level_if-level.result (turned (kept_in c.self.inside).now c.self.inside.up c.args.on).level
    (words_kept c.end_unless.new.self) (words_esmc c.self.inside.delay c.args.now c.args.on (words_kept c.self.inside.words))
    (with_esmc c.args.on (line_until (suc c.args.now) past)) level (words_are c)
    (stands-esmc c.self.inside.delay c.self.inside.turn c.args.now c.args.on (kept_in c.self.inside) past early due c.self.invariant stands))
