use Rattle.std.proofs.Common.{◌≡◌, ◌≤◌, ℕ, suc, List, ◌∷◌, length, ap, sym, ◌∙◌, subst, arith}
use Rattle.std.proofs.lemmas.Bool.{and_parts}
use Rattle.sync_ql.specs.Messages.{LineMoment, heard_at, unchanged, line_until}
use Rattle.link_model.specs.Calls.{turned, with_up, with_esmc}
use Rattle.link_model.specs.StandsFor.{StandsFor}
use Rattle.link_model.proofs.Standing.{length-until, until-same}
use Rattle.sync_net.specs.declared.signals.LineSignal.{LineSignal}
use Rattle.sync_net.specs.private.Steps.{told_past}
use Rattle.sync_net.proofs.calls.tell_line.Goals as goal

-- a line that is told what it is already goes on as it is
same-told : (now : ℕ) (signal : LineSignal) (past : List LineMoment) → length past ≤ now
    → line_until (suc now) past ≡ unchanged past ∷ line_until now past
    → turned (unchanged past) (unchanged past).up (unchanged past).esmc ≡ unchanged past
    → (unchanged past).up ≡ signal.up → (unchanged past).esmc ≡ signal.esmc
    → told_past now signal past ≡ line_until (suc now) past
same-told now signal past early next same up esmc =
    let still : line_until (suc now) (line_until (suc now) past) ≡ line_until (suc now) past =
    until-same (suc now) (line_until (suc now) past) (length-until (suc now) past (omega (arith, early))) in
    let as_up : with_up signal.up (line_until (suc now) past) ≡ line_until (suc now) past =
    subst (λ u. with_up u (line_until (suc now) past) ≡ line_until (suc now) past) up
    (subst (λ p. with_up (unchanged past).up p ≡ p) (sym next) (ap (λ m. m ∷ line_until now past) same)) in
    let as_esmc : with_esmc signal.esmc (line_until (suc now) past) ≡ line_until (suc now) past =
    subst (λ u. with_esmc u (line_until (suc now) past) ≡ line_until (suc now) past) esmc
    (subst (λ p. with_esmc (unchanged past).esmc p ≡ p) (sym next) (ap (λ m. m ∷ line_until now past) same)) in
    ap (λ p. line_until (suc now) (with_esmc signal.esmc (line_until (suc now) p))) as_up
    ∙ ap (λ p. line_until (suc now) (with_esmc signal.esmc p)) still
    ∙ ap (line_until (suc now)) as_esmc
    ∙ still

pub returns-then-signal-2 : goal.returns-then-signal-2
returns-then-signal-2 c =
    let now : ℕ = c.args.now in
    let same : (past : List LineMoment) → StandsFor c.args.line.now past → told_past now c.args.signal past ≡ line_until (suc now) past =
    λ past stands.
    let early : length past ≤ now = omega (arith, c.calls_law.ensures.low c.args.line.now past stands, c.requires.turn) in
    let speaks = and_parts (unchanged past).up (unchanged past).esmc (sym (c.speaking.ensures past stands) ∙ c.if-speaking.true) in
    same-told now c.args.signal past early (c.calls_law.ensures.next now past early) (c.calls_law.ensures.same (unchanged past)) (speaks.0 ∙ sym c.if-signal.true) (speaks.1 ∙ sym c.if-signal-2.true) in
    let stands_told : (past : List LineMoment) → StandsFor c.args.line.now past → StandsFor c.take_due-message.new.self (told_past now c.args.signal past) =
    λ past stands. subst (StandsFor c.take_due-message.new.self) (sym (same past stands)) (c.take_due-message.ensures.stands past stands) in
    record {
      delay = c.take_due-message.ensures.delay;
      turn = c.take_due-message.ensures.turn;
      due_later = c.take_due-message.ensures.due;
      options = c.take_due-message.ensures.options;
      heard_option = λ option are. c.heard.ensures.options option (c.take_due-message.ensures.options option are);
      stands = stands_told;
      heard = λ past stands.
          c.heard.ensures.heard (told_past now c.args.signal past) (stands_told past stands)
          ∙ ap (λ d. heard_at d (line_until (suc now) (told_past now c.args.signal past))) c.take_due-message.ensures.delay;
    }
