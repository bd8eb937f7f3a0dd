-- What a line stands for after a step of the network.
use Rattle.std.proofs.Common.{◌≡◌, ◌≤◌, ◌<◌, ◌+◌, ◌*◌, ℕ, suc, List, ◌∷◌, length, Option, IfSome, refl, ap, sym, subst, ◌∙◌, arith}
use Rattle.sync_ql.specs.declared.levels.Level.{Level}
use Rattle.sync_ql.specs.Pasts.{past_of}
use Rattle.sync_ql.specs.Messages.{LineMoment, heard_at, unchanged, line_until}
use Rattle.sync_ql.proofs.Delivered.{length-past_of, heard_at-head}
use Rattle.sync_element.proofs.ElementSteps.{later-due}
use Rattle.link_model.specs.LineState.{LineState}
use Rattle.link_model.specs.Calls.{told, turned, with_up, with_esmc, with_level}
use Rattle.link_model.specs.StandsFor as Line
use Rattle.link_model.proofs.Standing.{length-until, until-same, until-next, until-told}
use Rattle.sync_topo.specs.Topology.{Topology}
use Rattle.sync_topo.specs.Lines.{line_input, delay_of}
use Rattle.net_rules.specs.Signals.{Signals}
use Rattle.net_rules.specs.History.{Levels, line_moment_at}
use Rattle.sync_net.specs.declared.signals.LineSignal.{LineSignal}
use Rattle.sync_net.specs.Standing.{LineStands, heard_before}
use Rattle.sync_net.specs.private.Steps.{told_past, IsLineTold, IsLineSaid}

-- the calls of one millisecond up to `take_due`, in which the line is up or down
told_moment : LineSignal → LineMoment → LineMoment
told_moment signal was = turned (turned was signal.up was.esmc) signal.up signal.esmc

told_moment-up : (signal : LineSignal) (was : LineMoment) → (told_moment signal was).up ≡ signal.up
unfolding told_moment
told_moment-up signal was = refl

told-past : (now : ℕ) (signal : LineSignal) (past : List LineMoment) → length past ≤ now →
    told_past now signal past ≡ told_moment signal (unchanged (line_until now past)) ∷ line_until now past
unfolding told_moment
told-past now signal past early =
    let was : LineMoment = unchanged (line_until now past) in
    let long : length (line_until now past) ≡ now = length-until now past early in
    ap (λ p. line_until (suc now) (with_esmc signal.esmc (line_until (suc now) (with_up signal.up p)))) (until-next now past early)
    ∙ ap (λ p. line_until (suc now) (with_esmc signal.esmc p)) (until-told now (turned was signal.up was.esmc) (line_until now past) long)
    ∙ until-told now (turned (turned was signal.up was.esmc) signal.up signal.esmc) (line_until now past) long

-- and the level that is given at its end
said-past : (now : ℕ) (signal : LineSignal) (level : Level) (past : List LineMoment) → length past ≤ now →
    with_level level (line_until (suc now) (told_past now signal past)) ≡ told signal.up signal.esmc level ∷ line_until now past
unfolding told_moment
said-past now signal level past early =
    ap (λ p. with_level level (line_until (suc now) p)) (told-past now signal past early)
    ∙ ap (with_level level) (until-told now (told_moment signal (unchanged (line_until now past))) (line_until now past) (length-until now past early))

-- a line whose level alone is given
given-past : (now : ℕ) (level : Level) (past : List LineMoment) → length past ≤ now →
    with_level level (line_until (suc now) past)
    ≡ told (unchanged (line_until now past)).up (unchanged (line_until now past)).esmc level ∷ line_until now past
given-past now level past early = ap (with_level level) (until-next now past early)

called-past : (signals : Signals) (out : Levels) (line called : ℕ) (n : ℕ) → called ≤ n → length (past_of (line_moment_at signals out line) called) ≤ n
called-past signals out line called n later = omega (arith, later, length-past_of (line_moment_at signals out line) called)

-- a line that was called in a millisecond stands for it
pub called-stands : (plan : Topology) (signals : Signals) (out : Levels) (line now : ℕ) (after : LineState) →
    after.delay ≡ delay_of plan line → after.turn ≡ 4 * now + 4 → IfSome after.due (λ due. now < due) →
    Line.StandsFor after (past_of (line_moment_at signals out line) (suc now)) → LineStands plan signals out line (suc now) after
called-stands plan signals out line now after delay turn due stands = record {
  delay = delay;
  in_turn = omega (arith, turn);
  until_due = later-due now after.due due;
  called = suc now;
  later = omega arith;
  first = λ none. absurd (omega (arith, none));
  stands = stands;
  unchanged = sym (until-same (suc now) (past_of (line_moment_at signals out line) (suc now)) (length-past_of (line_moment_at signals out line) (suc now)));
}

-- a line that is told whether it is up and its ESMC is on, and then given its level
pub told-stands : (plan : Topology) (signals : Signals) (out : Levels) (line now : ℕ) (signal : LineSignal) (level : Level) (heard_then : Option Level) (before between after : LineState) →
    LineStands plan signals out line now before → IsLineTold now signal before between heard_then → IsLineSaid now level between after →
    signal.up ≡ signals.up (line_input line) now → signal.esmc ≡ signals.esmc line now → level ≡ out line now →
    LineStands plan signals out line (suc now) after
told-stands plan signals out line now signal level heard_then before between after stands told_so said up esmc sent =
    let past : List LineMoment = past_of (line_moment_at signals out line) stands.called in
    let early : length past ≤ now = called-past signals out line stands.called now stands.later in
    let whole : with_level level (line_until (suc now) (told_past now signal past)) ≡ past_of (line_moment_at signals out line) (suc now) =
    said-past now signal level past early
    ∙ ap (λ p. told signal.up signal.esmc level ∷ p) (sym stands.unchanged)
    ∙ ap (λ u. told u signal.esmc level ∷ past_of (line_moment_at signals out line) now) up
    ∙ ap (λ e. told (signals.up (line_input line) now) e level ∷ past_of (line_moment_at signals out line) now) esmc
    ∙ ap (λ l. told (signals.up (line_input line) now) (signals.esmc line now) l ∷ past_of (line_moment_at signals out line) now) sent in
    called-stands plan signals out line now after (said.delay ∙ told_so.delay ∙ stands.delay) said.turn said.due_later
    (subst (Line.StandsFor after) whole (said.stands (told_past now signal past) (told_so.stands past stands.stands)))

-- what is heard on it is what the rules say
pub told-heard : (plan : Topology) (signals : Signals) (out : Levels) (line now : ℕ) (signal : LineSignal) (heard_then : Option Level) (before between : LineState) →
    1 ≤ delay_of plan line → LineStands plan signals out line now before → IsLineTold now signal before between heard_then →
    signal.up ≡ signals.up (line_input line) now →
    heard_then ≡ heard_before plan signals out line (suc now)
told-heard plan signals out line now signal heard_then before between delayed stands told_so up =
    let past : List LineMoment = past_of (line_moment_at signals out line) stands.called in
    let early : length past ≤ now = called-past signals out line stands.called now stands.later in
    let was : LineMoment = unchanged (line_until now past) in
    told_so.heard past stands.stands
    ∙ ap (λ d. heard_at d (line_until (suc now) (told_past now signal past))) stands.delay
    ∙ ap (λ p. heard_at (delay_of plan line) (line_until (suc now) p)) (told-past now signal past early)
    ∙ ap (heard_at (delay_of plan line)) (until-told now (told_moment signal was) (line_until now past) (length-until now past early))
    ∙ ap (λ p. heard_at (delay_of plan line) (told_moment signal was ∷ p)) (sym stands.unchanged)
    ∙ heard_at-head (delay_of plan line) (told_moment signal was) (line_moment_at signals out line now) (past_of (line_moment_at signals out line) now) delayed (told_moment-up signal was ∙ up)

-- a line that is given its level alone, whose signal is as it was
pub said-stands : (plan : Topology) (signals : Signals) (out : Levels) (line t : ℕ) (level : Level) (before after : LineState) →
    LineStands plan signals out line (suc t) before → IsLineSaid (suc t) level before after →
    signals.up (line_input line) (suc t) ≡ signals.up (line_input line) t → signals.esmc line (suc t) ≡ signals.esmc line t → level ≡ out line (suc t) →
    LineStands plan signals out line (suc (suc t)) after
said-stands plan signals out line t level before after stands said up esmc sent =
    let now : ℕ = suc t in
    let past : List LineMoment = past_of (line_moment_at signals out line) stands.called in
    let early : length past ≤ now = called-past signals out line stands.called now stands.later in
    let last : unchanged (line_until now past) ≡ line_moment_at signals out line t = ap unchanged (sym stands.unchanged) in
    let whole : with_level level (line_until (suc now) past) ≡ past_of (line_moment_at signals out line) (suc now) =
    given-past now level past early
    ∙ ap (λ m. told m.up m.esmc level ∷ line_until now past) last
    ∙ ap (λ p. told (signals.up (line_input line) t) (signals.esmc line t) level ∷ p) (sym stands.unchanged)
    ∙ ap (λ u. told u (signals.esmc line t) level ∷ past_of (line_moment_at signals out line) now) (sym up)
    ∙ ap (λ e. told (signals.up (line_input line) now) e level ∷ past_of (line_moment_at signals out line) now) (sym esmc)
    ∙ ap (λ l. told (signals.up (line_input line) now) (signals.esmc line now) l ∷ past_of (line_moment_at signals out line) now) sent in
    called-stands plan signals out line now after (said.delay ∙ stands.delay) said.turn said.due_later
    (subst (Line.StandsFor after) whole (said.stands past stands.stands))
