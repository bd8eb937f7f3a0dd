-- Whether a line is settled, by what it answers.
use Rattle.std.proofs.Common.{◌≡◌, ◌≤◌, ℕ, suc, ◌-◌, Bool, true, false, ◌&&◌, List, [], ◌∷◌, length, Option, None, Some, refl, ap, sym, subst, ◌∙◌, arith}
use Rattle.std.specs.Prelude.{is_none, IsTrue, IsSome}
use Rattle.std.proofs.lemmas.Bool.{and_parts, true≢false}
use Rattle.std.specs.Cmp.Derive.{both_true}
use Rattle.sync_text.proofs.Each.{Each-map}
use Rattle.sync_text.specs.Each.{Each}
use Rattle.sync_ql.proofs.SameMoments.{same_level}
use Rattle.sync_ql.specs.declared.levels.Level.{Level}
use Rattle.sync_ql.specs.Pasts.{past_of}
use Rattle.sync_ql.specs.Messages.{LineMoment, Message, is_same_level, heard_at, on_way_at, unchanged, line_until, IsLineDue}
use Rattle.sync_ql.proofs.Delivered.{length-past_of, same-is}
use Rattle.link_model.specs.LineState.{LineState}
use Rattle.link_model.specs.StandsFor as Line
use Rattle.link_model.proofs.Pasts.{unchanged-after}
use Rattle.sync_topo.specs.Topology.{Topology}
use Rattle.sync_topo.specs.Lines.{line_input, delay_of}
use Rattle.net_rules.specs.Signals.{Signals}
use Rattle.net_rules.specs.History.{Levels, line_moment_at, heard}
use Rattle.net_rules.specs.Settled.{is_news_at, IsOnWay}
use Rattle.sync_net.specs.Standing.{LineStands}
use Rattle.sync_net.proofs.QuietObjects.{line-until}
use Rattle.settle_trace.specs.private.Resting.{hears_all, is_empty, at_rest, IsLineSettled}
use Rattle.settle_trace.proofs.Messages.{each-list_all, list_all-each, on_way-each, on_way-one}

-- each message has the level that is heard
abbrev HasHeard : Option Level → Message → Type 0
HasHeard level message = level ≡ Some message.level

hears-each : (level : Option Level) (messages : List Message) → hears_all level messages ≡ true → Each (HasHeard level) messages
hears-each None messages all = cc
hears-each (Some level) messages all =
    Each-map (λ m. is_same_level (Some m.level) (Some level) ≡ true) (HasHeard (Some level)) (λ m same. sym (same-is (Some m.level) (Some level) same))
    messages (each-list_all (λ m. is_same_level (Some m.level) (Some level)) messages all)

hears-some : (level : Option Level) (messages : List Message) → hears_all level messages ≡ true → IsSome level
hears-some None messages all = cc
hears-some (Some level) messages all = refl

each-hears : (level : Option Level) (messages : List Message) → IsSome level → Each (HasHeard level) messages → hears_all level messages ≡ true
each-hears None messages some each = cc
each-hears (Some level) messages some each =
    list_all-each (λ m. is_same_level (Some m.level) (Some level)) messages
    (Each-map (HasHeard (Some level)) (λ m. is_same_level (Some m.level) (Some level) ≡ true)
    (λ m same. subst (λ o. is_same_level (Some m.level) o ≡ true) (sym same) (same_level (Some m.level))) messages each)

none-is : (level : Option Level) → is_none level ≡ true → level ≡ None
none-is None is = refl
none-is (Some level) is = cc

is-none : (level : Option Level) → level ≡ None → is_none level ≡ true
is-none None is = refl
is-none (Some level) is = cc

empty-each : (messages : List Message) → is_empty messages ≡ true → Each (λ m. ⊥) messages
empty-each [] is = tt
empty-each (m ∷ messages) is = cc

each-empty : (messages : List Message) → Each (λ m. ⊥) messages → is_empty messages ≡ true
each-empty [] each = refl
each-empty (m ∷ messages) each = absurd each.0

-- so the test is that the line is settled
module _ (plan : Topology) (signals : Signals) (out : Levels) (t line : ℕ) where
  abbrev messages : List Message
  messages = on_way_at (delay_of plan line) (past_of (line_moment_at signals out line) (suc t))

  rest-settled : (up esmc : Bool) → signals.up (line_input line) t ≡ up → signals.esmc line t ≡ esmc
      → at_rest up (up && esmc) (heard plan signals out line t) messages ≡ true → IsLineSettled plan signals out t line
  rest-settled false esmc down is rest = record {
    carried = λ up. absurd (true≢false (sym up ∙ down));
    spoken = λ speaks. absurd (true≢false (sym (and_parts (signals.up (line_input line) t) (signals.esmc line t) speaks).0 ∙ down));
    silent = λ up. absurd (true≢false (sym up ∙ down));
    nothing_on_way = λ up. absurd (true≢false (sym up ∙ down));
  }
  rest-settled true true up on rest = record {
    carried = λ _ from news way. on_way-one (HasHeard (heard plan signals out line t)) plan signals out line t
        (hears-each (heard plan signals out line t) messages rest) from news way;
    spoken = λ _. hears-some (heard plan signals out line t) messages rest;
    silent = λ _ off. absurd (true≢false (sym on ∙ off));
    nothing_on_way = λ _ off. absurd (true≢false (sym on ∙ off));
  }
  rest-settled true false up off rest =
      let both = and_parts (is_none (heard plan signals out line t)) (is_empty messages) rest in
      let none : (from : ℕ) → is_news_at signals out line from ≡ true → ¬ IsOnWay plan signals line from t =
      λ from news way. on_way-one (λ m. ⊥) plan signals out line t (empty-each messages both.1) from news way in
      record {
        carried = λ _ from news way. absurd (none from news way);
        spoken = λ speaks. absurd (true≢false (sym (and_parts (signals.up (line_input line) t) (signals.esmc line t) speaks).1 ∙ off));
        silent = λ _ _. none-is (heard plan signals out line t) both.0;
        nothing_on_way = λ _ _. none;
      }

  settled-rest : (up esmc : Bool) → signals.up (line_input line) t ≡ up → signals.esmc line t ≡ esmc
      → IsLineSettled plan signals out t line → at_rest up (up && esmc) (heard plan signals out line t) messages ≡ true
  settled-rest false esmc down is settled = refl
  settled-rest true true up on settled =
      each-hears (heard plan signals out line t) messages (settled.spoken (both_true {s = signals.up (line_input line) t} {t = signals.esmc line t} up on))
      (on_way-each (HasHeard (heard plan signals out line t)) plan signals out line t (settled.carried up))
  settled-rest true false up off settled =
      both_true {s = is_none (heard plan signals out line t)} {t = is_empty messages}
      (is-none (heard plan signals out line t) (settled.silent up off))
      (each-empty messages (on_way-each (λ m. ⊥) plan signals out line t (settled.nothing_on_way up off)))

  -- what the line answers after its last call is what it would answer now
  pub line-answers : (state : LineState) (answer : Bool) → LineStands plan signals out line (suc t) state
      → ((past : List LineMoment) → Line.StandsFor state past →
      answer ≡ at_rest (unchanged past).up ((unchanged past).up && (unchanged past).esmc) (heard_at state.delay (line_until (suc t) past)) (on_way_at state.delay past))
      → ((past : List LineMoment) → Line.StandsFor state past → IsLineDue state.delay past state.due)
      → (answer ≡ true → IsLineSettled plan signals out t line) × (IsLineSettled plan signals out t line → answer ≡ true)
  unfolding heard
  line-answers state answer stands is due =
      let f : ℕ → LineMoment = line_moment_at signals out line in
      let past : List LineMoment = past_of f stands.called in
      let long : length past ≤ suc t = let later = stands.later in omega (arith, later, length-past_of f stands.called) in
      let same = line-until state.delay past state.due (suc t) (due past stands.stands) long stands.until_due in
      let now : unchanged past ≡ f t = sym (unchanged-after (suc t - length past) past) ∙ sym (ap unchanged stands.unchanged) in
      let messages_is : on_way_at state.delay past ≡ messages =
      sym same.on_way ∙ sym (ap (on_way_at state.delay) stands.unchanged) ∙ ap (λ d. on_way_at d (past_of f (suc t))) stands.delay in
      let heard_is : heard_at state.delay (line_until (suc t) past) ≡ heard plan signals out line t =
      sym (ap (heard_at state.delay) stands.unchanged) ∙ ap (λ d. heard_at d (past_of f (suc t))) stands.delay in
      let all : answer ≡ at_rest (f t).up ((f t).up && (f t).esmc) (heard plan signals out line t) messages =
      is past stands.stands
      ∙ ap (λ (m : LineMoment). at_rest m.up (m.up && m.esmc) (heard_at state.delay (line_until (suc t) past)) (on_way_at state.delay past)) now
      ∙ ap (λ level. at_rest (f t).up ((f t).up && (f t).esmc) level (on_way_at state.delay past)) heard_is
      ∙ ap (λ ms. at_rest (f t).up ((f t).up && (f t).esmc) (heard plan signals out line t) ms) messages_is in
      (λ yes_is. rest-settled (f t).up (f t).esmc refl refl (sym all ∙ yes_is), λ settled. all ∙ settled-rest (f t).up (f t).esmc refl refl settled)

-- the same by the number of milliseconds
pub line-answer : (plan : Topology) (signals : Signals) (out : Levels) (line n now : ℕ) (state : LineState) (answer : Bool) → n ≡ suc now
    → LineStands plan signals out line n state
    → ((past : List LineMoment) → Line.StandsFor state past →
    answer ≡ at_rest (unchanged past).up ((unchanged past).up && (unchanged past).esmc) (heard_at state.delay (line_until (suc now) past)) (on_way_at state.delay past))
    → ((past : List LineMoment) → Line.StandsFor state past → IsLineDue state.delay past state.due)
    → (IsTrue answer → IsLineSettled plan signals out (n - 1) line) × (IsLineSettled plan signals out (n - 1) line → IsTrue answer)
line-answer plan signals out line n now state answer after stands is due =
    let last : now ≡ n - 1 = omega (arith, after) in
    subst (λ t. (IsTrue answer → IsLineSettled plan signals out t line) × (IsLineSettled plan signals out t line → IsTrue answer)) last
    (line-answers plan signals out now line state answer (subst (λ k. LineStands plan signals out line k state) after stands) is due)
