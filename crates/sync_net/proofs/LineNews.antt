-- What happens on a line in the millisecond in which it is due.
use Rattle.std.proofs.Common.{◌≡◌, ◌≤◌, ◌<◌, ◌⊎◌, inl, inr, ℕ, zero, suc, ◌+◌, Bool, true, false, ◌&&◌, ◌||◌, List, [], ◌∷◌, filter, drop, length, slice_index_or, Option, None, Some, is_some, is_none, refl, ap, sym, subst, ◌∙◌, arith}
use Rattle.std.specs.Prelude.{nat_lt, nat_le, if◌then◌else◌}
use Rattle.std.proofs.lemmas.Bool.{and_from, or_cases}
use Rattle.std.proofs.lemmas.List.Folds.{Any-from_list_any}
use Rattle.sync_ql.specs.declared.levels.Level.{Level}
use Rattle.sync_ql.specs.Pasts.{past_of}
use Rattle.sync_ql.specs.FirstChange.{IsFirstChange}
use Rattle.sync_ql.specs.Messages.{LineMoment, Message, said, is_same_level, is_news, arrives, came, heard_at, on_way_at, news_since_down, line_until, IsSameOnLine, has_arrived, is_lost, IsLineDue}
use Rattle.sync_ql.proofs.Delivered.{length-past_of, heard_at-head}
use Rattle.link_model.specs.LineState.{LineState}
use Rattle.link_model.proofs.Times.{is_below, is_within}
use Rattle.link_model.proofs.News.{all-arrive, all-news-later}
use Rattle.link_model.proofs.Standing.{length-until}
use Rattle.sync_topo.specs.Topology.{Topology}
use Rattle.sync_topo.specs.Lines.{line_input, delay_of}
use Rattle.net_rules.specs.Signals.{Signals}
use Rattle.net_rules.specs.History.{Levels, line_moment_at, heard}
use Rattle.net_rules.specs.Activity.{news_arrives}
use Rattle.sync_net.specs.Standing.{LineStands}
use Rattle.sync_net.specs.Sound.{IsSoundLine}
use Rattle.sync_net.proofs.QuietObjects.{line-more, line-due}
use Rattle.sync_net.proofs.QuietGap.{heard-then}

-- what stands in a list that a test has passed passes it
filter-passes : {A : Type 0} (test : A → Bool) (xs : List A) (k : ℕ) (d : A) → k < length (filter test xs) → test (slice_index_or (filter test xs) k d) ≡ true
filter-passes test [] k d within = absurd (omega (arith, within))
filter-passes {A = A} test (x ∷ xs) k d within = by (test x) refl k within (filter-passes test xs)
  where
    by : (b : Bool) → test x ≡ b → (k : ℕ) → k < length (if b then x ∷ filter test xs else filter test xs)
        → ((k : ℕ) (d : A) → k < length (filter test xs) → test (slice_index_or (filter test xs) k d) ≡ true)
        → test (slice_index_or (if b then x ∷ filter test xs else filter test xs) k d) ≡ true
    by true is zero within rest = is
    by true is (suc k) within rest = rest k d (omega (arith, within))
    by false is k within rest = rest k d within

-- a message on its way arrives later than all of the past
on_way-late : (delay : ℕ) (past : List LineMoment) (k : ℕ) (d : Message) → k < length (on_way_at delay past)
    → length past ≤ (slice_index_or (on_way_at delay past) k d).sent + delay
unfolding on_way_at
on_way-late delay past k d within =
    is_within (length past) ((slice_index_or (on_way_at delay past) k d).sent + delay)
    (filter-passes (λ message. nat_le (length past) (message.sent + delay)) (news_since_down past) k d within)

-- what came arrived
arrives_if : (b : Bool) (level : Option Level) (here : Level) → (if b then level else None) ≡ Some here → b ≡ true
arrives_if true level here is = refl
arrives_if false level here is = cc

-- so what came is a message that arrives
arrives-came : (delay : ℕ) (past : List LineMoment) (level : Level) → came delay past ≡ Some level → arrives delay past ≡ true
unfolding came
arrives-came delay past level is = arrives_if (arrives delay past) (said (drop delay past)) level is

-- a message on its way that arrives in a millisecond, if nothing is told, is news
news-then : (delay : ℕ) (past : List LineMoment) (now : ℕ) (message : Message) (k : ℕ) → k < length (on_way_at delay past)
    → slice_index_or (on_way_at delay past) k message ≡ message → message.sent + delay ≡ now
    → (arrives delay (line_until (suc now) past) && is_news (drop delay (line_until (suc now) past))) ≡ true
news-then delay past now message k within is at =
    let at_then : suc ((slice_index_or (on_way_at delay past) k message).sent + delay) ≡ suc now = ap (λ m. suc (m.sent + delay)) is ∙ ap suc at in
    subst (λ n. (arrives delay (line_until n past) && is_news (drop delay (line_until n past))) ≡ true) at_then
    (and_from (arrives delay (line_until (suc ((slice_index_or (on_way_at delay past) k message).sent + delay)) past))
    (is_news (drop delay (line_until (suc ((slice_index_or (on_way_at delay past) k message).sent + delay)) past)))
    (arrives-came delay (line_until (suc ((slice_index_or (on_way_at delay past) k message).sent + delay)) past) (slice_index_or (on_way_at delay past) k message).level
    (all-arrive delay past k message within))
    (all-news-later delay past k message within))

-- what has arrived by the due time, and not before, arrives in it
news-due : (delay : ℕ) (past : List LineMoment) (now : ℕ) → length past ≤ now → IsSameOnLine delay past (line_until now past)
    → has_arrived delay (suc now) past ≡ true
    → (arrives delay (line_until (suc now) past) && is_news (drop delay (line_until (suc now) past))) ≡ true
news-due delay past now early same has =
    let found = Any-from_list_any (λ message. nat_lt (message.sent + delay) (suc now)) (on_way_at delay past) has in
    let before = is_below (found.1.sent + delay) (suc now) found.4 in
    let within : found.0 < length (on_way_at delay (line_until now past)) = subst (λ messages. found.0 < length messages) (sym same.on_way) found.2 in
    let late = on_way-late delay (line_until now past) found.0 found.1 within in
    let is : slice_index_or (on_way_at delay (line_until now past)) found.0 found.1 ≡ found.1 = ap (λ messages. slice_index_or messages found.0 found.1) same.on_way ∙ found.3 in
    let sent = ap (λ m. m.sent) is in
    news-then delay past now found.1 found.0 found.2 found.3 (omega (arith, before, late, sent, length-until now past early))

-- what arrives doesn't depend on what is said in the same millisecond
news-head : (delay : ℕ) (a b : LineMoment) (before : List LineMoment) → 1 ≤ delay → a.up ≡ b.up
    → (arrives delay (a ∷ before) && is_news (drop delay (a ∷ before))) ≡ (arrives delay (b ∷ before) && is_news (drop delay (b ∷ before)))
news-head zero a b before low up = absurd (omega (arith, low))
news-head (suc delay) a b before low up = rw up refl

-- where a level was heard and none is, they differ
lost-other : (now was : Option Level) → (is_some was && is_none now) ≡ true → is_same_level now was ≡ false
lost-other None None lost = cc
lost-other (Some level) None lost = cc
lost-other None (Some level) lost = refl
lost-other (Some level) (Some other) lost = cc

-- on a line that is due, and stays up or down, news arrives, or another level is heard
pub line-busy : (plan : Topology) (signals : Signals) (out : Levels) (line t : ℕ) (state : LineState) → 1 ≤ delay_of plan line
    → IsSoundLine plan line state → LineStands plan signals out line (suc t) state → state.due ≡ Some (suc t)
    → signals.up (line_input line) (suc t) ≡ signals.up (line_input line) t
    → (news_arrives plan signals out line (suc t) ≡ true)
    ⊎ (is_same_level (heard plan signals out line (suc t)) (heard plan signals out line t) ≡ false)
line-busy plan signals out line t state low sound is at up = elim (or_cases (has_arrived delay (suc (suc t)) past) (is_lost delay (suc (suc t)) past) changed) [
  | inl arrived ↦ inl (
      news-head delay (moments (suc t)) (moments t) (past_of moments (suc t)) low up
      ∙ ap (λ p. arrives delay p && is_news (drop delay p)) (line-more plan signals out line t state is)
      ∙ news-due delay past (suc t) (omega (arith, long, later)) (first.same_before (suc t) (omega (arith, long, later)) (omega arith)) arrived
      )
  | inr lost ↦ inr (lost-other (heard plan signals out line (suc t)) (heard plan signals out line t)
      (ap (λ level. is_some level && is_none (heard plan signals out line (suc t))) was ∙ ap (λ level. is_some (heard_at delay past) && is_none level) now ∙ lost))
]
  where
    delay : ℕ
    delay = delay_of plan line

    moments : ℕ → LineMoment
    moments = line_moment_at signals out line

    past : List LineMoment
    past = past_of moments is.called

    long : length past ≡ is.called
    long = length-past_of moments is.called

    later : is.called ≤ suc t
    later = is.later

    first : IsFirstChange (λ n. IsSameOnLine delay past (line_until n past)) (λ n. (has_arrived delay n past || is_lost delay n past) ≡ true) (length past) (suc t)
    first = subst (IsLineDue delay past) at (line-due plan signals out line (suc t) state sound is)

    changed : (has_arrived delay (suc (suc t)) past || is_lost delay (suc (suc t)) past) ≡ true
    changed = let one : suc t + 1 ≡ suc (suc t) = omega arith in subst (λ n. (has_arrived delay n past || is_lost delay n past) ≡ true) one first.changed

    was : heard plan signals out line t ≡ heard_at delay past
    was = heard-then plan signals out line t
        ∙ ap (heard_at delay) is.unchanged
        ∙ (first.same_before (suc t) (omega (arith, long, later)) (omega arith)).heard

    now : heard plan signals out line (suc t) ≡ heard_at delay (line_until (suc (suc t)) past)
    now = heard-then plan signals out line (suc t)
        ∙ heard_at-head delay (moments (suc t)) (moments t) (past_of moments (suc t)) low up
        ∙ ap (heard_at delay) (line-more plan signals out line t state is)
