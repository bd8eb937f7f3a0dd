-- The levels that a line carries: what it says, which messages go out, what arrives, and what is heard.
-- A past is the list of a line's milliseconds from 0 on, the newest first; before 0 it is empty.
-- After G.8264, event messages at a change, information messages each second, and a level that is lost
-- after five seconds without a message. Whole milliseconds, one delay a line, and that information
-- messages go out in the milliseconds that 1000 divides, are this project's own.
use Rattle.std.specs.Prelude.{◌≡◌, ℕ, zero, suc, ◌+◌, ◌-◌, ◌%◌, Bool, true, false, not, ◌&&◌, ◌||◌, nat_eq, nat_lt, nat_le, if◌then◌else◌, List, [], ◌∷◌, ◌++◌, length, take, drop, filter, Option, None, Some, is_some, is_none}
use Rattle.std.specs.List.{list_all, list_any}
use Rattle.sync_ql.specs.declared.levels.NetOption.{NetOption}
use Rattle.sync_ql.specs.declared.levels.NetOption.TheVariants.{I, II}
use Rattle.sync_ql.specs.declared.levels.Level.{Level}
use Rattle.sync_ql.specs.FirstChange.{IsNextChange}
use Rattle.sync_ql.specs.Pasts.{first_within}

-- information messages go out in milliseconds that this divides
abbrev pub second : ℕ
second = 1000

-- for so many milliseconds a level is heard after the message that brought it
abbrev pub hearing_time : ℕ
hearing_time = 5000

-- one millisecond of a line: whether it is up at its end, whether its ESMC is on, and the level that
-- its sender gives it; None before the first
pub record LineMoment : Type 0 where
  pub up : Bool
  pub esmc : Bool
  pub level : Option Level

-- the level that a line says: while it is up and its ESMC is on, that of its sender
abbrev pub said_in : LineMoment → Option Level
said_in now = if now.up && now.esmc then now.level else None

-- what it says now; before 0 nothing
abbrev pub said : List LineMoment → Option Level
said [] = None
said (now ∷ before) = said_in now

-- whether two network options, and two levels or none, are the same
abbrev pub is_same_option : NetOption → NetOption → Bool
is_same_option I I = true
is_same_option II II = true
is_same_option a b = false

abbrev pub is_same_level : Option Level → Option Level → Bool
is_same_level None None = true
is_same_level (Some a) (Some b) = is_same_option a.option b.option && nat_eq a.place b.place
is_same_level a b = false

-- news: the line says a level, and a millisecond before it said none or another
abbrev pub is_news : List LineMoment → Bool
is_news [] = false
is_news (now ∷ before) = is_some (said_in now) && not (is_same_level (said_in now) (said before))

-- a message goes out with news, and each second while the line says a level
abbrev pub is_sent : List LineMoment → Bool
is_sent [] = false
is_sent (now ∷ before) =
    is_some (said_in now) && (is_news (now ∷ before) || nat_eq (length before % second) 0)

abbrev pub was_up : List LineMoment → Bool
was_up past = list_all (λ now. now.up) past

-- a message arrives that went out a delay ago, if the line was up ever since; else it is lost
abbrev pub arrives : ℕ → List LineMoment → Bool
arrives delay past = is_sent (drop delay past) && was_up (take (suc delay) past)

-- the level of the message that arrives
unfoldable pub came : ℕ → List LineMoment → Option Level
came delay past = if arrives delay past then said (drop delay past) else None

-- what arrives in each millisecond
abbrev pub arrivals : ℕ → List LineMoment → List (Option Level)
arrivals delay [] = []
arrivals delay (now ∷ before) = came delay (now ∷ before) ∷ arrivals delay before

-- the level that is heard: that of the last message that arrived, for five seconds
unfoldable pub heard_at : ℕ → List LineMoment → Option Level
heard_at delay past = first_within hearing_time (arrivals delay past)

-- the level that went out, or would have if each millisecond sent a message, a delay ago, where the
-- line was up ever since
unfoldable pub delivered : ℕ → List LineMoment → Option Level
delivered delay past = if was_up (take (suc delay) past) then said (drop delay past) else None

-- a message, and the millisecond in which it went out
pub record Message : Type 0 where
  pub sent : ℕ
  pub level : Level

abbrev pub message_in : ℕ → Option Level → Bool → List Message
message_in sent (Some level) true = record { sent = sent; level = level } ∷ []
message_in sent level news = []

-- the messages that went out with news since the line was down last, the oldest first
abbrev pub news_since_down : List LineMoment → List Message
news_since_down [] = []
news_since_down (now ∷ before) =
    if now.up then news_since_down before ++ message_in (length before) (said_in now) (is_news (now ∷ before))
    else []

-- those of them that arrive later: the messages on their way, without those that only repeat
unfoldable pub on_way_at : ℕ → List LineMoment → List Message
on_way_at delay past =
    filter (λ message. nat_le (length past) (message.sent + delay)) (news_since_down past)

-- one more millisecond in which nothing is told of the line; before 0 it is up, its ESMC is on, and it
-- has no level
abbrev pub unchanged : List LineMoment → LineMoment
unchanged [] = record { up = true; esmc = true; level = None }
unchanged (now ∷ before) = now

-- k more of them, and the past made n milliseconds long by them
abbrev pub after_unchanged : ℕ → List LineMoment → List LineMoment
after_unchanged zero past = past
after_unchanged (suc k) past = unchanged past ∷ after_unchanged k past

abbrev pub line_until : ℕ → List LineMoment → List LineMoment
line_until n past = after_unchanged (n - length past) past

-- what is on its way and what is heard are the same after both pasts
pub record IsSameOnLine (delay : ℕ) (past past_then : List LineMoment) : Type 0 where
  pub on_way : on_way_at delay past_then ≡ on_way_at delay past
  pub heard : heard_at delay past_then ≡ heard_at delay past

-- a message on its way has arrived in the first n milliseconds, or the level that was heard is lost
abbrev pub has_arrived : ℕ → ℕ → List LineMoment → Bool
has_arrived delay n past = list_any (λ message. nat_lt (message.sent + delay) n) (on_way_at delay past)

abbrev pub is_lost : ℕ → ℕ → List LineMoment → Bool
is_lost delay n past =
    is_some (heard_at delay past) && is_none (heard_at delay (line_until n past))

-- the first later millisecond in which a message with news arrives, or the level heard is lost, if
-- nothing is told of the line, or None where neither comes
abbrev pub IsLineDue : ℕ → List LineMoment → Option ℕ → Type 0
IsLineDue delay past = IsNextChange
    (λ n. IsSameOnLine delay past (line_until n past))
    (λ n. (has_arrived delay n past || is_lost delay n past) ≡ true)
    (length past)
