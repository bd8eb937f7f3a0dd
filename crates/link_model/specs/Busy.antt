-- What happens in the millisecond in which something is due.
use Rattle.std.specs.Prelude.{◌≡◌, ◌⊎◌, ℕ, suc, Bool, true, ◌&&◌, List, drop}
use Rattle.sync_ql.specs.Messages.{LineMoment, is_news, arrives, line_until, is_lost}

-- a message with news arrives in the newest millisecond
abbrev pub news_arrives : ℕ → List LineMoment → Bool
news_arrives delay past = is_news (drop delay past) && arrives delay past

-- if nothing is told of the line, a message with news arrives in a millisecond, or the level that
-- was heard has been lost by then
abbrev pub IsBusyAt : ℕ → List LineMoment → ℕ → Type 0
IsBusyAt delay past now =
    (news_arrives delay (line_until (suc now) past) ≡ true) ⊎ (is_lost delay (suc now) past ≡ true)
