-- A word, which a line says from one millisecond on until another.
use Rattle.std.specs.Prelude.{ℕ, ◌-◌, ◌%◌, Bool, true, ◌&&◌, nat_lt, nat_le, if◌then◌else◌, List, [], ◌∷◌, Option, None, Some}
use Rattle.std.specs.Option.{option_or}
use Rattle.sync_ql.specs.declared.levels.Level.{Level}
use Rattle.sync_ql.specs.Messages.{Message, second}
use Rattle.link_model.specs.declared.word.Word.{Word}

-- whether a millisecond is before an end, if there is one
abbrev pub is_before : ℕ → Option ℕ → Bool
is_before s None = true
is_before s (Some u) = nat_lt s u

-- whether a word is said in a millisecond, and the level that it says
abbrev pub says : ℕ → Option ℕ → ℕ → Bool
says sent until s = nat_le sent s && is_before s until

abbrev pub said_by : Word → ℕ → Option Level
said_by w s = if says w.sent w.until s then Some w.level else None

-- what words say, of which at most one says something at a time
abbrev pub spoken : List Word → ℕ → Option Level
spoken [] s = None
spoken (w ∷ ws) s = option_or (said_by w s) (spoken ws s)

-- the smaller of an end, if there is one, and a millisecond
abbrev pub end_before : Option ℕ → ℕ → ℕ
end_before None n = n
end_before (Some u) n = if nat_lt u n then u else n

-- the last whole second before a millisecond
abbrev pub second_before : ℕ → ℕ
second_before n = n - 1 - (n - 1) % second

-- of the milliseconds before n in which a word was said, the last in which a message was sent: its
-- first, or a whole second
abbrev pub last_of : ℕ → Option ℕ → ℕ → ℕ
last_of sent until n =
    if nat_lt (second_before (end_before until n)) sent then sent else second_before (end_before until n)

abbrev pub last_sent : Word → ℕ → ℕ
last_sent w n = last_of w.sent w.until n

-- the message with which a word begins
abbrev pub message_of : Word → Message
message_of w = record { sent = w.sent; level = w.level }
