-- What a line keeps, and what becomes of it. No clause elsewhere looks into it.
use Rattle.std.specs.Prelude.{◌+◌, ◌-◌, ℕ, nat_lt, nat_le, if◌then◌else◌, List, [], ◌∷◌, Option, None, Some}
use Rattle.sync_ql.specs.declared.levels.Level.{Level}
use Rattle.sync_ql.specs.Messages.{LineMoment, hearing_time}
use Rattle.link_model.specs.declared.word.Word.{Word}
use Rattle.link_model.specs.declared.words.Words.{Words}
use Rattle.link_model.specs.Spoken.{end_before, last_sent}

-- the word that arrived last, and those on their way, the oldest first
pub record WordsKept : Type 0 where
  pub arrived : Option Word
  pub on_way : List Word

-- the last millisecond told, and the words
pub record Kept : Type 0 where
  pub now : LineMoment
  pub words : WordsKept

abbrev pub words_kept : Words → WordsKept
words_kept x = record { arrived = x.arrived; on_way = x.on_way.items }

abbrev pub words_of : Option Word → List Word → List Word
words_of None ws = ws
words_of (Some w) ws = w ∷ ws

abbrev pub all_words : WordsKept → List Word
all_words k = words_of k.arrived k.on_way

-- a word that was said no longer than until an end
abbrev pub cut_at : ℕ → Word → Word
cut_at end w = record { sent = w.sent; level = w.level; until = Some (end_before w.until end) }

abbrev pub cut_arrived : ℕ → Option Word → Option Word
cut_arrived end None = None
cut_arrived end (Some w) = Some (cut_at end w)

-- where a line is down: what is on its way is lost, and so is what was said in the last `delay`
-- milliseconds
abbrev pub lost : ℕ → ℕ → WordsKept → WordsKept
lost delay now k = record { arrived = cut_arrived (now - delay) k.arrived; on_way = [] }

-- the level of the word that arrived last, if its last message arrived in the last so many milliseconds
-- before n
abbrev pub heard_of : ℕ → Option Word → ℕ → ℕ → Option Level
heard_of delay None window n = None
heard_of delay (Some w) window n =
    if nat_le n (delay + last_sent w (n - delay) + window) then Some w.level else None

-- when the last message of a word is forgotten, once it is no longer said
abbrev pub lost_from : ℕ → Word → Option ℕ → Option ℕ
lost_from delay w None = None
lost_from delay w (Some u) = Some (delay + last_sent w u + hearing_time)

abbrev pub if_later : ℕ → Option ℕ → Option ℕ
if_later next None = None
if_later next (Some lost) = if nat_le next lost then Some lost else None

abbrev pub loss_of : ℕ → ℕ → Option Word → Option ℕ
loss_of delay next None = None
loss_of delay next (Some w) = if_later next (lost_from delay w w.until)

abbrev pub arrival_of : ℕ → List Word → Option ℕ
arrival_of delay [] = None
arrival_of delay (w ∷ ws) = Some (w.sent + delay)

abbrev pub first_of : Option ℕ → Option ℕ → Option ℕ
first_of None b = b
first_of (Some a) None = Some a
first_of (Some a) (Some b) = if nat_lt b a then Some b else Some a

-- the first millisecond from `next` on in which a word arrives or the level heard is lost
abbrev pub due_of : ℕ → ℕ → WordsKept → Option ℕ
due_of delay next k = first_of (arrival_of delay k.on_way) (loss_of delay next k.arrived)
