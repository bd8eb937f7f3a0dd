-- What a line has to do with the milliseconds that were.
use Rattle.std.specs.Prelude.{◌≡◌, ◌≤◌, ◌<◌, ℕ, suc, ◌+◌, ◌*◌, true, ◌&&◌, List, [], ◌∷◌, length, map, ⊤}
use Rattle.sync_text.specs.Each.{Each}
use Rattle.sync_ql.specs.declared.levels.NetOption.{NetOption}
use Rattle.sync_ql.specs.Pasts.{first_within}
use Rattle.sync_ql.specs.Messages.{LineMoment, said_in, said, arrivals, delivered, on_way_at, unchanged, after_unchanged}
use Rattle.link_model.specs.Spoken.{spoken, message_of}
use Rattle.link_model.specs.Kept.{Kept, all_words, heard_of}
use Rattle.link_model.specs.LineState.{LineState}

-- Private: what is kept is of a past. `delivers` is over all milliseconds to come, if nothing is told
pub record IsOfPast (delay : ℕ) (k : Kept) (past : List LineMoment) : Type 0 where
  pub now : k.now ≡ unchanged past
  pub on_way : map message_of k.words.on_way ≡ on_way_at delay past
  pub delivers : (j s : ℕ) → length past + j ≡ suc (s + delay) → delivered delay (after_unchanged j past) ≡ spoken (all_words k.words) s
  pub heard : (window : ℕ) → first_within window (arrivals delay past) ≡ heard_of delay k.words.arrived window (length past)

-- Private: in its last millisecond the line says what it said before, if it is up; or if it speaks
abbrev pub SaysTheSameIfUp : List LineMoment → Type 0
SaysTheSameIfUp [] = ⊤
SaysTheSameIfUp (now ∷ before) = now.up ≡ true → said_in now ≡ said before

abbrev pub SaysTheSame : List LineMoment → Type 0
SaysTheSame [] = ⊤
SaysTheSame (now ∷ before) = (now.up && now.esmc) ≡ true → said_in now ≡ said before

-- Private: the line has come to the end of a past, and all that it keeps is of that past
pub record IsAfter (line : LineState) (past : List LineMoment) : Type 0 where
  pub turn_low : 4 * length past ≤ line.turn + 3
  pub turn_high : line.turn ≤ 4 * length past
  pub before_esmc : line.turn + 2 < 4 * length past → SaysTheSameIfUp past
  pub before_say : line.turn < 4 * length past → SaysTheSame past
  pub kept : IsOfPast line.delay line.kept past

-- the line stands for a past. What that says of what it keeps is known to this crate alone: others take
-- it from one call to the next, and never look into it
unfoldable pub StandsFor : LineState → List LineMoment → Type 0
StandsFor line past = IsAfter line past

-- every level that the line keeps is of a network option
unfoldable pub AreOfOption : NetOption → LineState → Type 0
AreOfOption option line = Each (λ w. w.level.option ≡ option) (all_words line.kept.words)
