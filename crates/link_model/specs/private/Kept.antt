-- Beside specs/Kept.antt, under no public clause: what a line keeps, and what becomes of it.
use Rattle.std.specs.Prelude.{◌≤◌, ◌<◌, ◌+◌, ℕ, Bool, false, nat_eq, if◌then◌else◌, List, [], ◌∷◌, ◌++◌, map, Option, None, Some, IfSome, ⊤}
use Rattle.sync_text.specs.Each.{Each}
use Rattle.sync_ql.specs.declared.levels.Level.{Level}
use Rattle.sync_ql.specs.declared.limits.TheConstants.{LAST_MILLISECOND}
use Rattle.link_model.specs.declared.word.Word.{Word}
use Rattle.link_model.specs.Kept.{WordsKept, all_words}

-- the first word on its way is taken in where it arrives in a millisecond
abbrev pub taken_in : ℕ → ℕ → Option Word → List Word → WordsKept
taken_in delay now arrived [] = record { arrived = arrived; on_way = [] }
taken_in delay now arrived (w ∷ ws) =
    if nat_eq (w.sent + delay) now then record { arrived = Some w; on_way = ws }
    else record { arrived = arrived; on_way = w ∷ ws }

-- whether the first word on its way arrives in a millisecond
abbrev pub starts_in : ℕ → ℕ → List Word → Bool
starts_in delay now [] = false
starts_in delay now (w ∷ ws) = nat_eq (w.sent + delay) now

-- a word that is no longer said from now on
abbrev pub ended_at : ℕ → Option ℕ → Option ℕ
ended_at now None = Some now
ended_at now (Some u) = Some u

abbrev pub ended : ℕ → Word → Word
ended now w = record { sent = w.sent; level = w.level; until = ended_at now w.until }

abbrev pub ended_arrived : ℕ → Option Word → Option Word
ended_arrived now None = None
ended_arrived now (Some w) = Some (ended now w)

-- from now on another level is said, or none
abbrev pub new_word : ℕ → Option Level → List Word
new_word now None = []
new_word now (Some level) = record { sent = now; level = level; until = None } ∷ []

abbrev pub said_from : ℕ → Option Level → WordsKept → WordsKept
said_from now level k = record {
  arrived = ended_arrived now k.arrived;
  on_way = map (ended now) k.on_way ++ new_word now level;
}

-- a word that was said first before n, and whose end is no later than the last millisecond before n
pub record IsWord (n : ℕ) (w : Word) : Type 0 where
  pub before : w.sent < n
  pub longer : IfSome w.until (λ u. w.sent < u)
  pub over : IfSome w.until (λ u. u < n)

-- a word has ended when another begins
abbrev pub EndsBy : Option ℕ → ℕ → Type 0
EndsBy None s = ⊥
EndsBy (Some u) s = u ≤ s

abbrev pub IsChain : List Word → Type 0
IsChain [] = ⊤
IsChain (w ∷ ws) = Each (λ v. EndsBy w.until v.sent) ws × IsChain ws

-- the words of a line to which n milliseconds were told: one after the other, and those that have
-- arrived in this time are taken in
pub record IsOrdered (delay n : ℕ) (k : WordsKept) : Type 0 where
  pub words : Each (IsWord n) (all_words k)
  pub chain : IsChain (all_words k)
  pub came : IfSome k.arrived (λ w. w.sent + delay < n)
  pub coming : Each (λ w. n ≤ w.sent + delay) k.on_way

-- the times of a word are no later than the last millisecond
pub record IsInRange (w : Word) : Type 0 where
  pub sent : w.sent ≤ LAST_MILLISECOND
  pub until : IfSome w.until (λ u. u ≤ LAST_MILLISECOND)
