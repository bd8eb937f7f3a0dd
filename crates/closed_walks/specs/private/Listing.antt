-- Private to this crate: listing the loops, line by line.
use Rattle.std.specs.Prelude.{◌≡◌, ◌<◌, ◌⊎◌, ℕ, Bool, true, List, [], ◌∷◌, ◌++◌}
use Rattle.sync_text.specs.Each.{Each}
use Rattle.sync_topo.specs.declared.input.LineId.{LineId}
use Rattle.sync_topo.specs.Topology.{Topology}
use Rattle.sync_topo.specs.Lines.{sender_of, receiver_of}
use Rattle.net_rules.specs.GoingBack.{line_before, ComesBack}
use Rattle.net_rules.specs.Walks.{Taken, IsTaken}
use Rattle.closed_walks.specs.Following.{is_met}
use Rattle.closed_walks.specs.Loops.{first_line, IsLoop, IsListed, AreInOrder}

-- the lines' numbers, from the last to the first
abbrev pub backwards : List LineId → List ℕ
backwards [] = []
backwards (line ∷ lines) = backwards lines ++ line.0 ∷ []

-- the senders of so many lines before a line are marked, and no other
pub record AreMarked (plan : Topology) (taken : Taken) (line k : ℕ) (before after : List Bool) : Type 0 where
  pub still : (element : ℕ) → is_met before element ≡ true → is_met after element ≡ true
  pub marked : (i : ℕ) → i < k → is_met after (sender_of plan (line_before plan taken i line)) ≡ true
  pub others : (element : ℕ) → is_met after element ≡ true →
      (is_met before element ≡ true) ⊎ ((i : ℕ) × (i < k) × (element ≡ sender_of plan (line_before plan taken i line)))

-- a marked element is on a loop that was listed from a lower line
pub record IsOfListed (plan : Topology) (taken : Taken) (number element : ℕ) : Type 0 where
  pub first : ℕ
  pub count : ℕ
  pub steps : ℕ
  pub lower : first < number
  pub takes : IsTaken plan taken first
  pub comes : ComesBack plan taken count first
  pub within : steps < count
  pub is : element ≡ sender_of plan (line_before plan taken steps first)

-- all loops that begin below a number are listed, and their elements marked
pub record AreListed (plan : Topology) (taken : Taken) (number : ℕ) (listed : List Bool) (walks : List (List ℕ)) : Type 0 where
  pub each : Each (IsLoop plan taken) walks
  pub all : (lines : List ℕ) → IsLoop plan taken lines → first_line lines < number → IsListed lines walks
  pub below : Each (λ walk. first_line walk < number) walks
  pub in_order : AreInOrder walks
  pub behind : (line count : ℕ) → line < number → IsTaken plan taken line → ComesBack plan taken count line → is_met listed (receiver_of plan line) ≡ true
  pub round : (line count : ℕ) → IsTaken plan taken line → ComesBack plan taken count line → is_met listed (receiver_of plan line) ≡ true →
      is_met listed (sender_of plan line) ≡ true
  pub from : (element : ℕ) → is_met listed element ≡ true → IsOfListed plan taken number element
