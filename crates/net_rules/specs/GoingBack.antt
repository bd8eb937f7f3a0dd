-- Closed walks found by going back along what is taken: an element takes one input, so there is one line
-- before each. This project's own.
use Rattle.std.specs.Prelude.{◌≡◌, ◌≢◌, ◌<◌, ℕ, zero, suc, List, [], ◌∷◌, Option, None, Some}
use Rattle.sync_topo.specs.declared.input.InputId.{InputId}
use Rattle.sync_topo.specs.declared.input.InputId.TheVariants.{Line, Source}
use Rattle.sync_topo.specs.Topology.{Topology}
use Rattle.sync_topo.specs.Lines.{line_input, sender_of}
use Rattle.net_rules.specs.Walks.{Taken}

-- the line that is taken; of a source and of nothing the number is of no use
abbrev pub line_taken : Option InputId → ℕ
line_taken None = 0
line_taken (Some (Line line)) = line.0
line_taken (Some (Source source)) = 0

-- the line so many times before a line: each time the one that the sender takes
abbrev pub line_before : Topology → Taken → ℕ → ℕ → ℕ
line_before plan taken zero line = line
line_before plan taken (suc n) line = line_taken (taken (sender_of plan (line_before plan taken n line)))

-- the n lines before a line, the farthest first
abbrev pub lines_before : Topology → Taken → ℕ → ℕ → List ℕ
lines_before plan taken zero line = []
lines_before plan taken (suc n) line = line_before plan taken (suc n) line ∷ lines_before plan taken n line

-- going back n times from a line leads to it for the first time, over lines alone
pub record ComesBack (plan : Topology) (taken : Taken) (n line : ℕ) : Type 0 where
  pub some : 0 < n
  pub takes : (k : ℕ) → k < n → taken (sender_of plan (line_before plan taken k line)) ≡ Some (line_input (line_before plan taken (suc k) line))
  pub round : line_before plan taken n line ≡ line
  pub first : (k : ℕ) → 0 < k → k < n → line_before plan taken k line ≢ line
