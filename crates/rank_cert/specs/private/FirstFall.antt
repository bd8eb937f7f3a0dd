-- How the first fall is found: what only private clauses cite.
use Rattle.std.specs.Prelude.{◌≡◌, ℕ, ◌<◌, ◌≤◌, ◌⊎◌, Bool, true, ◌&&◌, nat_le, nat_lt, if◌then◌else◌, List, [], ◌∷◌, Option, Some, None, find}
use Rattle.std.specs.List.{range_with_len}
use Rattle.std.specs.Option.{option_or}
use Rattle.sync_topo.specs.Topology.{Topology}
use Rattle.sync_topo.specs.Lines.{line_count}
use Rattle.sync_topo.specs.Hops.{hops_by}
use Rattle.sync_topo.specs.declared.returns.ReturnRule.{ReturnRule}
use Rattle.sync_topo.specs.declared.input.LineId.{LineId}
use Rattle.sync_topo.specs.declared.input.InputId.{InputId}
use Rattle.sync_topo.specs.declared.input.InputId.TheVariants.{Line, Source}
use Rattle.rank_cert.specs.Ranks.{Ranks, rank_of}

-- the rank doesn't rise over a hop
abbrev pub falls : ReturnRule → Topology → Ranks → ℕ → ℕ → Bool
falls returns plan ranks line next = hops_by returns plan line next && nat_le (rank_of ranks next) (rank_of ranks line)

-- the line of an input, where its hop to this line falls; a source has no line
abbrev pub fall_from : ReturnRule → Topology → Ranks → ℕ → InputId → Option ℕ
fall_from returns plan ranks next (Line line) = if falls returns plan ranks line.0 next then Some line.0 else None
fall_from returns plan ranks next (Source source) = None

-- the first such line of some inputs
abbrev pub first_among : ReturnRule → Topology → Ranks → ℕ → List InputId → Option ℕ
first_among returns plan ranks next [] = None
first_among returns plan ranks next (input ∷ inputs) = option_or (fall_from returns plan ranks next input) (first_among returns plan ranks next inputs)

-- the first line whose hop to this one falls
abbrev pub first_to : ReturnRule → Topology → Ranks → ℕ → Option ℕ
first_to returns plan ranks next = find (λ line. falls returns plan ranks line next) (range_with_len 0 (line_count plan))

-- the fall that comes first by its first line, of one to an earlier line and one to this line
abbrev pub earlier : Option (LineId × LineId) → Option LineId → LineId → Option (LineId × LineId)
earlier None None next = None
earlier None (Some line) next = Some (line, next)
earlier (Some fall) None next = Some fall
earlier (Some fall) (Some line) next = if nat_lt line.0 fall.0.0 then Some (line, next) else Some fall

-- the first fall to one of the lines below `bound`, if there is one
abbrev pub IsFirstBelow : ReturnRule → Topology → Ranks → ℕ → Option (LineId × LineId) → Type 0
IsFirstBelow returns plan ranks bound None = (line next : ℕ) → falls returns plan ranks line next ≡ true → bound ≤ next
IsFirstBelow returns plan ranks bound (Some fall) =
    (falls returns plan ranks fall.0.0 fall.1.0 ≡ true)
    × (fall.1.0 < bound)
    × ((line next : ℕ) → falls returns plan ranks line next ≡ true → next < bound → (fall.0.0 < line) ⊎ ((fall.0.0 ≡ line) × (fall.1.0 ≤ next)))
