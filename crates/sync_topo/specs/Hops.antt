-- Hops from line to line, ranks that rise over them, and cycles.
use Rattle.std.specs.Prelude.{ℕ, Bool, not, ◌&&◌, ◌||◌, ◌==◌, nat_lt, IsTrue, List}
use Rattle.std.specs.List.{list_all}
use Rattle.sync_topo.specs.Topology.{Topology}
use Rattle.sync_topo.specs.declared.input.InputId.{InputId}
use Rattle.sync_topo.specs.declared.input.InputId.TheVariants.{Line, Source}
use Rattle.sync_topo.specs.Lines.{sender_of, receiver_of, is_nominated, priority_of, source_priority, inputs_of}
use Rattle.sync_topo.specs.Bundles.{are_bundled}
use Rattle.sync_topo.specs.Ranks.{Rises, Circles}
use Rattle.sync_topo.specs.declared.returns.ReturnRule.{ReturnRule}
use Rattle.sync_topo.specs.declared.returns.ReturnRule.TheVariants.{Barred, Allowed, BarredFromLast}

-- the second line begins where the first ends, and leads back over the first one's bundle: what a line brings is not
-- offered there again. After G.781, do-not-use towards the selected reference.
abbrev pub goes_back : Topology → ℕ → ℕ → Bool
goes_back plan line back = receiver_of plan line == sender_of plan back && are_bundled plan line back

-- what the first line brings to an element may go on over the second
abbrev pub hops : Topology → ℕ → ℕ → Bool
hops plan line next =
    is_nominated plan line && is_nominated plan next && receiver_of plan line == sender_of plan next && not (are_bundled plan line next)

-- and where it may go back too: without quality levels nothing tells the other end not to use it. This project's own
abbrev pub hops_any : Topology → ℕ → ℕ → Bool
hops_any plan line next = is_nominated plan line && is_nominated plan next && receiver_of plan line == sender_of plan next

-- an input is preferred to a line: it has a smaller number. A line of the line's own bundle comes from where the line
-- comes from, and doesn't count
abbrev pub comes_first : Topology → ℕ → InputId → Bool
comes_first plan line (Line other) = are_bundled plan other.0 line || nat_lt (priority_of plan other.0) (priority_of plan line)
comes_first plan line (Source source) = nat_lt (source_priority plan source) (priority_of plan line)

-- all else that the line's element may take is preferred to the line. This project's own
abbrev pub is_last_resort : Topology → ℕ → Bool
is_last_resort plan line = list_all (comes_first plan line) (inputs_of plan (receiver_of plan line))

-- what the first line brings may turn what the second's sender passes on: over a hop, or over the way back where the
-- element might prefer the first line to what it has. This project's own
abbrev pub bears_on : Topology → ℕ → ℕ → Bool
bears_on plan line next = hops_any plan line next && not (are_bundled plan line next && is_last_resort plan line)

-- by the rule of returns
abbrev pub hops_by : ReturnRule → Topology → ℕ → ℕ → Bool
hops_by Barred plan line next = hops plan line next
hops_by Allowed plan line next = hops_any plan line next
hops_by BarredFromLast plan line next = bears_on plan line next

-- the first line hops to the second
abbrev pub HopsBy : ReturnRule → Topology → ℕ → ℕ → Type 0
HopsBy returns plan line next = IsTrue (hops_by returns plan line next)

abbrev pub HopsAny : Topology → ℕ → ℕ → Type 0
HopsAny plan line next = IsTrue (hops_any plan line next)

abbrev pub Hops : Topology → ℕ → ℕ → Type 0
Hops plan line next = IsTrue (hops plan line next)

-- ranks that rise over the hops of a plan, its walks and its cycles
abbrev pub IsRising : Topology → (ℕ → ℕ) → Type 0
IsRising plan rank = Rises (hops plan) rank

abbrev pub IsCycle : Topology → List ℕ → Type 0
IsCycle plan lines = Circles (hops plan) lines
