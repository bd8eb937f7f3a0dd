-- Private to this crate: what the element is told in a millisecond.
use Rattle.std.specs.Prelude.{ℕ, ◌+◌, nat_eq, if◌then◌else◌, List, [], ◌∷◌, ◌++◌, position, Option, None, Some, option_map}
use Rattle.std.specs.List.{filter_map}
use Rattle.sync_ql.specs.declared.rules.Cmd.TheVariants as command
use Rattle.sync_ql.specs.declared.rules.InputEvent.{InputEvent}
use Rattle.sync_ql.specs.declared.rules.InputEvent.TheVariants as tell
use Rattle.sync_topo.specs.declared.input.InputId.{InputId}
use Rattle.sync_topo.specs.declared.event.What.{What}
use Rattle.sync_topo.specs.declared.event.What.TheVariants.{Lockout, Unlock, Forced, Manual, Clear, ClearWtr}
use Rattle.sync_topo.specs.Lines.{is_same_input}
use Rattle.node_file.specs.declared.row.NodeRow.{NodeRow}
use Rattle.node_replay.specs.declared.inputs.InputNow.{InputNow}
use Rattle.node_replay.specs.private.Keeping.{row_says}

-- what an element with these inputs is told at once of what happens: a command, or that a wait-to-restore time is
-- cleared
abbrev pub place_in : List InputId → InputId → Option ℕ
place_in inputs input = position (is_same_input input) inputs

abbrev pub word_of : List InputId → ℕ → What → Option InputEvent
word_of inputs element (Lockout input) = option_map (λ i. tell.Command (command.Lockout i)) (place_in inputs input)
word_of inputs element (Unlock input) = option_map (λ i. tell.Command (command.Unlock i)) (place_in inputs input)
word_of inputs element (Forced input) = option_map (λ i. tell.Command (command.Forced i)) (place_in inputs input)
word_of inputs element (Manual input) = option_map (λ i. tell.Command (command.Manual i)) (place_in inputs input)
word_of inputs element (ClearWtr input) = option_map tell.ClearWtr (place_in inputs input)
word_of inputs element (Clear other) = if nat_eq element other then Some (tell.Command command.Clear) else None
word_of inputs element what = None

abbrev pub row_word : List InputId → ℕ → NodeRow → Option InputEvent
row_word inputs element row = row_says (word_of inputs element) row

-- and of each input, from a place on, whether it is up, and its level
abbrev pub told_from : ℕ → List InputNow → List InputEvent
told_from place [] = []
told_from place (input ∷ inputs) = tell.Signal place input.up ∷ tell.Heard place input.level ∷ told_from (place + 1) inputs

abbrev pub all_told : List InputId → ℕ → List NodeRow → List InputNow → List InputEvent
all_told ids element here inputs = filter_map (row_word ids element) here ++ told_from 0 inputs
