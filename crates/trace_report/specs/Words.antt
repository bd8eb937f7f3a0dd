-- The rows of a report, and the words in them. This project's own; the terms are those of G.781.
use Rattle.std.specs.Prelude.{ℕ, List, ◌++◌, codes}
use Rattle.std.specs.Fmt.{decimal}
use Rattle.sync_ql.specs.declared.rules.Cond.{Cond}
use Rattle.sync_ql.specs.declared.rules.Cond.TheVariants.{Good, HoldOff, Failed, Restoring}
use Rattle.sync_ql.specs.Level.{name_of}
use Rattle.sync_topo.specs.declared.input.InputId.{InputId}
use Rattle.sync_topo.specs.Topology.{Topology}
use Rattle.sync_topo.specs.Lines.{element_name, input_name}
use Rattle.shown_words.specs.Words.{state_word, choice_text}
use Rattle.event_sim.specs.declared.change.Change.{Change}

-- what an element has of what it chose, which ends its row: level,state
abbrev pub level_text : Change → List ℕ
level_text change = name_of change.level ++ codes "," ++ state_word change.state ++ codes "\n"

-- a change: t,element,mode,input,level,state
abbrev pub change_row : Topology → Change → List ℕ
change_row plan change =
    decimal change.at ++ codes "," ++ choice_text plan change.element change.mode change.input ++ codes ","
    ++ level_text change

-- the condition of an input, and how many milliseconds are left of it: 0 where it doesn't end by itself
abbrev pub condition_word : Cond → List ℕ
condition_word Good = codes "good"
condition_word (HoldOff left) = codes "holdoff"
condition_word Failed = codes "failed"
condition_word (Restoring left) = codes "restoring"

abbrev pub left_of : Cond → ℕ
left_of Good = 0
left_of (HoldOff left) = left
left_of Failed = 0
left_of (Restoring left) = left

-- an input in a condition: element,input,condition,left
abbrev pub condition_text : Topology → ℕ → InputId → Cond → List ℕ
condition_text plan element input condition =
    element_name plan element ++ codes "," ++ input_name plan input ++ codes "," ++ condition_word condition ++ codes ","
    ++ decimal (left_of condition)

-- the row of an input is that alone
abbrev pub input_row : Topology → ℕ → InputId → Cond → List ℕ
input_row plan element input condition = condition_text plan element input condition ++ codes "\n"
