use Rattle.std.proofs.Common.{◌≡◌, ◌++◌, map, take}
use Rattle.std.specs.Prelude.{codes}
use Rattle.std.specs.List.{concat, range_with_len}
use Rattle.inspection.specs.Commands.{row_at}
use Rattle.inspection.specs.private.Tables.{AreTables, table_at}
use Rattle.inspection.proofs.commands.put_commands.Given as goal

-- the rows of the events so far, and the tables after them
abbrev pub invariant-loop-place : goal.invariant-loop-place
invariant-loop-place l = (l.text ≡ l.fn.text ++ codes "commands\n" ++ concat (map (row_at l.plan l.events (table_at l.plan l.events)) (range_with_len 0 l.place)))
    × AreTables l.plan (take l.place l.events) l.tables.items
