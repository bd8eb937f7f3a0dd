use Rattle.std.proofs.Common.{◌≡◌, ◌+◌, ◌++◌, length, map}
use Rattle.std.specs.Vec.Iter.{into_iter_items, into_iter_len}
use Rattle.toml.specs.View.{view}
use Rattle.sync_topo.specs.declared.place.Section.TheVariants.{Elements}
use Rattle.plan_rows.specs.declared.version.Version.TheVariants.{One}
use Rattle.plan_rows.specs.Rows.{element_row}
use Rattle.plan_rows.specs.private.Values.{rows_from}
use Rattle.plan_rows.proofs.RowsSoFar.{with_front}
use Rattle.plan_rows.proofs.rows.element_rows.Given as goal

-- the rows so far and those of the entries left are those of all entries
abbrev pub invariant-loop-entry : goal.invariant-loop-entry
invariant-loop-entry l =
    let rest = into_iter_items l.entry-iterator in
    record {
      can_next : (goal.iterator-loop-entry).can_next l.entry-iterator;
      is_finite : (goal.iterator-loop-entry).is_finite l.entry-iterator;
      counted : into_iter_len l.entry-iterator ≡ length rest;
      number : l.number ≡ length l.yielded + 1;
      whole : l.yielded ++ rest ≡ l.fn.entries.items;
      so_far : with_front l.rows (rows_from One element_row Elements l.number (map view rest)) ≡ rows_from One element_row Elements 1 (map view l.fn.entries.items);
    }
