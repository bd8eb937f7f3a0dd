use Rattle.std.proofs.Common.{◌≡◌, [], ◌++◌, length, map}
use Rattle.std.specs.Vec.Iter.{into_iter_items, into_iter_len}
use Rattle.sync_topo.specs.private.Indexed.{IsIndexed}
use Rattle.sync_topo.specs.PlanRows.{first_broken}
use Rattle.sync_topo.specs.RowValues.{link_from}
use Rattle.sync_topo.specs.private.Steps.{rows_from, link_rules_after}
use Rattle.sync_topo.proofs.parts.PlanTables.add_links.Given as goal

abbrev pub invariant-loop-row : goal.invariant-loop-row
invariant-loop-row l =
    let rest = into_iter_items l.row-iterator in
    let rules = link_rules_after l.fn.self.option l.fn.self.elements.items in
    record {
      can_next : (goal.iterator-loop-row).can_next l.row-iterator;
      is_finite : (goal.iterator-loop-row).is_finite l.row-iterator;
      counted : into_iter_len l.row-iterator ≡ length rest;
      whole : l.yielded ++ rest ≡ l.fn.rows;
      indexed : IsIndexed l.self;
      option : l.self.option ≡ l.fn.self.option;
      elements : l.self.elements.items ≡ l.fn.self.elements.items;
      links : l.self.links.items ≡ map (link_from l.fn.self.elements.items) l.yielded;
      sources : l.self.sources.items ≡ [];
      so_far : first_broken (rows_from rules l.yielded rest) ≡ first_broken (rows_from rules [] l.fn.rows);
    }
