-- How a table of candidates is seen, which is as their list.
use Rattle.std.specs.Prelude.{List}
use Rattle.sync_ql.specs.declared.rules.Candidate.{Candidate}
use Rattle.selector.specs.declared.table.Table.TheInside.{Inside}

abbrev pub candidates_in : Inside → List Candidate
candidates_in t = t.inputs.items
