-- Private: how the code's table is seen, which only clauses of private functions cite.
use Rattle.std.specs.Prelude.{List, map}
use Rattle.sync_ql.specs.Table.{Row, row}
use Rattle.sync_ql.specs.declared.rows.Row as declared

-- the code's rows as rows of the table
abbrev pub seen : declared.Row → Row
seen r = row r.name.now r.code r.enhanced

abbrev pub rows_seen : List declared.Row → List Row
rows_seen rows = map seen rows
