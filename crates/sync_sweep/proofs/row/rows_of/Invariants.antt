use Rattle.std.proofs.Common.{◌≡◌, take}
use Rattle.std.specs.List.{AllZip, range_with_len}
use Rattle.sync_sweep.specs.private.Rows.{IsRowOf}
use Rattle.sync_sweep.proofs.row.rows_of.Given as goal

-- the worked behind have their rows, which are of the links in order
abbrev pub invariant-loop-link : goal.invariant-loop-link
invariant-loop-link l = record {
  rows : AllZip IsRowOf (take l.link l.worked) l.rows;
  links : AllZip (λ link row. row.link ≡ link) (range_with_len 0 l.link) l.rows;
}
