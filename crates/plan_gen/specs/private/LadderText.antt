-- Beside specs/Ladder.antt, under no public clause: the ladder's text, row by row.
use Rattle.std.specs.Prelude.{codes}
use Rattle.toml.specs.Data.{Members}
use Rattle.sync_topo.specs.declared.link.Link.{Link}
use Rattle.plan_file.specs.Writing.{table_between}
use Rattle.plan_gen.specs.Ladder.{numbered}

-- the table of a link between the ladder's elements of its numbers
abbrev pub table_up : Link → Members
table_up link = table_between (numbered (codes "E") link.a) (numbered (codes "E") link.b) link
