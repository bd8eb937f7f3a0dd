use Rattle.node_file.proofs.ReadOn.{last_given, last_refused}
use Rattle.node_file.proofs.lines.NodeLines.last_row.Goals as goal

pub returns-in-Ok-clause-whole : goal.returns-in-Ok-clause-whole
returns-in-Ok-clause-whole c bytes rows was = last_given c.args.self.now bytes rows c.in-Ok.row was c.in-Ok.ensures.sound c.in-Ok.ensures.row

pub returns-in-Err-clause-refused : goal.returns-in-Err-clause-refused
returns-in-Err-clause-refused c bytes rows was = last_refused c.args.self.now bytes rows c.in-Err.error was c.in-Err.ensures.refused
