use Rattle.node_file.proofs.ReadOn.{read_end, refused_end}
use Rattle.node_file.proofs.lines.NodeLines.end.Goals as goal

pub returns-in-Ok-clause-read : goal.returns-in-Ok-clause-read
returns-in-Ok-clause-read c bytes rows was =
    read_end c.args.self.now c.begin_next.new.self bytes rows c.in-Ok.row was c.in-Ok.ensures.sound c.in-Ok.ensures.row c.in-Ok.ensures.blank c.in-Ok.ensures.time
    c.begin_next.ensures.plan c.begin_next.ensures.element c.begin_next.ensures.begun c.begin_next.ensures.ended c.begin_next.ensures.before

pub returns-in-Err-clause-refused : goal.returns-in-Err-clause-refused
returns-in-Err-clause-refused c bytes rows was = refused_end c.args.self.now bytes rows c.in-Err.error was c.in-Err.ensures.refused
