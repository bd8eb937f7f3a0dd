use Rattle.node_file.proofs.ReadOn.{read_on, refused_long}
use Rattle.node_file.proofs.lines.NodeLines.put.Goals as goal

pub returns-then-not-has_room-clause-refused : goal.returns-then-not-has_room-clause-refused
returns-then-not-has_room-clause-refused c =
    let long = c.has_room.ensures.full cc in
    rw (← c.self.view_is) (λ bytes rows was. refused_long _ bytes c.args.front.now rows was c.requires.no_end (rw (← c.self.view_is) at long))

pub returns-in-Ok-clause-read : goal.returns-in-Ok-clause-read
returns-in-Ok-clause-read c bytes rows was =
    read_on c.args.self.now c.go_on.new.self bytes c.args.front.now rows was c.requires.no_end
    c.go_on.ensures.plan c.go_on.ensures.element c.in-Ok.ensures.begun c.go_on.ensures.ended c.go_on.ensures.before
    (c.has_room.ensures.room cc)
