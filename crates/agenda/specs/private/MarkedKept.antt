-- Beside specs/MarkedKept.antt, under no public clause: what is true of the marks that are kept.
use Rattle.std.specs.Prelude.{◌≤◌, length, vec_capacity}
use Rattle.agenda.specs.Marked.{AreListed}
use Rattle.agenda.specs.declared.marks.Marks.TheInside.{Inside}
use Rattle.agenda.specs.MarkedKept.{marked_in}

-- just the marked places are listed, and there is room for all places
pub record IsKept (m : Inside) : Type 0 where
  pub all : AreListed (marked_in m)
  pub room : length m.flags.items ≤ vec_capacity m.listed
