-- What is true of the marks that are kept.
use Rattle.agenda.specs.Marked.{Marked}
use Rattle.agenda.specs.declared.marks.Marks.TheInside.{Inside}

-- the flags and the places that are listed
abbrev pub marked_in : Inside → Marked
marked_in m = record { flags = m.flags.items; listed = m.listed.items }
