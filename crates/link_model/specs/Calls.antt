-- What a call makes of a line's past, whose newest millisecond is that of the call. Until the next
-- call it stands as it is, so each call changes that one millisecond.
use Rattle.std.specs.Prelude.{Bool, not, ◌&&◌, if◌then◌else◌, List, [], ◌∷◌, None, Some}
use Rattle.sync_ql.specs.declared.levels.Level.{Level}
use Rattle.sync_ql.specs.Messages.{LineMoment}

-- a millisecond in which the line is up or down, and its ESMC on or off: where that makes it speak, it
-- has no level until one is given
abbrev pub turned : LineMoment → Bool → Bool → LineMoment
turned was up esmc = record {
  up = up;
  esmc = esmc;
  level = if (up && esmc) && not (was.up && was.esmc) then None else was.level;
}

abbrev pub with_up : Bool → List LineMoment → List LineMoment
with_up up [] = []
with_up up (now ∷ before) = turned now up now.esmc ∷ before

abbrev pub with_esmc : Bool → List LineMoment → List LineMoment
with_esmc on [] = []
with_esmc on (now ∷ before) = turned now now.up on ∷ before

abbrev pub with_level : Level → List LineMoment → List LineMoment
with_level level [] = []
with_level level (now ∷ before) = record { up = now.up; esmc = now.esmc; level = Some level } ∷ before

-- a whole millisecond
abbrev pub told : Bool → Bool → Level → LineMoment
told up esmc level = record { up = up; esmc = esmc; level = Some level }
