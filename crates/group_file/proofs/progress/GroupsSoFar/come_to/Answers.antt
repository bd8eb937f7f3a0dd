use Rattle.std.proofs.Common.{◌∙◌, ap, length, sym, refl}
use Rattle.group_file.proofs.Taking.{apart-is, fresh-together, begun-stands}
use Rattle.group_file.proofs.progress.GroupsSoFar.come_to.Goals as goal

-- a row of a group that stood before
pub returns-in-Some-2-clause-apart : goal.returns-in-Some-2-clause-apart
returns-in-Some-2-clause-apart c = λ plan done taken. (
  apart-is plan done c.args.name.now c.args.self.now taken c.in-Some.place c.requires (sym c.in-Some.ensures.place) (sym c.in-Some.ensures.found)
      (λ same. c.if-place-as_slice.false (same ∙ ap length (sym c.as_slice.ensures))),
  refl,
)

-- and of a new one
pub returns-in_ok-begin-in-None-clause-together : goal.returns-in_ok-begin-in-None-clause-together
returns-in_ok-begin-in-None-clause-together c = λ plan done taken.
    fresh-together plan done c.args.name.now c.args.self.now taken c.requires (sym c.in-None.ensures.found)

pub returns-in_ok-begin-in-None-clause-sorted : goal.returns-in_ok-begin-in-None-clause-sorted
returns-in_ok-begin-in-None-clause-sorted c = λ plan done taken.
    begun-stands plan done c.args.name.now c.args.self.now taken c.begin.new.self c.requires (sym c.in-None.ensures.found) c.in_ok-begin-in-None.ensures
