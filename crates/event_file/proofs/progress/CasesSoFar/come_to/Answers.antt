use Rattle.std.proofs.Common.{◌∙◌, ap, length, sym, refl}
use Rattle.event_file.proofs.Sorting.{common-stands, common-together, goes_on-stands, apart-is, fresh-together, begun-stands}
use Rattle.event_file.proofs.progress.CasesSoFar.come_to.Goals as goal

-- a common row
pub returns-then-is_empty-clause-together : goal.returns-then-is_empty-clause-together
returns-then-is_empty-clause-together c = λ plan done taken may. common-together done c.args.name.now (sym c.is_empty.ensures ∙ c.if-is_empty.true) may

pub returns-then-is_empty-clause-sorted : goal.returns-then-is_empty-clause-sorted
returns-then-is_empty-clause-sorted c = λ plan done taken may.
    common-stands plan done c.args.name.now c.args.self.now (sym c.is_empty.ensures ∙ c.if-is_empty.true) taken may

-- a row of the case that is read
pub returns-in-Some-clause-sorted : goal.returns-in-Some-clause-sorted
returns-in-Some-clause-sorted c = λ plan done taken may.
    goes_on-stands plan done c.args.name.now c.args.self.now c.in-Some.place taken c.in-Some.ensures.named (c.if-place-as_slice.true ∙ ap length c.as_slice.ensures)

-- of one that stood before
pub returns-in-Some-2-clause-apart : goal.returns-in-Some-2-clause-apart
returns-in-Some-2-clause-apart c = λ plan done taken. (
  apart-is plan done c.args.name.now c.args.self.now c.in-Some.place taken (sym c.is_empty.ensures ∙ c.if-is_empty.false) (sym c.in-Some.ensures.place)
      (sym c.in-Some.ensures.found) (λ same. c.if-place-as_slice.false (same ∙ ap length (sym c.as_slice.ensures))),
  refl,
)

-- and of a new one
pub returns-in_ok-begin-in-None-clause-together : goal.returns-in_ok-begin-in-None-clause-together
returns-in_ok-begin-in-None-clause-together c = λ plan done taken may.
    fresh-together plan done c.args.name.now c.args.self.now taken (sym c.is_empty.ensures ∙ c.if-is_empty.false) (sym c.in-None.ensures.found)

pub returns-in_ok-begin-in-None-clause-sorted : goal.returns-in_ok-begin-in-None-clause-sorted
returns-in_ok-begin-in-None-clause-sorted c = λ plan done taken may.
    rw c.in_ok-begin-in-None.ensures
    (begun-stands plan done c.args.name.now c.args.self.now taken (sym c.is_empty.ensures ∙ c.if-is_empty.false) (sym c.in-None.ensures.found))
