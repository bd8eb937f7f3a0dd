use Rattle.std.proofs.Common.{◌∙◌, sym}
use Rattle.event_file.proofs.Sorting.{may_follow-is}
use Rattle.event_file.proofs.progress.CasesSoFar.may_follow.Goals as goal

pub returns-then-is_empty : goal.returns-then-is_empty
returns-then-is_empty c = λ plan done taken.
    may_follow-is plan done c.args.name.now c.args.self.now c.is_none.result (sym c.is_name.ensures ∙ c.if-is_name.false)
    (sym c.is_empty.ensures ∙ c.if-is_empty.true) c.is_none.ensures taken
