use Rattle.std.proofs.Common.{Bor, List, ℕ, Some, ◌∙◌, sym, ap}
use Rattle.csv_records.specs.Stream.{Stream}
use Rattle.csv_records.proofs.Left.{after_record, after_end}
use Rattle.csv_records.proofs.stream.Records.advance.Goals as goal

-- the reader has not failed, and stands between two records
pub invariant_of-self : goal.invariant_of-self
invariant_of-self c =
    let is = rw (← c.self-inside.view_is) at c.self.view_is in
    let reading = (rw (← c.self-inside.view_is) at c.self.invariant) c.if-self.false (ap (λ (s : Stream). s.spent) is ∙ c.requires) in
    let step = c.in-Ok-true.ensures in
    λ ended failed. (after_record (λ (s : Bor (List ℕ)). Some s.now) c.self-inside.inside.0.0 c.read_byte_record.new.self _ reading (rw c.in-Ok-true.field-0-test at (step.reads reading.trims reading.ready)) (step.ready reading.trims) step.flexible).0

-- it took the first record that was left
pub returns-in-Ok-true-clause-found : goal.returns-in-Ok-true-clause-found
returns-in-Ok-true-clause-found c =
    let is = rw (← c.self-inside.view_is) at c.self.view_is in
    let reading = (rw (← c.self-inside.view_is) at c.self.invariant) c.if-self.false (ap (λ (s : Stream). s.spent) is ∙ c.requires) in
    let step = c.in-Ok-true.ensures in
    λ found.
    sym (ap (λ (s : Stream). s.left) is)
    ∙ rw c.if-self.false (after_record (λ (s : Bor (List ℕ)). Some s.now) c.self-inside.inside.0.0 c.read_byte_record.new.self _ reading (rw c.in-Ok-true.field-0-test at (step.reads reading.trims reading.ready)) (step.ready reading.trims) step.flexible).1

-- none was left
pub returns-in-Ok-false-clause-none : goal.returns-in-Ok-false-clause-none
returns-in-Ok-false-clause-none c =
    let is = rw (← c.self-inside.view_is) at c.self.view_is in
    let reading = (rw (← c.self-inside.view_is) at c.self.invariant) c.if-self.false (ap (λ (s : Stream). s.spent) is ∙ c.requires) in
    let step = c.in-Ok-false.ensures in
    λ none.
    sym (ap (λ (s : Stream). s.left) is)
    ∙ rw c.if-self.false (after_end (λ (s : Bor (List ℕ)). Some s.now) c.self-inside.inside.0.0 c.read_byte_record.new.self _ reading (rw c.in-Ok-false.field-0-test at (step.reads reading.trims reading.ready)))
