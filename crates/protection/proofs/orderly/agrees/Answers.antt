use Rattle.protection.proofs.orderly.agrees.Goals as goal

pub returns-clause-bound : goal.returns-clause-bound
returns-clause-bound c = λ _. (c.in-Bound.field-0.bound, rw c.in-Bound.is at c.in_ok-agreement.ensures.bound)

pub returns-clause-failures : goal.returns-clause-failures
returns-clause-failures c = λ _. (c.in-Bound.field-0.failures, rw c.in-Bound.is at c.in_ok-agreement.ensures.failures)
