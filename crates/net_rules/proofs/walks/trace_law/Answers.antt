use Rattle.std.specs.Prelude.{[]}
use Rattle.net_rules.proofs.TraceLaws.{one_trace, has_trace}
use Rattle.net_rules.proofs.walks.trace_law.Goals as goal

pub returns-clause-one : goal.returns-clause-one
returns-clause-one c = λ plan taken. one_trace plan taken []

pub returns-clause-some : goal.returns-clause-some
returns-clause-some c = λ plan taken n element senders within.
    let trace = has_trace plan taken n senders element within in (trace.lines, trace.end, trace.is)
