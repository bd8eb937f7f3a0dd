use Rattle.std.proofs.Common.{rules, ◌∙◌}
use Rattle.sync_ql.proofs.Tables.{both_named}
use Rattle.sync_ql.proofs.table.level_of_codes.Goals as goal

pub returns-in-Some-clause-exact : goal.returns-in-Some-clause-exact
returns-in-Some-clause-exact c = search rules

pub returns-in-Some-clause-both : goal.returns-in-Some-clause-both
returns-in-Some-clause-both c = λ level option code enhanced.
    returns-in-Some-clause-exact c ∙ both_named c.args.option c.args.code c.args.enhanced level option code enhanced
