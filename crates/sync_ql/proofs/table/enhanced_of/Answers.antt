use Rattle.std.proofs.Common.{◌≡◌, subst, sym, Some}
use Rattle.sync_ql.specs.Level.{level_of_codes, code_of}
use Rattle.sync_ql.proofs.Tables.{codes_name}
use Rattle.sync_ql.proofs.table.enhanced_of.Goals as goal

pub returns-clause-back : goal.returns-clause-back
returns-clause-back c =
    let level = c.args.level in
    subst (λ enhanced. level_of_codes level.option (code_of level) (Some enhanced) ≡ Some level) (sym c.row_of.ensures.enhanced) (codes_name level)
