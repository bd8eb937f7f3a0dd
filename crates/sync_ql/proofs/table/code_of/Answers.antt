use Rattle.std.proofs.Common.{◌≡◌, ◌↔◌, subst, sym, Some}
use Rattle.sync_ql.specs.Table.{not_enhanced}
use Rattle.sync_ql.specs.Level.{level_of_code, level_of_codes, enhanced_of}
use Rattle.sync_ql.proofs.Tables.{codes_name, alone_names, code_of-bound}
use Rattle.sync_ql.proofs.table.code_of.Goals as goal

pub returns-clause-back : goal.returns-clause-back
returns-clause-back c =
    let level = c.args.level in
    subst (λ code. level_of_codes level.option code (Some (enhanced_of level)) ≡ Some level) (sym c.row_of.ensures.code) (codes_name level)

pub returns-clause-alone : goal.returns-clause-alone
returns-clause-alone c =
    let level = c.args.level in
    subst (λ code. (level_of_code level.option code ≡ Some level) ↔ (enhanced_of level ≡ not_enhanced)) (sym c.row_of.ensures.code) (alone_names level)

pub returns-clause-four_bits : goal.returns-clause-four_bits
returns-clause-four_bits c = rw c.row_of.ensures.code (code_of-bound c.args.level)
