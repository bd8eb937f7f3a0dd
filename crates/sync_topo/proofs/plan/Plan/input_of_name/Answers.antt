use Rattle.std.proofs.Common.{◌≡◌, Some, rules}
use Rattle.sync_topo.specs.declared.input.InputId.TheVariants.{Line, Source}
use Rattle.sync_topo.specs.Lines.{input_of_name}
use Rattle.sync_topo.proofs.NameLaws.{input-by-name}
use Rattle.sync_topo.proofs.plan.Plan.input_of_name.Goals as goal

pub returns-in-Some-clause-exact : goal.returns-in-Some-clause-exact
returns-in-Some-clause-exact c =
    let is : Some (Line c.in-Some.line) ≡ input_of_name c.args.self.now c.args.name.now = search rules in
    rw is (input-by-name c.args.self.now c.args.name.now c.line_of_name.ensures.well_formed)

pub returns-in_err-source-clause-exact : goal.returns-in_err-source-clause-exact
returns-in_err-source-clause-exact c =
    let is : c.from_residual.result ≡ input_of_name c.args.self.now c.args.name.now = search rules in
    rw is (input-by-name c.args.self.now c.args.name.now c.line_of_name.ensures.well_formed)

pub returns-clause-exact : goal.returns-clause-exact
returns-clause-exact c =
    let is : Some (Source c.in_ok-source.source) ≡ input_of_name c.args.self.now c.args.name.now = search rules in
    rw is (input-by-name c.args.self.now c.args.name.now c.line_of_name.ensures.well_formed)
