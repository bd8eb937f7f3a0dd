use Rattle.std.proofs.Common.{◌++◌, ℕ, suc, ◌+◌, ◌≡◌, ap, subst, ◌∙◌, arith}
use Rattle.sync_topo.specs.Topology.{Topology}
use Rattle.sync_net.specs.Standing.{StandsFor}
use Rattle.inspection.specs.private.Tables.{commands_told}
use Rattle.inspection.specs.Inspection.{elements_part, inputs_part}
use Rattle.inspection.proofs.Told.{told-commands}
use Rattle.inspection.proofs.inspecting.text_of.Goals as goal

pub returns : goal.returns
returns c = record {
  text = λ all stands told.
      let net = c.args.net.now in
      let plan = net.plan in
      let at = c.args.at in
      let here : StandsFor net all (at + 1) = subst (StandsFor net all) (more at) stands in
      c.in_ok-put_inputs.ensures.put all here
      ∙ ap (λ t. t ++ inputs_part plan all at) (c.in_ok-put_elements.ensures.put all at here)
      ∙ ap (λ t. t ++ elements_part plan all at ++ inputs_part plan all at)
      (c.in_ok-put_commands.ensures.put
      ∙ ap (λ t. t ++ commands_told c.plan.result.now c.args.told.now) c.new-text.ensures
      ∙ ap (λ (p : Topology). commands_told p c.args.told.now) c.plan.ensures
      ∙ told-commands plan all c.args.told.now at told c.requires.within);
}
  where
    more : (n : ℕ) → suc n ≡ n + 1
    more n = omega arith
