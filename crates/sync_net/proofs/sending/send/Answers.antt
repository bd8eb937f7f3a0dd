use Rattle.std.proofs.Common.{◌≡◌, ◌<◌, length, List, arith, subst, ◌∙◌}
use Rattle.std.specs.Prelude.{slice_index_or}
use Rattle.std.proofs.lemmas.List.{get_or_default}
use Rattle.sync_element.specs.ElementState.{ElementState}
use Rattle.sync_net.specs.private.Stages.{IsLevelSent}
use Rattle.sync_net.proofs.StageLaws.{sent-one}
use Rattle.sync_net.proofs.sending.send.Goals as goal

pub returns : goal.returns
returns c =
    let elements : List ElementState = c.args.elements.now in
    let sender : ElementState = c.index-elements-from.result in
    let within : c.from.result < length elements = omega (arith, c.from.ensures.within, c.requires.elements) in
    record {
      sent = sent-one c.args.plan.now elements c.args.now c.args.line.0 c.level_sent-level.result c.elements.result _ _ c.elements.ensures.count
          (λ other.
          let same : sender ≡ slice_index_or elements c.from.result other =
          c.index-elements-from.is ∙ get_or_default elements c.from.result sender other within in
          subst (λ e. IsLevelSent c.args.plan.now c.args.line.0 (slice_index_or elements e other) c.level_sent-level.result) c.from.ensures.sender
          (subst (λ x. IsLevelSent c.args.plan.now c.args.line.0 x c.level_sent-level.result) same (rw c.get-sender.ensures at c.level_sent-level.ensures)))
          c.in_ok-give.ensures.given;
    }
