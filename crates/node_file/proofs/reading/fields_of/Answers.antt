use Rattle.std.proofs.Common.{arith}
use Rattle.std.specs.Prelude.{◌==◌}
use Rattle.std.proofs.lemmas.Grind.{common_steps}
use Rattle.node_file.proofs.LineCuts.{five_parts, first_short}
use Rattle.node_file.proofs.reading.fields_of.Goals as goal

pub returns-in-Some-clause-fields : goal.returns-in-Some-clause-fields
returns-in-Some-clause-fields c =
    let five = five_parts (λ byte. byte == 44) c.cut_at.result.0.now c.cut_at-2.result.0.now c.cut_at-3.result.0.now c.cut_at-4.result.0.now c.in-Some.field-0.now in
    grind (arith, common_steps)

pub returns-in-None-clause-short : goal.returns-in-None-clause-short
returns-in-None-clause-short c =
    let last = first_short (λ byte. byte == 44) c.in_ok-rest-3.field-0.now c.cut_at-4.result.0.now _ c.cut_at-4.ensures.parts in
    grind (arith, common_steps)
