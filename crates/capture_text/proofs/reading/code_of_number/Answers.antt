-- A text without such a number, or with that of a level's code, is that of no code.
use Rattle.std.proofs.Common.{ap, refl, sym, ◌∙◌}
use Rattle.capture_text.specs.Reading.{code_of_number}
use Rattle.capture_text.proofs.CodeLemmas.{no_number, code_of_its_number}
use Rattle.capture_text.proofs.reading.code_of_number.Goals as goal

pub returns-in_err-code-clause-code : goal.returns-in_err-code-clause-code
returns-in_err-code-clause-code c =
    c.from_residual.ensures
    ∙ sym (no_number c.args.option c.args.text.now (λ n small unknown number. cc (c.in_err-code.ensures.found n small number)) _ refl)

pub returns-in-Some-clause-code : goal.returns-in-Some-clause-code
returns-in-Some-clause-code c =
    sym (no_number c.args.option c.args.text.now (λ n small unknown number.
    let same = c.in_ok-code.ensures.found n small number in
    let known = c.in-Some.ensures.exact in
    cc) _ refl)

pub returns-in-None-clause-code : goal.returns-in-None-clause-code
returns-in-None-clause-code c =
    let text = c.in_ok-code.ensures.text in
    let number = code_of_its_number c.args.option c.in_ok-code.code text.0 (sym c.in-None.ensures.exact) in
    sym (ap (code_of_number c.args.option) text.1 ∙ number)
