-- Bytes that begin wrongly, or are no text, are no number.
use Rattle.std.proofs.Common.{◌∙◌, sym}
use Rattle.sync_text.proofs.Decimals.{wrong_start, no_text, number_of_decimal}
use Rattle.sync_text.proofs.numbers.read_number.Goals as goal

pub returns-then-begins_wrongly-clause-number : goal.returns-then-begins_wrongly-clause-number
returns-then-begins_wrongly-clause-number c = sym (wrong_start _ (sym c.if-begins_wrongly.ensures))

pub returns-then-begins_wrongly-clause-reads_back :
    goal.returns-then-begins_wrongly-clause-reads_back
returns-then-begins_wrongly-clause-reads_back c =
    λ n small e. sym (wrong_start _ (sym c.if-begins_wrongly.ensures)) ∙ number_of_decimal _ n small e

pub returns-in-Err-clause-number : goal.returns-in-Err-clause-number
returns-in-Err-clause-number c = sym (no_text _ c.in-Err.ensures.cases.0)

pub returns-in-Err-clause-reads_back : goal.returns-in-Err-clause-reads_back
returns-in-Err-clause-reads_back c =
    λ n small e. sym (no_text _ c.in-Err.ensures.cases.0) ∙ number_of_decimal _ n small e
