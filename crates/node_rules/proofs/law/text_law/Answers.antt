use Rattle.node_rules.proofs.TextLaws.{rows-same}
use Rattle.node_rules.proofs.law.text_law.Goals as goal

pub returns : goal.returns
returns c = λ plan events element until rows n well is. rows-same plan events element until rows well is n
