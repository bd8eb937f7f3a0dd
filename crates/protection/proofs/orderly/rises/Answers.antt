use Rattle.rank_cert.specs.Ranks.{rank_of}
use Rattle.protection.proofs.orderly.rises.Goals as goal

pub returns-in-Ranks : goal.returns-in-Ranks
returns-in-Ranks c = λ _. (rank_of c.in-Ranks.field-0, rw c.in-Ranks.is at c.in_ok-ranked.ensures.rising)
