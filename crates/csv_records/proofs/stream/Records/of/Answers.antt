use Rattle.std.proofs.Common.{Bor, List, ℕ, Some}
use Rattle.csv_records.proofs.Count.{few_records}
use Rattle.csv_records.proofs.Left.{all_left}
use Rattle.csv_records.proofs.stream.Records.of.Goals as goal

pub returns-clause-left : goal.returns-clause-left
returns-clause-left c = all_left (λ (s : Bor (List ℕ)). Some s.now) c.from_reader.result c.args.bytes.now c.from_reader.ensures.state c.from_reader.ensures.source

pub returns-clause-few : goal.returns-clause-few
returns-clause-few c = rw (returns-clause-left c) (few_records c.args.bytes.now)
