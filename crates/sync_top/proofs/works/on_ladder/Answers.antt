use Rattle.std.specs.Prelude.{⊤}
use Rattle.sync_top.specs.Form.{on_ladder}
use Rattle.sync_top.proofs.Endings.{worked, no-read}
use Rattle.sync_top.proofs.works.on_ladder.Goals as goal

pub returns : goal.returns
returns c = record {
  works = λ outside tried calm.
      worked (on_ladder c.args.what c.args.elements) outside tried tried (λ (value : ⊤). value) tt c.ladder_found.result c.replied.result
      (no-read outside tried calm) c.ladder_found.ensures c.replied.ensures;
}
