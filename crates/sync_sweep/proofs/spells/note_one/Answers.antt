use Rattle.std.proofs.Common.{ap, sym, ◌∙◌}
use Rattle.std.specs.Prelude.{nat_lt}
use Rattle.sync_sweep.proofs.spells.note_one.Goals as goal

pub returns-clause-worse : goal.returns-clause-worse
returns-clause-worse c = λ level same. record {
  level = c.level_of-level.result;
  shows = c.level_of-level.ensures;
  worse = c.noted.ensures.worse ∙ ap (λ p. nat_lt p c.level_of-level.result.place) (sym same);
}
