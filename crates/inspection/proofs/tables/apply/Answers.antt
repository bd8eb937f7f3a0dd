use Rattle.std.proofs.Common.{length, subst, sym}
use Rattle.sync_ql.specs.Switches.{Switches, NamesInput}
use Rattle.inspection.proofs.tables.apply.Goals as goal

pub apply-applied-requires : goal.apply-applied-requires
apply-applied-requires c = record {
  place = subst (λ (s : Switches). NamesInput (length s.locked) c.in-Some.command) (sym c.index_mut.ensures.value) (rw c.in-Some.is at c.requires.place c.index_mut.result.now);
}
