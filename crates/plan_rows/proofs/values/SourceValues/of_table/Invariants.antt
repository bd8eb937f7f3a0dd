use Rattle.std.proofs.Common.{◌≡◌}
use Rattle.toml.specs.View.{members_view, table_view}
use Rattle.sync_topo.specs.declared.place.Section.TheVariants.{Sources}
use Rattle.plan_rows.specs.declared.version.Version.TheVariants.{Two}
use Rattle.plan_rows.specs.Format.{keys_of}
use Rattle.plan_rows.specs.Slots.{no_slots}
use Rattle.plan_rows.specs.private.Slots.{taken}
use Rattle.plan_rows.specs.Values.{source_slots}
use Rattle.plan_rows.proofs.values.SourceValues.of_table.Given as goal

-- the members left, put into the slots, give what all of them give
abbrev pub invariant-loop-key : goal.invariant-loop-key
invariant-loop-key l = taken (keys_of Two Sources) (source_slots l.values) (members_view l.key-iterator) ≡ taken (keys_of Two Sources) (no_slots (keys_of Two Sources)) (table_view l.fn.fields)
