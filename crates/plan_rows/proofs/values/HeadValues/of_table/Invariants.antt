use Rattle.std.proofs.Common.{◌≡◌}
use Rattle.toml.specs.View.{members_view, table_view}
use Rattle.sync_topo.specs.declared.place.Section.TheVariants.{Head}
use Rattle.plan_rows.specs.declared.version.Version.TheVariants.{Two}
use Rattle.plan_rows.specs.Format.{keys_of}
use Rattle.plan_rows.specs.Slots.{no_slots}
use Rattle.plan_rows.specs.private.Slots.{taken}
use Rattle.plan_rows.specs.Values.{head_slots}
use Rattle.plan_rows.proofs.values.HeadValues.of_table.Given as goal

-- the members left, put into the slots, give what all of them give
abbrev pub invariant-loop-key : goal.invariant-loop-key
invariant-loop-key l = taken (keys_of Two Head) (head_slots l.values) (members_view l.key-iterator) ≡ taken (keys_of Two Head) (no_slots (keys_of Two Head)) (table_view l.fn.document)
