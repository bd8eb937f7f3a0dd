-- Beside specs/Rows.antt, under no public clause: the rows that a document says.
use Rattle.std.specs.Prelude.{ℕ, Option, Result}
use Rattle.toml.specs.Data.{Data, Members}
use Rattle.sync_topo.specs.declared.place.Section.{Section}
use Rattle.plan_rows.specs.declared.error.PlanFileErr.{PlanFileErr}
use Rattle.plan_rows.specs.declared.version.Version.{Version}
use Rattle.sync_text.specs.Chain.{unless}
use Rattle.plan_rows.specs.Format.{version_of}
use Rattle.plan_rows.specs.Rules.{refusal_of}
use Rattle.plan_rows.specs.Rows.{first_refusal_in}

-- the row of the entry at a place, or the rule that it breaks
abbrev pub row_at : {A : Type 0} → Version → (Data → A) → Section → ℕ → Data → Result A PlanFileErr
row_at version row section n entry = unless (refusal_of version (record { section = section; row = n }) entry) (row entry)

abbrev pub first_refusal : Members → Option PlanFileErr
first_refusal document = first_refusal_in (version_of document) document
