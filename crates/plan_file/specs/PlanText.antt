-- The plan of a plan file, or the first reason to refuse it.
use Rattle.std.specs.Prelude.{◌≡◌, ℕ, List, Option, Some, None, Result, Ok, Err, if◌then◌else◌}
use Rattle.std.specs.Str.{is_utf8}
use Rattle.toml.specs.Data.{Members}
use Rattle.toml.specs.Parse.{parse_document}
use Rattle.sync_topo.specs.declared.error.PlanErr.{PlanErr}
use Rattle.sync_topo.specs.declared.rows.PlanRows.{PlanRows}
use Rattle.sync_topo.specs.declared.sizes.Size.{Size}
use Rattle.sync_topo.specs.PlanRows.{plan_of_sized}
use Rattle.sync_topo.specs.Topology.{Topology}
use Rattle.plan_rows.specs.declared.error.PlanFileErr.{PlanFileErr}
use Rattle.plan_rows.specs.declared.error.PlanFileErr.TheVariants.{Syntax, Plan}
use Rattle.sync_text.specs.Chain.{◌>>=◌, found}
use Rattle.plan_rows.specs.Rules.{KeepsRules}
use Rattle.plan_rows.specs.Rows.{said_rows, rows_of_document}

-- the TOML document that the bytes are. After TOML 1.1
abbrev pub document_of : List ℕ → Option Members
document_of bytes = if is_utf8 bytes then parse_document bytes else None

-- what rows give, and their refusal as the file's
abbrev pub of_rows : {A : Type 0} → Result A PlanErr → Result A PlanFileErr
of_rows (Ok value) = Ok value
of_rows (Err refusal) = Err (Plan refusal)

-- the rows of a file: those of its document
abbrev pub rows_in_file : List ℕ → Result PlanRows PlanFileErr
rows_in_file bytes = do
  document ← found (document_of bytes) Syntax
  rows_of_document document

-- the plan of a file that may be of no more than a size: of its rows
unfoldable pub plan_of_size : Size → List ℕ → Result Topology PlanFileErr
plan_of_size size bytes = do
  rows ← rows_in_file bytes
  of_rows (plan_of_sized size rows)

-- the bytes are a document of which this holds
abbrev pub OfDocument : List ℕ → (Members → Type 0) → Type 0
OfDocument bytes Fact = of (document_of bytes)
  where
    of : Option Members → Type 0
    of None = ⊥
    of (Some document) = Fact document

-- the bytes are a document that keeps the rules, and its rows give this in the size
abbrev pub GivesRows : Size → List ℕ → Result Topology PlanErr → Type 0
GivesRows size bytes answer = OfDocument bytes (λ document. KeepsRules document × (plan_of_sized size (said_rows document) ≡ answer))
