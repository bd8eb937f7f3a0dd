use Rattle.std.proofs.Common.{◌<◌, length}
use denote.Text.{Utf8}
use denote.Shadow.{shadow}
use Rattle.plan_lines.proofs.PlainItems.{InTable}
use Rattle.plan_lines.proofs.plain.inline_entry.Given as goal

abbrev pub invariant-members : goal.invariant-members
invariant-members l = shadow (Utf8 l.rest) × (length l.rest < length l.fn.s) × InTable l.fn.kind l.fn.s l.rest l.entry

abbrev pub decreases-members : goal.decreases-members
decreases-members l = length l.rest
