use Rattle.std.proofs.Common.{◌≤◌, length}
use denote.Text.{Utf8}
use denote.Shadow.{shadow}
use Rattle.plan_lines.proofs.PlainItems.{InArray}
use Rattle.plan_lines.proofs.plain.add_items.Given as goal

abbrev pub invariant-items : goal.invariant-items
invariant-items l = shadow (Utf8 l.rest) × (length l.rest ≤ length l.fn.s) × InArray l.fn.kind l.fn.s l.rest l.fn.rows l.rows

abbrev pub decreases-items : goal.decreases-items
decreases-items l = length l.rest
