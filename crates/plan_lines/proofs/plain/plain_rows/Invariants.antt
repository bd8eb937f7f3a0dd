use Rattle.std.proofs.Common.{◌≤◌, length}
use denote.Text.{Utf8}
use denote.Shadow.{shadow}
use Rattle.plan_lines.proofs.PlainLines.{HasRead}
use Rattle.plan_lines.proofs.plain.plain_rows.Given as goal

abbrev pub invariant-lines : goal.invariant-lines
invariant-lines l = shadow (Utf8 l.rest) × (length l.rest ≤ length l.fn.text) × HasRead l.fn.text l.rest l.read

abbrev pub decreases-lines : goal.decreases-lines
decreases-lines l = length l.rest
