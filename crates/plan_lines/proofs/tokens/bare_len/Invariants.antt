use Rattle.std.proofs.Common.{◌≡◌, ◌≤◌, ◌+◌, ◌-◌, length, drop}
use Rattle.std.specs.List.{prefix_len}
use Rattle.toml_parser.specs.Lexical.{is_bare as is_bare_byte}
use Rattle.plan_lines.proofs.tokens.bare_len.Given as goal

-- the bytes so far are all of the key
abbrev pub invariant-loop-len : goal.invariant-loop-len
invariant-loop-len l = (l.len ≤ length l.bytes) × (l.len + prefix_len is_bare_byte (drop l.len l.bytes) ≡ prefix_len is_bare_byte l.bytes)

abbrev pub decreases-loop-len : goal.decreases-loop-len
decreases-loop-len l = length l.bytes - l.len
