use Rattle.std.proofs.Common.{◌≡◌, ◌≤◌, ◌<◌, ℕ, length}
use Rattle.std.specs.Prelude.{slice_index_or}
use Rattle.sync_ql.specs.Selection.{candidate}
use Rattle.selector.specs.Choices.{unusable}
use Rattle.sync_element.specs.private.Starting.{first_candidate}
use Rattle.sync_element.proofs.Beginning.{no_input}
use Rattle.sync_element.proofs.starting.new_table.Given as goal

-- the inputs up to here have their candidates
abbrev pub invariant-loop-i : goal.invariant-loop-i
invariant-loop-i l = record {
  count : length l.table ≡ length l.inputs;
  first : (k : ℕ) → k < l.i → candidate l.table k ≡ first_candidate l.config.floor (slice_index_or l.inputs k no_input);
  others : (k : ℕ) → l.i ≤ k → candidate l.table k ≡ unusable;
}
