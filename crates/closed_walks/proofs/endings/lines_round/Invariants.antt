use Rattle.std.proofs.Common.{◌≡◌, ◌<◌, ℕ, length}
use Rattle.std.specs.Prelude.{Some}
use Rattle.sync_topo.specs.Lines.{line_input, receiver_of}
use Rattle.net_rules.specs.GoingBack.{line_before, ComesBack}
use Rattle.closed_walks.specs.Taking.{taken_in_list}
use Rattle.closed_walks.proofs.endings.lines_round.Given as goal

-- so many lines back is here, and not the first again
abbrev pub invariant-loop-count : goal.invariant-loop-count
invariant-loop-count l = record {
  within : l.at < length l.plan.elements;
  here : (whole line : ℕ) → taken_in_list l.taken l.element ≡ Some (line_input line)
      → ComesBack l.plan (taken_in_list l.taken) whole line
      → (l.count < whole) × (l.at ≡ receiver_of l.plan (line_before l.plan (taken_in_list l.taken) l.count line));
}
