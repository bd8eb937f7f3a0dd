use Rattle.std.proofs.Common.{◌≡◌, [], replicate}
use Rattle.net_words.proofs.tellings.new_tellings.Given as goal

-- so many elements are told nothing
abbrev pub invariant-loop-element : goal.invariant-loop-element
invariant-loop-element l = l.changes ≡ replicate l._element []
