use Rattle.std.proofs.Common.{◌≡◌, ◌++◌, map, take, drop}
use Rattle.link_model.specs.private.Kept.{ended}
use Rattle.link_model.proofs.words.end_words.Given as goal

abbrev pub invariant-loop-i : goal.invariant-loop-i
invariant-loop-i l = l.words ≡ map (ended l.now) (take l.i l.fn.words) ++ drop l.i l.fn.words
