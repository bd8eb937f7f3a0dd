-- The answer to `gen`.
use Rattle.std.specs.Prelude.{◌≡◌, ◌≤◌, ℕ, List, length}
use Rattle.plan_file.specs.IsPlanText.{IsPlanText}
use Rattle.plan_file.specs.Spelling.{plan_text}
use Rattle.plan_gen.specs.Ladder.{ladder}
use Rattle.sync_topo.specs.Sizes.{size_of}
use Rattle.sync_top.specs.declared.status.Status.{Status}
use Rattle.sync_top.specs.declared.status.Status.TheVariants.{Done}
use Rattle.sync_top.specs.Reading.{file_limit}

-- the answer to `gen`: the text of the ladder of so many elements, which is read as the ladder, and which is not too long for a
-- file
abbrev pub IsLadderText : ℕ → Status → List ℕ → Type 0
IsLadderText n status text =
    (status ≡ Done) × (text ≡ plan_text (ladder n)) × IsPlanText (ladder n) text × (length text ≤ file_limit (size_of (ladder n)))
