-- The text of the bounds of a plan that agrees.
use Rattle.std.specs.Prelude.{ℕ, List, ◌++◌, codes}
use Rattle.std.specs.Fmt.{decimal}
use Rattle.plan_texts.specs.Lines.{text_line}

-- that the plan agrees, for how many milliseconds after the last event its network may change, and for how many after failures
-- alone
abbrev pub agreed_text : ℕ → ℕ → List ℕ
agreed_text bound failures =
    text_line (codes "agreed\nbound " ++ decimal bound ++ codes "\nfailures " ++ decimal failures)
