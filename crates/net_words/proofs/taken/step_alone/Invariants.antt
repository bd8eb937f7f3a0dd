use Rattle.net_words.proofs.taken.step_alone.Given as goal

-- the steps are counted on the blank's own ledger
abbrev pub ghosts-step : goal.ghosts-step
ghosts-step a = record { name = a.blank.name; parts = a.blank.parts }
