use Rattle.event_sim.proofs.runs.run_to.Given as goal

-- the steps are counted on the blank's own ledger
abbrev pub ghosts-run_counted : goal.ghosts-run_counted
ghosts-run_counted a = record { name = a.blank.name; parts = a.blank.parts }
