use Rattle.network_tests.proofs.event_sim_tests.runs_by_hand_are_answered_by_the_rules.Given as goal

-- the steps are counted on the blank's own ledger
abbrev pub ghosts-run_all : goal.ghosts-run_all
ghosts-run_all g a = record { name = a.blank.name; parts = a.blank.parts }
