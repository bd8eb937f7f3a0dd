use Rattle.sync_sweep.proofs.running.run_to.Given as goal

abbrev pub ghosts-run_events : goal.ghosts-run_events
ghosts-run_events a = record { name = a.blank.name; parts = a.blank.parts }
