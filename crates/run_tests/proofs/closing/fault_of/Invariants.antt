use Rattle.run_tests.proofs.closing.fault_of.Given as goal

abbrev pub ghosts-closed : goal.ghosts-closed
ghosts-closed a = record { name = a.blank.name; parts = a.blank.parts }
