use Rattle.wild_steps.proofs.tests.steps_of_a_ledger.Given as goal

abbrev pub ghosts-counted : goal.ghosts-counted
ghosts-counted a = record { name = a.blank.name; parts = a.blank.parts }
