use Rattle.storage_tests.proofs.agendas.drops_are_counted.Given as goal

-- the ledger of the count is the one that the blank opens
abbrev pub ghosts-drop_in_steps : goal.ghosts-drop_in_steps
ghosts-drop_in_steps g a = record { name = a.blank.name; parts = a.blank.parts }
