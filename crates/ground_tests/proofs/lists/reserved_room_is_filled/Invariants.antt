use Rattle.ground_tests.proofs.lists.reserved_room_is_filled.Given as goal

-- the ledger of the count is the one that the blank opens
abbrev pub ghosts-count_two : goal.ghosts-count_two
ghosts-count_two g a = record { name = a.blank.name; parts = a.blank.parts }
