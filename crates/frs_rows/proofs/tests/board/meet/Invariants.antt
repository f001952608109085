use Rattle.frs_rows.proofs.tests.board.meet.Given as goal

abbrev pub ghosts-meet_named : goal.ghosts-meet_named
ghosts-meet_named g a = record { name = a.keeper.name }
