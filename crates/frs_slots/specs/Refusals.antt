-- What is printed of a refusal.
use Rattle.std.specs.Prelude.{ℕ, List, ◌++◌, codes, decimal}
use Rattle.frs_slots.specs.declared.drawer.NoRoom.{NoRoom}
use Rattle.frs_slots.specs.declared.taker.NotYet.{NotYet}

abbrev pub no_room_text : NoRoom → List ℕ
no_room_text refused =
    codes "no room: " ++ (decimal refused.drawn
    ++ (codes " drawn, " ++ (decimal refused.known_taken ++ codes " known as taken")))

abbrev pub not_yet_text : NotYet → List ℕ
not_yet_text refused = codes "all " ++ (decimal refused.known ++ codes " known records were taken")
