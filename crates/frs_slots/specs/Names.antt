-- The name of a ring: what its two ends have in common, as numbers.
use Rattle.std.specs.Prelude.{ℕ, List, [], ◌∷◌}
use Rattle.std.specs.declared.alloc.Global.{Global}
use Rattle.rtrb.specs.declared.AnyItems.{AnyItems}
use Rattle.rtrb.specs.declared.end.End.{End}
use Rattle.rtrb.specs.declared.producer.Producer.{Producer}
use Rattle.rtrb.specs.declared.consumer.Consumer.{Consumer}
use denote.RawPtr.{Ptr, block_ptr, null_ptr}
use Rattle.frs_slots.specs.Views.{Ring}

-- the end that pushes records, and the end that pops them
abbrev pub Pushes : Type 0
Pushes = Producer (List ℕ) Global AnyItems

abbrev pub Pops : Type 0
Pops = Consumer (List ℕ) Global AnyItems

abbrev pub place_of_slot : Ptr → List ℕ
place_of_slot (block_ptr block offset) = block ∷ offset ∷ []
place_of_slot null_ptr = []

-- where the ring's two blocks of memory lie, its capacity and the names of its two ends
unfoldable pub name_of_end : End (List ℕ) Global AnyItems → Ring
name_of_end e = place_of_slot e.words ∷ place_of_slot e.slots ∷ (e.names.0 ∷ e.names.1.0 ∷ e.names.1.1 ∷ []) ∷ []

abbrev pub pushes_on : Pushes → Ring
pushes_on p = name_of_end p.end

abbrev pub pops_from : Pops → Ring
pops_from c = name_of_end c.end
