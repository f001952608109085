-- Ends of the same name are ends of one ring, and no call changes the name.
use Rattle.std.proofs.Common.{◌≡◌, ℕ, List, [], ◌∷◌, sym, ◌∙◌, ap, refl}
use Rattle.std.specs.declared.alloc.Global.{Global}
use Rattle.rtrb.specs.declared.AnyItems.{AnyItems}
use Rattle.rtrb.specs.declared.end.End.{End}
use Rattle.rtrb.specs.Ends.{SameRing}
use Rattle.rtrb.specs.Ring.{sent, received, IsPair, SameProducer, SameConsumer}
use denote.RawPtr.{Ptr, block_ptr, null_ptr}
use Rattle.frs_slots.specs.Views.{Ring, DrawerView, TakerView}
use Rattle.frs_slots.specs.Names.{Pushes, Pops, place_of_slot, name_of_end, pushes_on, pops_from}

abbrev Ending : Type 0
Ending = End (List ℕ) Global AnyItems

place_inj : (p q : Ptr) → place_of_slot p ≡ place_of_slot q → p ≡ q
place_inj (block_ptr b o) (block_ptr c u) e = cc
place_inj (block_ptr b o) null_ptr e = cc
place_inj null_ptr (block_ptr c u) e = cc
place_inj null_ptr null_ptr e = refl

-- the parts of a name
abbrev words_of : Ring → List ℕ
words_of (words ∷ rest) = words
words_of [] = []

abbrev slots_of : Ring → List ℕ
slots_of (words ∷ slots ∷ rest) = slots
slots_of other = []

abbrev numbers_of : Ring → List ℕ
numbers_of (words ∷ slots ∷ numbers ∷ rest) = numbers
numbers_of other = []

abbrev numbered : List ℕ → ℕ × (ℕ × ℕ)
numbered (capacity ∷ writer ∷ reader ∷ rest) = (capacity, (writer, reader))
numbered other = (0, (0, 0))

same_heap : (a b : Global) → a ≡ b
same_heap a b = refl

same_ring : (a b : Ending) → name_of_end a ≡ name_of_end b → SameRing a b
unfolding name_of_end
same_ring a b e = (
  place_inj b.words a.words (ap words_of (sym e)),
  place_inj b.slots a.slots (ap slots_of (sym e)),
  ap (λ (r : Ring). numbered (numbers_of r)) (sym e),
  same_heap b.heap a.heap,
)

named_alike : (a b : Ending) → SameRing a b → name_of_end b ≡ name_of_end a
unfolding name_of_end
named_alike a b same =
    λ i. place_of_slot (same.0 i) ∷ place_of_slot (same.1 i) ∷ ((same.2 i).0 ∷ (same.2 i).1.0 ∷ (same.2 i).1.1 ∷ []) ∷ []

pub is_pair : (p : Pushes) (c : Pops) → pushes_on p ≡ pops_from c → IsPair p c
is_pair p c e = same_ring p.end c.end e

pub pair_named : (p : Pushes) (c : Pops) → IsPair p c → pushes_on p ≡ pops_from c
pair_named p c pair = sym (named_alike p.end c.end pair)

pub pushes_kept : (p q : Pushes) → SameProducer p q → pushes_on q ≡ pushes_on p
pushes_kept p q same = named_alike p.end q.end same.0

pub pops_kept : (c e : Pops) → SameConsumer c e → pops_from e ≡ pops_from c
pops_kept c e same = named_alike c.end e.end same.0

-- the views of ends of which the ring and the records stay
pub drawer_kept : (p q : Pushes) (first capacity known_taken loads : ℕ) → SameProducer p q → sent q ≡ sent p
    → (let after : DrawerView = record { ring = pushes_on q; first = first; capacity = capacity; drawn = sent q; known_taken = known_taken; loads = loads } in
    let before : DrawerView = record { ring = pushes_on p; first = first; capacity = capacity; drawn = sent p; known_taken = known_taken; loads = loads } in after ≡ before)
drawer_kept p q first capacity known_taken loads same stays =
    λ i. record { ring = pushes_kept p q same i; first = first; capacity = capacity; drawn = stays i; known_taken = known_taken; loads = loads }

pub taker_kept : (c e : Pops) (first sure known misses : ℕ) → SameConsumer c e → received e ≡ received c
    → (let after : TakerView = record { ring = pops_from e; first = first; taken = received e; sure = sure; known = known; misses = misses } in
    let before : TakerView = record { ring = pops_from c; first = first; taken = received c; sure = sure; known = known; misses = misses } in after ≡ before)
taker_kept c e first sure known misses same stays =
    λ i. record { ring = pops_kept c e same i; first = first; taken = stays i; sure = sure; known = known; misses = misses }

-- two ends that were of one ring still are
pub still_paired : (p q : Pushes) (c e : Pops) → SameProducer p q → SameConsumer c e → pushes_on p ≡ pops_from c → pushes_on q ≡ pops_from e
still_paired p q c e producer consumer paired = pushes_kept p q producer ∙ paired ∙ sym (pops_kept c e consumer)

-- ends that are seen as of one ring are so
pub seen_paired : (p : Pushes) (c : Pops) (d : DrawerView) (t : TakerView) → pushes_on p ≡ d.ring → pops_from c ≡ t.ring → d.ring ≡ t.ring → pushes_on p ≡ pops_from c
seen_paired p c d t drawer taker one = drawer ∙ one ∙ sym taker
