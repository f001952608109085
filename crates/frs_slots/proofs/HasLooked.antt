-- What stays, and what is known, where a drawer may have looked.
use Rattle.std.proofs.Common.{◌≡◌, ◌⊎◌, inl, inr, ◌≤◌, ap, arith}
use Rattle.frs_slots.specs.Views.{DrawerView, IsOneMore, HasLooked}

pub looked_same : (d e : DrawerView) → (e ≡ d) ⊎ HasLooked d e → e ≡ record d { known_taken = e.known_taken; loads = e.loads }
looked_same d e (inl same) = λ i. record (same i) { known_taken = e.known_taken; loads = e.loads }
looked_same d e (inr looked) = looked.same

pub looked_known : (d e : DrawerView) → (e ≡ d) ⊎ HasLooked d e → d.known_taken ≤ e.known_taken
looked_known d e (inl same) = omega (arith, ap (λ (v : DrawerView). v.known_taken) same)
looked_known d e (inr looked) = looked.known_taken

pub looked_loads : (d e : DrawerView) → (e ≡ d) ⊎ HasLooked d e → (e.loads ≡ d.loads) ⊎ IsOneMore d.loads e.loads
looked_loads d e (inl same) = inl (ap (λ (v : DrawerView). v.loads) same)
looked_loads d e (inr looked) = inr looked.loads
