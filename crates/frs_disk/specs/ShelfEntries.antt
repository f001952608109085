-- Segments of snapshots kept in a vector, as a plain list of keys and bytes.
use Rattle.std.specs.Prelude.{ℕ, List, map, Vec}
use Rattle.std.specs.declared.alloc.Global.{Global}

abbrev pub shelf_entries : List (ℕ × ℕ × Vec ℕ Global) → List ((ℕ × ℕ) × List ℕ)
shelf_entries held = map (λ e. ((e.0, e.1), e.2.items)) held
