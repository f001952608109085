-- What a client that wants a lock is told, and what the holders are afterwards.
use Rattle.std.specs.Prelude.{◌≡◌, ℕ, false, true, List, [], ◌∷◌, Option, None, Some, length, slice_set}
use Rattle.frs_types.specs.declared.lock.Lock.{Lock}
use Rattle.frs_types.specs.Locks.{Holders, holder_at, nobody, with_lock, with_wait, hinderers, is_reached, ring, via}
use Rattle.frs_locks.specs.declared.want.Want.{Want}
use Rattle.frs_locks.specs.declared.want.Want.TheVariants.{Held, Waits, Ring}

-- the first of the clients, which is the least where they rise
abbrev pub least_client : List ℕ → Option ℕ
least_client [] = None
least_client (d ∷ ds) = Some d

-- the holders once client c holds the lock, which ends its wait
abbrev pub with_held : Holders → ℕ → Lock → Holders
with_held hs c lock = slice_set hs c (record { locks = with_lock lock (holder_at hs c).locks; waits = None })

-- the holders once client c holds nothing and waits for nothing
abbrev pub without : Holders → ℕ → Holders
without hs c = slice_set hs c nobody

-- the client is told this, and the holders are these afterwards
abbrev pub IsAnswer : Holders → ℕ → Lock → Want → Holders → Type 0
IsAnswer hs c lock Held after = (hinderers hs c lock ≡ []) × (after ≡ with_held hs c lock)
IsAnswer hs c lock (Waits d) after =
    (least_client (hinderers hs c lock) ≡ Some d) × (ring hs c lock ≡ false) × (after ≡ with_wait hs c lock)
IsAnswer hs c lock (Ring d) after = (ring hs c lock ≡ true) × (via hs c lock ≡ Some d) × (after ≡ hs)

-- no client waits, by any number of steps, for itself
abbrev pub IsRingless : Holders → Type 0
IsRingless hs = (c : ℕ) → is_reached hs (length hs) c c ≡ false

-- the ring that the client's wait would close comes back from this client; none would be closed
abbrev pub IsRing : Holders → ℕ → Lock → Option ℕ → Type 0
IsRing hs c lock None = ring hs c lock ≡ false
IsRing hs c lock (Some d) = (ring hs c lock ≡ true) × (via hs c lock ≡ Some d)
