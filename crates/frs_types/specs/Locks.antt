-- Locks, who holds them, who waits for whom, and when a wait would close a ring.
use Rattle.std.specs.Prelude.{ℕ, zero, suc, Bool, false, not, ◌&&◌, ◌||◌, ◌==◌, List, [], ◌∷◌, length, filter, find, Option, Some, None, if◌then◌else◌, slice_index_or, slice_set}
use Rattle.std.specs.List.{list_any, range_with_len}
use Rattle.std.specs.Str.{bytes_eq}
use Rattle.frs_types.specs.declared.lock.Lock.{Lock}
use Rattle.frs_types.specs.declared.lock.Lock.TheVariants.{OnKey, OnMap}

-- ---- locks

-- A lock on a key is on that key of that map. A lock on a map is on all of its keys.
abbrev pub do_conflict : Lock → Lock → Bool
do_conflict (OnKey id key) (OnKey other k) = bytes_eq id other && bytes_eq key k
do_conflict (OnKey id key) (OnMap other) = bytes_eq id other
do_conflict (OnMap id) (OnKey other k) = bytes_eq id other
do_conflict (OnMap id) (OnMap other) = bytes_eq id other

abbrev pub same_lock : Lock → Lock → Bool
same_lock (OnKey id key) (OnKey other k) = bytes_eq id other && bytes_eq key k
same_lock (OnKey id key) (OnMap other) = false
same_lock (OnMap id) (OnKey other k) = false
same_lock (OnMap id) (OnMap other) = bytes_eq id other

-- the locks with one more, which is kept once
abbrev pub with_lock : Lock → List Lock → List Lock
with_lock lock locks = if list_any (same_lock lock) locks then locks else lock ∷ locks

-- ---- holders

-- the locks that a client holds, and the one that it waits for
pub record Holder : Type 0 where
  pub locks : List Lock
  pub waits : Option Lock

abbrev pub nobody : Holder
nobody = record { locks = []; waits = None }

-- the clients' holders, in order; that of client 0, the compactor, stands first and holds nothing
abbrev pub Holders : Type 0
Holders = List Holder

abbrev pub holder_at : Holders → ℕ → Holder
holder_at hs c = slice_index_or hs c nobody

-- no client holds a lock that conflicts with this one
abbrev pub is_free : Holders → Lock → Bool
is_free hs lock = not (list_any (λ (h : Holder). list_any (do_conflict lock) h.locks) hs)

-- ---- waiting

-- client d hinders client c at the lock
abbrev pub is_hindered_by : Holders → ℕ → Lock → ℕ → Bool
is_hindered_by hs c lock d = not (d == c) && list_any (do_conflict lock) (holder_at hs d).locks

-- the clients that hinder c at the lock, the least first
abbrev pub hinderers : Holders → ℕ → Lock → List ℕ
hinderers hs c lock = filter (is_hindered_by hs c lock) (range_with_len 0 (length hs))

abbrev pub hinderers_at : Holders → ℕ → Option Lock → List ℕ
hinderers_at hs c None = []
hinderers_at hs c (Some lock) = hinderers hs c lock

-- the clients for which c waits
abbrev pub waits_for : Holders → ℕ → List ℕ
waits_for hs c = hinderers_at hs c (holder_at hs c).waits

-- d is reached from c by one to k steps of waiting
abbrev pub is_reached : Holders → ℕ → ℕ → ℕ → Bool
is_reached hs zero c d = false
is_reached hs (suc k) c d = list_any (λ e. (e == d) || is_reached hs k e d) (waits_for hs c)

-- the holders once c's wait is noted
abbrev pub with_wait : Holders → ℕ → Lock → Holders
with_wait hs c lock = slice_set hs c (record (holder_at hs c) { waits = Some lock })

-- With c's wait for the lock c would be reached from c. A shortest ring has no client twice.
abbrev pub ring : Holders → ℕ → Lock → Bool
ring hs c lock = is_reached (with_wait hs c lock) (length hs) c c

-- the least hindering client from which the ring comes back
abbrev pub via : Holders → ℕ → Lock → Option ℕ
via hs c lock = find (λ d. is_reached (with_wait hs c lock) (length hs) d c) (hinderers hs c lock)
