-- The index of the locks by their maps, and what it says.
use Rattle.std.specs.Prelude.{◌≡◌, ◌≢◌, ℕ, ◌+◌, ◌≤◌, Bool, true, false, ◌||◌, ◌==◌, List, length, Option, None, Some, slice_index_or}
use Rattle.std.specs.List.{list_any}
use Rattle.std.specs.Option.{option_eq}
use Rattle.std.specs.Ordering.{nat_cmp}
use Rattle.std.specs.Str.{bytes_eq}
use Rattle.std.specs.BTreeMap.{BTreeMap, get}
use Rattle.std.specs.Cmp.Lexicographic.{slice_cmp}
use Rattle.frs_types.specs.declared.lock.Lock.{Lock}
use Rattle.frs_types.specs.declared.lock.Lock.TheVariants.{OnKey, OnMap}
use Rattle.frs_types.specs.Locks.{Holders, nobody, holder_at, same_lock}
use Rattle.frs_locks.specs.Answers.{IsRingless}
use Rattle.frs_types.specs.declared.limits.TheConstants.{CLIENT_LIMIT}
use Rattle.frs_locks.specs.declared.map_locks.MapLocks.{MapLocks}

-- what the index has of the map
abbrev pub map_at : BTreeMap (List ℕ) MapLocks → List ℕ → Option MapLocks
map_at maps id = get (slice_cmp nat_cmp) maps id

abbrev pub is_client : Option ℕ → ℕ → Bool
is_client o d = option_eq ◌==◌ o (Some d)

-- client d holds the lock on the map
abbrev pub holds_map : Option MapLocks → ℕ → Bool
holds_map None d = false
holds_map (Some m) d = is_client m.whole d

-- client d holds the lock on the key
abbrev pub holds_key : Option MapLocks → List ℕ → ℕ → Bool
holds_key None key d = false
holds_key (Some m) key d = is_client (get (slice_cmp nat_cmp) m.keys key) d

-- client d holds a lock on some key of the map
abbrev pub holds_some_key : Option MapLocks → ℕ → Bool
holds_some_key None d = false
holds_some_key (Some m) d = slice_index_or m.clients d false

-- both say the same of each client
pub record SaysSame (m n : Option MapLocks) : Type 0 where
  pub map : (d : ℕ) → holds_map n d ≡ holds_map m d
  pub key : (k : List ℕ) (d : ℕ) → holds_key n k d ≡ holds_key m k d
  pub some_key : (d : ℕ) → holds_some_key n d ≡ holds_some_key m d

abbrev pub is_on_key_of : List ℕ → Lock → Bool
is_on_key_of id (OnKey other key) = bytes_eq id other
is_on_key_of id (OnMap other) = false

-- what is had of a map says of a client what the client's locks say
pub record SaysOf (m : Option MapLocks) (id : List ℕ) (d : ℕ) (locks : List Lock) : Type 0 where
  pub map : holds_map m d ≡ list_any (same_lock (OnMap id)) locks
  pub key : (k : List ℕ) → holds_key m k d ≡ list_any (same_lock (OnKey id k)) locks
  pub some_key : holds_some_key m d ≡ list_any (is_on_key_of id) locks

-- the index says what the holders say
abbrev pub IsIndexOf : BTreeMap (List ℕ) MapLocks → Holders → Type 0
IsIndexOf maps hs = (id : List ℕ) (d : ℕ) → SaysOf (map_at maps id) id d (holder_at hs d).locks

-- no client but c holds this very lock
abbrev pub NoOther : Holders → ℕ → Lock → Type 0
NoOther hs c lock = (d : ℕ) → d ≢ c → list_any (same_lock lock) (holder_at hs d).locks ≡ false

-- the index says of the others what their locks say, and of c no more than the locks that are left
pub record LeavesTo (maps : BTreeMap (List ℕ) MapLocks) (hs : Holders) (c : ℕ) (rest : List Lock) : Type 0 where
  pub others : (id : List ℕ) (d : ℕ) → d ≢ c → SaysOf (map_at maps id) id d (holder_at hs d).locks
  pub map : (id : List ℕ) → holds_map (map_at maps id) c ≡ true → list_any (same_lock (OnMap id)) rest ≡ true
  pub key : (id k : List ℕ) → holds_key (map_at maps id) k c ≡ true → list_any (same_lock (OnKey id k)) rest ≡ true
  pub some_key : (id : List ℕ) → holds_some_key (map_at maps id) c ≡ true → list_any (is_on_key_of id) rest ≡ true

-- client d is one of those that these three name
abbrev pub is_against : Option ℕ → Option ℕ → List Bool → ℕ → Bool
is_against whole key clients d = is_client whole d || (is_client key d || slice_index_or clients d false)

-- the index says what the holders say, nobody waits for itself, and client 0 has a place of its own
pub record AreSoundLocks (maps : BTreeMap (List ℕ) MapLocks) (hs : Holders) : Type 0 where
  pub indexed : IsIndexOf maps hs
  pub ringless : IsRingless hs
  pub some : 2 ≤ length hs
  pub most : length hs ≤ CLIENT_LIMIT + 1
  pub compactor : holder_at hs 0 ≡ nobody
