-- Records: which ones may stand at an LSN, and logs.
use Rattle.std.specs.Prelude.{ℕ, ◌+◌, ◌-◌, ◌^◌, ◌<◌, Bool, true, ◌&&◌, ◌==◌, nat_lt, nat_le, List, [], ◌∷◌, length, drop, None, IsTrue, unwrap_or, option_map}
use Rattle.std.specs.List.{last_or}
use Rattle.frs_types.specs.declared.record.Action.{Action}
use Rattle.frs_types.specs.declared.record.Action.TheVariants.{Put, Remove, Delete, Begin, Commit, Compaction, Mark, Abandon}
use Rattle.frs_types.specs.declared.record.Record.{Record}
use Rattle.frs_types.specs.declared.limits.TheConstants.{ID_LIMIT, KEY_LIMIT, VALUE_LIMIT}

-- ---- what may stand at an LSN

-- the number of bytes that an id, a key and a value may have
abbrev pub is_id_len : ℕ → Bool
is_id_len n = nat_le 1 n && nat_le n ID_LIMIT

abbrev pub is_key_len : ℕ → Bool
is_key_len n = nat_le 1 n && nat_le n KEY_LIMIT

abbrev pub is_value_len : ℕ → Bool
is_value_len n = nat_le n VALUE_LIMIT

abbrev pub is_id : List ℕ → Bool
is_id word = is_id_len (length word)

abbrev pub is_key : List ℕ → Bool
is_key word = is_key_len (length word)

abbrev pub is_value : List ℕ → Bool
is_value word = is_value_len (length word)

-- the words of an action are within their limits
abbrev pub has_words : Action → Bool
has_words (Put id key value) = is_id id && is_key key && is_value value
has_words (Remove id key) = is_id id && is_key key
has_words (Delete id) = is_id id
has_words (Compaction id key value) = is_id id && is_key key && is_value value
has_words other = true

-- the transaction and the named LSN that each kind allows; a begin is its transaction
abbrev pub kind_allows : ℕ → Action → ℕ → ℕ → Bool
kind_allows n (Put id key value) tx named = nat_lt tx n
kind_allows n (Remove id key) tx named = nat_lt tx n
kind_allows n (Delete id) tx named = nat_lt tx n && (named == 0)
kind_allows n Begin tx named = (tx == n) && (named == 0)
kind_allows n Commit tx named = nat_lt 0 tx && nat_lt tx n && (named == 0)
kind_allows n (Compaction id key value) tx named = (tx == 0) && nat_lt 0 named
kind_allows n Mark tx named = (tx == 0) && (named == 0)
kind_allows n Abandon tx named = nat_lt 0 tx && nat_lt tx n && (named == 0)

-- the record may stand at the LSN n
abbrev pub is_allowed : ℕ → Record → Bool
is_allowed n r = kind_allows n r.action r.tx r.named && nat_lt r.named n && nat_lt 0 r.lowest && nat_le r.lowest n &&
    has_words r.action

-- what a record can hold, whether or not it may stand in a log: each number fits its type, and each word its limit
pub record Fits (r : Record) : Type 0 where
  pub tx : r.tx < 2 ^ 64
  pub lowest : r.lowest < 2 ^ 64
  pub named : r.named < 2 ^ 64
  pub words : IsTrue (has_words r.action)

-- the transaction and the named LSN that each kind allows at some LSN
abbrev pub kind_permits : Action → ℕ → ℕ → Bool
kind_permits (Put id key value) tx named = true
kind_permits (Remove id key) tx named = true
kind_permits (Delete id) tx named = named == 0
kind_permits Begin tx named = nat_lt 0 tx && (named == 0)
kind_permits Commit tx named = nat_lt 0 tx && (named == 0)
kind_permits (Compaction id key value) tx named = (tx == 0) && nat_lt 0 named
kind_permits Mark tx named = (tx == 0) && (named == 0)
kind_permits Abandon tx named = nat_lt 0 tx && (named == 0)

-- the record may stand at some LSN
abbrev pub well_formed : Record → Bool
well_formed r = kind_permits r.action r.tx r.named && nat_lt 0 r.lowest && has_words r.action

-- ---- logs

-- the LSN of the first record, and the records; each record's LSN follows from its place
pub record Log : Type 0 where
  pub first : ℕ
  pub records : List Record

abbrev pub next_lsn : Log → ℕ
next_lsn log = log.first + length log.records

-- a record with its LSN
pub record Numbered : Type 0 where
  pub lsn : ℕ
  pub what : Record

abbrev pub numbered_records_from : ℕ → List Record → List Numbered
numbered_records_from n [] = []
numbered_records_from n (r ∷ rs) = record { lsn = n; what = r } ∷ numbered_records_from (n + 1) rs

abbrev pub numbered_records : Log → List Numbered
numbered_records log = numbered_records_from log.first log.records

-- from the LSN n on each record may stand in its place
abbrev pub are_allowed_from : ℕ → List Record → Bool
are_allowed_from n [] = true
are_allowed_from n (r ∷ rs) = is_allowed n r && are_allowed_from (n + 1) rs

-- and besides their lowest never falls, from low on
abbrev pub are_placed_from : ℕ → ℕ → List Record → Bool
are_placed_from low n [] = true
are_placed_from low n (r ∷ rs) = is_allowed n r && nat_le low r.lowest && are_placed_from r.lowest (n + 1) rs

abbrev pub IsPlaced : Log → Type 0
IsPlaced log = IsTrue (are_placed_from 0 log.first log.records)

-- the lowest that the newest record names, or 1
abbrev pub named_lowest : List Record → ℕ
named_lowest rs = unwrap_or (option_map (λ (r : Record). r.lowest) (last_or None rs)) 1

-- of these records, the first of which has the LSN first, those from the named lowest to the newest
abbrev pub from_lowest : ℕ → List Record → Log
from_lowest first rs = record { first = named_lowest rs; records = drop (named_lowest rs - first) rs }
