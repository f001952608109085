-- The four filters one behind the other, and what they hold once the newest records of a log were offered.
use Rattle.std.specs.Prelude.{◌≡◌, ℕ, ◌<◌, List, Option, Some, None}
use Rattle.std.specs.Ordering.{nat_cmp}
use Rattle.frs_types.specs.declared.record.Record.{Record}
use Rattle.frs_types.specs.Records.{Numbered}
use Rattle.frs_types.specs.Survivors.{committed_records, survivors_of}
use Rattle.frs_filters.specs.declared.chain.Chain.{Chain}
use Rattle.frs_filters.specs.Offered.{commits_in, names_in, deletes_in}
use Rattle.frs_filters.specs.Filters.{is_noted, is_map_noted, given_if, is_committed, with_commit, is_unnamed, with_named, is_undeleted, with_deleted, with_replayed}

-- ---- one record through the filters

abbrev pub past_deletes : Chain → Option (ℕ × Record) → Chain
past_deletes c None = c
past_deletes c (Some g) = record c { replay = with_replayed c.replay g.0 g.1.action }

abbrev pub past_skips : Chain → Option (ℕ × Record) → Chain
past_skips c None = c
past_skips c (Some g) =
    past_deletes (record c { deletes = with_deleted c.deletes g.1.action })
    (given_if (is_undeleted c.deletes g.1.action) g.0 g.1)

abbrev pub past_transactions : Chain → Option (ℕ × Record) → Chain
past_transactions c None = c
past_transactions c (Some g) =
    past_skips (record c { skips = with_named c.skips g.1.named })
    (given_if (is_unnamed c.skips g.0 g.1.action) g.0 g.1)

abbrev pub chain_after : Chain → ℕ → Record → Chain
chain_after c lsn r =
    past_transactions (record c { transactions = with_commit c.transactions r.tx r.action })
    (given_if (is_committed c.transactions r.tx r.action) lsn r)

-- ---- the newest records of a log

-- The chain was offered these records, listed oldest first, from the last to the first.
pub record HasSeen (c : Chain) (later : List Numbered) : Type 0 where
  pub commits : (tx : ℕ) → is_noted nat_cmp c.transactions tx ≡ commits_in later tx
  pub named : (n : ℕ) → 0 < n → is_noted nat_cmp c.skips n ≡ names_in (committed_records later) n
  pub deleted : (id : List ℕ) → is_map_noted c.deletes id ≡ deletes_in (committed_records later) id
  pub kept : c.replay ≡ survivors_of (committed_records later)
