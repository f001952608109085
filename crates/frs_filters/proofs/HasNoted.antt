-- One record in front of those that were shown.
use Rattle.std.proofs.Common.{◌≡◌, ℕ, min, Bool, true, false, not, ◌||◌, List, ◌∷◌, Option, Some, None, refl, sym, ap, ◌∙◌, subst, arith, nat_cmp}
use Rattle.std.specs.Prelude.{Result, Ok, Err, OnOk, ◌==◌, if◌then◌else◌}
use Rattle.std.specs.List.{list_any}
use Rattle.std.specs.BTreeSet.{insert_key}
use Rattle.frs_types.specs.declared.memory.NoMemory.{NoMemory}
use Rattle.frs_types.specs.declared.record.Action.{Action}
use Rattle.frs_types.specs.declared.record.Action.TheVariants.{Put, Remove, Delete, Begin, Commit, Compaction, Mark, Abandon}
use Rattle.frs_types.specs.declared.record.Record.{Record}
use Rattle.frs_types.specs.Records.{Numbered}
use Rattle.frs_types.specs.Survivors.{is_ended_by, open_begins, least}
use Rattle.frs_filters.specs.Filters.{is_noted}
use Rattle.frs_filters.specs.Begins.{Begins, is_ended, lower_of, with_noted, HasNoted}
use Rattle.frs_filters.proofs.IsNoted.{noted-number, or_swap}

abbrev numbered_at : ℕ → ℕ → ℕ → ℕ → Action → Numbered
numbered_at lsn tx lowest named a = record { lsn = lsn; what = record { tx = tx; lowest = lowest; named = named; action = a } }

min_two : (n k : ℕ) (m : Option ℕ) → lower_of (min n k) m ≡ min n (lower_of k m)
min_two n k None = refl
min_two n k (Some m) = omega arith

-- a begin, ended or not
begin : (b : Begins) (later : List Numbered) (lsn tx lowest named : ℕ) (e : Bool) → is_ended b lsn ≡ e → HasNoted b later → HasNoted (if e then b else record b { lowest = Some (lower_of lsn b.lowest) }) (numbered_at lsn tx lowest named Begin ∷ later)
begin b later lsn tx lowest named true h seen = record {
  ended = seen.ended;
  lowest = λ n. ap (λ v. least n (if not v then lsn ∷ open_begins later else open_begins later)) (sym (seen.ended lsn) ∙ h) ∙ seen.lowest n;
}
begin b later lsn tx lowest named false h seen = record {
  ended = seen.ended;
  lowest = λ n. ap (λ v. least n (if not v then lsn ∷ open_begins later else open_begins later)) (sym (seen.ended lsn) ∙ h) ∙ seen.lowest (min n lsn) ∙ min_two n lsn b.lowest;
}

ends : (b : Begins) (later : List Numbered) (tx t : ℕ) → is_ended b t ≡ list_any (λ (l : Numbered). is_ended_by t l.what.tx l.what.action) later
    → (b.marked || is_noted nat_cmp (insert_key nat_cmp b.ended tx) t) ≡ ((tx == t) || list_any (λ (l : Numbered). is_ended_by t l.what.tx l.what.action) later)
ends b later tx t h = ap (λ v. b.marked || v) (noted-number b.ended tx t _ refl) ∙ or_swap b.marked (tx == t) (is_noted nat_cmp b.ended t) ∙ ap (λ v. (tx == t) || v) h

noted : (b : Begins) (later : List Numbered) (lsn tx lowest named : ℕ) (a : Action) → HasNoted b later → HasNoted (with_noted b lsn tx a) (numbered_at lsn tx lowest named a ∷ later)
noted b later lsn tx lowest named Begin seen = begin b later lsn tx lowest named (is_ended b lsn) refl seen
noted b later lsn tx lowest named Commit seen = record { ended = λ t. ends b later tx t (seen.ended t); lowest = seen.lowest }
noted b later lsn tx lowest named Abandon seen = record { ended = λ t. ends b later tx t (seen.ended t); lowest = seen.lowest }
noted b later lsn tx lowest named Mark seen = record { ended = λ t. refl; lowest = seen.lowest }
noted b later lsn tx lowest named (Put id key value) seen = record { ended = seen.ended; lowest = seen.lowest }
noted b later lsn tx lowest named (Remove id key) seen = record { ended = seen.ended; lowest = seen.lowest }
noted b later lsn tx lowest named (Delete id) seen = record { ended = seen.ended; lowest = seen.lowest }
noted b later lsn tx lowest named (Compaction id key value) seen = record { ended = seen.ended; lowest = seen.lowest }

pub one_shown : (result : Result (Unit {0}) NoMemory) (b new : Begins) (later : List Numbered) (lsn : ℕ) (r : Record) → OnOk result (new ≡ with_noted b lsn r.tx r.action) → HasNoted b later → OnOk result (HasNoted new (record { lsn = lsn; what = r } ∷ later))
one_shown (Ok u) b new later lsn r h seen = let P : Begins → Type 0 = λ c. HasNoted c (record { lsn = lsn; what = r } ∷ later) in subst P (sym h) (noted b later lsn r.tx r.lowest r.named r.action seen)
one_shown (Err e) b new later lsn r h seen = h
