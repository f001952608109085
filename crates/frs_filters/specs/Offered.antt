-- What a filter has noted of all the records that it was offered.
use Rattle.std.specs.Prelude.{ℕ, Bool, ◌&&◌, ◌==◌, List, [], ◌∷◌}
use Rattle.std.specs.List.{list_any}
use Rattle.frs_types.specs.declared.record.Record.{Record}
use Rattle.frs_types.specs.Records.{Numbered}
use Rattle.frs_types.specs.Survivors.{is_commit, is_delete_of}

-- the notes of a filter that was offered these records, listed oldest first, from the last to the first
abbrev pub notes_after : {S : Type 0} → (S → ℕ → Record → S) → S → List Numbered → S
notes_after noted start [] = start
notes_after noted start (q ∷ later) = noted (notes_after noted start later) q.lsn q.what

-- ---- what such a list has

abbrev pub commits_in : List Numbered → ℕ → Bool
commits_in later tx = list_any (λ (l : Numbered). is_commit l.what.action && (l.what.tx == tx)) later

abbrev pub names_in : List Numbered → ℕ → Bool
names_in later n = list_any (λ (l : Numbered). l.what.named == n) later

abbrev pub deletes_in : List Numbered → List ℕ → Bool
deletes_in later id = list_any (λ (l : Numbered). is_delete_of id l.what.action) later
