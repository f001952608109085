-- One record more, and so a whole list.
use Rattle.std.proofs.Common.{◌≡◌, ℕ, Bool, ◌||◌, List, [], ◌∷◌, refl, nat_cmp}
use Rattle.frs_types.specs.declared.record.Action.{Action}
use Rattle.frs_types.specs.declared.record.Action.TheVariants.{Put, Remove, Delete, Begin, Commit, Compaction, Mark, Abandon}
use Rattle.frs_types.specs.declared.record.Record.{Record}
use Rattle.frs_types.specs.Records.{Numbered}
use Rattle.frs_types.specs.Survivors.{is_delete_of}
use Rattle.frs_filters.specs.Filters.{is_noted, is_map_noted, with_commit, with_named, with_deleted}
use Rattle.frs_filters.specs.Offered.{notes_after, commits_in, names_in, deletes_in}
use Rattle.frs_filters.proofs.IsNoted.{noted-number, noted-id}
use Rattle.frs_filters.proofs.HasSeen.{commits_step}

pub commits_noted : (later : List Numbered) (tx : ℕ) → is_noted nat_cmp (notes_after (λ (noted : List ℕ) (lsn : ℕ) (r : Record). with_commit noted r.tx r.action) [] later) tx ≡ commits_in later tx
commits_noted [] tx = refl
commits_noted (q ∷ later) tx = commits_step _ later q.lsn q.what.tx q.what.lowest q.what.named q.what.action (commits_noted later) tx

pub names_noted : (later : List Numbered) (n : ℕ) → is_noted nat_cmp (notes_after (λ (noted : List ℕ) (lsn : ℕ) (r : Record). with_named noted r.named) [] later) n ≡ names_in later n
names_noted [] n = refl
names_noted (q ∷ later) n = noted-number _ q.what.named n _ (names_noted later n)

one_deletes : (gone : List (List ℕ)) (a : Action) (id : List ℕ) (rest : Bool) → is_map_noted gone id ≡ rest → is_map_noted (with_deleted gone a) id ≡ (is_delete_of id a || rest)
one_deletes gone (Delete other) id rest h = noted-id gone other id rest h
one_deletes gone (Put other key value) id rest h = h
one_deletes gone (Remove other key) id rest h = h
one_deletes gone Begin id rest h = h
one_deletes gone Commit id rest h = h
one_deletes gone (Compaction other key value) id rest h = h
one_deletes gone Mark id rest h = h
one_deletes gone Abandon id rest h = h

pub deletes_noted : (later : List Numbered) (id : List ℕ) → is_map_noted (notes_after (λ (gone : List (List ℕ)) (lsn : ℕ) (r : Record). with_deleted gone r.action) [] later) id ≡ deletes_in later id
deletes_noted [] id = refl
deletes_noted (q ∷ later) id = one_deletes _ q.what.action id _ (deletes_noted later id)
