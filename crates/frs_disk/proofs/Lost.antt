-- What a crash that loses all that is pending leaves of a file: what was read at its last sync.
use Rattle.std.proofs.Common.{◌≡◌, ◌⊎◌, inl, inr, ⊎_elim, ℕ, Bool, true, false, List, [], ◌∷◌, ◌++◌, None, refl, sym, ◌∙◌, ap, subst}
use Rattle.std.proofs.lemmas.Bool.{cases_eq}
use Rattle.std.specs.FinMap.{get}
use Rattle.frs_disk.specs.Disk.{Image}
use Rattle.frs_disk.specs.declared.calls.Call.{Call}
use Rattle.frs_disk.specs.declared.calls.Call.TheVariants.{Segments, Create, Length, Read, Write, Sync, Remove}
use Rattle.frs_disk.specs.declared.calls.Made.{Made}
use Rattle.frs_disk.specs.Calls.{image_after, image_after_calls, chosen_image, chosen_made, SyncsMade, HasSynced, IsAsSynced}
use Rattle.frs_disk.proofs.LongerRecords.{replayed-push}
use Rattle.frs_disk.proofs.Choices.{mixed_here, mixed_other}

-- what one call does to the file: nothing, or it is its sync
abbrev Step : Made → Image → Image → ℕ → Type 0
Step made reads image n = ((SyncsMade made.done made.call n → ⊥) × (get (chosen_made None made.done made.call reads image) n ≡ get image n))
    ⊎ ((made ≡ record { call = Sync n; done = true }) × (get (chosen_made None made.done made.call reads image) n ≡ get reads n))

synced_step : (number : ℕ) (reads image : Image) (n : ℕ) → Step (record { call = Sync number; done = true }) reads image n
synced_step number reads image n = elim (cases_eq n number) [
  | inl is ↦ inr (ap (λ (k : ℕ). record { call = Sync k; done = true }) (sym is), subst (λ (k : ℕ). get (chosen_made None true (Sync number) reads image) k ≡ get reads k) (sym is) (mixed_here number image reads))
  | inr other ↦ inl (other, mixed_other number image reads n other)
]

call_step : (call : Call) (reads image : Image) (n : ℕ) → Step (record { call = call; done = true }) reads image n
call_step Segments reads image n = inl (λ none. none, refl)
call_step (Create number) reads image n = inl (λ none. none, refl)
call_step (Length number) reads image n = inl (λ none. none, refl)
call_step (Read number at room) reads image n = inl (λ none. none, refl)
call_step (Write number at bytes) reads image n = inl (λ none. none, refl)
call_step (Sync number) reads image n = synced_step number reads image n
call_step (Remove number) reads image n = inl (λ none. none, refl)

made_step : (done : Bool) (call : Call) (reads image : Image) (n : ℕ) → Step (record { call = call; done = done }) reads image n
made_step true call reads image n = call_step call reads image n
made_step false call reads image n = inl (λ none. none, refl)

-- the file was never synced, or these calls stand before its last sync, and these after it
abbrev Last : Image → Image → List Made → ℕ → Type 0
Last reads image calls n = ((HasSynced calls n → ⊥) × (get (chosen_image None reads image calls) n ≡ get image n))
    ⊎ ((earlier : List Made) × (later : List Made) × (calls ≡ earlier ++ record { call = Sync n; done = true } ∷ later) × (HasSynced later n → ⊥) × (get (chosen_image None reads image calls) n ≡ get (image_after_calls reads earlier) n))

last_sync : (reads image : Image) (calls : List Made) (n : ℕ) → Last reads image calls n
last_sync reads image [] n = inl (λ none. none, refl)
last_sync reads image (made ∷ calls) n = joined (last_sync (image_after made reads) (chosen_made None made.done made.call reads image) calls n) (made_step made.done made.call reads image n)
  where
    joined : Last (image_after made reads) (chosen_made None made.done made.call reads image) calls n → Step made reads image n → Last reads image (made ∷ calls) n
    joined (inr had) step = inr (made ∷ had.0, had.1, ap (λ (l : List Made). made ∷ l) had.2, had.3, had.4)
    joined (inl never) (inl other) = inl (λ has. ⊎_elim (λ here. other.0 here) (λ later. never.0 later) has, never.1 ∙ other.1)
    joined (inl never) (inr sync) = inr ([], calls, ap (λ (m : Made). m ∷ calls) sync.0, never.0, never.1 ∙ sync.1)

regrouped : (earlier later : List Made) (made : Made) → earlier ++ made ∷ later ≡ (earlier ++ made ∷ []) ++ later
regrouped [] later made = refl
regrouped (m ∷ earlier) later made = ap (λ (l : List Made). m ∷ l) (regrouped earlier later made)

pub lost_is_synced : (start : Image) (calls : List Made) (n : ℕ) → IsAsSynced start (chosen_image None start start calls) calls n
lost_is_synced start calls n = ⊎_elim
    (λ never. record { before = []; later = calls; split = refl; last = inl refl; none_later = never.0; same = never.1 })
    (λ had. record {
      before = had.0 ++ record { call = Sync n; done = true } ∷ [];
      later = had.1;
      split = had.2 ∙ regrouped had.0 had.1 (record { call = Sync n; done = true });
      last = inr (had.0, refl);
      none_later = had.3;
      same = had.4 ∙ ap (λ (i : Image). get i n) (sym (replayed-push start had.0 (record { call = Sync n; done = true })));
    })
    (last_sync start start calls n)
