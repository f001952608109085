-- One record more in a chunk.
use Rattle.std.proofs.Common.{◌≡◌, inl, inr, ⊎_elim, ℕ, ◌+◌, ◌-◌, ◌^◌, ◌<◌, ◌≤◌, List, [], ◌∷◌, ◌++◌, length, drop, Option, Some, None, IfSome, refl, sym, ◌∙◌, ap, subst, arith, append_assoc, length-append}
use Rattle.std.specs.Prelude.{replicate, Bool, nat_lt, if◌then◌else◌}
use Rattle.std.proofs.lemmas.Bool.{lt-ltb, le-ltb}
use Rattle.std.specs.Option.{option_to_list}
use Rattle.std.proofs.lemmas.List.{append-nil}
use Rattle.std.proofs.lemmas.Grind.{flat_map-append}
use Rattle.frs_slots.specs.Views.{TakerView, next_taken, IsOneMore, MissedRecord}
use Rattle.frs_segment.specs.Front.{chunk_head}
use Rattle.frs_writer.specs.Gates.{sealed_chunk}
use Rattle.frs_writer.specs.Chunk.{ChunkView}
use Rattle.frs_writer.specs.Groups.{joined_records, lowest_in, lowest_of_last, IsTooLong, HasGathered, GathersGroup, HasGroup, AddsRecord, StopsGroup}

joined-push : (group : List (List ℕ)) (b : List ℕ) → joined_records (group ++ b ∷ []) ≡ joined_records group ++ b
joined-push group b = flat_map-append (λ (x : List ℕ). x) group (b ∷ []) ∙ ap (λ (l : List ℕ). joined_records group ++ l) (append-nil b)

-- what the last record names
lowest-push : (other : ℕ) (group : List (List ℕ)) (b : List ℕ) → lowest_of_last other (group ++ b ∷ []) ≡ lowest_in b
lowest-push other [] b = refl
lowest-push other (x ∷ group) b = lowest-push (lowest_in x) group b

pub lowest_named : (other : ℕ) (group : List (List ℕ)) (count lowest : ℕ) → count ≡ length group → lowest ≡ lowest_of_last 0 group
    → (if nat_lt 0 count then lowest else other) ≡ lowest_of_last other group
lowest_named other [] count lowest none is = ap (λ (b : Bool). if b then lowest else other) (le-ltb 0 count (omega (arith, none)))
lowest_named other (x ∷ group) count lowest some is = ap (λ (b : Bool). if b then lowest else other) (lt-ltb 0 count (omega (arith, some))) ∙ is

-- the chunk's bytes are the head and the records
long : (chunk : ChunkView) (group : List (List ℕ)) → HasGroup chunk group → length chunk.bytes ≡ 16 + length (joined_records group)
long chunk group has = ap (λ (c : ChunkView). length c.bytes) has ∙ length-append (replicate 16 0) (joined_records group)

pub in_chunk : (chunk : ChunkView) (group : List (List ℕ)) → HasGroup chunk group → length (joined_records group) ≤ 2 ^ 20 → length group < 256
    → (16 ≤ length chunk.bytes) × (length chunk.bytes ≤ 1048592) × (chunk.count < 256)
in_chunk chunk group has fits few = (omega (arith, long chunk group has), omega (arith, long chunk group has, fits), omega (arith, ap (λ (c : ChunkView). c.count) has, few))

-- nothing, or the one that was kept
pub first_of_chunk : (kept : Option (List ℕ)) (before : TakerView) → IfSome kept (λ b. length b ≤ 65883) → HasGathered before before kept (option_to_list kept)
first_of_chunk None before fits = record { ring = (refl, refl); known = omega arith; sure = omega arith; within = λ h. h; taken = []; taken_are = sym (append-nil before.taken); group_is = refl; fits = omega arith; misses = refl; none_taken = λ none. refl }
first_of_chunk (Some b) before fits = record {
  ring = (refl, refl);
  known = omega arith;
  sure = omega arith;
  within = λ h. h;
  taken = [];
  taken_are = sym (append-nil before.taken);
  group_is = refl;
  fits = omega (arith, fits, ap length (append-nil b));
  misses = refl;
  none_taken = λ none. refl;
}

module _ (before t now : TakerView) (kept : Option (List ℕ)) (chunk after : ChunkView) (group : List (List ℕ)) (so_far : HasGathered before t kept group) (has : HasGroup chunk group) where
  pub one_more : (a : AddsRecord t now chunk after) → HasGathered before now kept (group ++ a.bytes ∷ []) × HasGroup after (group ++ a.bytes ∷ [])
  one_more a =
      let taken : now.taken ≡ before.taken ++ (so_far.taken ++ a.bytes ∷ []) = a.took.taken ∙ ap (λ (l : List (List ℕ)). l ++ a.bytes ∷ []) so_far.taken_are ∙ append_assoc before.taken so_far.taken (a.bytes ∷ []) in
      let one : length now.taken ≡ length t.taken + 1 = ap length a.took.taken ∙ length-append t.taken (a.bytes ∷ []) in (
        record {
          ring = (a.took.ring ∙ so_far.ring.0, a.took.first ∙ so_far.ring.1);
          known = omega (arith, so_far.known, a.took.known.0);
          sure = omega (arith, so_far.sure, a.took.sure);
          within = λ h. omega (arith, a.within, one, a.took.first);
          taken = so_far.taken ++ a.bytes ∷ [];
          taken_are = taken;
          group_is = ap (λ (l : List (List ℕ)). l ++ a.bytes ∷ []) so_far.group_is ∙ append_assoc (option_to_list kept) so_far.taken (a.bytes ∷ []);
          fits = omega (arith, a.fits, long chunk group has, ap length (joined-push group a.bytes), length-append (joined_records group) a.bytes);
          misses = a.took.misses ∙ so_far.misses;
          none_taken = λ none. absurd (omega (arith, length-append so_far.taken (a.bytes ∷ []), ap length none));
        },
        a.added ∙ ap (λ (c : ChunkView). record { count = c.count + 1; bytes = c.bytes ++ a.bytes; lowest = lowest_in a.bytes }) has
            ∙ ap (λ (n : ℕ). record { count = n; bytes = (replicate 16 0 ++ joined_records group) ++ a.bytes; lowest = lowest_in a.bytes }) (sym (length-append group (a.bytes ∷ [])))
            ∙ ap (λ (b : List ℕ). record { count = length (group ++ a.bytes ∷ []); bytes = b; lowest = lowest_in a.bytes }) (append_assoc (replicate 16 0) (joined_records group) a.bytes ∙ ap (λ (b : List ℕ). replicate 16 0 ++ b) (sym (joined-push group a.bytes)))
            ∙ ap (λ (n : ℕ). record { count = length (group ++ a.bytes ∷ []); bytes = replicate 16 0 ++ joined_records (group ++ a.bytes ∷ []); lowest = n }) (sym (lowest-push 0 group a.bytes)),
      )

  pub no_more : (limit : ℕ) (still : Option (List ℕ)) → length group ≤ limit → StopsGroup t now still chunk after → GathersGroup limit before now kept still group × HasGroup after group
  no_more limit still most s = ⊎_elim
      (λ n. let same : now ≡ record t { misses = now.misses } = n.1.same in (
        record {
          ring = (ap (λ (v : TakerView). v.ring) same ∙ so_far.ring.0, ap (λ (v : TakerView). v.first) same ∙ so_far.ring.1);
          known = omega (arith, so_far.known, ap (λ (v : TakerView). v.known) same);
          sure = omega (arith, so_far.sure, ap (λ (v : TakerView). v.sure) same);
          within = λ h. omega (arith, so_far.within h, ap next_taken same);
          taken = so_far.taken;
          taken_are = ap (λ (v : TakerView). v.taken) same ∙ so_far.taken_are;
          group_is = ap (λ (o : Option (List ℕ)). group ++ option_to_list o) n.0 ∙ append-nil group ∙ so_far.group_is;
          most = most;
          fits = so_far.fits;
          too_long = subst (λ (o : Option (List ℕ)). IfSome o (λ b. IsTooLong group b × (length b ≤ 65883))) (sym n.0) tt;
          stops = inr (λ none. (ap (λ (v : TakerView). v.known) same ∙ n.2 ∙ ap (λ (v : TakerView). length v.taken) (sym same), missed n.1));
          misses = inr (missed n.1);
          none_taken = λ none. same ∙ ap (λ (v : TakerView). record v { misses = now.misses }) (so_far.none_taken none);
        },
        s.chunk_is ∙ has,
      ))
      (λ k. let b = k.0 in let took = k.2 in
      let one : length now.taken ≡ length t.taken + 1 = ap length took.taken ∙ length-append t.taken (b ∷ []) in (
        record {
          ring = (took.ring ∙ so_far.ring.0, took.first ∙ so_far.ring.1);
          known = omega (arith, so_far.known, took.known.0);
          sure = omega (arith, so_far.sure, took.sure);
          within = λ h. omega (arith, k.3, one, took.first);
          taken = so_far.taken ++ b ∷ [];
          taken_are = took.taken ∙ ap (λ (l : List (List ℕ)). l ++ b ∷ []) so_far.taken_are ∙ append_assoc before.taken so_far.taken (b ∷ []);
          group_is = ap (λ (o : Option (List ℕ)). group ++ option_to_list o) k.1 ∙ ap (λ (l : List (List ℕ)). l ++ b ∷ []) so_far.group_is ∙ append_assoc (option_to_list kept) so_far.taken (b ∷ []);
          most = most;
          fits = so_far.fits;
          too_long = subst (λ (o : Option (List ℕ)). IfSome o (λ b. IsTooLong group b × (length b ≤ 65883))) (sym k.1) (omega (arith, k.4, long chunk group has), k.5);
          stops = inr (λ none. absurd (some_none b (sym k.1 ∙ none)));
          misses = inl (took.misses ∙ so_far.misses);
          none_taken = λ none. absurd (omega (arith, length-append so_far.taken (b ∷ []), ap length none));
        },
        s.chunk_is ∙ has,
      ))
      s.why
    where
      some_none : (b : List ℕ) → Some b ≡ None → ⊥
      some_none b is = cc

      missed : MissedRecord t now → IsOneMore before.misses now.misses
      missed m = subst (λ n. IsOneMore n now.misses) so_far.misses m.misses

  pub at_limit : (limit : ℕ) → length group ≡ limit → GathersGroup limit before t kept None group
  at_limit limit most = record {
    ring = so_far.ring;
    known = so_far.known;
    sure = so_far.sure;
    within = so_far.within;
    taken = so_far.taken;
    taken_are = so_far.taken_are;
    group_is = append-nil group ∙ so_far.group_is;
    most = omega (arith, most);
    fits = so_far.fits;
    too_long = tt;
    stops = inl most;
    misses = inl so_far.misses;
    none_taken = λ none. so_far.none_taken none ∙ ap (λ n. record before { misses = n }) (sym so_far.misses);
  }

-- a chunk that begins with what was kept, if anything was
pub record Begun (before : TakerView) (kept : Option (List ℕ)) (chunk : ChunkView) : Type 0 where
  pub group : List (List ℕ)
  pub gathered : HasGathered before before kept group
  pub has : HasGroup chunk group
  pub counted : length group ≡ chunk.count
  pub one : chunk.count ≤ 1

pub with_kept : (before : TakerView) (kept : Option (List ℕ)) (b : List ℕ) (chunk after : ChunkView) → kept ≡ Some b → length b ≤ 65883
    → chunk ≡ record { count = 0; bytes = replicate 16 0; lowest = 0 } → after ≡ record { count = chunk.count + 1; bytes = chunk.bytes ++ b; lowest = lowest_in b } → Begun before kept after
with_kept before kept b chunk after is short empty added =
    let whole : after ≡ record { count = 1; bytes = replicate 16 0 ++ b; lowest = lowest_in b } = added ∙ ap (λ (c : ChunkView). record { count = c.count + 1; bytes = c.bytes ++ b; lowest = lowest_in b }) empty in
    record {
      group = b ∷ [];
      gathered = subst (λ (o : Option (List ℕ)). HasGathered before before o (b ∷ [])) (sym is) (first_of_chunk (Some b) before short);
      has = whole ∙ ap (λ (l : List ℕ). record { count = 1; bytes = replicate 16 0 ++ l; lowest = lowest_in b }) (sym (append-nil b));
      counted = ap (λ (c : ChunkView). c.count) (sym whole);
      one = omega (arith, ap (λ (c : ChunkView). c.count) whole);
    }

pub without_kept : (before : TakerView) (kept : Option (List ℕ)) (chunk after : ChunkView) → kept ≡ None
    → chunk ≡ record { count = 0; bytes = replicate 16 0; lowest = 0 } → after ≡ chunk → Begun before kept after
without_kept before kept chunk after is empty same = record {
  group = [];
  gathered = subst (λ (o : Option (List ℕ)). HasGathered before before o []) (sym is) (first_of_chunk None before tt);
  has = same ∙ empty;
  counted = ap (λ (c : ChunkView). c.count) (sym (same ∙ empty));
  one = omega (arith, ap (λ (c : ChunkView). c.count) (same ∙ empty));
}

-- where nothing is in the chunk nothing was taken or kept
pub nothing_gathered : (limit : ℕ) (before now : TakerView) (kept still : Option (List ℕ)) (group : List (List ℕ)) → GathersGroup limit before now kept still group → length group ≡ 0
    → (kept ≡ None) × (still ≡ None) × (now.taken ≡ before.taken)
nothing_gathered limit before now kept None [] g none = let (empty, same) = at kept g.taken g.group_is g.taken_are in (empty, refl, same)
  where
    at : (o : Option (List ℕ)) (taken : List (List ℕ)) → [] ≡ option_to_list o ++ taken → now.taken ≡ before.taken ++ taken → (o ≡ None) × (now.taken ≡ before.taken)
    at None [] is are = (refl, are ∙ append-nil before.taken)
    at None (b ∷ taken) is are = absurd cc
    at (Some b) taken is are = absurd cc
nothing_gathered limit before now kept (Some b) [] g none = absurd (omega (arith, g.too_long))
nothing_gathered limit before now kept still (b ∷ group) g none = absurd (omega (arith, none))

-- and the next record was missed
pub nothing_missed : (limit : ℕ) (before now : TakerView) (kept still : Option (List ℕ)) (group : List (List ℕ)) → 1 ≤ limit → GathersGroup limit before now kept still group → length group ≡ 0
    → (kept ≡ None) × (still ≡ None) × MissedRecord before now
nothing_missed limit before now kept still group least g none =
    let (was, now_none, same) = nothing_gathered limit before now kept still group g none in (
      was,
      now_none,
      record {
        same = g.none_taken (no_more_taken before.taken g.taken (sym same ∙ g.taken_are));
        misses = ⊎_elim (λ full. absurd (omega (arith, full, none, least))) (λ stops. (stops now_none).1) g.stops;
      },
    )
  where
    no_more_taken : (xs ys : List (List ℕ)) → xs ≡ xs ++ ys → ys ≡ []
    no_more_taken xs [] is = refl
    no_more_taken xs (y ∷ ys) is = absurd (omega (arith, ap length is, length-append xs (y ∷ ys)))

-- the bytes of a chunk that was sealed_chunk
pub sealed_bytes : (first : ℕ) (chunk : ChunkView) (group : List (List ℕ)) → HasGroup chunk group
    → chunk_head (length chunk.bytes - 16) chunk.count first ++ drop 16 chunk.bytes ++ 0 ∷ [] ≡ sealed_chunk first (length group) (joined_records group)
sealed_bytes first chunk group has =
    ap (λ (c : ChunkView). chunk_head (length c.bytes - 16) c.count first ++ drop 16 c.bytes ++ 0 ∷ []) has
    ∙ ap (λ (n : ℕ). chunk_head n (length group) first ++ joined_records group ++ 0 ∷ []) (omega (arith, length-append (replicate 16 0) (joined_records group)))

pub body_is : (chunk : ChunkView) (group : List (List ℕ)) → HasGroup chunk group → length chunk.bytes - 16 ≡ length (joined_records group)
body_is chunk group has = omega (arith, long chunk group has)
