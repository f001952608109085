-- The files of a store say one thing: no two lists of its segments spell a log.
use Rattle.std.proofs.Common.{◌≡◌, ◌⊎◌, inl, inr, ℕ, ◌≤◌, List, [], ◌∷◌, ◌++◌, refl, sym, ap, subst, ◌∙◌, arith, IsTrue}
use Rattle.std.specs.List.{AllZip, list_all}
use Rattle.std.proofs.Math.Dec.{ltb, leb}
use Rattle.std.proofs.lemmas.Bool.{ltb-true, leb-true, and_parts}
use Rattle.std.proofs.lemmas.List.Folds.{list_all-append}
use Rattle.frs_types.specs.declared.record.Record.{Record}
use Rattle.frs_types.specs.Records.{Log, named_lowest, from_lowest}
use Rattle.frs_segment.specs.Segments.{File, WholeSegment, IsSegment, FileList, all_records, first_alone_reaches, first_of, are_enough, SpellsBy, Spells}
use Rattle.frs_types.proofs.Allowed.{lowest_behind}
use Rattle.frs_segment.proofs.SpellsBy.{all_records-append, enough_reaches}
use Rattle.frs_segment.proofs.OneSegment.{one_segment}

-- files are one list of segments
pub same_segments : (files : List File) (a b : List WholeSegment) → AllZip IsSegment files a → AllZip IsSegment files b → a ≡ b
same_segments [] [] [] za zb = refl
same_segments [] [] (t ∷ b) za zb = absurd zb
same_segments [] (s ∷ a) b za zb = absurd za
same_segments (f ∷ files) [] b za zb = absurd za
same_segments (f ∷ files) (s ∷ a) [] za zb = absurd zb
same_segments (f ∷ files) (s ∷ a) (t ∷ b) za zb =
    ap (λ (x : WholeSegment). x ∷ a) (one_segment f s t za.0 zb.0) ∙ ap (λ (x : List WholeSegment). t ∷ x) (same_segments files a b za.1 zb.1)

-- the segments of files, and of the files behind them
pub record Apart (m x : List File) (segments : List WholeSegment) : Type 0 where
  pub front : List WholeSegment
  pub back : List WholeSegment
  pub is : segments ≡ front ++ back
  pub front_zip : AllZip IsSegment m front
  pub back_zip : AllZip IsSegment x back

pub apart : (m x : List File) (segments : List WholeSegment) → AllZip IsSegment (m ++ x) segments → Apart m x segments
apart [] x segments z = record { front = []; back = segments; is = refl; front_zip = tt; back_zip = z }
apart (f ∷ m) x [] z = absurd z
apart (f ∷ m) x (s ∷ segments) z =
    let rest = apart m x segments z.1 in
    record { front = s ∷ rest.front; back = rest.back; is = ap (λ (t : List WholeSegment). s ∷ t) rest.is; front_zip = (z.0, rest.front_zip); back_zip = rest.back_zip }

-- of two ends of one list, one is an end of the other
pub ends : (a x b y : List File) → a ++ x ≡ b ++ y → ((m : List File) × (a ≡ b ++ m) × (y ≡ m ++ x)) ⊎ ((m : List File) × (b ≡ a ++ m) × (x ≡ m ++ y))
ends [] x b y e = inr (b, refl, e)
ends (f ∷ a) x [] y e = inl (f ∷ a, refl, sym e)
ends (f ∷ a) x (g ∷ b) y e =
    let head : f ≡ g = cc in
    let tail : a ++ x ≡ b ++ y = cc in
    elim (ends a x b y tail) [
      | inl (m, p, q) ↦ inl (m, ap (λ (h : File). h ∷ a) head ∙ ap (λ (z : List File). g ∷ z) p, q)
      | inr (m, p, q) ↦ inr (m, ap (λ (h : File). h ∷ b) (sym head) ∙ ap (λ (z : List File). f ∷ z) p, q)
    ]

-- files of which some aren't looked at have a record, and go back to where the newest one points
looked_enough : (file : File) (older : FileList) (segments : List WholeSegment) (rs : List Record) → IsTrue (are_enough (file ∷ older) segments rs) → (rs ≡ [] → ⊥) × IsTrue (first_alone_reaches (named_lowest rs) segments)
looked_enough file older segments [] is = absurd cc
looked_enough file older segments (r ∷ rs) is = ((λ e. cc), is)

-- segments before others that begin at or below the lowest don't reach there alone
pub no_earlier : (lowest : ℕ) (s : WholeSegment) (front segments : List WholeSegment) → (segments ≡ [] → ⊥) → first_of segments ≤ lowest → IsTrue (first_alone_reaches lowest ((s ∷ front) ++ segments)) → ⊥
no_earlier lowest s front [] some low more = some refl
no_earlier lowest s front (t ∷ segments) some low more =
    let above = (and_parts (leb s.first lowest) (list_all (λ (u : WholeSegment). ltb lowest u.first) (front ++ t ∷ segments)) more).1 in
    let both = and_parts (list_all (λ (u : WholeSegment). ltb lowest u.first) front) (list_all (λ (u : WholeSegment). ltb lowest u.first) (t ∷ segments)) (sym (list_all-append (λ (u : WholeSegment). ltb lowest u.first) front (t ∷ segments)) ∙ above) in
    let first = (and_parts (ltb lowest t.first) (list_all (λ (u : WholeSegment). ltb lowest u.first) segments) both.1).0 in
    omega (arith, low, ltb-true lowest t.first first)

-- nor do those before others that reach there alone
pub no_further : (lowest : ℕ) (s : WholeSegment) (front segments : List WholeSegment) → IsTrue (first_alone_reaches lowest segments) → IsTrue (first_alone_reaches lowest ((s ∷ front) ++ segments)) → ⊥
no_further lowest s front [] is more = cc
no_further lowest s front (t ∷ segments) is more =
    let reaches = (and_parts (leb t.first lowest) (list_all (λ (u : WholeSegment). ltb lowest u.first) segments) is).0 in
    no_earlier lowest s front (t ∷ segments) (λ e. cc) (leb-true t.first lowest reaches) more

begins : (xs : List File) (f : File) (m : List File) → (g : File) × (gs : List File) × (xs ++ f ∷ m ≡ g ∷ gs)
begins [] f m = (f, m, refl)
begins (x ∷ xs) f m = (x, xs ++ f ∷ m, refl)

none_behind : (rs qs : List Record) → rs ++ qs ≡ [] → qs ≡ []
none_behind [] qs e = e
none_behind (r ∷ rs) qs e = absurd cc

-- where one list of files goes back further than another, they are one
further : (image : FileList) (a b : List WholeSegment) (l k : Log) (p : SpellsBy image a l) (q : SpellsBy image b k) (m : List File) → p.older ≡ q.older ++ m → q.looked ≡ m ++ p.looked → b ≡ a
further image a b l k p q m older looked = at m older (apart m p.looked b (subst (λ (x : List File). AllZip IsSegment x b) looked q.each))
  where
    at : (m : List File) → p.older ≡ q.older ++ m → Apart m p.looked b → b ≡ a
    at [] older parts = at_end parts.front parts.front_zip parts.is
      where
        at_end : (front : List WholeSegment) → AllZip IsSegment [] front → b ≡ front ++ parts.back → b ≡ a
        at_end [] zip is = is ∙ same_segments p.looked parts.back a parts.back_zip p.each
        at_end (s ∷ front) zip is = absurd zip
    at (f ∷ m) older parts = at_start parts.front parts.front_zip parts.is
      where
        back_is : parts.back ≡ a
        back_is = same_segments p.looked parts.back a parts.back_zip p.each

        at_start : (front : List WholeSegment) → AllZip IsSegment (f ∷ m) front → b ≡ front ++ parts.back → b ≡ a
        at_start [] zip is = absurd zip
        at_start (s ∷ front) zip is =
            let all : b ≡ (s ∷ front) ++ a = is ∙ ap (λ (x : List WholeSegment). (s ∷ front) ++ x) back_is in
            let records : all_records b ≡ all_records (s ∷ front) ++ all_records a = ap all_records all ∙ all_records-append (s ∷ front) a in
            let (g, gs, cons) = begins q.older f m in
            let enough : IsTrue (are_enough (g ∷ gs) a (all_records a)) = subst (λ (x : FileList). IsTrue (are_enough x a (all_records a))) (older ∙ cons) p.enough in
            let (some, reaches) = looked_enough g gs a (all_records a) enough in
            let some_b : all_records b ≡ [] → ⊥ = λ none. some (none_behind (all_records (s ∷ front)) (all_records a) (sym records ∙ none)) in
            let lowest : named_lowest (all_records b) ≡ named_lowest (all_records a) = ap named_lowest records ∙ lowest_behind (all_records (s ∷ front)) (all_records a) some in
            let more : IsTrue (first_alone_reaches (named_lowest (all_records b)) b) = enough_reaches q.older b (all_records b) some_b q.enough in
            let moved : IsTrue (first_alone_reaches (named_lowest (all_records b)) ((s ∷ front) ++ a)) = subst (λ (x : List WholeSegment). IsTrue (first_alone_reaches (named_lowest (all_records b)) x)) all more in
            absurd (no_further (named_lowest (all_records a)) s front a reaches (subst (λ (n : ℕ). IsTrue (first_alone_reaches n ((s ∷ front) ++ a))) lowest moved))

pub same_spelling : (image : FileList) (a b : List WholeSegment) (log other : Log) → SpellsBy image a log → SpellsBy image b other → a ≡ b
same_spelling image a b log other p q =
    elim (ends p.older p.looked q.older q.looked (p.files ∙ sym q.files)) [
      | inl (m, older, looked) ↦ sym (further image a b log other p q m older looked)
      | inr (m, older, looked) ↦ further image b a other log q p m older looked
    ]

pub same_log : (image : FileList) (log other : Log) → Spells image log → Spells image other → log ≡ other
same_log image log other p q =
    let same = same_spelling image p.0 q.0 log other p.1 q.1 in
    p.1.shown ∙ ap (λ (x : List WholeSegment). from_lowest (first_of x) (all_records x)) same ∙ sym q.1.shown
