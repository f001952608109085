-- With the files of a store one thing is wrong first, or nothing is.
use Rattle.std.proofs.Common.{◌≡◌, inl, inr, ℕ, ◌-◌, not, List, [], ◌∷◌, ◌++◌, Some, refl, sym, ap, subst, ◌∙◌, append_assoc, arith, IsTrue}
use Rattle.std.specs.List.{AllZip, list_all}
use Rattle.std.proofs.Math.Dec.{ltb, leb, eqb}
use Rattle.std.proofs.lemmas.Bool.{ltb-true, leb-true, and_parts, both_ways, not-true}
use Rattle.std.proofs.lemmas.List.{append-nil}
use Rattle.std.proofs.lemmas.List.Folds.{list_all-append}
use Rattle.std.proofs.lemmas.Grind.{flat_map-append}
use Rattle.frs_types.specs.declared.record.Record.{Record}
use Rattle.frs_types.specs.Records.{Log, named_lowest}
use Rattle.frs_segment.specs.declared.fault.ScanFault.{ScanFault}
use Rattle.frs_segment.specs.Segments.{File, FileList, WholeSegment, IsSegment, records_of, all_records, first_alone_reaches, first_of, end_of, follow_from, are_enough, Spells}
use Rattle.frs_segment.specs.Scanning.{IsRefused}
use Rattle.frs_recovery.specs.declared.fault.RecoverFault.{RecoverFault}
use Rattle.frs_recovery.specs.FirstFault.{goes_further, HoldsDownTo, refusal_of, ends_below, gap_below, IsWrongBelow, IsWrongFirst}
use Rattle.frs_recovery.proofs.Lists.{ends, with_last, same_last, never_empty, apart}
use Rattle.frs_types.proofs.Allowed.{lowest_behind_one}

-- ---- records

-- where there is a record, a log that goes further is below all of the segments
below_all : (segments : List WholeSegment) (front : List Record) (r : Record) (rs : List Record) → IsTrue (goes_further segments (front ++ r ∷ rs)) → IsTrue (list_all (λ (s : WholeSegment). ltb (named_lowest (r ∷ rs)) s.first) segments)
below_all segments [] r rs further = further
below_all segments (q ∷ front) r rs further = subst (λ (n : ℕ). IsTrue (list_all (λ (s : WholeSegment). ltb n s.first) segments)) (lowest_behind_one (q ∷ front) r rs) further

-- a log that begins in one of the segments goes no further
reached : (lowest : ℕ) (front segments : List WholeSegment) → IsTrue (first_alone_reaches lowest segments) → IsTrue (list_all (λ (s : WholeSegment). ltb lowest s.first) (front ++ segments)) → ⊥
reached lowest front [] reaches above = cc
reached lowest front (t ∷ segments) reaches above =
    let here = (and_parts (leb t.first lowest) (list_all (λ (u : WholeSegment). ltb lowest u.first) segments) reaches).0 in
    let both = and_parts (list_all (λ (u : WholeSegment). ltb lowest u.first) front) (list_all (λ (u : WholeSegment). ltb lowest u.first) (t ∷ segments)) (sym (list_all-append (λ (u : WholeSegment). ltb lowest u.first) front (t ∷ segments)) ∙ above) in
    let first = (and_parts (ltb lowest t.first) (list_all (λ (u : WholeSegment). ltb lowest u.first) segments) both.1).0 in
    omega (arith, leb-true t.first lowest here, ltb-true lowest t.first first)

-- the segments above one begin where it ends
meets : (n : ℕ) (front : List WholeSegment) (s : WholeSegment) (segments : List WholeSegment) → IsTrue (follow_from n (front ++ s ∷ segments)) → IsTrue (ends_below s segments)
meets n [] s [] follow = refl
meets n [] s (t ∷ segments) follow = (and_parts (eqb t.first (end_of s)) (follow_from (end_of t) segments) (and_parts (eqb s.first n) (follow_from (end_of s) (t ∷ segments)) follow).1).0
meets n (q ∷ front) s segments follow = meets (end_of q) front s segments (and_parts (eqb q.first n) (follow_from (end_of q) (front ++ s ∷ segments)) follow).1

-- ---- files

module _ (same_segment : (file : File) (s t : WholeSegment) → IsSegment file s → IsSegment file t → s ≡ t)
    (not_refused : (file : File) (s : WholeSegment) (fault : ScanFault) → IsSegment file s → IsRefused file fault → ⊥)
    (same_fault : (file : File) (fault other : ScanFault) → IsRefused file fault → IsRefused file other → fault ≡ other) where
  same_segments : (files : List File) (a b : List WholeSegment) → AllZip IsSegment files a → AllZip IsSegment files b → a ≡ b
  same_segments [] [] [] za zb = refl
  same_segments [] [] (t ∷ b) za zb = absurd zb
  same_segments [] (s ∷ a) b za zb = absurd za
  same_segments (f ∷ files) [] b za zb = absurd za
  same_segments (f ∷ files) (s ∷ a) [] za zb = absurd zb
  same_segments (f ∷ files) (s ∷ a) (t ∷ b) za zb =
      ap (λ (x : WholeSegment). x ∷ a) (same_segment f s t za.0 zb.0) ∙ ap (λ (x : List WholeSegment). t ∷ x) (same_segments files a b za.1 zb.1)

  -- nothing is wrong where the next file is a segment that meets those above it
  nothing_wrong : (older before : FileList) (file : File) (s : WholeSegment) (segments : List WholeSegment) (fault : RecoverFault) → older ≡ before ++ file ∷ [] → IsSegment file s → IsTrue (ends_below s segments) → IsWrongBelow older segments fault → ⊥
  nothing_wrong older before file s segments fault e is meet (inl w) =
      not_refused file s w.why is (subst (λ (f : File). IsRefused f w.why) (sym (same_last before w.before file w.file (sym e ∙ w.greatest))) w.refused)
  nothing_wrong older before file s segments fault e is meet (inr (inl w)) =
      let file_is : w.file ≡ file = sym (same_last before w.before file w.file (sym e ∙ w.greatest)) in
      let next_is : w.next ≡ s = same_segment file w.next s (subst (λ (f : File). IsSegment f w.next) file_is w.is) is in
      both_ways (ends_below s segments) (not-true (ends_below s segments) (subst (λ (t : WholeSegment). IsTrue (not (ends_below t segments))) next_is w.apart)) meet
  nothing_wrong older before file s segments fault e is meet (inr (inr w)) = never_empty before file older e w.none

  -- nothing is wrong below segments above which the files go on well
  goes_on : (before : FileList) (f : File) (m looked : FileList) (segments all : List WholeSegment) (fault : RecoverFault) → AllZip IsSegment looked segments → AllZip IsSegment ((f ∷ m) ++ looked) all → IsTrue (follow_from (first_of all) all) → IsWrongBelow (before ++ f ∷ m) segments fault → ⊥
  goes_on before f m looked segments all fault zip more follow wrong =
      let (m0, g, e) = with_last f m in
      let zips : AllZip IsSegment (m0 ++ g ∷ looked) all = subst (λ (x : List File). AllZip IsSegment x all) (ap (λ (x : List File). x ++ looked) e ∙ append_assoc m0 (g ∷ []) looked) more in
      let parts = apart IsSegment m0 (g ∷ looked) all zips in
      at m0 g (ap (λ (x : List File). before ++ x) e ∙ sym (append_assoc before m0 (g ∷ []))) parts.front parts.back parts.is parts.back_zip
    where
      at : (m0 : FileList) (g : File) → before ++ f ∷ m ≡ (before ++ m0) ++ g ∷ [] → (front back : List WholeSegment) → all ≡ front ++ back → AllZip IsSegment (g ∷ looked) back → ⊥
      at m0 g e front [] is z = absurd z
      at m0 g e front (s ∷ rest) is z =
          let rest_is : rest ≡ segments = same_segments looked rest segments z.1 zip in
          let meet : IsTrue (ends_below s rest) = meets (first_of all) front s rest (subst (λ (x : List WholeSegment). IsTrue (follow_from (first_of all) x)) is follow) in
          nothing_wrong (before ++ f ∷ m) (before ++ m0) g s segments fault e z.0 (subst (λ (x : List WholeSegment). IsTrue (ends_below s x)) rest_is meet) wrong

  -- below the same segments one thing is wrong
  same_wrong : (older : FileList) (segments : List WholeSegment) (fault other : RecoverFault) → IsWrongBelow older segments fault → IsWrongBelow older segments other → fault ≡ other
  same_wrong older segments fault other (inl w) (inl v) =
      let file_is : w.file ≡ v.file = same_last w.before v.before w.file v.file (sym w.greatest ∙ v.greatest) in
      let why_is : w.why ≡ v.why = same_fault v.file w.why v.why (subst (λ (f : File). IsRefused f w.why) file_is w.refused) v.refused in
      let told : Some fault ≡ Some other = sym w.told ∙ ap (λ (f : File). refusal_of f.0 w.why) file_is ∙ ap (refusal_of v.file.0) why_is ∙ v.told in
      cc
  same_wrong older segments fault other (inl w) (inr (inl v)) =
      absurd (not_refused v.file v.next w.why v.is (subst (λ (f : File). IsRefused f w.why) (same_last w.before v.before w.file v.file (sym w.greatest ∙ v.greatest)) w.refused))
  same_wrong older segments fault other (inl w) (inr (inr v)) = absurd (never_empty w.before w.file older w.greatest v.none)
  same_wrong older segments fault other (inr (inl w)) (inl v) =
      absurd (not_refused w.file w.next v.why w.is (subst (λ (f : File). IsRefused f v.why) (same_last v.before w.before v.file w.file (sym v.greatest ∙ w.greatest)) v.refused))
  same_wrong older segments fault other (inr (inl w)) (inr (inl v)) =
      let file_is : w.file ≡ v.file = same_last w.before v.before w.file v.file (sym w.greatest ∙ v.greatest) in
      let next_is : w.next ≡ v.next = same_segment v.file w.next v.next (subst (λ (f : File). IsSegment f w.next) file_is w.is) v.is in
      w.told ∙ ap (λ (s : WholeSegment). gap_below segments (end_of s - 1)) next_is ∙ sym v.told
  same_wrong older segments fault other (inr (inl w)) (inr (inr v)) = absurd (never_empty w.before w.file older w.greatest v.none)
  same_wrong older segments fault other (inr (inr w)) (inl v) = absurd (never_empty v.before v.file older v.greatest w.none)
  same_wrong older segments fault other (inr (inr w)) (inr (inl v)) = absurd (never_empty v.before v.file older v.greatest w.none)
  same_wrong older segments fault other (inr (inr w)) (inr (inr v)) = w.told ∙ sym v.told

  -- ---- images

  -- where one goes down further than the other, they stop at one place
  one_below : (image : FileList) (fault other : RecoverFault) (older_a older_b : FileList) (a b : List WholeSegment) (p : HoldsDownTo image older_a a) (q : HoldsDownTo image older_b b) (m : List File) → older_a ≡ older_b ++ m → q.looked ≡ m ++ p.looked → IsWrongBelow older_a a fault → IsWrongBelow older_b b other → fault ≡ other
  one_below image fault other older_a older_b a b p q [] older looked wrong wrong_b =
      let same : a ≡ b = same_segments q.looked a b (subst (λ (x : List File). AllZip IsSegment x a) (sym looked) p.each) q.each in
      let moved : IsWrongBelow older_b b fault = subst (λ (s : List WholeSegment). IsWrongBelow older_b s fault) same (subst (λ (o : FileList). IsWrongBelow o a fault) (older ∙ append-nil older_b) wrong) in
      same_wrong older_b b fault other moved wrong_b
  one_below image fault other older_a older_b a b p q (f ∷ m) older looked wrong wrong_b =
      absurd (goes_on older_b f m p.looked a b fault p.each (subst (λ (x : List File). AllZip IsSegment x b) looked q.each) q.follow (subst (λ (o : FileList). IsWrongBelow o a fault) older wrong))

  pub one_fault : (image : FileList) (fault other : RecoverFault) → IsWrongFirst image fault → IsWrongFirst image other → fault ≡ other
  one_fault image fault other a b =
      elim (ends a.older a.holds.looked b.older b.holds.looked (a.holds.files ∙ sym b.holds.files)) [
        | inl (m, older, looked) ↦ one_below image fault other a.older b.older a.segments b.segments a.holds b.holds m older looked a.wrong b.wrong
        | inr (m, older, looked) ↦ sym (one_below image other fault b.older a.older b.segments a.segments b.holds a.holds m older looked b.wrong a.wrong)
      ]

  -- an empty log that is spelled misses nothing
  empty_log : (newer m : FileList) (front segments : List WholeSegment) (fault : RecoverFault) → [] ≡ newer ++ m → AllZip IsSegment m front → all_records segments ≡ [] → IsTrue (are_enough [] segments []) → IsWrongBelow newer (front ++ segments) fault → ⊥
  empty_log [] [] [] segments fault e zip none enough (inl w) = never_empty w.before w.file [] w.greatest refl
  empty_log [] [] [] segments fault e zip none enough (inr (inl w)) = never_empty w.before w.file [] w.greatest refl
  empty_log [] [] [] segments fault e zip none enough (inr (inr w)) =
      both_ways (are_enough [] segments (all_records segments)) (not-true (are_enough [] segments (all_records segments)) w.missed) (subst (λ (rs : List Record). IsTrue (are_enough [] segments rs)) (sym none) enough)
  empty_log [] [] (s ∷ front) segments fault e zip none enough wrong = absurd zip
  empty_log [] (f ∷ m) front segments fault e zip none enough wrong = cc
  empty_log (f ∷ newer) m front segments fault e zip none enough wrong = cc

  -- the log that is spelled goes no further than its segments
  whole_log : (older newer m : FileList) (front segments : List WholeSegment) (fault : RecoverFault) → IsTrue (are_enough older segments (all_records segments)) → IsTrue (goes_further (front ++ segments) (all_records (front ++ segments))) → AllZip IsSegment m front → older ≡ newer ++ m → IsWrongBelow newer (front ++ segments) fault → ⊥
  whole_log older newer m front segments fault enough further zip e wrong = at (all_records segments) refl older e enough
    where
      reaches : (o : FileList) (r : Record) (rs : List Record) → IsTrue (are_enough o segments (r ∷ rs)) → IsTrue (first_alone_reaches (named_lowest (r ∷ rs)) segments)
      reaches [] r rs is = is
      reaches (f ∷ o) r rs is = is

      at : (rs : List Record) → all_records segments ≡ rs → (o : FileList) → o ≡ newer ++ m → IsTrue (are_enough o segments rs) → ⊥
      at [] none [] e enough = empty_log newer m front segments fault e zip none enough wrong
      at [] none (f ∷ o) e enough = cc
      at (r ∷ rs) some o e enough =
          let all : all_records (front ++ segments) ≡ all_records front ++ r ∷ rs = flat_map-append records_of front segments ∙ ap (λ (x : List Record). all_records front ++ x) some in
          let above = below_all (front ++ segments) (all_records front) r rs (subst (λ (x : List Record). IsTrue (goes_further (front ++ segments) x)) all further) in
          reached (named_lowest (r ∷ rs)) front segments (reaches o r rs enough) above

  pub not_both : (image : FileList) (log : Log) (fault : RecoverFault) → Spells image log → IsWrongFirst image fault → ⊥
  not_both image log fault (segments, p) w =
      elim (ends w.older w.holds.looked p.older p.looked (w.holds.files ∙ sym p.files)) [
        | inl (m, older, looked) ↦ above m older looked
        | inr (m, older, looked) ↦ below m older looked
      ]
    where
      -- the log goes down at least as far as what holds
      above : (m : FileList) → w.older ≡ p.older ++ m → p.looked ≡ m ++ w.holds.looked → ⊥
      above [] older looked =
          let same : segments ≡ w.segments = same_segments w.holds.looked segments w.segments (subst (λ (x : List File). AllZip IsSegment x segments) looked p.each) w.holds.each in
          whole_log p.older w.older [] [] segments fault p.enough (subst (λ (x : List WholeSegment). IsTrue (goes_further x (all_records x))) (sym same) w.holds.further) tt (sym (older ∙ append-nil p.older) ∙ sym (append-nil w.older))
          (subst (λ (x : List WholeSegment). IsWrongBelow w.older x fault) (sym same) w.wrong)
      above (f ∷ m) older looked =
          goes_on p.older f m w.holds.looked w.segments segments fault w.holds.each (subst (λ (x : List File). AllZip IsSegment x segments) looked p.each) p.follow (subst (λ (o : FileList). IsWrongBelow o w.segments fault) older w.wrong)

      below : (m : FileList) → p.older ≡ w.older ++ m → w.holds.looked ≡ m ++ p.looked → ⊥
      below m older looked =
          let parts = apart IsSegment m p.looked w.segments (subst (λ (x : List File). AllZip IsSegment x w.segments) looked w.holds.each) in
          let back_is : parts.back ≡ segments = same_segments p.looked parts.back segments parts.back_zip p.each in
          let all : w.segments ≡ parts.front ++ segments = parts.is ∙ ap (λ (x : List WholeSegment). parts.front ++ x) back_is in
          whole_log p.older w.older m parts.front segments fault p.enough (subst (λ (x : List WholeSegment). IsTrue (goes_further x (all_records x))) all w.holds.further) parts.front_zip older (subst (λ (x : List WholeSegment). IsWrongBelow w.older x fault) all w.wrong)
