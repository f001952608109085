-- A field that is read is what stands there, and what stands there is read.
use Rattle.std.proofs.Common.{◌≡◌, ℕ, ◌+◌, ◌-◌, ◌^◌, ◌<◌, ◌≤◌, Bool, true, false, cond, ltb, List, [], ◌∷◌, ◌++◌, length, get_or, take, drop, Ok, Err, refl, sym, ap, subst, ◌∙◌, append_assoc, arith, inl, inr}
use Rattle.std.specs.Prelude.{slice_range}
use Rattle.std.specs.Int.{Width, w8, w16, w64, byte_len, from_be_bytes, to_be_bytes}
use Rattle.std.proofs.lemmas.Bool.{cases_lt, ltb-false, le-ltb}
use Rattle.std.proofs.lemmas.List.{take_at, drop_at, length-append, length-take, length-drop, get_or-drop, get_or-take, get_or_past, drop-drop}
use Rattle.std.proofs.lemmas.List.Folds.{drop_split}
use Rattle.std.proofs.lemmas.Nat.{be_bytes_2, be_bytes_8, from_be_bytes-to_be_bytes_2, from_be_bytes-to_be_bytes_8}
use Rattle.frs_frame.specs.declared.fault.FrameFault.{FrameFault}
use Rattle.frs_frame.specs.declared.fault.FrameFault.TheVariants.{Short, Field}
use Rattle.frs_frame.specs.Spelling.{word_bytes}
use Rattle.frs_frame.specs.Decoding.{Reading, ◌>>=◌, field, number_at, if_holds, word_at}

abbrev pub IsBytes : List ℕ → Type 0
IsBytes bytes = (i : ℕ) → get_or bytes i 0 < 256

pub IsBytes-drop : (n : ℕ) (bytes : List ℕ) → IsBytes bytes → IsBytes (drop n bytes)
IsBytes-drop n bytes h i = rw get_or-drop (h (n + i))

pub IsBytes-take : (n : ℕ) (bytes : List ℕ) → IsBytes bytes → IsBytes (take n bytes)
IsBytes-take n bytes h i =
    elim (cases_lt i n) [
      | inl lt ↦ rw (get_or-take n bytes i 0 lt) (h i)
      | inr le ↦ rw (get_or_past (take n bytes) i 0 (omega (arith, length-take n bytes))) (omega arith)
    ]

-- the value of a step that did not fail
pub bind_ok : {X Y : Type 0} (r : Reading X) (f : X × ℕ → Reading Y) (y : Y × ℕ) → (r >>= f) ≡ Ok y → (x : X × ℕ) × (r ≡ Ok x) × (f x ≡ Ok y)
bind_ok (Ok x) f y e = (x, refl, e)
bind_ok (Err fault) f y e = absurd cc

abbrev done : {X : Type 0} → X × ℕ → Reading X
done x = Ok x

pub ok_is : {X : Type 0} (x y : X × ℕ) → done x ≡ done y → x ≡ y
ok_is x y e = cc

guard_fails : {X : Type 0} (b : Bool) (fault : FrameFault) (x y : X × ℕ) → cond b (Err fault) (Ok x) ≡ Ok y → (b ≡ false) × (x ≡ y)
guard_fails true fault x y e = absurd cc
guard_fails false fault x y e = (refl, cc)

guard_holds : {X : Type 0} (b : Bool) (fault : FrameFault) (x y : X × ℕ) → cond b (Ok x) (Err fault) ≡ Ok y → (b ≡ true) × (x ≡ y)
guard_holds true fault x y e = (refl, cc)
guard_holds false fault x y e = absurd cc

pub if_holds_ok : {X : Type 0} (test : X → Bool) (at : ℕ) (r : Reading X) (y : X × ℕ) → if_holds test at r ≡ Ok y → (r ≡ Ok y) × (test y.0 ≡ true)
if_holds_ok {X} test at (Ok x) y e =
    let g = guard_holds (test x.0) (Field at) x y e in
    subst (λ (z : X × ℕ). (done x ≡ done z) × (test z.0 ≡ true)) g.1 (refl, g.0)
if_holds_ok test at (Err fault) y e = absurd cc

-- the text stands at one offset and ends at the other
pub record Takes (bytes : List ℕ) (at : ℕ) (text : List ℕ) (end : ℕ) : Type 0 where
  pub parts : drop at bytes ≡ text ++ drop end bytes
  pub end_is : end ≡ at + length text
  pub within : end ≤ length bytes

pub Takes-then : (bytes : List ℕ) (a b c : ℕ) (x y : List ℕ) → Takes bytes a x b → Takes bytes b y c → Takes bytes a (x ++ y) c
Takes-then bytes a b c x y p q = record {
  parts = p.parts ∙ ap (λ (t : List ℕ). x ++ t) q.parts ∙ sym (append_assoc x y (drop c bytes));
  end_is = omega (arith, p.end_is, q.end_is, length-append x y);
  within = q.within;
}

pub Takes-split : (bytes : List ℕ) (a c : ℕ) (x y : List ℕ) → Takes bytes a (x ++ y) c → Takes bytes a x (a + length x) × Takes bytes (a + length x) y c
Takes-split bytes a c x y p =
    let whole : drop a bytes ≡ x ++ (y ++ drop c bytes) = p.parts ∙ append_assoc x y (drop c bytes) in
    let behind : drop (a + length x) bytes ≡ y ++ drop c bytes = sym (drop-drop (length x) a bytes) ∙ ap (drop (length x)) whole ∙ drop_at x (y ++ drop c bytes) (length x) refl in
    let len : c ≡ a + (length x + length y) = omega (arith, p.end_is, length-append x y) in
    (record { parts = whole ∙ ap (λ (t : List ℕ). x ++ t) (sym behind); end_is = refl; within = omega (arith, len, p.within) }, record { parts = behind; end_is = omega (arith, len); within = p.within })

-- what stands at the front
pub Takes-front : (bytes text rest : List ℕ) → bytes ≡ text ++ rest → Takes bytes 0 text (length text)
Takes-front bytes text rest e = record {
  parts = e ∙ ap (λ (t : List ℕ). text ++ t) (sym (ap (drop (length text)) e ∙ drop_at text rest (length text) refl));
  end_is = omega arith;
  within = omega (arith, ap length e, length-append text rest);
}

-- ---- one field

pub field_takes : (bytes : List ℕ) (at end : ℕ) (x : List ℕ × ℕ) → at ≤ end → field bytes at end ≡ Ok x → Takes bytes at x.0 end × (x.0 ≡ slice_range bytes at end) × (x.1 ≡ end)
unfolding field
field_takes bytes at end x le e =
    let g = guard_fails (ltb (length bytes) end) (Short end (length bytes)) (slice_range bytes at end, end) x e in
    let long : end ≤ length bytes = ltb-false _ _ g.0 in
    let len : length (slice_range bytes at end) ≡ end - at = omega (arith, length-take (end - at) (drop at bytes), length-drop at bytes) in
    let takes : Takes bytes at (slice_range bytes at end) end = record { parts = drop_split bytes at end le; end_is = omega (arith, len); within = long } in
    subst (λ (z : List ℕ × ℕ). Takes bytes at z.0 end × (z.0 ≡ slice_range bytes at end) × (z.1 ≡ end)) g.1 (takes, refl, refl)

pub field_again : (bytes : List ℕ) (at end : ℕ) (text : List ℕ) → Takes bytes at text end → field bytes at end ≡ Ok (text, end)
unfolding field
field_again bytes at end text t =
    let long : ltb (length bytes) end ≡ false = le-ltb _ _ t.within in
    let len : end - at ≡ length text = omega (arith, t.end_is) in
    let is : slice_range bytes at end ≡ text = ap (take (end - at)) t.parts ∙ take_at text (drop end bytes) (end - at) (sym len) in
    rw (long, is) refl

-- ---- numbers

pub record IsWide (w : Width) (limit : ℕ) : Type 0 where
  pub len : (n : ℕ) → length (to_be_bytes w n) ≡ byte_len w
  pub back : (bytes : List ℕ) → length bytes ≡ byte_len w → IsBytes bytes → to_be_bytes w (from_be_bytes w bytes) ≡ bytes
  pub again : (n : ℕ) → n < limit → from_be_bytes w (to_be_bytes w n) ≡ n
  pub below : (bytes : List ℕ) → IsBytes bytes → from_be_bytes w bytes < limit

byte_back : (bytes : List ℕ) → length bytes ≡ 1 → IsBytes bytes → to_be_bytes w8 (from_be_bytes w8 bytes) ≡ bytes
byte_back [] len fits = absurd (omega (arith, len))
byte_back (b ∷ []) len fits = ap (λ (n : ℕ). n ∷ []) (omega (arith, fits 0))
byte_back (a ∷ b ∷ bytes) len fits = absurd (omega (arith, len))

pub wide8 : IsWide w8 (2 ^ 8)
wide8 = record {
  len = λ n. refl;
  back = byte_back;
  again = λ n lt. omega arith;
  below = λ bytes fits. omega (arith, fits 0);
}

pub wide16 : IsWide w16 (2 ^ 16)
wide16 = record {
  len = λ n. refl;
  back = λ bytes len fits. be_bytes_2 bytes _ len fits refl;
  again = λ n lt. from_be_bytes-to_be_bytes_2 n lt;
  below = λ bytes fits. omega (arith, fits 0, fits 1);
}

pub wide64 : IsWide w64 (2 ^ 64)
wide64 = record {
  len = λ n. refl;
  back = λ bytes len fits. be_bytes_8 bytes _ len fits refl;
  again = λ n lt. from_be_bytes-to_be_bytes_8 n lt;
  below = λ bytes fits. omega (arith, fits 0, fits 1, fits 2, fits 3, fits 4, fits 5, fits 6, fits 7);
}

pub number_takes : (w : Width) (limit : ℕ) (wide : IsWide w limit) (bytes : List ℕ) (at : ℕ) (x : ℕ × ℕ) → IsBytes bytes → number_at w bytes at ≡ Ok x → Takes bytes at (to_be_bytes w x.0) x.1 × (x.0 < limit)
unfolding number_at
number_takes w limit wide bytes at x fits e =
    let b = bind_ok (field bytes at (at + byte_len w)) (λ f. Ok (from_be_bytes w f.0, f.1)) x e in
    let f = b.0 in
    let t = field_takes bytes at (at + byte_len w) f (omega arith) b.1 in
    let word_fits : IsBytes f.0 = rw t.1 (IsBytes-take (at + byte_len w - at) (drop at bytes) (IsBytes-drop at bytes fits)) in
    let len : length f.0 ≡ byte_len w = omega (arith, t.0.end_is) in
    let back : to_be_bytes w (from_be_bytes w f.0) ≡ f.0 = wide.back f.0 len word_fits in
    let takes : Takes bytes at (to_be_bytes w (from_be_bytes w f.0)) f.1 = rw (back, t.2) t.0 in
    subst (λ (z : ℕ × ℕ). Takes bytes at (to_be_bytes w z.0) z.1 × (z.0 < limit)) (ok_is (from_be_bytes w f.0, f.1) x b.2) (takes, wide.below f.0 word_fits)

pub number_again : (w : Width) (limit : ℕ) (wide : IsWide w limit) (bytes : List ℕ) (at n end : ℕ) → n < limit → Takes bytes at (to_be_bytes w n) end → number_at w bytes at ≡ Ok (n, end)
unfolding number_at
number_again w limit wide bytes at n end lt t =
    let end_is : at + byte_len w ≡ end = omega (arith, t.end_is, wide.len n) in
    rw (end_is, field_again bytes at end (to_be_bytes w n) t, wide.again n lt) refl

-- ---- words

pub word_takes : (w : Width) (limit : ℕ) (wide : IsWide w limit) (test : ℕ → Bool) (bytes : List ℕ) (at : ℕ) (x : List ℕ × ℕ) → IsBytes bytes → word_at w test bytes at ≡ Ok x → Takes bytes at (word_bytes w x.0) x.1 × (test (length x.0) ≡ true)
unfolding word_at
word_takes w limit wide test bytes at x fits e =
    let b = bind_ok (if_holds test at (number_at w bytes at)) (λ len. field bytes len.1 (len.1 + len.0)) x e in
    let len = b.0 in
    let g = if_holds_ok test at (number_at w bytes at) len b.1 in
    let first = number_takes w limit wide bytes at len fits g.0 in
    let second = field_takes bytes len.1 (len.1 + len.0) x (omega arith) b.2 in
    let len_is : len.0 ≡ length x.0 = omega (arith, second.0.end_is) in
    let behind : Takes bytes len.1 x.0 x.1 = subst (λ (z : ℕ). Takes bytes len.1 x.0 z) (sym second.2) second.0 in
    let both = Takes-then bytes at len.1 x.1 (to_be_bytes w len.0) x.0 first.0 behind in
    (subst (λ (n : ℕ). Takes bytes at (to_be_bytes w n ++ x.0) x.1) len_is both, ap test (sym len_is) ∙ g.1)

pub word_again : (w : Width) (limit : ℕ) (wide : IsWide w limit) (test : ℕ → Bool) (bytes : List ℕ) (at end : ℕ) (word : List ℕ) → length word < limit → test (length word) ≡ true → Takes bytes at (word_bytes w word) end → word_at w test bytes at ≡ Ok (word, end)
unfolding word_at
word_again w limit wide test bytes at end word lt holds t =
    let s = Takes-split bytes at end (to_be_bytes w (length word)) word t in
    let start = at + length (to_be_bytes w (length word)) in
    let end_is : start + length word ≡ end = sym s.1.end_is in
    rw (number_again w limit wide bytes at (length word) start lt s.0, holds, end_is) (field_again bytes start end word s.1)
