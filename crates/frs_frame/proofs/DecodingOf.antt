-- The record that is read stands at the front, and the record that stands at the front is read.
use Rattle.std.proofs.Common.{◌≡◌, ℕ, ◌+◌, ◌^◌, ◌<◌, ◌≤◌, Bool, true, false, ◌&&◌, cond, ltb, leb, eqb, List, [], ◌∷◌, ◌++◌, length, take, drop, Option, Some, None, Result, Ok, Err, refl, sym, ap, subst, ◌∙◌, arith, inl, inr, ◌⊎◌}
use Rattle.std.specs.Prelude.{IfOk}
use Rattle.std.specs.List.{find}
use Rattle.std.specs.Int.{w8, w16, w64, to_be_bytes}
use Rattle.std.proofs.lemmas.Bool.{leb-true, eqb-true, and_parts, and_from}
use Rattle.std.proofs.lemmas.List.{take_at, drop_at, length-append}
use Rattle.frs_types.specs.declared.record.Action.{Action}
use Rattle.frs_types.specs.declared.record.Action.TheVariants as actions
use Rattle.frs_types.specs.declared.record.Record.{Record}
use Rattle.frs_types.specs.Records.{is_id_len, is_key_len, is_value_len, has_words, kind_permits, well_formed, Fits}
use Rattle.frs_frame.specs.declared.decoding.Head.{Head}
use Rattle.frs_frame.specs.declared.fault.FrameFault.{FrameFault}
use Rattle.frs_frame.specs.declared.kind.Kind.{Kind}
use Rattle.frs_frame.specs.declared.kind.Kind.TheVariants.{Put, Remove, Delete, Begin, Commit, Compaction, Mark, Abandon}
use Rattle.frs_frame.specs.Kinds.{kind_of, code, kinds, kind_of_byte, permits_tx, permits_named}
use Rattle.frs_frame.specs.Spelling.{word_bytes, id_width, key_width, value_width, payload, numbers, spelling}
use Rattle.frs_frame.specs.Decoding.{Reading, ◌>>=◌, GivesDecoded, number_at, if_holds, id_at, key_at, value_at, action_at, kind_or_fault, kind_at, head_at, decoding_of}
use Rattle.frs_frame.specs.Front.{StandsAtFront}
use Rattle.frs_frame.proofs.Takes.{IsBytes, bind_ok, ok_is, if_holds_ok, Takes, Takes-then, Takes-split, Takes-front, wide8, wide16, wide64, number_takes, number_again, word_takes, word_again}

abbrev some : {X : Type 0} → X → Option X
some x = Some x

-- ---- words

id_takes : (bytes : List ℕ) (at : ℕ) (x : List ℕ × ℕ) → IsBytes bytes → id_at bytes at ≡ Ok x → Takes bytes at (word_bytes id_width x.0) x.1 × (is_id_len (length x.0) ≡ true)
unfolding id_at
id_takes bytes at x fits e = word_takes w8 (2 ^ 8) wide8 is_id_len bytes at x fits e

key_takes : (bytes : List ℕ) (at : ℕ) (x : List ℕ × ℕ) → IsBytes bytes → key_at bytes at ≡ Ok x → Takes bytes at (word_bytes key_width x.0) x.1 × (is_key_len (length x.0) ≡ true)
unfolding key_at
key_takes bytes at x fits e = word_takes w8 (2 ^ 8) wide8 is_key_len bytes at x fits e

value_takes : (bytes : List ℕ) (at : ℕ) (x : List ℕ × ℕ) → IsBytes bytes → value_at bytes at ≡ Ok x → Takes bytes at (word_bytes value_width x.0) x.1 × (is_value_len (length x.0) ≡ true)
unfolding value_at
value_takes bytes at x fits e = word_takes w16 (2 ^ 16) wide16 is_value_len bytes at x fits e

id_again : (bytes : List ℕ) (at end : ℕ) (word : List ℕ) → is_id_len (length word) ≡ true → Takes bytes at (word_bytes id_width word) end → id_at bytes at ≡ Ok (word, end)
unfolding id_at
id_again bytes at end word is t =
    let most = leb-true (length word) 64 (and_parts (leb 1 (length word)) (leb (length word) 64) is).1 in
    word_again w8 (2 ^ 8) wide8 is_id_len bytes at end word (omega (arith, most)) is t

key_again : (bytes : List ℕ) (at end : ℕ) (word : List ℕ) → is_key_len (length word) ≡ true → Takes bytes at (word_bytes key_width word) end → key_at bytes at ≡ Ok (word, end)
unfolding key_at
key_again bytes at end word is t =
    let most = leb-true (length word) 255 (and_parts (leb 1 (length word)) (leb (length word) 255) is).1 in
    word_again w8 (2 ^ 8) wide8 is_key_len bytes at end word (omega (arith, most)) is t

value_again : (bytes : List ℕ) (at end : ℕ) (word : List ℕ) → is_value_len (length word) ≡ true → Takes bytes at (word_bytes value_width word) end → value_at bytes at ≡ Ok (word, end)
unfolding value_at
value_again bytes at end word is t =
    let most = leb-true (length word) 65535 is in
    word_again w16 (2 ^ 16) wide16 is_value_len bytes at end word (omega (arith, most)) is t

-- ---- what stands behind the head

-- an action that was read
record TakesAction (kind : Kind) (bytes : List ℕ) (at : ℕ) (x : Action × ℕ) : Type 0 where
  takes : Takes bytes at (payload x.0) x.1
  kind_is : kind_of x.0 ≡ kind
  words : has_words x.0 ≡ true

nothing : (bytes : List ℕ) (at : ℕ) → at ≤ length bytes → Takes bytes at [] at
nothing bytes at le = record { parts = refl; end_is = omega arith; within = le }

three_words : (bytes : List ℕ) (at : ℕ) {X : Type 0} (make : List ℕ → List ℕ → List ℕ → X) (x : X × ℕ) → IsBytes bytes
    → (id_at bytes at >>= λ i. key_at bytes i.1 >>= λ k. value_at bytes k.1 >>= λ v. Ok (make i.0 k.0 v.0, v.1)) ≡ Ok x
    → (id : List ℕ) × (key : List ℕ) × (value : List ℕ) × (end : ℕ)
    × ((make id key value, end) ≡ x) × Takes bytes at (word_bytes id_width id ++ word_bytes key_width key ++ word_bytes value_width value) end
    × (is_id_len (length id) ≡ true) × (is_key_len (length key) ≡ true) × (is_value_len (length value) ≡ true)
three_words bytes at make x fits e =
    let a = bind_ok (id_at bytes at) (λ i. key_at bytes i.1 >>= λ k. value_at bytes k.1 >>= λ v. Ok (make i.0 k.0 v.0, v.1)) x e in
    let b = bind_ok (key_at bytes a.0.1) (λ k. value_at bytes k.1 >>= λ v. Ok (make a.0.0 k.0 v.0, v.1)) x a.2 in
    let c = bind_ok (value_at bytes b.0.1) (λ v. Ok (make a.0.0 b.0.0 v.0, v.1)) x b.2 in
    let i = id_takes bytes at a.0 fits a.1 in
    let k = key_takes bytes a.0.1 b.0 fits b.1 in
    let v = value_takes bytes b.0.1 c.0 fits c.1 in
    let ik = Takes-then bytes at a.0.1 b.0.1 (word_bytes id_width a.0.0) (word_bytes key_width b.0.0) i.0 k.0 in
    let ikv = Takes-then bytes at b.0.1 c.0.1 (word_bytes id_width a.0.0 ++ word_bytes key_width b.0.0) (word_bytes value_width c.0.0) ik v.0 in
    (a.0.0, b.0.0, c.0.0, c.0.1, ok_is (make a.0.0 b.0.0 c.0.0, c.0.1) x c.2, ikv, i.1, k.1, v.1)

two_words : (bytes : List ℕ) (at : ℕ) (x : Action × ℕ) → IsBytes bytes → action_at Remove bytes at ≡ Ok x → TakesAction Remove bytes at x
unfolding action_at
two_words bytes at x fits e =
    let a = bind_ok (id_at bytes at) (λ i. key_at bytes i.1 >>= λ k. Ok (actions.Remove i.0 k.0, k.1)) x e in
    let b = bind_ok (key_at bytes a.0.1) (λ k. Ok (actions.Remove a.0.0 k.0, k.1)) x a.2 in
    let i = id_takes bytes at a.0 fits a.1 in
    let k = key_takes bytes a.0.1 b.0 fits b.1 in
    let ik = Takes-then bytes at a.0.1 b.0.1 (word_bytes id_width a.0.0) (word_bytes key_width b.0.0) i.0 k.0 in
    subst (TakesAction Remove bytes at) (ok_is (actions.Remove a.0.0 b.0.0, b.0.1) x b.2) (record { takes = ik; kind_is = refl; words = and_from (is_id_len (length a.0.0)) (is_key_len (length b.0.0)) i.1 k.1 })

one_word : (bytes : List ℕ) (at : ℕ) (x : Action × ℕ) → IsBytes bytes → action_at Delete bytes at ≡ Ok x → TakesAction Delete bytes at x
unfolding action_at
one_word bytes at x fits e =
    let a = bind_ok (id_at bytes at) (λ i. Ok (actions.Delete i.0, i.1)) x e in
    let i = id_takes bytes at a.0 fits a.1 in
    subst (TakesAction Delete bytes at) (ok_is (actions.Delete a.0.0, a.0.1) x a.2) (record { takes = i.0; kind_is = refl; words = i.1 })

all_words : (id key value : List ℕ) → is_id_len (length id) ≡ true → is_key_len (length key) ≡ true → is_value_len (length value) ≡ true → (is_id_len (length id) && is_key_len (length key) && is_value_len (length value)) ≡ true
all_words id key value i k v = and_from (is_id_len (length id) && is_key_len (length key)) (is_value_len (length value)) (and_from (is_id_len (length id)) (is_key_len (length key)) i k) v

action_takes : (kind : Kind) (bytes : List ℕ) (at : ℕ) (x : Action × ℕ) → IsBytes bytes → at ≤ length bytes → action_at kind bytes at ≡ Ok x → TakesAction kind bytes at x
unfolding action_at
action_takes Put bytes at x fits le e =
    let (id, key, value, end, is, takes, i, k, v) = three_words bytes at actions.Put x fits e in
    subst (TakesAction Put bytes at) is (record { takes = takes; kind_is = refl; words = all_words id key value i k v })
action_takes Remove bytes at x fits le e = two_words bytes at x fits e
action_takes Delete bytes at x fits le e = one_word bytes at x fits e
action_takes Begin bytes at x fits le e = subst (TakesAction Begin bytes at) (ok_is (actions.Begin, at) x e) (record { takes = nothing bytes at le; kind_is = refl; words = refl })
action_takes Commit bytes at x fits le e = subst (TakesAction Commit bytes at) (ok_is (actions.Commit, at) x e) (record { takes = nothing bytes at le; kind_is = refl; words = refl })
action_takes Compaction bytes at x fits le e =
    let (id, key, value, end, is, takes, i, k, v) = three_words bytes at actions.Compaction x fits e in
    subst (TakesAction Compaction bytes at) is (record { takes = takes; kind_is = refl; words = all_words id key value i k v })
action_takes Mark bytes at x fits le e = subst (TakesAction Mark bytes at) (ok_is (actions.Mark, at) x e) (record { takes = nothing bytes at le; kind_is = refl; words = refl })
action_takes Abandon bytes at x fits le e = subst (TakesAction Abandon bytes at) (ok_is (actions.Abandon, at) x e) (record { takes = nothing bytes at le; kind_is = refl; words = refl })

-- an action that stands there is read
two_again : (bytes : List ℕ) (at end : ℕ) (id key : List ℕ) → is_id_len (length id) ≡ true → is_key_len (length key) ≡ true
    → Takes bytes at (word_bytes id_width id ++ word_bytes key_width key) end
    → (mid : ℕ) × (id_at bytes at ≡ Ok (id, mid)) × (key_at bytes mid ≡ Ok (key, end))
two_again bytes at end id key i k t =
    let s = Takes-split bytes at end (word_bytes id_width id) (word_bytes key_width key) t in
    let mid = at + length (word_bytes id_width id) in
    (mid, id_again bytes at mid id i s.0, key_again bytes mid end key k s.1)

three_again : (bytes : List ℕ) (at end : ℕ) (id key value : List ℕ) {X : Type 0} (make : List ℕ → List ℕ → List ℕ → X)
    → (is_id_len (length id) && is_key_len (length key) && is_value_len (length value)) ≡ true
    → Takes bytes at (word_bytes id_width id ++ word_bytes key_width key ++ word_bytes value_width value) end
    → (id_at bytes at >>= λ i. key_at bytes i.1 >>= λ k. value_at bytes k.1 >>= λ v. Ok (make i.0 k.0 v.0, v.1)) ≡ Ok (make id key value, end)
three_again bytes at end id key value make words t =
    let w = and_parts (is_id_len (length id) && is_key_len (length key)) (is_value_len (length value)) words in
    let ik = and_parts (is_id_len (length id)) (is_key_len (length key)) w.0 in
    let s = Takes-split bytes at end (word_bytes id_width id ++ word_bytes key_width key) (word_bytes value_width value) t in
    let start = at + length (word_bytes id_width id ++ word_bytes key_width key) in
    let front = two_again bytes at start id key ik.0 ik.1 s.0 in
    rw (front.1, front.2, value_again bytes start end value w.1 s.1) refl

action_again : (action : Action) (bytes : List ℕ) (at end : ℕ) → has_words action ≡ true → Takes bytes at (payload action) end → action_at (kind_of action) bytes at ≡ Ok (action, end)
unfolding action_at
action_again (actions.Put id key value) bytes at end words t = three_again bytes at end id key value actions.Put words t
action_again (actions.Remove id key) bytes at end words t =
    let ik = and_parts (is_id_len (length id)) (is_key_len (length key)) words in
    let front = two_again bytes at end id key ik.0 ik.1 t in
    rw (front.1, front.2) refl
action_again (actions.Delete id) bytes at end words t = rw (id_again bytes at end id words t) refl
action_again actions.Begin bytes at end words t = ap (λ (n : ℕ). Ok (actions.Begin, n)) (omega (arith, t.end_is))
action_again actions.Commit bytes at end words t = ap (λ (n : ℕ). Ok (actions.Commit, n)) (omega (arith, t.end_is))
action_again (actions.Compaction id key value) bytes at end words t = three_again bytes at end id key value actions.Compaction words t
action_again actions.Mark bytes at end words t = ap (λ (n : ℕ). Ok (actions.Mark, n)) (omega (arith, t.end_is))
action_again actions.Abandon bytes at end words t = ap (λ (n : ℕ). Ok (actions.Abandon, n)) (omega (arith, t.end_is))

-- ---- the kind

code_below : (kind : Kind) → code kind < 256
code_below Put = omega arith
code_below Remove = omega arith
code_below Delete = omega arith
code_below Begin = omega arith
code_below Commit = omega arith
code_below Compaction = omega arith
code_below Mark = omega arith
code_below Abandon = omega arith

kind_of_code : (kind : Kind) → kind_of_byte (code kind) ≡ Some kind
kind_of_code Put = refl
kind_of_code Remove = refl
kind_of_code Delete = refl
kind_of_code Begin = refl
kind_of_code Commit = refl
kind_of_code Compaction = refl
kind_of_code Mark = refl
kind_of_code Abandon = refl

some_is : {X : Type 0} (x y : X) → some x ≡ some y → x ≡ y
some_is x y e = cc

-- the first element that passes a test passes it
chosen : {X : Type 0} (b : Bool) (x y : X) (other : Option X) → cond b (Some x) other ≡ Some y → ((b ≡ true) × (x ≡ y)) ⊎ (other ≡ Some y)
chosen true x y other e = inl (refl, some_is x y e)
chosen false x y other e = inr e

find_passes : {X : Type 0} (test : X → Bool) (xs : List X) (x : X) → find test xs ≡ Some x → test x ≡ true
find_passes test [] x e = absurd cc
find_passes {X} test (y ∷ ys) x e =
    elim (chosen (test y) y x (find test ys) e) [
      | inl is ↦ subst (λ (z : X). test z ≡ true) is.1 is.0
      | inr later ↦ find_passes test ys x later
    ]

code_of_byte : (byte : ℕ) (kind : Kind) → kind_of_byte byte ≡ Some kind → code kind ≡ byte
code_of_byte byte kind e = eqb-true (code kind) byte (find_passes (λ k. eqb (code k) byte) kinds kind e)

code_bytes : (kind : Kind) → to_be_bytes w8 (code kind) ≡ code kind ∷ []
code_bytes Put = refl
code_bytes Remove = refl
code_bytes Delete = refl
code_bytes Begin = refl
code_bytes Commit = refl
code_bytes Compaction = refl
code_bytes Mark = refl
code_bytes Abandon = refl

chosen_kind : (kind : Option Kind) (byte : ℕ × ℕ) (x : Kind × ℕ) → kind_or_fault kind byte ≡ Ok x → (kind ≡ Some x.0) × (byte.1 ≡ x.1)
chosen_kind (Some kind) byte x e =
    subst (λ (z : Kind × ℕ). (some kind ≡ Some z.0) × (byte.1 ≡ z.1)) (ok_is (kind, byte.1) x e) (refl, refl)
chosen_kind None byte x e = absurd cc

kind_takes : (bytes : List ℕ) (x : Kind × ℕ) → IsBytes bytes → kind_at bytes ≡ Ok x → Takes bytes 0 (code x.0 ∷ []) x.1
unfolding kind_at
kind_takes bytes x fits e =
    let b = bind_ok (number_at w8 bytes 0) (λ byte. kind_or_fault (kind_of_byte byte.0) byte) x e in
    let k = chosen_kind (kind_of_byte b.0.0) b.0 x b.2 in
    let t = (number_takes w8 (2 ^ 8) wide8 bytes 0 b.0 fits b.1).0 in
    let ends : Takes bytes 0 (to_be_bytes w8 b.0.0) x.1 = subst (λ (n : ℕ). Takes bytes 0 (to_be_bytes w8 b.0.0) n) k.1 t in
    let spelled : to_be_bytes w8 b.0.0 ≡ code x.0 ∷ [] = ap (to_be_bytes w8) (sym (code_of_byte b.0.0 x.0 k.0)) ∙ code_bytes x.0 in
    subst (λ (text : List ℕ). Takes bytes 0 text x.1) spelled ends

kind_again : (bytes : List ℕ) (kind : Kind) (end : ℕ) → Takes bytes 0 (code kind ∷ []) end → kind_at bytes ≡ Ok (kind, end)
unfolding kind_at
kind_again bytes kind end t =
    let byte = number_again w8 (2 ^ 8) wide8 bytes 0 (code kind) end (code_below kind) (subst (λ (text : List ℕ). Takes bytes 0 text end) (sym (code_bytes kind)) t) in
    ap (λ (r : Reading ℕ). r >>= λ byte. kind_or_fault (kind_of_byte byte.0) byte) byte ∙ ap (λ (o : Option Kind). kind_or_fault o (code kind, end)) (kind_of_code kind)

-- ---- the numbers of the head

-- a head that was read
record TakesHead (kind : Kind) (bytes : List ℕ) (at : ℕ) (x : Head × ℕ) : Type 0 where
  takes : Takes bytes at (numbers x.0.tx x.0.lowest x.0.named) x.1
  tx : x.0.tx < 2 ^ 64
  lowest : x.0.lowest < 2 ^ 64
  named : x.0.named < 2 ^ 64
  tx_holds : permits_tx kind x.0.tx ≡ true
  lowest_holds : ltb 0 x.0.lowest ≡ true
  named_holds : permits_named kind x.0.named ≡ true

head_takes : (kind : Kind) (bytes : List ℕ) (at : ℕ) (x : Head × ℕ) → IsBytes bytes → head_at kind bytes at ≡ Ok x → TakesHead kind bytes at x
unfolding head_at
head_takes kind bytes at x fits e =
    let a = bind_ok (if_holds (permits_tx kind) at (number_at w64 bytes at)) (λ tx. if_holds (ltb 0) tx.1 (number_at w64 bytes tx.1) >>= λ lowest. if_holds (permits_named kind) lowest.1 (number_at w64 bytes lowest.1) >>= λ named. Ok (record { tx = tx.0; lowest = lowest.0; named = named.0 }, named.1)) x e in
    let b = bind_ok (if_holds (ltb 0) a.0.1 (number_at w64 bytes a.0.1)) (λ lowest. if_holds (permits_named kind) lowest.1 (number_at w64 bytes lowest.1) >>= λ named. Ok (record { tx = a.0.0; lowest = lowest.0; named = named.0 }, named.1)) x a.2 in
    let c = bind_ok (if_holds (permits_named kind) b.0.1 (number_at w64 bytes b.0.1)) (λ named. Ok (record { tx = a.0.0; lowest = b.0.0; named = named.0 }, named.1)) x b.2 in
    let ta = if_holds_ok (permits_tx kind) at (number_at w64 bytes at) a.0 a.1 in
    let tb = if_holds_ok (ltb 0) a.0.1 (number_at w64 bytes a.0.1) b.0 b.1 in
    let tc = if_holds_ok (permits_named kind) b.0.1 (number_at w64 bytes b.0.1) c.0 c.1 in
    let na = number_takes w64 (2 ^ 64) wide64 bytes at a.0 fits ta.0 in
    let nb = number_takes w64 (2 ^ 64) wide64 bytes a.0.1 b.0 fits tb.0 in
    let nc = number_takes w64 (2 ^ 64) wide64 bytes b.0.1 c.0 fits tc.0 in
    let ab = Takes-then bytes at a.0.1 b.0.1 (to_be_bytes w64 a.0.0) (to_be_bytes w64 b.0.0) na.0 nb.0 in
    let abc = Takes-then bytes at b.0.1 c.0.1 (to_be_bytes w64 a.0.0 ++ to_be_bytes w64 b.0.0) (to_be_bytes w64 c.0.0) ab nc.0 in
    let made : Head × ℕ = (record { tx = a.0.0; lowest = b.0.0; named = c.0.0 }, c.0.1) in
    subst (TakesHead kind bytes at) (ok_is made x c.2) (record { takes = abc; tx = na.1; lowest = nb.1; named = nc.1; tx_holds = ta.1; lowest_holds = tb.1; named_holds = tc.1 })

-- the three numbers that stand there are read
numbers_again : (bytes : List ℕ) (at tx lowest named end : ℕ) → tx < 2 ^ 64 → lowest < 2 ^ 64 → named < 2 ^ 64 → Takes bytes at (numbers tx lowest named) end
    → (number_at w64 bytes at ≡ Ok (tx, at + 8)) × (number_at w64 bytes (at + 8) ≡ Ok (lowest, at + 16)) × (number_at w64 bytes (at + 16) ≡ Ok (named, end))
numbers_again bytes at tx lowest named end t l n takes =
    let s = Takes-split bytes at end (to_be_bytes w64 tx ++ to_be_bytes w64 lowest) (to_be_bytes w64 named) takes in
    let f = Takes-split bytes at (at + 16) (to_be_bytes w64 tx) (to_be_bytes w64 lowest) s.0 in
    (number_again w64 (2 ^ 64) wide64 bytes at tx (at + 8) t f.0, number_again w64 (2 ^ 64) wide64 bytes (at + 8) lowest (at + 16) l f.1, number_again w64 (2 ^ 64) wide64 bytes (at + 16) named end n s.1)

-- ---- records

permits : (action : Action) (tx named : ℕ) → kind_permits action tx named ≡ (permits_tx (kind_of action) tx && permits_named (kind_of action) named)
permits (actions.Put id key value) tx named = refl
permits (actions.Remove id key) tx named = refl
permits (actions.Delete id) tx named = refl
permits actions.Begin tx named = refl
permits actions.Commit tx named = refl
permits (actions.Compaction id key value) tx named = refl
permits actions.Mark tx named = refl
permits actions.Abandon tx named = refl

pub spelling_least : (r : Record) → 25 ≤ length (spelling r)
unfolding spelling
spelling_least r = omega arith

stands : (bytes : List ℕ) (r : Record) (len : ℕ) → Takes bytes 0 (spelling r) len → Fits r → well_formed r ≡ true → StandsAtFront bytes r len
stands bytes r len t fits well =
    let len_is : len ≡ length (spelling r) = omega (arith, t.end_is) in
    let least : 25 ≤ len = omega (arith, len_is, spelling_least r) in
    record { front = ap (take len) t.parts ∙ take_at (spelling r) (drop len bytes) len (sym len_is); whole = t.parts; len_is = len_is; least = least; within = t.within; fits = fits; well_formed = well }

-- what is read stands there
pub decoded_takes : (bytes : List ℕ) (x : Record × ℕ) → IsBytes bytes → decoding_of bytes ≡ Ok x → StandsAtFront bytes x.0 x.1
unfolding decoding_of spelling
decoded_takes bytes x fits e =
    let a = bind_ok (kind_at bytes) (λ kind. head_at kind.0 bytes kind.1 >>= λ head. action_at kind.0 bytes head.1 >>= λ action. Ok (record { tx = head.0.tx; lowest = head.0.lowest; named = head.0.named; action = action.0 }, action.1)) x e in
    let b = bind_ok (head_at a.0.0 bytes a.0.1) (λ head. action_at a.0.0 bytes head.1 >>= λ action. Ok (record { tx = head.0.tx; lowest = head.0.lowest; named = head.0.named; action = action.0 }, action.1)) x a.2 in
    let c = bind_ok (action_at a.0.0 bytes b.0.1) (λ action. Ok (record { tx = b.0.0.tx; lowest = b.0.0.lowest; named = b.0.0.named; action = action.0 }, action.1)) x b.2 in
    let kind = a.0.0 in
    let k = kind_takes bytes a.0 fits a.1 in
    let h = head_takes kind bytes a.0.1 b.0 fits b.1 in
    let t = action_takes kind bytes b.0.1 c.0 fits h.takes.within c.1 in
    let first : Takes bytes 0 (code (kind_of c.0.0) ∷ []) a.0.1 = subst (λ (z : Kind). Takes bytes 0 (code z ∷ []) a.0.1) (sym t.kind_is) k in
    let head = Takes-then bytes 0 a.0.1 b.0.1 (code (kind_of c.0.0) ∷ []) (numbers b.0.0.tx b.0.0.lowest b.0.0.named) first h.takes in
    let whole = Takes-then bytes 0 b.0.1 c.0.1 (code (kind_of c.0.0) ∷ numbers b.0.0.tx b.0.0.lowest b.0.0.named) (payload c.0.0) head t.takes in
    let r : Record = record { tx = b.0.0.tx; lowest = b.0.0.lowest; named = b.0.0.named; action = c.0.0 } in
    let tx_holds : permits_tx (kind_of c.0.0) r.tx ≡ true = subst (λ (z : Kind). permits_tx z r.tx ≡ true) (sym t.kind_is) h.tx_holds in
    let named_holds : permits_named (kind_of c.0.0) r.named ≡ true = subst (λ (z : Kind). permits_named z r.named ≡ true) (sym t.kind_is) h.named_holds in
    let permitted : kind_permits r.action r.tx r.named ≡ true = permits r.action r.tx r.named ∙ and_from (permits_tx (kind_of r.action) r.tx) (permits_named (kind_of r.action) r.named) tx_holds named_holds in
    let well : well_formed r ≡ true = and_from (kind_permits r.action r.tx r.named && ltb 0 r.lowest) (has_words r.action) (and_from (kind_permits r.action r.tx r.named) (ltb 0 r.lowest) permitted h.lowest_holds) t.words in
    subst (λ (z : Record × ℕ). StandsAtFront bytes z.0 z.1) (ok_is (r, c.0.1) x c.2) (stands bytes r c.0.1 whole (record { tx = h.tx; lowest = h.lowest; named = h.named; words = t.words }) well)

-- the fields of a record that stands at the front
record Reads (bytes : List ℕ) (r : Record) (end : ℕ) : Type 0 where
  kind : kind_at bytes ≡ Ok (kind_of r.action, 1)
  tx : number_at w64 bytes 1 ≡ Ok (r.tx, 9)
  lowest : number_at w64 bytes 9 ≡ Ok (r.lowest, 17)
  named : number_at w64 bytes 17 ≡ Ok (r.named, 25)
  action : action_at (kind_of r.action) bytes 25 ≡ Ok (r.action, end)

reads : (bytes : List ℕ) (r : Record) (end : ℕ) → Fits r → Takes bytes 0 (spelling r) end → Reads bytes r end
unfolding spelling
reads bytes r end fits t =
    let s = Takes-split bytes 0 end (code (kind_of r.action) ∷ numbers r.tx r.lowest r.named) (payload r.action) t in
    let h = Takes-split bytes 0 25 (code (kind_of r.action) ∷ []) (numbers r.tx r.lowest r.named) s.0 in
    let n = numbers_again bytes 1 r.tx r.lowest r.named 25 fits.tx fits.lowest fits.named h.1 in
    record { kind = kind_again bytes (kind_of r.action) 1 h.0; tx = n.0; lowest = n.1; named = n.2; action = action_again r.action bytes 25 end fits.words s.1 }

-- what stands there is read
pub decoded_again : (bytes : List ℕ) (r : Record) (rest : List ℕ) → Fits r → well_formed r ≡ true → bytes ≡ spelling r ++ rest → decoding_of bytes ≡ Ok (r, length (spelling r))
unfolding decoding_of head_at
decoded_again bytes r rest fits well e =
    let f = reads bytes r (length (spelling r)) fits (Takes-front bytes (spelling r) rest e) in
    let w = and_parts (kind_permits r.action r.tx r.named && ltb 0 r.lowest) (has_words r.action) well in
    let pl = and_parts (kind_permits r.action r.tx r.named) (ltb 0 r.lowest) w.0 in
    let p = and_parts (permits_tx (kind_of r.action) r.tx) (permits_named (kind_of r.action) r.named) (sym (permits r.action r.tx r.named) ∙ pl.0) in
    rw (f.kind, f.tx, p.0, f.lowest, pl.1, f.named, p.1, f.action) refl

-- two readings of one field agree
same : {X : Type 0} (read : Reading X) (x y : X × ℕ) → read ≡ Ok x → read ≡ Ok y → x ≡ y
same read x y e f = ok_is x y (sym e ∙ f)

-- two records at the front of the same bytes are one
pub one_record : (r q : Record) (rest other : List ℕ) → Fits r → Fits q → spelling r ++ rest ≡ spelling q ++ other → (r ≡ q) × (rest ≡ other)
one_record r q rest other fits fits' e =
    let bytes = spelling r ++ rest in
    let n = length (spelling r) in
    let m = length (spelling q) in
    let a = reads bytes r n fits (Takes-front bytes (spelling r) rest refl) in
    let b = reads bytes q m fits' (Takes-front bytes (spelling q) other e) in
    let kind : kind_of r.action ≡ kind_of q.action = ap (λ (x : Kind × ℕ). x.0) (same (kind_at bytes) (kind_of r.action, 1) (kind_of q.action, 1) a.kind b.kind) in
    let tx : r.tx ≡ q.tx = ap (λ (x : ℕ × ℕ). x.0) (same (number_at w64 bytes 1) (r.tx, 9) (q.tx, 9) a.tx b.tx) in
    let lowest : r.lowest ≡ q.lowest = ap (λ (x : ℕ × ℕ). x.0) (same (number_at w64 bytes 9) (r.lowest, 17) (q.lowest, 17) a.lowest b.lowest) in
    let named : r.named ≡ q.named = ap (λ (x : ℕ × ℕ). x.0) (same (number_at w64 bytes 17) (r.named, 25) (q.named, 25) a.named b.named) in
    let second : action_at (kind_of r.action) bytes 25 ≡ Ok (q.action, m) = ap (λ (k : Kind). action_at k bytes 25) kind ∙ b.action in
    let both_actions : (r.action, n) ≡ (q.action, m) = same (action_at (kind_of r.action) bytes 25) (r.action, n) (q.action, m) a.action second in
    let action : r.action ≡ q.action = ap (λ (x : Action × ℕ). x.0) both_actions in
    let len : n ≡ m = ap (λ (x : Action × ℕ). x.1) both_actions in
    let records : r ≡ q =
    ap (λ (x : ℕ). record { tx = x; lowest = r.lowest; named = r.named; action = r.action }) tx
    ∙ ap (λ (x : ℕ). record { tx = q.tx; lowest = x; named = r.named; action = r.action }) lowest
    ∙ ap (λ (x : ℕ). record { tx = q.tx; lowest = q.lowest; named = x; action = r.action }) named
    ∙ ap (λ (x : Action). record { tx = q.tx; lowest = q.lowest; named = q.named; action = x }) action in
    (records, sym (drop_at (spelling r) rest n refl) ∙ ap (λ (k : ℕ). drop k bytes) len ∙ ap (drop m) e ∙ drop_at (spelling q) other m refl)

-- the same of what a call answered
pub is_found : (bytes : List ℕ) (answer : Result (Record × ℕ) FrameFault) → IsBytes bytes → GivesDecoded (λ x. x) answer (decoding_of bytes) → IfOk answer (λ x. StandsAtFront bytes x.0 x.1)
is_found bytes (Ok x) fits given = decoded_takes bytes x fits given
is_found bytes (Err fault) fits given = tt

-- ---- lengths

two_most : (id key : List ℕ) → (is_id_len (length id) && is_key_len (length key)) ≡ true → length (word_bytes id_width id ++ word_bytes key_width key) ≤ 321
two_most id key words =
    let ik = and_parts (is_id_len (length id)) (is_key_len (length key)) words in
    let i = leb-true (length id) 64 (and_parts (leb 1 (length id)) (leb (length id) 64) ik.0).1 in
    let k = leb-true (length key) 255 (and_parts (leb 1 (length key)) (leb (length key) 255) ik.1).1 in
    omega (arith, i, k, length-append (word_bytes id_width id) (word_bytes key_width key))

three_most : (id key value : List ℕ) → (is_id_len (length id) && is_key_len (length key) && is_value_len (length value)) ≡ true → length (word_bytes id_width id ++ word_bytes key_width key ++ word_bytes value_width value) ≤ 65858
three_most id key value words =
    let w = and_parts (is_id_len (length id) && is_key_len (length key)) (is_value_len (length value)) words in
    let v = leb-true (length value) 65535 w.1 in
    omega (arith, two_most id key w.0, v, length-append (word_bytes id_width id ++ word_bytes key_width key) (word_bytes value_width value))

payload_most : (action : Action) → has_words action ≡ true → length (payload action) ≤ 65858
payload_most (actions.Put id key value) words = three_most id key value words
payload_most (actions.Remove id key) words = omega (arith, two_most id key words)
payload_most (actions.Delete id) words = omega (arith, leb-true (length id) 64 (and_parts (leb 1 (length id)) (leb (length id) 64) words).1)
payload_most actions.Begin words = omega arith
payload_most actions.Commit words = omega arith
payload_most (actions.Compaction id key value) words = three_most id key value words
payload_most actions.Mark words = omega arith
payload_most actions.Abandon words = omega arith

pub spelling_most : (r : Record) → Fits r → length (spelling r) ≤ 65883
unfolding spelling
spelling_most r fits = omega (arith, payload_most r.action fits.words)
