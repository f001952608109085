-- What is known of an answer in one form, said in another.
use Rattle.std.proofs.Common.{Result, Ok, Err, OnOk, OnErr, IfOk}

pub on_ok : {V E P Q : Type 0} (r : Result V E) → (P → Q) → OnOk r P → OnOk r Q
on_ok (Ok v) f p = f p
on_ok (Err e) f p = p

pub if_ok : {V E : Type 0} (P Q : V → Type 0) (r : Result V E) → ((v : V) → P v → Q v) → IfOk r P → IfOk r Q
if_ok P Q (Ok v) f p = f v p
if_ok P Q (Err e) f p = p

-- from two facts of an answer
pub if_ok_both : {V E : Type 0} (P Q R : V → Type 0) (r : Result V E) → ((v : V) → P v → Q v → R v) → IfOk r P → IfOk r Q → IfOk r R
if_ok_both P Q R (Ok v) f p q = f v p q
if_ok_both P Q R (Err e) f p q = p

pub on_err : {V E P Q : Type 0} (r : Result V E) → (P → Q) → OnErr r P → OnErr r Q
on_err (Ok v) f p = p
on_err (Err e) f p = f p
