-- Texts that are put one behind the other.
use Rattle.std.proofs.Common.{◌≡◌, ◌++◌, Result, Ok, Err, append_assoc}
use Rattle.std.specs.Prelude.{OnOk}
use Rattle.boc_names.specs.Names.{Text}

-- what follows from what a clause says of an `Ok`
pub on_ok_then : {A E : Type 0} (r : Result A E) {P Q : Type 0} → OnOk r P → (P → Q) → OnOk r Q
on_ok_then (Ok x) p f = f p
on_ok_then (Err e) p f = p

-- four texts behind one
pub put_four : (t a1 a2 a3 a4 : Text) {t1 t2 t3 t4 : Text} → t1 ≡ t ++ a1 → t2 ≡ t1 ++ a2 → t3 ≡ t2 ++ a3 → t4 ≡ t3 ++ a4
    → t4 ≡ t ++ (a1 ++ a2 ++ a3 ++ a4)
put_four t a1 a2 a3 a4 e1 e2 e3 e4 = rw (e4, e3, e2, e1) (simp append_assoc)

-- five texts behind one
pub put_five : (t a1 a2 a3 a4 a5 : Text) {t1 t2 t3 t4 t5 : Text} → t1 ≡ t ++ a1 → t2 ≡ t1 ++ a2 → t3 ≡ t2 ++ a3 → t4 ≡ t3 ++ a4
    → t5 ≡ t4 ++ a5
    → t5 ≡ t ++ (a1 ++ a2 ++ a3 ++ a4 ++ a5)
put_five t a1 a2 a3 a4 a5 e1 e2 e3 e4 e5 = rw (e5, e4, e3, e2, e1) (simp append_assoc)

-- seven texts behind one
pub put_seven : (t a1 a2 a3 a4 a5 a6 a7 : Text) {t1 t2 t3 t4 t5 t6 t7 : Text} → t1 ≡ t ++ a1 → t2 ≡ t1 ++ a2 → t3 ≡ t2 ++ a3 → t4 ≡ t3 ++ a4
    → t5 ≡ t4 ++ a5 → t6 ≡ t5 ++ a6 → t7 ≡ t6 ++ a7
    → t7 ≡ t ++ (a1 ++ a2 ++ a3 ++ a4 ++ a5 ++ a6 ++ a7)
put_seven t a1 a2 a3 a4 a5 a6 a7 e1 e2 e3 e4 e5 e6 e7 = rw (e7, e6, e5, e4, e3, e2, e1) (simp append_assoc)

-- ten texts behind one
pub put_ten : (t a1 a2 a3 a4 a5 a6 a7 a8 a9 a10 : Text) {t1 t2 t3 t4 t5 t6 t7 t8 t9 t10 : Text} → t1 ≡ t ++ a1 → t2 ≡ t1 ++ a2 → t3 ≡ t2 ++ a3 → t4 ≡ t3 ++ a4
    → t5 ≡ t4 ++ a5 → t6 ≡ t5 ++ a6 → t7 ≡ t6 ++ a7 → t8 ≡ t7 ++ a8 → t9 ≡ t8 ++ a9 → t10 ≡ t9 ++ a10
    → t10 ≡ t ++ (a1 ++ a2 ++ a3 ++ a4 ++ a5 ++ a6 ++ a7 ++ a8 ++ a9 ++ a10)
put_ten t a1 a2 a3 a4 a5 a6 a7 a8 a9 a10 e1 e2 e3 e4 e5 e6 e7 e8 e9 e10 = rw (e10, e9, e8, e7, e6, e5, e4, e3, e2, e1) (simp append_assoc)
