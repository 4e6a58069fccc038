-- Texts that are put one behind the other.
use Rattle.std.proofs.Common.{◌≡◌, ◌++◌, append_assoc}
use Rattle.boc_names.specs.Names.{Text}

-- two texts behind one
pub put_two : (t a b : Text) {t1 t2 : Text} → t1 ≡ t ++ a → t2 ≡ t1 ++ b → t2 ≡ t ++ (a ++ b)
put_two t a b e1 e2 = rw (e2, e1) (simp append_assoc)

-- three texts behind one
pub put_three : (t a b c : Text) {t1 t2 t3 : Text} → t1 ≡ t ++ a → t2 ≡ t1 ++ b → t3 ≡ t2 ++ c → t3 ≡ t ++ (a ++ b ++ c)
put_three t a b c e1 e2 e3 = rw (e3, e2, e1) (simp append_assoc)

-- four texts behind one
pub put_four : (t a b c d : Text) {t1 t2 t3 t4 : Text} → t1 ≡ t ++ a → t2 ≡ t1 ++ b → t3 ≡ t2 ++ c → t4 ≡ t3 ++ d → t4 ≡ t ++ (a ++ b ++ c ++ d)
put_four t a b c d e1 e2 e3 e4 = rw (e4, e3, e2, e1) (simp append_assoc)

-- six texts behind one
pub put_six : (t a b c d e f : Text) {t1 t2 t3 t4 t5 t6 : Text} → t1 ≡ t ++ a → t2 ≡ t1 ++ b → t3 ≡ t2 ++ c → t4 ≡ t3 ++ d → t5 ≡ t4 ++ e → t6 ≡ t5 ++ f
    → t6 ≡ t ++ (a ++ b ++ c ++ d ++ e ++ f)
put_six t a b c d e f e1 e2 e3 e4 e5 e6 = rw (e6, e5, e4, e3, e2, e1) (simp append_assoc)
