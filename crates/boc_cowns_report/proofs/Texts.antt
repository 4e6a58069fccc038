-- Texts that are put one behind the other.
use Rattle.std.proofs.Common.{◌≡◌, ◌≢◌, ℕ, zero, suc, ◌++◌, append_assoc, refl}
use Rattle.boc_names.specs.Names.{Text}
use Rattle.boc_cowns_report.specs.CownsTexts.{many_text, more_text}

-- five texts behind one
pub regroup_five : (text a b c d e : Text) → ((((text ++ a) ++ b) ++ c) ++ d) ++ e ≡ text ++ (a ++ b ++ c ++ d ++ e)
regroup_five text a b c d e = simp append_assoc

-- four texts behind one
pub regroup : (text a b c d : Text) → (((text ++ a) ++ b) ++ c) ++ d ≡ text ++ (a ++ b ++ c ++ d)
regroup text a b c d = simp append_assoc

-- what is told where there are several more
pub more_many : (n : ℕ) → n ≢ 0 → n ≢ 1 → more_text n ≡ many_text n
more_many zero a b = absurd (a refl)
more_many (suc zero) a b = absurd (b refl)
more_many (suc (suc n)) a b = refl

-- three texts behind one
pub regroup_three : (text a b c : Text) → ((text ++ a) ++ b) ++ c ≡ text ++ (a ++ b ++ c)
regroup_three text a b c = simp append_assoc

-- two texts behind one
pub regroup_two : (text a b : Text) → (text ++ a) ++ b ≡ text ++ (a ++ b)
regroup_two text a b = simp append_assoc
