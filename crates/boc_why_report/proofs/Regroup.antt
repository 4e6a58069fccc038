-- Texts that are put one behind the other.
use Rattle.std.proofs.Common.{◌≡◌, ◌++◌, append_assoc}
use Rattle.boc_names.specs.Names.{Text}

-- three texts behind one
pub regroup_three : (text a b c : Text) → ((text ++ a) ++ b) ++ c ≡ text ++ (a ++ (b ++ c))
regroup_three text a b c = simp append_assoc

-- five texts behind one
pub regroup_five : (text a b c d e : Text) → ((((text ++ a) ++ b) ++ c) ++ d) ++ e ≡ text ++ (a ++ b ++ c ++ d ++ e)
regroup_five text a b c d e = simp append_assoc
