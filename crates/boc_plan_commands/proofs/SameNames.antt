-- What is asked for means the same where rows and cowns are called by their numbers, whoever calls them so.
use Rattle.std.proofs.Common.{◌≡◌, ◌∙◌, ◌||◌, ℕ, List, [], ◌∷◌, ◌++◌, Vec, length, ap, ap₂, refl, sym}
use Rattle.std.specs.Prelude.{cond, filter, nat_lt, string_bytes}
use Rattle.std.specs.Global.{Global}
use Rattle.std.specs.List.{range_with_len}
use Rattle.std.specs.Str.{bytes_eq}
use Rattle.std.proofs.lemmas.List.{length-map}
use Rattle.boc_names.specs.declared.names.Names.{Names}
use Rattle.boc_names.specs.Names.{Text, AreNumbers, text_at, texts_of}
use Rattle.std.specs.Prelude.{slice_index}
use Rattle.boc_words.specs.declared.asked.AskedCown.{AskedCown}
use Rattle.boc_words.specs.declared.asked.AskedCown.TheVariants as cowns
use Rattle.boc_plan_commands.specs.Asked.{all_cowns, cowns_of, first_some, named, starred}

as_many : (a b : List (Vec ℕ Global)) → texts_of a ≡ texts_of b → length a ≡ length b
as_many a b same =
    sym (length-map a (λ (t : Vec ℕ Global). t.items)) ∙ ap (λ (l : List Text). length l) same ∙ length-map b (λ (t : Vec ℕ Global). t.items)

module _ (rows others count : ℕ) (a b : Names) (one : AreNumbers rows count a) (other : AreNumbers others count b) where
  cowns_are : texts_of a.cowns.items ≡ texts_of b.cowns.items
  cowns_are = one.cowns ∙ sym other.cowns

  families_are : a.families.items ≡ b.families.items
  families_are = one.families ∙ sym other.families

  family_names_are : texts_of a.family_names.items ≡ texts_of b.family_names.items
  family_names_are = one.family_names ∙ sym other.family_names

  count_is : length a.cowns.items ≡ length b.cowns.items
  count_is = as_many a.cowns.items b.cowns.items cowns_are

  all_named : (name : Text) → named a name ≡ named b name
  all_named name = λ i. filter (λ cown. bytes_eq (text_at (cowns_are i) cown) name
      || bytes_eq (text_at (family_names_are i) (slice_index (families_are i) cown)) name) (range_with_len 0 (count_is i))

  pub cowns_meant : (asked : AskedCown) → cowns_of a asked ≡ cowns_of b asked
  cowns_meant (cowns.Number number) = λ i. cond (nat_lt number (count_is i)) (number ∷ []) []
  cowns_meant (cowns.Name name) = ap₂ first_some (all_named (string_bytes name)) (all_named (starred (string_bytes name)))

  pub same_cowns : (asked : List AskedCown) → all_cowns a asked ≡ all_cowns b asked
  same_cowns [] = refl
  same_cowns (x ∷ asked) = ap₂ ◌++◌ (cowns_meant x) (same_cowns asked)
