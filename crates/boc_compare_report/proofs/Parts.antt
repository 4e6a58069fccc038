-- Parts of a text that are put one behind the other.
use Rattle.std.proofs.Common.{◌≡◌, ◌++◌, ◌∙◌, ℕ, Bool, List, [], codes, ap, append_assoc, refl, subst}
use Rattle.std.specs.declared.alloc.Global.{Global}
use Rattle.std.specs.declared.vec.Vec.{Vec}
use Rattle.boc_table.specs.declared.side.Side.{Side}
use Rattle.boc_table.specs.Tables.{table_text}
use Rattle.boc_names.specs.Names.{Text, texts_of}
use Rattle.boc_why.specs.declared.shares.Share.{Share}
use Rattle.boc_compare.specs.declared.totals.Totals.{Totals}
use Rattle.boc_compare_report.specs.declared.told.Compared.{Compared}
use Rattle.boc_compare_report.specs.CompareTexts.{chains_text, number_lines, numbers_sides, verdict_text}
use Rattle.boc_compare_report.specs.PairTexts.{HeadWords, cown_words, def_words}
use Rattle.boc_compare_report.specs.Compared.{HasFamilies, HasPairs, IsCompareText, IsCownsPart, IsDefsPart, IsNamedPart, Puts, tells_typical}

-- three texts behind one
pub put_three : (t a b c : Text) {t1 t2 t3 : Text} → t1 ≡ t ++ a → t2 ≡ t1 ++ b → t3 ≡ t2 ++ c → t3 ≡ t ++ (a ++ b ++ c)
put_three t a b c e1 e2 e3 = rw (e3, e2, e1) (simp append_assoc)

-- four texts behind one
pub put_four : (t a b c d : Text) {t1 t2 t3 t4 : Text} → t1 ≡ t ++ a → t2 ≡ t1 ++ b → t3 ≡ t2 ++ c → t4 ≡ t3 ++ d → t4 ≡ t ++ (a ++ b ++ c ++ d)
put_four t a b c d e1 e2 e3 e4 = rw (e4, e3, e2, e1) (simp append_assoc)

-- a table behind an empty line, of these sides and lines
pub put_table_behind : (t one two : Text) (sides columns : List Side) (lines told : List (List Text)) → one ≡ t ++ codes "\n" → sides ≡ columns → lines ≡ told
    → two ≡ one ++ table_text sides lines → two ≡ t ++ (codes "\n" ++ table_text columns told)
put_table_behind t one two sides columns lines told begun a b put =
    put ∙ (ap (λ (own : Text). own ++ table_text sides lines) begun ∙ (append_assoc t (codes "\n") (table_text sides lines)
    ∙ (λ i. t ++ (codes "\n" ++ table_text (a i) (b i)))))

-- the same pairs, by other words for what they are of
same_pairs : (h heads : HeadWords) (b before a after : List Totals) (bn before_names an after_names : List (Vec ℕ Global)) (part : Text) → h ≡ heads
    → b ≡ before → bn ≡ before_names → a ≡ after → an ≡ after_names → HasPairs h b (texts_of bn) a (texts_of an) part
    → HasPairs heads before (texts_of before_names) after (texts_of after_names) part
same_pairs h heads b before a after bn before_names an after_names part e0 e1 e2 e3 e4 has =
    subst (λ (x : HeadWords). HasPairs x before (texts_of before_names) after (texts_of after_names) part) e0
    (subst (λ (x : List Totals). HasPairs h x (texts_of before_names) after (texts_of after_names) part) e1
    (subst (λ (x : List (Vec ℕ Global)). HasPairs h b (texts_of x) after (texts_of after_names) part) e2
    (subst (λ (x : List Totals). HasPairs h b (texts_of bn) x (texts_of after_names) part) e3
    (subst (λ (x : List (Vec ℕ Global)). HasPairs h b (texts_of bn) a (texts_of x) part) e4 has))))

-- the chains, and then the pairs of the defs
pub puts_defs : (own : Compared) (heads : HeadWords) (t one two three : Text) (was now : List Share) (b a : List Totals) (bn an : List (Vec ℕ Global))
    → heads ≡ def_words → one ≡ t ++ codes "\n" → two ≡ one ++ chains_text own.before_names.now was own.after_names.now now
    → was ≡ own.before.now.by_def.items → now ≡ own.after.now.by_def.items → b ≡ own.before.now.defs.items → bn ≡ own.before_names.now.def_names.items
    → a ≡ own.after.now.defs.items → an ≡ own.after_names.now.def_names.items → Puts (HasPairs heads b (texts_of bn) a (texts_of an)) two three
    → Puts (IsDefsPart own) t three
puts_defs own heads t one two three was now b a bn an e0 begun chains e1 e2 e3 e4 e5 e6 (part, has, put) =
    let told = chains_text own.before_names.now own.before.now.by_def.items own.after_names.now own.after.now.by_def.items in
    let line : two ≡ one ++ told = chains ∙ (λ i. one ++ chains_text own.before_names.now (e1 i) own.after_names.now (e2 i)) in (
      codes "\n" ++ (told ++ part),
      record { table = part; has = same_pairs heads def_words b _ a _ bn _ an _ part e0 e3 e4 e5 e6 has; is = refl },
      put_three t (codes "\n") told part begun line put,
    )

-- the pairs of the families
pub puts_families : (own : Compared) (heads : HeadWords) (t three : Text) (b a : List Totals) (bn an : List (Vec ℕ Global)) → heads ≡ cown_words
    → b ≡ own.before.now.families.items → bn ≡ own.before_names.now.family_names.items → a ≡ own.after.now.families.items
    → an ≡ own.after_names.now.family_names.items → Puts (HasPairs heads b (texts_of bn) a (texts_of an)) t three → Puts (HasFamilies own) t three
puts_families own heads t three b a bn an e0 e1 e2 e3 e4 (part, has, put) =
    (part, same_pairs heads cown_words b _ a _ bn _ an _ part e0 e1 e2 e3 e4 has, put)

-- all parts, one behind the other
pub compare_parts : (own : Compared) (none one two three four : Text) (typical : Bool) (sides : List Side) (lines : List (List Text)) → none ≡ []
    → typical ≡ tells_typical own → sides ≡ numbers_sides → lines ≡ number_lines own.workers typical own.before.now own.after.now
    → one ≡ none ++ table_text sides lines → Puts (IsNamedPart own.named (IsDefsPart own)) one two → Puts (IsCownsPart own) two three
    → four ≡ three ++ verdict_text own.workers typical own.before.now own.after.now → IsCompareText own four
compare_parts own none one two three four typical sides lines empty e s l table (defs, defs_are, put_defs) (cowns, cowns_are, put_cowns) last =
    let all : lines ≡ number_lines own.workers (tells_typical own) own.before.now own.after.now =
    l ∙ ap (λ (t : Bool). number_lines own.workers t own.before.now own.after.now) e in
    let verdict : four ≡ three ++ verdict_text own.workers (tells_typical own) own.before.now own.after.now =
    last ∙ ap (λ (t : Bool). three ++ verdict_text own.workers t own.before.now own.after.now) e in
    let numbers : one ≡ [] ++ table_text numbers_sides (number_lines own.workers (tells_typical own) own.before.now own.after.now) =
    table ∙ (λ i. empty i ++ table_text (s i) (all i)) in
    record { defs = defs; defs_are = defs_are; cowns = cowns; cowns_are = cowns_are; is = put_four [] _ defs cowns _ numbers put_defs put_cowns verdict }
