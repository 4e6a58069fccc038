-- What is told of the same two runs is the same, in names that call everything the same.
use Rattle.std.proofs.Common.{◌≡◌, ◌∙◌, ℕ, zero, suc, Bool, true, false, cond, List, [], ◌∷◌, ◌++◌, ap, refl, sym, subst}
use Rattle.std.specs.Prelude.{codes, decimal, ◌&&◌, not}
use Rattle.boc_table.specs.Tables.{table_text}
use Rattle.boc_names.specs.declared.names.Names.{Names}
use Rattle.boc_names.specs.Names.{CallTheSame, Text, text_at, texts_of}
use Rattle.boc_why.specs.declared.shares.Share.{Share}
use Rattle.boc_why_report.specs.ShortTexts.{heaviest_text, more_shares, share_text}
use Rattle.boc_compare.specs.declared.totals.Totals.{Totals}
use Rattle.boc_compare_report.specs.declared.told.Compared.{Compared}
use Rattle.boc_compare_report.specs.CompareTexts.{number_lines, number_texts, numbers_head, numbers_sides, percent_text, times_lines}
use Rattle.boc_compare_report.specs.CompareTexts.{end_told, typical_lines, verdict_text}
use Rattle.boc_compare_report.specs.Compared.{HasFamilies, HasPairs, IsCompareText, IsCownsPart, IsDefsPart, IsNamedPart, IsPartWhere}
use Rattle.boc_compare_report.specs.Compared.{tells_typical}
use Rattle.boc_compare_report.specs.PairTexts.{HeadWords, cown_words, def_words, pair_sides, pairs_lines}
use Rattle.boc_compare_report.specs.Same.{TellTheSame}
use Rattle.boc_compare_report.proofs.Decided.{changes_decided}

-- ---- tables of pairs

-- the table of pairs has one text
pairs_one : (heads : HeadWords) (before : List Totals) (before_names : List Text) (after : List Totals) (after_names : List Text) (part other : Text)
    → HasPairs heads before before_names after after_names part → HasPairs heads before before_names after after_names other → part ≡ other
pairs_one heads before before_names after after_names part other x y =
    x.is ∙ (ap (λ pairs. codes "\n" ++ table_text pair_sides (pairs_lines heads before_names after_names pairs))
    (changes_decided before before_names after after_names x.pairs y.pairs x.are y.are) ∙ sym y.is)

-- the same of lists and names that are the same
pairs_same : (heads : HeadWords) (b before : List Totals) (bn before_names : List Text) (a after : List Totals) (an after_names : List Text)
    (part other : Text) → b ≡ before → bn ≡ before_names → a ≡ after → an ≡ after_names → HasPairs heads b bn a an part
    → HasPairs heads before before_names after after_names other → part ≡ other
pairs_same heads b before bn before_names a after an after_names part other e1 e2 e3 e4 x y =
    pairs_one heads before before_names after after_names part other
    (subst (λ (own : List Totals). HasPairs heads own before_names after after_names part) e1
    (subst (λ (own : List Text). HasPairs heads b own after after_names part) e2
    (subst (λ (own : List Totals). HasPairs heads b bn own after_names part) e3
    (subst (λ (own : List Text). HasPairs heads b bn a own part) e4 x)))) y

-- ---- chains

module _ (a b : Names) (same : CallTheSame a b) where
  share_same : (s : Share) → share_text a s ≡ share_text b s
  share_same s = λ i. text_at (same.def_names i) s.key ++ codes " " ++ decimal s.ticks

  more_same : (most : ℕ) (shares : List Share) → more_shares a most shares ≡ more_shares b most shares
  more_same zero [] = refl
  more_same (suc most) [] = refl
  more_same zero (s ∷ shares) = refl
  more_same (suc most) (s ∷ shares) = λ i. codes ", " ++ share_same s i ++ more_same most shares i

  heaviest_same : (shares other : List Share) → shares ≡ other → heaviest_text a shares ≡ heaviest_text b other
  heaviest_same [] other e = ap (heaviest_text b) e
  heaviest_same (s ∷ shares) other e = (λ i. share_same s i ++ more_same 2 shares i) ∙ ap (heaviest_text b) e

-- ---- parts that are left out

where_one : (before after : List Totals) (Is IsOther : Text → Type 0) (part other : Text) → ((x y : Text) → Is x → IsOther y → x ≡ y)
    → IsPartWhere before after Is part → IsPartWhere before after IsOther other → part ≡ other
where_one [] [] Is IsOther part other one x y = x ∙ sym y
where_one [] (b ∷ after) Is IsOther part other one x y = one part other x y
where_one (a ∷ before) after Is IsOther part other one x y = one part other x y

where_same : (b before a after : List Totals) (Is IsOther : Text → Type 0) (part other : Text) → b ≡ before → a ≡ after
    → ((x y : Text) → Is x → IsOther y → x ≡ y) → IsPartWhere b a Is part → IsPartWhere before after IsOther other → part ≡ other
where_same b before a after Is IsOther part other e1 e2 one x y =
    where_one before after Is IsOther part other one
    (subst (λ (own : List Totals). IsPartWhere own after Is part) e1 (subst (λ (own : List Totals). IsPartWhere b own Is part) e2 x)) y

-- ---- all of it

module _ (own other : Compared) (alike : TellTheSame own other) where
  defs_same : (part other_part : Text) → IsDefsPart own part → IsDefsPart other other_part → part ≡ other_part
  defs_same part other_part x y =
      let table : x.table ≡ y.table = pairs_same def_words own.before.now.defs.items other.before.now.defs.items
      (texts_of own.before_names.now.def_names.items) (texts_of other.before_names.now.def_names.items) own.after.now.defs.items other.after.now.defs.items
      (texts_of own.after_names.now.def_names.items) (texts_of other.after_names.now.def_names.items) x.table y.table alike.before.defs
      alike.before_names.def_names alike.after.defs alike.after_names.def_names x.has y.has in
      let was : heaviest_text own.before_names.now own.before.now.by_def.items ≡ heaviest_text other.before_names.now other.before.now.by_def.items =
      heaviest_same own.before_names.now other.before_names.now alike.before_names own.before.now.by_def.items other.before.now.by_def.items
      alike.before.by_def in
      let now : heaviest_text own.after_names.now own.after.now.by_def.items ≡ heaviest_text other.after_names.now other.after.now.by_def.items =
      heaviest_same own.after_names.now other.after_names.now alike.after_names own.after.now.by_def.items other.after.now.by_def.items
      alike.after.by_def in
      x.is ∙ ((λ i. codes "\n" ++ (codes "chain  " ++ was i ++ codes "  ->  " ++ now i ++ codes "\n") ++ table i) ∙ sym y.is)

  -- the chains and the defs, if both have names
  named_one : (named : Bool) (part other_part : Text) → IsNamedPart named (IsDefsPart own) part → IsNamedPart named (IsDefsPart other) other_part
      → part ≡ other_part
  named_one true part other_part x y = defs_same part other_part x y
  named_one false part other_part x y = x ∙ sym y

  -- the families of cowns, if there are any
  cowns_same : (part other_part : Text) → IsCownsPart own part → IsCownsPart other other_part → part ≡ other_part
  cowns_same part other_part x y =
      where_same own.before.now.families.items other.before.now.families.items own.after.now.families.items other.after.now.families.items (HasFamilies own)
      (HasFamilies other) part other_part alike.before.families alike.after.families
      (λ mine yours h k. pairs_same cown_words own.before.now.families.items other.before.now.families.items
      (texts_of own.before_names.now.family_names.items) (texts_of other.before_names.now.family_names.items) own.after.now.families.items
      other.after.now.families.items (texts_of own.after_names.now.family_names.items) (texts_of other.after_names.now.family_names.items) mine yours
      alike.before.families alike.before_names.family_names alike.after.families alike.after_names.family_names h k) x y

  lines_same : number_lines own.workers (tells_typical own) own.before.now own.after.now
      ≡ number_lines other.workers (tells_typical other) other.before.now other.after.now
  lines_same = λ i. (numbers_head ∷ number_texts (codes "rows") (alike.before.rows i) (alike.after.rows i)
      ∷ times_lines (alike.workers i) (alike.before.times i) (alike.after.times i)
      ++ (number_texts (codes "a better order") (alike.before.order_end i) (alike.after.order_end i)
      ∷ number_texts (codes "bound for any order") (alike.before.bound i) (alike.after.bound i) ∷ []))
      ++ cond (alike.named i && not (alike.typical i)) (typical_lines (alike.workers i) (alike.before.typical i) (alike.after.typical i)) []

  verdict_same : verdict_text own.workers (tells_typical own) own.before.now own.after.now
      ≡ verdict_text other.workers (tells_typical other) other.before.now other.after.now
  verdict_same = λ i. codes "the span is " ++ percent_text (alike.before.times i).span (alike.after.times i).span
      ++ cond (alike.named i && not (alike.typical i)) (codes ", with typical ticks "
      ++ percent_text (alike.before.typical i).span (alike.after.typical i).span) []
      ++ end_told (alike.workers i) (alike.before.times i).end (alike.after.times i).end ++ codes "\n"

  -- all of it
  pub one_compare_text : (text other_text : Text) → IsCompareText own text → IsCompareText other other_text → text ≡ other_text
  one_compare_text text other_text x y =
      let defs : x.defs ≡ y.defs = named_one other.named x.defs y.defs
      (subst (λ (named : Bool). IsNamedPart named (IsDefsPart own) x.defs) alike.named x.defs_are) y.defs_are in
      let cowns : x.cowns ≡ y.cowns = cowns_same x.cowns y.cowns x.cowns_are y.cowns_are in
      x.is ∙ ((λ i. table_text numbers_sides (lines_same i) ++ defs i ++ cowns i ++ verdict_same i) ∙ sym y.is)
