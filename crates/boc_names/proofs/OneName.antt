-- Everything has one name: texts have one grouping, and a file says one thing of the same names.
use Rattle.std.proofs.Common.{◌≡◌, ◌∙◌, ℕ, suc, ◌<◌, ◌≤◌, ⊎_elim, List, [], ◌∷◌, length, ap, arith, refl, subst, sym}
use Rattle.std.specs.Prelude.{map}
use Rattle.std.proofs.lemmas.Bool.{cases_lt}
use Rattle.std.proofs.lemmas.List.{ext_get_or}
use Rattle.std.proofs.lemmas.Option.{unwrap_or-slice_get}
use Rattle.boc_program.specs.declared.program.Program.{Program}
use Rattle.boc_runs.specs.Run.{Member}
use Rattle.boc_names.specs.declared.names.Names.{Names}
use Rattle.boc_names.specs.Grouping.{AreDistinct, CountUp, IsGrouping}
use Rattle.boc_names.specs.Names.{AreNamesOf, AreNumbers, CallTheSame, Text, text_at, texts_of}
use Rattle.boc_names.specs.NamesFile.{IsNamedBy, Line, cown_calls, laid, names_at, row_calls}
use Rattle.boc_names.proofs.Groups.{count_rises}
use Rattle.boc_names.proofs.Words.{one_reading}

-- ---- groups

-- the first so many names of two lists are the same
abbrev AgreeTo : ℕ → List Text → List Text → Type 0
AgreeTo next names others = (i : ℕ) → i < next → text_at names i ≡ text_at others i

-- numbers are the same, and so are the names that they have
record AreOne (names others : List Text) (ns ms : List ℕ) : Type 0 where
  numbers : ns ≡ ms
  many : length names ≡ length others
  agree : AgreeTo (length names) names others

module _ (names others : List Text) (distinct : AreDistinct names) (apart : AreDistinct others) where
  one_more : (n m : ℕ) (ns ms : List ℕ) → n ≡ m → AreOne names others ns ms → AreOne names others (n ∷ ns) (m ∷ ms)
  one_more n m ns ms e one = record { numbers = λ i. e i ∷ one.numbers i; many = one.many; agree = one.agree }

  -- where names agree so far, a text that has come in one list has come in the other
  come_in_both : (next n m : ℕ) → next ≤ length others → AgreeTo next names others → text_at names n ≡ text_at others m → n < next → m < length others
      → n ≡ m
  come_in_both next n m low agree e h g = apart n m (omega (arith, h, low)) g (sym (agree n h) ∙ e)

  come_in_both_too : (next n m : ℕ) → next ≤ length names → AgreeTo next names others → text_at names n ≡ text_at others m → m < next
      → n < length names → n ≡ m
  come_in_both_too next n m low agree e h g = distinct n m g (omega (arith, h, low)) (e ∙ sym (agree m h))

  agree_more : (next n m : ℕ) → n ≡ next → m ≡ next → AgreeTo next names others → text_at names n ≡ text_at others m → AgreeTo (suc next) names others
  agree_more next n m e f agree same i h = ⊎_elim (λ (l : i < next). agree i l)
      (λ (g : next ≤ i).
      let first : n ≡ i = omega (arith, e, g, h) in
      let second : m ≡ i = omega (arith, f, g, h) in
      sym (ap (text_at names) first) ∙ same ∙ ap (text_at others) second)
      (cases_lt i next)

  same_from : (ns ms : List ℕ) (next : ℕ) → CountUp next ns (length names) → CountUp next ms (length others)
      → map (text_at names) ns ≡ map (text_at others) ms → AgreeTo next names others → AreOne names others ns ms
  same_from [] [] next a b e agree = record {
    numbers = refl;
    many = sym a ∙ b;
    agree = subst (λ (k : ℕ). AgreeTo k names others) a agree;
  }
  same_from [] (m ∷ ms) next a b e agree = absurd cc
  same_from (n ∷ ns) [] next a b e agree = absurd cc
  same_from (n ∷ ns) (m ∷ ms) next a b e agree =
      let first : text_at names n ≡ text_at others m = cc in
      let rest : map (text_at names) ns ≡ map (text_at others) ms = cc in
      ⊎_elim
      (λ (x : (n < next) × CountUp next ns (length names)). ⊎_elim
      (λ (y : (m < next) × CountUp next ms (length others)).
      let low : next ≤ length others = count_rises ms next (length others) y.1 in
      one_more n m ns ms (come_in_both next n m low agree first x.0 (omega (arith, y.0, low))) (same_from ns ms next x.1 y.1 rest agree))
      (λ (y : (m ≡ next) × CountUp (suc next) ms (length others)).
      let low : suc next ≤ length others = count_rises ms (suc next) (length others) y.1 in
      absurd (omega (arith, x.0, y.0, come_in_both next n m (omega (arith, low)) agree first x.0 (omega (arith, y.0, low)))))
      b)
      (λ (x : (n ≡ next) × CountUp (suc next) ns (length names)). ⊎_elim
      (λ (y : (m < next) × CountUp next ms (length others)).
      let low : suc next ≤ length names = count_rises ns (suc next) (length names) x.1 in
      absurd (omega (arith, x.0, y.0, come_in_both_too next n m (omega (arith, low)) agree first y.0 (omega (arith, x.0, low)))))
      (λ (y : (m ≡ next) × CountUp (suc next) ms (length others)).
      one_more n m ns ms (x.0 ∙ sym y.0) (same_from ns ms (suc next) x.1 y.1 rest (agree_more next n m x.0 y.0 agree first)))
      b)
      a

  same_names : length names ≡ length others → AgreeTo (length names) names others → names ≡ others
  same_names many agree =
      ext_get_or [] names others many (λ i h. sym (unwrap_or-slice_get names i []) ∙ agree i h ∙ unwrap_or-slice_get others i [])

pub one_grouping : (texts : List Text) (numbers others : List ℕ) (names other_names : List Text) → IsGrouping texts numbers names
    → IsGrouping texts others other_names → (numbers ≡ others) × (names ≡ other_names)
one_grouping texts numbers others names other_names a b =
    let one : AreOne names other_names numbers others = same_from names other_names a.distinct b.distinct numbers others 0 a.in_order b.in_order
    (sym a.called ∙ b.called) (λ i h. absurd (omega (arith, h))) in
    (one.numbers, same_names names other_names a.distinct b.distinct one.many one.agree)

-- ---- names

pub one_naming : (program : Program) (called : List Text) (members : List Member) (names other : Names) → AreNamesOf program called members names
    → AreNamesOf program called members other → CallTheSame names other
one_naming program called members names other a b = record {
  defs = a.defs ∙ sym b.defs;
  def_names = a.def_names ∙ sym b.def_names;
  rows = a.rows ∙ sym b.rows;
  cowns = a.cowns ∙ sym b.cowns;
  families = a.families ∙ sym b.families;
  family_names = a.family_names ∙ sym b.family_names;
}

pub one_numbering : (rows cowns : ℕ) (names other : Names) → AreNumbers rows cowns names → AreNumbers rows cowns other → CallTheSame names other
one_numbering rows cowns names other a b = record {
  defs = a.defs ∙ sym b.defs;
  def_names = a.def_names ∙ sym b.def_names;
  rows = a.rows ∙ sym b.rows;
  cowns = a.cowns ∙ sym b.cowns;
  families = a.families ∙ sym b.families;
  family_names = a.family_names ∙ sym b.family_names;
}

-- the texts that the rows and the cowns are grouped by, once these lines are laid over them
abbrev row_groups : List Line → List Text → List ℕ → List Text
row_groups lines names numbers = laid (λ call. call.group) (row_calls lines) 0 (names_at names numbers)

abbrev cown_groups : List Line → List Text → List ℕ → List Text
cown_groups lines names numbers = laid (λ call. call.group) (cown_calls lines) 0 (names_at names numbers)

pub one_naming_by_file : (text : Text) (base other names others : Names) → CallTheSame base other → IsNamedBy text base names
    → IsNamedBy text other others → CallTheSame names others
one_naming_by_file text base other names others same a b =
    let lines : a.lines ≡ b.lines = one_reading a.lines b.lines a.good.lines_are b.good.lines_are (sym a.is ∙ b.is) in
    let rows : laid (λ call. call.text) (row_calls a.lines) 0 (texts_of base.rows.items)
    ≡ laid (λ call. call.text) (row_calls b.lines) 0 (texts_of other.rows.items) =
    λ i. laid (λ call. call.text) (row_calls (lines i)) 0 (same.rows i) in
    let cowns : laid (λ call. call.text) (cown_calls a.lines) 0 (texts_of base.cowns.items)
    ≡ laid (λ call. call.text) (cown_calls b.lines) 0 (texts_of other.cowns.items) =
    λ i. laid (λ call. call.text) (cown_calls (lines i)) 0 (same.cowns i) in
    let by_row : row_groups a.lines (texts_of base.def_names.items) base.defs.items
    ≡ row_groups b.lines (texts_of other.def_names.items) other.defs.items = λ i. row_groups (lines i) (same.def_names i) (same.defs i) in
    let by_cown : cown_groups a.lines (texts_of base.family_names.items) base.families.items
    ≡ cown_groups b.lines (texts_of other.family_names.items) other.families.items =
    λ i. cown_groups (lines i) (same.family_names i) (same.families i) in
    let defs = one_grouping (row_groups b.lines (texts_of other.def_names.items) other.defs.items) names.defs.items others.defs.items
    (texts_of names.def_names.items) (texts_of others.def_names.items)
    (subst (λ (texts : List Text). IsGrouping texts names.defs.items (texts_of names.def_names.items)) by_row a.laid_over.defs) b.laid_over.defs in
    let families = one_grouping (cown_groups b.lines (texts_of other.family_names.items) other.families.items) names.families.items
    others.families.items (texts_of names.family_names.items) (texts_of others.family_names.items)
    (subst (λ (texts : List Text). IsGrouping texts names.families.items (texts_of names.family_names.items)) by_cown a.laid_over.families)
    b.laid_over.families in
    record {
      defs = defs.0;
      def_names = defs.1;
      rows = a.laid_over.rows ∙ rows ∙ sym b.laid_over.rows;
      cowns = a.laid_over.cowns ∙ cowns ∙ sym b.laid_over.cowns;
      families = families.0;
      family_names = families.1;
    }
