-- Rows of a table that were spawned by lines of a text.
use Rattle.std.proofs.Common.{◌≡◌, ℕ, zero, suc, ◌+◌, ◌-◌, ◌≤◌, List, [], ◌∷◌, ◌++◌, ◌∙◌, length, length-append, take, drop, append_assoc, subst, ap, sym}
use Rattle.std.proofs.Common.{refl, inl, inr, arith}
use Rattle.std.specs.Prelude.{Some, Result, Ok, Err, OnOk, slice_get, slice_set, slice_range}
use Rattle.std.proofs.lemmas.List.{take-map, drop-map}
use Rattle.boc_program.proofs.ChangedItems.{range_stays, range_behind}
use Rattle.boc_record.specs.RecordTexts.{line}
use Rattle.boc_rules.proofs.Lists.{got_push, got_set, got_at}
use Rattle.boc_stream.specs.StreamTexts.{told_line}
use Rattle.boc_stream.specs.declared.told.Told.TheVariants.{Spawn}
use Rattle.boc_cut.specs.declared.table.CownUse.{CownUse}
use Rattle.boc_cut.specs.declared.table.Row.{Row}
use Rattle.boc_cut.specs.Spawned.{KeepsSpawned, SpawnsMore, AreSameRows, AppendsUses}
use Rattle.boc_cut.specs.Windows.{Spawns, IsSpawned, AreSpawned, cowns_used}

-- ---- a longer text

pub longer : (text more : List ℕ) (number : ℕ) (cowns : List ℕ) → Spawns text number cowns → Spawns (text ++ more) number cowns
longer text more number cowns s = record {
  parent = s.parent;
  offset = s.offset;
  before = s.before;
  after = s.after ++ more;
  begins = s.begins;
  is = ap (λ xs. xs ++ more) s.is ∙ append_assoc (s.before ++ line (told_line (Spawn number s.parent s.offset) cowns)) s.after more;
}

pub longer_text : (text more : List ℕ) (rows : List Row) (uses : List CownUse) → AreSpawned text rows uses → AreSpawned (text ++ more) rows uses
longer_text text more rows uses s place row got = let was = s place row got in record {
  rises = was.rises;
  within = was.within;
  by = longer text more row.number (cowns_used (slice_range uses row.from row.to)) was.by;
}

-- ---- rows that have changed

pub same_itself : (rows : List Row) → AreSameRows rows rows
same_itself rows place row got = (row, got, refl, refl, refl)

pub same_set : (rows others : List Row) (place : ℕ) (old row : Row) → slice_get others place ≡ Some old → AreSameRows rows others → row.number ≡ old.number
    → row.from ≡ old.from → row.to ≡ old.to → AreSameRows rows (slice_set others place row)
same_set rows others place old row there same number from to = λ k r got. elim (got_set others place k row r got) [
  | inl p ↦ (
      let (before, was, n, f, t) = same place old there in (
        before,
        got_at rows k place before p.0 was,
        ap (λ (x : Row). x.number) (sym p.1) ∙ number ∙ n,
        ap (λ (x : Row). x.from) (sym p.1) ∙ from ∙ f,
        ap (λ (x : Row). x.to) (sym p.1) ∙ to ∙ t,
      ))
  | inr p ↦ same k r p.1
]

pub same_rows : (rows others : List Row) (uses : List CownUse) → AreSameRows rows others → KeepsSpawned rows uses others uses
same_rows rows others uses same text s place row got =
    let (old, there, number, from, to) = same place row got in
    let was = s place old there in record {
      rises = omega (arith, was.rises, from, to);
      within = omega (arith, was.within, to);
      by = subst (λ (n : ℕ). Spawns text n (cowns_used (slice_range uses row.from row.to))) (sym number)
          (subst (λ (t : ℕ). Spawns text old.number (cowns_used (slice_range uses row.from t))) (sym to)
          (subst (λ (f : ℕ). Spawns text old.number (cowns_used (slice_range uses f old.to))) (sym from) was.by));
    }

-- ---- uses that have changed

cowns_range : (uses : List CownUse) (a b : ℕ) → cowns_used (slice_range uses a b) ≡ slice_range (cowns_used uses) a b
cowns_range uses a b =
    sym (ap (take (b - a)) (drop-map (λ (u : CownUse). u.cown) a uses) ∙ take-map (λ (u : CownUse). u.cown) (b - a) (drop a uses))

length_used : (uses : List CownUse) → length (cowns_used uses) ≡ length uses
length_used [] = refl
length_used (u ∷ uses) = ap suc (length_used uses)

pub same_uses : (rows : List Row) (uses more : List CownUse) → cowns_used more ≡ cowns_used uses → KeepsSpawned rows uses rows more
same_uses rows uses more same text s place row got =
    let was = s place row got in
    let long : length more ≡ length uses = sym (length_used more) ∙ ap length same ∙ length_used uses in record {
      rises = was.rises;
      within = omega (arith, was.within, long);
      by = subst (λ (cs : List ℕ). Spawns text row.number cs)
          (cowns_range uses row.from row.to ∙ ap (λ cs. slice_range cs row.from row.to) (sym same) ∙ sym (cowns_range more row.from row.to)) was.by;
    }

-- ---- one row more

pub one_row : (text : List ℕ) (rows : List Row) (uses more : List CownUse) (row : Row) → row.from ≡ length uses → row.to ≡ length uses + length more
    → Spawns text row.number (cowns_used more) → AreSpawned text rows uses → AreSpawned text (rows ++ row ∷ []) (uses ++ more)
one_row text rows uses more row from to spawned s place r got = elim (got_push rows place row r got) [
  | inl old ↦ (
      let was = s place r old in record {
        rises = was.rises;
        within = omega (arith, was.within, length-append uses more);
        by = subst (λ (u : List CownUse). Spawns text r.number (cowns_used u)) (sym (range_stays uses more r.from r.to was.rises was.within)) was.by;
      })
  | inr p ↦ subst (IsSpawned text (uses ++ more)) p.1 (record {
    rises = omega (arith, from, to);
    within = omega (arith, to, length-append uses more);
    by = subst (λ (u : List CownUse). Spawns text row.number (cowns_used u)) (sym (range_behind uses more row.from row.to from to)) spawned;
  })
]

pub used_set : (uses : List CownUse) (place : ℕ) (old used : CownUse) → slice_get uses place ≡ Some old → used.cown ≡ old.cown
    → cowns_used (slice_set uses place used) ≡ cowns_used uses
used_set [] place old used got same = refl
used_set (u ∷ uses) zero old used got same =
    let here : u ≡ old = (let e : Some u ≡ Some old = got in cc) in
    ap (λ c. c ∷ cowns_used uses) (same ∙ ap (λ (x : CownUse). x.cown) (sym here))
used_set (u ∷ uses) (suc place) old used got same = ap (λ cs. u.cown ∷ cs) (used_set uses place old used got same)

-- a row and its uses stand behind the others
pub row_put : (number : ℕ) (cowns : List ℕ) (rows others : List Row) (uses more : List CownUse) (row : Row) → AppendsUses cowns uses more → row.number ≡ number
    → row.from ≡ length uses → row.to ≡ length more → others ≡ rows ++ row ∷ [] → SpawnsMore number cowns rows uses others more
row_put number cowns rows others uses more row appends same from to is text spawned s =
    let (new, joined, named) = appends in
    let long : row.to ≡ length uses + length new = to ∙ ap length joined ∙ length-append uses new in
    let by : Spawns text row.number (cowns_used new) =
    subst (λ (n : ℕ). Spawns text n (cowns_used new)) (sym same) (subst (λ (cs : List ℕ). Spawns text number cs) (sym named) spawned) in
    subst (λ (rs : List Row). AreSpawned text rs more) (sym is) (subst (λ (us : List CownUse). AreSpawned text (rows ++ row ∷ []) us) (sym joined)
    (one_row text rows uses new row from long by s))

-- a row of the table is kept with its uses
pub row_kept : (all rows others : List Row) (old uses more : List CownUse) (row moved : Row) (place : ℕ) (range : List CownUse)
    → slice_get all place ≡ Some row → (row.from ≤ row.to → row.to ≤ length old → range ≡ slice_range old row.from row.to) → more ≡ uses ++ range
    → others ≡ rows ++ moved ∷ [] → moved.number ≡ row.number → moved.from ≡ length uses → moved.to ≡ length more → KeepsSpawned all old rows uses
    → KeepsSpawned all old others more
row_kept all rows others old uses more row moved place range got is joined put number from to keeps text s =
    let was = s place row got in
    let same : range ≡ slice_range old row.from row.to = is was.rises was.within in
    row_put row.number (cowns_used range) rows others uses more moved (range, joined, refl) number from to put text
    (subst (λ (r : List CownUse). Spawns text row.number (cowns_used r)) (sym same) was.by) (keeps text s)

pub on_ok : {A E P : Type 0} → (r : Result A E) → P → OnOk r P
on_ok (Ok x) p = p
on_ok (Err e) p = tt

-- rows that have changed, with uses of the same cowns
pub both_same : (rows others : List Row) (uses more : List CownUse) → AreSameRows rows others → cowns_used more ≡ cowns_used uses
    → KeepsSpawned rows uses others more
both_same rows others uses more same used text s = same_uses others uses more used text (same_rows rows others uses same text s)

-- nothing has changed
pub nothing_changed : (rows others : List Row) (uses more : List CownUse) → others ≡ rows → more ≡ uses → KeepsSpawned rows uses others more
nothing_changed rows others uses more r u text s =
    subst (λ (rs : List Row). AreSpawned text rs more) (sym r) (subst (λ (us : List CownUse). AreSpawned text rows us) (sym u) s)

-- rows are kept, and then changed
pub then_same : (rows mid others : List Row) (uses among more : List CownUse) → KeepsSpawned rows uses mid among → AreSameRows mid others → more ≡ among
    → KeepsSpawned rows uses others more
then_same rows mid others uses among more keeps same u text s =
    both_same mid others among more same (ap (λ us. cowns_used us) u) text (keeps text s)

-- rows are kept, and then one more is spawned
pub then_spawns : (number : ℕ) (cowns : List ℕ) (rows mid others : List Row) (uses among more : List CownUse) → KeepsSpawned rows uses mid among
    → SpawnsMore number cowns mid among others more → SpawnsMore number cowns rows uses others more
then_spawns number cowns rows mid others uses among more keeps spawns text spawned s = spawns text spawned (keeps text s)

-- one more is spawned, and then nothing changes
pub spawns_then : (number : ℕ) (cowns : List ℕ) (rows mid others : List Row) (uses among more : List CownUse) → SpawnsMore number cowns rows uses mid among
    → others ≡ mid → more ≡ among → SpawnsMore number cowns rows uses others more
spawns_then number cowns rows mid others uses among more spawns r u text spawned s =
    nothing_changed mid others among more r u text (spawns text spawned s)
