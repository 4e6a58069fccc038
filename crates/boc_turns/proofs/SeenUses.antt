-- The uses of rows are those of the rows as plans see them.
use Rattle.std.proofs.Common.{◌≡◌, ℕ, zero, suc, ◌+◌, List, [], ◌∷◌, length, take, Option, drop, refl, ap, sym, ◌∙◌, arith}
use Rattle.std.specs.List.{fold}
use Rattle.boc_runs.specs.declared.rows.Row.{Row}
use Rattle.boc_runs.specs.Rows.{cowns_of, ticks_of}
use Rattle.boc_plans.specs.declared.sharing.Sharing.{Sharing}
use Rattle.boc_plans.specs.declared.sharing.Sharing.TheVariants.{Exclusive, SharedReads}
use Rattle.boc_plans.specs.Seen.{seen, writing_all}
use Rattle.boc_plans.proofs.Seeing.{cowns_of-seen, ticks_of-seen, length-seen}
use Rattle.boc_uses.specs.declared.uses.Use.{Use}
use Rattle.boc_turns.specs.Turns.{cowns_before, use_at, use_of, AreUses, IsWithin}

-- how many cowns these rows have together, after so many
abbrev more_cowns : ℕ → List Row → ℕ
more_cowns n rows = fold (λ (n : ℕ) (x : Row). n + length x.cowns.items) n rows

more_writing : (n : ℕ) (rows : List Row) → more_cowns n (writing_all rows) ≡ more_cowns n rows
more_writing n [] = refl
more_writing n (x ∷ rows) = more_writing (n + length x.cowns.items) rows

take_writing : (n : ℕ) (rows : List Row) → take n (writing_all rows) ≡ writing_all (take n rows)
take_writing zero [] = refl
take_writing zero (x ∷ rows) = refl
take_writing (suc n) [] = refl
take_writing (suc n) (x ∷ rows) = ap (λ (l : List Row). record x { written = x.cowns } ∷ l) (take_writing n rows)

before_writing : (rows : List Row) (n : ℕ) → cowns_before (writing_all rows) n ≡ cowns_before rows n
before_writing rows n = ap (more_cowns 0) (take_writing n rows) ∙ more_writing 0 (take n rows)

before_seen : (s : Sharing) (rows : List Row) (n : ℕ) → cowns_before (seen s rows) n ≡ cowns_before rows n
before_seen Exclusive rows n = before_writing rows n
before_seen SharedReads rows n = refl

use_seen : (s : Sharing) (rows : List Row) (uses : List (Option Use)) (r c : ℕ) → use_of (seen s rows) uses r c ≡ use_of rows uses r c
use_seen s rows uses r c =
    ap (λ (cowns : List ℕ). use_at cowns (drop (cowns_before (seen s rows) r) uses) c) (cowns_of-seen s rows r)
    ∙ ap (λ (k : ℕ). use_at (cowns_of rows r) (drop k uses) c) (before_seen s rows r)

pub uses_of_seen : (s : Sharing) (rows : List Row) (uses : List (Option Use)) → AreUses rows uses → AreUses (seen s rows) uses
uses_of_seen s rows uses are = record {
  whole = are.whole ∙ sym (before_seen s rows (length rows)) ∙ ap (cowns_before (seen s rows)) (sym (length-seen s rows));
  within = λ r c u e. (
      let w = are.within r c u (sym (use_seen s rows uses r c) ∙ e) in
      record { from_one = w.from_one; rises = w.rises; ends = omega (arith, w.ends, ticks_of-seen s rows r) });
}
