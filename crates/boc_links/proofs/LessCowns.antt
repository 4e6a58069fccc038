-- What stays of rows without some cowns: spawns and ticks, and each conflict on another cown.
use Rattle.std.proofs.Common.{◌≡◌, ℕ, ◌⊎◌, List, [], ◌∷◌, length, refl, sym, ◌∙◌, inl, inr, arith}
use Rattle.std.specs.List.{Contains}
use Rattle.boc_runs.specs.declared.rows.Row.{Row}
use Rattle.boc_runs.specs.Rows.{parent_of, offset_of, ticks_of, cowns_of}
use Rattle.boc_runs.specs.Changes.{without}
use Rattle.boc_runs.proofs.Freeing.{length-without, parent_of-without, offset_of-without, ticks_of-without}
use Rattle.boc_plans.specs.declared.sharing.Sharing.{Sharing}
use Rattle.boc_plans.specs.Plans.{ConflictOn, IsChild, Ordered}
use Rattle.boc_plans.specs.Seen.{seen}
use Rattle.boc_plans.proofs.FreedSeeing.{without-seen}
use Rattle.boc_order.proofs.LeftOut.{still_conflict}
use Rattle.boc_why.specs.Causes.{without_all}
use Rattle.boc_links.proofs.Choosing.{CanBeTold, stands_first, stands_behind, some_or_none, in_or_out, conflict_or_not}

pub length-without_all : (cowns : List ℕ) (rows : List Row) → length (without_all cowns rows) ≡ length rows
length-without_all [] rows = refl
length-without_all (x ∷ cowns) rows = length-without_all cowns (without x rows) ∙ length-without x rows

pub parent_of-without_all : (cowns : List ℕ) (rows : List Row) (r : ℕ) → parent_of (without_all cowns rows) r ≡ parent_of rows r
parent_of-without_all [] rows r = refl
parent_of-without_all (x ∷ cowns) rows r = parent_of-without_all cowns (without x rows) r ∙ parent_of-without x rows r

pub offset_of-without_all : (cowns : List ℕ) (rows : List Row) (r : ℕ) → offset_of (without_all cowns rows) r ≡ offset_of rows r
offset_of-without_all [] rows r = refl
offset_of-without_all (x ∷ cowns) rows r = offset_of-without_all cowns (without x rows) r ∙ offset_of-without x rows r

pub ticks_of-without_all : (cowns : List ℕ) (rows : List Row) (r : ℕ) → ticks_of (without_all cowns rows) r ≡ ticks_of rows r
ticks_of-without_all [] rows r = refl
ticks_of-without_all (x ∷ cowns) rows r = ticks_of-without_all cowns (without x rows) r ∙ ticks_of-without x rows r

-- the rows without these cowns, as they are seen, are those that are seen, without them
pub without_all-seen : (cowns : List ℕ) (s : Sharing) (rows : List Row) → seen s (without_all cowns rows) ≡ without_all cowns (seen s rows)
without_all-seen [] s rows = refl
without_all-seen (x ∷ cowns) s rows = rw (sym (without-seen x s rows)) (without_all-seen cowns s (without x rows))

-- a conflict on a cown that isn't among them stays
pub still_conflict_on : (cowns : List ℕ) (rows : List Row) (c a b : ℕ) → (Contains cowns c → ⊥) → ConflictOn rows c a b
    → ConflictOn (without_all cowns rows) c a b
still_conflict_on [] rows c a b out on = on
still_conflict_on (x ∷ cowns) rows c a b out on =
    still_conflict_on cowns (without x rows) c a b (λ h. out (stands_behind x c cowns h))
    (still_conflict x rows c a b (λ e. out (stands_first x c cowns e)) on)

module _ (cowns : List ℕ) (rows : List Row) where
  -- a row's children stay
  pub still_child : (a b : ℕ) → IsChild rows a b → IsChild (without_all cowns rows) a b
  still_child a b child = record {
    not_main = child.not_main;
    there = omega (arith, length-without_all cowns rows, child.there);
    parent = parent_of-without_all cowns rows b ∙ child.parent;
  }

  -- two rows conflict on a cown that isn't among them, or on none but them
  abbrev IsKept : (a b c : ℕ) → Type 0
  IsKept a b c = ConflictOn rows c a b × (Contains cowns c → ⊥)

  kept_or_not : (a b c : ℕ) → CanBeTold (IsKept a b c)
  kept_or_not a b c = elim (conflict_or_not rows c a b) [
    | inr isnt ↦ inr (λ k. isnt k.0)
    | inl on ↦ elim (in_or_out cowns c) [
      | inl h ↦ inr (λ k. k.1 h)
      | inr out ↦ inl (on, out)
    ]
  ]

  within_from_none : (a b : ℕ) → ((c : ℕ) → Contains (cowns_of rows a) c → IsKept a b c → ⊥) → (c : ℕ) → ConflictOn rows c a b → Contains cowns c
  within_from_none a b none c on = elim (in_or_out cowns c) [
    | inl h ↦ h
    | inr out ↦ absurd (none c on.first (on, out))
  ]

  -- a row that is ordered before another one still is, or over none but these cowns
  pub still_ordered : (a b : ℕ) → Ordered rows a b → Ordered (without_all cowns rows) a b ⊎ ((c : ℕ) → ConflictOn rows c a b → Contains cowns c)
  still_ordered a b o = elim (some_or_none (IsKept a b) (kept_or_not a b) (cowns_of rows a)) [
    | inl found ↦ inl (record { before = o.before; shared = (found.0, still_conflict_on cowns rows found.0 a b found.1.1 found.1.0) })
    | inr none ↦ inr (within_from_none a b none)
  ]
