-- Rows that are ordered less, or spawned earlier, start no later.
use Rattle.std.proofs.Common.{◌≡◌, ℕ, ◌<◌, ◌≤◌, List, length, not, sym, ◌∙◌, inl, inr, arith}
use Rattle.std.specs.Prelude.{filter, ◌==◌, Bool}
use Rattle.std.specs.List.{Contains}
use Rattle.std.proofs.lemmas.Bool.{cases_eq}
use Rattle.std.proofs.lemmas.List.Elements.{All-contains, All-contains_itself, All-filter}
use Rattle.boc_program.specs.Cowns.{others}
use Rattle.boc_runs.specs.declared.rows.Row.{Row}
use Rattle.boc_runs.specs.Rows.{offset_of, ticks_of}
use Rattle.boc_runs.specs.Changes.{moved, without}
use Rattle.boc_runs.proofs.Freeing.{length-without, parent_of-without, offset_of-without, ticks_of-without, cowns_of-without, written_of-without}
use Rattle.boc_runs.proofs.Moving.{length-moved, parent_of-moved, ticks_of-moved, cowns_of-moved, written_of-moved, offset_of-moved_same, offset_of-moved_other}
use Rattle.boc_plans.specs.Plans.{ConflictOn, Ordered, Keeps, IsEarliest, start_of}
use Rattle.boc_plans.specs.Greedy.{IsSpan}

-- what is left of cowns is among them
pub among_left : (cown : ℕ) (cowns : List ℕ) (c : ℕ) → Contains (others cown cowns) c → Contains cowns c
among_left cown cowns c m =
    let p : ℕ → Bool = λ (k : ℕ). not (k == cown) in
    All-contains (λ (x : ℕ). Contains cowns x) (filter p cowns) c (All-filter p (λ (x : ℕ). Contains cowns x) cowns (All-contains_itself cowns)) m

-- a plan that keeps the rows keeps them without a cown
module _ (rows : List Row) (cown : ℕ) where
  conflict_back : (c a b : ℕ) → ConflictOn (without cown rows) c a b → ConflictOn rows c a b
  conflict_back c a b o = record {
    first = among_left cown _ c (rw (cowns_of-without cown rows a) at o.first);
    second = among_left cown _ c (rw (cowns_of-without cown rows b) at o.second);
    wrote = elim (rw (written_of-without cown rows a, written_of-without cown rows b) at o.wrote) [
      | inl h ↦ inl (among_left cown _ c h)
      | inr h ↦ inr (among_left cown _ c h)
    ];
  }

  pub keeps_without : (plan : List ℕ) → Keeps rows plan → Keeps (without cown rows) plan
  keeps_without plan k = record {
    whole = k.whole ∙ sym (length-without cown rows);
    spawned = λ a b child. omega (
      arith,
      offset_of-without cown rows b,
      k.spawned a b (record {
        not_main = child.not_main;
        there = omega (arith, length-without cown rows, child.there);
        parent = sym (parent_of-without cown rows b) ∙ child.parent;
      }),
    );
    in_order = λ a b there o. omega (
      arith,
      ticks_of-without cown rows a,
      k.in_order a b (omega (arith, length-without cown rows, there)) (record {
        before = o.before;
        shared = (o.shared.0, conflict_back o.shared.0 a b o.shared.1);
      }),
    );
  }

-- and where one of them is spawned no later than it was
module _ (rows : List Row) (row offset : ℕ) (early : offset ≤ offset_of rows row) where
  ordered_back : (a b : ℕ) → Ordered (moved rows row offset) a b → Ordered rows a b
  ordered_back a b o = record {
    before = o.before;
    shared = (
      o.shared.0,
      record {
        first = rw (cowns_of-moved rows row offset a) at o.shared.1.first;
        second = rw (cowns_of-moved rows row offset b) at o.shared.1.second;
        wrote = rw (written_of-moved rows row offset a, written_of-moved rows row offset b) at o.shared.1.wrote;
      },
    );
  }

  no_later : (b : ℕ) → b < length rows → offset_of (moved rows row offset) b ≤ offset_of rows b
  no_later b there = elim (cases_eq b row) [
    | inl e ↦ rw e (omega (arith, offset_of-moved_same rows row offset (omega (arith, e, there)), early))
    | inr ne ↦ omega (arith, offset_of-moved_other rows row offset b ne)
  ]

  pub keeps_moved : (plan : List ℕ) → Keeps rows plan → Keeps (moved rows row offset) plan
  keeps_moved plan k = record {
    whole = k.whole ∙ sym (length-moved rows row offset);
    spawned = λ a b child.
        let there : b < length rows = omega (arith, length-moved rows row offset, child.there) in
        omega (
          arith,
          no_later b there,
          k.spawned a b (record {
            not_main = child.not_main;
            there = there;
            parent = sym (parent_of-moved rows row offset b) ∙ child.parent;
          }),
        );
    in_order = λ a b there o. omega (
      arith,
      ticks_of-moved rows row offset a,
      k.in_order a b (omega (arith, length-moved rows row offset, there)) (ordered_back a b o),
    );
  }

-- where a plan that keeps some rows keeps others with the same ticks, these end no later
pub ends_no_later : (rows others : List Row) (span other : ℕ) → length others ≡ length rows → ((r : ℕ) → ticks_of others r ≡ ticks_of rows r)
    → ((plan : List ℕ) → Keeps rows plan → Keeps others plan) → IsSpan rows span → IsSpan others other → other ≤ span
ends_no_later rows others span other whole ticks keeps s t =
    let r : ℕ = t.ends.reached.0 in
    let there : r < length others = t.ends.reached.1 in
    omega (
      arith,
      t.ends.reached.2,
      t.earliest.least s.plan (keeps s.plan s.earliest.keeps) r there,
      s.ends.none_later r (omega (arith, whole, there)),
      ticks r,
    )

pub starts_no_later : (rows others : List Row) (plan other : List ℕ) → length others ≡ length rows
    → ((plan : List ℕ) → Keeps rows plan → Keeps others plan) → IsEarliest rows plan → IsEarliest others other
    → (r : ℕ) → r < length rows → start_of other r ≤ start_of plan r
starts_no_later rows others plan other whole keeps s t r there = t.least plan (keeps plan s.keeps) r (omega (arith, whole, there))
