-- A plan before anything starts.
use Rattle.std.proofs.Common.{◌≡◌, ◌≢◌, ℕ, zero, suc, ◌+◌, ◌<◌, ◌≤◌, Bool, true, false, cond, List, [], length, set, get_or, Option, Some, None, refl, sym, ap, ◌∙◌, subst, arith, inl, inr, length-set}
use Rattle.std.specs.Prelude.{nat_lt, replicate, slice_get, slice_index}
use Rattle.std.specs.List.{Contains}
use Rattle.std.proofs.lemmas.List.{get_or-replicate, length-replicate}
use Rattle.std.proofs.lemmas.List.Sums.{sum_by-le}
use Rattle.boc_program.proofs.ChangedItems.{set_same, set_other}
use Rattle.boc_runs.specs.declared.rows.Row.{Row}
use Rattle.boc_runs.specs.Rows.{IsRows, parent_of}
use Rattle.boc_runs.specs.Siblings.{AreYoungers, IsNextChild}
use Rattle.boc_runs.specs.Changes.{IsChildOf}
use Rattle.boc_plans.specs.Plans.{start_of}
use Rattle.boc_plans.specs.Seen.{seen}
use Rattle.boc_plans.specs.declared.sharing.Sharing.{Sharing}
use Rattle.boc_plans.proofs.Seeing.{length-seen, parent_of-seen}
use Rattle.boc_eager.specs.declared.course.Course.{Course}
use Rattle.boc_eager.specs.declared.place.Place.{Place}
use Rattle.boc_eager.specs.declared.place.Place.TheVariants.{Unspawned, New}
use Rattle.boc_eager.specs.Kinds.{AreKinds}
use Rattle.boc_eager.specs.Lines.{behind_of, front_of}
use Rattle.boc_eager.specs.Courses.{AreEmpty, InHand, IsAt, IsFirst, Stands, count_left, later, wait_of}
use Rattle.boc_eager.proofs.Leaving.{one_place}

replicate_at : {A : Type 0} (n : ℕ) (x : A) (i : ℕ) → i < n → slice_get (replicate n x) i ≡ Some x
replicate_at zero x i h = absurd (omega arith)
replicate_at (suc n) x zero h = refl
replicate_at (suc n) x (suc i) h = replicate_at n x i (omega (arith, h))

pub zeros : (n i : ℕ) → slice_index (replicate n 0) i ≡ 0
zeros zero i = refl
zeros (suc n) zero = refl
zeros (suc n) (suc i) = zeros n i

one_most : (b : Bool) → cond b 0 1 ≤ 1
one_most true = omega arith
one_most false = omega arith

count_most : (starts : List ℕ) → count_left starts ≤ length starts
count_most starts = omega (arith, sum_by-le (λ (x : ℕ). cond (nat_lt x later) 0 1) 1 starts (λ i d h. one_most (nat_lt (get_or starts i d) later)))

module _ (rows : List Row) (hr : IsRows rows) (c : Course) (starts : c.starts.items ≡ replicate (length rows) later) (end : c.end ≡ 0)
    (places : c.places.items ≡ set (replicate (length rows) Unspawned) 0 New) (kinds : AreKinds rows c.kinds.items) (kin : AreEmpty (length rows) c.kin.items)
    (free : c.free.items ≡ replicate 512 0) (queues : AreEmpty 512 c.queues.items) (next : c.next.keys ≡ []) (tick : c.tick ≡ 0) (row : c.row ≡ 0)
    (youngers : AreYoungers rows c.siblings.firsts.items c.siblings.youngers.items) where
  not_started : (b : ℕ) → b < length rows → start_of c.starts.items b ≡ later
  not_started b h = ap (λ xs. start_of xs b) starts ∙ get_or-replicate (length rows) b later 0 h

  none_started : {P : Type 0} (b : ℕ) → b < length rows → start_of c.starts.items b < later → P
  none_started b h s = absurd (let e = not_started b h in omega (arith, e, s))

  all_free : (wait : ℕ) → slice_index c.free.items wait ≡ 0
  all_free wait = ap (λ xs. slice_index xs wait) free ∙ zeros 512 wait

  main_at : IsAt c.places.items 0 New
  main_at = rw places (set_same (replicate (length rows) Unspawned) 0 New (rw length-replicate hr.not_empty))

  other_at : (b : ℕ) → b < length rows → b ≢ 0 → IsAt c.places.items b Unspawned
  other_at b h ne = rw places (set_other (replicate (length rows) Unspawned) 0 b New ne ∙ replicate_at (length rows) Unspawned b h)

  none_front : {P : Type 0} (o : Option ℕ) (b : ℕ) → o ≡ None → o ≡ Some b → P
  none_front o b none some = absurd (let e : None ≡ Some b = sym none ∙ some in cc)

  none_in : {A : Type 0} {P : Type 0} (xs : List A) (x : A) → xs ≡ [] → Contains xs x → P
  none_in xs x e m = absurd (let l : length xs ≡ 0 = ap length e in omega (arith, m.1, l))

  unspawned : (b : ℕ) → b < length rows → b ≢ 0 → Stands rows c b Unspawned
  unspawned b h ne =
      let pos : 0 < b = omega (arith, ne) in (
        not_started b h,
        λ a child. (
            let before : a < b = subst (λ (x : ℕ). x < b) child.parent (hr.parent_before b child.not_main h) in
            not_started a (omega (arith, before, h))),
        pos,
      )

  pub begins : IsFirst rows c
  begins = record {
    hand = record {
      kept = record {
        of_rows = record {
          starts_whole = ap length starts ∙ length-replicate (length rows) later;
          places_whole = ap length places ∙ (length-set (replicate (length rows) Unspawned) 0 New ∙ length-replicate (length rows) Unspawned);
          kinds_are = kinds;
          youngers = youngers;
        };
        so_far = record {
          past = λ b h s. none_started b h s;
          spawned = λ b h s. none_started b h s;
          clear = λ a b h s way. none_started b h s;
          held = λ b u h s before_start before. elim before [
            | inl l ↦ absurd (omega (arith, l, tick))
            | inr e ↦ absurd (let e1 = e.1 in omega (arith, e1, row))
          ];
        };
        free_are = record {
          whole = ap length free ∙ (let none : ℕ = 0 in length-replicate 512 none);
          none_later = λ a b x ha hb s conflict. none_started a ha s;
          reached = λ b x hb own. inl (all_free (wait_of rows b x));
        };
        free_low = λ wait. (let e = all_free wait in omega (arith, e));
        kin_are = record {
          whole = kin.whole;
          behind = λ j b m. none_in (behind_of c.kin.items j) b (kin.none_behind j) m;
          front = λ j b e. none_front (front_of c.kin.items j) b (kin.none_front j) e;
        };
        queues_are = record {
          whole = queues.whole;
          behind = λ j b m. none_in (behind_of c.queues.items j) b (queues.none_behind j) m;
          front = λ j b e. none_front (front_of c.queues.items j) b (queues.none_front j) e;
        };
        stands = λ b place h ne at. subst (λ (p : Place). Stands rows c b p) (one_place c.places.items b Unspawned place (other_at b h ne) at)
            (unspawned b h ne);
        next_are = λ u b m. none_in c.next.keys (u, b) next m;
        ends = record {
          none_later = λ b h s. none_started b h s;
          reached = inl end;
          low =
              let most = count_most c.starts.items in
              let whole : length c.starts.items ≡ length rows = ap length starts ∙ length-replicate (length rows) later in
              omega (arith, most, whole, end);
        };
        tick_low = omega (arith, tick);
        row_there = omega (arith, row, hr.not_empty);
      };
      is_row = row;
      there = hr.not_empty;
      place = λ place at. subst (λ (p : Place). InHand rows c 0 p) (one_place c.places.items 0 New place main_at at)
          (record { not_started = not_started 0 hr.not_empty; spawned = λ a child. absurd (omega (arith, child.not_main)) });
    };
    new = main_at;
  }

-- rows have the same children as plans see them
pub youngers_seen : (s : Sharing) (rows : List Row) (firsts youngers : List ℕ) → AreYoungers rows firsts youngers → AreYoungers (seen s rows) firsts youngers
youngers_seen s rows firsts youngers y = record {
  firsts_whole = y.firsts_whole ∙ sym (length-seen s rows);
  youngers_whole = y.youngers_whole ∙ sym (length-seen s rows);
  first = λ r h. next_seen r 1 (slice_index firsts r) (y.first r (within r h));
  younger = λ r pos h. rw (parent_of-seen s rows r) (next_seen (parent_of rows r) (r + 1) (slice_index youngers r) (y.younger r pos (within r h)));
}
  where
    within : (r : ℕ) → r < length (seen s rows) → r < length rows
    within r h = omega (arith, h, length-seen s rows)

    child_seen : (p b : ℕ) → IsChildOf rows p b → IsChildOf (seen s rows) p b
    child_seen p b k = (k.0, (let k1 = k.1 in omega (arith, k1, length-seen s rows)), parent_of-seen s rows b ∙ k.2)

    child_was : (p b : ℕ) → IsChildOf (seen s rows) p b → IsChildOf rows p b
    child_was p b k = (k.0, (let k1 = k.1 in omega (arith, k1, length-seen s rows)), sym (parent_of-seen s rows b) ∙ k.2)

    next_seen : (p n b : ℕ) → IsNextChild rows p n b → IsNextChild (seen s rows) p n b
    next_seen p n b k = record {
      above = k.above;
      below = omega (arith, k.below, length-seen s rows);
      child = λ h. child_seen p b (k.child (within b h));
      none_between = λ x low high child. k.none_between x low high (child_was p x child);
    }
