-- What is kept beside the rows, once some of them change.
use Rattle.std.proofs.Common.{◌≡◌, ℕ, suc, zero, ◌+◌, ◌-◌, ◌<◌, ◌≤◌, List, [], ◌∷◌, length, take, get_or, ap, sym, refl, ◌∙◌, subst, inl, inr, arith}
use Rattle.std.specs.Prelude.{min, Ok, Err, IfErr, Result, OnOk}
use Rattle.std.proofs.lemmas.List.{take-take}
use Rattle.boc_runs.specs.declared.rows.Row.{Row}
use Rattle.boc_plans.specs.declared.sharing.Sharing.{Sharing}
use Rattle.boc_runs.specs.declared.siblings.Siblings.{Siblings}
use Rattle.boc_runs.specs.Rows.{IsLast, IsRows}
use Rattle.boc_runs.specs.Siblings.{AreSiblings}
use Rattle.boc_plans.specs.Seen.{seen}
use Rattle.boc_plans.proofs.Seeing.{length-seen, parent_of-seen, offset_of-seen, rows_seen}
use Rattle.boc_order.specs.declared.plan.Earliest.{Earliest}
use Rattle.boc_order.specs.Room.{HasRoom}
use Rattle.boc_order.specs.Standing.{IsPlanOf, HasFirst}
use Rattle.boc_order.specs.Waits.{AreWaits}
use Rattle.boc_plans.specs.declared.edit.Edit.{Edit}
use Rattle.boc_plans.specs.declared.edit.Change.{Change}
use Rattle.boc_plans.specs.Edits.{AreEdited, IsChanged}
use Rattle.boc_order.proofs.Placing.{AreSameBefore, same_back}
use Rattle.boc_order.proofs.Replacing.{near_same, placed_first}
use Rattle.boc_sweep.specs.Lasts.{HasLasts}
use Rattle.boc_whatif.specs.Asked.{IsUpToDate, AreMade, HasMade, least_edited}
use Rattle.boc_whatif.specs.declared.edits.Unfit.{Unfit}
use Rattle.boc_whatif.proofs.Changing.{changed_rows, changed_length, changed_there, seen_same, siblings_changed}

-- a row has the same last child however the rows are seen
last_seen : (s : Sharing) (rows : List Row) (n p last : ℕ) → IsLast rows n p last → IsLast (seen s rows) n p last
last_seen s rows n p last is = record {
  none_above = λ a some below parent. rw (offset_of-seen s rows a) (is.none_above a some below (sym (parent_of-seen s rows a) ∙ parent));
  reached = elim is.reached [
    | inl none ↦ inl none
    | inr (a, some, below, parent, offset) ↦ inr (a, some, below, parent_of-seen s rows a ∙ parent, offset_of-seen s rows a ∙ offset)
  ];
}

pub lasts_seen : (s : Sharing) (rows list : List Row) (offsets : List ℕ) → list ≡ seen s rows → HasLasts rows offsets → HasLasts list offsets
lasts_seen s rows list offsets is h = rw is (record {
  whole = h.whole ∙ sym (length-seen s rows);
  at = λ r there. rw (length-seen s rows) (last_seen s rows (length rows) r _ (h.at r (omega (arith, there, length-seen s rows))));
})

-- rows that have the same cowns wait for the same rows
waits_same : (n : ℕ) (rows others : List Row) (waits : List (List ℕ)) → AreSameBefore n rows others → AreWaits rows waits → AreWaits others waits
waits_same n rows others waits same are = record {
  whole = are.whole ∙ sym same.len;
  at = λ b there. (let own = are.at b (omega (arith, there, same.len)) in record {
    sound = λ a has. near_same n others rows a b (same_back n rows others same) (own.sound a has);
    complete = λ a near. own.complete a (near_same n rows others a b same near);
  });
}

-- what is kept, before any edit
pub begun : (rows list : List Row) (s : Sharing) (offsets : List ℕ) (siblings : Siblings) (waits : List (List ℕ)) (plan : Earliest) → IsRows rows
    → list ≡ seen s rows → HasLasts rows offsets → AreSiblings rows siblings → AreWaits list waits → IsPlanOf list plan → HasRoom plan (length list)
    → IsUpToDate rows s offsets siblings waits plan
begun rows list s offsets siblings waits plan shape is lasts siblings_are are placed room = record {
  shape = shape;
  lasts = lasts;
  siblings_are = siblings_are;
  waits_are = subst (λ (l : List Row). AreWaits l waits) is are;
  placed = subst (λ (l : List Row). IsPlanOf l plan) is placed;
  room = subst (HasRoom plan) (ap (length {A = Row}) is ∙ length-seen s rows) room;
}

-- what is kept while rows change: all but the plan, of which the first n rows stand
pub record Stands (rows : List Row) (s : Sharing) (waits : List (List ℕ)) (plan : Earliest) (n : ℕ) : Type 0 where
  pub shape : IsRows rows
  pub waits_are : AreWaits (seen s rows) waits
  pub within : n ≤ length rows
  pub first : HasFirst (seen s rows) plan n
  pub room : HasRoom plan (length rows)

-- rows are the same before any row
same_before : (n : ℕ) (rows : List Row) → AreSameBefore n rows rows
same_before n rows =
    record { len = refl; parents = λ r. refl; offsets = λ r h. refl; cowns = λ r. refl; written = λ r. refl; ticks = λ r h. refl }

-- before any edit all rows stand
pub stands_whole : (rows : List Row) (s : Sharing) (offsets : List ℕ) (siblings : Siblings) (waits : List (List ℕ)) (plan : Earliest)
    → IsUpToDate rows s offsets siblings waits plan → Stands rows s waits plan (length rows)
stands_whole rows s offsets siblings waits plan k = record {
  shape = k.shape;
  waits_are = k.waits_are;
  within = omega arith;
  first = placed_first (length rows) (length (seen s rows)) (seen s rows) (seen s rows) (rows_seen s rows k.shape) plan.starts.items plan.ends.items
      plan.after.items (same_before (length rows) (seen s rows)) (omega (arith, length-seen s rows)) k.placed;
  room = k.room;
}

less_same : (n m : ℕ) (rows others : List Row) → n ≤ m → AreSameBefore m rows others → AreSameBefore n rows others
less_same n m rows others le e = record {
  len = e.len;
  parents = e.parents;
  offsets = λ r h. e.offsets r (omega (arith, h, le));
  cowns = e.cowns;
  written = e.written;
  ticks = λ r h. e.ticks r (omega (arith, h, le));
}

-- after one edit more those before its row still do
pub stands_more : (rows : List Row) (s : Sharing) (waits : List (List ℕ)) (plan : Earliest) (n row : ℕ) (change : Change) (after : List Row)
    → Stands rows s waits plan n → IsChanged rows row change after → Stands after s waits plan (min row n)
stands_more rows s waits plan n row change after k h =
    let less : min row n ≤ n = omega arith in
    let low : min row n ≤ row = omega arith in
    let whole = changed_length rows row change after h in
    let all = seen_same s rows k.shape row change after h in
    let same : AreSameBefore (min row n) (seen s rows) (seen s after) = less_same (min row n) row (seen s rows) (seen s after) low all in
    let first = placed_first (min row n) n (seen s rows) (seen s after) (rows_seen s rows k.shape) (take n plan.starts.items)
    (take n plan.ends.items) (take n plan.after.items) same less k.first in
    record {
      shape = changed_rows rows k.shape row change after h;
      waits_are = waits_same row (seen s rows) (seen s after) waits all k.waits_are;
      within = omega (arith, k.within, whole);
      first = rw (
        take-take (min row n) n plan.starts.items less,
        take-take (min row n) n plan.ends.items less,
        take-take (min row n) n plan.after.items less,
      ) at first;
      room = rw whole k.room;
    }

-- the least row of more edits
least_below : (n a : ℕ) (edits : List Edit) → least_edited (min a n) edits ≡ min a (least_edited n edits)
least_below n a [] = refl
least_below n a (edit ∷ edits) = omega (arith, least_below n a edits)

-- after all edits those before the least row that was edited still do
stands_all : (rows : List Row) (s : Sharing) (waits : List (List ℕ)) (plan : Earliest) (n : ℕ) (edits : List Edit) (after : List Row)
    → Stands rows s waits plan n → AreEdited rows edits after → Stands after s waits plan (least_edited n edits)
stands_all rows s waits plan n [] after k made = subst (λ (list : List Row). Stands list s waits plan n) (sym made) k
stands_all rows s waits plan n (edit ∷ edits) after k made =
    subst (Stands after s waits plan) (least_below n edit.row edits)
    (stands_all made.0 s waits plan (min edit.row n) edits after
    (stands_more rows s waits plan n edit.row edit.change made.0 k made.1) made.2)

least_more : (n from : ℕ) (edits : List Edit) (i : ℕ) (d : Edit) → i < length edits → from ≡ least_edited n (take i edits)
    → min from (get_or edits i d).row ≡ least_edited n (take (suc i) edits)
least_more n from [] i d h is = absurd (omega (arith, h))
least_more n from (edit ∷ edits) zero d h is = omega (arith, is)
least_more n from (edit ∷ edits) (suc i) d h is =
    omega (arith, is, least_more n (least_edited n (take i edits)) edits i d (omega (arith, h)) refl)

add_one : (i : ℕ) → suc i ≡ i + 1
add_one i = omega arith

-- one edit more has the lesser of the two rows
pub least_next : (n from : ℕ) (edits : List Edit) (i : ℕ) (d : Edit) → i < length edits → from ≡ least_edited n (take i edits)
    → min from (get_or edits i d).row ≡ least_edited n (take (i + 1) edits)
least_next n from edits i d h is = least_more n from edits i d h is ∙ ap (λ k. least_edited n (take k edits)) (add_one i)

-- there are as many rows
length-all_edited : (rows : List Row) (edits : List Edit) (after : List Row) → AreEdited rows edits after → length after ≡ length rows
length-all_edited rows [] after made = ap (length {A = Row}) made
length-all_edited rows (edit ∷ edits) after made =
    length-all_edited made.0 edits after made.2 ∙ changed_length rows edit.row edit.change made.0 made.1

-- and the same are siblings
siblings_all_edited : (rows : List Row) (siblings : Siblings) (edits : List Edit) (after : List Row) → AreEdited rows edits after → AreSiblings rows siblings
    → AreSiblings after siblings
siblings_all_edited rows siblings [] after made are = subst (λ (list : List Row). AreSiblings list siblings) (sym made) are
siblings_all_edited rows siblings (edit ∷ edits) after made are =
    siblings_all_edited made.0 siblings edits after made.2 (siblings_changed rows siblings edit.row edit.change made.0 made.1 are)

-- so many rows are placed anew where all edits are made
pub touched_made : (rows : List Row) (edits : List Edit) (after : List Row) (from : ℕ) (answer : Result (Unit {0}) Unfit) (count : ℕ)
    → HasMade rows edits after from answer → count + from ≡ length rows → OnOk answer (count + least_edited (length rows) edits ≡ length rows)
touched_made rows edits after from (Ok done) count m is = subst (λ n. count + n ≡ length rows) m.from_is is
touched_made rows edits after from (Err unfit) count m is = tt

-- and where an edit does not fit, as many as the edits before it say
pub touched_some : (rows : List Row) (edits : List Edit) (after : List Row) (from : ℕ) (answer : Result (Unit {0}) Unfit) (count : ℕ)
    → HasMade rows edits after from answer → count + from ≡ length rows
    → IfErr answer (λ u. count + least_edited (length rows) (take (u.number - 1) edits) ≡ length rows)
touched_some rows edits after from (Ok done) count m is = tt
touched_some rows edits after from (Err unfit) count m is = subst (λ n. count + n ≡ length rows) m.0.from_is is

-- some edits are made: all of them, or those before the first that does not fit
some_made : (rows : List Row) (edits : List Edit) (after : List Row) (from : ℕ) (answer : Result (Unit {0}) Unfit) → HasMade rows edits after from answer
    → (made : List Edit) × AreMade rows made after from
some_made rows edits after from (Ok done) m = (edits, m)
some_made rows edits after from (Err unfit) m = (take (unfit.number - 1) edits, m.0)

-- the rows that stand, as plans see them
module _ (after list : List Row) (s : Sharing) (offsets : List ℕ) (waits : List (List ℕ)) (plan : Earliest) (from : ℕ) (k : Stands after s waits plan from)
    (lasts : HasLasts after offsets) (seen_is : list ≡ seen s after) where
  pub whole_standing : length list ≡ length after
  whole_standing = ap (length {A = Row}) seen_is ∙ length-seen s after

  pub room_standing : HasRoom plan (length list)
  room_standing = rw whole_standing k.room

  pub from_standing : from ≤ length list
  from_standing = omega (arith, whole_standing, k.within)

  pub waits_standing : AreWaits list waits
  waits_standing = rw seen_is k.waits_are

  pub first_standing : HasFirst list plan from
  first_standing = rw seen_is k.first

  pub kept_standing : (siblings : Siblings) → AreSiblings after siblings → (anew : Earliest) → IsPlanOf list anew → HasRoom anew (length list)
      → IsUpToDate after s offsets siblings waits anew
  kept_standing siblings siblings_are anew placed room = record {
    shape = k.shape;
    lasts = lasts;
    siblings_are = siblings_are;
    waits_are = k.waits_are;
    placed = subst (λ (l : List Row). IsPlanOf l anew) seen_is placed;
    room = subst (HasRoom anew) whole_standing room;
  }

-- after one edit
pub stands_changed : (rows : List Row) (s : Sharing) (offsets : List ℕ) (siblings : Siblings) (waits : List (List ℕ)) (plan : Earliest) (row : ℕ)
    (change : Change) (after : List Row) → IsUpToDate rows s offsets siblings waits plan → IsChanged rows row change after → Stands after s waits plan row
stands_changed rows s offsets siblings waits plan row change after k h =
    let least : min row (length rows) ≡ row = omega (arith, changed_there rows row change after h) in
    subst (Stands after s waits plan) least
    (stands_more rows s waits plan (length rows) row change after (stands_whole rows s offsets siblings waits plan k) h)

-- after several edits
module _ (rows after : List Row) (s : Sharing) (offsets : List ℕ) (siblings : Siblings) (waits : List (List ℕ)) (plan : Earliest) (edits : List Edit)
    (from : ℕ) (answer : Result (Unit {0}) Unfit) (k : IsUpToDate rows s offsets siblings waits plan) (m : HasMade rows edits after from answer) where
  pub stands_made : Stands after s waits plan from
  stands_made =
      let made = some_made rows edits after from answer m in
      subst (Stands after s waits plan) (sym made.1.from_is)
      (stands_all rows s waits plan (length rows) made.0 after (stands_whole rows s offsets siblings waits plan k) made.1.edited)

  pub count_made : length after ≡ length rows
  count_made =
      let made = some_made rows edits after from answer m in
      length-all_edited rows made.0 after made.1.edited

  pub siblings_made : AreSiblings after siblings
  siblings_made =
      let made = some_made rows edits after from answer m in
      siblings_all_edited rows siblings made.0 after made.1.edited k.siblings_are
