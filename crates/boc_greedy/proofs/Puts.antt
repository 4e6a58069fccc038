-- Lists in which one element has changed.
use Rattle.std.proofs.Common.{◌≡◌, ◌≢◌, ℕ, ◌+◌, ◌<◌, ◌⊎◌, List, length, set, get_or, Some, subst, inl, inr, get_or-set_same, get_or-set_other, length-set}
use Rattle.std.specs.Prelude.{slice_index, slice_set, slice_get}
use Rattle.std.proofs.lemmas.Option.{slice_get_within, get_or_from_slice_get}
use Rattle.std.proofs.lemmas.List.Sums.{sum_by-set}
use Rattle.boc_runs.specs.declared.rows.Row.{Row}
use Rattle.boc_plans.specs.Plans.{IsChild}
use Rattle.boc_program.proofs.ChangedItems.{item_at, set_same, set_other}
use Rattle.boc_greedy.specs.declared.frontier.RowState.{RowState}
use Rattle.boc_greedy.specs.declared.frontier.RowState.TheVariants.{Unspawned, Waiting, UnderWay, Over}
use Rattle.boc_greedy.specs.RowStates.{IsAt}
use Rattle.boc_greedy.specs.Simulating.{AreLeft, steps_left, steps_of_all}

-- ys is xs, with v at i
pub record Puts (xs ys : List ℕ) (i v : ℕ) : Type 0 where
  pub at : slice_index ys i ≡ v
  pub others : (k : ℕ) → k ≢ i → slice_index ys k ≡ slice_index xs k
  pub whole : length ys ≡ length xs

pub puts : (xs : List ℕ) (i v : ℕ) → i < length xs → Puts xs (set xs i v) i v
puts xs i v h = record {
  at = get_or-set_same xs i v 0 h;
  others = λ k ne. get_or-set_other xs i k v 0 ne;
  whole = simp length-set;
}

-- ys is xs, with row i at this state
pub record ChangesState (xs ys : List RowState) (i : ℕ) (s : RowState) : Type 0 where
  pub at : IsAt ys i s
  pub others : (k : ℕ) → k ≢ i → slice_get ys k ≡ slice_get xs k
  pub whole : length ys ≡ length xs

pub changes_state : (xs ys : List RowState) (i : ℕ) (s : RowState) → i < length xs → ys ≡ slice_set xs i s → ChangesState xs ys i s
changes_state xs ys i s h is = rw is (record { at = set_same xs i s h; others = λ k ne. set_other xs i k s ne; whole = simp length-set })

-- a row is at one of the states
pub at_state : (xs : List RowState) (r : ℕ) → r < length xs → IsAt xs r Unspawned ⊎ (IsAt xs r Waiting ⊎ (IsAt xs r UnderWay ⊎ IsAt xs r Over))
at_state xs r h = at_one (item_at xs r h).0 (item_at xs r h).1
  where
    at_one : (s : RowState) → IsAt xs r s → IsAt xs r Unspawned ⊎ (IsAt xs r Waiting ⊎ (IsAt xs r UnderWay ⊎ IsAt xs r Over))
    at_one Unspawned e = inl e
    at_one Waiting e = inr (inl e)
    at_one UnderWay e = inr (inr (inl e))
    at_one Over e = inr (inr (inr e))

pub unspawned_or_not : (xs : List RowState) (r : ℕ) → r < length xs → IsAt xs r Unspawned ⊎ (IsAt xs r Unspawned → ⊥)
unspawned_or_not xs r h = elim (at_state xs r h) [
  | inl e ↦ inl e
  | inr (inl e) ↦ inr (λ f. (cc))
  | inr (inr (inl e)) ↦ inr (λ f. (cc))
  | inr (inr (inr e)) ↦ inr (λ f. (cc))
]

-- one step lowers the weight by one
pub weight_set : (xs ys : List RowState) (i : ℕ) (s t : RowState) → IsAt xs i s → ys ≡ slice_set xs i t
    → steps_of_all ys + steps_left s ≡ steps_of_all xs + steps_left t
weight_set xs ys i s t at is =
    let e : get_or xs i s ≡ s = get_or_from_slice_get xs i s s at in
    let w : steps_of_all (set xs i t) + steps_left (get_or xs i s) ≡ steps_of_all xs + steps_left t =
    sum_by-set steps_left xs i t s (slice_get_within xs i s at) in
    rw is (rw e at w)

-- another row, at another state, was there before
pub other_state : (xs ys : List RowState) (i : ℕ) (s : RowState) → ChangesState xs ys i s → (r : ℕ) (q : RowState) → (s ≡ q → ⊥) → IsAt ys r q
    → (r ≢ i) × IsAt xs r q
other_state xs ys i s g r q differs h =
    let ne : r ≢ i = λ e. differs (let a : IsAt ys i q = subst (λ (y : ℕ). IsAt ys y q) e h in let b : IsAt ys i s = g.at in cc) in
    let o : slice_get ys r ≡ slice_get xs r = g.others r ne in
    (ne, (let z : slice_get xs r ≡ Some q = cc in z))

-- another row is where it was
pub state_stays : (xs ys : List RowState) (i : ℕ) (s : RowState) → ChangesState xs ys i s → (r : ℕ) (q : RowState) → (r ≢ i) → IsAt xs r q → IsAt ys r q
state_stays xs ys i s g r q ne h = (let o : slice_get ys r ≡ slice_get xs r = g.others r ne in cc)

-- a row is not at two states
pub not_same : (xs : List RowState) (i : ℕ) (s : RowState) → IsAt xs i s → (r : ℕ) (q : RowState) → (s ≡ q → ⊥) → IsAt xs r q → r ≢ i
not_same xs i s at r q differs h e = differs (let a : IsAt xs i q = subst (λ (y : ℕ). IsAt xs y q) e h in cc)

-- the children that are left are the same, where the same rows are unspawned
pub left_same : (rows : List Row) (xs ys : List RowState) (r child : ℕ) → ((b : ℕ) → IsAt ys b Unspawned → IsAt xs b Unspawned) →
    ((b : ℕ) → IsChild rows r b → IsAt xs b Unspawned → IsAt ys b Unspawned) → AreLeft rows xs r child → AreLeft rows ys r child
left_same rows xs ys r child was stays l = record {
  child_is = l.child_is;
  before = λ b c lt e. l.before b c lt (was b e);
  after = λ b c ge. stays b c (l.after b c ge);
}
