-- How many of some rows are not over.
use Rattle.std.proofs.Common.{◌≡◌, ℕ, ◌+◌, List, [], ◌∷◌, length, cond, refl, sym, ◌∙◌, ap, inl, inr, arith}
use Rattle.std.specs.Prelude.{slice_get, slice_set, nat_eq, Option, Some, None}
use Rattle.std.specs.List.{Contains}
use Rattle.std.proofs.lemmas.Bool.{cases_eq}
use Rattle.std.proofs.lemmas.List.Elements.{Contains-get_or}
use Rattle.std.proofs.lemmas.List.Sums.{sum_by-cons, sum_by-le, get_or-le-sum_by}
use Rattle.boc_program.proofs.ChangedItems.{place_below, set_same, set_other}
use Rattle.boc_order.specs.Waits.{times}
use Rattle.boc_greedy.specs.declared.frontier.RowState.{RowState}
use Rattle.boc_greedy.specs.declared.frontier.RowState.TheVariants.{Unspawned, Waiting, UnderWay, Over}
use Rattle.boc_greedy.specs.RowStates.{IsAt}
use Rattle.boc_greedy.specs.Frontier.{not_over, unmet_of}
use Rattle.boc_greedy.proofs.Followed.{same_test, other_test}

is_over : (o : Option RowState) → not_over o ≡ 0 → o ≡ Some Over
is_over (Some Over) e = refl
is_over (Some UnderWay) e = absurd (omega (arith, e))
is_over (Some Waiting) e = absurd (omega (arith, e))
is_over (Some Unspawned) e = absurd (omega (arith, e))
is_over None e = absurd (omega (arith, e))

lives : (o : Option RowState) → (o ≡ Some Over → ⊥) → not_over o ≡ 1
lives (Some Over) n = absurd (n refl)
lives (Some UnderWay) n = refl
lives (Some Waiting) n = refl
lives (Some Unspawned) n = refl
lives None n = refl

-- where none counts all are over, and the other way round
pub all_over : (states : List RowState) (xs : List ℕ) → unmet_of states xs ≡ 0 → (a : ℕ) → Contains xs a → IsAt states a Over
all_over states xs none a has = is_over (slice_get states a)
    (omega (arith, none, rw has.2 at (get_or-le-sum_by (λ x. not_over (slice_get states x)) xs has.0 a has.1)))

pub none_unmet : (states : List RowState) (xs : List ℕ) → ((a : ℕ) → Contains xs a → IsAt states a Over) → unmet_of states xs ≡ 0
none_unmet states xs all = omega (
  arith,
  sum_by-le (λ x. not_over (slice_get states x)) 0 xs
      (λ k d h. (let e : not_over (slice_get states _) ≡ 0 = ap not_over (all _ (Contains-get_or xs k d h)) in omega (arith, e))),
)

-- a row that isn't over goes on to another state before its end
pub unmet_same : (states : List RowState) (row : ℕ) (from to : RowState) → IsAt states row from → (from ≡ Over → ⊥) → (to ≡ Over → ⊥) → (xs : List ℕ) →
    unmet_of (slice_set states row to) xs ≡ unmet_of states xs
unmet_same states row from to was still goes_on [] = refl
unmet_same states row from to was still goes_on (x ∷ xs) =
    omega (
      arith,
      here,
      unmet_same states row from to was still goes_on xs,
      sum_by-cons (λ a. not_over (slice_get (slice_set states row to) a)) x xs,
      sum_by-cons (λ a. not_over (slice_get states a)) x xs,
    )
  where
    here : not_over (slice_get (slice_set states row to) x) ≡ not_over (slice_get states x)
    here = elim (cases_eq x row) [
      | inl e ↦ rw e (ap not_over (set_same states row to (place_below states row from was)) ∙ lives (Some to) (λ e. goes_on (cc))
          ∙ sym (ap not_over was ∙ lives (Some from) (λ e. still (cc))))
      | inr ne ↦ ap not_over (set_other states row x to ne)
    ]

-- a row that is under way ends
pub unmet_ended : (states : List RowState) (row : ℕ) → IsAt states row UnderWay → (xs : List ℕ)
    → unmet_of (slice_set states row Over) xs + times row xs ≡ unmet_of states xs
unmet_ended states row was [] = refl
unmet_ended states row was (x ∷ xs) =
    omega (
      arith,
      here,
      unmet_ended states row was xs,
      sum_by-cons (λ a. not_over (slice_get (slice_set states row Over) a)) x xs,
      sum_by-cons (λ a. not_over (slice_get states a)) x xs,
      sum_by-cons (λ a. cond (nat_eq a row) 1 0) x xs,
    )
  where
    here : not_over (slice_get (slice_set states row Over) x) + cond (nat_eq x row) 1 0 ≡ not_over (slice_get states x)
    here = elim (cases_eq x row) [
      | inl e ↦ rw (e, same_test row, was, set_same states row Over (place_below states row UnderWay was)) refl
      | inr ne ↦ rw (other_test x row ne, set_other states row x Over ne) (omega arith)
    ]

-- at the beginning none is over
pub unmet_all : (states : List RowState) → ((a : ℕ) → IsAt states a Over → ⊥) → (xs : List ℕ) → unmet_of states xs ≡ length xs
unmet_all states none [] = refl
unmet_all states none (x ∷ xs) = omega (
  arith,
  lives (slice_get states x) (none x),
  unmet_all states none xs,
  sum_by-cons (λ a. not_over (slice_get states a)) x
      xs,
)
