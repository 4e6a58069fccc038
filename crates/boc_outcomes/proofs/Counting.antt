-- How often values come, and where first, with one more sample.
use Rattle.std.proofs.Common.{◌≡◌, ◌≢◌, ℕ, ◌+◌, ◌<◌, List, [], ◌∷◌, ◌++◌, length, cond, arith, refl, sym, ap, ◌∙◌, ⊎_elim, ℤ, true, false}
use Rattle.std.proofs.Common.{Decides, Bool}
use Rattle.std.specs.Cmp.Lexicographic.{pointwise_decides}
use Rattle.std.specs.List.{Contains}
use Rattle.std.proofs.lemmas.Bool.{cond-true, cond-false, cases_order}
use Rattle.std.proofs.lemmas.Bool.Decides.{Decides-int_eq}
use Rattle.std.proofs.lemmas.List.Elements.{Contains-append_right}
use Rattle.std.proofs.lemmas.List.Sums.{sum_by-cons, sum_by_push}
use Rattle.std.proofs.lemmas.Option.{slice_get_within}
use Rattle.boc_program.proofs.ChangedItems.{front_item, last_item}
use Rattle.boc_rules.proofs.Lists.{one_got}
use Rattle.boc_order.proofs.Places.{contains_from_place}
use Rattle.boc_outcomes.specs.Samples.{Sample}
use Rattle.boc_outcomes.specs.Tallies.{IsFirstTo, comes_to, runs_to}

-- ---- how often

comes_decides : (values : List ℤ) (s : Sample) → Decides (comes_to values s) (s.values ≡ values)
comes_decides values s = pointwise_decides Decides-int_eq s.values values

pub comes : (values : List ℤ) (s : Sample) → s.values ≡ values → comes_to values s ≡ true
comes values s e = (comes_decides values s).1 e

not_both : (b : Bool) (P : Type 0) → (b ≡ true → P) → (P → ⊥) → b ≡ false
not_both true P f g = absurd (g (f refl))
not_both false P f g = refl

pub comes_not : (values : List ℤ) (s : Sample) → s.values ≢ values → comes_to values s ≡ false
comes_not values s ne = not_both (comes_to values s) (s.values ≡ values) (comes_decides values s).0 ne

-- one for a sample that came to these values
abbrev pub one_for : List ℤ → Sample → ℕ
one_for values s = cond (comes_to values s) 1 0

pub one_yes : (values : List ℤ) (s : Sample) → s.values ≡ values → one_for values s ≡ 1
one_yes values s e = cond-true (comes_to values s) 1 0 (comes values s e)

pub one_no : (values : List ℤ) (s : Sample) → s.values ≢ values → one_for values s ≡ 0
one_no values s ne = cond-false (comes_to values s) 1 0 (comes_not values s ne)

pub runs_more : (values : List ℤ) (samples : List Sample) (s : Sample) → s.values ≡ values
    → runs_to values (samples ++ s ∷ []) ≡ runs_to values samples + 1
runs_more values samples s e =
    sum_by_push (one_for values) samples s ∙ ap (λ n. runs_to values samples + n) (one_yes values s e)

pub runs_same : (values : List ℤ) (samples : List Sample) (s : Sample) → s.values ≢ values
    → runs_to values (samples ++ s ∷ []) ≡ runs_to values samples
runs_same values samples s ne =
    let step : runs_to values (samples ++ s ∷ []) ≡ runs_to values samples + 0
    = sum_by_push (one_for values) samples s ∙ ap (λ n. runs_to values samples + n) (one_no values s ne) in
    omega (arith, step)

-- nobody came to these values
abbrev pub NoneTo : List ℤ → List Sample → Type 0
NoneTo values samples = (x : Sample) → Contains samples x → x.values ≢ values

pub runs_none : (values : List ℤ) (samples : List Sample) → NoneTo values samples → runs_to values samples ≡ 0
runs_none values [] none = refl
runs_none values (s ∷ samples) none =
    let here : one_for values s ≡ 0 = one_no values s (none s (0, omega arith, refl)) in
    let later : runs_to values samples ≡ 0 = runs_none values samples (λ x there. none x (Contains-append_right (s ∷ []) samples x there)) in
    let both : runs_to values (s ∷ samples) ≡ one_for values s + runs_to values samples
    = sum_by-cons (one_for values) s samples in
    omega (arith, both, here, later)

-- ---- where first

module _ (values : List ℤ) (samples : List Sample) (s : Sample) where
  pub first_kept : (n : ℕ) → IsFirstTo values samples n → IsFirstTo values (samples ++ s ∷ []) n
  first_kept n is =
      let low : n < length samples = slice_get_within samples n is.sample is.there in
      record {
        sample = is.sample;
        there = front_item samples s n low ∙ is.there;
        same = is.same;
        none_before = λ i x l there. is.none_before i x l (sym (front_item samples s i (omega (arith, l, low))) ∙ there);
      }

  pub first_new : s.values ≡ values → NoneTo values samples → IsFirstTo values (samples ++ s ∷ []) (length samples)
  first_new e none = record {
    sample = s;
    there = last_item samples s;
    same = e;
    none_before = λ i x l there. none x (contains_from_place samples i x (sym (front_item samples s i l) ∙ there));
  }

-- values have one first place, and a place is the first of one list of values
pub one_first : (values : List ℤ) (samples : List Sample) (m n : ℕ) → IsFirstTo values samples m → IsFirstTo values samples n → m ≡ n
one_first values samples m n a b = ⊎_elim
    (λ (e : m ≡ n). e)
    (⊎_elim
    (λ (l : m < n). absurd (b.none_before m a.sample l a.there a.same))
    (λ (g : n < m). absurd (a.none_before n b.sample g b.there b.same)))
    (cases_order m n)

pub one_value : (v w : List ℤ) (samples : List Sample) (n : ℕ) → IsFirstTo v samples n → IsFirstTo w samples n → v ≡ w
one_value v w samples n a b =
    sym a.same ∙ ap (λ (x : Sample). x.values) (one_got samples n a.sample b.sample a.there b.there) ∙ b.same
