-- The rows that each row waits for, by those that wait for each row.
use Rattle.std.proofs.Common.{◌≡◌, ◌≢◌, ℕ, zero, suc, ◌+◌, ◌*◌, ◌<◌, Bool, cond, List, [], ◌∷◌, ◌++◌, length, replicate}
use Rattle.std.proofs.Common.{inl, inr, refl, sym, ap, subst, ◌∙◌, arith}
use Rattle.std.specs.Prelude.{nat_eq}
use Rattle.std.specs.List.{Contains, concat}
use Rattle.std.proofs.lemmas.Bool.{cases_eq, cases_lt}
use Rattle.std.proofs.lemmas.List.{length-append, length-replicate, length_push, get_or_push, get_or_append_left, get_or_past}
use Rattle.std.proofs.lemmas.List.Sums.{sum_by-append}
use Rattle.std.proofs.lemmas.List.Folds.{sum_by-replicate}
use Rattle.boc_runs.specs.declared.rows.Row.{Row}
use Rattle.boc_order.specs.Waits.{links_of, times, AreWaits, AreFollowers, HaveFollowers}
use Rattle.boc_greedy.proofs.Followed.{same_test, other_test, some_times, times_some}

-- the rows from row a on that row b waits for, each as often as it does
waiting : ℕ → List (List ℕ) → ℕ → List ℕ
waiting a [] b = []
waiting a (f ∷ followers) b = replicate (times b f) a ++ waiting (suc a) followers b

times_append : (r : ℕ) (xs ys : List ℕ) → times r (xs ++ ys) ≡ times r xs + times r ys
times_append r xs ys = sum_by-append (λ x. cond (nat_eq x r) 1 0) xs ys

times_same : (n r : ℕ) → times r (replicate n r) ≡ n
times_same n r =
    let one : cond {A = ℕ} (nat_eq r r) 1 0 ≡ 1 = ap (λ (b : Bool). cond {A = ℕ} b 1 0) (same_test r) in
    sum_by-replicate (λ x. cond (nat_eq x r) 1 0) n r ∙ ap (λ (k : ℕ). n * k) one ∙ omega arith

times_other : (n x r : ℕ) → x ≢ r → times r (replicate n x) ≡ 0
times_other n x r ne =
    let none : cond {A = ℕ} (nat_eq x r) 1 0 ≡ 0 = ap (λ (b : Bool). cond {A = ℕ} b 1 0) (other_test x r ne) in
    sum_by-replicate (λ x. cond (nat_eq x r) 1 0) n x ∙ ap (λ (k : ℕ). n * k) none ∙ omega arith

none_below : (a : ℕ) (followers : List (List ℕ)) (b r : ℕ) → r < a → times r (waiting a followers b) ≡ 0
unfolding waiting
none_below a [] b r h = refl
none_below a (f ∷ followers) b r h =
    omega (
      arith,
      times_append r (replicate (times b f) a) (waiting (suc a) followers b),
      times_other (times b f) a r (λ e. omega (arith, e, h)),
      none_below (suc a) followers b r (omega (arith, h)),
    )

times_waiting : (a : ℕ) (followers : List (List ℕ)) (b k : ℕ) → times (a + k) (waiting a followers b) ≡ times b (links_of followers k)
unfolding waiting
times_waiting a [] b k = refl
times_waiting a (f ∷ followers) b zero =
    let here : a + 0 ≡ a = omega arith in
    rw here (omega (
      arith,
      times_append a (replicate (times b f) a) (waiting (suc a) followers b),
      times_same (times b f) a,
      none_below (suc a) followers b a (omega arith),
    ))
times_waiting a (f ∷ followers) b (suc k) =
    let next : a + suc k ≡ suc a + k = omega arith in
    rw next (omega (
      arith,
      times_append (suc a + k) (replicate (times b f) a) (waiting (suc a) followers b),
      times_other (times b f) a (suc a + k) (λ e. omega (arith, e)),
      times_waiting (suc a) followers b k,
    ))

length_waiting : (a : ℕ) (followers : List (List ℕ)) (b : ℕ) → length (waiting a followers b) ≡ times b (concat followers)
unfolding waiting
length_waiting a [] b = refl
length_waiting a (f ∷ followers) b =
    omega (
      arith,
      length-append (replicate (times b f) a) (waiting (suc a) followers b),
      length-replicate (times b f) a,
      length_waiting (suc a) followers b,
      times_append b f (concat followers),
    )

-- for each of the first n rows those that it waits for
pub transposed : List (List ℕ) → ℕ → List (List ℕ)
transposed followers zero = []
transposed followers (suc n) = transposed followers n ++ waiting 0 followers n ∷ []

length_transposed : (followers : List (List ℕ)) (n : ℕ) → length (transposed followers n) ≡ n
unfolding transposed
length_transposed followers zero = refl
length_transposed followers (suc n) =
    omega (arith, length_push (transposed followers n) (waiting 0 followers n), length_transposed followers n)

transposed_at : (followers : List (List ℕ)) (n b : ℕ) → b < n → links_of (transposed followers n) b ≡ waiting 0 followers b
unfolding transposed
transposed_at followers zero b h = absurd (omega (arith, h))
transposed_at followers (suc n) b h = elim (cases_eq b n) [
  | inl e ↦ rw e (get_or_push (transposed followers n) (waiting 0 followers n) [] n (length_transposed followers n))
  | inr ne ↦ get_or_append_left (transposed followers n) (waiting 0 followers n ∷ []) [] b (omega (arith, h, ne, length_transposed followers n))
      ∙ transposed_at followers n b (omega (arith, h, ne))
]

module _ (rows : List Row) (followers : List (List ℕ)) (are : HaveFollowers rows followers) where
  pub waits : List (List ℕ)
  waits = transposed followers (length rows)

  no_times : (r : ℕ) (xs : List ℕ) → (Contains xs r → ⊥) → times r xs ≡ 0
  no_times r xs lacks = elim (cases_lt 0 (times r xs)) [ inl some ↦ absurd (lacks (some_times r xs some)) | inr none ↦ omega (arith, none) ]

  times_at : (a b : ℕ) → b < length rows → times a (links_of waits b) ≡ times b (links_of followers a)
  unfolding waits
  times_at a b h =
      let same : times a (waiting 0 followers b) ≡ times b (links_of followers a) =
      subst (λ (k : ℕ). times k (waiting 0 followers b) ≡ times b (links_of followers a)) (omega arith) (times_waiting 0 followers b a) in
      ap (times a) (transposed_at followers (length rows) b h) ∙ same

  pub are_followers : AreFollowers waits followers
  unfolding waits
  are_followers = record {
    whole = are.whole ∙ sym (length_transposed followers (length rows));
    same = λ a b h. elim (cases_lt b (length rows)) [
      | inl there ↦ sym (times_at a b there)
      | inr past ↦ no_times b (links_of followers a) (λ has. omega (arith, past, (are.sound a b has).there))
          ∙ ap (times a) (sym (get_or_past waits b [] (omega (arith, past, length_transposed followers (length rows)))))
    ];
  }

  pub are_waits : AreWaits rows waits
  unfolding waits
  are_waits = record {
    whole = length_transposed followers (length rows);
    at = λ b h. record {
      sound = λ a has. are.sound a b (some_times b (links_of followers a) (omega (arith, times_at a b h, times_some a (links_of waits b) has)));
      complete = λ a near. some_times a (links_of waits b) (omega (arith, times_at a b h, times_some b (links_of followers a) (are.complete a b near)));
    };
  }

  pub counted_all : (r : ℕ) → r < length rows → times r (concat followers) ≡ length (links_of waits r)
  unfolding waits
  counted_all r h = sym (length_waiting 0 followers r) ∙ ap length (sym (transposed_at followers (length rows) r h))

  -- who waits for a row is there
  pub followers_there : (b a : ℕ) → Contains (links_of followers b) a → a < length followers
  followers_there b a has = omega (arith, (are.sound b a has).there, are.whole)
