-- Rounds of runs.
use Rattle.std.proofs.Common.{◌≡◌, ◌∙◌, ℕ, zero, suc, ◌+◌, ◌-◌, ◌<◌, ◌≤◌, ◌⊎◌, List, [], ◌∷◌, ◌++◌, length, map, arith, refl, ap, sym, subst, inl, inr}
use Rattle.std.proofs.Common.{Some, None, Ok, Err, replicate, ℤ}
use Rattle.std.specs.Prelude.{MatchResult, flat_map, slice_get}
use Rattle.std.specs.List.{AllZip, Contains, fold, range_with_len}
use Rattle.std.specs.declared.alloc.Global.{Global}
use Rattle.std.specs.declared.result.Result.{Result}
use Rattle.std.specs.declared.vec.Vec.{Vec}
use Rattle.std.proofs.lemmas.Grind.{flat_map-append}
use Rattle.std.proofs.lemmas.List.{length-append, length-map, map-append}
use Rattle.std.proofs.lemmas.List.Sums.{fold-append}
use Rattle.std.proofs.lemmas.Option.{get_or_from_slice_get, slice_get_within}
use Rattle.std.proofs.lemmas.Simd.{map-map}
use Rattle.boc_program.specs.declared.program.Program.{Program}
use Rattle.boc_plans.proofs.Numbered.{range_at, range_long}
use Rattle.boc_draws.specs.declared.fault.DrawFault.{DrawFault}
use Rattle.boc_draws.specs.declared.fault.DrawFault.TheVariants as faults
use Rattle.boc_remedies.specs.declared.remedy.Remedy.{Remedy}
use Rattle.boc_outcomes.specs.declared.asked.Asked.{Asked}
use Rattle.boc_many_runs.specs.declared.counted.Counted.{Counted}
use Rattle.boc_many_runs.specs.declared.seen.Numbers.{Numbers}
use Rattle.boc_many_runs.specs.declared.seen.Seen.{Seen}
use Rattle.boc_many_runs.specs.Passes.{HasFound}
use Rattle.boc_many_runs.specs.Runs.{AreBetween, AreBroughtIn, AreColumns, AreFound, AreNumbersIn, AreNumbersOfRuns, BringsIn, Found, IsFoundIn, IsRound, Manner, found, pushed}
use Rattle.boc_many_runs.specs.Union.{counted, counts}

-- ---- lists

pub got_append : {A : Type 0} (xs ys : List A) (k : ℕ) (x : A) → slice_get (xs ++ ys) k ≡ Some x
    → (slice_get xs k ≡ Some x) ⊎ ((j : ℕ) × (k ≡ length xs + j) × (slice_get ys j ≡ Some x))
got_append [] ys k x e = inr (k, omega arith, e)
got_append (y ∷ xs) ys zero x e = inl e
got_append (y ∷ xs) ys (suc k) x e =
    elim (got_append xs ys k x e) [
      | inl f ↦ inl f
      | inr q ↦ inr (q.0, omega (arith, q.1), q.2)
    ]

pub got_map : {A B : Type 0} (f : A → B) (xs : List A) (k : ℕ) (y : B) → slice_get (map f xs) k ≡ Some y → (x : A) × (slice_get xs k ≡ Some x) × (f x ≡ y)
got_map f [] k y e = absurd (let g : None ≡ Some y = e in cc)
got_map f (x ∷ xs) zero y e = (x, refl, (let g : Some (f x) ≡ Some y = e in cc))
got_map f (x ∷ xs) (suc k) y e = got_map f xs k y e

-- the one element of a list
got_one : {A : Type 0} (x y : A) (k : ℕ) → slice_get (x ∷ []) k ≡ Some y → (k ≡ 0) × (x ≡ y)
got_one x y zero e = (refl, (let g : Some x ≡ Some y = e in cc))
got_one x y (suc k) e = absurd (let g : None ≡ Some y = e in cc)

got_replicate : {A : Type 0} (x y : A) (n k : ℕ) → slice_get (replicate n x) k ≡ Some y → x ≡ y
got_replicate x y zero k e = absurd (let g : None ≡ Some y = e in cc)
got_replicate x y (suc n) zero e = let g : Some x ≡ Some y = e in cc
got_replicate x y (suc n) (suc k) e = got_replicate x y n k e

long_replicate : {A : Type 0} (x : A) (n : ℕ) → length (replicate n x) ≡ n
long_replicate x zero = refl
long_replicate x (suc n) = omega (arith, long_replicate x n)

-- two lists side by side, with one more in each
pub zip_more : {A B : Type 0} (P : A → B → Type 0) (xs : List A) (ys : List B) (x : A) (y : B) → length ys ≡ length xs
    → ((k : ℕ) (a : A) (b : B) → slice_get xs k ≡ Some a → slice_get ys k ≡ Some b → P a b) → P x y
    → (k : ℕ) (a : A) (b : B) → slice_get (xs ++ x ∷ []) k ≡ Some a → slice_get (ys ++ y ∷ []) k ≡ Some b → P a b
zip_more P [] [] x y long so own zero a b ia ib =
    let ea : x ≡ a = (let g : Some x ≡ Some a = ia in cc) in
    let eb : y ≡ b = (let g : Some y ≡ Some b = ib in cc) in
    subst (λ z. P a z) eb (subst (λ z. P z y) ea own)
zip_more P [] [] x y long so own (suc k) a b ia ib = absurd (let g : None ≡ Some a = ia in cc)
zip_more P [] (w ∷ ys) x y long so own k a b ia ib = absurd (omega (arith, long))
zip_more P (v ∷ xs) [] x y long so own k a b ia ib = absurd (omega (arith, long))
zip_more P (v ∷ xs) (w ∷ ys) x y long so own zero a b ia ib = so 0 a b ia ib
zip_more P (v ∷ xs) (w ∷ ys) x y long so own (suc k) a b ia ib =
    zip_more P xs ys x y (omega (arith, long)) (λ i. so (suc i)) own k a b ia ib

flat_map-of_map : {A B D : Type 0} (g : B → List D) (f : A → B) (xs : List A) → flat_map g (map f xs) ≡ flat_map (λ x. g (f x)) xs
flat_map-of_map g f [] = refl
flat_map-of_map g f (x ∷ xs) = ap (λ ys. g (f x) ++ ys) (flat_map-of_map g f xs)

-- ---- a round

module _ {Y : Type 0} (Answers : ℕ → Result Y DrawFault → Type 0) where
  all_ok : (xs : List ℕ) (ys : List Y) → AllZip Answers xs (map Ok ys) → AllZip (λ (x : ℕ) (y : Y). Answers x (Ok y)) xs ys
  all_ok [] [] h = tt
  all_ok [] (y ∷ ys) h = absurd h
  all_ok (x ∷ xs) [] h = absurd h
  all_ok (x ∷ xs) (y ∷ ys) h = (h.0, all_ok xs ys h.1)

  are_between : (from to : ℕ) (ys : List Y) → from ≤ to → AllZip (λ (x : ℕ) (y : Y). Answers x (Ok y)) (range_with_len from (to - from)) ys
      → AreBetween (λ number own. Answers number (Ok own)) from to ys
  are_between from to ys order z =
      let P = λ (x : ℕ) (y : Y). Answers x (Ok y) in
      let long : length ys ≡ to - from = range_long P from (to - from) ys z in
      record {
        whole = omega (arith, long, order);
        at = λ k y is.
            let low : k < to - from = omega (arith, slice_get_within ys k y is, long) in
            subst (λ (s : Y). Answers (from + k) (Ok s)) (get_or_from_slice_get ys k y y is) (range_at P y from (to - from) ys z k low);
      }

  -- the answers of a round, from those of its runs
  pub round_of : (from to : ℕ) (answers : List (Result Y DrawFault)) (r : Result (Vec Y Global) DrawFault) → from ≤ to
      → AllZip Answers (range_with_len from (to - from)) answers
      → MatchResult r (λ (c : Vec Y Global). (ys : List Y) × (answers ≡ map Ok ys) × (c.items ≡ ys)) (λ e. Contains answers (Err e))
      → IsRound Answers from to r
  round_of from to answers (Ok c) order z (ys, are, is) =
      are_between from to c.items order (rw is (all_ok (range_with_len from (to - from)) ys (rw are at z)))
  round_of from to answers (Err faults.Memory) order z there = tt
  round_of from to answers (Err faults.Behaviours) order z (k, low, is) =
      let e : DrawFault = faults.Behaviours in
      let long : length answers ≡ to - from = range_long Answers from (to - from) answers z in (
        from + k,
        omega (arith, low, long, order),
        subst (Answers (from + k)) is (range_at Answers (Err e) from (to - from) answers z k (omega (arith, low, long))),
      )

-- ---- the first pass

module _ (p : Program) (asked : Asked) (m : Manner) where
  pub found_none : (numbers : List Numbers) (all : List Counted) → numbers ≡ [] → all ≡ [] → HasFound p asked m 0 numbers all
  found_none numbers all n c = record {
    all = [];
    are = record { long = refl; at = λ number f is. absurd (let g : None ≡ Some f = is in cc) };
    numbers_are = n;
    counted_are = c;
  }

  found_long : (from to : ℕ) (old : List Found) (all : List Seen) → AreFound p asked m from old
      → AreBetween (λ number s. IsFoundIn p asked m number (found s)) from to all → AreFound p asked m to (old ++ map found all)
  found_long from to old all are next = record {
    long = omega (arith, length-append old (map found all), length-map all found, are.long, next.whole);
    at = λ number f is. elim (got_append old (map found all) number f is) [
      | inl before ↦ are.at number f before
      | inr q ↦ (
          let s = got_map found all q.0 f q.2 in
          let e : from + q.0 ≡ number = omega (arith, q.1, are.long) in
          subst (λ (n : ℕ). IsFoundIn p asked m n f) e (subst (IsFoundIn p asked m (from + q.0)) s.2 (next.at q.0 s.0 s.1)))
    ];
  }

  pub found_more : (from to : ℕ) (all : List Seen) (numbers now : List Numbers) (sofar after : List Counted) → HasFound p asked m from numbers sofar
      → AreBetween (λ number s. IsFoundIn p asked m number (found s)) from to all
      → now ≡ numbers ++ map (λ s. s.numbers) all → after ≡ fold counted sofar (flat_map (λ s. s.tried.items) all)
      → HasFound p asked m to now after
  found_more from to all numbers now sofar after has next own count =
      let more : List Found = map found all in record {
        all = has.all ++ more;
        are = found_long from to has.all all has.are next;
        numbers_are = own ∙ ap (λ xs. xs ++ map (λ (s : Seen). s.numbers) all) has.numbers_are
            ∙ ap (λ ys. map (λ (f : Found). f.numbers) has.all ++ ys) (sym (map-map (λ (f : Found). f.numbers) found all))
            ∙ sym (map-append (λ (f : Found). f.numbers) has.all more);
        counted_are = count ∙ ap (λ c. fold counted c (flat_map (λ (s : Seen). s.tried.items) all)) has.counted_are
            ∙ ap (fold counted (counts has.all)) (sym (flat_map-of_map (λ (f : Found). f.tried) found all))
            ∙ sym (fold-append counted [] (flat_map (λ (f : Found). f.tried) has.all) (flat_map (λ (f : Found). f.tried) more))
            ∙ ap (fold counted []) (sym (flat_map-append (λ (f : Found). f.tried) has.all more));
      }

  -- ---- numbers alone

  pub numbers_none : (all : List Numbers) → all ≡ [] → AreNumbersOfRuns p asked m 0 all
  numbers_none all none = record {
    long = ap length none;
    at = λ number n is. absurd (let g : None ≡ Some n = ap (λ ns. slice_get ns number) (sym none) ∙ is in cc);
  }

  pub numbers_more : (from to : ℕ) (all old now : List Numbers) → AreNumbersOfRuns p asked m from old
      → AreBetween (λ number n. AreNumbersIn p asked m number n) from to all → now ≡ old ++ all → AreNumbersOfRuns p asked m to now
  numbers_more from to all old now are next step = record {
    long = omega (arith, ap length step, length-append old all, are.long, next.whole);
    at = λ number n is. elim (got_append old all number n (ap (λ ns. slice_get ns number) (sym step) ∙ is)) [
      | inl before ↦ are.at number n before
      | inr q ↦ (
          let e : from + q.0 ≡ number = omega (arith, q.1, are.long) in
          subst (λ (k : ℕ). AreNumbersIn p asked m k n) e (next.at q.0 n q.2))
    ];
  }

-- ---- the second pass

-- what one more run appends
pushed_at : (columns : List (List ℤ)) (less : List ℤ) (place : ℕ) (column : List ℤ) → length less ≡ length columns
    → slice_get (pushed columns less) place ≡ Some column
    → (old : List ℤ) × (own : ℤ) × (slice_get columns place ≡ Some old) × (slice_get less place ≡ Some own) × (column ≡ old ++ own ∷ [])
pushed_at [] less place column long is = absurd (let g : None ≡ Some column = is in cc)
pushed_at (c ∷ columns) [] place column long is = absurd (omega (arith, long))
pushed_at (c ∷ columns) (own ∷ less) zero column long is = (c, own, refl, refl, (let g : Some (c ++ own ∷ []) ≡ Some column = is in cc))
pushed_at (c ∷ columns) (own ∷ less) (suc place) column long is = pushed_at columns less place column (omega (arith, long)) is

pushed_long : (columns : List (List ℤ)) (less : List ℤ) → length (pushed columns less) ≡ length columns
pushed_long [] less = refl
pushed_long (c ∷ columns) [] = refl
pushed_long (c ∷ columns) (own ∷ less) = omega (arith, pushed_long columns less)

module _ (p : Program) (asked : Asked) (m : Manner) (remedies : List Remedy) where
  pub columns_none : (columns : List (List ℤ)) → columns ≡ replicate (length remedies) [] → AreColumns p asked m remedies 0 columns
  columns_none columns are = record {
    long = ap length are ∙ long_replicate [] (length remedies);
    each_long = λ place column is.
        let none : [] ≡ column = got_replicate [] column (length remedies) place (ap (λ cs. slice_get cs place) (sym are) ∙ is) in
        ap length (sym none);
    at = λ place number remedy column less ir ic il.
        let none : [] ≡ column = got_replicate [] column (length remedies) place (ap (λ cs. slice_get cs place) (sym are) ∙ ic) in
        absurd (let g : None ≡ Some less = ap (λ c. slice_get c number) none ∙ il in cc);
  }

  columns_one : (count : ℕ) (columns : List (List ℤ)) (less : List ℤ) → AreColumns p asked m remedies count columns
      → AreBroughtIn p asked m remedies count less → AreColumns p asked m remedies (count + 1) (pushed columns less)
  columns_one count columns less are own =
      let even : length less ≡ length columns = own.are.long ∙ sym are.long in
      record {
        long = pushed_long columns less ∙ are.long;
        each_long = λ place column is.
            let q = pushed_at columns less place column even is in
            omega (arith, ap length q.4, length-append q.0 (q.1 ∷ []), are.each_long place q.0 q.2);
        at = λ place number remedy column got ir ic il.
            let q = pushed_at columns less place column even ic in
            elim (got_append q.0 (q.1 ∷ []) number got (ap (λ c. slice_get c number) (sym q.4) ∙ il)) [
              | inl before ↦ are.at place number remedy q.0 got ir q.2 before
              | inr t ↦ (
                  let one = got_one q.1 got t.0 t.2 in
                  let e : count ≡ number = omega (arith, t.1, one.0, are.each_long place q.0 q.2) in
                  let brings : BringsIn p asked m count remedy q.1 = record { run = own.run; is_run = own.is_run; brings = own.are.at place remedy q.1 ir q.3 } in
                  subst (λ (l : ℤ). BringsIn p asked m number remedy l) one.1
                  (subst (λ (n : ℕ). BringsIn p asked m n remedy q.1) e brings))
            ];
      }

  pub columns_more : (from to : ℕ) (all : List (Vec ℤ Global)) (columns : List (List ℤ)) → AreColumns p asked m remedies from columns
      → AreBetween (λ number own. AreBroughtIn p asked m remedies number own.items) from to all
      → AreColumns p asked m remedies to (fold pushed columns (map (λ r. r.items) all))
  columns_more from to [] columns are next =
      let e : from ≡ to = omega (arith, next.whole) in
      subst (λ (n : ℕ). AreColumns p asked m remedies n columns) e are
  columns_more from to (own ∷ all) columns are next =
      let here : from + 0 ≡ from = omega arith in
      let first : AreBroughtIn p asked m remedies from own.items = subst (λ (n : ℕ). AreBroughtIn p asked m remedies n own.items) here (next.at 0 own refl) in
      columns_more (from + 1) to all (pushed columns own.items) (columns_one from columns own.items are first) record {
        whole = omega (arith, next.whole);
        at = λ k other is.
            let e : from + suc k ≡ from + 1 + k = omega arith in
            subst (λ (n : ℕ). AreBroughtIn p asked m remedies n other.items) e (next.at (suc k) other is);
      }
