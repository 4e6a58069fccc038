-- What rows took by their defs: the counts of what passes a test.
use Rattle.std.proofs.Common.{◌≡◌, ℕ, zero, suc, ◌+◌, ◌<◌, ◌≤◌, List, [], ◌∷◌, ◌++◌, length, take, get_or, Bool, true, false, cond, eqb, ◌&&◌}
use Rattle.std.proofs.Common.{refl, ap, sym, ◌∙◌, subst, arith, zero-add}
use Rattle.std.specs.Prelude.{All, count_by, slice_index}
use Rattle.std.proofs.lemmas.Bool.{eqb-true, eq-eqb}
use Rattle.std.proofs.lemmas.List.{take_all}
use Rattle.std.proofs.lemmas.List.Elements.{All-nil, All-cons, All-tail}
use Rattle.boc_runs.specs.declared.rows.Row.{Row}
use Rattle.boc_runs.specs.Rows.{ticks_of}
use Rattle.boc_typical.specs.declared.medians.DefTicks.{DefTicks}
use Rattle.boc_typical.specs.Medians.{ticks_in}
use Rattle.boc_typical.specs.Taken.{taken, of_def}
use Rattle.boc_typical.proofs.Counting.{count_by-cons}

split : (q : ℕ → Bool) (b : Bool) (t : ℕ) (ts : List ℕ) → cond (b && q t) 1 0 + count_by q ts ≡ count_by q (cond b (t ∷ ts) ts)
split q true t ts = sym (count_by-cons q t ts)
split q false t ts = zero-add (count_by q ts)

split_length : (b : Bool) (t : ℕ) (ts : List ℕ) → cond b 1 0 + length ts ≡ length (cond b (t ∷ ts) ts)
split_length true t ts = omega arith
split_length false t ts = zero-add (length ts)

-- what passes among the ticks of a def
pub passed_of : (q : ℕ → Bool) (def : ℕ) (rows : List Row) (defs : List ℕ)
    → count_by (λ (t : DefTicks). eqb t.def def && q t.ticks) (taken rows defs) ≡ count_by q (ticks_in rows defs def)
passed_of q def [] defs = refl
passed_of q def (x ∷ rows) [] = refl
passed_of q def (x ∷ rows) (d ∷ defs) =
    count_by-cons (λ (t : DefTicks). eqb t.def def && q t.ticks) (record { def = d; ticks = x.ticks }) (taken rows defs)
    ∙ ap (λ (n : ℕ). cond (eqb d def && q x.ticks) 1 0 + n) (passed_of q def rows defs)
    ∙ split q (eqb d def) x.ticks (ticks_in rows defs def)

-- how many there are
pub many_of : (def : ℕ) (rows : List Row) (defs : List ℕ) → of_def def (taken rows defs) ≡ length (ticks_in rows defs def)
many_of def [] defs = refl
many_of def (x ∷ rows) [] = refl
many_of def (x ∷ rows) (d ∷ defs) =
    count_by-cons (λ (t : DefTicks). eqb t.def def) (record { def = d; ticks = x.ticks }) (taken rows defs)
    ∙ ap (λ (n : ℕ). cond (eqb d def) 1 0 + n) (many_of def rows defs)
    ∙ split_length (eqb d def) x.ticks (ticks_in rows defs def)

pub many_defs : (def : ℕ) (rows : List Row) (defs : List ℕ) → length defs ≡ length rows → count_by (λ d. eqb d def) defs ≡ of_def def (taken rows defs)
many_defs def [] [] whole = refl
many_defs def [] (d ∷ defs) whole = absurd (omega (arith, whole))
many_defs def (x ∷ rows) [] whole = absurd (omega (arith, whole))
many_defs def (x ∷ rows) (d ∷ defs) whole =
    count_by-cons (λ (k : ℕ). eqb k def) d defs
    ∙ ap (λ (n : ℕ). cond (eqb d def) 1 0 + n) (many_defs def rows defs (omega (arith, whole)))
    ∙ sym (count_by-cons (λ (t : DefTicks). eqb t.def def) (record { def = d; ticks = x.ticks }) (taken rows defs))

pub taken_below : (bound : ℕ) (rows : List Row) (defs : List ℕ) → All (λ d. d < bound) defs → All (λ (t : DefTicks). t.def < bound) (taken rows defs)
taken_below bound [] defs all = All-nil (λ (t : DefTicks). t.def < bound)
taken_below bound (x ∷ rows) [] all = All-nil (λ (t : DefTicks). t.def < bound)
taken_below bound (x ∷ rows) (d ∷ defs) all = All-cons (λ (t : DefTicks). t.def < bound) (record { def = d; ticks = x.ticks }) (taken rows defs)
    (all 0 d (omega arith)) (taken_below bound rows defs (All-tail (λ k. k < bound) d defs all))

pub length-taken : (rows : List Row) (defs : List ℕ) → length defs ≡ length rows → length (taken rows defs) ≡ length rows
length-taken [] defs whole = refl
length-taken (x ∷ rows) [] whole = absurd (omega (arith, whole))
length-taken (x ∷ rows) (d ∷ defs) whole = ap suc (length-taken rows defs (omega (arith, whole)))

taken_suc : (rows : List Row) (defs : List ℕ) (k : ℕ) (x : Row) (d : ℕ) → k < length rows → k < length defs
    → taken (take (suc k) rows) (take (suc k) defs)
    ≡ taken (take k rows) (take k defs) ++ record { def = get_or defs k d; ticks = (get_or rows k x).ticks } ∷ []
taken_suc [] defs k x d h l = absurd (omega (arith, h))
taken_suc (y ∷ rows) [] k x d h l = absurd (omega (arith, l))
taken_suc (y ∷ rows) (e ∷ defs) zero x d h l = refl
taken_suc (y ∷ rows) (e ∷ defs) (suc k) x d h l =
    ap (λ (ts : List DefTicks). record { def = e; ticks = y.ticks } ∷ ts) (taken_suc rows defs k x d (omega (arith, h)) (omega (arith, l)))

-- one more row
pub taken_more : (rows : List Row) (defs : List ℕ) (k : ℕ) (x : Row) (d : ℕ) → k < length rows → k < length defs
    → taken (take (k + 1) rows) (take (k + 1) defs)
    ≡ taken (take k rows) (take k defs) ++ record { def = get_or defs k d; ticks = (get_or rows k x).ticks } ∷ []
taken_more rows defs k x d h l =
    let e : suc k ≡ k + 1 = omega arith in
    subst (λ (n : ℕ). taken (take n rows) (take n defs)
    ≡ taken (take k rows) (take k defs) ++ record { def = get_or defs k d; ticks = (get_or rows k x).ticks } ∷ []) e (taken_suc rows defs k x d h l)

cond_all : (P : ℕ → Type 0) (b : Bool) (t : ℕ) (ts : List ℕ) → (b ≡ true → P t) → All P ts → All P (cond b (t ∷ ts) ts)
cond_all P true t ts own all = All-cons P t ts (own refl) all
cond_all P false t ts own all = all

-- what holds of the ticks of each row of a def
pub ticks_all : (P : ℕ → Type 0) (rows : List Row) (defs : List ℕ) (def : ℕ)
    → ((r : ℕ) → r < length rows → slice_index defs r ≡ def → P (ticks_of rows r)) → All P (ticks_in rows defs def)
ticks_all P [] defs def own = All-nil P
ticks_all P (x ∷ rows) [] def own = All-nil P
ticks_all P (x ∷ rows) (d ∷ defs) def own = cond_all P (eqb d def) x.ticks (ticks_in rows defs def)
    (λ e. own 0 (omega arith) (eqb-true d def e)) (ticks_all P rows defs def (λ r h e. own (suc r) (omega (arith, h)) e))

more_of : (b : Bool) (t : ℕ) (ts : List ℕ) → 0 < length ts → 0 < length (cond b (t ∷ ts) ts)
more_of true t ts h = omega (arith, h)
more_of false t ts h = h

-- there are ticks of a row's def
pub ticks_some : (rows : List Row) (defs : List ℕ) (r : ℕ) → length defs ≡ length rows → r < length rows
    → 0 < length (ticks_in rows defs (slice_index defs r))
ticks_some [] defs r whole h = absurd (omega (arith, h))
ticks_some (x ∷ rows) [] r whole h = absurd (omega (arith, whole))
ticks_some (x ∷ rows) (d ∷ defs) zero whole h = rw (eq-eqb d d refl) (omega arith)
ticks_some (x ∷ rows) (d ∷ defs) (suc r) whole h =
    more_of (eqb d (slice_index defs r)) x.ticks (ticks_in rows defs (slice_index defs r)) (ticks_some rows defs r (omega (arith, whole)) (omega (arith, h)))

-- a step of the loop over rows
pub taken_step : (rows : List Row) (defs : List ℕ) (k : ℕ) (x : Row) (all after : List DefTicks) → k < length rows → length defs ≡ length rows
    → x ≡ get_or rows k x → all ≡ taken (take k rows) (take k defs) → after ≡ all ++ record { def = get_or defs k 0; ticks = x.ticks } ∷ []
    → after ≡ taken (take (k + 1) rows) (take (k + 1) defs)
taken_step rows defs k x all after here whole at is push =
    push
    ∙ ap (λ (z : Row). all ++ record { def = get_or defs k 0; ticks = z.ticks } ∷ []) at
    ∙ ap (λ (xs : List DefTicks). xs ++ record { def = get_or defs k 0; ticks = (get_or rows k x).ticks } ∷ []) is
    ∙ sym (taken_more rows defs k x 0 here (omega (arith, here, whole)))

-- and behind the loop
pub taken_all : (rows : List Row) (defs : List ℕ) (k : ℕ) (all : List DefTicks) → length rows ≤ k → length defs ≡ length rows
    → all ≡ taken (take k rows) (take k defs) → all ≡ taken rows defs
taken_all rows defs k all long whole is =
    is
    ∙ ap (λ (xs : List Row). taken xs (take k defs)) (take_all k rows long)
    ∙ ap (taken rows) (take_all k defs (omega (arith, long, whole)))
