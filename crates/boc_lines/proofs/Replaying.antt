-- Rows that run again, one after another.
use Rattle.std.proofs.Common.{◌≡◌, ℕ, suc, ◌+◌, ◌-◌, ◌*◌, ◌≤◌, ◌<◌, List, [], ◌∷◌, ◌++◌, Bool, true, false, IsTrue, Some, None, Ok, Err, IfOk, OnOk, ℤ, refl, sym, ap, ◌∙◌, subst, inl, inr, arith, length, map, drop, take, get_or, replicate, min, sum}
use Rattle.std.specs.Prelude.{Option, Result, ◌&&◌, ◌↔◌, slice_get, slice_range}
use Rattle.std.proofs.lemmas.List.{get_or-replicate, length-replicate, length-map}
use Rattle.std.proofs.lemmas.Option.{slice_get_within, slice_get-map, slice_get_read, get_or_from_slice_get}
use Rattle.std.proofs.lemmas.Bool.{cases_lt}
use Rattle.std.specs.Option.{option_map}
use Rattle.boc_eval.specs.declared.instance.Instance.{Instance}
use Rattle.boc_eval.specs.Instances.{behaviour_in}
use Rattle.std.proofs.lemmas.List.Sums.{sum_by-cons}
use Rattle.std.proofs.lemmas.List.Folds.{sum_by-replicate}
use Rattle.boc_program.specs.declared.body.Body.{Body}
use Rattle.boc_program.specs.declared.program.Program.{Program}
use Rattle.boc_program.specs.declared.short.Input.{Input}
use Rattle.boc_program.specs.Programs.{cown_count, initial_values}
use Rattle.boc_program.specs.Signatures.{AllBelow}
use Rattle.boc_program.specs.Syntax.{code_size}
use Rattle.boc_program.specs.Meaning.{State, cowns_held, start, start_slots, values_held, whole}
use Rattle.boc_runs.specs.Serial.{Behaviour, inputs_of, after_outputs, meaning_if}
use Rattle.boc_lines.specs.Charges.{Charge, bill, total, ticks_of, first_ticks}
use Rattle.boc_lines.specs.Numbers.{starts_from}
use Rattle.boc_lines.specs.Books.{Book, entered, noted, tally}
use Rattle.boc_lines.specs.Replays.{start_of, numbers, bill_if, charges_of, values_after, charges_along, all_charges, charges_through, AreRowTicks, AreTicksOf, least_of_each, Fits}
use Rattle.boc_program.proofs.Truth.{and_true}
use Rattle.boc_lines.proofs.Agreeing.{AreBelow, body_agrees}
use Rattle.boc_lines.proofs.Numbering.{start_is, start_within, numbers_few}
use Rattle.boc_lines.proofs.Tallies.{tally_more, tally_at, length-tally, sum_tally}

pub same_some : {A : Type 0} (x y : A) → Some x ≡ Some y → x ≡ y
same_some x y e = cc

pub not_true : IsTrue false → ⊥
not_true h = absurd cc

pub if_ok : {T E : Type 0} (r : Result T E) (P Q : T → Type 0) → ((x : T) → P x → Q x) → IfOk r P → IfOk r Q
if_ok (Ok x) P Q f p = f x p
if_ok (Err e) P Q f p = p

pub on_ok : {T E : Type 0} (r : Result T E) (P Q : Type 0) → (P → Q) → OnOk r P → OnOk r Q
on_ok (Ok x) P Q f p = f p
on_ok (Err e) P Q f p = p

pub on_both : {T E : Type 0} (r : Result T E) (O P Q : Type 0) → (O → P → Q) → OnOk r O → OnOk r P → OnOk r Q
on_both (Ok x) O P Q f o p = f o p
on_both (Err e) O P Q f o p = p

-- the cowns of inputs are those that they were made of
pub held_of : (cowns : List ℕ) (values : List ℤ) → cowns_held (inputs_of cowns values) ≡ cowns
held_of [] values = refl
held_of (c ∷ cowns) values = ap (λ cs. c ∷ cs) (held_of cowns values)

pub length-inputs : (cowns : List ℕ) (values : List ℤ) → length (inputs_of cowns values) ≡ length cowns
length-inputs [] values = refl
length-inputs (c ∷ cowns) values = ap suc (length-inputs cowns values)

-- ---- what fits

both_true : (a b : Bool) → IsTrue a → IsTrue b → IsTrue (a && b)
both_true true b h k = k
both_true false b h k = absurd cc

-- a body takes what the behaviour has, and its cowns are there
pub fits_by : (p : Program) (b : Behaviour) (body : Body) (takes below : Bool) → slice_get p.bodies b.kind ≡ Some body
    → (IsTrue takes ↔ ((length b.args ≡ body.params) × (length b.cowns ≡ body.cown_params))) → (IsTrue below ↔ AllBelow (cown_count p.cowns) b.cowns)
    → IsTrue (takes && below) ↔ Fits p b
fits_by p b body takes below is t u = (
  λ h. let both = and_true takes below h in
      record { body = body; is = is; args = (t.0 both.0).0; cowns = (t.0 both.0).1; below = u.0 both.1 },
  λ f. let same : f.body ≡ body = same_some f.body body (sym f.is ∙ is) in
      both_true takes below (t.1 (f.args ∙ ap (λ (x : Body). x.params) same, f.cowns ∙ ap (λ (x : Body). x.cown_params) same)) (u.1 f.below),
)

-- no body is there
pub fits_none : (p : Program) (b : Behaviour) → length p.bodies ≤ b.kind → IsTrue false ↔ Fits p b
fits_none p b h = (λ e. absurd cc, λ f. absurd (omega (arith, h, slice_get_within p.bodies b.kind f.body f.is)))

-- a row in its place
pub row_at : (rows : List Instance) (i : ℕ) (x : Instance) → i < length rows → x ≡ get_or rows i x
    → slice_get (map behaviour_in rows) i ≡ Some (behaviour_in x)
row_at rows i x h is = slice_get-map behaviour_in rows i ∙ ap (option_map behaviour_in) (slice_get_read rows (length rows) i x refl h is)

-- one more row that fits
pub fits_more : (p : Program) (bs : List Behaviour) (i : ℕ) (x : Behaviour) → ((k : ℕ) (b : Behaviour) → k < i → slice_get bs k ≡ Some b → Fits p b)
    → slice_get bs i ≡ Some x → Fits p x → (k : ℕ) (b : Behaviour) → k < i + 1 → slice_get bs k ≡ Some b → Fits p b
fits_more p bs i x before is fits k b h at =
    elim (cases_lt k i) [
      | inl low ↦ before k b low at
      | inr high ↦
          let same : k ≡ i = omega arith in
          subst (Fits p) (same_some x b (sym is ∙ sym (ap (slice_get bs) same) ∙ at)) fits
    ]

pub row_below_all : (rows : List Instance) (i k : ℕ) (b : Behaviour) → length rows ≤ i → slice_get (map behaviour_in rows) k ≡ Some b → k < i
row_below_all rows i k b h is = omega (arith, h, slice_get_within (map behaviour_in rows) k b is, length-map rows behaviour_in)

-- ---- a row

-- what the body of a row noted is what the row is charged, and its slots are those that it has at its end
pub row_entered : (p : Program) (b : Behaviour) (values : List ℤ) (body : Body) (book after : Book) (slots : List ℤ) → slice_get p.bodies b.kind ≡ Some body
    → entered book (bill (start_of p.bodies b.kind) body b.args (inputs_of b.cowns values)) ≡ record { book = after; slots = slots }
    → (after ≡ noted book (charges_of p b (inputs_of b.cowns values))) × (slots ≡ (whole body b.args (inputs_of b.cowns values)).slots)
row_entered p b values body book after slots is h = (
  sym (ap (λ e. e.book) h) ∙ ap (λ o. noted book (bill_if (start_of p.bodies b.kind) o b.args (inputs_of b.cowns values))) (sym is),
  sym (ap (λ e. e.slots) h)
      ∙ (body_agrees (start_of p.bodies b.kind + 1 + code_size body.block) (start_of p.bodies b.kind) body b.args (inputs_of b.cowns values) (omega arith)).1,
)

between : (a b : ℕ) → (a + b) - a ≡ b
between a b = omega arith

-- the outputs that were written are those that the body means
pub row_values : (p : Program) (b : Behaviour) (values after : List ℤ) (body : Body) (slots : List ℤ) → slice_get p.bodies b.kind ≡ Some body
    → length b.args ≡ body.params → length b.cowns ≡ body.cown_params → slots ≡ (whole body b.args (inputs_of b.cowns values)).slots
    → after ≡ after_outputs values b.cowns (slice_range slots body.params (body.params + body.cown_params)) → after ≡ values_after p b values
row_values p b values after body slots is args cowns slots_are after_is =
    let inputs = inputs_of b.cowns values in
    let many : body.cown_params ≡ length inputs = sym cowns ∙ sym (length-inputs b.cowns values) in
    after_is ∙ ap (after_outputs values b.cowns)
    (ap (λ n. take n (drop body.params slots)) (between body.params body.cown_params)
    ∙ ap (λ n. take n (drop body.params slots)) many
    ∙ ap (λ n. take (length inputs) (drop n slots)) (sym args)
    ∙ ap (λ xs. take (length inputs) (drop (length b.args) xs)) slots_are)
    ∙ ap (λ o. after_outputs values b.cowns (meaning_if o b.args inputs).outputs) (sym is)

-- a body stands before its start, on what it was given
pub begun : (body : Body) (args given : List ℤ) (cowns taken : List ℕ) (values : List ℤ) (s : State)
    → s ≡ record { held = taken; slots = start_slots given (values_held (inputs_of taken values)) body.slots; ticks = 0 } → given ≡ args → taken ≡ cowns
    → s ≡ record (start body args (inputs_of cowns values)) { ticks = 0 }
begun body args given cowns taken values s h same_args same_cowns =
    h
    ∙ ap (λ a. let at : State = record { held = taken; slots = start_slots a (values_held (inputs_of taken values)) body.slots; ticks = 0 } in at) same_args
    ∙ ap (λ c. let at : State = record { held = c; slots = start_slots args (values_held (inputs_of c values)) body.slots; ticks = 0 } in at) same_cowns
    ∙ ap (λ c. let at : State = record { held = c; slots = start_slots args (values_held (inputs_of cowns values)) body.slots; ticks = 0 } in at)
    (sym (held_of cowns values))

from_zero : (n : ℕ) → 0 + n ≡ n
from_zero n = omega arith

-- the number of a body's start, as it is looked up
pub start_at : (p : Program) (kind : ℕ) (body : Body) (starts : List ℕ) → starts ≡ starts_from 0 p.bodies → slice_get p.bodies kind ≡ Some body
    → get_or starts kind 0 ≡ start_of p.bodies kind
start_at p kind body starts is there =
    ap (λ xs. get_or xs kind 0) is
    ∙ get_or_from_slice_get (starts_from 0 p.bodies) kind (0 + start_of p.bodies kind) 0 (start_is 0 p.bodies kind body there)
    ∙ from_zero (start_of p.bodies kind)

pub start_there : (p : Program) (kind : ℕ) (body : Body) (starts : List ℕ) → starts ≡ starts_from 0 p.bodies → slice_get p.bodies kind ≡ Some body
    → kind < length starts
start_there p kind body starts is there =
    subst (λ (xs : List ℕ). kind < length xs) (sym is)
    (slice_get_within (starts_from 0 p.bodies) kind (0 + start_of p.bodies kind) (start_is 0 p.bodies kind body there))

pub start_few : (p : Program) (kind : ℕ) (body : Body) (starts : List ℕ) → starts ≡ starts_from 0 p.bodies → slice_get p.bodies kind ≡ Some body
    → get_or starts kind 0 + 1 + code_size body.block < 4294967296
start_few p kind body starts is there =
    omega (arith, start_at p kind body starts is there, start_within p.bodies kind body there, numbers_few p.bodies, p.few_defs)

-- ---- charges of known numbers

below_more : (n : ℕ) (cs ds : List Charge) → AreBelow n cs → AreBelow n ds → AreBelow n (cs ++ ds)
below_more n [] ds h k = k
below_more n (c ∷ cs) ds h k = (h.0, below_more n cs ds h.1 k)

first_below : (n m : ℕ) (cs : List Charge) → AreBelow n cs → AreBelow n (first_ticks m cs)
first_below n m [] h = tt
first_below n m (c ∷ cs) h = (h.0, first_below n (m - c.ticks) cs h.1)

bill_below : (p : Program) (kind : ℕ) (o : Option Body) (args : List ℤ) (inputs : List Input) → slice_get p.bodies kind ≡ o
    → AreBelow (numbers p.bodies) (bill_if (start_of p.bodies kind) o args inputs)
bill_below p kind None args inputs is = tt
bill_below p kind (Some body) args inputs is =
    (body_agrees (numbers p.bodies) (start_of p.bodies kind) body args inputs (start_within p.bodies kind body is)).2

row_below : (p : Program) (b : Behaviour) (inputs : List Input) → AreBelow (numbers p.bodies) (charges_of p b inputs)
row_below p b inputs = bill_below p b.kind (slice_get p.bodies b.kind) b.args inputs refl

all_below : (p : Program) (values : List ℤ) (bs : List Behaviour) → AreBelow (numbers p.bodies) (all_charges (charges_along p values bs))
all_below p values [] = tt
all_below p values (b ∷ bs) =
    below_more (numbers p.bodies) (charges_of p b (inputs_of b.cowns values)) (all_charges (charges_along p (values_after p b values) bs))
    (row_below p b (inputs_of b.cowns values)) (all_below p (values_after p b values) bs)

through_below : (p : Program) (through : List ℕ) (values : List ℤ) (bs : List Behaviour)
    → AreBelow (numbers p.bodies) (charges_through through (charges_along p values bs))
through_below p [] values bs = tt
through_below p (n ∷ through) values [] = tt
through_below p (n ∷ through) values (b ∷ bs) =
    below_more (numbers p.bodies) (first_ticks n (charges_of p b (inputs_of b.cowns values))) (charges_through through (charges_along p (values_after p b values) bs))
    (first_below (numbers p.bodies) n (charges_of p b (inputs_of b.cowns values)) (row_below p b (inputs_of b.cowns values)))
    (through_below p through (values_after p b values) bs)

-- ---- sums

pub zero_and : (n : ℕ) → 0 + n ≡ n
zero_and n = omega arith

regroup : (a b c : ℕ) → (a + b) + c ≡ a + (b + c)
regroup a b c = omega arith

total_more : (cs ds : List Charge) → total (cs ++ ds) ≡ total cs + total ds
total_more [] ds = sym (zero_and (total ds))
total_more (c ∷ cs) ds = ap (λ n. c.ticks + n) (total_more cs ds) ∙ sym (regroup c.ticks (total cs) (total ds))

pub total_all : (rows : List (List Charge)) → total (all_charges rows) ≡ sum (map total rows)
total_all [] = refl
total_all (row ∷ rows) =
    total_more row (all_charges rows) ∙ ap (λ n. total row + n) (total_all rows) ∙ sym (sum_by-cons (λ x. x) (total row) (map total rows))

min_more : (n c t : ℕ) → min n c + min (n - c) t ≡ min n (c + t)
min_more n c t = omega arith

first_total : (n : ℕ) (cs : List Charge) → total (first_ticks n cs) ≡ min n (total cs)
first_total n [] = omega arith
first_total n (c ∷ cs) = ap (λ m. min n c.ticks + m) (first_total (n - c.ticks) cs) ∙ min_more n c.ticks (total cs)

pub total_through : (through : List ℕ) (rows : List (List Charge)) → total (charges_through through rows) ≡ sum (least_of_each through (map total rows))
total_through [] rows = refl
total_through (n ∷ through) [] = refl
total_through (n ∷ through) (row ∷ rows) =
    total_more (first_ticks n row) (charges_through through rows)
    ∙ ap (λ m. m + total (charges_through through rows)) (first_total n row)
    ∙ ap (λ m. min n (total row) + m) (total_through through rows)
    ∙ sym (sum_by-cons (λ x. x) (min n (total row)) (least_of_each through (map total rows)))

-- ---- what was counted, from nothing

none_of : (n : ℕ) → n * 0 ≡ 0
none_of n = omega arith

zero_sum : (n : ℕ) → sum (replicate n 0) ≡ 0
zero_sum n = sum_by-replicate (λ x. x) n 0 ∙ none_of n

pub counted : (n : ℕ) (cs : List Charge) (counts : List ℕ) → counts ≡ tally (replicate n 0) cs → AreTicksOf n cs counts
counted n cs counts is = record {
  all = ap (length {A = ℕ}) is ∙ length-tally (replicate n 0) cs ∙ length-replicate n 0;
  each = λ k h. ap (λ xs. get_or xs k 0) is ∙ tally_at (replicate n 0) cs k (subst (λ m. k < m) (sym (length-replicate n 0)) h)
      ∙ ap (λ m. m + ticks_of k cs) (get_or-replicate n k 0 0 h) ∙ zero_and (ticks_of k cs);
}

pub summed : (n : ℕ) (cs : List Charge) (counts : List ℕ) → counts ≡ tally (replicate n 0) cs → AreBelow n cs → sum counts ≡ total cs
summed n cs counts is h =
    ap sum is ∙ sum_tally (replicate n 0) cs (subst (λ m. AreBelow m cs) (sym (length-replicate n 0)) h)
    ∙ ap (λ m. m + total cs) (zero_sum n) ∙ zero_and (total cs)

-- ---- one row more

pub row_counted : (p : Program) (counts new : List ℕ) (values after : List ℤ) (bs rest : List Behaviour) (b : Behaviour)
    → new ≡ tally counts (charges_of p b (inputs_of b.cowns values)) → after ≡ values_after p b values → bs ≡ b ∷ rest
    → tally new (all_charges (charges_along p after rest)) ≡ tally counts (all_charges (charges_along p values bs))
row_counted p counts new values after bs rest b new_is after_is bs_is =
    ap (λ c. tally c (all_charges (charges_along p after rest))) new_is
    ∙ ap (λ v. tally (tally counts (charges_of p b (inputs_of b.cowns values))) (all_charges (charges_along p v rest))) after_is
    ∙ sym (tally_more counts (charges_of p b (inputs_of b.cowns values)) (all_charges (charges_along p (values_after p b values) rest)))
    ∙ ap (λ xs. tally counts (all_charges (charges_along p values xs))) (sym bs_is)

pub row_through : (p : Program) (counts new : List ℕ) (values after : List ℤ) (bs rest : List Behaviour) (b : Behaviour) (through later : List ℕ) (n : ℕ)
    → new ≡ tally counts (first_ticks n (charges_of p b (inputs_of b.cowns values))) → after ≡ values_after p b values → bs ≡ b ∷ rest
    → through ≡ n ∷ later
    → tally new (charges_through later (charges_along p after rest)) ≡ tally counts (charges_through through (charges_along p values bs))
row_through p counts new values after bs rest b through later n new_is after_is bs_is through_is =
    ap (λ c. tally c (charges_through later (charges_along p after rest))) new_is
    ∙ ap (λ v. tally (tally counts (first_ticks n (charges_of p b (inputs_of b.cowns values)))) (charges_through later (charges_along p v rest))) after_is
    ∙ sym (tally_more counts (first_ticks n (charges_of p b (inputs_of b.cowns values)))
    (charges_through later (charges_along p (values_after p b values) rest)))
    ∙ ap (λ xs. tally counts (charges_through (n ∷ later) (charges_along p values xs))) (sym bs_is)
    ∙ ap (λ ns. tally counts (charges_through ns (charges_along p values bs))) (sym through_is)

-- ---- all rows

pub row_ticks : (p : Program) (bs : List Behaviour) (through ticks chain ticks_before chain_before : List ℕ) (values : List ℤ) (n : ℕ)
    → values ≡ initial_values p.cowns → n ≡ numbers p.bodies → ticks_before ≡ replicate n 0 → chain_before ≡ replicate n 0
    → ticks ≡ tally ticks_before (all_charges (charges_along p values bs)) → chain ≡ tally chain_before (charges_through through (charges_along p values bs))
    → AreRowTicks p bs through ticks chain
row_ticks p bs through ticks chain ticks_before chain_before values n values_are n_is ticks_none chain_none ticks_are chain_are =
    let all = charges_along p (initial_values p.cowns) bs in
    let none : replicate n 0 ≡ replicate (numbers p.bodies) 0 = ap (λ m. replicate m 0) n_is in
    let own : ticks ≡ tally (replicate (numbers p.bodies) 0) (all_charges all) =
    ticks_are ∙ ap (λ c. tally c (all_charges (charges_along p values bs))) (ticks_none ∙ none)
    ∙ ap (λ v. tally (replicate (numbers p.bodies) 0) (all_charges (charges_along p v bs))) values_are in
    let chained : chain ≡ tally (replicate (numbers p.bodies) 0) (charges_through through all) =
    chain_are ∙ ap (λ c. tally c (charges_through through (charges_along p values bs))) (chain_none ∙ none)
    ∙ ap (λ v. tally (replicate (numbers p.bodies) 0) (charges_through through (charges_along p v bs))) values_are in
    record {
      all = counted (numbers p.bodies) (all_charges all) ticks own;
      chained = counted (numbers p.bodies) (charges_through through all) chain chained;
      all_sum = summed (numbers p.bodies) (all_charges all) ticks own (all_below p (initial_values p.cowns) bs) ∙ total_all all;
      chain_sum = summed (numbers p.bodies) (charges_through through all) chain chained (through_below p through (initial_values p.cowns) bs)
          ∙ total_through through all;
    }

pub no_sum : (n : ℕ) (xs : List ℕ) → xs ≡ replicate n 0 → sum xs ≡ 0
no_sum n xs e = ap sum e ∙ zero_sum n
