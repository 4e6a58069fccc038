-- A program has one own order: of two beginnings of it the shorter is a beginning of the longer, and it ends once.
use Rattle.std.proofs.Common.{◌≡◌, ◌≢◌, ◌⊎◌, inl, inr, ℕ, zero, suc, ◌+◌, ◌-◌, true, false, eqb, ◌<◌, ◌≤◌, List, [], ◌∷◌, ◌++◌, length, refl, sym, ap, ◌∙◌}
use Rattle.std.proofs.Common.{subst, arith, append-nil, append_assoc, add-zero, zero-add, None, ℤ, length-append}
use Rattle.std.specs.Prelude.{replicate, slice_get}
use Rattle.std.specs.List.{Contains}
use Rattle.std.proofs.lemmas.Bool.Decides.{leb_tells, eqb_tells}
use Rattle.boc_program.specs.declared.program.Program.{Program}
use Rattle.boc_runs.specs.Serial.{Serial, SerialRow, next_behaviour, run_at_once, after_turn, after_turns, serial_along}
use Rattle.boc_runs.specs.OwnOrder.{IsOwnOrder, EndsWith, HasTooMany, spawners}
use Rattle.boc_program.proofs.RisingNumbers.{has_first, has_later, first_or_later, none_in_none}

-- the row that comes next with this parent
abbrev pub next_row : Program → Serial → ℕ → SerialRow
next_row p s parent = run_at_once p s.values parent (next_behaviour s.rows parent)

-- one row more
pub along_more : (p : Program) (s : Serial) (done : List ℕ) (parent : ℕ) → after_turns p s (done ++ parent ∷ []) ≡ after_turn p (after_turns p s done) parent
along_more p s [] parent = refl
along_more p s (first ∷ done) parent = along_more p (after_turn p s first) done parent

-- each turn makes a row
pub rows_along : (p : Program) (s : Serial) (done : List ℕ) → length (after_turns p s done).rows ≡ length s.rows + length done
rows_along p s [] = sym (add-zero (length s.rows))
rows_along p s (first ∷ done) =
    omega (arith, rows_along p (after_turn p s first) done, length-append s.rows (next_row p s first ∷ []))

pub spawners-append : (n : ℕ) (rows : List SerialRow) (row : SerialRow)
    → spawners n (rows ++ row ∷ []) ≡ spawners n rows ++ replicate (length row.means.wishes) (n + length rows)
spawners-append n [] row = append-nil (replicate (length row.means.wishes) n) ∙ ap (replicate (length row.means.wishes)) (sym (add-zero n))
spawners-append n (first ∷ rows) row =
    let same : suc n + length rows ≡ n + suc (length rows) = omega arith in
    ap (λ xs. replicate (length first.means.wishes) n ++ xs)
    (spawners-append (suc n) rows row ∙ ap (λ k. spawners (suc n) rows ++ replicate (length row.means.wishes) k) same)
    ∙ sym (append_assoc (replicate (length first.means.wishes) n) (spawners (suc n) rows) (replicate (length row.means.wishes) (n + suc (length rows))))

-- the order in which rows come
abbrev pub order_of : Program → List ℕ → List ℕ
order_of p done = 0 ∷ spawners 0 (serial_along p done).rows

-- how many wishes the row has that comes next with this parent
abbrev pub next_wishes : Program → List ℕ → ℕ → ℕ
next_wishes p done parent = length (next_row p (serial_along p done) parent).means.wishes

-- there are as many rows as had their turns
pub rows_done : (p : Program) (done : List ℕ) → length (serial_along p done).rows ≡ length done
rows_done p done = rows_along p (serial_along p []) done ∙ zero-add (length done)

-- the wishes of one row more come behind
pub order_more : (p : Program) (done : List ℕ) (parent : ℕ)
    → order_of p (done ++ parent ∷ []) ≡ order_of p done ++ replicate (next_wishes p done parent) (length done)
order_more p done parent =
    let s : Serial = serial_along p done in
    let start : Serial = serial_along p [] in
    ap (λ (t : Serial). 0 ∷ spawners 0 t.rows) (along_more p start done parent)
    ∙ ap (λ xs. 0 ∷ xs) (spawners-append 0 s.rows (next_row p s parent))
    ∙ ap (λ k. order_of p done ++ replicate (next_wishes p done parent) k) (zero-add (length s.rows) ∙ rows_done p done)

-- the own order goes on with the first row that is due
pub next_own : (p : Program) (done due : List ℕ) (parent : ℕ) → IsOwnOrder p done (parent ∷ due)
    → IsOwnOrder p (done ++ parent ∷ []) (due ++ replicate (next_wishes p done parent) (length done))
next_own p done due parent own =
    let new : List ℕ = replicate (next_wishes p done parent) (length done) in
    order_more p done parent
    ∙ ap (λ xs. xs ++ new) own
    ∙ append_assoc done (parent ∷ due) new
    ∙ sym (append_assoc done (parent ∷ []) (due ++ new))

-- a number of both parts together that are split elsewhere: the second part begins behind it, or has it
record Splits (xs ys front back : List ℕ) (q : ℕ) : Type 0 where
  between : List ℕ
  first : xs ≡ front ++ q ∷ between
  second : back ≡ between ++ ys

split_at : (xs ys front back : List ℕ) (q : ℕ) → xs ++ ys ≡ front ++ q ∷ back → Splits xs ys front back q ⊎ Contains ys q
split_at [] ys [] back q e = inr (subst (λ (zs : List ℕ). Contains zs q) (sym e) (has_first q back))
split_at [] ys (f ∷ front) back q e = inr (subst (λ (zs : List ℕ). Contains zs q) (sym e) (has_later f q (front ++ q ∷ back) (in_middle front)))
  where
    in_middle : (front : List ℕ) → Contains (front ++ q ∷ back) q
    in_middle [] = has_first q back
    in_middle (f ∷ front) = has_later f q (front ++ q ∷ back) (in_middle front)
split_at (x ∷ xs) ys [] back q e =
    let head : x ≡ q = cc in
    let rest : xs ++ ys ≡ back = cc in
    inl (record { between = xs; first = ap (λ n. n ∷ xs) head; second = sym rest })
split_at (x ∷ xs) ys (f ∷ front) back q e =
    let head : x ≡ f = cc in
    let rest : xs ++ ys ≡ front ++ q ∷ back = cc in
    elim (split_at xs ys front back q rest) [
      | inl h ↦ inl (record { between = h.between; first = ap (λ n. n ∷ xs) head ∙ ap (λ zs. f ∷ zs) h.first; second = h.second })
      | inr has ↦ inr has
    ]

same_of_replicate : (k n q : ℕ) → Contains (replicate k n) q → n ≡ q
same_of_replicate zero n q has = absurd (none_in_none q has)
same_of_replicate (suc k) n q has =
    elim (first_or_later n q (replicate k n) has) [
      | inl is ↦ is
      | inr later ↦ same_of_replicate k n q later
    ]

none_there : (rows : List SerialRow) (n : ℕ) → length rows ≤ n → slice_get rows n ≡ None
none_there [] n h = refl
none_there (row ∷ rows) zero h = absurd (omega arith)
none_there (row ∷ rows) (suc n) h = none_there rows n (omega arith)

-- a row whose parent isn't there yet has no wish, unless it is the first
idle : (p : Program) (values : List ℤ) (rows : List SerialRow) (n : ℕ) → 0 < length rows → length rows ≤ n
    → length (run_at_once p values n (next_behaviour rows n)).means.wishes ≡ 0
idle p values [] n some past = absurd (omega arith)
idle p values (main ∷ others) n some past = rw (none_there (main ∷ others) n past) refl

-- where the own order stood before the last of its rows had its turn
pub record Before (p : Program) (done due : List ℕ) (parent : ℕ) : Type 0 where
  pub others : List ℕ
  pub own : IsOwnOrder p done (parent ∷ others)
  pub is : due ≡ others ++ replicate (next_wishes p done parent) (length done)

first_back : (p : Program) (due : List ℕ) (parent : ℕ) → IsOwnOrder p ([] ++ parent ∷ []) due → Before p [] due parent
first_back p due parent own =
    let e : (0 ∷ []) ++ replicate (next_wishes p [] parent) 0 ≡ parent ∷ due = sym (order_more p [] parent) ∙ own in
    let zero_is : 0 ≡ parent = cc in
    record { others = []; own = ap (λ n. n ∷ []) zero_is; is = (let rest : replicate (next_wishes p [] parent) 0 ≡ due = cc in sym rest) }

later_back : (p : Program) (done due : List ℕ) (parent : ℕ) → 0 < length done → IsOwnOrder p (done ++ parent ∷ []) due → Before p done due parent
later_back p done due parent some own =
    let e : order_of p done ++ replicate (next_wishes p done parent) (length done) ≡ done ++ parent ∷ due =
    sym (order_more p done parent) ∙ own ∙ append_assoc done (parent ∷ []) due in
    elim (split_at (order_of p done) (replicate (next_wishes p done parent) (length done)) done due parent e) [
      | inl h ↦ record { others = h.between; own = h.first; is = h.second }
      | inr has ↦ absurd
          (let itself : length done ≡ parent = same_of_replicate (next_wishes p done parent) (length done) parent has in
          let s : Serial = serial_along p done in
          let none : next_wishes p done parent ≡ 0 = idle p s.values s.rows parent (omega (arith, rows_done p done, some))
          (omega (arith, rows_done p done, itself)) in
          none_in_none parent (subst (λ k. Contains (replicate k (length done)) parent) none has))
    ]

pub one_back : (p : Program) (done due : List ℕ) (parent : ℕ) → IsOwnOrder p (done ++ parent ∷ []) due → Before p done due parent
one_back p [] due parent own = first_back p due parent own
one_back p (first ∷ done) due parent own = later_back p (first ∷ done) due parent (omega arith) own

-- a list with a last member
record EndsIn (xs : List ℕ) (n : ℕ) : Type 0 where
  front : List ℕ
  last : ℕ
  is : xs ≡ front ++ last ∷ []
  long : length front ≡ n

ends_in : (xs : List ℕ) (n : ℕ) → length xs ≡ suc n → EndsIn xs n
ends_in [] n long = absurd (omega (arith, long))
ends_in (x ∷ []) n long = record { front = []; last = x; is = refl; long = omega (arith, long) }
ends_in (x ∷ y ∷ xs) zero long = absurd (omega (arith, long))
ends_in (x ∷ y ∷ xs) (suc n) long =
    let rest = ends_in (y ∷ xs) n (omega (arith, long)) in
    record { front = x ∷ rest.front; last = rest.last; is = ap (λ zs. x ∷ zs) rest.is; long = omega (arith, rest.long) }

empty : (xs : List ℕ) → length xs ≡ 0 → xs ≡ []
empty [] none = refl
empty (x ∷ xs) none = absurd (omega (arith, none))

-- after as many turns the same rows had theirs
pub same_done : (p : Program) (n : ℕ) (done due done' due' : List ℕ) → length done ≡ n → length done' ≡ n → IsOwnOrder p done due → IsOwnOrder p done' due'
    → done ≡ done'
same_done p zero done due done' due' long long' own own' = empty done long ∙ sym (empty done' long')
same_done p (suc n) done due done' due' long long' own own' =
    let e = ends_in done n long in
    let e' = ends_in done' n long' in
    let b = one_back p e.front due e.last (subst (λ (d : List ℕ). IsOwnOrder p d due) e.is own) in
    let b' = one_back p e'.front due' e'.last (subst (λ (d : List ℕ). IsOwnOrder p d due') e'.is own') in
    let front : e.front ≡ e'.front = same_done p n e.front (e.last ∷ b.others) e'.front (e'.last ∷ b'.others) e.long e'.long b.own b'.own in
    let due_there : IsOwnOrder p e'.front (e.last ∷ b.others) = subst (λ (d : List ℕ). IsOwnOrder p d (e.last ∷ b.others)) front b.own in
    let last : e.last ≡ e'.last = let both : e.last ∷ b.others ≡ e'.last ∷ b'.others =
    append_cancel e'.front (e.last ∷ b.others) (e'.last ∷ b'.others) (sym due_there ∙ b'.own) in cc in
    e.is ∙ ap (λ d. d ++ e.last ∷ []) front ∙ ap (λ q. e'.front ++ q ∷ []) last ∙ sym e'.is
  where
    append_cancel : (xs ys zs : List ℕ) → xs ++ ys ≡ xs ++ zs → ys ≡ zs
    append_cancel [] ys zs e = e
    append_cancel (x ∷ xs) ys zs e = append_cancel xs ys zs (let rest : xs ++ ys ≡ xs ++ zs = cc in rest)

-- where the own order stood after fewer turns: there were no more rows, and some were due
record Earlier (p : Program) (n rows : ℕ) : Type 0 where
  done : List ℕ
  due : List ℕ
  own : IsOwnOrder p done due
  long : length done ≡ n
  no_more : n + length due ≤ rows
  some : 0 < length due

-- the one before the last turn
just_before : (p : Program) (done due : List ℕ) (n : ℕ) → length done ≡ suc n → IsOwnOrder p done due → Earlier p n (length done + length due)
just_before p done due n long own =
    let e = ends_in done n long in
    let b = one_back p e.front due e.last (subst (λ (d : List ℕ). IsOwnOrder p d due) e.is own) in
    record {
      done = e.front;
      due = e.last ∷ b.others;
      own = b.own;
      long = e.long;
      no_more = omega (arith, long, ap length b.is, length-append b.others (replicate (next_wishes p e.front e.last) (length e.front)));
      some = omega arith;
    }

-- the one so many turns before
earlier : (p : Program) (k n : ℕ) (done due : List ℕ) → length done ≡ suc (k + n) → IsOwnOrder p done due → Earlier p n (length done + length due)
earlier p zero n done due long own = just_before p done due n (omega (arith, long)) own
earlier p (suc k) n done due long own =
    let b = just_before p done due (suc (k + n)) (omega (arith, long)) own in
    let e = earlier p k n b.done b.due b.long b.own in
    record { done = e.done; due = e.due; own = e.own; long = e.long; no_more = omega (arith, e.no_more, b.no_more, b.long); some = e.some }

-- after the turn of the last row that was due there are no further turns
no_further : (p : Program) (last done due : List ℕ) → IsOwnOrder p last [] → IsOwnOrder p done due → length done ≤ length last
no_further p last done due over own = by_cases (le_or_above (length done) (length last))
  where
    le_or_above : (a b : ℕ) → (a ≤ b) ⊎ (b < a)
    le_or_above a b = elim (leb_tells a b) [
      | inl h ↦ inl h.1
      | inr h ↦ inr h.1
    ]

    none_due : (due : List ℕ) → last ++ [] ≡ last ++ due → length due ≡ 0
    none_due due e = omega (arith, ap length e, length-append last due, length-append last [])

    by_cases : (length done ≤ length last) ⊎ (length last < length done) → length done ≤ length last
    by_cases (inl h) = h
    by_cases (inr h) =
        let e = earlier p (length done - suc (length last)) (length last) done due (omega (arith, h)) own in
        let same : e.done ≡ last = same_done p (length last) e.done e.due last [] e.long refl e.own over in
        let there : IsOwnOrder p last e.due = subst (λ (d : List ℕ). IsOwnOrder p d e.due) same e.own in
        absurd (omega (arith, e.some, none_due e.due (sym over ∙ there)))

-- a program ends with one list of values at most
pub ends_once : (p : Program) (values others : List ℤ) → EndsWith p values → EndsWith p others → values ≡ others
ends_once p values others a b =
    let long : length a.done ≡ length b.done = omega (arith, no_further p a.done b.done [] a.own b.own, no_further p b.done a.done [] b.own a.own) in
    let same : a.done ≡ b.done = same_done p (length b.done) a.done [] b.done [] long refl a.own b.own in
    sym a.values_are ∙ ap (λ (d : List ℕ). (serial_along p d).values) same ∙ b.values_are

-- and not if it has too many rows
pub not_too_many : (p : Program) (values : List ℤ) → EndsWith p values → HasTooMany p → ⊥
not_too_many p values a many = by_cases (eqb_tells (length many.done) (length a.done))
  where
    fewer : length many.done ≤ length a.done
    fewer = no_further p a.done many.done many.due a.own many.own

    rows : (e : Earlier p (length many.done) (length a.done + 0)) → length many.done + length many.due ≤ length a.done
    rows e =
        let same : e.done ≡ many.done = same_done p (length many.done) e.done e.due many.done many.due e.long refl e.own many.own in
        let there : IsOwnOrder p many.done e.due = subst (λ (d : List ℕ). IsOwnOrder p d e.due) same e.own in
        omega (arith, e.no_more, ap length (sym there ∙ many.own), length-append many.done e.due, length-append many.done many.due)

    by_cases : ((eqb (length many.done) (length a.done) ≡ true) × (length many.done ≡ length a.done))
        ⊎ ((eqb (length many.done) (length a.done) ≡ false) × (length many.done ≢ length a.done)) → ⊥
    by_cases (inl e) =
        let same : many.done ≡ a.done = same_done p (length a.done) many.done many.due a.done [] e.1 refl many.own a.own in
        let there : IsOwnOrder p a.done many.due = subst (λ (d : List ℕ). IsOwnOrder p d many.due) same many.own in
        omega (arith, a.few, many.many, ap length (sym there ∙ a.own), length-append a.done many.due, length-append a.done [], e.1)
    by_cases (inr e) =
        let r = rows (earlier p (length a.done - suc (length many.done)) (length many.done) a.done [] (omega (arith, fewer, e.1)) a.own) in
        omega (arith, r, a.few, many.many)
