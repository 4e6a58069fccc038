-- What the rows of a serial run wished for, row by row.
use Rattle.std.proofs.Common.{◌≡◌, ℕ, zero, suc, ◌+◌, ◌≤◌, ◌<◌, List, [], ◌∷◌, ◌++◌, true, false, Some, None, ℤ, refl, sym, ap, ◌∙◌, subst, inl, inr, arith, length, map, get_or, take, Vec, Global, length-set, length-append}
use Rattle.std.specs.Prelude.{cond, nat_eq, slice_get, slice_index}
use Rattle.std.specs.Option.{option_map}
use Rattle.std.proofs.lemmas.Bool.{cases_lt}
use Rattle.std.proofs.lemmas.Bool.Decides.{nat_tests}
use Rattle.std.proofs.lemmas.List.{map_push, map_more}
use Rattle.std.proofs.lemmas.List.Sums.{sum_by_push}
use Rattle.std.proofs.lemmas.Option.{slice_get_within, slice_get-map, slice_get_read, slice_get_past, get_or_from_slice_get}
use Rattle.boc_program.specs.declared.program.Program.{Program}
use Rattle.boc_program.specs.Meaning.{Wish}
use Rattle.boc_runs.specs.declared.rows.Row.{Row}
use Rattle.boc_runs.specs.Serial.{Behaviour, SerialRow, Serial, behaviour_of, children, next_behaviour, run_at_once, wish_of_row, with_row, after_turn}
use Rattle.boc_eval.specs.declared.instance.Instance.{Instance}
use Rattle.boc_eval.specs.Instances.{behaviour_in}
use Rattle.boc_eval.specs.Frames.{UnderWay, last_of, last_wish_of, wishes_of}
use Rattle.boc_eval.specs.Stops.{WishComes}
use Rattle.boc_lines.specs.declared.along.Along.{Along}
use Rattle.boc_lines.specs.Books.{add_at}
use Rattle.boc_lines.specs.Replays.{Fits, meaning_of, values_after}
use Rattle.boc_lines.specs.SerialRuns.{IsRowOf}
use Rattle.boc_lines.specs.Wished.{HasPut, Stands, Took, children_in, next_of, wishes_of_row}
use Rattle.boc_lines.proofs.Places.{next_place}
use Rattle.boc_lines.proofs.Tallies.{at_place}

-- ---- the next row

found_at : (rows : List SerialRow) (q n : ℕ)
    → slice_get (get_or (map wishes_of_row rows) q []) n ≡ option_map behaviour_of (wish_of_row (slice_get rows q) n)
found_at [] q n = refl
found_at (r ∷ rows) zero n = slice_get-map behaviour_of r.means.wishes n
found_at (r ∷ rows) (suc q) n = found_at rows q n

next_by : (rows : List SerialRow) (taken : List ℕ) (q : ℕ) → slice_index taken q ≡ children_in rows q
    → next_of (map wishes_of_row rows) taken q ≡ next_behaviour rows q
next_by [] taken q h = refl
next_by (m ∷ others) taken q h =
    ap (λ n. slice_get (get_or (map wishes_of_row (m ∷ others)) q []) n) h ∙ found_at (m ∷ others) q (children q others)

pub next_is : (s : Serial) (values : List ℤ) (along : Along) (q : ℕ) → Stands s values along
    → next_of (map (λ own. map behaviour_in own.items) along.wished.items) along.taken.items q ≡ next_behaviour s.rows q
next_is s values along q h = ap (λ ws. next_of ws along.taken.items q) h.wished ∙ next_by s.rows along.taken.items q (h.taken q)

-- ---- how many wishes are rows

none_more : (xs : List ℕ) (k : ℕ) → get_or (xs ++ 0 ∷ []) k 0 ≡ get_or xs k 0
none_more [] zero = refl
none_more [] (suc k) = refl
none_more (x ∷ xs) zero = refl
none_more (x ∷ xs) (suc k) = none_more xs k

past : (xs : List ℕ) (k : ℕ) → length xs ≤ k → get_or xs k 0 ≡ 0
past [] k h = refl
past (x ∷ xs) zero h = absurd (omega (arith, h))
past (x ∷ xs) (suc k) h = past xs k (omega (arith, h))

other : (q k : ℕ) → q < k → ◌≡◌ {A = ℕ} (cond (nat_eq q k) 1 0) 0
other q k h = grind (arith, nat_tests)

nothing_more : (n : ℕ) → n ≡ 0 → 0 ≡ n + 0
nothing_more n h = omega (arith, h)

one_more : (taken : List ℕ) (q k : ℕ) → q < length taken → get_or (add_at taken q 1 ++ 0 ∷ []) k 0 ≡ get_or taken k 0 + cond (nat_eq q k) 1 0
one_more taken q k h =
    none_more (add_at taken q 1) k
    ∙ elim (cases_lt k (length taken)) [
      | inl low ↦ at_place taken k q 1 low
      | inr high ↦
          past (add_at taken q 1) k (subst (λ n. n ≤ k) (sym (length-set taken q (get_or taken q 0 + 1))) high)
          ∙ nothing_more (get_or taken k 0) (past taken k high)
          ∙ ap (λ n. get_or taken k 0 + n) (sym (other q k (omega (arith, h, high))))
    ]

there : (rows : List SerialRow) (q n : ℕ) (b : Behaviour) → option_map behaviour_of (wish_of_row (slice_get rows q) n) ≡ Some b → q < length rows
there [] q n b h = absurd cc
there (r ∷ rows) zero n b h = omega arith
there (r ∷ rows) (suc q) n b h = omega (arith, there rows q n b h)

taken_more : (rows : List SerialRow) (row : SerialRow) (taken : List ℕ) (b : Behaviour) (k : ℕ) → length taken ≡ length rows
    → ((q : ℕ) → slice_index taken q ≡ children_in rows q) → next_behaviour rows row.parent ≡ Some b
    → get_or (add_at taken row.parent 1 ++ 0 ∷ []) k 0 ≡ children_in (rows ++ row ∷ []) k
taken_more [] row [] b k many h next = none_more [] k
taken_more [] row (t ∷ taken) b k many h next = absurd (omega (arith, many))
taken_more (m ∷ others) row taken b k many h next =
    one_more taken row.parent k
    (subst (λ n. row.parent < n) (sym many) (there (m ∷ others) row.parent (children row.parent others) b next))
    ∙ ap (λ n. n + cond (nat_eq row.parent k) 1 0) (h k)
    ∙ sym (sum_by_push (λ (r : SerialRow). cond (nat_eq r.parent k) 1 0) others row)

-- ---- one row more

-- the row of a behaviour that comes next
abbrev pub next_row : Program → List ℤ → ℕ → Behaviour → SerialRow
next_row p values q b = run_at_once p values q (Some b)

many_more : (xs : List ℕ) (rows : List SerialRow) (row : SerialRow) (q : ℕ) → length xs ≡ length rows
    → length (add_at xs q 1 ++ 0 ∷ []) ≡ length (rows ++ row ∷ [])
many_more xs rows row q h =
    omega (arith, h, length-append (add_at xs q 1) (0 ∷ []), length-set xs q (get_or xs q 0 + 1), length-append rows (row ∷ []))

stands_with : (p : Program) (s : Serial) (q : ℕ) (instance : Instance) (before after : List ℤ) (old new : Along)
    → Stands s before old → next_behaviour s.rows q ≡ Some (behaviour_in instance)
    → after ≡ values_after p (behaviour_in instance) s.values
    → HasPut old q instance (map behaviour_of (meaning_of p (behaviour_in instance) s.values).wishes) new
    → Stands (with_row s (next_row p s.values q (behaviour_in instance))) after new
stands_with p s q instance before after old new h next values put =
    let b : Behaviour = behaviour_in instance in
    let row : SerialRow = next_row p s.values q b in
    record {
      values_are = values;
      behaviours = ap (map behaviour_in) put.behaviours ∙ map_push behaviour_in old.behaviours.items instance
          ∙ ap (λ bs. bs ++ b ∷ []) h.behaviours ∙ sym (map_push (λ (r : SerialRow). r.behaviour) s.rows row);
      wished = put.wished_are ∙ ap (λ ws. ws ++ wishes_of_row row ∷ []) h.wished ∙ sym (map_push wishes_of_row s.rows row);
      many = ap (length {A = ℕ}) put.taken ∙ many_more old.taken.items s.rows row q h.many;
      taken = λ k. ap (λ xs. get_or xs k 0) put.taken ∙ taken_more s.rows row old.taken.items b k h.many h.taken next;
    }

stands_on : (p : Program) (s : Serial) (q : ℕ) (instance : Instance) (before after : List ℤ) (old new : Along)
    → Stands s before old → next_behaviour s.rows q ≡ Some (behaviour_in instance)
    → after ≡ values_after p (behaviour_in instance) s.values
    → HasPut old q instance (map behaviour_of (meaning_of p (behaviour_in instance) s.values).wishes) new
    → Stands (after_turn p s q) after new
stands_on p s q instance before after old new h next values put =
    subst (λ o. Stands (with_row s (run_at_once p s.values q o)) after new) (sym next) (stands_with p s q instance before after old new h next values put)

-- the row was taken: its behaviour fits, took these ticks, and wished for these
pub took : (p : Program) (s : Serial) (row : Row) (instance : Instance) (before after : List ℤ) (old new : Along) (ticks : ℕ) (wished : List Behaviour)
    → Stands s before old → next_behaviour s.rows row.parent ≡ Some (behaviour_in instance) → Fits p (behaviour_in instance)
    → ticks ≡ (meaning_of p (behaviour_in instance) before).ticks → ticks ≡ row.ticks
    → wished ≡ map behaviour_of (meaning_of p (behaviour_in instance) before).wishes
    → after ≡ values_after p (behaviour_in instance) before
    → HasPut old row.parent instance wished new
    → Took p s row true after new
took p s row instance before after old new ticks wished h next fits own same wishes values put =
    let b : Behaviour = behaviour_in instance in (
      subst (IsRowOf p s row) (sym next) (fits, ap (λ vs. (meaning_of p b vs).ticks) (sym h.values_are) ∙ sym own ∙ same),
      stands_on p s row.parent instance before after old new h next (values ∙ ap (values_after p b) h.values_are)
          (subst (λ ws. HasPut old row.parent instance ws new) (wishes ∙ ap (λ vs. map behaviour_of (meaning_of p b vs).wishes) h.values_are) put),
    )

-- it was not: no behaviour comes next, or one that doesn't fit, or that takes other ticks
pub not_next : (p : Program) (s : Serial) (row : Row) (values : List ℤ) (along : Along) (ws : List (Vec Instance Global)) (ts : List ℕ)
    → ws ≡ along.wished.items → ts ≡ along.taken.items → None ≡ next_of (map (λ own. map behaviour_in own.items) ws) ts row.parent
    → Stands s values along → IsRowOf p s row (next_behaviour s.rows row.parent) → ⊥
not_next p s row values along ws ts ws_are ts_are none h r =
    subst (IsRowOf p s row)
    (sym (none ∙ ap (λ xs. next_of (map (λ own. map behaviour_in own.items) xs) ts row.parent) ws_are
    ∙ ap (λ xs. next_of (map (λ own. map behaviour_in own.items) along.wished.items) xs row.parent) ts_are ∙ next_is s values along row.parent h)) r

pub comes_next : (s : Serial) (values : List ℤ) (along : Along) (ws : List (Vec Instance Global)) (ts : List ℕ) (q : ℕ) (b : Behaviour)
    → ws ≡ along.wished.items → ts ≡ along.taken.items → Some b ≡ next_of (map (λ own. map behaviour_in own.items) ws) ts q
    → Stands s values along → next_behaviour s.rows q ≡ Some b
comes_next s values along ws ts q b ws_are ts_are some h =
    sym (some ∙ ap (λ xs. next_of (map (λ own. map behaviour_in own.items) xs) ts q) ws_are
    ∙ ap (λ xs. next_of (map (λ own. map behaviour_in own.items) along.wished.items) xs q) ts_are ∙ next_is s values along q h)

pub not_fit : (p : Program) (s : Serial) (row : Row) (b : Behaviour) → next_behaviour s.rows row.parent ≡ Some b → (Fits p b → ⊥)
    → IsRowOf p s row (next_behaviour s.rows row.parent) → ⊥
not_fit p s row b next off r = off (subst (IsRowOf p s row) next r).0

pub not_ticks : (p : Program) (s : Serial) (row : Row) (b : Behaviour) (values : List ℤ) (along : Along) (ticks : ℕ) → Stands s values along
    → next_behaviour s.rows row.parent ≡ Some b → ticks ≡ (meaning_of p b values).ticks → (ticks ≡ row.ticks → ⊥)
    → IsRowOf p s row (next_behaviour s.rows row.parent) → ⊥
not_ticks p s row b values along ticks h next own off r =
    off (own ∙ ap (λ vs. (meaning_of p b vs).ticks) h.values_are ∙ (subst (IsRowOf p s row) next r).1)

-- ---- what is looked up

own_at : (ws : List (Vec Instance Global)) (k : ℕ) (own : Vec Instance Global) → k < length ws → own ≡ get_or ws k own
    → get_or (map (λ (v : Vec Instance Global). map behaviour_in v.items) ws) k [] ≡ map behaviour_in own.items
own_at [] k own h is = absurd (omega (arith, h))
own_at (w ∷ ws) zero own h is = ap (λ (v : Vec Instance Global). map behaviour_in v.items) (sym is)
own_at (w ∷ ws) (suc k) own h is = own_at ws k own (omega (arith, h)) is

next_at : (ws : List (Vec Instance Global)) (ts : List ℕ) (k : ℕ) (own : Vec Instance Global) → k < length ws → own ≡ get_or ws k own
    → next_of (map (λ (v : Vec Instance Global). map behaviour_in v.items) ws) ts k ≡ option_map behaviour_in (slice_get own.items (slice_index ts k))
next_at [] ts k own h is = absurd (omega (arith, h))
next_at (w ∷ ws) ts k own h is =
    ap (λ bs. slice_get bs (slice_index ts k)) (own_at (w ∷ ws) k own h is) ∙ slice_get-map behaviour_in own.items (slice_index ts k)

pub found_there : (ws : List (Vec Instance Global)) (ts : List ℕ) (k place : ℕ) (own : Vec Instance Global) (items : List Instance) (x y : Instance)
    → k < length ws → own ≡ get_or ws k own → items ≡ own.items → place ≡ slice_index ts k → place < length items → x ≡ get_or items place x → y ≡ x
    → Some (behaviour_in y) ≡ next_of (map (λ (v : Vec Instance Global). map behaviour_in v.items) ws) ts k
found_there ws ts k place own items x y h is items_are place_is there x_is y_is =
    ap (λ i. Some (behaviour_in i)) y_is
    ∙ ap (option_map behaviour_in) (sym (slice_get_read items (length items) place x refl there x_is))
    ∙ ap (λ is. option_map behaviour_in (slice_get is place)) items_are
    ∙ ap (λ n. option_map behaviour_in (slice_get own.items n)) place_is
    ∙ sym (next_at ws ts k own h is)

pub none_there : (ws : List (Vec Instance Global)) (ts : List ℕ) (k place : ℕ) (own : Vec Instance Global) (items : List Instance)
    → k < length ws → own ≡ get_or ws k own → items ≡ own.items → place ≡ slice_index ts k → length items ≤ place
    → None ≡ next_of (map (λ (v : Vec Instance Global). map behaviour_in v.items) ws) ts k
none_there ws ts k place own items h is items_are place_is past =
    ap (option_map behaviour_in) (sym (slice_get_past items place past))
    ∙ ap (λ is. option_map behaviour_in (slice_get is place)) items_are
    ∙ ap (λ n. option_map behaviour_in (slice_get own.items n)) place_is
    ∙ sym (next_at ws ts k own h is)

-- ---- the wishes of a body

same_but : (f old new : UnderWay) (m : ℕ) → old ≡ record f { made = m; ended = false } → new ≡ record old { made = m + 1 }
    → new ≡ record f { made = m + 1; ended = false }
same_but f old new m e next = next ∙ ap (λ (u : UnderWay). record u { made = m + 1 }) e

last_is : (ws : List Wish) (m : ℕ) → last_of (m + 1) ws ≡ slice_get ws m
last_is ws m = ap (λ n. last_of n ws) (sym (next_place m))

made_more : (f : UnderWay) (m : ℕ) (new : UnderWay) (x : Instance) (wish : Wish) (xs ys : List Instance)
    → new ≡ record f { made = m + 1; ended = false } → Some wish ≡ last_wish_of new → behaviour_in x ≡ behaviour_of wish → ys ≡ xs ++ x ∷ []
    → map behaviour_in xs ≡ map behaviour_of (take m (wishes_of f))
    → (map behaviour_in ys ≡ map behaviour_of (take (m + 1) (wishes_of f))) × (m + 1 ≤ length (wishes_of f))
made_more f m new x wish xs ys same last x_is ys_are so_far =
    let ws = wishes_of f in
    let at : slice_get ws m ≡ Some wish = sym (last ∙ ap last_wish_of same ∙ last_is ws m) in
    let within : m < length ws = slice_get_within ws m wish at in (
      ap (map behaviour_in) ys_are ∙ map_push behaviour_in xs x ∙ ap (λ b. map behaviour_in xs ++ b ∷ []) (x_is ∙ ap behaviour_of (sym (get_or_from_slice_get ws m wish wish at)))
          ∙ ap (λ bs. bs ++ behaviour_of (get_or ws m wish) ∷ []) so_far
          ∙ sym (map_more behaviour_of ws m wish within),
      omega (arith, within),
    )

pub wish_more : (f old new : UnderWay) (x : Instance) (w wish : Wish) (xs ys : List Instance)
    → old ≡ record f { made = old.made; ended = false } → WishComes w old new → Some wish ≡ last_wish_of new → behaviour_in x ≡ behaviour_of wish
    → ys ≡ xs ++ x ∷ [] → map behaviour_in xs ≡ map behaviour_of (take old.made (wishes_of f))
    → (new ≡ record f { made = new.made; ended = false }) × (map behaviour_in ys ≡ map behaviour_of (take new.made (wishes_of f)))
    × (new.made ≤ length (wishes_of f))
wish_more f old new x w wish xs ys same comes last x_is ys_are so_far =
    let here = same_but f old new old.made same comes.counted in
    let made : old.made + 1 ≡ new.made = sym (ap (λ (u : UnderWay). u.made) comes.counted) in
    let more = made_more f old.made new x wish xs ys here last x_is ys_are so_far in (
      here ∙ ap (λ n. record f { made = n; ended = false }) made,
      more.0 ∙ ap (λ n. map behaviour_of (take n (wishes_of f))) made,
      subst (λ n. n ≤ length (wishes_of f)) made more.1,
    )
