-- A spawn keeps a run beside the serial run.
use Rattle.std.proofs.Common.{◌≡◌, ◌≢◌, ℕ, suc, ◌+◌, ◌<◌, ◌≤◌, ◌⊎◌, inl, inr, List, [], ◌∷◌, ◌++◌, length, refl, sym, ◌∙◌, ap, subst, arith, length-append}
use Rattle.std.specs.Prelude.{slice_get, nat_eq, Option, Some, None, option_map}
use Rattle.std.proofs.lemmas.Bool.{cases_lt}
use Rattle.std.proofs.lemmas.List.Sums.{sum_by-append}
use Rattle.boc_program.specs.declared.program.Program.{Program}
use Rattle.boc_program.specs.Meaning.{Wish, Meaning}
use Rattle.boc_runs.specs.Serial.{Behaviour, behaviour_of, main_behaviour, inputs_of, after_outputs, SerialRow, Serial, meaning_if, wish_of_row, children}
use Rattle.boc_runs.specs.Serial.{next_behaviour, run_at_once, with_row, serial_along}
use Rattle.boc_program.specs.Changed.{changed}
use Rattle.boc_runs.specs.Lives.{Pending, Ended}
use Rattle.boc_runs.specs.Run.{Member, Config, waiting, wish_at}
use Rattle.boc_runs.specs.machine.Queues.{times}
use Rattle.boc_program.proofs.ChangedItems.{place_below, last_item, front_item, length-changed}
use Rattle.boc_runs.proofs.OwnOrders.{along_more, rows_done}
use Rattle.boc_machine_laws.proofs.Lists.{same_or_not, no_less, not_eq, same_numbers}
use Rattle.boc_machine_laws.proofs.Rows.{changed_same, changed_other, with_one_more}
use Rattle.boc_machine_laws.proofs.Core.{one_if}
use Rattle.boc_machine_laws.proofs.Outputs.{outputs_elsewhere, take_more, take_all_of}
use Rattle.boc_machine_laws.proofs.Twins.{before_row, rows_along, later, Twin, EndedBefore, OpenAfter, Follows, read_changed, read_more}

-- what a parent's next wish is in the serial run
pub wish_means : (o : Option Meaning) (k : ℕ) (w : Wish) → wish_at o k ≡ Some w → (means : Meaning) × (o ≡ Some means)
    × (slice_get means.wishes k ≡ Some w)
wish_means None k w e = absurd (let g : None ≡ Some w = e in cc)
wish_means (Some means) k w e = (means, refl, e)

-- the next behaviour is the next wish of a row that is there
pub next_of_row : (rows : List SerialRow) (parent : ℕ) (row : SerialRow) (w : Wish) → slice_get rows parent ≡ Some row
    → slice_get row.means.wishes (children parent (later rows)) ≡ Some w
    → next_behaviour rows parent ≡ Some (behaviour_of w)
next_of_row [] parent row w e f = absurd (let g : None ≡ Some row = e in cc)
next_of_row (main ∷ others) parent row w e f =
    ap (λ o. option_map behaviour_of (wish_of_row o (children parent others))) e ∙ ap (option_map behaviour_of) f

pub next_of_none : (rows : List SerialRow) (parent : ℕ) → length rows ≡ 0
    → next_behaviour rows parent ≡ Some main_behaviour
next_of_none [] parent h = refl
next_of_none (main ∷ others) parent h = absurd (omega (arith, h))

-- who has children among the rows, with one row more
children_more : (rows : List SerialRow) (row : SerialRow) (r : ℕ) → 0 < length rows
    → children r (later (rows ++ (row ∷ []))) ≡ children r (later rows) + one_if (nat_eq row.parent r)
children_more [] row r h = absurd (omega arith)
children_more (main ∷ others) row r h = omega (arith, sum_by-append (λ x. one_if (nat_eq x.parent r)) others (row ∷ []))

children_one : (rows : List SerialRow) (row : SerialRow) (r : ℕ) → length rows ≡ 0
    → children r (later (rows ++ (row ∷ []))) ≡ 0
children_one [] row r h = refl
children_one (main ∷ others) row r h = absurd (omega (arith, h))

-- a behaviour that is spawned comes next in the serial run too
module _ (p : Program) (c : Config) (ps : List ℕ) (f : Follows p c ps) (parent : ℕ) (b : Behaviour)
    (next : next_behaviour (rows_along p ps) parent ≡ Some b) (there : (0 < length ps) → parent < length ps) where
  abbrev ms : List Member
  ms = c.members

  abbrev front : List Member
  front = changed ms parent with_one_more (slice_get ms parent)

  abbrev new : List Member
  new = front ++ (waiting b ∷ [])

  abbrev n : ℕ
  n = length ps

  abbrev ps' : List ℕ
  ps' = ps ++ (parent ∷ [])

  abbrev before : Serial
  before = serial_along p ps

  abbrev row : SerialRow
  row = run_at_once p before.values parent (Some b)

  rows_now : rows_along p ps' ≡ rows_along p ps ++ (row ∷ [])
  rows_now = ap (λ (s : Serial). s.rows) (along_more p (serial_along p []) ps parent)
      ∙ ap (λ o. (with_row before (run_at_once p before.values parent o)).rows) next

  values_now : (serial_along p ps').values ≡ after_outputs before.values b.cowns row.means.outputs
  values_now = ap (λ (s : Serial). s.values) (along_more p (serial_along p []) ps parent)
      ∙ ap (λ o. (with_row before (run_at_once p before.values parent o)).values) next

  values_stay : (k : ℕ) → k ≤ n → before_row p ps' k ≡ before_row p ps k
  values_stay k h = ap (λ qs. (serial_along p qs).values) (take_more k ps parent h)

  values_at_end : (k : ℕ) → n ≤ k → before_row p ps k ≡ before.values
  values_at_end k h = ap (λ qs. (serial_along p qs).values) (take_all_of k ps h)

  long : length ps' ≡ n + 1
  long = length-append ps (parent ∷ [])

  values_after : (k : ℕ) → n < k → before_row p ps' k ≡ after_outputs before.values b.cowns row.means.outputs
  values_after k h = ap (λ qs. (serial_along p qs).values) (take_all_of k ps' (omega (arith, h, long))) ∙ values_now

  same_front : length front ≡ n
  same_front = length-changed ms parent with_one_more (slice_get ms parent) ∙ sym f.same

  -- how many children each row has now
  none_more : (r : ℕ) → length ps' ≤ r → children r (later (rows_along p ps')) ≡ 0
  none_more r h =
      ap (λ rows. children r (later rows)) rows_now ∙ elim (same_or_not n 0) [
        | inl none ↦ children_one (rows_along p ps) row r (rows_done p ps ∙ none)
        | inr some ↦
            let apart : parent ≢ r = λ e. omega (arith, e, h, long, there (omega (arith, some))) in
            children_more (rows_along p ps) row r (omega (arith, some, rows_done p ps))
            ∙ omega (arith, f.childless r (omega (arith, h, long)), ap one_if (not_eq parent r apart))
      ]

  more_of : (r : ℕ) → r < n → children r (later (rows_along p ps'))
      ≡ children r (later (rows_along p ps)) + one_if (nat_eq parent r)
  more_of r h = ap (λ rows. children r (later rows)) rows_now
      ∙ children_more (rows_along p ps) row r (omega (arith, h, rows_done p ps))

  none_of_new : children n (later (rows_along p ps')) ≡ 0
  none_of_new =
      ap (λ rows. children n (later rows)) rows_now ∙ elim (same_or_not n 0) [
        | inl none ↦ children_one (rows_along p ps) row n (rows_done p ps ∙ none)
        | inr some ↦
            let apart : parent ≢ n = λ e. omega (arith, e, there (omega (arith, some))) in
            children_more (rows_along p ps) row n (omega (arith, some, rows_done p ps))
            ∙ omega (arith, f.childless n (omega arith), ap one_if (not_eq parent n apart))
      ]

  -- a row that was there
  old_twin : (k : ℕ) (m m' : Member) → slice_get ms k ≡ Some m → m'.behaviour ≡ m.behaviour → m'.inputs ≡ m.inputs
      → m'.life ≡ m.life → m'.spawned ≡ m.spawned + one_if (nat_eq parent k) → Twin p ps' k m'
  old_twin k m m' e same inputs life more =
      let t = f.twins k m e in
      let low : k < n = omega (arith, place_below ms k m e, f.same) in
      record {
        row = t.row;
        is = ap (λ rows. slice_get rows k) rows_now
            ∙ front_item (rows_along p ps) row k (omega (arith, low, rows_done p ps)) ∙ t.is;
        behaviour_is = t.behaviour_is ∙ sym same;
        inputs_are = t.inputs_are ∙ ap (λ vs. inputs_of m.behaviour.cowns vs)
            (sym (values_stay k (omega (arith, low))))
            ∙ ap (λ (z : Behaviour). inputs_of z.cowns (before_row p ps' k)) (sym same);
        means_are = t.means_are ∙ ap (λ (z : Behaviour). meaning_if (slice_get p.bodies z.kind) z.args t.row.inputs)
            (sym same);
        writes = values_stay (suc k) (omega (arith, low)) ∙ t.writes
            ∙ ap (λ vs. after_outputs vs m.behaviour.cowns t.row.means.outputs)
            (sym (values_stay k (omega (arith, low))))
            ∙ ap (λ (z : Behaviour). after_outputs (before_row p ps' k) z.cowns t.row.means.outputs) (sym same);
        begun = λ h. inputs ∙ t.begun (λ q. h (life ∙ q));
        spawned_is = more ∙ ap (λ z. z + one_if (nat_eq parent k)) t.spawned_is ∙ sym (more_of k low);
      }

  new_twin : Twin p ps' n (waiting b)
  new_twin = record {
    row = row;
    is = ap (λ rows. slice_get rows n) rows_now
        ∙ ap (slice_get (rows_along p ps ++ (row ∷ []))) (sym (rows_done p ps)) ∙ last_item (rows_along p ps) row;
    behaviour_is = refl;
    inputs_are = ap (inputs_of b.cowns) (sym (values_stay n (omega arith) ∙ values_at_end n (omega arith)));
    means_are = refl;
    writes = values_after (suc n) (omega arith)
        ∙ ap (λ vs. after_outputs vs b.cowns row.means.outputs)
        (sym (values_stay n (omega arith) ∙ values_at_end n (omega arith)));
    begun = λ h. absurd (h refl);
    spawned_is = sym none_of_new;
  }

  -- a behaviour of the rows now is the new one, or one that was there
  one_of : (k : ℕ) (m' : Member) → slice_get new k ≡ Some m'
      → ((k ≡ n) × (waiting b ≡ m')) ⊎ ((m : Member) × (slice_get ms k ≡ Some m) × (m'.behaviour ≡ m.behaviour)
      × (m'.inputs ≡ m.inputs) × (m'.life ≡ m.life) × (m'.spawned ≡ m.spawned + one_if (nat_eq parent k)))
  one_of k m' e =
      elim (read_more front (waiting b) k m' e) [
        | inr q ↦ inl (q.0 ∙ same_front, q.1)
        | inl q ↦ elim (read_changed ms parent with_one_more k m' q.1) [
          | inl w ↦ inr (
            w.1.0,
            ap (slice_get ms) w.0 ∙ w.1.1,
            ap (λ (z : Member). z.behaviour) (sym w.1.2),
            ap (λ (z : Member). z.inputs) (sym w.1.2),
            ap (λ (z : Member). z.life) (sym w.1.2),
            ap (λ (z : Member). z.spawned) (sym w.1.2) ∙ omega (arith, ap one_if (same_numbers parent k (sym w.0))),
          )
          | inr w ↦ inr (m', w.1, refl, refl, refl, omega (arith, ap one_if (not_eq parent k (λ z. w.0 (sym z)))))
        ]
      ]

  -- and each that was there is one of them
  stays : (k : ℕ) (m : Member) → slice_get ms k ≡ Some m → (m' : Member) × (slice_get new k ≡ Some m')
      × (m'.behaviour ≡ m.behaviour) × (m'.life ≡ m.life)
  stays k m e =
      let low : k < length front = omega (arith, place_below ms k m e, same_front, f.same) in
      elim (same_or_not k parent) [
        | inl q ↦ (
          with_one_more m,
          front_item front (waiting b) k low ∙ ap (slice_get front) q
              ∙ changed_same ms parent with_one_more
              ∙ ap (option_map with_one_more) (ap (slice_get ms) (sym q) ∙ e),
          refl,
          refl,
        )
        | inr ne ↦ (
          m,
          front_item front (waiting b) k low
              ∙ changed_other ms parent k with_one_more (slice_get ms parent) ne ∙ e,
          refl,
          refl,
        )
      ]

  spawn_values : (d k : ℕ) → EndedBefore new d k → OpenAfter new d k
      → slice_get c.values d ≡ slice_get (before_row p ps' k) d
  spawn_values d k over not_over =
      let was : (j : ℕ) → j ≤ k → ((r : ℕ) (m : Member) → slice_get ms r ≡ Some m → j ≤ r → k ≤ r)
      → slice_get c.values d ≡ slice_get (before_row p ps j) d =
      λ j le all. f.values_are d j
      (λ r m e h lt. let x = stays r m e in sym x.3
      ∙ over r x.0 x.1 (subst (λ (z : Behaviour). 0 < times d z.cowns) (sym x.2) h) (omega (arith, lt, le)))
      (λ r m e h l z. let x = stays r m e in
      not_over r x.0 x.1 (subst (λ (z : Behaviour). 0 < times d z.cowns) (sym x.2) h) (all r m e l) (x.3 ∙ z)) in
      elim (cases_lt n k) [
        | inr low ↦ was k (omega arith) (λ r m e l. l) ∙ ap (λ vs. slice_get vs d) (sym (values_stay k low))
        | inl high ↦
            let here : slice_get new n ≡ Some (waiting b) = ap (slice_get new) (sym same_front)
            ∙ last_item front (waiting b) in
            let none : times d b.cowns ≡ 0 =
            no_less (times d b.cowns) (λ h. let z : Pending ≡ Ended = over n (waiting b) here h high in cc) in
            was n (omega (arith, high)) (λ r m e l. absurd (omega (arith, l, place_below ms r m e, f.same)))
            ∙ ap (λ vs. slice_get vs d) (values_at_end n (omega arith))
            ∙ sym (ap (λ vs. slice_get vs d) (values_after k high)
            ∙ outputs_elsewhere before.values b.cowns row.means.outputs d none)
      ]

  pub follows_spawn : Follows p (record c { members = new }) ps'
  follows_spawn = record {
    same = omega (arith, long, same_front, length-append front (waiting b ∷ []));
    twins = λ k m' e. elim (one_of k m' e) [
      | inl q ↦ subst (λ (z : Member). Twin p ps' k z) q.1
          (subst (λ (z : ℕ). Twin p ps' z (waiting b)) (sym q.0) new_twin)
      | inr q ↦ old_twin k q.0 m' q.1 q.2 q.3 q.4 q.5
    ];
    childless = none_more;
    ordered = λ a b0 m m1 at_a at_b lt d ha hb np. elim (one_of b0 m1 at_b) [
      | inl q ↦ absurd (np (ap (λ (z : Member). z.life) (sym q.1)))
      | inr q ↦ elim (one_of a m at_a) [
        | inl w ↦ absurd (omega (arith, lt, w.0, place_below ms b0 q.0 q.1, f.same))
        | inr w ↦ w.4 ∙ f.ordered a b0 w.0 q.0 w.1 q.1 lt d (subst (λ (z : Behaviour). 0 < times d z.cowns) w.2 ha)
            (subst (λ (z : Behaviour). 0 < times d z.cowns) q.2 hb) (λ z. np (q.4 ∙ z))
      ]
    ];
    values_are = spawn_values;
    many = f.many;
  }
