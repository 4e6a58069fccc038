-- Layers of fronts: which orders they stand for, and which ends they have.
use Rattle.std.proofs.Common.{◌≡◌, ◌≢◌, ℕ, zero, suc, ◌+◌, ◌<◌, ◌≤◌, inl, inr, List, [], ◌∷◌, ◌++◌, length, map, refl, sym, ◌∙◌, ap, subst, arith, ℤ, length-append}
use Rattle.std.specs.Prelude.{slice_get, drop, Option, Some, None}
use Rattle.std.specs.Option.{option_map_or}
use Rattle.std.specs.List.{Contains}
use Rattle.boc_program.specs.declared.limits.TheConstants.{MOST_ROWS}
use Rattle.boc_program.specs.declared.program.Program.{Program}
use Rattle.boc_program.specs.Meaning.{Wish}
use Rattle.boc_program.proofs.ChangedItems.{place_below, item_at}
use Rattle.boc_runs.specs.declared.event.Event.{Event}
use Rattle.boc_runs.specs.Serial.{behaviour_of, SerialRow, Serial, wish_of_row, children, after_turn, after_turns, serial_along}
use Rattle.boc_runs.specs.Run.{config_of, IsWholeRun}
use Rattle.boc_runs.specs.machine.AlongRows.{parents_of_rows}
use Rattle.boc_runs.proofs.OwnOrders.{rows_done}
use Rattle.boc_machine_laws.proofs.Lists.{last_of}
use Rattle.boc_machine_laws.proofs.Serially.{values_at_end}
use Rattle.boc_fronts.specs.Orders.{others_of, HasWish, CanSpawn, IsNextParent, IsOrderFrom, IsOrder, IsWholeOrder}
use Rattle.boc_fronts.specs.Fronts.{LiveRow, Front, wishes_left, Stands, IsFree, IsLayer, AreNext, HasEnd}
use Rattle.boc_fronts.proofs.Orderly.{order_more, next_later, whole_runs_make_orders}

-- ---- a row that has wishes left has a wish

first_left : (k : ℕ) (ws : List Wish) → map behaviour_of (drop k ws) ≢ [] → (w : Wish) × (slice_get ws k ≡ Some w)
first_left zero [] h = absurd (h refl)
first_left zero (w ∷ ws) h = (w, refl)
first_left (suc k) [] h = absurd (h refl)
first_left (suc k) (w ∷ ws) h = first_left k ws h

left_there : (o : Option SerialRow) (k : ℕ) → map behaviour_of (drop k (option_map_or (λ (x : SerialRow). x.means.wishes) o [])) ≢ []
    → (w : Wish) × (wish_of_row o k ≡ Some w)
left_there None zero h = absurd (h refl)
left_there None (suc k) h = absurd (h refl)
left_there (Some row) k h = first_left k row.means.wishes h

pub has_wish : (rows : List SerialRow) (r : ℕ) → wishes_left rows r ≢ [] → HasWish rows r
has_wish rows r h =
    let w = left_there (slice_get rows r) (children r (others_of rows)) h in
    record { wish = w.0; next = w.1 }

-- ---- who may come next

module _ (p : Program) (ps names : List ℕ) (f : Front) (s : Stands p ps names f) where
  abbrev rows : List SerialRow
  rows = (serial_along p ps).rows

  -- the live row at the place of a name
  live_at : (i r : ℕ) → slice_get names i ≡ Some r → (l : LiveRow) × (slice_get f.live i ≡ Some l)
  live_at i r e = item_at f.live i (omega (arith, s.loosely.many, place_below names i r e))

  -- the name of a live row
  name_at : (i : ℕ) (l : LiveRow) → slice_get f.live i ≡ Some l → (r : ℕ) × (slice_get names i ≡ Some r)
  name_at i l e = item_at names i (omega (arith, s.loosely.many, place_below f.live i l e))

  pub named_has_wish : (i r : ℕ) → slice_get names i ≡ Some r → HasWish rows r
  named_has_wish i r e =
      let l = live_at i r e in
      has_wish rows r (λ n. s.some i l.0 l.1 (sym (s.loosely.wishes i r l.0 e l.1) ∙ n))

  pub free_can : (i : ℕ) → IsFree f i → (r : ℕ) × (slice_get names i ≡ Some r) × CanSpawn rows r
  free_can i h =
      let n = name_at i h.row h.is in (
        n.0,
        n.1,
        record {
          wishes = named_has_wish i n.0 n.1;
          free = λ a b w.
              let j = s.loosely.all a w in
              h.none j.0 (omega (arith, s.loosely.many, place_below names j.0 a j.1))
              ((s.loosely.before i j.0 n.0 a h.row n.1 h.is j.1).1 b);
        },
      )

  pub can_free : (r : ℕ) → CanSpawn rows r → (i : ℕ) × (slice_get names i ≡ Some r) × IsFree f i
  can_free r can =
      let i = s.loosely.all r can.wishes in
      let l = live_at i.0 r i.1 in (
        i.0,
        i.1,
        record {
          row = l.0;
          is = l.1;
          none = λ j low among.
              let q = item_at names j (omega (arith, s.loosely.many, low)) in
              can.free q.0 ((s.loosely.before i.0 j r q.0 l.0 i.1 l.1 q.1).0 among) (named_has_wish j q.0 q.1);
        },
      )

-- ---- orders with one more

order_parts : (p : Program) (s : Serial) (ps : List ℕ) (r : ℕ) → IsOrderFrom p s (ps ++ (r ∷ []))
    → IsOrderFrom p s ps × IsNextParent (after_turns p s ps).rows r
order_parts p s [] r o = (tt, o.0)
order_parts p s (q ∷ ps) r o =
    let rest = order_parts p (after_turn p s q) ps r o.1 in
    ((o.0, rest.0), rest.1)

pub next_can : (rows : List SerialRow) (r : ℕ) → 0 < length rows → IsNextParent rows r → CanSpawn rows r
next_can [] r some n = absurd (omega (arith, some))
next_can (main ∷ others) r some n = n

-- ---- layers

next_each : (p : Program) (k : ℕ) (fs gs : List Front) → 0 < k → IsLayer p k fs → AreNext p fs gs → (g : Front) → Contains gs g
    → (ps : List ℕ) × (names : List ℕ) × IsOrder p ps × (length ps ≡ k + 1) × Stands p ps names g
next_each p k fs gs some layer next g among =
    let x = next.each g among in
    let y = layer.each x.0 x.2 in
    let c = free_can p y.0 y.1 x.0 y.4 x.1 x.3 in
    let z = x.4 y.0 y.1 c.0 y.4 c.1 in (
      y.0 ++ (c.0 ∷ []),
      z.0,
      order_more p (serial_along p []) y.0 c.0 y.2
          (next_later (serial_along p y.0).rows c.0 (omega (arith, some, y.3, rows_done p y.0)) c.2),
      length-append y.0 (c.0 ∷ []) ∙ omega (arith, y.3),
      z.1,
    )

next_all : (p : Program) (k : ℕ) (fs gs : List Front) → 0 < k → IsLayer p k fs → AreNext p fs gs → (qs : List ℕ) → IsOrder p qs
    → length qs ≡ k + 1 → (g : Front) × (names : List ℕ) × Contains gs g × Stands p qs names g
next_all p k fs gs some layer next qs order many =
    elim (last_of qs) [
      | inl e ↦ absurd (omega (arith, many, ap (length {A = ℕ}) e))
      | inr h ↦
          let ps = h.0 in
          let r = h.1 in
          let o = order_parts p (serial_along p []) ps r (subst (IsOrder p) h.2 order) in
          let m : length ps ≡ k = omega (arith, many, ap (length {A = ℕ}) h.2, length-append ps (r ∷ [])) in
          let f = layer.all ps o.0 m in
          let can = next_can (serial_along p ps).rows r (omega (arith, some, m, rows_done p ps)) o.1 in
          let i = can_free p ps f.1 f.0 f.3 r can in
          let g = next.all f.0 i.0 f.2 i.2 in
          let z = g.2 ps f.1 r f.3 i.1 in
          (g.0, z.0, g.1, subst (λ xs. Stands p xs z.0 g.0) (sym h.2) z.1)
    ]

pub next_layer : (p : Program) (k : ℕ) (fs gs : List Front) → 0 < k → IsLayer p k fs → AreNext p fs gs → IsLayer p (k + 1) gs
next_layer p k fs gs some layer next = record {
  each = next_each p k fs gs some layer next;
  all = next_all p k fs gs some layer next;
}

-- ---- ends

none_live : (ls : List LiveRow) → length ls ≡ 0 → ls ≡ []
none_live [] h = refl
none_live (l ∷ ls) h = absurd (omega (arith, h))

-- a whole run of so many rows ends as a front of the layer has it
pub ends_are_there : (p : Program) (k : ℕ) (fs : List Front) → IsLayer p k fs → (log : List Event) → IsWholeRun p log
    → length (parents_of_rows log) ≡ k → HasEnd fs (config_of p log).values
ends_are_there p k fs layer log whole many =
    let ps = parents_of_rows log in
    let w = whole_runs_make_orders p log whole in
    let f = layer.all ps w.order many in
    let none : (n : ℕ) → length f.0.live ≡ n → length f.0.live ≡ 0 = λ n e.
    elim n as (λ n. length f.0.live ≡ n → length f.0.live ≡ 0) [
      | zero ↦ λ e. e
      | suc n ↦ λ e.
          let q = item_at f.1 0 (omega (arith, e, f.3.loosely.many)) in
          absurd (w.none_left q.0 (named_has_wish p ps f.1 f.0 f.3 0 q.0 q.1))
    ] e in
    record {
      front = f.0;
      among = f.2;
      over = none_live f.0.live (none (length f.0.live) refl);
      values_are = sym f.3.loosely.values_are ∙ sym (values_at_end p log whole);
    }

-- an end of a layer is that of a whole order
pub ends_are_whole : (p : Program) (k : ℕ) (fs : List Front) → 0 < k → k ≤ MOST_ROWS → IsLayer p k fs → (values : List ℤ) → HasEnd fs values
    → (ps : List ℕ) × IsWholeOrder p ps × (length ps ≡ k) × ((serial_along p ps).values ≡ values)
ends_are_whole p k fs some few layer values h =
    let x = layer.each h.front h.among in (
      x.0,
      record {
        order = x.2;
        some = omega (arith, some, x.3);
        few = omega (arith, few, x.3);
        none_left = λ r w.
            let i = x.4.loosely.all r w in
            omega (arith, place_below x.1 i.0 r i.1, x.4.loosely.many, ap (length {A = LiveRow}) h.over);
      },
      x.3,
      x.4.loosely.values_are ∙ h.values_are,
    )
