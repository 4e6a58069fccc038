-- A step of fronts in which rows without wishes stay.
use Rattle.std.proofs.Common.{◌≡◌, ◌≢◌, ◌⊎◌, ◌↔◌, ℕ, zero, suc, ◌+◌, ◌<◌, ◌≤◌, inl, inr, List, [], ◌∷◌, ◌++◌, length, map, refl, sym, ◌∙◌, ap, subst, arith, length-append}
use Rattle.std.specs.Prelude.{slice_get, nat_eq, drop, Option, Some, None, option_map}
use Rattle.std.specs.Option.{option_map_or}
use Rattle.std.specs.List.{Contains}
use Rattle.std.proofs.lemmas.Bool.{cases_lt}
use Rattle.boc_program.specs.declared.program.Program.{Program}
use Rattle.boc_program.specs.Meaning.{Wish, Meaning}
use Rattle.boc_program.proofs.ChangedItems.{place_below, item_at, front_item, last_item}
use Rattle.boc_runs.specs.Serial.{Behaviour, behaviour_of, SerialRow, Serial, inputs_of, after_outputs, meaning_if, wish_of_row, children, next_behaviour, run_at_once, with_row, after_turn}
use Rattle.boc_runs.specs.machine.Queues.{times}
use Rattle.boc_machine_laws.proofs.Lists.{same_or_not, not_eq}
use Rattle.boc_machine_laws.proofs.Core.{one_if}
use Rattle.boc_machine_laws.proofs.Twins.{read_more}
use Rattle.boc_fronts.specs.Orders.{others_of, HasWish, IsBefore, Next, Farther}
use Rattle.boc_fronts.specs.Claims.{Claims, ClaimsOne}
use Rattle.boc_fronts.specs.Fronts.{LiveRow, Front, wishes_left, StandsLoosely}
use Rattle.boc_fronts.specs.Steps.{ClaimsHere, IsStep}
use Rattle.boc_fronts.proofs.Orderly.{wish_below as wish_low}
use Rattle.boc_fronts.proofs.Claiming.{has_low, before_on, before_back, before_new, new_before, claims_new, claims_on, claims_back}
use Rattle.boc_fronts.proofs.WishesLeft.{left_other, left_parent, left_new, children_now}

-- ---- the next behaviour

-- a row that has a wish left of this behaviour has such a wish
record FirstWish (rows : List SerialRow) (r : ℕ) (b : Behaviour) : Type 0 where
  has : HasWish rows r
  behaves : behaviour_of has.wish ≡ b

drop_has : (ws : List Wish) (k : ℕ) (b : Behaviour) (rest : List Behaviour) → map behaviour_of (drop k ws) ≡ b ∷ rest
    → (w : Wish) × (slice_get ws k ≡ Some w) × (behaviour_of w ≡ b)
drop_has [] zero b rest e = absurd (let f : [] ≡ b ∷ rest = e in cc)
drop_has [] (suc k) b rest e = absurd (let f : [] ≡ b ∷ rest = e in cc)
drop_has (v ∷ ws) zero b rest e =
    (v, refl, let f : behaviour_of v ∷ map behaviour_of ws ≡ b ∷ rest = e in cc)
drop_has (v ∷ ws) (suc k) b rest e = drop_has ws k b rest e

wish_has : (o : Option SerialRow) (k : ℕ) (b : Behaviour) (rest : List Behaviour)
    → map behaviour_of (drop k (option_map_or (λ (x : SerialRow). x.means.wishes) o [])) ≡ b ∷ rest
    → (w : Wish) × (wish_of_row o k ≡ Some w) × (behaviour_of w ≡ b)
wish_has None zero b rest e = absurd (let f : [] ≡ b ∷ rest = e in cc)
wish_has None (suc k) b rest e = absurd (let f : [] ≡ b ∷ rest = e in cc)
wish_has (Some row) k b rest e = drop_has row.means.wishes k b rest e

first_wish : (rows : List SerialRow) (r : ℕ) (b : Behaviour) (rest : List Behaviour) → wishes_left rows r ≡ b ∷ rest
    → FirstWish rows r b
first_wish rows r b rest e =
    let w = wish_has (slice_get rows r) (children r (others_of rows)) b rest e in
    record { has = record { wish = w.0; next = w.1 }; behaves = w.2 }

next_there : (rows : List SerialRow) (r : ℕ) (w : Wish) → 0 < length rows
    → wish_of_row (slice_get rows r) (children r (others_of rows)) ≡ Some w → next_behaviour rows r ≡ Some (behaviour_of w)
next_there [] r w some e = absurd (omega (arith, some))
next_there (main ∷ others) r w some e = ap (option_map behaviour_of) e

-- who is before a row has a smaller number
pub before_less : (rows : List SerialRow) (a b : ℕ) → IsBefore rows a b → a < b
before_less rows a b (Next v w o) = o.earlier
before_less rows a b (Farther u v w h o) = omega (arith, before_less rows u v h, o.earlier)

-- who claims a cown is there
claims_there : (rows : List SerialRow) (x : SerialRow) (c a : ℕ) → Claims rows c a → a < length rows
claims_there rows x c a k =
    let low = has_low rows x c k.row k.has in
    elim k.is [
      | inl e ↦ omega (arith, e, low)
      | inr h ↦ omega (arith, before_less rows a k.row h, low)
    ]

module _ (p : Program) (s : Serial) (names : List ℕ) (f g : Front) (st : StandsLoosely s names f) (i r : ℕ)
    (named : slice_get names i ≡ Some r) (step : IsStep p f i g) where
  abbrev rows : List SerialRow
  rows = s.rows

  abbrev n : ℕ
  n = length rows

  abbrev b : Behaviour
  b = step.wish

  abbrev x : SerialRow
  x = run_at_once p s.values r (Some b)

  abbrev t : Serial
  t = with_row s x

  low : r < n
  low = st.there i r named

  left : wishes_left rows r ≡ b ∷ step.rest
  left = st.wishes i r step.row named step.is ∙ step.wishes_are

  first : FirstWish rows r b
  first = first_wish rows r b step.rest left

  pub turn_is : after_turn p s r ≡ t
  turn_is =
      let f = first in
      ap (λ o. with_row s (run_at_once p s.values r o)) (next_there rows r f.has.wish (omega (arith, low)) f.has.next)
      ∙ ap (λ z. with_row s (run_at_once p s.values r (Some z))) f.behaves

  means_are : x.means ≡ step.means
  means_are = ap (λ vs. meaning_if (slice_get p.bodies b.kind) b.args (inputs_of b.cowns vs)) st.values_are ∙ step.meant

  values_now : t.values ≡ g.values
  values_now = ap (λ (m : Meaning). after_outputs s.values b.cowns m.outputs) means_are
      ∙ ap (λ vs. after_outputs vs b.cowns step.means.outputs) st.values_are ∙ sym step.values_are

  abbrev names' : List ℕ
  names' = names ++ (n ∷ [])

  -- a name is old or the new row's
  name_of : (k q : ℕ) → slice_get names' k ≡ Some q
      → ((k < length f.live) × (slice_get names k ≡ Some q)) ⊎ ((k ≡ length f.live) × (n ≡ q))
  name_of k q e =
      elim (read_more names n k q e) [
        | inl h ↦ inl (omega (arith, h.0, st.many), h.1)
        | inr h ↦ inr (omega (arith, h.0, st.many), h.1)
      ]

  -- the live row at the place of the new one
  new_at : (k : ℕ) (l : LiveRow) → k ≡ length f.live → slice_get g.live k ≡ Some l → step.new ≡ l
  new_at k l e there = (let z : Some step.new ≡ Some l = sym step.new_is ∙ sym (ap (slice_get g.live) e) ∙ there in cc)

  -- places that claim one of the new row's cowns are those of rows that do
  here_rows : (j q : ℕ) → slice_get names j ≡ Some q → ClaimsHere f b.cowns j → ClaimsOne rows b.cowns q
  here_rows j q e k = record {
    cown = k.cown;
    among = k.among;
    claims = (st.claims j q k.cown k.row e k.is).0 k.claims;
  }

  rows_here : (j q : ℕ) → slice_get names j ≡ Some q → ClaimsOne rows b.cowns q → ClaimsHere f b.cowns j
  rows_here j q e k =
      let z = item_at f.live j (omega (arith, st.many, place_below names j q e)) in
      record {
        row = z.0;
        is = z.1;
        cown = k.cown;
        among = k.among;
        claims = (st.claims j q k.cown z.0 e z.1).1 k.claims;
      }

  here_low : (j : ℕ) → ClaimsHere f b.cowns j → j < length f.live
  here_low j k = place_below f.live j k.row k.is

  childless_now : (q : ℕ) → length t.rows ≤ q → children q (others_of t.rows) ≡ 0
  childless_now q h =
      let past : n ≤ q = omega (arith, h, length-append rows (x ∷ [])) in
      let none : one_if (nat_eq r q) ≡ 0 = ap one_if (not_eq r q (λ e. omega (arith, e, low, past))) in
      omega (arith, children_now rows x q (omega (arith, low)), none, st.childless q past)

  none_yet : children n (others_of t.rows) ≡ 0
  none_yet =
      let none : one_if (nat_eq r n) ≡ 0 = ap one_if (not_eq r n (λ e. omega (arith, e, low))) in
      omega (arith, children_now rows x n (omega (arith, low)), none, st.childless n (omega arith))

  wishes_now : (k q : ℕ) (l : LiveRow) → slice_get names' k ≡ Some q → slice_get g.live k ≡ Some l → wishes_left t.rows q ≡ l.wishes
  wishes_now k q l e there =
      elim (name_of k q e) [
        | inl a ↦
            let m = item_at f.live k a.0 in
            let after = step.wishes k m.0 l m.1 there in
            elim (same_or_not k i) [
              | inl c ↦
                  let same : r ≡ q = (let z : Some r ≡ Some q = sym named ∙ sym (ap (slice_get names) c) ∙ a.1 in cc) in
                  let f = first in
                  let two : b ∷ step.rest ≡ behaviour_of f.has.wish ∷ wishes_left t.rows r =
                  sym left ∙ left_parent rows x r low refl f.has in
                  let one : step.rest ≡ wishes_left t.rows r = cc in
                  ap (wishes_left t.rows) (sym same) ∙ sym one ∙ sym (after.parent c)
              | inr c ↦
                  let apart : r ≢ q = λ h. c (st.once k i r (a.1 ∙ ap (λ z. Some z) (sym h)) named) in
                  left_other rows x q (st.there k q a.1) apart ∙ st.wishes k q m.0 a.1 m.1 ∙ sym (after.other c)
            ]
        | inr a ↦ ap (wishes_left t.rows) (sym a.1) ∙ left_new rows x none_yet ∙ ap (λ (m : Meaning). map behaviour_of m.wishes) means_are
            ∙ sym step.new_wishes ∙ ap (λ (z : LiveRow). z.wishes) (new_at k l a.0 there)
      ]

  before_old : (k j v q : ℕ) (m l : LiveRow) → slice_get names k ≡ Some v → slice_get f.live k ≡ Some m → slice_get g.live k ≡ Some l
      → slice_get names' j ≡ Some q → (Contains l.before j ↔ IsBefore t.rows q v)
  before_old k j v q m l kv old there jq =
      let same = step.before k m l old there in
      elim (name_of j q jq) [
        | inl c ↦
            let h = st.before k j v q m kv old c.1 in (
              λ z. before_on rows x q v (h.0 (subst (λ bs. Contains bs j) same z)),
              λ z. subst (λ bs. Contains bs j) (sym same) (h.1 (before_back rows x q v (st.there k v kv) z)),
            )
        | inr c ↦ (
          λ z. absurd (omega (arith, c.0, st.before_low k j m old (subst (λ bs. Contains bs j) same z))),
          λ z. absurd (omega (arith, before_less t.rows q v z, c.1, st.there k v kv)),
        )
      ]

  before_of_new : (k j v q : ℕ) (l : LiveRow) → k ≡ length f.live → n ≡ v → slice_get g.live k ≡ Some l → slice_get names' j ≡ Some q
      → (Contains l.before j ↔ IsBefore t.rows q v)
  before_of_new k j v q l last is there jq =
      let same : step.new.before ≡ l.before = ap (λ (z : LiveRow). z.before) (new_at k l last there) in
      elim (name_of j q jq) [
        | inl c ↦ (
          λ z. subst (λ m. IsBefore t.rows q m) is (new_before rows x q (here_rows j q c.1
              ((step.new_before j).0 (subst (λ bs. Contains bs j) (sym same) z)))),
          λ z. subst (λ bs. Contains bs j) same ((step.new_before j).1 (rows_here j q c.1
              (before_new rows x q v (sym is) z))),
        )
        | inr c ↦ (
          λ z. absurd (omega (arith, c.0, here_low j ((step.new_before j).0 (subst (λ bs. Contains bs j) (sym same) z)))),
          λ z. absurd (omega (arith, before_less t.rows q v z, c.1, is)),
        )
      ]

  before_now : (k j v q : ℕ) (l : LiveRow) → slice_get names' k ≡ Some v → slice_get g.live k ≡ Some l → slice_get names' j ≡ Some q
      → (Contains l.before j ↔ IsBefore t.rows q v)
  before_now k j v q l kv there jq =
      elim (name_of k v kv) [
        | inl a ↦ let m = item_at f.live k a.0 in before_old k j v q m.0 l a.1 m.1 there jq
        | inr a ↦ before_of_new k j v q l a.0 a.1 there jq
      ]

  claims_old : (k q c : ℕ) (m l : LiveRow) → slice_get names k ≡ Some q → slice_get f.live k ≡ Some m → slice_get g.live k ≡ Some l
      → (Contains l.claims c ↔ Claims t.rows c q)
  claims_old k q c m l kq old there =
      let both = step.claims k c m l old there in
      let was = st.claims k q c m kq old in (
        λ z. elim (both.0 z) [
          | inl h ↦ claims_on rows x c q (was.0 h)
          | inr h ↦ claims_new rows x c q h.0 (inr (here_rows k q kq ((step.new_before k).0 h.1)))
        ],
        λ z. both.1 (elim (claims_back rows x c q z) [
          | inl h ↦ inl (was.1 h)
          | inr h ↦ inr (
            h.0,
            elim h.1 [
              | inl e ↦ absurd (omega (arith, e, st.there k q kq))
              | inr w ↦ (step.new_before k).1 (rows_here k q kq w)
            ],
          )
        ]),
      )

  claims_of_new : (k q c : ℕ) (l : LiveRow) → k ≡ length f.live → n ≡ q → slice_get g.live k ≡ Some l
      → (Contains l.claims c ↔ Claims t.rows c q)
  claims_of_new k q c l last is there =
      let same : step.new.claims ≡ l.claims = ap (λ (z : LiveRow). z.claims) (new_at k l last there) in
      let mine = step.new_claims c in (
        λ z. claims_new rows x c q (mine.0 (subst (λ bs. Contains bs c) (sym same) z)) (inl (sym is)),
        λ z. subst (λ bs. Contains bs c) same (mine.1 (elim (claims_back rows x c q z) [
          | inl h ↦ absurd (omega (arith, is, claims_there rows x c q h))
          | inr h ↦ h.0
        ])),
      )

  claims_now : (k q c : ℕ) (l : LiveRow) → slice_get names' k ≡ Some q → slice_get g.live k ≡ Some l
      → (Contains l.claims c ↔ Claims t.rows c q)
  claims_now k q c l kq there =
      elim (name_of k q kq) [
        | inl a ↦ let m = item_at f.live k a.0 in claims_old k q c m.0 l a.1 m.1 there
        | inr a ↦ claims_of_new k q c l a.0 a.1 there
      ]

  all_now : (q : ℕ) → HasWish t.rows q → (k : ℕ) × (slice_get names' k ≡ Some q)
  all_now q h =
      elim (cases_lt q n) [
        | inl below ↦ elim (same_or_not r q) [
          | inl e ↦ (i, front_item names n i (place_below names i r named) ∙ named ∙ ap (λ z. Some z) e)
          | inr apart ↦
              let none : one_if (nat_eq r q) ≡ 0 = ap one_if (not_eq r q apart) in
              let kids : children q (others_of t.rows) ≡ children q (others_of rows) =
              omega (arith, children_now rows x q (omega (arith, low)), none) in
              let k = st.all q (record {
                wish = h.wish;
                next = sym (ap (λ o. wish_of_row o (children q (others_of rows))) (front_item rows x q below))
                    ∙ sym (ap (λ m. wish_of_row (slice_get t.rows q) m) kids) ∙ h.next;
              }) in
              (k.0, front_item names n k.0 (place_below names k.0 q k.1) ∙ k.1)
        ]
        | inr past ↦
            let top : q ≡ n = omega (arith, past, wish_low t.rows q h, length-append rows (x ∷ [])) in
            (length names, last_item names n ∙ ap (λ z. Some z) (sym top))
      ]

  once_now : (k j q : ℕ) → slice_get names' k ≡ Some q → slice_get names' j ≡ Some q → k ≡ j
  once_now k j q a b =
      elim (name_of k q a) [
        | inl c ↦ elim (name_of j q b) [
          | inl d ↦ st.once k j q c.1 d.1
          | inr d ↦ absurd (omega (arith, d.1, st.there k q c.1))
        ]
        | inr c ↦ elim (name_of j q b) [
          | inl d ↦ absurd (omega (arith, c.1, st.there j q d.1))
          | inr d ↦ omega (arith, c.0, d.0)
        ]
      ]

  before_low_now : (k j : ℕ) (l : LiveRow) → slice_get g.live k ≡ Some l → Contains l.before j → j < length g.live
  before_low_now k j l e h =
      elim (cases_lt k (length f.live)) [
        | inl old ↦
            let m = item_at f.live k old in
            omega (arith, step.many, st.before_low k j m.0 m.1 (subst (λ bs. Contains bs j) (step.before k m.0 l m.1 e) h))
        | inr past ↦
            let last : k ≡ length f.live = omega (arith, past, step.many, place_below g.live k l e) in
            omega (
              arith,
              step.many,
              here_low j ((step.new_before j).0 (subst (λ bs. Contains bs j)
                  (sym (ap (λ (z : LiveRow). z.before) (new_at k l last e))) h)),
            )
      ]

  pub after_step : StandsLoosely (after_turn p s r) names' g
  after_step = subst (λ (z : Serial). StandsLoosely z names' g) (sym turn_is) (record {
    values_are = values_now;
    many = length-append names (n ∷ []) ∙ omega (arith, st.many, step.many);
    there = λ k q e.
        elim (name_of k q e) [
          | inl a ↦ omega (arith, st.there k q a.1, length-append rows (x ∷ []))
          | inr a ↦ omega (arith, a.1, length-append rows (x ∷ []))
        ];
    childless = childless_now;
    all = all_now;
    once = once_now;
    wishes = wishes_now;
    before_low = before_low_now;
    before = before_now;
    claims = claims_now;
  })
