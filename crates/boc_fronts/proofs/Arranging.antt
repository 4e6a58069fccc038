-- Live rows arranged anew stand for the same run.
use Rattle.std.proofs.Common.{◌≡◌, ◌≢◌, ◌↔◌, ℕ, zero, suc, ◌<◌, List, [], ◌∷◌, ◌++◌, length, map, refl, sym, ◌∙◌, ap, subst, arith}
use Rattle.std.specs.Prelude.{slice_get, slice_index_or, drop, Option, Some, None}
use Rattle.std.specs.Option.{option_map_or}
use Rattle.std.specs.List.{Contains}
use Rattle.std.proofs.lemmas.List.{length-map}
use Rattle.boc_program.specs.declared.program.Program.{Program}
use Rattle.boc_program.specs.Meaning.{Wish}
use Rattle.boc_program.proofs.ChangedItems.{place_below, item_at}
use Rattle.boc_runs.specs.Serial.{Behaviour, behaviour_of, SerialRow, Serial, wish_of_row, children, after_turn, serial_along}
use Rattle.boc_runs.proofs.OwnOrders.{along_more}
use Rattle.boc_fronts.specs.Orders.{others_of, HasWish}
use Rattle.boc_fronts.specs.Fronts.{LiveRow, Front, wishes_left, StandsLoosely, Leads}
use Rattle.boc_fronts.specs.Steps.{IsStep, IsAt, IsArranged}
use Rattle.boc_fronts.proofs.LooseSteps.{after_step}

-- the names at places
abbrev pub named_so : List ℕ → List ℕ → List ℕ
named_so names order = map (λ i. slice_index_or names i 0) order

read_so : (names order : List ℕ) (k r : ℕ) → slice_get (named_so names order) k ≡ Some r
    → (i : ℕ) × (slice_get order k ≡ Some i) × (slice_index_or names i 0 ≡ r)
read_so names [] k r e = absurd (let f : None ≡ Some r = e in cc)
read_so names (i ∷ order) zero r e = (i, refl, let f : Some (slice_index_or names i 0) ≡ Some r = e in cc)
read_so names (i ∷ order) (suc k) r e = read_so names order k r e

so_read : (names order : List ℕ) (k i : ℕ) → slice_get order k ≡ Some i
    → slice_get (named_so names order) k ≡ Some (slice_index_or names i 0)
so_read names [] k i e = absurd (let f : None ≡ Some i = e in cc)
so_read names (j ∷ order) zero i e =
    (let f : Some j ≡ Some i = e in let g : j ≡ i = cc in ap (λ z. Some (slice_index_or names z 0)) g)
so_read names (j ∷ order) (suc k) i e = so_read names order k i e

index_is : (names : List ℕ) (i r : ℕ) → slice_get names i ≡ Some r → slice_index_or names i 0 ≡ r
index_is [] i r e = absurd (let f : None ≡ Some r = e in cc)
index_is (n ∷ names) zero r e = (let f : Some n ≡ Some r = e in cc)
index_is (n ∷ names) (suc i) r e = index_is names i r e

index_there : (names : List ℕ) (i : ℕ) → i < length names → slice_get names i ≡ Some (slice_index_or names i 0)
index_there [] i low = absurd (omega (arith, low))
index_there (n ∷ names) zero low = refl
index_there (n ∷ names) (suc i) low = index_there names i (omega (arith, low))

-- a row with a wish has wishes left
some_drop : (ws : List Wish) (k : ℕ) (w : Wish) → slice_get ws k ≡ Some w → map behaviour_of (drop k ws) ≢ []
some_drop [] k w e n = (let f : None ≡ Some w = e in cc)
some_drop (v ∷ ws) zero w e n = (let f : behaviour_of v ∷ map behaviour_of ws ≡ [] = n in cc)
some_drop (v ∷ ws) (suc k) w e n = some_drop ws k w e n

some_of : (o : Option SerialRow) (k : ℕ) (w : Wish) → wish_of_row o k ≡ Some w
    → map behaviour_of (drop k (option_map_or (λ (x : SerialRow). x.means.wishes) o [])) ≢ []
some_of None k w e n = (let f : None ≡ Some w = e in cc)
some_of (Some row) k w e n = some_drop row.means.wishes k w e n

some_left : (rows : List SerialRow) (r : ℕ) → HasWish rows r → wishes_left rows r ≢ []
some_left rows r h = some_of (slice_get rows r) (children r (others_of rows)) h.wish h.next

module _ (s : Serial) (names : List ℕ) (f g : Front) (order : List ℕ) (st : StandsLoosely s names f) (arranged : IsArranged f order g) where
  abbrev named : List ℕ
  named = named_so names order

  -- the name at a place is that at the place that the order names
  old_name : (k r : ℕ) → slice_get named k ≡ Some r → (i : ℕ) × (slice_get order k ≡ Some i) × (slice_get names i ≡ Some r)
  old_name k r e =
      let x = read_so names order k r e in (
        x.0,
        x.1,
        index_there names x.0 (omega (arith, st.many, arranged.there k x.0 x.1)) ∙ ap (λ z. Some z) x.2,
      )

  new_name : (k i r : ℕ) → slice_get order k ≡ Some i → slice_get names i ≡ Some r → slice_get named k ≡ Some r
  new_name k i r e named_is = so_read names order k i e ∙ ap (λ z. Some z) (index_is names i r named_is)

  old_row : (k i : ℕ) → slice_get order k ≡ Some i → (m : LiveRow) × (slice_get f.live i ≡ Some m)
  old_row k i e = item_at f.live i (arranged.there k i e)

  -- who is at a place of the one is among some places of the other
  at_place : (places : List ℕ) (j i : ℕ) → slice_get order j ≡ Some i → (IsAt order places j ↔ Contains places i)
  at_place places j i e = (
    λ z. (let q : Some z.0 ≡ Some i = sym z.1 ∙ e in let same : z.0 ≡ i = cc in subst (λ n. Contains places n) same z.2),
    λ h. (i, e, h),
  )

  pub arranged_stands : StandsLoosely s named g
  arranged_stands = record {
    values_are = st.values_are ∙ sym arranged.values_are;
    many = length-map order (λ i. slice_index_or names i 0) ∙ sym arranged.many;
    there = λ k r e. let x = old_name k r e in st.there x.0 r x.2;
    childless = st.childless;
    all = λ r h.
        let i = st.all r h in
        let m = item_at f.live i.0 (omega (arith, st.many, place_below names i.0 r i.1)) in
        let k = arranged.kept i.0 m.0 m.1 (λ n. some_left s.rows r h (st.wishes i.0 r m.0 i.1 m.1 ∙ n)) in
        (k.0, new_name k.0 i.0 r k.1 i.1);
    once = λ k j r a b.
        let x = old_name k r a in
        let y = old_name j r b in
        arranged.once k j x.0 x.1 (y.1 ∙ ap (λ z. Some z) (sym (st.once x.0 y.0 r x.2 y.2)));
    wishes = λ k r l e there.
        let x = old_name k r e in
        let m = old_row k x.0 x.1 in
        st.wishes x.0 r m.0 x.2 m.1 ∙ sym (arranged.wishes k x.0 m.0 l x.1 m.1 there);
    before_low = λ k j l there h.
        let i = item_at order k (omega (arith, arranged.many, place_below g.live k l there)) in
        let m = old_row k i.0 i.1 in
        let z = (arranged.before k i.0 j m.0 l i.1 m.1 there).0 h in
        omega (arith, arranged.many, place_below order j z.0 z.1);
    before = λ k j r q l kr there jq.
        let x = old_name k r kr in
        let y = old_name j q jq in
        let m = old_row k x.0 x.1 in
        let both = arranged.before k x.0 j m.0 l x.1 m.1 there in
        let at = at_place m.0.before j y.0 y.1 in
        let old = st.before x.0 y.0 r q m.0 x.2 m.1 y.2 in
        (λ h. old.0 (at.0 (both.0 h)), λ b. both.1 (at.1 (old.1 b)));
    claims = λ k r c l kr there.
        let x = old_name k r kr in
        let m = old_row k x.0 x.1 in
        let same = arranged.claims k x.0 m.0 l x.1 m.1 there in
        let old = st.claims x.0 r c m.0 x.2 m.1 in
        (λ h. old.0 (subst (λ cs. Contains cs c) same h), λ b. subst (λ cs. Contains cs c) (sym same) (old.1 b));
  }

pub steps_lead : (p : Program) (f h g : Front) (i : ℕ) (order : List ℕ) → IsStep p f i h → IsArranged h order g → Leads p f i g
steps_lead p f h g i order step arranged parents names r st e =
    let s : Serial = serial_along p parents in
    let names' : List ℕ = names ++ (length s.rows ∷ []) in
    let loose = after_step p s names f h st.loosely i r e step in (
      named_so names' order,
      record {
        loosely = subst (λ (t : Serial). StandsLoosely t (named_so names' order) g) (sym (along_more p (serial_along p []) parents r))
            (arranged_stands (after_turn p s r) names' h g order loose arranged);
        some = arranged.some;
      },
    )
