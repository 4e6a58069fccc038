-- The first layer: the front of main alone.
use Rattle.std.proofs.Common.{◌≡◌, ℕ, zero, suc, inl, inr, List, [], ◌∷◌, length, map, refl, sym, ◌∙◌, ap, subst, arith}
use Rattle.std.specs.Prelude.{slice_get, Some, None}
use Rattle.std.specs.List.{Contains}
use Rattle.boc_program.specs.declared.program.Program.{Program}
use Rattle.boc_program.specs.Meaning.{Meaning}
use Rattle.boc_program.proofs.RisingNumbers.{first_or_later, none_in_none, has_first}
use Rattle.boc_runs.specs.Serial.{behaviour_of, main_behaviour, SerialRow, Serial, run_at_once, serial_along}
use Rattle.boc_runs.specs.machine.Queues.{times}
use Rattle.boc_fronts.specs.Orders.{IsOrder, cowns_at}
use Rattle.boc_fronts.specs.Claims.{Claims}
use Rattle.boc_fronts.specs.Fronts.{LiveRow, Front, wishes_left, StandsLoosely, Stands, IsLayer}
use Rattle.boc_fronts.specs.Steps.{IsArranged, IsOpening}
use Rattle.boc_fronts.proofs.Orderly.{wish_below}
use Rattle.boc_fronts.proofs.Claiming.{has_low}
use Rattle.boc_fronts.proofs.LooseSteps.{before_less}
use Rattle.boc_fronts.proofs.Arranging.{named_so, arranged_stands}

one_item : {A : Type 0} (x y : A) (i : ℕ) → slice_get (x ∷ []) i ≡ Some y → (i ≡ 0) × (x ≡ y)
one_item x y zero e = (refl, let f : Some x ≡ Some y = e in cc)
one_item x y (suc i) e = absurd (let f : None ≡ Some y = e in cc)

module _ (p : Program) (f : Front) (o : IsOpening p f) where
  abbrev s : Serial
  s = serial_along p (0 ∷ [])

  abbrev x : SerialRow
  x = run_at_once p (serial_along p []).values 0 (Some main_behaviour)

  main_at : (i : ℕ) (l : LiveRow) → slice_get f.live i ≡ Some l → (i ≡ 0) × (o.main ≡ l)
  main_at i l e = one_item o.main l i (sym (ap (λ ls. slice_get ls i) o.live_are) ∙ e)

  none_among : (places : List ℕ) (j : ℕ) → places ≡ [] → Contains places j → ⊥
  none_among places j e h = none_in_none j (subst (λ ps. Contains ps j) e h)

  none_claims : (c a : ℕ) → Claims s.rows c a → ⊥
  none_claims c a k =
      let low = has_low s.rows x c k.row k.has in
      let zero_row : k.row ≡ 0 = omega (arith, low) in
      let none : times c (cowns_at s.rows k.row) ≡ 0 = ap (λ r. times c (cowns_at s.rows r)) zero_row in
      omega (arith, k.has, none)

  pub opening_stands : StandsLoosely s (0 ∷ []) f
  opening_stands = record {
    values_are = sym o.values_are;
    many = sym (ap (length {A = LiveRow}) o.live_are);
    there = λ i r e. let h = one_item 0 r i e in omega (arith, h.1);
    childless = λ r h. refl;
    all = λ r h.
        let low = wish_below s.rows r h in
        let zero_row : 0 ≡ r = omega (arith, low) in
        (0, ap (λ z. Some z) zero_row);
    once = λ i j r a b. (one_item 0 r i a).0 ∙ sym (one_item 0 r j b).0;
    wishes = λ i r l e there.
        let h = one_item 0 r i e in
        let m = main_at i l there in
        subst (λ z. wishes_left s.rows z ≡ l.wishes) h.1
        (ap (λ (z : Meaning). map behaviour_of z.wishes) o.meant ∙ sym o.wishes ∙ ap (λ (z : LiveRow). z.wishes) m.1);
    before_low = λ i j l e h.
        absurd (none_among l.before j (sym (ap (λ (z : LiveRow). z.before) (main_at i l e).1) ∙ o.first) h);
    before = λ i j r q l ir there jq. (
      λ h. absurd (none_among l.before j (sym (ap (λ (z : LiveRow). z.before) (main_at i l there).1) ∙ o.first) h),
      λ b. absurd (omega (arith, before_less s.rows q r b, (one_item 0 r i ir).1, (one_item 0 q j jq).1)),
    );
    claims = λ i r c l e there. (
      λ h. absurd (none_among l.claims c (sym (ap (λ (z : LiveRow). z.claims) (main_at i l there).1) ∙ o.unclaimed) h),
      λ k. absurd (none_claims c r k),
    );
  }

only_order : (p : Program) (ps : List ℕ) → IsOrder p ps → length ps ≡ 1 → ps ≡ 0 ∷ []
only_order p [] order e = absurd (omega (arith, e))
only_order p (r ∷ []) order e = ap (λ z. z ∷ []) order.0
only_order p (r ∷ (q ∷ ps)) order e = absurd (omega (arith, e))

pub first_layer : (p : Program) (f g : Front) (order : List ℕ) → IsOpening p f → IsArranged f order g → IsLayer p 1 (g ∷ [])
first_layer p f g order o arranged =
    let names : List ℕ = named_so (0 ∷ []) order in
    let st : Stands p (0 ∷ []) names g = record {
      loosely = arranged_stands (serial_along p (0 ∷ [])) (0 ∷ []) f g order (opening_stands p f o) arranged;
      some = arranged.some;
    } in
    record {
      each = λ h among.
          elim (first_or_later g h [] among) [
            | inl e ↦ (0 ∷ [], names, (refl, tt), refl, subst (λ z. Stands p (0 ∷ []) names z) e st)
            | inr later ↦ absurd (none_in_none h later)
          ];
      all = λ ps is many. (
        g,
        names,
        has_first g [],
        subst (λ qs. Stands p qs names g) (sym (only_order p ps is many)) st,
      );
    }
