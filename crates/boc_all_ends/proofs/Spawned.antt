-- The rows after a spawn are those of a step.
use Rattle.std.proofs.Common.{◌≡◌, ◌≢◌, ◌⊎◌, ◌↔◌, ℕ, ◌+◌, ◌<◌, ◌≤◌, inl, inr, List, ◌∷◌, length, map, refl, sym, ◌∙◌, ap, subst, arith, ℤ}
use Rattle.std.specs.Prelude.{slice_get, Some}
use Rattle.std.specs.List.{All, Contains}
use Rattle.std.proofs.lemmas.Bool.{cases_lt}
use Rattle.std.proofs.lemmas.List.{length-map}
use Rattle.boc_program.specs.declared.program.Program.{Program}
use Rattle.boc_program.specs.Meaning.{Meaning}
use Rattle.boc_program.proofs.ChangedItems.{place_below, item_at}
use Rattle.boc_runs.specs.Serial.{Behaviour, behaviour_of, after_outputs}
use Rattle.boc_runs.specs.machine.Queues.{times}
use Rattle.boc_machine_laws.proofs.Lists.{same_or_not}
use Rattle.boc_machine_laws.proofs.Outputs.{contains_times}
use Rattle.boc_machine_laws.proofs.Starts.{times_contains}
use Rattle.boc_fronts.specs.Fronts as fronts
use Rattle.boc_fronts.specs.Steps.{ClaimsHere, WishesAfter, IsStep}
use Rattle.boc_front_rows.specs.declared.row.Front.{Front}
use Rattle.boc_front_rows.specs.Claims.{ClaimsAt, AreSpawned}
use Rattle.boc_front_rows.specs.Lists.{list_at}
use Rattle.boc_front_rows.specs.Rows.{Plain, plains, AreIn, AreLow}
use Rattle.boc_front_rows.specs.Seen.{shown, front_of}
use Rattle.boc_front_rows.proofs.Mapped.{at_mapped, mapped_at}
use Rattle.boc_all_ends.specs.Runs.{meant_at}
use Rattle.boc_all_ends.specs.Stepping.{Grows, Spawning}
use Rattle.boc_all_ends.proofs.Seeing.{Lists, longer, same_list, all_if, all_more}

module _ (p : Program) (a b : Lists) (f g : Front) (place rest wishes : ℕ) (wish : Behaviour) (r : Plain)
    (h : Spawning p a b f g place rest wishes wish r) where
  abbrev old : List fronts.LiveRow
  old = (front_of a f).live

  abbrev new : List fronts.LiveRow
  new = (front_of b g).live

  same_old : length old ≡ length (plains f.live.items)
  same_old = length-map (plains f.live.items) (shown a)

  same_new : length new ≡ length (plains g.live.items)
  same_new = length-map (plains g.live.items) (shown b)

  claims_here : (j : ℕ) → (ClaimsAt (plains f.live.items) wish.cowns j ↔ ClaimsHere (front_of a f) wish.cowns j)
  claims_here j = (
    λ k. record {
      row = shown a k.row;
      is = at_mapped (shown a) (plains f.live.items) j k.row k.is;
      cown = k.cown;
      among = times_contains wish.cowns k.cown k.among;
      claims = k.claims;
    },
    λ k.
        let x = mapped_at (shown a) (plains f.live.items) j k.row k.is in
        record {
          row = x.0;
          is = x.1;
          cown = k.cown;
          among = contains_times k.cown wish.cowns k.among;
          claims = subst (λ (z : fronts.LiveRow). Contains z.claims k.cown) (sym x.2) k.claims;
        },
  )

  -- a row before and after
  record Both (j : ℕ) (l m : fronts.LiveRow) : Type 0 where
    was : Plain
    was_at : slice_get (plains f.live.items) j ≡ Some was
    was_is : shown a was ≡ l
    now : Plain
    now_at : slice_get (plains g.live.items) j ≡ Some now
    now_is : shown b now ≡ m

  both : (j : ℕ) (l m : fronts.LiveRow) → slice_get old j ≡ Some l → slice_get new j ≡ Some m → Both j l m
  both j l m e n =
      let x = mapped_at (shown a) (plains f.live.items) j l e in
      let y = mapped_at (shown b) (plains g.live.items) j m n in
      record { was = x.0; was_at = x.1; was_is = x.2; now = y.0; now_at = y.1; now_is = y.2 }

  wishes_after : (j : ℕ) (l m : fronts.LiveRow) → slice_get old j ≡ Some l → slice_get new j ≡ Some m → WishesAfter place (list_at a rest) j l m
  wishes_after j l m e n =
      let x = both j l m e n in
      record {
        parent = λ q.
            sym (ap (λ (z : fronts.LiveRow). z.wishes) x.now_is)
            ∙ ap (list_at b) (h.spawned.parent x.now (place_below (plains f.live.items) place r h.is) (sym (ap (slice_get (plains g.live.items)) q) ∙ x.now_at))
            ∙ same_list a b rest h.grows h.rest_there;
        other = λ q.
            sym (ap (λ (z : fronts.LiveRow). z.wishes) x.now_is)
            ∙ ap (list_at b) (h.spawned.other j x.was x.now q x.was_at x.now_at)
            ∙ same_list a b x.was.wishes h.grows (h.there j x.was x.was_at)
            ∙ ap (λ (z : fronts.LiveRow). z.wishes) x.was_is;
      }

  claims_after : (j c : ℕ) (l m : fronts.LiveRow) → slice_get old j ≡ Some l → slice_get new j ≡ Some m
      → (Contains m.claims c ↔ (Contains l.claims c ⊎ ((0 < times c wish.cowns) × Contains h.spawned.new.before j)))
  claims_after j c l m e n =
      let x = both j l m e n in
      let k = h.spawned.claims j c x.was x.now x.was_at x.now_at in (
        λ z. elim (k.0 (subst (λ (y : fronts.LiveRow). Contains y.claims c) (sym x.now_is) z)) [
          | inl o ↦ inl (subst (λ (y : fronts.LiveRow). Contains y.claims c) x.was_is o)
          | inr o ↦ inr (times_contains wish.cowns c o.0, o.1)
        ],
        λ z. subst (λ (y : fronts.LiveRow). Contains y.claims c) x.now_is (k.1 (elim z [
          | inl o ↦ inl (subst (λ (y : fronts.LiveRow). Contains y.claims c) (sym x.was_is) o)
          | inr o ↦ inr (contains_times c wish.cowns o.0, o.1)
        ])),
      )

  pub step_is : IsStep p (front_of a f) place (front_of b g)
  step_is = record {
    row = shown a r;
    is = at_mapped (shown a) (plains f.live.items) place r h.is;
    wish = wish;
    rest = list_at a rest;
    wishes_are = h.first;
    means = meant_at p wish f.values.items;
    meant = refl;
    values_are = h.values_are;
    many = same_new ∙ h.spawned.many ∙ omega (arith, same_old);
    new = shown b h.spawned.new;
    new_is = ap (slice_get new) same_old ∙ at_mapped (shown b) (plains g.live.items) (length (plains f.live.items)) h.spawned.new h.spawned.new_is;
    new_wishes = ap (list_at b) h.spawned.new_wishes ∙ h.added;
    new_before = λ j.
        let x = h.spawned.new_before j in
        let y = claims_here j in
        (λ z. y.0 (x.0 z), λ z. x.1 (y.1 z));
    new_claims = λ c.
        let x = h.spawned.new_claims c in
        (λ z. times_contains wish.cowns c (x.0 z), λ z. x.1 (contains_times c wish.cowns z));
    wishes = wishes_after;
    before = λ j l m e n.
        let x = both j l m e n in
        sym (ap (λ (z : fronts.LiveRow). z.before) x.now_is) ∙ h.spawned.before j x.was x.now x.was_at x.now_at
        ∙ ap (λ (z : fronts.LiveRow). z.before) x.was_is;
    claims = claims_after;
  }

-- ---- what else holds of the rows after a spawn

module _ (cowns : List ℕ) (place rest wishes : ℕ) (rows after : List Plain) (s : AreSpawned cowns place rest wishes rows after) where
  -- a row after is one from before, or the new one
  record OldRow (i : ℕ) (r : Plain) : Type 0 where
    old : Plain
    was : slice_get rows i ≡ Some old
    before : r.before ≡ old.before

  old_or_new : (i : ℕ) (r : Plain) → slice_get after i ≡ Some r → OldRow i r ⊎ ((i ≡ length rows) × (s.new ≡ r))
  old_or_new i r is =
      elim (cases_lt i (length rows)) [
        | inl low ↦
            let x = item_at rows i low in
            inl (record { old = x.0; was = x.1; before = s.before i x.0 r x.1 is })
        | inr past ↦
            let e : i ≡ length rows = omega (arith, past, s.many, place_below after i r is) in
            inr (e, (let f : Some s.new ≡ Some r = sym s.new_is ∙ sym (ap (slice_get after) e) ∙ is in cc))
      ]

  pub low_after : AreLow (length rows) rows → AreLow (length after) after
  low_after low i r is =
      elim (old_or_new i r is) [
        | inl o ↦ subst (λ xs. All (λ x. x < length after) xs) (sym o.before)
            (all_more (length rows) (length after) o.old.before (omega (arith, s.many)) (low i o.old o.was))
        | inr n ↦ subst (λ (z : Plain). All (λ x. x < length after) z.before) n.1
            (all_if (length after) s.new.before (λ j h.
            let k = (s.new_before j).0 h in omega (arith, s.many, place_below rows j k.row k.is)))
      ]

  pub in_after : (a b : Lists) → AreIn a rows → Grows a b → place < length rows → rest < length a → wishes < length b → AreIn b after
  in_after a b there g at_place rest_there wishes_there i r is =
      elim (old_or_new i r is) [
        | inr n ↦ (let e : s.new.wishes ≡ r.wishes = ap (λ (z : Plain). z.wishes) n.1 in omega (arith, e, s.new_wishes, wishes_there))
        | inl o ↦ elim (same_or_not i place) [
          | inl e ↦
              let now : r.wishes ≡ rest = s.parent r at_place (sym (ap (slice_get after) e) ∙ is) in
              omega (arith, now, rest_there, longer a b g)
          | inr apart ↦
              let now : r.wishes ≡ o.old.wishes = s.other i o.old r apart o.was is in
              omega (arith, now, there i o.old o.was, longer a b g)
        ]
      ]
