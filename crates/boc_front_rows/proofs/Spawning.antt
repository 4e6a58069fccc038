-- The rows after a spawn.
use Rattle.std.proofs.Common.{◌≡◌, ◌≢◌, ◌⊎◌, ◌↔◌, ℕ, zero, suc, ◌+◌, ◌<◌, true, inl, inr, List, [], ◌∷◌, ◌++◌, length, map, refl, sym, ◌∙◌, ap, subst, arith, length-append, length-set}
use Rattle.std.specs.Prelude.{slice_get, Some, None}
use Rattle.std.specs.List.{Contains}
use Rattle.std.proofs.lemmas.List.{length-map}
use Rattle.std.proofs.lemmas.Bool.Decides.{eqb_tells}
use Rattle.boc_program.proofs.ChangedItems.{place_below, item_at, front_item, last_item, set_same, set_other}
use Rattle.boc_program.proofs.RisingNumbers.{none_in_none}
use Rattle.boc_front_rows.specs.Claims.{shares, joined, claimed, claimants, with_wishes, rows_after, ClaimsAt, AreSpawned}
use Rattle.boc_front_rows.specs.Rows.{Plain, row_at}
use Rattle.boc_front_rows.proofs.Mapped.{mapped_at, at_mapped}
use Rattle.boc_front_rows.proofs.Sharing.{joined_new, joined_has, claimed_claims, claimed_same, claims_at, claimants_are, are_claimants}

same_or_not : (x y : ℕ) → (x ≡ y) ⊎ (x ≢ y)
same_or_not x y = elim (eqb_tells x y) [
  | inl h ↦ inl h.1
  | inr h ↦ inr h.1
]

-- the row at a place
pub row_is : (xs : List Plain) (i : ℕ) (r : Plain) → slice_get xs i ≡ Some r → row_at xs i ≡ r
row_is [] i r is = absurd (let f : None ≡ Some r = is in cc)
row_is (x ∷ xs) zero r is = (let f : Some x ≡ Some r = is in cc)
row_is (x ∷ xs) (suc i) r is = row_is xs i r is

module _ (cowns : List ℕ) (place rest wishes : ℕ) (rows : List Plain) (there : place < length rows) where
  abbrev claiming : List Plain
  claiming = map (claimed cowns) rows

  abbrev parent_after : Plain
  parent_after = record (row_at claiming place) { wishes = rest }

  abbrev old : List Plain
  old = with_wishes claiming place rest

  abbrev last : Plain
  last = record { wishes = wishes; before = claimants cowns 0 rows; claims = joined [] cowns }

  abbrev after : List Plain
  after = rows_after cowns place rest wishes rows

  many_old : length old ≡ length rows
  many_old = length-set claiming place parent_after ∙ length-map rows (claimed cowns)

  -- an old row with its claims
  old_at : (i : ℕ) (r s : Plain) → slice_get rows i ≡ Some r → slice_get after i ≡ Some s → slice_get old i ≡ Some s
  old_at i r s is now = sym (front_item old last i (omega (arith, many_old, place_below rows i r is))) ∙ now

  other_at : (i : ℕ) (r s : Plain) → i ≢ place → slice_get rows i ≡ Some r → slice_get after i ≡ Some s → claimed cowns r ≡ s
  other_at i r s apart is now =
      (let f : Some (claimed cowns r) ≡ Some s = sym (at_mapped (claimed cowns) rows i r is)
      ∙ sym (set_other claiming place i parent_after apart) ∙ old_at i r s is now in cc)

  parent_at : (r s : Plain) → slice_get rows place ≡ Some r → slice_get after place ≡ Some s → parent_after ≡ s
  parent_at r s is now =
      (let f : Some parent_after ≡ Some s = sym (set_same claiming place parent_after (omega (arith, there, length-map rows (claimed cowns))))
      ∙ old_at place r s is now in cc)

  -- but for wishes a row is as it claims
  beside : (i : ℕ) (r s : Plain) → slice_get rows i ≡ Some r → slice_get after i ≡ Some s
      → ((claimed cowns r).before ≡ s.before) × ((claimed cowns r).claims ≡ s.claims)
  beside i r s is now =
      elim (same_or_not i place) [
        | inr apart ↦ (let e = other_at i r s apart is now in (ap (λ (z : Plain). z.before) e, ap (λ (z : Plain). z.claims) e))
        | inl e ↦
            let is' : slice_get rows place ≡ Some r = ap (slice_get rows) (sym e) ∙ is in
            let now' : slice_get after place ≡ Some s = ap (slice_get after) (sym e) ∙ now in
            let p = parent_at r s is' now' in
            let c : row_at claiming place ≡ claimed cowns r = row_is claiming place (claimed cowns r) (at_mapped (claimed cowns) rows place r is') in (
              ap (λ (z : Plain). z.before) (sym c) ∙ ap (λ (z : Plain). z.before) p,
              ap (λ (z : Plain). z.claims) (sym c) ∙ ap (λ (z : Plain). z.claims) p,
            )
      ]

  -- a row that is before the new one shares a cown
  before_shares : (i : ℕ) (r : Plain) → slice_get rows i ≡ Some r → ((shares r.claims cowns ≡ true) ↔ Contains (claimants cowns 0 rows) i)
  before_shares i r is = (
    λ e.
        let none : 0 + i ≡ i = omega arith in
        subst (λ (n : ℕ). Contains (claimants cowns 0 rows) n) none (are_claimants cowns 0 rows i r is e),
    λ h.
        let s = claimants_are cowns 0 rows i h in
        let e : s.0 ≡ i = omega (arith, s.1) in
        let same : s.2.0 ≡ r = (let f : Some s.2.0 ≡ Some r = sym s.2.1 ∙ ap (slice_get rows) e ∙ is in cc) in
        ap (λ (z : Plain). shares z.claims cowns) (sym same) ∙ s.2.2,
  )

  pub spawned_rows : AreSpawned cowns place rest wishes rows after
  spawned_rows = record {
    many = length-append old (last ∷ []) ∙ omega (arith, many_old);
    new = last;
    new_is = ap (slice_get after) (sym many_old) ∙ last_item old last;
    new_wishes = refl;
    new_before = λ i. claims_at cowns rows i;
    new_claims = λ x. (
      λ h. elim (joined_has [] cowns x h) [
        | inl none ↦ absurd (none_in_none x none)
        | inr new ↦ new
      ],
      λ h. joined_new [] cowns x h,
    );
    parent = λ s low now.
        let r = item_at rows place low in
        sym (ap (λ (z : Plain). z.wishes) (parent_at r.0 s r.1 now));
    other = λ i r s apart is now.
        sym (ap (λ (z : Plain). z.wishes) (other_at i r s apart is now)) ∙ (claimed_same cowns r).0;
    before = λ i r s is now. sym (beside i r s is now).0 ∙ (claimed_same cowns r).1;
    claims = λ i x r s is now.
        let e = (beside i r s is now).1 in
        let c = claimed_claims cowns r x in
        let b = before_shares i r is in (
          λ h. elim (c.0 (subst (λ cs. Contains cs x) (sym e) h)) [
            | inl o ↦ inl o
            | inr n ↦ inr (n.0, b.0 n.1)
          ],
          λ h. subst (λ cs. Contains cs x) e (c.1 (elim h [
            | inl o ↦ inl o
            | inr n ↦ inr (n.0, b.1 n.1)
          ])),
        );
  }
