-- A front is put among others, unless an equal one is there: equal fronts are seen alike.
use Rattle.std.proofs.Common.{◌≡◌, ◌⊎◌, ℕ, ℤ, int_eq, Bool, true, false, inl, inr, List, [], ◌∷◌, ◌++◌, length, map, refl, sym, ◌∙◌, ap, subst, arith}
use Rattle.std.specs.Prelude.{nat_eq, ◌&&◌, ◌||◌, if◌then◌else◌}
use Rattle.std.specs.Cmp.Lexicographic.{pointwise}
use Rattle.std.specs.List.{list_any, Contains}
use Rattle.std.proofs.lemmas.Bool.{eqb-true}
use Rattle.std.proofs.lemmas.List.{length-map}
use Rattle.boc_program.proofs.RisingNumbers.{has_first, has_later}
use Rattle.boc_machine_laws.proofs.Lists.{and_true}
use Rattle.boc_front_rows.specs.declared.row.Front.{Front}
use Rattle.boc_front_rows.specs.declared.row.LiveRow.{LiveRow}
use Rattle.boc_front_rows.specs.Rows.{Plain, plain, plains, AreIn}
use Rattle.boc_front_rows.specs.Seen.{shown, front_of}
use Rattle.boc_front_rows.proofs.Listing.{same_numbers, same_values}
use Rattle.boc_front_rows.proofs.Places.{has_old, has_last, old_or_last}
use Rattle.boc_all_ends.specs.Spreading.{IsPut}
use Rattle.boc_all_ends.specs.Stepping.{IsKept}
use Rattle.boc_all_ends.proofs.Seeing.{Lists}

-- ---- fronts that are equal

abbrev pub row_eq : LiveRow → LiveRow → Bool
row_eq a b = nat_eq a.wishes b.wishes && (pointwise nat_eq a.before.items b.before.items && pointwise nat_eq a.claims.items b.claims.items)

abbrev pub front_eq : Front → Front → Bool
front_eq a b = pointwise int_eq a.values.items b.values.items && pointwise row_eq a.live.items b.live.items

same_row : (a b : LiveRow) → row_eq a b ≡ true → plain a ≡ plain b
same_row a b e =
    let both = and_true (nat_eq a.wishes b.wishes)
    (pointwise nat_eq a.before.items b.before.items && pointwise nat_eq a.claims.items b.claims.items) e in
    let lists = and_true (pointwise nat_eq a.before.items b.before.items) (pointwise nat_eq a.claims.items b.claims.items) both.1 in
    let wishes = eqb-true a.wishes b.wishes both.0 in
    let before = same_numbers a.before.items b.before.items lists.0 in
    let claims = same_numbers a.claims.items b.claims.items lists.1 in
    ap (λ n. let r : Plain = record { wishes = n; before = a.before.items; claims = a.claims.items } in r) wishes
    ∙ ap (λ xs. let r : Plain = record { wishes = b.wishes; before = xs; claims = a.claims.items } in r) before
    ∙ ap (λ xs. let r : Plain = record { wishes = b.wishes; before = b.before.items; claims = xs } in r) claims

same_rows : (xs ys : List LiveRow) → pointwise row_eq xs ys ≡ true → plains xs ≡ plains ys
same_rows [] [] e = refl
same_rows [] (y ∷ ys) e = absurd (let f : false ≡ true = e in cc)
same_rows (x ∷ xs) [] e = absurd (let f : false ≡ true = e in cc)
same_rows (x ∷ xs) (y ∷ ys) e =
    let both = and_true (row_eq x y) (pointwise row_eq xs ys) e in
    λ i. same_row x y both.0 i ∷ same_rows xs ys both.1 i

-- fronts with the same values and rows
pub record Alike (f g : Front) : Type 0 where
  pub values : f.values.items ≡ g.values.items
  pub rows : plains f.live.items ≡ plains g.live.items

pub alike : (f g : Front) → front_eq f g ≡ true → Alike f g
alike f g e =
    let both = and_true (pointwise int_eq f.values.items g.values.items) (pointwise row_eq f.live.items g.live.items) e in
    record { values = same_values f.values.items g.values.items both.0; rows = same_rows f.live.items g.live.items both.1 }

pub seen_alike : (f g : Front) (lists : Lists) → Alike f g → front_of lists g ≡ front_of lists f
seen_alike f g lists s = λ i. record { values = sym s.values i; live = map (shown lists) (sym s.rows i) }

pub kept_alike : (f g : Front) (lists : Lists) (most : ℕ) → Alike f g → IsKept lists most f → IsKept lists most g
kept_alike f g lists most s k = record {
  there = subst (AreIn lists) s.rows k.there;
  few = omega (arith, k.few, length-map f.live.items plain, length-map g.live.items plain, ap (length {A = Plain}) s.rows);
}

-- ---- a front that was put

-- one of these is equal
abbrev HasEqual : Front → List Front → Type 0
HasEqual f fs = (x : Front) × Contains fs x × (front_eq f x ≡ true)

equal_by : (f x : Front) (fs : List Front) (b : Bool) → front_eq f x ≡ b → (list_any (front_eq f) fs ≡ true → HasEqual f fs)
    → list_any (front_eq f) (x ∷ fs) ≡ true → HasEqual f (x ∷ fs)
equal_by f x fs true is later e = (x, has_first x fs, is)
equal_by f x fs false is later e =
    let r = later (ap (λ b. b || list_any (front_eq f) fs) (sym is) ∙ e) in
    (r.0, has_later x r.0 fs r.1, r.2)

has_equal : (f : Front) (fs : List Front) → list_any (front_eq f) fs ≡ true → HasEqual f fs
has_equal f [] e = absurd (let q : false ≡ true = e in cc)
has_equal f (x ∷ fs) e = equal_by f x fs (front_eq f x) refl (has_equal f fs) e

put_by : (f : Front) (old new : List Front) (b : Bool) → list_any (front_eq f) old ≡ b → new ≡ (if b then old else old ++ (f ∷ [])) → IsPut f old new
put_by f old new true is e =
    let x = has_equal f old is in
    let s = alike f x.0 x.2 in
    record {
      stays = λ g h. subst (λ (gs : List Front). Contains gs g) (sym e) h;
      only = λ g h. inl (subst (λ (gs : List Front). Contains gs g) e h);
      same = x.0;
      there = subst (λ (gs : List Front). Contains gs x.0) (sym e) x.1;
      alike = λ lists. seen_alike f x.0 lists s;
      as_kept = λ lists most k. kept_alike f x.0 lists most s k;
    }
put_by f old new false is e = record {
  stays = λ g h. subst (λ (gs : List Front). Contains gs g) (sym e) (has_old old f g h);
  only = λ g h. old_or_last old f g (subst (λ (gs : List Front). Contains gs g) e h);
  same = f;
  there = subst (λ (gs : List Front). Contains gs f) (sym e) (has_last old f);
  alike = λ lists. refl;
  as_kept = λ lists most k. k;
}

pub is_put : (f : Front) (old new : List Front) → new ≡ (if list_any (front_eq f) old then old else old ++ (f ∷ [])) → IsPut f old new
is_put f old new e = put_by f old new (list_any (front_eq f) old) refl e
