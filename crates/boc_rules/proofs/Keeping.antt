-- What is kept of a run stays that of its log as a row is changed, or put behind the others.
use Rattle.std.proofs.Common.{◌≡◌, ℕ, zero, suc, ◌+◌, ◌*◌, ◌<◌, ◌≤◌, ◌≢◌, ◌⊎◌, List, [], ◌∷◌, ◌++◌, length, map, get_or, refl, sym, ◌∙◌, ap, subst, inl, inr}
use Rattle.std.proofs.Common.{arith, length-append, get_or-set_same, get_or-set_other}
use Rattle.std.proofs.Math.ListN.{length-set}
use Rattle.std.specs.Prelude.{slice_get, slice_set, slice_range, Option, Some, None, All}
use Rattle.std.specs.Option.{option_map_or}
use Rattle.std.specs.List.{Contains}
use Rattle.std.proofs.lemmas.List.{get_or-map, length-map}
use Rattle.std.proofs.lemmas.Option.{slice_get_within}
use Rattle.std.proofs.lemmas.Bool.{cases_eq, cases_order}
use Rattle.boc_program.specs.declared.limits.TheConstants.{MOST_HELD}
use Rattle.boc_runs.specs.Legal.{Entry, entry_cowns}
use Rattle.boc_rules.specs.declared.kept_row.KeptRow.{KeptRow}
use Rattle.boc_rules.specs.Before.{IsLatest, AreBefore, noted}
use Rattle.boc_rules.specs.SoFar.{IsKeptRowOf, AreKeptRowsOf, AreFound, AreLatest, over_one, over}
use Rattle.boc_program.proofs.ChangedItems.{set_other, range_stays, range_behind, front_item, last_item}
use Rattle.boc_rules.proofs.Lists.{got_set, set_same, got_push, got_at}
use Rattle.boc_rules.proofs.Next.{cowns_at}

-- two runs have the same cowns at the rows below a number
pub record SameBelow (old new : List Entry) (n : ℕ) : Type 0 where
  pub cowns : (r : ℕ) → r < n → entry_cowns new r ≡ entry_cowns old r

carry : (old new : List Entry) (r c : ℕ) → entry_cowns new r ≡ entry_cowns old r → Contains (entry_cowns old r) c → Contains (entry_cowns new r) c
carry old new r c e h = subst (λ (cs : List ℕ). Contains cs c) (sym e) h

back : (old new : List Entry) (r c : ℕ) → entry_cowns new r ≡ entry_cowns old r → Contains (entry_cowns new r) c → Contains (entry_cowns old r) c
back old new r c e h = subst (λ (cs : List ℕ). Contains cs c) e h

latest_same : (old new : List Entry) (c n : ℕ) (latest : Option ℕ) → SameBelow old new n → IsLatest old c n latest → IsLatest new c n latest
latest_same old new c n None same is = λ r less has. is r less (back old new r c (same.cowns r less) has)
latest_same old new c n (Some latest) same is =
    (is.0, carry old new latest c (same.cowns latest is.0) is.1, λ r more less has. is.2 r more less (back old new r c (same.cowns r less) has))

-- the next row hasn't this cown
latest_passes : (run : List Entry) (c n : ℕ) (latest : Option ℕ) → (Contains (entry_cowns run n) c → ⊥) → IsLatest run c n latest
    → IsLatest run c (suc n) latest
latest_passes run c n None lacks is = λ r less has.
    elim (cases_order r n) [
      | inl e ↦ lacks (subst (λ (k : ℕ). Contains (entry_cowns run k) c) e has)
      | inr p ↦ elim p [ inl below ↦ is r below has | inr above ↦ absurd (omega arith) ]
    ]
latest_passes run c n (Some latest) lacks is =
    let last : latest < n = is.0 in (
      omega (arith, last),
      is.1,
      λ r more less has.
          elim (cases_order r n) [
            | inl e ↦ lacks (subst (λ (k : ℕ). Contains (entry_cowns run k) c) e has)
            | inr p ↦ elim p [ inl below ↦ is.2 r more below has | inr above ↦ absurd (omega arith) ]
          ],
    )

before_same : (old new : List Entry) (r : ℕ) (before : List (Option ℕ)) → SameBelow old new (suc r) → AreBefore old r before → AreBefore new r before
before_same old new r before same are =
    let here : entry_cowns new r ≡ entry_cowns old r = same.cowns r (omega arith) in
    let below : SameBelow old new r = record { cowns = λ k less. same.cowns k (omega arith) } in record {
      all = are.all ∙ ap length (sym here);
      each = λ k less.
          let inside : k < length (entry_cowns old r) = subst (λ (cs : List ℕ). k < length cs) here less in
          subst (λ (cs : List ℕ). IsLatest new (get_or cs k 0) r (get_or before k None)) (sym here)
          (latest_same old new (get_or (entry_cowns old r) k 0) r (get_or before k None) below (are.each k inside));
    }

-- Row r changes, and keeps its cowns.
pub record IsSet (run : List Entry) (r : ℕ) (e v : Entry) : Type 0 where
  pub is : slice_get run r ≡ Some e
  pub cowns : v.cowns ≡ e.cowns

pub same_set : (run : List Entry) (r : ℕ) (e v : Entry) (n : ℕ) → IsSet run r e v → SameBelow run (slice_set run r v) n
same_set run r e v n h = record {
  cowns = λ k less.
      elim (cases_eq k r) [
        | inl p ↦
            subst (λ (m : ℕ). entry_cowns (slice_set run r v) m ≡ entry_cowns run m) (sym p)
            (cowns_at (slice_set run r v) r v (set_same run r v e h.is) ∙ h.cowns ∙ sym (cowns_at run r e h.is))
        | inr p ↦ ap (λ (o : Option Entry). option_map_or (λ (x : Entry). x.cowns) o []) (set_other run r k v p)
      ];
}

kept_row_case : (run : List Entry) (kept_rows : List KeptRow) (r : ℕ) (v : Entry) (y : KeptRow) → AreKeptRowsOf run kept_rows → IsKeptRowOf v y
    → (k : ℕ) (f : Entry) (z : KeptRow)
    → ((k ≡ r) × (v ≡ f)) ⊎ ((k ≢ r) × (slice_get run k ≡ Some f)) → ((k ≡ r) × (y ≡ z)) ⊎ ((k ≢ r) × (slice_get kept_rows k ≡ Some z)) → IsKeptRowOf f z
kept_row_case run kept_rows r v y are is k f z (inl p) (inl q) = subst (λ (a : Entry). IsKeptRowOf a z) p.1 (subst (IsKeptRowOf v) q.1 is)
kept_row_case run kept_rows r v y are is k f z (inl p) (inr q) = absurd (q.0 p.0)
kept_row_case run kept_rows r v y are is k f z (inr p) (inl q) = absurd (p.0 q.0)
kept_row_case run kept_rows r v y are is k f z (inr p) (inr q) = are.each k f z p.1 q.1

pub kept_rows_set : (run : List Entry) (kept_rows : List KeptRow) (r : ℕ) (e v : Entry) (x y : KeptRow) → AreKeptRowsOf run kept_rows → IsSet run r e v
    → slice_get kept_rows r ≡ Some x → IsKeptRowOf v y → AreKeptRowsOf (slice_set run r v) (slice_set kept_rows r y)
kept_rows_set run kept_rows r e v x y are h at is = record {
  all = length-set kept_rows r y ∙ are.all ∙ sym (length-set run r v);
  each = λ k f z g i. kept_row_case run kept_rows r v y are is k f z (got_set run r k v f g) (got_set kept_rows r k y z i);
}

-- a kept_row of the changed list has the part of one that was there
pub record HasPart (kept_rows : List KeptRow) (k : ℕ) (z : KeptRow) : Type 0 where
  pub old : KeptRow
  pub was : slice_get kept_rows k ≡ Some old
  pub from : old.from ≡ z.from
  pub to : old.to ≡ z.to

part_set : (kept_rows : List KeptRow) (r : ℕ) (x y : KeptRow) → slice_get kept_rows r ≡ Some x → x.from ≡ y.from → x.to ≡ y.to → (k : ℕ) (z : KeptRow)
    → slice_get (slice_set kept_rows r y) k ≡ Some z → HasPart kept_rows k z
part_set kept_rows r x y at from to k z i =
    elim (got_set kept_rows r k y z i) [
      | inl p ↦ record
          { old = x; was = got_at kept_rows k r x p.0 at; from = from ∙ ap (λ (a : KeptRow). a.from) p.1; to = to ∙ ap (λ (a : KeptRow). a.to) p.1 }
      | inr p ↦ record { old = z; was = p.1; from = refl; to = refl }
    ]

pub found_set : (run : List Entry) (kept_rows : List KeptRow) (found : List (Option ℕ)) (r : ℕ) (e v : Entry) (x y : KeptRow) → AreFound run kept_rows found
    → IsSet run r e v → slice_get kept_rows r ≡ Some x → x.from ≡ y.from → x.to ≡ y.to
    → AreFound (slice_set run r v) (slice_set kept_rows r y) found
found_set run kept_rows found r e v x y are h at from to = record {
  few = subst (λ (n : ℕ). length found ≤ MOST_HELD * n) (sym (length-set run r v)) are.few;
  ordered = λ k z i. let p = part_set kept_rows r x y at from to k z i in omega (arith, p.from, p.to, are.ordered k p.old p.was);
  within = λ k z i. let p = part_set kept_rows r x y at from to k z i in omega (arith, p.to, are.within k p.old p.was);
  before = λ k z i.
      let p = part_set kept_rows r x y at from to k z i in
      before_same run (slice_set run r v) k (slice_range found z.from z.to) (same_set run r e v (suc k) h)
      (subst (λ (n : ℕ). AreBefore run k (slice_range found n z.to)) p.from
      (subst (λ (n : ℕ). AreBefore run k (slice_range found p.old.from n)) p.to (are.before k p.old p.was)));
}

pub latest_set : (run : List Entry) (r : ℕ) (e v : Entry) (cowns : ℕ) (latest : List (Option ℕ)) → AreLatest run cowns latest → IsSet run r e v
    → AreLatest (slice_set run r v) cowns latest
latest_set run r e v cowns latest are h = record {
  all = are.all;
  each = λ c less.
      subst (λ (n : ℕ). IsLatest (slice_set run r v) c n (get_or latest c None)) (sym (length-set run r v))
      (latest_same run (slice_set run r v) c (length run) (get_or latest c None) (same_set run r e v (length run) h) (are.each c less));
}

pub over_set : (run : List Entry) (r : ℕ) (e v : Entry) → slice_get run r ≡ Some e → over (slice_set run r v) + over_one e.life ≡ over run + over_one v.life
over_set [] r e v g = absurd (let f : None ≡ Some e = g in cc)
over_set (x ∷ run) zero e v g =
    let f : Some x ≡ Some e = g in
    let h : x ≡ e = cc in omega (arith, ap (λ (z : Entry). over_one z.life) h)
over_set (x ∷ run) (suc r) e v g = omega (arith, over_set run r e v g)

-- One row more.
pub same_push : (run : List Entry) (v : Entry) (n : ℕ) → n ≤ length run → SameBelow run (run ++ (v ∷ [])) n
same_push run v n h = record { cowns = λ k less. ap (λ (o : Option Entry). option_map_or (λ (x : Entry). x.cowns) o []) (front_item run v k (omega arith)) }

kept_row_push_case : (run : List Entry) (kept_rows : List KeptRow) (v : Entry) (y : KeptRow) → AreKeptRowsOf run kept_rows → IsKeptRowOf v y
    → (k : ℕ) (f : Entry) (z : KeptRow)
    → (slice_get run k ≡ Some f) ⊎ ((k ≡ length run) × (v ≡ f)) → (slice_get kept_rows k ≡ Some z) ⊎ ((k ≡ length kept_rows) × (y ≡ z)) → IsKeptRowOf f z
kept_row_push_case run kept_rows v y are is k f z (inl p) (inl q) = are.each k f z p q
kept_row_push_case run kept_rows v y are is k f z (inl p) (inr q) = absurd (omega (arith, q.0, are.all, slice_get_within run k f p))
kept_row_push_case run kept_rows v y are is k f z (inr p) (inl q) = absurd (omega (arith, p.0, are.all, slice_get_within kept_rows k z q))
kept_row_push_case run kept_rows v y are is k f z (inr p) (inr q) = subst (λ (a : Entry). IsKeptRowOf a z) p.1 (subst (IsKeptRowOf v) q.1 is)

-- what is found on the cowns of the new row
before_new : (run : List Entry) (v : Entry) (cowns : ℕ) (latest : List (Option ℕ)) → AreLatest run cowns latest → All (λ c. c < cowns) v.cowns
    → AreBefore (run ++ (v ∷ [])) (length run) (map (λ c. get_or latest c None) v.cowns)
before_new run v cowns latest are below =
    let new = run ++ (v ∷ []) in
    let here : entry_cowns new (length run) ≡ v.cowns = cowns_at new (length run) v (last_item run v) in record {
      all = length-map v.cowns (λ c. get_or latest c None) ∙ ap length (sym here);
      each = λ k less.
          let inside : k < length v.cowns = subst (λ (cs : List ℕ). k < length cs) here less in
          let c = get_or v.cowns k 0 in
          subst (λ (cs : List ℕ). IsLatest new (get_or cs k 0) (length run) (get_or (map (λ c. get_or latest c None) v.cowns) k None)) (sym here)
          (subst (IsLatest new c (length run)) (sym (get_or-map (λ c. get_or latest c None) v.cowns k 0 None inside))
          (latest_same run new c (length run) (get_or latest c None) (same_push run v (length run) (omega arith)) (are.each c (below k 0 inside))));
    }

pub kept_rows_push : (run : List Entry) (kept_rows : List KeptRow) (v : Entry) (y : KeptRow) → AreKeptRowsOf run kept_rows → IsKeptRowOf v y
    → AreKeptRowsOf (run ++ (v ∷ [])) (kept_rows ++ (y ∷ []))
kept_rows_push run kept_rows v y are is = record {
  all = omega (arith, length-append kept_rows (y ∷ []), length-append run (v ∷ []), are.all);
  each = λ k f z g i. kept_row_push_case run kept_rows v y are is k f z (got_push run k v f g) (got_push kept_rows k y z i);
}

pub found_push : (run : List Entry) (kept_rows : List KeptRow) (found : List (Option ℕ)) (v : Entry) (y : KeptRow) (cowns : ℕ) (latest : List (Option ℕ))
    → AreKeptRowsOf run kept_rows → AreFound run kept_rows found → AreLatest run cowns latest → All (λ c. c < cowns) v.cowns → length v.cowns ≤ MOST_HELD
    → y.from ≡ length found → y.to ≡ length found + length v.cowns
    → AreFound (run ++ (v ∷ [])) (kept_rows ++ (y ∷ [])) (found ++ map (λ c. get_or latest c None) v.cowns)
found_push run kept_rows found v y cowns latest kept_rows_are are on below held from to =
    let more = map (λ c. get_or latest c None) v.cowns in
    let long = length-append found more in
    let new : length more ≡ length v.cowns = length-map v.cowns (λ c. get_or latest c None) in record {
      few = omega (arith, are.few, length-append run (v ∷ []), long, new, held);
      ordered = λ k z i. elim (got_push kept_rows k y z i) [
        | inl p ↦ are.ordered k z p
        | inr p ↦ omega (arith, ap (λ (a : KeptRow). a.from) p.1, ap (λ (a : KeptRow). a.to) p.1, from, to)
      ];
      within = λ k z i. elim (got_push kept_rows k y z i) [
        | inl p ↦ omega (arith, are.within k z p, long)
        | inr p ↦ omega (arith, ap (λ (a : KeptRow). a.to) p.1, to, long, new)
      ];
      before = λ k z i. elim (got_push kept_rows k y z i) [
        | inl p ↦
            let inside = slice_get_within kept_rows k z p in
            before_same run (run ++ (v ∷ [])) k (slice_range (found ++ more) z.from z.to) (same_push run v (suc k) (omega (arith, kept_rows_are.all, inside)))
            (subst (AreBefore run k) (sym (range_stays found more z.from z.to (are.ordered k z p) (are.within k z p))) (are.before k z p))
        | inr p ↦
            let part : slice_range (found ++ more) z.from z.to ≡ more =
            range_behind found more z.from z.to (sym (ap (λ (a : KeptRow). a.from) p.1) ∙ from)
            (sym (ap (λ (a : KeptRow). a.to) p.1) ∙ to ∙ ap (λ (n : ℕ). length found + n) (sym new)) in
            subst (AreBefore (run ++ (v ∷ [])) k) (sym part)
            (subst (λ (m : ℕ). AreBefore (run ++ (v ∷ [])) m more) (sym (p.0 ∙ kept_rows_are.all)) (before_new run v cowns latest on below))
      ];
    }

length-noted : (latest : List (Option ℕ)) (cs : List ℕ) (row : ℕ) → length (noted latest cs row) ≡ length latest
length-noted latest [] row = refl
length-noted latest (c ∷ cs) row = length-noted (slice_set latest c (Some row)) cs row ∙ length-set latest c (Some row)

other_place : (x : ℕ) (cs : List ℕ) (c : ℕ) → c ≢ x → (Contains cs c → ⊥) → (k : ℕ) → k < length (x ∷ cs) → get_or (x ∷ cs) k c ≡ c → ⊥
other_place x cs c n lacks zero less is = n (sym is)
other_place x cs c n lacks (suc k) less is = lacks (k, omega arith, is)

other_cown : (x : ℕ) (cs : List ℕ) (c : ℕ) → c ≢ x → (Contains cs c → ⊥) → Contains (x ∷ cs) c → ⊥
other_cown x cs c n lacks h = other_place x cs c n lacks h.0 h.1 h.2

-- a cown is among those of the row, or it isn't and what is known of it stays
noted_cases : (latest : List (Option ℕ)) (cs : List ℕ) (row c : ℕ) → c < length latest
    → (Contains cs c × (get_or (noted latest cs row) c None ≡ Some row)) ⊎ ((Contains cs c → ⊥) × (get_or (noted latest cs row) c None ≡ get_or latest c None))
noted_cases latest [] row c less = inr ((λ h. let f : h.0 < 0 = h.1 in omega arith), refl)
noted_cases latest (x ∷ cs) row c less =
    let rest = noted_cases (slice_set latest x (Some row)) cs row c (omega (arith, length-set latest x (Some row), less)) in
    elim rest [
      | inl p ↦ inl ((suc p.0.0, omega (arith, p.0.1), p.0.2), p.1)
      | inr p ↦ elim (cases_eq c x) [
        | inl e ↦
            inl (
              (zero, omega arith, sym e),
              p.1 ∙ subst (λ (k : ℕ). get_or (slice_set latest x (Some row)) k None ≡ Some row) (sym e)
                  (get_or-set_same latest x (Some row) None (subst (λ (k : ℕ). k < length latest) e less)),
            )
        | inr n ↦ inr (other_cown x cs c n p.0, p.1 ∙ get_or-set_other latest x c (Some row) None n)
      ]
    ]

pub latest_push : (run : List Entry) (v : Entry) (cowns : ℕ) (latest : List (Option ℕ)) → AreLatest run cowns latest
    → AreLatest (run ++ (v ∷ [])) cowns (noted latest v.cowns (length run))
latest_push run v cowns latest are =
    let new = run ++ (v ∷ []) in
    let n = length run in
    let long : suc n ≡ length new = omega (arith, length-append run (v ∷ [])) in
    let here : entry_cowns new n ≡ v.cowns = cowns_at new n v (last_item run v) in record {
      all = length-noted latest v.cowns n ∙ are.all;
      each = λ c less.
          subst (λ (m : ℕ). IsLatest new c m (get_or (noted latest v.cowns n) c None)) long
          (elim (noted_cases latest v.cowns n c (omega (arith, are.all, less))) [
            | inl p ↦
                subst (IsLatest new c (suc n)) (sym p.1)
                (omega arith, subst (λ (cs : List ℕ). Contains cs c) (sym here) p.0, λ r more below has. absurd (omega arith))
            | inr p ↦
                subst (IsLatest new c (suc n)) (sym p.1)
                (latest_passes new c n (get_or latest c None) (λ has. p.0 (subst (λ (cs : List ℕ). Contains cs c) here has))
                (latest_same run new c n (get_or latest c None) (same_push run v n (omega arith)) (are.each c less)))
          ]);
    }

pub over_push : (run : List Entry) (v : Entry) → over (run ++ (v ∷ [])) ≡ over run + over_one v.life
over_push [] v = omega arith
over_push (x ∷ run) v = omega (arith, over_push run v)
