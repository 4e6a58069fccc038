-- The map of the ends so far.
use Rattle.std.proofs.Common.{◌≡◌, ◌≢◌, ◌⊎◌, ℕ, ◌+◌, ◌<◌, ◌≤◌, List, [], ◌∷◌, ◌++◌, length, map, cond, refl, sym, ap, subst, ◌∙◌, inl, inr, Some, None, ℤ, arith}
use Rattle.std.proofs.Common.{Bool, true, false, Ordering, Less, Equal, Greater}
use Rattle.std.specs.Prelude.{Option, nat_eq}
use Rattle.std.specs.List.{Contains, AllByRecursion}
use Rattle.std.specs.List.Sorted.{IsStrictlySortedBy}
use Rattle.std.specs.BTreeMap.{insert_entry, is_at}
use Rattle.std.specs.Cmp.Lexicographic.{slice_cmp}
use Rattle.std.specs.Map.{lookup, keys_of}
use Rattle.std.specs.Ordering.{int_cmp, is_eq, match_ordering, ordering_then}
use Rattle.std.specs.declared.alloc.Global.{Global}
use Rattle.std.specs.declared.vec.Vec.{Vec}
use Rattle.std.proofs.lemmas.Cmp.{int_cmp_total, lists_total, tied_itself}
use Rattle.std.proofs.lemmas.Map.Lookups.{exact_signed}
use Rattle.boc_program.proofs.RisingNumbers.{has_first, has_later, first_or_later, none_in_none}
use Rattle.std.proofs.lemmas.Bool.{cases_lt, eqb-true}
use Rattle.boc_program.specs.declared.program.Program.{Program}
use Rattle.boc_front_rows.specs.declared.row.Front.{Front}
use Rattle.boc_front_rows.proofs.Mapped.{has_mapped, mapped_has}
use Rattle.boc_front_rows.proofs.Places.{old_or_last}
use Rattle.boc_all_ends.specs.declared.ends.Ends.{Ends}
use Rattle.boc_all_ends.specs.declared.ends.Extent.{Extent}
use Rattle.boc_all_ends.specs.declared.found.End.{End}
use Rattle.boc_all_ends.specs.Gathered.{IsOrderEnd, EndsHere, HaveEnds, noted, AreNoted, widened, NotesMore, Note, note_of, noted_in, HoldsEnds}

abbrev pub Key : Type 0
Key = Vec ℤ Global

abbrev pub Entries : Type 0
Entries = List (Key × Extent)

-- how a list of values compares to a key
abbrev pub beside : List ℤ → Key → Ordering
beside values k = slice_cmp int_cmp values k.items

abbrev pub by_values : Key → Key → Ordering
by_values k = beside k.items

-- ---- whether there is an item

pub none_if : (n : ℕ) (b : Bool) → b ≡ nat_eq n 0 → b ≡ true → n ≡ 0
none_if n b e is = eqb-true n 0 (sym e ∙ is)

pub some_if : (n : ℕ) (b : Bool) → b ≡ nat_eq n 0 → b ≡ false → n ≡ 0 → ⊥
some_if n b e is none = (let f : false ≡ true = sym is ∙ e ∙ ap (λ m. nat_eq m 0) none in cc)

-- ---- values that compare as equal are the same

both_equal : (a b : Ordering) → ordering_then a b ≡ Equal → (a ≡ Equal) × (b ≡ Equal)
both_equal Less b e = absurd (let f : Less ≡ Equal = e in cc)
both_equal Equal b e = (refl, e)
both_equal Greater b e = absurd (let f : Greater ≡ Equal = e in cc)

same_values : (v w : List ℤ) → slice_cmp int_cmp v w ≡ Equal → v ≡ w
same_values [] [] e = refl
same_values [] (y ∷ w) e = absurd (let f : Less ≡ Equal = e in cc)
same_values (x ∷ v) [] e = absurd (let f : Greater ≡ Equal = e in cc)
same_values (x ∷ v) (y ∷ w) e =
    let both = both_equal (int_cmp x y) (slice_cmp int_cmp v w) e in
    λ i. exact_signed x y both.0 i ∷ same_values v w both.1 i

equal_from : (o : Ordering) → is_eq o ≡ true → o ≡ Equal
equal_from Less e = absurd (let f : false ≡ true = e in cc)
equal_from Equal e = refl
equal_from Greater e = absurd (let f : false ≡ true = e in cc)

alike_same : (v w : List ℤ) → is_eq (slice_cmp int_cmp v w) ≡ true → v ≡ w
alike_same v w e = same_values v w (equal_from (slice_cmp int_cmp v w) e)

same_alike : (v w : List ℤ) → v ≡ w → is_eq (slice_cmp int_cmp v w) ≡ true
same_alike v w e = subst (λ (u : List ℤ). is_eq (slice_cmp int_cmp v u) ≡ true) e (ap is_eq (tied_itself (lists_total int_cmp_total) v))

true_or_false : (b : Bool) → (b ≡ true) ⊎ (b ≡ false)
true_or_false true = inl refl
true_or_false false = inr refl

not_alike : (v w : List ℤ) → v ≢ w → is_eq (slice_cmp int_cmp v w) ≡ false
not_alike v w n =
    elim (true_or_false (is_eq (slice_cmp int_cmp v w))) [
      | inl e ↦ absurd (n (alike_same v w e))
      | inr e ↦ e
    ]

-- ---- an entry more

-- what is noted of these values among entries
abbrev pub among : List ℤ → Entries → Option Extent
among values es = lookup (is_at (beside values)) es

cond_true : (b : Bool) (x y : Option Extent) → b ≡ true → cond b x y ≡ x
cond_true true x y e = refl
cond_true false x y e = absurd (let f : false ≡ true = e in cc)

cond_false : (b : Bool) (x y : Option Extent) → b ≡ false → cond b x y ≡ y
cond_false true x y e = absurd (let f : true ≡ false = e in cc)
cond_false false x y e = refl

module _ (k : Key) (x : Extent) where
  -- by how the key compares to the first
  put_by : Ordering → Key × Extent → Entries → Entries
  put_by o e es = match_ordering o ((k, x) ∷ (e ∷ es)) ((e.0, x) ∷ es) (e ∷ insert_entry by_values es k x)

  here_by : (o : Ordering) (e : Key × Extent) (es : Entries) → by_values k e.0 ≡ o → among k.items (insert_entry by_values es k x) ≡ Some x
      → among k.items (match_ordering o ((k, x) ∷ (e ∷ es)) ((e.0, x) ∷ es) (e ∷ insert_entry by_values es k x)) ≡ Some x
  here_by Less e es is later = cond_true (is_eq (by_values k k)) (Some x) (among k.items (e ∷ es)) (same_alike k.items k.items refl)
  here_by Equal e es is later = cond_true (is_eq (by_values k e.0)) (Some x) (among k.items es) (ap is_eq is)
  here_by Greater e es is later =
      cond_false (is_eq (by_values k e.0)) (Some e.1) (among k.items (insert_entry by_values es k x)) (ap is_eq is) ∙ later

  pub put_here : (es : Entries) → among k.items (insert_entry by_values es k x) ≡ Some x
  put_here [] = cond_true (is_eq (by_values k k)) (Some x) None (same_alike k.items k.items refl)
  put_here (e ∷ es) = here_by (by_values k e.0) e es refl (put_here es)

  other_by : (o : Ordering) (e : Key × Extent) (es : Entries) (values : List ℤ) → by_values k e.0 ≡ o → values ≢ k.items
      → among values (insert_entry by_values es k x) ≡ among values es
      → among values (match_ordering o ((k, x) ∷ (e ∷ es)) ((e.0, x) ∷ es) (e ∷ insert_entry by_values es k x)) ≡ among values (e ∷ es)
  other_by Less e es values is n later = cond_false (is_eq (beside values k)) (Some x) (among values (e ∷ es)) (not_alike values k.items n)
  other_by Equal e es values is n later =
      let same : k.items ≡ e.0.items = same_values k.items e.0.items is in
      let not : is_eq (beside values e.0) ≡ false = not_alike values e.0.items (λ q. n (q ∙ sym same)) in
      cond_false (is_eq (beside values e.0)) (Some x) (among values es) not
      ∙ sym (cond_false (is_eq (beside values e.0)) (Some e.1) (among values es) not)
  other_by Greater e es values is n later = ap (λ o. cond (is_eq (beside values e.0)) (Some e.1) o) later

  pub put_elsewhere : (es : Entries) (values : List ℤ) → values ≢ k.items → among values (insert_entry by_values es k x) ≡ among values es
  put_elsewhere [] values n = cond_false (is_eq (beside values k)) (Some x) None (not_alike values k.items n)
  put_elsewhere (e ∷ es) values n = other_by (by_values k e.0) e es values refl n (put_elsewhere es values n)

-- ---- what is among entries in order

pub among_has : (values : List ℤ) (es : Entries) (x : Extent) → among values es ≡ Some x
    → (e : Key × Extent) × Contains es e × (e.0.items ≡ values) × (e.1 ≡ x)
among_has values [] x is = absurd (let f : None ≡ Some x = is in cc)
among_has values (e ∷ es) x is =
    elim (true_or_false (is_eq (beside values e.0))) [
      | inl here ↦ (
        e,
        has_first e es,
        sym (alike_same values e.0.items here),
        (let f : Some e.1 ≡ Some x = sym (cond_true (is_eq (beside values e.0)) (Some e.1) (among values es) here) ∙ is in cc),
      )
      | inr other ↦
          let r = among_has values es x (sym (cond_false (is_eq (beside values e.0)) (Some e.1) (among values es) other) ∙ is) in
          (r.0, has_later e r.0 es r.1, r.2, r.3)
    ]

all_less : (d : Key) (es : Entries) (e : Key × Extent) → AllByRecursion (λ y. by_values d y ≡ Less) (keys_of es) → Contains es e → by_values d e.0 ≡ Less
all_less d [] e all h = absurd (none_in_none e h)
all_less d (x ∷ es) e all h =
    elim (first_or_later x e es h) [
      | inl q ↦ subst (λ (z : Key × Extent). by_values d z.0 ≡ Less) q all.0
      | inr later ↦ all_less d es e all.1 later
    ]

-- an entry in order is found
pub found_in_order : (es : Entries) → IsStrictlySortedBy by_values (keys_of es) → (e : Key × Extent) → Contains es e → among e.0.items es ≡ Some e.1
unfolding IsStrictlySortedBy
found_in_order [] sorted e h = absurd (none_in_none e h)
found_in_order (d ∷ es) sorted e h =
    elim (first_or_later d e es h) [
      | inl q ↦ subst (λ (z : Key × Extent). among z.0.items (d ∷ es) ≡ Some z.1) q
          (cond_true (is_eq (beside d.0.items d.0)) (Some d.1) (among d.0.items es) (same_alike d.0.items d.0.items refl))
      | inr later ↦
          let less = all_less d.0 es e sorted.0 later in
          let apart : e.0.items ≢ d.0.items = λ q.
          (let f : Less ≡ Equal = sym less ∙ equal_from (slice_cmp int_cmp d.0.items e.0.items) (same_alike d.0.items e.0.items (sym q)) in cc) in
          cond_false (is_eq (beside e.0.items d.0)) (Some d.1) (among e.0.items es) (not_alike e.0.items d.0.items apart)
          ∙ found_in_order es sorted.1 e later
    ]

less_items : (d : Key) (es : Entries) → AllByRecursion (λ y. by_values d y ≡ Less) (keys_of es)
    → AllByRecursion (λ (y : List ℤ). slice_cmp int_cmp d.items y ≡ Less) (map (λ (e : Key × Extent). e.0.items) es)
less_items d [] all = tt
less_items d (x ∷ es) all = (all.0, less_items d es all.1)

items_in_order : (es : Entries) → IsStrictlySortedBy by_values (keys_of es)
    → IsStrictlySortedBy (slice_cmp int_cmp) (map (λ (e : Key × Extent). e.0.items) es)
unfolding IsStrictlySortedBy
items_in_order [] sorted = tt
items_in_order (d ∷ es) sorted = (less_items d.0 es sorted.0, items_in_order es sorted.1)

-- ---- the ends in order

same_maps : (all : List End) (es : Entries) → map note_of all ≡ map noted_in es
    → map (λ (e : End). e.values.items) all ≡ map (λ (e : Key × Extent). e.0.items) es
same_maps [] [] q = refl
same_maps [] (e ∷ es) q = absurd (let f : [] ≡ noted_in e ∷ map noted_in es = q in cc)
same_maps (a ∷ all) [] q = absurd (let f : note_of a ∷ map note_of all ≡ [] = q in cc)
same_maps (a ∷ all) (e ∷ es) q =
    let f : note_of a ∷ map note_of all ≡ noted_in e ∷ map noted_in es = q in
    let h : note_of a ≡ noted_in e = cc in
    let t : map note_of all ≡ map noted_in es = cc in
    ap (λ (z : Note). z.values ∷ map (λ (x : End). x.values.items) all) h ∙ ap (λ zs. e.0.items ∷ zs) (same_maps all es t)

pub holds_ends : (ends : Ends) (all : List End) → map note_of all ≡ map noted_in ends.found.entries
    → IsStrictlySortedBy by_values (keys_of ends.found.entries) → HoldsEnds ends all
holds_ends ends all same sorted = record {
  each = λ e h.
      let x = mapped_has noted_in ends.found.entries (note_of e) (subst (λ ns. Contains ns (note_of e)) same (has_mapped note_of all e h)) in
      subst (λ (n : Note). noted ends n.values ≡ Some (record { least = n.least; most = n.most })) x.2
      (found_in_order ends.found.entries sorted x.0 x.1);
  every = λ values x is.
      let e = among_has values ends.found.entries x is in
      let a = mapped_has note_of all (noted_in e.0) (subst (λ ns. Contains ns (noted_in e.0)) (sym same) (has_mapped noted_in ends.found.entries e.0 e.1)) in (
        a.0,
        a.1,
        ap (λ (n : Note). n.values) a.2 ∙ e.2,
        ap (λ (n : Note). n.least) a.2 ∙ ap (λ (y : Extent). y.least) e.3,
        ap (λ (n : Note). n.most) a.2 ∙ ap (λ (y : Extent). y.most) e.3,
      );
  in_order = subst (IsStrictlySortedBy (slice_cmp int_cmp)) (sym (same_maps all ends.found.entries same)) (items_in_order ends.found.entries sorted);
}

-- ---- one end more

pub notes_more : (old new : Ends) (key : Key) (values : List ℤ) (rows : ℕ) (x : Extent) → key.items ≡ values
    → new.found.entries ≡ insert_entry by_values old.found.entries key x → x ≡ widened (noted old values) rows → NotesMore old values rows new
notes_more old new key values rows x is put wide = record {
  here = ap (among values) put ∙ ap (λ vs. among vs (insert_entry by_values old.found.entries key x)) (sym is)
      ∙ put_here key x old.found.entries ∙ ap (λ z. Some z) wide;
  elsewhere = λ others apart. ap (among others) put ∙ put_elsewhere key x old.found.entries others (λ q. apart (q ∙ is));
}

pub wide_some : (old : Ends) (values : List ℤ) (rows l : ℕ) (x : Extent) → noted old values ≡ Some x → l ≡ x.least
    → record { least = l; most = rows } ≡ widened (noted old values) rows
wide_some old values rows l x is e =
    ap (λ n. let w : Extent = record { least = n; most = rows } in w) e ∙ ap (λ o. widened o rows) (sym is)

pub wide_none : (old : Ends) (values : List ℤ) (rows l : ℕ) → noted old values ≡ None → l ≡ rows
    → record { least = l; most = rows } ≡ widened (noted old values) rows
wide_none old values rows l is e =
    ap (λ n. let w : Extent = record { least = n; most = rows } in w) e ∙ ap (λ o. widened o rows) (sym is)

some_or_none : (o : Option Extent) → ((x : Extent) × (o ≡ Some x)) ⊎ (o ≡ None)
some_or_none None = inr refl
some_or_none (Some x) = inl (x, refl)

-- which ends are noted while those of so many rows are, of which some have come
pub record AreNotedSoFar (p : Program) (rows : ℕ) (fronts : List Front) (ends : Ends) : Type 0 where
  pub least : (values : List ℤ) (x : Extent) → noted ends values ≡ Some x → IsOrderEnd p x.least values
  pub most : (values : List ℤ) (x : Extent) → noted ends values ≡ Some x → IsOrderEnd p x.most values
  pub low : (values : List ℤ) (x : Extent) → noted ends values ≡ Some x → (x.least ≤ x.most) × (x.most ≤ rows)
  pub all : (k : ℕ) (values : List ℤ) → k < rows → IsOrderEnd p k values
      → (x : Extent) × (noted ends values ≡ Some x) × (x.least ≤ k) × (k ≤ x.most)
  pub here : (values : List ℤ) → EndsHere fronts values → (x : Extent) × (noted ends values ≡ Some x) × (x.least ≤ rows) × (rows ≤ x.most)

pub none_so_far : (p : Program) (rows : ℕ) (ends : Ends) → AreNoted p rows ends → AreNotedSoFar p rows [] ends
none_so_far p rows ends n = record {
  least = n.least;
  most = n.most;
  low = λ values x is. let h = n.low values x is in (h.0, omega (arith, h.1));
  all = n.all;
  here = λ values h. absurd (none_in_none h.front h.among);
}

-- a front that has no end here
pub skipped : (p : Program) (rows : ℕ) (fronts : List Front) (f : Front) (ends : Ends) → f.live.items ≢ [] → AreNotedSoFar p rows fronts ends
    → AreNotedSoFar p rows (fronts ++ (f ∷ [])) ends
skipped p rows fronts f ends lives n = record {
  least = n.least;
  most = n.most;
  low = n.low;
  all = n.all;
  here = λ values h.
      elim (old_or_last fronts f h.front h.among) [
        | inl old ↦ n.here values (record { front = h.front; among = old; over = h.over; values_are = h.values_are })
        | inr e ↦ absurd (lives (ap (λ (z : Front). z.live.items) e ∙ h.over))
      ];
}

module _ (p : Program) (rows : ℕ) (fronts : List Front) (f : Front) (old new : Ends) (n : AreNotedSoFar p rows fronts old)
    (more : NotesMore old f.values.items rows new) (is_end : IsOrderEnd p rows f.values.items) where
  abbrev mine : List ℤ
  mine = f.values.items

  -- what is noted now of these values
  record Now (values : List ℤ) (x : Extent) : Type 0 where
    least : IsOrderEnd p x.least values
    most : IsOrderEnd p x.most values
    low : (x.least ≤ x.most) × (x.most ≤ rows)

  wide : (o : Option Extent) → noted old mine ≡ o → Now mine (widened o rows)
  wide None is = record { least = is_end; most = is_end; low = (omega arith, omega arith) }
  wide (Some x) is =
      let h = n.low mine x is in
      record { least = n.least mine x is; most = is_end; low = (omega (arith, h.0, h.1), omega arith) }

  now : (values : List ℤ) (x : Extent) → noted new values ≡ Some x → Now values x
  now values x is =
      elim (true_or_false (is_eq (slice_cmp int_cmp values mine))) [
        | inl e ↦
            let same = alike_same values mine e in
            let w : widened (noted old mine) rows ≡ x =
            (let g : Some (widened (noted old mine) rows) ≡ Some x = sym more.here ∙ ap (noted new) (sym same) ∙ is in cc) in
            subst (λ vs. Now vs x) (sym same) (subst (λ z. Now mine z) w (wide (noted old mine) refl))
        | inr e ↦
            let apart : values ≢ mine = λ q. (let g : false ≡ true = sym e ∙ same_alike values mine q in cc) in
            let was = sym (more.elsewhere values apart) ∙ is in
            record { least = n.least values x was; most = n.most values x was; low = n.low values x was }
      ]

  -- what was noted before goes on
  still : (values : List ℤ) (k : ℕ) → k ≤ rows → (x : Extent) × (noted old values ≡ Some x) × (x.least ≤ k) × (k ≤ x.most)
      → (x : Extent) × (noted new values ≡ Some x) × (x.least ≤ k) × (k ≤ x.most)
  still values k few h =
      elim (true_or_false (is_eq (slice_cmp int_cmp values mine))) [
        | inl e ↦
            let same = alike_same values mine e in
            let x : Extent = record { least = h.0.least; most = rows } in (
              x,
              ap (noted new) same ∙ more.here ∙ ap (λ o. Some (widened o rows)) (ap (noted old) (sym same) ∙ h.1),
              h.2,
              few,
            )
        | inr e ↦
            let apart : values ≢ mine = λ q. (let g : false ≡ true = sym e ∙ same_alike values mine q in cc) in
            (h.0, more.elsewhere values apart ∙ h.1, h.2, h.3)
      ]

  here_now : (o : Option Extent) → noted old mine ≡ o → (x : Extent) × (noted new mine ≡ Some x) × (x.least ≤ rows) × (rows ≤ x.most)
  here_now None is =
      (record { least = rows; most = rows }, more.here ∙ ap (λ o. Some (widened o rows)) is, omega arith, omega arith)
  here_now (Some x) is =
      let h = n.low mine x is in
      (record { least = x.least; most = rows }, more.here ∙ ap (λ o. Some (widened o rows)) is, omega (arith, h.0, h.1), omega arith)

  pub one_noted : AreNotedSoFar p rows (fronts ++ (f ∷ [])) new
  one_noted = record {
    least = λ values x is. (now values x is).least;
    most = λ values x is. (now values x is).most;
    low = λ values x is. (now values x is).low;
    all = λ k values low e. still values k (omega (arith, low)) (n.all k values low e);
    here = λ values h.
        elim (old_or_last fronts f h.front h.among) [
          | inl was ↦ still values rows (omega arith)
              (n.here values (record { front = h.front; among = was; over = h.over; values_are = h.values_are }))
          | inr e ↦
              let same : mine ≡ values = ap (λ (z : Front). z.values.items) e ∙ h.values_are in
              subst (λ vs. (x : Extent) × (noted new vs ≡ Some x) × (x.least ≤ rows) × (rows ≤ x.most)) same (here_now (noted old mine) refl)
        ];
  }

-- all ends of so many rows have been noted
pub all_noted : (p : Program) (rows : ℕ) (fronts : List Front) (ends : Ends) → HaveEnds p rows fronts → AreNotedSoFar p rows fronts ends
    → AreNoted p (rows + 1) ends
all_noted p rows fronts ends have n = record {
  least = n.least;
  most = n.most;
  low = λ values x is. let h = n.low values x is in (h.0, omega (arith, h.1));
  all = λ k values low e.
      elim (cases_lt k rows) [
        | inl less ↦ n.all k values less e
        | inr more ↦
            let same : k ≡ rows = omega (arith, low, more) in
            let x = n.here values ((have values).1 (subst (λ m. IsOrderEnd p m values) same e)) in
            (x.0, x.1, omega (arith, x.2, same), omega (arith, x.3, same))
      ];
}

-- a front of a layer that has no live row has the end of a whole order
pub front_ends : (p : Program) (rows : ℕ) (fronts : List Front) (f : Front) → HaveEnds p rows fronts → Contains fronts f → f.live.items ≡ []
    → IsOrderEnd p rows f.values.items
front_ends p rows fronts f have among dead = (have f.values.items).0 (record { front = f; among = among; over = dead; values_are = refl })
