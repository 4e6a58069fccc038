-- The room in the lists, as a slot is admitted and given back.
use Rattle.std.proofs.Common.{◌≡◌, ◌≢◌, ℕ, zero, suc, ◌+◌, ◌^◌, ◌<◌, ◌≤◌, true, false, List, [], ◌∷◌, ◌++◌, length}
use Rattle.std.proofs.Common.{map, take, set, get_or, refl, sym, ◌∙◌, ap, subst}
use Rattle.std.proofs.Common.{inl, inr, arith}
use Rattle.std.specs.Prelude.{slice_get, Option, Some, None, IsSome, replicate, Result, Ok, Err, OnErr}
use Rattle.std.specs.List.{sum_by}
use Rattle.std.specs.Vec.{vec_len, vec_capacity}
use Rattle.std.specs.declared.vec.Vec.{Vec}
use Rattle.std.specs.declared.alloc.Global.{Global}
use Rattle.std.proofs.lemmas.List.{length-map}
use Rattle.std.proofs.Math.Seq.{map-set_same}
use Rattle.boc_chain.specs.declared.request.Request.{Request}
use Rattle.boc_chain.specs.declared.held.Held.{Held}
use Rattle.boc_chain.specs.Chain.{Place, times, cowns_of, cown}
use Rattle.boc_chain.specs.Kept.{place_at, place_in, awaits, HasRoom, IsKept}
use Rattle.boc_chain.specs.Tables.{IsLonger}
use Rattle.boc_chain.proofs.Longer.{sum_longer}
use Rattle.boc_chain.proofs.Got.{got}
use Rattle.boc_program.proofs.ChangedItems.{set_same, set_other, item_at}
use Rattle.boc_chain.proofs.Places.{stands}
use Rattle.boc_chain.proofs.Counted.{awaited_less_where_gone, times_take, times_next_other}
use Rattle.boc_chain.proofs.Lines.{same_or_not}

-- the list of k was changed
pub room_changed : (lines : List (Vec Request Global)) (k : ℕ) (v w : Vec Request Global) (more more' : ℕ → ℕ) → HasRoom lines more → k < length lines
    → w ≡ get_or lines k w
    → (vec_len w + more k ≤ vec_capacity w → vec_len v + more' k ≤ vec_capacity v) → ((c : ℕ) → c ≢ k → more' c ≤ more c) → HasRoom (set lines k v) more'
room_changed lines k v w more more' h inside is here others = λ c u e.
    elim (same_or_not c k) [
      | inl q ↦
          let one : v ≡ u = (let f : Some v ≡ Some u = sym (set_same lines k v inside) ∙ ap (slice_get (set lines k v)) (sym q) ∙ e in cc) in
          subst (λ (z : Vec Request Global). vec_len z + more' c ≤ vec_capacity z) one
          (subst (λ (n : ℕ). vec_len v + more' n ≤ vec_capacity v) (sym q) (here (h k w (got lines k w inside ∙ ap (λ z. Some z) (sym is)))))
      | inr n ↦ (let r = h c u (sym (set_other lines k c v n) ∙ e) in let m = others c n in omega arith)
    ]

pub room_less : (lines : List (Vec Request Global)) (more more' : ℕ → ℕ) → HasRoom lines more → ((c : ℕ) → more' c ≤ more c) → HasRoom lines more'
room_less lines more more' h less = λ c v e. let r = h c v e in let m = less c in omega arith

-- as many lists, where their requests are the same
pub as_many : (lines lines' : List (Vec Request Global)) → map (λ v. v.items) lines' ≡ map (λ v. v.items) lines → length lines' ≡ length lines
as_many lines lines' e = sym (length-map lines' (λ v. v.items)) ∙ ap length e ∙ length-map lines (λ v. v.items)

-- and where the cowns were
pub kept_admitted : (lines lines' : List (Vec Request Global)) (places places' : List (Option Held)) (slot : ℕ) (cs : List ℕ) → IsKept lines places
    → map (λ v. v.items) lines' ≡ map (λ v. v.items) lines
    → ((c : ℕ) → 0 < times c cs → c < length (map (λ v. v.items) lines)) → HasRoom lines' (λ c. sum_by (awaits c) places + times c cs)
    → place_at places' slot ≡ Some (record { cowns = cs; exchanged = 0 }) → ((s : ℕ) → s ≢ slot → place_at places' s ≡ place_at places s)
    → ((c : ℕ) → sum_by (awaits c) places' ≡ sum_by (awaits c) places + times c cs) → IsKept lines' places'
kept_admitted lines lines' places places' slot cs k e inside room here others awaited = record {
  in_range = λ s i below.
      let l = as_many lines lines' e in
      elim (same_or_not s slot) [
        | inl q ↦
            let is : place_at places' s ≡ Some (record { cowns = cs; exchanged = 0 }) = ap (place_at places') q ∙ here in
            let cowns : cowns_of (place_at places' s) ≡ cs = ap cowns_of is in
            let short : i < length cs = subst (λ (ds : List ℕ). i < length ds) cowns below in
            let c : cown (place_at places' s) i ≡ get_or cs i 0 = ap (λ p. cown p i) is in
            let r = inside (get_or cs i 0) (stands cs i short) in
            let m = length-map lines (λ (v : Vec Request Global). v.items) in
            omega arith
        | inr n ↦
            let is = others s n in
            let r = k.in_range s i (subst (λ (p : Option Place). i < length (cowns_of p)) is below) in
            let c : cown (place_at places' s) i ≡ cown (place_at places s) i = ap (λ p. cown p i) is in
            omega arith
      ];
  room = room_less lines' (λ c. sum_by (awaits c) places + times c cs) (λ c. sum_by (awaits c) places') room (λ c. let a = awaited c in omega arith);
}

-- the slot of what was admitted
pub within : (places : List (Option Held)) (slot : ℕ) → IsSome (place_at places slot) → slot < length places
within [] slot h = absurd (let f : false ≡ true = h in cc)
within (p ∷ places) zero h = omega arith
within (p ∷ places) (suc slot) h = let e = within places slot h in omega arith

pub gone_here : (places : List (Option Held)) (slot : ℕ) → place_at (set places slot None) slot ≡ None
gone_here [] slot = refl
gone_here (p ∷ places) zero = refl
gone_here (p ∷ places) (suc slot) = gone_here places slot

-- what is kept as a slot is given back
pub kept_gone : (lines : List (Vec Request Global)) (places : List (Option Held)) (slot : ℕ) → IsKept lines places → slot < length places
    → IsKept lines (set places slot None)
kept_gone lines places slot k inside = record {
  in_range = λ s i below.
      elim (same_or_not s slot) [
        | inl q ↦ absurd (let e : cowns_of (place_at (set places slot None) s) ≡ [] = ap (λ n. cowns_of (place_at (set places slot None) n)) q
            ∙ ap cowns_of (gone_here places slot) in
            let z : i < 0 = subst (λ (ds : List ℕ). i < length ds) e below in omega arith)
        | inr n ↦
            let is : place_at (set places slot None) s ≡ place_at places s = ap place_in (set_other places slot s None n) in
            let r = k.in_range s i (subst (λ (p : Option Place). i < length (cowns_of p)) is below) in
            let c : cown (place_at (set places slot None) s) i ≡ cown (place_at places s) i = ap (λ p. cown p i) is in
            omega arith
      ];
  room = room_less lines (λ c. sum_by (awaits c) places) (λ c. sum_by (awaits c) (set places slot None)) k.room
      (λ c. awaited_less_where_gone places slot c inside);
}

-- a vacant place of the table
pub vacant_there : (places : List (Option Held)) (slot : ℕ) → slot < length places → place_at places slot ≡ None → slice_get places slot ≡ Some None
vacant_there [] slot h e = absurd (omega arith)
vacant_there (None ∷ places) zero h e = refl
vacant_there (Some x ∷ places) zero h e =
    absurd (let p : Place = record { cowns = x.cowns.items; exchanged = x.exchanged } in let f : Some p ≡ None = e in cc)
vacant_there (p ∷ places) (suc slot) h e = vacant_there places slot (omega arith) e

-- a longer table has the same places, and awaits as much
vacant_behind : (places : List (Option Held)) (n s : ℕ) → place_at (places ++ replicate n None) s ≡ place_at places s
vacant_behind [] zero s = refl
vacant_behind [] (suc n) zero = refl
vacant_behind [] (suc n) (suc s) = vacant_behind [] n s
vacant_behind (p ∷ places) n zero = refl
vacant_behind (p ∷ places) n (suc s) = vacant_behind places n s

pub place_longer : (places places' : List (Option Held)) → IsLonger places places' → (s : ℕ) → place_at places' s ≡ place_at places s
place_longer places places' h s = ap (λ ps. place_at ps s) h.1 ∙ vacant_behind places h.0 s

pub awaits_longer : (places places' : List (Option Held)) → IsLonger places places' → (c : ℕ) → sum_by (awaits c) places' ≡ sum_by (awaits c) places
awaits_longer places places' h c = ap (sum_by (awaits c)) h.1 ∙ sum_longer (awaits c) refl places h.0

-- what is kept where there is more room, and more places
pub kept_longer : (lines lines' : List (Vec Request Global)) (places places' : List (Option Held)) (cs : List ℕ) → IsKept lines places
    → map (λ v. v.items) lines' ≡ map (λ v. v.items) lines → HasRoom lines' (λ c. sum_by (awaits c) places + times c cs) → IsLonger places places'
    → IsKept lines' places'
kept_longer lines lines' places places' cs k e room longer = record {
  in_range = λ s i below.
      let is = place_longer places places' longer s in
      let r = k.in_range s i (subst (λ (p : Option Place). i < length (cowns_of p)) is below) in
      let c : cown (place_at places' s) i ≡ cown (place_at places s) i = ap (λ p. cown p i) is in
      let l = as_many lines lines' e in
      omega arith;
  room = room_less lines' (λ c. sum_by (awaits c) places + times c cs) (λ c. sum_by (awaits c) places') room
      (λ c. let a = awaits_longer places places' longer c in omega arith);
}

-- making room for the cowns cs, of which i have room, in lists that were `first`
module _ (first lines : List (Vec Request Global)) (places : List (Option Held)) (cs : List ℕ) (i : ℕ) (below : i < length cs)
    (distinct : (c : ℕ) → times c cs ≤ 1) (range : (c : ℕ) → 0 < times c cs → c < length first)
    (kept : map (λ v. v.items) lines ≡ map (λ v. v.items) first) (room : HasRoom lines (λ c. sum_by (awaits c) places + times c (take i cs))) where
  pub line_inside : get_or cs i 0 < length lines
  line_inside = let r = range (get_or cs i 0) (stands cs i below) in let l = as_many first lines kept in omega arith

  pub awaited_fits : sum_by (awaits (get_or cs i 0)) places < 2 ^ 63
  awaited_fits = let f = item_at lines (get_or cs i 0) line_inside in let r = room (get_or cs i 0) f.0 f.1 in let b = f.0.small in omega arith

  pub lists_same : (v w : Vec Request Global) → w ≡ get_or lines (get_or cs i 0) w → v.items ≡ w.items
      → map (λ u. u.items) (set lines (get_or cs i 0) v) ≡ map (λ u. u.items) first
  lists_same v w is e = map-set_same (λ u. u.items) lines (get_or cs i 0) v w (e ∙ ap (λ u. u.items) is) ∙ kept

  pub room_made : (v w : Vec Request Global) (a : ℕ) → w ≡ get_or lines (get_or cs i 0) w → a ≡ sum_by (awaits (get_or cs i 0)) places
      → vec_len v + (a + 1) ≤ vec_capacity v
      → HasRoom (set lines (get_or cs i 0) v) (λ c. sum_by (awaits c) places + times c (take (i + 1) cs))
  room_made v w a is sum more = room_changed lines (get_or cs i 0) v w (λ c. sum_by (awaits c) places + times c (take i cs))
      (λ c. sum_by (awaits c) places + times c (take (i + 1) cs)) room line_inside is
      (λ old. let t = times_take (get_or cs i 0) cs (i + 1) in let o = distinct (get_or cs i 0) in omega arith)
      (λ c n. let t = times_next_other c cs i below (λ e. n (sym e)) in omega arith)

  pub room_refused : (v w : Vec Request Global) → w ≡ get_or lines (get_or cs i 0) w → vec_len v ≡ vec_len w → vec_capacity w ≤ vec_capacity v
      → HasRoom (set lines (get_or cs i 0) v) (λ c. sum_by (awaits c) places)
  room_refused v w is len cap = room_changed lines (get_or cs i 0) v w (λ c. sum_by (awaits c) places + times c (take i cs)) (λ c. sum_by (awaits c) places)
      room line_inside is
      (λ old. omega arith)
      (λ c n. omega arith)

-- a fact, said of a refusal
pub on_err : {X E P : Type 0} (r : Result X E) → P → OnErr r P
on_err (Ok x) p = tt
on_err (Err e) p = p
