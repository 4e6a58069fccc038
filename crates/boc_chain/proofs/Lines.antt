-- One list of the chains changed, and what is still to come into it.
use Rattle.std.proofs.Common.{◌≡◌, ℕ, zero, suc, ◌+◌, ◌<◌, ◌≤◌, ◌≢◌, ◌⊎◌, true, false, cond, eqb, List, [], ◌∷◌, length, map, drop, set, get_or, refl, sym, ◌∙◌}
use Rattle.std.proofs.Common.{ap, subst, inl, inr, arith, add-one, length-set}
use Rattle.std.specs.Prelude.{slice_get, Option, Some, None}
use Rattle.std.specs.List.{sum_by}
use Rattle.std.specs.Vec.{vec_len, vec_capacity}
use Rattle.std.specs.declared.vec.Vec.{Vec}
use Rattle.std.specs.declared.alloc.Global.{Global}
use Rattle.std.proofs.lemmas.List.Sums.{sum_by-set}
use Rattle.std.proofs.lemmas.Bool.Decides.{Decides-eqb}
use Rattle.boc_chain.specs.declared.request.Request.{Request}
use Rattle.boc_chain.specs.declared.held.Held.{Held}
use Rattle.boc_chain.specs.Chain.{Place, times, list, cowns_of, cown, one_more}
use Rattle.boc_chain.specs.Kept.{place_at, awaits, IsKept}
use Rattle.boc_program.proofs.ChangedItems.{set_same, set_other}
use Rattle.boc_chain.proofs.Got.{got}

map_changed : (lines : List (Vec Request Global)) (c : ℕ) (v : Vec Request Global)
    → map (λ u. u.items) (set lines c v) ≡ set (map (λ u. u.items) lines) c v.items
map_changed [] c v = refl
map_changed (x ∷ lines) zero v = refl
map_changed (x ∷ lines) (suc c) v = ap (λ ys. x.items ∷ ys) (map_changed lines c v)

pub list_at : (lines : List (Vec Request Global)) (c : ℕ) (d : Vec Request Global) → c < length lines
    → list (map (λ u. u.items) lines) c ≡ (get_or lines c d).items
list_at [] c d h = absurd (omega arith)
list_at (x ∷ lines) zero d h = refl
list_at (x ∷ lines) (suc c) d h = list_at lines c d (omega arith)

-- the lists after the one of cown k was changed by f
pub one_line : (lines : List (Vec Request Global)) (c k : ℕ) (v w : Vec Request Global) (f : List Request → List Request) → c ≡ k → k < length lines
    → w ≡ get_or lines c w → v.items ≡ f w.items
    → map (λ u. u.items) (set lines c v) ≡ set (map (λ u. u.items) lines) k (f (list (map (λ u. u.items) lines) k))
one_line lines c k v w f e h is change =
    map_changed lines c v ∙ ap (set (map (λ u. u.items) lines) c)
    (change ∙ ap f (ap (λ u. u.items) is ∙ sym (list_at lines c w (subst (λ (n : ℕ). n < length lines) (sym e) h))))
    ∙ ap (λ n. set (map (λ u. u.items) lines) n (f (list (map (λ u. u.items) lines) n))) e

-- a slot at which something was admitted
pub found_at : (places : List (Option Held)) (slot : ℕ) (n : ℕ) → n < length (cowns_of (place_at places slot))
    → (h : Held) × (slice_get places slot ≡ Some (Some h)) × (slot < length places)
found_at [] slot n h = absurd (omega arith)
found_at (None ∷ places) zero n h = absurd (omega arith)
found_at (Some held ∷ places) zero n h = (held, refl, omega arith)
found_at (p ∷ places) (suc slot) n h = let f = found_at places slot n h in (f.0, f.1, omega (arith, f.2))

pub read_at : (places : List (Option Held)) (slot : ℕ) (h : Held) (d : Option Held) → slice_get places slot ≡ Some (Some h) → get_or places slot d ≡ Some h
read_at [] slot h d e = absurd (let f : None ≡ Some (Some h) = e in cc)
read_at (p ∷ places) zero h d e = (let f : Some p ≡ Some (Some h) = e in cc)
read_at (p ∷ places) (suc slot) h d e = read_at places slot h d e

pub same_or_not : (x y : ℕ) → (x ≡ y) ⊎ (x ≢ y)
same_or_not x y =
    elim (eqb x y) as (λ b. (b ≡ true → x ≡ y) → (x ≡ y → b ≡ true) → (x ≡ y) ⊎ (x ≢ y)) [
      | true ↦ λ h k. inl (h refl)
      | false ↦ λ h k. inr (λ e. let f : false ≡ true = k e in cc)
    ] (Decides-eqb x y).0 (Decides-eqb x y).1

-- the list of c has room for one more
pub has_room : (lines : List (Vec Request Global)) (places places' : List (Option Held)) (c : ℕ) (w : Vec Request Global) → IsKept lines places
    → c < length lines → w ≡ get_or lines c w
    → sum_by (awaits c) places' + 1 ≡ sum_by (awaits c) places → vec_len w < vec_capacity w
has_room lines places places' c w k h is less =
    let r = k.room c w (got lines c w h ∙ ap (λ v. Some v) (sym is)) in omega arith

-- one more in the list of c, and one less to come
pub kept_exchange : (lines : List (Vec Request Global)) (places places' : List (Option Held)) (c : ℕ) (v w : Vec Request Global) → IsKept lines places
    → c < length lines → w ≡ get_or lines c w
    → vec_len v ≡ vec_len w + 1 → vec_capacity v ≡ vec_capacity w
    → ((s : ℕ) → cowns_of (place_at places' s) ≡ cowns_of (place_at places s))
    → sum_by (awaits c) places' + 1 ≡ sum_by (awaits c) places → ((d : ℕ) → sum_by (awaits d) places' ≤ sum_by (awaits d) places)
    → IsKept (set lines c v) places'
kept_exchange lines places places' c v w k h is len cap cowns less no_more = record {
  in_range = λ s i below.
      let same = cowns s in
      let old : i < length (cowns_of (place_at places s)) = subst (λ (cs : List ℕ). i < length cs) same below in
      let r = k.in_range s i old in
      let e : cown (place_at places' s) i ≡ cown (place_at places s) i = ap (λ cs. get_or cs i 0) same in
      omega (arith, length-set lines c v);
  room = λ d u e.
      elim (same_or_not d c) [
        | inl q ↦
            let one : v ≡ u = (let f : Some v ≡ Some u = sym (set_same lines c v h) ∙ ap (slice_get (set lines c v)) (sym q) ∙ e in cc) in
            let r = k.room c w (got lines c w h ∙ ap (λ z. Some z) (sym is)) in
            subst (λ (z : Vec Request Global). vec_len z + sum_by (awaits d) places' ≤ vec_capacity z) one
            (subst (λ (n : ℕ). vec_len v + sum_by (awaits n) places' ≤ vec_capacity v) (sym q) (omega arith))
        | inr n ↦
            let r = k.room d u (sym (set_other lines c d v n) ∙ e) in
            let m = no_more d in omega arith
      ];
}

pub cowns_one_more : (p : Option Place) → cowns_of (one_more p) ≡ cowns_of p
cowns_one_more None = refl
cowns_one_more (Some p) = refl

-- the cowns stay where one more request is counted
pub same_cowns : (places places' : List (Option Held)) (slot : ℕ) → place_at places' slot ≡ one_more (place_at places slot)
    → ((s : ℕ) → s ≢ slot → place_at places' s ≡ place_at places s) → (s : ℕ) → cowns_of (place_at places' s) ≡ cowns_of (place_at places s)
same_cowns places places' slot here other s =
    elim (same_or_not s slot) [
      | inl e ↦ ap (λ n. cowns_of (place_at places' n)) e ∙ ap cowns_of here ∙ cowns_one_more (place_at places slot)
          ∙ ap (λ n. cowns_of (place_at places n)) (sym e)
      | inr n ↦ ap cowns_of (other s n)
    ]

times-here : (x : ℕ) (xs : List ℕ) → times x (x ∷ xs) ≡ 1 + times x xs
times-here x xs = ap (λ b. cond b 1 0 + times x xs) ((Decides-eqb x x).1 refl)

-- one less is awaited where one more was exchanged
awaited_here : (cs : List ℕ) (n : ℕ) → n < length cs → times (get_or cs n 0) (drop (suc n) cs) + 1 ≡ times (get_or cs n 0) (drop n cs)
awaited_here [] n h = absurd (omega arith)
awaited_here (c ∷ cs) zero h = omega (arith, times-here c cs)
awaited_here (c ∷ cs) (suc n) h = awaited_here cs n (omega arith)

awaited_less : (cs : List ℕ) (n c : ℕ) → times c (drop (suc n) cs) ≤ times c (drop n cs)
awaited_less [] zero c = omega arith
awaited_less [] (suc n) c = omega arith
awaited_less (d ∷ cs) zero c = omega arith
awaited_less (d ∷ cs) (suc n) c = awaited_less cs n c

pub awaits_one_less : (places : List (Option Held)) (slot : ℕ) (h h' : Held) (d : Option Held) → slot < length places → get_or places slot d ≡ Some h
    → h'.cowns.items ≡ h.cowns.items → h'.exchanged ≡ h.exchanged + 1 → h.exchanged < length h.cowns.items
    → sum_by (awaits (get_or h.cowns.items h.exchanged 0)) (set places slot (Some h')) + 1 ≡ sum_by (awaits (get_or h.cowns.items h.exchanged 0)) places
awaits_one_less places slot h h' d inside is cowns more few =
    let c = get_or h.cowns.items h.exchanged 0 in
    let s = sum_by-set (awaits c) places slot (Some h') d inside in
    let a : awaits c (get_or places slot d) ≡ times c (drop h.exchanged h.cowns.items) = ap (awaits c) is in
    let b : times c (drop h'.exchanged h'.cowns.items) ≡ times c (drop (suc h.exchanged) h.cowns.items) =
    ap (λ n. times c (drop n h'.cowns.items)) (more ∙ add-one h.exchanged) ∙ ap (λ cs. times c (drop (suc h.exchanged) cs)) cowns in
    let e = awaited_here h.cowns.items h.exchanged few in
    omega arith

pub awaits_no_more : (places : List (Option Held)) (slot c : ℕ) (h h' : Held) (d : Option Held) → slot < length places → get_or places slot d ≡ Some h
    → h'.cowns.items ≡ h.cowns.items → h'.exchanged ≡ h.exchanged + 1
    → sum_by (awaits c) (set places slot (Some h')) ≤ sum_by (awaits c) places
awaits_no_more places slot c h h' d inside is cowns more =
    let s = sum_by-set (awaits c) places slot (Some h') d inside in
    let a : awaits c (get_or places slot d) ≡ times c (drop h.exchanged h.cowns.items) = ap (awaits c) is in
    let b : times c (drop h'.exchanged h'.cowns.items) ≡ times c (drop (suc h.exchanged) h.cowns.items) =
    ap (λ n. times c (drop n h'.cowns.items)) (more ∙ add-one h.exchanged) ∙ ap (λ cs. times c (drop (suc h.exchanged) cs)) cowns in
    let e = awaited_less h.cowns.items h.exchanged c in
    omega arith
