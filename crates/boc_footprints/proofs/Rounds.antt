-- Rounds of marking.
use Rattle.std.proofs.Common.{◌≡◌, ◌≢◌, ◌⊎◌, ◌↔◌, ℕ, zero, suc, ◌+◌, ◌-◌, ◌<◌, ◌≤◌, inl, inr, refl, List, [], ◌∷◌, length, set, ap, sym, ◌∙◌, subst, arith, IsTrue, Bool, true, false}
use Rattle.std.specs.Prelude.{cond, if◌then◌else◌}
use Rattle.std.specs.List.{Contains, All}
use Rattle.std.proofs.lemmas.List.{length-set, get_or-set_same, get_or-set_other}
use Rattle.std.proofs.lemmas.List.Elements.{All-tail}
use Rattle.std.proofs.lemmas.List.Sums.{sum_by-cons, count_by-le-length}
use Rattle.boc_program.proofs.RisingNumbers.{has_first, has_later}
use Rattle.boc_footprints.specs.declared.spreading.Spawn.{Spawn}
use Rattle.boc_footprints.specs.Spreading.{is_marked, Leads, Marked, Farther, after_spawn, after_spawns, marked, IsBelow}
use Rattle.boc_footprints.proofs.Listed.{none_contained, first_or_later}

-- each kind that is marked in the one is marked in the other, and both are of as many kinds
pub record Grows (old new : List Bool) : Type 0 where
  pub many : length new ≡ length old
  pub more : (k : ℕ) → IsTrue (is_marked old k) → IsTrue (is_marked new k)

pub grows_not : (marks : List Bool) → Grows marks marks
grows_not marks = record { many = refl; more = λ k h. h }

pub grows_twice : (a b c : List Bool) → Grows a b → Grows b c → Grows a c
grows_twice a b c g h = record { many = h.many ∙ g.many; more = λ k m. h.more k (g.more k m) }

-- fewer kinds
rest_grows : (x y : Bool) (xs ys : List Bool) → Grows (x ∷ xs) (y ∷ ys) → Grows xs ys
rest_grows x y xs ys g = record { many = omega (arith, g.many); more = λ k h. g.more (suc k) h }

marked_cons : (x : Bool) (xs : List Bool) → marked (x ∷ xs) ≡ (if x then 1 else 0) + marked xs
marked_cons x xs = sum_by-cons (λ m. cond m 1 0) x xs

marked_one : (x y : Bool) (m n : ℕ) → (IsTrue x → IsTrue y) → m ≤ n → (if x then 1 else 0) + m ≤ (if y then 1 else 0) + n
marked_one true true m n h l = omega (arith, l)
marked_one true false m n h l = let no : IsTrue false = h refl in absurd cc
marked_one false true m n h l = omega (arith, l)
marked_one false false m n h l = omega (arith, l)

pub grows_marked : (xs ys : List Bool) → Grows xs ys → marked xs ≤ marked ys
grows_marked [] ys g = omega arith
grows_marked (x ∷ xs) [] g = absurd (omega (arith, g.many))
grows_marked (x ∷ xs) (y ∷ ys) g =
    omega (arith, marked_cons x xs, marked_cons y ys, marked_one x y (marked xs) (marked ys) (g.more 0) (grows_marked xs ys (rest_grows x y xs ys g)))

same_one : (x y : Bool) (m n : ℕ) → (IsTrue x → IsTrue y) → m ≤ n → (if x then 1 else 0) + m ≡ (if y then 1 else 0) + n → (x ≡ y) × (m ≡ n)
same_one true true m n h l e = (refl, omega (arith, e))
same_one true false m n h l e = let no : IsTrue false = h refl in absurd cc
same_one false true m n h l e = absurd (omega (arith, l, e))
same_one false false m n h l e = (refl, omega (arith, e))

-- where as many are marked as were, the same are
pub grows_none : (xs ys : List Bool) → Grows xs ys → marked xs ≡ marked ys → xs ≡ ys
grows_none [] [] g e = refl
grows_none [] (y ∷ ys) g e = absurd (omega (arith, g.many))
grows_none (x ∷ xs) [] g e = absurd (omega (arith, g.many))
grows_none (x ∷ xs) (y ∷ ys) g e =
    let rest = rest_grows x y xs ys g in
    let both = same_one x y (marked xs) (marked ys) (g.more 0) (grows_marked xs ys rest) (sym (marked_cons x xs) ∙ e ∙ marked_cons y ys) in
    ap (λ z. z ∷ xs) both.0 ∙ ap (λ zs. y ∷ zs) (grows_none xs ys rest both.1)

pub few_marked : (xs : List Bool) → marked xs ≤ length xs
few_marked xs = count_by-le-length (λ m. m) xs

-- one kind marked
set_marked_if : (marks : List Bool) (k j : ℕ) → k < length marks → (j ≡ k) ⊎ (j ≢ k) → IsTrue (is_marked marks j) → IsTrue (is_marked (set marks k true) j)
set_marked_if marks k j low (inl e) h = rw e (get_or-set_same marks k true false low)
set_marked_if marks k j low (inr n) h = get_or-set_other marks k j true false n ∙ h

same_or_other : (j k : ℕ) → (j ≡ k) ⊎ (j ≢ k)
same_or_other zero zero = inl refl
same_or_other zero (suc k) = inr (λ e. omega (arith, e))
same_or_other (suc j) zero = inr (λ e. omega (arith, e))
same_or_other (suc j) (suc k) = elim (same_or_other j k) [
  | inl e ↦ inl (ap suc e)
  | inr n ↦ inr (λ e. n (omega (arith, e)))
]

set_grows : (marks : List Bool) (k : ℕ) → k < length marks → Grows marks (set marks k true)
set_grows marks k low = record {
  many = length-set marks k true;
  more = λ j h. set_marked_if marks k j low (same_or_other j k) h;
}

step_grows_if : (b : Bool) (marks : List Bool) (k : ℕ) → k < length marks → Grows marks (if b then set marks k true else marks)
step_grows_if true marks k low = set_grows marks k low
step_grows_if false marks k low = grows_not marks

step_grows : (marks : List Bool) (s : Spawn) → IsBelow (length marks) s → Grows marks (after_spawn marks s)
step_grows marks s low = step_grows_if (is_marked marks s.other) marks s.kind low.0

pub all_below_after : (n m : ℕ) (all : List Spawn) → m ≡ n → All (IsBelow n) all → All (IsBelow m) all
all_below_after n m all e h = subst (λ k. All (IsBelow k) all) (sym e) h

-- a round, or a part of one
pub round_grows : (all : List Spawn) (marks : List Bool) → All (IsBelow (length marks)) all → Grows marks (after_spawns marks all)
round_grows [] marks low = grows_not marks
round_grows (s ∷ all) marks low =
    let one = step_grows marks s (low 0 s (omega arith)) in
    let rest = all_below_after (length marks) (length (after_spawn marks s)) all one.many (All-tail (IsBelow (length marks)) s all low) in
    grows_twice marks (after_spawn marks s) (after_spawns marks (s ∷ all)) one (round_grows all (after_spawn marks s) rest)

step_marks_if : (b : Bool) (marks : List Bool) (k : ℕ) → k < length marks → IsTrue b → IsTrue (is_marked (if b then set marks k true else marks) k)
step_marks_if true marks k low h = get_or-set_same marks k true false low
step_marks_if false marks k low h = absurd cc

-- after a round, a kind that spawns one that was marked is marked
pub round_marks : (all : List Spawn) (marks : List Bool) → All (IsBelow (length marks)) all → (s : Spawn) → Contains all s
    → IsTrue (is_marked marks s.other) → IsTrue (is_marked (after_spawns marks all) s.kind)
round_marks [] marks low s among h = absurd (none_contained s among)
round_marks (t ∷ all) marks low s among h =
    let one = step_grows marks t (low 0 t (omega arith)) in
    let rest = all_below_after (length marks) (length (after_spawn marks t)) all one.many (All-tail (IsBelow (length marks)) t all low) in
    elim (first_or_later t all s among) [
      | inl is ↦ (round_grows all (after_spawn marks t) rest).more s.kind
          (subst (λ r. IsTrue (is_marked (after_spawn marks r) s.kind)) (sym is)
          (step_marks_if (is_marked marks s.other) marks s.kind (subst (λ r. r.kind < length marks) is (low 0 t (omega arith)).0) h))
      | inr later ↦ round_marks all (after_spawn marks t) rest s later (one.more s.other h)
    ]

-- each kind that is marked leads to one that was marked at first
abbrev pub Founded : List Spawn → List Bool → List Bool → Type 0
Founded all first marks = (k : ℕ) → IsTrue (is_marked marks k) → Leads all first k

step_founded_if : (b : Bool) (all : List Spawn) (first marks : List Bool) (s : Spawn) → is_marked marks s.other ≡ b → s.kind < length marks → Contains all s
    → Founded all first marks → Founded all first (if b then set marks s.kind true else marks)
step_founded_if false all first marks s e low among h = h
step_founded_if true all first marks s e low among h = λ k marked. elim (same_or_other k s.kind) [
  | inl is ↦ subst (λ j. Leads all first j) (sym is) (Farther s.kind s.other among (h s.other e))
  | inr other ↦ h k (sym (get_or-set_other marks s.kind k true false other) ∙ marked)
]

pub round_founded : (all some : List Spawn) (first marks : List Bool) → All (IsBelow (length marks)) some
    → ((s : Spawn) → Contains some s → Contains all s) → Founded all first marks → Founded all first (after_spawns marks some)
round_founded all [] first marks low within h = h
round_founded all (s ∷ some) first marks low within h =
    let here = low 0 s (omega arith) in
    let one = step_grows marks s here in
    let rest = all_below_after (length marks) (length (after_spawn marks s)) some one.many (All-tail (IsBelow (length marks)) s some low) in
    round_founded all some first (after_spawn marks s) rest (λ t among. within t (has_later s t some among))
    (step_founded_if (is_marked marks s.other) all first marks s refl here.0 (within s (has_first s some)) h)

-- Between rounds: what was marked at first is marked, and each kind that is marked leads to it.
pub record Spread (all : List Spawn) (first marks : List Bool) : Type 0 where
  pub grows : Grows first marks
  pub founded : Founded all first marks

pub not_spread : (all : List Spawn) (first : List Bool) → Spread all first first
not_spread all first = record { grows = grows_not first; founded = λ k h. Marked k h }

pub spread_on : (all : List Spawn) (first marks : List Bool) → All (IsBelow (length first)) all → Spread all first marks → Spread all first (after_spawns marks all)
spread_on all first marks low s =
    let here = all_below_after (length first) (length marks) all s.grows.many low in
    record {
      grows = grows_twice first marks (after_spawns marks all) s.grows (round_grows all marks here);
      founded = round_founded all all first marks here (λ t among. among) s.founded;
    }

-- where a round changes nothing, each kind that leads to a marked one is marked
leads_marked : (all : List Spawn) (first marks : List Bool) → ((k : ℕ) → IsTrue (is_marked first k) → IsTrue (is_marked marks k))
    → ((s : Spawn) → Contains all s → IsTrue (is_marked marks s.other) → IsTrue (is_marked marks s.kind))
    → (k : ℕ) → Leads all first k → IsTrue (is_marked marks k)
leads_marked all first marks start steps _ (Marked k h) = start k h
leads_marked all first marks start steps _ (Farther k other among h) =
    steps (record { kind = k; other = other }) among (leads_marked all first marks start steps other h)

pub all_spread : (all : List Spawn) (first marks : List Bool) → All (IsBelow (length first)) all → Spread all first marks
    → marked (after_spawns marks all) ≡ marked marks → (k : ℕ) → (IsTrue (is_marked (after_spawns marks all) k) ↔ Leads all first k)
all_spread all first marks low s still k =
    let here = all_below_after (length first) (length marks) all s.grows.many low in
    let same : marks ≡ after_spawns marks all = grows_none marks (after_spawns marks all) (round_grows all marks here) (sym still) in
    let next = spread_on all first marks low s in (
      next.founded k,
      leads_marked all first (after_spawns marks all) next.grows.more
          (λ t among h. round_marks all marks here t among (subst (λ ms. IsTrue (is_marked ms t.other)) (sym same) h)) k,
    )

-- where a round changes something, fewer kinds are left to be marked
pub fewer_left : (all : List Spawn) (first marks : List Bool) → All (IsBelow (length first)) all → Spread all first marks
    → marked (after_spawns marks all) ≢ marked marks → length (after_spawns marks all) - marked (after_spawns marks all) < length marks - marked marks
fewer_left all first marks low s moved =
    let here = all_below_after (length first) (length marks) all s.grows.many low in
    let round = round_grows all marks here in
    omega (arith, moved, round.many, grows_marked marks (after_spawns marks all) round, few_marked (after_spawns marks all))
