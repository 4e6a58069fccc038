-- Which spawns a list of them has.
use Rattle.std.proofs.Common.{◌≡◌, ◌⊎◌, ℕ, zero, suc, ◌+◌, ◌<◌, inl, inr, refl, List, [], ◌∷◌, length, ap, sym, subst, arith, IsTrue, Bool, true, false, Some}
use Rattle.std.specs.Prelude.{slice_get, slice_index_or, if◌then◌else◌}
use Rattle.std.specs.List.{Contains, All}
use Rattle.std.proofs.lemmas.List.Elements.{All-contains_itself, Contains-append_left, Contains-append_right, Contains-append_cases}
use Rattle.std.proofs.lemmas.Option.{slice_get_within}
use Rattle.boc_program.specs.declared.body.Body.{Body}
use Rattle.boc_program.specs.Syntax.{Code}
use Rattle.boc_program.proofs.RisingNumbers.{has_first}
use Rattle.boc_footprints.specs.Whens.{spawns}
use Rattle.boc_footprints.specs.declared.spreading.Spawn.{Spawn}
use Rattle.boc_footprints.specs.Spreading.{IsBelow, spawned_below, spawned_by}
use Rattle.boc_footprints.proofs.Listed.{none_contained, first_or_later}

abbrev spawn : ℕ → ℕ → Spawn
spawn kind other = record { kind = kind; other = other }

-- a spawn is one of these statements
record IsOf (kind : ℕ) (code : Code) (n : ℕ) (s : Spawn) : Type 0 where
  kind_is : s.kind ≡ kind
  low : s.other < n
  has : IsTrue (spawns s.other code)

of_one : (b : Bool) (kind n : ℕ) (code : Code) (s : Spawn) → spawns n code ≡ b
    → Contains (let ss : List Spawn = if b then spawn kind n ∷ [] else [] in ss) s → IsOf kind code (suc n) s
of_one false kind n code s e among = absurd (none_contained s among)
of_one true kind n code s e among = elim (first_or_later (spawn kind n) [] s among) [
  | inl is ↦ subst (λ t. IsOf kind code (suc n) t) is (record { kind_is = refl; low = omega arith; has = e })
  | inr later ↦ absurd (none_contained s later)
]

of_statements : (kind : ℕ) (code : Code) (n : ℕ) (s : Spawn) → Contains (spawned_below kind code n) s → IsOf kind code n s
of_statements kind code zero s among = absurd (none_contained s among)
of_statements kind code (suc n) s among =
    elim (Contains-append_cases (spawned_below kind code n) (if spawns n code then spawn kind n ∷ [] else []) s among) [
      | inl below ↦
          let r = of_statements kind code n s below in
          record { kind_is = r.kind_is; low = omega (arith, r.low); has = r.has }
      | inr here ↦ of_one (spawns n code) kind n code s refl here
    ]

with_one : (b : Bool) (kind n : ℕ) → IsTrue b → Contains (let ss : List Spawn = if b then spawn kind n ∷ [] else [] in ss) (spawn kind n)
with_one true kind n h = has_first (spawn kind n) []
with_one false kind n h = absurd cc

below_or_last : (k n : ℕ) → k < suc n → (k ≡ n) ⊎ (k < n)
below_or_last zero zero h = inl refl
below_or_last zero (suc n) h = inr (omega arith)
below_or_last (suc k) zero h = absurd (omega (arith, h))
below_or_last (suc k) (suc n) h = elim (below_or_last k n (omega (arith, h))) [
  | inl e ↦ inl (ap suc e)
  | inr l ↦ inr (omega (arith, l))
]

among_statements : (kind : ℕ) (code : Code) (n other : ℕ) → other < n → IsTrue (spawns other code) → Contains (spawned_below kind code n) (spawn kind other)
among_statements kind code zero other low h = absurd (omega (arith, low))
among_statements kind code (suc n) other low h = elim (below_or_last other n low) [
  | inl e ↦ Contains-append_right (spawned_below kind code n) (if spawns n code then spawn kind n ∷ [] else []) (spawn kind other)
      (subst (λ k. Contains (let ss : List Spawn = if spawns n code then spawn kind n ∷ [] else [] in ss) (spawn kind k)) (sym e)
      (with_one (spawns n code) kind n (subst (λ k. IsTrue (spawns k code)) e h)))
  | inr l ↦ Contains-append_left (spawned_below kind code n) (if spawns n code then spawn kind n ∷ [] else []) (spawn kind other)
      (among_statements kind code n other l h)
]

-- a spawn is one of these bodies, whose kinds are those from `first` on
record IsOfBodies (kinds first : ℕ) (bodies : List Body) (s : Spawn) : Type 0 where
  place : ℕ
  kind_is : s.kind ≡ first + place
  body : Body
  is : slice_get bodies place ≡ Some body
  low : s.other < kinds
  has : IsTrue (spawns s.other body.block)

of_bodies : (kinds first : ℕ) (bodies : List Body) (s : Spawn) → Contains (spawned_by kinds first bodies) s → IsOfBodies kinds first bodies s
of_bodies kinds first [] s among = absurd (none_contained s among)
of_bodies kinds first (b ∷ bodies) s among =
    elim (Contains-append_cases (spawned_below first b.block kinds) (spawned_by kinds (first + 1) bodies) s among) [
      | inl here ↦
          let r = of_statements first b.block kinds s here in
          record { place = 0; kind_is = omega (arith, r.kind_is); body = b; is = refl; low = r.low; has = r.has }
      | inr later ↦
          let r = of_bodies kinds (first + 1) bodies s later in
          record { place = suc r.place; kind_is = omega (arith, r.kind_is); body = r.body; is = r.is; low = r.low; has = r.has }
    ]

among_bodies : (kinds first : ℕ) (bodies : List Body) (place other : ℕ) (body : Body) → slice_get bodies place ≡ Some body → other < kinds
    → IsTrue (spawns other body.block) → Contains (spawned_by kinds first bodies) (spawn (first + place) other)
among_bodies kinds first [] place other body e low h = absurd cc
among_bodies kinds first (b ∷ bodies) zero other body e low h =
    let is : b ≡ body = (let f : Some b ≡ Some body = e in cc) in
    let same : first + 0 ≡ first = omega arith in
    Contains-append_left (spawned_below first b.block kinds) (spawned_by kinds (first + 1) bodies) (spawn (first + 0) other)
    (subst (λ k. Contains (spawned_below first b.block kinds) (spawn k other)) (sym same)
    (among_statements first b.block kinds other low (subst (λ x. IsTrue (spawns other x.block)) (sym is) h)))
among_bodies kinds first (b ∷ bodies) (suc place) other body e low h =
    let same : first + 1 + place ≡ first + suc place = omega arith in
    Contains-append_right (spawned_below first b.block kinds) (spawned_by kinds (first + 1) bodies) (spawn (first + suc place) other)
    (subst (λ k. Contains (spawned_by kinds (first + 1) bodies) (spawn k other)) same (among_bodies kinds (first + 1) bodies place other body e low h))

-- ---- of all bodies

-- a spawn of a body of a kind
pub record IsThere (bodies : List Body) (s : Spawn) : Type 0 where
  pub body : Body
  pub is : slice_get bodies s.kind ≡ Some body
  pub has : IsTrue (spawns s.other body.block)
  pub low : s.other < length bodies

pub spawn_there : (bodies : List Body) (s : Spawn) → Contains (spawned_by (length bodies) 0 bodies) s → IsThere bodies s
spawn_there bodies s among =
    let r = of_bodies (length bodies) 0 bodies s among in
    let same : r.place ≡ s.kind = omega (arith, r.kind_is) in
    record { body = r.body; is = subst (λ k. slice_get bodies k ≡ Some r.body) same r.is; has = r.has; low = r.low }

pub spawn_among : (bodies : List Body) (kind other : ℕ) (body : Body) → slice_get bodies kind ≡ Some body → other < length bodies
    → IsTrue (spawns other body.block) → Contains (spawned_by (length bodies) 0 bodies) (record { kind = kind; other = other })
spawn_among bodies kind other body e low h =
    let same : 0 + kind ≡ kind = omega arith in
    subst (λ k. Contains (spawned_by (length bodies) 0 bodies) (spawn k other)) same (among_bodies (length bodies) 0 bodies kind other body e low h)

pub spawns_below : (bodies : List Body) → All (IsBelow (length bodies)) (spawned_by (length bodies) 0 bodies)
spawns_below bodies = λ k d low.
    let all : List Spawn = spawned_by (length bodies) 0 bodies in
    let s : Spawn = slice_index_or all k d in
    let r = spawn_there bodies s (All-contains_itself all k d low) in
    (slice_get_within bodies s.kind r.body r.is, r.low)
