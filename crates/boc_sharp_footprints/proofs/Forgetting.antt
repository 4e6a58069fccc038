-- What stays known of the slots that statements do not assign.
use Rattle.std.proofs.Common.{◌≡◌, ◌∙◌, ◌⊎◌, ℕ, zero, suc, refl, sym, [], ◌∷◌, length, arith, Bool, true, false, ℤ, Option, Some, None, inl, inr, subst}
use Rattle.std.specs.Prelude.{◌||◌, nat_eq, slice_set}
use Rattle.std.proofs.lemmas.List.{length-set, get_or-set_other}
use Rattle.std.proofs.lemmas.Bool.Decides.{nat_tests}
use Rattle.boc_program.specs.Syntax.{Code, Done, Assign, Work, If, Repeat, When}
use Rattle.boc_sharp_footprints.specs.Known.{Known, known, known_at, may_hold, may_fail}
use Rattle.boc_sharp_footprints.specs.Followed.{forget, after, after_if, past}

-- the statements assign a slot
abbrev pub assigns : ℕ → Code → Bool
assigns i Done = false
assigns i (Assign slot e rest) = nat_eq slot i || assigns i rest
assigns i (Work e rest) = assigns i rest
assigns i (If e block other rest) = (assigns i block || assigns i other) || assigns i rest
assigns i (Repeat e block rest) = assigns i block || assigns i rest
assigns i (When kind args refs rest) = assigns i rest

or_no : (a b : Bool) → (a || b) ≡ false → (a ≡ false) × (b ≡ false)
or_no true b h = absurd cc
or_no false b h = (refl, h)

no_or : (a b : Bool) → a ≡ false → b ≡ false → (a || b) ≡ false
no_or true b h g = h
no_or false b h g = g

-- ---- a slot is set

forgotten : (a : Known) (slot : ℕ) → known_at (slice_set a slot None) slot ≡ None
forgotten [] slot = refl
forgotten (x ∷ a) zero = refl
forgotten (x ∷ a) (suc slot) = forgotten a slot

others_stay : (a : Known) (slot i : ℕ) (x : Option ℤ) → (slot ≡ i → ⊥) → known_at (slice_set a slot x) i ≡ known_at a i
others_stay a slot i x h = get_or-set_other a slot i x None (λ e. h (sym e))

same_or_not : (b : Bool) (slot i : ℕ) → nat_eq slot i ≡ b → (slot ≡ i) ⊎ (nat_eq slot i ≡ false)
same_or_not true slot i e = inl (grind (arith, nat_tests))
same_or_not false slot i e = inr e

differ : (slot i : ℕ) → nat_eq slot i ≡ false → slot ≡ i → ⊥
differ slot i h e = grind (arith, nat_tests)

-- ---- slots that are not assigned

record Stays (i : ℕ) (c : Code) (a : Known) (v : ℤ) : Type 0 where
  free : assigns i c ≡ false
  is : known_at a i ≡ Some v

stays : (c : Code) (a : Known) (i : ℕ) (v : ℤ) → known_at (forget c a) i ≡ Some v → Stays i c a v
stays Done a i v h = record { free = refl; is = h }
stays (Assign slot e rest) a i v h =
    let r = stays rest (slice_set a slot None) i v h in
    elim (same_or_not (nat_eq slot i) slot i refl) [
      | inl is ↦
          let none : known_at (slice_set a slot None) i ≡ None = subst (λ k. known_at (slice_set a slot None) k ≡ None) is (forgotten a slot) in
          absurd (let f : None ≡ Some v = sym none ∙ r.is in cc)
      | inr not_so ↦ record {
        free = no_or (nat_eq slot i) (assigns i rest) not_so r.free;
        is = sym (others_stay a slot i None (differ slot i not_so)) ∙ r.is;
      }
    ]
stays (Work e rest) a i v h = let r = stays rest a i v h in record { free = r.free; is = r.is }
stays (If e block other rest) a i v h =
    let r = stays rest (forget other (forget block a)) i v h in
    let s = stays other (forget block a) i v r.is in
    let t = stays block a i v s.is in
    record { free = no_or (assigns i block || assigns i other) (assigns i rest) (no_or (assigns i block) (assigns i other) t.free s.free) r.free; is = t.is }
stays (Repeat e block rest) a i v h =
    let r = stays rest (forget block a) i v h in
    let t = stays block a i v r.is in
    record { free = no_or (assigns i block) (assigns i rest) t.free r.free; is = t.is }
stays (When kind args refs rest) a i v h = let r = stays rest a i v h in record { free = r.free; is = r.is }

forget_same : (c : Code) (a : Known) (i : ℕ) → assigns i c ≡ false → known_at (forget c a) i ≡ known_at a i
forget_same Done a i h = refl
forget_same (Assign slot e rest) a i h =
    let both = or_no (nat_eq slot i) (assigns i rest) h in
    forget_same rest (slice_set a slot None) i both.1 ∙ others_stay a slot i None (differ slot i both.0)
forget_same (Work e rest) a i h = forget_same rest a i h
forget_same (If e block other rest) a i h =
    let both = or_no (assigns i block || assigns i other) (assigns i rest) h in
    let blocks = or_no (assigns i block) (assigns i other) both.0 in
    forget_same rest (forget other (forget block a)) i both.1 ∙ forget_same other (forget block a) i blocks.1 ∙ forget_same block a i blocks.0
forget_same (Repeat e block rest) a i h =
    let both = or_no (assigns i block) (assigns i rest) h in
    forget_same rest (forget block a) i both.1 ∙ forget_same block a i both.0
forget_same (When kind args refs rest) a i h = forget_same rest a i h

if_same : (b : Bool) (go : Known → Known) (a : Known) (i : ℕ) → known_at (go a) i ≡ known_at a i → known_at (after_if b go a) i ≡ known_at a i
if_same true go a i h = h
if_same false go a i h = refl

after_same : (c : Code) (a : Known) (i : ℕ) → assigns i c ≡ false → known_at (after c a) i ≡ known_at a i
after_same Done a i h = refl
after_same (Assign slot e rest) a i h =
    let both = or_no (nat_eq slot i) (assigns i rest) h in
    after_same rest (slice_set a slot (known e a)) i both.1 ∙ others_stay a slot i (known e a) (differ slot i both.0)
after_same (Work e rest) a i h = after_same rest a i h
after_same (If e block other rest) a i h =
    let both = or_no (assigns i block || assigns i other) (assigns i rest) h in
    let blocks = or_no (assigns i block) (assigns i other) both.0 in
    let x : Known = after_if (may_hold (known e a)) (after block) a in
    let b1 : Known = forget block x in
    let y : Known = after_if (may_fail (known e a)) (after other) b1 in
    after_same rest (forget other y) i both.1 ∙ forget_same other y i blocks.1
    ∙ if_same (may_fail (known e a)) (after other) b1 i (after_same other b1 i blocks.1) ∙ forget_same block x i blocks.0
    ∙ if_same (may_hold (known e a)) (after block) a i (after_same block a i blocks.0)
after_same (Repeat e block rest) a i h =
    let both = or_no (assigns i block) (assigns i rest) h in
    let b1 : Known = forget block a in
    let x : Known = after block b1 in
    after_same rest (forget block x) i both.1 ∙ forget_same block x i both.0 ∙ after_same block b1 i both.0 ∙ forget_same block a i both.0
after_same (When kind args refs rest) a i h = after_same rest a i h

-- ---- as many slots

forget_many : (c : Code) (a : Known) → length (forget c a) ≡ length a
forget_many Done a = refl
forget_many (Assign slot e rest) a = forget_many rest (slice_set a slot None) ∙ length-set a slot None
forget_many (Work e rest) a = forget_many rest a
forget_many (If e block other rest) a =
    forget_many rest (forget other (forget block a)) ∙ forget_many other (forget block a) ∙ forget_many block a
forget_many (Repeat e block rest) a = forget_many rest (forget block a) ∙ forget_many block a
forget_many (When kind args refs rest) a = forget_many rest a

if_many : (b : Bool) (go : Known → Known) (a : Known) → length (go a) ≡ length a → length (after_if b go a) ≡ length a
if_many true go a h = h
if_many false go a h = refl

pub after_many : (c : Code) (a : Known) → length (after c a) ≡ length a
after_many Done a = refl
after_many (Assign slot e rest) a = after_many rest (slice_set a slot (known e a)) ∙ length-set a slot (known e a)
after_many (Work e rest) a = after_many rest a
after_many (If e block other rest) a =
    let x : Known = after_if (may_hold (known e a)) (after block) a in
    let b1 : Known = forget block x in
    let y : Known = after_if (may_fail (known e a)) (after other) b1 in
    after_many rest (forget other y) ∙ forget_many other y ∙ if_many (may_fail (known e a)) (after other) b1 (after_many other b1)
    ∙ forget_many block x ∙ if_many (may_hold (known e a)) (after block) a (after_many block a)
after_many (Repeat e block rest) a =
    let b1 : Known = forget block a in
    let x : Known = after block b1 in
    after_many rest (forget block x) ∙ forget_many block x ∙ after_many block b1 ∙ forget_many block a
after_many (When kind args refs rest) a = after_many rest a

-- ---- less is known

-- as many slots, of which no more is known
pub record IsLess (less a : Known) : Type 0 where
  pub many : length less ≡ length a
  pub each : (i : ℕ) (v : ℤ) → known_at less i ≡ Some v → known_at a i ≡ Some v

pub less_forgotten : (c : Code) (a : Known) → IsLess (forget c a) a
less_forgotten c a = record { many = forget_many c a; each = λ i v h. (stays c a i v h).is }

pub less_twice : (a b c : Known) → IsLess a b → IsLess b c → IsLess a c
less_twice a b c h g = record { many = h.many ∙ g.many; each = λ i v is. g.each i v (h.each i v is) }

-- of what is forgotten nothing is set
pub still_less : (c : Code) (a : Known) → IsLess (forget c a) (after c (forget c a))
still_less c a = record {
  many = sym (after_many c (forget c a));
  each = λ i v h. after_same c (forget c a) i (stays c a i v h).free ∙ h;
}

-- behind a block that may be done no more is known than before it
pub past_less : (may : Bool) (c : Code) (a : Known) → IsLess (past may c a) a
past_less may c a =
    let x : Known = after_if may (after c) a in
    record {
      many = forget_many c x ∙ if_many may (after c) a (after_many c a);
      each = λ i v h.
          let r = stays c x i v h in
          sym (if_same may (after c) a i (after_same c a i r.free)) ∙ r.is;
    }

pub past_after : (c : Code) (a : Known) → IsLess (past true c a) (after c a)
past_after c a = less_forgotten c (after c a)
