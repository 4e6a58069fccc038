-- Which cowns are in a set after some were marked.
use Rattle.std.proofs.Common.{◌≡◌, ◌∙◌, ◌⊎◌, ℕ, zero, suc, ◌+◌, ◌≤◌, ◌<◌, inl, inr, refl, sym, ap, subst, List, [], ◌∷◌, length, arith, Bool, true, false}
use Rattle.std.proofs.Common.{IsTrue, replicate, Option, Some, ℤ, map}
use Rattle.std.specs.Prelude.{if◌then◌else◌, ◌&&◌, ◌||◌, not, nat_lt, slice_get, slice_set}
use Rattle.std.specs.List.{list_any}
use Rattle.std.proofs.lemmas.List.{length-set, get_or-set_same, get_or-set_other}
use Rattle.std.proofs.lemmas.Bool.{cases_lt}
use Rattle.std.proofs.lemmas.Bool.Decides.{nat_tests}
use Rattle.boc_program.specs.declared.body.Body.{Body}
use Rattle.boc_program.specs.Syntax.{SlotExpr, CownRef}
use Rattle.boc_program.specs.Resolved.{every}
use Rattle.boc_sharp_footprints.specs.Known.{Known, known_if, Range, is_within, is_within_any, may_lead, may_name}
use Rattle.boc_sharp_footprints.specs.Tables.{Sharp, is_in, marked_up, holds_all, place_at, reaches_with, leads_to, body_leads, IsClosedAt}

pub past_end : (marks : List Bool) (c : ℕ) → length marks ≤ c → is_in marks c ≡ true
past_end [] c h = refl
past_end (m ∷ marks) zero h = absurd (omega (arith, h))
past_end (m ∷ marks) (suc c) h = past_end marks c (omega (arith, h))

if_many : (b : Bool) (marks : List Bool) (k n : ℕ) → length marks ≡ n → length (if b then slice_set marks k true else marks) ≡ n
if_many true marks k n h = length-set marks k true ∙ h
if_many false marks k n h = h

pub marked_many : (test : ℕ → Bool) (n : ℕ) (marks : List Bool) → length (marked_up test n marks) ≡ length marks
marked_many test zero marks = refl
marked_many test (suc n) marks = if_many (test n) (marked_up test n marks) n (length marks) (marked_many test n marks)

same_or_not : (i n : ℕ) → (i ≡ n) ⊎ (i ≡ n → ⊥)
same_or_not zero zero = inl refl
same_or_not zero (suc n) = inr (λ e. absurd (omega (arith, e)))
same_or_not (suc i) zero = inr (λ e. absurd (omega (arith, e)))
same_or_not (suc i) (suc n) = elim (same_or_not i n) [
  | inl is ↦ inl (ap suc is)
  | inr not_so ↦ inr (λ e. not_so (omega (arith, e)))
]

or_true : (b : Bool) → (b || true) ≡ true
or_true true = refl
or_true false = refl

or_false : (b : Bool) → b ≡ (b || false)
or_false true = refl
or_false false = refl

and_false : (b : Bool) → (b && false) ≡ false
and_false true = refl
and_false false = refl

below_itself : (n : ℕ) → nat_lt n (suc n) ≡ true
below_itself n = grind (arith, nat_tests)

never_below : (c : ℕ) → nat_lt c 0 ≡ false
never_below c = grind (arith, nat_tests)

one_more : (c n : ℕ) → (c ≡ n → ⊥) → nat_lt c (suc n) ≡ nat_lt c n
one_more c n h = elim (cases_lt c n) [
  | inl low ↦
      let a : nat_lt c (suc n) ≡ true = grind (arith, nat_tests) in
      let b : nat_lt c n ≡ true = grind (arith, nat_tests) in
      a ∙ sym b
  | inr high ↦
      let past : suc n ≤ c = elim (cases_lt n c) [
        | inl more ↦ omega (arith, more)
        | inr less ↦ absurd (h (omega (arith, high, less)))
      ] in
      let a : nat_lt c (suc n) ≡ false = grind (arith, nat_tests) in
      let b : nat_lt c n ≡ false = grind (arith, nat_tests) in
      a ∙ sym b
]

-- the test of one number more
step : (test : ℕ → Bool) (n c : ℕ) (marks before : List Bool) (b : Bool) → test n ≡ b → n < length before
    → is_in before c ≡ (is_in marks c || (nat_lt c n && test c))
    → is_in (if b then slice_set before n true else before) c ≡ (is_in marks c || (nat_lt c (suc n) && test c))
step test n c marks before true t low h = elim (same_or_not c n) [
  | inl is ↦
      let here : is_in (slice_set before n true) c ≡ true = ap (λ k. is_in (slice_set before n true) k) is ∙ get_or-set_same before n true true low in
      let now : (nat_lt c (suc n) && test c) ≡ true =
      ap (λ k. nat_lt k (suc n) && test k) is ∙ ap (λ (x : Bool). x && test n) (below_itself n) ∙ t in
      here ∙ sym (ap (λ (x : Bool). is_in marks c || x) now ∙ or_true (is_in marks c))
  | inr other ↦
      get_or-set_other before n c true true other ∙ h ∙ ap (λ (x : Bool). is_in marks c || (x && test c)) (sym (one_more c n other))
]
step test n c marks before false t low h = elim (same_or_not c n) [
  | inl is ↦
      let never : test c ≡ false = ap test is ∙ t in
      let then_not : (nat_lt c n && test c) ≡ false = ap (λ (x : Bool). nat_lt c n && x) never ∙ and_false (nat_lt c n) in
      let now_not : (nat_lt c (suc n) && test c) ≡ false = ap (λ (x : Bool). nat_lt c (suc n) && x) never ∙ and_false (nat_lt c (suc n)) in
      h ∙ ap (λ (x : Bool). is_in marks c || x) (then_not ∙ sym now_not)
  | inr other ↦ h ∙ ap (λ (x : Bool). is_in marks c || (x && test c)) (sym (one_more c n other))
]

marked_below : (test : ℕ → Bool) (n : ℕ) (marks : List Bool) (c : ℕ) → n ≤ length marks
    → is_in (marked_up test n marks) c ≡ (is_in marks c || (nat_lt c n && test c))
marked_below test zero marks c h = or_false (is_in marks c) ∙ ap (λ (x : Bool). is_in marks c || (x && test c)) (sym (never_below c))
marked_below test (suc n) marks c h =
    step test n c marks (marked_up test n marks) (test n) refl (omega (arith, h, marked_many test n marks))
    (marked_below test n marks c (omega (arith, h)))

-- all marks that pass a test were set
pub marked_is : (test : ℕ → Bool) (marks : List Bool) (c : ℕ) → is_in (marked_up test (length marks) marks) c ≡ (is_in marks c || test c)
marked_is test marks c = marked_below test (length marks) marks c (omega arith) ∙ elim (cases_lt c (length marks)) [
  | inl low ↦
      let so : nat_lt c (length marks) ≡ true = grind (arith, nat_tests) in
      ap (λ (x : Bool). is_in marks c || (x && test c)) so
  | inr high ↦
      let all : is_in marks c ≡ true = past_end marks c high in
      ap (λ (x : Bool). x || (nat_lt c (length marks) && test c)) all ∙ sym (ap (λ (x : Bool). x || test c) all)
]

-- of no marks the cowns past the end are in the set alone
pub none_marked : (n c : ℕ) → c < n → is_in (replicate n false) c ≡ false
none_marked zero c h = absurd (omega (arith, h))
none_marked (suc n) zero h = refl
none_marked (suc n) (suc c) h = none_marked n c (omega (arith, h))

-- ---- a set that has all cowns of another

and_true : (a b : Bool) → IsTrue (a && b) → IsTrue a × IsTrue b
and_true true b h = (refl, h)
and_true false b h = absurd cc

if_in : (a m : Bool) → IsTrue (m || not a) → IsTrue a → IsTrue m
if_in a true h t = refl
if_in true false h t = h
if_in false false h t = absurd cc

held_from : (other : List Bool) (n : ℕ) (set : List Bool) (k : ℕ) → IsTrue (holds_all other n set) → IsTrue (is_in other (n + k)) → IsTrue (is_in set k)
held_from other n [] k h t = refl
held_from other n (m ∷ set) zero h t =
    let both = and_true (m || not (is_in other n)) (holds_all other (n + 1) set) h in
    let at : n + 0 ≡ n = omega arith in
    if_in (is_in other n) m both.0 (subst (λ i. IsTrue (is_in other i)) at t)
held_from other n (m ∷ set) (suc k) h t =
    let both = and_true (m || not (is_in other n)) (holds_all other (n + 1) set) h in
    let at : n + suc k ≡ n + 1 + k = omega arith in
    held_from other (n + 1) set k both.1 (subst (λ i. IsTrue (is_in other i)) at t)

pub held_all : (other set : List Bool) (c : ℕ) → IsTrue (holds_all other 0 set) → IsTrue (is_in other c) → IsTrue (is_in set c)
held_all other set c h t =
    let at : c ≡ 0 + c = omega arith in
    held_from other 0 set c h (subst (λ i. IsTrue (is_in other i)) at t)

-- ---- as the code has it

or_in_turn : (a b d : Bool) → ((a || b) || d) ≡ (a || (b || d))
or_in_turn true b d = refl
or_in_turn false b d = refl

-- the marks of a range were set
pub mark_named : (marks more : List Bool) (r : Range) (o : Option Range) (c : ℕ) → Some r ≡ o → more ≡ marked_up (is_within r) (length marks) marks
    → is_in more c ≡ (is_in marks c || is_within_any o c)
mark_named marks more r o c e m =
    ap (λ ms. is_in ms c) m ∙ marked_is (is_within r) marks c ∙ ap (λ (x : Option Range). is_in marks c || is_within_any x c) e

-- the marks of the cowns to which a `when` may lead were set
pub mark_asked : (table : Sharp) (kind : ℕ) (args : List SlotExpr) (refs : List CownRef) (a : Known) (old mid more : List Bool) (lead : Bool) (place : ℕ)
    (value : Option ℤ) (c : ℕ) → lead ≡ every (map (may_lead a) refs) → lead ≡ true
    → ((c : ℕ) → is_in mid c ≡ (is_in old c || list_any (may_name c a) refs)) → place ≡ place_at table kind → value ≡ known_if (slice_get args place) a
    → more ≡ marked_up (reaches_with table kind value) (length mid) mid → is_in more c ≡ (is_in old c || leads_to table c kind args refs a)
mark_asked table kind args refs a old mid more lead place value c l so named at is m =
    let known_is : value ≡ known_if (slice_get args (place_at table kind)) a = is ∙ ap (λ k. known_if (slice_get args k) a) at in
    let all : every (map (may_lead a) refs) ≡ true = sym l ∙ so in
    let reached : Bool = reaches_with table kind (known_if (slice_get args (place_at table kind)) a) c in
    ap (λ ms. is_in ms c) m ∙ marked_is (reaches_with table kind value) mid c
    ∙ ap (λ (v : Option ℤ). is_in mid c || reaches_with table kind v c) known_is
    ∙ ap (λ (x : Bool). x || reached) (named c)
    ∙ or_in_turn (is_in old c) (list_any (may_name c a) refs) reached
    ∙ ap (λ (x : Bool). is_in old c || (x && (list_any (may_name c a) refs || reached))) (sym all)

-- the set has all cowns to which the body may lead
pub closed_at : (table : Sharp) (body : Body) (place value : ℕ) (set marks same : List Bool) (n : ℕ) (b : Bool) → b ≡ holds_all same 0 set → same ≡ marks
    → ((c : ℕ) → is_in marks c ≡ (is_in (replicate n false) c || body_leads table body place value c)) → IsTrue b → IsClosedAt table body place value set
closed_at table body place value set marks same n b is alike marked holds cown leads =
    let all : IsTrue (holds_all marks 0 set) = subst (λ ms. IsTrue (holds_all ms 0 set)) alike (sym is ∙ holds) in
    held_all marks set cown all
    (marked cown ∙ ap (λ (x : Bool). is_in (replicate n false) cown || x) leads ∙ or_true (is_in (replicate n false) cown))
