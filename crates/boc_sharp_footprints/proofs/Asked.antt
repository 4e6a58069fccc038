-- A `when` that may not lead to a cown has no wish that has it or reaches it.
use Rattle.std.proofs.Common.{◌≡◌, ◌∙◌, ◌⊎◌, ℕ, ◌+◌, ◌-◌, ◌<◌, inl, inr, refl, sym, ap, subst, List, [], ◌∷◌, length, map, arith, Bool, true, false, IsTrue}
use Rattle.std.proofs.Common.{ℤ, pos, negsuc, Option, Some, None, Ok, Err}
use Rattle.std.specs.Prelude.{◌&&◌, ◌||◌, is_some, nat_lt, nat_le, slice_get, if◌then◌else◌}
use Rattle.std.specs.List.{list_any}
use Rattle.std.proofs.lemmas.Bool.Decides.{nat_tests}
use Rattle.boc_program.specs.declared.body.EndStatus.TheVariants.{OutOfRange}
use Rattle.boc_program.specs.Syntax.{CownRef, Held, Single, Member}
use Rattle.boc_program.specs.Value.{OrFault, then_value, value}
use Rattle.boc_program.specs.Meaning.{Wish, State, member, cown_of, cowns_of}
use Rattle.boc_program.specs.Resolved.{every}
use Rattle.boc_program.specs.Signatures.{Signature, ref_below, counts_fit, call_fits}
use Rattle.boc_program.proofs.Truth.{and_true}
use Rattle.boc_runs.specs.machine.Queues.{times}
use Rattle.boc_footprints.specs.Tables.{reaches}
use Rattle.boc_footprints.proofs.Truths.{both_true, or_left, or_right}
use Rattle.boc_footprints.proofs.Listed.{times_first_or_later, times_at}
use Rattle.boc_footprints.proofs.Wishing.{were_distinct}
use Rattle.boc_sharp_footprints.specs.Known.{Known, known, known_if, Range, is_within, is_within_any, members, may_name, may_lead}
use Rattle.boc_sharp_footprints.specs.Tables.{Sharp, ByValue, allows_there, place_at, reaches_with, reaches_by, leads_to}
use Rattle.boc_sharp_footprints.proofs.Valued.{AreKnown, known_value, known_argument}
use Rattle.boc_sharp_footprints.proofs.Sound.{Meets}

-- ---- references

-- a reference may be to a cown, and to this one
record MayBe (r : Option Range) (c : ℕ) : Type 0 where
  leads : IsTrue (is_some r)
  names : IsTrue (is_within_any r c)

all_members : (first size i c : ℕ) → i < size → c ≡ first + i → IsTrue (is_within (record { first = first; size = size }) c)
all_members first size i c low is = both_true (nat_le first c) (nat_lt (c - first) size) (grind (arith, nat_tests)) (by (c - first) (omega (arith, is)))
  where
    by : (d : ℕ) → d ≡ i → IsTrue (nat_lt d size)
    by d e = grind (arith, nat_tests)

one_member : (first c : ℕ) → c ≡ first → IsTrue (is_within (record { first = first; size = 1 }) c)
one_member first c is = all_members first 1 0 c (omega arith) (omega (arith, is))

there_if : (b : Bool) (k : Option ℤ) (first size i c : ℕ) → nat_lt i size ≡ b → ((v : ℤ) → k ≡ Some v → v ≡ pos i)
    → Ok c ≡ (let r : OrFault ℕ = if b then Ok (first + i) else Err OutOfRange in r) → MayBe (members first size k) c
there_if false k first size i c t f e = absurd cc
there_if true None first size i c t f e =
    let is : c ≡ first + i = cc in
    record { leads = refl; names = all_members first size i c (grind (arith, nat_tests)) is }
there_if true (Some v) first size i c t f e =
    let is : c ≡ first + i = cc in
    let here : members first size (Some (pos i)) ≡ Some (record { first = first + i; size = 1 }) =
    ap (λ (b : Bool). let r : Option Range = if b then Some (record { first = first + i; size = 1 }) else None in r) t in
    let at : members first size (Some v) ≡ Some (record { first = first + i; size = 1 }) = ap (λ z. members first size (Some z)) (f v refl) ∙ here in
    subst (λ (r : Option Range). MayBe r c) (sym at) (record { leads = refl; names = one_member (first + i) c is })

there : (o : OrFault ℤ) (k : Option ℤ) (first size c : ℕ) → ((v w : ℤ) → k ≡ Some v → Ok w ≡ o → v ≡ w)
    → Ok c ≡ then_value o (member first size) → MayBe (members first size k) c
there (Err f) k first size c g e = absurd cc
there (Ok (pos i)) k first size c g e = there_if (nat_lt i size) k first size i c refl (λ v h. g v (pos i) h refl) e
there (Ok (negsuc i)) k first size c g e = absurd cc

-- what is told of the cown that a reference comes to
record IsTold (a : Known) (r : CownRef) (s : State) (c : ℕ) : Type 0 where
  leads : IsTrue (may_lead a r)
  names : IsTrue (may_name c a r) ⊎ (0 < times c s.held)

told : (r : CownRef) (a : Known) (s : State) (n c : ℕ) → AreKnown a s.slots → IsTrue (ref_below (length s.held) n r) → Ok c ≡ cown_of r s
    → IsTold a r s c
told (Held i) a s n c k t e = record { leads = refl; names = inr (times_at s.held i c (grind (arith, nat_tests)) cc) }
told (Single cown) a s n c k t e = let is : c ≡ cown = cc in record { leads = refl; names = inl (one_member cown c is) }
told (Member first size index) a s n c k t e =
    let r = there (value index s.slots) (known index a) first size c (λ v w h g. known_value index a s.slots k v w h g) e in
    record { leads = r.leads; names = inl r.names }

cons_cowns : (o : OrFault ℕ) (p : OrFault (List ℕ)) (cs : List ℕ) (P : Type 0) → ((d : ℕ) (ds : List ℕ) → Ok d ≡ o → Ok ds ≡ p → cs ≡ d ∷ ds → P)
    → Ok cs ≡ then_value o (λ d. then_value p (λ ds. Ok (d ∷ ds))) → P
cons_cowns (Err f) p cs P h e = absurd cc
cons_cowns (Ok d) (Err f) cs P h e = absurd cc
cons_cowns (Ok d) (Ok ds) cs P h e = h d ds refl refl cc

all_lead : (rs : List CownRef) (a : Known) (s : State) (n : ℕ) (cs : List ℕ) → AreKnown a s.slots → IsTrue (every (map (ref_below (length s.held) n) rs))
    → Ok cs ≡ cowns_of rs s → IsTrue (every (map (may_lead a) rs))
all_lead [] a s n cs k t e = refl
all_lead (r ∷ rs) a s n cs k t e =
    let both = and_true (ref_below (length s.held) n r) (every (map (ref_below (length s.held) n) rs)) t in
    cons_cowns (cown_of r s) (cowns_of rs s) cs (IsTrue (every (map (may_lead a) (r ∷ rs))))
    (λ d ds is later same. both_true (may_lead a r) (every (map (may_lead a) rs)) (told r a s n d k both.0 is).leads (all_lead rs a s n ds k both.1 later)) e

abbrev Named : Known → List CownRef → State → ℕ → Type 0
Named a rs s c = IsTrue (list_any (may_name c a) rs) ⊎ (0 < times c s.held)

one_named : (rs : List CownRef) (a : Known) (s : State) (n c : ℕ) (cs : List ℕ) → AreKnown a s.slots
    → IsTrue (every (map (ref_below (length s.held) n) rs)) → Ok cs ≡ cowns_of rs s → 0 < times c cs → Named a rs s c
one_named [] a s n c cs k t e h = let same : cs ≡ [] = cc in absurd (omega (arith, subst (λ xs. 0 < times c xs) same h))
one_named (r ∷ rs) a s n c cs k t e h =
    let both = and_true (ref_below (length s.held) n r) (every (map (ref_below (length s.held) n) rs)) t in
    cons_cowns (cown_of r s) (cowns_of rs s) cs (Named a (r ∷ rs) s c)
    (λ d ds is later same.
    elim (times_first_or_later c d ds (subst (λ xs. 0 < times c xs) same h)) as (λ _. Named a (r ∷ rs) s c) [
      | inl here ↦ elim (told r a s n c k both.0 (ap Ok (sym here) ∙ is)).names [
        | inl named ↦ inl (or_left (may_name c a r) (list_any (may_name c a) rs) named)
        | inr held ↦ inr held
      ]
      | inr among ↦ elim (one_named rs a s n c ds k both.1 later among) [
        | inl named ↦ inl (or_right (may_name c a r) (list_any (may_name c a) rs) named)
        | inr held ↦ inr held
      ]
    ]) e

-- ---- what is reached

allowed_if : (o : Option ByValue) (k x : Option ℤ) (c : ℕ) → ((v : ℤ) → k ≡ Some v → x ≡ Some v) → IsTrue (allows_there o x c) → IsTrue (allows_there o k c)
allowed_if None k x c f h = refl
allowed_if (Some one) None x c f h = refl
allowed_if (Some one) (Some v) x c f h = subst (λ y. IsTrue (allows_there (Some one) y c)) (f v refl) h

reached_if : (table : Sharp) (kind : ℕ) (k x : Option ℤ) (c : ℕ) → ((v : ℤ) → k ≡ Some v → x ≡ Some v) → IsTrue (reaches_with table kind x c)
    → IsTrue (reaches_with table kind k c)
reached_if table kind k x c f h =
    let both = and_true (reaches table.by_kind kind c) (allows_there (slice_get table.by_value kind) x c) h in
    both_true (reaches table.by_kind kind c) (allows_there (slice_get table.by_value kind) k c) both.0
    (allowed_if (slice_get table.by_value kind) k x c f both.1)

-- ---- a `when`

never : (b : Bool) → b ≡ false → IsTrue b → ⊥
never true h k = cc
never false h k = cc

or_no : (a b : Bool) → (a || b) ≡ false → (a ≡ false) × (b ≡ false)
or_no true b h = absurd cc
or_no false b h = (refl, h)

and_no : (a b : Bool) → IsTrue a → (a && b) ≡ false → b ≡ false
and_no true b t h = h
and_no false b t h = absurd cc

-- a wish has the cown only if the behaviour has it, and does not reach it
pub record IsApart (table : Sharp) (held : List ℕ) (c : ℕ) (w : Wish) : Type 0 where
  pub own : 0 < times c w.cowns → 0 < times c held
  pub not_reached : IsTrue (reaches_by table w.kind w.args c) → ⊥

pub apart : (table : Sharp) (sigs : List Signature) (held : List ℕ) (n c : ℕ)
    → Meets (call_fits sigs (length held) n) (leads_to table c) held (IsApart table held c)
apart table sigs held n c = record {
  at_when = λ kind args refs a s vs cs t none at is_vs is_cs.
      let named = and_true (nat_lt 0 kind) (counts_fit (slice_get sigs kind) args refs && every (map (ref_below (length held) n) refs)) t in
      let below = and_true (counts_fit (slice_get sigs kind) args refs) (every (map (ref_below (length held) n) refs)) named.1 in
      let there : IsTrue (every (map (ref_below (length s.held) n) refs)) =
      subst (λ hs. IsTrue (every (map (ref_below (length hs) n) refs))) (sym at.held_is) below.1 in
      let cowns_are : Ok cs ≡ cowns_of refs s = were_distinct (cowns_of refs s) cs is_cs in
      let place : ℕ = place_at table kind in
      let k : Option ℤ = known_if (slice_get args place) a in
      let rest = and_no (every (map (may_lead a) refs)) (list_any (may_name c a) refs || reaches_with table kind k c)
      (all_lead refs a s n cs at.each there cowns_are) none in
      let both = or_no (list_any (may_name c a) refs) (reaches_with table kind k c) rest in
      record {
        own = λ among. elim (one_named refs a s n c cs at.each there cowns_are among) [
          | inl does ↦ absurd (never (list_any (may_name c a) refs) both.0 does)
          | inr own ↦ subst (λ hs. 0 < times c hs) at.held_is own
        ];
        not_reached = λ reached. never (reaches_with table kind k c) both.1
            (reached_if table kind k (slice_get vs place) c (λ v h. known_argument args a s.slots vs place v at.each is_vs h) reached);
      };
}
