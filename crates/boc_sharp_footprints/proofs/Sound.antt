-- Each wish of statements is one of a `when` to which they come where they are followed with what is known of the slots.
use Rattle.std.proofs.Common.{◌≡◌, ◌∙◌, ◌⊎◌, ℕ, zero, suc, ◌+◌, ◌≤◌, inl, inr, refl, sym, ap, subst, List, [], ◌∷◌, length, arith, Bool, true, false, IsTrue}
use Rattle.std.proofs.Common.{ℤ, pos, Option, Some, None, Ok, Err}
use Rattle.std.specs.Prelude.{if◌then◌else◌, ◌&&◌, ◌||◌, not, nat_le, slice_set, slice_index_or}
use Rattle.std.specs.List.{Contains}
use Rattle.std.proofs.lemmas.List.{length-set, get_or-set_same, get_or-set_other}
use Rattle.std.proofs.lemmas.Bool.{cases_lt}
use Rattle.boc_program.specs.declared.body.EndStatus.{EndStatus}
use Rattle.boc_program.specs.declared.body.EndStatus.TheVariants.{TickCap}
use Rattle.boc_program.specs.Value.{OrFault, value, values, then_value}
use Rattle.boc_program.specs.Meaning.{Wish, State, Next, Rest, Act, does, charge, given, turns, is_zero, as_count, cowns_of, distinct, wish, assign, ends}
use Rattle.boc_program.specs.Syntax.{SlotExpr, CownRef, Code, Done, Assign, Work, If, Repeat, When}
use Rattle.boc_program.specs.Signatures.{Test, whens_pass}
use Rattle.boc_program.proofs.Truth.{and_true}
use Rattle.boc_footprints.proofs.Listed.{none_contained}
use Rattle.boc_footprints.proofs.Wishing.{one_more}
use Rattle.boc_sharp_footprints.specs.Known.{Known, known, known_at, may_hold, may_fail}
use Rattle.boc_sharp_footprints.specs.Followed.{KnownTest, forget, after, past, some_when}
use Rattle.boc_sharp_footprints.proofs.Valued.{AreKnown, known_value}
use Rattle.boc_sharp_footprints.proofs.Forgetting.{IsLess, less_forgotten, less_twice, still_less, past_less, past_after}

-- a state of a behaviour that has these cowns, of whose slots this is known
pub record IsAt (held : List ℕ) (a : Known) (s : State) : Type 0 where
  pub held_is : s.held ≡ held
  pub many : length a ≤ length s.slots
  pub each : AreKnown a s.slots

less_at : (held : List ℕ) (less a : Known) (s : State) → IsLess less a → IsAt held a s → IsAt held less s
less_at held less a s l h = record {
  held_is = h.held_is;
  many = omega (arith, l.many, h.many);
  each = λ i v is. h.each i v (l.each i v is);
}

after_ticks : ℕ → State → State
after_ticks n s = record s { ticks = s.ticks + n }

ticks_at : (held : List ℕ) (a : Known) (n : ℕ) (s : State) → IsAt held a s → IsAt held a (record s { ticks = s.ticks + n })
ticks_at held a n s h = record { held_is = h.held_is; many = h.many; each = h.each }

-- ---- a slot is set

pub past_end : (a : Known) (slot : ℕ) (x : Option ℤ) → length a ≤ slot → known_at (slice_set a slot x) slot ≡ None
past_end [] slot x h = refl
past_end (y ∷ a) zero x h = absurd (omega (arith, h))
past_end (y ∷ a) (suc slot) x h = past_end a slot x (omega (arith, h))

none_known : (v : ℤ) → None ≡ Some v → ⊥
none_known v h = cc

same_known : (v w : ℤ) (x : Option ℤ) → x ≡ Some v → ((u : ℤ) → x ≡ Some u → u ≡ w) → w ≡ v
same_known v w x h f = sym (f v h)

set_known : (a : Known) (slots : List ℤ) (slot : ℕ) (x : Option ℤ) (w : ℤ) → AreKnown a slots → length a ≤ length slots
    → ((u : ℤ) → x ≡ Some u → u ≡ w) → AreKnown (slice_set a slot x) (slice_set slots slot w)
set_known a slots slot x w h many f i v is = elim (nat_cases i slot) [
  | inl same ↦ elim (cases_lt slot (length a)) [
    | inl low ↦
        let here : known_at (slice_set a slot x) slot ≡ x = get_or-set_same a slot x None low in
        let there : slice_index_or (slice_set slots slot w) slot (pos 0) ≡ w = get_or-set_same slots slot w (pos 0) (omega (arith, low, many)) in
        let known_is : x ≡ Some v = sym here ∙ subst (λ k. known_at (slice_set a slot x) k ≡ Some v) same is in
        subst (λ k. slice_index_or (slice_set slots slot w) k (pos 0) ≡ v) (sym same) (there ∙ same_known v w x known_is f)
    | inr high ↦ absurd (none_known v (sym (past_end a slot x high) ∙ subst (λ k. known_at (slice_set a slot x) k ≡ Some v) same is))
  ]
  | inr other ↦
      get_or-set_other slots slot i w (pos 0) other
      ∙ h i v (sym (get_or-set_other a slot i x None other) ∙ is)
]
  where
    nat_cases : (i slot : ℕ) → (i ≡ slot) ⊎ (i ≡ slot → ⊥)
    nat_cases zero zero = inl refl
    nat_cases zero (suc slot) = inr (λ e. absurd (omega (arith, e)))
    nat_cases (suc i) zero = inr (λ e. absurd (omega (arith, e)))
    nat_cases (suc i) (suc slot) = elim (nat_cases i slot) [
      | inl is ↦ inl (ap suc is)
      | inr not_so ↦ inr (λ e. not_so (omega (arith, e)))
    ]

set_at : (held : List ℕ) (a : Known) (s : State) (slot : ℕ) (e : SlotExpr) (w : ℤ) → IsAt held a s → Ok w ≡ value e s.slots
    → IsAt held (slice_set a slot (known e a)) (record s { slots = slice_set s.slots slot w })
set_at held a s slot e w h is = record {
  held_is = h.held_is;
  many = omega (arith, h.many, length-set a slot (known e a), length-set s.slots slot w);
  each = set_known a s.slots slot (known e a) w h.each h.many (λ u k. known_value e a s.slots h.each u w k is);
}

-- ---- tests of a condition

or_no : (a b : Bool) → (a || b) ≡ false → (a ≡ false) × (b ≡ false)
or_no true b h = absurd cc
or_no false b h = (refl, h)

and_no : (a b : Bool) → a ≡ true → (a && b) ≡ false → b ≡ false
and_no true b t h = h
and_no false b t h = absurd cc

holds : (k : Option ℤ) (v : ℤ) → ((u : ℤ) → k ≡ Some u → u ≡ v) → is_zero v ≡ false → may_hold k ≡ true
holds None v f z = refl
holds (Some u) v f z = ap not (ap is_zero (f u refl) ∙ z)

fails : (k : Option ℤ) (v : ℤ) → ((u : ℤ) → k ≡ Some u → u ≡ v) → is_zero v ≡ true → may_fail k ≡ true
fails None v f z = refl
fails (Some u) v f z = ap is_zero (f u refl) ∙ z

-- ---- the law

-- what holds of a wish of a `when` that passes one test and not the other, whatever the values that are not known
pub record Meets (pass : Test) (test : KnownTest) (held : List ℕ) (P : Wish → Type 0) : Type 0 where
  pub at_when : (kind : ℕ) (args : List SlotExpr) (refs : List CownRef) (a : Known) (s : State) (vs : List ℤ) (cs : List ℕ) → IsTrue (pass kind args refs)
      → test kind args refs a ≡ false → IsAt held a s → Ok vs ≡ values args s.slots → Ok cs ≡ then_value (cowns_of refs s) distinct
      → P (record { offset = s.ticks; kind = kind; args = vs; cowns = cs })

module _ (pass : Test) (test : KnownTest) (held : List ℕ) (P : Wish → Type 0) (m : Meets pass test held P) where
  -- each wish of what is left
  abbrev Each : Rest → Type 0
  Each r = (w : Wish) → Contains r.wishes w → P w

  none_at_end : (status : EndStatus) (s : State) → Each (ends status s)
  none_at_end status s w among = absurd (none_contained w among)

  charge_if : (b : Bool) (n : ℕ) (s : State) (next : Next) → Each (next (record s { ticks = s.ticks + n }))
      → Each (if b then next (record s { ticks = s.ticks + n }) else ends TickCap s)
  charge_if true n s next h = h
  charge_if false n s next h = none_at_end TickCap s

  charged : (n : ℕ) (s : State) (next : Next) → Each (next (record s { ticks = s.ticks + n })) → Each (charge n s next)
  charged n s next h = charge_if (nat_le (s.ticks + n) 1000000) n s next h

  where_given : {A : Type 0} (r : OrFault A) (s : State) (go : A → Rest) → ((v : A) → Ok v ≡ r → Each (go v)) → Each (given r s go)
  where_given (Ok v) s go h = h v refl
  where_given (Err fault) s go h = none_at_end fault s

  -- from where this is known it goes on to where that is known
  abbrev Leads : Known → Known → Act → Type 0
  Leads a b act = (s : State) (next : Next) → IsAt held a s → ((s : State) → IsAt held b s → Each (next s)) → Each (act s next)

  all_turns : (n : ℕ) (a : Known) (act : Act) → Leads a a act → Leads a a (turns n act)
  all_turns zero a act l s next i h = h s i
  all_turns (suc n) a act l s next i h =
      charged 1 s (λ s. act s (λ s. turns n act s next))
      (l (record s { ticks = s.ticks + 1 }) (λ s. turns n act s next) (ticks_at held a 1 s i) (λ s i. all_turns n a act l s next i h))

  less_leads : (a b c d : Known) (act : Act) → IsLess a b → IsLess d c → Leads a c act → Leads b d act
  less_leads a b c d act f g l s next i h =
      l s next (less_at held a b s f i) (λ s i. h s (less_at held d c s g i))

  -- one of two blocks
  either : (z : Bool) (v : ℤ) (a b : Known) (block other : Act) → is_zero v ≡ z → (is_zero v ≡ false → Leads a b block)
      → (is_zero v ≡ true → Leads a b other) → Leads a b (if z then other else block)
  either true v a b block other e f g = g e
  either false v a b block other e f g = f e

  pub law : (c : Code) (a : Known) → IsTrue (whens_pass pass c) → some_when test c a ≡ false → Leads a (after c a) (does c)
  law Done a t none s next i h = h s i
  law (Assign slot e rest) a t none s next i h =
      charged 1 s (λ s. given (value e s.slots) s (λ v. assign slot (does rest (record s { slots = slice_set s.slots slot v }) next)))
      (let s1 : State = record s { ticks = s.ticks + 1 } in
      let i1 : IsAt held a s1 = ticks_at held a 1 s i in
      where_given (value e s1.slots) s1 (λ v. assign slot (does rest (record s1 { slots = slice_set s1.slots slot v }) next)) (λ v is.
      law rest (slice_set a slot (known e a)) t none (record s1 { slots = slice_set s1.slots slot v }) next (set_at held a s1 slot e v i1 is) h))
  law (Work e rest) a t none s next i h =
      where_given (then_value (value e s.slots) as_count) s (λ n. charge n s (λ s. does rest s next)) (λ n is.
      charged n s (λ s. does rest s next) (law rest a t none (record s { ticks = s.ticks + n }) next (ticks_at held a n s i) h))
  law (If e block other rest) a t none s next i h =
      let both = and_true (whens_pass pass block && whens_pass pass other) (whens_pass pass rest) t in
      let blocks = and_true (whens_pass pass block) (whens_pass pass other) both.0 in
      let k : Option ℤ = known e a in
      let b1 : Known = past (may_hold k) block a in
      let b2 : Known = past (may_fail k) other b1 in
      let parts = or_no ((may_hold k && some_when test block a) || (may_fail k && some_when test other b1)) (some_when test rest b2) none in
      let two = or_no (may_hold k && some_when test block a) (may_fail k && some_when test other b1) parts.0 in
      charged 1 s (λ s. given (value e s.slots) s (λ v. (if is_zero v then does other else does block) s (λ s. does rest s next)))
      (let s1 : State = record s { ticks = s.ticks + 1 } in
      let i1 : IsAt held a s1 = ticks_at held a 1 s i in
      where_given (value e s1.slots) s1 (λ v. (if is_zero v then does other else does block) s1 (λ s. does rest s next)) (λ v is.
      let f : (u : ℤ) → k ≡ Some u → u ≡ v = λ u ku. known_value e a s1.slots i1.each u v ku is in
      either (is_zero v) v a b2 (does block) (does other) refl
      (λ z.
      let may : may_hold k ≡ true = holds k v f z in
      let less : IsLess b1 (after block a) = subst (λ b. IsLess (past b block a) (after block a)) (sym may) (past_after block a) in
      less_leads a a (after block a) b2 (does block) (record { many = refl; each = λ i v h. h })
      (less_twice b2 b1 (after block a) (past_less (may_fail k) other b1) less)
      (law block a blocks.0 (and_no (may_hold k) (some_when test block a) may two.0)))
      (λ z.
      let may : may_fail k ≡ true = fails k v f z in
      let less : IsLess b2 (after other b1) = subst (λ b. IsLess (past b other b1) (after other b1)) (sym may) (past_after other b1) in
      less_leads b1 a (after other b1) b2 (does other) (past_less (may_hold k) block a) less
      (law other b1 blocks.1 (and_no (may_fail k) (some_when test other b1) may two.1)))
      s1 (λ s. does rest s next) i1 (λ s i. law rest b2 both.1 parts.1 s next i h)))
  law (Repeat e block rest) a t none s next i h =
      let both = and_true (whens_pass pass block) (whens_pass pass rest) t in
      let b1 : Known = forget block a in
      let b2 : Known = past true block b1 in
      let parts = or_no (some_when test block b1) (some_when test rest b2) none in
      charged 1 s (λ s. given (then_value (value e s.slots) as_count) s (λ n. turns n (does block) s (λ s. does rest s next)))
      (let s1 : State = record s { ticks = s.ticks + 1 } in
      let i1 : IsAt held a s1 = ticks_at held a 1 s i in
      where_given (then_value (value e s1.slots) as_count) s1 (λ n. turns n (does block) s1 (λ s. does rest s next)) (λ n is.
      all_turns n b1 (does block)
      (less_leads b1 b1 (after block b1) b1 (does block) (record { many = refl; each = λ i v h. h }) (still_less block a) (law block b1 both.0 parts.0))
      s1 (λ s. does rest s next) (less_at held b1 a s1 (less_forgotten block a) i1)
      (λ s i. law rest b2 both.1 parts.1 s next (less_at held b2 b1 s (past_less true block b1) i) h)))
  law (When kind args refs rest) a t none s next i h =
      let both = and_true (pass kind args refs) (whens_pass pass rest) t in
      let parts = or_no (test kind args refs a) (some_when test rest a) none in
      charged 1 s (λ s. given (values args s.slots) s (λ vs. given (then_value (cowns_of refs s) distinct) s
      (λ cs. wish (record { offset = s.ticks; kind = kind; args = vs; cowns = cs }) (does rest s next))))
      (let s1 : State = record s { ticks = s.ticks + 1 } in
      let i1 : IsAt held a s1 = ticks_at held a 1 s i in
      where_given (values args s1.slots) s1 (λ vs. given (then_value (cowns_of refs s1) distinct) s1
      (λ cs. wish (record { offset = s1.ticks; kind = kind; args = vs; cowns = cs }) (does rest s1 next))) (λ vs is_vs.
      where_given (then_value (cowns_of refs s1) distinct) s1
      (λ cs. wish (record { offset = s1.ticks; kind = kind; args = vs; cowns = cs }) (does rest s1 next)) (λ cs is_cs.
      let w : Wish = record { offset = s1.ticks; kind = kind; args = vs; cowns = cs } in
      one_more P w (does rest s1 next).wishes (m.at_when kind args refs a s1 vs cs both.0 parts.0 i1 is_vs is_cs)
      (law rest a both.1 parts.1 s1 next i1 h))))
