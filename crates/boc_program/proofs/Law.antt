-- What every step keeps holds of the whole: a law of meanings.
use Rattle.std.proofs.Common.{◌≡◌, ℕ, zero, suc, ◌+◌, ◌≤◌, List, refl, Bool, true, false, IsTrue, Ok, Err, ℤ, arith}
use Rattle.std.specs.Prelude.{◌&&◌, slice_set, nat_le, if◌then◌else◌}
use Rattle.std.proofs.lemmas.Bool.Decides.{nat_tests}
use Rattle.boc_program.specs.declared.body.EndStatus.{EndStatus}
use Rattle.boc_program.specs.declared.body.EndStatus.TheVariants.{TickCap}
use Rattle.boc_program.specs.Value.{OrFault, value, values, then_value}
use Rattle.boc_program.specs.Meaning.{State, Next, Rest, Act, does, charge, given, turns, is_zero, as_count, cowns_of, distinct, wish, assign, ends}
use Rattle.boc_program.specs.Syntax.{SlotExpr, CownRef, Code, Done, Assign, Work, If, Repeat, When}
use Rattle.boc_program.specs.Signatures.{Test, whens_pass}
use Rattle.boc_program.proofs.Truth.{and_true}

abbrev pub after_ticks : ℕ → State → State
after_ticks n s = record s { ticks = s.ticks + n }

-- a fact of states that every step keeps, and one of a state and what follows, which every step hands back
pub record Keeps (I : State → Type 0) (R : State → Rest → Type 0) (test : Test) : Type 0 where
  pub at_end : (status : EndStatus) (s : State) → I s → R s (ends status s)
  pub ticks_keep : (n : ℕ) (s : State) → I s → s.ticks + n ≤ 1000000 → I (after_ticks n s)
  pub ticks_back : (n : ℕ) (s : State) (r : Rest) → I s → R (after_ticks n s) r → R s r
  pub write_keeps : (slot : ℕ) (v : ℤ) (s : State) → I s → I (record s { slots = slice_set s.slots slot v })
  pub write_back : (slot : ℕ) (v : ℤ) (s : State) (r : Rest) → I s → R (record s { slots = slice_set s.slots slot v }) r → R s (assign slot r)
  pub wish_back : (kind : ℕ) (args : List SlotExpr) (refs : List CownRef) (s : State) (vs : List ℤ) (cs : List ℕ) (r : Rest) → IsTrue (test kind args refs)
      → I s → Ok vs ≡ values args s.slots → Ok cs ≡ then_value (cowns_of refs (after_ticks 1 s)) distinct → R (after_ticks 1 s) r
      → R s (wish (record { offset = s.ticks + 1; kind = kind; args = vs; cowns = cs }) r)

module _ (I : State → Type 0) (R : State → Rest → Type 0) (test : Test) (k : Keeps I R test) where
  -- it hands R back from wherever it goes on
  abbrev HandsBack : Act → Type 0
  HandsBack a = (s : State) (next : Next) → I s → ((s : State) → I s → R s (next s)) → R s (a s next)

  charge_if : (b : Bool) (n : ℕ) (s : State) (next : Next) → nat_le (s.ticks + n) 1000000 ≡ b → I s
      → (s.ticks + n ≤ 1000000 → R (after_ticks n s) (next (after_ticks n s))) → R s (if b then next (after_ticks n s) else ends TickCap s)
  charge_if true n s next e i h = k.ticks_back n s _ i (h (grind (arith, nat_tests)))
  charge_if false n s next e i h = k.at_end TickCap s i

  charge_law : (n : ℕ) (s : State) (next : Next) → I s → (s.ticks + n ≤ 1000000 → R (after_ticks n s) (next (after_ticks n s))) → R s (charge n s next)
  charge_law n s next i h = charge_if (nat_le (s.ticks + n) 1000000) n s next refl i h

  given_law : {A : Type 0} (r : OrFault A) (s : State) (go : A → Rest) → I s → ((v : A) → Ok v ≡ r → R s (go v)) → R s (given r s go)
  given_law (Ok v) s go i h = h v refl
  given_law (Err fault) s go i h = k.at_end fault s i

  -- the same where the tick of a `when` is counted
  charge_when_if : (b : Bool) (s : State) (next : Next) → nat_le (s.ticks + 1) 1000000 ≡ b → I s → (s.ticks + 1 ≤ 1000000 → R s (next (after_ticks 1 s)))
      → R s (if b then next (after_ticks 1 s) else ends TickCap s)
  charge_when_if true s next e i h = h (grind (arith, nat_tests))
  charge_when_if false s next e i h = k.at_end TickCap s i

  charge_when : (s : State) (next : Next) → I s → (s.ticks + 1 ≤ 1000000 → R s (next (after_ticks 1 s))) → R s (charge 1 s next)
  charge_when s next i h = charge_when_if (nat_le (s.ticks + 1) 1000000) s next refl i h

  given_when : {A : Type 0} (r : OrFault A) (s : State) (go : A → Rest) → I s → s.ticks + 1 ≤ 1000000 → ((v : A) → Ok v ≡ r → R s (go v))
      → R s (given r (after_ticks 1 s) go)
  given_when (Ok v) s go i fits h = h v refl
  given_when (Err fault) s go i fits h = k.ticks_back 1 s (ends fault (after_ticks 1 s)) i (k.at_end fault (after_ticks 1 s) (k.ticks_keep 1 s i fits))

  turns_law : (n : ℕ) (a : Act) → HandsBack a → HandsBack (turns n a)
  turns_law zero a b s next i h = h s i
  turns_law (suc n) a b s next i h =
      charge_law 1 s (λ s. a s (λ s. turns n a s next)) i
      (λ fits. b (after_ticks 1 s) (λ s. turns n a s next) (k.ticks_keep 1 s i fits) (λ s i. turns_law n a b s next i h))

  -- the two blocks of an if
  either_law : (c : Bool) (a b : Act) → HandsBack a → HandsBack b → HandsBack (if c then b else a)
  either_law true a b h g = g
  either_law false a b h g = h

  pub law : (c : Code) → IsTrue (whens_pass test c) → HandsBack (does c)
  law Done t s next i h = h s i
  law (Assign slot e rest) t s next i h =
      charge_law 1 s (λ s. given (value e s.slots) s (λ v. assign slot (does rest (record s { slots = slice_set s.slots slot v }) next))) i (λ fits.
      let s1 : State = after_ticks 1 s in
      let i1 : I s1 = k.ticks_keep 1 s i fits in
      given_law (value e s1.slots) s1 (λ v. assign slot (does rest (record s1 { slots = slice_set s1.slots slot v }) next)) i1 (λ v is.
      let s2 : State = record s1 { slots = slice_set s1.slots slot v } in
      k.write_back slot v s1 (does rest s2 next) i1 (law rest t s2 next (k.write_keeps slot v s1 i1) h)))
  law (Work e rest) t s next i h =
      given_law (then_value (value e s.slots) as_count) s (λ n. charge n s (λ s. does rest s next)) i (λ n is.
      charge_law n s (λ s. does rest s next) i (λ fits. law rest t (after_ticks n s) next (k.ticks_keep n s i fits) h))
  law (If e block other rest) t s next i h =
      let both = and_true (whens_pass test block && whens_pass test other) (whens_pass test rest) t in
      let blocks = and_true (whens_pass test block) (whens_pass test other) both.0 in
      charge_law 1 s (λ s. given (value e s.slots) s (λ v. (if is_zero v then does other else does block) s (λ s. does rest s next))) i (λ fits.
      let s1 : State = after_ticks 1 s in
      let i1 : I s1 = k.ticks_keep 1 s i fits in
      given_law (value e s1.slots) s1 (λ v. (if is_zero v then does other else does block) s1 (λ s. does rest s next)) i1 (λ v is.
      either_law (is_zero v) (does block) (does other) (law block blocks.0) (law other blocks.1) s1 (λ s. does rest s next) i1
      (λ s i. law rest both.1 s next i h)))
  law (Repeat e block rest) t s next i h =
      let both = and_true (whens_pass test block) (whens_pass test rest) t in
      charge_law 1 s (λ s. given (then_value (value e s.slots) as_count) s (λ n. turns n (does block) s (λ s. does rest s next))) i (λ fits.
      let s1 : State = after_ticks 1 s in
      let i1 : I s1 = k.ticks_keep 1 s i fits in
      given_law (then_value (value e s1.slots) as_count) s1 (λ n. turns n (does block) s1 (λ s. does rest s next)) i1 (λ n is.
      turns_law n (does block) (law block both.0) s1 (λ s. does rest s next) i1 (λ s i. law rest both.1 s next i h)))
  law (When kind args refs rest) t s next i h =
      let both = and_true (test kind args refs) (whens_pass test rest) t in
      let s1 : State = after_ticks 1 s in
      charge_when s (λ s. given (values args s.slots) s (λ vs. given (then_value (cowns_of refs s) distinct) s
      (λ cs. wish (record { offset = s.ticks; kind = kind; args = vs; cowns = cs }) (does rest s next)))) i (λ fits.
      given_when (values args s1.slots) s (λ vs. given (then_value (cowns_of refs s1) distinct) s1
      (λ cs. wish (record { offset = s1.ticks; kind = kind; args = vs; cowns = cs }) (does rest s1 next))) i fits (λ vs is_vs.
      given_when (then_value (cowns_of refs s1) distinct) s (λ cs. wish (record { offset = s1.ticks; kind = kind; args = vs; cowns = cs }) (does rest s1 next))
      i fits (λ cs is_cs.
      k.wish_back kind args refs s vs cs (does rest s1 next) both.0 i is_vs is_cs (law rest both.1 s1 next (k.ticks_keep 1 s i fits) h))))
