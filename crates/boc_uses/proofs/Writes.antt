-- The writes among the uses of a body are the assignments of its meaning.
use Rattle.std.proofs.Common.{◌≡◌, ℕ, zero, suc, ◌+◌, List, [], ◌∷◌, ◌++◌, refl, sym, ap, ◌∙◌, Bool, true, false, Option, Some, None, Ok, Err, ℤ}
use Rattle.std.specs.Prelude.{nat_le, nat_eq, if◌then◌else◌, map, slice_set}
use Rattle.std.specs.List.{filter}
use Rattle.boc_program.specs.declared.body.Body.{Body}
use Rattle.boc_program.specs.declared.body.EndStatus.TheVariants.{TickCap}
use Rattle.boc_program.specs.declared.body.EndStatus.TheVariants as status
use Rattle.boc_program.specs.declared.short.Input.{Input}
use Rattle.boc_program.specs.Syntax.{SlotExpr, CownRef, Code, Done, Assign, Work, If, Repeat, When}
use Rattle.boc_program.specs.Value.{OrFault, then_value, value, values}
use Rattle.boc_program.specs.Meaning.{State, Rest, Next, Act, does, charge, given, turns, is_zero, as_count, assign, cowns_of, distinct, ends, start, wish}
use Rattle.boc_uses.specs.declared.uses.Way.TheVariants.{Needing, Updating}
use Rattle.boc_uses.specs.Uses.{SlotUse, Using, all_slots_read, code_uses, evaluated, if_value, paid, reads, refs_slots_read, slots_read}
use Rattle.boc_uses.specs.Uses.{turns_use, way_of, write}
use Rattle.boc_uses.specs.Laws.{WritesAreAssignments, slots_written, writes}

-- what is used from a state on writes what is assigned from there on
abbrev Same : Using → Next → Type 0
Same using next = (s : State) → slots_written (using s) ≡ (next s).assigned

no_write_if : (b : Bool) → writes (if b then Updating else Needing) ≡ false
no_write_if true = refl
no_write_if false = refl

no_write : (own : Option ℕ) (slot : ℕ) → writes (way_of own slot) ≡ false
no_write None slot = refl
no_write (Some own) slot = no_write_if (nat_eq slot own)

-- a use that is no write
not_written : (w : Bool) (u : SlotUse) (us : List SlotUse) → w ≡ false
    → map (λ u. u.slot) (if w then u ∷ filter (λ u. writes u.way) us else filter (λ u. writes u.way) us)
    ≡ slots_written us
not_written w u us e = ap (λ (w : Bool). map (λ u. u.slot) (if w then u ∷ filter (λ u. writes u.way) us else filter (λ u. writes u.way) us)) e

-- reads write no slot
after_reads : (tick : ℕ) (own : Option ℕ) (slots : List ℕ) (us : List SlotUse) → slots_written (reads tick own slots ++ us) ≡ slots_written us
after_reads tick own [] us = refl
after_reads tick own (slot ∷ slots) us =
    not_written (writes (way_of own slot)) (record { slot = slot; tick = tick; way = way_of own slot }) (reads tick own slots ++ us) (no_write own slot)
    ∙ after_reads tick own slots us

paid_same_if : (b : Bool) (n : ℕ) (s : State) (using : Using) (next : Next) → Same using next
    → slots_written (if b then using (record s { ticks = s.ticks + n }) else [])
    ≡ (if b then next (record s { ticks = s.ticks + n }) else ends TickCap s).assigned
paid_same_if true n s using next h = h (record s { ticks = s.ticks + n })
paid_same_if false n s using next h = refl

paid_same : (n : ℕ) (s : State) (using : Using) (next : Next) → Same using next → slots_written (paid n s using) ≡ (charge n s next).assigned
paid_same n s using next h = paid_same_if (nat_le (s.ticks + n) 1000000) n s using next h

given_same : {A : Type 0} (r : OrFault A) (s : State) (go : A → List SlotUse) (next : A → Rest) → ((v : A) → slots_written (go v) ≡ (next v).assigned)
    → slots_written (if_value r go) ≡ (given r s next).assigned
given_same (Ok v) s go next h = h v
given_same (Err fault) s go next h = refl

evaluated_same : (own : Option ℕ) (e : SlotExpr) (s : State) (go : ℤ → List SlotUse) (next : ℤ → Rest) → ((v : ℤ) → slots_written (go v) ≡ (next v).assigned)
    → slots_written (evaluated own e s go) ≡ (given (value e s.slots) s next).assigned
evaluated_same own e s go next h =
    after_reads s.ticks own (slots_read e s.slots) (if_value (value e s.slots) go) ∙ given_same (value e s.slots) s go next h

-- the same, where the value is a number of ticks or turns
count_same : (r : OrFault ℤ) (s : State) (go : ℕ → List SlotUse) (next : ℕ → Rest) → ((n : ℕ) → slots_written (go n) ≡ (next n).assigned)
    → slots_written (if_value r (λ v. if_value (as_count v) go)) ≡ (given (then_value r as_count) s next).assigned
count_same (Ok v) s go next h = given_same (as_count v) s go next h
count_same (Err fault) s go next h = refl

counted_same : (e : SlotExpr) (s : State) (go : ℕ → List SlotUse) (next : ℕ → Rest) → ((n : ℕ) → slots_written (go n) ≡ (next n).assigned)
    → slots_written (evaluated None e s (λ v. if_value (as_count v) go)) ≡ (given (then_value (value e s.slots) as_count) s next).assigned
counted_same e s go next h =
    after_reads s.ticks None (slots_read e s.slots) (if_value (value e s.slots) (λ v. if_value (as_count v) go)) ∙ count_same (value e s.slots) s go next h

abbrev SameAct : (State → Using → List SlotUse) → Act → Type 0
SameAct act_uses act = (s : State) (using : Using) (next : Next) → Same using next → slots_written (act_uses s using) ≡ (act s next).assigned

turns_same : (n : ℕ) (act_uses : State → Using → List SlotUse) (act : Act) → SameAct act_uses act → SameAct (turns_use n act_uses) (turns n act)
turns_same zero act_uses act a s using next h = h s
turns_same (suc n) act_uses act a s using next h =
    paid_same 1 s (λ s. act_uses s (λ s. turns_use n act_uses s using)) (λ s. act s (λ s. turns n act s next)) (λ s.
    a s (λ s. turns_use n act_uses s using) (λ s. turns n act s next) (λ s. turns_same n act_uses act a s using next h))

either_same : (b : Bool) (u1 u2 : State → Using → List SlotUse) (a1 a2 : Act) → SameAct u1 a1 → SameAct u2 a2
    → SameAct (if b then u1 else u2) (if b then a1 else a2)
either_same true u1 u2 a1 a2 f g = f
either_same false u1 u2 a1 a2 f g = g

-- what a `when` uses and does, once its arguments have values, and once its tick is counted
abbrev refs_uses : List CownRef → Code → Using → Using
refs_uses refs rest using s =
    reads s.ticks None (refs_slots_read refs s) ++ if_value (then_value (cowns_of refs s) distinct) (λ cs. code_uses rest s using)

abbrev refs_does : ℕ → List ℤ → List CownRef → Code → Next → Next
refs_does kind vs refs rest next s =
    given (then_value (cowns_of refs s) distinct) s (λ cs.
    wish (record { offset = s.ticks; kind = kind; args = vs; cowns = cs }) (does rest s next))

abbrev when_uses : List SlotExpr → List CownRef → Code → Using → Using
when_uses args refs rest using s =
    reads s.ticks None (all_slots_read args s.slots) ++ if_value (values args s.slots) (λ vs. refs_uses refs rest using s)

abbrev when_does : ℕ → List SlotExpr → List CownRef → Code → Next → Next
when_does kind args refs rest next s = given (values args s.slots) s (λ vs. refs_does kind vs refs rest next s)

code_same : (c : Code) → SameAct (code_uses c) (does c)
code_same Done s using next h = h s
code_same (Assign slot e rest) s using next h =
    paid_same 1 s
    (λ s. evaluated (Some slot) e s (λ v. write slot s ∷ code_uses rest (record s { slots = slice_set s.slots slot v }) using))
    (λ s. given (value e s.slots) s (λ v. assign slot (does rest (record s { slots = slice_set s.slots slot v }) next)))
    (λ s. evaluated_same (Some slot) e s
    (λ v. write slot s ∷ code_uses rest (record s { slots = slice_set s.slots slot v }) using)
    (λ v. assign slot (does rest (record s { slots = slice_set s.slots slot v }) next))
    (λ v. ap (λ (slots : List ℕ). slot ∷ slots) (code_same rest (record s { slots = slice_set s.slots slot v }) using next h)))
code_same (Work e rest) s using next h =
    counted_same e s (λ n. paid n s (λ s. code_uses rest s using)) (λ n. charge n s (λ s. does rest s next))
    (λ n. paid_same n s (λ s. code_uses rest s using) (λ s. does rest s next) (λ s. code_same rest s using next h))
code_same (If e block other rest) s using next h =
    paid_same 1 s
    (λ s. evaluated None e s (λ v. (if is_zero v then code_uses other else code_uses block) s (λ s. code_uses rest s using)))
    (λ s. given (value e s.slots) s (λ v. (if is_zero v then does other else does block) s (λ s. does rest s next)))
    (λ s. evaluated_same None e s
    (λ v. (if is_zero v then code_uses other else code_uses block) s (λ s. code_uses rest s using))
    (λ v. (if is_zero v then does other else does block) s (λ s. does rest s next))
    (λ v. either_same (is_zero v) (code_uses other) (code_uses block) (does other) (does block) (code_same other) (code_same block) s
    (λ s. code_uses rest s using) (λ s. does rest s next) (λ s. code_same rest s using next h)))
code_same (Repeat e block rest) s using next h =
    paid_same 1 s
    (λ s. evaluated None e s (λ v. if_value (as_count v) (λ n. turns_use n (code_uses block) s (λ s. code_uses rest s using))))
    (λ s. given (then_value (value e s.slots) as_count) s (λ n. turns n (does block) s (λ s. does rest s next)))
    (λ s. counted_same e s
    (λ n. turns_use n (code_uses block) s (λ s. code_uses rest s using))
    (λ n. turns n (does block) s (λ s. does rest s next))
    (λ n. turns_same n (code_uses block) (does block) (code_same block) s (λ s. code_uses rest s using) (λ s. does rest s next)
    (λ s. code_same rest s using next h)))
code_same (When kind args refs rest) s using next h =
    paid_same 1 s (when_uses args refs rest using) (when_does kind args refs rest next) (λ s.
    after_reads s.ticks None (all_slots_read args s.slots) (if_value (values args s.slots) (λ vs. refs_uses refs rest using s))
    ∙ given_same (values args s.slots) s (λ vs. refs_uses refs rest using s) (λ vs. refs_does kind vs refs rest next s) (λ vs.
    after_reads s.ticks None (refs_slots_read refs s) (if_value (then_value (cowns_of refs s) distinct) (λ cs. code_uses rest s using))
    ∙ given_same (then_value (cowns_of refs s) distinct) s (λ cs. code_uses rest s using)
    (λ cs. wish (record { offset = s.ticks; kind = kind; args = vs; cowns = cs }) (does rest s next)) (λ cs.
    code_same rest s using next h)))

pub writes_are_assignments : (body : Body) (args : List ℤ) (inputs : List Input) → WritesAreAssignments body args inputs
writes_are_assignments body args inputs = code_same body.block (start body args inputs) (λ s. []) (ends status.Done) (λ s. refl)
