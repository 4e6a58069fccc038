-- The uses of a body rise from its first tick to its last, and so do its uses of each cown.
use Rattle.std.proofs.Common.{◌≡◌, ℕ, zero, suc, ◌+◌, ◌≤◌, List, [], ◌∷◌, ◌++◌, length, Bool, true, false, Option, Some, None, Ok, Err, ℤ, arith}
use Rattle.std.proofs.Common.{subst}
use Rattle.std.specs.Prelude.{nat_le, nat_eq, if◌then◌else◌, slice_get, slice_set}
use Rattle.boc_program.specs.declared.body.Body.{Body}
use Rattle.boc_program.specs.declared.body.EndStatus.TheVariants.{TickCap}
use Rattle.boc_program.specs.declared.body.EndStatus.TheVariants as status
use Rattle.boc_program.specs.declared.short.Input.{Input}
use Rattle.boc_program.specs.Syntax.{SlotExpr, CownRef, Code, Done, Assign, Work, If, Repeat, When}
use Rattle.boc_program.specs.Value.{OrFault, then_value, value, values}
use Rattle.boc_program.specs.Meaning.{State, Rest, Next, Act, does, charge, given, turns, is_zero, as_count, assign, cowns_of, distinct, ends, meaning, start}
use Rattle.boc_program.specs.Meaning.{wish}
use Rattle.boc_uses.specs.declared.uses.Use.{Use}
use Rattle.boc_uses.specs.Uses.{SlotUse, Using, all_slots_read, body_uses, code_uses, evaluated, if_value, last_tick, of_slot, paid, reads}
use Rattle.boc_uses.specs.Uses.{refs_slots_read, slots_read, summaries, summary, turns_use, write}
use Rattle.boc_uses.specs.Laws.{LiesWithin, RiseBetween, UsesLieWithin, UsesRise}

-- ---- lists of uses

-- the least tick may be lower
lower : (low more high : ℕ) (us : List SlotUse) → low ≤ more → RiseBetween more us high → RiseBetween low us high
lower low more high [] le h = omega (arith, le, h)
lower low more high (u ∷ us) le h = (omega (arith, le, h.0), h.1)

-- what rises does so from one end to the other
through : (low high : ℕ) (us : List SlotUse) → RiseBetween low us high → low ≤ high
through low high [] h = h
through low high (u ∷ us) h = omega (arith, h.0, through u.tick high us h.1)

-- reads are at one tick
after_reads : (tick high : ℕ) (own : Option ℕ) (slots : List ℕ) (us : List SlotUse) → RiseBetween tick us high → RiseBetween tick (reads tick own slots ++ us) high
after_reads tick high own [] us h = h
after_reads tick high own (slot ∷ slots) us h = (omega arith, after_reads tick high own slots us h)

-- ---- statements

-- what is used from a state on rises from its ticks to those at the end
abbrev Rises : Using → Next → Type 0
Rises using next = (s : State) → RiseBetween s.ticks (using s) (next s).ticks

paid_rises_if : (b : Bool) (n : ℕ) (s : State) (using : Using) (next : Next) → Rises using next
    → RiseBetween s.ticks (if b then using (record s { ticks = s.ticks + n }) else [])
    (if b then next (record s { ticks = s.ticks + n }) else ends TickCap s).ticks
paid_rises_if true n s using next h =
    lower s.ticks (s.ticks + n) (next (record s { ticks = s.ticks + n })).ticks (using (record s { ticks = s.ticks + n })) (omega arith)
    (h (record s { ticks = s.ticks + n }))
paid_rises_if false n s using next h = omega arith

paid_rises : (n : ℕ) (s : State) (using : Using) (next : Next) → Rises using next → RiseBetween s.ticks (paid n s using) (charge n s next).ticks
paid_rises n s using next h = paid_rises_if (nat_le (s.ticks + n) 1000000) n s using next h

given_rises : {A : Type 0} (r : OrFault A) (s : State) (go : A → List SlotUse) (next : A → Rest) → ((v : A) → RiseBetween s.ticks (go v) (next v).ticks)
    → RiseBetween s.ticks (if_value r go) (given r s next).ticks
given_rises (Ok v) s go next h = h v
given_rises (Err fault) s go next h = omega arith

evaluated_rises : (own : Option ℕ) (e : SlotExpr) (s : State) (go : ℤ → List SlotUse) (next : ℤ → Rest)
    → ((v : ℤ) → RiseBetween s.ticks (go v) (next v).ticks)
    → RiseBetween s.ticks (evaluated own e s go) (given (value e s.slots) s next).ticks
evaluated_rises own e s go next h =
    after_reads s.ticks (given (value e s.slots) s next).ticks own (slots_read e s.slots) (if_value (value e s.slots) go)
    (given_rises (value e s.slots) s go next h)

-- the same, where the value is a number of ticks or turns
count_rises : (r : OrFault ℤ) (s : State) (go : ℕ → List SlotUse) (next : ℕ → Rest) → ((n : ℕ) → RiseBetween s.ticks (go n) (next n).ticks)
    → RiseBetween s.ticks (if_value r (λ v. if_value (as_count v) go)) (given (then_value r as_count) s next).ticks
count_rises (Ok v) s go next h = given_rises (as_count v) s go next h
count_rises (Err fault) s go next h = omega arith

counted_rises : (e : SlotExpr) (s : State) (go : ℕ → List SlotUse) (next : ℕ → Rest) → ((n : ℕ) → RiseBetween s.ticks (go n) (next n).ticks)
    → RiseBetween s.ticks (evaluated None e s (λ v. if_value (as_count v) go)) (given (then_value (value e s.slots) as_count) s next).ticks
counted_rises e s go next h =
    after_reads s.ticks (given (then_value (value e s.slots) as_count) s next).ticks None (slots_read e s.slots)
    (if_value (value e s.slots) (λ v. if_value (as_count v) go)) (count_rises (value e s.slots) s go next h)

abbrev RisesAct : (State → Using → List SlotUse) → Act → Type 0
RisesAct act_uses act = (s : State) (using : Using) (next : Next) → Rises using next → RiseBetween s.ticks (act_uses s using) (act s next).ticks

turns_rise : (n : ℕ) (act_uses : State → Using → List SlotUse) (act : Act) → RisesAct act_uses act → RisesAct (turns_use n act_uses) (turns n act)
turns_rise zero act_uses act a s using next h = h s
turns_rise (suc n) act_uses act a s using next h =
    paid_rises 1 s (λ s. act_uses s (λ s. turns_use n act_uses s using)) (λ s. act s (λ s. turns n act s next)) (λ s.
    a s (λ s. turns_use n act_uses s using) (λ s. turns n act s next) (λ s. turns_rise n act_uses act a s using next h))

either_rises : (b : Bool) (u1 u2 : State → Using → List SlotUse) (a1 a2 : Act) → RisesAct u1 a1 → RisesAct u2 a2
    → RisesAct (if b then u1 else u2) (if b then a1 else a2)
either_rises true u1 u2 a1 a2 f g = f
either_rises false u1 u2 a1 a2 f g = g

-- what a `when` uses and does, once its arguments have values, and once its tick is counted
abbrev refs_uses : List CownRef → Code → Using → Using
refs_uses refs rest using s =
    reads s.ticks None (refs_slots_read refs s) ++ if_value (then_value (cowns_of refs s) distinct) (λ cs. code_uses rest s using)

abbrev refs_does : ℕ → List ℤ → List CownRef → Code → Next → Next
refs_does kind vs refs rest next s =
    given (then_value (cowns_of refs s) distinct) s (λ cs.
    wish (record { offset = s.ticks; kind = kind; args = vs; cowns = cs }) (does rest s next))

abbrev when_uses : List SlotExpr → List CownRef → Code → Using → Using
when_uses args refs rest using s =
    reads s.ticks None (all_slots_read args s.slots) ++ if_value (values args s.slots) (λ vs. refs_uses refs rest using s)

abbrev when_does : ℕ → List SlotExpr → List CownRef → Code → Next → Next
when_does kind args refs rest next s = given (values args s.slots) s (λ vs. refs_does kind vs refs rest next s)

code_rises : (c : Code) → RisesAct (code_uses c) (does c)
code_rises Done s using next h = h s
code_rises (Assign slot e rest) s using next h =
    paid_rises 1 s
    (λ s. evaluated (Some slot) e s (λ v. write slot s ∷ code_uses rest (record s { slots = slice_set s.slots slot v }) using))
    (λ s. given (value e s.slots) s (λ v. assign slot (does rest (record s { slots = slice_set s.slots slot v }) next)))
    (λ s. evaluated_rises (Some slot) e s
    (λ v. write slot s ∷ code_uses rest (record s { slots = slice_set s.slots slot v }) using)
    (λ v. assign slot (does rest (record s { slots = slice_set s.slots slot v }) next))
    (λ v. (omega arith, code_rises rest (record s { slots = slice_set s.slots slot v }) using next h)))
code_rises (Work e rest) s using next h =
    counted_rises e s (λ n. paid n s (λ s. code_uses rest s using)) (λ n. charge n s (λ s. does rest s next))
    (λ n. paid_rises n s (λ s. code_uses rest s using) (λ s. does rest s next) (λ s. code_rises rest s using next h))
code_rises (If e block other rest) s using next h =
    paid_rises 1 s
    (λ s. evaluated None e s (λ v. (if is_zero v then code_uses other else code_uses block) s (λ s. code_uses rest s using)))
    (λ s. given (value e s.slots) s (λ v. (if is_zero v then does other else does block) s (λ s. does rest s next)))
    (λ s. evaluated_rises None e s
    (λ v. (if is_zero v then code_uses other else code_uses block) s (λ s. code_uses rest s using))
    (λ v. (if is_zero v then does other else does block) s (λ s. does rest s next))
    (λ v. either_rises (is_zero v) (code_uses other) (code_uses block) (does other) (does block) (code_rises other) (code_rises block) s
    (λ s. code_uses rest s using) (λ s. does rest s next) (λ s. code_rises rest s using next h)))
code_rises (Repeat e block rest) s using next h =
    paid_rises 1 s
    (λ s. evaluated None e s (λ v. if_value (as_count v) (λ n. turns_use n (code_uses block) s (λ s. code_uses rest s using))))
    (λ s. given (then_value (value e s.slots) as_count) s (λ n. turns n (does block) s (λ s. does rest s next)))
    (λ s. counted_rises e s
    (λ n. turns_use n (code_uses block) s (λ s. code_uses rest s using))
    (λ n. turns n (does block) s (λ s. does rest s next))
    (λ n. turns_rise n (code_uses block) (does block) (code_rises block) s (λ s. code_uses rest s using) (λ s. does rest s next)
    (λ s. code_rises rest s using next h)))
code_rises (When kind args refs rest) s using next h =
    paid_rises 1 s (when_uses args refs rest using) (when_does kind args refs rest next) (λ s.
    after_reads s.ticks (when_does kind args refs rest next s).ticks None (all_slots_read args s.slots)
    (if_value (values args s.slots) (λ vs. refs_uses refs rest using s))
    (given_rises (values args s.slots) s (λ vs. refs_uses refs rest using s) (λ vs. refs_does kind vs refs rest next s) (λ vs.
    after_reads s.ticks (refs_does kind vs refs rest next s).ticks None (refs_slots_read refs s)
    (if_value (then_value (cowns_of refs s) distinct) (λ cs. code_uses rest s using))
    (given_rises (then_value (cowns_of refs s) distinct) s (λ cs. code_uses rest s using)
    (λ cs. wish (record { offset = s.ticks; kind = kind; args = vs; cowns = cs }) (does rest s next)) (λ cs.
    code_rises rest s using next h)))))

pub uses_rise : (body : Body) (args : List ℤ) (inputs : List Input) → UsesRise body args inputs
uses_rise body args inputs = code_rises body.block (start body args inputs) (λ s. []) (ends status.Done) (λ s. omega arith)

-- ---- the uses of a slot

-- some of the uses rise too
kept_rise : (b : Bool) (low high : ℕ) (u : SlotUse) (us : List SlotUse) → low ≤ u.tick → RiseBetween u.tick us high
    → RiseBetween low (if b then u ∷ us else us) high
kept_rise true low high u us le h = (le, h)
kept_rise false low high u us le h = lower low u.tick high us le h

own_rise : (slot low high : ℕ) (us : List SlotUse) → RiseBetween low us high → RiseBetween low (of_slot slot us) high
own_rise slot low high [] h = h
own_rise slot low high (u ∷ us) h = kept_rise (nat_eq u.slot slot) low high u (of_slot slot us) h.0 (own_rise slot u.tick high us h.1)

-- the last tick is between
last_between : (low high : ℕ) (us : List SlotUse) → RiseBetween low us high → (low ≤ last_tick low us) × (last_tick low us ≤ high)
last_between low high [] h = (omega arith, h)
last_between low high (u ∷ us) h =
    let later = last_between u.tick high us h.1 in
    (omega (arith, h.0, later.0), later.1)

-- the use that a list of uses is in short, if there is one, lies within
abbrev IfLiesWithin : ℕ → Option Use → Type 0
IfLiesWithin ticks None = Unit {0}
IfLiesWithin ticks (Some u) = LiesWithin ticks u

summary_within : (ticks : ℕ) (us : List SlotUse) → RiseBetween 1 us ticks → IfLiesWithin ticks (summary us)
summary_within ticks [] h = tt
summary_within ticks (u ∷ us) h =
    let later = last_between u.tick ticks us h.1 in
    record { from_one = h.0; rises = later.0; ends = later.1 }

is_within : (ticks : ℕ) (o : Option Use) (u : Use) → IfLiesWithin ticks o → o ≡ Some u → LiesWithin ticks u
is_within ticks o u h e = subst (IfLiesWithin ticks) e h

all_within : (ticks slot n : ℕ) (us : List SlotUse) → RiseBetween 1 us ticks → (place : ℕ) (u : Use)
    → slice_get (summaries slot n us) place ≡ Some (Some u) → LiesWithin ticks u
all_within ticks slot zero us h place u e = absurd (let none : None ≡ Some (Some u) = e in cc)
all_within ticks slot (suc n) us h zero u e =
    is_within ticks (summary (of_slot slot us)) u (summary_within ticks (of_slot slot us) (own_rise slot 1 ticks us h))
    (let f : Some (summary (of_slot slot us)) ≡ Some (Some u) = e in cc)
all_within ticks slot (suc n) us h (suc place) u e = all_within ticks (slot + 1) n us h place u e

pub uses_lie_within : (body : Body) (args : List ℤ) (inputs : List Input) → UsesLieWithin body args inputs
uses_lie_within body args inputs place u e =
    all_within (meaning body args inputs).ticks (length args) (length inputs) (body_uses body args inputs) (uses_rise body args inputs) place u e
