-- What a body is charged, next to what it does: the charges add up to its ticks, its slots are the same, and each number is one of its statements.
use Rattle.std.proofs.Common.{◌≡◌, ℕ, zero, suc, ◌+◌, ◌<◌, ◌≤◌, List, [], ◌∷◌, Bool, true, false, Ok, Err, ℤ, refl, arith}
use Rattle.std.specs.Prelude.{slice_set, nat_le, if◌then◌else◌}
use Rattle.boc_program.specs.declared.body.Body.{Body}
use Rattle.boc_program.specs.declared.body.EndStatus.{EndStatus}
use Rattle.boc_program.specs.declared.body.EndStatus.TheVariants as status
use Rattle.boc_program.specs.declared.short.Input.{Input}
use Rattle.boc_program.specs.Value.{OrFault, value, values, then_value}
use Rattle.boc_program.specs.Meaning as the
use Rattle.boc_program.specs.Meaning.{State, Next, Rest, Act, does, ends, is_zero, as_count, cowns_of, distinct, start, meaning}
use Rattle.boc_program.specs.Syntax.{Code, Done, Assign, Work, If, Repeat, When, code_size}
use Rattle.boc_lines.specs.Charges.{Charge, Bill, After, Charging, closed, charging, charge, given, turns, charged, bill, total}

-- the numbers of charges are below n
abbrev pub AreBelow : ℕ → List Charge → Type 0
AreBelow n [] = Unit {0}
AreBelow n (c ∷ charges) = (c.statement < n) × AreBelow n charges

-- what is charged from a state on, next to what is done
pub record Agrees (n : ℕ) (s : State) (b : Bill) (r : Rest) : Type 0 where
  pub ticks : total b.charges + s.ticks ≡ r.ticks
  pub slots : b.slots ≡ r.slots
  pub below : AreBelow n b.charges

-- what is charged and what is done agree wherever they go on
abbrev Agree : ℕ → Charging → Act → Type 0
Agree n a b = (s : State) (next : After) (done : Next) → ((s : State) → Agrees n s (next s) (done s)) → Agrees n s (a s next) (b s done)

ended : (n : ℕ) (status : EndStatus) (s : State) → Agrees n s (closed s) (ends status s)
ended n status s = record { ticks = omega arith; slots = refl; below = tt }

moved : (t x s r : ℕ) → x + (s + t) ≡ r → (t + x) + s ≡ r
moved t x s r h = omega (arith, h)

charge_if : (n k ticks : ℕ) (b : Bool) (s : State) (next : After) (done : Next) → k < n
    → Agrees n (record s { ticks = s.ticks + ticks }) (next (record s { ticks = s.ticks + ticks })) (done (record s { ticks = s.ticks + ticks }))
    → Agrees n s (if b then charging k ticks (next (record s { ticks = s.ticks + ticks })) else closed s)
    (if b then done (record s { ticks = s.ticks + ticks }) else ends status.TickCap s)
charge_if n k ticks true s next done h a = record {
  ticks = moved ticks (total (next (record s { ticks = s.ticks + ticks })).charges) s.ticks (done (record s { ticks = s.ticks + ticks })).ticks a.ticks;
  slots = a.slots;
  below = (h, a.below);
}
charge_if n k ticks false s next done h a = ended n status.TickCap s

charge_agrees : (n k ticks : ℕ) → k < n → Agree n (charge k ticks) (the.charge ticks)
charge_agrees n k ticks h s next done a = charge_if n k ticks (nat_le (s.ticks + ticks) 1000000) s next done h (a (record s { ticks = s.ticks + ticks }))

given_agrees : {A : Type 0} (n : ℕ) (r : OrFault A) (s : State) (go : A → Bill) (does : A → Rest) → ((v : A) → Agrees n s (go v) (does v))
    → Agrees n s (given r s go) (the.given r s does)
given_agrees n (Ok v) s go does h = h v
given_agrees n (Err fault) s go does h = ended n fault s

turns_agree : (n k count : ℕ) (a : Charging) (b : Act) → k < n → Agree n a b → Agree n (turns k count a) (the.turns count b)
turns_agree n k zero a b h ab s next done g = g s
turns_agree n k (suc count) a b h ab s next done g =
    charge_agrees n k 1 h s (λ s. a s (λ s. turns k count a s next)) (λ s. b s (λ s. the.turns count b s done))
    (λ s. ab s (λ s. turns k count a s next) (λ s. the.turns count b s done) (λ s. turns_agree n k count a b h ab s next done g))

-- the two blocks of an if
either_agrees : (n : ℕ) (c : Bool) (a b : Charging) (d e : Act) → Agree n a d → Agree n b e → Agree n (if c then a else b) (if c then d else e)
either_agrees n true a b d e f g = f
either_agrees n false a b d e f g = g

pub agrees : (n : ℕ) (c : Code) (k : ℕ) → k + code_size c ≤ n → Agree n (charged c k) (does c)
agrees n Done k h s next done g = g s
agrees n (Assign slot e rest) k h s next done g =
    charge_agrees n k 1 (omega arith) s
    (λ s. given (value e s.slots) s (λ v. charged rest (k + 1) (record s { slots = slice_set s.slots slot v }) next))
    (λ s. the.given (value e s.slots) s (λ v. the.assign slot (does rest (record s { slots = slice_set s.slots slot v }) done)))
    (λ s. given_agrees n (value e s.slots) s
    (λ v. charged rest (k + 1) (record s { slots = slice_set s.slots slot v }) next)
    (λ v. the.assign slot (does rest (record s { slots = slice_set s.slots slot v }) done))
    (λ v. let a = agrees n rest (k + 1) (omega arith) (record s { slots = slice_set s.slots slot v }) next done g in
    record { ticks = a.ticks; slots = a.slots; below = a.below }))
agrees n (Work e rest) k h s next done g =
    given_agrees n (then_value (value e s.slots) as_count) s
    (λ t. charge k t s (λ s. charged rest (k + 1) s next)) (λ t. the.charge t s (λ s. does rest s done))
    (λ t. charge_agrees n k t (omega arith) s (λ s. charged rest (k + 1) s next) (λ s. does rest s done)
    (λ s. agrees n rest (k + 1) (omega arith) s next done g))
agrees n (If e block other rest) k h s next done g =
    let late = k + 1 + code_size block in
    let last = late + code_size other in
    charge_agrees n k 1 (omega arith) s
    (λ s. given (value e s.slots) s (λ v.
    (if is_zero v then charged other late else charged block (k + 1)) s (λ s. charged rest last s next)))
    (λ s. the.given (value e s.slots) s (λ v. (if is_zero v then does other else does block) s (λ s. does rest s done)))
    (λ s. given_agrees n (value e s.slots) s
    (λ v. (if is_zero v then charged other late else charged block (k + 1)) s (λ s. charged rest last s next))
    (λ v. (if is_zero v then does other else does block) s (λ s. does rest s done))
    (λ v. either_agrees n (is_zero v) (charged other late) (charged block (k + 1)) (does other) (does block)
    (agrees n other late (omega arith)) (agrees n block (k + 1) (omega arith)) s
    (λ s. charged rest last s next) (λ s. does rest s done)
    (λ s. agrees n rest last (omega arith) s next done g)))
agrees n (Repeat e block rest) k h s next done g =
    let last = k + 1 + code_size block in
    charge_agrees n k 1 (omega arith) s
    (λ s. given (then_value (value e s.slots) as_count) s (λ t. turns k t (charged block (k + 1)) s (λ s. charged rest last s next)))
    (λ s. the.given (then_value (value e s.slots) as_count) s (λ t. the.turns t (does block) s (λ s. does rest s done)))
    (λ s. given_agrees n (then_value (value e s.slots) as_count) s
    (λ t. turns k t (charged block (k + 1)) s (λ s. charged rest last s next))
    (λ t. the.turns t (does block) s (λ s. does rest s done))
    (λ t. turns_agree n k t (charged block (k + 1)) (does block) (omega arith) (agrees n block (k + 1) (omega arith)) s
    (λ s. charged rest last s next) (λ s. does rest s done)
    (λ s. agrees n rest last (omega arith) s next done g)))
agrees n (When kind args refs rest) k h s next done g =
    charge_agrees n k 1 (omega arith) s
    (λ s. given (values args s.slots) s (λ vs. given (then_value (cowns_of refs s) distinct) s (λ cs. charged rest (k + 1) s next)))
    (λ s. the.given (values args s.slots) s (λ vs. the.given (then_value (cowns_of refs s) distinct) s (λ cs.
    the.wish (record { offset = s.ticks; kind = kind; args = vs; cowns = cs }) (does rest s done))))
    (λ s. given_agrees n (values args s.slots) s
    (λ vs. given (then_value (cowns_of refs s) distinct) s (λ cs. charged rest (k + 1) s next))
    (λ vs. the.given (then_value (cowns_of refs s) distinct) s (λ cs.
    the.wish (record { offset = s.ticks; kind = kind; args = vs; cowns = cs }) (does rest s done)))
    (λ vs. given_agrees n (then_value (cowns_of refs s) distinct) s
    (λ cs. charged rest (k + 1) s next)
    (λ cs. the.wish (record { offset = s.ticks; kind = kind; args = vs; cowns = cs }) (does rest s done))
    (λ cs. let a = agrees n rest (k + 1) (omega arith) s next done g in record { ticks = a.ticks; slots = a.slots; below = a.below })))

after_start : (x r : ℕ) → x + 1 ≡ r → 1 + x ≡ r
after_start x r h = omega (arith, h)

-- a whole body
pub body_agrees : (n first : ℕ) (body : Body) (args : List ℤ) (inputs : List Input) → first + 1 + code_size body.block ≤ n
    → (total (bill first body args inputs).charges ≡ (meaning body args inputs).ticks)
    × ((bill first body args inputs).slots ≡ (the.whole body args inputs).slots)
    × AreBelow n (bill first body args inputs).charges
body_agrees n first body args inputs h =
    let a = agrees n body.block (first + 1) h (start body args inputs) closed (ends status.Done) (ended n status.Done) in (
      after_start (total (charged body.block (first + 1) (start body args inputs) closed).charges) (meaning body args inputs).ticks a.ticks,
      a.slots,
      (omega arith, a.below),
    )
