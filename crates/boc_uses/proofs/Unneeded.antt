-- What a body doesn't need changes nothing.
use Rattle.std.proofs.Common.{◌≡◌, ◌≢◌, ◌<◌, ℕ, zero, suc, ◌+◌, ◌-◌, List, [], ◌∷◌, ◌++◌, length, take, drop, refl, sym, ap, ◌∙◌, subst, arith}
use Rattle.std.proofs.Common.{Bool, true, false, Option, Some, None, Ok, Err, ℤ, pos, length-append}
use Rattle.std.specs.Prelude.{nat_le, nat_eq, ◌&&◌, ◌||◌, not, if◌then◌else◌, replicate, slice_get, slice_index_or, slice_set}
use Rattle.std.specs.Prelude.{negsuc, neg_ℤ, int_lt, ◌+ℤ◌, ◌-ℤ◌, ◌*ℤ◌}
use Rattle.std.specs.Int.RustNames.{int_div, int_rem}
use Rattle.std.specs.List.{list_any}
use Rattle.std.proofs.lemmas.Bool.Decides.{nat_tests}
use Rattle.std.proofs.lemmas.List.{get_or-set_other, length-set, set_comm, set-append_left, set-append_right}
use Rattle.boc_program.specs.declared.body.Body.{Body}
use Rattle.boc_program.specs.declared.body.EndStatus.{EndStatus}
use Rattle.boc_program.specs.declared.body.EndStatus.TheVariants as status
use Rattle.boc_program.specs.declared.body.Operator.{Operator}
use Rattle.boc_program.specs.declared.body.Operator.TheVariants as operator
use Rattle.boc_program.specs.declared.short.Input.{Input}
use Rattle.boc_program.specs.Syntax.{SlotExpr, Number, Slot, Negate, Binary, CownRef, Held, Single, Member, Code, Done, Assign, Work, If, Repeat, When}
use Rattle.boc_program.specs.Value.{OrFault, apply, as_number, has_64_bits, in_64_bits, int_eq, quotient, then_value, value, values}
use Rattle.boc_program.specs.Meaning.{State, Rest, Next, Act, Wish, does, charge, given, turns, is_zero, as_count, assign, cown_of, cowns_of, distinct, ends}
use Rattle.boc_program.specs.Meaning.{cowns_at, cowns_held, member, start, start_slots, values_held, whole, wish}
use Rattle.boc_uses.specs.declared.uses.Way.TheVariants.{Needing, Updating}
use Rattle.boc_uses.specs.Uses.{SlotUse, Using, all_slots_read, body_uses, code_uses, evaluated, if_value, needs, of_slot, paid, reads, ref_slots_read}
use Rattle.boc_uses.specs.Uses.{refs_slots_read, slots_read, summaries, summary, turns_use, way_of, write}
use Rattle.boc_uses.specs.Laws.{UnneededChangesNothing, needs_value, with_value}

or_left : (a b : Bool) → (a || b) ≡ false → a ≡ false
or_left true b h = h
or_left false b h = refl

or_right : (a b : Bool) → (a || b) ≡ false → b ≡ false
or_right true b h = absurd (let c : ⊥ = cc in c)
or_right false b h = h

or_assoc : (a b c : Bool) → (a || (b || c)) ≡ ((a || b) || c)
or_assoc true b c = refl
or_assoc false b c = refl

any_append : {A : Type 0} (p : A → Bool) (xs ys : List A) → list_any p (xs ++ ys) ≡ (list_any p xs || list_any p ys)
any_append p [] ys = refl
any_append p (x ∷ xs) ys = ap (λ b. p x || b) (any_append p xs ys) ∙ or_assoc (p x) (list_any p xs) (list_any p ys)

none_left : {A : Type 0} (p : A → Bool) (xs ys : List A) → list_any p (xs ++ ys) ≡ false → list_any p xs ≡ false
none_left p xs ys h = or_left (list_any p xs) (list_any p ys) (sym (any_append p xs ys) ∙ h)

none_right : {A : Type 0} (p : A → Bool) (xs ys : List A) → list_any p (xs ++ ys) ≡ false → list_any p ys ≡ false
none_right p xs ys h = or_right (list_any p xs) (list_any p ys) (sym (any_append p xs ys) ∙ h)

-- a fault, which is no end of a body
abbrev Proper : {A : Type 0} → OrFault A → Type 0
Proper r = (f : EndStatus) → r ≡ Err f → f ≡ status.Done → ⊥

then_proper : (r : OrFault ℤ) (go : ℤ → OrFault ℤ) → Proper r → ((v : ℤ) → Proper (go v)) → Proper (then_value r go)
then_proper (Ok v) go p q = q v
then_proper (Err fault) go p q = p

bits_proper : (b : Bool) (z : ℤ) → Proper (let r : OrFault ℤ = if b then Ok z else Err status.Overflow in r)
bits_proper true z f e d = cc
bits_proper false z f e d = cc

in_bits_proper : (z : ℤ) → Proper (in_64_bits z)
in_bits_proper z = bits_proper (has_64_bits z) z

ok_proper : (z : ℤ) → Proper (let r : OrFault ℤ = Ok z in r)
ok_proper z f e d = cc

quotient_proper : (a b : ℤ) → Proper (quotient a b)
quotient_proper a (pos zero) = λ f e d. cc
quotient_proper a (pos (suc n)) = in_bits_proper (int_div a (pos (suc n)))
quotient_proper a (negsuc n) = in_bits_proper (int_div a (negsuc n))

number_proper : (b : Bool) → Proper (as_number b)
number_proper true = ok_proper (pos 1)
number_proper false = ok_proper (pos 0)

apply_proper : (op : Operator) (a b : ℤ) → Proper (apply op a b)
apply_proper operator.Add a b = in_bits_proper (a +ℤ b)
apply_proper operator.Subtract a b = in_bits_proper (a -ℤ b)
apply_proper operator.Multiply a b = in_bits_proper (a *ℤ b)
apply_proper operator.Divide a b = quotient_proper a b
apply_proper operator.Remainder a b = then_proper (quotient a b) (λ _. Ok (int_rem a b)) (quotient_proper a b) (λ v. ok_proper (int_rem a b))
apply_proper operator.Equal a b = number_proper (int_eq a b)
apply_proper operator.NotEqual a b = number_proper (not (int_eq a b))
apply_proper operator.Less a b = number_proper (int_lt a b)
apply_proper operator.AtMost a b = number_proper (not (int_lt b a))
apply_proper operator.Greater a b = number_proper (int_lt b a)
apply_proper operator.AtLeast a b = number_proper (not (int_lt a b))

value_proper : (e : SlotExpr) (xs : List ℤ) → Proper (value e xs)
value_proper (Number z) xs = ok_proper z
value_proper (Slot i) xs = ok_proper (slice_index_or xs i (pos 0))
value_proper (Negate e) xs = then_proper (value e xs) (λ v. in_64_bits (neg_ℤ v)) (value_proper e xs) (λ v. in_bits_proper (neg_ℤ v))
value_proper (Binary op a b) xs =
    then_proper (value a xs) (λ x. then_value (value b xs) (apply op x)) (value_proper a xs)
    (λ x. then_proper (value b xs) (apply op x) (value_proper b xs) (apply_proper op x))

module _ (k : ℕ) where
  -- the same state, but for the value of slot k
  abbrev other : ℤ → State → State
  other w s = record s { slots = slice_set s.slots k w }

  -- slot k is among these
  abbrev has : List ℕ → Bool
  has slots = list_any (λ i. nat_eq i k) slots

  -- no use needs slot k
  abbrev NoNeed : List SlotUse → Type 0
  NoNeed us = list_any (λ u. nat_eq u.slot k && needs u.way) us ≡ false

  -- what comes after a value, or after a fault
  second : {A B C : Type 0} (r : OrFault A) (v v' : OrFault B) (go : A → B → OrFault C) (slots : List ℕ) → (has slots ≡ false → v' ≡ v)
      → has (if_value r (λ x. slots)) ≡ false → then_value r (λ x. then_value v' (go x)) ≡ then_value r (λ x. then_value v (go x))
  second {B = B} (Ok x) v v' go slots same h = ap (λ (r : OrFault B). then_value r (go x)) (same h)
  second (Err fault) v v' go slots same h = refl

  value_same : (e : SlotExpr) (xs : List ℤ) (w : ℤ) → has (slots_read e xs) ≡ false → value e (slice_set xs k w) ≡ value e xs
  value_same (Number z) xs w h = refl
  value_same (Slot i) xs w h =
      let t : nat_eq i k ≡ false = or_left (nat_eq i k) false h in
      let n : i ≢ k = grind (arith, nat_tests) in
      ap (λ (z : ℤ). let r : OrFault ℤ = Ok z in r) (get_or-set_other xs k i w (pos 0) n)
  value_same (Negate e) xs w h = ap (λ (r : OrFault ℤ). then_value r (λ v. in_64_bits (neg_ℤ v))) (value_same e xs w h)
  value_same (Binary op a b) xs w h =
      ap (λ (r : OrFault ℤ). then_value r (λ x. then_value (value b (slice_set xs k w)) (apply op x)))
      (value_same a xs w (none_left (λ i. nat_eq i k) (slots_read a xs) (if_value (value a xs) (λ v. slots_read b xs)) h))
      ∙ second (value a xs) (value b xs) (value b (slice_set xs k w)) (apply op) (slots_read b xs) (value_same b xs w)
      (none_right (λ i. nat_eq i k) (slots_read a xs) (if_value (value a xs) (λ v. slots_read b xs)) h)

  values_same : (es : List SlotExpr) (xs : List ℤ) (w : ℤ) → has (all_slots_read es xs) ≡ false → values es (slice_set xs k w) ≡ values es xs
  values_same [] xs w h = refl
  values_same (e ∷ es) xs w h =
      ap (λ (r : OrFault ℤ). then_value r (λ v. then_value (values es (slice_set xs k w)) (λ vs. Ok (v ∷ vs))))
      (value_same e xs w (none_left (λ i. nat_eq i k) (slots_read e xs) (if_value (value e xs) (λ v. all_slots_read es xs)) h))
      ∙ second (value e xs) (values es xs) (values es (slice_set xs k w)) (λ v vs. Ok (v ∷ vs)) (all_slots_read es xs) (values_same es xs w)
      (none_right (λ i. nat_eq i k) (slots_read e xs) (if_value (value e xs) (λ v. all_slots_read es xs)) h)

  cown_same : (r : CownRef) (s : State) (w : ℤ) → has (ref_slots_read r s.slots) ≡ false → cown_of r (other w s) ≡ cown_of r s
  cown_same (Held i) s w h = refl
  cown_same (Single cown) s w h = refl
  cown_same (Member first size index) s w h = ap (λ (r : OrFault ℤ). then_value r (member first size)) (value_same index s.slots w h)

  cowns_same : (rs : List CownRef) (s : State) (w : ℤ) → has (refs_slots_read rs s) ≡ false → cowns_of rs (other w s) ≡ cowns_of rs s
  cowns_same [] s w h = refl
  cowns_same (r ∷ rs) s w h =
      ap (λ (c : OrFault ℕ). then_value c (λ c. then_value (cowns_of rs (other w s)) (λ cs. Ok (c ∷ cs))))
      (cown_same r s w (none_left (λ i. nat_eq i k) (ref_slots_read r s.slots) (if_value (cown_of r s) (λ c. refs_slots_read rs s)) h))
      ∙ second (cown_of r s) (cowns_of rs s) (cowns_of rs (other w s)) (λ c cs. Ok (c ∷ cs)) (refs_slots_read rs s) (cowns_same rs s w)
      (none_right (λ i. nat_eq i k) (ref_slots_read r s.slots) (if_value (cown_of r s) (λ c. refs_slots_read rs s)) h)

  -- every read of slot k in an assignment to `own`, if there is one, needs its value
  abbrev Strict : Option ℕ → Type 0
  Strict own = (slot : ℕ) → nat_eq slot k ≡ true → needs (way_of own slot) ≡ true

  needs_if : (b : Bool) → b ≡ false → needs (if b then Updating else Needing) ≡ true
  needs_if true e = absurd (let c : ⊥ = cc in c)
  needs_if false e = refl

  strict_other : (own : ℕ) → nat_eq own k ≡ false → Strict (Some own)
  strict_other own e slot t = let f : nat_eq slot own ≡ false = grind (arith, nat_tests) in needs_if (nat_eq slot own) f

  not_there : (a n : Bool) → (a ≡ true → n ≡ true) → (a && n) ≡ false → a ≡ false
  not_there true n f h = sym (f refl) ∙ h
  not_there false n f h = refl

  not_read : (tick : ℕ) (own : Option ℕ) (slots : List ℕ) → Strict own → NoNeed (reads tick own slots) → has slots ≡ false
  not_read tick own [] strict h = refl
  not_read tick own (slot ∷ slots) strict h =
      let now = nat_eq slot k && needs (way_of own slot) in
      let later = list_any (λ u. nat_eq u.slot k && needs u.way) (reads tick own slots) in
      let a : nat_eq slot k ≡ false = not_there (nat_eq slot k) (needs (way_of own slot)) (strict slot) (or_left now later h) in
      let b : has slots ≡ false = not_read tick own slots strict (or_right now later h) in
      ap (λ a. a || has slots) a ∙ b

  -- two ways to go on agree: but for the value of slot k they end alike
  record Agree (r t : Rest) : Type 0 where
    pub wishes : t.wishes ≡ r.wishes
    pub ticks : t.ticks ≡ r.ticks
    pub assigned : t.assigned ≡ r.assigned
    pub left : ℤ
    pub slots : t.slots ≡ slice_set r.slots k left

  -- the same, if neither ends by a fault
  abbrev Agrees : Rest → Rest → Type 0
  Agrees r t = r.status ≡ status.Done → t.status ≡ status.Done → Agree r t

  abbrev AgreesFrom : Next → Using → Type 0
  AgreesFrom next using = (s : State) (w : ℤ) → NoNeed (using s) → Agrees (next s) (next (other w s))

  abbrev AgreesAct : Act → (State → Using → List SlotUse) → Type 0
  AgreesAct act uses = (next : Next) (using : Using) → AgreesFrom next using → (s : State) (w : ℤ) → NoNeed (uses s using)
      → Agrees (act s next) (act (other w s) next)

  at_end : (end : EndStatus) (s : State) (w : ℤ) → Agrees (ends end s) (ends end (other w s))
  at_end end s w d e = record { wishes = refl; ticks = refl; assigned = refl; left = w; slots = refl }

  charge_if : (b : Bool) (n : ℕ) (next : Next) (using : Using) → AgreesFrom next using → (s : State) (w : ℤ)
      → NoNeed (if b then using (record s { ticks = s.ticks + n }) else [])
      → Agrees (if b then next (record s { ticks = s.ticks + n }) else ends status.TickCap s)
      (if b then next (other w (record s { ticks = s.ticks + n })) else ends status.TickCap (other w s))
  charge_if true n next using f s w h = f (record s { ticks = s.ticks + n }) w h
  charge_if false n next using f s w h = at_end status.TickCap s w

  charge_agrees : (n : ℕ) (next : Next) (using : Using) → AgreesFrom next using → (s : State) (w : ℤ) → NoNeed (paid n s using)
      → Agrees (charge n s next) (charge n (other w s) next)
  charge_agrees n next using f s w h = charge_if (nat_le (s.ticks + n) 1000000) n next using f s w h

  given_agrees : {A : Type 0} (r : OrFault A) (s : State) (w : ℤ) (go go' : A → Rest) (use_of : A → List SlotUse)
      → ((v : A) → NoNeed (use_of v) → Agrees (go v) (go' v)) → NoNeed (if_value r use_of) → Agrees (given r s go) (given r (other w s) go')
  given_agrees (Ok v) s w go go' use_of f h = f v h
  given_agrees (Err fault) s w go go' use_of f h = at_end fault s w

  evaluated_agrees : (own : Option ℕ) (e : SlotExpr) (s : State) (w : ℤ) (go go' : ℤ → Rest) (use_of : ℤ → List SlotUse) → Strict own
      → ((v : ℤ) → NoNeed (use_of v) → Agrees (go v) (go' v)) → NoNeed (evaluated own e s use_of)
      → Agrees (given (value e s.slots) s go) (given (value e (slice_set s.slots k w)) (other w s) go')
  evaluated_agrees own e s w go go' use_of strict f h =
      let p = λ (u : SlotUse). nat_eq u.slot k && needs u.way in
      let first = reads s.ticks own (slots_read e s.slots) in
      let rest = if_value (value e s.slots) use_of in
      let same = value_same e s.slots w (not_read s.ticks own (slots_read e s.slots) strict (none_left p first rest h)) in
      subst (λ (r : OrFault ℤ). Agrees (given (value e s.slots) s go) (given r (other w s) go')) (sym same)
      (given_agrees (value e s.slots) s w go go' use_of f (none_right p first rest h))

  count_need : (r : OrFault ℤ) (use_of : ℕ → List SlotUse) → NoNeed (if_value r (λ v. if_value (as_count v) use_of))
      → NoNeed (if_value (then_value r as_count) use_of)
  count_need (Ok v) use_of h = h
  count_need (Err fault) use_of h = refl

  counted_agrees : (e : SlotExpr) (s : State) (w : ℤ) (go go' : ℕ → Rest) (use_of : ℕ → List SlotUse)
      → ((n : ℕ) → NoNeed (use_of n) → Agrees (go n) (go' n)) → NoNeed (evaluated None e s (λ v. if_value (as_count v) use_of))
      → Agrees (given (then_value (value e s.slots) as_count) s go) (given (then_value (value e (slice_set s.slots k w)) as_count) (other w s) go')
  counted_agrees e s w go go' use_of f h =
      let p = λ (u : SlotUse). nat_eq u.slot k && needs u.way in
      let first = reads s.ticks None (slots_read e s.slots) in
      let rest = if_value (value e s.slots) (λ v. if_value (as_count v) use_of) in
      let same = value_same e s.slots w (not_read s.ticks None (slots_read e s.slots) (λ slot t. refl) (none_left p first rest h)) in
      subst (λ (r : OrFault ℤ). Agrees (given (then_value (value e s.slots) as_count) s go) (given (then_value r as_count) (other w s) go')) (sym same)
      (given_agrees (then_value (value e s.slots) as_count) s w go go' use_of f (count_need (value e s.slots) use_of (none_right p first rest h)))

  assign_agrees : (slot : ℕ) (r t : Rest) → Agrees r t → Agrees (assign slot r) (assign slot t)
  assign_agrees slot r t f d e =
      let a = f d e in
      record { wishes = a.wishes; ticks = a.ticks; assigned = ap (λ (slots : List ℕ). slot ∷ slots) a.assigned; left = a.left; slots = a.slots }

  wish_agrees : (w : Wish) (r t : Rest) → Agrees r t → Agrees (wish w r) (wish w t)
  wish_agrees w r t f d e =
      let a = f d e in
      record { wishes = ap (λ (ws : List Wish). w ∷ ws) a.wishes; ticks = a.ticks; assigned = a.assigned; left = a.left; slots = a.slots }

  turns_agrees : (n : ℕ) (act : Act) (uses : State → Using → List SlotUse) → AgreesAct act uses → AgreesAct (turns n act) (turns_use n uses)
  turns_agrees zero act uses a next using f s w h = f s w h
  turns_agrees (suc n) act uses a next using f s w h =
      charge_agrees 1 (λ s. act s (λ s. turns n act s next)) (λ s. uses s (λ s. turns_use n uses s using))
      (a (λ s. turns n act s next) (λ s. turns_use n uses s using) (turns_agrees n act uses a next using f)) s w h

  either_agrees : (b : Bool) (a1 a2 : Act) (u1 u2 : State → Using → List SlotUse) → AgreesAct a1 u1 → AgreesAct a2 u2
      → AgreesAct (if b then a1 else a2) (if b then u1 else u2)
  either_agrees true a1 a2 u1 u2 f g = f
  either_agrees false a1 a2 u1 u2 f g = g

  -- an assignment to slot k itself, where neither value is a fault
  own_agrees : (r r' : OrFault ℤ) (s : State) (w : ℤ) (go go' : ℤ → Rest) (use_of : ℤ → List SlotUse) → Proper r → Proper r'
      → ((v v' : ℤ) → NoNeed (use_of v) → Agrees (go v) (go' v')) → NoNeed (if_value r use_of) → Agrees (given r s go) (given r' (other w s) go')
  own_agrees (Ok v) (Ok v') s w go go' use_of p p' f h = f v v' h
  own_agrees (Err fault) r' s w go go' use_of p p' f h = λ d e. absurd (p fault refl d)
  own_agrees (Ok v) (Err fault) s w go go' use_of p p' f h = λ d e. absurd (p' fault refl e)

  assign_other : (slot : ℕ) (e : SlotExpr) (rest : Code) (next : Next) (using : Using) → nat_eq slot k ≡ false
      → ((s : State) (w : ℤ) → NoNeed (code_uses rest s using) → Agrees (does rest s next) (does rest (other w s) next))
      → AgreesFrom (λ s. given (value e s.slots) s (λ v. assign slot (does rest (record s { slots = slice_set s.slots slot v }) next)))
      (λ s. evaluated (Some slot) e s (λ v. write slot s ∷ code_uses rest (record s { slots = slice_set s.slots slot v }) using))
  assign_other slot e rest next using n f s w h =
      let ne : slot ≢ k = grind (arith, nat_tests) in
      evaluated_agrees (Some slot) e s w (λ v. assign slot (does rest (record s { slots = slice_set s.slots slot v }) next))
      (λ v. assign slot (does rest (record s { slots = slice_set (slice_set s.slots k w) slot v }) next))
      (λ v. write slot s ∷ code_uses rest (record s { slots = slice_set s.slots slot v }) using) (strict_other slot n)
      (λ v g. assign_agrees slot (does rest (record s { slots = slice_set s.slots slot v }) next)
      (does rest (record s { slots = slice_set (slice_set s.slots k w) slot v }) next)
      (subst (λ (xs : List ℤ). Agrees (does rest (record s { slots = slice_set s.slots slot v }) next) (does rest (record s { slots = xs }) next))
      (set_comm s.slots slot k v w ne)
      (f (record s { slots = slice_set s.slots slot v }) w
      (or_right (nat_eq slot k && false)
      (list_any (λ u. nat_eq u.slot k && needs u.way) (code_uses rest (record s { slots = slice_set s.slots slot v }) using)) g)))) h

  set_again : (xs : List ℤ) (i : ℕ) (a b : ℤ) → slice_set (slice_set xs i a) i b ≡ slice_set xs i b
  set_again [] i a b = refl
  set_again (x ∷ xs) zero a b = refl
  set_again (x ∷ xs) (suc i) a b = ap (λ (l : List ℤ). x ∷ l) (set_again xs i a b)

  set_same : (xs : List ℤ) (slot : ℕ) (w v v' : ℤ) → slot ≡ k → slice_set (slice_set xs slot v) k v' ≡ slice_set (slice_set xs k w) slot v'
  set_same xs slot w v v' e =
      ap (λ i. slice_set (slice_set xs i v) k v') e ∙ set_again xs k v v' ∙ sym (set_again xs k w v') ∙ ap (λ i. slice_set (slice_set xs k w) i v') (sym e)

  assign_own : (slot : ℕ) (e : SlotExpr) (rest : Code) (next : Next) (using : Using) → nat_eq slot k ≡ true
      → ((s : State) (w : ℤ) → NoNeed (code_uses rest s using) → Agrees (does rest s next) (does rest (other w s) next))
      → AgreesFrom (λ s. given (value e s.slots) s (λ v. assign slot (does rest (record s { slots = slice_set s.slots slot v }) next)))
      (λ s. evaluated (Some slot) e s (λ v. write slot s ∷ code_uses rest (record s { slots = slice_set s.slots slot v }) using))
  assign_own slot e rest next using n f s w h =
      let same : slot ≡ k = grind (arith, nat_tests) in
      let use_of = λ (v : ℤ). write slot s ∷ code_uses rest (record s { slots = slice_set s.slots slot v }) using in
      own_agrees (value e s.slots) (value e (slice_set s.slots k w)) s w
      (λ v. assign slot (does rest (record s { slots = slice_set s.slots slot v }) next))
      (λ v. assign slot (does rest (record s { slots = slice_set (slice_set s.slots k w) slot v }) next))
      use_of (value_proper e s.slots) (value_proper e (slice_set s.slots k w))
      (λ v v' g. assign_agrees slot (does rest (record s { slots = slice_set s.slots slot v }) next)
      (does rest (record s { slots = slice_set (slice_set s.slots k w) slot v' }) next)
      (subst (λ (xs : List ℤ). Agrees (does rest (record s { slots = slice_set s.slots slot v }) next) (does rest (record s { slots = xs }) next))
      (set_same s.slots slot w v v' same)
      (f (record s { slots = slice_set s.slots slot v }) v'
      (or_right (nat_eq slot k && false)
      (list_any (λ u. nat_eq u.slot k && needs u.way) (code_uses rest (record s { slots = slice_set s.slots slot v }) using)) g))))
      (none_right (λ u. nat_eq u.slot k && needs u.way) (reads s.ticks (Some slot) (slots_read e s.slots)) (if_value (value e s.slots) use_of) h)

  assign_either : (b : Bool) (slot : ℕ) (e : SlotExpr) (rest : Code) (next : Next) (using : Using) → nat_eq slot k ≡ b
      → ((s : State) (w : ℤ) → NoNeed (code_uses rest s using) → Agrees (does rest s next) (does rest (other w s) next))
      → AgreesFrom (λ s. given (value e s.slots) s (λ v. assign slot (does rest (record s { slots = slice_set s.slots slot v }) next)))
      (λ s. evaluated (Some slot) e s (λ v. write slot s ∷ code_uses rest (record s { slots = slice_set s.slots slot v }) using))
  assign_either true slot e rest next using n f = assign_own slot e rest next using n f
  assign_either false slot e rest next using n f = assign_other slot e rest next using n f

  -- a `when`, once its tick is counted
  abbrev refs_uses : List CownRef → Code → Using → Using
  refs_uses refs rest using s =
      reads s.ticks None (refs_slots_read refs s) ++ if_value (then_value (cowns_of refs s) distinct) (λ cs. code_uses rest s using)

  abbrev refs_does : ℕ → List ℤ → List CownRef → Code → Next → Next
  refs_does kind vs refs rest next s =
      given (then_value (cowns_of refs s) distinct) s (λ cs.
      wish (record { offset = s.ticks; kind = kind; args = vs; cowns = cs }) (does rest s next))

  refs_agree : (kind : ℕ) (vs : List ℤ) (refs : List CownRef) (rest : Code) (next : Next) (using : Using)
      → ((s : State) (w : ℤ) → NoNeed (code_uses rest s using) → Agrees (does rest s next) (does rest (other w s) next))
      → AgreesFrom (refs_does kind vs refs rest next) (refs_uses refs rest using)
  refs_agree kind vs refs rest next using f s w h =
      let p = λ (u : SlotUse). nat_eq u.slot k && needs u.way in
      let first = reads s.ticks None (refs_slots_read refs s) in
      let behind = if_value (then_value (cowns_of refs s) distinct) (λ cs. code_uses rest s using) in
      let same = cowns_same refs s w (not_read s.ticks None (refs_slots_read refs s) (λ slot t. refl) (none_left p first behind h)) in
      let go = λ (cs : List ℕ). wish (record { offset = s.ticks; kind = kind; args = vs; cowns = cs }) (does rest s next) in
      let go' = λ (cs : List ℕ). wish (record { offset = s.ticks; kind = kind; args = vs; cowns = cs }) (does rest (other w s) next) in
      subst (λ (r : OrFault (List ℕ)). Agrees (given (then_value (cowns_of refs s) distinct) s go) (given (then_value r distinct) (other w s) go')) (sym same)
      (given_agrees (then_value (cowns_of refs s) distinct) s w go go' (λ cs. code_uses rest s using)
      (λ cs g. wish_agrees (record { offset = s.ticks; kind = kind; args = vs; cowns = cs }) (does rest s next) (does rest (other w s) next) (f s w g))
      (none_right p first behind h))

  args_agree : (kind : ℕ) (args : List SlotExpr) (refs : List CownRef) (rest : Code) (next : Next) (using : Using)
      → ((s : State) (w : ℤ) → NoNeed (code_uses rest s using) → Agrees (does rest s next) (does rest (other w s) next))
      → AgreesFrom (λ s. given (values args s.slots) s (λ vs. refs_does kind vs refs rest next s))
      (λ s. reads s.ticks None (all_slots_read args s.slots) ++ if_value (values args s.slots) (λ vs. refs_uses refs rest using s))
  args_agree kind args refs rest next using f s w h =
      let p = λ (u : SlotUse). nat_eq u.slot k && needs u.way in
      let first = reads s.ticks None (all_slots_read args s.slots) in
      let behind = if_value (values args s.slots) (λ vs. refs_uses refs rest using s) in
      let same = values_same args s.slots w (not_read s.ticks None (all_slots_read args s.slots) (λ slot t. refl) (none_left p first behind h)) in
      subst (λ (r : OrFault (List ℤ)). Agrees (given (values args s.slots) s (λ vs. refs_does kind vs refs rest next s))
      (given r (other w s) (λ vs. refs_does kind vs refs rest next (other w s)))) (sym same)
      (given_agrees (values args s.slots) s w (λ vs. refs_does kind vs refs rest next s) (λ vs. refs_does kind vs refs rest next (other w s))
      (λ vs. refs_uses refs rest using s) (λ vs g. refs_agree kind vs refs rest next using f s w g) (none_right p first behind h))

  code_agrees : (c : Code) → AgreesAct (does c) (code_uses c)
  code_agrees Done next using f s w h = f s w h
  code_agrees (Assign slot e rest) next using f s w h =
      charge_agrees 1 (λ s. given (value e s.slots) s (λ v. assign slot (does rest (record s { slots = slice_set s.slots slot v }) next)))
      (λ s. evaluated (Some slot) e s (λ v. write slot s ∷ code_uses rest (record s { slots = slice_set s.slots slot v }) using))
      (assign_either (nat_eq slot k) slot e rest next using refl (code_agrees rest next using f)) s w h
  code_agrees (Work e rest) next using f s w h =
      counted_agrees e s w (λ n. charge n s (λ s. does rest s next)) (λ n. charge n (other w s) (λ s. does rest s next))
      (λ n. paid n s (λ s. code_uses rest s using))
      (λ n g. charge_agrees n (λ s. does rest s next) (λ s. code_uses rest s using) (code_agrees rest next using f) s w g) h
  code_agrees (If e block rest' rest) next using f s w h =
      charge_agrees 1 (λ s. given (value e s.slots) s (λ v. (if is_zero v then does rest' else does block) s (λ s. does rest s next)))
      (λ s. evaluated None e s (λ v. (if is_zero v then code_uses rest' else code_uses block) s (λ s. code_uses rest s using)))
      (λ s w h. evaluated_agrees None e s w
      (λ v. (if is_zero v then does rest' else does block) s (λ s. does rest s next))
      (λ v. (if is_zero v then does rest' else does block) (other w s) (λ s. does rest s next))
      (λ v. (if is_zero v then code_uses rest' else code_uses block) s (λ s. code_uses rest s using))
      (λ slot t. refl)
      (λ v g. either_agrees (is_zero v) (does rest') (does block) (code_uses rest') (code_uses block) (code_agrees rest') (code_agrees block)
      (λ s. does rest s next) (λ s. code_uses rest s using) (code_agrees rest next using f) s w g) h) s w h
  code_agrees (Repeat e block rest) next using f s w h =
      charge_agrees 1 (λ s. given (then_value (value e s.slots) as_count) s (λ n. turns n (does block) s (λ s. does rest s next)))
      (λ s. evaluated None e s (λ v. if_value (as_count v) (λ n. turns_use n (code_uses block) s (λ s. code_uses rest s using))))
      (λ s w h. counted_agrees e s w
      (λ n. turns n (does block) s (λ s. does rest s next))
      (λ n. turns n (does block) (other w s) (λ s. does rest s next))
      (λ n. turns_use n (code_uses block) s (λ s. code_uses rest s using))
      (λ n g. turns_agrees n (does block) (code_uses block) (code_agrees block) (λ s. does rest s next) (λ s. code_uses rest s using)
      (code_agrees rest next using f) s w g) h) s w h
  code_agrees (When kind args refs rest) next using f s w h =
      charge_agrees 1 (λ s. given (values args s.slots) s (λ vs. refs_does kind vs refs rest next s))
      (λ s. reads s.ticks None (all_slots_read args s.slots) ++ if_value (values args s.slots) (λ vs. refs_uses refs rest using s))
      (args_agree kind args refs rest next using (code_agrees rest next using f)) s w h

-- the uses of one slot that need it
need_more : (b : Bool) (u : SlotUse) (rest : List SlotUse) (more : Bool) → list_any (λ u. needs u.way) rest ≡ more
    → list_any (λ u. needs u.way) (if b then u ∷ rest else rest) ≡ ((b && needs u.way) || more)
need_more true u rest more e = ap (λ m. needs u.way || m) e
need_more false u rest more e = e

need_of_slot : (k : ℕ) (us : List SlotUse) → list_any (λ u. needs u.way) (of_slot k us) ≡ list_any (λ u. nat_eq u.slot k && needs u.way) us
need_of_slot k [] = refl
need_of_slot k (u ∷ us) = need_more (nat_eq u.slot k) u (of_slot k us) (list_any (λ u. nat_eq u.slot k && needs u.way) us) (need_of_slot k us)

need_summary : (us : List SlotUse) → needs_value (Some (summary us)) ≡ list_any (λ u. needs u.way) us
need_summary [] = refl
need_summary (u ∷ us) = refl

summary_at : (slot n place : ℕ) (us : List SlotUse) → place < n → slice_get (summaries slot n us) place ≡ Some (summary (of_slot (slot + place) us))
summary_at slot zero place us h = absurd (omega arith)
summary_at slot (suc n) zero us h = let e : slot ≡ slot + 0 = omega arith in ap (λ s. Some (summary (of_slot s us))) e
summary_at slot (suc n) (suc place) us h =
    let e : slot + 1 + place ≡ slot + suc place = omega arith in
    summary_at (slot + 1) n place us (omega arith) ∙ ap (λ s. Some (summary (of_slot s us))) e

no_need : (slot n place : ℕ) (us : List SlotUse) → place < n → needs_value (slice_get (summaries slot n us) place) ≡ false
    → list_any (λ u. nat_eq u.slot (slot + place) && needs u.way) us ≡ false
no_need slot n place us h e =
    sym (need_of_slot (slot + place) us) ∙ sym (need_summary (of_slot (slot + place) us)) ∙ ap needs_value (sym (summary_at slot n place us h)) ∙ e

same_cowns : (inputs : List Input) (place : ℕ) (v : ℤ) → cowns_held (with_value inputs place v) ≡ cowns_held inputs
same_cowns [] place v = refl
same_cowns (i ∷ inputs) zero v = refl
same_cowns (i ∷ inputs) (suc place) v = ap (λ (cs : List ℕ). i.cown ∷ cs) (same_cowns inputs place v)

values_with : (inputs : List Input) (place : ℕ) (v : ℤ) → values_held (with_value inputs place v) ≡ slice_set (values_held inputs) place v
values_with [] place v = refl
values_with (i ∷ inputs) zero v = refl
values_with (i ∷ inputs) (suc place) v = ap (λ (vs : List ℤ). i.value ∷ vs) (values_with inputs place v)

length_held : (inputs : List Input) → length (values_held inputs) ≡ length inputs
length_held [] = refl
length_held (i ∷ inputs) = ap suc (length_held inputs)

length_with : (inputs : List Input) (place : ℕ) (v : ℤ) → length (with_value inputs place v) ≡ length inputs
length_with [] place v = refl
length_with (i ∷ inputs) zero v = refl
length_with (i ∷ inputs) (suc place) v = ap suc (length_with inputs place v)

slots_with : (args : List ℤ) (values : List ℤ) (slots place : ℕ) (v : ℤ) → place < length values
    → start_slots args (slice_set values place v) slots ≡ slice_set (start_slots args values slots) (length args + place) v
slots_with args values slots place v h =
    let others = λ (n : ℕ). replicate (slots - n) (pos 0) in
    let n : (length args + place) - length args ≡ place = omega arith in
    let both : args ++ slice_set values place v ≡ slice_set (args ++ values) (length args + place) v =
    sym (set-append_right args values (length args) (length args + place) v refl (omega arith) ∙ ap (λ i. args ++ slice_set values i v) n) in
    let long : length (slice_set (args ++ values) (length args + place) v) ≡ length (args ++ values) = length-set (args ++ values) (length args + place) v in
    let below : length args + place < length (args ++ values) = omega (arith, length-append args values) in
    ap (λ (l : List ℤ). l ++ others (length l)) both
    ∙ ap (λ n. slice_set (args ++ values) (length args + place) v ++ others n) long
    ∙ sym (set-append_left (args ++ values) (others (length (args ++ values))) (length args + place) v below)

start_with : (body : Body) (args : List ℤ) (inputs : List Input) (place : ℕ) (v : ℤ) → place < length inputs
    → start body args (with_value inputs place v) ≡ other (length args + place) v (start body args inputs)
start_with body args inputs place v h =
    let cowns = same_cowns inputs place v in
    let slots = ap (λ vs. start_slots args vs body.slots) (values_with inputs place v)
    ∙ slots_with args (values_held inputs) body.slots place v (omega (arith, length_held inputs, h)) in
    λ i. record { held = cowns i; slots = slots i; ticks = 1 }

drop_set : (n : ℕ) (xs : List ℤ) (i : ℕ) (v : ℤ) → drop n (slice_set xs (n + i) v) ≡ slice_set (drop n xs) i v
drop_set zero xs i v = let e : 0 + i ≡ i = omega arith in ap (λ i. slice_set xs i v) e
drop_set (suc n) [] i v = refl
drop_set (suc n) (x ∷ xs) i v = let e : suc n + i ≡ suc (n + i) = omega arith in ap (λ k. drop (suc n) (slice_set (x ∷ xs) k v)) e ∙ drop_set n xs i v

take_set : (n : ℕ) (xs : List ℤ) (i : ℕ) (v : ℤ) → take n (slice_set xs i v) ≡ slice_set (take n xs) i v
take_set zero xs i v = refl
take_set (suc n) [] i v = refl
take_set (suc n) (x ∷ xs) zero v = refl
take_set (suc n) (x ∷ xs) (suc i) v = ap (λ (l : List ℤ). x ∷ l) (take_set n xs i v)

pub unneeded_changes_nothing : (body : Body) (args : List ℤ) (inputs : List Input) (place : ℕ) (v : ℤ) → UnneededChangesNothing body args inputs place v
unneeded_changes_nothing body args inputs place v unneeded below d e =
    let k = length args + place in
    let s = start body args inputs in
    let begin = start_with body args inputs place v below in
    let alike : Agrees k (does body.block s (ends status.Done)) (does body.block (other k v s) (ends status.Done)) =
    code_agrees k body.block (ends status.Done) (λ s. []) (λ s w h. at_end k status.Done s w) s v
    (no_need (length args) (length inputs) place (body_uses body args inputs) below unneeded) in
    let there : Agrees k (whole body args inputs) (whole body args (with_value inputs place v)) =
    subst (λ (s' : State). Agrees k (does body.block s (ends status.Done)) (does body.block s' (ends status.Done))) (sym begin) alike in
    let a = there d e in
    record {
      wishes = a.wishes;
      ticks = a.ticks;
      written = λ i. cowns_at (length args) (same_cowns inputs place v i) (a.assigned i);
      left = a.left;
      outputs = ap (λ n. take n (drop (length args) (whole body args (with_value inputs place v)).slots)) (length_with inputs place v)
          ∙ ap (λ (xs : List ℤ). take (length inputs) (drop (length args) xs)) a.slots
          ∙ ap (take (length inputs)) (drop_set (length args) (whole body args inputs).slots place a.left)
          ∙ take_set (length inputs) (drop (length args) (whole body args inputs).slots) place a.left;
    }
