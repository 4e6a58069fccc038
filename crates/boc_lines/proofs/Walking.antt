-- Steps of a walk, one after another.
use Rattle.std.proofs.Common.{◌≡◌, ℕ, zero, suc, ◌+◌, ◌-◌, ◌≤◌, ◌<◌, List, [], ◌∷◌, Bool, true, false, Ok, Err, Some, None, ℤ, pos, negsuc, refl, sym, ap, ◌∙◌, arith, is_ok, length, get_or, take, drop}
use Rattle.std.specs.Prelude.{Option, nat_le, slice_set, if◌then◌else◌}
use Rattle.std.proofs.lemmas.Bool.Decides.{nat_tests}
use Rattle.std.specs.Result.{result_ok}
use Rattle.std.proofs.lemmas.List.{take_rest}
use Rattle.boc_program.specs.declared.body.Body.{Body}
use Rattle.boc_program.specs.declared.body.Stmt.{Stmt}
use Rattle.boc_program.specs.declared.short.Input.{Input}
use Rattle.boc_program.specs.memory.View.{before, code_of}
use Rattle.boc_program.specs.Syntax.{SlotExpr, CownRef, Code, Done, Assign, Work, If, Repeat, When, code_size}
use Rattle.boc_program.specs.Value.{OrFault, then_value, value, values}
use Rattle.boc_program.specs.Meaning.{State, as_count, cowns_of, distinct, is_zero, start}
use Rattle.boc_lines.specs.declared.walk.Walk.{Walk}
use Rattle.boc_lines.specs.Charges.{Bill, After, Charging, closed, charging, charge, charged, given, turns, bill}
use Rattle.boc_lines.specs.Books.{entered}
use Rattle.boc_lines.specs.Walks.{state_of, book_of, goes_on, goes_on_with, Charges, ChargesWith, HasRoom, Keeps, can_wish, testing, counting}
use Rattle.boc_lines.proofs.Having.{given_both}
use Rattle.boc_lines.proofs.Numbering.{charged_before}

is_within : (a b : ℕ) → a ≤ b → nat_le a b ≡ true
is_within a b h = grind (arith, nat_tests)

is_past : (a b : ℕ) → b < a → nat_le a b ≡ false
is_past a b h = grind (arith, nat_tests)

-- a charge within the cap, and one past it
pub charge_made : (k n : ℕ) (s : State) (next : After) → s.ticks + n ≤ 1000000
    → charge k n s next ≡ charging k n (next (record s { ticks = s.ticks + n }))
charge_made k n s next h =
    ap (λ b. if b then charging k n (next (record s { ticks = s.ticks + n })) else closed s) (is_within (s.ticks + n) 1000000 h)

pub charge_past : (k n : ℕ) (s : State) (next : After) → 1000000 < s.ticks + n → charge k n s next ≡ closed s
charge_past k n s next h =
    ap (λ b. if b then charging k n (next (record s { ticks = s.ticks + n })) else closed s) (is_past (s.ticks + n) 1000000 h)

-- up to what the walk came to
pub stop : (a : Charging) (old mid : Walk) (on : Bool) → Charges a old on mid → on ≡ false → (next : After)
    → entered (book_of old) (a (state_of old) next) ≡ entered (book_of mid) (closed (state_of mid))
stop a old mid on h e next = h next ∙ ap (λ o. entered (book_of mid) (goes_on o next (state_of mid))) e

pub pass : (a : Charging) (old mid : Walk) (on : Bool) → Charges a old on mid → on ≡ true → (next : After)
    → entered (book_of old) (a (state_of old) next) ≡ entered (book_of mid) (next (state_of mid))
pass a old mid on h e next = h next ∙ ap (λ o. entered (book_of mid) (goes_on o next (state_of mid))) e

pub stop_with : {A : Type 0} (a : (A → After) → State → Bill) (old mid : Walk) (found : Option A) → ChargesWith a old found mid → found ≡ None
    → (next : A → After) → entered (book_of old) (a next (state_of old)) ≡ entered (book_of mid) (closed (state_of mid))
stop_with a old mid found h e next = h next ∙ ap (λ o. entered (book_of mid) (goes_on_with o next (state_of mid))) e

pub pass_with : {A : Type 0} (a : (A → After) → State → Bill) (old mid : Walk) (found : Option A) (v : A) → ChargesWith a old found mid → found ≡ Some v
    → (next : A → After) → entered (book_of old) (a next (state_of old)) ≡ entered (book_of mid) (next v (state_of mid))
pass_with a old mid found v h e next = h next ∙ ap (λ o. entered (book_of mid) (goes_on_with o next (state_of mid))) e

-- ---- assignments

pub assign_stops : (slot : ℕ) (e : SlotExpr) (k : ℕ) (old mid : Walk) (found : Option ℤ) → ChargesWith (testing k e) old found mid → found ≡ None
    → Charges (charged (Assign slot e Done) k) old false mid
assign_stops slot e k old mid found h is next =
    stop_with (testing k e) old mid found h is (λ v s. next (record s { slots = slice_set s.slots slot v }))

pub assign_goes : (slot : ℕ) (e : SlotExpr) (k : ℕ) (old mid new : Walk) (found : Option ℤ) (v : ℤ) → ChargesWith (testing k e) old found mid
    → found ≡ Some v → state_of new ≡ record (state_of mid) { slots = slice_set mid.slots.items slot v } → book_of new ≡ book_of mid
    → Charges (charged (Assign slot e Done) k) old true new
assign_goes slot e k old mid new found v h is state book next =
    pass_with (testing k e) old mid found v h is (λ v s. next (record s { slots = slice_set s.slots slot v }))
    ∙ ap (λ s. entered (book_of mid) (next s)) (sym state) ∙ ap (λ b. entered b (next (state_of new))) (sym book)

-- ---- ticks

pub work_stops : (e : SlotExpr) (k : ℕ) (old : Walk) (found : OrFault ℕ) → found ≡ then_value (value e old.slots.items) as_count
    → is_ok found ≡ false → Charges (charged (Work e Done) k) old false old
work_stops e k old (Ok n) is none next = absurd cc
work_stops e k old (Err fault) is none next = ap (λ r. entered (book_of old) (given r (state_of old) (λ n. charge k n (state_of old) next))) (sym is)

pub work_goes : (e : SlotExpr) (k n : ℕ) (old new : Walk) (on : Bool) → then_value (value e old.slots.items) as_count ≡ Ok n
    → Charges (charge k n) old on new → Charges (charged (Work e Done) k) old on new
work_goes e k n old new on is h next =
    ap (λ r. entered (book_of old) (given r (state_of old) (λ n. charge k n (state_of old) next))) is ∙ h next

-- ---- wishes

pub wish_stops : (kind : ℕ) (args : List SlotExpr) (refs : List CownRef) (k : ℕ) (old mid : Walk) (on : Bool) → Charges (charge k 1) old on mid
    → on ≡ false → Charges (charged (When kind args refs Done) k) old false mid
wish_stops kind args refs k old mid on h is next =
    stop (charge k 1) old mid on h is
    (λ s. given (values args s.slots) s (λ vs. given (then_value (cowns_of refs s) distinct) s (λ cs. next s)))

wished : (can : Bool) (mid : Walk) (next : After)
    → entered (book_of mid) (if can then next (state_of mid) else closed (state_of mid)) ≡ entered (book_of mid) (goes_on can next (state_of mid))
wished true mid next = refl
wished false mid next = refl

pub wish_goes : (kind : ℕ) (args : List SlotExpr) (refs : List CownRef) (k : ℕ) (old mid : Walk) (on can : Bool) → Charges (charge k 1) old on mid
    → on ≡ true → can ≡ can_wish args refs (state_of mid) → Charges (charged (When kind args refs Done) k) old can mid
wish_goes kind args refs k old mid on can h is can_is next =
    pass (charge k 1) old mid on h is
    (λ s. given (values args s.slots) s (λ vs. given (then_value (cowns_of refs s) distinct) s (λ cs. next s)))
    ∙ ap (entered (book_of mid)) (given_both (values args mid.slots.items) (then_value (cowns_of refs (state_of mid)) distinct) (state_of mid) (next (state_of mid)))
    ∙ ap (λ b. entered (book_of mid) (if b then next (state_of mid) else closed (state_of mid))) (sym can_is)
    ∙ wished can mid next

-- ---- a tick and a value

tested : {A : Type 0} (r : OrFault A) (mid : Walk) (found : Option A) (next : A → After) → found ≡ result_ok r
    → entered (book_of mid) (given r (state_of mid) (λ v. next v (state_of mid))) ≡ entered (book_of mid) (goes_on_with found next (state_of mid))
tested (Ok v) mid found next is = ap (λ o. entered (book_of mid) (goes_on_with o next (state_of mid))) (sym is)
tested (Err fault) mid found next is = ap (λ o. entered (book_of mid) (goes_on_with o next (state_of mid))) (sym is)

pub test_stops : (k : ℕ) (e : SlotExpr) (old mid : Walk) (on : Bool) → Charges (charge k 1) old on mid → on ≡ false
    → ChargesWith (testing k e) old None mid
test_stops k e old mid on h is next = stop (charge k 1) old mid on h is (λ s. given (value e s.slots) s (λ v. next v s))

pub test_goes : (k : ℕ) (e : SlotExpr) (old mid : Walk) (on : Bool) (found : Option ℤ) → Charges (charge k 1) old on mid → on ≡ true
    → found ≡ result_ok (value e mid.slots.items) → ChargesWith (testing k e) old found mid
test_goes k e old mid on found h is found_is next =
    pass (charge k 1) old mid on h is (λ s. given (value e s.slots) s (λ v. next v s)) ∙ tested (value e mid.slots.items) mid found next found_is

pub count_stops : (k : ℕ) (e : SlotExpr) (old mid : Walk) (on : Bool) → Charges (charge k 1) old on mid → on ≡ false
    → ChargesWith (counting k e) old None mid
count_stops k e old mid on h is next = stop (charge k 1) old mid on h is (λ s. given (then_value (value e s.slots) as_count) s (λ n. next n s))

pub count_goes : (k : ℕ) (e : SlotExpr) (old mid : Walk) (on : Bool) (found : Option ℕ) → Charges (charge k 1) old on mid → on ≡ true
    → found ≡ result_ok (then_value (value e mid.slots.items) as_count) → ChargesWith (counting k e) old found mid
count_goes k e old mid on found h is found_is next =
    pass (charge k 1) old mid on h is (λ s. given (then_value (value e s.slots) as_count) s (λ n. next n s))
    ∙ tested (then_value (value e mid.slots.items) as_count) mid found next found_is

-- ---- two blocks

pub either_stops : (e : SlotExpr) (block other : Code) (k : ℕ) (old mid : Walk) (found : Option ℤ) → ChargesWith (testing k e) old found mid
    → found ≡ None → Charges (charged (If e block other Done) k) old false mid
either_stops e block other k old mid found h is next =
    stop_with (testing k e) old mid found h is
    (λ v s. (if is_zero v then charged other (k + 1 + code_size block) else charged block (k + 1)) s next)

pub either_goes : (e : SlotExpr) (block other : Code) (k : ℕ) (old mid new : Walk) (found : Option ℤ) (v : ℤ) (on first : Bool)
    → ChargesWith (testing k e) old found mid → found ≡ Some v → is_zero v ≡ first
    → Charges (if first then charged other (k + 1 + code_size block) else charged block (k + 1)) mid on new
    → Charges (charged (If e block other Done) k) old on new
either_goes e block other k old mid new found v on first h is first_is run next =
    pass_with (testing k e) old mid found v h is
    (λ v s. (if is_zero v then charged other (k + 1 + code_size block) else charged block (k + 1)) s next)
    ∙ ap (λ b. entered (book_of mid) ((if b then charged other (k + 1 + code_size block) else charged block (k + 1)) (state_of mid) next)) first_is
    ∙ run next

pub not_zero : (v : ℤ) → (v ≡ pos 0 → ⊥) → is_zero v ≡ false
not_zero (pos zero) h = absurd (h refl)
not_zero (pos (suc n)) h = refl
not_zero (negsuc n) h = refl

-- ---- turns

pub repeat_stops : (e : SlotExpr) (block : Code) (k : ℕ) (old mid : Walk) (found : Option ℕ) → ChargesWith (counting k e) old found mid
    → found ≡ None → Charges (charged (Repeat e block Done) k) old false mid
repeat_stops e block k old mid found h is next =
    stop_with (counting k e) old mid found h is (λ n s. turns k n (charged block (k + 1)) s next)

pub repeat_goes : (e : SlotExpr) (block : Code) (k : ℕ) (old mid new : Walk) (found : Option ℕ) (n : ℕ) (on : Bool)
    → ChargesWith (counting k e) old found mid → found ≡ Some n → Charges (turns k n (charged block (k + 1))) mid on new
    → Charges (charged (Repeat e block Done) k) old on new
repeat_goes e block k old mid new found n on h is run next =
    pass_with (counting k e) old mid found n h is (λ n s. turns k n (charged block (k + 1)) s next) ∙ run next

-- ---- one after another

-- where the first part ends the body
pub first_stops : (a b : Charging) (c : Charging) (old mid : Walk) (on : Bool)
    → ((s : State) (next : After) → c s next ≡ a s (λ s. b s next)) → Charges a old on mid → on ≡ false → Charges c old false mid
first_stops a b c old mid on is h off next =
    ap (entered (book_of old)) (is (state_of old) next) ∙ stop a old mid on h off (λ s. b s next)

pub first_goes : (a b : Charging) (c : Charging) (old mid new : Walk) (on more : Bool)
    → ((s : State) (next : After) → c s next ≡ a s (λ s. b s next)) → Charges a old on mid → on ≡ true → Charges b mid more new → Charges c old more new
first_goes a b c old mid new on more is h goes run next =
    ap (entered (book_of old)) (is (state_of old) next) ∙ pass a old mid on h goes (λ s. b s next) ∙ run next

one_less : (n : ℕ) → n ≡ suc n - 1
one_less n = omega arith

-- one turn more
pub turn_splits : (k n : ℕ) (a : Charging) (s : State) (next : After) → 0 < n
    → turns k n a s next ≡ charge k 1 s (λ s. a s (λ s. turns k (n - 1) a s next))
turn_splits k zero a s next h = absurd (omega arith)
turn_splits k (suc n) a s next h = ap (λ m. charge k 1 s (λ s. a s (λ s. turns k m a s next))) (one_less n)

-- a statement, and then the others
pub run_stops : (ss : List Stmt) (s : Stmt) (k : ℕ) (old mid : Walk) (on : Bool) → 1 ≤ length ss → s ≡ get_or ss 0 s
    → Charges (charged (before s Done) k) old on mid → on ≡ false → Charges (charged (code_of ss) k) old false mid
run_stops [] s k old mid on long is h off = absurd (omega arith)
run_stops (z ∷ zs) s k old mid on long is h off =
    first_stops (charged (before z Done) k) (charged (code_of zs) (k + code_size (before z Done))) (charged (code_of (z ∷ zs)) k) old mid on
    (charged_before z (code_of zs) k) (λ next. ap (λ t. entered (book_of old) (charged (before t Done) k (state_of old) next)) (sym is) ∙ h next) off

pub run_goes : (ss : List Stmt) (s : Stmt) (k last : ℕ) (old mid new : Walk) (on more : Bool) → 1 ≤ length ss → s ≡ get_or ss 0 s
    → last ≡ k + code_size (before s Done) → Charges (charged (before s Done) k) old on mid → on ≡ true
    → Charges (charged (code_of (take (length ss - 1) (drop 1 ss))) last) mid more new → Charges (charged (code_of ss) k) old more new
run_goes [] s k last old mid new on more long is last_is h goes rest = absurd (omega arith)
run_goes (z ∷ zs) s k last old mid new on more long is last_is h goes rest =
    first_goes (charged (before z Done) k) (charged (code_of zs) (k + code_size (before z Done))) (charged (code_of (z ∷ zs)) k) old mid new on more
    (charged_before z (code_of zs) k) (λ next. ap (λ t. entered (book_of old) (charged (before t Done) k (state_of old) next)) (sym is) ∙ h next) goes
    (λ next. ap (λ xs. entered (book_of mid) (charged (code_of xs) (k + code_size (before z Done)) (state_of mid) next)) (sym (take_rest (z ∷ zs) 1))
    ∙ ap (λ n. entered (book_of mid) (charged (code_of (take (length (z ∷ zs) - 1) (drop 1 (z ∷ zs)))) n (state_of mid) next))
    (sym (last_is ∙ ap (λ t. k + code_size (before t Done)) is))
    ∙ rest next)

-- ---- one turn

-- where the tick of a turn, or its block, ends the body
pub turn_stops : (k n : ℕ) (a : Charging) (old mid : Walk) (on : Bool) → Charges (charge k 1) old on mid → on ≡ false → 0 < n
    → Charges (turns k n a) old false mid
turn_stops k n a old mid on h off some next =
    ap (entered (book_of old)) (turn_splits k n a (state_of old) next some) ∙ stop (charge k 1) old mid on h off (λ s. a s (λ s. turns k (n - 1) a s next))

pub block_stops : (k n : ℕ) (a : Charging) (old mid new : Walk) (on more : Bool) → Charges (charge k 1) old on mid → on ≡ true → Charges a mid more new
    → more ≡ false → 0 < n → Charges (turns k n a) old false new
block_stops k n a old mid new on more h goes run off some next =
    ap (entered (book_of old)) (turn_splits k n a (state_of old) next some)
    ∙ pass (charge k 1) old mid on h goes (λ s. a s (λ s. turns k (n - 1) a s next)) ∙ stop a mid new more run off (λ s. turns k (n - 1) a s next)

pub turn_goes : (k n : ℕ) (a : Charging) (old mid new : Walk) (on more : Bool) → Charges (charge k 1) old on mid → on ≡ true → Charges a mid more new
    → more ≡ true → 0 < n → (next : After)
    → entered (book_of old) (turns k n a (state_of old) next) ≡ entered (book_of new) (turns k (n - 1) a (state_of new) next)
turn_goes k n a old mid new on more h goes run on_again some next =
    ap (entered (book_of old)) (turn_splits k n a (state_of old) next some)
    ∙ pass (charge k 1) old mid on h goes (λ s. a s (λ s. turns k (n - 1) a s next)) ∙ pass a mid new more run on_again (λ s. turns k (n - 1) a s next)

-- no turn is left
pub turns_end : (k n : ℕ) (a : Charging) (s : State) (next : After) → n ≡ 0 → turns k n a s next ≡ next s
turns_end k n a s next h = ap (λ m. turns k m a s next) h

pub turn_counted : (count turn : ℕ) → count - turn - 1 ≡ count - (turn + 1)
turn_counted count turn = omega arith

-- ---- a whole body

on_or_off : (on : Bool) (new : Walk) → entered (book_of new) (goes_on on closed (state_of new)) ≡ record { book = book_of new; slots = new.slots.items }
on_or_off true new = refl
on_or_off false new = refl

pub body_entered : (body : Body) (first : ℕ) (old mid new : Walk) (on more : Bool) → Charges (charge first 1) old on mid → on ≡ true
    → Charges (charged body.block (first + 1)) mid more new → (args : List ℤ) (inputs : List Input)
    → state_of old ≡ record (start body args inputs) { ticks = 0 }
    → entered (book_of old) (bill first body args inputs) ≡ record { book = book_of new; slots = new.slots.items }
body_entered body first old mid new on more h goes run args inputs is =
    sym (ap (λ s. entered (book_of old) (charge first 1 s (λ s. charged body.block (first + 1) s closed))) is)
    ∙ pass (charge first 1) old mid on h goes (λ s. charged body.block (first + 1) s closed) ∙ run closed ∙ on_or_off more new

-- ---- what is kept

pub keeps_trans : (old mid new : Walk) → Keeps old mid → Keeps mid new → Keeps old new
keeps_trans old mid new a b = record {
  ticks = b.ticks;
  slots = b.slots ∙ a.slots;
  counts = omega (arith, a.counts, b.counts);
  chain = omega (arith, a.chain, b.chain);
}

pub keeps_none : (w : Walk) → w.ticks ≤ 1000000 → Keeps w w
keeps_none w h = record { ticks = h; slots = refl; counts = omega arith; chain = omega arith }

pub has_room : (old new : Walk) → HasRoom old → Keeps old new → HasRoom new
has_room old new room k = record {
  ticks = k.ticks;
  counts = omega (arith, room.counts, k.counts);
  chain = omega (arith, room.chain, k.chain);
}
