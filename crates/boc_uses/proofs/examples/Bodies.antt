-- What small bodies use.
use Rattle.std.proofs.Common.{◌≡◌, ℕ, ◌+◌, List, [], ◌∷◌, length, refl, Bool, true, false, Option, Some, None, ℤ, pos}
use Rattle.boc_program.specs.declared.body.Operator.TheVariants.{Add, Subtract, Multiply, Divide, Remainder, Equal}
use Rattle.boc_program.specs.declared.short.Input.{Input}
use Rattle.boc_program.specs.Syntax.{Code, Number, Slot, Binary, Held, Member, Done, Assign, Work, If, Repeat, When}
use Rattle.boc_program.specs.Meaning.{cowns_held, values_held, start_slots}
use Rattle.boc_uses.specs.declared.uses.Use.{Use}
use Rattle.boc_uses.specs.Uses.{code_uses, summaries}

-- what a body uses that has so many value parameters and slots
abbrev told : ℕ → ℕ → Code → List ℤ → List Input → List (Option Use)
told params slots block args inputs =
    summaries params (length inputs) (code_uses block (record {
      held = cowns_held inputs;
      slots = start_slots args (values_held inputs) slots;
      ticks = 1;
    }) (λ s. []))

abbrev use_at : ℕ → ℕ → Bool → Option Use
use_at first last needed = Some (record { first = first; last = last; needed = needed })

abbrev input : ℕ → ℤ → Input
input cown value = record { cown = cown; value = value }

-- `st = st + 1;` on st = 4
an_update :
    told 0 1 (Assign 0 (Binary Add (Slot 0) (Number (pos 1))) Done) [] (input 5 (pos 4) ∷ []) ≡ use_at 2 2 false ∷ []
an_update = refl

-- `sum = sum + n * price;` on n = 3, sum = 1, price = 2
an_update_by_another :
    told 1 3 (Assign 1 (Binary Add (Slot 1) (Binary Multiply (Slot 0) (Slot 2))) Done) (pos 3 ∷ []) (input 5 (pos 1) ∷ input 6 (pos 2) ∷ []) ≡ use_at
    2 2 false ∷ use_at 2 2 true ∷ []
an_update_by_another = refl

-- `if set / bit % 2 == 0 { set = set + bit; } else { work 3; }` on bit = 2, set = 5
a_test :
    told 1 2 (If (Binary Equal (Binary Remainder (Binary Divide (Slot 1) (Slot 0)) (Number (pos 2))) (Number (pos 0))) (Assign 1 (Binary Add (Slot 1)
    (Slot 0)) Done) (Work (Number (pos 3)) Done) Done) (pos 2 ∷ []) (input 5 (pos 5) ∷ []) ≡ use_at 2 3 true ∷ []
a_test = refl

-- `if a { b = 1; } else { c = c; } work 2; let x = a;` on a = 0, b = 7, c = 8
the_other_side :
    told 0 4 (If (Slot 0) (Assign 1 (Number (pos 1)) Done) (Assign 2 (Slot 2) Done) (Work (Number (pos 2)) (Assign 3 (Slot 0) Done))) [] (input 5
    (pos 0) ∷ input 6 (pos 7) ∷ input 7 (pos 8) ∷ []) ≡ use_at 2 6 true ∷ None ∷ use_at 3 3 false ∷ []
the_other_side = refl

-- `let x = 1; work c; work 4; c = 2;` on c = 10
work_reads_before_its_charge :
    told 0 2 (Assign 1 (Number (pos 1)) (Work (Slot 0) (Work (Number (pos 4)) (Assign 0 (Number (pos 2)) Done)))) [] (input 5 (pos 10) ∷ []) ≡ use_at
    2 17 true ∷ []
work_reads_before_its_charge = refl

-- `x = 1; x = a + b / 0 + c;` on x = 0, a = 1, b = 2, c = 3, which ends by a fault
a_fault_cuts_short :
    told 0 4 (Assign 0 (Number (pos 1)) (Assign 0 (Binary Add (Binary Add (Slot 1) (Binary Divide (Slot 2) (Number (pos 0)))) (Slot 3)) Done)) []
    (input 5 (pos 0) ∷ input 6 (pos 1) ∷ input 7 (pos 2) ∷ input 8 (pos 3) ∷ []) ≡ use_at 2 2 false ∷ use_at 3 3 true ∷ use_at 3 3 true ∷ None ∷ []
a_fault_cuts_short = refl

-- `repeat n { a = a + 1; if a == 2 { b = a; } } c = 0;` on n = 3, a = 0, b = 0, c = 0
turns :
    told 0 4 (Repeat (Slot 0) (Assign 1 (Binary Add (Slot 1) (Number (pos 1))) (If (Binary Equal (Slot 1) (Number (pos 2))) (Assign 2 (Slot 1) Done)
    Done Done)) (Assign 3 (Number (pos 0)) Done)) [] (input 5 (pos 3) ∷ input 6 (pos 0) ∷ input 7 (pos 0) ∷ input 8 (pos 0) ∷ []) ≡ use_at 2 2 true ∷
    use_at 4 12 true ∷ use_at 9 9 false ∷ use_at 13 13 false ∷ []
turns = refl

-- `repeat 0 - n { a = a + 1; } b = 1;` on n = 3, a = 0, b = 0, which ends by a fault
turns_that_are_negative :
    told 0 3 (Repeat (Binary Subtract (Number (pos 0)) (Slot 0)) (Assign 1 (Binary Add (Slot 1) (Number (pos 1))) Done) (Assign 2 (Number (pos 1))
    Done)) [] (input 5 (pos 3) ∷ input 6 (pos 0) ∷ input 7 (pos 0) ∷ []) ≡ use_at 2 2 true ∷ None ∷ None ∷ []
turns_that_are_negative = refl

-- `work 2; when g(x + a; p, m[b]);` on x = 1, p = 0, a = 1, b = 2
a_wish_reads :
    told 1 4 (Work (Number (pos 2)) (When 1 ((Binary Add (Slot 0) (Slot 2)) ∷ []) (Held 0 ∷ (Member 6 3 (Slot 3)) ∷ []) Done)) (pos 1 ∷ []) (input 5
    (pos 0) ∷ input 6 (pos 1) ∷ input 7 (pos 2) ∷ []) ≡ None ∷ use_at 4 4 true ∷ use_at 4 4 true ∷ []
a_wish_reads = refl

-- `when g(1; m[b], arr[c]); b = 1;` on b = 3, c = 1, which ends by a fault
a_wish_out_of_range :
    told 0 2 (When 1 ((Number (pos 1)) ∷ []) ((Member 6 3 (Slot 0)) ∷ (Member 1 4 (Slot 1)) ∷ []) (Assign 0 (Number (pos 1)) Done)) [] (input 5 (pos
    3) ∷ input 6 (pos 1) ∷ []) ≡ use_at 2 2 true ∷ None ∷ []
a_wish_out_of_range = refl

-- `when g(a; p, a); b = 1;` on p = 3, a = 1, b = 0
the_same_cown_twice :
    told 0 3 (When 1 (Slot 1 ∷ []) (Held 0 ∷ Held 1 ∷ []) (Assign 2 (Number (pos 1)) Done)) [] (input 5 (pos 3) ∷ input 6 (pos 1) ∷ input 7 (pos 0) ∷
    []) ≡ None ∷ use_at 2 2 true ∷ use_at 3 3 false ∷ []
the_same_cown_twice = refl

-- `when g(q; m[p], m[p]); q = 1;` on p = 1, q = 1, which ends by a fault
the_same_cown_twice_by_index :
    told 0 2 (When 1 (Slot 1 ∷ []) ((Member 6 3 (Slot 0)) ∷ (Member 6 3 (Slot 0)) ∷ []) (Assign 1 (Number (pos 1)) Done)) [] (input 5 (pos 1) ∷ input
    6 (pos 1) ∷ []) ≡ use_at 2 2 true ∷ use_at 2 2 true ∷ []
the_same_cown_twice_by_index = refl

-- `a = 1; work 999998; b = a;` on a = 1, b = 1, which ends by a fault
past_the_most_ticks :
    told 0 2 (Assign 0 (Number (pos 1)) (Work (Number (pos 999998)) (Assign 1 (Slot 0) Done))) [] (input 5 (pos 1) ∷ input 6 (pos 1) ∷ []) ≡ use_at 2
    2 false ∷ None ∷ []
past_the_most_ticks = refl

-- `work a; b = a;` on a = 1000000, b = 1, which ends by a fault
work_past_the_most_ticks :
    told 0 2 (Work (Slot 0) (Assign 1 (Slot 0) Done)) [] (input 5 (pos 1000000) ∷ input 6 (pos 1) ∷ []) ≡ use_at 1 1 true ∷ None ∷ []
work_past_the_most_ticks = refl

-- `n = n + a; a = n;` on n = 1, a = 1
a_write_of_a_value_parameter :
    told 1 2 (Assign 0 (Binary Add (Slot 0) (Slot 1)) (Assign 1 (Slot 0) Done)) (pos 1 ∷ []) (input 5 (pos 1) ∷ []) ≡ use_at 2 3 true ∷ []
a_write_of_a_value_parameter = refl
