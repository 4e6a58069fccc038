-- How many steps were made: those that behaviours have made, and what is left to them.
use Rattle.std.proofs.Common.{◌≡◌, ◌≢◌, ℕ, zero, suc, ◌+◌, ◌<◌, ◌≤◌, Bool, true, false, cond, List, [], ◌∷◌, ◌++◌, length, map, drop, set, refl, sym, ◌∙◌, ap}
use Rattle.std.proofs.Common.{arith}
use Rattle.std.specs.Prelude.{slice_get, slice_set, nat_lt, Option, Some, None}
use Rattle.std.specs.List.{sum_by}
use Rattle.std.proofs.lemmas.Bool.{ltb-false, ltb-true}
use Rattle.std.proofs.lemmas.List.{map-append, length-drop}
use Rattle.std.proofs.lemmas.List.Sums.{sum_by-append}
use Rattle.arrayvec.specs.ArrayVec.{ArrayVec}
use Rattle.boc_program.specs.declared.body.EndStatus.{EndStatus}
use Rattle.boc_runs.specs.declared.event.Event.{Event}
use Rattle.boc_runs.specs.declared.event.Event.TheVariants.{Spawn, Start, End}
use Rattle.boc_runs.specs.declared.stage.Phase.TheVariants.{Flagging, Owning}
use Rattle.boc_runs.specs.declared.stage.Stage.TheVariants.{Recorded}
use Rattle.boc_program.specs.Changed.{changed}
use Rattle.boc_runs.specs.Lives as lives
use Rattle.boc_runs.specs.Legal.{Entry, entries, after, after_all, pending}
use Rattle.boc_runs.specs.machine.Stages.{OpenBehaviour}
use Rattle.boc_runs.specs.machine.Steps.{State, at, with_behaviour, flagging}
use Rattle.boc_runs.specs.machine.AlongRows.{cowns_of_rows, parents_of_rows, steps_of}
use Rattle.boc_runs.specs.machine.Sound.{made, owed, owed_at, HasNextRequest}
use Rattle.boc_machine_laws.proofs.Lawful.{at_each}
use Rattle.boc_machine_laws.proofs.Core.{HasSteps, HasRequests, put_sum, put_here, put_others}

-- ---- the rows of a log

pub entries_more : (rows : List Entry) (log : List Event) (e : Event)
    → after_all rows (log ++ (e ∷ [])) ≡ after (after_all rows log) e
entries_more rows [] e = refl
entries_more rows (d ∷ log) e = entries_more (after rows d) log e

-- a row changed in what f doesn't see
map_set : {X : Type 0} (f : Entry → X) (rows : List Entry) (r : ℕ) (e y : Entry) → slice_get rows r ≡ Some e
    → f y ≡ f e → map f (slice_set rows r y) ≡ map f rows
map_set f [] r e y is same = refl
map_set f (x ∷ rows) zero e y is same = (let q : x ≡ e = (let h : Some x ≡ Some e = is in cc) in
    ap (λ z. z ∷ map f rows) (same ∙ ap f (sym q)))
map_set f (x ∷ rows) (suc r) e y is same = ap (λ zs. f x ∷ zs) (map_set f rows r e y is same)

map_changed_at : {X : Type 0} (f : Entry → X) (rows : List Entry) (r : ℕ) (g : Entry → Entry) (o : Option Entry)
    → slice_get rows r ≡ o → ((e : Entry) → f (g e) ≡ f e) → map f (changed rows r g o) ≡ map f rows
map_changed_at f rows r g None is same = refl
map_changed_at f rows r g (Some e) is same = map_set f rows r e (g e) is (same e)

pub map_changed : {X : Type 0} (f : Entry → X) (rows : List Entry) (r : ℕ) (g : Entry → Entry)
    → ((e : Entry) → f (g e) ≡ f e) → map f (changed rows r g (slice_get rows r)) ≡ map f rows
map_changed f rows r g same = map_changed_at f rows r g (slice_get rows r) refl same

-- what f sees of the rows, with a spawn more
map_spawned : {X : Type 0} (f : Entry → X) (log : List Event) (row parent offset : ℕ) (cowns : ArrayVec ℕ)
    → ((e : Entry) → f (record e { last = offset }) ≡ f e)
    → map f (entries (log ++ (Spawn row parent offset cowns ∷ [])))
    ≡ map f (entries log) ++ (f (pending parent offset cowns.items) ∷ [])
map_spawned f log row parent offset cowns same =
    ap (map f) (entries_more [] log (Spawn row parent offset cowns))
    ∙ map-append f (changed (entries log) parent (λ e. record e { last = offset }) (slice_get (entries log) parent))
    (pending parent offset cowns.items ∷ [])
    ∙ ap (λ zs. zs ++ (f (pending parent offset cowns.items) ∷ []))
    (map_changed f (entries log) parent (λ e. record e { last = offset }) same)

pub cowns_spawned : (log : List Event) (row parent offset : ℕ) (cowns : ArrayVec ℕ)
    → cowns_of_rows (log ++ (Spawn row parent offset cowns ∷ [])) ≡ cowns_of_rows log ++ (cowns.items ∷ [])
cowns_spawned log row parent offset cowns = map_spawned (λ e. e.cowns) log row parent offset cowns (λ e. refl)

pub parents_spawned : (log : List Event) (row parent offset : ℕ) (cowns : ArrayVec ℕ)
    → parents_of_rows (log ++ (Spawn row parent offset cowns ∷ [])) ≡ parents_of_rows log ++ (parent ∷ [])
parents_spawned log row parent offset cowns = map_spawned (λ e. e.parent) log row parent offset cowns (λ e. refl)

map_started : {X : Type 0} (f : Entry → X) (log : List Event) (row : ℕ)
    → ((e : Entry) → f (record e { life = lives.Running }) ≡ f e)
    → map f (entries (log ++ (Start row ∷ []))) ≡ map f (entries log)
map_started f log row same = ap (map f) (entries_more [] log (Start row))
    ∙ map_changed f (entries log) row (λ e. record e { life = lives.Running }) same

pub cowns_started : (log : List Event) (row : ℕ) → cowns_of_rows (log ++ (Start row ∷ [])) ≡ cowns_of_rows log
cowns_started log row = map_started (λ e. e.cowns) log row (λ e. refl)

pub parents_started : (log : List Event) (row : ℕ) → parents_of_rows (log ++ (Start row ∷ [])) ≡ parents_of_rows log
parents_started log row = map_started (λ e. e.parent) log row (λ e. refl)

map_ended : {X : Type 0} (f : Entry → X) (log : List Event) (row ticks : ℕ) (status : EndStatus) (written : ArrayVec ℕ)
    → ((e : Entry) → f (record e { life = lives.Ended; ticks = ticks; status = status; written = written.items })
    ≡ f e) → map f (entries (log ++ (End row ticks status written ∷ []))) ≡ map f (entries log)
map_ended f log row ticks status written same =
    ap (map f) (entries_more [] log (End row ticks status written))
    ∙ map_changed f (entries log) row (λ e. record e {
      life = lives.Ended;
      ticks = ticks;
      status =
          status;
      written = written.items;
    }) same

pub cowns_ended : (log : List Event) (row ticks : ℕ) (status : EndStatus) (written : ArrayVec ℕ)
    → cowns_of_rows (log ++ (End row ticks status written ∷ [])) ≡ cowns_of_rows log
cowns_ended log row ticks status written = map_ended (λ e. e.cowns) log row ticks status written (λ e. refl)

pub parents_ended : (log : List Event) (row ticks : ℕ) (status : EndStatus) (written : ArrayVec ℕ)
    → parents_of_rows (log ++ (End row ticks status written ∷ [])) ≡ parents_of_rows log
parents_ended log row ticks status written = map_ended (λ e. e.parent) log row ticks status written (λ e. refl)

-- ---- the steps of the rows of a log

abbrev pub steps_of_log : List Event → ℕ
steps_of_log log = sum_by (λ cowns. steps_of (length cowns)) (cowns_of_rows log)

pub steps_spawned : (log : List Event) (row parent offset : ℕ) (cowns : ArrayVec ℕ)
    → steps_of_log (log ++ (Spawn row parent offset cowns ∷ [])) ≡ steps_of_log log + steps_of (length cowns.items)
steps_spawned log row parent offset cowns =
    let e : steps_of_log (log ++ (Spawn row parent offset cowns ∷ []))
    ≡ sum_by (λ cs. steps_of (length cs)) (cowns_of_rows log ++ (cowns.items ∷ [])) =
    ap (sum_by (λ cs. steps_of (length cs))) (cowns_spawned log row parent offset cowns) in
    omega (arith, e, sum_by-append (λ cs. steps_of (length cs)) (cowns_of_rows log) (cowns.items ∷ []))

pub steps_started : (log : List Event) (row : ℕ) → steps_of_log (log ++ (Start row ∷ [])) ≡ steps_of_log log
steps_started log row = ap (sum_by (λ cs. steps_of (length cs))) (cowns_started log row)

pub steps_ended : (log : List Event) (row ticks : ℕ) (status : EndStatus) (written : ArrayVec ℕ)
    → steps_of_log (log ++ (End row ticks status written ∷ [])) ≡ steps_of_log log
steps_ended log row ticks status written = ap (sum_by (λ cs. steps_of (length cs)))
    (cowns_ended log row ticks status written)

-- ---- one behaviour goes on

-- `more` steps are made, and the rows take `also` more
pub steps_put : (s : State) → HasSteps s → (who : ℕ) (b : OpenBehaviour) (b' : Option OpenBehaviour)
    → at s who ≡ Some b → (more also log' : ℕ) → log' ≡ steps_of_log s.log + also
    → more + owed b' + made (Some b) ≡ also + made b' + owed (Some b)
    → s.steps + more + 2 + sum_by owed (set s.behaviours who b') ≡ log' + sum_by made (set s.behaviours who b')
steps_put s n who b b' is more also log' l e =
    let o = put_sum owed s who b b' is in
    let m = put_sum made s who b b' is in
    omega (arith, n, o, m, l, e)

-- the next requests of the others are there
abbrev pub OthersHaveRequests : State → ℕ → Type 0
OthersHaveRequests s who = (w : ℕ) → w ≢ who → (c : OpenBehaviour) → at s w ≡ Some c → HasNextRequest c.stage c.cowns

pub requests_put : (s : State) (who : ℕ) → OthersHaveRequests s who → (b : OpenBehaviour) (b' : Option OpenBehaviour)
    → at s who ≡ Some b → ((c : OpenBehaviour) → b' ≡ Some c → HasNextRequest c.stage c.cowns)
    → HasRequests (with_behaviour s who b')
requests_put s who r b b' is new w =
    at_each (λ v z. (c : OpenBehaviour) → z ≡ Some c → HasNextRequest c.stage c.cowns) (at s)
    (at (with_behaviour s who b')) who (put_others s who b')
    (λ c e. new c (sym (put_here s who b b' is) ∙ e)) r w

-- ---- what is owed, and which request is next

-- of two, by a test
pub by_test : {A : Type 0} (P : A → Type 0) (test : Bool) (x y : A) → (test ≡ true → P x) → (test ≡ false → P y)
    → P (cond test x y)
by_test P true x y first second = first refl
by_test P false x y first second = second refl

pub dropped_one : (cs : List ℕ) (i : ℕ) → i < length cs → length (drop i cs) ≡ length (drop (suc i) cs) + 1
dropped_one cs i h = omega (arith, length-drop i cs, length-drop (suc i) cs)

pub dropped_all : (cs : List ℕ) (i : ℕ) → length cs ≤ i → length (drop i cs) ≡ 0
dropped_all cs i h = omega (arith, length-drop i cs)

-- flags from this request on, Own, and the rest
pub owed_flagging : (r : ℕ) (cs : List ℕ) (i : ℕ)
    → owed_at (Recorded r (flagging cs i)) cs ≡ length (drop i cs) + 3 + length cs
owed_flagging r cs i =
    by_test (λ ph. owed_at (Recorded r ph) cs ≡ length (drop i cs) + 3 + length cs) (nat_lt i (length cs))
    (Flagging i) Owning
    (λ h. refl)
    (λ h. let d = dropped_all cs i (ltb-false i (length cs) h) in omega arith)

pub next_flagging : (r : ℕ) (cs : List ℕ) (i : ℕ) → HasNextRequest (Recorded r (flagging cs i)) cs
next_flagging r cs i = by_test (λ ph. HasNextRequest (Recorded r ph) cs) (nat_lt i (length cs)) (Flagging i) Owning
    (λ h. ltb-true i (length cs) h) (λ h. tt)
