-- The machine tried on a program whose rows may come in two orders: steps that aren't allowed, turns that aren't others, and
-- lists that aren't lawful.
use Rattle.std.proofs.Common.{◌≡◌, ℕ, ◌<◌, [], ◌∷◌, length, Some, true, false, refl, sym, ◌∙◌, ap, subst, lit≤, arith}
use Rattle.std.specs.Prelude.{Option, slice_get}
use Rattle.boc_runs.specs.declared.stage.Phase.TheVariants.{Flagging, Owning, Waiting, Ready, Running, Leaving}
use Rattle.boc_runs.specs.declared.stage.Stage.{Stage}
use Rattle.boc_runs.specs.declared.stage.Stage.TheVariants.{Asking, Recorded}
use Rattle.boc_program.specs.Meaning.{Wish, Meaning, meaning}
use Rattle.boc_runs.specs.Lives as lives
use Rattle.boc_runs.specs.Run.{Member, meaning_of}
use Rattle.boc_runs.specs.machine.Stages.{OpenBehaviour, flagged_at, settled}
use Rattle.boc_runs.specs.machine.Queues.{times, Lawful}
use Rattle.boc_runs.specs.machine.Steps.{State, at, queue, with_stage, IsBlockedAsking, IsBlockedLeaving, MayOpen, Settles, Swaps, Owns, Starts, Finishes}
use Rattle.boc_runs.specs.machine.Steps.{Unhooks, Passes}
use Rattle.boc_runs.specs.machine.Turns.{TakesTurn, WaitsToSettle}
use Rattle.boc_machine_laws.proofs.OneTurn.{takes_one, blocked_settle, same_one}
use Rattle.boc_machine_laws.proofs.examples.TwoOrders.{program, main_body, left_at, one_at, two_at, state_2}
use Rattle.boc_machine_laws.proofs.examples.TwoOrders.{state_3, state_6, state_11, state_18, state_24, state_33}
use Rattle.boc_machine_laws.proofs.examples.TwoOrders.{state_34}
use Rattle.boc_machine_laws.proofs.examples.TwoOrdersTurns.{sound_18, blocked_at}

-- the stage of the behaviour of a number is the one that is there
stage_there : (s : State) (who : ℕ) (b b' : OpenBehaviour) (st : Stage) → at s who ≡ Some b → at s who ≡ Some b'
    → b'.stage ≡ st → b.stage ≡ st
stage_there s who b b' st e f g = ap (λ (z : OpenBehaviour). z.stage) (same_one s who b b' e f) ∙ g

-- its cown at a place is the one that is there
cown_there : (s : State) (who : ℕ) (b b' : OpenBehaviour) (i c d : ℕ) → at s who ≡ Some b → at s who ≡ Some b'
    → slice_get b.cowns i ≡ Some c → slice_get b'.cowns i ≡ Some d → c ≡ d
cown_there s who b b' i c d e f x y = let g : Some c ≡ Some d = sym x
    ∙ ap (λ (z : OpenBehaviour). slice_get z.cowns i) (same_one s who b b' e f) ∙ y in cc

one_or_two : (n : ℕ) → n ≡ 1 → n ≡ 2 → ⊥
one_or_two n one two = omega (arith, one, two)

-- ---- one blocked Settle

blocked_then : IsBlockedAsking state_18 4
blocked_then = blocked_at state_18 refl refl refl

cannot_settle : (t : State) → Settles program state_18 4 0 t → ⊥
cannot_settle t m = blocked_settle program state_18 4 0 t m blocked_then

-- so a worker that serves its parent has no turn but to wait
only_waits : (t : State) (x : Option ℕ) → TakesTurn program state_18 (Some 2) t x → (t ≡ state_18) × (x ≡ Some 2)
only_waits t x turn = takes_one program state_18 sound_18 (Some 2) t state_18 x (Some 2) turn
    (WaitsToSettle 2 4 (record { is_open = refl; parent = refl }) blocked_then)

-- ---- steps out of turn

-- a request is exchanged once
cannot_swap_again : (t : State) → Swaps state_3 1 0 t → ⊥
cannot_swap_again t m =
    let st : Asking 0 true ≡ Asking 0 false =
    stage_there state_3 1 (left_at (Asking 0 true)) m.this (Asking 0 false) refl m.due.is m.due.stage_is in
    let e : true ≡ false = ap (λ z. elim z [ Asking i x ↦ x | Recorded r ph ↦ true ]) st in cc

-- nothing is owned before all requests are flagged
cannot_own_yet : (t : State) → Owns state_24 3 t → ⊥
cannot_own_yet t m =
    let st : Recorded 3 (Flagging 1) ≡ Recorded m.row Owning =
    stage_there state_24 3 (one_at (Recorded 3 (Flagging 1))) m.this (Recorded m.row Owning) refl m.is m.stage_is in
    let e = ap (λ z. length {A = ℕ} (flagged_at z (0 ∷ 1 ∷ []))) st in omega (arith, e)

-- a row has one open enqueue at a time
cannot_open_two : (w : Wish) → MayOpen program state_2 0 w → ⊥
cannot_open_two w may = may.none_open 1 refl refl

-- rows start in the order in which they became ready
cannot_overtake : (t : State) → Starts state_11 2 2 t → ⊥
cannot_overtake t m = let e : 1 ∷ 2 ∷ [] ≡ 2 ∷ m.rest = m.head in let f : ◌≡◌ {A = ℕ} 1 2 = cc in omega (arith, f)

-- main cannot end before it has spawned its second wish
cannot_end_yet : (t : State) → Finishes program state_6 0 0 t → ⊥
cannot_end_yet t m =
    let c = m.may in
    let main : Member = record {
      behaviour = record { kind = 0; args = []; cowns = [] };
      inputs = [];
      spawned =
          1;
      life = lives.Running;
    } in
    let same : main ≡ c.member = let e : Some main ≡ Some c.member = c.is in cc in
    let means : meaning main_body [] [] ≡ c.means = let e : Some (meaning main_body [] []) ≡ Some c.means =
    ap (λ z. meaning_of program z) same ∙ c.meant in cc in
    one_or_two c.member.spawned (sym (ap (λ (z : Member). z.spawned) same))
    (c.all_spawned ∙ sym (ap (λ (z : Meaning). length z.wishes) means))

-- ---- releases

-- the first leaves cown a, where the second waits behind it: the list isn't unhooked
cannot_unhook : (t : State) → Unhooks state_33 3 3 0 t → ⊥
cannot_unhook t m =
    let c : 0 ≡ m.c = cown_there state_33 3 (one_at
    (Recorded 3 (Leaving 0))) m.this 0 0 m.c refl m.due.is refl m.due.cown in
    let e : 3 ∷ 4 ∷ [] ≡ 3 ∷ [] = ap (queue state_33) c ∙ m.alone in
    let f = ap (length {A = ℕ}) e in omega (arith, f)

-- the same, where the second has exchanged its request and not settled it: the release is blocked
abbrev unsettled : State
unsettled = with_stage state_33 4 (two_at (Recorded 4 Waiting)) (Asking 0 true)

cannot_unhook_either : (t : State) → Unhooks unsettled 3 3 0 t → ⊥
cannot_unhook_either t m =
    let c : 0 ≡ m.c = cown_there unsettled 3
    (one_at (Recorded 3 (Leaving 0))) m.this 0 0 m.c refl m.due.is refl m.due.cown in
    let e : 3 ∷ 4 ∷ [] ≡ 3 ∷ [] = ap (queue unsettled) c ∙ m.alone in
    let f = ap (length {A = ℕ}) e in omega (arith, f)

cannot_pass : (t : State) → Passes unsettled 3 3 0 t → ⊥
cannot_pass t m =
    let c : 0 ≡ m.c = cown_there unsettled 3
    (one_at (Recorded 3 (Leaving 0))) m.this 0 0 m.c refl m.due.is refl m.due.cown in
    let e : 3 ∷ 4 ∷ [] ≡ 3 ∷ (m.next ∷ m.rest) = ap (queue unsettled) c ∙ m.front in
    let f : 4 ∷ [] ≡ m.next ∷ m.rest = cc in
    let g : 4 ≡ m.next = cc in
    let some : 0 < times 0 (settled (at unsettled 4)) =
    subst (λ (z : ℕ). 0 < times 0 (settled (at unsettled z))) (sym g)
    (subst (λ (z : ℕ). 0 < times z (settled (at unsettled m.next))) (sym c) m.settled_next) in
    omega (arith, some)

blocked_release : IsBlockedLeaving unsettled 3 3
blocked_release = record {
  this = one_at (Recorded 3 (Leaving 0));
  request = 0;
  c = 0;
  next = 4;
  rest = [];
  due =
      record { is = refl; stage_is = refl; cown = refl };
  front = refl;
  unsettled = refl;
}

-- ---- lists that aren't lawful

-- one waits whose requests are all granted
abbrev forgotten : State
forgotten = with_stage state_34 4 (two_at (Recorded 4 Ready)) (Recorded 4 Waiting)

is_forgotten : Lawful (at forgotten) (queue forgotten) → ⊥
is_forgotten l = let e : true ≡ false = l.waiting 4 refl in cc

-- one is settled behind another that isn't flagged
abbrev hasty : State
hasty = with_stage state_18 4 (two_at (Asking 0 true)) (Recorded 3 (Flagging 0))

is_hasty : Lawful (at hasty) (queue hasty) → ⊥
is_hasty l = let e : 0 < times 0 [] = l.linked 0 [] [] 3 4 refl (lit≤ tt) in omega (arith, e)

-- one that is recorded stands behind one that isn't
is_out_of_order : Lawful (at hasty) (queue hasty) → ⊥
is_out_of_order l = l.ordered 0 [] [] [] 3 4 refl

-- one runs that isn't first in its list
abbrev early : State
early = with_stage state_33 4 (two_at (Recorded 4 Waiting)) (Recorded 4 Running)

is_early : Lawful (at early) (queue early) → ⊥
is_early l = let e : ◌≡◌ {A = Option ℕ} (Some 3) (Some 4) = l.first 4 0 refl (lit≤ tt) in
    let f : ◌≡◌ {A = ℕ} 3 4 = cc in omega (arith, f)

-- one stands in a list that it has not exchanged
is_misplaced : Lawful (at state_18) (λ c. 3 ∷ []) → ⊥
is_misplaced l = let e : times 3 (3 ∷ []) ≡ times 1 (0 ∷ []) = l.stands 3 1 in omega (arith, e)
