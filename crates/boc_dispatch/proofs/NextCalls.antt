-- At how many of its ticks a row makes its next call, by what its worker has in hand.
use Rattle.std.proofs.Common.{◌≡◌, ℕ, suc, ◌+◌, true, length, refl, sym, ◌∙◌, ap, subst, arith, add-one}
use Rattle.std.specs.Prelude.{Option, Some, None}
use Rattle.std.specs.Option.{option_map}
use Rattle.std.proofs.lemmas.Option.{slice_get_past}
use Rattle.boc_program.specs.Meaning.{Wish, meaning}
use Rattle.boc_runs.specs.Lives.{Running, Ended}
use Rattle.boc_runs.specs.Run.{Member, next_wish, wish_at}
use Rattle.boc_runs.specs.machine.Stages.{life, row_of}
use Rattle.boc_runs.specs.machine.Sound.{IsSound}
use Rattle.boc_eval.specs.Frames.{UnderWay as Framed, Ran, Means, last_of, last_wish_of, wishes_of}
use Rattle.boc_dispatch.specs.declared.worker.Due.{Due}
use Rattle.boc_dispatch.specs.declared.worker.Due.TheVariants as dues
use Rattle.boc_dispatch.specs.declared.worker.Hand.{Hand}
use Rattle.boc_dispatch.specs.declared.worker.Hand.TheVariants as hands
use Rattle.boc_dispatch.specs.Underway.{Underway}
use Rattle.boc_dispatch.specs.Calls.{IsLeaving}
use Rattle.boc_dispatch.specs.Driving.{HandFits, IsEnqueuing, IsOutcomeOf, IsWishing}
use Rattle.boc_dispatch.specs.NextCalls.{CallsAt, HasNoThought, TellsCall, TellsCallOf, call_at}
use Rattle.boc_dispatch.specs.Working.{row_in}
use Rattle.boc_dispatch.proofs.Hands.{meant, same_member}

module _ (u : Underway) where
  -- ---- a call begins

  -- the last wish of a frame that wishes is the row's next
  wish_calls : (row : ℕ) (f : Framed) (w : Wish) → IsWishing u row f → last_wish_of f ≡ Some w → CallsAt u.program u.state row w.offset
  wish_calls row f w h last =
      let own = h.may.handed in
      let next = h.may.next in
      let same : next.member ≡ own.member = same_member u row next.member own.member next.is own.is in
      let made : f.made ≡ suc own.member.spawned = next.next ∙ ap (λ (m : Member). m.spawned + 1) same ∙ add-one own.member.spawned in
      record {
        none_open = next.none_open;
        member = own.member;
        is = own.is;
        runs = own.runs;
        means = meaning f.body f.args f.inputs;
        meant = meant u.program own.member f own.body_is own.args_are own.inputs_are;
        ticks_are = ap (call_at (meaning f.body f.args f.inputs)) (sym last ∙ ap (λ k. last_of k (wishes_of f)) made);
      }

  -- it is there
  last_there : (row : ℕ) (f : Framed) (h : IsWishing u row f) → last_wish_of f ≡ Some h.wish
  last_there row f h =
      let own = h.may.handed in
      let next = h.may.next in
      let same : next.member ≡ own.member = same_member u row next.member own.member next.is own.is in
      let made : f.made ≡ suc own.member.spawned = next.next ∙ ap (λ (m : Member). m.spawned + 1) same ∙ add-one own.member.spawned in
      ap (λ k. last_of k (wishes_of f)) made
      ∙ sym (ap (next_wish u.program) own.is
      ∙ ap (λ o. wish_at o own.member.spawned) (meant u.program own.member f own.body_is own.args_are own.inputs_are)) ∙ h.next

  pub wishing_calls : (row : ℕ) (f : Framed) (call : Option ℕ) → IsWishing u row f → call ≡ option_map (λ (w : Wish). w.offset) (last_wish_of f)
      → TellsCall u.program u.state row call
  wishing_calls row f call h is =
      subst (TellsCall u.program u.state row) (sym (is ∙ ap (option_map (λ (w : Wish). w.offset)) (last_there row f h)))
      (wish_calls row f h.wish h (last_there row f h))

  -- what a body gave that has ended, and all of whose wishes were spawned
  pub end_calls : (row : ℕ) (o : Ran) → IsOutcomeOf u row o → Means o → CallsAt u.program u.state row o.ticks
  end_calls row o h means =
      let own = h.handed in
      let same : h.spawned.member ≡ own.member = same_member u row h.spawned.member own.member h.spawned.is own.is in
      let f : Framed = record { body = o.body; args = o.args; inputs = o.inputs; made = 0; ended = true } in
      let all : length (wishes_of f) ≡ own.member.spawned =
      sym means.same_wishes ∙ h.spawned.all ∙ ap (λ (m : Member). m.spawned) same in
      record {
        none_open = h.spawned.none_open;
        member = own.member;
        is = own.is;
        runs = own.runs;
        means = meaning o.body o.args o.inputs;
        meant = meant u.program own.member f own.body_is own.args_are own.inputs_are;
        ticks_are = means.same_ticks
            ∙ ap (call_at (meaning o.body o.args o.inputs)) (sym (slice_get_past (wishes_of f) own.member.spawned (omega (arith, all))));
      }

  -- ---- none begins

  enqueue_calls_not : (f : Framed) (number row ticks : ℕ) → IsEnqueuing u f number row → CallsAt u.program u.state row ticks → ⊥
  enqueue_calls_not f number row ticks h c = c.none_open number h.enqueue.is_open h.enqueue.parent

  leaving_calls_not : (row ticks : ℕ) → IsSound u.program u.state → IsLeaving u.state row → CallsAt u.program u.state row ticks → ⊥
  leaving_calls_not row ticks sound l c =
      let h = sound.fits.has_row l.who row (ap row_of l.is) in
      let ended : h.member.life ≡ Ended = h.life_is ∙ ap life l.is in
      let same : h.member ≡ c.member = same_member u row h.member c.member h.is c.is in
      let e : Ended ≡ Running = sym ended ∙ ap (λ (m : Member). m.life) same ∙ c.runs in absurd cc

  pub framed_calls_not : (h : Hand) (row : ℕ) (f : Framed) (due : Due) → h ≡ hands.Framed row f due → HandFits u h → HasNoThought h
      → (due ≡ dues.Wishing → ⊥) → TellsCallOf u.program u.state (row_in h) None
  framed_calls_not h row f due is fits thought wishes =
      subst (λ (k : Hand). TellsCallOf u.program u.state (row_in k) None) (sym is)
      (by_due due (subst (HandFits u) is fits) (subst HasNoThought is thought) wishes)
    where
      by_due : (d : Due) → HandFits u (hands.Framed row f d) → HasNoThought (hands.Framed row f d) → (d ≡ dues.Wishing → ⊥)
          → TellsCallOf u.program u.state (row_in (hands.Framed row f d)) None
      by_due dues.Going fit think wish = absurd (think tt)
      by_due dues.Wishing fit think wish = absurd (wish refl)
      by_due (dues.Enqueuing child) fit think wish = λ ticks c. enqueue_calls_not f child.number child.row ticks fit c

  pub others_call_not : (h : Hand) → IsSound u.program u.state → HandFits u h → HasNoThought h
      → ((row : ℕ) (f : Framed) (due : Due) → h ≡ hands.Framed row f due → ⊥) → ((row : ℕ) (o : Ran) → h ≡ hands.Done row o → ⊥) → TellsCallOf u.program u.state (row_in h) None
  others_call_not hands.Nothing sound fits thought framed done = refl
  others_call_not (hands.Started job) sound fits thought framed done = absurd (thought tt)
  others_call_not (hands.Framed row f due) sound fits thought framed done = absurd (framed row f due refl)
  others_call_not (hands.Done row o) sound fits thought framed done = absurd (done row o refl)
  others_call_not (hands.Leaving l) sound fits thought framed done = λ ticks c. leaving_calls_not l.row ticks sound fits c
