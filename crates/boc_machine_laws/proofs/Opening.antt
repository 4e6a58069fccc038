-- Open keeps what every state keeps, and the opening state has it.
use Rattle.std.proofs.Common.{◌≡◌, ℕ, ◌+◌, ◌<◌, [], ◌∷◌, length, sym, ◌∙◌, ap, subst, arith, length-append}
use Rattle.std.specs.Prelude.{slice_get, Option, Some, None}
use Rattle.std.proofs.lemmas.List.Sums.{sum_by-append}
use Rattle.boc_program.specs.declared.program.Program.{Program}
use Rattle.boc_program.specs.Meaning.{Wish}
use Rattle.boc_program.specs.Rising.{rising}
use Rattle.boc_program.specs.Programs.{cown_count}
use Rattle.boc_runs.specs.Lives.{Life}
use Rattle.boc_runs.specs.Run.{next_wish, state_of}
use Rattle.boc_runs.specs.machine.Stages.{OpenBehaviour, standing, row_of, ready_row, cowns_of, asks, waits, parent_of, offset_of}
use Rattle.boc_runs.specs.machine.Queues.{times}
use Rattle.boc_runs.specs.machine.Steps.{State, at, queue, members, unrecorded, opened, with_new, MayOpen, child}
use Rattle.boc_machine_laws.proofs.Lists.{read_past, read_pushed, read_front}
use Rattle.boc_machine_laws.proofs.Lawful.{nobody, OthersStay, kept, at_each, nowhere, waits_on}
use Rattle.boc_machine_laws.proofs.Fitting.{fits_opened}
use Rattle.boc_machine_laws.proofs.Wishes.{wish_cowns, once_in, below_all}
use Rattle.boc_machine_laws.proofs.Core.{Core, one_if}

abbrev next_at : Program → State → ℕ → Option Wish
next_at p s r = next_wish p (slice_get (members p s) r)

abbrev life_at_row : Program → State → ℕ → Option Life
life_at_row p s r = state_of (members p s) r

-- ---- a new behaviour asks

module _ (p : Program) (s : State) (k : Core p s nobody) (row : ℕ) (w : Wish) (may : MayOpen p s row w) where
  -- the state with the child behind the others
  abbrev pub newly_opened : State
  newly_opened = with_new s (child row w)

  other : OthersStay (at s) (at newly_opened) (opened s)
  other v n = read_front s.behaviours (Some (child row w)) v n

  pub new_here : at newly_opened (opened s) ≡ Some (child row w)
  new_here = read_pushed s.behaviours (Some (child row w))

  none : at s (opened s) ≡ None
  none = read_past s.behaviours (opened s) (omega arith)

  pub keeps_new : Core p newly_opened nobody
  keeps_new =
      let t = newly_opened in
      let who = opened s in
      let cowns = (wish_cowns p s.log row w k.run k.some (omega (arith, may.room)) may.runs may.next).cowns in
      let ready_same : (v : ℕ) → ready_row (at t v) ≡ ready_row (at s v) =
      kept ready_row (at s) (at t) who other (ap ready_row new_here ∙ sym (ap ready_row none)) in
      let more : opened t ≡ opened s + 1 = length-append s.behaviours (Some (child row w) ∷ []) in
      let asking : unrecorded t ≡ unrecorded s + 1 =
      sum_by-append (λ z. one_if (asks z)) s.behaviours (Some (child row w) ∷ []) in
      record {
        run = k.run;
        laws = nowhere (at s) (at t) (queue s) who k.laws other (λ c. ap (λ z. times c (standing z)) none)
            (λ c. ap (λ z. times c (standing z)) new_here)
            (λ c. omega (arith, once_in c (rising w.cowns) cowns.rise, ap (λ z. times c (cowns_of z)) new_here));
        waiting = waits_on (at s) (at t) (queue s) who nobody k.waiting other (ap waits new_here);
        fits = fits_opened p (members p s) (at s) (at t) who k.fits other none (ap row_of new_here)
            (record {
              wish = w;
              next = ap (λ z. next_at p s (parent_of z)) new_here ∙ may.next;
              offset_is = ap offset_of new_here;
              cowns_are = ap cowns_of new_here;
            })
            (ap (λ z. life_at_row p s (parent_of z)) new_here ∙ may.runs)
            (λ v h e. may.none_open v h (e ∙ ap parent_of new_here));
        queues_are = k.queues_are;
        in_range = λ v c. at_each (λ u z. 0 < times c (cowns_of z) → c < length s.queues) (at s) (at t) who other
            (λ h. omega (
              arith,
              k.queues_are,
              below_all (cown_count p.cowns) c (rising w.cowns) cowns.below
                  (subst (λ (z : Option OpenBehaviour). 0 < times c (cowns_of z)) new_here h),
            )) (λ u n. k.in_range u c) v;
        ready_once = λ v q h. k.ready_once v q (sym (ready_same v) ∙ h);
        ready_only = λ q h. let o = k.ready_only q h in (o.0, ready_same o.0 ∙ o.1);
        some = k.some;
        counted = omega (arith, k.counted, more, asking);
        few = omega (arith, k.counted, may.room, more);
      }
