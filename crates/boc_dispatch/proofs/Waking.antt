-- Steps of the machine that may be made in either order: one behaviour goes on or is gone, and another is woken.
use Rattle.std.proofs.Common.{◌≡◌, ◌≢◌, ℕ, Bool, true, false, cond, length, refl, sym, ◌∙◌, ap, get_or-set_other}
use Rattle.std.specs.Prelude.{nat_lt, Option, Some, None}
use Rattle.std.proofs.lemmas.List.{set_comm}
use Rattle.boc_runs.specs.declared.stage.Phase.TheVariants as phases
use Rattle.boc_runs.specs.declared.stage.Stage.{Stage}
use Rattle.boc_runs.specs.declared.stage.Stage.TheVariants.{Recorded}
use Rattle.boc_runs.specs.machine.Stages.{OpenBehaviour, settled, cowns_of}
use Rattle.boc_runs.specs.machine.Queues.{all_granted}
use Rattle.boc_runs.specs.machine.Steps.{State, at, queue, with_behaviour, with_stage, made_ready, leaving_on, woken, woken_at, woken_if}
use Rattle.boc_machine_laws.proofs.Lawful.{regranted}
use Rattle.boc_dispatch.proofs.Granting.{with_behaviours}

module _ (s : State) (who : ℕ) (b' : Option OpenBehaviour) (w : ℕ) (apart : w ≢ who) where
  same_at : at (with_behaviour s who b') w ≡ at s w
  same_at = get_or-set_other s.behaviours who w b' None apart

  ready_either : (x : OpenBehaviour) (r : ℕ) → with_behaviour (made_ready s w x r) who b' ≡ made_ready (with_behaviour s who b') w x r
  ready_either x r =
      ap (with_behaviours (with_behaviour (made_ready s w x r) who b'))
      (set_comm s.behaviours w who (Some (record x { stage = Recorded r phases.Ready })) b' apart)

  by_grant : (g : Bool) (x : OpenBehaviour) (r : ℕ) → with_behaviour (cond g (made_ready s w x r) s) who b'
      ≡ cond g (made_ready (with_behaviour s who b') w x r) (with_behaviour s who b')
  by_grant true x r = ready_either x r
  by_grant false x r = refl

  same_grant : all_granted (at (with_behaviour s who b')) (queue (with_behaviour s who b')) w ≡ all_granted (at s) (queue s) w
  same_grant = regranted (at s) (at (with_behaviour s who b')) (queue s) w (ap settled same_at) (ap cowns_of same_at)

  by_stage : (x : OpenBehaviour) (st : Stage) → with_behaviour (woken_at s w x st) who b' ≡ woken_at (with_behaviour s who b') w x st
  by_stage x (Recorded r phases.Waiting) =
      by_grant (all_granted (at s) (queue s) w) x r ∙ ap (λ g. cond g (made_ready (with_behaviour s who b') w x r) (with_behaviour s who b')) (sym same_grant)
  by_stage x _ = refl

  by_place : (o : Option OpenBehaviour) → with_behaviour (woken_if s w o) who b' ≡ woken_if (with_behaviour s who b') w o
  by_place None = refl
  by_place (Some x) = by_stage x x.stage

  -- one is put in place before another is woken, or after
  pub woken_either : with_behaviour (woken s w) who b' ≡ woken (with_behaviour s who b') w
  woken_either = by_place (at s w) ∙ ap (woken_if (with_behaviour s who b') w) (sym same_at)

-- whoever leaves goes on before another is woken, or after
pub leaving_either : (s : State) (who : ℕ) (b : OpenBehaviour) (row request w : ℕ) → w ≢ who
    → leaving_on (woken s w) who b row request ≡ woken (leaving_on s who b row request) w
leaving_either s who b row request w apart = by_test (nat_lt request (length b.cowns))
  where
    by_test : (t : Bool) → cond t (with_stage (woken s w) who b (Recorded row (phases.Leaving request))) (with_behaviour (woken s w) who None)
        ≡ woken (cond t (with_stage s who b (Recorded row (phases.Leaving request))) (with_behaviour s who None)) w
    by_test true = woken_either s who (Some (record b { stage = Recorded row (phases.Leaving request) })) w apart
    by_test false = woken_either s who None w apart

-- the lists stay where one leaves
pub queue_leaving : (s : State) (who : ℕ) (b : OpenBehaviour) (row request c : ℕ) → queue (leaving_on s who b row request) c ≡ queue s c
queue_leaving s who b row request c = by_test (nat_lt request (length b.cowns))
  where
    by_test : (t : Bool) → queue (cond t (with_stage s who b (Recorded row (phases.Leaving request))) (with_behaviour s who None)) c ≡ queue s c
    by_test true = refl
    by_test false = refl
