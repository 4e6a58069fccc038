-- A start keeps a run beside the serial run.
use Rattle.std.proofs.Common.{◌≡◌, ℕ, ◌<◌, inl, inr, List, sym, ◌∙◌, ap, subst, arith}
use Rattle.std.specs.Prelude.{slice_get, Some, option_map}
use Rattle.boc_program.specs.declared.program.Program.{Program}
use Rattle.boc_runs.specs.Serial.{inputs_of}
use Rattle.boc_program.specs.Changed.{changed}
use Rattle.boc_runs.specs.Lives.{Pending, Running, Ended, MayStart, Overlap}
use Rattle.boc_runs.specs.Run.{Member, Config, started_on, state_of, member_cowns}
use Rattle.boc_runs.specs.machine.Queues.{times}
use Rattle.boc_program.proofs.ChangedItems.{length-changed}
use Rattle.boc_machine_laws.proofs.Lists.{same_or_not}
use Rattle.boc_machine_laws.proofs.Rows.{changed_same, changed_other, life_there}
use Rattle.boc_machine_laws.proofs.Outputs.{inputs_alike}
use Rattle.boc_machine_laws.proofs.Twins.{before_row, Twin, EndedBefore, OpenAfter, Follows, over_if, ended_not_pending, twin_lives, twins_changed}
use Rattle.boc_machine_laws.proofs.Twins.{read_changed}
use Rattle.boc_machine_laws.proofs.Twins.{has_cown}

module _ (p : Program) (c : Config) (ps : List ℕ) (f : Follows p c ps) (r : ℕ)
    (may : MayStart (state_of c.members) (member_cowns c.members) r) where
  abbrev ms : List Member
  ms = c.members

  abbrev g : Member → Member
  g = started_on c.values

  abbrev new : List Member
  new = changed ms r g (slice_get ms r)

  waits_now : (m : Member) → slice_get ms r ≡ Some m → m.life ≡ Pending
  waits_now m e = let q : Some m.life ≡ Some Pending = sym (life_there ms r m e) ∙ may.waits in cc

  -- an earlier row over a cown of this one has ended
  ended_before : (m : Member) → slice_get ms r ≡ Some m → (d : ℕ) → 0 < times d m.behaviour.cowns → EndedBefore ms d r
  ended_before m e d h k n at_k has lt =
      let share : Overlap (member_cowns ms) r k = (d, has_cown ms r m d e h, has_cown ms k n d at_k has) in
      over_if n.life (λ q. may.none_earlier k lt (life_there ms k n at_k ∙ ap (λ l. Some l) q) share)
      (λ q. may.none_running k (life_there ms k n at_k ∙ ap (λ l. Some l) q) share)

  -- and no other has
  open_after : (m : Member) → slice_get ms r ≡ Some m → (d : ℕ) → 0 < times d m.behaviour.cowns → OpenAfter ms d r
  open_after m e d h k n at_k has le over =
      elim (same_or_not k r) [
        | inl q ↦ let w = waits_now n (ap (slice_get ms) (sym q) ∙ at_k) in ended_not_pending n.life over w
        | inr ne ↦
            let o = f.ordered r k m n e at_k (omega (arith, le, ne)) d h has (ended_not_pending n.life over) in
            ended_not_pending m.life o (waits_now m e)
      ]

  inputs_now : (m : Member) → slice_get ms r ≡ Some m
      → inputs_of m.behaviour.cowns c.values ≡ inputs_of m.behaviour.cowns (before_row p ps r)
  inputs_now m e = inputs_alike m.behaviour.cowns c.values (before_row p ps r)
      (λ d h. f.values_are d r (ended_before m e d h) (open_after m e d h))

  start_twin : (m : Member) → slice_get ms r ≡ Some m → Twin p ps r (g m)
  start_twin m e =
      let t = f.twins r m e in
      twin_lives p ps r m (inputs_of m.behaviour.cowns c.values) Running t (λ n. inputs_now m e ∙ sym t.inputs_are)

  pub follows_start : Follows p (record c { members = new }) ps
  follows_start = record {
    same = f.same ∙ sym (length-changed ms r g (slice_get ms r));
    twins = twins_changed p ps ms r g f.twins start_twin;
    childless = f.childless;
    ordered = λ a b m n at_a at_b lt d ha hb np. elim (read_changed ms r g b n at_b) [
      | inl q ↦ elim (read_changed ms r g a m at_a) [
        | inl w ↦ absurd (omega (arith, lt, q.0, w.0))
        | inr w ↦ ended_before q.1.0 q.1.1 d
            (subst (λ (z : Member). 0 < times d z.behaviour.cowns) (sym q.1.2) hb) a m w.1 ha (omega (arith, lt, q.0))
      ]
      | inr q ↦ elim (read_changed ms r g a m at_a) [
        | inl w ↦
            let o = f.ordered r b w.1.0 n w.1.1 q.1 (omega (arith, lt, w.0)) d
            (subst (λ (z : Member). 0 < times d z.behaviour.cowns) (sym w.1.2) ha) hb np in
            absurd (ended_not_pending w.1.0.life o (waits_now w.1.0 w.1.1))
        | inr w ↦ f.ordered a b m n w.1 q.1 lt d ha hb np
      ]
    ];
    values_are = λ d n over not_over. f.values_are d n
        (λ k m e h lt. elim (same_or_not k r) [
          | inl q ↦ absurd (let o : Running ≡ Ended =
              over k (g m) (ap (slice_get new) q ∙ changed_same ms r g
              ∙ ap (option_map g) (ap (slice_get ms) (sym q) ∙ e)) h lt in cc)
          | inr ne ↦ over k m (changed_other ms r k g (slice_get ms r) ne ∙ e) h lt
        ])
        (λ k m e h le. elim (same_or_not k r) [
          | inl q ↦ (λ z. ended_not_pending m.life z (waits_now m (ap (slice_get ms) (sym q) ∙ e)))
          | inr ne ↦ not_over k m (changed_other ms r k g (slice_get ms r) ne ∙ e) h le
        ]);
    many = f.many;
  }
