-- An end keeps a run beside the serial run.
use Rattle.std.proofs.Common.{◌≡◌, ◌≢◌, ℕ, zero, suc, ◌<◌, ◌≤◌, inl, inr, List, length, refl, sym, ◌∙◌, ap, subst, arith, ℤ}
use Rattle.std.specs.Prelude.{slice_get, Option, Some, None, option_map}
use Rattle.std.proofs.lemmas.Bool.{cases_lt}
use Rattle.boc_program.specs.declared.body.Body.{Body}
use Rattle.boc_program.specs.declared.body.EndStatus.{EndStatus}
use Rattle.boc_program.specs.declared.short.Input.{Input}
use Rattle.boc_program.specs.declared.program.Program.{Program}
use Rattle.boc_program.specs.Meaning.{Meaning, meaning}
use Rattle.boc_runs.specs.Serial.{after_outputs, meaning_if, serial_along}
use Rattle.boc_program.specs.Changed.{changed}
use Rattle.boc_runs.specs.Lives.{Pending, Running, Ended}
use Rattle.boc_runs.specs.Run.{Member, Config, meaning_of, values_written, values_after_end, CanEnd}
use Rattle.boc_runs.specs.machine.Queues.{times}
use Rattle.boc_program.proofs.ChangedItems.{item_at, length-changed}
use Rattle.boc_runs.proofs.Behaviours.{length-after_outputs}
use Rattle.boc_machine_laws.proofs.Lists.{same_or_not, no_less}
use Rattle.boc_machine_laws.proofs.Rows.{changed_same, changed_other}
use Rattle.boc_machine_laws.proofs.Outputs.{outputs_elsewhere, outputs_alike, take_all_of}
use Rattle.boc_machine_laws.proofs.Twins.{before_row, before_length, Twin, EndedBefore, OpenAfter, Follows, ended_not_pending, running_not_pending, twin_lives}
use Rattle.boc_machine_laws.proofs.Twins.{twins_changed, read_changed}

-- what a behaviour means, that has its inputs
meant_if : (o : Option Body) (args : List ℤ) (inputs : List Input) (means : Meaning)
    → option_map (λ body. meaning body args inputs) o ≡ Some means → meaning_if o args inputs ≡ means
meant_if None args inputs means e = absurd (let g : None ≡ Some means = e in cc)
meant_if (Some body) args inputs means e = (let g : Some (meaning body args inputs) ≡ Some means = e in cc)

-- the serial row of one that has started means what it does
pub means_same : (p : Program) (ps : List ℕ) (r : ℕ) (m : Member) (means : Meaning) (t : Twin p ps r m)
    → m.life ≢ Pending → meaning_of p m ≡ Some means → t.row.means ≡ means
means_same p ps r m means t n e =
    t.means_are ∙ ap (meaning_if (slice_get p.bodies m.behaviour.kind) m.behaviour.args) (sym (t.begun n))
    ∙ meant_if (slice_get p.bodies m.behaviour.kind) m.behaviour.args m.inputs means e

module _ (p : Program) (c : Config) (ps : List ℕ) (f : Follows p c ps) (r ticks : ℕ) (status : EndStatus)
    (written : List ℕ) (can : CanEnd p c.members r ticks status written) where
  abbrev ms : List Member
  ms = c.members

  abbrev g : Member → Member
  g = λ m. record m { life = Ended }

  abbrev new : List Member
  new = changed ms r g (slice_get ms r)

  abbrev cs : List ℕ
  cs = can.member.behaviour.cowns

  abbrev values' : List ℤ
  values' = values_after_end p c.values (slice_get ms r)

  pub mine : Twin p ps r can.member
  mine = f.twins r can.member can.is

  under_way : can.member.life ≢ Pending
  under_way = running_not_pending can.member.life can.runs

  is_member : (m : Member) → slice_get ms r ≡ Some m → can.member ≡ m
  is_member m e = let q : Some can.member ≡ Some m = sym can.is ∙ e in cc

  pub meant : mine.row.means ≡ can.means
  meant = means_same p ps r can.member can.means mine under_way can.meant

  written_now : values' ≡ after_outputs c.values cs can.means.outputs
  written_now = ap (values_after_end p c.values) can.is ∙ ap (values_written c.values cs) can.meant

  -- a later row over a cown of this one has not started
  none_later : (d : ℕ) → 0 < times d cs → (k : ℕ) (n : Member) → slice_get ms k ≡ Some n
      → 0 < times d n.behaviour.cowns → r < k → n.life ≡ Ended → ⊥
  none_later d h k n e has lt over =
      let o = f.ordered r k can.member n can.is e lt d h has (ended_not_pending n.life over) in
      let q : Running ≡ Ended = sym can.runs ∙ o in cc

  -- rows that don't have a cown leave its value
  skips : (d from to : ℕ) → from ≤ to → ((k : ℕ) (m : Member) → slice_get ms k ≡ Some m → from ≤ k → k < to
      → times d m.behaviour.cowns ≡ 0)
      → slice_get (before_row p ps from) d ≡ slice_get (before_row p ps to) d
  skips d from zero le none = (let e : from ≡ 0 = omega (arith, le) in ap (λ n. slice_get (before_row p ps n) d) e)
  skips d from (suc to) le none =
      elim (cases_lt to from) [
        | inl lt ↦ (let e : from ≡ suc to = omega (arith, le, lt) in ap (λ n. slice_get (before_row p ps n) d) e)
        | inr ge ↦ skips d from to ge (λ k m e a b. none k m e a (omega (arith, b))) ∙ elim (cases_lt to (length ps)) [
          | inl low ↦
              let x = item_at ms to (omega (arith, low, f.same)) in
              let t = f.twins to x.0 x.1 in
              sym (ap (λ vs. slice_get vs d) t.writes
              ∙ outputs_elsewhere (before_row p ps to) x.0.behaviour.cowns t.row.means.outputs d
              (none to x.0 x.1 ge (omega arith)))
          | inr high ↦ ap (λ qs. slice_get (serial_along p qs).values d)
              (take_all_of to ps high ∙ sym (take_all_of (suc to) ps (omega (arith, high))))
        ]
      ]

  -- a row over a cown that this one lacks is another, and stays
  still_there : (d : ℕ) → times d cs ≡ 0 → (k : ℕ) (m : Member) → slice_get ms k ≡ Some m
      → 0 < times d m.behaviour.cowns → slice_get new k ≡ Some m
  still_there d none k m e h =
      let other : k ≢ r = λ q. omega (
        arith,
        h,
        none,
        ap (λ (z : Member). times d z.behaviour.cowns) (is_member m (ap (slice_get ms) (sym q) ∙ e)),
      ) in
      changed_other ms r k g (slice_get ms r) other ∙ e

  end_values : (d n : ℕ) → EndedBefore new d n → OpenAfter new d n
      → slice_get values' d ≡ slice_get (before_row p ps n) d
  end_values d n over not_over =
      ap (λ vs. slice_get vs d) written_now ∙ elim (same_or_not (times d cs) 0) [
        | inl none ↦ outputs_elsewhere c.values cs can.means.outputs d none ∙ f.values_are d n
            (λ k m e h lt. over k m (still_there d none k m e h) h lt)
            (λ k m e h le. not_over k m (still_there d none k m e h) h le)
        | inr some ↦
            let h : 0 < times d cs = omega (arith, some) in
            let here : slice_get new r ≡ Some (g can.member) = changed_same ms r g ∙ ap (option_map g) can.is in
            let lt : r < n = elim (cases_lt r n) [
              | inl l ↦ l
              | inr le ↦ absurd (not_over r (g can.member) here h le refl)
            ] in
            let was : slice_get c.values d ≡ slice_get (before_row p ps r) d = f.values_are d r
            (λ k m e has l. over k m (changed_other ms r k g (slice_get ms r) (λ q. omega (arith, q, l)) ∙ e) has
            (omega (arith, l, lt)))
            (λ k m e has le z. elim (same_or_not k r) [
              | inl q ↦ let w : Running ≡ Ended = sym can.runs
                  ∙ ap (λ (x : Member). x.life) (is_member m (ap (slice_get ms) (sym q) ∙ e)) ∙ z in cc
              | inr ne ↦ none_later d h k m e has (omega (arith, le, ne)) z
            ]) in
            let now : slice_get (after_outputs c.values cs can.means.outputs) d
            ≡ slice_get (before_row p ps (suc r)) d =
            outputs_alike c.values (before_row p ps r) cs can.means.outputs d (f.many ∙ sym (before_length p ps r)) was
            ∙ ap (λ (ms : Meaning). slice_get (after_outputs (before_row p ps r) cs ms.outputs) d) (sym meant)
            ∙ ap (λ vs. slice_get vs d) (sym mine.writes) in
            now ∙ skips d (suc r) n (omega (arith, lt)) (λ k m e le l. no_less (times d m.behaviour.cowns) (λ has.
            none_later d h k m e has (omega (arith, le))
            (over k m (changed_other ms r k g (slice_get ms r) (λ q. omega (arith, q, le)) ∙ e) has l)))
      ]

  ended_twin : (m : Member) → slice_get ms r ≡ Some m → Twin p ps r (g m)
  ended_twin m e =
      let t = f.twins r m e in
      twin_lives p ps r m m.inputs Ended t
      (λ n. t.begun (subst (λ (z : Member). z.life ≢ Pending) (is_member m e) under_way))

  pub follows_end : Follows p (record { members = new; values = values' }) ps
  follows_end = record {
    same = f.same ∙ sym (length-changed ms r g (slice_get ms r));
    twins = twins_changed p ps ms r g f.twins ended_twin;
    childless = f.childless;
    ordered = λ a b m n at_a at_b lt d ha hb np. elim (read_changed ms r g a m at_a) [
      | inl w ↦ ap (λ (z : Member). z.life) (sym w.1.2)
      | inr w ↦ elim (read_changed ms r g b n at_b) [
        | inl q ↦ f.ordered a r m can.member w.1 can.is (omega (arith, lt, q.0)) d ha
            (subst (λ (z : Member). 0 < times d z.behaviour.cowns) (sym (is_member q.1.0 q.1.1))
            (subst (λ (z : Member). 0 < times d z.behaviour.cowns) (sym q.1.2) hb)) under_way
        | inr q ↦ f.ordered a b m n w.1 q.1 lt d ha hb np
      ]
    ];
    values_are = end_values;
    many = ap (length {A = ℤ}) written_now ∙ length-after_outputs c.values cs can.means.outputs ∙ f.many;
  }
