-- Swap and Settle keep what every state keeps.
use Rattle.std.proofs.Common.{◌≡◌, ◌≢◌, ℕ, zero, suc, ◌+◌, ◌<◌, ◌≤◌, Bool, true, false, cond, List, [], ◌∷◌, ◌++◌, length, take, refl, sym, ◌∙◌, ap, subst}
use Rattle.std.proofs.Common.{arith, rules, length-append, get_or-set_other, get_or-set_same, length-set}
use Rattle.std.specs.Prelude.{slice_get, Option, Some, None}
use Rattle.boc_program.specs.declared.program.Program.{Program}
use Rattle.boc_runs.specs.declared.event.Event.{Event}
use Rattle.boc_runs.specs.declared.event.Event.TheVariants as events
use Rattle.boc_runs.specs.declared.stage.Phase.{Phase}
use Rattle.boc_runs.specs.declared.stage.Phase.TheVariants.{Flagging, Owning}
use Rattle.boc_runs.specs.declared.stage.Stage.{Stage}
use Rattle.boc_runs.specs.declared.stage.Stage.TheVariants.{Asking, Recorded}
use Rattle.boc_program.specs.Meaning.{Wish}
use Rattle.boc_program.specs.Rising.{rising}
use Rattle.boc_program.specs.Changed.{changed}
use Rattle.boc_runs.specs.Lives.{Pending, Running}
use Rattle.boc_runs.specs.Serial.{behaviour_of}
use Rattle.boc_runs.specs.Run.{Member, Config, config_of, opening, waiting, next_wish, state_of, MayHappen}
use Rattle.boc_runs.specs.machine.Stages.{OpenBehaviour, standing, standing_at, settled, settled_at, flagged, flagged_at, row_of, row_at, ready_row}
use Rattle.boc_runs.specs.machine.Stages.{ready_row_at, holds, holds_at, cowns_of, life, life_at, asks, asks_at, enqueues, enqueues_at, waits, waits_at}
use Rattle.boc_runs.specs.machine.Stages.{parent_of, offset_of}
use Rattle.boc_runs.specs.machine.Queues.{times}
use Rattle.boc_runs.specs.machine.Steps.{State, at, queue, members, recorded, unrecorded, with_stage, with_queue, with_spawn, flagging, IsDue}
use Rattle.boc_runs.specs.machine.Sound.{Fits}
use Rattle.boc_program.proofs.ChangedItems.{place_below, length-changed}
use Rattle.boc_machine_laws.proofs.Lists.{times-here, times-other, times-append}
use Rattle.boc_machine_laws.proofs.Lawful.{nobody, OthersStay, exchange, relabel, ordered_kept, ordered_recorded, waits_on, waits_exchange, standing_le}
use Rattle.boc_machine_laws.proofs.Rows.{config_more, run_more, after_spawn, may_spawn, with_one_more}
use Rattle.boc_machine_laws.proofs.Fitting.{goes_on_at, fits_on, fits_recorded, with_child, asks_enqueues, asks_enqueues_at}
use Rattle.boc_machine_laws.proofs.Core.{Core, put_here, put_others, range_kept, once_kept, only_kept, opened_kept, asks_sum, core_on, one_if}

-- ---- the first cowns of a list

pub taken_here : (cs : List ℕ) (i c : ℕ) → slice_get cs i ≡ Some c → times c (take (suc i) cs) ≡ times c (take i cs) + 1
taken_here [] i c e = absurd (let f : None ≡ Some c = e in cc)
taken_here (d ∷ cs) zero c e =
    let is : d ≡ c = (let f : Some d ≡ Some c = e in cc) in
    ap (λ z. times c (z ∷ [])) is ∙ times-here c []
taken_here (d ∷ cs) (suc i) c e = omega (arith, taken_here cs i c e)

pub taken_there : (cs : List ℕ) (i c d : ℕ) → slice_get cs i ≡ Some c → d ≢ c
    → times d (take (suc i) cs) ≡ times d (take i cs)
taken_there [] i c d e n = absurd (let f : None ≡ Some c = e in cc)
taken_there (x ∷ cs) zero c d e n =
    let is : x ≡ c = (let f : Some x ≡ Some c = e in cc) in
    times-other d x [] (λ h. n (sym h ∙ is))
taken_there (x ∷ cs) (suc i) c d e n = omega (arith, taken_there cs i c d e n)

pub taken_more : (cs : List ℕ) (i c : ℕ) → times c (take i cs) ≤ times c (take (suc i) cs)
taken_more [] zero c = omega arith
taken_more [] (suc i) c = omega arith
taken_more (x ∷ cs) zero c = omega arith
taken_more (x ∷ cs) (suc i) c = omega (arith, taken_more cs i c)

pub among : (cs : List ℕ) (i c : ℕ) → slice_get cs i ≡ Some c → 0 < times c cs
among [] i c e = absurd (let f : None ≡ Some c = e in cc)
among (d ∷ cs) zero c e =
    let is : d ≡ c = (let f : Some d ≡ Some c = e in cc) in
    omega (arith, ap (λ z. times c (z ∷ cs)) is, times-here c cs)
among (d ∷ cs) (suc i) c e = omega (arith, among cs i c e)

-- with distinct cowns, the one at a place isn't among those before it
pub fresh_at : (cs : List ℕ) (i c : ℕ) → slice_get cs i ≡ Some c → times c cs ≤ 1 → times c (take i cs) ≡ 0
fresh_at [] i c e h = absurd (let f : None ≡ Some c = e in cc)
fresh_at (d ∷ cs) zero c e h = refl
fresh_at (d ∷ cs) (suc i) c e h =
    let m = among cs i c e in
    let r = fresh_at cs i c e (omega arith) in
    omega arith

pub take_whole : (cs : List ℕ) (i : ℕ) → length cs ≤ i → take i cs ≡ cs
take_whole [] zero h = refl
take_whole [] (suc i) h = refl
take_whole (c ∷ cs) zero h = absurd (omega arith)
take_whole (c ∷ cs) (suc i) h = ap (λ zs. c ∷ zs) (take_whole cs i (omega arith))

-- ---- Swap

module _ (p : Program) (s : State) (k : Core p s nobody) (who : ℕ) (b : OpenBehaviour) (i c : ℕ)
    (due : IsDue s who b (Asking i false) i c) where
  abbrev pub after_swap : State
  after_swap = with_queue (with_stage s who b (Asking i true)) c (queue s c ++ (who ∷ []))

  pub keeps_swap : Core p after_swap nobody
  keeps_swap =
      let t = after_swap in
      let b' : OpenBehaviour = record b { stage = Asking i true } in
      let other : OthersStay (at s) (at t) who = put_others s who (Some b') in
      let is' : at t who ≡ Some b' = put_here s who b (Some b') due.is in
      let small : c < length s.queues = k.in_range who c
      (subst (λ (z : Option OpenBehaviour). 0 < times c (cowns_of z)) (sym due.is) (among b.cowns i c due.cown)) in
      let stand : standing (at s who) ≡ take i b.cowns = ap standing due.is
      ∙ ap (λ z. standing_at z b.cowns) due.stage_is in
      let stand' : standing (at t who) ≡ take (suc i) b.cowns = ap standing is' in
      let set : settled (at s who) ≡ take i b.cowns = ap settled due.is ∙ ap (λ z. settled_at z b.cowns) due.stage_is in
      let once : times c b.cowns ≤ 1 = subst (λ (z : Option OpenBehaviour). times c (cowns_of z) ≤ 1) due.is
      (k.laws.once who c) in
      let no_row : row_of (at s who) ≡ None = ap row_of due.is ∙ ap row_at due.stage_is in
      let no_row' : row_of (at t who) ≡ None = ap row_of is' in
      let cowns : cowns_of (at t who) ≡ cowns_of (at s who) = ap cowns_of is' ∙ sym (ap cowns_of due.is) in
      let asks_same : asks (Some b') ≡ asks (Some b) = sym (ap asks_at due.stage_is) in
      let ready_same : ready_row (Some b') ≡ ready_row (Some b) = sym (ap ready_row_at due.stage_is) in
      let longer : queue t c ≡ queue s c ++ (who ∷ []) =
      get_or-set_same s.queues c (queue s c ++ (who ∷ [])) [] small in
      let elsewhere : (d : ℕ) → d ≢ c → queue t d ≡ queue s d =
      λ d n. get_or-set_other s.queues c d (queue s c ++ (who ∷ [])) [] n in
      let long : length t.queues ≡ length s.queues = length-set s.queues c (queue s c ++ (who ∷ [])) in
      core_on p s nobody k who b (Some b') due.is t.queues nobody long asks_same ready_same (λ d h. h)
      (exchange (at s) (at t) (queue s) (queue t) who c k.laws (record {
        longer = longer;
        here = ap (times c) stand' ∙ taken_here b.cowns i c due.cown ∙ ap (λ z. times c z + 1) (sym stand);
        moves = record {
          other = other;
          elsewhere = elsewhere;
          there = λ d n. ap (times d) stand' ∙ taken_there b.cowns i c d due.cown n ∙ ap (times d) (sym stand);
          cowns = cowns;
          settled_same = ap settled is' ∙ sym set;
          flagged_same = ap flagged is' ∙ sym (ap flagged due.is ∙ ap (λ z. flagged_at z b.cowns) due.stage_is);
          row_same = no_row' ∙ sym no_row;
        };
        not_settled = ap (times c) set ∙ fresh_at b.cowns i c due.cown once;
        no_row = no_row;
        holds_not = ap holds is';
      }))
      (waits_exchange (at s) (at t) (queue s) (queue t) who c nobody k.waiting other longer elsewhere
      (ap waits is'))
      (fits_on p (members p s) (at s) (at t) who k.fits other (goes_on_at b (Asking i false) (Asking i true) (at s who)
      (at t who) due.is due.stage_is is' refl refl (λ h. h) (λ h. h)))

-- ---- settled, with more to ask for

-- whoever stands in a list has that cown
pub stood : (p : Program) (s : State) (but : ℕ → Type 0) (who : ℕ) → Core p s but
    → (d : ℕ) (ahead behind : List ℕ) (x : ℕ) → queue s d ≡ ahead ++ (x ∷ (who ∷ behind))
    → 0 < times d (cowns_of (at s who))
stood p s but who k d ahead behind x e =
    omega (
      arith,
      k.laws.stands who d,
      standing_le d (at s who),
      ap (times who) e,
      times-append who ahead (x ∷ (who ∷ behind)),
      times-here who behind,
    )

-- a behaviour that asks, and stands for its first n requests, where those before them are flagged
pub record AsksOn (s : State) (who : ℕ) (b : OpenBehaviour) (n : ℕ) : Type 0 where
  pub is : at s who ≡ Some b
  pub asks_is : asks_at b.stage ≡ true
  pub stands : standing_at b.stage b.cowns ≡ take n b.cowns
  pub free : (d : ℕ) (ahead behind : List ℕ) (x : ℕ) → queue s d ≡ ahead ++ (x ∷ (who ∷ behind))
      → 0 < times d (take n b.cowns) → 0 < times d (flagged (at s x))

-- what a stage says of one that asks
asks_stage : (st : Stage) → asks_at st ≡ true → (i : ℕ) × (e : Bool) × (st ≡ Asking i e)
asks_stage (Asking i e) h = (i, e, refl)
asks_stage (Recorded r ph) h = absurd (let f : false ≡ true = h in cc)

asks_row : (st : Stage) → asks_at st ≡ true → row_at st ≡ None
asks_row st h = ap row_at (asks_stage st h).2

asks_life : (st : Stage) → asks_at st ≡ true → life_at st ≡ Pending
asks_life st h = ap life_at (asks_stage st h).2

asks_ready : (st : Stage) → asks_at st ≡ true → ready_row_at st ≡ None
asks_ready st h = ap ready_row_at (asks_stage st h).2

asks_flagged : (st : Stage) (cs : List ℕ) → asks_at st ≡ true → flagged_at st cs ≡ []
asks_flagged st cs h = ap (λ z. flagged_at z cs) (asks_stage st h).2

module _ (p : Program) (s : State) (k : Core p s nobody) (who : ℕ) (b : OpenBehaviour) (n : ℕ)
    (a : AsksOn s who b n) where
  -- no request of it is flagged yet
  unflagged : (d : ℕ) → times d (flagged (at s who)) ≡ 0
  unflagged d = ap (times d) (ap flagged a.is ∙ asks_flagged b.stage b.cowns a.asks_is)

  pub keeps_asking : Core p (with_stage s who b (Asking n false)) nobody
  keeps_asking =
      let t = with_stage s who b (Asking n false) in
      let b' : OpenBehaviour = record b { stage = Asking n false } in
      let other : OthersStay (at s) (at t) who = put_others s who (Some b') in
      let is' : at t who ≡ Some b' = put_here s who b (Some b') a.is in
      let rows_same : row_of (at t who) ≡ row_of (at s who) = ap row_of is'
      ∙ sym (ap row_of a.is ∙ asks_row b.stage a.asks_is) in
      let cowns : cowns_of (at t who) ≡ cowns_of (at s who) = ap cowns_of is' ∙ sym (ap cowns_of a.is) in
      let asks_same : asks (Some b') ≡ asks (Some b) = sym a.asks_is in
      let ready_same : ready_row (Some b') ≡ ready_row (Some b) = sym (asks_ready b.stage a.asks_is) in
      core_on p s nobody k who b (Some b') a.is s.queues nobody refl asks_same ready_same (λ d h. h)
      (relabel (at s) (at t) (queue s) who k.laws other
      (λ d. ap (times d) (ap standing is' ∙ sym (ap standing a.is ∙ a.stands)))
      cowns
      (λ d ahead behind x e h. a.free d ahead behind x e
      (subst (λ (cs : List ℕ). 0 < times d cs) (ap settled is') h))
      (λ d h. absurd (let f = unflagged d in omega arith))
      (ordered_kept (at s) (at t) (queue s) who k.laws other rows_same)
      (λ d h. absurd (let f : false ≡ true = sym (ap holds is') ∙ h in cc)))
      (waits_on (at s) (at t) (queue s) who nobody k.waiting other (ap waits is'))
      (fits_on p (members p s) (at s) (at t) who k.fits other (goes_on_at b b.stage (Asking n false) (at s who)
      (at t who) a.is refl is' (sym (asks_row b.stage a.asks_is)) (sym (asks_life b.stage a.asks_is)) (λ h. a.asks_is)
      (λ h. asks_enqueues_at b.stage a.asks_is)))

-- ---- the spawn is recorded

-- a phase of an enqueue that goes on once the spawn is recorded
pub record IsEnqueuing (ph : Phase) : Type 0 where
  pub stand : (r : ℕ) (cs : List ℕ) → standing_at (Recorded r ph) cs ≡ cs
  pub life_is : (r : ℕ) → life_at (Recorded r ph) ≡ Pending
  pub holds_not : (r : ℕ) → holds_at (Recorded r ph) ≡ false
  pub waits_not : (r : ℕ) → waits_at (Recorded r ph) ≡ false
  pub ready_not : (r : ℕ) → ready_row_at (Recorded r ph) ≡ None
  pub enqueued : (r : ℕ) → enqueues_at (Recorded r ph) ≡ true

flags_enqueuing : (i : ℕ) → IsEnqueuing (Flagging i)
flags_enqueuing i = search rules

owns_enqueuing : IsEnqueuing Owning
owns_enqueuing = search rules

either_enqueuing : (b : Bool) (i : ℕ) → IsEnqueuing (cond b (Flagging i) Owning)
either_enqueuing true i = flags_enqueuing i
either_enqueuing false i = owns_enqueuing

pub flagging_enqueuing : (cs : List ℕ) (i : ℕ) → IsEnqueuing (flagging cs i)
flagging_enqueuing cs i = either_enqueuing _ i

module _ (p : Program) (s : State) (k : Core p s nobody) (who : ℕ) (b : OpenBehaviour) (n : ℕ) (a : AsksOn s who b n)
    (all : length b.cowns ≤ n) where
  abbrev pub row : ℕ
  row = recorded p s

  abbrev pub phase : Phase
  phase = flagging b.cowns 0

  abbrev pub spawn : Event
  spawn = events.Spawn row b.parent b.offset (record { items = b.cowns })

  abbrev pub spawned : State
  spawned = with_spawn p s who b

  abbrev pub b' : OpenBehaviour
  b' = record b { stage = Recorded row phase }

  asked : asks (at s who) ≡ true
  asked = ap asks a.is ∙ a.asks_is

  other : OthersStay (at s) (at spawned) who
  other = put_others s who (Some b')

  is' : at spawned who ≡ Some b'
  is' = put_here s who b (Some b') a.is

  pub wished : (w : Wish) × (next_wish p (slice_get (members p s) b.parent) ≡ Some w) × (b.offset ≡ w.offset)
      × (b.cowns ≡ rising w.cowns)
  wished =
      let w = k.fits.asking who asked in (
        w.wish,
        ap (λ q. next_wish p (slice_get (members p s) q)) (sym (ap parent_of a.is))
            ∙ w.next,
        sym (ap offset_of a.is) ∙ w.offset_is,
        sym (ap cowns_of a.is) ∙ w.cowns_are,
      )

  parent_runs : state_of (members p s) b.parent ≡ Some Running
  parent_runs = ap (state_of (members p s)) (sym (ap parent_of a.is))
      ∙ k.fits.parents who (asks_enqueues (at s who) asked)

  -- the rows now
  pub members_now : members p spawned ≡ with_child (members p s) b.parent wished.0
  members_now = ap (λ (c : Config). c.members) (config_more p (opening p) s.log spawn)
      ∙ after_spawn p (members p s) b.parent wished.0 k.some wished.1

  pub recorded_now : recorded p spawned ≡ recorded p s + 1
  recorded_now =
      omega (
        arith,
        ap length members_now,
        length-append
            (changed (members p s) b.parent with_one_more (slice_get (members p s) b.parent))
            (waiting (behaviour_of wished.0) ∷ []),
        length-changed (members p s) b.parent with_one_more (slice_get (members p s) b.parent),
      )

  -- one that asks is one of those counted
  asking_some : unrecorded spawned + 1 ≡ unrecorded s
  asking_some =
      let e = asks_sum p s nobody k who b (Some b') a.is in
      let f : one_if (asks (Some b)) ≡ one_if true = ap one_if a.asks_is in
      omega (arith, e, f)

  pub may_record : MayHappen p (config_of p s.log) spawn
  may_record = (
    refl,
    omega (arith, k.counted, k.few, asking_some),
    may_spawn p (members p s) b.parent b.offset b.cowns k.some
        (record { runs = parent_runs; wish = wished.0; next = wished.1; offset_is = wished.2; cowns_are = wished.3 }),
  )

  pub keeps_recording : Core p spawned nobody
  keeps_recording =
      let t = spawned in
      let e = flagging_enqueuing b.cowns 0 in
      let whole : take n b.cowns ≡ b.cowns = take_whole b.cowns n all in
      let no_row : row_of (at s who) ≡ None = ap row_of a.is ∙ asks_row b.stage a.asks_is in
      let row_is : row_of (at t who) ≡ Some row = ap row_of is' in
      let cowns : cowns_of (at t who) ≡ cowns_of (at s who) = ap cowns_of is' ∙ sym (ap cowns_of a.is) in
      let parent : parent_of (at t who) ≡ parent_of (at s who) = ap parent_of is' ∙ sym (ap parent_of a.is) in
      let ready_same : ready_row (Some b') ≡ ready_row (Some b) = e.ready_not row
      ∙ sym (asks_ready b.stage a.asks_is) in
      let next_here : next_wish p (slice_get (members p s) (parent_of (at s who))) ≡ Some wished.0 =
      ap (λ q. next_wish p (slice_get (members p s) q)) (ap parent_of a.is) ∙ wished.1 in
      let rows_now : members p t ≡ with_child (members p s) (parent_of (at s who)) wished.0 = members_now
      ∙ ap (λ q. with_child (members p s) q wished.0) (sym (ap parent_of a.is)) in
      let free : (d : ℕ) (ahead behind : List ℕ) (x : ℕ) → queue s d ≡ ahead ++ (x ∷ (who ∷ behind))
      → 0 < times d (flagged (at s x)) =
      λ d ahead behind x f. a.free d ahead behind x f
      (subst (λ (cs : List ℕ). 0 < times d cs) (ap cowns_of a.is ∙ sym whole)
      (stood p s nobody who k d ahead behind x f)) in
      record {
        run = run_more p (opening p) s.log spawn k.run may_record;
        laws = relabel (at s) (at t) (queue s) who k.laws other
            (λ d. ap (times d) (ap standing is' ∙ e.stand row b.cowns ∙ sym (ap standing a.is ∙ a.stands ∙ whole)))
            cowns
            (λ d ahead behind x f h. free d ahead behind x f)
            (λ d h. absurd (let f : times d (flagged (at s who)) ≡ 0 =
            ap (times d) (ap flagged a.is ∙ asks_flagged b.stage b.cowns a.asks_is) in omega arith))
            (ordered_recorded (at s) (at t) (queue s) who row k.laws other no_row row_is
            (λ v r f. let x = k.fits.has_row v r f in place_below (members p s) r x.member x.is)
            free)
            (λ d h. absurd (let f : false ≡ true = sym (ap holds is' ∙ e.holds_not row) ∙ h in cc));
        waiting = waits_on (at s) (at t) (queue s) who nobody k.waiting other (ap waits is' ∙ e.waits_not row);
        fits = subst (λ (rows : List Member). Fits p rows (at t)) (sym rows_now)
            (fits_recorded p (members p s) (at s) (at t) who wished.0 k.fits other (record {
              asked = asked;
              row = row_is;
              pending = ap life is' ∙ e.life_is row;
              cowns = cowns;
              parent = parent;
              asks_not = ap asks is';
              enqueues_still = ap enqueues is' ∙ e.enqueued row;
            }) next_here);
        queues_are = k.queues_are;
        in_range = range_kept p s nobody k who b (Some b') a.is (λ f g. g);
        ready_once = once_kept p s nobody k who b (Some b') a.is ready_same;
        ready_only = only_kept p s nobody k who b (Some b') a.is ready_same;
        some = omega (arith, recorded_now);
        counted = omega (arith, k.counted, recorded_now, asking_some, opened_kept p s nobody k who b (Some b') a.is);
        few = omega (arith, k.few, opened_kept p s nobody k who b (Some b') a.is);
      }
