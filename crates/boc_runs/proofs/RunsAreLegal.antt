-- A run of a program keeps the rules of runs, over as many cowns as the program has.
use Rattle.std.proofs.Common.{◌≡◌, ℕ, zero, suc, ◌+◌, ◌^◌, ◌<◌, ◌≤◌, inl, inr, List, [], ◌∷◌, ◌++◌, length, map, Some, None, true, refl, sym, ap, subst, ◌∙◌}
use Rattle.std.proofs.Common.{arith, ℤ}
use Rattle.std.specs.Prelude.{slice_get, slice_set, slice_index_or, nat_eq, Option, option_map, IsTrue}
use Rattle.std.specs.Option.{option_map_or}
use Rattle.std.specs.List.{All, Contains}
use Rattle.std.specs.List.Sorted.{IsStrictlyIncreasing}
use Rattle.std.proofs.Math.ListN.{length-append}
use Rattle.std.proofs.lemmas.Bool.{cases_eq, cases_lt, eqb-true}
use Rattle.std.proofs.lemmas.List.{length-map, length-set}
use Rattle.boc_program.specs.declared.limits.TheConstants.{MOST_ROWS, MOST_TICKS, MOST_COWNS, MOST_HELD}
use Rattle.boc_program.specs.declared.body.Body.{Body}
use Rattle.boc_program.specs.declared.body.EndStatus.{EndStatus}
use Rattle.boc_program.specs.declared.program.Program.{Program}
use Rattle.boc_program.specs.declared.short.Input.{Input}
use Rattle.arrayvec.specs.ArrayVec.{ArrayVec}
use Rattle.boc_runs.specs.declared.event.Event.{Event}
use Rattle.boc_runs.specs.declared.event.Event.TheVariants.{Spawn, Start, End}
use Rattle.boc_runs.specs.declared.event.BrokenRule.{BrokenRule}
use Rattle.boc_runs.specs.declared.event.BrokenRule.TheVariants as rules
use Rattle.boc_program.specs.Meaning.{Wish, Meaning, meaning, cowns_held}
use Rattle.boc_program.specs.Offsets.{RisesFrom}
use Rattle.boc_program.specs.Rising.{rising}
use Rattle.boc_program.specs.Programs.{cown_count, has_main}
use Rattle.boc_program.specs.Signatures.{Signature, signature_of, CountsAre, AllBelow, WishFits, WishesFit, calls_fit}
use Rattle.boc_runs.specs.Serial.{Behaviour, behaviour_of, main_behaviour, inputs_of}
use Rattle.boc_program.specs.Changed.{changed}
use Rattle.boc_runs.specs.Lives.{Life, Pending, Running, Ended, Overlap, MayStart}
use Rattle.boc_program.specs.Cowns.{AreCowns}
use Rattle.boc_runs.specs.Legal.{Entry, HasBounds, pending, after, life_of, entry_cowns, last_of}
use Rattle.boc_runs.specs.Legal.{IsParent, IsOffset, MayNeed, MayEnd, KeepsRule, IsAllowed, after_all, entries}
use Rattle.boc_runs.specs.Legal.{IsLegalFrom, IsLegal}
use Rattle.boc_runs.specs.Run.{Member, Config, waiting, meaning_of, wish_at, next_wish}
use Rattle.boc_runs.specs.Run.{spawned_by, members_after_spawn, started_on, config_after, opening, config_after_all, config_of}
use Rattle.boc_runs.specs.Run.{state_of, member_cowns, SpawnsWish, MaySpawn, CanEnd, MayHappen, IsRunFrom, IsRun}
use Rattle.boc_program.proofs.Rising.{meaning_rises}
use Rattle.boc_program.proofs.Fitting.{meaning_fits}
use Rattle.boc_program.proofs.Truth.{all_pass, and_true}
use Rattle.boc_runs.proofs.Behaviours.{Named, named}
use Rattle.boc_program.proofs.RisingNumbers.{rising_rises, rising_has, rising_had, rising_all, length-rising, written_held, written_rises, written_few}
use Rattle.boc_program.proofs.ChangedItems.{item_at, none_past, place_below, set_same, set_other, changed_there, changed_nowhere, length-changed, last_item}
use Rattle.boc_program.proofs.ChangedItems.{front_item}

-- ---- wishes

-- what stands between rises
pub rises_through : (low high : ℕ) (ws : List Wish) → RisesFrom low ws high → low ≤ high
rises_through low high [] h = h
rises_through low high (w ∷ ws) h = omega (arith, h.0, rises_through w.offset high ws h.1)

pub wish_between : (low high : ℕ) (ws : List Wish) (k : ℕ) (w : Wish) → RisesFrom low ws high → slice_get ws k ≡ Some w → (low < w.offset) × (w.offset ≤ high)
wish_between low high [] k w h e = absurd cc
wish_between low high (v ∷ ws) zero w h e =
    let same : v ≡ w = cc in
    subst (λ x. (low < x.offset) × (x.offset ≤ high)) same (h.0, rises_through v.offset high ws h.1)
wish_between low high (v ∷ ws) (suc k) w h e =
    let b = wish_between v.offset high ws k w h.1 e in (omega (arith, h.0, b.0), b.1)

pub wish_after : (low high : ℕ) (ws : List Wish) (k : ℕ) (v w : Wish) → RisesFrom low ws high → slice_get ws k ≡ Some v → slice_get ws (suc k) ≡ Some w
    → v.offset < w.offset
wish_after low high [] k v w h e f = absurd cc
wish_after low high (u ∷ ws) zero v w h e f =
    let same : u ≡ v = cc in
    subst (λ x. x.offset < w.offset) same (wish_between u.offset high ws zero w h.1 f).0
wish_after low high (u ∷ ws) (suc k) v w h e f = wish_after u.offset high ws k v w h.1 e f

-- the offset of the last of the first wishes, and 0 where there is none
abbrev pub last_offset : Option Meaning → ℕ → ℕ
last_offset None k = 0
last_offset (Some m) zero = 0
last_offset (Some m) (suc k) = option_map_or (λ w. w.offset) (slice_get m.wishes k) 0

last_of_none : (o : Option Meaning) → last_offset o 0 ≡ 0
last_of_none None = refl
last_of_none (Some m) = refl

-- what bodies say of their ticks
rises_of : (body : Body) (args : List ℤ) (inputs : List Input)
    → RisesFrom 1 (meaning body args inputs).wishes (meaning body args inputs).ticks × ((meaning body args inputs).ticks ≤ MOST_TICKS)
rises_of body args inputs = meaning_rises (λ kind es ps. true) body args inputs (all_pass body.block)

-- the last wish that was spawned comes before the next one
last_before_next : (m : Meaning) (spawned : ℕ) (w : Wish) → RisesFrom 1 m.wishes m.ticks → slice_get m.wishes spawned ≡ Some w
    → last_offset (Some m) spawned < w.offset
last_before_next m zero w h e = omega (arith, (wish_between 1 m.ticks m.wishes zero w h e).0)
last_before_next m (suc k) w h e =
    let (v, f) = item_at m.wishes k (omega (arith, place_below m.wishes (suc k) w e)) in
    let g : last_offset (Some m) (suc k) ≡ v.offset = ap (λ o. option_map_or (λ (x : Wish). x.offset) o 0) f in
    omega (arith, g, wish_after 1 m.ticks m.wishes k v w h f e)

-- and no later than the end of the body
pub last_before_end : (m : Meaning) (spawned : ℕ) → RisesFrom 1 m.wishes m.ticks → spawned ≤ length m.wishes → last_offset (Some m) spawned ≤ m.ticks
last_before_end m zero h le = omega arith
last_before_end m (suc k) h le =
    let (v, f) = item_at m.wishes k (omega (arith, le)) in
    let g : last_offset (Some m) (suc k) ≡ v.offset = ap (λ o. option_map_or (λ (x : Wish). x.offset) o 0) f in
    omega (arith, g, (wish_between 1 m.ticks m.wishes k v h f).1)

-- ---- a behaviour of a run beside the row of its log

-- The behaviour fits the program, and the row has what has become of it, its cowns in rising order, and the offset of its last child.
pub record Twins (p : Program) (m : Member) (e : Entry) : Type 0 where
  pub counts : CountsAre (slice_get (map signature_of p.bodies) m.behaviour.kind) (length m.behaviour.args) (length m.behaviour.cowns)
  pub below : AllBelow (cown_count p.cowns) m.behaviour.cowns
  pub life : e.life ≡ m.life
  pub cowns : e.cowns ≡ rising m.behaviour.cowns
  pub holds : m.life ≡ Running → cowns_held m.inputs ≡ m.behaviour.cowns
  pub fresh : m.life ≡ Pending → m.spawned ≡ 0
  pub last : e.last ≡ last_offset (meaning_of p m) m.spawned

-- the same of all behaviours of a run
pub record AreTwins (p : Program) (ms : List Member) (es : List Entry) : Type 0 where
  pub same : length es ≡ length ms
  pub few : length ms ≤ MOST_ROWS
  pub each : (r : ℕ) (m : Member) (e : Entry) → slice_get ms r ≡ Some m → slice_get es r ≡ Some e → Twins p m e

below_at : (n : ℕ) (cs : List ℕ) → AllBelow n cs → (k d : ℕ) → k < length cs → slice_index_or cs k d < n
below_at n [] h k d l = absurd (omega arith)
below_at n (c ∷ cs) h zero d l = h.0
below_at n (c ∷ cs) h (suc k) d l = below_at n cs h.1 k d (omega arith)

all_below : (n : ℕ) (cs : List ℕ) → AllBelow n cs → All (λ c. c < n) cs
all_below n cs h k d l = below_at n cs h k d l

pub smaller : (a b : ℕ) (cs : List ℕ) → a ≤ b → All (λ c. c < a) cs → All (λ c. c < b) cs
smaller a b cs le all k d l = omega (arith, all k d l)

-- what is among cowns below a number is below it
pub among_below : (n : ℕ) (cs some : List ℕ) → All (λ c. c < n) cs → All (Contains cs) some → All (λ c. c < n) some
among_below n cs some low all k d l =
    let c = all k d l in
    subst (λ x. x < n) c.2 (low c.0 (slice_index_or some k d) c.1)

-- what is among some numbers is among them in rising order
among_rising : (cs some : List ℕ) → All (Contains cs) some → All (Contains (rising cs)) some
among_rising cs some all k d l = rising_has cs (slice_index_or some k d) (all k d l)

wish_fits : (sigs : List Signature) (n : ℕ) (ws : List Wish) (k : ℕ) (w : Wish) → WishesFit sigs n ws → slice_get ws k ≡ Some w → WishFits sigs n w
wish_fits sigs n [] k w h e = absurd cc
wish_fits sigs n (v ∷ ws) zero w h e = (let same : v ≡ w = cc in subst (WishFits sigs n) same h.0)
wish_fits sigs n (v ∷ ws) (suc k) w h e = wish_fits sigs n ws k w h.1 e

-- a body that a program names takes few cowns
few_held : (p : Program) (kind args cowns : ℕ) → CountsAre (slice_get (map signature_of p.bodies) kind) args cowns → cowns ≤ MOST_HELD
few_held p kind args cowns h =
    let r = named p.bodies (calls_fit (map signature_of p.bodies) (cown_count p.cowns)) kind args cowns h p.calls in
    omega (arith, r.few_cowns, r.body.few_cowns)

-- what the body of a behaviour means, once it has its inputs
module _ (p : Program) (m : Member) (e : Entry) (t : Twins p m e) where
  abbrev sigs : List Signature
  sigs = map signature_of p.bodies

  abbrev n : ℕ
  n = cown_count p.cowns

  r : Named p.bodies (calls_fit sigs n) m.behaviour.kind (length m.behaviour.args) (length m.behaviour.cowns)
  r = named p.bodies (calls_fit sigs n) m.behaviour.kind (length m.behaviour.args) (length m.behaviour.cowns) t.counts p.calls

  pub body_of : Body
  body_of = r.body

  abbrev pub whole_meaning : Meaning
  whole_meaning = meaning body_of m.behaviour.args m.inputs

  pub is_meant : meaning_of p m ≡ Some whole_meaning
  unfolding body_of
  is_meant = ap (λ o. option_map (λ (body : Body). meaning body m.behaviour.args m.inputs) o) r.is

  pub meant_rises : RisesFrom 1 whole_meaning.wishes whole_meaning.ticks
  meant_rises = (rises_of body_of m.behaviour.args m.inputs).0

  pub meant_short : whole_meaning.ticks ≤ MOST_TICKS
  meant_short = (rises_of body_of m.behaviour.args m.inputs).1

  pub few_cowns : length m.behaviour.cowns ≤ MOST_HELD
  few_cowns = few_held p m.behaviour.kind (length m.behaviour.args) (length m.behaviour.cowns) t.counts

  pub low_cowns : All (λ c. c < MOST_COWNS) m.behaviour.cowns
  low_cowns = smaller n MOST_COWNS m.behaviour.cowns p.few_cowns (all_below n m.behaviour.cowns t.below)

  module _ (runs : m.life ≡ Running) where
    held : cowns_held m.inputs ≡ m.behaviour.cowns
    held = t.holds runs

    pub so_many : length m.inputs ≡ length m.behaviour.cowns
    so_many = sym (length-map m.inputs (λ i. i.cown)) ∙ ap (length {A = ℕ}) held

    pub meant_fits : WishesFit sigs n whole_meaning.wishes
    unfolding body_of
    meant_fits = meaning_fits sigs n r.body m.behaviour.args m.inputs r.passes (so_many ∙ r.few_cowns) (subst (AllBelow n) (sym held) t.below)

    pub own_written : All (Contains m.behaviour.cowns) whole_meaning.written
    own_written = subst (λ cs. All (Contains cs) whole_meaning.written) held (written_held body_of m.behaviour.args m.inputs)

    pub few_written : length whole_meaning.written ≤ MOST_HELD
    few_written = omega (arith, written_few body_of m.behaviour.args m.inputs, so_many, few_cowns)

-- ---- which events are allowed

spawn_keeps : (count : ℕ) (rows : List Entry) (row parent offset : ℕ) (cowns : ArrayVec ℕ) → row ≡ length rows → row < MOST_ROWS → IsParent rows parent
    → IsOffset rows parent offset
    → MayNeed count rows cowns.items → (rule : BrokenRule) → KeepsRule count rows (Spawn row parent offset cowns) rule
spawn_keeps count rows row parent offset cowns next few parents offsets needs rules.NumberNotNext = next
spawn_keeps count rows row parent offset cowns next few parents offsets needs rules.TooMany = few
spawn_keeps count rows row parent offset cowns next few parents offsets needs rules.ParentNotRunning = parents
spawn_keeps count rows row parent offset cowns next few parents offsets needs rules.Offset = offsets
spawn_keeps count rows row parent offset cowns next few parents offsets needs rules.Cowns = needs
spawn_keeps count rows row parent offset cowns next few parents offsets needs rules.StartNotAllowed = tt
spawn_keeps count rows row parent offset cowns next few parents offsets needs rules.EndNotAllowed = tt

start_keeps : (count : ℕ) (rows : List Entry) (row : ℕ) → MayStart (life_of rows) (entry_cowns rows) row → (rule : BrokenRule)
    → KeepsRule count rows (Start row) rule
start_keeps count rows row h rules.NumberNotNext = tt
start_keeps count rows row h rules.TooMany = tt
start_keeps count rows row h rules.ParentNotRunning = tt
start_keeps count rows row h rules.Offset = tt
start_keeps count rows row h rules.Cowns = tt
start_keeps count rows row h rules.StartNotAllowed = h
start_keeps count rows row h rules.EndNotAllowed = tt

end_keeps : (count : ℕ) (rows : List Entry) (row ticks : ℕ) (status : EndStatus) (written : ArrayVec ℕ) → MayEnd rows row ticks written.items
    → (rule : BrokenRule)
    → KeepsRule count rows (End row ticks status written) rule
end_keeps count rows row ticks status written h rules.NumberNotNext = tt
end_keeps count rows row ticks status written h rules.TooMany = tt
end_keeps count rows row ticks status written h rules.ParentNotRunning = tt
end_keeps count rows row ticks status written h rules.Offset = tt
end_keeps count rows row ticks status written h rules.Cowns = tt
end_keeps count rows row ticks status written h rules.StartNotAllowed = tt
end_keeps count rows row ticks status written h rules.EndNotAllowed = h

-- a row and its behaviour
record Beside (p : Program) (ms : List Member) (es : List Entry) (r : ℕ) : Type 0 where
  m : Member
  e : Entry
  m_is : slice_get ms r ≡ Some m
  e_is : slice_get es r ≡ Some e
  twins : Twins p m e

beside : (p : Program) (ms : List Member) (es : List Entry) → AreTwins p ms es → (r : ℕ) → r < length ms → Beside p ms es r
beside p ms es h r l =
    let (m, f) = item_at ms r l in
    let (e, g) = item_at es r (omega (arith, l, h.same)) in
    record { m = m; e = e; m_is = f; e_is = g; twins = h.each r m e f g }

is_there : (ms : List Member) (r : ℕ) (life : Life) → state_of ms r ≡ Some life → r < length ms
is_there ms r life h = elim (cases_lt r (length ms)) [
  | inl l ↦ l
  | inr ge ↦ absurd (let e : state_of ms r ≡ None = ap (λ o. option_map (λ (m : Member). m.life) o) (none_past ms r ge) in cc)
]

pub same_life : (p : Program) (ms : List Member) (es : List Entry) → AreTwins p ms es → (r : ℕ) → life_of es r ≡ state_of ms r
same_life p ms es h r = elim (cases_lt r (length ms)) [
  | inl l ↦ (
      let b = beside p ms es h r l in
      ap (λ o. option_map (λ (e : Entry). e.life) o) b.e_is ∙ ap Some b.twins.life ∙ sym (ap (λ o. option_map (λ (m : Member). m.life) o) b.m_is))
  | inr ge ↦ ap (λ o. option_map (λ (e : Entry). e.life) o) (none_past es r (omega (arith, ge, h.same)))
      ∙ sym (ap (λ o. option_map (λ (m : Member). m.life) o) (none_past ms r ge))
]

pub same_cowns : (p : Program) (ms : List Member) (es : List Entry) → AreTwins p ms es → (r : ℕ) → entry_cowns es r ≡ rising (member_cowns ms r)
same_cowns p ms es h r = elim (cases_lt r (length ms)) [
  | inl l ↦ (
      let b = beside p ms es h r l in
      ap (λ o. option_map_or (λ (e : Entry). e.cowns) o []) b.e_is ∙ b.twins.cowns
      ∙ sym (ap (λ o. rising (option_map_or (λ (m : Member). m.behaviour.cowns) o [])) b.m_is))
  | inr ge ↦ ap (λ o. option_map_or (λ (e : Entry). e.cowns) o []) (none_past es r (omega (arith, ge, h.same)))
      ∙ sym (ap (λ o. rising (option_map_or (λ (m : Member). m.behaviour.cowns) o [])) (none_past ms r ge))
]

overlap_back : (p : Program) (ms : List Member) (es : List Entry) → AreTwins p ms es → (a b : ℕ) → Overlap (entry_cowns es) a b → Overlap (member_cowns ms) a b
overlap_back p ms es h a b (c, left, right) = (
  c,
  rising_had (member_cowns ms a) c (subst (λ cs. Contains cs c) (same_cowns p ms es h a) left),
  rising_had (member_cowns ms b) c (subst (λ cs. Contains cs c) (same_cowns p ms es h b) right),
)

start_allowed : (p : Program) (ms : List Member) (es : List Entry) → AreTwins p ms es → (row : ℕ) → MayStart (state_of ms) (member_cowns ms) row
    → IsAllowed (cown_count p.cowns) es (Start row)
start_allowed p ms es h row may = record {
  bounds = omega (arith, is_there ms row Pending may.waits, h.few);
  keeps = start_keeps (cown_count p.cowns) es row (record {
    waits = same_life p ms es h row ∙ may.waits;
    none_running = λ other runs share. may.none_running other (sym (same_life p ms es h other) ∙ runs) (overlap_back p ms es h row other share);
    none_earlier = λ other before waits share. may.none_earlier other before (sym (same_life p ms es h other) ∙ waits) (overlap_back p ms es h row other share);
  });
}

-- the behaviour that is read at a place
read_at : (p : Program) (ms : List Member) (es : List Entry) → AreTwins p ms es → (r : ℕ) (m : Member) → slice_get ms r ≡ Some m
    → (e : Entry) × (slice_get es r ≡ Some e) × Twins p m e
read_at p ms es h r m is =
    let (e, g) = item_at es r (omega (arith, place_below ms r m is, h.same)) in
    (e, g, h.each r m e is g)

wish_of_meaning : (o : Option Meaning) (k : ℕ) (m : Meaning) (w : Wish) → o ≡ Some m → wish_at o k ≡ Some w → slice_get m.wishes k ≡ Some w
wish_of_meaning o k m w e f = sym (ap (λ x. wish_at x k) e) ∙ f

running_of : (ms : List Member) (r : ℕ) (m : Member) → slice_get ms r ≡ Some m → state_of ms r ≡ Some Running → m.life ≡ Running
running_of ms r m is runs =
    let e : Some m.life ≡ Some Running = sym (ap (λ o. option_map (λ (x : Member). x.life) o) is) ∙ runs in cc

-- a parent, its row, and the wish that it spawns next
record Spawning (p : Program) (ms : List Member) (es : List Entry) (parent offset : ℕ) (cowns : List ℕ) : Type 0 where
  both : Beside p ms es parent
  runs : both.m.life ≡ Running
  wish : Wish
  next : next_wish p (slice_get ms parent) ≡ Some wish
  wish_is : slice_get (whole_meaning p both.m both.e both.twins).wishes both.m.spawned ≡ Some wish
  offset_is : offset ≡ wish.offset
  cowns_are : cowns ≡ rising wish.cowns

spawning : (p : Program) (ms : List Member) (es : List Entry) → AreTwins p ms es → (parent offset : ℕ) (cowns : List ℕ) → SpawnsWish p ms parent offset cowns
    → Spawning p ms es parent offset cowns
spawning p ms es h parent offset cowns s =
    let b = beside p ms es h parent (is_there ms parent Running s.runs) in
    let next : wish_at (meaning_of p b.m) b.m.spawned ≡ Some s.wish = sym (ap (λ o. next_wish p o) b.m_is) ∙ s.next in
    record {
      both = b;
      runs = running_of ms parent b.m b.m_is s.runs;
      wish = s.wish;
      next = s.next;
      wish_is = wish_of_meaning (meaning_of p b.m) b.m.spawned (whole_meaning p b.m b.e b.twins) s.wish (is_meant p b.m b.e b.twins) next;
      offset_is = s.offset_is;
      cowns_are = s.cowns_are;
    }

-- a wish that a behaviour of a run spawns fits the program
module _ (p : Program) (ms : List Member) (es : List Entry) (parent offset : ℕ) (cowns : List ℕ) (s : Spawning p ms es parent offset cowns) where
  fits : WishFits (map signature_of p.bodies) (cown_count p.cowns) s.wish
  fits = wish_fits (map signature_of p.bodies) (cown_count p.cowns) (whole_meaning p s.both.m s.both.e s.both.twins).wishes s.both.m.spawned s.wish
      (meant_fits p s.both.m s.both.e s.both.twins s.runs) s.wish_is

  low_wish : All (λ c. c < cown_count p.cowns) (rising s.wish.cowns)
  low_wish = rising_all (λ c. c < cown_count p.cowns) s.wish.cowns (all_below (cown_count p.cowns) s.wish.cowns fits.below)

  few_wish : length (rising s.wish.cowns) ≤ MOST_HELD
  few_wish = omega (arith, length-rising s.wish.cowns, few_held p s.wish.kind (length s.wish.args) (length s.wish.cowns) fits.counts)

  last_now : s.both.e.last ≡ last_offset (Some (whole_meaning p s.both.m s.both.e s.both.twins)) s.both.m.spawned
  last_now = s.both.twins.last ∙ ap (λ o. last_offset o s.both.m.spawned) (is_meant p s.both.m s.both.e s.both.twins)

  later_wish : s.both.e.last < offset
  later_wish = omega (
    arith,
    last_now,
    s.offset_is,
    last_before_next (whole_meaning p s.both.m s.both.e s.both.twins) s.both.m.spawned s.wish
        (meant_rises p s.both.m s.both.e s.both.twins) s.wish_is,
  )

  short_wish : offset ≤ MOST_TICKS
  short_wish = omega (
    arith,
    s.offset_is,
    (wish_between 1 (whole_meaning p s.both.m s.both.e s.both.twins).ticks (whole_meaning p s.both.m s.both.e s.both.twins).wishes s.both.m.spawned s.wish
        (meant_rises p s.both.m s.both.e s.both.twins) s.wish_is).1,
    meant_short p s.both.m s.both.e s.both.twins,
  )

spawn_bounds : (n row parent offset : ℕ) (cowns : ArrayVec ℕ) (own : List ℕ) → row < MOST_ROWS → parent ≤ MOST_ROWS → offset ≤ MOST_TICKS → n ≤ MOST_COWNS
    → cowns.items ≡ own
    → All (λ c. c < n) own → length own ≤ MOST_HELD → HasBounds (Spawn row parent offset cowns)
spawn_bounds n row parent offset cowns own few low short most is below held = (
  omega arith,
  omega arith,
  omega arith,
  subst (λ cs. All (λ c. c < 2 ^ 32) cs) (sym is) (smaller n (2 ^ 32) own (omega arith) below),
  subst (λ cs. length cs ≤ MOST_HELD) (sym is) held,
)

spawn_allowed : (p : Program) (ms : List Member) (es : List Entry) → AreTwins p ms es → (row parent offset : ℕ) (cowns : ArrayVec ℕ) → row ≡ length ms
    → row < MOST_ROWS
    → MaySpawn p ms parent offset cowns.items → IsAllowed (cown_count p.cowns) es (Spawn row parent offset cowns)
spawn_allowed p [] [] h row parent offset cowns next few (first, at_once, none) = record {
  bounds = spawn_bounds (cown_count p.cowns) row parent offset cowns [] few (omega (arith, first)) (omega (arith, at_once)) p.few_cowns none
      (λ k d l. absurd (omega (arith, l))) (omega arith);
  keeps = spawn_keeps (cown_count p.cowns) [] row parent offset cowns next few first at_once none;
}
spawn_allowed p [] (e ∷ es) h row parent offset cowns next few s = absurd (omega (arith, h.same))
spawn_allowed p (m ∷ ms) [] h row parent offset cowns next few s = absurd (omega (arith, h.same))
spawn_allowed p (m ∷ ms) (e ∷ es) h row parent offset cowns next few s =
    let t = spawning p (m ∷ ms) (e ∷ es) h parent offset cowns.items s in
    let own : length (e ∷ es) ≡ length (m ∷ ms) = h.same in
    let last : last_of (e ∷ es) parent ≡ t.both.e.last = ap (λ o. option_map_or (λ (x : Entry). x.last) o 0) t.both.e_is in
    record {
      bounds = spawn_bounds (cown_count p.cowns) row parent offset cowns (rising t.wish.cowns) few
          (omega (arith, place_below (m ∷ ms) parent t.both.m t.both.m_is, h.few)) (short_wish p (m ∷ ms) (e ∷ es) parent offset cowns.items t) p.few_cowns
          t.cowns_are
          (low_wish p (m ∷ ms) (e ∷ es) parent offset cowns.items t) (few_wish p (m ∷ ms) (e ∷ es) parent offset cowns.items t);
      keeps = spawn_keeps (cown_count p.cowns) (e ∷ es) row parent offset cowns (next ∙ sym own) few (same_life p (m ∷ ms) (e ∷ es) h parent ∙ s.runs)
          (omega (arith, last, later_wish p (m ∷ ms) (e ∷ es) parent offset cowns.items t), short_wish p (m ∷ ms) (e ∷ es) parent offset cowns.items t)
          (subst (AreCowns (cown_count p.cowns)) (sym t.cowns_are)
          (record { rise = rising_rises t.wish.cowns; below = low_wish p (m ∷ ms) (e ∷ es) parent offset cowns.items t }));
    }

end_allowed : (p : Program) (ms : List Member) (es : List Entry) → AreTwins p ms es → (row ticks : ℕ) (status : EndStatus) (written : ArrayVec ℕ)
    → CanEnd p ms row ticks status written.items
    → IsAllowed (cown_count p.cowns) es (End row ticks status written)
end_allowed p ms es h row ticks status written c =
    let (e, e_is, t) = read_at p ms es h row c.member c.is in
    let same : whole_meaning p c.member e t ≡ c.means = let q : Some (whole_meaning p c.member e t) ≡ Some c.means = sym (is_meant p c.member e t) ∙ c.meant in
    cc in
    let wrote : written.items ≡ (whole_meaning p c.member e t).written = c.written_is ∙ ap (λ (m : Meaning). m.written) (sym same) in
    let took : ticks ≡ (whole_meaning p c.member e t).ticks = c.ticks_are ∙ ap (λ (m : Meaning). m.ticks) (sym same) in
    let spawned : c.member.spawned ≡ length (whole_meaning p c.member e t).wishes = c.all_spawned ∙ ap (λ (m : Meaning). length m.wishes) (sym same) in
    let last : last_of es row ≡ e.last = ap (λ o. option_map_or (λ (x : Entry). x.last) o 0) e_is in
    let last_now : e.last ≡ last_offset (Some (whole_meaning p c.member e t)) c.member.spawned =
    t.last ∙ ap (λ o. last_offset o c.member.spawned) (is_meant p c.member e t) in
    let rises = meant_rises p c.member e t in
    let own : All (Contains c.member.behaviour.cowns) written.items =
    subst (λ ws. All (Contains c.member.behaviour.cowns) ws) (sym wrote) (own_written p c.member e t c.runs) in
    let few : length written.items ≤ MOST_HELD = subst (λ ws. length ws ≤ MOST_HELD) (sym wrote) (few_written p c.member e t c.runs) in
    let cowns : entry_cowns es row ≡ rising c.member.behaviour.cowns = ap (λ o. option_map_or (λ (x : Entry). x.cowns) o []) e_is ∙ t.cowns in
    record {
      bounds = (
        omega (arith, place_below ms row c.member c.is, h.few),
        omega (arith, took, meant_short p c.member e t),
        smaller MOST_COWNS (2 ^ 32) written.items (omega arith) (among_below MOST_COWNS c.member.behaviour.cowns written.items (low_cowns p c.member e t) own),
        few,
      );
      keeps = end_keeps (cown_count p.cowns) es row ticks status written (record {
        runs = ap (λ o. option_map (λ (x : Entry). x.life) o) e_is ∙ ap Some (t.life ∙ c.runs);
        low = omega (arith, took, rises_through 1 (whole_meaning p c.member e t).ticks (whole_meaning p c.member e t).wishes rises);
        high = omega (arith, took, meant_short p c.member e t);
        covers = omega (arith, last, last_now, took, last_before_end (whole_meaning p c.member e t) c.member.spawned rises (omega (arith, spawned)));
        own = record {
          rise = subst IsStrictlyIncreasing (sym wrote) (written_rises (body_of p c.member e t) c.member.behaviour.args c.member.inputs);
          own = subst (λ cs. All (λ x. Contains cs x) written.items) (sym cowns) (among_rising c.member.behaviour.cowns written.items own);
        };
      });
    }

-- ---- what stays from event to event

-- a behaviour and its row are changed alike
module _ (p : Program) (ms : List Member) (es : List Entry) (h : AreTwins p ms es) (r : ℕ) (f : Member → Member) (g : Entry → Entry)
    (alike : (m : Member) (e : Entry) → slice_get ms r ≡ Some m → slice_get es r ≡ Some e → Twins p m e → Twins p (f m) (g e)) where
  changed_twins : (b : Beside p ms es r) → r < length ms → AreTwins p (slice_set ms r (f b.m)) (slice_set es r (g b.e))
  changed_twins b l = record {
    same = length-set es r (g b.e) ∙ h.same ∙ sym (length-set ms r (f b.m));
    few = omega (arith, length-set ms r (f b.m), h.few);
    each = λ k m e at_m at_e. elim (cases_eq k r) [
      | inl q ↦ (
          let first : f b.m ≡ m = let x : Some (f b.m) ≡ Some m =
          sym (set_same ms r (f b.m) l) ∙ ap (λ i. slice_get (slice_set ms r (f b.m)) i) (sym q) ∙ at_m in cc in
          let second : g b.e ≡ e = let x : Some (g b.e) ≡ Some e =
          sym (set_same es r (g b.e) (omega (arith, l, h.same))) ∙ ap (λ i. slice_get (slice_set es r (g b.e)) i) (sym q) ∙ at_e in cc in
          subst (λ y. Twins p m y) second (subst (λ y. Twins p y (g b.e)) first (alike b.m b.e b.m_is b.e_is b.twins)))
      | inr ne ↦ h.each k m e (sym (set_other ms r k (f b.m) ne) ∙ at_m) (sym (set_other es r k (g b.e) ne) ∙ at_e)
    ];
  }

  pub twins_changed : AreTwins p (changed ms r f (slice_get ms r)) (changed es r g (slice_get es r))
  twins_changed = elim (cases_lt r (length ms)) [
    | inl l ↦ (
        let b = beside p ms es h r l in
        subst (λ xs. AreTwins p xs (changed es r g (slice_get es r))) (sym (changed_there ms r f b.m b.m_is))
        (subst (λ ys. AreTwins p (slice_set ms r (f b.m)) ys) (sym (changed_there es r g b.e b.e_is)) (changed_twins b l)))
    | inr ge ↦ subst (λ xs. AreTwins p xs (changed es r g (slice_get es r))) (sym (changed_nowhere ms r f ge))
        (subst (λ ys. AreTwins p ms ys) (sym (changed_nowhere es r g (omega (arith, ge, h.same)))) h)
  ]

-- one behaviour more, and its row
twins_more : (p : Program) (ms : List Member) (es : List Entry) (m : Member) (e : Entry) → AreTwins p ms es → length ms < MOST_ROWS → Twins p m e
    → AreTwins p (ms ++ m ∷ []) (es ++ e ∷ [])
twins_more p ms es m e h few t = record {
  same = length-append es (e ∷ []) ∙ ap (λ (k : ℕ). k + 1) h.same ∙ sym (length-append ms (m ∷ []));
  few = omega (arith, length-append ms (m ∷ []), few);
  each = λ k x y at_x at_y. elim (cases_lt k (length ms)) [
    | inl l ↦ h.each k x y (sym (front_item ms m k l) ∙ at_x) (sym (front_item es e k (omega (arith, l, h.same))) ∙ at_y)
    | inr ge ↦ (
        let q : k ≡ length ms = omega (arith, ge, place_below (ms ++ m ∷ []) k x at_x, length-append ms (m ∷ [])) in
        let first : m ≡ x = let z : Some m ≡ Some x = sym (last_item ms m) ∙ ap (λ i. slice_get (ms ++ m ∷ []) i) (sym q) ∙ at_x in cc in
        let second : e ≡ y = let z : Some e ≡ Some y = sym (last_item es e) ∙ ap (λ i. slice_get (es ++ e ∷ []) i) (h.same ∙ sym q) ∙ at_y in cc in
        subst (λ z. Twins p x z) second (subst (λ z. Twins p z e) first t))
  ];
}

main_counts : (bodies : List Body) → IsTrue (has_main bodies) → CountsAre (slice_get (map signature_of bodies) 0) 0 0
main_counts [] h = absurd cc
main_counts (b ∷ bodies) h =
    let both = and_true (nat_eq b.params 0) (nat_eq b.cown_params 0) h in
    (sym (eqb-true b.params 0 both.0), sym (eqb-true b.cown_params 0 both.1))

-- a behaviour that was just spawned, and its row
fresh_twins : (p : Program) (b : Behaviour) (parent offset : ℕ) (cowns : List ℕ)
    → CountsAre (slice_get (map signature_of p.bodies) b.kind) (length b.args) (length b.cowns)
    → AllBelow (cown_count p.cowns) b.cowns → cowns ≡ rising b.cowns → Twins p (waiting b) (pending parent offset cowns)
fresh_twins p b parent offset cowns counts below is = record {
  counts = counts;
  below = below;
  life = refl;
  cowns = is;
  holds = λ q. absurd cc;
  fresh = λ q. refl;
  last = sym (last_of_none (meaning_of p (waiting b)));
}

none_twins : (p : Program) → AreTwins p [] []
none_twins p = record { same = refl; few = omega arith; each = λ r m e q s. absurd cc }

-- a parent whose next wish was spawned, and its row
spawned_twins : (p : Program) (x : Member) (y : Entry) (offset : ℕ) (w : Wish) → Twins p x y → x.life ≡ Running → next_wish p (Some x) ≡ Some w
    → offset ≡ w.offset
    → Twins p (record x { spawned = x.spawned + 1 }) (record y { last = offset })
spawned_twins p x y offset w t runs next is =
    let m : Meaning = whole_meaning p x y t in
    let at : slice_get m.wishes x.spawned ≡ Some w = wish_of_meaning (meaning_of p x) x.spawned m w (is_meant p x y t) next in
    let one : x.spawned + 1 ≡ suc x.spawned = omega arith in
    let last : last_offset (Some m) (suc x.spawned) ≡ w.offset = ap (λ o. option_map_or (λ (v : Wish). v.offset) o 0) at in
    let now : last_offset (meaning_of p x) (x.spawned + 1) ≡ w.offset =
    ap (λ o. last_offset o (x.spawned + 1)) (is_meant p x y t) ∙ ap (λ k. last_offset (Some m) k) one ∙ last in
    record {
      counts = t.counts;
      below = t.below;
      life = t.life;
      cowns = t.cowns;
      holds = t.holds;
      fresh = λ q. absurd (let z : Running ≡ Pending = sym runs ∙ q in cc);
      last = is ∙ sym now;
    }

twins_spawn : (p : Program) (ms : List Member) (es : List Entry) → AreTwins p ms es → (row parent offset : ℕ) (cowns : ArrayVec ℕ) → row ≡ length ms
    → row < MOST_ROWS
    → MaySpawn p ms parent offset cowns.items → AreTwins p (members_after_spawn p ms parent) (after es (Spawn row parent offset cowns))
twins_spawn p [] [] h row parent offset cowns next few (first, at_once, none) =
    twins_more p [] [] (waiting main_behaviour) (pending parent offset cowns.items) h (omega arith)
    (fresh_twins p main_behaviour parent offset cowns.items (main_counts p.bodies p.main) tt none)
twins_spawn p [] (e ∷ es) h row parent offset cowns next few s = absurd (omega (arith, h.same))
twins_spawn p (m ∷ ms) [] h row parent offset cowns next few s = absurd (omega (arith, h.same))
twins_spawn p (m ∷ ms) (e ∷ es) h row parent offset cowns next few s =
    let t = spawning p (m ∷ ms) (e ∷ es) h parent offset cowns.items s in
    let w = fits p (m ∷ ms) (e ∷ es) parent offset cowns.items t in
    subst (λ xs. AreTwins p xs (after (e ∷ es) (Spawn row parent offset cowns))) (sym (ap (λ o. spawned_by (m ∷ ms) parent o) t.next))
    (twins_more p _ _ (waiting (behaviour_of t.wish)) (pending parent offset cowns.items)
    (twins_changed p (m ∷ ms) (e ∷ es) h parent (λ x. record x { spawned = x.spawned + 1 }) (λ y. record y { last = offset })
    (λ x y at_x at_y tw. spawned_twins p x y offset t.wish tw (running_of (m ∷ ms) parent x at_x s.runs) (sym (ap (λ o. next_wish p o) at_x) ∙ t.next)
    t.offset_is))
    (omega (arith, length-changed (m ∷ ms) parent (λ (x : Member). record x { spawned = x.spawned + 1 }) (slice_get (m ∷ ms) parent), next, few))
    (fresh_twins p (behaviour_of t.wish) parent offset cowns.items w.counts w.below t.cowns_are))

held_of_inputs : (cs : List ℕ) (values : List ℤ) → cowns_held (inputs_of cs values) ≡ cs
held_of_inputs [] values = refl
held_of_inputs (c ∷ cs) values = ap (λ ds. c ∷ ds) (held_of_inputs cs values)

-- a behaviour that starts, and its row
started_twins : (p : Program) (values : List ℤ) (x : Member) (y : Entry) → x.life ≡ Pending → Twins p x y
    → Twins p (started_on values x) (record y { life = Running })
started_twins p values x y waits t =
    let none : x.spawned ≡ 0 = t.fresh waits in
    record {
      counts = t.counts;
      below = t.below;
      life = refl;
      cowns = t.cowns;
      holds = λ q. held_of_inputs x.behaviour.cowns values;
      fresh = λ q. none;
      last = t.last ∙ ap (λ k. last_offset (meaning_of p x) k) none ∙ last_of_none (meaning_of p x) ∙ sym (last_of_none (meaning_of p (started_on values x)))
          ∙ ap (λ k. last_offset (meaning_of p (started_on values x)) k) (sym none);
    }

-- a behaviour that ends, and its row
ended_twins : (p : Program) (x : Member) (y : Entry) (ticks : ℕ) (status : EndStatus) (written : List ℕ) → Twins p x y
    → Twins p (record x { life = Ended }) (record y { life = Ended; ticks = ticks; status = status; written = written })
ended_twins p x y ticks status written t = record {
  counts = t.counts;
  below = t.below;
  life = refl;
  cowns = t.cowns;
  holds = λ q. absurd cc;
  fresh = λ q. absurd cc;
  last = t.last;
}

pending_of : (ms : List Member) (r : ℕ) (m : Member) → slice_get ms r ≡ Some m → state_of ms r ≡ Some Pending → m.life ≡ Pending
pending_of ms r m is waits =
    let e : Some m.life ≡ Some Pending = sym (ap (λ o. option_map (λ (x : Member). x.life) o) is) ∙ waits in cc

-- ---- the law

pub next_allowed : (p : Program) (c : Config) (es : List Entry) (event : Event) → AreTwins p c.members es → MayHappen p c event
    → IsAllowed (cown_count p.cowns) es event
next_allowed p c es (Spawn row parent offset cowns) h may = spawn_allowed p c.members es h row parent offset cowns may.0 may.1 may.2
next_allowed p c es (Start row) h may = start_allowed p c.members es h row may
next_allowed p c es (End row ticks status written) h may = end_allowed p c.members es h row ticks status written may

next_twins : (p : Program) (c : Config) (es : List Entry) (event : Event) → AreTwins p c.members es → MayHappen p c event
    → AreTwins p (config_after p c event).members (after es event)
next_twins p c es (Spawn row parent offset cowns) h may = twins_spawn p c.members es h row parent offset cowns may.0 may.1 may.2
next_twins p c es (Start row) h may = twins_changed p c.members es h row (started_on c.values) (λ e. record e { life = Running })
    (λ x y at_x at_y t. started_twins p c.values x y (pending_of c.members row x at_x may.waits) t)
next_twins p c es (End row ticks status written) h may =
    twins_changed p c.members es h row (λ m. record m { life = Ended })
    (λ e. record e { life = Ended; ticks = ticks; status = status; written = written.items })
    (λ x y at_x at_y t. ended_twins p x y ticks status written.items t)

legal_from : (p : Program) (c : Config) (es : List Entry) (events : List Event) → AreTwins p c.members es → IsRunFrom p c events
    → IsLegalFrom (cown_count p.cowns) es events
legal_from p c es [] h run = tt
legal_from p c es (event ∷ events) h run =
    (next_allowed p c es event h run.0, legal_from p (config_after p c event) (after es event) events (next_twins p c es event h run.0) run.1)

pub run_is_legal : (p : Program) (log : List Event) → IsRun p log → IsLegal (cown_count p.cowns) log
run_is_legal p log run = legal_from p (opening p) [] log (none_twins p) run

twins_from : (p : Program) (c : Config) (es : List Entry) (log : List Event) → IsRunFrom p c log → AreTwins p c.members es
    → AreTwins p (config_after_all p c log).members (after_all es log)
twins_from p c es [] run h = h
twins_from p c es (event ∷ events) run h = twins_from p (config_after p c event) (after es event) events run.1 (next_twins p c es event h run.0)

-- the behaviours of a run are beside the rows of its log
pub run_twins : (p : Program) (log : List Event) → IsRun p log → AreTwins p (config_of p log).members (entries log)
run_twins p log run = twins_from p (opening p) [] log run (none_twins p)
