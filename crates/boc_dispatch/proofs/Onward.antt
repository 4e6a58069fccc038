-- Behaviours that go on: what of a dispatcher stays true where only stages and counts of some change.
use Rattle.std.proofs.Common.{◌≡◌, ℕ, ◌<◌, inl, inr, true, List, [], set, map, refl, sym, ◌∙◌, ap, subst, rules}
use Rattle.std.specs.Prelude.{slice_get, slice_index_or, nat_lt, Option, Some, None}
use Rattle.std.specs.Option.{option_map, option_map_or}
use Rattle.boc_program.specs.declared.program.Program.{Program}
use Rattle.boc_runs.specs.declared.stage.Phase.TheVariants.{Ready}
use Rattle.boc_runs.specs.declared.stage.Stage.{Stage}
use Rattle.boc_runs.specs.declared.stage.Stage.TheVariants.{Recorded}
use Rattle.boc_runs.specs.machine.Stages.{settled_at, flagged_at, row_at, asks_at, enqueues_at}
use Rattle.boc_runs.specs.machine.Queues.{times}
use Rattle.boc_runs.specs.Run.{Member, next_wish}
use Rattle.boc_chain.specs.declared.request.Request.{Request}
use Rattle.boc_chain.specs.Chain.{Place}
use Rattle.boc_dispatch.specs.declared.live.Live.{Live}
use Rattle.boc_dispatch.specs.Inside.{live_at, behaviour_of, exchanged_at, place_of, number_at, queues_of, rows_at, row_or_0, IsRequestOf, AreNumbered}
use Rattle.boc_dispatch.specs.Inside.{AreAtHome, AreInHand, IsChildOf, IsParentOf, AreChained, AreOfRun, IsWished}
use Rattle.boc_dispatch.specs.Grants.{AreReady}
use Rattle.boc_dispatch.proofs.Tables.{live_there, live_here, live_other, live_new}
use Rattle.boc_machine_laws.proofs.Lists.{same_or_not}

-- the same behaviour under the same row
pub record Same (l m : Live) : Type 0 where
  pub number : m.number ≡ l.number
  pub parent : m.parent ≡ l.parent
  pub behaviour : behaviour_of m ≡ behaviour_of l
  pub spawned : m.spawned ≡ l.spawned
  pub row : row_at m.stage ≡ row_at l.stage
  pub asks : asks_at m.stage ≡ asks_at l.stage

-- with the same requests settled, flagged and exchanged
pub record Onward (l m : Live) : Type 0 where
  pub same : Same l m
  pub cowns : m.cowns.items ≡ l.cowns.items
  pub settles : settled_at m.stage m.cowns.items ≡ settled_at l.stage l.cowns.items
  pub flags : flagged_at m.stage m.cowns.items ≡ flagged_at l.stage l.cowns.items
  pub exchanges : exchanged_at m.stage m.cowns.items ≡ exchanged_at l.stage l.cowns.items

-- with the same child in hand, and its enqueue open as before
pub record Known (l m : Live) : Type 0 where
  pub same : Same l m
  pub child : m.child ≡ l.child
  pub enqueues : enqueues_at m.stage ≡ enqueues_at l.stage

-- all of that
pub record Steady (l m : Live) : Type 0 where
  pub on : Onward l m
  pub child : m.child ≡ l.child
  pub enqueues : enqueues_at m.stage ≡ enqueues_at l.stage

-- with as many requests for a cown settled and flagged
abbrev pub Marked : ℕ → Live → Live → Type 0
Marked c l m = (times c (settled_at m.stage m.cowns.items) ≡ times c (settled_at l.stage l.cowns.items))
    × (times c (flagged_at m.stage m.cowns.items) ≡ times c (flagged_at l.stage l.cowns.items))

-- what is known of it is known still: its parent and its row, an open enqueue, a child in hand, its requests, and that it is ready
pub record Further (l m : Live) : Type 0 where
  pub parent : m.parent ≡ l.parent
  pub row : (r : ℕ) → row_at l.stage ≡ Some r → row_at m.stage ≡ Some r
  pub enqueues : enqueues_at l.stage ≡ true → enqueues_at m.stage ≡ true
  pub child : (s : ℕ) → l.child ≡ Some s → m.child ≡ Some s
  pub marks : (c : ℕ) → Marked c l m
  pub ready : (r : ℕ) → l.stage ≡ Recorded r Ready → m.stage ≡ Recorded r Ready

pub same_self : (l : Live) → Same l l
same_self l = search rules

pub stays : (l : Live) → Onward l l
stays l = search rules

pub known : (l : Live) → Known l l
known l = search rules

pub steady : (l : Live) → Steady l l
steady l = search rules

pub further : (l : Live) → Further l l
further l = search rules

-- it goes on from a stage to another
pub onward_at : (l : Live) (awaited : ℕ) (from stage : Stage) → l.stage ≡ from → row_at stage ≡ row_at from → asks_at stage ≡ asks_at from
    → settled_at stage l.cowns.items ≡ settled_at from l.cowns.items → flagged_at stage l.cowns.items ≡ flagged_at from l.cowns.items
    → exchanged_at stage l.cowns.items ≡ exchanged_at from l.cowns.items → Onward l (record l { awaited = awaited; stage = stage })
onward_at l awaited from stage is row asks settles flags exchanges = record {
  same = record { number = refl; parent = refl; behaviour = refl; spawned = refl; row = row ∙ sym (ap row_at is); asks = asks ∙ sym (ap asks_at is) };
  cowns = refl;
  settles = settles ∙ sym (ap (λ z. settled_at z l.cowns.items) is);
  flags = flags ∙ sym (ap (λ z. flagged_at z l.cowns.items) is);
  exchanges = exchanges ∙ sym (ap (λ z. exchanged_at z l.cowns.items) is);
}

-- at each place of the one table is one that is so related to that at this place of the other
abbrev pub Leads : (Live → Live → Type 0) → List (Option Live) → List (Option Live) → Type 0
Leads R live live' = (s : ℕ) (y : Live) → live_at live s ≡ Some y → (x : Live) × (live_at live' s ≡ Some x) × R y x

-- and the other way round
pub record Follows (R : Live → Live → Type 0) (live live' : List (Option Live)) : Type 0 where
  pub before : (s : ℕ) (x : Live) → live_at live' s ≡ Some x → (y : Live) × (live_at live s ≡ Some y) × R y x
  pub after : Leads R live live'

pub follows_as : (R Q : Live → Live → Type 0) → ((l m : Live) → R l m → Q l m) → (live live' : List (Option Live)) → Follows R live live' → Follows Q live live'
follows_as R Q goes live live' f = record {
  before = λ s x e. let b = f.before s x e in (b.0, b.1, goes b.0 x b.2);
  after = λ s y e. let a = f.after s y e in (a.0, a.1, goes y a.0 a.2);
}

-- a request stays that of its behaviour
pub request_led : (live live' : List (Option Live)) (c : ℕ) → Leads (Marked c) live live' → (r : Request) → IsRequestOf live c r → IsRequestOf live' c r
request_led live live' c led r q =
    let x = led r.slot q.this q.is in
    record {
      this = x.0;
      is = x.1;
      settled_is = q.settled_is ∙ ap (nat_lt 0) (sym x.2.0);
      flagged_is = q.flagged_is ∙ ap (nat_lt 0) (sym x.2.1);
    }

-- who is a child or has one, whose request stands in a list and who is ready is so still
module _ (live live' : List (Option Live)) (led : Leads Further live live') where
  pub child_led : (s : ℕ) (x : Live) → IsChildOf live s x → IsChildOf live' s x
  child_led s x h =
      let y = led s h.child h.is in
      record { child = y.0; is = y.1; enqueued = y.2.enqueues h.enqueued; parent_is = h.parent_is ∙ ap (λ z. Some z) (sym y.2.parent) }

  pub parent_led : (s : ℕ) (x : Live) → IsParentOf live s x → IsParentOf live' s x
  parent_led s x h =
      let y = led h.home h.parent h.is in
      record { home = h.home; parent = y.0; is = y.1; row_is = y.2.row x.parent h.row_is; knows = y.2.child s h.knows }

  pub requests_led : (lists : List (List Request)) (place : ℕ → Option Place) → AreChained live lists place → (c i : ℕ) (r : Request)
      → slice_get (slice_index_or lists c []) i ≡ Some r
      → IsRequestOf live' c r
  requests_led lists place k c i r e =
      request_led live live' c (λ s y a. let x = led s y a in (x.0, x.1, x.2.marks c)) r (k.requests c i r e)

  pub ready_led : (ready : List ℕ) → AreReady live ready → AreReady live' ready
  ready_led ready k i s e = let q = k i s e in let x = led s q.0 q.2 in (x.0, q.1, x.1, x.2.ready q.1 q.3)

-- one is put in place of another that it follows
pub follows_set : (R : Live → Live → Type 0) → ((l : Live) → R l l) → (live : List (Option Live)) (slot : ℕ) (l m : Live) → live_at live slot ≡ Some l → R l m
    → Follows R live (set live slot (Some m))
follows_set R same live slot l m is r = record {
  before = λ s x e. elim (live_new live slot (Some m) s x e) [
    | inl h ↦
        let this : m ≡ x = (let f : Some m ≡ Some x = h.1 in cc) in
        (l, ap (live_at live) h.0 ∙ is, subst (λ (z : Live). R l z) this r)
    | inr h ↦ (x, h.1, same x)
  ];
  after = λ s y e. elim (same_or_not s slot) [
    | inl h ↦
        let this : l ≡ y = (let f : Some l ≡ Some y = sym is ∙ ap (live_at live) (sym h) ∙ e in cc) in
        (m, ap (live_at (set live slot (Some m))) h ∙ live_here live slot (Some m) (live_there live slot l is), subst (λ (z : Live). R z m) this r)
    | inr n ↦ (y, live_other live slot (Some m) s n ∙ e, same y)
  ];
}

pub follows_then : (live live' live'' : List (Option Live)) → Follows Same live live' → Follows Same live' live'' → Follows Same live live''
follows_then live live' live'' f g = record {
  before = λ s x e. let b = g.before s x e in let a = f.before s b.0 b.1 in (a.0, a.1, same_then a.0 b.0 x a.2 b.2);
  after = λ s y e. let a = f.after s y e in let b = g.after s a.0 a.1 in (b.0, b.1, same_then y a.0 b.0 a.2 b.2);
}
  where
    same_then : (l m n : Live) → Same l m → Same m n → Same l n
    same_then l m n a b = record {
      number = b.number ∙ a.number;
      parent = b.parent ∙ a.parent;
      behaviour = b.behaviour ∙ a.behaviour;
      spawned = b.spawned ∙ a.spawned;
      row = b.row ∙ a.row;
      asks = b.asks ∙ a.asks;
    }

-- what is read of a place stays
pub read_on : {X : Type 0} (R : Live → Live → Type 0) (f : Option Live → X) (live live' : List (Option Live)) → Follows R live live'
    → ((l m : Live) → R l m → f (Some m) ≡ f (Some l))
    → (s : ℕ) → f (live_at live' s) ≡ f (live_at live s)
read_on R f live live' fs same s =
    elim (live_at live s) as (λ (o : Option Live). live_at live s ≡ o → f (live_at live' s) ≡ f o) [
      | None ↦ λ e.
          elim (live_at live' s) as (λ (o : Option Live). live_at live' s ≡ o → f o ≡ f None) [
            | None ↦ λ g. refl
            | Some x ↦ λ g. let b = fs.before s x g in absurd (let h : None ≡ Some b.0 = sym e ∙ b.1 in cc)
          ] refl
      | Some y ↦ λ e. let a = fs.after s y e in ap f a.1 ∙ same y a.0 a.2
    ] refl

module _ (live live' : List (Option Live)) (fs : Follows Same live live') where
  pub numbered_on : (n : ℕ) → AreNumbered live n → AreNumbered live' n
  numbered_on n k = record {
    once = λ i j l m a b e.
        let x = fs.before i l a in
        let y = fs.before j m b in
        k.once i j x.0 y.0 x.1 y.1 (sym x.2.number ∙ e ∙ y.2.number);
    given = λ i l a. let x = fs.before i l a in subst (λ (z : ℕ). z < n) (sym x.2.number) (k.given i x.0 x.1);
  }

  pub home_on : (homes : List ℕ) → AreAtHome live homes → AreAtHome live' homes
  home_on homes k slot row l a e = let x = fs.before slot l a in k slot row x.0 x.1 (sym x.2.row ∙ e)

  pub number_on : (s : ℕ) → number_at live' s ≡ number_at live s
  number_on s = read_on Same (λ o. option_map_or (λ l. l.number) o 0) live live' fs (λ l m r. r.number) s

  pub queues_on : (lists : List (List Request)) → queues_of live' lists ≡ queues_of live lists
  queues_on lists = λ i. map (λ requests. map (λ r. number_on r.slot i) requests) lists

  pub rows_on : (ready : List ℕ) → rows_at live' ready ≡ rows_at live ready
  rows_on ready = λ i. map (λ s. row_on s i) ready
    where
      row_on : (s : ℕ) → option_map_or (λ (l : Live). row_or_0 l.stage) (live_at live' s) 0 ≡ option_map_or (λ (l : Live). row_or_0 l.stage) (live_at live s) 0
      row_on s =
          read_on Same (λ o. option_map_or (λ (l : Live). row_or_0 l.stage) o 0) live live' fs (λ l m r. ap (λ o. option_map_or (λ (x : ℕ). x) o 0) r.row) s

  pub of_run_on : (p : Program) (rows : List Member) → AreOfRun p rows live → AreOfRun p rows live'
  of_run_on p rows k = record {
    recorded = λ s row l a e.
        let x = fs.before s l a in
        let q = k.recorded s row x.0 x.1 (sym x.2.row ∙ e) in
        record {
          member = q.member;
          is = q.is;
          behaviour_is = q.behaviour_is ∙ sym x.2.behaviour;
          spawned_is = q.spawned_is ∙ sym x.2.spawned;
        };
    asking = λ s l a e.
        let x = fs.before s l a in
        let q = k.asking s x.0 x.1 (sym x.2.asks ∙ e) in
        record {
          wish = q.wish;
          next = ap (λ n. next_wish p (slice_get rows n)) x.2.parent ∙ q.next;
          kind_is = q.kind_is ∙ sym (ap (λ b. b.kind) x.2.behaviour);
          args_are = q.args_are ∙ sym (ap (λ b. b.args) x.2.behaviour);
          cowns_are = q.cowns_are ∙ sym (ap (λ b. b.cowns) x.2.behaviour);
          new = x.2.spawned ∙ q.new;
        };
  }

-- who asks is wished for still, where its parent's next wish is the same
pub wished_still : (p : Program) (rows rows' : List Member) (l : Live) → next_wish p (slice_get rows' l.parent) ≡ next_wish p (slice_get rows l.parent)
    → IsWished p rows l → IsWished p rows' l
wished_still p rows rows' l e h =
    record { wish = h.wish; next = e ∙ h.next; kind_is = h.kind_is; args_are = h.args_are; cowns_are = h.cowns_are; new = h.new }

pub chained_on : (live live' : List (Option Live)) → Follows Onward live live' → (lists : List (List Request)) (place : ℕ → Option Place)
    → AreChained live lists place → AreChained live' lists place
chained_on live live' fs lists place k = record {
  requests = λ c i r e.
      request_led live live' c (λ s y a. let x = fs.after s y a in (x.0, x.1, (ap (times c) x.2.settles, ap (times c) x.2.flags))) r (k.requests c i r e);
  places = λ s. k.places s ∙ sym (read_on Onward (λ o. option_map place_of o) live live' fs
      (λ l m r. λ i. Some (record { cowns = r.cowns i; exchanged = r.exchanges i })) s);
}

pub in_hand_on : (live live' : List (Option Live)) → Follows Known live live' → AreInHand live → AreInHand live'
in_hand_on live live' fs k = record {
  children = λ home slot l a e.
      let x = fs.before home l a in
      let q = k.children home slot x.0 x.1 (sym x.2.child ∙ e) in
      let y = fs.after slot q.child q.is in
      record {
        child = y.0;
        is = y.1;
        enqueued = y.2.enqueues ∙ q.enqueued;
        parent_is = x.2.same.row ∙ q.parent_is ∙ ap (λ z. Some z) (sym y.2.same.parent);
      };
  parents = λ slot l a e.
      let x = fs.before slot l a in
      let q = k.parents slot x.0 x.1 (sym x.2.enqueues ∙ e) in
      let y = fs.after q.home q.parent q.is in
      record {
        home = q.home;
        parent = y.0;
        is = y.1;
        row_is = y.2.same.row ∙ q.row_is ∙ ap (λ z. Some z) (sym x.2.same.parent);
        knows = y.2.child ∙ q.knows;
      };
}
