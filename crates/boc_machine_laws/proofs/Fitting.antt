-- The open behaviours stay those of the rows of the run.
use Rattle.std.proofs.Common.{◌≡◌, ◌≢◌, ℕ, ◌<◌, ◌⊎◌, inl, inr, true, false, List, [], ◌∷◌, ◌++◌, length, refl, sym, ◌∙◌, ap, arith, length-append}
use Rattle.std.specs.Prelude.{slice_get, Option, Some, None, option_map}
use Rattle.boc_program.specs.declared.program.Program.{Program}
use Rattle.boc_runs.specs.declared.stage.Stage.{Stage}
use Rattle.boc_runs.specs.declared.stage.Stage.TheVariants.{Asking, Recorded}
use Rattle.boc_program.specs.Meaning.{Wish}
use Rattle.boc_program.specs.Rising.{rising}
use Rattle.boc_runs.specs.Serial.{behaviour_of}
use Rattle.boc_program.specs.Changed.{changed}
use Rattle.boc_runs.specs.Lives.{Pending, Running, Ended}
use Rattle.boc_runs.specs.Run.{Member, waiting, next_wish, state_of}
use Rattle.boc_runs.specs.machine.Stages.{OpenBehaviour, row_at, life_at, asks_at, enqueues_at, row_of, cowns_of, life, asks, enqueues, parent_of, offset_of}
use Rattle.boc_runs.specs.machine.Sound.{Fits, HasRow, AsksForWish}
use Rattle.boc_program.proofs.ChangedItems.{place_below, last_item, front_item, length-changed}
use Rattle.boc_machine_laws.proofs.Lists.{same_or_not}
use Rattle.boc_machine_laws.proofs.Lawful.{OthersStay, kept, at_each}
use Rattle.boc_machine_laws.proofs.Rows.{changed_same, changed_other, some_or_none, with_life, life_there, with_one_more}

-- whoever asks is being enqueued
pub asks_enqueues_at : (s : Stage) → asks_at s ≡ true → enqueues_at s ≡ true
asks_enqueues_at (Asking i e) h = refl
asks_enqueues_at (Recorded r ph) h = absurd (let f : false ≡ true = h in cc)

pub asks_enqueues : (b : Option OpenBehaviour) → asks b ≡ true → enqueues b ≡ true
asks_enqueues None h = absurd (let f : false ≡ true = h in cc)
asks_enqueues (Some b) h = asks_enqueues_at b.stage h

-- and has no row
no_row_while_asking_at : (s : Stage) (r : ℕ) → asks_at s ≡ true → row_at s ≢ Some r
no_row_while_asking_at (Asking i e) r h t = let f : None ≡ Some r = t in cc
no_row_while_asking_at (Recorded q ph) r h t = let f : false ≡ true = h in cc

pub no_row_while_asking : (b : Option OpenBehaviour) (r : ℕ) → asks b ≡ true → row_of b ≢ Some r
no_row_while_asking None r h t = let f : None ≡ Some r = t in cc
no_row_while_asking (Some b) r h t = no_row_while_asking_at b.stage r h t

-- ---- a behaviour goes on

-- asks and enqueues may end, and nothing else of it changes
pub record GoesOn (b b' : Option OpenBehaviour) : Type 0 where
  pub row : row_of b' ≡ row_of b
  pub life_same : life b' ≡ life b
  pub cowns : cowns_of b' ≡ cowns_of b
  pub parent : parent_of b' ≡ parent_of b
  pub offset : offset_of b' ≡ offset_of b
  pub asks_less : asks b' ≡ true → asks b ≡ true
  pub enqueues_less : enqueues b' ≡ true → enqueues b ≡ true

-- one that goes on from a stage to another
pub goes_on_at : (b : OpenBehaviour) (st st' : Stage) (o o' : Option OpenBehaviour) → o ≡ Some b → b.stage ≡ st
    → o' ≡ Some (record b { stage = st' }) → row_at st' ≡ row_at st → life_at st' ≡ life_at st
    → (asks_at st' ≡ true → asks_at st ≡ true) → (enqueues_at st' ≡ true → enqueues_at st ≡ true) → GoesOn o o'
goes_on_at b st st' o o' is stage is' row life_same asks_less enqueues_less = record {
  row = ap row_of is' ∙ row ∙ sym (ap row_of is ∙ ap row_at stage);
  life_same = ap life is' ∙ life_same ∙ sym (ap life is ∙ ap life_at stage);
  cowns = ap cowns_of is' ∙ sym (ap cowns_of is);
  parent = ap parent_of is' ∙ sym (ap parent_of is);
  offset = ap offset_of is' ∙ sym (ap offset_of is);
  asks_less = λ h. ap asks is ∙ ap asks_at stage ∙ asks_less (sym (ap asks is') ∙ h);
  enqueues_less = λ h. ap enqueues is ∙ ap enqueues_at stage ∙ enqueues_less (sym (ap enqueues is') ∙ h);
}

goes_on_same : (b : Option OpenBehaviour) → GoesOn b b
goes_on_same b = record {
  row = refl;
  life_same = refl;
  cowns = refl;
  parent = refl;
  offset = refl;
  asks_less = λ h. h;
  enqueues_less = λ h. h;
}

pub fits_on : (p : Program) (rows : List Member) (at at' : ℕ → Option OpenBehaviour) (who : ℕ) → Fits p rows at
    → OthersStay at at' who → GoesOn (at who) (at' who) → Fits p rows at'
fits_on p rows at at' who f other g =
    let on : (w : ℕ) → GoesOn (at w) (at' w) =
    λ w. at_each (λ v b. GoesOn (at v) b) at at' who other g (λ v n. goes_on_same (at v)) w in
    record {
      has_row = λ w r e. let x = f.has_row w r (sym (on w).row ∙ e) in
          record {
            member = x.member;
            is = x.is;
            life_is = x.life_is ∙ sym (on w).life_same;
            cowns_are = (on w).cowns
                ∙ x.cowns_are;
          };
      open_rows = λ r x e n. let w = f.open_rows r x e n in (w.0, (on w.0).row ∙ w.1);
      one_row = λ v w r d e. f.one_row v w r (sym (on v).row ∙ d) (sym (on w).row ∙ e);
      asking = λ w h. let a = f.asking w ((on w).asks_less h) in
          record {
            wish = a.wish;
            next = ap (λ q. next_wish p (slice_get rows q)) (on w).parent
                ∙ a.next;
            offset_is = (on w).offset ∙ a.offset_is;
            cowns_are = (on w).cowns ∙ a.cowns_are;
          };
      parents = λ w h. ap (state_of rows) (on w).parent ∙ f.parents w ((on w).enqueues_less h);
      one_enqueue = λ v w h k e. f.one_enqueue v w ((on v).enqueues_less h) ((on w).enqueues_less k)
          (sym (on v).parent ∙ e ∙ (on w).parent);
    }

-- ---- its row goes on beside it

-- the row is changed beside it
pub record GoesOnWithRow (b b' : Option OpenBehaviour) (g : Member → Member) : Type 0 where
  pub row : row_of b' ≡ row_of b
  pub cowns : cowns_of b' ≡ cowns_of b
  pub parent : parent_of b' ≡ parent_of b
  pub offset : offset_of b' ≡ offset_of b
  pub asks_same : asks b' ≡ asks b
  pub enqueues_same : enqueues b' ≡ enqueues b
  pub life_is : (m : Member) → (g m).life ≡ life b'
  pub behaviour_kept : (m : Member) → (g m).behaviour ≡ m.behaviour

-- nobody that it spawns is being enqueued
pub fits_row : (p : Program) (rows : List Member) (at at' : ℕ → Option OpenBehaviour) (who r : ℕ)
    (g : Member → Member) → Fits p rows at → OthersStay at at' who
    → row_of (at who) ≡ Some r → GoesOnWithRow (at who) (at' who) g
    → ((w : ℕ) → enqueues (at w) ≡ true → parent_of (at w) ≢ r)
    → Fits p (changed rows r g (slice_get rows r)) at'
fits_row p rows at at' who r g f other is h childless =
    let new = changed rows r g (slice_get rows r) in
    let mine = f.has_row who r is in
    let rows_of : (w : ℕ) → row_of (at' w) ≡ row_of (at w) = kept row_of at at' who other h.row in
    let parents_of : (w : ℕ) → parent_of (at' w) ≡ parent_of (at w) = kept parent_of at at' who other h.parent in
    let asks_of : (w : ℕ) → asks (at' w) ≡ asks (at w) = kept asks at at' who other h.asks_same in
    let enqueues_of : (w : ℕ) → enqueues (at' w) ≡ enqueues (at w) = kept enqueues at at' who other h.enqueues_same in
    let offsets_all : (w : ℕ) → offset_of (at' w) ≡ offset_of (at w) = kept offset_of at at' who other h.offset in
    let cowns_all : (w : ℕ) → cowns_of (at' w) ≡ cowns_of (at w) = kept cowns_of at at' who other h.cowns in
    let not_parent : (w : ℕ) → enqueues (at w) ≡ true
    → slice_get new (parent_of (at' w)) ≡ slice_get rows (parent_of (at w)) =
    λ w e. ap (slice_get new) (parents_of w)
    ∙ changed_other rows r (parent_of (at w)) g (slice_get rows r) (childless w e) in
    record {
      has_row = λ w. at_each (λ v b. (s : ℕ) → row_of b ≡ Some s → HasRow new b s) at at' who other
          (λ s e.
          let same : r ≡ s = (let q : Some r ≡ Some s = sym is ∙ sym h.row ∙ e in cc) in
          record {
            member = g mine.member;
            is = ap (slice_get new) (sym same) ∙ changed_same rows r g ∙ ap (option_map g) mine.is;
            life_is = h.life_is mine.member;
            cowns_are = h.cowns ∙ mine.cowns_are ∙ ap (λ b. rising b.cowns) (sym (h.behaviour_kept mine.member));
          })
          (λ v n s e.
          let x = f.has_row v s e in
          let differ : s ≢ r = λ q. n (f.one_row v who r (e ∙ ap (λ t. Some t) q) is) in
          record {
            member = x.member;
            is = changed_other rows r s g (slice_get rows r) differ
                ∙ x.is;
            life_is = x.life_is;
            cowns_are = x.cowns_are;
          }) w;
      open_rows = λ s x e n.
          elim (same_or_not s r) [
            | inl q ↦ (who, h.row ∙ is ∙ ap (λ t. Some t) (sym q))
            | inr q ↦ let w = f.open_rows s x (sym (changed_other rows r s g (slice_get rows r) q) ∙ e) n in
                (w.0, rows_of w.0 ∙ w.1)
          ];
      one_row = λ v w s d e. f.one_row v w s (sym (rows_of v) ∙ d) (sym (rows_of w) ∙ e);
      asking = λ w e.
          let a0 : asks (at w) ≡ true = sym (asks_of w) ∙ e in
          let a = f.asking w a0 in
          record {
            wish = a.wish;
            next = ap (next_wish p) (not_parent w (asks_enqueues (at w) a0))
                ∙ a.next;
            offset_is = offsets_all w ∙ a.offset_is;
            cowns_are = cowns_all w ∙ a.cowns_are;
          };
      parents = λ w e. let e0 : enqueues (at w) ≡ true = sym (enqueues_of w)
          ∙ e in ap (option_map (λ (m : Member). m.life)) (not_parent w e0) ∙ f.parents w e0;
      one_enqueue = λ v w d e q. f.one_enqueue v w (sym (enqueues_of v) ∙ d) (sym (enqueues_of w) ∙ e)
          (sym (parents_of v) ∙ q ∙ parents_of w);
    }

-- ---- a behaviour whose row has ended goes

pub fits_gone : (p : Program) (rows : List Member) (at at' : ℕ → Option OpenBehaviour) (who r : ℕ) → Fits p rows at
    → OthersStay at at' who
    → row_of (at who) ≡ Some r → life (at who) ≡ Ended → at' who ≡ None → Fits p rows at'
fits_gone p rows at at' who r f other is ended none =
    let none_row : (s : ℕ) → row_of (at' who) ≢ Some s = λ s e. let q : None ≡ Some s = sym (ap row_of none)
    ∙ e in cc in
    let none_asks : asks (at' who) ≢ true = λ e. let q : false ≡ true = sym (ap asks none) ∙ e in cc in
    let none_enqueues : enqueues (at' who) ≢ true = λ e. let q : false ≡ true = sym (ap enqueues none) ∙ e in cc in
    record {
      has_row = λ w. at_each (λ v b. (s : ℕ) → row_of b ≡ Some s → HasRow rows b s) at at' who other
          (λ s e. absurd (none_row s e)) (λ v n. f.has_row v) w;
      open_rows = λ s x e n.
          let w = f.open_rows s x e n in
          let live : w.0 ≢ who = λ q.
          let m = f.has_row who r is in
          let same : r ≡ s = (let t : Some r ≡ Some s = sym is ∙ ap (λ v. row_of (at v)) (sym q) ∙ w.1 in cc) in
          let one : m.member ≡ x = (let t : Some m.member ≡ Some x = sym m.is ∙ ap (slice_get rows) same ∙ e in cc) in
          n (ap (λ y. y.life) (sym one) ∙ m.life_is ∙ ended) in
          (w.0, ap row_of (other w.0 live) ∙ w.1);
      one_row = λ v w s. at_each (λ u b. row_of b ≡ Some s → row_of (at' w) ≡ Some s → u ≡ w) at at' who other
          (λ d e. absurd (none_row s d))
          (λ u n d. at_each (λ t b. row_of b ≡ Some s → u ≡ t) at at' who other (λ e. absurd (none_row s e))
          (λ t m e. f.one_row u t s d e) w) v;
      asking = λ w. at_each (λ v b. asks b ≡ true → AsksForWish p rows b) at at' who other (λ e. absurd (none_asks e))
          (λ v n. f.asking v) w;
      parents = λ w. at_each (λ v b. enqueues b ≡ true → state_of rows (parent_of b) ≡ Some Running) at at' who other
          (λ e. absurd (none_enqueues e)) (λ v n. f.parents v) w;
      one_enqueue = λ v w. at_each (λ u b. enqueues b ≡ true → enqueues (at' w) ≡ true
          → parent_of b ≡ parent_of (at' w) → u ≡ w) at at' who other
          (λ d e q. absurd (none_enqueues d))
          (λ u n d. at_each (λ t b. enqueues b ≡ true → parent_of (at u) ≡ parent_of b → u ≡ t) at at' who other
          (λ e q. absurd (none_enqueues e)) (λ t m e q. f.one_enqueue u t d e q) w) v;
    }

-- ---- the spawn of a behaviour that asks is recorded

pub record GetsRow (b b' : Option OpenBehaviour) (n : ℕ) : Type 0 where
  pub asked : asks b ≡ true
  pub row : row_of b' ≡ Some n
  pub pending : life b' ≡ Pending
  pub cowns : cowns_of b' ≡ cowns_of b
  pub parent : parent_of b' ≡ parent_of b
  pub asks_not : asks b' ≡ false
  pub enqueues_still : enqueues b' ≡ true

-- the rows with a child more
abbrev pub with_child : List Member → ℕ → Wish → List Member
with_child rows parent w = changed rows parent with_one_more (slice_get rows parent) ++ waiting (behaviour_of w) ∷ []

-- after a spawn: a row that was there is alike, and a row that is there was there or is the new one
record Alike (rows : List Member) (s : ℕ) (x : Member) : Type 0 where
  y : Member
  is : slice_get rows s ≡ Some y
  life_same : y.life ≡ x.life
  behaviour_same : y.behaviour ≡ x.behaviour

spawned_keeps : (rows : List Member) (q : ℕ) (w : Wish) (s : ℕ) (x : Member) → slice_get rows s ≡ Some x
    → Alike (with_child rows q w) s x
spawned_keeps rows q w s x e =
    let front = changed rows q with_one_more (slice_get rows q) in
    let low : s < length front = omega (
      arith,
      length-changed rows q with_one_more (slice_get rows q),
      place_below rows s x e,
    ) in
    elim (same_or_not s q) [
      | inl h ↦ record {
        y = with_one_more x;
        is = front_item front (waiting (behaviour_of w)) s low ∙ ap (slice_get front) h
            ∙ changed_same rows q with_one_more ∙ ap (option_map with_one_more) (ap (slice_get rows) (sym h) ∙ e);
        life_same = refl;
        behaviour_same = refl;
      }
      | inr h ↦ record {
        y = x;
        is = front_item front (waiting (behaviour_of w)) s low
            ∙ changed_other rows q s with_one_more (slice_get rows q) h ∙ e;
        life_same = refl;
        behaviour_same = refl;
      }
    ]

spawned_from : (rows : List Member) (q : ℕ) (w : Wish) (s : ℕ) (y : Member) → slice_get (with_child rows q w) s ≡ Some y
    → (s ≡ length rows) ⊎ ((x : Member) × (slice_get rows s ≡ Some x) × (x.life ≡ y.life))
spawned_from rows q w s y e =
    let front = changed rows q with_one_more (slice_get rows q) in
    elim (some_or_none rows s) [
      | inl h ↦ inl (omega (
        arith,
        length-changed rows q with_one_more (slice_get rows q),
        length-append front (waiting (behaviour_of w) ∷ []),
        place_below (with_child rows q w) s y e,
      ))
      | inr t ↦
          let k = spawned_keeps rows q w s t.0 t.1 in
          let one : k.y ≡ y = (let f : Some k.y ≡ Some y = sym k.is ∙ e in cc) in
          inr (t.0, t.1, sym k.life_same ∙ ap (λ z. z.life) one)
    ]

pub fits_recorded : (p : Program) (rows : List Member) (at at' : ℕ → Option OpenBehaviour) (who : ℕ) (w : Wish)
    → Fits p rows at → OthersStay at at' who
    → GetsRow (at who) (at' who) (length rows) → next_wish p (slice_get rows (parent_of (at who))) ≡ Some w
    → Fits p (with_child rows (parent_of (at who)) w) at'
fits_recorded p rows at at' who w f other h is_next =
    let q = parent_of (at who) in
    let front = changed rows q with_one_more (slice_get rows q) in
    let new = with_child rows q w in
    let was_enqueued : enqueues (at who) ≡ true = asks_enqueues (at who) h.asked in
    let a = f.asking who h.asked in
    let wish_same : a.wish ≡ w = (let t : Some a.wish ≡ Some w = sym a.next ∙ is_next in cc) in
    let long : length front ≡ length rows = length-changed rows q with_one_more (slice_get rows q) in
    let last : slice_get new (length rows) ≡ Some (waiting (behaviour_of w)) = ap (slice_get new) (sym long)
    ∙ last_item front (waiting (behaviour_of w)) in
    let below : (v r : ℕ) → row_of (at v) ≡ Some r
    → r < length rows = λ v r e. let x = f.has_row v r e in place_below rows r x.member x.is in
    let parents_of : (v : ℕ) → parent_of (at' v) ≡ parent_of (at v) = kept parent_of at at' who other h.parent in
    let enqueues_of : (v : ℕ) → enqueues (at' v) ≡ enqueues (at v) =
    kept enqueues at at' who other (h.enqueues_still ∙ sym was_enqueued) in
    record {
      has_row = λ v. at_each (λ u b. (s : ℕ) → row_of b ≡ Some s → HasRow new b s) at at' who other
          (λ s e.
          let same : length rows ≡ s = (let t : Some (length rows) ≡ Some s = sym h.row ∙ e in cc) in
          record {
            member = waiting (behaviour_of w);
            is = ap (slice_get new) (sym same)
                ∙ last;
            life_is = sym h.pending;
            cowns_are = h.cowns ∙ a.cowns_are ∙ ap (λ z. rising z.cowns) wish_same;
          })
          (λ u n s e.
          let x = f.has_row u s e in
          let y = spawned_keeps rows q w s x.member x.is in
          record {
            member = y.y;
            is = y.is;
            life_is = y.life_same ∙ x.life_is;
            cowns_are = x.cowns_are
                ∙ ap (λ z. rising z.cowns) (sym y.behaviour_same);
          }) v;
      open_rows = λ s y e n.
          elim (spawned_from rows q w s y e) [
            | inl t ↦ (who, h.row ∙ ap (λ m. Some m) (sym t))
            | inr x ↦
                let u = f.open_rows s x.0 x.1 (λ t. n (sym x.2 ∙ t)) in
                let differ : u.0 ≢ who = λ t. no_row_while_asking (at who) s h.asked
                (ap (λ v. row_of (at v)) (sym t) ∙ u.1) in
                (u.0, ap row_of (other u.0 differ) ∙ u.1)
          ];
      one_row = λ u v s. at_each (λ u b. row_of b ≡ Some s → row_of (at' v) ≡ Some s → u ≡ v) at at' who other
          (λ d. at_each (λ t b. row_of b ≡ Some s → who ≡ t) at at' who other (λ e. refl)
          (λ t n e. absurd (let l = below t s e in
          let m : length rows ≡ s = (let z : Some (length rows) ≡ Some s = sym h.row ∙ d in cc) in omega arith)) v)
          (λ u n d. at_each (λ t b. row_of b ≡ Some s → u ≡ t) at at' who other
          (λ e. absurd (let l = below u s d in
          let m : length rows ≡ s = (let z : Some (length rows) ≡ Some s = sym h.row ∙ e in cc) in omega arith))
          (λ t m e. f.one_row u t s d e) v) u;
      asking = λ v. at_each (λ u b. asks b ≡ true → AsksForWish p new b) at at' who other
          (λ e. absurd (let t : false ≡ true = sym h.asks_not ∙ e in cc))
          (λ u n e.
          let b = f.asking u e in
          let differ : parent_of (at u) ≢ q = λ t. n (f.one_enqueue u who (asks_enqueues (at u) e) was_enqueued t) in
          let x = with_life rows (parent_of (at u)) Running (f.parents u (asks_enqueues (at u) e)) in
          let low : parent_of (at u) < length front =
          omega (arith, long, place_below rows (parent_of (at u)) x.0 x.1) in
          record {
            wish = b.wish;
            next = ap (next_wish p) (front_item front (waiting (behaviour_of w)) (parent_of (at u)) low
                ∙ changed_other rows q (parent_of (at u)) with_one_more (slice_get rows q) differ) ∙ b.next;
            offset_is = b.offset_is;
            cowns_are = b.cowns_are;
          }) v;
      parents = λ v e.
          let x = with_life rows (parent_of (at v)) Running (f.parents v (sym (enqueues_of v) ∙ e)) in
          let y = spawned_keeps rows q w (parent_of (at v)) x.0 x.1 in
          ap (state_of new) (parents_of v) ∙ life_there new (parent_of (at v)) y.y y.is
          ∙ ap (λ l. Some l) (y.life_same ∙ x.2);
      one_enqueue = λ u v d e t. f.one_enqueue u v (sym (enqueues_of u) ∙ d) (sym (enqueues_of v) ∙ e)
          (sym (parents_of u) ∙ t ∙ parents_of v);
    }

-- ---- a new behaviour asks, for its parent's next wish

pub fits_opened : (p : Program) (rows : List Member) (at at' : ℕ → Option OpenBehaviour) (who : ℕ) → Fits p rows at
    → OthersStay at at' who
    → at who ≡ None → row_of (at' who) ≡ None → AsksForWish p rows (at' who)
    → state_of rows (parent_of (at' who)) ≡ Some Running
    → ((v : ℕ) → enqueues (at v) ≡ true → parent_of (at v) ≢ parent_of (at' who))
    → Fits p rows at'
fits_opened p rows at at' who f other none no_row asked runs childless =
    let none_row : (s : ℕ) → row_of (at' who) ≢ Some s = λ s e. let q : None ≡ Some s = sym no_row ∙ e in cc in
    record {
      has_row = λ v. at_each (λ v b. (s : ℕ) → row_of b ≡ Some s → HasRow rows b s) at at' who other
          (λ s e. absurd (none_row s e)) (λ u n. f.has_row u) v;
      open_rows = λ s y e n.
          let v = f.open_rows s y e n in
          let live : v.0 ≢ who = λ q. let t : None ≡ Some s = sym (ap row_of none) ∙ ap (λ u. row_of (at u)) (sym q)
          ∙ v.1 in cc in
          (v.0, ap row_of (other v.0 live) ∙ v.1);
      one_row = λ v w s. at_each (λ u b. row_of b ≡ Some s → row_of (at' w) ≡ Some s → u ≡ w) at at' who other
          (λ d e. absurd (none_row s d))
          (λ u n d. at_each (λ t b. row_of b ≡ Some s → u ≡ t) at at' who other (λ e. absurd (none_row s e))
          (λ t m e. f.one_row u t s d e) w) v;
      asking = λ v. at_each (λ v b. asks b ≡ true → AsksForWish p rows b) at at' who other (λ e. asked)
          (λ v n. f.asking v) v;
      parents = λ v. at_each (λ v b. enqueues b ≡ true → state_of rows (parent_of b) ≡ Some Running) at at' who other
          (λ e. runs) (λ v n. f.parents v) v;
      one_enqueue = λ v w. at_each (λ u b. enqueues b ≡ true → enqueues (at' w) ≡ true
          → parent_of b ≡ parent_of (at' w) → u ≡ w) at at' who other
          (λ d. at_each (λ t b. enqueues b ≡ true → parent_of (at' who) ≡ parent_of b → who ≡ t) at at' who other
          (λ e q. refl) (λ t m e q. absurd (childless t e (sym q))) w)
          (λ u n d. at_each (λ t b. enqueues b ≡ true → parent_of (at u) ≡ parent_of b → u ≡ t) at at' who other
          (λ e q. absurd (childless u d q)) (λ t m e q. f.one_enqueue u t d e q) w) v;
    }
