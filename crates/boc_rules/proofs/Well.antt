-- What holds of the rows of a legal log.
use Rattle.std.proofs.Common.{◌≡◌, ℕ, ◌<◌, ◌≤◌, ◌≢◌, ◌⊎◌, List, [], ◌∷◌, ◌++◌, length, refl, sym, ◌∙◌, ap, subst, inl, inr, arith, length-append}
use Rattle.std.proofs.Math.ListN.{length-set}
use Rattle.std.specs.Prelude.{slice_get, slice_set, Some}
use Rattle.std.specs.List.{Contains}
use Rattle.std.proofs.lemmas.Option.{slice_get_within}
use Rattle.std.proofs.lemmas.Bool.{cases_eq}
use Rattle.boc_program.specs.declared.limits.TheConstants.{MOST_ROWS, MOST_TICKS}
use Rattle.boc_program.specs.Cowns.{AreCowns, AreAmong}
use Rattle.boc_runs.specs.Lives.{Pending, Ended}
use Rattle.boc_runs.specs.Legal.{Entry, pending}
use Rattle.boc_program.proofs.ChangedItems.{set_other, front_item}
use Rattle.boc_rules.proofs.Lists.{got_set, set_same, got_push, one_got, got_at}

-- main has parent 0, offset 0 and no cowns
pub record IsMain (e : Entry) : Type 0 where
  pub parent : e.parent ≡ 0
  pub offset : e.offset ≡ 0
  pub cowns : e.cowns ≡ []

-- another row was spawned by an earlier one
pub record IsChild (rows : List Entry) (r : ℕ) (e : Entry) : Type 0 where
  pub before : e.parent < r
  pub above : 0 < e.offset
  pub spawner : Entry
  pub is : slice_get rows e.parent ≡ Some spawner
  pub reached : e.offset ≤ spawner.last

-- the ticks of a row that is over, and what it wrote
pub record HasEnded (e : Entry) : Type 0 where
  pub low : 0 < e.ticks
  pub high : e.ticks ≤ MOST_TICKS
  pub cover : e.last ≤ e.ticks
  pub own : AreAmong e.cowns e.written

pub record IsWell (count : ℕ) (rows : List Entry) : Type 0 where
  pub few : length rows ≤ MOST_ROWS
  pub main : (e : Entry) → slice_get rows 0 ≡ Some e → IsMain e
  pub cowned : (r : ℕ) (e : Entry) → slice_get rows r ≡ Some e → AreCowns count e.cowns
  pub child : (r : ℕ) (e : Entry) → 0 < r → slice_get rows r ≡ Some e → IsChild rows r e
  pub siblings : (a b : ℕ) (d e : Entry) → 0 < a → a < b → slice_get rows a ≡ Some d → slice_get rows b ≡ Some e → d.parent ≡ e.parent → d.offset < e.offset
  pub ended : (r : ℕ) (e : Entry) → slice_get rows r ≡ Some e → e.life ≡ Ended → HasEnded e
  pub in_turn : (a b : ℕ) (d e : Entry) (c : ℕ) → a < b → slice_get rows a ≡ Some d → slice_get rows b ≡ Some e → Contains d.cowns c → Contains e.cowns c
      → e.life ≢ Pending → d.life ≡ Ended

-- a row later: who spawned it, and its cowns, stay
pub record IsLike (e v : Entry) : Type 0 where
  pub parent : v.parent ≡ e.parent
  pub offset : v.offset ≡ e.offset
  pub cowns : v.cowns ≡ e.cowns
  pub last : e.last ≤ v.last

-- a change of row r after which its rows are still well
pub record IsNext (rows : List Entry) (r : ℕ) (e v : Entry) : Type 0 where
  pub is : slice_get rows r ≡ Some e
  pub like : IsLike e v
  pub ticks : v.life ≡ Ended → HasEnded v
  pub after_others : (a : ℕ) (d : Entry) (c : ℕ) → a < r → slice_get rows a ≡ Some d → Contains d.cowns c → Contains e.cowns c → v.life ≢ Pending
      → d.life ≡ Ended
  pub before_others : (b : ℕ) (d : Entry) (c : ℕ) → r < b → slice_get rows b ≡ Some d → Contains e.cowns c → Contains d.cowns c → d.life ≢ Pending
      → v.life ≡ Ended

like_itself : (e : Entry) → IsLike e e
like_itself e = record { parent = refl; offset = refl; cowns = refl; last = omega arith }

-- a row of the changed list was there before
pub came_from : (rows : List Entry) (r : ℕ) (e v : Entry) (k : ℕ) (x : Entry) → slice_get rows r ≡ Some e → IsLike e v
    → slice_get (slice_set rows r v) k ≡ Some x → (y : Entry) × (slice_get rows k ≡ Some y) × IsLike y x
came_from rows r e v k x is like g =
    elim (got_set rows r k v x g) [
      | inl p ↦ (e, got_at rows k r e p.0 is, subst (IsLike e) p.1 like)
      | inr p ↦ (x, p.1, like_itself x)
    ]

-- and a row that was there is in the changed list
pub goes_to : (rows : List Entry) (r : ℕ) (e v : Entry) (k : ℕ) (y : Entry) → slice_get rows r ≡ Some e → IsLike e v → slice_get rows k ≡ Some y
    → (k ≡ r) ⊎ (k ≢ r) → (x : Entry) × (slice_get (slice_set rows r v) k ≡ Some x) × IsLike y x
goes_to rows r e v k y is like g (inl p) =
    (v, got_at (slice_set rows r v) k r v p (set_same rows r v e is), subst (λ (z : Entry). IsLike z v) (one_got rows k e y (got_at rows k r e p is) g) like)
goes_to rows r e v k y is like g (inr p) = (y, set_other rows r k v p ∙ g, like_itself y)

-- rows of the changed list that share a cown end in turn
turn : (count : ℕ) (rows : List Entry) (r : ℕ) (e v : Entry) → IsWell count rows → IsNext rows r e v → (a b : ℕ) (d f : Entry) (c : ℕ) → a < b
    → ((a ≡ r) × (v ≡ d)) ⊎ ((a ≢ r) × (slice_get rows a ≡ Some d)) → ((b ≡ r) × (v ≡ f)) ⊎ ((b ≢ r) × (slice_get rows b ≡ Some f))
    → Contains d.cowns c → Contains f.cowns c → f.life ≢ Pending → d.life ≡ Ended
turn count rows r e v w n a b d f c less (inl p) (inl q) hd hf np = absurd (omega (arith, p.0, q.0))
turn count rows r e v w n a b d f c less (inl p) (inr q) hd hf np =
    let he : Contains e.cowns c = subst (λ (cs : List ℕ). Contains cs c) (sym (ap (λ (z : Entry). z.cowns) p.1) ∙ n.like.cowns) hd in
    sym (ap (λ (z : Entry). z.life) p.1) ∙ n.before_others b f c (subst (λ (k : ℕ). k < b) p.0 less) q.1 he hf np
turn count rows r e v w n a b d f c less (inr p) (inl q) hd hf np =
    let he : Contains e.cowns c = subst (λ (cs : List ℕ). Contains cs c) (sym (ap (λ (z : Entry). z.cowns) q.1) ∙ n.like.cowns) hf in
    n.after_others a d c (subst (λ (k : ℕ). a < k) q.0 less) p.1 hd he (λ l. np (sym (ap (λ (z : Entry). z.life) q.1) ∙ l))
turn count rows r e v w n a b d f c less (inr p) (inr q) hd hf np = w.in_turn a b d f c less p.1 q.1 hd hf np

pub well_set : (count : ℕ) (rows : List Entry) (r : ℕ) (e v : Entry) → IsWell count rows → IsNext rows r e v → IsWell count (slice_set rows r v)
well_set count rows r e v w n = record {
  few = subst (λ (l : ℕ). l ≤ MOST_ROWS) (sym (length-set rows r v)) w.few;
  main = λ x g.
      let y = came_from rows r e v 0 x n.is n.like g in
      let m = w.main y.0 y.1 in
      record { parent = y.2.parent ∙ m.parent; offset = y.2.offset ∙ m.offset; cowns = y.2.cowns ∙ m.cowns };
  cowned = λ k x g.
      let y = came_from rows r e v k x n.is n.like g in
      subst (λ (cs : List ℕ). AreCowns count cs) (sym y.2.cowns) (w.cowned k y.0 y.1);
  child = λ k x more g.
      let y = came_from rows r e v k x n.is n.like g in
      let h = w.child k y.0 more y.1 in
      let s = goes_to rows r e v y.0.parent h.spawner n.is n.like h.is (cases_eq y.0.parent r) in
      record {
        before = subst (λ (p : ℕ). p < k) (sym y.2.parent) h.before;
        above = subst (λ (o : ℕ). 0 < o) (sym y.2.offset) h.above;
        spawner = s.0;
        is = got_at (slice_set rows r v) x.parent y.0.parent s.0 y.2.parent s.1;
        reached = omega (arith, y.2.offset, h.reached, s.2.last);
      };
  siblings = λ a b d f main less g h same.
      let y = came_from rows r e v a d n.is n.like g in
      let z = came_from rows r e v b f n.is n.like h in
      let old = w.siblings a b y.0 z.0 main less y.1 z.1 (sym y.2.parent ∙ same ∙ z.2.parent) in
      omega (arith, old, y.2.offset, z.2.offset);
  ended = λ k x g over.
      elim (got_set rows r k v x g) [
        | inl p ↦ subst HasEnded p.1 (n.ticks (ap (λ (z : Entry). z.life) p.1 ∙ over))
        | inr p ↦ w.ended k x p.1 over
      ];
  in_turn = λ a b d f c less g h hd hf not_pending.
      turn count rows r e v w n a b d f c less (got_set rows r a v d g) (got_set rows r b v f h) hd hf not_pending;
}

-- a row that may be spawned
pub record IsSpawnable (count : ℕ) (rows : List Entry) (parent offset : ℕ) (cowns : List ℕ) : Type 0 where
  pub few : length rows < MOST_ROWS
  pub cowned : AreCowns count cowns
  pub main : length rows ≡ 0 → (parent ≡ 0) × (offset ≡ 0) × (cowns ≡ [])
  pub child : 0 < length rows → IsChild rows (length rows) (pending parent offset cowns)
  pub siblings : (a : ℕ) (d : Entry) → 0 < a → slice_get rows a ≡ Some d → d.parent ≡ parent → d.offset < offset

-- what holds of a child holds with one row more
child_more : (rows : List Entry) (k : ℕ) (x v : Entry) → IsChild rows k x → IsChild (rows ++ (v ∷ [])) k x
child_more rows k x v h = record {
  before = h.before;
  above = h.above;
  spawner = h.spawner;
  is = front_item rows v x.parent (slice_get_within rows x.parent h.spawner h.is) ∙ h.is;
  reached = h.reached;
}

siblings_more : (count : ℕ) (rows : List Entry) (parent offset : ℕ) (cowns : List ℕ) → IsWell count rows → IsSpawnable count rows parent offset cowns
    → (a b : ℕ) (d f : Entry) → 0 < a → a < b
    → (slice_get rows a ≡ Some d) ⊎ ((a ≡ length rows) × (pending parent offset cowns ≡ d))
    → (slice_get rows b ≡ Some f) ⊎ ((b ≡ length rows) × (pending parent offset cowns ≡ f))
    → d.parent ≡ f.parent → d.offset < f.offset
siblings_more count rows parent offset cowns w n a b d f main less (inl p) (inl q) same = w.siblings a b d f main less p q same
siblings_more count rows parent offset cowns w n a b d f main less (inl p) (inr q) same =
    subst (λ (o : ℕ). d.offset < o) (ap (λ (z : Entry). z.offset) q.1) (n.siblings a d main p (same ∙ sym (ap (λ (z : Entry). z.parent) q.1)))
siblings_more count rows parent offset cowns w n a b d f main less (inr p) (inl q) same = absurd (omega (arith, p.0, less, slice_get_within rows b f q))
siblings_more count rows parent offset cowns w n a b d f main less (inr p) (inr q) same = absurd (omega (arith, p.0, q.0, less))

turn_more : (count : ℕ) (rows : List Entry) (v : Entry) → IsWell count rows → v.life ≡ Pending → (a b : ℕ) (d f : Entry) (c : ℕ) → a < b
    → (slice_get rows a ≡ Some d) ⊎ ((a ≡ length rows) × (v ≡ d)) → (slice_get rows b ≡ Some f) ⊎ ((b ≡ length rows) × (v ≡ f))
    → Contains d.cowns c → Contains f.cowns c → f.life ≢ Pending → d.life ≡ Ended
turn_more count rows v w l a b d f c less (inl p) (inl q) hd hf np = w.in_turn a b d f c less p q hd hf np
turn_more count rows v w l a b d f c less (inr p) (inl q) hd hf np = absurd (omega (arith, p.0, less, slice_get_within rows b f q))
turn_more count rows v w l a b d f c less (inl p) (inr q) hd hf np = absurd (np (sym (ap (λ (z : Entry). z.life) q.1) ∙ l))
turn_more count rows v w l a b d f c less (inr p) (inr q) hd hf np = absurd (omega (arith, p.0, q.0, less))

pub well_push : (count : ℕ) (rows : List Entry) (parent offset : ℕ) (cowns : List ℕ) → IsWell count rows → IsSpawnable count rows parent offset cowns
    → IsWell count (rows ++ (pending parent offset cowns ∷ []))
well_push count rows parent offset cowns w n =
    let v = pending parent offset cowns in record {
      few = omega (arith, length-append rows (v ∷ []), n.few);
      main = λ x g. elim (got_push rows 0 v x g) [
        | inl p ↦ w.main x p
        | inr p ↦ let m = n.main (sym p.0) in subst IsMain p.1 (record { parent = m.0; offset = m.1; cowns = m.2 })
      ];
      cowned = λ k x g. elim (got_push rows k v x g) [
        | inl p ↦ w.cowned k x p
        | inr p ↦ subst (λ (z : Entry). AreCowns count z.cowns) p.1 n.cowned
      ];
      child = λ k x more g. elim (got_push rows k v x g) [
        | inl p ↦ child_more rows k x v (w.child k x more p)
        | inr p ↦
            subst (λ (z : Entry). IsChild (rows ++ (v ∷ [])) k z) p.1
            (subst (λ (m : ℕ). IsChild (rows ++ (v ∷ [])) m v) (sym p.0) (child_more rows (length rows) v v (n.child (subst (λ (m : ℕ). 0 < m) p.0 more))))
      ];
      siblings = λ a b d f main less g h same.
          siblings_more count rows parent offset cowns w n a b d f main less (got_push rows a v d g) (got_push rows b v f h) same;
      ended = λ k x g over. elim (got_push rows k v x g) [
        | inl p ↦ w.ended k x p over
        | inr p ↦ absurd (let f : Pending ≡ Ended = ap (λ (z : Entry). z.life) p.1 ∙ over in cc)
      ];
      in_turn = λ a b d f c less g h hd hf np.
          turn_more count rows v w refl a b d f c less (got_push rows a v d g) (got_push rows b v f h) hd hf np;
    }
