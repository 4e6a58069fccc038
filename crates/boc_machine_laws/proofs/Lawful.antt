-- What the queues keep under each kind of change.
use Rattle.std.proofs.lemmas.Bool.Decides.{Decides-eqb}
use Rattle.std.proofs.Common.{◌≡◌, ℕ, zero, suc, ◌+◌, ◌<◌, ◌≤◌, ◌≢◌, Bool, true, false, List, [], ◌∷◌, ◌++◌, take, drop, refl, sym, ◌∙◌, ap, subst, inl, inr}
use Rattle.std.proofs.Common.{arith, rules, append_assoc}
use Rattle.std.specs.Prelude.{slice_get, nat_lt, ◌&&◌, Option, Some, None}
use Rattle.std.specs.List.{list_all}
use Rattle.boc_runs.specs.declared.stage.Phase.TheVariants.{Leaving}
use Rattle.boc_runs.specs.declared.stage.Stage.{Stage}
use Rattle.boc_runs.specs.declared.stage.Stage.TheVariants.{Asking, Recorded}
use Rattle.boc_runs.specs.machine.Queues.{times, is_first, is_granted, all_granted, InOrder, Lawful}
use Rattle.boc_runs.specs.machine.Stages.{OpenBehaviour, standing, standing_at, settled, flagged, flagged_at, row_of, row_at, waits, holds, cowns_of}
use Rattle.boc_machine_laws.proofs.Lists.{same_or_not, not_eq, not_true, and_true, times-append, times-here, times-other, last_of, place_in_longer}

-- the laws of the lists but that of who waits
pub record Laws (at : ℕ → Option OpenBehaviour) (queue : ℕ → List ℕ) : Type 0 where
  pub stands : (who c : ℕ) → times who (queue c) ≡ times c (standing (at who))
  pub once : (who c : ℕ) → times c (cowns_of (at who)) ≤ 1
  pub linked : (c : ℕ) (ahead behind : List ℕ) (x y : ℕ) → queue c ≡ ahead ++ (x ∷ (y ∷ behind))
      → 0 < times c (settled (at y)) → 0 < times c (flagged (at x))
  pub ordered : (c : ℕ) (ahead mid behind : List ℕ) (x y : ℕ) → queue c ≡ ahead ++ (x ∷ (mid ++ (y ∷ behind)))
      → InOrder (row_of (at x)) (row_of (at y))
  pub first : (who c : ℕ) → holds (at who) ≡ true → 0 < times c (standing (at who)) → slice_get (queue c) 0 ≡ Some who

-- the law of who waits, but for some
abbrev pub WaitsBut : (ℕ → Option OpenBehaviour) → (ℕ → List ℕ) → (ℕ → Type 0) → Type 0
WaitsBut at queue but = (who : ℕ) → waits (at who) ≡ true → (but who → ⊥) → all_granted at queue who ≡ false

-- nobody
abbrev pub nobody : ℕ → Type 0
nobody who = ⊥

pub laws_of : (at : ℕ → Option OpenBehaviour) (queue : ℕ → List ℕ) → Lawful at queue → Laws at queue
laws_of at queue l = search rules

pub waits_of : (at : ℕ → Option OpenBehaviour) (queue : ℕ → List ℕ) → Lawful at queue → WaitsBut at queue nobody
waits_of at queue l who h none = l.waiting who h

pub lawful_of : (at : ℕ → Option OpenBehaviour) (queue : ℕ → List ℕ) → Laws at queue → WaitsBut at queue nobody
    → Lawful at queue
lawful_of at queue l w = record {
  stands = l.stands;
  once = l.once;
  linked = l.linked;
  ordered = l.ordered;
  first =
      l.first;
  waiting = λ who h. w who h (λ n. n);
}

-- the behaviours but one are as they were
abbrev pub OthersStay : (ℕ → Option OpenBehaviour) → (ℕ → Option OpenBehaviour) → ℕ → Type 0
OthersStay at at' who = (w : ℕ) → w ≢ who → at' w ≡ at w

-- the number, the cown
pub kept : {X : Type 0} (f : Option OpenBehaviour → X) (at at' : ℕ → Option OpenBehaviour) (who : ℕ)
    → OthersStay at at' who → f (at' who) ≡ f (at who) → (w : ℕ) → f (at' w) ≡ f (at w)
kept f at at' who other same w =
    elim (same_or_not w who) [
      | inl e ↦ ap (λ v. f (at' v)) e ∙ same ∙ ap (λ v. f (at v)) (sym e)
      | inr n ↦ ap f (other w n)
    ]

-- a fact of the behaviour of a number, for the one that changed and for the others
pub at_each : (P : ℕ → Option OpenBehaviour → Type 0) (at at' : ℕ → Option OpenBehaviour) (who : ℕ)
    → OthersStay at at' who → P who (at' who) → ((w : ℕ) → w ≢ who → P w (at w)) → (w : ℕ) → P w (at' w)
at_each P at at' who other here there w =
    elim (same_or_not w who) [
      | inl e ↦ subst (λ (v : ℕ). P v (at' v)) (sym e) here
      | inr n ↦ subst (λ (b : Option OpenBehaviour). P w b) (sym (other w n)) (there w n)
    ]

pub times-take-le : (c i : ℕ) (cs : List ℕ) → times c (take i cs) ≤ times c cs
times-take-le c zero cs = omega arith
times-take-le c (suc i) [] = omega arith
times-take-le c (suc i) (d ∷ cs) = omega (arith, times-take-le c i cs)

pub times-drop-le : (c i : ℕ) (cs : List ℕ) → times c (drop i cs) ≤ times c cs
times-drop-le c zero cs = omega arith
times-drop-le c (suc i) [] = omega arith
times-drop-le c (suc i) (d ∷ cs) = omega (arith, times-drop-le c i cs)

standing_at_le : (c : ℕ) (s : Stage) (cs : List ℕ) → times c (standing_at s cs) ≤ times c cs
standing_at_le c (Asking i true) cs = times-take-le c (suc i) cs
standing_at_le c (Asking i false) cs = times-take-le c i cs
standing_at_le c (Recorded r (Leaving i)) cs = times-drop-le c i cs
standing_at_le c _ cs = omega arith

pub standing_le : (c : ℕ) (b : Option OpenBehaviour) → times c (standing b) ≤ times c (cowns_of b)
standing_le c None = omega arith
standing_le c (Some b) = standing_at_le c b.stage b.cowns

-- no behaviour stands twice in a list
pub not_twice : (at : ℕ → Option OpenBehaviour) (queue : ℕ → List ℕ) → Laws at queue
    → (c : ℕ) (ahead mid behind : List ℕ) (x y : ℕ) → queue c ≡ ahead ++ (x ∷ (mid ++ (y ∷ behind))) → x ≢ y
not_twice at queue l c ahead mid behind x y e s =
    let all : times x (queue c) ≡ times x (ahead ++ (x ∷ (mid ++ (y ∷ behind)))) = ap (times x) e in
    let a = times-append x ahead (x ∷ (mid ++ (y ∷ behind))) in
    let b = times-here x (mid ++ (y ∷ behind)) in
    let d = times-append x mid (y ∷ behind) in
    let f : times x (y ∷ behind) ≡ 1 + times x behind = ap (λ z. times x (z ∷ behind)) (sym s) ∙ times-here x behind in
    let g = l.stands x c in
    let h = standing_le c (at x) in
    let i = l.once x c in
    omega arith

flagged_at_recorded : (c : ℕ) (s : Stage) (cs : List ℕ) → 0 < times c (flagged_at s cs) → (r : ℕ) × (row_at s ≡ Some r)
flagged_at_recorded c (Asking i e) cs h = absurd (omega arith)
flagged_at_recorded c (Recorded r ph) cs h = (r, refl)

pub flagged_recorded : (c : ℕ) (b : Option OpenBehaviour) → 0 < times c (flagged b) → (r : ℕ) × (row_of b ≡ Some r)
flagged_recorded c None h = absurd (omega arith)
flagged_recorded c (Some b) h = flagged_at_recorded c b.stage b.cowns h

in_order_at : (p p' q q' : Option ℕ) → p' ≡ p → q' ≡ q → InOrder p q → InOrder p' q'
in_order_at p p' q q' e f h = subst (λ (z : Option ℕ). InOrder z q') (sym e)
    (subst (λ (z : Option ℕ). InOrder p z) (sym f) h)

after_unrecorded : (p q : Option ℕ) → InOrder None q → InOrder p q
after_unrecorded None None h = tt
after_unrecorded (Some r) None h = tt
after_unrecorded None (Some s) h = h
after_unrecorded (Some r) (Some s) h = absurd h

before_unrecorded : (p : Option ℕ) → InOrder p None
before_unrecorded None = tt
before_unrecorded (Some r) = tt

ahead_of_recorded : (p : Option ℕ) (s : ℕ) → InOrder p (Some s) → (r : ℕ) × (p ≡ Some r)
ahead_of_recorded None s h = absurd h
ahead_of_recorded (Some r) s h = (r, refl)

-- the part of `ordered` where no row changes
pub ordered_kept : (at at' : ℕ → Option OpenBehaviour) (queue : ℕ → List ℕ) (who : ℕ) → Laws at queue
    → OthersStay at at' who → row_of (at' who) ≡ row_of (at who)
    → (c : ℕ) (ahead mid behind : List ℕ) (x y : ℕ) → queue c ≡ ahead ++ (x ∷ (mid ++ (y ∷ behind)))
    → InOrder (row_of (at' x)) (row_of (at' y))
ordered_kept at at' queue who l other same c ahead mid behind x y e =
    let k = kept row_of at at' who other same in
    in_order_at (row_of (at x)) (row_of (at' x)) (row_of (at y)) (row_of (at' y)) (k x) (k y)
    (l.ordered c ahead mid behind x y e)

-- all ahead of a behaviour are recorded, if whoever stands right before it is flagged
recorded_ahead : (at : ℕ → Option OpenBehaviour) (queue : ℕ → List ℕ) (who : ℕ) → Laws at queue
    → ((c : ℕ) (ahead behind : List ℕ) (x : ℕ) → queue c ≡ ahead ++ (x ∷ (who ∷ behind)) → 0 < times c (flagged (at x)))
    → (c : ℕ) (ahead mid behind : List ℕ) (x y : ℕ) → queue c ≡ ahead ++ (x ∷ (mid ++ (y ∷ behind))) → y ≡ who
    → (r : ℕ) × (row_of (at x) ≡ Some r)
recorded_ahead at queue who l linked c ahead mid behind x y e y_is =
    elim (last_of mid) [
      | inl none ↦
          let here : queue c ≡ ahead ++ (x ∷ (who ∷ behind)) = e ∙ ap (λ zs. ahead ++ (x ∷ (zs ++ (y ∷ behind)))) none
          ∙ ap (λ z. ahead ++ (x ∷ (z ∷ behind))) y_is in
          flagged_recorded c (at x) (linked c ahead behind x here)
      | inr p ↦
          let split : mid ++ (y ∷ behind) ≡ p.0 ++ (p.1 ∷ (y ∷ behind)) = ap (λ zs. zs ++ (y ∷ behind)) p.2
          ∙ append_assoc p.0 (p.1 ∷ []) (y ∷ behind) in
          let whole : queue c ≡ ahead ++ (x ∷ (p.0 ++ (p.1 ∷ (y ∷ behind)))) = e ∙ ap (λ zs. ahead ++ (x ∷ zs)) split in
          let near : queue c ≡ (ahead ++ (x ∷ p.0)) ++ (p.1 ∷ (who ∷ behind)) = whole
          ∙ sym (append_assoc ahead (x ∷ p.0) (p.1 ∷ (y ∷ behind)))
          ∙ ap (λ z. (ahead ++ (x ∷ p.0)) ++ (p.1 ∷ (z ∷ behind))) y_is in
          let f = flagged_recorded c (at p.1) (linked c (ahead ++ (x ∷ p.0)) behind p.1 near) in
          ahead_of_recorded (row_of (at x)) f.0
          (subst (λ (q : Option ℕ). InOrder (row_of (at x)) q) f.1 (l.ordered c ahead p.0 (y ∷ behind) x p.1 whole))
    ]

-- the part of `ordered` where the last request is settled, and the spawn is recorded under a new row
pub ordered_recorded : (at at' : ℕ → Option OpenBehaviour) (queue : ℕ → List ℕ) (who n : ℕ) → Laws at queue
    → OthersStay at at' who
    → row_of (at who) ≡ None → row_of (at' who) ≡ Some n
    → ((w r : ℕ) → row_of (at w) ≡ Some r → r < n)
    → ((c : ℕ) (ahead behind : List ℕ) (x : ℕ) → queue c ≡ ahead ++ (x ∷ (who ∷ behind)) → 0 < times c (flagged (at x)))
    → (c : ℕ) (ahead mid behind : List ℕ) (x y : ℕ) → queue c ≡ ahead ++ (x ∷ (mid ++ (y ∷ behind)))
    → InOrder (row_of (at' x)) (row_of (at' y))
ordered_recorded at at' queue who n l other was is below linked c ahead mid behind x y e =
    let differ = not_twice at queue l c ahead mid behind x y e in
    elim (same_or_not y who) [
      | inl y_is ↦
          let x_other : x ≢ who = λ h. differ (h ∙ sym y_is) in
          let recorded = recorded_ahead at queue who l linked c ahead mid behind x y e y_is in
          in_order_at (Some recorded.0) (row_of (at' x)) (Some n) (row_of (at' y))
          (ap row_of (other x x_other) ∙ recorded.1) (ap (λ z. row_of (at' z)) y_is ∙ is)
          (below x recorded.0 recorded.1)
      | inr y_other ↦
          let q : row_of (at' y) ≡ row_of (at y) = ap row_of (other y y_other) in
          elim (same_or_not x who) [
            | inl x_is ↦
                let old : InOrder None (row_of (at y)) =
                subst (λ (p : Option ℕ). InOrder p (row_of (at y))) (ap (λ z. row_of (at z)) x_is ∙ was)
                (l.ordered c ahead mid behind x y e) in
                in_order_at (row_of (at' x)) (row_of (at' x)) (row_of (at y)) (row_of (at' y)) refl q
                (after_unrecorded (row_of (at' x)) (row_of (at y)) old)
            | inr x_other ↦ in_order_at (row_of (at x)) (row_of (at' x)) (row_of (at y)) (row_of (at' y))
                (ap row_of (other x x_other)) q (l.ordered c ahead mid behind x y e)
          ]
    ]

-- a behaviour goes on, and no list changes
pub relabel : (at at' : ℕ → Option OpenBehaviour) (queue : ℕ → List ℕ) (who : ℕ) → Laws at queue → OthersStay at at' who
    → ((c : ℕ) → times c (standing (at' who)) ≡ times c (standing (at who)))
    → cowns_of (at' who) ≡ cowns_of (at who)
    → ((c : ℕ) (ahead behind : List ℕ) (x : ℕ) → queue c ≡ ahead ++ (x ∷ (who ∷ behind))
    → 0 < times c (settled (at' who)) → 0 < times c (flagged (at x)))
    → ((c : ℕ) → 0 < times c (flagged (at who)) → 0 < times c (flagged (at' who)))
    → ((c : ℕ) (ahead mid behind : List ℕ) (x y : ℕ) → queue c ≡ ahead ++ (x ∷ (mid ++ (y ∷ behind)))
    → InOrder (row_of (at' x)) (row_of (at' y)))
    → ((c : ℕ) → holds (at' who) ≡ true → 0 < times c (standing (at who)) → slice_get (queue c) 0 ≡ Some who)
    → Laws at' queue
relabel at at' queue who l other stand cowns settle flag order front = record {
  stands = λ w c. l.stands w c ∙ sym (kept (λ b. times c (standing b)) at at' who other (stand c) w);
  once = λ w c. subst (λ (cs : List ℕ). times c cs ≤ 1) (sym (kept cowns_of at at' who other cowns w)) (l.once w c);
  linked = λ c ahead behind x y e s.
      let up : 0 < times c (flagged (at x)) → 0 < times c (flagged (at' x)) =
      at_each (λ w b. 0 < times c (flagged (at w)) → 0 < times c (flagged b)) at at' who other (flag c)
      (λ w n h. h) x in
      up (at_each (λ w b. queue c ≡ ahead ++ (x ∷ (w ∷ behind)) → 0 < times c (settled b)
      → 0 < times c (flagged (at x))) at at' who other (settle c ahead behind x)
      (λ w n f h. l.linked c ahead behind x w f h) y e s);
  ordered = order;
  first = λ w c. at_each (λ v b. holds b ≡ true → 0 < times c (standing b)
      → slice_get (queue c) 0 ≡ Some v) at at' who other
      (λ h s. front c h (subst (λ (k : ℕ). 0 < k) (stand c) s)) (λ v n h s. l.first v c h s) w;
}

head_stays : (q : List ℕ) (w v : ℕ) → slice_get q 0 ≡ Some v → slice_get (q ++ (w ∷ [])) 0 ≡ Some v
head_stays [] w v e = absurd (let f : None ≡ Some v = e in cc)
head_stays (x ∷ q) w v e = e

-- which list: that of c, or another
by_cown : (P : ℕ → List ℕ → Type 0) (queue queue' : ℕ → List ℕ) (c0 : ℕ) → ((c : ℕ) → c ≢ c0 → queue' c ≡ queue c)
    → P c0 (queue' c0) → ((c : ℕ) → c ≢ c0 → P c (queue c)) → (c : ℕ) → P c (queue' c)
by_cown P queue queue' c0 elsewhere here there c =
    elim (same_or_not c c0) [
      | inl e ↦ subst (λ (d : ℕ). P d (queue' d)) (sym e) here
      | inr n ↦ subst (λ (q : List ℕ). P c q) (sym (elsewhere c n)) (there c n)
    ]

-- one behaviour goes on, and one list changes
pub record OneMoves (at at' : ℕ → Option OpenBehaviour) (queue queue' : ℕ → List ℕ) (who c0 : ℕ) : Type 0 where
  pub other : OthersStay at at' who
  pub elsewhere : (c : ℕ) → c ≢ c0 → queue' c ≡ queue c
  pub there : (c : ℕ) → c ≢ c0 → times c (standing (at' who)) ≡ times c (standing (at who))
  pub cowns : cowns_of (at' who) ≡ cowns_of (at who)
  pub settled_same : settled (at' who) ≡ settled (at who)
  pub flagged_same : flagged (at' who) ≡ flagged (at who)
  pub row_same : row_of (at' who) ≡ row_of (at who)

-- then each law holds of all lists if it holds of that one
module _ (at at' : ℕ → Option OpenBehaviour) (queue queue' : ℕ → List ℕ) (who c0 : ℕ) (l : Laws at queue)
    (m : OneMoves at at' queue queue' who c0) where
  stands_then : ((w : ℕ) → times w (queue' c0) ≡ times c0 (standing (at' w))) → (w c : ℕ)
      → times w (queue' c) ≡ times c (standing (at' w))
  stands_then here w c =
      by_cown (λ d q. times w q ≡ times d (standing (at' w))) queue queue' c0 m.elsewhere (here w)
      (λ d n. at_each (λ v b. times v (queue d) ≡ times d (standing b)) at at' who m.other
      (l.stands who d ∙ sym (m.there d n)) (λ v k. l.stands v d) w)
      c

  once_then : (w c : ℕ) → times c (cowns_of (at' w)) ≤ 1
  once_then w c = subst (λ (cs : List ℕ). times c cs ≤ 1) (sym (kept cowns_of at at' who m.other m.cowns w))
      (l.once w c)

  linked_then : ((ahead behind : List ℕ) (x y : ℕ) → queue' c0 ≡ ahead ++ (x ∷ (y ∷ behind))
      → 0 < times c0 (settled (at y)) → 0 < times c0 (flagged (at x)))
      → (c : ℕ) (ahead behind : List ℕ) (x y : ℕ) → queue' c ≡ ahead ++ (x ∷ (y ∷ behind))
      → 0 < times c (settled (at' y)) → 0 < times c (flagged (at' x))
  linked_then here c ahead behind x y e s =
      let s' : 0 < times c (settled (at y)) = subst (λ (cs : List ℕ). 0 < times c cs)
      (kept settled at at' who m.other m.settled_same y) s in
      subst (λ (cs : List ℕ). 0 < times c cs) (sym (kept flagged at at' who m.other m.flagged_same x))
      (by_cown (λ d q. q ≡ ahead ++ (x ∷ (y ∷ behind)) → 0 < times d (settled (at y))
      → 0 < times d (flagged (at x))) queue queue' c0 m.elsewhere (here ahead behind x y)
      (λ d n f t. l.linked d ahead behind x y f t) c e s')

  ordered_then : ((ahead mid behind : List ℕ) (x y : ℕ) → queue' c0 ≡ ahead ++ (x ∷ (mid ++ (y ∷ behind)))
      → InOrder (row_of (at x)) (row_of (at y)))
      → (c : ℕ) (ahead mid behind : List ℕ) (x y : ℕ) → queue' c ≡ ahead ++ (x ∷ (mid ++ (y ∷ behind)))
      → InOrder (row_of (at' x)) (row_of (at' y))
  ordered_then here c ahead mid behind x y e =
      in_order_at (row_of (at x)) (row_of (at' x)) (row_of (at y)) (row_of (at' y))
      (kept row_of at at' who m.other m.row_same x) (kept row_of at at' who m.other m.row_same y)
      (by_cown (λ d q. q ≡ ahead ++ (x ∷ (mid ++ (y ∷ behind))) → InOrder (row_of (at x)) (row_of (at y)))
      queue queue' c0 m.elsewhere (here ahead mid behind x y) (λ d n f. l.ordered d ahead mid behind x y f) c e)

  laws_then : ((w : ℕ) → times w (queue' c0) ≡ times c0 (standing (at' w)))
      → ((ahead behind : List ℕ) (x y : ℕ) → queue' c0 ≡ ahead ++ (x ∷ (y ∷ behind))
      → 0 < times c0 (settled (at y)) → 0 < times c0 (flagged (at x)))
      → ((ahead mid behind : List ℕ) (x y : ℕ) → queue' c0 ≡ ahead ++ (x ∷ (mid ++ (y ∷ behind)))
      → InOrder (row_of (at x)) (row_of (at y)))
      → ((w c : ℕ) → holds (at' w) ≡ true → 0 < times c (standing (at' w)) → slice_get (queue' c) 0 ≡ Some w)
      → Laws at' queue'
  laws_then stands linked ordered first = record {
    stands = stands_then stands;
    once = once_then;
    linked = linked_then linked;
    ordered = ordered_then ordered;
    first = first;
  }

pub record Exchanges (at at' : ℕ → Option OpenBehaviour) (queue queue' : ℕ → List ℕ) (who c0 : ℕ) : Type 0 where
  pub longer : queue' c0 ≡ queue c0 ++ (who ∷ [])
  pub here : times c0 (standing (at' who)) ≡ times c0 (standing (at who)) + 1
  pub moves : OneMoves at at' queue queue' who c0
  pub not_settled : times c0 (settled (at who)) ≡ 0
  pub no_row : row_of (at who) ≡ None
  pub holds_not : holds (at' who) ≡ false

-- a request goes last in its cown's list
pub exchange : (at at' : ℕ → Option OpenBehaviour) (queue queue' : ℕ → List ℕ) (who c0 : ℕ) → Laws at queue
    → Exchanges at at' queue queue' who c0 → Laws at' queue'
exchange at at' queue queue' who c0 l h =
    laws_then at at' queue queue' who c0 l h.moves
    (at_each (λ v b. times v (queue' c0) ≡ times c0 (standing b)) at at' who h.moves.other
    (ap (times who) h.longer ∙ times-append who (queue c0) (who ∷ [])
    ∙ omega (arith, times-here who [], l.stands who c0, h.here))
    (λ v n. ap (times v) h.longer ∙ times-append v (queue c0) (who ∷ [])
    ∙ omega (arith, times-other v who [] (λ e. n (sym e)), l.stands v c0)))
    (λ ahead behind x y f t. elim (place_in_longer (queue c0) (ahead ++ (x ∷ [])) behind who y
    (sym h.longer ∙ f ∙ sym (append_assoc ahead (x ∷ []) (y ∷ behind)))) [
      | inl p ↦ absurd (let k : times c0 (settled (at y)) ≡ 0 = ap (λ v. times c0 (settled (at v))) p.1
          ∙ h.not_settled in omega arith)
      | inr p ↦ l.linked c0 ahead p.0 x y (p.2 ∙ append_assoc ahead (x ∷ []) (y ∷ p.0)) t
    ])
    (λ ahead mid behind x y f. elim (place_in_longer (queue c0) (ahead ++ (x ∷ mid)) behind who y
    (sym h.longer ∙ f ∙ sym (append_assoc ahead (x ∷ mid) (y ∷ behind)))) [
      | inl p ↦ in_order_at (row_of (at x)) (row_of (at x)) None (row_of (at y)) refl
          (ap (λ v. row_of (at v)) p.1 ∙ h.no_row) (before_unrecorded (row_of (at x)))
      | inr p ↦ l.ordered c0 ahead mid p.0 x y (p.2 ∙ append_assoc ahead (x ∷ mid) (y ∷ p.0))
    ])
    (λ w c. at_each (λ v b. holds b ≡ true → 0 < times c (standing b)
    → slice_get (queue' c) 0 ≡ Some v) at at' who h.moves.other
    (λ t s. absurd (let f : false ≡ true = sym h.holds_not ∙ t in cc))
    (λ v n t s. by_cown (λ d q. 0 < times d (standing (at v))
    → slice_get q 0 ≡ Some v) queue queue' c0 h.moves.elsewhere
    (λ z. subst (λ (q : List ℕ). slice_get q 0 ≡ Some v) (sym h.longer)
    (head_stays (queue c0) who v (l.first v c0 t z)))
    (λ d m z. l.first v d t z) c s) w)

pub record Releases (at at' : ℕ → Option OpenBehaviour) (queue queue' : ℕ → List ℕ) (who c0 : ℕ) : Type 0 where
  pub shorter : queue c0 ≡ who ∷ queue' c0
  pub here : times c0 (standing (at' who)) + 1 ≡ times c0 (standing (at who))
  pub moves : OneMoves at at' queue queue' who c0
  pub held : holds (at who) ≡ true

-- a request comes off the front of its cown's list
pub release : (at at' : ℕ → Option OpenBehaviour) (queue queue' : ℕ → List ℕ) (who c0 : ℕ) → Laws at queue
    → Releases at at' queue queue' who c0 → Laws at' queue'
release at at' queue queue' who c0 l h =
    laws_then at at' queue queue' who c0 l h.moves
    (at_each (λ v b. times v (queue' c0) ≡ times c0 (standing b)) at at' who h.moves.other
    (omega (arith, ap (times who) h.shorter, times-here who (queue' c0), l.stands who c0, h.here))
    (λ v n. omega (
      arith,
      ap (times v) h.shorter,
      times-other v who (queue' c0) (λ e. n (sym e)),
      l.stands v c0,
    )))
    (λ ahead behind x y f t. l.linked c0 (who ∷ ahead) behind x y (h.shorter ∙ ap (λ zs. who ∷ zs) f) t)
    (λ ahead mid behind x y f. l.ordered c0 (who ∷ ahead) mid behind x y (h.shorter ∙ ap (λ zs. who ∷ zs) f))
    (λ w c. at_each (λ v b. holds b ≡ true → 0 < times c (standing b)
    → slice_get (queue' c) 0 ≡ Some v) at at' who h.moves.other
    (λ t s. by_cown (λ d q. 0 < times d (standing (at' who))
    → slice_get q 0 ≡ Some who) queue queue' c0 h.moves.elsewhere
    (λ z. absurd (omega (arith, h.here, standing_le c0 (at who), l.once who c0)))
    (λ d n z. l.first who d h.held (subst (λ (k : ℕ). 0 < k) (h.moves.there d n) z)) c s)
    (λ v n t s. by_cown (λ d q. 0 < times d (standing (at v))
    → slice_get q 0 ≡ Some v) queue queue' c0 h.moves.elsewhere
    (λ z. absurd (n (let f : Some who ≡ Some v = ap (λ zs. slice_get zs 0) (sym h.shorter)
    ∙ l.first v c0 t z in cc)))
    (λ d m z. l.first v d t z) c s) w)

-- a behaviour that stands nowhere comes or goes
pub nowhere : (at at' : ℕ → Option OpenBehaviour) (queue : ℕ → List ℕ) (who : ℕ) → Laws at queue → OthersStay at at' who
    → ((c : ℕ) → times c (standing (at who)) ≡ 0) → ((c : ℕ) → times c (standing (at' who)) ≡ 0)
    → ((c : ℕ) → times c (cowns_of (at' who)) ≤ 1)
    → Laws at' queue
nowhere at at' queue who l other was is few =
    let absent : (c : ℕ) → times who (queue c) ≡ 0 = λ c. l.stands who c ∙ was c in
    let not_who : (c : ℕ) (ahead behind : List ℕ) (x : ℕ) → queue c ≡ ahead ++ (x ∷ behind) → x ≢ who =
    λ c ahead behind x e s. omega (
      arith,
      absent c,
      ap (times who) e,
      times-append who ahead (x ∷ behind),
      ap (λ z. times who (z ∷ behind)) s,
      times-here who behind,
    ) in
    record {
      stands = λ w c. at_each (λ v b. times v (queue c) ≡ times c (standing b)) at at' who other
          (absent c ∙ sym (is c)) (λ v n. l.stands v c) w;
      once = λ w c. at_each (λ v b. times c (cowns_of b) ≤ 1) at at' who other (few c) (λ v n. l.once v c) w;
      linked = λ c ahead behind x y e s.
          let ye = other y (not_who c (ahead ++ (x ∷ [])) behind y
          (e ∙ sym (append_assoc ahead (x ∷ []) (y ∷ behind)))) in
          let xe = other x (not_who c ahead (y ∷ behind) x e) in
          subst (λ (b : Option OpenBehaviour). 0 < times c (flagged b)) (sym xe)
          (l.linked c ahead behind x y e (subst (λ (b : Option OpenBehaviour). 0 < times c (settled b)) ye s));
      ordered = λ c ahead mid behind x y e.
          let ye = other y (not_who c (ahead ++ (x ∷ mid)) behind y
          (e ∙ sym (append_assoc ahead (x ∷ mid) (y ∷ behind)))) in
          let xe = other x (not_who c ahead (mid ++ (y ∷ behind)) x e) in
          in_order_at (row_of (at x)) (row_of (at' x)) (row_of (at y)) (row_of (at' y)) (ap row_of xe) (ap row_of ye)
          (l.ordered c ahead mid behind x y e);
      first = λ w c. at_each (λ v b. holds b ≡ true → 0 < times c (standing b)
          → slice_get (queue c) 0 ≡ Some v) at at' who other
          (λ t s. absurd (omega (arith, is c)))
          (λ v n t s. l.first v c t s) w;
    }

-- ---- who waits

-- a number isn't first where one is put behind, if that is another
first_longer : (q : List ℕ) (w v : ℕ) → w ≢ v → is_first v (q ++ (w ∷ [])) ≡ is_first v q
first_longer [] w v n = not_eq w v n
first_longer (x ∷ q) w v n = refl

all_same : (f g : ℕ → Bool) (cs : List ℕ) → ((c : ℕ) → f c ≡ g c) → list_all f cs ≡ list_all g cs
all_same f g [] e = refl
all_same f g (c ∷ cs) e = ap (λ b. b && list_all f cs) (e c) ∙ ap (λ b. g c && b) (all_same f g cs e)

-- granted is who is settled and first
granted_same : (at at' : ℕ → Option OpenBehaviour) (queue queue' : ℕ → List ℕ) (who c : ℕ) → at' who ≡ at who
    → is_first who (queue' c) ≡ is_first who (queue c) → is_granted at' queue' who c ≡ is_granted at queue who c
granted_same at at' queue queue' who c same first =
    ap (λ b. nat_lt 0 (times c (settled b)) && is_first who (queue' c)) same
    ∙ ap (λ b. nat_lt 0 (times c (settled (at who))) && b) first

all_granted_same : (at at' : ℕ → Option OpenBehaviour) (queue queue' : ℕ → List ℕ) (who : ℕ) → at' who ≡ at who
    → ((c : ℕ) → is_first who (queue' c) ≡ is_first who (queue c))
    → all_granted at' queue' who ≡ all_granted at queue who
all_granted_same at at' queue queue' who same first =
    ap (λ b. list_all (λ c. is_granted at' queue' who c) (cowns_of b)) same
    ∙ all_same (λ c. is_granted at' queue' who c) (λ c. is_granted at queue who c) (cowns_of (at who))
    (λ c. granted_same at at' queue queue' who c same (first c))

-- whoever waits still does where it is as it was, and first where it was
pub waits_kept : (at at' : ℕ → Option OpenBehaviour) (queue queue' : ℕ → List ℕ) (who : ℕ) (but but' : ℕ → Type 0)
    → WaitsBut at queue but → OthersStay at at' who
    → ((v : ℕ) → but v → but' v)
    → ((v c : ℕ) → v ≢ who → (but' v → ⊥) → is_first v (queue' c) ≡ is_first v (queue c))
    → (waits (at' who) ≡ true → all_granted at' queue' who ≡ false)
    → WaitsBut at' queue' but'
waits_kept at at' queue queue' who but but' w other more first mine v h n =
    elim (same_or_not v who) [
      | inl e ↦ ap (all_granted at' queue') e ∙ mine (sym (ap (λ x. waits (at' x)) e) ∙ h)
      | inr ne ↦ all_granted_same at at' queue queue' v (other v ne) (λ c. first v c ne n)
          ∙ w v (sym (ap waits (other v ne)) ∙ h) (λ b. n (more v b))
    ]

-- the same where no list changes
pub waits_on : (at at' : ℕ → Option OpenBehaviour) (queue : ℕ → List ℕ) (who : ℕ) (but : ℕ → Type 0)
    → WaitsBut at queue but → OthersStay at at' who → waits (at' who) ≡ false → WaitsBut at' queue but
waits_on at at' queue who but w other mine =
    waits_kept at at' queue queue who but but w other (λ v b. b) (λ v c n m. refl)
    (λ h. absurd (let f : false ≡ true = sym mine ∙ h in cc))

-- where a request goes last in a list
pub waits_exchange : (at at' : ℕ → Option OpenBehaviour) (queue queue' : ℕ → List ℕ) (who c0 : ℕ) (but : ℕ → Type 0)
    → WaitsBut at queue but → OthersStay at at' who
    → queue' c0 ≡ queue c0 ++ (who ∷ []) → ((c : ℕ) → c ≢ c0 → queue' c ≡ queue c) → waits (at' who) ≡ false
    → WaitsBut at' queue' but
waits_exchange at at' queue queue' who c0 but w other longer elsewhere mine =
    waits_kept at at' queue queue' who but but w other (λ v b. b)
    (λ v c n m. elim (same_or_not c c0) [
      | inl e ↦ ap (λ d. is_first v (queue' d)) e ∙ ap (is_first v) longer
          ∙ first_longer (queue c0) who v (λ f. n (sym f)) ∙ ap (λ d. is_first v (queue d)) (sym e)
      | inr ne ↦ ap (is_first v) (elsewhere c ne)
    ])
    (λ h. absurd (let f : false ≡ true = sym mine ∙ h in cc))

-- where a request comes off the front, for all but whoever comes first then
pub waits_release : (at at' : ℕ → Option OpenBehaviour) (queue queue' : ℕ → List ℕ) (who c0 : ℕ)
    → WaitsBut at queue nobody → OthersStay at at' who
    → queue c0 ≡ who ∷ queue' c0 → ((c : ℕ) → c ≢ c0 → queue' c ≡ queue c) → waits (at' who) ≡ false
    → WaitsBut at' queue' (λ v. is_first v (queue' c0) ≡ true)
waits_release at at' queue queue' who c0 w other shorter elsewhere mine =
    waits_kept at at' queue queue' who nobody (λ v. is_first v (queue' c0) ≡ true) w other (λ v b. absurd b)
    (λ v c n m. elim (same_or_not c c0) [
      | inl e ↦ ap (λ d. is_first v (queue' d)) e ∙ not_true (is_first v (queue' c0)) m
          ∙ sym (ap (λ d. is_first v (queue d)) e ∙ ap (is_first v) shorter ∙ not_eq who v (λ f. n (sym f)))
      | inr ne ↦ ap (is_first v) (elsewhere c ne)
    ])
    (λ h. absurd (let f : false ≡ true = sym mine ∙ h in cc))

-- who is first, is first
first_is : (q : List ℕ) (v : ℕ) → is_first v q ≡ true → slice_get q 0 ≡ Some v
first_is [] v h = absurd (let f : false ≡ true = h in cc)
first_is (x ∷ q) v h = ap (λ z. Some z) ((Decides-eqb x v).0 h)

pub is_first_of : (q : List ℕ) (v w : ℕ) → slice_get q 0 ≡ Some v → is_first w q ≡ true → w ≡ v
is_first_of q v w e h = let f : Some v ≡ Some w = sym e ∙ first_is q w h in cc

all_each : (f : ℕ → Bool) (cs : List ℕ) (c : ℕ) → list_all f cs ≡ true → 0 < times c cs → f c ≡ true
all_each f [] c h l = absurd (omega arith)
all_each f (d ∷ cs) c h l =
    let b = and_true (f d) (list_all f cs) h in
    elim (same_or_not d c) [
      | inl e ↦ ap f (sym e) ∙ b.0
      | inr n ↦ all_each f cs c b.1 (subst (λ (k : ℕ). 0 < k) (times-other c d cs n) l)
    ]

-- where all its requests are granted, it is first in all its lists
pub granted_first : (at : ℕ → Option OpenBehaviour) (queue : ℕ → List ℕ) (who : ℕ) → all_granted at queue who ≡ true
    → (c : ℕ) → 0 < times c (cowns_of (at who)) → slice_get (queue c) 0 ≡ Some who
granted_first at queue who h c l =
    first_is (queue c) who (and_true (nat_lt 0 (times c (settled (at who)))) (is_first who (queue c))
    (all_each (λ d. is_granted at queue who d) (cowns_of (at who)) c h l)).1

-- which of its requests are granted depends on which are settled, and on the lists
pub regranted : (at at' : ℕ → Option OpenBehaviour) (queue : ℕ → List ℕ) (who : ℕ)
    → settled (at' who) ≡ settled (at who) → cowns_of (at' who) ≡ cowns_of (at who)
    → all_granted at' queue who ≡ all_granted at queue who
regranted at at' queue who set cowns =
    ap (λ cs. list_all (λ c. is_granted at' queue who c) cs) cowns
    ∙ all_same (λ c. is_granted at' queue who c) (λ c. is_granted at queue who c) (cowns_of (at who))
    (λ c. ap (λ cs. nat_lt 0 (times c cs) && is_first who (queue c)) set)
