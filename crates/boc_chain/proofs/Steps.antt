-- A cown's list after a call, from the links that the call wrote.
use Rattle.std.proofs.Common.{◌≡◌, ◌≢◌, ℕ, ◌≤◌, Bool, true, false, cond, List, [], ◌∷◌, ◌++◌, drop, refl, sym, ◌∙◌, ap, subst, inl, inr, arith}
use Rattle.std.specs.Prelude.{Option, Some, None, ◌==◌, ◌||◌}
use Rattle.std.specs.Option.{option_map}
use Rattle.boc_chain.specs.declared.request.Request.{Request}
use Rattle.boc_chain.specs.Chain.{times, slots, before, fresh, IsGranted, with_settled, with_flagged, settled_behind}
use Rattle.boc_chain.specs.Links.{Tie, Spells, end_of, next_of}
use Rattle.boc_chain.specs.Linked.{IsSpelled, IsIn, IsFront, IsList, passed}
use Rattle.boc_chain.proofs.Lines.{same_or_not}
use Rattle.boc_chain.proofs.Spelled.{eqb_same, eqb_other, or_false, or_true, times_same, times_other, times_more, times_append, slots_append, slots_settled}
use Rattle.boc_chain.proofs.Spelled.{slots_flagged, end_settled, end_flagged, end_push, end_in, agrees, not_there, spells_push, flag_link, spells_flagged}
use Rattle.boc_chain.proofs.Settles.{prior, before_is, slot_in, link_before, prior_link, prior_some, is_slot, settle_link, spells_first, spells_behind}

-- settle

no_slot : (o : Option Request) → slot_in o ≡ None → o ≡ None
unfolding slot_in
no_slot None e = refl
no_slot (Some r) e = absurd (let f : Some r.slot ≡ None = e in cc)

a_slot : (o : Option Request) (b : ℕ) → slot_in o ≡ Some b → (q : Request) × (o ≡ Some q) × (q.slot ≡ b)
unfolding slot_in
a_slot None b e = absurd (let f : None ≡ Some b = e in cc)
a_slot (Some r) b e = (r, refl, let f : Some r.slot ≡ Some b = e in cc)

before_none : (link : ℕ → ℕ → Option Tie) (c s : ℕ) (xs : List Request) (l : Tie) → IsIn link c s xs → link s c ≡ Some l → l.before ≡ None
    → prior None s xs ≡ None
before_none link c s xs l h e n = no_slot (prior None s xs)
    (sym (link_before link c None xs s l (let k : Spells link c (slot_in None) xs = unfold slot_in in h.spelled.spells in k) h.there e) ∙ n)

pub lone_before : (link : ℕ → ℕ → Option Tie) (c s : ℕ) (xs : List Request) (l : Tie) → IsIn link c s xs → link s c ≡ Some l → l.before ≡ None
    → before s xs ≡ None
lone_before link c s xs l h e n = before_is s xs ∙ before_none link c s xs l h e n

-- a link that the step doesn't touch
untouched : (s : ℕ) (q : Option ℕ) (t : ℕ) (o : Option Tie) → t ≢ s → is_slot q t ≡ false → o ≡ option_map (settle_link s q t) o
unfolding settle_link
untouched s q t None n m = refl
untouched s q t (Some l) n m =
    ap (λ (b : Bool). Some (record l { settled = b })) (sym (ap (λ u. l.settled || u) (eqb_other t s n) ∙ or_false l.settled))
    ∙ ap (λ (x : Option ℕ). Some (record l { settled = l.settled || (t == s); next = x })) (sym (ap (λ u. cond u (Some s) l.next) m))

other_slot : (t q : ℕ) → t ≢ q → is_slot (Some q) t ≡ false
unfolding is_slot
other_slot t q n = eqb_other t q n

settled_link : (s : ℕ) (q : Option ℕ) (l : Tie) → is_slot q s ≡ false → Some (record l { settled = true }) ≡ option_map (settle_link s q s) (Some l)
unfolding settle_link
settled_link s q l m =
    ap (λ (b : Bool). Some (record l { settled = b })) (sym (ap (λ u. l.settled || u) (eqb_same s s refl) ∙ or_true l.settled))
    ∙ ap (λ (x : Option ℕ). Some (record l { settled = l.settled || (s == s); next = x })) (sym (ap (λ u. cond u (Some s) l.next) m))

linked_link : (s q : ℕ) (l : Tie) → q ≢ s → Some (record l { next = Some s }) ≡ option_map (settle_link s (Some q) q) (Some l)
unfolding settle_link is_slot
linked_link s q l n =
    ap (λ (b : Bool). Some (record l { settled = b; next = Some s })) (sym (ap (λ u. l.settled || u) (eqb_other q s n) ∙ or_false l.settled))
    ∙ ap (λ (x : Option ℕ). Some (record l { settled = l.settled || (q == s); next = x })) (sym (ap (λ u. cond u (Some s) l.next) (eqb_same q q refl)))

lone_list : (link link' : ℕ → ℕ → Option Tie) (c s : ℕ) (xs : List Request) → IsIn link c s xs → prior None s xs ≡ None
    → ((t : ℕ) → link' t c ≡ option_map (settle_link s None t) (link t c)) → Spells link' c None (with_settled s xs)
unfolding prior is_slot
lone_list link link' c s [] h e change = absurd (let t = h.there in omega arith)
lone_list link link' c s (r ∷ xs) h e change = elim (same_or_not r.slot s) [
  | inl f ↦ spells_first link link' c s None None r xs h.spelled.spells (let t = times_same s r.slot (slots xs) f in let o = h.spelled.once s in omega arith)
      (λ t m. refl) change
  | inr n ↦ absurd (let m = h.there in let t = times_other s r.slot (slots xs) n in
      let k = prior_some r xs s (omega arith) in
      let g : None ≡ Some k.0 = sym e ∙ ap (λ b. cond b None (prior (Some r) s xs)) (eqb_other r.slot s n) ∙ k.1 in cc)
]

pub lone_spelled : (link link' : ℕ → ℕ → Option Tie) (c s : ℕ) (xs : List Request) (l : Tie) → IsIn link c s xs → link s c ≡ Some l → l.before ≡ None
    → link' s c ≡ Some (record l { settled = true }) → ((t : ℕ) → t ≢ s → link' t c ≡ link t c) → IsSpelled link' c (settled_behind (before s xs) s xs)
lone_spelled link link' c s xs l h e n here others =
    subst (λ o. IsSpelled link' c (settled_behind o s xs)) (sym (lone_before link c s xs l h e n)) (record {
      spells = lone_list link link' c s xs h (before_none link c s xs l h e n) (λ t. elim (same_or_not t s) [
        | inl f ↦ ap (λ u. link' u c) f ∙ here ∙ settled_link s None l (unfold is_slot in refl) ∙ ap (option_map (settle_link s None s)) (sym e)
            ∙ ap (λ u. option_map (settle_link s None u) (link u c)) (sym f)
        | inr f ↦ others t f ∙ untouched s None t (link t c) f (unfold is_slot in refl)
      ]);
      once = λ t. subst (λ ys. times t ys ≤ 1) (sym (slots_settled s xs)) (h.spelled.once t);
    })

-- the one before, and its link
pub behind : (link : ℕ → ℕ → Option Tie) (c s : ℕ) (xs : List Request) (l : Tie) (b : ℕ) → IsIn link c s xs → link s c ≡ Some l → l.before ≡ Some b
    → (q : Request) × (prior None s xs ≡ Some q) × (q.slot ≡ b) × (la : Tie) × (link b c ≡ Some la) × (la.scheduled ≡ q.flagged)
behind link c s xs l b h e n =
    let q = a_slot (prior None s xs) b (sym (link_before link c None xs s l (let k : Spells link c (slot_in None) xs = unfold slot_in in h.spelled.spells in k)
    h.there e) ∙ n) in
    let la = prior_link link c None None xs s q.0 h.spelled.spells (λ r f. absurd (let g : None ≡ Some r = f in cc)) q.1 in
    (q.0, q.1, q.2, la.0, ap (λ t. link t c) (sym q.2) ∙ la.1, la.2)

pub behind_answer : (link : ℕ → ℕ → Option Tie) (c s : ℕ) (xs : List Request) (l la : Tie) (b : ℕ) (f : Bool) → IsIn link c s xs → link s c ≡ Some l
    → l.before ≡ Some b → link b c ≡ Some la → la.scheduled ≡ f
    → (q : Request) × (before s xs ≡ Some q) × (q.flagged ≡ f)
behind_answer link c s xs l la b f h e n k is =
    let q = behind link c s xs l b h e n in
    (q.0, before_is s xs ∙ q.1, sym q.5 ∙ (let g : Some q.3 ≡ Some la = sym q.4 ∙ k in let x : q.3 ≡ la = cc in ap (λ (z : Tie). z.scheduled) x) ∙ is)

prior_not : (p : Request) (xs : List Request) (s : ℕ) (q : Request) → p.slot ≢ s → prior (Some p) s xs ≡ Some q → q.slot ≢ s
unfolding prior
prior_not p [] s q n e = absurd (let f : None ≡ Some q = e in cc)
prior_not p (r ∷ xs) s q n e = elim (same_or_not r.slot s) [
  | inl f ↦ (let g : Some p ≡ Some q = ap (λ t. cond t (Some p) (prior (Some r) s xs)) (sym (eqb_same r.slot s f)) ∙ e in let x : p ≡ q = cc in
      λ z. n (ap (λ (y : Request). y.slot) x ∙ z))
  | inr m ↦ prior_not r xs s q m (ap (λ t. cond t (Some p) (prior (Some r) s xs)) (sym (eqb_other r.slot s m)) ∙ e)
]

linked_list : (link link' : ℕ → ℕ → Option Tie) (c s : ℕ) (xs : List Request) (q : Request) → IsIn link c s xs → prior None s xs ≡ Some q
    → ((t : ℕ) → link' t c ≡ option_map (settle_link s (Some q.slot) t) (link t c)) → Spells link' c None (with_settled s xs)
unfolding prior
linked_list link link' c s [] q h e change = absurd (let t = h.there in omega arith)
linked_list link link' c s (r ∷ xs) q h e change = elim (same_or_not r.slot s) [
  | inl f ↦ absurd (let g : None ≡ Some q = ap (λ b. cond b None (prior (Some r) s xs)) (sym (eqb_same r.slot s f)) ∙ e in cc)
  | inr n ↦ spells_behind link link' c s q None r xs h.spelled.spells h.spelled.once
      (let m = h.there in let t = times_other s r.slot (slots xs) n in omega arith)
      (ap (λ b. cond b None (prior (Some r) s xs)) (sym (eqb_other r.slot s n)) ∙ e) change
]

apart : (s : ℕ) (xs : List Request) (q : Request) → prior None s xs ≡ Some q → q.slot ≢ s
unfolding prior
apart s [] q e = absurd (let f : None ≡ Some q = e in cc)
apart s (r ∷ xs) q e = elim (same_or_not r.slot s) [
  | inl f ↦ absurd (let g : None ≡ Some q = ap (λ b. cond b None (prior (Some r) s xs)) (sym (eqb_same r.slot s f)) ∙ e in cc)
  | inr n ↦ prior_not r xs s q n (ap (λ b. cond b None (prior (Some r) s xs)) (sym (eqb_other r.slot s n)) ∙ e)
]

-- a request and the one before it are at two slots
pub far_before : (link : ℕ → ℕ → Option Tie) (c s b : ℕ) (xs : List Request) (l : Tie) → IsIn link c s xs → link s c ≡ Some l → l.before ≡ Some b → s ≢ b
far_before link c s b xs l h e n = let q = behind link c s xs l b h e n in λ z. apart s xs q.0 q.1 (q.2 ∙ sym z)

pub linked_spelled : (link mid link' : ℕ → ℕ → Option Tie) (c s b : ℕ) (xs : List Request) (l la : Tie) → IsIn link c s xs → link s c ≡ Some l
    → l.before ≡ Some b → link b c ≡ Some la → la.scheduled ≡ true
    → mid b c ≡ Some (record la { next = Some s }) → ((t : ℕ) → t ≢ b → mid t c ≡ link t c)
    → link' s c ≡ Some (record l { settled = true }) → ((t : ℕ) → t ≢ s → link' t c ≡ mid t c) → IsSpelled link' c (settled_behind (before s xs) s xs)
linked_spelled link mid link' c s b xs l la h e n k on here others here' others' =
    let q = behind link c s xs l b h e n in
    let far : b ≢ s = (λ z. apart s xs q.0 q.1 (q.2 ∙ z)) in
    let a = behind_answer link c s xs l la b true h e n k on in
    subst (λ o. IsSpelled link' c (settled_behind o s xs)) (sym a.1)
    (subst (λ f. IsSpelled link' c (cond f (with_settled s xs) xs)) (sym a.2) (record {
      spells = linked_list link link' c s xs q.0 h q.1 (λ t. elim (same_or_not t s) [
        | inl f ↦ ap (λ u. link' u c) f ∙ here' ∙ settled_link s (Some q.0.slot) l (other_slot s q.0.slot (λ z. far (sym (z ∙ q.2))))
            ∙ ap (option_map (settle_link s (Some q.0.slot) s)) (sym e) ∙ ap (λ u. option_map (settle_link s (Some q.0.slot) u) (link u c)) (sym f)
        | inr f ↦ others' t f ∙ elim (same_or_not t b) [
          | inl g ↦ ap (λ u. mid u c) g ∙ here ∙ linked_link s b la far ∙ ap (option_map (settle_link s (Some b) b)) (sym k)
              ∙ ap (λ u. option_map (settle_link s (Some b) u) (link u c)) (sym g) ∙ ap (λ u. option_map (settle_link s (Some u) t) (link t c)) (sym q.2)
          | inr g ↦ others t g ∙ untouched s (Some q.0.slot) t (link t c) f (other_slot t q.0.slot (λ z. g (z ∙ q.2)))
        ]
      ]);
      once = λ t. subst (λ ys. times t ys ≤ 1) (sym (slots_settled s xs)) (h.spelled.once t);
    }))

pub blocked_spelled : (link : ℕ → ℕ → Option Tie) (c s b : ℕ) (xs : List Request) (l la : Tie) → IsIn link c s xs → link s c ≡ Some l → l.before ≡ Some b
    → link b c ≡ Some la → la.scheduled ≡ false
    → IsSpelled link c (settled_behind (before s xs) s xs)
blocked_spelled link c s b xs l la h e n k off =
    let a = behind_answer link c s xs l la b false h e n k off in
    subst (λ o. IsSpelled link c (settled_behind o s xs)) (sym a.1) (subst (λ f. IsSpelled link c (cond f (with_settled s xs) xs)) (sym a.2) h.spelled)

-- leave

front_link : (link : ℕ → ℕ → Option Tie) (c s : ℕ) (b : Option ℕ) (r : Request) (xs : List Request) (l : Tie) → Spells link c b (r ∷ xs) → r.slot ≡ s
    → link s c ≡ Some l → l.next ≡ next_of xs
front_link link c s b r xs l h f e = (let g : Some l ≡ _ = sym e ∙ ap (λ n. link n c) (sym f) ∙ h.0 in cc)

pub passed_some : (link link' : ℕ → ℕ → Option Tie) (c s n : ℕ) (xs : List Request) (l m : Tie) → IsFront link c s xs → link s c ≡ Some l → l.next ≡ Some n
    → link n c ≡ Some m
    → link' n c ≡ Some (record m { before = None }) → ((t : ℕ) → t ≢ n → link' t c ≡ link t c) → IsSpelled link' c (passed xs)
passed_some link link' c s n [] l m h e i k here others = absurd h.granted
passed_some link link' c s n (r ∷ []) l m h e i k here others =
    absurd (let g : None ≡ Some n = sym (front_link link c s None r [] l h.spelled.spells h.granted.0 e) ∙ i in cc)
passed_some link link' c s n (r ∷ (x ∷ xs)) l m h e i k here others =
    elim x.settled as (λ b. x.settled ≡ b → cond b (Some x.slot) None ≡ Some n → IsSpelled link' c (cond b (x ∷ xs) (r ∷ (x ∷ xs)))) [
      | true ↦ λ on g.
          let is : x.slot ≡ n = (let y : Some x.slot ≡ Some n = g in cc) in
          let w : Some m ≡ Some (record { settled = x.settled; scheduled = x.flagged; before = Some r.slot; next = next_of xs }) =
          sym k ∙ ap (λ t. link t c) (sym is) ∙ h.spelled.spells.1.0 in
          let w1 : m ≡ record { settled = x.settled; scheduled = x.flagged; before = Some r.slot; next = next_of xs } = cc in
          record {
            spells = (
              ap (λ t. link' t c) is ∙ here ∙ ap (λ (z : Tie). Some (record z { before = None })) w1,
              agrees link link' c (Some x.slot) xs h.spelled.spells.1.1
                  (λ t q. others t (λ z. let o = h.spelled.once t in let y = times_same t x.slot (slots xs) (is ∙ sym z) in
                  absurd (omega (arith, times_more t r.slot (slots (x ∷ xs)))))),
            );
            once = λ t. let o = h.spelled.once t in omega (arith, times_more t r.slot (slots (x ∷ xs)));
          }
      | false ↦ λ on g. absurd (let y : None ≡ Some n = g in cc)
    ] refl (sym (front_link link c s None r (x ∷ xs) l h.spelled.spells h.granted.0 e) ∙ i)

-- swap and flag

pub swapped : (link link' : ℕ → ℕ → Option Tie) (c s : ℕ) (last : Option ℕ) (xs : List Request) → IsList link c last xs → link s c ≡ None
    → link' s c ≡ Some (record { settled = false; scheduled = false; before = last; next = None }) → ((t : ℕ) → t ≢ s → link' t c ≡ link t c)
    → IsList link' c (Some s) (xs ++ (fresh s ∷ []))
swapped link link' c s last xs h e here others =
    let out = not_there link c None xs s h.spelled.spells e in
    record {
      spelled = record {
        spells = spells_push link' c None xs s (agrees link link' c None xs h.spelled.spells
            (λ t m. others t (λ z. let y : times t (slots xs) ≡ times s (slots xs) = ap (λ u. times u (slots xs)) z in absurd (omega arith))))
            (here ∙ ap (λ (o : Option ℕ). Some (record { settled = false; scheduled = false; before = o; next = None })) (sym h.ends));
        once = λ t. subst (λ ys. times t ys ≤ 1) (sym (slots_append xs (fresh s ∷ [])))
            (elim (same_or_not s t) [
              | inl f ↦ (let a = times_append t (slots xs) (s ∷ []) in let b = times_same t s [] f in
                  let y : times t (slots xs) ≡ times s (slots xs) = ap (λ u. times u (slots xs)) (sym f) in omega arith)
              | inr f ↦ (let a = times_append t (slots xs) (s ∷ []) in let b = times_other t s [] f in let o = h.spelled.once t in omega arith)
            ]);
      };
      ends = end_push None (fresh s) xs;
    }

flagged_link : (s : ℕ) (l : Tie) → Some (record l { scheduled = true }) ≡ option_map (flag_link s s) (Some l)
unfolding flag_link
flagged_link s l = ap (λ (b : Bool). Some (record l { scheduled = b })) (sym (ap (λ u. l.scheduled || u) (eqb_same s s refl) ∙ or_true l.scheduled))

unflagged : (s t : ℕ) (o : Option Tie) → t ≢ s → o ≡ option_map (flag_link s t) o
unfolding flag_link
unflagged s t None n = refl
unflagged s t (Some l) n = ap (λ (b : Bool). Some (record l { scheduled = b })) (sym (ap (λ u. l.scheduled || u) (eqb_other t s n) ∙ or_false l.scheduled))

pub flagged : (link link' : ℕ → ℕ → Option Tie) (c s : ℕ) (last : Option ℕ) (xs : List Request) (l : Tie) → IsList link c last xs → link s c ≡ Some l
    → link' s c ≡ Some (record l { scheduled = true }) → ((t : ℕ) → t ≢ s → link' t c ≡ link t c) → IsList link' c last (with_flagged s xs)
flagged link link' c s last xs l h e here others = record {
  spelled = record {
    spells = spells_flagged link link' c None xs s h.spelled.spells (λ t. elim (same_or_not t s) [
      | inl f ↦ ap (λ u. link' u c) f ∙ here ∙ flagged_link s l ∙ ap (option_map (flag_link s s)) (sym e)
          ∙ ap (λ u. option_map (flag_link s u) (link u c)) (sym f)
      | inr f ↦ others t f ∙ unflagged s t (link t c) f
    ]);
    once = λ t. subst (λ ys. times t ys ≤ 1) (sym (slots_flagged s xs)) (h.spelled.once t);
  };
  ends = end_flagged None s xs ∙ h.ends;
}

-- what the cown's list is once its front has left, or would have
pub left_none : (link : ℕ → ℕ → Option Tie) (c s : ℕ) (last : Option ℕ) (xs : List Request) → IsList link c last xs → IsGranted s xs → last ≡ Some s
    → drop 1 xs ≡ []
left_none link c s last [] h g e = refl
left_none link c s last (r ∷ []) h g e = refl
left_none link c s last (r ∷ (x ∷ xs)) h g e = absurd (elim (end_in (Some x.slot) s xs (h.ends ∙ e)) [
  | inl f ↦ (let y : x.slot ≡ s = (let k : Some x.slot ≡ Some s = f in cc) in let a = times_same s r.slot (slots (x ∷ xs)) g.0 in
      let b = times_same s x.slot (slots xs) y in let o = h.spelled.once s in omega arith)
  | inr m ↦ (let a = times_same s r.slot (slots (x ∷ xs)) g.0 in let b = times_more s x.slot (slots xs) in let o = h.spelled.once s in omega arith)
])

-- the only one is the last
pub left_last : (link : ℕ → ℕ → Option Tie) (c s : ℕ) (last : Option ℕ) (r : Request) → IsList link c last (r ∷ []) → r.slot ≡ s → last ≡ Some s
left_last link c s last r h g = sym h.ends ∙ ap (λ (n : ℕ). Some n) g

pub end_after_settle : (q : Option Request) (s : ℕ) (xs : List Request) → end_of None (settled_behind q s xs) ≡ end_of None xs
end_after_settle None s xs = end_settled None s xs
end_after_settle (Some q) s xs = elim q.flagged as (λ b. end_of None (cond b (with_settled s xs) xs) ≡ end_of None xs)
    [ true ↦ end_settled None s xs | false ↦ refl ]

pub end_passed : (xs : List Request) → end_of None (passed xs) ≡ end_of None xs
end_passed [] = refl
end_passed (r ∷ []) = refl
end_passed (r ∷ (x ∷ xs)) = elim x.settled as (λ b. end_of None (cond b (x ∷ xs) (r ∷ (x ∷ xs))) ≡ end_of None (r ∷ (x ∷ xs))) [ true ↦ refl | false ↦ refl ]
