-- That each node in a link is at the place of its cown.
use Rattle.std.proofs.Common.{◌≡◌, ◌≢◌, ℕ, zero, suc, ◌<◌, ◌≤◌, ◌⊎◌, true, false, cond, List, [], ◌∷◌, length, refl, sym, ◌∙◌, ap, subst, inl, inr, arith}
use Rattle.std.specs.Prelude.{Option, Some, None, slice_get, position, ◌==◌}
use Rattle.std.specs.Option.{option_map, option_and_then}
use Rattle.slab.specs.Slab.{Slab, get}
use Rattle.boc_chain.specs.declared.request.Request.{Request}
use Rattle.boc_chain.specs.declared.linked.Node.{Node}
use Rattle.boc_chain.specs.declared.linked.Link.{Link}
use Rattle.boc_chain.specs.KeptLinks.{Linked}
use Rattle.boc_chain.specs.Chain.{IsGranted, times, slots, cowns_of, exchanged_of, cown, with_settled, settled_behind}
use Rattle.boc_chain.specs.Links.{Tie, Spells, next_of}
use Rattle.boc_chain.specs.Linked.{stored_in, stored, seen, links, place_in, place_at, IsAt, NamesWell, IsPlaced, IsSpelled, Holds, Leads, passed}
use Rattle.boc_chain.proofs.Lines.{same_or_not}
use Rattle.boc_chain.proofs.Places.{here_place}
use Rattle.boc_chain.proofs.Spelled.{has_link, times_same, times_other, times_more, slots_settled}

-- the cowns of its slot stay, so does the place of a node
pub at_kept : (held held' : Slab Linked) (n : Node) (c : ℕ) → cowns_of (place_at held' n.slot) ≡ cowns_of (place_at held n.slot) → IsAt held n c
    → IsAt held' n c
at_kept held held' n c e h = ap (λ (cs : List ℕ). position (λ d. d == c) cs) e ∙ h

names_kept : (held held' : Slab Linked) (c : ℕ) (l : Link) → ((s : ℕ) → cowns_of (place_at held' s) ≡ cowns_of (place_at held s)) → NamesWell held c l
    → NamesWell held' c l
names_kept held held' c l same w = record {
  before = λ n e. at_kept held held' n c (same n.slot) (w.before n e);
  next = λ n e. at_kept held held' n c (same n.slot) (w.next n e);
}

-- the link of s was written
pub placed_put : (held held' : Slab Linked) (c s : ℕ) (xs ys : List Request) (l : Link) → IsPlaced held c xs
    → ((t : ℕ) → 0 < times t (slots ys) → t ≢ s → 0 < times t (slots xs))
    → ((t : ℕ) → cowns_of (place_at held' t) ≡ cowns_of (place_at held t)) → stored held' s c ≡ Some l → NamesWell held c l
    → ((t : ℕ) → t ≢ s → stored held' t c ≡ stored held t c) → IsPlaced held' c ys
placed_put held held' c s xs ys l h old same here well others = λ t m there e.
    elim (same_or_not t s) [
      | inl f ↦
          let g : Some m ≡ Some l = sym e ∙ ap (λ u. stored held' u c) f ∙ here in
          let is : m ≡ l = cc in
          subst (λ (z : Link). NamesWell held' c z) (sym is) (names_kept held held' c l same well)
      | inr f ↦ names_kept held held' c m same (h t m (old t there f) (sym (others t f) ∙ e))
    ]

-- no link was written
pub placed_kept : (held held' : Slab Linked) (c : ℕ) (xs ys : List Request) → IsPlaced held c xs → ((t : ℕ) → 0 < times t (slots ys) → 0 < times t (slots xs))
    → ((t : ℕ) → cowns_of (place_at held' t) ≡ cowns_of (place_at held t)) → ((t : ℕ) → stored held' t c ≡ stored held t c) → IsPlaced held' c ys
placed_kept held held' c xs ys h old same others = λ t m there e. names_kept held held' c m same (h t m (old t there) (sym (others t) ∙ e))

-- the slots of a list

pub slots_settled_behind : (q : Option Request) (s : ℕ) (xs : List Request) → slots (settled_behind q s xs) ≡ slots xs
slots_settled_behind None s xs = slots_settled s xs
slots_settled_behind (Some q) s xs = elim q.flagged as (λ b. slots (cond b (with_settled s xs) xs) ≡ slots xs) [ true ↦ slots_settled s xs | false ↦ refl ]

pub in_passed : (xs : List Request) (t : ℕ) → 0 < times t (slots (passed xs)) → 0 < times t (slots xs)
in_passed [] t h = h
in_passed (r ∷ []) t h = h
in_passed (r ∷ (x ∷ xs)) t h = elim x.settled as (λ b. 0 < times t (slots (cond b (x ∷ xs) (r ∷ (x ∷ xs)))) → 0 < times t (slots (r ∷ (x ∷ xs)))) [
  | true ↦ λ k. omega (arith, times_more t r.slot (slots (x ∷ xs)))
  | false ↦ λ k. k
] h

-- links that are kept, and what is seen of them

pub seen_some : (o : Option Link) (t : Tie) → option_map seen o ≡ Some t → (l : Link) × (o ≡ Some l)
seen_some None t e = absurd (let f : None ≡ Some t = e in cc)
seen_some (Some l) t e = (l, refl)

-- each slot of a list has its link
pub has_stored : (held : Slab Linked) (c s : ℕ) (xs : List Request) → IsSpelled (links held) c xs → 0 < times s (slots xs)
    → (l : Link) × (stored held s c ≡ Some l)
has_stored held c s xs h m = let t = has_link (links held) c None xs s h.spells m in seen_some (stored held s c) t.0 t.1

pub links_of : Option Linked → List Link
links_of None = []
links_of (Some v) = v.links

pub no_cown : (c : ℕ) (i : ℕ) → position (λ d. d == c) [] ≡ Some i → ⊥
no_cown c i e = (let f : None ≡ Some i = e in absurd cc)

-- the link of a node is at its place
stored_there : (o : Option Linked) (c i : ℕ) → position (λ d. d == c) (cowns_of (place_in o)) ≡ Some i → stored_in o c ≡ slice_get (links_of o) i
unfolding links_of
stored_there None c i e = absurd (no_cown c i e)
stored_there (Some v) c i e = ap (λ o. option_and_then (λ k. slice_get v.links k) o) e

within_links : (o : Option Linked) (i : ℕ) (l : Link) → slice_get (links_of o) i ≡ Some l → i < exchanged_of (place_in o)
unfolding links_of
within_links None i l e = absurd (let f : None ≡ Some l = e in cc)
within_links (Some v) i l e = within v.links i e
  where
    within : (ls : List Link) (k : ℕ) → slice_get ls k ≡ Some l → k < length ls
    within [] k f = absurd (let g : None ≡ Some l = f in cc)
    within (x ∷ ls) zero f = omega arith
    within (x ∷ ls) (suc k) f = let r = within ls k f in omega arith

-- it is among those that were exchanged
pub exchanged_at : (held : Slab Linked) (n : Node) (c : ℕ) (l : Link) → IsAt held n c → stored held n.slot c ≡ Some l
    → n.place < exchanged_of (place_at held n.slot)
exchanged_at held n c l at e = within_links (get held n.slot) n.place l (sym (stored_there (get held n.slot) c n.place at) ∙ e)

-- request i of a slot with distinct cowns
pub own_at : (held : Slab Linked) (n : Node) → ((d : ℕ) → times d (cowns_of (place_at held n.slot)) ≤ 1) → n.place < length (cowns_of (place_at held n.slot))
    → IsAt held n (cown (place_at held n.slot) n.place)
own_at held n one h = here_place (cowns_of (place_at held n.slot)) n.place one h

-- who is named by the links of a list is in it

pub named_before : (link : ℕ → ℕ → Option Tie) (c : ℕ) (b : Option ℕ) (xs : List Request) (s : ℕ) (t : Tie) (m : ℕ) → Spells link c b xs
    → 0 < times s (slots xs) → link s c ≡ Some t → t.before ≡ Some m → (b ≡ Some m) ⊎ (0 < times m (slots xs))
named_before link c b [] s t m h there e is = absurd (omega arith)
named_before link c b (r ∷ xs) s t m h there e is = elim (same_or_not r.slot s) [
  | inl f ↦ inl (let g : Some t ≡ Some (record { settled = r.settled; scheduled = r.flagged; before = b; next = next_of xs }) = sym e
      ∙ ap (λ n. link n c) (sym f) ∙ h.0 in let k : t.before ≡ b = cc in sym k ∙ is)
  | inr n ↦ elim (named_before link c (Some r.slot) xs s t m h.1 (let k = times_other s r.slot (slots xs) n in omega arith) e is) [
    | inl f ↦ inr (let g : r.slot ≡ m = (let y : Some r.slot ≡ Some m = f in cc) in let k = times_same m r.slot (slots xs) g in omega arith)
    | inr k ↦ inr (omega (arith, times_more m r.slot (slots xs)))
  ]
]

next_in : (xs : List Request) (m : ℕ) → next_of xs ≡ Some m → 0 < times m (slots xs)
next_in [] m e = absurd (let f : None ≡ Some m = e in cc)
next_in (r ∷ xs) m e = elim r.settled as (λ b. cond b (Some r.slot) None ≡ Some m → 0 < times m (slots (r ∷ xs))) [
  | true ↦ λ f. (let g : r.slot ≡ m = (let y : Some r.slot ≡ Some m = f in cc) in let k = times_same m r.slot (slots xs) g in omega arith)
  | false ↦ λ f. absurd (let y : None ≡ Some m = f in cc)
] e

pub named_next : (link : ℕ → ℕ → Option Tie) (c : ℕ) (b : Option ℕ) (xs : List Request) (s : ℕ) (t : Tie) (m : ℕ) → Spells link c b xs → 0 < times s (slots xs)
    → link s c ≡ Some t → t.next ≡ Some m → 0 < times m (slots xs)
named_next link c b [] s t m h there e is = absurd (omega arith)
named_next link c b (r ∷ xs) s t m h there e is = elim (same_or_not r.slot s) [
  | inl f ↦
      let g : Some t ≡ Some (record { settled = r.settled; scheduled = r.flagged; before = b; next = next_of xs }) = sym e ∙ ap (λ n. link n c) (sym f) ∙ h.0 in
      let k : t.next ≡ next_of xs = cc in
      omega (arith, next_in xs m (sym k ∙ is), times_more m r.slot (slots xs))
  | inr n ↦ omega (
    arith,
    named_next link c (Some r.slot) xs s t m h.1 (let k = times_other s r.slot (slots xs) n in omega arith) e is,
    times_more m r.slot
        (slots xs),
  )
]

-- a request that is named, and in the list
pub record Neighbour (held : Slab Linked) (c : ℕ) (m : Node) (xs : List Request) : Type 0 where
  pub at : IsAt held m c
  pub there : 0 < times m.slot (slots xs)
  pub link : Link
  pub got : stored held m.slot c ≡ Some link
  pub exchanged : m.place < exchanged_of (place_at held m.slot)

neighbour : (held : Slab Linked) (c : ℕ) (m : Node) (xs : List Request) → IsSpelled (links held) c xs → IsAt held m c → 0 < times m.slot (slots xs)
    → Neighbour held c m xs
neighbour held c m xs h at there = let l = has_stored held c m.slot xs h there in
    record { at = at; there = there; link = l.0; got = l.1; exchanged = exchanged_at held m c l.0 at l.1 }

granted_there : (s : ℕ) (xs : List Request) → IsGranted s xs → 0 < times s (slots xs)
granted_there s [] g = absurd g
granted_there s (r ∷ xs) g = let t = times_same s r.slot (slots xs) g.0 in omega arith

pub holds_it : (held : Slab Linked) (c : ℕ) (own : Node) (xs : List Request) → Holds held c own xs → Neighbour held c own xs
holds_it held c own xs h = neighbour held c own xs h.inside.spelled h.at h.inside.there

pub leads_it : (held : Slab Linked) (c : ℕ) (own : Node) (xs : List Request) → Leads held c own xs → Neighbour held c own xs
leads_it held c own xs h = neighbour held c own xs h.front.spelled h.at (granted_there own.slot xs h.front.granted)

pub before_it : (held : Slab Linked) (c : ℕ) (own m : Node) (xs : List Request) (l : Link) → Holds held c own xs → stored held own.slot c ≡ Some l
    → l.before ≡ Some m → Neighbour held c m xs
before_it held c own m xs l h got is =
    neighbour held c m xs h.inside.spelled ((h.placed own.slot l h.inside.there got).before m is)
    (elim (named_before (links held) c None xs own.slot (seen l) m.slot h.inside.spelled.spells h.inside.there (ap (option_map seen) got)
    (ap (option_map (λ (n : Node). n.slot)) is)) [
      | inl f ↦ absurd (let y : None ≡ Some m.slot = f in cc)
      | inr k ↦ k
    ])

pub behind_it : (held : Slab Linked) (c : ℕ) (own m : Node) (xs : List Request) (l : Link) → Leads held c own xs → stored held own.slot c ≡ Some l
    → l.next ≡ Some m → Neighbour held c m xs
behind_it held c own m xs l h got is =
    let it = leads_it held c own xs h in
    neighbour held c m xs h.front.spelled ((h.placed own.slot l it.there got).next m is)
    (named_next (links held) c None xs own.slot (seen l) m.slot h.front.spelled.spells it.there (ap (option_map seen) got)
    (ap (option_map (λ (n : Node). n.slot)) is))

-- settling, with none before it
pub lone_placed : (held held' : Slab Linked) (c : ℕ) (own : Node) (xs : List Request) (q : Option Request) (l : Link) → Holds held c own xs
    → stored held own.slot c ≡ Some l
    → stored held' own.slot c ≡ Some (record l { settled = true }) → ((t : ℕ) → t ≢ own.slot → stored held' t c ≡ stored held t c)
    → ((t : ℕ) → place_at held' t ≡ place_at held t)
    → IsPlaced held' c (settled_behind q own.slot xs)
lone_placed held held' c own xs q l h got here others places =
    let names = h.placed own.slot l h.inside.there got in
    placed_put held held' c own.slot xs (settled_behind q own.slot xs) (record l { settled = true }) h.placed
    (λ t m n. subst (λ ys. 0 < times t ys) (slots_settled_behind q own.slot xs) m)
    (λ t. ap cowns_of (places t)) here (record { before = names.before; next = names.next }) others

-- and with one before it, which is linked to it first
pub linked_placed : (held mid held' : Slab Linked) (c : ℕ) (own b : Node) (xs : List Request) (q : Option Request) (l la : Link) → Holds held c own xs
    → stored held own.slot c ≡ Some l → stored held b.slot c ≡ Some la → 0 < times b.slot (slots xs)
    → stored mid b.slot c ≡ Some (record la { next = Some own }) → ((t : ℕ) → t ≢ b.slot → stored mid t c ≡ stored held t c)
    → ((t : ℕ) → place_at mid t ≡ place_at held t)
    → stored held' own.slot c ≡ Some (record l { settled = true }) → ((t : ℕ) → t ≢ own.slot → stored held' t c ≡ stored mid t c)
    → ((t : ℕ) → place_at held' t ≡ place_at mid t)
    → IsPlaced held' c (settled_behind q own.slot xs)
linked_placed held mid held' c own b xs q l la h got got_b in_b here others places here' others' places' =
    let names = h.placed own.slot l h.inside.there got in
    let names_b = h.placed b.slot la in_b got_b in
    let cowns = λ (t : ℕ). ap cowns_of (places t) in
    let once = placed_put held mid c b.slot xs xs (record la { next = Some own }) h.placed (λ t m n. m) cowns here
    (record { before = names_b.before; next = λ n e. (let g : own ≡ n = (let f : Some own ≡ Some n = e in cc) in subst (λ z. IsAt held z c) g h.at) })
    others in
    placed_put mid held' c own.slot xs (settled_behind q own.slot xs) (record l { settled = true }) once
    (λ t m n. subst (λ ys. 0 < times t ys) (slots_settled_behind q own.slot xs) m)
    (λ t. ap cowns_of (places' t)) here'
    (let kept = names_kept held mid c l cowns names in record { before = kept.before; next = kept.next }) others'

-- passing on
pub passed_placed : (held held' : Slab Linked) (c : ℕ) (own m : Node) (xs : List Request) (l : Link) → Leads held c own xs → Neighbour held c m xs
    → stored held m.slot c ≡ Some l
    → stored held' m.slot c ≡ Some (record l { before = None }) → ((t : ℕ) → t ≢ m.slot → stored held' t c ≡ stored held t c)
    → ((t : ℕ) → place_at held' t ≡ place_at held t)
    → IsPlaced held' c (passed xs)
passed_placed held held' c own m xs l h it got here others places =
    let names = h.placed m.slot l it.there got in
    placed_put held held' c m.slot xs (passed xs) (record l { before = None }) h.placed (λ t k n. in_passed xs t k)
    (λ t. ap cowns_of (places t)) here (record { before = λ n e. absurd (let f : None ≡ Some n = e in cc); next = names.next }) others
