-- What linked chains keep at each call, and the lists after it.
use Rattle.std.proofs.Common.{◌≡◌, ◌≢◌, ◌↔◌, ℕ, zero, suc, ◌+◌, ◌-◌, ◌^◌, ◌<◌, ◌≤◌, Bool, true, false, cond, List, [], ◌∷◌, ◌++◌, length, drop, set, get_or}
use Rattle.std.proofs.Common.{refl, sym, ◌∙◌, ap, subst, inl, inr, arith, length-set, get_or-set_same, get_or-set_other}
use Rattle.std.specs.Prelude.{Option, Some, None, slice_get, slice_index_or, position, ◌==◌, replicate, is_some, IsSome, count_by}
use Rattle.std.specs.Option.{option_map, option_and_then}
use Rattle.slab.specs.Slab.{Slab, get, slab_len, Updates}
use Rattle.boc_chain.specs.declared.request.Request.{Request}
use Rattle.boc_chain.specs.declared.request.Released.TheVariants.{Unhooked, Passed, Blocked}
use Rattle.boc_chain.specs.declared.linked.Node.{Node}
use Rattle.boc_chain.specs.declared.linked.Link.{Link}
use Rattle.boc_chain.specs.KeptLinks.{Linked}
use Rattle.boc_chain.specs.Chain.{IsGranted, StandsIn, times, slots, list, list_for, with_change, cowns_of, exchanged_of, cown, one_more, fresh}
use Rattle.boc_chain.specs.Chain.{with_fresh, slot_of, last_slot, before, with_flagged, after_settle, leave_answer, after_leave}
use Rattle.boc_chain.specs.Links.{Tie, Spells, end_of, next_of}
use Rattle.boc_chain.specs.Linked.{stored_in, stored, seen, links, IsAt, IsPlaced, Holds, Leads, last_at, place_in, place_at, slot_at, IsSpelled, IsList}
use Rattle.boc_chain.specs.Linked.{IsLinked, last_of, line, from, lists_of, passed}
use Rattle.boc_chain.proofs.Lines.{same_or_not, cowns_one_more}
use Rattle.boc_chain.proofs.Fuel.{read}
use Rattle.boc_chain.proofs.Spelled.{has_link, slots_flagged, slots_append, times_append, times_other}
use Rattle.boc_chain.proofs.Placed.{at_kept, placed_put, own_at, no_cown, has_stored, holds_it}
use Rattle.boc_chain.proofs.Places.{no_link, stands}
use Rattle.boc_chain.proofs.Steps.{swapped, flagged, left_none, left_last, end_after_settle, end_passed}
use Rattle.boc_chain.proofs.Listed.{from_same, lists_length, list_is, one_changed, none_changed}

any_default : {X : Type 0} (xs : List X) (i : ℕ) (d e : X) → i < length xs → slice_index_or xs i d ≡ slice_index_or xs i e
any_default [] i d e h = absurd (omega arith)
any_default (x ∷ xs) zero d e h = refl
any_default (x ∷ xs) (suc i) d e h = any_default xs i d e (omega arith)

below_too : (c k n : ℕ) → c ≡ k → k < n → c < n
below_too c k n e h = omega arith

-- the node that was read as the last of a cown
last_read : (last : List (Option Node)) (c k : ℕ) (b : Option Node) → c ≡ k → k < length last → b ≡ slice_index_or last c b → b ≡ last_at last c
last_read last c k b e h is = is ∙ any_default last c b None (below_too c k (length last) e h)

line_is : (last : List (Option Node)) (held : Slab Linked) (c k : ℕ) → c ≡ k → k < length last → list (lists_of last held) k ≡ line last held c
line_is last held c k e h = list_is last held k h ∙ ap (line last held) (sym e)

-- the request that a call is for is at its place
at_now : (last : List (Option Node)) (held : Slab Linked) (peak c : ℕ) (own : Node) → IsLinked last held peak → c ≡ cown (place_at held own.slot) own.place
    → own.place < length (cowns_of (place_at held own.slot)) → IsAt held own c
at_now last held peak c own h e there = subst (λ x. IsAt held own x) (sym e) (own_at held own (h.distinct own.slot) there)

in_now : (last : List (Option Node)) (held : Slab Linked) (peak c k : ℕ) (own : Node) → IsLinked last held peak → c ≡ k → k < length last → IsAt held own c
    → 0 < times own.slot (slots (list (lists_of last held) k)) → Holds held c own (line last held c)
in_now last held peak c k own h e b at m = record {
  inside = record {
    spelled = (h.spelled c (below_too c k (length last) e b)).spelled;
    there = subst (λ xs. 0 < times own.slot (slots xs)) (line_is last held c k e b) m;
  };
  at = at;
  placed = h.placed c (below_too c k (length last) e b);
}

front_now : (last : List (Option Node)) (held : Slab Linked) (peak c k : ℕ) (own : Node) → IsLinked last held peak → c ≡ k → k < length last → IsAt held own c
    → IsGranted own.slot (list (lists_of last held) k) → Leads held c own (line last held c)
front_now last held peak c k own h e b at g = record {
  front = record {
    spelled = (h.spelled c (below_too c k (length last) e b)).spelled;
    granted = subst (λ xs. IsGranted own.slot xs) (line_is last held c k e b) g;
  };
  at = at;
  placed = h.placed c (below_too c k (length last) e b);
}

-- the node of request i of a slot
abbrev pub node_at : ℕ → ℕ → Node
node_at slot i = record { slot = slot; place = i }

-- such a request, as a call finds it
module _ {last : List (Option Node)} {held : Slab Linked} {peak : ℕ} (h : IsLinked last held peak) (slot i : ℕ)
    (there : i < length (cowns_of (place_at held slot))) where
  own_at_now : IsAt held (node_at slot i) (cown (place_at held slot) i)
  own_at_now = at_now last held peak (cown (place_at held slot) i) (node_at slot i) h refl there

  -- it is in the list of its cown
  own_holds : StandsIn (list_for (lists_of last held) (place_at held slot) i) slot
      → Holds held (cown (place_at held slot) i) (node_at slot i) (line last held (cown (place_at held slot) i))
  own_holds m = in_now last held peak (cown (place_at held slot) i) (cown (place_at held slot) i) (node_at slot i) h refl (h.in_range slot i there) own_at_now m

  -- some list has it
  pub some_holds : StandsIn (list_for (lists_of last held) (place_at held slot) i) slot → (c : ℕ) × ((xs : List Request) × Holds held c (node_at slot i) xs)
  some_holds m = (_, (_, own_holds m))

  -- its link is kept
  pub own_exchanged : StandsIn (list_for (lists_of last held) (place_at held slot) i) slot → i < exchanged_of (place_at held slot)
  own_exchanged m = (holds_it held (cown (place_at held slot) i) (node_at slot i) (line last held (cown (place_at held slot) i)) (own_holds m)).exchanged

  -- some list has it in front
  pub some_leads : IsGranted slot (list_for (lists_of last held) (place_at held slot) i) → (c : ℕ) × ((xs : List Request) × Leads held c (node_at slot i) xs)
  some_leads g = (
    _,
    (
      _,
      front_now last held peak (cown (place_at held slot) i) (cown (place_at held slot) i) (node_at slot i) h refl (h.in_range slot i there)
          own_at_now g,
    ),
  )

  -- what is said of each list that has it is so of the list of its cown
  pub said_of : (P : List Request → Type 0) → ((c : ℕ) (xs : List Request) → Holds held c (node_at slot i) xs → P xs)
      → StandsIn (list_for (lists_of last held) (place_at held slot) i) slot → P (list_for (lists_of last held) (place_at held slot) i)
  said_of P told m = subst P (sym (line_is last held (cown (place_at held slot) i) (cown (place_at held slot) i) refl (h.in_range slot i there)))
      (told _ _ (own_holds m))

  pub flag_call : (held' : Slab Linked) → StandsIn (list_for (lists_of last held) (place_at held slot) i) slot
      → ((c : ℕ) (l : Link) → IsAt held (node_at slot i) c → stored held slot c ≡ Some l → stored held' slot c ≡ Some (record l { scheduled = true }))
      → ((s d : ℕ) → s ≢ slot → stored held' s d ≡ stored held s d) → ((c s d : ℕ) → IsAt held (node_at slot i) c → d ≢ c → stored held' s d ≡ stored held s d)
      → ((s : ℕ) → place_at held' s ≡ place_at held s) → slab_len held' ≡ slab_len held
      → IsLinked last held' peak × (lists_of last held' ≡ with_change (with_flagged slot) (lists_of last held) (place_at held slot) i)
  flag_call held' m here slots_same cowns_same places len =
      let c = cown (place_at held slot) i in
      let it = own_holds m in
      let l = has_stored held c slot (line last held c) it.inside.spelled it.inside.there in
      let put = here c l.0 own_at_now l.1 in
      let names = it.placed slot l.0 it.inside.there l.1 in
      one_changed last last held held' peak c c (λ q. with_flagged slot q) h refl (h.in_range slot i there) refl (λ d n. refl)
      (λ s d n. cowns_same c s d own_at_now n) (λ s. ap cowns_of (places s)) len
      (flagged (links held) (links held') c slot (last_of last c) (line last held c) (seen l.0) (h.spelled c (h.in_range slot i there))
      (ap (option_map seen) l.1) (ap (option_map seen) put) (λ t n. ap (option_map seen) (slots_same t c n)))
      (placed_put held held' c slot (line last held c) (with_flagged slot (line last held c)) (record l.0 { scheduled = true }) it.placed
      (λ t b n. subst (λ ys. 0 < times t ys) (slots_flagged slot (line last held c)) b)
      (λ s. ap cowns_of (places s)) put (record { before = names.before; next = names.next }) (λ t n. slots_same t c n))
      (λ n q. at_kept held held' n c (ap cowns_of (places n.slot)) (h.ended c n (h.in_range slot i there) q))

  pub settle_call : (held' : Slab Linked) → StandsIn (list_for (lists_of last held) (place_at held slot) i) slot
      → ((c : ℕ) (xs : List Request) → Holds held c (node_at slot i) xs → IsSpelled (links held') c (after_settle slot xs))
      → ((c : ℕ) (xs : List Request) → Holds held c (node_at slot i) xs → IsPlaced held' c (after_settle slot xs))
      → ((c s d : ℕ) (xs : List Request) → Holds held c (node_at slot i) xs → d ≢ c → stored held' s d ≡ stored held s d)
      → ((s : ℕ) → place_at held' s ≡ place_at held s) → slab_len held' ≡ slab_len held
      → IsLinked last held' peak × (lists_of last held' ≡ with_change (after_settle slot) (lists_of last held) (place_at held slot) i)
  settle_call held' m spelled placed cowns_same places len =
      let c = cown (place_at held slot) i in
      let inside = h.in_range slot i there in
      let it = own_holds m in
      one_changed last last held held' peak c c (λ q. after_settle slot q) h refl inside refl (λ d n. refl) (λ s d n. cowns_same c s d (line last held c) it n)
      (λ s. ap cowns_of (places s)) len
      (record {
        spelled = spelled c (line last held c) it;
        ends = end_after_settle (before slot (line last held c)) slot (line last held c) ∙ (h.spelled c inside).ends;
      })
      (placed c (line last held c) it)
      (λ n q. at_kept held held' n c (ap cowns_of (places n.slot)) (h.ended c n inside q))

-- swap

fresh_in : (o : Option Linked) (i : ℕ) → ((d : ℕ) → times d (cowns_of (place_in o)) ≤ 1) → i < length (cowns_of (place_in o)) → i ≡ exchanged_of (place_in o)
    → stored_in o (cown (place_in o) i) ≡ None
fresh_in None i one h e = refl
fresh_in (Some v) i one h e = no_link v.cowns.items v.links i one h (omega arith)

in_pushed : (xs : List Request) (s t : ℕ) → 0 < times t (slots (xs ++ (fresh s ∷ []))) → t ≢ s → 0 < times t (slots xs)
in_pushed xs s t m n =
    let a : times t (slots (xs ++ (fresh s ∷ []))) ≡ times t (slots xs) + times t (s ∷ []) =
    ap (times t) (slots_append xs (fresh s ∷ [])) ∙ times_append t (slots xs) (s ∷ []) in
    let b = times_other t s [] (λ z. n (sym z)) in omega arith

end_get : (r : Request) (xs : List Request) → option_map slot_of (slice_get (r ∷ xs) (length xs)) ≡ option_map slot_at (end_of (Some r.slot) xs)
end_get r [] = refl
end_get r (x ∷ xs) = end_get x xs

last_is : (xs : List Request) → last_slot xs ≡ option_map slot_at (end_of None xs)
last_is [] = refl
last_is (r ∷ xs) = ap (λ n. option_map slot_of (slice_get (r ∷ xs) n)) (let e : suc (length xs) - 1 ≡ length xs = omega arith in e) ∙ end_get r xs

-- its cown was read
module _ {last : List (Option Node)} {held : Slab Linked} {peak : ℕ} (h : IsLinked last held peak) (slot i : ℕ)
    (there : i < length (cowns_of (place_at held slot)))
    (c : ℕ) (e : c ≡ cown (place_at held slot) i) (b : Option Node) (is : b ≡ slice_index_or last c b) where
  pub swap_call : (held' : Slab Linked) → i ≡ exchanged_of (place_at held slot)
      → (((d : ℕ) → times d (cowns_of (place_at held slot)) ≤ 1)
      → stored held' slot (cown (place_at held slot) (exchanged_of (place_at held slot)))
      ≡ Some (record { settled = false; scheduled = false; before = b; next = None }))
      → ((s d : ℕ) → s ≢ slot → stored held' s d ≡ stored held s d)
      → ((s d : ℕ) → d ≢ cown (place_at held slot) (exchanged_of (place_at held slot)) → stored held' s d ≡ stored held s d)
      → place_at held' slot ≡ one_more (place_at held slot) → ((s : ℕ) → s ≢ slot → place_at held' s ≡ place_at held s) → slab_len held' ≡ slab_len held
      → IsLinked (set last c (Some (node_at slot i))) held' peak
      × (lists_of (set last c (Some (node_at slot i))) held' ≡ with_change (with_fresh slot) (lists_of last held) (place_at held slot) i)
  swap_call held' next here slots_same cowns_same place places len =
      let own = node_at slot i in
      let below = h.in_range slot i there in
      let read = last_read last c (cown (place_at held slot) i) b e below is in
      let inside : c < length last = below_too c (cown (place_at held slot) i) (length last) e below in
      let same : cown (place_at held slot) (exchanged_of (place_at held slot)) ≡ c = ap (cown (place_at held slot)) (sym next) ∙ sym e in
      let cowns = λ (s : ℕ). elim (same_or_not s slot) as (λ _. cowns_of (place_at held' s) ≡ cowns_of (place_at held s)) [
        | inl f ↦ ap (λ t. cowns_of (place_at held' t)) f ∙ ap cowns_of place ∙ cowns_one_more (place_at held slot) ∙ ap (λ t. cowns_of (place_at held t))
            (sym f)
        | inr f ↦ ap cowns_of (places s f)
      ] in
      let link : stored held' slot c ≡ Some (record { settled = false; scheduled = false; before = b; next = None }) =
      ap (stored held' slot) (sym same) ∙ here (h.distinct slot) in
      one_changed last (set last c (Some own)) held held' peak c (cown (place_at held slot) i) (λ q. q ++ (fresh slot ∷ [])) h e below
      (length-set last c (Some own))
      (λ d n. get_or-set_other last c d (Some own) None n)
      (λ s d n. cowns_same s d (λ z. n (z ∙ same)))
      cowns
      len
      (subst (λ o. IsList (links held') c o (line last held c ++ (fresh slot ∷ [])))
      (sym (ap (option_map (λ (n : Node). n.slot)) (get_or-set_same last c (Some own) None inside)))
      (swapped (links held) (links held') c slot (last_of last c) (line last held c) (h.spelled c inside)
      (ap (links held slot) e ∙ ap (option_map seen) (fresh_in (get held slot) i (h.distinct slot) there next))
      (ap (option_map seen) link ∙ ap (λ (o : Option Node). Some (seen (record { settled = false; scheduled = false; before = o; next = None }))) read)
      (λ t n. ap (option_map seen) (slots_same t c n))))
      (placed_put held held' c slot (line last held c) (line last held c ++ (fresh slot ∷ []))
      (record { settled = false; scheduled = false; before = b; next = None }) (h.placed c inside)
      (λ t m n. in_pushed (line last held c) slot t m n)
      cowns link
      (record { before = λ n q. h.ended c n inside (sym read ∙ q); next = λ n q. absurd (let f : None ≡ Some n = q in cc) })
      (λ t n. slots_same t c n))
      (λ n q.
      let f : Some own ≡ Some n = sym (get_or-set_same last c (Some own) None inside) ∙ q in
      let g : own ≡ n = cc in
      subst (λ z. IsAt held' z c) g (at_kept held held' own c (cowns slot) (at_now last held peak c own h e there)))

  pub swap_answer : option_map slot_at (option_map (λ (n : Node). n.slot) b) ≡ last_slot (list_for (lists_of last held) (place_at held slot) i)
  swap_answer =
      let below = h.in_range slot i there in
      ap (option_map slot_at) (ap (option_map (λ (n : Node). n.slot)) (last_read last c (cown (place_at held slot) i) b e below is)
      ∙ sym (h.spelled c (below_too c (cown (place_at held slot) i) (length last) e below)).ends)
      ∙ sym (last_is (line last held c)) ∙ ap last_slot (sym (line_is last held c (cown (place_at held slot) i) e below))

-- leave

passed_is : (xs : List Request) → ((r : Request) → xs ≡ r ∷ [] → ⊥) → passed xs ≡ after_leave xs
passed_is [] h = refl
passed_is (r ∷ []) h = absurd (h r refl)
passed_is (r ∷ (x ∷ xs)) h = refl

not_one : (xs : List Request) (n : ℕ) → next_of (drop 1 xs) ≡ Some n → (r : Request) → xs ≡ r ∷ [] → ⊥
not_one xs n e r f = (let g : None ≡ Some n = ap (λ (ys : List Request). next_of (drop 1 ys)) (sym f) ∙ e in cc)

answer_some : (xs : List Request) (n : ℕ) → next_of (drop 1 xs) ≡ Some n → Passed (slot_at n) ≡ leave_answer xs
answer_some [] n e = absurd (let g : None ≡ Some n = e in cc)
answer_some (r ∷ []) n e = absurd (let g : None ≡ Some n = e in cc)
answer_some (r ∷ (x ∷ xs)) n e = elim x.settled as (λ b. cond b (Some x.slot) None ≡ Some n → Passed (slot_at n) ≡ cond b (Passed (slot_at x.slot)) Blocked) [
  | true ↦ λ f. (let g : Some x.slot ≡ Some n = f in let y : x.slot ≡ n = cc in ap (λ m. Passed (slot_at m)) (sym y))
  | false ↦ λ f. absurd (let g : None ≡ Some n = f in cc)
] e

answer_none : (xs : List Request) (s : ℕ) → IsGranted s xs → next_of (drop 1 xs) ≡ None → ((r : Request) → xs ≡ r ∷ [] → ⊥) → Blocked ≡ leave_answer xs
answer_none [] s g e h = absurd g
answer_none (r ∷ []) s g e h = absurd (h r refl)
answer_none (r ∷ (x ∷ xs)) s g e h = elim x.settled as (λ b. cond b (Some x.slot) None ≡ None → Blocked ≡ cond b (Passed (slot_at x.slot)) Blocked) [
  | true ↦ λ f. absurd (let g : Some x.slot ≡ None = f in cc)
  | false ↦ λ f. refl
] e

answer_alone : (xs : List Request) → drop 1 xs ≡ [] → (Unhooked ≡ leave_answer xs) × (after_leave xs ≡ [])
answer_alone [] e = (refl, refl)
answer_alone (r ∷ []) e = (refl, refl)
answer_alone (r ∷ (x ∷ xs)) e = absurd (let f : x ∷ xs ≡ [] = e in cc)

-- what is known of the front, of which `next` says who follows
pub record Fronts (last : List (Option Node)) (held : Slab Linked) (peak slot i c : ℕ) (next : Option ℕ) : Type 0 where
  pub linked : IsLinked last held peak
  pub there : i < length (cowns_of (place_at held slot))
  pub same : c ≡ cown (place_at held slot) i
  pub granted : IsGranted slot (list_for (lists_of last held) (place_at held slot) i)
  pub answer : (d : ℕ) (xs : List Request) → Leads held d (node_at slot i) xs → next ≡ next_of (drop 1 xs)

module _ {last : List (Option Node)} {held : Slab Linked} {peak slot i c : ℕ} {next : Option ℕ} (w : Fronts last held peak slot i c next) where
  below : cown (place_at held slot) i < length last
  below = w.linked.in_range slot i w.there

  inside : c < length last
  inside = below_too c (cown (place_at held slot) i) (length last) w.same below

  line_is_its : list_for (lists_of last held) (place_at held slot) i ≡ line last held c
  line_is_its = line_is last held c (cown (place_at held slot) i) w.same below

  front : Leads held c (node_at slot i) (line last held c)
  front = front_now last held peak c (cown (place_at held slot) i) (node_at slot i) w.linked w.same below
      (at_now last held peak c (node_at slot i) w.linked w.same w.there) w.granted

  its_list : IsList (links held) c (last_of last c) (line last held c)
  its_list = w.linked.spelled c inside

  -- whether the node that was read as the last is at the slot
  pub is_last : {b : Option Node} {r : Bool} → b ≡ slice_index_or last c b → (r ≡ true) ↔ (option_map (λ (n : Node). n.slot) b ≡ Some slot)
      → (r ≡ true) ↔ (last_of last c ≡ Some slot)
  is_last {b} is at =
      let read : option_map (λ (n : Node). n.slot) b ≡ last_of last c =
      ap (option_map (λ (n : Node). n.slot)) (last_read last c (cown (place_at held slot) i) b w.same below is) in
      (λ e. sym read ∙ at.0 e, λ e. at.1 (read ∙ e))

  -- it isn't
  pub not_last : {b : Option Node} {r : Bool} → b ≡ slice_index_or last c b → (r ≡ true) ↔ (option_map (λ (n : Node). n.slot) b ≡ Some slot) → r ≡ false
      → ¬ (last_of last c ≡ Some slot)
  not_last {b} {r} is at off = λ e. absurd (let on : r ≡ true = (is_last is at).1 e in cc)

  pub leave_some_answer : {n : ℕ} → next ≡ Some n → Passed (slot_at n) ≡ leave_answer (list_for (lists_of last held) (place_at held slot) i)
  leave_some_answer e = answer_some (line last held c) _ (sym (w.answer c (line last held c) front) ∙ e) ∙ ap leave_answer (sym line_is_its)

  only_last : ¬ (last_of last c ≡ Some slot) → (r : Request) → line last held c ≡ r ∷ [] → ⊥
  only_last n r e = n (left_last (links held) c slot (last_of last c) r (subst (λ ys. IsList (links held) c (last_of last c) ys) e its_list)
      (let g : IsGranted slot (r ∷ []) = subst (λ ys. IsGranted slot ys) e front.front.granted in g.0))

  pub leave_blocked_answer : next ≡ None → ¬ (last_of last c ≡ Some slot) → Blocked ≡ leave_answer (list_for (lists_of last held) (place_at held slot) i)
  leave_blocked_answer e n = answer_none (line last held c) slot front.front.granted (sym (w.answer c (line last held c) front) ∙ e) (only_last n)
      ∙ ap leave_answer (sym line_is_its)

  alone : last_of last c ≡ Some slot → (Unhooked ≡ leave_answer (line last held c)) × (after_leave (line last held c) ≡ [])
  alone e = answer_alone (line last held c) (left_none (links held) c slot (last_of last c) (line last held c) its_list front.front.granted e)

  pub leave_alone_answer : last_of last c ≡ Some slot → Unhooked ≡ leave_answer (list_for (lists_of last held) (place_at held slot) i)
  leave_alone_answer e = (alone e).0 ∙ ap leave_answer (sym line_is_its)

  -- whether it can leave
  leave_on : is_some next ≡ true → leave_answer (list_for (lists_of last held) (place_at held slot) i) ≡ Blocked → ⊥
  leave_on h e = elim next as (λ o. is_some o ≡ true → next ≡ o → ⊥) [
    | Some n ↦ λ q f. (let g : Passed (slot_at n) ≡ Blocked = leave_some_answer f ∙ e in absurd cc)
    | None ↦ λ q f. absurd (let g : false ≡ true = q in cc)
  ] h refl

  leave_off : is_some next ≡ false → ¬ (last_of last c ≡ Some slot) → leave_answer (list_for (lists_of last held) (place_at held slot) i) ≡ Blocked
  leave_off h far = elim next as (λ o. is_some o ≡ false → next ≡ o → leave_answer (list_for (lists_of last held) (place_at held slot) i) ≡ Blocked) [
    | Some n ↦ λ q f. absurd (let g : true ≡ false = q in cc)
    | None ↦ λ q f. sym (leave_blocked_answer f far)
  ] h refl

  leave_last : last_of last c ≡ Some slot → leave_answer (list_for (lists_of last held) (place_at held slot) i) ≡ Blocked → ⊥
  leave_last h e = (let g : Unhooked ≡ Blocked = leave_alone_answer h ∙ e in absurd cc)

  -- an answer of `can_leave`
  pub leave_told_next : (r : Bool) → r ≡ true → r ≡ is_some next → (r ≡ false) ↔ (leave_answer (list_for (lists_of last held) (place_at held slot) i) ≡ Blocked)
  leave_told_next r on is = (λ f. absurd (let g : true ≡ false = sym on ∙ f in cc), λ f. absurd (leave_on (sym is ∙ on) f))

  pub leave_told_last : (r : Bool) → is_some next ≡ false → (r ≡ true) ↔ (last_of last c ≡ Some slot)
      → (r ≡ false) ↔ (leave_answer (list_for (lists_of last held) (place_at held slot) i) ≡ Blocked)
  leave_told_last true off is = (λ f. absurd (let g : true ≡ false = f in cc), λ f. absurd (leave_last (is.0 refl) f))
  leave_told_last false off is = (λ f. leave_off off (λ e. absurd (let g : false ≡ true = is.1 e in cc)), λ f. refl)

-- what is known as it leaves
pub record Leaves (last : List (Option Node)) (held held' : Slab Linked) (peak slot i c : ℕ) (next : Option ℕ) : Type 0 where
  pub fronts : Fronts last held peak slot i c next
  pub spelled : (d : ℕ) (xs : List Request) → Leads held d (node_at slot i) xs → IsSpelled (links held') d (passed xs)
  pub placed : (d : ℕ) (xs : List Request) → Leads held d (node_at slot i) xs → IsPlaced held' d (passed xs)
  pub cowns_same : (e s d : ℕ) (xs : List Request) → Leads held e (node_at slot i) xs → d ≢ e → stored held' s d ≡ stored held s d
  pub places : (s : ℕ) → place_at held' s ≡ place_at held s
  pub len : slab_len held' ≡ slab_len held

module _ {last : List (Option Node)} {held held' : Slab Linked} {peak slot i c : ℕ} {next : Option ℕ} (w : Leaves last held held' peak slot i c next) where
  -- not the only one
  passes : ((r : Request) → line last held c ≡ r ∷ [] → ⊥)
      → IsLinked last held' peak × (lists_of last held' ≡ with_change after_leave (lists_of last held) (place_at held slot) i)
  passes h = one_changed last last held held' peak c (cown (place_at held slot) i) after_leave w.fronts.linked w.fronts.same (below w.fronts) refl (λ d n. refl)
      (λ s d n. w.cowns_same c s d (line last held c) (front w.fronts) n) (λ s. ap cowns_of (w.places s)) w.len
      (subst (λ ys. IsList (links held') c (last_of last c) ys) (passed_is (line last held c) h)
      (record { spelled = w.spelled c (line last held c) (front w.fronts); ends = end_passed (line last held c) ∙ (its_list w.fronts).ends }))
      (subst (λ ys. IsPlaced held' c ys) (passed_is (line last held c) h) (w.placed c (line last held c) (front w.fronts)))
      (λ n q. at_kept held held' n c (ap cowns_of (w.places n.slot)) (w.fronts.linked.ended c n (inside w.fronts) q))

  pub leave_some : {n : ℕ} → next ≡ Some n → IsLinked last held' peak
      × (lists_of last held' ≡ with_change after_leave (lists_of last held) (place_at held slot) i)
  leave_some e = passes (not_one (line last held c) _ (sym (w.fronts.answer c (line last held c) (front w.fronts)) ∙ e))

  pub leave_blocked : ¬ (last_of last c ≡ Some slot) → IsLinked last held' peak
      × (lists_of last held' ≡ with_change after_leave (lists_of last held) (place_at held slot) i)
  leave_blocked n = passes (only_last w.fronts n)

  pub leave_alone : last_of last c ≡ Some slot → IsLinked (set last c None) held' peak
      × (lists_of (set last c None) held' ≡ with_change after_leave (lists_of last held) (place_at held slot) i)
  leave_alone e = one_changed last (set last c None) held held' peak c (cown (place_at held slot) i) after_leave w.fronts.linked w.fronts.same (below w.fronts)
      (length-set last c None) (λ d n. get_or-set_other last c d None None n) (λ s d n. w.cowns_same c s d (line last held c) (front w.fronts) n)
      (λ s. ap cowns_of (w.places s)) w.len
      (subst (λ ys. IsList (links held') c (last_of (set last c None) c) ys) (sym (alone w.fronts e).1)
      (record {
        spelled = record { spells = tt; once = λ s. omega arith };
        ends = sym (ap (option_map (λ (n : Node). n.slot)) (get_or-set_same last c None None (inside w.fronts)));
      }))
      (subst (λ ys. IsPlaced held' c ys) (sym (alone w.fronts e).1) (λ t l m q. absurd (omega arith)))
      (λ n q. absurd (let f : None ≡ Some n = sym (get_or-set_same last c None None (inside w.fronts)) ∙ q in cc))

-- admit and dismiss

pub grown : (last : List (Option Node)) (held held' : Slab Linked) (peak n : ℕ) → IsLinked last held peak → held' ≡ record held { capacity = n }
    → IsLinked last held' peak × (lists_of last held' ≡ lists_of last held)
grown last held held' peak n h e = subst (λ (z : Slab Linked). IsLinked last z peak × (lists_of last z ≡ lists_of last held)) (sym e)
    (none_changed last held (record held { capacity = n }) peak peak h (λ s c b m. refl) (λ n c b m at. at) h.distinct h.in_range h.short h.held)

nothing : (o : Option ℕ) → option_and_then {U = Link} (λ i. slice_get [] i) o ≡ None
nothing None = refl
nothing (Some i) = refl

no_links : (v : Linked) (c : ℕ) → v.links ≡ [] → stored_in (Some v) c ≡ None
no_links v c e = ap (λ (ls : List Link). option_and_then (λ i. slice_get ls i) (position (λ d. d == c) v.cowns.items)) e
    ∙ nothing (position (λ d. d == c) v.cowns.items)

pub admit_call : (last : List (Option Node)) (held mid held' : Slab Linked) (peak n key peak' : ℕ) (v : Linked) → IsLinked last held peak
    → mid ≡ record held { capacity = n }
    → get mid key ≡ None → Updates mid held' key (Some v) → v.links ≡ [] → ((c : ℕ) → times c v.cowns.items ≤ 1)
    → ((c : ℕ) → 0 < times c v.cowns.items → c < length (lists_of last held))
    → ((i : ℕ) → i < length v.cowns.items → (key < 2 ^ 16) × (i < 2 ^ 8))
    → slab_len held' ≤ peak' → IsLinked last held' peak' × (lists_of last held' ≡ lists_of last held)
admit_call last held mid held' peak n key peak' v h e vacant updates none distinct range short few =
    let g = grown last held mid peak n h e in
    let at = λ (s : ℕ) (f : s ≡ key). ap (get held') f ∙ updates.changed in
    let r = none_changed last mid held' peak peak' g.0
    (λ s c b m. elim (same_or_not s key) [
      | inl f ↦ ap (λ o. stored_in o c) (at s f) ∙ no_links v c none ∙ sym (ap (λ t. stored mid t c) f ∙ ap (λ o. stored_in o c) vacant)
      | inr f ↦ ap (λ o. stored_in o c) (updates.others s f)
    ])
    (λ n c b m at_c. elim (same_or_not n.slot key) [
      | inl f ↦ absurd (no_cown c n.place (ap (λ o. position (λ d. d == c) (cowns_of (place_in o))) (sym (ap (get mid) f ∙ vacant)) ∙ at_c))
      | inr f ↦ ap (λ o. position (λ d. d == c) (cowns_of (place_in o))) (updates.others n.slot f) ∙ at_c
    ])
    (λ s x. elim (same_or_not s key) [
      | inl f ↦ subst (λ o. times x (cowns_of (place_in o)) ≤ 1) (sym (at s f)) (distinct x)
      | inr f ↦ subst (λ o. times x (cowns_of (place_in o)) ≤ 1) (sym (updates.others s f)) (g.0.distinct s x)
    ])
    (λ s i b. elim (same_or_not s key) [
      | inl f ↦
          let b' : i < length v.cowns.items = subst (λ o. i < length (cowns_of (place_in o))) (at s f) b in
          let k = range (get_or v.cowns.items i 0) (stands v.cowns.items i b') in
          let z : get_or v.cowns.items i 0 < length last = omega (arith, lists_length last held) in
          subst (λ o. cown (place_in o) i < length last) (sym (at s f)) z
      | inr f ↦ subst (λ o. cown (place_in o) i < length last) (sym (updates.others s f))
          (g.0.in_range s i (subst (λ o. i < length (cowns_of (place_in o))) (updates.others s f) b))
    ])
    (λ s i b. elim (same_or_not s key) [
      | inl f ↦
          let own = short i (subst (λ o. i < length (cowns_of (place_in o))) (at s f) b) in
          (subst (λ (z : ℕ). z < 2 ^ 16) (sym f) own.0, own.1)
      | inr f ↦ g.0.short s i (subst (λ o. i < length (cowns_of (place_in o))) (updates.others s f) b)
    ])
    few in
    (r.0, r.1 ∙ g.1)

pub dismiss_call : (last : List (Option Node)) (held held' : Slab Linked) (peak slot : ℕ) → IsLinked last held peak → Updates held held' slot None
    → ((c : ℕ) → times slot (slots (list (lists_of last held) c)) ≡ 0) → slab_len held' + 1 ≡ slab_len held
    → IsLinked last held' peak × (lists_of last held' ≡ lists_of last held)
dismiss_call last held held' peak slot h updates empty len =
    let at = λ (s : ℕ) (f : s ≡ slot). ap (get held') f ∙ updates.changed in
    none_changed last held held' peak peak h
    (λ s c b m. ap (λ o. stored_in o c) (updates.others s (λ f.
    let z : times s (slots (line last held c)) ≡ 0 = ap (λ t. times t (slots (line last held c))) f
    ∙ ap (λ ys. times slot (slots ys)) (sym (list_is last held c b)) ∙ empty c in absurd (omega arith))))
    (λ n c b m at_c. ap (λ o. position (λ d. d == c) (cowns_of (place_in o))) (updates.others n.slot (λ f.
    let z : times n.slot (slots (line last held c)) ≡ 0 =
    ap (λ t. times t (slots (line last held c))) f ∙ ap (λ ys. times slot (slots ys)) (sym (list_is last held c b)) ∙ empty c in absurd (omega arith)))
    ∙ at_c)
    (λ s x. elim (same_or_not s slot) [
      | inl f ↦ subst (λ o. times x (cowns_of (place_in o)) ≤ 1) (sym (at s f)) (omega arith)
      | inr f ↦ subst (λ o. times x (cowns_of (place_in o)) ≤ 1) (sym (updates.others s f)) (h.distinct s x)
    ])
    (λ s i b. elim (same_or_not s slot) [
      | inl f ↦ (let z : i < length {A = ℕ} [] = subst (λ o. i < length (cowns_of (place_in o))) (at s f) b in absurd (omega arith))
      | inr f ↦ subst (λ o. cown (place_in o) i < length last) (sym (updates.others s f))
          (h.in_range s i (subst (λ o. i < length (cowns_of (place_in o))) (updates.others s f) b))
    ])
    (λ s i b. elim (same_or_not s slot) [
      | inl f ↦ (let z : i < length {A = ℕ} [] = subst (λ o. i < length (cowns_of (place_in o))) (at s f) b in absurd (omega arith))
      | inr f ↦ h.short s i (subst (λ o. i < length (cowns_of (place_in o))) (updates.others s f) b)
    ])
    (let p = h.held in omega arith)

-- new, and what is said of the links

none_last : (n c : ℕ) → last_at (replicate n None) c ≡ None
none_last zero c = refl
none_last (suc n) zero = refl
none_last (suc n) (suc c) = none_last n c

from_none : (b n : ℕ) → from (λ c. []) b n ≡ replicate n []
from_none b zero = refl
from_none b (suc n) = ap (λ ys. [] ∷ ys) (from_none (suc b) n)

length_none : (n : ℕ) → length (let xs : List (Option Node) = replicate n None in xs) ≡ n
length_none zero = refl
length_none (suc n) = ap (λ m. suc m) (length_none n)

no_place : (held : Slab Linked) (s : ℕ) → held.slots ≡ [] → get held s ≡ None
no_place held s e = ap (λ (ys : List (Option Linked)). slice_index_or ys s None) e

pub new_chains : (last : List (Option Node)) (held : Slab Linked) (n : ℕ) → last ≡ replicate n None → held.slots ≡ []
    → IsLinked last held 0 × (lists_of last held ≡ replicate n []) × ((s : ℕ) → place_at held s ≡ None)
unfolding lists_of
new_chains last held n e none =
    let is = λ (c : ℕ). let l : IsList (links held) c (last_of last c) [] =
    record {
      spelled = record { spells = tt; once = λ s. omega arith };
      ends = sym (ap (option_map (λ (k : Node). k.slot)) (ap (λ (ls : List (Option Node)). last_at ls c) e ∙ none_last n c));
    } in l in
    let at = λ (s : ℕ). no_place held s none in (
      record {
        spelled = λ c b. subst (λ ys. IsList (links held) c (last_of last c) ys) (sym (read held c (last_of last c) [] (is c))) (is c);
        placed = λ c b. subst (λ ys. IsPlaced held c ys) (sym (read held c (last_of last c) [] (is c))) (λ t l m q. absurd (omega arith));
        ended = λ c k b q. absurd (let f : None ≡ Some k = sym (ap (λ (ls : List (Option Node)). last_at ls c) e ∙ none_last n c) ∙ q in cc);
        distinct = λ s c. subst (λ o. times c (cowns_of (place_in o)) ≤ 1) (sym (at s)) (omega arith);
        in_range = λ s i b. (let z : i < length {A = ℕ} [] = subst (λ o. i < length (cowns_of (place_in o))) (at s) b in absurd (omega arith));
        short = λ s i b. (let z : i < length {A = ℕ} [] = subst (λ o. i < length (cowns_of (place_in o))) (at s) b in absurd (omega arith));
        held = subst (λ (ys : List (Option Linked)). count_by is_some ys ≤ 0) (sym none) (omega arith);
      },
      from_same (λ c. []) (line last held) 0 (length last) (λ d m b. read held d (last_of last d) [] (is d))
          ∙ ap (from (λ c. []) 0) (ap length e ∙ length_none n) ∙ from_none 0 n,
      λ s. ap place_in (at s),
    )

place_there : (o : Option Linked) (c : ℕ) (l : Tie) → option_map seen (stored_in o c) ≡ Some l → IsSome (place_in o)
place_there None c l e = absurd (let f : None ≡ Some l = e in cc)
place_there (Some v) c l e = refl

pub said_last : (last : List (Option Node)) (held : Slab Linked) (peak c : ℕ) → IsLinked last held peak → c < length (lists_of last held)
    → last_of last c ≡ end_of None (list (lists_of last held) c)
said_last last held peak c h b =
    let b' : c < length last = omega (arith, lists_length last held) in
    sym (h.spelled c b').ends ∙ ap (end_of None) (sym (list_is last held c b'))

pub said_links : (last : List (Option Node)) (held : Slab Linked) (peak c : ℕ) → IsLinked last held peak → c < length (lists_of last held)
    → Spells (links held) c None (list (lists_of last held) c)
said_links last held peak c h b =
    let b' : c < length last = omega (arith, lists_length last held) in
    subst (λ ys. Spells (links held) c None ys) (sym (list_is last held c b')) (h.spelled c b').spelled.spells

pub said_held : (last : List (Option Node)) (held : Slab Linked) (peak c s : ℕ) → IsLinked last held peak → c < length (lists_of last held)
    → 0 < times s (slots (list (lists_of last held) c)) → IsSome (place_at held s)
said_held last held peak c s h b m =
    let l = has_link (links held) c None (list (lists_of last held) c) s (said_links last held peak c h b) m in
    place_there (get held s) c l.0 l.1
