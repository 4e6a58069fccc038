-- All lists after the one of a cown was changed.
use Rattle.std.proofs.Common.{◌≡◌, ◌≢◌, ℕ, zero, suc, ◌+◌, ◌^◌, ◌<◌, ◌≤◌, List, ◌∷◌, length, set, refl, sym, ◌∙◌, ap, subst, inl, inr, arith}
use Rattle.std.specs.Prelude.{Option, Some, None, slice_index_or}
use Rattle.std.specs.Option.{option_map}
use Rattle.slab.specs.Slab.{Slab, slab_len}
use Rattle.boc_chain.specs.declared.request.Request.{Request}
use Rattle.boc_chain.specs.declared.linked.Node.{Node}
use Rattle.boc_chain.specs.KeptLinks.{Linked}
use Rattle.boc_chain.specs.Chain.{times, slots, list, cowns_of, cown}
use Rattle.boc_chain.specs.Linked.{stored, seen, links, place_at, IsAt, IsPlaced, last_at, IsList, IsLinked, last_of, line, from, lists_of}
use Rattle.boc_chain.specs.Links.{Tie}
use Rattle.boc_chain.proofs.Lines.{same_or_not}
use Rattle.boc_chain.proofs.Spelled.{agrees, end_in}
use Rattle.boc_chain.proofs.Fuel.{read}
use Rattle.boc_chain.proofs.Placed.{at_kept, placed_kept, named_before, named_next}

from_get : (f : ℕ → List Request) (b n c : ℕ) → c < n → list (from f b n) c ≡ f (b + c)
from_get f b zero c h = absurd (omega arith)
from_get f b (suc n) zero h = ap f (omega arith)
from_get f b (suc n) (suc c) h = from_get f (suc b) n c (omega arith) ∙ ap f (omega arith)

from_length : (f : ℕ → List Request) (b n : ℕ) → length (from f b n) ≡ n
from_length f b zero = refl
from_length f b (suc n) = ap (λ m. suc m) (from_length f (suc b) n)

pub from_same : (f g : ℕ → List Request) (b n : ℕ) → ((d : ℕ) → b ≤ d → d < b + n → g d ≡ f d) → from g b n ≡ from f b n
from_same f g b zero h = refl
from_same f g b (suc n) h = ap (λ x. x ∷ from g (suc b) n) (h b (omega arith) (omega arith))
    ∙ ap (λ ys. f b ∷ ys) (from_same f g (suc b) n (λ d m k. h d (omega arith) (omega arith)))

from_set : (f g : ℕ → List Request) (b n c : ℕ) (x : List Request) → c < n → g (b + c) ≡ x → ((d : ℕ) → b ≤ d → d < b + n → d ≢ b + c → g d ≡ f d)
    → from g b n ≡ set (from f b n) c x
from_set f g b zero c x h e others = absurd (omega arith)
from_set f g b (suc n) zero x h e others = ap (λ y. y ∷ from g (suc b) n) (ap g (let k : b ≡ b + 0 = omega arith in k) ∙ e)
    ∙ ap (λ ys. x ∷ ys) (from_same f g (suc b) n (λ d m k. others d (omega arith) (omega arith) (λ z. absurd (omega arith))))
from_set f g b (suc n) (suc c) x h e others = ap (λ y. y ∷ from g (suc b) n) (others b (omega arith) (omega arith) (λ z. absurd (omega arith)))
    ∙ ap (λ ys. f b ∷ ys) (from_set f g (suc b) n c x (omega arith) (ap g (let k : suc b + c ≡ b + suc c = omega arith in k) ∙ e)
    (λ d m k z. others d (omega arith) (omega arith) (λ y. z (omega arith))))

pub lists_length : (last : List (Option Node)) (held : Slab Linked) → length (lists_of last held) ≡ length last
unfolding lists_of
lists_length last held = from_length (line last held) 0 (length last)

-- the list of a cown is its line
pub list_is : (last : List (Option Node)) (held : Slab Linked) (c : ℕ) → c < length last → list (lists_of last held) c ≡ line last held c
unfolding lists_of
list_is last held c h = from_get (line last held) 0 (length last) c h ∙ ap (line last held) (let e : 0 + c ≡ c = omega arith in e)

-- the links of a cown stay, so does its list
kept_list : (link link' : ℕ → ℕ → Option Tie) (c : ℕ) (last last' : Option ℕ) (xs : List Request) → IsList link c last xs
    → ((s : ℕ) → 0 < times s (slots xs) → link' s c ≡ link s c) → last' ≡ last → IsList link' c last' xs
kept_list link link' c last last' xs h same e = record {
  spelled = record { spells = agrees link link' c None xs h.spelled.spells same; once = h.spelled.once };
  ends = h.ends ∙ sym e;
}

-- the list of cown c is changed by f
pub one_changed : (last last' : List (Option Node)) (held held' : Slab Linked) (peak c k : ℕ) (f : List Request → List Request) → IsLinked last held peak
    → c ≡ k → k < length last
    → length last' ≡ length last → ((d : ℕ) → d ≢ c → last_at last' d ≡ last_at last d)
    → ((s d : ℕ) → d ≢ c → stored held' s d ≡ stored held s d)
    → ((s : ℕ) → cowns_of (place_at held' s) ≡ cowns_of (place_at held s))
    → slab_len held' ≡ slab_len held
    → IsList (links held') c (last_of last' c) (f (line last held c)) → IsPlaced held' c (f (line last held c))
    → ((n : Node) → last_at last' c ≡ Some n → IsAt held' n c)
    → IsLinked last' held' peak × (lists_of last' held' ≡ set (lists_of last held) k (f (list (lists_of last held) k)))
unfolding lists_of
one_changed last last' held held' peak c k f h e below long others same places len is placed ended =
    let others_is = λ (d : ℕ) (n : d ≢ c) (b : d < length last). kept_list (links held) (links held') d (last_of last d) (last_of last' d) (line last held d)
    (h.spelled d b) (λ s m. ap (option_map seen) (same s d n)) (ap (option_map (λ (n : Node). n.slot)) (others d n)) in
    let here : line last' held' c ≡ f (line last held c) = read held' c (last_of last' c) (f (line last held c)) is in
    let there = λ (d : ℕ) (n : d ≢ c) (b : d < length last). read held' d (last_of last' d) (line last held d) (others_is d n b) in (
      record {
        spelled = λ d b. elim (same_or_not d c) [
          | inl z ↦ subst (λ x. IsList (links held') x (last_of last' x) (line last' held' x)) (sym z)
              (subst (λ ys. IsList (links held') c (last_of last' c) ys) (sym here) is)
          | inr z ↦ subst (λ ys. IsList (links held') d (last_of last' d) ys) (sym (there d z (omega arith))) (others_is d z (omega arith))
        ];
        placed = λ d b. elim (same_or_not d c) [
          | inl z ↦ subst (λ x. IsPlaced held' x (line last' held' x)) (sym z) (subst (λ ys. IsPlaced held' c ys) (sym here) placed)
          | inr z ↦ subst (λ ys. IsPlaced held' d ys) (sym (there d z (omega arith)))
              (placed_kept held held' d (line last held d) (line last held d) (h.placed d (omega arith)) (λ t m. m) places (λ t. same t d z))
        ];
        ended = λ d n b q. elim (same_or_not d c) [
          | inl z ↦ subst (λ x. IsAt held' n x) (sym z) (ended n (ap (last_at last') (sym z) ∙ q))
          | inr z ↦ at_kept held held' n d (places n.slot) (h.ended d n (omega arith) (sym (others d z) ∙ q))
        ];
        distinct = λ s x. subst (λ cs. times x cs ≤ 1) (sym (places s)) (h.distinct s x);
        in_range = λ s i b.
            let old = h.in_range s i (subst (λ (cs : List ℕ). i < length cs) (places s) b) in
            let m : cown (place_at held' s) i ≡ cown (place_at held s) i = ap (λ cs. slice_index_or cs i 0) (places s) in
            omega arith;
        short = λ s i b. h.short s i (subst (λ (cs : List ℕ). i < length cs) (places s) b);
        held = (let p = h.held in omega arith);
      },
      ap (from (line last' held') 0) long
          ∙ from_set (line last held) (line last' held') 0 (length last) c (f (line last held c)) (omega arith)
          (ap (line last' held') (let z : 0 + c ≡ c = omega arith in z) ∙ here)
          (λ d m b n. there d (λ z. n (omega arith)) (omega arith))
          ∙ ap (λ ys. set (from (line last held) 0 (length last)) c (f ys)) (sym (list_is last held c (omega arith)))
          ∙ ap (λ n. set (from (line last held) 0 (length last)) n (f (list (from (line last held) 0 (length last)) n))) e,
    )

-- no list is changed
pub none_changed : (last : List (Option Node)) (held held' : Slab Linked) (peak peak' : ℕ) → IsLinked last held peak
    → ((s c : ℕ) → c < length last → 0 < times s (slots (line last held c)) → stored held' s c ≡ stored held s c)
    → ((n : Node) (c : ℕ) → c < length last → 0 < times n.slot (slots (line last held c)) → IsAt held n c → IsAt held' n c)
    → ((s x : ℕ) → times x (cowns_of (place_at held' s)) ≤ 1)
    → ((s i : ℕ) → i < length (cowns_of (place_at held' s)) → cown (place_at held' s) i < length last)
    → ((s i : ℕ) → i < length (cowns_of (place_at held' s)) → (s < 2 ^ 16) × (i < 2 ^ 8))
    → slab_len held' ≤ peak'
    → IsLinked last held' peak' × (lists_of last held' ≡ lists_of last held)
unfolding lists_of
none_changed last held held' peak peak' h same ats distinct range short few =
    let is = λ (d : ℕ) (b : d < length last). kept_list (links held) (links held') d (last_of last d) (last_of last d) (line last held d) (h.spelled d b)
    (λ s m. ap (option_map seen) (same s d b m)) refl in
    let whole = λ (d : ℕ) (b : d < length last). read held' d (last_of last d) (line last held d) (is d b) in (
      record {
        spelled = λ d b. subst (λ ys. IsList (links held') d (last_of last d) ys) (sym (whole d b)) (is d b);
        placed = λ d b. subst (λ ys. IsPlaced held' d ys) (sym (whole d b)) (λ t l m q.
            let got = sym (same t d b m) ∙ q in
            let tie : links held t d ≡ Some (seen l) = ap (option_map seen) got in
            let old = h.placed d b t l m got in
            let spells = (h.spelled d b).spelled.spells in
            record {
              before = λ n z. ats n d b (elim (named_before (links held) d None (line last held d) t (seen l) n.slot spells m tie
                  (ap (option_map (λ (k : Node). k.slot)) z)) [
                    | inl f ↦ absurd (let y : None ≡ Some n.slot = f in cc)
                    | inr k ↦ k
                  ]) (old.before n z);
              next = λ n z. ats n d b (named_next (links held) d None (line last held d) t (seen l) n.slot spells m tie
                  (ap (option_map (λ (k : Node). k.slot)) z)) (old.next n z);
            });
        ended = λ d n b q. ats n d b (elim (end_in None n.slot (line last held d) ((h.spelled d b).ends ∙ ap (option_map (λ (k : Node). k.slot)) q)) [
          | inl f ↦ absurd (let y : None ≡ Some n.slot = f in cc)
          | inr k ↦ k
        ]) (h.ended d n b q);
        distinct = distinct;
        in_range = range;
        short = short;
        held = few;
      },
      from_same (line last held) (line last held') 0 (length last) (λ d m b. read held' d (last_of last d) (line last held d) (is d (omega arith))),
    )
