use Rattle.std.proofs.Common.{ℕ, ◌≡◌, ◌≤◌, ◌<◌, ◌^◌, ◌∙◌, ap, sym, subst, length, arith}
use Rattle.arrayvec.specs.ArrayVec.{ArrayVec}
use Rattle.slab.specs.Slab.{Slab, slab_len}
use Rattle.boc_chain.specs.KeptLinks.{Linked}
use Rattle.boc_chain.specs.Chain.{times}
use Rattle.boc_chain.specs.Linked.{IsLinked, lists_of}
use Rattle.boc_chain.specs.LinkViews.{lists}
use Rattle.boc_program.specs.declared.limits.TheConstants.{MOST_COWNS}
use Rattle.boc_chain.proofs.Calls.{grown, admit_call}
use Rattle.boc_chain.proofs.Counted.{all_below}
use Rattle.boc_chain.proofs.Listed.{lists_length}
use Rattle.boc_chain.proofs.link_chains.LinkChainsChains.admit.Goals as goal
use Rattle.boc_chain.proofs.link_chains.LinkChainsChains.admit.Goals.{After-max-self}

-- each of them has a byte
pub of-requires : goal.of-requires
of-requires c =
    let s = c.args.self.now in
    all_below MOST_COWNS c.args.cowns.items (λ d stands.
    omega (arith, s.few, c.requires.in_range d stands, lists_length s.last.items s.slots))

pub invariant_of-self : goal.invariant_of-self
invariant_of-self c =
    let s = c.args.self.now in
    record {
      few = s.few;
      linked = (grown s.last.items s.slots c.reserve.new.self s.peak c.reserve.new.self.capacity s.linked c.reserve.ensures.rest_kept).0;
    }

pub returns-in_err-reserve-clause-lists : goal.returns-in_err-reserve-clause-lists
returns-in_err-reserve-clause-lists c =
    let s = c.args.self.now in
    (grown s.last.items s.slots c.reserve.new.self s.peak c.reserve.new.self.capacity s.linked c.reserve.ensures.rest_kept).1

-- the slot is the key that was vacant
key_is : (c : After-max-self) → c.insert_reserved-index.result ≡ c.args.self.now.slots.vacant_key
key_is c = c.insert_reserved-index.ensures.key ∙ ap (λ (x : Slab Linked). x.vacant_key) c.reserve.ensures.rest_kept

-- what the links keep, and the lists, with the cowns admitted
admitted : (c : After-max-self) → IsLinked c.args.self.now.last.items c.insert_reserved-index.new.self c.max-self.result
    × (lists_of c.args.self.now.last.items c.insert_reserved-index.new.self ≡ lists c.args.self.now)
admitted c =
    let s = c.args.self.now in
    let few : slab_len c.insert_reserved-index.new.self ≤ c.max-self.result = omega arith in
    let key = key_is c in
    let kept = c.in_ok-linked.linked.cowns in
    let same : kept ≡ c.args.cowns = c.in_ok-linked.ensures.cowns ∙ c.of.ensures in
    let distinct = subst (λ (cs : ArrayVec ℕ). (n : ℕ) → times n cs.items ≤ 1) (sym same) c.requires.distinct in
    let in_range = subst (λ (cs : ArrayVec ℕ). (n : ℕ) → 0 < times n cs.items → n < length (lists s)) (sym same) c.requires.in_range in
    let short : (i : ℕ) → i < length kept.items → (c.insert_reserved-index.result < 2 ^ 16) × (i < 2 ^ 8) =
    λ i h. (omega (arith, key), omega (arith, h, ap (λ (cs : ArrayVec ℕ). length cs.items) same)) in
    admit_call s.last.items s.slots c.reserve.new.self c.insert_reserved-index.new.self s.peak c.reserve.new.self.capacity c.insert_reserved-index.result
    c.max-self.result _ s.linked c.reserve.ensures.rest_kept
    c.insert_reserved-index.ensures.was_vacant c.insert_reserved-index.ensures.updates c.in_ok-linked.ensures.empty distinct in_range short few

pub invariant_of-self-2 : goal.invariant_of-self-2
invariant_of-self-2 c = record { few = c.args.self.now.few; linked = (admitted (goal.at.invariant_of-self-2 c).After-max-self).0 }

pub returns-clause-lists : goal.returns-clause-lists
returns-clause-lists c = (admitted (goal.at.returns-clause-lists c).After-max-self).1

pub returns-clause-low : goal.returns-clause-low
returns-clause-low c = omega (arith, key_is (goal.at.returns-clause-low c).After-max-self)
