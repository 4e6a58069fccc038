use Rattle.std.proofs.Common.{◌≡◌, ◌+◌, ◌<◌, length, set, get_or, sym, ◌∙◌, ap, subst, refl, ℕ, List}
use Rattle.std.specs.Prelude.{slice_get, Some, Option}
use Rattle.std.specs.List.{sum_by}
use Rattle.boc_chain.specs.declared.held.Held.{Held}
use Rattle.boc_chain.specs.Chain.{one_more, exchanged_of, cowns_of, cown}
use Rattle.boc_chain.specs.Kept.{place_at, place_in, awaits}
use Rattle.boc_chain.proofs.Lines.{found_at, read_at, awaits_one_less, awaits_no_more}
use Rattle.boc_program.proofs.ChangedItems.{set_same, set_other}
use Rattle.boc_chain.proofs.held.count_exchange.Goals as goal

-- what stands at the slot, and what the code found there, are one
same : (places : List (Option Held)) (slot : ℕ) (held : Held) (d : Option Held) → exchanged_of (place_at places slot) < length (cowns_of (place_at places slot))
    → get_or places slot d ≡ Some held
    → (slice_get places slot ≡ Some (Some held)) × (slot < length places) × (held.exchanged < length held.cowns.items)
same places slot held d h e =
    let f = found_at places slot (exchanged_of (place_at places slot)) h in
    let one : f.0 ≡ held = (let g : Some f.0 ≡ Some held = sym (read_at places slot f.0 d f.1) ∙ e in cc) in
    let is : slice_get places slot ≡ Some (Some held) = f.1 ∙ ap (λ x. Some (Some x)) one in
    (is, f.2, subst (λ (o : Option (Option Held)). exchanged_of (place_in o) < length (cowns_of (place_in o))) is h)

pub returns-clause-here : goal.returns-clause-here
returns-clause-here c =
    let h = c.in-Some.held in
    let s = same c.args.places.now.items c.args.slot h c.index_mut.result.now c.requires (sym c.index_mut.ensures.value ∙ c.in-Some.is) in
    let v : Option Held = Some (record { cowns = h.cowns; exchanged = h.exchanged + 1 }) in
    ap place_in (set_same c.args.places.now.items c.args.slot v s.1) ∙ ap (λ o. one_more (place_in o)) (sym s.0)

pub returns-clause-others : goal.returns-clause-others
returns-clause-others c s n =
    let h = c.in-Some.held in
    let v : Option Held = Some (record { cowns = h.cowns; exchanged = h.exchanged + 1 }) in
    ap place_in (set_other c.args.places.now.items c.args.slot s v n)

pub returns-clause-awaited : goal.returns-clause-awaited
returns-clause-awaited c =
    let h = c.in-Some.held in
    let is = sym c.index_mut.ensures.value ∙ c.in-Some.is in
    let s = same c.args.places.now.items c.args.slot h c.index_mut.result.now c.requires is in
    let h' : Held = record { cowns = h.cowns; exchanged = h.exchanged + 1 } in
    let ps = c.args.places.now.items in
    subst (λ (o : Option (Option Held)). sum_by (awaits (cown (place_in o) (exchanged_of (place_in o)))) (set ps c.args.slot (Some h')) + 1
    ≡ sum_by (awaits (cown (place_in o) (exchanged_of (place_in o)))) ps) (sym s.0)
    (awaits_one_less ps c.args.slot h h' c.index_mut.result.now s.1 is refl refl s.2)

pub returns-clause-others_awaited : goal.returns-clause-others_awaited
returns-clause-others_awaited c k =
    let h = c.in-Some.held in
    let is = sym c.index_mut.ensures.value ∙ c.in-Some.is in
    let s = same c.args.places.now.items c.args.slot h c.index_mut.result.now c.requires is in
    let h' : Held = record { cowns = h.cowns; exchanged = h.exchanged + 1 } in
    awaits_no_more c.args.places.now.items c.args.slot k h h' c.index_mut.result.now s.1 is refl refl
