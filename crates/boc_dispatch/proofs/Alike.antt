-- A request is granted in the chains where it is granted in the machine's state.
use Rattle.std.proofs.Common.{◌≡◌, ℕ, true, false, ◌&&◌, ◌↔◌, List, [], ◌∷◌, map, refl, sym, ◌∙◌, ap}
use Rattle.std.specs.Prelude.{slice_get, nat_lt, Some}
use Rattle.std.specs.Option.{option_map_or}
use Rattle.std.proofs.lemmas.Bool.Decides.{Decides-eqb}
use Rattle.boc_runs.specs.machine.Stages.{settled, settled_at}
use Rattle.boc_runs.specs.machine.Queues.{times, is_first, is_granted}
use Rattle.boc_runs.specs.machine.Steps.{at, queue}
use Rattle.boc_chain.specs.declared.request.Request.{Request}
use Rattle.boc_chain.specs.Chain.{IsGranted, list}
use Rattle.boc_dispatch.specs.declared.live.Live.{Live}
use Rattle.boc_dispatch.specs.Inside.{Parts, IsKept, IsRequestOf, state, live_at, number_at}
use Rattle.boc_dispatch.proofs.Standing.{open_is}
use Rattle.boc_dispatch.proofs.Tables.{live_same, queue_at}
use Rattle.boc_machine_laws.proofs.Lists.{and_true}

module _ (d : Parts) (k : IsKept d) (slot c : ℕ) (l : Live) (is : live_at d.live slot ≡ Some l) where
  number_of : (s : ℕ) (x : Live) → live_at d.live s ≡ Some x → number_at d.live s ≡ x.number
  number_of s x h = ap (λ o. option_map_or (λ (z : Live). z.number) o 0) h

  -- the numbers of the list, where that is this one
  numbers : (q : List Request) → list d.lists c ≡ q → queue (state d) c ≡ map (λ r. number_at d.live r.slot) q
  numbers q e = queue_at d.live d.lists c ∙ ap (map (λ (r : Request). number_at d.live r.slot)) e

  settled_is : nat_lt 0 (times c (settled (at (state d) l.number))) ≡ nat_lt 0 (times c (settled_at l.stage l.cowns.items))
  settled_is = ap (λ o. nat_lt 0 (times c (settled o))) (open_is d k slot l is)

  -- a request of its slot is settled as it is
  settles : (r : Request) (x : IsRequestOf d.live c r) → r.slot ≡ slot → r.settled ≡ nat_lt 0 (times c (settled_at l.stage l.cowns.items))
  settles r x here =
      let same = live_same d.live slot l x.this is (ap (live_at d.live) (sym here) ∙ x.is) in
      x.settled_is ∙ ap (λ (z : Live). nat_lt 0 (times c (settled_at z.stage z.cowns.items))) same

  given : (q : List Request) → list d.lists c ≡ q → IsGranted slot q → is_granted (at (state d)) (queue (state d)) l.number c ≡ true
  given [] e granted = absurd granted
  given (r ∷ rest) e granted =
      let x = k.chained.requests c 0 r (ap (λ z. slice_get z 0) e) in
      let settled_now = settled_is ∙ sym (settles r x granted.0) ∙ granted.1 in
      let first_now : is_first l.number (queue (state d) c) ≡ true =
      ap (is_first l.number) (numbers (r ∷ rest) e) ∙ (Decides-eqb (number_at d.live r.slot) l.number).1
      (ap (number_at d.live) granted.0 ∙ number_of slot l is) in
      λ i. settled_now i && first_now i

  back : (q : List Request) → list d.lists c ≡ q → is_granted (at (state d)) (queue (state d)) l.number c ≡ true → IsGranted slot q
  back [] e granted =
      let first = (and_true (nat_lt 0 (times c (settled (at (state d) l.number)))) (is_first l.number (queue (state d) c)) granted).1 in
      absurd (let f : false ≡ true = sym (ap (is_first l.number) (numbers [] e)) ∙ first in cc)
  back (r ∷ rest) e granted =
      let two = and_true (nat_lt 0 (times c (settled (at (state d) l.number)))) (is_first l.number (queue (state d) c)) granted in
      let x = k.chained.requests c 0 r (ap (λ z. slice_get z 0) e) in
      let number : x.this.number ≡ l.number =
      sym (number_of r.slot x.this x.is)
      ∙ (Decides-eqb (number_at d.live r.slot) l.number).0 (sym (ap (is_first l.number) (numbers (r ∷ rest) e)) ∙ two.1) in
      let here = k.numbered.once r.slot slot x.this l x.is is number in
      (here, settles r x here ∙ sym settled_is ∙ two.0)

  pub granted_alike : IsGranted slot (list d.lists c) ↔ (is_granted (at (state d)) (queue (state d)) l.number c ≡ true)
  granted_alike = (given (list d.lists c) refl, back (list d.lists c) refl)
