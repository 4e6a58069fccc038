use Rattle.std.proofs.Common.{◌≡◌, ◌∙◌, ℕ, ap, subst, sym, MatchOption}
use Rattle.std.specs.Prelude.{Option, Some, None, is_some}
use Rattle.boc_runs.specs.machine.Turns.{IsEnqueueOf}
use Rattle.boc_dispatch.specs.declared.live.Live.{Live}
use Rattle.boc_dispatch.specs.Inside.{parts_of, state, live_at}
use Rattle.boc_dispatch.specs.Moves.{IsFoundEnqueue}
use Rattle.boc_dispatch.proofs.Tables.{live_same}
use Rattle.boc_runs.specs.machine.Stages.{enqueues_at}
use Rattle.boc_dispatch.specs.declared.roster.Enqueue.{Enqueue}
use Rattle.boc_dispatch.proofs.Homes.{enqueue_found, one_behaviour}
use Rattle.boc_dispatch.proofs.roster.Roster.enqueue_of.Goals as goal

pub returns-in_err-parent : goal.returns-in_err-parent
returns-in_err-parent g c =
    let d = parts_of g.C.Chains.lists g.C.Chains.place c.args.self.now in
    let child = c.args.child.now in
    subst (λ (o : Option Enqueue). MatchOption o (IsEnqueueOf (state d) child.number child.row → ⊥) (IsFoundEnqueue d child.number child.row))
    (sym c.from_residual.ensures)
    (λ q. let f = enqueue_found d c.requires.kept child.row child.number q in c.in_err-parent.ensures f.1 f.3)

pub returns-in_err-slot : goal.returns-in_err-slot
returns-in_err-slot g c =
    let d = parts_of g.C.Chains.lists g.C.Chains.place c.args.self.now in
    let child = c.args.child.now in
    let x = c.in_ok-parent.ensures in
    let same = live_same d.live c.in_ok-parent.parent x.this c.index.result.now x.is c.index.ensures in
    subst (λ (o : Option Enqueue). MatchOption o (IsEnqueueOf (state d) child.number child.row → ⊥) (IsFoundEnqueue d child.number child.row))
    (sym c.from_residual-in_err-slot.ensures)
    (λ q.
    (let f = enqueue_found d c.requires.kept child.row child.number q in
    let knows = ap (λ (l : Live). l.child) (same ∙ one_behaviour d c.requires.kept c.in_ok-parent.parent f.1 child.row x f.3) ∙ f.4 in
    absurd (let e : None ≡ Some f.0 = sym c.in_err-slot.was ∙ knows in cc)))

pub index-live-requires : goal.index-live-requires
index-live-requires g c =
    let d = parts_of g.C.Chains.lists g.C.Chains.place c.args.self.now in
    let x = c.in_ok-parent.ensures in
    let same = live_same d.live c.in_ok-parent.parent x.this c.index.result.now x.is c.index.ensures in
    let down = c.requires.kept.in_hand.children c.in_ok-parent.parent c.in_ok-slot.slot x.this x.is
    (ap (λ (l : Live). l.child) (sym same) ∙ c.in_ok-slot.was) in
    ap (λ (o : Option Live). is_some o) down.is

pub returns-then-live-child : goal.returns-then-live-child
returns-then-live-child g c =
    let d = parts_of g.C.Chains.lists g.C.Chains.place c.args.self.now in
    let child = c.args.child.now in
    let slot : ℕ = c.in_ok-slot.slot in
    let x = c.in_ok-parent.ensures in
    let same = live_same d.live c.in_ok-parent.parent x.this c.index.result.now x.is c.index.ensures in
    let knows = ap (λ (l : Live). l.child) (sym same) ∙ c.in_ok-slot.was in
    let down = c.requires.kept.in_hand.children c.in_ok-parent.parent slot x.this x.is knows in
    let own = live_same d.live slot down.child c.index-live.result.now down.is c.index-live.ensures in
    record {
      this = down.child;
      is = record { is = down.is; stage_is = ap (λ (l : Live). l.stage) (sym own) ∙ sym c.stage.ensures };
      number_is = ap (λ (l : Live). l.number) (sym own) ∙ c.if-live-child.true;
      parent_is = (let e : Some down.child.parent ≡ Some child.row = sym down.parent_is ∙ x.row_is in cc);
      enqueued = ap enqueues_at c.stage.ensures ∙ ap (λ (l : Live). enqueues_at l.stage) own ∙ down.enqueued;
      held = record { this = x.this; is = x.is; child_is = knows };
    }

pub returns-else-live-child : goal.returns-else-live-child
returns-else-live-child g c =
    let d = parts_of g.C.Chains.lists g.C.Chains.place c.args.self.now in
    let child = c.args.child.now in
    let slot : ℕ = c.in_ok-slot.slot in
    let x = c.in_ok-parent.ensures in
    let same = live_same d.live c.in_ok-parent.parent x.this c.index.result.now x.is c.index.ensures in
    λ q.
    (let f = enqueue_found d c.requires.kept child.row child.number q in
    let knows = ap (λ (l : Live). l.child) (same ∙ one_behaviour d c.requires.kept c.in_ok-parent.parent f.1 child.row x f.3) ∙ f.4 in
    let there : f.0 ≡ slot = (let e : Some f.0 ≡ Some slot = sym knows ∙ c.in_ok-slot.was in cc) in
    let child_at = subst (λ (s : ℕ). live_at d.live s ≡ Some f.2.this) there f.2.is in
    let own = live_same d.live slot f.2.this c.index-live.result.now child_at c.index-live.ensures in
    absurd (c.if-live-child.false (ap (λ (l : Live). l.number) own ∙ f.2.number_is)))
