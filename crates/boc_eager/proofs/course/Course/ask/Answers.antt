use Rattle.std.proofs.Common.{◌≡◌, ℕ, List, sym, ◌∙◌, subst, arith}
use Rattle.std.specs.Prelude.{slice_index}
use Rattle.std.proofs.lemmas.List.{get_or_default}
use Rattle.std.proofs.lemmas.Result.{on_ok_weaker}
use Rattle.boc_eager.specs.Lines.{Adds}
use Rattle.boc_eager.proofs.Asking.{asks_again, wait_there}
use Rattle.boc_eager.proofs.Sets.{adds_pair}
use Rattle.boc_eager.proofs.course.Course.ask.Goals as goal

pub index-free-requires : goal.index-free-requires
index-free-requires c =
    let k = c.requires.hand.kept in
    let there = wait_there c.args.rows.now c.requires.shape c.args.self.now c.args.row c.requires.hand c.args.wait c.requires.first in
    omega (arith, there, k.queues_are.whole, k.free_are.whole)

pub returns-then-self-free : goal.returns-then-self-free
returns-then-self-free c =
    let s = c.args.self.now in
    let k = c.requires.hand.kept in
    let there = wait_there c.args.rows.now c.requires.shape s c.args.row c.requires.hand c.args.wait c.requires.first in
    let free : c.index-free.result.now ≡ slice_index s.free.items c.args.wait = c.index-free.ensures
    ∙ get_or_default s.free.items c.args.wait c.index-free.result.now 0 (omega (arith, there, k.queues_are.whole, k.free_are.whole)) in
    asks_again c.args.rows.now c.requires.shape s c.args.row c.requires.hand c.args.wait c.requires.first c.insert.new.self
    (omega (arith, c.if-self-free.true, free))
    (subst (λ (t : ℕ). Adds s.next.keys c.insert.new.self.keys (t, c.args.row)) free
    (subst (λ (keys : List (ℕ × ℕ)). Adds s.next.keys keys (c.index-free.result.now, c.args.row)) (sym c.in_ok-insert.ensures.keys)
    (adds_pair s.next.keys (c.index-free.result.now, c.args.row))))

pub returns : goal.returns
returns c =
    let p = c.in_ok-pass_on.ensures in
    on_ok_weaker c.start_or_wait.result (λ l. record { kept = l.kept; tick = l.tick ∙ p.tick; row = l.row ∙ p.row }) c.start_or_wait.ensures
