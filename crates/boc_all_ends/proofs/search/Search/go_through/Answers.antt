use Rattle.std.proofs.Common.{◌≡◌, ◌+◌, ◌<◌, ◌≤◌, ◌↔◌, true, List, sym, ◌∙◌, subst, arith}
use Rattle.boc_program.specs.declared.limits.TheConstants.{MOST_ROWS}
use Rattle.boc_program.specs.declared.program.Program.{Program}
use Rattle.boc_front_rows.specs.declared.row.Front.{Front}
use Rattle.boc_all_ends.specs.declared.search.Next.{Next}
use Rattle.boc_all_ends.specs.declared.search.Search.{Search}
use Rattle.boc_all_ends.specs.Gathered.{AreNoted, HasLive, HaveEnds}
use Rattle.boc_all_ends.specs.Searching.{StandsAt, IsNext}
use Rattle.boc_all_ends.specs.Stepping.{ListsFit}
use Rattle.boc_all_ends.proofs.EndsOfLayers.{layer_has_ends, no_items}
use Rattle.boc_all_ends.proofs.Searching.{reached_none, reached_full, reached_last}
use Rattle.boc_all_ends.proofs.search.Search.go_through.Goals as goal

pub returns-then-is_empty : goal.returns-then-is_empty
returns-then-is_empty g c =
    let inv = c.loop-rows.invariant in
    let p : Program = c.args.self.now.stepper.program.now in
    let rows = c.loop-rows.rows in
    let fs : List Front = c.loop-rows.layer.keys in
    let some : 0 < rows = omega (arith, c.loop-rows.auto.rows) in
    let few : rows ≤ MOST_ROWS = omega (arith, c.loop-rows-test.true) in
    let have = layer_has_ends p c.loop-rows.self.stepper.lists rows fs some few inv.stands.covers in
    let noted = c.in_ok-note_all.ensures p (subst (λ (gs : List Front). HaveEnds p rows gs) (sym c.as_slice.ensures.keys) have) inv.noted in
    record {
      reached = reached_none p c.loop-rows.self.stepper.lists rows c.loop-rows.self.fronts c.args.self.now.most c.note_all.new.self fs c.of_all.result some few
          inv.stands (no_items fs (c.is_empty.ensures.0 c.if-is_empty.true)) noted c.of_all.ensures;
    }

pub returns-in-Full : goal.returns-in-Full
returns-in-Full g c =
    let inv = c.loop-rows.invariant in
    let p : Program = c.args.self.now.stepper.program.now in
    let rows = c.loop-rows.rows in
    let fs : List Front = c.loop-rows.layer.keys in
    let have = layer_has_ends p c.loop-rows.self.stepper.lists rows fs (omega (arith, c.loop-rows.auto.rows)) (omega (arith, c.loop-rows-test.true))
    inv.stands.covers in
    let noted = c.in_ok-note_all.ensures p (subst (λ (gs : List Front). HaveEnds p rows gs) (sym c.as_slice.ensures.keys) have) inv.noted in
    let s : Search = c.next.new.self in
    let full : s.fronts ≡ s.most =
    subst (λ (n : Next). IsNext s.stepper.program.now s.stepper.lists rows s.fronts s.most n) c.in-Full.is c.in_ok-next.ensures.next in
    record {
      reached = reached_full p rows c.next.new.self.fronts c.args.self.now.most c.note_all.new.self c.up_to.result noted
          (full ∙ c.in_ok-next.ensures.most ∙ inv.most) c.up_to.ensures;
    }

pub loop-rows-preserved : goal.loop-rows-preserved
loop-rows-preserved g c =
    let inv = c.loop-rows.invariant in
    let p : Program = c.args.self.now.stepper.program.now in
    let rows = c.loop-rows.rows in
    let fs : List Front = c.loop-rows.layer.keys in
    let have = layer_has_ends p c.loop-rows.self.stepper.lists rows fs (omega (arith, c.loop-rows.auto.rows)) (omega (arith, c.loop-rows-test.true))
    inv.stands.covers in
    let noted = c.in_ok-note_all.ensures p (subst (λ (gs : List Front). HaveEnds p rows gs) (sym c.as_slice.ensures.keys) have) inv.noted in
    let s : Search = c.next.new.self in
    let same : s.stepper.program.now ≡ p = c.in_ok-next.ensures.program ∙ inv.program in
    let whole : StandsAt s.stepper.program.now s.stepper.lists (rows + 1) c.in-Whole.next.keys =
    subst (λ (n : Next). IsNext s.stepper.program.now s.stepper.lists rows s.fronts s.most n) c.in-Whole.is c.in_ok-next.ensures.next in
    record {
      stands = subst (λ (q : Program). StandsAt q s.stepper.lists (rows + 1) c.in-Whole.next.keys) same whole;
      fits = subst (λ (q : Program). ListsFit q s.stepper.lists) same c.in_ok-next.ensures.fits;
      noted = noted;
      program = same;
      most = c.in_ok-next.ensures.most ∙ inv.most;
    }

pub returns : goal.returns
returns g c =
    let inv = c.loop-rows.invariant in
    let p : Program = c.args.self.now.stepper.program.now in
    let lists = c.loop-rows.self.stepper.lists in
    let fs : List Front = c.loop-rows.layer.keys in
    let last : c.loop-rows.rows ≡ MOST_ROWS = omega (arith, c.loop-rows-test.false, c.loop-rows.auto.rows-end) in
    let stands = subst (λ n. StandsAt p lists n fs) last inv.stands in
    let before = subst (λ n. AreNoted p n c.loop-rows.ends) last inv.noted in
    let have = layer_has_ends p lists MOST_ROWS fs (omega arith) (omega arith) stands.covers in
    let noted = c.in_ok-note_all-2.ensures p (subst (λ (gs : List Front). HaveEnds p MOST_ROWS gs) (sym c.as_slice-2.ensures.keys) have) before in
    let live = subst (λ (gs : List Front). (c.has_live.result ≡ true) ↔ HasLive gs) c.as_slice-3.ensures.keys c.has_live.ensures in
    record {
      reached = reached_last p lists c.loop-rows.self.fronts c.args.self.now.most c.note_all-2.new.self fs c.has_live.result c.of_all-2.result stands noted
          live c.of_all-2.ensures;
    }
