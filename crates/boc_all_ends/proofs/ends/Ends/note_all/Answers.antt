use Rattle.std.proofs.Common.{◌≡◌, ◌+◌, ◌<◌, ℤ, List, [], ◌∷◌, ◌++◌, length, take, sym, ◌∙◌, ap, subst, arith}
use Rattle.std.proofs.lemmas.List.{take_more, take_all}
use Rattle.boc_front_rows.specs.declared.row.Front.{Front}
use Rattle.boc_all_ends.specs.declared.ends.Ends.{Ends}
use Rattle.boc_all_ends.specs.Gathered.{NotesMore}
use Rattle.boc_all_ends.proofs.EndsOfLayers.{no_items}
use Rattle.boc_all_ends.proofs.Noting.{AreNotedSoFar, skipped, one_noted, all_noted, front_ends, none_if, some_if}
use Rattle.boc_all_ends.proofs.ends.Ends.note_all.Goals.{then-is_empty+in_ok-note, else-is_empty}
use Rattle.boc_all_ends.proofs.ends.Ends.note_all.Goals as goal

pub loop-front-preserved : goal.loop-front-preserved
loop-front-preserved c = λ p have n.
    let fs : List Front = c.args.layer.now in
    let k = c.loop-front.front-index in
    let f : Front = c.front-item.result in
    let so = c.loop-front.invariant p have n in
    let low : k < length fs = omega (arith, c.loop-front-test.true) in
    let more : take (k + 1) fs ≡ take k fs ++ (f ∷ []) = take_more fs k f low ∙ ap (λ z. take k fs ++ (z ∷ [])) (sym c.front-item.is) in
    subst (λ (gs : List Front). AreNotedSoFar p c.args.rows gs c.if-is_empty.self) (sym more) (elim c.if-is_empty.branch [
      | then-is_empty+in_ok-note w ↦
          let none = none_if f.live.len c.is_empty.result c.is_empty.ensures w.if-is_empty.true in
          let dead : f.live.items ≡ [] = no_items f.live.items (omega (arith, none, f.live.ok.0)) in
          let is_end = front_ends p c.args.rows fs f have (k, low, sym c.front-item.is) dead in
          let noted = subst (λ (vs : List ℤ). NotesMore c.loop-front.self vs c.args.rows w.note.new.self) w.deref.ensures.value w.in_ok-note.ensures in
          subst (λ (e : Ends). AreNotedSoFar p c.args.rows (take k fs ++ (f ∷ [])) e) (sym w.self-is)
          (one_noted p c.args.rows (take k fs) f c.loop-front.self w.note.new.self so noted is_end)
      | else-is_empty w ↦
          subst (λ (e : Ends). AreNotedSoFar p c.args.rows (take k fs ++ (f ∷ [])) e) (sym w.self-is)
          (skipped p c.args.rows (take k fs) f c.loop-front.self
          (λ dead. some_if f.live.len c.is_empty.result c.is_empty.ensures w.if-is_empty.false (omega (arith, ap length dead, f.live.ok.0))) so)
    ])

pub returns : goal.returns
returns c = λ p have n.
    let fs : List Front = c.args.layer.now in
    all_noted p c.args.rows fs c.loop-front.self have
    (subst (λ (gs : List Front). AreNotedSoFar p c.args.rows gs c.loop-front.self)
    (take_all c.loop-front.front-index fs (omega (arith, c.loop-front-test.false))) (c.loop-front.invariant p have n))
