use Rattle.std.proofs.Common.{◌≡◌, ℕ, ◌/◌, ◌%◌, ◌<◌, length, ap, ◌∙◌, refl, inr, arith, length-set}
use Rattle.std.specs.Prelude.{slice_index, slice_set}
use Rattle.std.specs.Int.{bit_at}
use Rattle.std.proofs.lemmas.List.{get_or_default}
use Rattle.boc_greedy.specs.RowSets.{IsSet}
use Rattle.boc_greedy.proofs.WordsAbove.{not_zero, elsewhere, set_bit, marked, same_bit}
use Rattle.boc_greedy.proofs.row_set.RowSet.insert.Goals as goal

pub returns-clause-set : goal.returns-clause-set
returns-clause-set c =
    let s = c.args.self.now in
    let is = c.requires.set in
    let word : ℕ = c.args.row / 64 in
    let group : ℕ = word / 64 in
    let there : word < length s.rows.items = omega (arith, is.rows_room, c.requires.small) in
    let above : group < length s.words = omega (arith, is.words_room, c.requires.small) in
    let marks = set_bit s.words word group (word % 64) c.with_bit-2.result above (omega arith) (omega arith) c.with_bit-2.ensures.set
    c.with_bit-2.ensures.others in
    record {
      rows_room = simp length-set is.rows_room;
      words_room = simp length-set is.words_room;
      words = marked (IsSet s.words) (IsSet (slice_set s.words group c.with_bit-2.result)) s.rows.items word c.with_bit.result there is.words
          (λ w n. elsewhere s.words group (word % 64) c.with_bit-2.result w above (omega arith) c.with_bit-2.ensures.others (λ e. n (omega arith)))
          ((λ _. not_zero c.with_bit.result (c.args.row % 64) c.with_bit.ensures.set), (λ _. (marks word).1 (inr refl)));
      top = marked (λ w. bit_at s.top w ≡ 1) (λ w. bit_at c.with_bit-self.result w ≡ 1) s.words group c.with_bit-2.result above is.top
          (λ w n. same_bit s.top c.with_bit-self.result w (c.with_bit-self.ensures.others w n))
          ((λ _. not_zero c.with_bit-2.result (word % 64) c.with_bit-2.ensures.set), (λ _. c.with_bit-self.ensures.set));
    }

pub returns-clause-rows : goal.returns-clause-rows
returns-clause-rows c =
    let s = c.args.self.now in
    let word : ℕ = c.args.row / 64 in
    let there : word < length s.rows.items = omega (arith, c.requires.set.rows_room, c.requires.small) in
    let read : c.index.result.now ≡ slice_index s.rows.items word = c.index.ensures ∙ get_or_default s.rows.items word c.index.result.now 0 there in
    set_bit s.rows.items c.args.row word (c.args.row % 64) c.with_bit.result there (omega arith) (omega arith) c.with_bit.ensures.set
    (λ j n. c.with_bit.ensures.others j n ∙ ap (λ (x : ℕ). bit_at x j) read)
