use Rattle.std.proofs.Common.{◌≡◌, ◌++◌, ◌∷◌, [], ◌+◌, List, ℕ, length, take, drop, get_or, flat_map, arith, ap, sym, ◌∙◌}
use Rattle.std.proofs.lemmas.List.{append-nil, append_assoc, drop_all, drop_at, take_at}
use Rattle.boc_table.specs.declared.side.Side.{Side}
use Rattle.boc_table.specs.declared.side.Side.TheVariants.{Left}
use Rattle.boc_table.specs.Tables.{blanks, padded, padded_texts, spaced, without_blanks_behind}
use Rattle.boc_table.specs.Storage.{texts_of}
use Rattle.boc_table.proofs.Blanks.{same_cut}
use Rattle.boc_table.proofs.Stored.{text_put, texts_from, texts_left}
use Rattle.boc_table.proofs.put.put_line.Goals as goal

pub loop-column-preserved : goal.loop-column-preserved
loop-column-preserved c =
    let k = c.loop-column.column in
    let sides = c.args.sides.now in
    let widths = c.args.widths.now in
    let lens = c.args.lens.now in
    let bytes = c.loop-column.bytes.now in
    let rest = padded_texts (drop (k + 1) sides) (drop (k + 1) widths) (texts_of (drop (k + 1) lens) (drop (get_or lens k 0) bytes)) in
    let left = texts_left lens bytes k (omega arith) c.loop-column.invariant.whole in
    record {
      whole = rw c.split_at.ensures.back left.0;
      put = rw (c.split_at.ensures.back, c.in_ok-extend_from_slice.ensures.items, c.in_ok-put_padded.ensures, c.split_at.ensures.front)
          (text_put c.loop-column.text.items (padded (get_or sides k Left) (get_or widths k 0) (take (get_or lens k 0) bytes)) rest
          ∙ ap (λ texts. c.loop-column.text.items ++ flat_map {X = List ℕ} {A = ℕ} (λ t. t ++ blanks 2) texts)
          (sym (texts_from sides widths lens bytes k Left (omega arith) c.requires.widths c.requires.lens)) ∙ c.loop-column.invariant.put);
      behind = rw c.split_at.ensures.back (left.1 ∙ c.loop-column.invariant.behind);
    }

-- the line that is put, where all of its texts stand behind a text
line_is : (text put cut : List ℕ) (texts : List (List ℕ)) (start : ℕ) → length text ≡ start → put ≡ text ++ flat_map (λ t. t ++ blanks 2) texts
    → cut ≡ take start put ++ without_blanks_behind (drop start put)
    → cut ++ 10 ∷ [] ≡ text ++ (without_blanks_behind (spaced texts) ++ 10 ∷ [])
line_is text put cut texts start long is cuts =
    let behind = flat_map {X = List ℕ} {A = ℕ} (λ t. t ++ blanks 2) texts in
    ap (λ bytes. bytes ++ 10 ∷ [])
    (cuts ∙ ap (λ bytes. take start bytes ++ without_blanks_behind (drop start bytes)) is
    ∙ ap (λ front. front ++ without_blanks_behind (drop start (text ++ behind))) (take_at text behind start long)
    ∙ ap (λ end. text ++ without_blanks_behind end) (drop_at text behind start long) ∙ ap (λ end. text ++ end) (same_cut texts))
    ∙ append_assoc text (without_blanks_behind (spaced texts)) (10 ∷ [])

pub returns-clause-put : goal.returns-clause-put
returns-clause-put c =
    let k = c.loop-column.column in
    let text = c.loop-column.text.items in
    let none : drop k c.args.sides.now ≡ [] = drop_all k c.args.sides.now (omega arith) in
    let rest : List Side → List (List ℕ) = λ ss. padded_texts ss (drop k c.args.widths.now) (texts_of (drop k c.args.lens.now) c.loop-column.bytes.now) in
    c.in_ok-push.ensures.items
    ∙ line_is c.args.text.now.items text c.cut_blanks.new.text.items
    (padded_texts c.args.sides.now c.args.widths.now (texts_of c.args.lens.now c.args.bytes.now))
    c.len-start.result (omega arith)
    (sym (append-nil text) ∙ ap (λ ss. text ++ flat_map {X = List ℕ} {A = ℕ} (λ t. t ++ blanks 2) (rest ss)) (sym none) ∙ c.loop-column.invariant.put)
    c.cut_blanks.ensures
