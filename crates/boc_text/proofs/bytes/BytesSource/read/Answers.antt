use Rattle.std.proofs.Common.{◌≡◌, ℕ, ◌+◌, ◌-◌, List, ◌++◌, length, take, drop, min, arith, ap, sym, ◌∙◌, take-append-drop, length-take, length-append}
use Rattle.std.proofs.Common.{length-drop}
use Rattle.std.proofs.Math.Seq.{take-append_seam}
use Rattle.std.proofs.Math.ListN.{drop_of_length-le}
use Rattle.std.proofs.lemmas.List.{drop-drop, take_rest}
use Rattle.boc_text.proofs.bytes.BytesSource.read.Goals as goal

-- the bytes that were copied stand in front of those behind them
copied_first : (rest copied after behind : List ℕ) (n : ℕ) → copied ≡ take n rest → length copied ≡ n → behind ≡ drop n rest
    → rest ≡ take n (copied ++ after) ++ behind
copied_first rest copied after behind n e l d =
    sym (take-append-drop n rest) ∙ ap (λ x. x ++ drop n rest) (sym e ∙ sym (take-append_seam copied after) ∙ ap (λ k. take k (copied ++ after)) l)
    ∙ ap (λ x. take n (copied ++ after) ++ x) (sym d)

pub returns-clause-bytes : goal.returns-clause-bytes
returns-clause-bytes c =
    let bytes = c.args.self.now.bytes.items in
    let taken = c.args.self.now.taken in
    let n = c.min-count.result in
    let whole : c.deref.result.now ≡ bytes = c.deref.ensures.value in
    let rest_is : take (length c.deref.result.now - taken) (drop taken c.deref.result.now) ≡ drop taken bytes =
    ap (λ xs. take (length xs - taken) (drop taken xs)) whole ∙ take_rest bytes taken in
    let count : n ≡ min (length (drop taken bytes)) (length c.args.buffer.now) =
    c.min-count.ensures ∙ ap (λ xs. min (length xs) (length c.args.buffer.now)) rest_is in
    let copied : c.copy_from_slice.new.self ≡ take n (drop taken bytes) = c.copy_from_slice.ensures.after ∙ ap (take n) rest_is in
    let long : length c.copy_from_slice.new.self ≡ n = ap length copied ∙ length-take n (drop taken bytes) ∙ omega arith in (
      copied_first (drop taken bytes) c.copy_from_slice.new.self (drop n c.args.buffer.now) (drop (taken + n) bytes) n copied long
          (sym (drop-drop n taken bytes)),
      λ none room. sym (drop-drop n taken bytes) ∙ drop_of_length-le (drop taken bytes)
          (omega (arith, long, length-append c.copy_from_slice.new.self (drop n c.args.buffer.now), length-drop n c.args.buffer.now)),
    )
