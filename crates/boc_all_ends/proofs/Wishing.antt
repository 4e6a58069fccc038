-- The wishes of a body, gathered one after another.
use Rattle.std.proofs.Common.{◌≡◌, ℕ, zero, suc, ◌+◌, ◌≤◌, List, [], ◌∷◌, ◌++◌, length, map, take, sym, ◌∙◌, ap, arith, length-append}
use Rattle.std.specs.Prelude.{slice_get, Some, None}
use Rattle.std.proofs.lemmas.List.{map-append}
use Rattle.boc_program.proofs.ChangedItems.{place_below}
use Rattle.boc_eval.specs.declared.wish.SpawnWish.{SpawnWish}
use Rattle.boc_eval.specs.Frames.{UnderWay, wishes_of}
use Rattle.boc_eval.specs.Stops.{WishComes}
use Rattle.boc_eval.specs.Wishes.{wish_of}
use Rattle.boc_eval.proofs.Taking.{take_next}

-- what is gathered so far: of a frame that has gone on from its start, the wishes that have come
pub record Gathered (f g : UnderWay) (ws : List SpawnWish) : Type 0 where
  pub counted : g ≡ record f { made = length ws }
  pub so_far : map wish_of ws ≡ take (length ws) (wishes_of f)
  pub few : length ws ≤ length (wishes_of f)

pub gathered_more : (f g h : UnderWay) (ws : List SpawnWish) (w : SpawnWish) → Gathered f g ws → WishComes (wish_of w) g h → Gathered f h (ws ++ w ∷ [])
gathered_more f g h ws w so comes =
    let longer : length (ws ++ w ∷ []) ≡ suc (length ws) = omega (arith, length-append ws (w ∷ [])) in
    let more : length ws + 1 ≡ length (ws ++ w ∷ []) = omega (arith, length-append ws (w ∷ [])) in
    let made : g.made ≡ length ws = ap (λ (u : UnderWay). u.made) so.counted in
    let same : wishes_of g ≡ wishes_of f = ap wishes_of so.counted in
    let next : slice_get (wishes_of f) (length ws) ≡ Some (wish_of w) =
    ap (λ n. slice_get (wishes_of f) n) (sym made) ∙ ap (λ xs. slice_get xs g.made) (sym same) ∙ comes.next in
    record {
      counted = comes.counted ∙ ap (λ (u : UnderWay). record u { made = u.made + 1 }) so.counted ∙ ap (λ n. record f { made = n }) more;
      so_far =
          map-append wish_of ws (w ∷ []) ∙ ap (λ xs. xs ++ wish_of w ∷ []) so.so_far ∙ sym (take_next (wishes_of f) (length ws) (wish_of w) next) ∙ ap
          (λ n. take n (wishes_of f)) (sym longer);
      few = omega (arith, longer, place_below (wishes_of f) (length ws) (wish_of w) next);
    }
