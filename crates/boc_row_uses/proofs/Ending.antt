-- A body goes on from wish to wish, to its end.
use Rattle.std.proofs.Common.{◌≡◌, ◌∙◌, ℕ, ◌+◌, ◌-◌, ◌<◌, true, length, sym, ap, arith}
use Rattle.boc_program.specs.Meaning.{Wish}
use Rattle.boc_program.proofs.ChangedItems.{place_below}
use Rattle.boc_eval.specs.Frames.{UnderWay, wishes_of}
use Rattle.boc_eval.specs.Stops.{BodyEnds, WishComes}

-- one more wish has come
pub gone_on : (f g h : UnderWay) (w : Wish) → g ≡ record f { made = g.made } → WishComes w g h → h ≡ record f { made = h.made }
gone_on f g h w same comes =
    comes.counted
    ∙ ap (λ (u : UnderWay). record u { made = g.made + 1 }) same
    ∙ ap (λ (n : ℕ). record f { made = n }) (sym (ap (λ (u : UnderWay). u.made) comes.counted))

-- so fewer are left
pub fewer_left : (f g h : UnderWay) (w : Wish) → g ≡ record f { made = g.made } → WishComes w g h
    → length (wishes_of f) - h.made < length (wishes_of f) - g.made
fewer_left f g h w same comes =
    let below : g.made < length (wishes_of g) = place_below (wishes_of g) g.made w comes.next in
    let long : length (wishes_of g) ≡ length (wishes_of f) = ap (λ (u : UnderWay). length (wishes_of u)) same in
    let more : h.made ≡ g.made + 1 = ap (λ (u : UnderWay). u.made) comes.counted in
    omega (arith, below, long, more)

-- all have come
pub gone_to_end : (f g h : UnderWay) → g ≡ record f { made = g.made } → BodyEnds g h → h ≡ record f { made = length (wishes_of f); ended = true }
gone_to_end f g h same ends =
    ends.marked
    ∙ ap (λ (u : UnderWay). record u { ended = true }) same
    ∙ ap (λ (n : ℕ). record f { made = n; ended = true }) (sym ends.all_came ∙ ap (λ (u : UnderWay). length (wishes_of u)) same)
