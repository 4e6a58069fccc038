-- How the worker that moves next is picked.
use Rattle.std.specs.Prelude.{ℕ, zero, suc, ◌-◌, ◌%◌, ◌<◌, nat_eq, max, if◌then◌else◌, List, [], ◌∷◌, ◌++◌, length, Option, slice_get, slice_index}
use Rattle.std.specs.List.{Contains, insert, remove, list_any}
use Rattle.rand_xoshiro.specs.SplitMix64.{splitmix_seed}
use Rattle.rand_xoshiro.specs.Xoshiro256.{of_seed, plus_plus}
use Rattle.boc_draws.specs.declared.picker.Picker.{Picker}
use Rattle.boc_draws.specs.declared.picker.Picker.TheVariants as pickers
use Rattle.boc_draws.specs.declared.way.Way.{Way}
use Rattle.boc_draws.specs.declared.way.Way.TheVariants as ways

-- The generator of a seed, xoshiro256++, at its beginning: SplitMix64 gives the 32 bytes of its state. `plus_plus` gives the next
-- word of 64 bits, and the generator behind it.
abbrev pub generator_of : ℕ → List ℕ
generator_of seed = of_seed (splitmix_seed 32 seed)

-- ---- orders

-- So many workers in an order that is drawn, and the generator behind it: one after the other is put at one of the places that there are for
-- it among those before it, each as likely as another.
abbrev pub shuffled : ℕ → List ℕ → List ℕ × List ℕ
shuffled zero generator = ([], generator)
shuffled (suc worker) generator =
    let before = shuffled worker generator in
    let drawn = plus_plus before.1 in
    (insert before.0 (drawn.0 % suc worker) worker, drawn.1)

-- so many numbers below a bound that are drawn, and the generator behind them
abbrev pub drawn_below : ℕ → ℕ → List ℕ → List ℕ × List ℕ
drawn_below zero bound generator = ([], generator)
drawn_below (suc n) bound generator =
    let before = drawn_below n bound generator in
    let drawn = plus_plus before.1 in
    (before.0 ++ drawn.0 % bound ∷ [], drawn.1)

-- the place of the first of an order that is among these
abbrev pub first_among : List ℕ → List ℕ → ℕ
first_among [] movers = 0
first_among (worker ∷ order) movers = if list_any (λ m. nat_eq m worker) movers then 0 else suc (first_among order movers)

-- an order, in which the first that is among these falls to the last
abbrev pub with_fall : List ℕ → List ℕ → List ℕ
with_fall order movers = remove order (first_among order movers) ++ slice_index order (first_among order movers) ∷ []

-- the order by which one of these is picked where so many steps were made: one falls, where this is a step before which one does
abbrev pub order_before : List ℕ → List ℕ → ℕ → List ℕ → List ℕ
order_before order falls steps movers = if list_any (λ f. nat_eq f steps) falls then with_fall order movers else order

-- ---- picks

-- What picks the worker of the first turn: by the words themselves; or by an order of the workers, and as many steps, counted from 0, before
-- which one falls as the depth has above 1, each among the first so many.
abbrev pub picker_of : Way → ℕ → ℕ → Picker
picker_of ways.Uniform workers seed = pickers.Words (generator_of seed)
picker_of (ways.Priorities depth steps) workers seed =
    let order = shuffled workers (generator_of seed) in
    pickers.Order (record { items = order.0 }) (record { items = (drawn_below (depth - 1) (max steps 1) order.1).0 })

-- Of those that can move, in rising order, where so many steps were made, the one that is picked, and what picks that of the next turn. By
-- words each turn takes one, also where only one can move; the one at the place is picked that is left of the word when it is divided by how
-- many there are. By an order it is the first of that; but where this step is one before which one falls, that one falls to the last first.
abbrev pub picked : Picker → ℕ → List ℕ → Option ℕ × Picker
picked (pickers.Words generator) steps movers =
    (slice_get movers ((plus_plus generator).0 % length movers), pickers.Words (plus_plus generator).1)
picked (pickers.Order order falls) steps movers =
    let now = order_before order.items falls.items steps movers in
    (slice_get now (first_among now movers), pickers.Order (record { items = now }) falls)

-- ---- what a pick asks for

-- some worker of an order is among these
abbrev pub SomeAmong : List ℕ → List ℕ → Type 0
SomeAmong order movers = (worker : ℕ) × Contains order worker × Contains movers worker

-- there is one to be picked
abbrev pub Meets : Picker → List ℕ → Type 0
Meets (pickers.Words generator) movers = 0 < length movers
Meets (pickers.Order order falls) movers = SomeAmong order.items movers

-- an order has all of so many workers
abbrev pub HasAll : Picker → ℕ → Type 0
HasAll (pickers.Words generator) workers = Unit {0}
HasAll (pickers.Order order falls) workers = (worker : ℕ) → worker < workers → Contains order.items worker
