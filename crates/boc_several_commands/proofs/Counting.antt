-- For how many seeds an end is less after than before, and for how many it is the same.
use Rattle.std.proofs.Common.{◌≡◌, ◌<◌, ◌≤◌, ◌+◌, ◌==◌, ◌∙◌, ℕ, suc, Bool, true, false, cond, nat_lt, List, ◌∷◌, length, drop, get_or, ap, sym, arith}
use Rattle.std.proofs.Common.{drop-cons, add-one}
use Rattle.boc_many_runs.specs.declared.seen.Numbers.{Numbers}
use Rattle.boc_several_commands.specs.CompareRuns.{less_count, same_count}

-- Of the seeds in front of a place these are less, and the same: with those from that place on they add up to those of all.
pub record AreCounted (before after : List Numbers) (place less same : ℕ) : Type 0 where
  pub less_is : less + less_count (drop place before) (drop place after) ≡ less_count before after
  pub same_is : same + same_count (drop place before) (drop place after) ≡ same_count before after
  pub few_less : less ≤ place
  pub few_same : same ≤ place

-- where one was less
less_here : (b a : Numbers) (before after : List Numbers) → nat_lt a.end b.end ≡ true → less_count (b ∷ before) (a ∷ after) ≡ less_count before after + 1
less_here b a before after is = ap (λ (l : Bool). cond l (less_count before after + 1) (less_count before after)) is

less_not : (b a : Numbers) (before after : List Numbers) → nat_lt a.end b.end ≡ false → less_count (b ∷ before) (a ∷ after) ≡ less_count before after
less_not b a before after is = ap (λ (l : Bool). cond l (less_count before after + 1) (less_count before after)) is

same_here : (b a : Numbers) (before after : List Numbers) → (a.end == b.end) ≡ true → same_count (b ∷ before) (a ∷ after) ≡ same_count before after + 1
same_here b a before after is = ap (λ (s : Bool). cond s (same_count before after + 1) (same_count before after)) is

same_not : (b a : Numbers) (before after : List Numbers) → (a.end == b.end) ≡ false → same_count (b ∷ before) (a ∷ after) ≡ same_count before after
same_not b a before after is = ap (λ (s : Bool). cond s (same_count before after + 1) (same_count before after)) is

module _ (before after : List Numbers) (place less same : ℕ) (b a : Numbers) (was : AreCounted before after place less same) (in_before : place < length before)
    (in_after : place < length after) (b_is : b ≡ get_or before place b) (a_is : a ≡ get_or after place a) where
  -- the numbers from the place on
  rest_before : drop place before ≡ b ∷ drop (place + 1) before
  rest_before = rw add-one (drop-cons before place b in_before ∙ ap (λ (x : Numbers). x ∷ drop (suc place) before) (sym b_is))

  rest_after : drop place after ≡ a ∷ drop (place + 1) after
  rest_after = rw add-one (drop-cons after place a in_after ∙ ap (λ (x : Numbers). x ∷ drop (suc place) after) (sym a_is))

  less_split : less_count (drop place before) (drop place after) ≡ less_count (b ∷ drop (place + 1) before) (a ∷ drop (place + 1) after)
  less_split = λ i. less_count (rest_before i) (rest_after i)

  same_split : same_count (drop place before) (drop place after) ≡ same_count (b ∷ drop (place + 1) before) (a ∷ drop (place + 1) after)
  same_split = λ i. same_count (rest_before i) (rest_after i)

  pub one_less : nat_lt a.end b.end ≡ true → (a.end == b.end) ≡ false → AreCounted before after (place + 1) (less + 1) same
  one_less is not = record {
    less_is = let so_far = was.less_is in
        let step : less_count (drop place before) (drop place after) ≡ less_count (drop (place + 1) before) (drop (place + 1) after) + 1 =
        less_split ∙ less_here b a (drop (place + 1) before) (drop (place + 1) after) is in omega arith;
    same_is = let so_far = was.same_is in
        let step : same_count (drop place before) (drop place after) ≡ same_count (drop (place + 1) before) (drop (place + 1) after) =
        same_split ∙ same_not b a (drop (place + 1) before) (drop (place + 1) after) not in omega arith;
    few_less = let few = was.few_less in omega arith;
    few_same = let few = was.few_same in omega arith;
  }

  pub one_same : nat_lt a.end b.end ≡ false → (a.end == b.end) ≡ true → AreCounted before after (place + 1) less (same + 1)
  one_same not is = record {
    less_is = let so_far = was.less_is in
        let step : less_count (drop place before) (drop place after) ≡ less_count (drop (place + 1) before) (drop (place + 1) after) =
        less_split ∙ less_not b a (drop (place + 1) before) (drop (place + 1) after) not in omega arith;
    same_is = let so_far = was.same_is in
        let step : same_count (drop place before) (drop place after) ≡ same_count (drop (place + 1) before) (drop (place + 1) after) + 1 =
        same_split ∙ same_here b a (drop (place + 1) before) (drop (place + 1) after) is in omega arith;
    few_less = let few = was.few_less in omega arith;
    few_same = let few = was.few_same in omega arith;
  }

  pub one_more : nat_lt a.end b.end ≡ false → (a.end == b.end) ≡ false → AreCounted before after (place + 1) less same
  one_more not other = record {
    less_is = let so_far = was.less_is in
        let step : less_count (drop place before) (drop place after) ≡ less_count (drop (place + 1) before) (drop (place + 1) after) =
        less_split ∙ less_not b a (drop (place + 1) before) (drop (place + 1) after) not in omega arith;
    same_is = let so_far = was.same_is in
        let step : same_count (drop place before) (drop place after) ≡ same_count (drop (place + 1) before) (drop (place + 1) after) =
        same_split ∙ same_not b a (drop (place + 1) before) (drop (place + 1) after) other in omega arith;
    few_less = let few = was.few_less in omega arith;
    few_same = let few = was.few_same in omega arith;
  }
