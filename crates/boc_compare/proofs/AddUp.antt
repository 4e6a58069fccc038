-- What the defs have of the chain adds up to the span, and changes add up.
use Rattle.std.proofs.Common.{◌≡◌, ◌≢◌, ◌⊎◌, ◌∙◌, inl, inr, ⊎_elim, ℕ, zero, suc, ◌+◌, ◌<◌}
use Rattle.std.proofs.Common.{List, [], ◌∷◌, length, map, get_or, cond, eqb, Bool, true, false, ◌||◌}
use Rattle.std.proofs.Common.{Option, Some, None, ap, refl, subst, sym, arith}
use Rattle.std.specs.Prelude.{All, nat_eq, slice_index}
use Rattle.std.specs.List.{AllByRecursion, list_any, sum_by}
use Rattle.std.specs.Option.{is_some, option_map_or}
use Rattle.std.specs.Str.{bytes_eq}
use Rattle.std.proofs.lemmas.Bool.{cases_Bool, cases_eq, eq-eqb, or_right, true≢false}
use Rattle.std.proofs.lemmas.Bool.Decides.{eqb_tells}
use Rattle.std.proofs.lemmas.List.{get_or_default}
use Rattle.std.proofs.lemmas.List.Elements.{All-contains, recursion_from_All}
use Rattle.std.proofs.lemmas.List.Sorted.{sum_by-IsPermutation}
use Rattle.std.proofs.lemmas.List.Sums.{sum_by-append, sum_by-cons}
use Rattle.std.proofs.lemmas.Option.{get_or_from_slice_get, slice_get-get_or, slice_get_within}
use Rattle.std.proofs.lemmas.Slice.Eq.{bytes_eq-Decides}
use Rattle.boc_plans.specs.declared.chain.ChainStep.{ChainStep}
use Rattle.boc_plans.specs.declared.chain.Via.TheVariants.{Last}
use Rattle.boc_program.specs.declared.limits.TheConstants.{MOST_ROWS}
use Rattle.boc_plans.specs.declared.sharing.Sharing.{Sharing}
use Rattle.boc_plans.specs.Chains.{IsChain, weight_of}
use Rattle.boc_plans.specs.Seen.{seen}
use Rattle.boc_plans.proofs.Seeing.{length-seen}
use Rattle.boc_order.proofs.Alone.{one_span}
use Rattle.boc_remedies.specs.Questions.{Asked}
use Rattle.boc_runs.specs.declared.rows.Row.{Row}
use Rattle.boc_why.specs.declared.shares.Share.{Share}
use Rattle.boc_why.specs.declared.why.Why.{Why}
use Rattle.boc_why.specs.Why.{IsWhy}
use Rattle.boc_why.specs.Shares.{AreDefsOf, AreShares, steps_at, ticks_at, weights_of}
use Rattle.boc_why.proofs.ShareKeys.{counted_stands}
use Rattle.boc_names.specs.Names.{Text, text_at}
use Rattle.boc_compare.specs.declared.pairs.Pair.{Pair}
use Rattle.boc_compare.specs.declared.side.Side.{Side}
use Rattle.boc_compare.specs.declared.totals.Totals.{Totals}
use Rattle.boc_compare.specs.Changing.{chain_after, chain_before}
use Rattle.boc_compare.specs.Pairing.{AreChanges, AreNamedApart, first_of, only_after, paired, with_after}
use Rattle.boc_compare.specs.Sides.{IsSide}
use Rattle.boc_compare.specs.Totalled.{IsOfDef, each_once, not_seen, share_from, share_of}

-- ---- the share of a key is what the steps with this key weigh

module _ (key top : ℕ) where
  -- all shares with the key have so many ticks
  abbrev HaveTop : List Share → Type 0
  HaveTop shares = AllByRecursion (λ (s : Share). s.key ≡ key → s.ticks ≡ top) shares

  own_or : (s : Share) (ticks : ℕ) → (s.key ≡ key → s.ticks ≡ top) → ticks ≡ top → cond (eqb s.key key) s.ticks ticks ≡ top
  own_or s ticks h e = ⊎_elim (λ (same : (eqb s.key key ≡ true) × (s.key ≡ key)). rw same.0 (h same.1))
      (λ (apart : (eqb s.key key ≡ false) × (s.key ≢ key)). rw apart.0 e) (eqb_tells s.key key)

  from_same : (shares : List Share) (ticks : ℕ) → HaveTop shares → ticks ≡ top → share_from key ticks shares ≡ top
  from_same [] ticks all e = e
  from_same (s ∷ shares) ticks all e = from_same shares (cond (eqb s.key key) s.ticks ticks) all.1 (own_or s ticks all.0 e)

  from_found : (shares : List Share) (ticks i : ℕ) (d : Share) → HaveTop shares → i < length shares → (get_or shares i d).key ≡ key
      → share_from key ticks shares ≡ top
  from_found [] ticks i d all h e = absurd (omega (arith, h))
  from_found (s ∷ shares) ticks zero d all h e =
      let t : eqb s.key key ≡ true = eq-eqb s.key key e in
      from_same shares (cond (eqb s.key key) s.ticks ticks) all.1 (ap (λ (b : Bool). cond b s.ticks ticks) t ∙ all.0 e)
  from_found (s ∷ shares) ticks (suc i) d all h e = from_found shares (cond (eqb s.key key) s.ticks ticks) i d all.1 (omega (arith, h)) e

no_ticks : (key : ℕ) (keys weights : List ℕ) → steps_at key keys ≡ 0 → ticks_at key keys weights ≡ 0
no_ticks key [] weights none = refl
no_ticks key (k ∷ keys) [] none = refl
no_ticks key (k ∷ keys) (w ∷ weights) none = ⊎_elim
    (λ (same : (eqb k key ≡ true) × (k ≡ key)). absurd (omega (arith, rw same.0 at none)))
    (λ (apart : (eqb k key ≡ false) × (k ≢ key)). rw apart.0 (omega (arith, no_ticks key keys weights (omega (arith, rw apart.0 at none)))))
    (eqb_tells k key)

share_is : (key : ℕ) (keys weights : List ℕ) (shares : List Share) → AreShares keys weights shares → share_of key shares ≡ ticks_at key keys weights
share_is key keys weights shares are =
    let all : HaveTop key (ticks_at key keys weights) shares =
    recursion_from_All (λ (s : Share). s.key ≡ key → s.ticks ≡ ticks_at key keys weights) shares (λ i d h e.
    (are.each i (get_or shares i d) (slice_get-get_or shares i d h)).ticks ∙ ap (λ (k : ℕ). ticks_at k keys weights) e) in
    ⊎_elim
    (λ (none : steps_at key keys ≡ 0). from_same key (ticks_at key keys weights) shares 0 all (sym (no_ticks key keys weights none)))
    (λ (some : steps_at key keys ≢ 0).
    let at = are.all key (counted_stands key keys (omega (arith, some))) in
    from_found key (ticks_at key keys weights) shares 0 at.0 at.1 all (slice_get_within shares at.0 at.1 at.2)
    (ap (λ (s : Share). s.key) (get_or_from_slice_get shares at.0 at.1 at.1 at.2) ∙ at.3))
    (cases_eq (steps_at key keys) 0)

-- ---- each step counts once

sum_both : (f g : ℕ → ℕ) (xs : List ℕ) → sum_by (λ x. f x + g x) xs ≡ sum_by f xs + sum_by g xs
sum_both f g [] = refl
sum_both f g (x ∷ xs) = omega (arith, sum_by-cons (λ y. f y + g y) x xs, sum_by-cons f x xs, sum_by-cons g x xs, sum_both f g xs)

sum_none : (xs : List ℕ) → sum_by (λ x. 0) xs ≡ 0
sum_none [] = refl
sum_none (x ∷ xs) = omega (arith, sum_by-cons (λ y. 0) x xs, sum_none xs)

-- what a step with this key and weight adds to the keys of some numbers, each of which counts once
module _ (key weight : ℕ) where
  abbrev own_weight : ℕ → ℕ
  own_weight x = cond (eqb key x) weight 0

  abbrev if_new : Bool → Bool → ℕ
  if_new was is = cond was 0 (cond is weight 0)

  new_here : (a b was is : Bool) → a ≡ false → (b ≡ true → was ≡ a) → cond b weight 0 + if_new (b || was) is ≡ if_new was (b || is)
  new_here a true was is none same = let e : was ≡ false = same refl ∙ none in rw e (omega arith)
  new_here a false was is none same = omega arith

  old_here : (a b was is : Bool) → a ≡ true → (b ≡ true → was ≡ a) → if_new was is ≡ if_new was (b || is)
  old_here a true was is some same = let e : was ≡ true = same refl ∙ some in rw e refl
  old_here a false was is some same = refl

  same_seen : (seen : List ℕ) (n : ℕ) → eqb key n ≡ true → list_any (nat_eq key) seen ≡ list_any (nat_eq n) seen
  same_seen seen n e = ap (λ (k : ℕ). list_any (nat_eq k) seen) (keys_same (eqb_tells key n))
    where
      keys_same : ((eqb key n ≡ true) × (key ≡ n)) ⊎ ((eqb key n ≡ false) × (key ≢ n)) → key ≡ n
      keys_same (inl same) = same.1
      keys_same (inr apart) = absurd (true≢false (sym e ∙ apart.0))

  sum_new : (seen numbers : List ℕ) → sum_by own_weight (not_seen seen numbers) ≡ if_new (list_any (nat_eq key) seen) (list_any (nat_eq key) numbers)
  sum_new seen [] = none (list_any (nat_eq key) seen)
    where
      none : (b : Bool) → 0 ≡ if_new b false
      none true = refl
      none false = refl
  sum_new seen (n ∷ numbers) = ⊎_elim
      (λ (old : list_any (nat_eq n) seen ≡ true). rw old (sum_new seen numbers
      ∙ old_here (list_any (nat_eq n) seen) (eqb key n) (list_any (nat_eq key) seen) (list_any (nat_eq key) numbers) old (same_seen seen n)))
      (λ (new : list_any (nat_eq n) seen ≡ false). rw new (sum_by-cons own_weight n (not_seen (n ∷ seen) numbers)
      ∙ ap (λ (k : ℕ). own_weight n + k) (sum_new (n ∷ seen) numbers)
      ∙ new_here (list_any (nat_eq n) seen) (eqb key n) (list_any (nat_eq key) seen) (list_any (nat_eq key) numbers) new (same_seen seen n)))
      (cases_Bool (list_any (nat_eq n) seen))

  sum_once : (numbers : List ℕ) → list_any (nat_eq key) numbers ≡ true → sum_by own_weight (each_once numbers) ≡ weight
  sum_once numbers there = sum_new [] numbers ∙ ap (λ (b : Bool). if_new false b) there

sum_ticks : (numbers : List ℕ) (keys : List ℕ) (chain : List ChainStep) → length keys ≡ length chain
    → AllByRecursion (λ key. list_any (nat_eq key) numbers ≡ true) keys
    → sum_by (λ key. ticks_at key keys (weights_of chain)) (each_once numbers) ≡ weight_of chain
sum_ticks numbers [] [] e all = sum_none (each_once numbers)
sum_ticks numbers [] (s ∷ chain) e all = absurd (omega (arith, e))
sum_ticks numbers (k ∷ keys) [] e all = absurd (omega (arith, e))
sum_ticks numbers (k ∷ keys) (s ∷ chain) e all = omega (
  arith,
  sum_both (own_weight k s.weight) (λ key. ticks_at key keys (weights_of chain)) (each_once numbers),
  sum_once k s.weight numbers all.0,
  sum_ticks numbers keys chain (omega (arith, e)) all.1,
  sum_by-cons (λ (c : ChainStep). c.weight) s chain,
)

any_at : (xs : List ℕ) (i d : ℕ) → i < length xs → list_any (nat_eq (get_or xs i d)) xs ≡ true
any_at [] i d h = absurd (omega (arith, h))
any_at (x ∷ xs) zero d h = let t : eqb x x ≡ true = eq-eqb x x refl in rw t refl
any_at (x ∷ xs) (suc i) d h = or_right (eqb (get_or xs i d) x) (list_any (nat_eq (get_or xs i d)) xs) (any_at xs i d (omega (arith, h)))

-- the def of each step is one of the defs
keys_there : (rows : List Row) (defs : List ℕ) (steps : List ChainStep) (keys : List ℕ) → length defs ≡ length rows → IsChain rows steps
    → AreDefsOf defs steps keys → All (λ key. list_any (nat_eq key) defs ≡ true) keys
keys_there rows defs steps keys whole chain are i d h =
    let none : ChainStep = record { row = 0; via = Last; weight = 0 } in
    let s : ChainStep = get_or steps i none in
    let there = slice_get-get_or steps i none (omega (arith, h, are.whole)) in
    let row : s.row < length rows = (chain.holds i s there).1.0 in
    let is : get_or keys i d ≡ slice_index defs s.row = get_or_default keys i d 0 h ∙ are.at i s there in
    subst (λ (k : ℕ). list_any (nat_eq k) defs ≡ true) (sym is) (any_at defs s.row 0 (omega (arith, row, whole)))

-- the def of each step is as low as all are
keys_low : (rows : List Row) (defs : List ℕ) (steps : List ChainStep) (keys : List ℕ) → length defs ≡ length rows → All (λ d. d < MOST_ROWS) defs
    → IsChain rows steps → AreDefsOf defs steps keys → All (λ key. key < MOST_ROWS) keys
keys_low rows defs steps keys whole below chain are i d h =
    let none : ChainStep = record { row = 0; via = Last; weight = 0 } in
    let s : ChainStep = get_or steps i none in
    let there = slice_get-get_or steps i none (omega (arith, h, are.whole)) in
    let row : s.row < length rows = (chain.holds i s there).1.0 in
    let is : get_or keys i d ≡ slice_index defs s.row = get_or_default keys i d 0 h ∙ are.at i s there in
    subst (λ (k : ℕ). k < MOST_ROWS) (sym is) (below s.row 0 (omega (arith, row, whole)))

-- so the keys of the shares are
pub shares_low : (list : List Row) (sharing : Sharing) (defs : List ℕ) (count : ℕ) (why : Why) → length defs ≡ length list → All (λ d. d < MOST_ROWS) defs
    → IsWhy list sharing defs count why → All (λ s. s.key < MOST_ROWS) why.by_def.items
shares_low list sharing defs count why whole below is i d h =
    let s : Share = get_or why.by_def.items i d in
    All-contains (λ key. key < MOST_ROWS) is.keys s.key
    (keys_low (seen sharing list) defs why.profile.chain.steps.items is.keys (whole ∙ sym (length-seen sharing list)) below is.profile.picked.chain is.keys_are)
    (is.by_def.each i s (slice_get-get_or why.by_def.items i d h)).there

-- ---- the defs of a side

sum_chain : (rows : List Row) (defs : List ℕ) (by_def : List Share) (keys weights : List ℕ) → AreShares keys weights by_def → (list : List Totals)
    → AllByRecursion (IsOfDef rows defs by_def) list
    → sum_by (λ (own : Totals). own.chain) list ≡ sum_by (λ key. ticks_at key keys weights) (map (λ (own : Totals). own.key) list)
sum_chain rows defs by_def keys weights are [] all = refl
sum_chain rows defs by_def keys weights are (own ∷ list) all = omega (
  arith,
  sum_by-cons (λ (own : Totals). own.chain) own list,
  sum_by-cons (λ key. ticks_at key keys weights) own.key (map (λ (own : Totals). own.key) list),
  all.0.chain,
  share_is own.key keys weights by_def are,
  sum_chain rows defs by_def keys weights are list all.1,
)

pub side_adds_up : (question : Asked) (side : Side) → length question.defs ≡ length question.rows → IsSide question side
    → sum_by (λ (own : Totals). own.chain) side.defs.items ≡ side.times.span
side_adds_up question side whole is =
    let rows : List Row = seen question.sharing question.rows in
    let why = is.why in
    let steps : List ChainStep = why.profile.chain.steps.items in
    let told = is.why_is in
    let there = recursion_from_All (λ key. list_any (nat_eq key) question.defs ≡ true) told.keys
    (keys_there rows question.defs steps told.keys (whole ∙ sym (length-seen question.sharing question.rows)) told.profile.picked.chain told.keys_are) in
    sum_chain question.rows question.defs why.by_def.items told.keys (weights_of steps) told.by_def side.defs.items
    (recursion_from_All (IsOfDef question.rows question.defs why.by_def.items) side.defs.items is.defs.each)
    ∙ ap (sum_by (λ key. ticks_at key told.keys (weights_of steps))) is.defs.keys
    ∙ sum_ticks question.defs told.keys steps told.keys_are.whole there
    ∙ told.profile.weight
    ∙ one_span rows why.profile.span side.times.span
    (record { plan = why.profile.starts.items; earliest = told.profile.earliest; ends = told.profile.span }) is.times.span

-- ---- pairs

abbrev chain_in : Option Totals → ℕ
chain_in own = option_map_or (λ (own : Totals). own.chain) own 0

abbrev chain_was : Pair → ℕ
chain_was pair = chain_in pair.before

abbrev chain_now : Pair → ℕ
chain_now pair = chain_in pair.after

abbrev own_chain : Totals → ℕ
own_chain own = own.chain

module _ (before_names : List Text) (after_names : List Text) where
  abbrev besides : List Totals → List Totals → List Pair
  besides before after = with_after before_names before after_names after

  abbrev news : List Totals → List Totals → List Pair
  news before after = only_after before_names before after_names after

  abbrev alone : Totals → Pair
  alone own = record { before = None; after = Some own }

  -- all before
  with_was : (before after : List Totals) → sum_by chain_was (besides before after) ≡ sum_by own_chain before
  with_was [] after = refl
  with_was (own ∷ before) after = omega (
    arith,
    sum_by-cons chain_was (record { before = Some own; after = first_of after_names after (text_at before_names own.key) }) (besides before after),
    sum_by-cons own_chain own before,
    with_was before after,
  )

  sum_if : (f : Pair → ℕ) (b : Bool) (pair : Pair) (rest : List Pair) → sum_by f (cond b rest (pair ∷ rest)) ≡ cond b 0 (f pair) + sum_by f rest
  sum_if f true pair rest = omega arith
  sum_if f false pair rest = sum_by-cons f pair rest

  if_zero : (b : Bool) → ◌≡◌ {A = ℕ} (cond b 0 0) 0
  if_zero true = refl
  if_zero false = refl

  only_was : (before after : List Totals) → sum_by chain_was (news before after) ≡ 0
  only_was before [] = refl
  only_was before (own ∷ after) =
      let b : Bool = is_some (first_of before_names before (text_at after_names own.key)) in
      omega (arith, sum_if chain_was b (alone own) (news before after), if_zero b, only_was before after)

  all_before : (before after : List Totals) → sum_by chain_was (paired before before_names after after_names) ≡ sum_by own_chain before
  all_before before after = omega (arith, sum_by-append chain_was (besides before after) (news before after), with_was before after, only_was before after)

  -- all after
  with_none : (before : List Totals) → sum_by chain_now (besides before []) ≡ 0
  with_none [] = refl
  with_none (own ∷ before) = omega (arith, sum_by-cons chain_now (record { before = Some own; after = None }) (besides before []), with_none before)

  step : (own : Totals) (same back : Bool) (first found : Option Totals) (count : ℕ)
      → same ≡ back → (same ≡ true → (first ≡ None) × (found ≡ None)) → (count ≡ cond (is_some found) own.chain 0)
      → (b : Totals) → chain_in (cond same (Some own) first) + count ≡ cond (is_some (cond back (Some b) found)) own.chain 0 + chain_in first
  step own true true first found count e none is b =
      let h = none refl in
      let first_none : chain_in first ≡ 0 = ap chain_in h.0 in
      let found_none : ◌≡◌ {A = ℕ} (cond (is_some found) own.chain 0) 0 = ap (λ (o : Option Totals). cond (is_some o) own.chain 0) h.1 in
      omega (arith, first_none, found_none, is)
  step own false false first found count e none is b = omega (arith, is)
  step own true false first found count e none is b = absurd (true≢false e)
  step own false true first found count e none is b = absurd (true≢false (sym e))

  -- one more after counts once, if others before have its name or not
  with_more : (own : Totals) (before after : List Totals) → AreNamedApart before_names before → first_of after_names after (text_at after_names own.key) ≡ None
      → sum_by chain_now (besides before (own ∷ after))
      ≡ cond (is_some (first_of before_names before (text_at after_names own.key))) own.chain 0 + sum_by chain_now (besides before after)
  with_more own [] after apart fresh = refl
  with_more own (b ∷ before) after apart fresh =
      let name : Text = text_at after_names own.key in
      let other : Text = text_at before_names b.key in
      let first : Option Totals = first_of after_names after other in
      let found : Option Totals = first_of before_names before name in
      let equal : bytes_eq name other ≡ true → name ≡ other = (bytes_eq-Decides name other).0 in
      omega (
        arith,
        sum_by-cons chain_now (record { before = Some b; after = first_of after_names (own ∷ after) other }) (besides before (own ∷ after)),
        sum_by-cons chain_now (record { before = Some b; after = first }) (besides before after),
        with_more own before after apart.1 fresh,
        step own (bytes_eq name other) (bytes_eq other name) first found (cond (is_some found) own.chain 0)
            (turns name other)
            (λ e. (
              subst (λ (t : Text). first_of after_names after t ≡ None) (equal e) fresh,
              subst (λ (t : Text). first_of before_names before t ≡ None) (sym (equal e)) apart.0,
            ))
            refl b,
      )
    where
      turns : (x y : Text) → bytes_eq x y ≡ bytes_eq y x
      turns x y = ⊎_elim
          (λ (t : bytes_eq x y ≡ true). t ∙ sym ((bytes_eq-Decides y x).1 (sym ((bytes_eq-Decides x y).0 t))))
          (λ (f : bytes_eq x y ≡ false). f ∙ ⊎_elim
          (λ (t : bytes_eq y x ≡ true). absurd (true≢false (sym ((bytes_eq-Decides x y).1 (sym ((bytes_eq-Decides y x).0 t))) ∙ f)))
          (λ (g : bytes_eq y x ≡ false). sym g)
          (cases_Bool (bytes_eq y x)))
          (cases_Bool (bytes_eq x y))

  if_both : (b : Bool) (x : ℕ) → cond b x 0 + cond b 0 x ≡ x
  if_both true x = omega arith
  if_both false x = omega arith

  after_parts : (before after : List Totals) → AreNamedApart before_names before → AreNamedApart after_names after
      → sum_by chain_now (besides before after) + sum_by chain_now (news before after) ≡ sum_by own_chain after
  after_parts before [] apart others = omega (arith, with_none before)
  after_parts before (own ∷ after) apart others =
      let b : Bool = is_some (first_of before_names before (text_at after_names own.key)) in
      omega (
        arith,
        with_more own before after apart others.0,
        sum_if chain_now b (alone own) (news before after),
        if_both b own.chain,
        after_parts before after apart others.1,
        sum_by-cons own_chain own after,
      )

  all_after : (before after : List Totals) → AreNamedApart before_names before → AreNamedApart after_names after
      → sum_by chain_now (paired before before_names after after_names) ≡ sum_by own_chain after
  all_after before after apart others =
      omega (arith, sum_by-append chain_now (besides before after) (news before after), after_parts before after apart others)

  pub changes_sum : (before after : List Totals) (pairs : List Pair) → AreNamedApart before_names before → AreNamedApart after_names after
      → AreChanges before before_names after after_names pairs
      → (chain_before pairs ≡ sum_by own_chain before) × (chain_after pairs ≡ sum_by own_chain after)
  changes_sum before after pairs apart others are = (
    sum_by-IsPermutation chain_was (paired before before_names after after_names) pairs are.all ∙ all_before before after,
    sum_by-IsPermutation chain_now (paired before before_names after after_names) pairs are.all ∙ all_after before after apart others,
  )
