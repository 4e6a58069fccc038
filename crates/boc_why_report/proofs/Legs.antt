-- The legs of a chain, place by place.
use Rattle.std.proofs.Common.{◌≡◌, ◌∙◌, ℕ, zero, suc, true, false, ◌+◌, ◌-◌, ◌<◌, ◌≤◌, List, [], ◌∷◌, ◌++◌, Option, None}
use Rattle.std.proofs.Common.{length, map, take, drop, get_or, refl, ap, append_assoc, sym, arith}
use Rattle.std.specs.Prelude.{slice_get}
use Rattle.std.proofs.lemmas.List.{map-append, take_all, take_more}
use Rattle.std.proofs.lemmas.Bool.Decides.{nat_tests}
use Rattle.boc_plans.specs.declared.chain.ChainStep.{ChainStep}
use Rattle.boc_names.specs.declared.names.Names.{Names}
use Rattle.boc_names.specs.Names.{Text}
use Rattle.boc_why.specs.declared.links.Link.{Link}
use Rattle.boc_names.specs.Stretches.{stretches}
use Rattle.boc_names.proofs.Stretches.{first_stretch}
use Rattle.boc_why.specs.Shares.{def_of}
use Rattle.boc_why_report.specs.ChainTexts.{Leg, are_of_one_def, chain_foot, chain_head, first_step, leg_texts, legs, step_texts}

-- there are as many legs as steps
pub legs_length : (steps : List ChainStep) (links : List Link) → length links ≡ length steps → length (legs steps links) ≡ length steps
legs_length [] links whole = refl
legs_length (s ∷ steps) [] whole = absurd (omega (arith, whole))
legs_length (s ∷ steps) (link ∷ links) whole = ap suc (legs_length steps links (omega (arith, whole)))

-- the legs from a place on are those of the steps from there on
pub legs_drop : (n : ℕ) (steps : List ChainStep) (links : List Link) → length links ≡ length steps
    → drop n (legs steps links) ≡ legs (drop n steps) (drop n links)
legs_drop zero steps links whole = refl
legs_drop (suc n) [] links whole = refl
legs_drop (suc n) (s ∷ steps) [] whole = absurd (omega (arith, whole))
legs_drop (suc n) (s ∷ steps) (link ∷ links) whole = legs_drop n steps links (omega (arith, whole))

first_is : (steps : List ChainStep) → first_step steps ≡ slice_get steps 0
first_is [] = refl
first_is (s ∷ steps) = refl

-- the leg at a place
legs_at : (steps : List ChainStep) (links : List Link) (k : ℕ) (d : Leg) (s : ChainStep) (link : Link) → length links ≡ length steps
    → k < length steps
    → get_or (legs steps links) k d ≡ record { step = get_or steps k s; link = get_or links k link; next = slice_get steps (suc k) }
legs_at [] links k d s link whole there = absurd (omega (arith, there))
legs_at (x ∷ steps) [] k d s link whole there = absurd (omega (arith, whole))
legs_at (x ∷ steps) (l ∷ links) zero d s link whole there =
    ap (λ (next : Option ChainStep). record { step = x; link = l; next = next }) (first_is steps)
legs_at (x ∷ steps) (l ∷ links) (suc k) d s link whole there =
    legs_at steps links k d s link (omega (arith, whole)) (omega (arith, there))

pub leg_at : (steps : List ChainStep) (links : List Link) (k : ℕ) (d : Leg) (s : ChainStep) (link : Link) → length links ≡ length steps
    → k < length steps
    → get_or (legs steps links) k d ≡ record { step = get_or steps k s; link = get_or links k link; next = slice_get steps (k + 1) }
leg_at steps links k d s link whole there =
    let next : suc k ≡ k + 1 = omega arith in
    legs_at steps links k d s link whole there
    ∙ ap (λ (n : ℕ). record { step = get_or steps k s; link = get_or links k link; next = slice_get steps n }) next

-- one line more of a chain's steps
pub lines_next : (names : Names) (starts : List ℕ) (steps : List ChainStep) (links : List Link) (k : ℕ) (s : ChainStep) (link : Link)
    (next : Option ChainStep) (old lines new : List (List Text)) → length links ≡ length steps → k < length steps → next ≡ slice_get steps (k + 1)
    → lines ≡ old ++ map (leg_texts names starts) (take k (legs steps links))
    → new ≡ lines ++ step_texts names starts (get_or steps k s) (get_or links k link) next ∷ []
    → new ≡ old ++ map (leg_texts names starts) (take (k + 1) (legs steps links))
lines_next names starts steps links k s link next old lines new whole there next_is so_far put =
    let all : List Leg = legs steps links in
    let leg : Leg = record { step = get_or steps k s; link = get_or links k link; next = slice_get steps (k + 1) } in
    let within : k < length all = omega (arith, legs_length steps links whole) in
    let more : take (k + 1) all ≡ take k all ++ leg ∷ [] =
    take_more all k leg within ∙ ap (λ (x : Leg). take k all ++ x ∷ []) (leg_at steps links k leg s link whole there) in
    put ∙ ap (λ (n : Option ChainStep). lines ++ step_texts names starts (get_or steps k s) (get_or links k link) n ∷ []) next_is
    ∙ ap (λ (ls : List (List Text)). ls ++ leg_texts names starts leg ∷ []) so_far
    ∙ append_assoc old (map (leg_texts names starts) (take k all)) (leg_texts names starts leg ∷ [])
    ∙ ap (λ (ls : List (List Text)). old ++ ls)
    (sym (map-append (leg_texts names starts) (take k all) (leg ∷ [])) ∙ ap (map (leg_texts names starts)) (sym more))

-- the lines of a chain: what stands above, those of all legs, and the tick at which all is over
pub all_lines : (names : Names) (starts own_starts : List ℕ) (steps own_steps : List ChainStep) (links own_links : List Link) (count span : ℕ)
    (first head put foot : List (List Text)) → starts ≡ own_starts → steps ≡ own_steps → links ≡ own_links → length own_links ≡ length own_steps
    → count ≡ length own_steps → first ≡ [] → head ≡ first ++ chain_head ∷ []
    → put ≡ head ++ map (leg_texts names starts) (take count (legs steps links)) → foot ≡ put ++ chain_foot span ∷ []
    → foot ≡ chain_head ∷ map (leg_texts names own_starts) (legs own_steps own_links) ++ chain_foot span ∷ []
all_lines names starts own_starts steps own_steps links own_links count span first head put foot a b d whole counted none headed told ended =
    let all : List Leg = legs own_steps own_links in
    let few : length all ≤ count = omega (arith, legs_length own_steps own_links whole) in
    let begun : head ≡ chain_head ∷ [] = headed ∙ ap (λ (lines : List (List Text)). lines ++ chain_head ∷ []) none in
    let legs_are : take count (legs steps links) ≡ all =
    ap (λ (some : List ChainStep). take count (legs some links)) b ∙ ap (λ (some : List Link). take count (legs own_steps some)) d
    ∙ take_all count all few in
    let added : put ≡ chain_head ∷ map (leg_texts names own_starts) all =
    told ∙ ap (λ (lines : List (List Text)). lines ++ map (leg_texts names starts) (take count (legs steps links))) begun
    ∙ ap (λ (own : List ℕ). chain_head ∷ map (leg_texts names own) (take count (legs steps links))) a
    ∙ ap (λ (some : List Leg). chain_head ∷ map (leg_texts names own_starts) some) legs_are in
    ended ∙ ap (λ (lines : List (List Text)). lines ++ chain_foot span ∷ []) added

-- two rows of one def, and of two
of_one : (defs : List ℕ) (a b : Leg) → def_of defs a.step.row ≡ def_of defs b.step.row → are_of_one_def defs a b ≡ true
of_one defs a b same = grind (arith, nat_tests)

of_two : (defs : List ℕ) (a b : Leg) → (def_of defs a.step.row ≡ def_of defs b.step.row → ⊥) → are_of_one_def defs a b ≡ false
of_two defs a b other = grind (arith, nat_tests)

-- the steps that are of one def with the first are its stretch
pub stretch_of : (defs : List ℕ) (steps : List ChainStep) (links : List Link) (n : ℕ) (s : ChainStep) → length links ≡ length steps → 0 < n
    → n ≤ length steps
    → ((k : ℕ) → k + 1 < n → def_of defs (get_or steps k s).row ≡ def_of defs (get_or steps (k + 1) s).row)
    → (n < length steps → def_of defs (get_or steps (n - 1) s).row ≡ def_of defs (get_or steps n s).row → ⊥)
    → stretches (are_of_one_def defs) (legs steps links)
    ≡ take n (legs steps links) ∷ stretches (are_of_one_def defs) (drop n (legs steps links))
stretch_of defs [] links n s whole some within together apart = absurd (omega arith)
stretch_of defs (x ∷ steps) [] n s whole some within together apart = absurd (omega (arith, whole))
stretch_of defs (x ∷ steps) (l ∷ links) n s whole some within together apart =
    let all : List Leg = legs (x ∷ steps) (l ∷ links) in
    let d : Leg = record { step = x; link = l; next = None } in
    let many : length all ≡ length (x ∷ steps) = legs_length (x ∷ steps) (l ∷ links) whole in
    let row_at : (k : ℕ) → k < length (x ∷ steps) → (get_or all k d).step ≡ get_or (x ∷ steps) k s =
    λ k there. ap (λ (leg : Leg). leg.step) (leg_at (x ∷ steps) (l ∷ links) k d s l whole there) in
    let def_at : (k : ℕ) → k < length (x ∷ steps) → def_of defs (get_or all k d).step.row ≡ def_of defs (get_or (x ∷ steps) k s).row =
    λ k there. ap (λ (step : ChainStep). def_of defs step.row) (row_at k there) in
    first_stretch (are_of_one_def defs) all n d some (omega (arith, many, within))
    (λ k h. of_one defs (get_or all k d) (get_or all (k + 1) d)
    (def_at k (omega (arith, h, within)) ∙ together k h ∙ sym (def_at (k + 1) (omega (arith, h, within)))))
    (λ h. of_two defs (get_or all (n - 1) d) (get_or all n d)
    (λ same. apart (omega (arith, h, many))
    (sym (def_at (n - 1) (omega (arith, h, many))) ∙ same ∙ def_at n (omega (arith, h, many)))))
