-- The line of a stretch, and the lines that are left.
use Rattle.std.proofs.Common.{◌≡◌, ◌∙◌, ℕ, zero, suc, ◌+◌, ◌-◌, ◌<◌, ◌≤◌, Bool, false, List, [], ◌∷◌, ◌++◌, Option, None, length, map}
use Rattle.std.proofs.Common.{flat_map, take, drop, get_or, refl, ap, append_assoc, sym, arith, decimal}
use Rattle.std.specs.Prelude.{cond, nat_lt, slice_get, slice_index}
use Rattle.std.proofs.lemmas.List.{get_or-take, length-take-le, take-take}
use Rattle.std.proofs.lemmas.Bool.Decides.{nat_tests}
use Rattle.boc_plans.specs.declared.chain.ChainStep.{ChainStep}
use Rattle.boc_plans.specs.Chains.{weight_of}
use Rattle.boc_names.specs.declared.names.Names.{Names}
use Rattle.boc_names.specs.Names.{Text}
use Rattle.boc_names.specs.Stretches.{stretches}
use Rattle.boc_why.specs.declared.links.Link.{Link}
use Rattle.boc_why_report.specs.ChainTexts.{Leg, are_of_one_def, behaviours_text, before_last, folded_legs, last_leg, leg_texts, legs, rows_text}
use Rattle.boc_why_report.specs.ChainTexts.{stretch_lines, stretch_texts, stretch_then}
use Rattle.boc_why_report.proofs.Legs.{leg_at, legs_drop, legs_length}

-- the steps and the links of the first legs
steps_of : (n : ℕ) (steps : List ChainStep) (links : List Link) → length links ≡ length steps
    → map (λ leg. leg.step) (take n (legs steps links)) ≡ take n steps
steps_of zero steps links whole = refl
steps_of (suc n) [] links whole = refl
steps_of (suc n) (s ∷ steps) [] whole = absurd (omega (arith, whole))
steps_of (suc n) (s ∷ steps) (l ∷ links) whole = ap (λ (some : List ChainStep). s ∷ some) (steps_of n steps links (omega (arith, whole)))

links_of : (n : ℕ) (steps : List ChainStep) (links : List Link) → length links ≡ length steps
    → map (λ leg. leg.link) (take n (legs steps links)) ≡ take n links
links_of zero steps links whole = refl
links_of (suc n) [] [] whole = refl
links_of (suc n) [] (l ∷ links) whole = absurd (omega (arith, whole))
links_of (suc n) (s ∷ steps) [] whole = absurd (omega (arith, whole))
links_of (suc n) (s ∷ steps) (l ∷ links) whole = ap (λ (some : List Link). l ∷ some) (links_of n steps links (omega (arith, whole)))

-- the texts of a line
abbrev pub line_of : Names → List ℕ → ℕ → ℕ → Leg → ℕ → List Link → List Text
line_of names starts row ticks last count inner =
    [] ∷ decimal (slice_index starts row) ∷ decimal ticks ∷ rows_text row last.step.row ∷ behaviours_text names count row
    ∷ stretch_then names inner last.link last.next ∷ []

-- the texts of the line of the first legs, from the steps and the links
pub folded_is : (names : Names) (starts : List ℕ) (steps : List ChainStep) (links : List Link) (n : ℕ) (s : ChainStep) (link : Link)
    → length links ≡ length steps → n < length steps
    → stretch_texts names starts (take (suc n) (legs steps links))
    ≡ line_of names starts (get_or steps 0 s).row (weight_of (take (suc n) steps))
    (record { step = get_or steps n s; link = get_or links n link; next = slice_get steps (n + 1) }) (suc n) (take n links)
folded_is names starts [] links n s link whole there = absurd (omega arith)
folded_is names starts (x ∷ steps) [] n s link whole there = absurd (omega (arith, whole))
folded_is names starts (x ∷ steps) (l ∷ links) n s link whole there =
    let all : List Leg = legs (x ∷ steps) (l ∷ links) in
    let first : Leg = get_or all 0 (record { step = x; link = l; next = None }) in
    let others : List Leg = take n (legs steps links) in
    let many : n ≤ length (legs steps links) = omega (arith, legs_length steps links (omega (arith, whole)), there) in
    let count : length others ≡ n = length-take-le n (legs steps links) many in
    let last : last_leg first others ≡ record { step = get_or (x ∷ steps) n s; link = get_or (l ∷ links) n link; next = slice_get (x ∷ steps) (n + 1) } =
    ap (λ (k : ℕ). get_or (take (suc n) all) k first) count ∙ get_or-take (suc n) all n first (omega arith)
    ∙ leg_at (x ∷ steps) (l ∷ links) n first s link whole there in
    let inner : map (λ leg. leg.link) (before_last first others) ≡ take n (l ∷ links) =
    ap (λ (k : ℕ). map (λ (leg : Leg). leg.link) (take k (take (suc n) all))) count
    ∙ ap (map (λ (leg : Leg). leg.link)) (take-take n (suc n) all (omega arith))
    ∙ links_of n (x ∷ steps) (l ∷ links) whole in
    let ticks : weight_of (map (λ leg. leg.step) (first ∷ others)) ≡ weight_of (take (suc n) (x ∷ steps)) =
    ap weight_of (steps_of (suc n) (x ∷ steps) (l ∷ links) whole) in
    ap (λ (w : ℕ). line_of names starts x.row w (last_leg first others) (length (first ∷ others))
    (map (λ (leg : Leg). leg.link) (before_last first others))) ticks
    ∙ ap (λ (leg : Leg). line_of names starts x.row (weight_of (take (suc n) (x ∷ steps))) leg (length (first ∷ others))
    (map (λ (leg : Leg). leg.link) (before_last first others))) last
    ∙ ap (λ (k : ℕ). line_of names starts x.row (weight_of (take (suc n) (x ∷ steps)))
    (record { step = get_or (x ∷ steps) n s; link = get_or (l ∷ links) n link; next = slice_get (x ∷ steps) (n + 1) }) (suc k)
    (map (λ (leg : Leg). leg.link) (before_last first others))) count
    ∙ ap (line_of names starts x.row (weight_of (take (suc n) (x ∷ steps)))
    (record { step = get_or (x ∷ steps) n s; link = get_or (l ∷ links) n link; next = slice_get (x ∷ steps) (n + 1) }) (suc n)) inner

abbrev texts_of_line : ℕ → ℕ → Text → Text → Text → List Text
texts_of_line tick ticks rows behaviours then = [] ∷ decimal tick ∷ decimal ticks ∷ rows ∷ behaviours ∷ then ∷ []

told_at : (names : Names) (starts : List ℕ) (steps : List ChainStep) (links : List Link) (n : ℕ) (s : ChainStep) (link : Link) (next : Option ChainStep)
    (tick ticks rows behaviours then : Text) → length links ≡ length steps → n < length steps → next ≡ slice_get steps (n + 1)
    → tick ≡ decimal (slice_index starts (get_or steps 0 s).row) → ticks ≡ decimal (weight_of (take (suc n) steps))
    → rows ≡ rows_text (get_or steps 0 s).row (get_or steps n s).row → behaviours ≡ behaviours_text names (suc n) (get_or steps 0 s).row
    → then ≡ stretch_then names (take n links) (get_or links n link) next
    → [] ∷ tick ∷ ticks ∷ rows ∷ behaviours ∷ then ∷ [] ≡ stretch_texts names starts (take (suc n) (legs steps links))
told_at names starts steps links n s link next tick ticks rows behaviours then whole there next_is a b d e f =
    let front : Text → Text → Text → List Text =
    texts_of_line (slice_index starts (get_or steps 0 s).row) (weight_of (take (suc n) steps)) in
    ap (λ (x : Text). [] ∷ x ∷ ticks ∷ rows ∷ behaviours ∷ then ∷ []) a
    ∙ ap (λ (x : Text). [] ∷ decimal (slice_index starts (get_or steps 0 s).row) ∷ x ∷ rows ∷ behaviours ∷ then ∷ []) b
    ∙ ap (λ (x : Text). front x behaviours then) d ∙ ap (λ (x : Text). front (rows_text (get_or steps 0 s).row (get_or steps n s).row) x then) e
    ∙ ap (front (rows_text (get_or steps 0 s).row (get_or steps n s).row) (behaviours_text names (suc n) (get_or steps 0 s).row))
    (f ∙ ap (stretch_then names (take n links) (get_or links n link)) next_is)
    ∙ sym (folded_is names starts steps links n s link whole there)

-- the texts of the line of the first legs, each as it was put
pub told_line : (names : Names) (starts : List ℕ) (steps : List ChainStep) (links : List Link) (count : ℕ) (s : ChainStep) (link : Link)
    (next : Option ChainStep) (tick ticks rows behaviours then : Text) → length links ≡ length steps → 0 < count → count ≤ length steps
    → next ≡ slice_get steps count
    → tick ≡ decimal (slice_index starts (get_or steps 0 s).row) → ticks ≡ decimal (weight_of (take count steps))
    → rows ≡ rows_text (get_or steps 0 s).row (get_or steps (count - 1) s).row → behaviours ≡ behaviours_text names count (get_or steps 0 s).row
    → then ≡ stretch_then names (take (count - 1) links) (get_or links (count - 1) link) next
    → [] ∷ tick ∷ ticks ∷ rows ∷ behaviours ∷ then ∷ [] ≡ stretch_texts names starts (take count (legs steps links))
told_line names starts steps links zero s link next tick ticks rows behaviours then whole some within next_is a b d e f = absurd (omega arith)
told_line names starts steps links (suc n) s link next tick ticks rows behaviours then whole some within next_is a b d e f =
    let last : suc n - 1 ≡ n = omega arith in
    let behind : suc n ≡ n + 1 = omega arith in
    told_at names starts steps links n s link next tick ticks rows behaviours then whole (omega arith) (next_is ∙ ap (slice_get steps) behind) a b
    (d ∙ ap (λ (k : ℕ). rows_text (get_or steps 0 s).row (get_or steps k s).row) last) e
    (f ∙ ap (λ (k : ℕ). stretch_then names (take k links) (get_or links k link) next) last)

-- a stretch of four legs or more is folded
pub folds : (names : Names) (starts : List ℕ) (n : ℕ) (all : List Leg) → n ≤ length all → 4 ≤ n
    → stretch_lines names starts (take n all) ≡ stretch_texts names starts (take n all) ∷ []
folds names starts n all within many =
    let count : length (take n all) ≡ n = length-take-le n all within in
    let no : nat_lt (length (take n all)) 4 ≡ false = grind (arith, nat_tests) in
    ap (λ (few : Bool). cond few (map (leg_texts names starts) (take n all)) (stretch_texts names starts (take n all) ∷ [])) no

-- the lines of the first stretch, and those that are left
pub lines_left : (names : Names) (starts : List ℕ) (steps behind : List ChainStep) (links links_behind : List Link) (n : ℕ)
    (lines new whole_lines : List (List Text)) → length links ≡ length steps → behind ≡ drop n steps → links_behind ≡ drop n links
    → stretches (are_of_one_def names.defs.items) (legs steps links)
    ≡ take n (legs steps links) ∷ stretches (are_of_one_def names.defs.items) (drop n (legs steps links))
    → new ≡ lines ++ stretch_lines names starts (take n (legs steps links))
    → lines ++ folded_legs names starts (legs steps links) ≡ whole_lines
    → new ++ folded_legs names starts (legs behind links_behind) ≡ whole_lines
lines_left names starts steps behind links links_behind n lines new whole_lines whole a b first put so_far =
    let left : legs behind links_behind ≡ drop n (legs steps links) =
    ap (λ (some : List ChainStep). legs some links_behind) a ∙ ap (λ (some : List Link). legs (drop n steps) some) b
    ∙ sym (legs_drop n steps links whole) in
    ap (λ (some : List (List Text)). some ++ folded_legs names starts (legs behind links_behind)) put
    ∙ ap (λ (some : List Leg). (lines ++ stretch_lines names starts (take n (legs steps links))) ++ folded_legs names starts some) left
    ∙ append_assoc lines (stretch_lines names starts (take n (legs steps links))) (folded_legs names starts (drop n (legs steps links)))
    ∙ ap (λ (all : List (List Leg)). lines ++ flat_map (stretch_lines names starts) all) (sym first) ∙ so_far
