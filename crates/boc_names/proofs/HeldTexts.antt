-- The cowns of a behaviour, put after a text stretch by stretch.
use Rattle.std.proofs.Common.{◌≡◌, ◌∙◌, ℕ, ◌<◌, List, [], ◌∷◌, ◌++◌, length, map, flat_map, take, drop, codes, ap, append_assoc, sym, arith}
use Rattle.boc_names.specs.Names.{Text, NamedCowns, goes_on, held_text, separated, stretch_text}
use Rattle.boc_names.specs.Stretches.{stretches}

-- stretches after others
abbrev pub behind : NamedCowns → List ℕ → Text
behind cowns held = flat_map (λ told. codes ", " ++ told) (map (stretch_text cowns) (stretches (goes_on cowns) held))

-- the first stretch, and those after it
held_from : (cowns : NamedCowns) (held : List ℕ) (n : ℕ) → 0 < length held
    → stretches (goes_on cowns) held ≡ take n held ∷ stretches (goes_on cowns) (drop n held)
    → codes " " ++ (stretch_text cowns (take n held) ++ behind cowns (drop n held)) ≡ held_text cowns held
held_from cowns [] n some first = absurd (omega arith)
held_from cowns (c ∷ held) n some first =
    ap (λ (all : List (List ℕ)). codes " " ++ separated (map (stretch_text cowns) all)) (sym first)

pub held_put : (cowns : NamedCowns) (held front back old pushed put new : List ℕ) (n : ℕ) → 0 < length held
    → stretches (goes_on cowns) held ≡ take n held ∷ stretches (goes_on cowns) (drop n held) → front ≡ take n held → back ≡ drop n held
    → pushed ≡ old ++ codes " " → put ≡ pushed ++ stretch_text cowns front → new ≡ put ++ behind cowns back → new ≡ old ++ held_text cowns held
held_put cowns held front back old pushed put new n some first front_is back_is a b d =
    d ∙ ap (λ (text : List ℕ). text ++ behind cowns back) (b ∙ ap (λ (text : List ℕ). text ++ stretch_text cowns front) a)
    ∙ ap (λ (part : List ℕ). ((old ++ codes " ") ++ stretch_text cowns front) ++ behind cowns part) back_is
    ∙ ap (λ (part : List ℕ). ((old ++ codes " ") ++ stretch_text cowns part) ++ behind cowns (drop n held)) front_is
    ∙ append_assoc (old ++ codes " ") (stretch_text cowns (take n held)) (behind cowns (drop n held))
    ∙ append_assoc old (codes " ") (stretch_text cowns (take n held) ++ behind cowns (drop n held))
    ∙ ap (λ (text : List ℕ). old ++ text) (held_from cowns held n some first)
