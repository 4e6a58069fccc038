use Rattle.std.proofs.Common.{◌≡◌, ◌∷◌, ◌++◌, [], List, reverse, length, Option, Some, None, true, is_some, sym, ap, ◌∙◌, refl, eq-eqb}
use Rattle.std.proofs.lemmas.Bool.{eqb-true}
use Rattle.std.proofs.lemmas.List.{length-reverse, nil_from_length}
use Rattle.boc_reader.specs.Placed.{token_of}
use Rattle.boc_reader.specs.Wanted.{wanted_behind}
use Rattle.boc_reader.specs.Room.{Within}
use Rattle.boc_reader.specs.Expected.{front_of, rest_of, within_with}
use Rattle.boc_reader.specs.declared.wanted.Wanted.{Wanted}
use Rattle.boc_reader.proofs.Filled.{all_read, read_begins}
use Rattle.boc_reader.proofs.Strays.{none_within, one_read}
use Rattle.boc_reader.proofs.Wanting.{stray_begins_none, whole_wanted}
use Rattle.boc_reader.proofs.expected.Expected.programs_begin_so.Goals as goal

is_wanted : (found : Option (List Wanted)) (within : Option Within) → (found ≡ None → within ≡ None) → is_some within ≡ true
    → (ws : List Wanted) × (found ≡ Some ws)
is_wanted (Some ws) within none some = (ws, refl)
is_wanted None within none some = let gone = ap is_some (none refl) in absurd cc

pub returns-clause-allowed : goal.returns-clause-allowed
returns-clause-allowed c e text t there allowed =
    let ws = reverse e.wanted.items in
    let found = is_wanted (wanted_behind (token_of t) ws) (within_with e (token_of t)) (none_within (token_of t) (rest_of e) ws e.room) allowed in
    read_begins (front_of e ++ token_of t ∷ []) found.0 (one_read (front_of e) (token_of t) ws there.wanted_there ∙ found.1)

pub returns-clause-refused : goal.returns-clause-refused
returns-clause-refused c e text t there none =
    stray_begins_none (front_of e ++ token_of t ∷ []) (one_read (front_of e) (token_of t) (reverse e.wanted.items) there.wanted_there ∙ none)

pub returns-clause-ended : goal.returns-clause-ended
returns-clause-ended c e text there ends =
    let none = nil_from_length e.wanted.items (eqb-true (length e.wanted.items) 0 ends) in
    all_read (front_of e) (there.wanted_there ∙ ap (λ (ws : List Wanted). Some (reverse ws)) none)

pub returns-clause-unended : goal.returns-clause-unended
returns-clause-unended c e text there more whole =
    let all = whole_wanted (front_of e) whole in
    let none : reverse e.wanted.items ≡ [] = let h = there.wanted_there in cc in
    let empty = eq-eqb (length e.wanted.items) 0 (sym (length-reverse e.wanted.items) ∙ ap length none) in
    absurd cc
