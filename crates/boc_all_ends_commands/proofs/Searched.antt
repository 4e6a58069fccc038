-- What a search of all ends has found, and what is refused.
use Rattle.std.proofs.Common.{◌≡◌, ◌+◌, ◌∙◌, ℕ, List, get_or, length, Option, Result, Ok, Err, sym, ap, subst}
use Rattle.std.specs.List.{All, Contains}
use Rattle.std.specs.Result.{IsErrAnd}
use Rattle.std.proofs.lemmas.List.Elements.{Contains-get_or}
use Rattle.boc_program.specs.declared.cown.Cown.{Cown}
use Rattle.boc_program.specs.declared.program.Program.{Program}
use Rattle.boc_program.specs.declared.limits.TheConstants.{MOST_TEXT}
use Rattle.boc_reader.specs.Spells.{Spells}
use Rattle.boc_text.specs.Streams.{ReadsWhole}
use Rattle.boc_machine_laws.proofs.Members.{values_length}
use Rattle.boc_all_ends.specs.declared.found.End.{End}
use Rattle.boc_all_ends.specs.declared.found.Found.{Found}
use Rattle.boc_all_ends.specs.Ends.{IsFound}
use Rattle.boc_all_ends_report.specs.EndTexts.{HasAllValues, ends_text}
use Rattle.boc_run_commands.specs.declared.fault.Fault.{Fault}
use Rattle.boc_run_commands.specs.declared.fault.Fault.TheVariants as faults
use Rattle.boc_run_commands.specs.declared.fault.InputFault.TheVariants as inputs
use Rattle.boc_run_commands.specs.declared.fault.Want.TheVariants as wants
use Rattle.boc_all_ends_commands.specs.AllEndsAnswers.{IsAllEndsAnswer, IsOfSearch, RefusesSearch}

-- an end has a value for each cown
end_values : (p : Program) (most : ℕ) (found : Found) (e : End) → IsFound p most found → Contains found.all.items e → HasAllValues p.cowns e
end_values p most found e is among =
    let end = is.ends.least e among in
    ap length (sym end.values_are) ∙ values_length p end.log

pub all_values : (p : Program) (cowns : List Cown) (most : ℕ) (found : Found) → cowns ≡ p.cowns → IsFound p most found
    → All (HasAllValues cowns) found.all.items
all_values p cowns most found same is = subst (λ (cs : List Cown). All (HasAllValues cs) found.all.items) (sym same)
    (λ k d low. end_values p most found (get_or found.all.items k d) is (Contains-get_or found.all.items k d low))

-- what was found, and its text
pub told_ends : (most : ℕ) (text : List ℕ) (p : Program) (cowns : List Cown) (found : Found) (made : List ℕ) → Spells text p → cowns ≡ p.cowns
    → IsFound p most found → made ≡ ends_text cowns found → IsAllEndsAnswer most text made
told_ends most text p cowns found made spells same ends is = record {
  program = p;
  spells = spells;
  found = found;
  ends = ends;
  text = is ∙ ap (λ (cs : List Cown). ends_text cs found) same;
}

-- a search is refused for the text that was taken
pub refused_search : (result : Result (Unit {0}) Fault) (fault : Fault) (text : List ℕ) (before after : Option (List ℕ))
    → IsErrAnd result (λ f. f ≡ fault) → ReadsWhole before after text (MOST_TEXT + 1) → IsOfSearch text fault → RefusesSearch result before after
refused_search (Ok done) fault text before after h reads is = absurd h
refused_search (Err f) fault text before after h reads is =
    subst (λ (x : Fault). RefusesSearch {A = Unit {0}} (Err x) before after) (sym h) (go fault is)
  where
    go : (x : Fault) → IsOfSearch text x → RefusesSearch {A = Unit {0}} (Err x) before after
    go (faults.Input (inputs.Program r)) is = record { input = text; taken = reads; known = is }
    go (faults.Means wants.Memory) is = tt
    go _ is = absurd is
