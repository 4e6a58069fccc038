-- The run to an end, and what is refused.
use Rattle.std.proofs.Common.{◌≡◌, ◌+◌, ◌-◌, ◌<◌, ◌≤◌, ◌∙◌, ℕ, List, get_or, length, Option, Some, Result, Ok, Err, refl, sym, ap, subst, arith}
use Rattle.std.specs.Prelude.{slice_get}
use Rattle.std.specs.List.{Contains}
use Rattle.std.specs.Result.{IsErrAnd}
use Rattle.std.proofs.lemmas.List.Elements.{Contains-get_or}
use Rattle.std.proofs.lemmas.Option.{get_or_from_slice_get, slice_get_within}
use Rattle.boc_program.specs.declared.program.Program.{Program}
use Rattle.boc_program.specs.declared.limits.TheConstants.{MOST_TEXT}
use Rattle.boc_reader.specs.Spells.{Spells}
use Rattle.boc_runs.specs.Records.{Recorded}
use Rattle.boc_text.specs.Streams.{ReadsWhole}
use Rattle.boc_all_ends.specs.declared.found.End.{End}
use Rattle.boc_all_ends.specs.declared.found.Found.{Found}
use Rattle.boc_all_ends.specs.Ends.{IsEnd, IsFound}
use Rattle.boc_end_orders.specs.Runs.{RecordsEnd}
use Rattle.boc_run_commands.specs.declared.fault.EndFault.{EndFault}
use Rattle.boc_run_commands.specs.declared.fault.Fault.{Fault}
use Rattle.boc_run_commands.specs.declared.fault.Fault.TheVariants as faults
use Rattle.boc_run_commands.specs.declared.fault.InputFault.TheVariants as inputs
use Rattle.boc_run_commands.specs.declared.fault.Want.TheVariants as wants
use Rattle.boc_all_ends_commands.specs.EndRunAnswers.{HasFewerEnds, IsEndRunOfText, IsOfEndRun, RefusesEndRun}

among : (xs : List End) (i : ℕ) (e : End) → slice_get xs i ≡ Some e → Contains xs e
among xs i e at = subst (Contains xs) (get_or_from_slice_get xs i e e at) (Contains-get_or xs i e (slice_get_within xs i e at))

-- an end that was found is one
pub is_end : (p : Program) (most : ℕ) (found : Found) (i : ℕ) (e : End) → IsFound p most found → slice_get found.all.items i ≡ Some e
    → IsEnd p e.least e.values.items
is_end p most found i e is at = is.ends.least e (among found.all.items i e at)

-- the run to it
pub end_run : (most number : ℕ) (text : List ℕ) (p : Program) (found : Found) (e : End) (r : Recorded) → Spells text p → IsFound p most found
    → slice_get found.all.items (number - 1) ≡ Some e → RecordsEnd p e r → IsEndRunOfText most number text r
end_run most number text p found e r spells ends at is = record {
  program = p;
  spells = spells;
  comes = record {
    found = found;
    ends = ends;
    end = e;
    end_is = at;
    run = is.run;
    values_are = is.values_are;
    rows_are = is.many;
  };
}

-- fewer ends
pub fewer_ends : (most number : ℕ) (text : List ℕ) (p : Program) (found : Found) (fault : EndFault) → Spells text p → IsFound p most found → 0 < number
    → length found.all.items ≤ number - 1 → fault.number ≡ number → fault.found ≡ length found.all.items → fault.whole ≡ found.whole
    → fault.endless ≡ found.endless → HasFewerEnds most number text fault
fewer_ends most number text p found fault spells ends some few number_is found_is whole_is endless_is = record {
  program = p;
  spells = spells;
  found = found;
  ends = ends;
  fewer = omega (arith, some, few);
  number_is = number_is;
  found_is = found_is;
  whole_is = whole_is;
  endless_is = endless_is;
}

-- a run to an end is refused for the text that was taken
pub refused_end_run : (most number : ℕ) (result : Result (Unit {0}) Fault) (fault : Fault) (text : List ℕ) (before after : Option (List ℕ))
    → IsErrAnd result (λ f. f ≡ fault) → ReadsWhole before after text (MOST_TEXT + 1) → IsOfEndRun most number text fault
    → RefusesEndRun most number result before after
refused_end_run most number (Ok done) fault text before after h reads is = absurd h
refused_end_run most number (Err f) fault text before after h reads is =
    subst (λ (x : Fault). RefusesEndRun {A = Unit {0}} most number (Err x) before after) (sym h) (go fault is)
  where
    go : (x : Fault) → IsOfEndRun most number text x → RefusesEndRun {A = Unit {0}} most number (Err x) before after
    go (faults.Input (inputs.Program r)) is = record { input = text; taken = reads; known = is }
    go (faults.End e) is = record { input = text; taken = reads; known = is }
    go (faults.Means wants.Memory) is = tt
    go _ is = absurd is
