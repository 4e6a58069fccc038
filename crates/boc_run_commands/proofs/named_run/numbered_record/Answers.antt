use Rattle.std.proofs.Common.{ℕ, List, length, subst}
use Rattle.boc_runs.specs.declared.rows.Row.{Row}
use Rattle.boc_names.specs.Names.{AreNumbers}
use Rattle.boc_run_commands.proofs.RunNames.{numbers_few}
use Rattle.boc_run_commands.proofs.named_run.numbered_record.Goals as goal

pub returns-clause-read : goal.returns-clause-read
returns-clause-read g c =
    let read = c.in_ok-rows.ensures.counted_or_fault in
    let are : AreNumbers (length c.in_ok-rows.rows) c.in_ok-rows.cowns c.in_ok-names.names =
    subst (λ (rows : List Row). AreNumbers (length rows) c.in_ok-rows.cowns c.in_ok-names.names) c.as_slice.ensures.same c.in_ok-names.ensures in (
      read.1.text,
      read.1.taken,
      read.1.over,
      record {
        recorded = read.0;
        named = record {
          spells = read.1.text_of;
          names_are = subst (λ (n : ℕ). AreNumbers (length read.0.rows) n c.in_ok-names.names) read.3
              (subst (λ (rows : List Row). AreNumbers (length rows) c.in_ok-rows.cowns c.in_ok-names.names) read.2 are);
        };
        rows_are = read.2;
        few = numbers_few c.in_ok-rows.rows c.in_ok-rows.cowns c.in_ok-names.names c.as_slice.ensures.shape c.in_ok-rows.ensures.few are;
      },
    )
