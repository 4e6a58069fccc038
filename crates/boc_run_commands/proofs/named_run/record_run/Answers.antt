use Rattle.std.proofs.Common.{ℕ, List, length, refl, subst}
use Rattle.boc_runs.specs.declared.rows.Row.{Row}
use Rattle.boc_names.specs.Names.{AreNumbers}
use Rattle.boc_run_commands.proofs.RunNames.{numbers_few}
use Rattle.boc_run_commands.proofs.named_run.record_run.Goals as goal

pub returns : goal.returns
returns c =
    let counted = c.in_ok-rows.ensures in
    let are : AreNumbers (length c.in_ok-rows.rows) c.in_ok-rows.cowns c.in_ok-names.names =
    subst (λ (rows : List Row). AreNumbers (length rows) c.in_ok-rows.cowns c.in_ok-names.names) c.as_slice.ensures.same c.in_ok-names.ensures in (
      record {
        recorded = counted.recorded;
        named = record {
          spells = counted.spells;
          names_are = subst (λ (n : ℕ). AreNumbers (length counted.recorded.rows) n c.in_ok-names.names) counted.cowns_are
              (subst (λ (rows : List Row). AreNumbers (length rows) c.in_ok-rows.cowns c.in_ok-names.names) counted.rows_are are);
        };
        rows_are = counted.rows_are;
        few = numbers_few c.in_ok-rows.rows c.in_ok-rows.cowns c.in_ok-names.names c.as_slice.ensures.shape counted.few are;
      },
      refl,
    )
