-- The ticks of lines, from those of statements.
use Rattle.std.proofs.Common.{◌≡◌, ℕ, List, [], Some, None, Vec, Global, MatchOption, sym, ap, ◌∙◌, subst, length, map, sum}
use Rattle.std.specs.Prelude.{Option}
use Rattle.std.proofs.lemmas.List.{length-map}
use Rattle.boc_program.specs.declared.program.Program.{Program}
use Rattle.boc_runs.specs.declared.rows.Row.{Row}
use Rattle.boc_runs.specs.Serial.{Behaviour, serial_along}
use Rattle.boc_plans.specs.declared.chain.ChainStep.{ChainStep}
use Rattle.boc_eval.specs.declared.instance.Instance.{Instance}
use Rattle.boc_eval.specs.Instances.{behaviour_in}
use Rattle.boc_lines.specs.declared.by_line.LineTicks.{LineTicks}
use Rattle.boc_lines.specs.Chained.{GoesThrough, through_from}
use Rattle.boc_lines.specs.Lines.{AddUp, AreLineTicks, AreTicksByLine}
use Rattle.boc_lines.specs.Replays.{AllFit, AreRowTicks, least_of_each}
use Rattle.boc_lines.specs.SerialRuns.{AreBehavioursOf, AreRun, behaviours_of}
use Rattle.boc_lines.proofs.Chaining.{length_through, own_weight}
use Rattle.boc_lines.proofs.Running.{all_fit, length_behaviours, own_ticks, own_work}

pub length_rows : (p : Program) (rows : List Row) (instances : List Instance) → AreBehavioursOf p rows (map behaviour_in instances) → length instances ≡ length rows
length_rows p rows instances h = sym (length-map instances behaviour_in) ∙ ap (length {A = Behaviour}) h.are ∙ length_behaviours p rows

pub length_both : (p : Program) (rows : List Row) (chain : List ChainStep) (instances : List Instance) (through : List ℕ)
    → AreBehavioursOf p rows (map behaviour_in instances) → through ≡ through_from 0 rows chain → length through ≡ length instances
length_both p rows chain instances through h is =
    ap (length {A = ℕ}) is ∙ length_through 0 rows chain ∙ sym (length_rows p rows instances h)

pub fit_all : (p : Program) (rows : List Row) (bs : List Behaviour) → AreBehavioursOf p rows bs → AllFit p bs
fit_all p rows bs h = subst (AllFit p) (sym h.are) (all_fit p rows h.run)

pub by_line : (p : Program) (rows : List Row) (chain : List ChainStep) (bs : List Behaviour) (through lines ticks chained : List ℕ) (found : List LineTicks)
    → AreBehavioursOf p rows bs → GoesThrough 0 rows chain → through ≡ through_from 0 rows chain → AreRowTicks p bs through ticks chained
    → length lines ≡ length ticks → AreLineTicks lines ticks chained found → AddUp (sum ticks) (sum chained) found → AreTicksByLine p rows chain found
by_line p rows chain bs through lines ticks chained found h goes is are many by sums =
    let own : AreRowTicks p (behaviours_of p rows) (through_from 0 rows chain) ticks chained =
    subst (λ ts. AreRowTicks p (behaviours_of p rows) ts ticks chained) is (subst (λ xs. AreRowTicks p xs through ticks chained) h.are are) in
    record {
      lines = lines;
      all_stand = many ∙ own.all.all;
      ticks = ticks;
      chained = chained;
      are = own;
      by_line = by;
      sums = record {
        ticks = sums.ticks ∙ own.all_sum ∙ own_work p rows h.run;
        chain = sums.chain ∙ own.chain_sum ∙ ap (λ ts. sum (least_of_each (through_from 0 rows chain) ts)) (own_ticks p rows h.run)
            ∙ own_weight 0 rows chain goes;
      };
    }

-- ---- the answers

pub told_through : (p : Program) (rows : List Row) (bs : List Behaviour) (through : List ℕ) (found : Option (Vec LineTicks Global)) → AreBehavioursOf p rows bs
    → MatchOption found (AllFit p bs → ⊥) (λ lines. (rows : List Row) (chain : List ChainStep) → AreBehavioursOf p rows bs → GoesThrough 0 rows chain
    → through ≡ through_from 0 rows chain → AreTicksByLine p rows chain lines.items)
    → MatchOption found (AreRun p (serial_along p []) rows → ⊥) (λ lines. (chain : List ChainStep) → GoesThrough 0 rows chain
    → through ≡ through_from 0 rows chain → AreTicksByLine p rows chain lines.items)
told_through p rows bs through None h off = λ run. off (fit_all p rows bs h)
told_through p rows bs through (Some lines) h told = λ chain goes is. told rows chain h goes is

pub told_by_line : (p : Program) (rows : List Row) (chain : List ChainStep) (through : List ℕ) (found : Option (Vec LineTicks Global))
    → GoesThrough 0 rows chain → through ≡ through_from 0 rows chain
    → MatchOption found (AreRun p (serial_along p []) rows → ⊥) (λ lines. (chain : List ChainStep) → GoesThrough 0 rows chain
    → through ≡ through_from 0 rows chain → AreTicksByLine p rows chain lines.items)
    → MatchOption found (AreRun p (serial_along p []) rows × GoesThrough 0 rows chain → ⊥) (λ lines. AreTicksByLine p rows chain lines.items)
told_by_line p rows chain through None goes is off = λ both. off both.0
told_by_line p rows chain through (Some lines) goes is told = told chain goes is
