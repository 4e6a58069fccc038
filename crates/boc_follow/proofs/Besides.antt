-- The rows of a run beside those that its log makes: they live alike, and a row's cowns are its behaviour's in rising order.
use Rattle.std.proofs.Common.{◌≡◌, ℕ, List, [], ◌∷◌, ◌++◌, length, refl, sym, ◌∙◌, subst, arith}
use Rattle.std.specs.Prelude.{Result, Ok, Err, is_err, true, false}
use Rattle.boc_runs.specs.declared.event.BrokenRule.{BrokenRule}
use Rattle.boc_rules.specs.Judges.{Judges}
use Rattle.std.specs.List.{Contains}
use Rattle.boc_program.specs.declared.program.Program.{Program}
use Rattle.boc_runs.specs.declared.event.Event.{Event}
use Rattle.boc_program.specs.Programs.{cown_count}
use Rattle.boc_runs.specs.Lives.{Overlap, MayStart}
use Rattle.boc_runs.specs.Legal.{Entry, entries, life_of, entry_cowns, IsAllowed, IsComplete}
use Rattle.boc_runs.specs.Run.{Member, Config, config_after, config_after_all, config_of, state_of, member_cowns, MayHappen, IsRunFrom, IsRun, IsWholeRun}
use Rattle.boc_program.proofs.RisingNumbers.{rising_has}
use Rattle.boc_runs.proofs.RunsAreLegal.{AreTwins, run_twins, same_life, same_cowns, next_allowed}

-- ---- runs and legal logs with one event more

pub config_more : (p : Program) (c : Config) (log : List Event) (e : Event)
    → config_after_all p c (log ++ (e ∷ [])) ≡ config_after p (config_after_all p c log) e
config_more p c [] e = refl
config_more p c (d ∷ log) e = config_more p (config_after p c d) log e

pub run_more : (p : Program) (c : Config) (log : List Event) (e : Event) → IsRunFrom p c log → MayHappen p (config_after_all p c log) e
    → IsRunFrom p c (log ++ (e ∷ []))
run_more p c [] e r a = (a, tt)
run_more p c (d ∷ log) e r a = (r.0, run_more p (config_after p c d) log e r.1 a)

-- an event that is judged to break a rule keeps not all of them
pub judged_not : (n : ℕ) (es : List Entry) (event : Event) (r : Result (Unit {0}) BrokenRule) → is_err r ≡ true → Judges n es event r → IsAllowed n es event → ⊥
judged_not n es event (Ok x) e judged allowed = absurd (let f : false ≡ true = e in cc)
judged_not n es event (Err rule) e judged allowed = judged.broken (allowed.keeps rule)

-- ---- of a run

module _ (p : Program) (log : List Event) (run : IsRun p log) where
  abbrev rows : List Member
  rows = (config_of p log).members

  pub twins : AreTwins p rows (entries log)
  twins = run_twins p log run

  pub same_count : length rows ≡ length (entries log)
  same_count = sym twins.same

  alive : (r : ℕ) → life_of (entries log) r ≡ state_of rows r
  alive r = same_life p rows (entries log) twins r

  has_cown : (r c : ℕ) → Contains (member_cowns rows r) c → Contains (entry_cowns (entries log) r) c
  has_cown r c has = subst (λ (cs : List ℕ). Contains cs c) (sym (same_cowns p rows (entries log) twins r)) (rising_has (member_cowns rows r) c has)

  overlap_there : (a b : ℕ) → Overlap (member_cowns rows) a b → Overlap (entry_cowns (entries log)) a b
  overlap_there a b (c, left, right) = (c, has_cown a c left, has_cown b c right)

  -- a row that may start by the rules may start in the run
  pub may_start : (row : ℕ) → MayStart (life_of (entries log)) (entry_cowns (entries log)) row → MayStart (state_of rows) (member_cowns rows) row
  may_start row h = record {
    waits = sym (alive row) ∙ h.waits;
    none_running = λ other runs share. h.none_running other (alive other ∙ runs) (overlap_there row other share);
    none_earlier = λ other before waits share. h.none_earlier other before (alive other ∙ waits) (overlap_there row other share);
  }

  -- an event that may happen keeps the rules
  pub keeps_rules : (event : Event) → MayHappen p (config_of p log) event → IsAllowed (cown_count p.cowns) (entries log) event
  keeps_rules event may = next_allowed p (config_of p log) (entries log) event twins may

  -- a complete log is a whole run, and the other way round
  pub whole : IsComplete log → IsWholeRun p log
  whole h = record {
    run = run;
    over = record {
      some = omega (arith, h.some, same_count);
      ended = λ r less. sym (alive r) ∙ h.ended r (omega (arith, less, same_count));
    };
  }

  pub complete : IsWholeRun p log → IsComplete log
  complete h = record {
    some = omega (arith, h.over.some, same_count);
    ended = λ r less. alive r ∙ h.over.ended r (omega (arith, less, same_count));
  }
