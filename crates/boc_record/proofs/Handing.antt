-- What a judge, and rules, do with an event that is handed to them.
use Rattle.std.proofs.Common.{◌≡◌, ℕ, List, [], ◌∷◌, ◌++◌, sym, ◌∙◌, ap, subst}
use Rattle.std.specs.Prelude.{Result, Ok, Err}
use Rattle.boc_runs.specs.declared.event.Event.{Event}
use Rattle.boc_runs.specs.declared.event.Event.TheVariants.{Spawn, Start, End}
use Rattle.boc_runs.specs.Legal.{Entry, entries, after, IsAllowed, IsFirstBroken}
use Rattle.boc_rules.specs.declared.fault.RuleFault.{RuleFault}
use Rattle.boc_rules.specs.declared.fault.RuleFault.TheVariants.{Broken, Memory}
use Rattle.boc_rules.specs.Course.{Course, Steps}
use Rattle.boc_rules.specs.Log.{Log, HasRoomFor}
use Rattle.boc_rules.specs.Rules.{Applies}
use Rattle.boc_rules.proofs.Next.{after_more}
use Rattle.boc_record.specs.Sinks.{Hands, IsSpawn}

-- an event that finds no room is a spawn
wants_spawn : (rooms : ℕ) (event : Event) → (HasRoomFor rooms event → ⊥) → IsSpawn event
wants_spawn rooms (Spawn row parent offset cowns) none = tt
wants_spawn rooms (Start row) none = none tt
wants_spawn rooms (End row ticks status written) none = none tt

pub judge_hands : (result : Result (Unit {0}) RuleFault) (old new : Course) (log : List Event) (event : Event) → Steps old event result new
    → old.rows ≡ entries log → Hands old.cowns log event result (λ l. new.rows ≡ entries l)
judge_hands (Ok done) old new log event s e = (
  subst (λ (rows : List Entry). IsAllowed old.cowns rows event) e s.0,
  ap (λ (c : Course). c.rows) s.1 ∙ ap (λ (rows : List Entry). after rows event) e
      ∙ sym (after_more [] log event),
)
judge_hands (Err (Broken rule)) old new log event s e = subst (λ (rows : List Entry). IsFirstBroken old.cowns rows event rule) e s.0
judge_hands (Err Memory) old new log event s e =
    (subst (λ (rows : List Entry). IsAllowed old.cowns rows event) e s.0, wants_spawn old.rooms event s.1)

pub rules_hand : (result : Result (Unit {0}) RuleFault) (old new : Log) (log : List Event) (event : Event) → Applies old event result new → old.events ≡ log
    → Hands old.cowns log event result (λ l. new.events ≡ l)
rules_hand (Ok done) old new log event s e = (
  subst (λ (events : List Event). IsAllowed old.cowns (entries events) event) e s.0,
  ap (λ (l : Log). l.events) s.1
      ∙ ap (λ (events : List Event). events ++ event ∷ []) e,
)
rules_hand (Err (Broken rule)) old new log event s e = subst (λ (events : List Event). IsFirstBroken old.cowns (entries events) event rule) e s.0
rules_hand (Err Memory) old new log event s e =
    (subst (λ (events : List Event). IsAllowed old.cowns (entries events) event) e s.0, wants_spawn old.rooms event s.1)
