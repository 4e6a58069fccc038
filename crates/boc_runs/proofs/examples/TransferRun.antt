-- The rule of runs tried on the run of the transfer by one worker, and on logs that are no runs.
use Rattle.std.proofs.Common.{◌≡◌, ℕ, zero, suc, ◌<◌, List, [], ◌∷◌, ◌++◌, Some, Bool, true, false, refl, sym, ap, pos, ℤ, lit≤, take, arith, length, ◌∙◌}
use Rattle.std.proofs.Common.{IsTrue}
use Rattle.std.specs.Prelude.{◌&&◌}
use Rattle.boc_runs.specs.declared.event.BrokenRule.TheVariants as rules
use Rattle.boc_runs.specs.declared.event.Event.TheVariants.{Start}
use Rattle.boc_program.specs.declared.short.Input.{Input}
use Rattle.boc_program.specs.Meaning.{Meaning, meaning}
use Rattle.boc_runs.specs.Lives.{Life, Pending, Running, Ended, MayStart}
use Rattle.boc_runs.specs.Legal.{IsLegal}
use Rattle.boc_runs.specs.Run.{Member, config_of, state_of, member_cowns, meaning_of, IsRun, IsWholeRun}
use Rattle.boc_runs.proofs.examples.TransferLog.{log, over}
use Rattle.boc_program.proofs.examples.Transfer.{program, main_body, add_body, move_body}
use Rattle.boc_runs.proofs.RunsAreLegal.{run_is_legal}

-- ---- rows of which none runs, or none waits before one

abbrev is_idle : Life → Bool
is_idle Running = false
is_idle Pending = true
is_idle Ended = true

abbrev none_runs : List Member → Bool
none_runs [] = true
none_runs (m ∷ ms) = is_idle m.life && none_runs ms

abbrev is_over : Life → Bool
is_over Running = true
is_over Pending = false
is_over Ended = true

abbrev none_waits : List Member → ℕ → Bool
none_waits ms zero = true
none_waits [] (suc r) = true
none_waits (m ∷ ms) (suc r) = is_over m.life && none_waits ms r

both : (a b : Bool) → IsTrue (a && b) → IsTrue a × IsTrue b
both true true h = (refl, refl)
both true false h = (refl, h)
both false b h = absurd cc

not_running : (l : Life) → IsTrue (is_idle l) → Some l ≡ Some Running → ⊥
not_running Running h e = cc
not_running Pending h e = cc
not_running Ended h e = cc

not_pending : (l : Life) → IsTrue (is_over l) → Some l ≡ Some Pending → ⊥
not_pending Running h e = cc
not_pending Pending h e = cc
not_pending Ended h e = cc

no_run : (ms : List Member) → IsTrue (none_runs ms) → (other : ℕ) → state_of ms other ≡ Some Running → ⊥
no_run [] h other e = cc
no_run (m ∷ ms) h zero e = not_running m.life (both (is_idle m.life) (none_runs ms) h).0 e
no_run (m ∷ ms) h (suc other) e = no_run ms (both (is_idle m.life) (none_runs ms) h).1 other e

no_wait : (ms : List Member) (row : ℕ) → IsTrue (none_waits ms row) → (other : ℕ) → other < row → state_of ms other ≡ Some Pending → ⊥
no_wait ms zero h other l e = absurd (omega arith)
no_wait [] (suc row) h other l e = cc
no_wait (m ∷ ms) (suc row) h zero l e = not_pending m.life (both (is_over m.life) (none_waits ms row) h).0 e
no_wait (m ∷ ms) (suc row) h (suc other) l e = no_wait ms row (both (is_over m.life) (none_waits ms row) h).1 other (omega arith) e

starts_alone : (ms : List Member) (row : ℕ) → state_of ms row ≡ Some Pending → IsTrue (none_runs ms) → IsTrue (none_waits ms row)
    → MayStart (state_of ms) (member_cowns ms) row
starts_alone ms row waits idle first = record {
  waits = waits;
  none_running = λ other h share. no_run ms idle other h;
  none_earlier = λ other l h share. no_wait ms row first other l h;
}

-- ---- the run

abbrev input : ℕ → ℤ → Input
input cown value = record { cown = cown; value = value }

abbrev members_after : ℕ → List Member
members_after n = (config_of program (take n log)).members

-- a behaviour that runs, and has spawned so many wishes
abbrev running : ℕ → List ℤ → List Input → List ℕ → ℕ → Member
running kind args inputs cowns wishes = record {
  behaviour = record { kind = kind; args = args; cowns = cowns };
  inputs = inputs;
  spawned = wishes;
  life = Running;
}

pub transfer_runs : IsRun program log
transfer_runs = (
  (refl, lit≤ tt, (refl, refl, refl)),
  (
    starts_alone (members_after 1) 0 refl refl refl,
    (
      (
        refl,
        lit≤ tt,
        record {
          runs = refl;
          wish = record { offset = 2; kind = 1; args = pos 5 ∷ []; cowns = 0 ∷ [] };
          next = refl;
          offset_is = refl;
          cowns_are = refl;
        },
      ),
      (
        (
          refl,
          lit≤ tt,
          record {
            runs = refl;
            wish = record { offset = 3; kind = 2; args = pos 3 ∷ []; cowns = 0 ∷ 1 ∷ [] };
            next = refl;
            offset_is = refl;
            cowns_are = refl;
          },
        ),
        (
          (
            refl,
            lit≤ tt,
            record {
              runs = refl;
              wish = record { offset = 4; kind = 1; args = pos 1 ∷ []; cowns = 1 ∷ [] };
              next = refl;
              offset_is = refl;
              cowns_are = refl;
            },
          ),
          (
            record {
              member = running 0 [] [] [] 3;
              is = refl;
              runs = refl;
              means = meaning main_body [] [];
              meant = refl;
              all_spawned = refl;
              ticks_are = refl;
              status_is = refl;
              written_is = refl;
            },
            (
              starts_alone (members_after 6) 1 refl refl refl,
              (
                record {
                  member = running 1 (pos 5 ∷ []) (input 0 (pos 10) ∷ []) (0 ∷ []) 0;
                  is = refl;
                  runs = refl;
                  means = meaning add_body (pos 5 ∷ []) (input 0 (pos 10) ∷ []);
                  meant = refl;
                  all_spawned = refl;
                  ticks_are = refl;
                  status_is = refl;
                  written_is = refl;
                },
                (
                  starts_alone (members_after 8) 2 refl refl refl,
                  (
                    record {
                      member = running 2 (pos 3 ∷ []) (input 0 (pos 15) ∷ input 1 (pos 0) ∷ []) (0 ∷ 1 ∷ []) 0;
                      is = refl;
                      runs = refl;
                      means = meaning move_body (pos 3 ∷ []) (input 0 (pos 15) ∷ input 1 (pos 0) ∷ []);
                      meant = refl;
                      all_spawned = refl;
                      ticks_are = refl;
                      status_is = refl;
                      written_is = refl;
                    },
                    (
                      starts_alone (members_after 10) 3 refl refl refl,
                      (
                        record {
                          member = running 1 (pos 1 ∷ []) (input 1 (pos 3) ∷ []) (1 ∷ []) 0;
                          is = refl;
                          runs = refl;
                          means = meaning add_body (pos 1 ∷ []) (input 1 (pos 3) ∷ []);
                          meant = refl;
                          all_spawned = refl;
                          ticks_are = refl;
                          status_is = refl;
                          written_is = refl;
                        },
                        tt,
                      ),
                    ),
                  ),
                ),
              ),
            ),
          ),
        ),
      ),
    ),
  ),
)

ended_at : (r : ℕ) → r < 4 → state_of (config_of program log).members r ≡ Some Ended
ended_at zero h = refl
ended_at (suc zero) h = refl
ended_at (suc (suc zero)) h = refl
ended_at (suc (suc (suc zero))) h = refl
ended_at (suc (suc (suc (suc r)))) h = absurd (omega arith)

pub transfer_is_whole : IsWholeRun program log
transfer_is_whole = record { run = transfer_runs; over = record { some = lit≤ tt; ended = ended_at } }

pub transfer_is_legal : IsLegal 2 log
transfer_is_legal = run_is_legal program log transfer_runs

-- ---- logs that are no runs

three_or_none : (n : ℕ) → n ≡ 0 → n ≡ 3 → ⊥
three_or_none n none three = absurd (omega arith)

-- main cannot end before its wishes are spawned
pub early_end : IsRun program (take 2 log ++ over 0 4 [] ∷ []) → ⊥
early_end run =
    let c = run.1.1.0 in
    let same : running 0 [] [] [] 0 ≡ c.member = let e : Some (running 0 [] [] [] 0) ≡ Some c.member = c.is in cc in
    let means : meaning main_body [] [] ≡ c.means = let e : Some (meaning main_body [] []) ≡ Some c.means = ap (λ m. meaning_of program m) same ∙ c.meant in
    cc in
    three_or_none c.member.spawned (sym (ap (λ (m : Member). m.spawned) same)) (c.all_spawned ∙ sym (ap (λ (m : Meaning). length m.wishes) means))

-- a row cannot start over a cown of one that runs
pub shared_start : IsRun program (take 6 log ++ Start 1 ∷ Start 2 ∷ []) → ⊥
shared_start run =
    let may = run.1.1.1.1.1.1.1.0 in
    may.none_running 1 refl (0, (0, omega arith, refl), (0, omega arith, refl))

-- nor do the rules of records allow it
pub shared_start_is_illegal : IsLegal 2 (take 6 log ++ Start 1 ∷ Start 2 ∷ []) → ⊥
shared_start_is_illegal legal =
    let may = legal.1.1.1.1.1.1.1.0.keeps rules.StartNotAllowed in
    may.none_running 1 refl (0, (0, omega arith, refl), (0, omega arith, refl))
