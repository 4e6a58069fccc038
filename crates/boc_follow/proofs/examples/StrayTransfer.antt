-- How records stray, tried on the run of the transfer by one worker with an event that is not the program's.
use Rattle.std.proofs.Common.{◌≡◌, ◌∙◌, ℕ, zero, suc, List, [], ◌∷◌, ◌++◌, Some, refl, sym, ap, arith, pos, take}
use Rattle.boc_runs.specs.declared.event.Event.{Event}
use Rattle.boc_runs.specs.declared.event.Event.TheVariants.{Start}
use Rattle.boc_program.specs.declared.program.Program.{Program}
use Rattle.boc_program.specs.declared.short.Input.{Input}
use Rattle.boc_program.specs.Meaning.{Meaning, Wish, meaning}
use Rattle.boc_program.specs.Rising.{rising}
use Rattle.boc_runs.specs.Lives.{Running}
use Rattle.boc_runs.specs.Records.{Recorded, IsRecordOf}
use Rattle.boc_runs.specs.Run.{Config, Member, config_after, config_of, meaning_of, MayHappen, IsRunFrom, opening}
use Rattle.boc_program.proofs.examples.Transfer.{program, add_body}
use Rattle.boc_runs.proofs.examples.TransferLog.{log, spawned, over}
use Rattle.boc_runs.proofs.examples.TransferRun.{transfer_runs, transfer_is_whole}
use Rattle.boc_follow.specs.declared.stray.StrayFaultKind.{StrayFaultKind}
use Rattle.boc_follow.specs.declared.stray.StrayFaultKind.TheVariants as kinds
use Rattle.boc_follow.specs.Strays.{Strays, IsToldAs}
use Rattle.boc_follow.proofs.OneStray.{one_stray, stray_is_none}

-- a record over so many cowns
abbrev recorded : ℕ → List Event → Recorded
recorded cowns events = record { cowns = cowns; events = events; rows = [] }

-- the first events of a run are a run
first_events : (p : Program) (c : Config) (events : List Event) (n : ℕ) → IsRunFrom p c events → IsRunFrom p c (take n events)
first_events p c events zero run = tt
first_events p c [] (suc n) run = tt
first_events p c (e ∷ events) (suc n) run = (run.0, first_events p (config_after p c e) events n run.1)

-- ---- the run strays nowhere

pub run_strays_nowhere : (kind : StrayFaultKind) (line : ℕ) → Strays program (recorded 2 log) kind line → ⊥
run_strays_nowhere kind line stray = stray_is_none program (recorded 2 log) kind line stray (record { cowns = refl; run = transfer_is_whole })

-- ---- it strays over another number of cowns

three_or_two : (n : ℕ) → 3 ≡ n → n ≡ 2 → ⊥
three_or_two n three two = absurd (omega (arith, three, two))

pub over_three_cowns : Strays program (recorded 3 log) kinds.OtherCowns 1
over_three_cowns = (three_or_two 3 refl, refl)

-- ---- the first deposit ends a tick late, on line 9

abbrev late : List Event
late = take 7 log ++ over 1 3 (0 ∷ []) ∷ Start 2 ∷ over 2 3 (0 ∷ 1 ∷ []) ∷ Start 3 ∷ over 3 2 (1 ∷ []) ∷ []

abbrev deposit : Member
deposit = record {
  behaviour = record { kind = 1; args = pos 5 ∷ []; cowns = 0 ∷ [] };
  inputs = (let i : Input = record { cown = 0; value = pos 10 } in i) ∷ [];
  spawned = 0;
  life = Running;
}

abbrev deposit_means : Meaning
deposit_means = meaning add_body deposit.behaviour.args deposit.inputs

not_so_late : MayHappen program (config_of program (take 7 late)) (over 1 3 (0 ∷ [])) → ⊥
not_so_late c =
    let same : deposit ≡ c.member = let e : Some deposit ≡ Some c.member = c.is in cc in
    let means : deposit_means ≡ c.means = let e : Some deposit_means ≡ Some c.means = ap (λ m. meaning_of program m) same ∙ c.meant in cc in
    three_or_two c.means.ticks c.ticks_are (sym (ap (λ (m : Meaning). m.ticks) means))

pub late_strays : Strays program (recorded 2 late) kinds.NotItsEnd 9
late_strays = record {
  cowns = refl;
  place = 7;
  refused = record { event = over 1 3 (0 ∷ []); is = refl; before = first_events program (opening program) log 7 transfer_runs; refused = not_so_late };
  told = tt;
  line_is = refl;
}

nine_or_eight : (n : ℕ) → 9 ≡ n → n ≡ 8 → ⊥
nine_or_eight n nine eight = absurd (omega (arith, nine, eight))

-- it does so on no other line, and in no other way
pub not_on_line_8 : Strays program (recorded 2 late) kinds.NotItsEnd 8 → ⊥
not_on_line_8 stray = nine_or_eight 8 (one_stray program (recorded 2 late) kinds.NotItsEnd kinds.NotItsEnd 9 8 late_strays stray).1 refl

pub late_is_no_run : IsRecordOf program (recorded 2 late) → ⊥
late_is_no_run = stray_is_none program (recorded 2 late) kinds.NotItsEnd 9 late_strays

-- ---- main spawns the first deposit over no cown, on line 4

abbrev bare : List Event
bare = take 2 log ++ spawned 1 0 2 [] ∷ []

abbrev first_wish : Wish
first_wish = record { offset = 2; kind = 1; args = pos 5 ∷ []; cowns = 0 ∷ [] }

no_list_is_both : (cs : List ℕ) → [] ≡ cs → cs ≡ 0 ∷ [] → ⊥
no_list_is_both [] none some = absurd (let e : (let xs : List ℕ = [] in xs) ≡ 0 ∷ [] = some in cc)
no_list_is_both (c ∷ cs) none some = absurd (let e : (let xs : List ℕ = [] in xs) ≡ c ∷ cs = none in cc)

not_bare : MayHappen program (config_of program (take 2 bare)) (spawned 1 0 2 []) → ⊥
not_bare may =
    let c = may.2 in
    let same : first_wish ≡ c.wish = let e : Some first_wish ≡ Some c.wish = c.next in cc in
    no_list_is_both (rising c.wish.cowns) c.cowns_are (sym (ap (λ (w : Wish). rising w.cowns) same))

pub bare_strays : Strays program (recorded 2 bare) kinds.NotNextSpawn 4
bare_strays = record {
  cowns = refl;
  place = 2;
  refused = record { event = spawned 1 0 2 []; is = refl; before = first_events program (opening program) log 2 transfer_runs; refused = not_bare };
  told = tt;
  line_is = refl;
}

-- ---- a start is told as nothing

pub start_is_not_told : (kind : StrayFaultKind) (row : ℕ) → IsToldAs kind (Start row) → ⊥
start_is_not_told kinds.OtherCowns row told = told
start_is_not_told kinds.NotNextSpawn row told = told
start_is_not_told kinds.NotItsEnd row told = told
start_is_not_told kinds.Memory row told = told
