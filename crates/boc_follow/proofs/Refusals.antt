-- An event that a run may not take where it stands there.
use Rattle.std.proofs.Common.{◌≡◌, ℕ, zero, suc, ◌+◌, arith, List, [], ◌∷◌, ◌++◌, take, sym, ap, subst, ◌∙◌}
use Rattle.std.specs.Prelude.{◌≢◌, slice_get, Some, None, Ok, Err}
use Rattle.boc_runs.specs.declared.event.Event.{Event}
use Rattle.boc_runs.specs.declared.event.Event.TheVariants.{Start}
use Rattle.boc_program.specs.declared.program.Program.{Program}
use Rattle.boc_runs.specs.Records.{Recorded, IsRecord, IsRecordOf}
use Rattle.boc_runs.specs.Run.{Config, config_after, config_after_all, config_of, opening, MayHappen, IsRunFrom, IsRun}
use Rattle.boc_program.specs.Programs.{cown_count}
use Rattle.boc_runs.specs.Legal.{Entry, IsAllowed, IsComplete, IsLegalFrom, after, after_all}
use Rattle.boc_runs.specs.declared.event.BrokenRule.TheVariants as rule
use Rattle.boc_follow.specs.Strays.{IsRefusedAt, IsRefusedOn, IsToldAs, Tells, FollowsAll, Follows}
use Rattle.boc_follow.specs.declared.stray.StrayFaultKind.{StrayFaultKind}
use Rattle.boc_follow.specs.declared.stray.StrayFaultKind.TheVariants as kinds
use Rattle.boc_follow.specs.Following.{Following}
use Rattle.boc_follow.specs.Takes.{MayCome, Takes}
use Rattle.boc_follow.specs.declared.follower.TakeFault.{TakeFault}
use Rattle.boc_follow.specs.declared.follower.TakeFault.TheVariants.{NotAllowed}
use Rattle.boc_follow.proofs.Besides.{may_start, run_more, whole}
use Rattle.boc_eval.proofs.Taking.{take_next}

happened : (p : Program) (c : Config) (log : List Event) (place : ℕ) (event : Event) → IsRunFrom p c log → slice_get log place ≡ Some event
    → MayHappen p (config_after_all p c (take place log)) event
happened p c [] place event run is = absurd (let e : None ≡ Some event = is in cc)
happened p c (d ∷ log) zero event run is = (let e : Some d ≡ Some event = is in let same : d ≡ event = cc in subst (MayHappen p c) same run.0)
happened p c (d ∷ log) (suc place) event run is = happened p (config_after p c d) log place event run.1 is

-- events of which one is refused are no run
pub refused_is_none : (p : Program) (r : Recorded) (place : ℕ) → IsRefusedAt p r.events place → IsRecordOf p r → ⊥
refused_is_none p r place refused whole = refused.refused (happened p (opening p) r.events place refused.event whole.run.run refused.is)

-- ---- events followed up to a place

pub record Followed (p : Program) (events : List Event) (f : Following) (place : ℕ) : Type 0 where
  pub at : f ≡ record { program = p; log = take place events }
  pub run : IsRun p (take place events)

may_at : (p : Program) (events : List Event) (f : Following) (place : ℕ) (event : Event) → Followed p events f place → MayCome f event
    → MayHappen p (config_of p (take place events)) event
may_at p events f place event so = subst (λ (x : Following). MayCome x event) so.at

pub followed_more : (p : Program) (events : List Event) (f g : Following) (place : ℕ) (event : Event) → Followed p events f place
    → slice_get events place ≡ Some event
    → MayCome f event → g ≡ record f { log = f.log ++ event ∷ [] } → Followed p events g (place + 1)
followed_more p events f g place event so is may same =
    let one : place + 1 ≡ suc place = omega arith in
    let longer = ap (λ n. take n events) one ∙ take_next events place event is in
    record {
      at = same ∙ ap (λ (x : Following). record x { log = x.log ++ event ∷ [] }) so.at ∙ ap
          (λ log. let x : Following = record { program = p; log = log } in x) (sym longer);
      run = subst (IsRun p) (sym longer) (run_more p (opening p) (take place events) event so.run (may_at p events f place event so may));
    }

pub refused_at : (p : Program) (events : List Event) (f : Following) (place : ℕ) (event : Event) → Followed p events f place
    → slice_get events place ≡ Some event → (MayCome f event → ⊥) → IsRefusedAt p events place
refused_at p events f place event so is refused = record {
  event = event;
  is = is;
  before = so.run;
  refused = λ may. refused (subst (λ (x : Following). MayCome x event) (sym so.at) may);
}

-- ---- a record

-- an event that is told as not allowed may not come
pub not_taken : (f g : Following) (event : Event) (fault : TakeFault) → fault ≡ NotAllowed → Takes f event (Err fault) g → MayCome f event → ⊥
not_taken f g event fault is takes = (subst (λ x. Takes f event (Err x) g) is takes).0

-- an event of events that keep the rules is allowed behind those before it
allowed_at : (n : ℕ) (rows : List Entry) (events : List Event) (place : ℕ) (event : Event) → IsLegalFrom n rows events → slice_get events place ≡ Some event
    → IsAllowed n (after_all rows (take place events)) event
allowed_at n rows [] place event legal is = absurd (let e : None ≡ Some event = is in cc)
allowed_at n rows (d ∷ events) zero event legal is =
    (let e : Some d ≡ Some event = is in let same : d ≡ event = cc in subst (IsAllowed n rows) same legal.0)
allowed_at n rows (d ∷ events) (suc place) event legal is = allowed_at n (after rows d) events place event legal.1 is

-- a start of a record may come behind a run
pub start_may : (p : Program) (r : Recorded) (place row : ℕ) → IsRecord r → IsRun p (take place r.events) → slice_get r.events place ≡ Some (Start row)
    → MayHappen p (config_of p (take place r.events)) (Start row)
start_may p r place row is before start =
    let allowed = allowed_at r.cowns [] r.events place (Start row) is.legal start in
    may_start p (take place r.events) before row (allowed.keeps rule.StartNotAllowed)

-- what is refused of a record is no start
pub no_start : (p : Program) (r : Recorded) (f : Following) (place : ℕ) (event : Event) → IsRecord r → Followed p r.events f place
    → slice_get r.events place ≡ Some event → (MayCome f event → ⊥) → (row : ℕ) → event ≢ Start row
no_start p r f place event is so there refused row start =
    let at : slice_get r.events place ≡ Some (Start row) = there ∙ ap Some start in
    let may = start_may p r place row is so.run at in
    refused (subst (MayCome f) (sym start) (subst (λ (x : Following). MayCome x (Start row)) (sym so.at) may))

-- a refused event's fault, by what it is told as
told_of_event : (p : Program) (r : Recorded) (kind : StrayFaultKind) (line : ℕ) → (e : Event) → IsToldAs kind e → IsRefusedOn p r kind line
    → (IsRecordOf p r → ⊥) → Tells p r kind line
told_of_event p r kinds.OtherCowns line e told on none = absurd told
told_of_event p r kinds.NotNextSpawn line e told on none = (on, none)
told_of_event p r kinds.NotItsEnd line e told on none = (on, none)
told_of_event p r kinds.Memory line e told on none = absurd told

pub refused_tells : (p : Program) (r : Recorded) (f : Following) (place line : ℕ) (event : Event) (kind : StrayFaultKind) → r.cowns ≡ cown_count p.cowns
    → Followed p r.events f place → slice_get r.events place ≡ Some event → (MayCome f event → ⊥) → IsToldAs kind event → line ≡ place + 2 → Tells p r kind line
unfolding refused_at
refused_tells p r f place line event kind same so is refused told on =
    let at = refused_at p r.events f place event so is refused in
    told_of_event p r kind line event told
    (record { cowns = same; place = place; refused = at; told = told; line_is = on })
    (refused_is_none p r place at)

pub other_cowns_tell : (p : Program) (r : Recorded) (line : ℕ) → r.cowns ≢ cown_count p.cowns → line ≡ 1 → Tells p r kinds.OtherCowns line
other_cowns_tell p r line other is = ((other, is), λ of. other of.cowns)

pub followed_whole : (p : Program) (r : Recorded) (f : Following) → r.cowns ≡ cown_count p.cowns → IsComplete r.events → FollowsAll p r (Ok tt) f
    → Follows p r (Ok f)
followed_whole p r f same complete all = (record { cowns = same; run = whole p r.events all.0 complete }, all.1)
