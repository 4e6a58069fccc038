-- That each row which has started is noted, as it started.
use Rattle.std.proofs.Common.{◌≡◌, ℕ, ◌<◌, ◌≤◌, inl, inr, Bool, true, false, not, List, [], ◌∷◌, ◌++◌, length, refl, sym, ◌∙◌, ap, subst, arith}
use Rattle.std.specs.Prelude.{slice_get, Option, Some, None}
use Rattle.std.specs.Option.{is_none, is_some}
use Rattle.std.proofs.lemmas.List.{append_assoc}
use Rattle.boc_program.specs.declared.program.Program.{Program}
use Rattle.boc_program.proofs.ChangedItems.{place_below}
use Rattle.boc_runs.specs.Lives.{Ended, Pending}
use Rattle.boc_runs.specs.Run.{Member}
use Rattle.boc_runs.specs.machine.Sound.{IsSound}
use Rattle.boc_runs.specs.machine.Steps.{IsQuiet, State, members, opening_state, recorded}
use Rattle.boc_runs.specs.machine.Turns.{TakesTurn}
use Rattle.boc_machine_laws.proofs.Every.{whole_run}
use Rattle.boc_machine_laws.proofs.Lists.{same_or_not}
use Rattle.boc_machine_laws.proofs.Rows.{some_or_none, with_life}
use Rattle.boc_timed.specs.declared.timetable.Timetable.{Timetable}
use Rattle.boc_timed.specs.Timed.{IsTimetableOf, StartsAt}
use Rattle.boc_timed.specs.Timetables.{IsEven, IsNoted, NotesStart}
use Rattle.boc_timed.proofs.Starting.{HasStarted, StartsNone, StartsOne, spawn_none, turn_starts}

-- each row of the run that has started is noted, and starts so in these turns; and no row is noted that isn't there
pub record HasNoted (p : Program) (workers : ℕ) (choices : List ℕ) (run : List Member) (t : Timetable) : Type 0 where
  pub p_is : t.p ≡ workers
  pub few : length t.starts.items ≤ length run
  pub there : (row : ℕ) → HasStarted run row → row < length t.starts.items
  pub at : (row time worker : ℕ) → HasStarted run row → slice_get t.starts.items row ≡ Some time → slice_get t.workers.items row ≡ Some worker
      → StartsAt p workers choices row time worker

-- ---- at first

none_started : (p : Program) (row : ℕ) → HasStarted (members p (opening_state p)) row → ⊥
none_started p row h =
    let was = (spawn_none p [] 0).none row h in
    let f : None ≡ Some was.member = was.is in cc

pub noted_first : (p : Program) (workers : ℕ) (s : State) (t : Timetable) → s ≡ opening_state p → t.p ≡ workers → t.starts.items ≡ []
    → HasNoted p workers [] (members p s) t
noted_first p workers s t first p_is none =
    let early : (row : ℕ) → HasStarted (members p s) row → ⊥ = λ row h. none_started p row (subst (λ (z : State). HasStarted (members p z) row) first h) in
    record {
      p_is = p_is;
      few = omega (arith, ap (λ (xs : List ℕ). length xs) none);
      there = λ row h. absurd (early row h);
      at = λ row time worker h a b. absurd (early row h);
    }

-- ---- a turn later

longer : (p : Program) (workers : ℕ) (xs ys : List ℕ) (row time worker : ℕ) → StartsAt p workers xs row time worker
    → StartsAt p workers (xs ++ ys) row time worker
longer p workers xs ys row time worker s = record {
  before = s.before;
  after = s.after ++ ys;
  split = ap (λ zs. zs ++ ys) s.split ∙ append_assoc s.before (worker ∷ s.after) ys;
  stands = s.stands;
  clocks = s.clocks;
  turns = s.turns;
  idle = s.idle;
  next = s.next;
  turn = s.turn;
  serves = s.serves;
  time_is = s.time_is;
}

same_number : (x y : ℕ) → Some x ≡ Some y → x ≡ y
same_number x y e = cc

module _ (p : Program) (workers : ℕ) (xs : List ℕ) (run later : List Member) (old new : Timetable) (has : HasNoted p workers xs run old) (chosen time : ℕ) where
  abbrev ys : List ℕ
  ys = xs ++ chosen ∷ []

  none_noted : StartsNone run later → new ≡ old → HasNoted p workers ys later new
  none_noted none same =
      subst (HasNoted p workers ys later) (sym same)
      (record {
        p_is = has.p_is;
        few = omega (arith, has.few, none.grows);
        there = λ row h. has.there row (none.none row h);
        at = λ row at on h a b. longer p workers xs (chosen ∷ []) row at on (has.at row at on (none.none row h) a b);
      })

  one_noted : (own : ℕ) → StartsOne run later own → IsNoted old own time chosen new → StartsAt p workers ys own time chosen → HasNoted p workers ys later new
  one_noted own one noted starts = record {
    p_is = noted.p_same ∙ has.p_is;
    few = omega (arith, has.few, one.grows, one.there, noted.many);
    there = λ row h. elim (same_or_not row own) [
      | inl same ↦ omega (arith, same, noted.many)
      | inr other ↦ omega (arith, has.there row (one.others row other h), noted.many)
    ];
    at = λ row at on h a b. elim (same_or_not row own) [
      | inl same ↦
          let time_is : time ≡ at = same_number time at (sym noted.start ∙ ap (slice_get new.starts.items) (sym same) ∙ a) in
          let on_is : chosen ≡ on = same_number chosen on (sym noted.on ∙ ap (slice_get new.workers.items) (sym same) ∙ b) in
          subst (λ (z : ℕ). StartsAt p workers ys z at on) (sym same)
          (subst (λ (z : ℕ). StartsAt p workers ys own z on) time_is (subst (λ (z : ℕ). StartsAt p workers ys own time z) on_is starts))
      | inr other ↦
          let was = one.others row other h in
          let low = has.there row was in
          longer p workers xs (chosen ∷ []) row at on
          (has.at row at on was (sym (noted.starts row other low) ∙ a) (sym (noted.workers row other low) ∙ b))
    ];
  }

-- where no row has started, nothing is noted
stays : (old new : Timetable) (idle : Bool) (before after : Option ℕ) (time worker : ℕ) → idle ≡ is_none before → (before ≡ None → after ≡ None)
    → NotesStart old idle after time worker new → new ≡ old
stays old new idle None after time worker is none notes =
    subst (λ (o : Option ℕ). NotesStart old true o time worker new) (none refl) (subst (λ (b : Bool). NotesStart old b after time worker new) is notes)
stays old new idle (Some row) after time worker is none notes = subst (λ (b : Bool). NotesStart old b after time worker new) is notes

noted_now : (old new : Timetable) (idle : Bool) (before after : Option ℕ) (row time worker : ℕ) → idle ≡ is_none before → before ≡ None → after ≡ Some row
    → NotesStart old idle after time worker new → IsNoted old row time worker new
noted_now old new idle before after row time worker is was now notes =
    subst (λ (o : Option ℕ). NotesStart old true o time worker new) now
    (subst (λ (b : Bool). NotesStart old b after time worker new) (is ∙ ap is_none was) notes)

-- whoever serves no row is idle
pub is_idle : (o : Option ℕ) (idle : Bool) → is_some o ≡ not idle → idle ≡ is_none o
is_idle None true e = refl
is_idle None false e = absurd (let f : false ≡ true = e in cc)
is_idle (Some row) true e = absurd (let f : true ≡ false = e in cc)
is_idle (Some row) false e = refl

-- what is noted in the turn of a worker
pub noted_next : (p : Program) (workers : ℕ) (xs : List ℕ) (s t : State) (old new : Timetable) → HasNoted p workers xs (members p s) old → IsSound p s
    → (before after : Option ℕ) → TakesTurn p s before t after → (chosen time : ℕ) (idle : Bool) → idle ≡ is_none before
    → NotesStart old idle after time chosen new
    → ((row : ℕ) → before ≡ None → after ≡ Some row → StartsAt p workers (xs ++ chosen ∷ []) row time chosen)
    → HasNoted p workers (xs ++ chosen ∷ []) (members p t) new
noted_next p workers xs s t old new has sound before after takes chosen time idle is notes starts =
    elim (turn_starts p s sound before t after takes) [
      | inl one ↦
          one_noted p workers xs (members p s) (members p t) old new has chosen time one.0 one.3
          (noted_now old new idle before after one.0 time chosen is one.1 one.2 notes) (starts one.0 one.1 one.2)
      | inr none ↦
          none_noted p workers xs (members p s) (members p t) old new has chosen time none.1 (stays old new idle before after time chosen is none.0 notes)
    ]

-- ---- at the end

pub noted_all : (p : Program) (workers : ℕ) (xs : List ℕ) (s : State) (t : Timetable) → HasNoted p workers xs (members p s) t → IsEven t → IsSound p s
    → IsQuiet s → IsTimetableOf p workers xs (recorded p s) t
noted_all p workers xs s t has even sound quiet =
    let run = members p s in
    let over = (whole_run p s sound quiet).over in
    let started : (row : ℕ) → row < length run → HasStarted run row =
    λ row low.
    let m = with_life run row Ended (over.ended row low) in
    record { member = m.0; is = m.1; lives = λ e. (let f : Ended ≡ Pending = sym m.2 ∙ e in cc) } in
    let whole : length t.starts.items ≡ length run =
    elim (some_or_none run (length t.starts.items)) [
      | inl past ↦ omega (arith, past, has.few)
      | inr more ↦
          let low = has.there (length t.starts.items) (started (length t.starts.items) (place_below run (length t.starts.items) more.0 more.1)) in
          absurd (omega (arith, low))
    ] in
    record {
      p_is = has.p_is;
      are = record {
        whole = whole;
        all_served = sym even.even ∙ whole;
        at = λ row time worker a b. has.at row time worker (started row (omega (arith, place_below t.starts.items row time a, whole))) a b;
      };
    }
