-- All rows of an order are spawned, and in the end all have ended.
use Rattle.std.proofs.Common.{◌≡◌, ℕ, zero, suc, ◌+◌, ◌<◌, ◌≤◌, inl, inr, List, [], ◌∷◌, ◌++◌, length, take, refl, sym, ◌∙◌, ap, subst, arith}
use Rattle.std.specs.Prelude.{slice_get, slice_index_or, replicate, Some, None}
use Rattle.std.proofs.lemmas.List.{length-replicate}
use Rattle.boc_program.specs.Programs.{cown_count}
use Rattle.boc_program.specs.declared.program.Program.{Program}
use Rattle.boc_program.proofs.ChangedItems.{item_at, place_below}
use Rattle.boc_runs.specs.Lives.{Pending, Running}
use Rattle.boc_runs.specs.Run.{Member, state_of, IsWholeRun}
use Rattle.boc_runs.specs.Serial.{Serial, after_turn, after_turns, serial_along}
use Rattle.boc_runs.specs.machine.AlongRows.{parents_of_rows}
use Rattle.boc_machine_laws.proofs.Rows.{life_there}
use Rattle.boc_fronts.specs.Orders.{IsNextParent, IsOrderFrom, IsWholeOrder}
use Rattle.boc_fronts.proofs.OrdersRun.{life_cases}
use Rattle.boc_follow.specs.Following.{Following}
use Rattle.boc_play.specs.Waiting.{Tables}
use Rattle.boc_play.specs.Playing.{AllRestBut, AreSettled, AreTablesOf, CanSpawnNext, IsOver, IsUnended, SpawnsOne}
use Rattle.boc_play.proofs.Chaining.{none_chained}
use Rattle.boc_play.proofs.Standing.{members}
use Rattle.boc_play.proofs.Settling.{as_many, all_settled}
use Rattle.boc_play.proofs.Turning.{has_there}

-- the parent at each place of an order may come next there
next_from : (p : Program) (s : Serial) (ps : List ℕ) (i r : ℕ) → IsOrderFrom p s ps → slice_get ps i ≡ Some r
    → IsNextParent (after_turns p s (take i ps)).rows r
next_from p s [] i r order is = absurd (let f : None ≡ Some r = is in cc)
next_from p s (q ∷ ps) zero r order is = (let f : Some q ≡ Some r = is in let same : q ≡ r = cc in subst (IsNextParent s.rows) same order.0)
next_from p s (q ∷ ps) (suc i) r order is = next_from p (after_turn p s q) ps i r order.1 is

-- a run of so many rows of an order, all of which rest
pub record PlayedSo (p : Program) (parents : List ℕ) (i : ℕ) (f : Following) (t : Tables) : Type 0 where
  pub program : f.program ≡ p
  pub parents_are : parents_of_rows f.log ≡ take i parents
  pub tables : AreTablesOf f t
  pub rest : AllRestBut f []

none_over : (f : Following) → members f ≡ [] → (r d : ℕ) → IsOver f r d → ⊥
none_over f none r d h = omega (arith, has_there (members f) r d h, ap (length {A = Member}) none)

none_rest : (f : Following) → members f ≡ [] → AllRestBut f []
none_rest f none r not = record {
  held = λ may. (let e : None ≡ Some Pending = sym (ap (λ ms. state_of ms r) none) ∙ may.waits in cc);
  wishes = λ runs. absurd (let e : None ≡ Some Running = sym (ap (λ ms. state_of ms r) none) ∙ runs in cc);
}

pub none_played : (p : Program) (parents : List ℕ) (f : Following) (t : Tables) (n : ℕ) → f ≡ record { program = p; log = [] }
    → t ≡ record { latest = replicate n None; next = [] } → n ≡ cown_count p.cowns → PlayedSo p parents 0 f t
none_played p parents f t n is tables_are many =
    let new : Following = record { program = p; log = [] } in
    subst (λ (z : Following). PlayedSo p parents 0 z t) (sym is) (subst (PlayedSo p parents 0 new) (sym tables_are) (record {
      program = refl;
      parents_are = refl;
      tables = record {
        run = tt;
        rows = refl;
        cowns = length-replicate n None ∙ many;
        chained = none_chained (IsOver new) (IsUnended new) n (none_over new refl);
      };
      rest = none_rest new refl;
    }))

-- all rows are settled
pub settled_so : (p : Program) (parents : List ℕ) (i : ℕ) (f : Following) (t : Tables) → PlayedSo p parents i f t
    → AreSettled f (length (parents_of_rows f.log))
settled_so p parents i f t s = all_settled f s.tables.run s.rest (length (parents_of_rows f.log)) (omega arith)

take_length : (parents : List ℕ) (i : ℕ) → i ≤ length parents → length (take i parents) ≡ i
take_length parents zero few = refl
take_length [] (suc i) few = absurd (omega (arith, few))
take_length (x ∷ xs) (suc i) few = ap suc (take_length xs i (omega (arith, few)))

take_next : (parents : List ℕ) (i r : ℕ) → slice_get parents i ≡ Some r → take (suc i) parents ≡ take i parents ++ (r ∷ [])
take_next [] i r is = absurd (let f : None ≡ Some r = is in cc)
take_next (x ∷ xs) zero r is = (let f : Some x ≡ Some r = is in let same : x ≡ r = cc in ap (λ z. z ∷ []) same)
take_next (x ∷ xs) (suc i) r is = ap (λ ys. x ∷ ys) (take_next xs i r is)

take_more : (parents : List ℕ) (i r : ℕ) → slice_get parents i ≡ Some r → take (i + 1) parents ≡ take i parents ++ (r ∷ [])
take_more parents i r is = (let e : i + 1 ≡ suc i = omega arith in ap (λ n. take n parents) e) ∙ take_next parents i r is

pub parent_at : (parents : List ℕ) (i : ℕ) → i < length parents → slice_get parents i ≡ Some (slice_index_or parents i 0)
parent_at [] i low = absurd (omega (arith, low))
parent_at (x ∷ xs) zero low = refl
parent_at (x ∷ xs) (suc i) low = parent_at xs i (omega (arith, low))

-- the next parent can come
pub next_can_come : (p : Program) (parents : List ℕ) (i r : ℕ) (f : Following) (t : Tables) → IsWholeOrder p parents → PlayedSo p parents i f t
    → slice_get parents i ≡ Some r → CanSpawnNext f r
next_can_come p parents i r f t whole s is = record {
  settled = settled_so p parents i f t s;
  can = subst (λ (q : Program). IsNextParent (serial_along q (parents_of_rows f.log)).rows r) (sym s.program)
      (subst (λ (ps : List ℕ). IsNextParent (serial_along p ps).rows r) (sym s.parents_are)
      (next_from p (serial_along p []) parents i r whole.order is));
  few = omega (
    arith,
    ap (length {A = ℕ}) s.parents_are,
    take_length parents i (omega (arith, place_below parents i r is)),
    place_below parents i r is,
    whole.few,
  );
}

pub one_played : (p : Program) (parents : List ℕ) (i r : ℕ) (f g : Following) (t u : Tables) → PlayedSo p parents i f t → slice_get parents i ≡ Some r
    → SpawnsOne f r g → AreTablesOf g u → AllRestBut g [] → PlayedSo p parents (i + 1) g u
one_played p parents i r f g t u s is one tables rest = record {
  program = one.program ∙ s.program;
  parents_are = one.parents ∙ ap (λ ps. ps ++ (r ∷ [])) s.parents_are ∙ sym (take_more parents i r is);
  tables = tables;
  rest = rest;
}

take_whole : (parents : List ℕ) → take (length parents) parents ≡ parents
take_whole [] = refl
take_whole (x ∷ xs) = ap (λ ys. x ∷ ys) (take_whole xs)

pub all_parents : (p : Program) (parents : List ℕ) (f : Following) (t : Tables) → PlayedSo p parents (length parents) f t → parents_of_rows f.log ≡ parents
all_parents p parents f t s = s.parents_are ∙ take_whole parents

-- where all rows are settled and none has a wish, all have ended
whole_settled : (f : Following) → IsWholeOrder f.program (parents_of_rows f.log) → AreSettled f (length (parents_of_rows f.log))
    → IsWholeRun f.program f.log
whole_settled f whole s =
    let many = as_many f (length (parents_of_rows f.log)) s in
    record {
      run = s.run;
      over = record {
        some = omega (arith, many, whole.some);
        ended = λ r low.
            let m = item_at (members f) r low in
            let settled = s.settled r (omega (arith, low, many)) in
            life_there (members f) r m.0 m.1 ∙ ap (λ l. Some l) (elim (life_cases m.0.life) [
              | inl pending ↦ let w = settled.pending m.0 m.1 pending in absurd (whole.none_left w.earlier w.wishes)
              | inr (inl running) ↦ absurd (whole.none_left r (settled.running m.0 m.1 running))
              | inr (inr ended) ↦ ended
            ]);
      };
    }

pub whole_played : (p : Program) (parents : List ℕ) (f : Following) (t : Tables) → IsWholeOrder p parents → PlayedSo p parents (length parents) f t
    → IsWholeRun p f.log
whole_played p parents f t whole s =
    subst (λ (q : Program). IsWholeRun q f.log) s.program
    (whole_settled f (subst (λ (q : Program). IsWholeOrder q (parents_of_rows f.log)) (sym s.program)
    (subst (λ (ps : List ℕ). IsWholeOrder p ps) (sym (all_parents p parents f t s)) whole)) (settled_so p parents (length parents) f t s))
