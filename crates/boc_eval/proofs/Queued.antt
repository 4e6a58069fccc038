-- What holds from turn to turn of a serial run in the program's own order.
use Rattle.std.proofs.Common.{◌≡◌, ℕ, zero, suc, ◌+◌, ◌<◌, ◌≤◌, List, [], ◌∷◌, ◌++◌, map, length, drop, take, refl, sym, ap, ◌∙◌, arith, IsTrue, ℤ, Some, subst}
use Rattle.std.proofs.Common.{length-append, length-drop}
use Rattle.std.specs.Prelude.{slice_get, replicate}
use Rattle.std.proofs.lemmas.List.{length-map, length-replicate, drop-append-le, append_assoc, append-nil}
use Rattle.boc_program.specs.declared.body.Body.{Body}
use Rattle.boc_program.specs.declared.program.Program.{Program}
use Rattle.boc_program.specs.Meaning.{Wish, meaning}
use Rattle.boc_program.specs.Programs.{cown_count, initial_values}
use Rattle.boc_program.specs.Signatures.{signature_of, calls_fit, AllBelow, WishesFit}
use Rattle.boc_runs.specs.Serial.{Behaviour, Serial, SerialRow, main_behaviour, behaviour_of, inputs_of, after_outputs, meaning_if, run_at_once, with_row}
use Rattle.boc_runs.specs.Serial.{serial_along}
use Rattle.boc_runs.specs.OwnOrder.{IsOwnOrder, HasTooMany}
use Rattle.boc_program.proofs.Fitting.{meaning_fits}
use Rattle.boc_runs.proofs.Behaviours.{named, cowns_of_inputs, length-after_outputs, initial-length, main_fits}
use Rattle.boc_runs.proofs.OwnOrders.{next_row, next_wishes, next_own, along_more, rows_done}
use Rattle.boc_eval.specs.Faulted.{EndsAs, FaultedRow, fault_of, faulted_from, turn_fault}
use Rattle.boc_eval.specs.Queue.{BehaviourFits, QueueFits, Turned, wishes_by, turn_wishes, behaviours_after, HasReached}
use Rattle.boc_eval.proofs.Asked.{next_is, behaviours_more, length-behaviours}

pub QueueFits-append : (p : Program) (q r : List Behaviour) → QueueFits p q → QueueFits p r → QueueFits p (q ++ r)
QueueFits-append p [] r h g = g
QueueFits-append p (b ∷ q) r h g = (h.0, QueueFits-append p q r h.1 g)

pub wishes_queue : (p : Program) (ws : List Wish) → WishesFit (map signature_of p.bodies) (cown_count p.cowns) ws → QueueFits p (map behaviour_of ws)
wishes_queue p [] h = tt
wishes_queue p (w ∷ ws) h = ((h.0.counts, h.0.below), wishes_queue p ws h.1)

-- the wishes of a behaviour of a program fit
pub turn_fits : (p : Program) (b : Behaviour) (values : List ℤ) (body : Body) → slice_get p.bodies b.kind ≡ Some body → BehaviourFits p b
    → QueueFits p (map behaviour_of (meaning body b.args (inputs_of b.cowns values)).wishes)
turn_fits p b values body is fits =
    let n : ℕ = cown_count p.cowns in
    let r = named p.bodies (calls_fit (map signature_of p.bodies) n) b.kind (length b.args) (length b.cowns) fits.0 p.calls in
    let same : r.body ≡ body = let e : Some r.body ≡ Some body = sym r.is ∙ is in cc in
    let passes : IsTrue (calls_fit (map signature_of p.bodies) n body) =
    subst (λ (b : Body). IsTrue (calls_fit (map signature_of p.bodies) n b)) same r.passes in
    let len : length (inputs_of b.cowns values) ≡ length b.cowns = simp length-map in
    wishes_queue p (meaning body b.args (inputs_of b.cowns values)).wishes
    (meaning_fits (map signature_of p.bodies) n body b.args (inputs_of b.cowns values) passes (len ∙ r.few_cowns ∙ ap (λ (b : Body). b.cown_params) same)
    (subst (AllBelow n) (sym (cowns_of_inputs b.cowns values)) fits.1))

-- a turn leaves a queue of behaviours that fit
pub turned_fits : (p : Program) (b : Behaviour) (rest : List Behaviour) (values : List ℤ) (queue : List Behaviour) (after : List ℤ) → QueueFits p (b ∷ rest)
    → Turned p b rest values queue after → QueueFits p queue
turned_fits p b rest values queue after h t =
    subst (QueueFits p) (sym t.queued) (QueueFits-append p rest (map behaviour_of (meaning t.body b.args (inputs_of b.cowns values)).wishes) h.1
    (turn_fits p b values t.body t.is h.0))

-- the row that is due is that of the first in the queue
row_is : (p : Program) (done due : List ℕ) (q : ℕ) (b : Behaviour) (rest : List Behaviour) (values : List ℤ) (body : Body) → IsOwnOrder p done (q ∷ due)
    → drop (length done) (behaviours_after (serial_along p done).rows) ≡ b ∷ rest → (serial_along p done).values ≡ values
    → slice_get p.bodies b.kind ≡ Some body →
    next_row p (serial_along p done) q ≡ record {
      parent = q;
      behaviour = b;
      inputs = inputs_of b.cowns values;
      means = meaning body b.args (inputs_of b.cowns values);
    }
row_is p done due q b rest values body own queued values_are is =
    ap (run_at_once p (serial_along p done).values q) (next_is p done due q b rest own queued)
    ∙ ap (λ (vs : List ℤ). run_at_once p vs q (Some b)) values_are
    ∙ ap (λ o. let row : SerialRow = record {
      parent = q;
      behaviour = b;
      inputs = inputs_of b.cowns values;
      means = meaning_if o b.args (inputs_of b.cowns values);
    } in row) is

-- a row is due where a behaviour is queued
record IsDue (due : List ℕ) : Type 0 where
  first : ℕ
  others : List ℕ
  is : due ≡ first ∷ others

is_due : (due : List ℕ) → 0 < length due → IsDue due
is_due [] some = absurd (omega (arith, some))
is_due (q ∷ due) some = record { first = q; others = due; is = refl }

-- there are as many rows due as behaviours queued
due_are : (p : Program) (queue : List Behaviour) (values : List ℤ) (so_far : ℕ) (faulted : List FaultedRow)
    → (s : HasReached p queue values so_far faulted) → length s.due ≡ length queue
due_are p queue values so_far faulted s =
    omega (
      arith,
      ap length s.queued,
      length-drop (length s.done) (behaviours_after (serial_along p s.done).rows),
      length-behaviours
          (serial_along p s.done).rows,
      ap length s.own,
      length-append s.done s.due,
    )

-- after the turn of the first in the queue
record Onward (p : Program) (b : Behaviour) (rest : List Behaviour) (values : List ℤ) (body : Body) (done : List ℕ) : Type 0 where
  due : List ℕ
  parent : ℕ
  own : IsOwnOrder p (done ++ parent ∷ []) due
  long : length due ≡ length rest + length (meaning body b.args (inputs_of b.cowns values)).wishes
  queued : drop (length (done ++ parent ∷ [])) (behaviours_after (serial_along p (done ++ parent ∷ [])).rows) ≡ rest
      ++ map behaviour_of (meaning body b.args (inputs_of b.cowns values)).wishes
  values_are : (serial_along p (done ++ parent ∷ [])).values ≡ after_outputs values b.cowns (meaning body b.args (inputs_of b.cowns values)).outputs
  faulted_are : faulted_from 0 (serial_along p (done ++ parent ∷ [])).rows ≡ faulted_from 0 (serial_along p done).rows ++ turn_fault p (length done) b values

-- with one row more, which may have ended by a fault
faulted_more : (n : ℕ) (rows : List SerialRow) (row : SerialRow)
    → faulted_from n (rows ++ row ∷ []) ≡ faulted_from n rows ++ fault_of (n + length rows) row
faulted_more n [] row = append-nil (fault_of n row) ∙ ap (λ k. fault_of k row) (omega arith)
faulted_more n (r ∷ rows) row =
    ap (λ (fs : List FaultedRow). fault_of n r ++ fs) (faulted_more (suc n) rows row ∙ ap (λ k. faulted_from (suc n) rows ++ fault_of k row) (omega arith))
    ∙ sym (append_assoc (fault_of n r) (faulted_from (suc n) rows) (fault_of (n + suc (length rows)) row))

-- whether a behaviour ends by a fault is told by its body's meaning
turn_fault_is : (p : Program) (n parent : ℕ) (b : Behaviour) (values : List ℤ) (body : Body) → slice_get p.bodies b.kind ≡ Some body
    → turn_fault p n b values ≡ fault_of n (record {
      parent = parent;
      behaviour = b;
      inputs = inputs_of b.cowns values;
      means = meaning body b.args (inputs_of b.cowns values);
    })
turn_fault_is p n parent b values body is =
    ap (λ o. let row : SerialRow = record {
      parent = 0;
      behaviour = b;
      inputs = inputs_of b.cowns values;
      means = meaning_if o b.args (inputs_of b.cowns values);
    } in fault_of n row) is

drop_one : (xs : List Behaviour) (n : ℕ) (b : Behaviour) (rest : List Behaviour) → drop n xs ≡ b ∷ rest → drop (suc n) xs ≡ rest
drop_one [] zero b rest e = absurd cc
drop_one [] (suc n) b rest e = absurd cc
drop_one (x ∷ xs) zero b rest e = cc
drop_one (x ∷ xs) (suc n) b rest e = drop_one xs n b rest e

onward : (p : Program) (b : Behaviour) (rest : List Behaviour) (values : List ℤ) (so_far : ℕ) (faulted : List FaultedRow) (body : Body)
    → (s : HasReached p (b ∷ rest) values so_far faulted) → slice_get p.bodies b.kind ≡ Some body → Onward p b rest values body s.done
onward p b rest values so_far faulted body s is =
    let long = due_are p (b ∷ rest) values so_far faulted s in
    let d = is_due s.due (omega (arith, long)) in
    let own : IsOwnOrder p s.done (d.first ∷ d.others) = subst (IsOwnOrder p s.done) d.is s.own in
    let old : Serial = serial_along p s.done in
    let row : SerialRow = record {
      parent = d.first;
      behaviour = b;
      inputs = inputs_of b.cowns values;
      means = meaning body b.args (inputs_of b.cowns values);
    } in
    let same : next_row p old d.first ≡ row = row_is p s.done d.others d.first b rest values body own s.queued s.values_are is in
    let after : serial_along p (s.done ++ d.first ∷ []) ≡ with_row old row = along_more p (serial_along p []) s.done d.first ∙ ap (with_row old) same in
    let wishes : next_wishes p s.done d.first ≡ length row.means.wishes = ap (λ r. length r.means.wishes) same in
    let more : List Behaviour = map behaviour_of row.means.wishes in
    let n : length (s.done ++ d.first ∷ []) ≡ suc (length s.done) = omega (arith, length-append s.done (d.first ∷ [])) in
    let reached : suc (length s.done) ≤ length (behaviours_after old.rows) =
    omega (arith, length-behaviours old.rows, ap length own, length-append s.done (d.first ∷ d.others)) in
    record {
      due = d.others ++ replicate (next_wishes p s.done d.first) (length s.done);
      parent = d.first;
      own = next_own p s.done d.others d.first own;
      long = omega (
        arith,
        long,
        ap length d.is,
        wishes,
        length-append d.others (replicate (next_wishes p s.done d.first) (length s.done)),
        length-replicate
            (next_wishes p s.done d.first) (length s.done),
      );
      queued =
          ap (λ k. drop k (behaviours_after (serial_along p (s.done ++ d.first ∷ [])).rows)) n
          ∙ ap (λ (t : Serial). drop (suc (length s.done)) (behaviours_after t.rows)) after
          ∙ ap (drop (suc (length s.done))) (behaviours_more old.rows row)
          ∙ drop-append-le (suc (length s.done)) (behaviours_after old.rows) more reached
          ∙ ap (λ q. q ++ more) (drop_one (behaviours_after old.rows) (length s.done) b rest s.queued);
      values_are = ap (λ (t : Serial). t.values) after ∙ ap (λ (vs : List ℤ). after_outputs vs b.cowns row.means.outputs) s.values_are;
      faulted_are =
          ap (λ (t : Serial). faulted_from 0 t.rows) after
          ∙ faulted_more 0 old.rows row
          ∙ ap (λ k. faulted_from 0 old.rows ++ fault_of k row) (let e : 0 + length old.rows ≡ length s.done = omega (arith, rows_done p s.done) in e)
          ∙ ap (λ (fs : List FaultedRow). faulted_from 0 old.rows ++ fs) (sym (turn_fault_is p (length s.done) d.first b values body is));
    }

pub reached_next : (p : Program) (b : Behaviour) (rest : List Behaviour) (values : List ℤ) (so_far : ℕ) (faulted : List FaultedRow) (queue : List Behaviour)
    (after : List ℤ) (now turn : ℕ) (more : List FaultedRow) → HasReached p (b ∷ rest) values so_far faulted → Turned p b rest values queue after
    → now + length rest ≡ so_far + length queue → now ≤ 65535 → turn + length (b ∷ rest) ≡ so_far → more ≡ faulted ++ turn_fault p turn b values
    → HasReached p queue after now more
reached_next p b rest values so_far faulted queue after now turn more s t rows few at noted =
    let o = onward p b rest values so_far faulted t.body s t.is in
    let place : length s.done ≡ turn = omega (arith, at, s.rows_are) in
    record {
      done = s.done ++ o.parent ∷ [];
      due = o.due;
      own = o.own;
      queued = o.queued ∙ sym t.queued;
      values_are = o.values_are ∙ sym t.wrote;
      rows_are = omega (arith, rows, s.rows_are, length-append s.done (o.parent ∷ []));
      few = few;
      fits = turned_fits p b rest values queue after s.fits t;
      cowns = ap length t.wrote ∙ length-after_outputs values b.cowns (meaning t.body b.args (inputs_of b.cowns values)).outputs ∙ s.cowns;
      faulted_are =
          o.faulted_are
          ∙ ap (λ (fs : List FaultedRow). fs ++ turn_fault p (length s.done) b values) s.faulted_are
          ∙ ap (λ k. faulted ++ turn_fault p k b values) place
          ∙ sym noted;
    }

pub reached_end : (p : Program) (queue : List Behaviour) (values : List ℤ) (so_far : ℕ) (faulted : List FaultedRow)
    → HasReached p queue values so_far faulted → queue ≡ [] → EndsAs p values faulted
reached_end p queue values so_far faulted s e =
    let none : s.due ≡ [] = empty s.due (due_are p queue values so_far faulted s ∙ ap length e) in
    record {
      done = s.done;
      own = subst (IsOwnOrder p s.done) none s.own;
      few = omega (arith, s.rows_are, s.few, ap length e);
      values_are = s.values_are;
      faulted_are = s.faulted_are;
    }
  where
    empty : (xs : List ℕ) → length xs ≡ 0 → xs ≡ []
    empty [] none = refl
    empty (x ∷ xs) none = absurd (omega (arith, none))

pub reached_over : (p : Program) (b : Behaviour) (rest : List Behaviour) (values : List ℤ) (so_far : ℕ) (faulted : List FaultedRow)
    → HasReached p (b ∷ rest) values so_far faulted → 65535 < so_far + turn_wishes p b values → HasTooMany p
reached_over p b rest values so_far faulted s h =
    let r = named p.bodies (calls_fit (map signature_of p.bodies) (cown_count p.cowns)) b.kind (length b.args) (length b.cowns) s.fits.0.0 p.calls in
    let o = onward p b rest values so_far faulted r.body s r.is in
    let count : turn_wishes p b values ≡ length (meaning r.body b.args (inputs_of b.cowns values)).wishes = ap (λ o. wishes_by o b values) r.is in
    record {
      done = s.done ++ o.parent ∷ [];
      due = o.due;
      own = o.own;
      many = omega (arith, h, count, o.long, s.rows_are, length-append s.done (o.parent ∷ []));
    }

pub reached_first : (p : Program) (queue : List Behaviour) (values : List ℤ) → queue ≡ main_behaviour ∷ [] → values ≡ initial_values p.cowns
    → HasReached p queue values 1 []
reached_first p queue values e v = record {
  done = [];
  due = 0 ∷ [];
  own = refl;
  queued = sym e;
  values_are = sym v;
  rows_are = omega (arith, ap length e);
  few = omega arith;
  fits = subst (QueueFits p) (sym e) ((main_fits p.bodies p.main, tt), tt);
  cowns = ap length v ∙ initial-length p.cowns;
  faulted_are = refl;
}

rewritten_all : (ws old : List ℤ) → length ws ≡ length old → take (length old) (ws ++ drop (length ws) old) ≡ ws
rewritten_all [] [] h = refl
rewritten_all [] (o ∷ old) h = absurd (omega arith)
rewritten_all (w ∷ ws) [] h = absurd (omega arith)
rewritten_all (w ∷ ws) (o ∷ old) h = ap (λ rest. w ∷ rest) (rewritten_all ws old (omega arith))

-- a vector after its elements were written as a slice
pub rewritten : (ws old : List ℤ) (n : ℕ) → length ws ≡ length old → n ≡ length old → take n (ws ++ drop (length ws) old) ≡ ws
rewritten ws old n h e = ap (λ n. take n (ws ++ drop (length ws) old)) e ∙ rewritten_all ws old h
