-- One more row, and the rows that are there.
use Rattle.std.proofs.Common.{◌≡◌, ℕ, zero, suc, ◌+◌, ◌<◌, ◌≤◌, List, [], ◌∷◌, ◌++◌, map, length, refl, ap, ◌∙◌, arith, ℤ, length-append}
use Rattle.std.specs.Prelude.{slice_range, slice_index_or}
use Rattle.std.proofs.lemmas.List.{map-append, length-map}
use Rattle.boc_program.specs.Meaning.{Wish}
use Rattle.boc_runs.specs.Serial.{Behaviour, behaviour_of}
use Rattle.boc_program.proofs.ChangedItems.{range_stays, range_behind}
use Rattle.boc_eval.specs.declared.rows.Row.{Row}
use Rattle.boc_eval.specs.declared.rows.Rows.{Rows}
use Rattle.boc_eval.specs.Behaviours.{behaviour_in, behaviours_of, IsWithin, RowsFit, IsConsistent}

behaviour_stays : (args more : List ℤ) (cowns others : List ℕ) (r : Row) → IsWithin r.args (length args) → IsWithin r.cowns (length cowns)
    → behaviour_in (args ++ more) (cowns ++ others) r ≡ behaviour_in args cowns r
behaviour_stays args more cowns others r h k =
    ap (λ a. let b : Behaviour = record { kind = r.kind; args = a; cowns = slice_range (cowns ++ others) r.cowns.from r.cowns.to } in b)
    (range_stays args more r.args.from r.args.to h.0 h.1)
    ∙ ap (λ c. let b : Behaviour = record { kind = r.kind; args = slice_range args r.args.from r.args.to; cowns = c } in b)
    (range_stays cowns others r.cowns.from r.cowns.to k.0 k.1)

rows_stay : (args more : List ℤ) (cowns others : List ℕ) (rs : List Row) → RowsFit (length args) (length cowns) rs
    → map (behaviour_in (args ++ more) (cowns ++ others)) rs ≡ map (behaviour_in args cowns) rs
rows_stay args more cowns others [] h = refl
rows_stay args more cowns others (r ∷ rs) h =
    ap (λ b. b ∷ map (behaviour_in (args ++ more) (cowns ++ others)) rs) (behaviour_stays args more cowns others r h.0.0 h.0.1)
    ∙ ap (λ bs. behaviour_in args cowns r ∷ bs) (rows_stay args more cowns others rs h.1)

RowsFit-more : (n n' m m' : ℕ) (rs : List Row) → n ≤ n' → m ≤ m' → RowsFit n m rs → RowsFit n' m' rs
RowsFit-more n n' m m' [] h k fit = tt
RowsFit-more n n' m m' (r ∷ rs) h k fit =
    (((fit.0.0.0, omega (arith, fit.0.0.1)), (fit.0.1.0, omega (arith, fit.0.1.1))), RowsFit-more n n' m m' rs h k fit.1)

RowsFit-push : (n m : ℕ) (rs : List Row) (r : Row) → RowsFit n m rs → IsWithin r.args n → IsWithin r.cowns m → RowsFit n m (rs ++ r ∷ [])
RowsFit-push n m [] r fit h k = ((h, k), tt)
RowsFit-push n m (s ∷ rs) r fit h k = (fit.0, RowsFit-push n m rs r fit.1 h k)

-- what a row names is there
pub record Fits (n m : ℕ) (r : Row) : Type 0 where
  pub args : IsWithin r.args n
  pub cowns : IsWithin r.cowns m

pub row_fits : (n m : ℕ) (rs : List Row) (i : ℕ) (r : Row) → RowsFit n m rs → i < length rs → r ≡ slice_index_or rs i r → Fits n m r
row_fits n m [] i r fit h e = absurd (omega arith)
row_fits n m (s ∷ rs) zero r fit h e =
    rw e (record { args = fit.0.0; cowns = fit.0.1 })
row_fits n m (s ∷ rs) (suc i) r fit h e = row_fits n m rs i r fit.1 (omega arith) e

-- a row with these arguments and cowns stands behind the others
pub record Adds (old new : Rows) (b : Behaviour) : Type 0 where
  pub sound : IsConsistent new
  pub behaviours : behaviours_of new ≡ behaviours_of old ++ b ∷ []

pub adds : (old new : Rows) (r : Row) (b : Behaviour) → IsConsistent old → length old.rows.items < 65535 → length b.args ≤ 8 → length b.cowns ≤ 8
    → new.args.items ≡ old.args.items ++ b.args → new.cowns.items ≡ old.cowns.items ++ b.cowns → new.rows.items ≡ old.rows.items ++ r ∷ [] → r.kind ≡ b.kind
    → r.args.from ≡ length old.args.items → r.args.to ≡ length old.args.items + length b.args → r.cowns.from ≡ length old.cowns.items
    → r.cowns.to ≡ length old.cowns.items + length b.cowns → Adds old new b
adds old new r b sound few few_args few_cowns args cowns rows kind af at cf ct =
    let n_args : length new.args.items ≡ length old.args.items + length b.args = ap length args ∙ length-append old.args.items b.args in
    let n_cowns : length new.cowns.items ≡ length old.cowns.items + length b.cowns = ap length cowns ∙ length-append old.cowns.items b.cowns in
    let n_rows : length new.rows.items ≡ length old.rows.items + 1 = ap length rows ∙ length-append old.rows.items (r ∷ []) in
    let wider : RowsFit (length new.args.items) (length new.cowns.items) old.rows.items =
    RowsFit-more (length old.args.items) (length new.args.items) (length old.cowns.items) (length new.cowns.items) old.rows.items (omega arith)
    (omega arith) sound.parts in
    let all : RowsFit (length new.args.items) (length new.cowns.items) (old.rows.items ++ r ∷ []) =
    RowsFit-push (length new.args.items) (length new.cowns.items) old.rows.items r wider (omega arith, omega arith) (omega arith, omega arith) in
    let earlier : map (behaviour_in (old.args.items ++ b.args) (old.cowns.items ++ b.cowns)) old.rows.items ≡ behaviours_of old =
    rows_stay old.args.items b.args old.cowns.items b.cowns old.rows.items sound.parts in
    let last : behaviour_in (old.args.items ++ b.args) (old.cowns.items ++ b.cowns) r ≡ b =
    ap (λ k. let c : Behaviour = record {
      kind = k;
      args = slice_range (old.args.items ++ b.args) r.args.from r.args.to;
      cowns = slice_range (old.cowns.items ++ b.cowns) r.cowns.from r.cowns.to;
    } in c) kind
    ∙ ap (λ a. let c : Behaviour = record { kind = b.kind; args = a; cowns = slice_range (old.cowns.items ++ b.cowns) r.cowns.from r.cowns.to } in c)
    (range_behind old.args.items b.args r.args.from r.args.to af at)
    ∙ ap (λ cs. let c : Behaviour = record { kind = b.kind; args = b.args; cowns = cs } in c)
    (range_behind old.cowns.items b.cowns r.cowns.from r.cowns.to cf ct) in
    record {
      sound = record {
        parts = rw rows all;
        few_args = omega (arith, sound.few_args);
        few_cowns = omega (arith, sound.few_cowns);
        few_rows = omega arith;
      };
      behaviours =
          ap (λ xs. map (behaviour_in xs new.cowns.items) new.rows.items) args
          ∙ ap (λ cs. map (behaviour_in (old.args.items ++ b.args) cs) new.rows.items) cowns
          ∙ ap (λ rs. map (behaviour_in (old.args.items ++ b.args) (old.cowns.items ++ b.cowns)) rs) rows
          ∙ map-append (behaviour_in (old.args.items ++ b.args) (old.cowns.items ++ b.cowns)) old.rows.items (r ∷ [])
          ∙ ap (λ bs. bs ++ behaviour_in (old.args.items ++ b.args) (old.cowns.items ++ b.cowns) r ∷ []) earlier
          ∙ ap (λ c. behaviours_of old ++ c ∷ []) last;
    }

-- with a wish left after the last row that a run may have, there are too many
pub too_many : (first now : List Behaviour) (all left more : List Wish) (w : Wish) → now ++ map behaviour_of left ≡ first ++ map behaviour_of all
    → left ≡ w ∷ more → length now ≡ 65535 → 65535 < length first + length all
too_many first now all left more w e is full =
    omega (
      arith,
      ap length e,
      ap length is,
      length-append now (map behaviour_of left),
      length-append first (map behaviour_of all),
      length-map left
          behaviour_of,
      length-map all behaviour_of,
    )
