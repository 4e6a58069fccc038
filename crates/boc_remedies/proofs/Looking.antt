-- Loops over sets that are looked at: a step of each.
use Rattle.std.proofs.Common.{◌≡◌, ◌+◌, ◌-◌, ◌<◌, ◌≤◌, ℕ, suc, List, [], ◌∷◌, ◌++◌, length, take, get_or, ap, refl, subst, sym, ◌∙◌, arith}
use Rattle.std.proofs.lemmas.List.{append_assoc, length-append, length-map, length-take-le}
use Rattle.boc_runs.specs.declared.rows.Row.{Row}
use Rattle.boc_runs.specs.Changes.{freed_row, without}
use Rattle.boc_why.specs.Causes.{without_all}
use Rattle.boc_remedies.specs.declared.ends.Ends.{Ends}
use Rattle.boc_remedies.specs.declared.looked_at.LookedAt.{LookedAt}
use Rattle.boc_remedies.specs.Questions.{Asked}
use Rattle.boc_remedies.specs.LookedAt.{AreLeftBy, AreNew, AreRounds, IsRound, looked_at, new_from}
use Rattle.boc_remedies.proofs.Gathered.{take_one}

-- without some cowns there are as many rows
pub length-without_all : (cowns : List ℕ) (rows : List Row) → length (without_all cowns rows) ≡ length rows
length-without_all [] rows = refl
length-without_all (cown ∷ cowns) rows = length-without_all cowns (without cown rows) ∙ length-map rows (freed_row cown)

-- ---- new sets

-- those that one more makes
pub new_more : (question : Asked) (looked bases : List LookedAt) (base : LookedAt) (sets new more : List (List ℕ)) → AreNew question looked bases sets new
    → AreLeftBy question base.families more → AreNew question looked (bases ++ base ∷ []) sets (new_from looked base.families new more)
new_more question looked [] base sets new more are left = (more, left, ap (λ (xs : List (List ℕ)). new_from looked base.families xs more) are)
new_more question looked (b ∷ bases) base sets new more are left =
    (are.0, are.1, new_more question looked bases base (new_from looked b.families sets are.0) new more are.2 left)

-- a step of the loop over the sets that make others
pub new_step : (question : Asked) (looked bases : List LookedAt) (i : ℕ) (d base : LookedAt) (sets new after more : List (List ℕ)) → i < length bases
    → base ≡ get_or bases i d → AreNew question looked (take i bases) sets new → AreLeftBy question base.families more
    → after ≡ new_from looked base.families new more → AreNew question looked (take (i + 1) bases) sets after
new_step question looked bases i d base sets new after more low at are left is =
    subst (λ (xs : List (List ℕ)). AreNew question looked (take (i + 1) bases) sets xs) (sym is)
    (subst (λ (xs : List LookedAt). AreNew question looked xs sets (new_from looked base.families new more)) (sym (take_one bases i d base low at))
    (new_more question looked (take i bases) base sets new more are left))

-- ---- sets with the spans that they leave

-- one more set with what it leaves
looked_at_more : (sets : List (List ℕ)) (left : List Ends) (set : List ℕ) (d : Ends) → length sets < length left
    → looked_at (sets ++ set ∷ []) left ≡ looked_at sets left ++ record { families = set; span = (get_or left (length sets) d).span } ∷ []
looked_at_more [] [] set d low = absurd (omega (arith, low))
looked_at_more [] (ends ∷ left) set d low = refl
looked_at_more (s ∷ sets) [] set d low = absurd (omega (arith, low))
looked_at_more (s ∷ sets) (ends ∷ left) set d low =
    ap (λ (xs : List LookedAt). record { families = s; span = ends.span } ∷ xs) (looked_at_more sets left set d (omega (arith, low)))

-- a step of the loop over sets
pub looked_at_step : (sets : List (List ℕ)) (left : List Ends) (i : ℕ) (set copy : List ℕ) (d : Ends) (before looked after : List LookedAt)
    → i < length sets → length left ≡ length sets → set ≡ get_or sets i set → copy ≡ set → looked ≡ before ++ looked_at (take i sets) left
    → after ≡ looked ++ record { families = copy; span = (get_or left i d).span } ∷ [] → after ≡ before ++ looked_at (take (i + 1) sets) left
looked_at_step sets left i set copy d before looked after low whole at same is push =
    let long : length (take i sets) ≡ i = length-take-le i sets (omega (arith, low)) in
    let one : ℕ → List LookedAt = λ n. record { families = copy; span = (get_or left n d).span } ∷ [] in
    let more : looked_at (take i sets ++ copy ∷ []) left ≡ looked_at (take i sets) left ++ one (length (take i sets)) =
    looked_at_more (take i sets) left copy d (omega (arith, long, low, whole)) in
    push ∙ ap (λ (xs : List LookedAt). xs ++ one i) is ∙ append_assoc before (looked_at (take i sets) left) (one i)
    ∙ ap (λ (n : ℕ). before ++ (looked_at (take i sets) left ++ one n)) (sym long) ∙ ap (λ (xs : List LookedAt). before ++ xs) (sym more)
    ∙ ap (λ (xs : List (List ℕ)). before ++ looked_at xs left) (sym (take_one sets i set copy low (same ∙ at)))

-- ---- rounds

-- the last round began at this place, and what the rounds that are left lead to, all rounds lead to
abbrev pub IsOnTheWay : Asked → ℕ → List LookedAt → ℕ → ℕ → List LookedAt → Type 0
IsOnTheWay question rounds start more from now =
    (from ≤ length now) × ((after : List LookedAt) → AreRounds question more from now after → AreRounds question rounds 0 start after)

pub no_round : (question : Asked) (rounds : ℕ) (start now : List LookedAt) → now ≡ start → IsOnTheWay question rounds start (rounds - 0) 0 now
no_round question rounds start now same =
    let e : rounds - 0 ≡ rounds = omega arith in (
      omega arith,
      λ after rest. subst (λ (xs : List LookedAt). AreRounds question rounds 0 xs after) same
          (subst (λ (n : ℕ). AreRounds question n 0 now after) e rest),
    )

-- one round fewer is left
pub one_round : (question : Asked) (rounds i : ℕ) (start now next : List LookedAt) (from count : ℕ) → i < rounds
    → IsOnTheWay question rounds start (rounds - i) from now → IsRound question now from next → count ≡ length now
    → IsOnTheWay question rounds start (rounds - (i + 1)) count next
one_round question rounds i start now next from count low way round is =
    let e : rounds - i ≡ suc (rounds - (i + 1)) = omega (arith, low) in
    let more : length next ≡ length now + length (looked_at round.new round.left) =
    ap (length {A = LookedAt}) round.after_is ∙ length-append now (looked_at round.new round.left) in (
      omega (arith, more, is),
      λ after rest.
          subst (λ (n : ℕ). AreRounds question n from now after → AreRounds question rounds 0 start after) e (way.1 after)
          (next, round, subst (λ (n : ℕ). AreRounds question (rounds - (i + 1)) n next after) is rest),
    )

pub all_rounds : (question : Asked) (rounds i from : ℕ) (start now : List LookedAt) → rounds ≤ i → IsOnTheWay question rounds start (rounds - i) from now
    → AreRounds question rounds 0 start now
all_rounds question rounds i from start now high way =
    let e : rounds - i ≡ 0 = omega (arith, high) in
    subst (λ (n : ℕ). AreRounds question n from now now → AreRounds question rounds 0 start now) e (way.1 now) refl
