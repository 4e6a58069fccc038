-- What the rows of a followed run are, and of which kinds.
use Rattle.std.proofs.Common.{◌≡◌, ◌∙◌, ℕ, zero, suc, ◌<◌, List, [], ◌∷◌, None, Some, length, map, refl, ap, sym, subst, arith, ℤ}
use Rattle.std.specs.Option.{option_map}
use Rattle.std.specs.Prelude.{slice_get}
use Rattle.std.proofs.lemmas.Option.{slice_get-map}
use Rattle.std.proofs.lemmas.Simd.{map-map}
use Rattle.boc_program.specs.declared.body.Body.{Body}
use Rattle.boc_program.specs.declared.program.Program.{Program}
use Rattle.boc_program.specs.Signatures.{CountsAre, signature_of}
use Rattle.boc_runs.specs.declared.event.Event.{Event}
use Rattle.boc_runs.specs.Serial.{Behaviour}
use Rattle.boc_runs.specs.Run.{Member, config_of, IsRun}
use Rattle.boc_eval.specs.declared.instance.Instance.{Instance}
use Rattle.boc_eval.specs.Instances.{AreKnown, AreRowsOf, behaviour_in}
use Rattle.boc_follow.specs.declared.row.FollowedRow.{FollowedRow}
use Rattle.boc_follow.specs.Following.{IsFollowing}
use Rattle.boc_follow.specs.Standings.{Standing, standing_in, standing_of}
use Rattle.boc_follow.specs.Takes.{IsOfRow}
use Rattle.boc_follow.proofs.Nexts.{stands_at}
use Rattle.boc_follow.proofs.Standing.{stood}
use Rattle.boc_machine_laws.proofs.Members.{all_fit}

kind_below : (bodies : List Body) (kind args cowns : ℕ) → CountsAre (slice_get (map signature_of bodies) kind) args cowns → kind < length bodies
kind_below [] kind args cowns counts = absurd counts
kind_below (b ∷ bodies) zero args cowns counts = omega arith
kind_below (b ∷ bodies) (suc kind) args cowns counts = omega (arith, kind_below bodies kind args cowns counts)

-- a row of a run is of a kind that the program has
pub kind_there : (p : Program) (log : List Event) → IsRun p log → (row : ℕ) (m : Member) → slice_get (config_of p log).members row ≡ Some m
    → m.behaviour.kind < length p.bodies
kind_there p log run row m is =
    kind_below p.bodies m.behaviour.kind (length m.behaviour.args) (length m.behaviour.cowns) (all_fit p log run row m is).counts

-- what a mapped item is of
mapped_at : {A B : Type 0} (f : A → B) (xs : List A) (i : ℕ) (y : B) → slice_get (map f xs) i ≡ Some y → (x : A) × (slice_get xs i ≡ Some x) × (f x ≡ y)
mapped_at f [] i y is = absurd (let none : None ≡ Some y = is in cc)
mapped_at f (x ∷ xs) zero y is = (x, refl, (let e : Some (f x) ≡ Some y = is in cc))
mapped_at f (x ∷ xs) (suc i) y is = mapped_at f xs i y is

-- rows of a run are of kinds that the program has
pub known_rows : (p : Program) (log : List Event) (rows : List Instance) → IsRun p log → AreRowsOf (config_of p log).members rows → AreKnown p rows
known_rows p log rows run are row i is =
    let there : slice_get (map (λ (m : Member). m.behaviour) (config_of p log).members) row ≡ Some (behaviour_in i) =
    ap (λ bs. slice_get bs row) (sym are) ∙ slice_get-map behaviour_in rows row ∙ ap (option_map behaviour_in) is in
    let m = mapped_at (λ (x : Member). x.behaviour) (config_of p log).members row (behaviour_in i) there in
    subst (λ (b : Behaviour). b.kind < length p.bodies) m.2 (kind_there p log run row m.0 m.1)

-- what is kept of the rows tells what they are
pub kept_rows : (p : Program) (kept : List FollowedRow) (members : List Member) → map standing_in kept ≡ map (standing_of p) members
    → AreRowsOf members (map (λ row. row.instance) kept)
kept_rows p kept members are =
    map-map behaviour_in (λ (row : FollowedRow). row.instance) kept ∙ sym (map-map (λ (s : Standing). s.behaviour) standing_in kept)
    ∙ ap (map (λ (s : Standing). s.behaviour)) are ∙ map-map (λ (s : Standing). s.behaviour) (standing_of p) members

-- what is kept of a row tells what that row is
pub kept_row : {p : Program} {n : ℕ} {log : List Event} {kept : List FollowedRow} {values : List ℤ} → IsFollowing p n log kept values
    → (rows : List FollowedRow) (place : ℕ) (row : FollowedRow) → rows ≡ kept → slice_get rows place ≡ Some row
    → IsOfRow (config_of p log).members place (behaviour_in row.instance)
kept_row {p = p} {log = log} {kept = kept} f rows place row same read =
    let stands : slice_get (map standing_in kept) place ≡ Some (standing_in row) =
    ap (λ xs. slice_get (map standing_in xs) place) (sym same) ∙ stands_at rows place row read in
    let m = stood p (config_of p log).members place (standing_in row) (sym (ap (λ ss. slice_get ss place) f.rows_are) ∙ stands) in
    record { member = m.0; is = m.1; behaviour_is = ap (λ (s : Standing). s.behaviour) m.2 }
