-- Programs that are plainly the same are the same: the facts that their types keep have one proof each.
use Rattle.std.proofs.Common.{◌≡◌, ◌≤◌, ◌+◌, List, [], ◌∷◌, length, Bool, map, IsTrue, refl}
use Rattle.std.proofs.Math.Bridge.{le_prop}
use Rattle.std.proofs.Props.{props}
use Rattle.std.proofs.Math.Path.{PathP, to_path_p}
use Rattle.boc_program.specs.declared.body.Body.{Body}
use Rattle.boc_program.specs.declared.cown.Cown.{Cown}
use Rattle.boc_program.specs.declared.program.Program.{Program}
use Rattle.boc_program.specs.declared.limits.TheConstants.{MOST_ARGUMENTS, MOST_BODIES, MOST_COWNS, MOST_HELD, MOST_NODES, MOST_SLOTS}
use Rattle.boc_program.specs.Programs.{cown_count, have_members, program_fits, has_main}
use Rattle.boc_program.specs.Resolved.{nodes, fits}
use Rattle.boc_reader.specs.Spells.{plain_body, plain_declared, plain_program}

-- two proofs of a fact that has one at most, over two values that are the same
over : (A : 𝕀 → Type 0) → IsProp (A 1) → (a : A 0) (b : A 1) → PathP A a b
over A prop a b = to_path_p A (prop _ b)

true_prop : {b : Bool} → IsProp (IsTrue b)
true_prop = hlevel props

same_body : (a b : Body) → plain_body a ≡ plain_body b → a ≡ b
same_body a b e = λ i. record {
  params = (e i).params;
  cown_params = (e i).cown_params;
  slots = (e i).slots;
  block = (e i).code;
  few_params = over (λ k. (e k).params ≤ MOST_ARGUMENTS) le_prop a.few_params b.few_params i;
  few_cowns = over (λ k. (e k).cown_params ≤ MOST_HELD) le_prop a.few_cowns b.few_cowns i;
  few_slots = over (λ k. (e k).slots ≤ MOST_SLOTS) le_prop a.few_slots b.few_slots i;
  parameters_are_slots = over (λ k. (e k).params + (e k).cown_params ≤ (e k).slots) le_prop a.parameters_are_slots b.parameters_are_slots i;
  few_nodes = over (λ k. nodes (e k).code ≤ MOST_NODES) le_prop a.few_nodes b.few_nodes i;
  resolved = over (λ k. IsTrue (fits (record { slots = (e k).slots; cowns = (e k).cown_params }) (e k).code)) true_prop a.resolved b.resolved i;
}

-- the facts of a declared cown are all plain
same_cown : (a b : Cown) → plain_declared a ≡ plain_declared b → a ≡ b
same_cown a b e = λ i. record { name = (e i).name; size = (e i).size; initial = (e i).initial }

-- lists are the same where they plainly are, if that is so of their items
same_items : {A B : Type 0} (plain : A → B) → ((a b : A) → plain a ≡ plain b → a ≡ b) → (xs ys : List A) → map plain xs ≡ map plain ys → xs ≡ ys
same_items plain same [] [] e = refl
same_items plain same [] (y ∷ ys) e = absurd cc
same_items plain same (x ∷ xs) [] e = absurd cc
same_items plain same (x ∷ xs) (y ∷ ys) e =
    let first : plain x ≡ plain y = cc in
    let rest : map plain xs ≡ map plain ys = cc in
    λ i. same x y first i ∷ same_items plain same xs ys rest i

pub same_program : (p q : Program) → plain_program p ≡ plain_program q → p ≡ q
same_program p q e =
    let cowns : p.cowns ≡ q.cowns = same_items plain_declared same_cown p.cowns q.cowns (λ i. (e i).cowns) in
    let bodies : p.bodies ≡ q.bodies = same_items plain_body same_body p.bodies q.bodies (λ i. (e i).bodies) in
    λ i. record {
      cowns = cowns i;
      bodies = bodies i;
      members = over (λ k. IsTrue (have_members (cowns k))) true_prop p.members q.members i;
      few_cowns = over (λ k. cown_count (cowns k) ≤ MOST_COWNS) le_prop p.few_cowns q.few_cowns i;
      few_defs = over (λ k. length (bodies k) ≤ MOST_BODIES) le_prop p.few_defs q.few_defs i;
      main = over (λ k. IsTrue (has_main (bodies k))) true_prop p.main q.main i;
      calls = over (λ k. IsTrue (program_fits (cowns k) (bodies k))) true_prop p.calls q.calls i;
    }
