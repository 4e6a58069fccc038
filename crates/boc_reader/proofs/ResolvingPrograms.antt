-- What a tree within the limits resolves to fits in a program.
use Rattle.std.proofs.Common.{◌≡◌, ℕ, suc, ◌+◌, ◌≤◌, Bool, true, false, List, [], ◌∷◌, ◌++◌, map, length, Option, Some, None, IsTrue, refl, sym, ap, ◌∙◌, subst}
use Rattle.std.proofs.Common.{arith}
use Rattle.std.specs.Prelude.{◌&&◌, nat_eq, nat_lt, slice_get, position}
use Rattle.std.specs.Str.{bytes_eq}
use Rattle.std.specs.Option.{option_map, option_and_then}
use Rattle.std.proofs.lemmas.List.{length-map}
use Rattle.std.proofs.lemmas.Option.{slice_get-map}
use Rattle.std.proofs.lemmas.Bool.Decides.{nat_tests}
use Rattle.boc_program.specs.declared.body.Body.{Body}
use Rattle.boc_program.specs.declared.cown.Cown.{Cown as Cown'}
use Rattle.boc_reader.specs.Shape.{Block, Cown, Def, Tree, HasMembers, HaveMembers, cowns_declared, IsSmallBlock, AreSmallDefs, IsWithinLimits}
use Rattle.boc_program.specs.Resolved.{every}
use Rattle.boc_program.specs.Signatures.{Signature, signature_of, whens_pass, counts_fit, call_fits, calls_fit}
use Rattle.boc_program.specs.Programs.{members, cown_count, have_members, has_main}
use Rattle.boc_program.specs.Parts.{MakesProgram}
use Rattle.boc_reader.specs.Names.{Named, Callee, Top, Outside, kind_of, callee, takes, PlainBody, PlainCown, PlainProgram, body_names, callees, top_of}
use Rattle.boc_reader.specs.Names.{top_names, are_distinct, all_names, plain_cown, tree_names}
use Rattle.boc_reader.specs.Spells.{plain_body, plain_declared}
use Rattle.boc_reader.specs.Resolving.{EndWithin, def_names, callee_for}
use Rattle.boc_reader.proofs.ResolvingLists.{find-position}
use Rattle.boc_reader.proofs.ResolvingKeeps.{then_made, map_made, test_made, both, below}
use Rattle.boc_reader.proofs.ResolvingExprs.{exprs_keep, refs_keep, Allows}
use Rattle.boc_reader.proofs.ResolvingBodies.{CallsPass, block_keeps, body_made}
use Rattle.boc_reader.proofs.ResolvingOrder.{globals_end}

same_number : (a b : ℕ) → a ≡ b → IsTrue (nat_eq a b)
same_number a b h = grind (arith, nat_tests)

-- a def that takes these arguments and cowns
pub record TakesMade (o : Option Callee) (args cowns : ℕ) : Type 0 where
  pub def : Callee
  pub is : o ≡ Some def
  pub same_args : def.args ≡ args
  pub same_cowns : def.cowns ≡ cowns

counts : (x y : Bool) → (x && y) ≡ true → (x ≡ true) × (y ≡ true)
counts true y h = (refl, h)
counts false y h = absurd cc

number_same : (a b : ℕ) → nat_eq a b ≡ true → a ≡ b
number_same a b h = grind (arith, nat_tests)

takes_made : (o : Option Callee) (args cowns : ℕ) → takes o args cowns ≡ true → TakesMade o args cowns
takes_made None args cowns h = absurd cc
takes_made (Some d) args cowns h =
    let parts = counts (nat_eq d.args args) (nat_eq d.cowns cowns) h in
    record { def = d; is = refl; same_args = number_same d.args args parts.0; same_cowns = number_same d.cowns cowns parts.1 }

abbrev pub signature_for : Callee → Signature
signature_for d = record { args = d.args; cowns = d.cowns }

-- each def of the top has its signature at its kind
abbrev pub Knows : List Signature → Top → Type 0
Knows sigs top = (f : Named) (kind : ℕ) (d : Callee) → kind_of top f ≡ Some kind → callee top f ≡ Some d → slice_get sigs kind ≡ Some (signature_for d)

pub knows_defs : (main : Signature) (top : Top) → Knows (main ∷ map signature_for top.defs) top
knows_defs main top f kind d h e =
    let m = map_made suc (position (λ c. bytes_eq c.name f) top.defs) kind h in
    let there : slice_get top.defs m.value ≡ Some d =
    ap (option_and_then (slice_get top.defs)) (sym m.is) ∙ sym (find-position (λ c. bytes_eq c.name f) top.defs) ∙ e in
    subst (λ k. slice_get (main ∷ map signature_for top.defs) k ≡ Some (signature_for d)) m.gives
    (slice_get-map signature_for top.defs m.value ∙ ap (option_map signature_for) there)

-- a def's kind isn't main's
above_zero : (o : Option ℕ) (kind : ℕ) → option_map suc o ≡ Some kind → IsTrue (nat_lt 0 kind)
above_zero o kind h =
    let m = map_made suc o kind h in
    subst (λ (k : ℕ). IsTrue (nat_lt 0 k)) m.gives (below 0 (suc m.value) (omega arith))

call_passes : (sigs : List Signature) (most : ℕ) (outside : Outside) → Knows sigs outside.top → Allows most outside
    → CallsPass (call_fits sigs (length outside.held) most) outside
call_passes sigs most outside knows allows scope f es rs s made =
    let t = takes_made (callee outside.top f) (length es) (length rs) made.takes_them in
    let sig = knows f made.kind t.def made.kind_is t.is in
    let args = exprs_keep es scope made.args made.args_are in
    let refs = refs_keep rs outside scope most made.refs allows made.refs_are in
    let counted : IsTrue (counts_fit (Some (signature_for t.def)) made.args made.refs) =
    both _ _ (same_number (length made.args) t.def.args (args.many ∙ sym t.same_args))
    (same_number (length made.refs) t.def.cowns (refs.refs.many ∙ sym t.same_cowns)) in
    let of_def : IsTrue (nat_lt 0 made.kind) = above_zero (position (λ c. bytes_eq c.name f) outside.top.defs) made.kind made.kind_is in
    both _ _ of_def (both _ _ (subst (λ (o : Option Signature). IsTrue (counts_fit o made.args made.refs)) (sym sig) counted) refs.ends)

abbrev pub plain_calls : List Signature → ℕ → PlainBody → Bool
plain_calls sigs most b = whens_pass (call_fits sigs b.cown_params most) b.code

body_passes : (sigs : List Signature) (most : ℕ) (top : Top) (params held : List Named) (block : Block) (b : PlainBody) → Knows sigs top → most ≤ 256
    → EndWithin most top.cowns → IsSmallBlock block → body_names top params held block ≡ Some b → IsTrue (plain_calls sigs most b)
body_passes sigs most top params held block b knows few end small h =
    let m = body_made top params held block b h in
    let allows : Allows most (record { top = top; held = held }) = record { few = few; end = end } in
    let k = block_keeps block (call_fits sigs (length held) most) most (record { top = top; held = held }) (params ++ held) m.code
    (record { allows = allows; calls = call_passes sigs most (record { top = top; held = held }) knows allows }) small m.code_is in
    subst (λ (c : PlainBody). IsTrue (plain_calls sigs most c)) m.gives k.passes

defs_pass : (sigs : List Signature) (most : ℕ) (top : Top) (ds : List Def) (bs : List PlainBody) → Knows sigs top → most ≤ 256 → EndWithin most top.cowns
    → AreSmallDefs ds → all_names (def_names top) ds ≡ Some bs → IsTrue (every (map (plain_calls sigs most) bs))
defs_pass sigs most top [] bs knows few end small h =
    let same : [] ≡ bs = cc in
    subst (λ (l : List PlainBody). IsTrue (every (map (plain_calls sigs most) l))) same refl
defs_pass sigs most top (d ∷ ds) bs knows few end small h =
    let m = then_made _ (def_names top d) bs h in
    let g = map_made _ (all_names (def_names top) ds) bs m.gives in
    subst (λ (l : List PlainBody). IsTrue (every (map (plain_calls sigs most) l))) g.gives
    (both _ _ (body_passes sigs most top d.params d.cowns d.block m.value knows few end small.0.body.calls m.is)
    (defs_pass sigs most top ds g.value knows few end small.1 g.is))

abbrev pub plain_signature : PlainBody → Signature
plain_signature b = record { args = b.params; cowns = b.cown_params }

body_signature : (top : Top) (params held : List Named) (block : Block) (b : PlainBody) → body_names top params held block ≡ Some b
    → plain_signature b ≡ (let s : Signature = record { args = length params; cowns = length held } in s)
body_signature top params held block b h =
    let m = body_made top params held block b h in ap plain_signature (sym m.gives)

def_signatures : (top : Top) (ds : List Def) (bs : List PlainBody) → all_names (def_names top) ds ≡ Some bs
    → map plain_signature bs ≡ map signature_for (callees ds)
def_signatures top [] bs h = let same : [] ≡ bs = cc in ap (map plain_signature) (sym same)
def_signatures top (d ∷ ds) bs h =
    let m = then_made _ (def_names top d) bs h in
    let g = map_made _ (all_names (def_names top) ds) bs m.gives in
    ap (map plain_signature) (sym g.gives)
    ∙ ap (λ s. s ∷ map plain_signature g.value) (body_signature top d.params d.cowns d.block m.value m.is)
    ∙ ap (λ ss. signature_for (callee_for d) ∷ ss) (def_signatures top ds g.value g.is)

all_names-length : (top : Top) (ds : List Def) (bs : List PlainBody) → all_names (def_names top) ds ≡ Some bs → length bs ≡ length ds
all_names-length top [] bs h = let same : [] ≡ bs = cc in ap length (sym same)
all_names-length top (d ∷ ds) bs h =
    let m = then_made _ (def_names top d) bs h in
    let g = map_made _ (all_names (def_names top) ds) bs m.gives in
    ap length (sym g.gives) ∙ ap suc (all_names-length top ds g.value g.is)

-- The same of the program in memory.

abbrev pub plain_count : List PlainCown → ℕ
plain_count [] = 0
plain_count (c ∷ cs) = members c.size + plain_count cs

count_made : (cs : List Cown') → cown_count cs ≡ plain_count (map plain_declared cs)
count_made [] = refl
count_made (c ∷ cs) = ap (λ n. members c.size + n) (count_made cs)

-- whether each of several has a member
abbrev plain_members : List PlainCown → Bool
plain_members cs = every (map (λ c. nat_lt 0 (members c.size)) cs)

members_made : (cs : List Cown') → have_members cs ≡ plain_members (map plain_declared cs)
members_made [] = refl
members_made (c ∷ cs) = ap (λ b. nat_lt 0 (members c.size) && b) (members_made cs)

has_member : (size : Option ℕ) → HasMembers size → IsTrue (nat_lt 0 (members size))
has_member None h = refl
has_member (Some n) h = below 0 n (omega (arith, h))

members_declared : (cs : List Cown) → HaveMembers cs → IsTrue (plain_members (map plain_cown cs))
members_declared [] h = refl
members_declared (c ∷ cs) h = both _ _ (has_member c.size h.0) (members_declared cs h.1)

count_declared : (cs : List Cown) → cowns_declared cs ≡ plain_count (map plain_cown cs)
count_declared [] = refl
count_declared (c ∷ cs) = ap (λ n. members c.size + n) (count_declared cs)

abbrev pub plain_main : List PlainBody → Bool
plain_main [] = false
plain_main (b ∷ bs) = nat_eq b.params 0 && nat_eq b.cown_params 0

main_made : (bs : List Body) → has_main bs ≡ plain_main (map plain_body bs)
main_made [] = refl
main_made (b ∷ bs) = refl

signatures_made : (bs : List Body) → map signature_of bs ≡ map plain_signature (map plain_body bs)
signatures_made [] = refl
signatures_made (b ∷ bs) = ap (λ ss. signature_of b ∷ ss) (signatures_made bs)

calls_made : (sigs : List Signature) (most : ℕ) (bs : List Body)
    → every (map (calls_fit sigs most) bs) ≡ every (map (plain_calls sigs most) (map plain_body bs))
calls_made sigs most [] = refl
calls_made sigs most (b ∷ bs) = ap (λ x. calls_fit sigs most b && x) (calls_made sigs most bs)

abbrev pub plain_fits : ℕ → List PlainBody → Bool
plain_fits most bs = every (map (plain_calls (map plain_signature bs) most) bs)

fits_made : (most : ℕ) (bs : List Body) → every (map (calls_fit (map signature_of bs) most) bs) ≡ plain_fits most (map plain_body bs)
fits_made most bs = ap (λ sigs. every (map (calls_fit sigs most) bs)) (signatures_made bs) ∙ calls_made (map plain_signature (map plain_body bs)) most bs

-- main's body and those of the defs
bodies_fit : (t : Tree) (main : PlainBody) (defs : List PlainBody) → IsWithinLimits t → body_names (top_of t) [] [] t.main ≡ Some main
    → all_names (def_names (top_of t)) t.defs ≡ Some defs → IsTrue (plain_fits (cowns_declared t.cowns) (main ∷ defs))
bodies_fit t main defs limits h k =
    let knows : Knows (plain_signature main ∷ map plain_signature defs) (top_of t) =
    subst (λ (ss : List Signature). Knows (plain_signature main ∷ ss) (top_of t)) (sym (def_signatures (top_of t) t.defs defs k))
    (knows_defs (plain_signature main) (top_of t)) in
    let end = globals_end (cowns_declared t.cowns) 0 t.cowns (omega arith) in
    both _ _ (body_passes (plain_signature main ∷ map plain_signature defs) (cowns_declared t.cowns) (top_of t) [] [] t.main main knows limits.cowns end
    limits.small_main.calls h)
    (defs_pass (plain_signature main ∷ map plain_signature defs) (cowns_declared t.cowns) (top_of t) t.defs defs knows limits.cowns end limits.small_defs k)

main_takes_nothing : (t : Tree) (main : PlainBody) (defs : List PlainBody) → body_names (top_of t) [] [] t.main ≡ Some main → IsTrue (plain_main (main ∷ defs))
main_takes_nothing t main defs h =
    let m = body_made (top_of t) [] [] t.main main h in
    subst (λ (b : PlainBody). IsTrue (plain_main (b ∷ defs))) m.gives refl

-- the parts that a tree within the limits resolves to make a program
pub program_makes : (t : Tree) (cs : List Cown') (bs : List Body) → IsWithinLimits t
    → tree_names t ≡ Some (let p : PlainProgram = record { cowns = map plain_declared cs; bodies = map plain_body bs } in p) → MakesProgram cs bs
program_makes t cs bs limits h =
    let d = test_made (are_distinct (top_names (top_of t))) _ _ h in
    let m = then_made _ (body_names (top_of t) [] [] t.main) _ d.1 in
    let g = map_made _ (all_names (def_names (top_of t)) t.defs) _ m.gives in
    let same_cowns : map plain_cown t.cowns ≡ map plain_declared cs = ap (λ (p : PlainProgram). p.cowns) g.gives in
    let same_bodies : m.value ∷ g.value ≡ map plain_body bs = ap (λ (p : PlainProgram). p.bodies) g.gives in
    let count : cown_count cs ≡ cowns_declared t.cowns = count_made cs ∙ ap plain_count (sym same_cowns) ∙ sym (count_declared t.cowns) in
    let many : length bs ≡ suc (length g.value) = sym (length-map bs plain_body) ∙ ap length (sym same_bodies) in
    let defs = all_names-length (top_of t) t.defs g.value g.is in
    let few_cowns = limits.cowns in
    let few_defs = limits.defs in
    let whole = bodies_fit t m.value g.value limits m.is g.is in
    record {
      members = rw (members_made cs) (subst (λ (l : List PlainCown). IsTrue (plain_members l)) same_cowns (members_declared t.cowns limits.arrays));
      few_cowns = omega arith;
      few_defs = omega arith;
      main = rw (main_made bs) (subst (λ (l : List PlainBody). IsTrue (plain_main l)) same_bodies (main_takes_nothing t m.value g.value m.is));
      calls = rw (count, fits_made (cowns_declared t.cowns) bs)
          (subst (λ (l : List PlainBody). IsTrue (plain_fits (cowns_declared t.cowns) l)) same_bodies whole);
    }
