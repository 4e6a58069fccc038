-- Resolved expressions and references keep what their trees keep.
use Rattle.std.proofs.Common.{◌≡◌, ℕ, suc, ◌+◌, ◌<◌, ◌≤◌, Bool, true, false, List, [], ◌∷◌, map, length, Option, Some, None, IsTrue, refl, ap, subst, arith}
use Rattle.std.proofs.Common.{cond}
use Rattle.std.specs.Prelude.{find, is_some, if◌then◌else◌, pos}
use Rattle.std.specs.Str.{bytes_eq}
use Rattle.std.specs.Option.{option_map}
use Rattle.std.proofs.lemmas.List.Quantifiers.{position-Some}
use Rattle.boc_program.specs.Syntax.{CownRef, Held, Single, Member, Negate, Binary, Slot, Number}
use Rattle.boc_program.specs.Syntax as resolved
use Rattle.boc_program.specs.Sizes.{members}
use Rattle.boc_reader.specs.Shape.{Expr, plain, compared, Sum, one_term, more_terms, Term, one_factor, more_factors, Unary, negated, unsigned, Atom, literal}
use Rattle.boc_reader.specs.Shape.{variable, parens, NamedCown, alone, member, list_nodes}
use Rattle.boc_reader.specs.Shape as shape
use Rattle.boc_program.specs.Resolved.{every, ref_fits, ref_nodes}
use Rattle.boc_program.specs.Signatures.{ref_below}
use Rattle.boc_reader.specs.Names.{Named, Left, Global, Outside, joined, slot_of, adds, multiplies, compares, expr_names, sum_names, term_names, unary_names}
use Rattle.boc_reader.specs.Names.{atom_names, all_names, ref_names, global, single, member_of, held_or_single}
use Rattle.boc_reader.specs.Resolving.{EndWithin}
use Rattle.boc_reader.proofs.ResolvingKeeps.{then_made, map_made, both, below, at_most, ExprKeeps, ExprsKeep, CownRefsKeep, left_nodes, left_fits}

-- what stands to the left names slots below k
abbrev pub LeftKeeps : ℕ → Left → Type 0
LeftKeeps k left = (n : ℕ) → k ≤ n → IsTrue (left_fits n left)

joined_keeps : (k j : ℕ) (left : Left) (e : resolved.SlotExpr) → LeftKeeps k left → ExprKeeps k j e → ExprKeeps k (left_nodes left + j) (joined left e)
joined_keeps k j None e l x = record { within = x.within; few = let h = x.few in omega arith }
joined_keeps k j (Some p) e l x =
    record { within = λ n a. both _ _ (l n a) (x.within n a); few = let h = x.few in omega arith }

negate_keeps : (k j : ℕ) (e : resolved.SlotExpr) → ExprKeeps k j e → ExprKeeps k (1 + j) (Negate e)
negate_keeps k j e x = record { within = x.within; few = let h = x.few in omega arith }

wider : (k i j : ℕ) (e : resolved.SlotExpr) → i ≤ j → ExprKeeps k i e → ExprKeeps k j e
wider k i j e h x = record { within = x.within; few = let g = x.few in omega arith }

-- nothing stands to the left
bare : {k j : ℕ} {e : resolved.SlotExpr} → ExprKeeps k (0 + j) e → ExprKeeps k j e
bare x = record { within = x.within; few = let g = x.few in omega arith }

pub slot_below : (scope : List Named) (x : Named) (i : ℕ) → slot_of scope x ≡ Some i → i < length scope
slot_below scope x i h = (position-Some (λ y. bytes_eq y x) scope i [] h).0

mutual
  pub expr_keeps : (x : Expr) (scope : List Named) (e : resolved.SlotExpr) → expr_names x scope ≡ Some e → ExprKeeps (length scope) (shape.expr_nodes x) e
  expr_keeps (plain s) scope e h = bare (sum_keeps s scope None e (λ n a. refl) h)
  expr_keeps (compared s op t) scope e h =
      let m = then_made _ (sum_names s scope None) e h in
      let g = map_made _ (sum_names t scope None) e m.gives in
      let x = bare (sum_keeps s scope None m.value (λ n a. refl) m.is) in
      let y = bare (sum_keeps t scope None g.value (λ n a. refl) g.is) in
      let z : ExprKeeps (length scope) (shape.expr_nodes (compared s op t)) (Binary (compares op) m.value g.value) =
      record { within = λ n a. both _ _ (x.within n a) (y.within n a); few = let p = x.few in let q = y.few in omega arith } in
      subst (ExprKeeps (length scope) (shape.expr_nodes (compared s op t))) g.gives z

  sum_keeps : (x : Sum) (scope : List Named) (left : Left) (e : resolved.SlotExpr) → LeftKeeps (length scope) left → sum_names x scope left ≡ Some e
      → ExprKeeps (length scope) (left_nodes left + shape.sum_nodes x) e
  sum_keeps (one_term t) scope left e l h =
      let m = map_made (joined left) (term_names t scope None) e h in
      subst (ExprKeeps (length scope) (left_nodes left + shape.term_nodes t)) m.gives
      (joined_keeps (length scope) (shape.term_nodes t) left m.value l (bare (term_keeps t scope None m.value (λ n a. refl) m.is)))
  sum_keeps (more_terms t op s) scope left e l h =
      let m = then_made _ (term_names t scope None) e h in
      let x = joined_keeps (length scope) (shape.term_nodes t) left m.value l (bare (term_keeps t scope None m.value (λ n a. refl) m.is)) in
      let y = sum_keeps s scope (Some (joined left m.value, adds op)) e x.within m.gives in
      wider _ _ _ e (let p = x.few in omega arith) y

  term_keeps : (x : Term) (scope : List Named) (left : Left) (e : resolved.SlotExpr) → LeftKeeps (length scope) left → term_names x scope left ≡ Some e
      → ExprKeeps (length scope) (left_nodes left + shape.term_nodes x) e
  term_keeps (one_factor u) scope left e l h =
      let m = map_made (joined left) (unary_names u scope) e h in
      subst (ExprKeeps (length scope) (left_nodes left + shape.unary_nodes u)) m.gives
      (joined_keeps (length scope) (shape.unary_nodes u) left m.value l (unary_keeps u scope m.value m.is))
  term_keeps (more_factors u op t) scope left e l h =
      let m = then_made _ (unary_names u scope) e h in
      let x = joined_keeps (length scope) (shape.unary_nodes u) left m.value l (unary_keeps u scope m.value m.is) in
      let y = term_keeps t scope (Some (joined left m.value, multiplies op)) e x.within m.gives in
      wider _ _ _ e (let p = x.few in omega arith) y

  unary_keeps : (x : Unary) (scope : List Named) (e : resolved.SlotExpr) → unary_names x scope ≡ Some e → ExprKeeps (length scope) (shape.unary_nodes x) e
  unary_keeps (negated u) scope e h =
      let m = map_made Negate (unary_names u scope) e h in
      subst (ExprKeeps (length scope) (1 + shape.unary_nodes u)) m.gives (negate_keeps _ _ _ (unary_keeps u scope m.value m.is))
  unary_keeps (unsigned a) scope e h = atom_keeps a scope e h

  atom_keeps : (x : Atom) (scope : List Named) (e : resolved.SlotExpr) → atom_names x scope ≡ Some e → ExprKeeps (length scope) (shape.atom_nodes x) e
  atom_keeps (literal n) scope e h =
      let same : Number (pos n) ≡ e = cc in
      subst (ExprKeeps (length scope) 1) same (record { within = λ n a. refl; few = omega arith })
  atom_keeps (variable x) scope e h =
      let m = map_made Slot (slot_of scope x) e h in
      let lt = slot_below scope x m.value m.is in
      subst (ExprKeeps (length scope) 1) m.gives (record { within = λ n a. below m.value n (omega arith); few = omega arith })
  atom_keeps (parens x) scope e h =
      wider _ _ _ e (omega arith) (expr_keeps x scope e h)

-- several expressions

pub exprs_keep : (xs : List Expr) (scope : List Named) (es : List resolved.SlotExpr) → all_names (λ e. expr_names e scope) xs ≡ Some es
    → ExprsKeep (length scope) (length xs) (list_nodes shape.expr_nodes xs) es
exprs_keep [] scope es h =
    let same : [] ≡ es = cc in
    subst (ExprsKeep (length scope) 0 0) same (record { many = refl; within = λ n a. refl; few = omega arith })
exprs_keep (x ∷ xs) scope es h =
    let m = then_made _ (expr_names x scope) es h in
    let g = map_made _ (all_names (λ e. expr_names e scope) xs) es m.gives in
    let p = expr_keeps x scope m.value m.is in
    let q = exprs_keep xs scope g.value g.is in
    let z : ExprsKeep (length scope) (length (x ∷ xs)) (list_nodes shape.expr_nodes (x ∷ xs)) (m.value ∷ g.value) =
    record { many = ap suc q.many; within = λ n a. both _ _ (p.within n a) (q.within n a); few = let i = p.few in let j = q.few in omega arith } in
    subst (ExprsKeep (length scope) (length (x ∷ xs)) (list_nodes shape.expr_nodes (x ∷ xs))) g.gives z

-- references

-- a reference names a cown that is there, and slots below k
pub record CownRefKeeps (held most k j : ℕ) (p : CownRef) : Type 0 where
  pub within : (n : ℕ) → k ≤ n → IsTrue (ref_fits (record { slots = n; cowns = held }) p)
  pub few : ref_nodes p ≤ j
  pub ends : IsTrue (ref_below held most p)

found_within : (b : Bool) (most : ℕ) (g c : Global) (o : Option Global) → (o ≡ Some c → c.first + members c.size ≤ most) → g.first + members g.size ≤ most
    → cond b (Some g) o ≡ Some c → c.first + members c.size ≤ most
found_within true most g c o rest h e = let same : g ≡ c = cc in subst (λ (d : Global). d.first + members d.size ≤ most) same h
found_within false most g c o rest h e = rest e

pub global_within : (most : ℕ) (gs : List Global) (x : Named) (c : Global) → EndWithin most gs → find (λ g. bytes_eq g.name x) gs ≡ Some c
    → c.first + members c.size ≤ most
global_within most [] x c h e = absurd cc
global_within most (g ∷ gs) x c h e =
    found_within (bytes_eq g.name x) most g c (find (λ g. bytes_eq g.name x) gs) (λ f. global_within most gs x c h.1 f) h.0 e

single_made : (held most k first : ℕ) (size : Option ℕ) (p : CownRef) → most ≤ 256 → first + members size ≤ most
    → (if is_some size then None else Some (Single first)) ≡ Some p → CownRefKeeps held most k 1 p
single_made held most k first (Some n) p h w e = absurd cc
single_made held most k first None p h w e =
    let same : Single first ≡ p = cc in
    subst (CownRefKeeps held most k 1) same (record { within = λ n a. below first 256 (omega arith); few = omega arith; ends = below first most (omega arith) })

member_made : (held most k j first : ℕ) (size : Option ℕ) (index : resolved.SlotExpr) (p : CownRef) → most ≤ 256 → first + members size ≤ most
    → ExprKeeps k j index → option_map (λ n. Member first n index) size ≡ Some p → CownRefKeeps held most k (1 + j) p
member_made held most k j first None index p h w x e = absurd cc
member_made held most k j first (Some n) index p h w x e =
    let same : Member first n index ≡ p = cc in
    subst (CownRefKeeps held most k (1 + j)) same (record {
      within = λ m a. both _ _ (at_most (first + n) 256 (omega arith)) (x.within m a);
      few = let f = x.few in omega arith;
      ends = at_most (first + n) most (omega arith);
    })

single_keeps : (held most k : ℕ) (o : Option Global) (p : CownRef) → most ≤ 256 → ((c : Global) → o ≡ Some c → c.first + members c.size ≤ most)
    → single o ≡ Some p → CownRefKeeps held most k 1 p
single_keeps held most k None p h w e = absurd cc
single_keeps held most k (Some g) p h w e = single_made held most k g.first g.size p h (w g refl) e

member_keeps : (held most k j : ℕ) (o : Option Global) (index : resolved.SlotExpr) (p : CownRef) → most ≤ 256
    → ((c : Global) → o ≡ Some c → c.first + members c.size ≤ most) → ExprKeeps k j index → member_of o index ≡ Some p → CownRefKeeps held most k (1 + j) p
member_keeps held most k j None index p h w x e = absurd cc
member_keeps held most k j (Some g) index p h w x e = member_made held most k j g.first g.size index p h (w g refl) x e

alone_keeps : (held : List Named) (x : Named) (i : Option ℕ) (most k : ℕ) (o : Option Global) (p : CownRef) → slot_of held x ≡ i → most ≤ 256
    → ((c : Global) → o ≡ Some c → c.first + members c.size ≤ most) → held_or_single i o ≡ Some p → CownRefKeeps (length held) most k 1 p
alone_keeps held x None most k o p s h w e = single_keeps (length held) most k o p h w e
alone_keeps held x (Some i) most k o p s h w e =
    let same : Held i ≡ p = cc in
    let lt = slot_below held x i s in
    subst (CownRefKeeps (length held) most k 1) same (record { within = λ n a. below i (length held) lt; few = omega arith; ends = below i (length held) lt })

-- where a body stands: every cown ends at `most` at the latest
pub record Allows (most : ℕ) (outside : Outside) : Type 0 where
  pub few : most ≤ 256
  pub end : EndWithin most outside.top.cowns

pub ref_keeps : (r : NamedCown) (outside : Outside) (scope : List Named) (most : ℕ) (p : CownRef) → Allows most outside → ref_names outside scope r ≡ Some p
    → CownRefKeeps (length outside.held) most (length scope) (shape.ref_nodes r) p
ref_keeps (alone x) outside scope most p a h =
    alone_keeps outside.held x (slot_of outside.held x) most (length scope) (global outside.top x) p refl a.few
    (λ c f. global_within most outside.top.cowns x c a.end f) h
ref_keeps (member x e) outside scope most p a h =
    let m = then_made _ (expr_names e scope) p h in
    member_keeps (length outside.held) most (length scope) (shape.expr_nodes e) (global outside.top x) m.value p a.few
    (λ c f. global_within most outside.top.cowns x c a.end f) (expr_keeps e scope m.value m.is) m.gives

-- several references, each of which is below `most`
pub record RefsKeep (held most k l j : ℕ) (ps : List CownRef) : Type 0 where
  pub refs : CownRefsKeep held k l j ps
  pub ends : IsTrue (every (map (ref_below held most) ps))

pub refs_keep : (rs : List NamedCown) (outside : Outside) (scope : List Named) (most : ℕ) (ps : List CownRef) → Allows most outside
    → all_names (ref_names outside scope) rs ≡ Some ps → RefsKeep (length outside.held) most (length scope) (length rs) (list_nodes shape.ref_nodes rs) ps
refs_keep [] outside scope most ps a h =
    let same : [] ≡ ps = cc in
    subst (RefsKeep (length outside.held) most (length scope) 0 0) same
    (record { refs = record { many = refl; within = λ n b. refl; few = omega arith }; ends = refl })
refs_keep (r ∷ rs) outside scope most ps a h =
    let m = then_made _ (ref_names outside scope r) ps h in
    let g = map_made _ (all_names (ref_names outside scope) rs) ps m.gives in
    let p = ref_keeps r outside scope most m.value a m.is in
    let q = refs_keep rs outside scope most g.value a g.is in
    let z : RefsKeep (length outside.held) most (length scope) (length (r ∷ rs)) (list_nodes shape.ref_nodes (r ∷ rs)) (m.value ∷ g.value) =
    record {
      refs = record {
        many = ap suc q.refs.many;
        within = λ n b. both _ _ (p.within n b) (q.refs.within n b);
        few = let i = p.few in let j = q.refs.few in
            omega arith;
      };
      ends = both _ _ p.ends q.ends;
    } in
    subst (RefsKeep (length outside.held) most (length scope) (length (r ∷ rs)) (list_nodes shape.ref_nodes (r ∷ rs))) g.gives z
