-- Resolved blocks keep what their trees keep, and bodies fit.
use Rattle.std.proofs.Common.{◌≡◌, ℕ, ◌+◌, ◌≤◌, true, List, [], ◌∷◌, ◌++◌, length, Some, IsTrue, refl, sym, ap, ◌∙◌, subst, arith, length-append}
use Rattle.boc_program.specs.Syntax.{Code, Done, If}
use Rattle.boc_program.specs.Syntax as resolved
use Rattle.boc_reader.specs.Shape.{Expr, NamedCown, Stmt, declare, assign, work, if_only, if_else, repeat, when, Block, done, next, list_nodes, IsSmallStmt}
use Rattle.boc_reader.specs.Shape.{IsSmallBlock, IsSmallBody}
use Rattle.boc_reader.specs.Shape as shape
use Rattle.boc_program.specs.Signatures.{Test}
use Rattle.boc_program.specs.Parts.{MakesBody}
use Rattle.boc_reader.specs.Names.{Named, Top, Outside, ResolvedStmt, Spawn, then_code, slot_of, expr_names, all_names, ref_names, kind_of, callee, takes}
use Rattle.boc_reader.specs.Names.{call_names, is_free, stmt_names, block_names, deepest, PlainBody, are_free, body_names}
use Rattle.boc_reader.specs.Resolving.{EndWithin}
use Rattle.boc_reader.proofs.ResolvingKeeps.{then_made, map_made, test_made, CodeKeeps, keeps_done, keeps_let, keeps_assign, keeps_work, keeps_if, keeps_repeat}
use Rattle.boc_reader.proofs.ResolvingKeeps.{keeps_when, deepest-max}
use Rattle.boc_reader.proofs.ResolvingExprs.{slot_below, expr_keeps, exprs_keep, Allows, refs_keep}

-- what a resolved call was made from
pub record CallMade (outside : Outside) (scope : List Named) (f : Named) (es : List Expr) (rs : List NamedCown) (s : ResolvedStmt) : Type 0 where
  pub takes_them : takes (callee outside.top f) (length es) (length rs) ≡ true
  pub kind : ℕ
  pub kind_is : kind_of outside.top f ≡ Some kind
  pub args : List resolved.SlotExpr
  pub args_are : all_names (λ e. expr_names e scope) es ≡ Some args
  pub refs : List resolved.CownRef
  pub refs_are : all_names (ref_names outside scope) rs ≡ Some refs
  pub gives : Spawn kind args refs ≡ s

pub call_made : (outside : Outside) (scope : List Named) (f : Named) (es : List Expr) (rs : List NamedCown) (s : ResolvedStmt)
    → call_names outside scope f es rs ≡ Some s → CallMade outside scope f es rs s
call_made outside scope f es rs s h =
    let t = test_made (takes (callee outside.top f) (length es) (length rs)) _ s h in
    let k = then_made _ (kind_of outside.top f) s t.1 in
    let a = then_made _ (all_names (λ e. expr_names e scope) es) s k.gives in
    let p = map_made _ (all_names (ref_names outside scope) rs) s a.gives in
    record { takes_them = t.0; kind = k.value; kind_is = k.is; args = a.value; args_are = a.is; refs = p.value; refs_are = p.is; gives = p.gives }

-- each call of a body passes
abbrev pub CallsPass : Test → Outside → Type 0
CallsPass test outside =
    (scope : List Named) (f : Named) (es : List Expr) (rs : List NamedCown) (s : ResolvedStmt) (made : CallMade outside scope f es rs s)
    → IsTrue (test made.kind made.args made.refs)

-- where a body stands, and how its calls are tested
pub record Around (test : Test) (most : ℕ) (outside : Outside) : Type 0 where
  pub allows : Allows most outside
  pub calls : CallsPass test outside

mutual
  pub stmt_keeps : (x : Stmt) (test : Test) (most : ℕ) (outside : Outside) (scope : List Named) (y : ResolvedStmt × List Named) (m : ℕ) (rest : Code)
      → Around test most outside → IsSmallStmt x → stmt_names x outside scope ≡ Some y → CodeKeeps test (length outside.held) (length y.1) m rest
      → CodeKeeps test (length outside.held) (length scope) (shape.stmt_nodes x + m) (then_code y.0 rest)
  stmt_keeps (declare x e) test most outside scope y m rest a s h r =
      let t = test_made (is_free outside.top scope x) _ y h in
      let v = map_made _ (expr_names e scope) y t.1 in
      let longer : length y.1 ≡ length scope + 1 = ap (λ (z : ResolvedStmt × List Named). length z.1) (sym v.gives) ∙ length-append scope (x ∷ []) in
      subst (λ (z : ResolvedStmt × List Named). CodeKeeps test (length outside.held) (length scope) (shape.stmt_nodes (declare x e) + m) (then_code z.0 rest))
      v.gives
      (keeps_let test (length outside.held) (length scope) (shape.expr_nodes e) m v.value rest (expr_keeps e scope v.value v.is)
      (subst (λ k. CodeKeeps test (length outside.held) k m rest) longer r))
  stmt_keeps (assign x e) test most outside scope y m rest a s h r =
      let i = then_made _ (slot_of scope x) y h in
      let v = map_made _ (expr_names e scope) y i.gives in
      subst (λ (z : ResolvedStmt × List Named). CodeKeeps test (length outside.held) (length scope) (shape.stmt_nodes (assign x e) + m) (then_code z.0 rest))
      v.gives
      (keeps_assign test (length outside.held) (length scope) (shape.expr_nodes e) m i.value v.value rest (slot_below scope x i.value i.is)
      (expr_keeps e scope v.value v.is) (subst (λ (z : ResolvedStmt × List Named). CodeKeeps test (length outside.held) (length z.1) m rest) (sym v.gives)
      r))
  stmt_keeps (work e) test most outside scope y m rest a s h r =
      let v = map_made _ (expr_names e scope) y h in
      subst (λ (z : ResolvedStmt × List Named). CodeKeeps test (length outside.held) (length scope) (shape.stmt_nodes (work e) + m) (then_code z.0 rest))
      v.gives
      (keeps_work test (length outside.held) (length scope) (shape.expr_nodes e) m v.value rest (expr_keeps e scope v.value v.is)
      (subst (λ (z : ResolvedStmt × List Named). CodeKeeps test (length outside.held) (length z.1) m rest) (sym v.gives) r))
  stmt_keeps (if_only e b) test most outside scope y m rest a s h r =
      let v = then_made _ (expr_names e scope) y h in
      let p = map_made _ (block_names b outside scope) y v.gives in
      let q = keeps_if test (length outside.held) (length scope) (shape.expr_nodes e) (shape.block_nodes b) 0 m v.value p.value Done rest
      (expr_keeps e scope v.value v.is) (block_keeps b test most outside scope p.value a s p.is) (keeps_done test (length outside.held) (length scope))
      (subst (λ (z : ResolvedStmt × List Named). CodeKeeps test (length outside.held) (length z.1) m rest) (sym p.gives) r) in
      subst (λ (z : ResolvedStmt × List Named). CodeKeeps test (length outside.held) (length scope) (shape.stmt_nodes (if_only e b) + m) (then_code z.0 rest))
      p.gives
      (subst (λ k. CodeKeeps test (length outside.held) (length scope) k (If v.value p.value Done rest)) (omega arith) q)
  stmt_keeps (if_else e b c) test most outside scope y m rest a s h r =
      let v = then_made _ (expr_names e scope) y h in
      let p = then_made _ (block_names b outside scope) y v.gives in
      let o = map_made _ (block_names c outside scope) y p.gives in
      subst (λ (z : ResolvedStmt × List Named). CodeKeeps test (length outside.held) (length scope) (shape.stmt_nodes (if_else e b c) + m) (then_code z.0 rest))
      o.gives
      (keeps_if test (length outside.held) (length scope) (shape.expr_nodes e) (shape.block_nodes b) (shape.block_nodes c) m v.value p.value o.value rest
      (expr_keeps e scope v.value v.is) (block_keeps b test most outside scope p.value a s.0 p.is)
      (block_keeps c test most outside scope o.value a s.1 o.is)
      (subst (λ (z : ResolvedStmt × List Named). CodeKeeps test (length outside.held) (length z.1) m rest) (sym o.gives) r))
  stmt_keeps (repeat e b) test most outside scope y m rest a s h r =
      let v = then_made _ (expr_names e scope) y h in
      let p = map_made _ (block_names b outside scope) y v.gives in
      subst (λ (z : ResolvedStmt × List Named). CodeKeeps test (length outside.held) (length scope) (shape.stmt_nodes (repeat e b) + m) (then_code z.0 rest))
      p.gives
      (keeps_repeat test (length outside.held) (length scope) (shape.expr_nodes e) (shape.block_nodes b) m v.value p.value rest
      (expr_keeps e scope v.value v.is) (block_keeps b test most outside scope p.value a s p.is)
      (subst (λ (z : ResolvedStmt × List Named). CodeKeeps test (length outside.held) (length z.1) m rest) (sym p.gives) r))
  stmt_keeps (when f es rs) test most outside scope y m rest a s h r =
      let v = map_made _ (call_names outside scope f es rs) y h in
      let c = call_made outside scope f es rs v.value v.is in
      let x = exprs_keep es scope c.args c.args_are in
      let p = refs_keep rs outside scope most c.refs a.allows c.refs_are in
      let k = keeps_when test (length outside.held) (length scope) (length es) (length rs) (list_nodes shape.expr_nodes es) (list_nodes shape.ref_nodes rs) m
      c.kind c.args c.refs rest s.0 s.1 x p.refs (a.calls scope f es rs v.value c)
      (subst (λ (z : ResolvedStmt × List Named). CodeKeeps test (length outside.held) (length z.1) m rest) (sym v.gives) r) in
      subst (λ (z : ResolvedStmt × List Named). CodeKeeps test (length outside.held) (length scope) (shape.stmt_nodes (when f es rs) + m) (then_code z.0 rest))
      v.gives
      (subst (λ z. CodeKeeps test (length outside.held) (length scope) (shape.stmt_nodes (when f es rs) + m) (then_code z rest)) c.gives k)

  pub block_keeps : (x : Block) (test : Test) (most : ℕ) (outside : Outside) (scope : List Named) (c : Code) → Around test most outside → IsSmallBlock x
      → block_names x outside scope ≡ Some c → CodeKeeps test (length outside.held) (length scope) (shape.block_nodes x) c
  block_keeps done test most outside scope c a s h =
      let same : Done ≡ c = cc in
      subst (CodeKeeps test (length outside.held) (length scope) 0) same (keeps_done test (length outside.held) (length scope))
  block_keeps (next x b) test most outside scope c a s h =
      let y = then_made _ (stmt_names x outside scope) c h in
      let r = map_made _ (block_names b outside y.value.1) c y.gives in
      subst (CodeKeeps test (length outside.held) (length scope) (shape.block_nodes (next x b))) r.gives
      (stmt_keeps x test most outside scope y.value (shape.block_nodes b) r.value a s.0 y.is (block_keeps b test most outside y.value.1 r.value a s.1 r.is))

-- a body with its code resolved
pub record BodyMade (top : Top) (params held : List Named) (block : Block) (b : PlainBody) : Type 0 where
  pub code : Code
  pub code_is : block_names block (record { top = top; held = held }) (params ++ held) ≡ Some code
  pub gives : (let p : PlainBody = record { params = length params; cown_params = length held; slots = deepest (length (params ++ held)) code; code = code } in
      p) ≡ b

pub body_made : (top : Top) (params held : List Named) (block : Block) (b : PlainBody) → body_names top params held block ≡ Some b
    → BodyMade top params held block b
body_made top params held block b h =
    let t = test_made (are_free top [] (params ++ held)) _ b h in
    let c = map_made _ (block_names block (record { top = top; held = held }) (params ++ held)) b t.1 in
    record { code = c.value; code_is = c.is; gives = c.gives }

any_call : (outside : Outside) → CallsPass (λ kind args refs. true) outside
any_call outside scope f es rs s made = refl

code_makes : (params held : List Named) (block : Block) (c : Code) → length params ≤ 8 → length held ≤ 8 → shape.block_nodes block ≤ 1000
    → CodeKeeps (λ kind args refs. true) (length held) (length (params ++ held)) (shape.block_nodes block) c
    → MakesBody (length params) (length held) (deepest (length (params ++ held)) c) c
code_makes params held block c p q n k =
    let few = k.few in
    let deep = k.deep in
    let slots = deepest-max (length (params ++ held)) c in
    let both = length-append params held in
    record {
      few_params = p;
      few_cowns = q;
      few_slots = omega arith;
      parameters_are_slots = omega arith;
      few_nodes = omega arith;
      resolved = k.within (deepest (length (params ++ held)) c) (omega arith) (omega arith);
    }

-- what a block within the limits resolves to fits in a body
pub code_fits : (top : Top) (params held : List Named) (block : Block) (c : Code) → length params ≤ 8 → length held ≤ 8 → IsSmallBody block
    → EndWithin 256 top.cowns → block_names block (record { top = top; held = held }) (params ++ held) ≡ Some c
    → MakesBody (length params) (length held) (deepest (length (params ++ held)) c) c
code_fits top params held block c p q small end h =
    code_makes params held block c p q small.nodes
    (block_keeps block (λ kind args refs. true) 256 (record { top = top; held = held }) (params ++ held) c
    (record { allows = record { few = omega arith; end = end }; calls = any_call (record { top = top; held = held }) }) small.calls h)
