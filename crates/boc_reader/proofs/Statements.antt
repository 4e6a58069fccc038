-- Statements and blocks: their tokens are those of one only, and where a part isn't there, the whole isn't.
use Rattle.std.proofs.Common.{◌≡◌, ◌≢◌, ℕ, ◌+◌, ◌≤◌, List, [], ◌∷◌, Some, None, refl, sym, ap, ◌∙◌, arith}
use Rattle.boc_reader.specs.declared.terminal.Sign.{Sign}
use Rattle.boc_reader.specs.declared.terminal.Sign.TheVariants.{Semicolon, Close, OpenBlock, CloseBlock}
use Rattle.boc_reader.specs.declared.terminal.Keyword.TheVariants.{Let, Work, If, Else, Repeat, When}
use Rattle.boc_reader.specs.Tokens.{Token, name, sign, keyword}
use Rattle.boc_reader.specs.Shape.{Expr, Stmt, declare, assign, work, if_only, if_else, repeat, when, Block, done, next, stmt_tokens, block_tokens}
use Rattle.boc_reader.specs.Shape.{braced_tokens, stmt_nodes, block_nodes, IsSmallBlock, expr_tokens, each_tokens, list_tokens, list_nodes, ref_tokens}
use Rattle.boc_reader.specs.Phrases.{Ahead, NoneStands}
use Rattle.boc_reader.specs.Grammar.{NoSign, NoKeyword, EndsStmt, expr_phrase, closed_phrase, let_phrase, call_phrase, if_phrase, else_phrase, repeat_phrase}
use Rattle.boc_reader.specs.Grammar.{stmt_phrase, block_phrase, braced_phrase}
use Rattle.boc_reader.proofs.Refused.{OneReading}
use Rattle.boc_reader.proofs.Operators.{sign_ends}
use Rattle.boc_reader.proofs.Expressions.{one_expr}
use Rattle.boc_reader.proofs.Calls.{one_exprs, one_refs}
use Rattle.boc_reader.proofs.Each.{AllSmall, ReadEach}
use Rattle.boc_reader.proofs.Ended.{Stops, no_next}

no_else : (x : Stmt) (w : List Token) → NoKeyword Else (stmt_tokens x w)
no_else (declare x e) w r h = cc
no_else _ w r h = cc

-- a statement begins with no sign
no_stmt : (x : Stmt) (z : Sign) (w r : List Token) → stmt_tokens x w ≢ sign z ∷ r
no_stmt (declare x e) z w r h = cc
no_stmt _ z w r h = cc

next_stmt : (x y : Stmt) (w : List Token) → EndsStmt x (stmt_tokens y w)
next_stmt (if_only e b) y w = no_else y w
next_stmt x y w = tt

last_stmt : (x : Stmt) (r : List Token) → EndsStmt x (sign CloseBlock ∷ r)
last_stmt (if_only e b) r = λ after h. cc
last_stmt x r = tt

block_ends : (x : Stmt) (b : Block) (r : List Token) → EndsStmt x (block_tokens b (sign CloseBlock ∷ r))
block_ends x done r = last_stmt x r
block_ends x (next y b) r = next_stmt x y _

pub brace_ends : (x : Expr) (b : Block) (r : List Token) → expr_phrase.Ends x (braced_tokens b r)
brace_ends x b r = sign_ends OpenBlock refl x _

-- an expression, and the semicolon after it
one_ended : (e f : Expr) (r s : List Token) → expr_tokens e (sign Semicolon ∷ r) ≡ expr_tokens f (sign Semicolon ∷ s) → (e ≡ f) × (r ≡ s)
one_ended e f r s h =
    let u = one_expr e f (sign Semicolon ∷ r) (sign Semicolon ∷ s) (sign_ends Semicolon refl e r) (sign_ends Semicolon refl f s) h in
    let t = u.1 in
    (u.0, cc)

-- an expression, and what stands in the block after it
one_guard : (e f : Expr) (b c : Block) (r s : List Token) → expr_tokens e (braced_tokens b r) ≡ expr_tokens f (braced_tokens c s)
    → (e ≡ f) × (block_tokens b (sign CloseBlock ∷ r) ≡ block_tokens c (sign CloseBlock ∷ s))
one_guard e f b c r s h =
    let u = one_expr e f (braced_tokens b r) (braced_tokens c s) (brace_ends e b r) (brace_ends f c s) h in
    let t = u.1 in
    (u.0, cc)

mutual
  pub one_stmt : (x y : Stmt) (r s : List Token) → EndsStmt x r → EndsStmt y s → stmt_tokens x r ≡ stmt_tokens y s → (x ≡ y) × (r ≡ s)
  one_stmt (declare x e) (declare y f) r s p q h = let u = one_ended e f r s cc in let v = u.0 in (cc, u.1)
  one_stmt (assign x e) (assign y f) r s p q h = let u = one_ended e f r s cc in let v = u.0 in (cc, u.1)
  one_stmt (work e) (work f) r s p q h = let u = one_ended e f r s cc in (ap work u.0, u.1)
  one_stmt (if_only e b) (if_only f c) r s p q h =
      let u = one_guard e f b c r s cc in
      let v = u.0 in let k = one_block b c r s u.1 in let l = k.0 in
      (cc, k.1)
  one_stmt (if_only e b) (if_else f c d) r s p q h =
      absurd (p _ (one_block b c r (keyword Else ∷ braced_tokens d s) (one_guard e f b c r (keyword Else ∷ braced_tokens d s) cc).1).1)
  one_stmt (if_else e b d) (if_only f c) r s p q h =
      absurd (q _ (sym (one_block b c (keyword Else ∷ braced_tokens d r) s (one_guard e f b c (keyword Else ∷ braced_tokens d r) s cc).1).1))
  one_stmt (if_else e b d) (if_else f c g) r s p q h =
      let u = one_guard e f b c (keyword Else ∷ braced_tokens d r) (keyword Else ∷ braced_tokens g s) cc in
      let v = u.0 in let k = one_block b c (keyword Else ∷ braced_tokens d r) (keyword Else ∷ braced_tokens g s) u.1 in
      let l = k.0 in let m = k.1 in
      let n = one_block d g r s cc in
      let o = n.0 in
      (cc, n.1)
  one_stmt (repeat e b) (repeat f c) r s p q h =
      let u = one_guard e f b c r s cc in
      let v = u.0 in let k = one_block b c r s u.1 in let l = k.0 in
      (cc, k.1)
  one_stmt (when f es rs) (when g fs ss) r s p q h =
      let u = one_exprs es fs (list_tokens ref_tokens rs (sign Close ∷ sign Semicolon ∷ r)) (list_tokens ref_tokens ss (sign Close ∷ sign Semicolon ∷ s)) tt tt
      cc in
      let v = u.0 in let t = u.1 in
      let k = one_refs rs ss (sign Semicolon ∷ r) (sign Semicolon ∷ s) tt tt cc in
      let l = k.0 in let m = k.1 in
      (cc, cc)
  one_stmt x y r s p q h = absurd cc

  pub one_block : (b c : Block) (r s : List Token) → block_tokens b (sign CloseBlock ∷ r) ≡ block_tokens c (sign CloseBlock ∷ s) → (b ≡ c) × (r ≡ s)
  one_block done done r s h = (refl, cc)
  one_block done (next y c) r s h = absurd (no_stmt y CloseBlock _ r (sym h))
  one_block (next x b) done r s h = absurd (no_stmt x CloseBlock _ s h)
  one_block (next x b) (next y c) r s h =
      let u = one_stmt x y (block_tokens b (sign CloseBlock ∷ r)) (block_tokens c (sign CloseBlock ∷ s)) (block_ends x b r) (block_ends y c s) h in
      let v = u.0 in
      let k = one_block b c r s u.1 in
      let l = k.0 in
      (cc, k.1)

pub one_braced : OneReading braced_phrase
one_braced b c r s p q h = one_block b c r s cc

-- a block, as a list

stmts_of : Block → List Stmt
stmts_of done = []
stmts_of (next s b) = s ∷ stmts_of b

stmts_tokens : (b : Block) (r : List Token) → block_tokens b r ≡ each_tokens stmt_tokens (stmts_of b) r
unfolding stmts_of
stmts_tokens done r = refl
stmts_tokens (next s b) r = ap (stmt_tokens s) (stmts_tokens b r)

stmts_nodes : (b : Block) → list_nodes stmt_nodes (stmts_of b) ≡ block_nodes b
unfolding stmts_of
stmts_nodes done = refl
stmts_nodes (next s b) = ap (λ n. stmt_nodes s + n) (stmts_nodes b)

stmts_small : (b : Block) → IsSmallBlock b → AllSmall stmt_phrase (stmts_of b)
unfolding stmts_of
stmts_small done h = tt
stmts_small (next s b) h = (h.0, stmts_small b h.1)

close_stops : (r : List Token) → Stops stmt_phrase (sign CloseBlock ∷ r)
close_stops r = record { ends = λ x. last_stmt x r; none = λ x w h. no_stmt x CloseBlock w r (sym h) }

pub no_next_stmt : (old mid : Ahead) (xs : List Stmt) → ReadEach stmt_phrase old mid xs → NoSign CloseBlock mid.tokens → NoneStands stmt_phrase mid
    → NoneStands block_phrase old
no_next_stmt old mid xs so_far ajar none b r st =
    no_next stmt_phrase one_stmt next_stmt old mid xs (stmts_of b) (sign CloseBlock ∷ r) so_far none (close_stops r) (ajar r)
    (st.tokens ∙ stmts_tokens b _) (omega (arith, stmts_nodes b, st.fits)) (stmts_small b st.small)

-- what a statement begins with, and what follows

stmt_needs_room : (x : Stmt) → 1 ≤ stmt_nodes x
stmt_needs_room (declare x e) = omega arith
stmt_needs_room _ = omega arith

pub no_room_for_stmt : (old : Ahead) → old.room ≡ 0 → NoneStands stmt_phrase old
no_room_for_stmt old h x r st = omega (arith, stmt_needs_room x, st.fits)

module _ (old mid : Ahead) (n : 1 + mid.room ≡ old.room) where
  pub no_assign : (x : List ℕ) (after : List Token) → old.tokens ≡ name x ∷ after → mid.tokens ≡ old.tokens → NoneStands let_phrase mid
      → NoneStands stmt_phrase old
  no_assign y after e same none (assign x v) r st = none (x, v) r
      (record { tokens = same ∙ st.tokens; ends = tt; fits = omega (arith, st.fits); small = (tt, tt) })
  no_assign y after e same none x r st = let w = st.tokens in absurd cc

  pub no_let : old.tokens ≡ keyword Let ∷ mid.tokens → NoneStands let_phrase mid → NoneStands stmt_phrase old
  no_let e none (declare x v) r st = let w = st.tokens in none (x, v) r (record { tokens = cc; ends = tt; fits = omega (arith, st.fits); small = (tt, tt) })
  no_let e none x r st = let w = st.tokens in absurd cc

  pub no_work : old.tokens ≡ keyword Work ∷ mid.tokens → NoneStands (closed_phrase expr_phrase Semicolon) mid → NoneStands stmt_phrase old
  no_work e none (work v) r st = let w = st.tokens in none v r (record { tokens = cc; ends = tt; fits = omega (arith, st.fits); small = tt })
  no_work e none x r st = let w = st.tokens in absurd cc

  pub no_if : old.tokens ≡ keyword If ∷ mid.tokens → NoneStands if_phrase mid → NoneStands stmt_phrase old
  no_if e none (if_only v b) r st = let w = st.tokens in
      none (v, (b, None)) r (record { tokens = cc; ends = st.ends; fits = omega (arith, st.fits); small = (tt, (st.small, tt)) })
  no_if e none (if_else v b c) r st = let w = st.tokens in
      none (v, (b, Some c)) r (record { tokens = cc; ends = tt; fits = omega (arith, st.fits); small = (tt, (st.small.0, st.small.1)) })
  no_if e none x r st = let w = st.tokens in absurd cc

  pub no_repeat : old.tokens ≡ keyword Repeat ∷ mid.tokens → NoneStands repeat_phrase mid → NoneStands stmt_phrase old
  no_repeat e none (repeat v b) r st = let w = st.tokens in
      none (v, b) r (record { tokens = cc; ends = tt; fits = omega (arith, st.fits); small = (tt, st.small) })
  no_repeat e none x r st = let w = st.tokens in absurd cc

  pub no_when : old.tokens ≡ keyword When ∷ mid.tokens → NoneStands call_phrase mid → NoneStands stmt_phrase old
  no_when e none (when f es rs) r st = let w = st.tokens in
      none (f, (es, rs)) r (record { tokens = cc; ends = tt; fits = omega (arith, st.fits); small = st.small })
  no_when e none x r st = let w = st.tokens in absurd cc

pub no_other : (old mid : Ahead) → old.tokens ≡ keyword Else ∷ mid.tokens → mid.room ≡ old.room → NoneStands braced_phrase mid → NoneStands else_phrase old
no_other old mid e n none None r st = st.ends mid.tokens (sym st.tokens ∙ e)
no_other old mid e n none (Some b) r st = let w = st.tokens in none b r (record { tokens = cc; ends = tt; fits = omega (arith, st.fits); small = st.small })
