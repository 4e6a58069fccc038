-- Cowns, defs and whole texts: their tokens are those of one only, and where a part isn't there, the whole isn't.
use Rattle.std.proofs.Common.{◌≡◌, ◌≢◌, ℕ, Bool, true, false, List, [], ◌∷◌, Option, Some, None, refl, sym, ap, ◌∙◌, arith}
use Rattle.boc_reader.specs.declared.terminal.Sign.{Sign}
use Rattle.boc_reader.specs.declared.terminal.Sign.TheVariants.{Assign, Open, Close, Comma, Semicolon}
use Rattle.boc_reader.specs.declared.terminal.Keyword.TheVariants.{Cown as CownKeyword, Def as DefKeyword, Main}
use Rattle.boc_reader.specs.Tokens.{Token, name, number, sign, keyword}
use Rattle.boc_reader.specs.Shape.{Cown, Def, Tree, Block, def_tokens, each_tokens, braced_tokens, list_tokens, name_tokens, size_tokens, minus_tokens}
use Rattle.boc_reader.specs.Shape.{tree_tokens, HasShape}
use Rattle.boc_reader.specs.Phrases.{Ahead, Stands, NoneStands}
use Rattle.boc_reader.specs.Grammar.{NoKeyword, EndsSize, name_phrase, list_phrase, size_phrase, initial_phrase, cown_phrase, cowns_phrase, signature_phrase}
use Rattle.boc_reader.specs.Grammar.{body_phrase, def_phrase, defs_phrase, main_phrase}
use Rattle.boc_reader.proofs.Refused.{OneReading}
use Rattle.boc_reader.proofs.Each.{ReadEach}
use Rattle.boc_reader.proofs.Ended.{one_keyword, no_next_keyword}
use Rattle.boc_reader.proofs.Listed.{one_list}
use Rattle.boc_reader.proofs.Items.{names_readable}
use Rattle.boc_reader.proofs.Blocks.{names_nodes, length-list}
use Rattle.boc_reader.proofs.Statements.{one_braced}

-- cowns

one_size : OneReading size_phrase
one_size None None r s p q e = (refl, e)
one_size None (Some n) r s p q e = absurd (p _ e)
one_size (Some n) None r s p q e = absurd (q _ (sym e))
one_size (Some n) (Some m) r s p q e = (cc, cc)

size_ends : (n : Option ℕ) (w : List Token) → EndsSize n (sign Assign ∷ w)
size_ends None w = λ after e. cc
size_ends (Some n) w = tt

one_minus : (a b : Bool) (n m : ℕ) (r s : List Token) → minus_tokens a (number n ∷ sign Semicolon ∷ r) ≡ minus_tokens b (number m ∷ sign Semicolon ∷ s)
    → (a ≡ b) × (n ≡ m) × (r ≡ s)
one_minus false false n m r s e = (refl, cc, cc)
one_minus true true n m r s e = (refl, cc, cc)
one_minus a b n m r s e = absurd cc

pub no_initial : (old sized mid : Ahead) (f : List ℕ) (n : Option ℕ) → old.tokens ≡ keyword CownKeyword ∷ name f ∷ sized.tokens
    → Stands size_phrase sized n mid.tokens → NoneStands initial_phrase mid → NoneStands cown_phrase old
no_initial old sized mid f n e item none c r st =
    let rest = sign Assign ∷ minus_tokens c.negative (number c.value ∷ sign Semicolon ∷ r) in
    let w = st.tokens in
    let same : sized.tokens ≡ size_tokens c.size rest = cc in
    let u = one_size n c.size mid.tokens rest item.ends (size_ends c.size _) (sym item.tokens ∙ same) in
    none (c.negative, c.value) r (record { tokens = u.1; ends = tt; fits = omega arith; small = tt })

one_cown : OneReading cown_phrase
one_cown x y r s p q e =
    let rest = sign Assign ∷ minus_tokens x.negative (number x.value ∷ sign Semicolon ∷ r) in
    let others = sign Assign ∷ minus_tokens y.negative (number y.value ∷ sign Semicolon ∷ s) in
    let f : x.name ≡ y.name = cc in
    let same : size_tokens x.size rest ≡ size_tokens y.size others = cc in
    let u = one_size x.size y.size rest others (size_ends x.size _) (size_ends y.size _) same in
    let k = u.1 in
    let v = one_minus x.negative y.negative x.value y.value r s cc in
    let by_name : x ≡ record { name = y.name; size = x.size; negative = x.negative; value = x.value } =
    ap (λ (n : List ℕ). let c : Cown = record { name = n; size = x.size; negative = x.negative; value = x.value } in c) f in
    let by_size = ap (λ (n : Option ℕ). let c : Cown = record { name = y.name; size = n; negative = x.negative; value = x.value } in c) u.0 in
    let by_sign = ap (λ (b : Bool). let c : Cown = record { name = y.name; size = y.size; negative = b; value = x.value } in c) v.0 in
    let by_value = ap (λ (n : ℕ). let c : Cown = record { name = y.name; size = y.size; negative = y.negative; value = n } in c) v.1 in
    (by_name ∙ by_size ∙ by_sign ∙ by_value, v.2)

one_cowns : OneReading cowns_phrase
one_cowns = one_keyword cown_phrase CownKeyword one_cown (λ _ _. tt) (λ _ _. (_, refl))

pub no_next_cown : (old mid : Ahead) (xs : List Cown) (after : List Token) → ReadEach cown_phrase old mid xs → mid.tokens ≡ keyword CownKeyword ∷ after
    → NoneStands cown_phrase mid → NoneStands cowns_phrase old
no_next_cown old mid xs after so_far e none ys r st =
    no_next_keyword cown_phrase CownKeyword one_cown (λ _ _. tt) (λ _ _. (_, refl)) old mid xs ys after r so_far e none st.ends st.tokens st.fits st.small

-- defs

pub one_names : (close : Sign) → close ≢ Comma → OneReading (list_phrase name_phrase close)
one_names close h x y r s p q e = one_list name_phrase close (names_readable close h) x y r s e

pub no_params : (old mid : Ahead) (f : List ℕ) → old.tokens ≡ name f ∷ sign Open ∷ mid.tokens → NoneStands (list_phrase name_phrase Semicolon) mid
    → NoneStands signature_phrase old
no_params old mid f e none s r st =
    let w = st.tokens in
    none s.1.0 (list_tokens name_tokens s.1.1 (sign Close ∷ r)) (record { tokens = cc; ends = tt; fits = omega (arith, names_nodes s.1.0); small = st.small.0 })

pub no_held : (old mid end : Ahead) (f : List ℕ) (ps : List (List ℕ)) → old.tokens ≡ name f ∷ sign Open ∷ mid.tokens
    → Stands (list_phrase name_phrase Semicolon) mid ps end.tokens → NoneStands (list_phrase name_phrase Close) end → NoneStands signature_phrase old
no_held old mid end f ps e item none s r st =
    let rest = list_tokens name_tokens s.1.1 (sign Close ∷ r) in
    let w = st.tokens in
    let same : mid.tokens ≡ list_tokens name_tokens s.1.0 (sign Semicolon ∷ rest) = cc in
    let u = one_names Semicolon (λ e. cc) ps s.1.0 end.tokens rest tt tt (sym item.tokens ∙ same) in
    none s.1.1 r (record { tokens = u.1; ends = tt; fits = omega (arith, names_nodes s.1.1); small = st.small.1 })

one_signature : OneReading signature_phrase
one_signature x y r s p q e =
    let rest = list_tokens name_tokens x.1.1 (sign Close ∷ r) in
    let others = list_tokens name_tokens y.1.1 (sign Close ∷ s) in
    let f : x.0 ≡ y.0 = cc in
    let same : list_tokens name_tokens x.1.0 (sign Semicolon ∷ rest) ≡ list_tokens name_tokens y.1.0 (sign Semicolon ∷ others) = cc in
    let u = one_names Semicolon (λ e. cc) x.1.0 y.1.0 rest others tt tt same in
    let v = one_names Close (λ e. cc) x.1.1 y.1.1 r s tt tt u.1 in
    (ap (λ (n : List ℕ). (n, x.1)) f ∙ ap (λ (ns : List (List ℕ)). (y.0, (ns, x.1.1))) u.0 ∙ ap (λ (ns : List (List ℕ)). (y.0, (y.1.0, ns))) v.0, v.1)

pub no_signature : (old mid : Ahead) → old.tokens ≡ keyword DefKeyword ∷ mid.tokens → NoneStands signature_phrase mid → NoneStands def_phrase old
no_signature old mid e none d r st =
    let w = st.tokens in
    none (d.name, (d.params, d.cowns)) (braced_tokens d.block r)
    (record { tokens = cc; ends = tt; fits = omega arith; small = (st.small.params, st.small.cowns) })

pub no_body : (old mid end : Ahead) (s : List ℕ × (List (List ℕ) × List (List ℕ))) → old.tokens ≡ keyword DefKeyword ∷ mid.tokens
    → Stands signature_phrase mid s end.tokens → NoneStands body_phrase end → NoneStands def_phrase old
no_body old mid end s e item none d r st =
    let w = st.tokens in
    let same : mid.tokens ≡ signature_phrase.tokens (d.name, (d.params, d.cowns)) (braced_tokens d.block r) = cc in
    let u = one_signature s (d.name, (d.params, d.cowns)) end.tokens (braced_tokens d.block r) tt tt (sym item.tokens ∙ same) in
    none d.block r (record { tokens = u.1; ends = tt; fits = omega arith; small = st.small.body })

one_def : OneReading def_phrase
one_def x y r s p q e =
    let same : signature_phrase.tokens (x.name, (x.params, x.cowns)) (braced_tokens x.block r)
    ≡ signature_phrase.tokens (y.name, (y.params, y.cowns)) (braced_tokens y.block s) = cc in
    let u = one_signature (x.name, (x.params, x.cowns)) (y.name, (y.params, y.cowns)) (braced_tokens x.block r) (braced_tokens y.block s) tt tt same in
    let v = one_braced x.block y.block r s tt tt u.1 in (
      ap (λ (w : List ℕ × (List (List ℕ) × List (List ℕ))). let d : Def = record { name = w.0; params = w.1.0; cowns = w.1.1; block = x.block } in d) u.0
          ∙ ap (λ (b : Block). let d : Def = record { name = y.name; params = y.params; cowns = y.cowns; block = b } in d) v.0,
      v.1,
    )

one_defs : OneReading defs_phrase
one_defs = one_keyword def_phrase DefKeyword one_def (λ _ _. tt) (λ _ _. (_, refl))

pub no_next_def : (old mid : Ahead) (xs : List Def) (after : List Token) → ReadEach def_phrase old mid xs → mid.tokens ≡ keyword DefKeyword ∷ after
    → NoneStands def_phrase mid → NoneStands defs_phrase old
no_next_def old mid xs after so_far e none ys r st =
    no_next_keyword def_phrase DefKeyword one_def (λ _ _. tt) (λ _ _. (_, refl)) old mid xs ys after r so_far e none st.ends st.tokens
    (omega (arith, length-list ys, st.fits)) st.small

-- whole texts

pub no_end : (old mid end : Ahead) (b : Block) → old.tokens ≡ keyword Main ∷ mid.tokens → Stands body_phrase mid b end.tokens → end.tokens ≢ []
    → NoneStands main_phrase old
no_end old mid end b e item none c r st =
    let w = st.tokens in
    let same : mid.tokens ≡ braced_tokens c r = cc in
    none ((one_braced b c end.tokens r tt tt (sym item.tokens ∙ same)).1 ∙ st.ends)

no_cown_in : (ds : List Def) (r : List Token) → NoKeyword CownKeyword (each_tokens def_tokens ds (keyword Main ∷ r))
no_cown_in [] r after e = cc
no_cown_in (d ∷ ds) r after e = cc

no_def_in : (r : List Token) → NoKeyword DefKeyword (keyword Main ∷ r)
no_def_in r after e = cc

pub no_cowns : (ws : List Token) (first : Ahead) → first.tokens ≡ ws → first.room ≡ 256 → NoneStands cowns_phrase first → (t : Tree) → HasShape ws t → ⊥
no_cowns ws first e n none t has =
    let k = has.limits.cowns in
    none t.cowns (each_tokens def_tokens t.defs (keyword Main ∷ braced_tokens t.main []))
    (record { tokens = e ∙ has.tokens_are; ends = no_cown_in t.defs _; fits = omega arith; small = has.limits.arrays })

behind_cowns : (ws : List Token) (first : Ahead) (cs : List Cown) (w : List Token) → first.tokens ≡ ws → Stands cowns_phrase first cs w → (t : Tree)
    → HasShape ws t → w ≡ each_tokens def_tokens t.defs (keyword Main ∷ braced_tokens t.main [])
behind_cowns ws first cs w e item t has =
    (one_cowns cs t.cowns w (each_tokens def_tokens t.defs (keyword Main ∷ braced_tokens t.main [])) item.ends (no_cown_in t.defs _)
    (sym item.tokens ∙ e ∙ has.tokens_are)).1

pub no_defs : (ws : List Token) (first mid second : Ahead) (cs : List Cown) → first.tokens ≡ ws → Stands cowns_phrase first cs mid.tokens
    → second.tokens ≡ mid.tokens → second.room ≡ 64 → NoneStands defs_phrase second → (t : Tree) → HasShape ws t → ⊥
no_defs ws first mid second cs e item same n none t has =
    let k = has.limits.defs in
    none t.defs (keyword Main ∷ braced_tokens t.main [])
    (record { tokens = same ∙ behind_cowns ws first cs mid.tokens e item t has; ends = no_def_in _; fits = omega arith; small = has.limits.small_defs })

pub no_main : (ws : List Token) (first mid second third : Ahead) (cs : List Cown) (ds : List Def) → first.tokens ≡ ws → Stands cowns_phrase first cs mid.tokens
    → second.tokens ≡ mid.tokens → Stands defs_phrase second ds third.tokens → NoneStands main_phrase third → (t : Tree) → HasShape ws t → ⊥
no_main ws first mid second third cs ds e item same other none t has =
    let behind = behind_cowns ws first cs mid.tokens e item t has in
    none t.main []
    (record {
      tokens = (one_defs ds t.defs third.tokens (keyword Main ∷ braced_tokens t.main []) other.ends (no_def_in _) (sym other.tokens ∙ same ∙ behind)).1;
      ends = refl;
      fits = omega arith;
      small = has.limits.small_main;
    })

one_main : OneReading main_phrase
one_main b c r s p q e = one_braced b c r s tt tt cc

-- tokens are those of one tree only
pub one_tree : (t u : Tree) → tree_tokens t ≡ tree_tokens u → t ≡ u
one_tree t u e =
    let at_t = keyword Main ∷ braced_tokens t.main [] in
    let at_u = keyword Main ∷ braced_tokens u.main [] in
    let a = one_cowns t.cowns u.cowns (each_tokens def_tokens t.defs at_t) (each_tokens def_tokens u.defs at_u) (no_cown_in t.defs _) (no_cown_in u.defs _) e in
    let b = one_defs t.defs u.defs at_t at_u (no_def_in _) (no_def_in _) a.1 in
    let c = one_main t.main u.main [] [] refl refl b.1 in
    ap (λ (cs : List Cown). let v : Tree = record { cowns = cs; defs = t.defs; main = t.main } in v) a.0
    ∙ ap (λ (ds : List Def). let v : Tree = record { cowns = u.cowns; defs = ds; main = t.main } in v) b.0
    ∙ ap (λ (m : Block). let v : Tree = record { cowns = u.cowns; defs = u.defs; main = m } in v) c.0
