-- Where the names of defs stand.
use Rattle.std.proofs.Common.{◌≡◌, ℕ, zero, suc, ◌+◌, ◌-◌, ◌<◌, ◌≤◌, ◌⊎◌, inl, inr, List, [], ◌∷◌, ◌++◌, length, get_or, map, take, drop}
use Rattle.std.proofs.Common.{sym, ap, ◌∙◌, subst, arith}
use Rattle.std.proofs.lemmas.List.{drop-map, get_or_append_left, get_or_push, length-map, length-take-le, length_push, map_more, map_push}
use Rattle.boc_reader.specs.Tokens.{Token}
use Rattle.boc_reader.specs.Shape.{Block, Def, Tree, HasShape, def_tokens, each_tokens, tree_tokens}
use Rattle.boc_reader.specs.Placed.{ArePlaced, BeginsAt, position_of, token_of, tokens_of}
use Rattle.boc_reader.specs.Views.{block_of, def_of, tree_of}
use Rattle.boc_reader.specs.Listing.{AreLeft, AreLines, IsLineOf, from_name, main_tokens, signature_of}
use Rattle.boc_reader.specs.Listed.{listed}
use Rattle.boc_reader.specs.declared.listing.DefListing.{DefListing}
use Rattle.boc_reader.specs.declared.shape.DefShape.{DefShape}
use Rattle.boc_reader.specs.declared.shape.Tree.{Tree as DefTree}
use Rattle.boc_reader.specs.declared.token.Placed.{Placed}
use Rattle.boc_reader.proofs.Tails.{Tail, tail_drop, tail_short, tail_more, tail_next, tail_self, tree_tail}

-- the tokens left at a def
pub left_at : (ds : List DefShape) (rest : List Token) (k : ℕ) (d : DefShape) → AreLeft ds rest → k < length ds → d ≡ get_or ds k d
    → length (each_tokens def_tokens (drop k (map def_of ds)) rest) ≡ d.left + 1
left_at [] rest k d left small is = absurd (omega arith)
left_at (e ∷ es) rest zero d left small is = left.0 ∙ ap (λ (x : DefShape). x.left + 1) (sym is)
left_at (e ∷ es) rest (suc k) d left small is = left_at es rest k d left.1 (omega arith) is

-- a token of those that are placed
placed_at : (text : List ℕ) (ps : List Placed) (i : ℕ) → ArePlaced text ps → i < length ps → BeginsAt text (position_of (drop i ps)) (tokens_of (drop i ps))
placed_at text [] i placed small = absurd (omega arith)
placed_at text (p ∷ ps) zero placed small = placed.0
placed_at text (p ∷ ps) (suc i) placed small = placed_at text ps i placed.1 (omega arith)

-- the defs from one on begin with a keyword, after which its name stands
name_tail : (ds : List Def) (main : Block) (k : ℕ) → k < length ds
    → Tail (from_name (drop k ds) main) (each_tokens def_tokens (drop k ds) (main_tokens main))
name_tail [] main k small = absurd (omega arith)
name_tail (d ∷ ds) main zero small = tail_next _ (tail_self _)
name_tail (d ∷ ds) main (suc k) small = name_tail ds main k (omega arith)

name_length : (ds : List Def) (main : Block) (k left : ℕ) → k < length ds → length (each_tokens def_tokens (drop k ds) (main_tokens main)) ≡ left + 1
    → length (from_name (drop k ds) main) ≡ left
name_length [] main k left small is = absurd (omega arith)
name_length (d ∷ ds) main zero left small is = omega (arith, is)
name_length (d ∷ ds) main (suc k) left small is = name_length ds main k left (omega arith) is

-- a def of a tree with these tokens has so many left at its name
pub record HasLeft (ps : List Placed) (t : Tree) (k left : ℕ) : Type 0 where
  pub there : k < length t.defs
  pub count : length (each_tokens def_tokens (drop k t.defs) (main_tokens t.main)) ≡ left + 1
  pub some : 0 < left
  pub within : left ≤ length ps

some_left : (ds : List Def) (main : Block) (k left : ℕ) → k < length ds → length (each_tokens def_tokens (drop k ds) (main_tokens main)) ≡ left + 1 → 0 < left
some_left [] main k left small is = absurd (omega arith)
some_left (d ∷ ds) main zero left small is = omega (arith, is)
some_left (d ∷ ds) main (suc k) left small is = some_left ds main k left (omega arith) is

pub has_left : (ps : List Placed) (tree : DefTree) (k : ℕ) (d : DefShape) → HasShape (tokens_of ps) (tree_of tree)
    → AreLeft tree.defs.items (main_tokens (block_of tree.main.items)) → k < length tree.defs.items → d ≡ get_or tree.defs.items k d
    → HasLeft ps (tree_of tree) k d.left
has_left ps tree k d shape left small is =
    let t = tree_of tree in
    let there : k < length t.defs = omega (arith, small, length-map tree.defs.items def_of) in
    let count = left_at tree.defs.items (main_tokens t.main) k d left small is in
    let short = tail_short (from_name (drop k t.defs) t.main) (tree_tokens t) (tail_more (tree_tail t k) (name_tail t.defs t.main k there)) in
    record {
      there = there;
      count = count;
      some = some_left t.defs t.main k d.left there count;
      within = omega (arith, short, name_length t.defs t.main k d.left there count, ap length shape.tokens_are, length-map ps (λ p. token_of p.token));
    }

-- its name begins at the token from which on so many are left
pub name_at : (text : List ℕ) (ps : List Placed) (t : Tree) (k left : ℕ) → HasShape (tokens_of ps) t → ArePlaced text ps → HasLeft ps t k left
    → BeginsAt text (position_of (drop (length ps - left) ps)) (from_name (drop k t.defs) t.main)
name_at text ps t k left shape placed has =
    let i = length ps - left in
    let name = from_name (drop k t.defs) t.main in
    let tail = tail_drop name (tree_tokens t) (tail_more (tree_tail t k) (name_tail t.defs t.main k has.there)) in
    let count : length (tree_tokens t) - length name ≡ i =
    omega (arith, name_length t.defs t.main k left has.there has.count, ap length shape.tokens_are, length-map ps (λ p. token_of p.token)) in
    let same : name ≡ tokens_of (drop i ps) =
    tail ∙ ap (λ n. drop n (tree_tokens t)) count ∙ ap (drop i) (sym shape.tokens_are) ∙ drop-map (λ p. token_of p.token) i ps in
    subst (BeginsAt text (position_of (drop i ps))) (sym same) (placed_at text ps i placed (omega (arith, has.some, has.within)))

-- the line of a def more
pub line_more : (text : List ℕ) (defs : List Def) (main : Block) (lines : List ℕ) (line : ℕ) → AreLines text defs main lines
    → IsLineOf text (drop (length lines) defs) main line
    → AreLines text defs main (lines ++ line ∷ [])
line_more text defs main lines line are is k small =
    elim (below_or_at k (length lines) (omega (arith, small, length_push lines line))) [
      | inl before ↦ subst (IsLineOf text (drop k defs) main) (sym (get_or_append_left lines (line ∷ []) 0 k before)) (are k before)
      | inr at ↦ subst (IsLineOf text (drop k defs) main) (sym (get_or_push lines line 0 k (sym at)))
          (subst (λ (n : ℕ). IsLineOf text (drop n defs) main line) (sym at) is)
    ]
  where
    below_or_at : (k n : ℕ) → k < n + 1 → (k < n) ⊎ (k ≡ n)
    below_or_at k n h = grind arith

-- a def more is listed
pub listed_more : (made : List DefListing) (defs : List DefShape) (i : ℕ) (one : DefListing) (d : DefShape) → i < length defs → d ≡ get_or defs i d
    → map listed made ≡ map signature_of (map def_of (take i defs)) → listed one ≡ signature_of (def_of d)
    → map listed (made ++ one ∷ []) ≡ map signature_of (map def_of (take (i + 1) defs))
listed_more made defs i one d small is so_far same =
    map_push listed made one ∙ ap (λ ls. ls ++ listed one ∷ []) so_far
    ∙ ap (λ l. map signature_of (map def_of (take i defs)) ++ l ∷ []) (same ∙ ap (λ x. signature_of (def_of x)) is)
    ∙ sym (ap (map signature_of) (map_more def_of defs i d small) ∙ map_push signature_of (map def_of (take i defs)) (def_of (get_or defs i d)))

-- so many are listed
pub listed_count : (made : List DefListing) (defs : List DefShape) (i : ℕ) → i ≤ length defs → map listed made ≡ map signature_of (map def_of (take i defs))
    → length (map (λ d. d.line) made) ≡ i
listed_count made defs i small so_far =
    length-map made (λ d. d.line) ∙ sym (length-map made listed) ∙ ap length so_far ∙ length-map (map def_of (take i defs)) signature_of
    ∙ length-map (take i defs) def_of ∙ length-take-le i defs small
