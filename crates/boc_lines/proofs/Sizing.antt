-- The table of block sizes: it has those of each statement at its number.
use Rattle.std.proofs.Common.{◌≡◌, ℕ, zero, suc, ◌+◌, ◌*◌, ◌-◌, ◌≤◌, ◌<◌, List, [], ◌∷◌, ◌++◌, refl, sym, ap, ◌∙◌, subst, arith, append_assoc, append-nil, length, Some}
use Rattle.std.proofs.Common.{get_or, take, drop}
use Rattle.std.specs.Prelude.{slice_get}
use Rattle.std.proofs.lemmas.List.{length-append, take_rest}
use Rattle.boc_program.specs.declared.body.Body.{Body}
use Rattle.boc_program.specs.declared.body.Stmt.{Stmt}
use Rattle.boc_program.specs.declared.body.Stmt.TheVariants as stmt
use Rattle.boc_program.specs.Syntax.{Code, Done, Assign, Work, If, Repeat, When, code_size}
use Rattle.boc_program.specs.memory.View.{before, code_of}
use Rattle.boc_program.proofs.Followed.{then_positive, then_size}
use Rattle.boc_lines.specs.Replays.{start_of}
use Rattle.boc_lines.specs.Sizes.{AreSized, IsSized, no_blocks, sizes_of, sizes_of_bodies}
use Rattle.boc_lines.specs.declared.sizes.BlockSizes.{BlockSizes}
use Rattle.boc_lines.proofs.Numbering.{if_shift, repeat_shift}

-- ---- statements, one after another

-- the sizes of a statement, and then those of what follows it
pub sizes_before : (s : Stmt) (rest : Code) → sizes_of (before s rest) ≡ sizes_of (before s Done) ++ sizes_of rest
sizes_before (stmt.Assign slot e) rest = refl
sizes_before (stmt.Work e) rest = refl
sizes_before (stmt.If e a b) rest =
    ap (λ (xs : List BlockSizes). (record { first = code_size a; second = code_size b }) ∷ xs)
    (ap (λ (xs : List BlockSizes). sizes_of a ++ (xs ++ sizes_of rest)) (sym (append-nil (sizes_of b)))
    ∙ sym (append_assoc (sizes_of a) (sizes_of b ++ []) (sizes_of rest)))
sizes_before (stmt.Repeat e a) rest =
    ap (λ (xs : List BlockSizes). (record { first = code_size a; second = 0 }) ∷ (xs ++ sizes_of rest)) (sym (append-nil (sizes_of a)))
sizes_before (stmt.When kind args refs) rest = refl

-- a statement that is followed by others
first_sized : (sizes : List BlockSizes) (s : Stmt) (rest : Code) (k : ℕ) → AreSized sizes (before s rest) k → AreSized sizes (before s Done) k
first_sized sizes (stmt.Assign slot e) rest k h = (h.0, tt)
first_sized sizes (stmt.Work e) rest k h = (h.0, tt)
first_sized sizes (stmt.If e a b) rest k h = (h.0, h.1, h.2, tt)
first_sized sizes (stmt.Repeat e a) rest k h = (h.0, h.1, tt)
first_sized sizes (stmt.When kind args refs) rest k h = (h.0, tt)

-- and those that follow it
rest_sized : (sizes : List BlockSizes) (s : Stmt) (rest : Code) (k : ℕ) → AreSized sizes (before s rest) k
    → AreSized sizes rest (k + code_size (before s Done))
rest_sized sizes (stmt.Assign slot e) rest k h = h.1
rest_sized sizes (stmt.Work e) rest k h = h.1
rest_sized sizes (stmt.If e a b) rest k h = subst (AreSized sizes rest) (if_shift k (code_size a) (code_size b)) h.3
rest_sized sizes (stmt.Repeat e a) rest k h = subst (AreSized sizes rest) (repeat_shift k (code_size a)) h.2
rest_sized sizes (stmt.When kind args refs) rest k h = h.1

-- the same of a list
pub item_sized : (sizes : List BlockSizes) (ss : List Stmt) (s : Stmt) (k : ℕ) → 1 ≤ length ss → s ≡ get_or ss 0 s → AreSized sizes (code_of ss) k
    → AreSized sizes (before s Done) k
item_sized sizes [] s k long is h = absurd (omega arith)
item_sized sizes (z ∷ zs) s k long is h =
    subst (λ (x : Stmt). AreSized sizes (before x Done) k) (sym is) (first_sized sizes z (code_of zs) k h)

pub others_sized : (sizes : List BlockSizes) (ss : List Stmt) (s : Stmt) (k last : ℕ) → 1 ≤ length ss → s ≡ get_or ss 0 s
    → last ≡ k + code_size (before s Done) → AreSized sizes (code_of ss) k → AreSized sizes (code_of (take (length ss - 1) (drop 1 ss))) last
others_sized sizes [] s k last long is last_is h = absurd (omega arith)
others_sized sizes (z ∷ zs) s k last long is last_is h =
    subst (λ (xs : List Stmt). AreSized sizes (code_of xs) last) (sym (take_rest (z ∷ zs) 1))
    (subst (AreSized sizes (code_of zs)) (sym (last_is ∙ ap (λ (x : Stmt). k + code_size (before x Done)) is)) (rest_sized sizes z (code_of zs) k h))

-- a statement has no number past those of all, nor have those that follow it
pub item_few : (ss : List Stmt) (s : Stmt) (k : ℕ) → 1 ≤ length ss → s ≡ get_or ss 0 s → k + code_size (code_of ss) < 4294967296
    → k + code_size (before s Done) < 4294967296
item_few [] s k long is few = absurd (omega arith)
item_few (z ∷ zs) s k long is few =
    subst (λ (x : Stmt). k + code_size (before x Done) < 4294967296) (sym is) (omega (arith, few, then_size z (code_of zs)))

pub others_few : (ss : List Stmt) (s : Stmt) (k last : ℕ) → 1 ≤ length ss → s ≡ get_or ss 0 s → last ≡ k + code_size (before s Done)
    → k + code_size (code_of ss) < 4294967296 → last + code_size (code_of (take (length ss - 1) (drop 1 ss))) < 4294967296
others_few [] s k last long is last_is few = absurd (omega arith)
others_few (z ∷ zs) s k last long is last_is few =
    subst (λ (xs : List Stmt). last + code_size (code_of xs) < 4294967296) (sym (take_rest (z ∷ zs) 1))
    (omega (arith, few, then_size z (code_of zs), last_is, ap (λ (x : Stmt). code_size (before x Done)) is))

-- it is no more statements than all, and those that follow it are fewer
pub item_less : (ss : List Stmt) (s : Stmt) → 1 ≤ length ss → s ≡ get_or ss 0 s → 8 * code_size (before s Done) < 8 * code_size (code_of ss) + 2
item_less [] s long is = absurd (omega arith)
item_less (z ∷ zs) s long is =
    subst (λ (x : Stmt). 8 * code_size (before x Done) < 8 * code_size (code_of (z ∷ zs)) + 2) (sym is) (omega (arith, then_size z (code_of zs)))

pub others_less : (ss : List Stmt) → 1 ≤ length ss → 8 * code_size (code_of (take (length ss - 1) (drop 1 ss))) + 2 < 8 * code_size (code_of ss) + 2
others_less [] long = absurd (omega arith)
others_less (z ∷ zs) long =
    subst (λ (xs : List Stmt). 8 * code_size (code_of xs) + 2 < 8 * code_size (code_of (z ∷ zs)) + 2) (sym (take_rest (z ∷ zs) 1))
    (omega (arith, then_size z (code_of zs), then_positive z))

-- ---- one statement

-- the sizes of the blocks of a statement, and of the statement itself
pub record HasSize (sizes : List BlockSizes) (s : Stmt) (k : ℕ) : Type 0 where
  pub first : ℕ
  pub second : ℕ
  pub is : IsSized sizes k first second
  pub size : code_size (before s Done) ≡ first + second + 1

pub has_size : (sizes : List BlockSizes) (s : Stmt) (k : ℕ) → AreSized sizes (before s Done) k → HasSize sizes s k
has_size sizes (stmt.Assign slot e) k h = record { first = 0; second = 0; is = h.0; size = refl }
has_size sizes (stmt.Work e) k h = record { first = 0; second = 0; is = h.0; size = refl }
has_size sizes (stmt.If e a b) k h = record { first = code_size a; second = code_size b; is = h.0; size = omega arith }
has_size sizes (stmt.Repeat e a) k h = record { first = code_size a; second = 0; is = h.0; size = omega arith }
has_size sizes (stmt.When kind args refs) k h = record { first = 0; second = 0; is = h.0; size = refl }

-- ---- the table

there : (xs ys : List BlockSizes) (a : BlockSizes) → slice_get (xs ++ (a ∷ ys)) (length xs) ≡ Some a
there [] ys a = refl
there (x ∷ xs) ys a = there xs ys a

sizes_long : (c : Code) → length (sizes_of c) ≡ code_size c
sizes_long Done = refl
sizes_long (Assign slot e rest) = omega (arith, sizes_long rest)
sizes_long (Work e rest) = omega (arith, sizes_long rest)
sizes_long (If e a b rest) =
    omega (
      arith,
      sizes_long a,
      sizes_long b,
      sizes_long rest,
      length-append (sizes_of a) (sizes_of b ++ sizes_of rest),
      length-append (sizes_of b) (sizes_of rest),
    )
sizes_long (Repeat e a rest) = omega (arith, sizes_long a, sizes_long rest, length-append (sizes_of a) (sizes_of rest))
sizes_long (When kind args refs rest) = omega (arith, sizes_long rest)

module _ (sizes : List BlockSizes) where
  at_place : (xs ys : List BlockSizes) (a : BlockSizes) (k : ℕ) → sizes ≡ xs ++ (a ∷ ys) → k ≡ length xs → slice_get sizes k ≡ Some a
  at_place xs ys a k is at = ap (λ (zs : List BlockSizes). slice_get zs k) is ∙ ap (slice_get (xs ++ (a ∷ ys))) at ∙ there xs ys a

  -- one more in front
  one_on : (xs ys : List BlockSizes) (a : BlockSizes) → sizes ≡ xs ++ (a ∷ ys) → sizes ≡ (xs ++ (a ∷ [])) ++ ys
  one_on xs ys a is = is ∙ sym (append_assoc xs (a ∷ []) ys)

  place_on : (xs : List BlockSizes) (a : BlockSizes) (k : ℕ) → k ≡ length xs → k + 1 ≡ length (xs ++ (a ∷ []))
  place_on xs a k at = omega (arith, at, length-append xs (a ∷ []))

  -- those of a block more in front
  block_on : (xs ys zs : List BlockSizes) → sizes ≡ xs ++ ((ys) ++ zs) → sizes ≡ (xs ++ ys) ++ zs
  block_on xs ys zs is = is ∙ sym (append_assoc xs ys zs)

  block_place : (xs : List BlockSizes) (c : Code) (k : ℕ) → k ≡ length xs → k + code_size c ≡ length (xs ++ sizes_of c)
  block_place xs c k at = omega (arith, at, length-append xs (sizes_of c), sizes_long c)

  -- a table with the sizes of statements at their numbers
  pub are_sized : (c : Code) (xs ys : List BlockSizes) (k : ℕ) → sizes ≡ xs ++ (sizes_of c ++ ys) → k ≡ length xs → AreSized sizes c k
  are_sized Done xs ys k is at = tt
  are_sized (Assign slot e rest) xs ys k is at = (
    at_place xs (sizes_of rest ++ ys) no_blocks k is at,
    are_sized rest (xs ++ (no_blocks ∷ [])) ys (k + 1) (one_on xs (sizes_of rest ++ ys) no_blocks is) (place_on xs no_blocks k at),
  )
  are_sized (Work e rest) xs ys k is at = (
    at_place xs (sizes_of rest ++ ys) no_blocks k is at,
    are_sized rest (xs ++ (no_blocks ∷ [])) ys (k + 1) (one_on xs (sizes_of rest ++ ys) no_blocks is) (place_on xs no_blocks k at),
  )
  are_sized (If e a b rest) xs ys k is at =
      let own : BlockSizes = record { first = code_size a; second = code_size b } in
      let inner = xs ++ (own ∷ []) in
      let split : (sizes_of a ++ (sizes_of b ++ sizes_of rest)) ++ ys ≡ sizes_of a ++ (sizes_of b ++ (sizes_of rest ++ ys)) =
      append_assoc (sizes_of a) (sizes_of b ++ sizes_of rest) ys
      ∙ ap (λ (zs : List BlockSizes). sizes_of a ++ zs) (append_assoc (sizes_of b) (sizes_of rest) ys) in
      let here : sizes ≡ inner ++ (sizes_of a ++ (sizes_of b ++ (sizes_of rest ++ ys))) =
      one_on xs ((sizes_of a ++ (sizes_of b ++ sizes_of rest)) ++ ys) own is ∙ ap (λ (zs : List BlockSizes). inner ++ zs) split in
      let first = place_on xs own k at in
      let second = block_place inner a (k + 1) first in
      let third = block_place (inner ++ sizes_of a) b (k + 1 + code_size a) second in
      let other = block_on inner (sizes_of a) (sizes_of b ++ (sizes_of rest ++ ys)) here in (
        at_place xs ((sizes_of a ++ (sizes_of b ++ sizes_of rest)) ++ ys) own k is at,
        are_sized a inner (sizes_of b ++ (sizes_of rest ++ ys)) (k + 1) here first,
        are_sized b (inner ++ sizes_of a) (sizes_of rest ++ ys) (k + 1 + code_size a) other second,
        are_sized rest ((inner ++ sizes_of a) ++ sizes_of b) ys (k + 1 + code_size a + code_size b)
            (block_on (inner ++ sizes_of a) (sizes_of b) (sizes_of rest ++ ys) other) third,
      )
  are_sized (Repeat e a rest) xs ys k is at =
      let own : BlockSizes = record { first = code_size a; second = 0 } in
      let inner = xs ++ (own ∷ []) in
      let here : sizes ≡ inner ++ (sizes_of a ++ (sizes_of rest ++ ys)) =
      one_on xs ((sizes_of a ++ sizes_of rest) ++ ys) own is
      ∙ ap (λ (zs : List BlockSizes). inner ++ zs) (append_assoc (sizes_of a) (sizes_of rest) ys) in
      let first = place_on xs own k at in (
        at_place xs ((sizes_of a ++ sizes_of rest) ++ ys) own k is at,
        are_sized a inner (sizes_of rest ++ ys) (k + 1) here first,
        are_sized rest (inner ++ sizes_of a) ys (k + 1 + code_size a) (block_on inner (sizes_of a) (sizes_of rest ++ ys) here)
            (block_place inner a (k + 1) first),
      )
  are_sized (When kind args refs rest) xs ys k is at = (
    at_place xs (sizes_of rest ++ ys) no_blocks k is at,
    are_sized rest (xs ++ (no_blocks ∷ [])) ys (k + 1) (one_on xs (sizes_of rest ++ ys) no_blocks is) (place_on xs no_blocks k at),
  )

  -- and of bodies
  body_sized : (bodies : List Body) (kind : ℕ) (body : Body) (xs : List BlockSizes) (k : ℕ) → slice_get bodies kind ≡ Some body
      → sizes ≡ xs ++ sizes_of_bodies bodies → k ≡ length xs → AreSized sizes body.block (k + start_of bodies kind + 1)
  body_sized [] kind body xs k there is at = absurd cc
  body_sized (b ∷ bodies) zero body xs k there is at =
      let same : b ≡ body = cc in
      subst (λ (x : Body). AreSized sizes x.block (k + 0 + 1)) same
      (are_sized b.block (xs ++ (no_blocks ∷ [])) (sizes_of_bodies bodies) (k + 0 + 1)
      (one_on xs (sizes_of b.block ++ sizes_of_bodies bodies) no_blocks is) (omega (arith, at, length-append xs (no_blocks ∷ []))))
  body_sized (b ∷ bodies) (suc kind) body xs k there is at =
      let inner = xs ++ (no_blocks ∷ []) in
      let here = one_on xs (sizes_of b.block ++ sizes_of_bodies bodies) no_blocks is in
      let place : k + 1 + code_size b.block ≡ length (inner ++ sizes_of b.block) = block_place inner b.block (k + 1) (place_on xs no_blocks k at) in
      let further : k + 1 + code_size b.block + start_of bodies kind + 1 ≡ k + (1 + code_size b.block + start_of bodies kind) + 1 = omega arith in
      subst (AreSized sizes body.block) further
      (body_sized bodies kind body (inner ++ sizes_of b.block) (k + 1 + code_size b.block) there
      (block_on inner (sizes_of b.block) (sizes_of_bodies bodies) here) place)

-- the sizes in the body of a behaviour, whose start has this number
pub sized_at : (sizes : List BlockSizes) (bodies : List Body) (kind : ℕ) (body : Body) (start : ℕ) → sizes ≡ sizes_of_bodies bodies
    → slice_get bodies kind ≡ Some body → start ≡ start_of bodies kind → AreSized sizes body.block (start + 1)
sized_at sizes bodies kind body start is there at =
    let moved : 0 + start_of bodies kind + 1 ≡ start + 1 = omega (arith, at) in
    subst (AreSized sizes body.block) moved (body_sized sizes bodies kind body [] 0 there is refl)
