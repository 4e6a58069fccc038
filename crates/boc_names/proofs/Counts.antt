-- Lists with one item more after them, and how many declarations a program has.
use Rattle.std.proofs.Common.{◌≡◌, ◌∙◌, ℕ, zero, suc, ◌+◌, ◌<◌, ◌≤◌, ◌^◌, List, [], ◌∷◌, ◌++◌, Some, length, map, take, ap, sym, arith, rules}
use Rattle.std.specs.Prelude.{slice_get, IsTrue, nat_lt}
use Rattle.std.proofs.lemmas.List.{map-append}
use Rattle.boc_program.specs.declared.cown.Cown.{Cown}
use Rattle.boc_program.specs.declared.program.Program.{Program}
use Rattle.boc_program.specs.Programs.{cown_count, have_members, members}
use Rattle.boc_program.proofs.Truth.{and_true}
use Rattle.boc_eval.proofs.Taking.{take_next}
use Rattle.boc_names.specs.Names.{Text, member_name, member_names, member_places, numbered, numbered_from, numbers_from}

one_more : (n : ℕ) → suc n ≡ n + 1
one_more n = omega arith

numbers_on : (i n k : ℕ) → k ≡ i + n → numbers_from i n ++ k ∷ [] ≡ numbers_from i (suc n)
numbers_on i zero k is = (let same : k ≡ i = omega (arith, is) in ap (λ x. x ∷ []) same)
numbers_on i (suc n) k is = ap (λ xs. i ∷ xs) (numbers_on (suc i) n k (omega (arith, is)))

pub numbers_more : (n : ℕ) → numbers_from 0 n ++ n ∷ [] ≡ numbers_from 0 (n + 1)
numbers_more n = numbers_on 0 n n (omega arith) ∙ ap (numbers_from 0) (one_more n)

numbered_on : (word : Text) (i n k : ℕ) → k ≡ i + n → numbered_from word i n ++ numbered word k ∷ [] ≡ numbered_from word i (suc n)
numbered_on word i zero k is = (let same : k ≡ i = omega (arith, is) in ap (λ x. numbered word x ∷ []) same)
numbered_on word i (suc n) k is = ap (λ xs. numbered word i ∷ xs) (numbered_on word (suc i) n k (omega (arith, is)))

pub numbered_more : (word : Text) (n : ℕ) → numbered_from word 0 n ++ numbered word n ∷ [] ≡ numbered_from word 0 (n + 1)
numbered_more word n = numbered_on word 0 n n (omega arith) ∙ ap (numbered_from word 0) (one_more n)

member_on : (name : Text) (i n k : ℕ) → k ≡ i + n → member_names name i n ++ member_name name k ∷ [] ≡ member_names name i (suc n)
member_on name i zero k is = (let same : k ≡ i = omega (arith, is) in ap (λ x. member_name name x ∷ []) same)
member_on name i (suc n) k is = ap (λ xs. member_name name i ∷ xs) (member_on name (suc i) n k (omega (arith, is)))

pub member_more : (name : Text) (n : ℕ) → member_names name 0 n ++ member_name name n ∷ [] ≡ member_names name 0 (n + 1)
member_more name n = member_on name 0 n n (omega arith) ∙ ap (member_names name 0) (one_more n)

place_on : (declaration i n k : ℕ) → k ≡ i + n
    → member_places declaration i n ++ record { declaration = declaration; member = k } ∷ [] ≡ member_places declaration i (suc n)
place_on declaration i zero k is =
    (let same : k ≡ i = omega (arith, is) in ap (λ (m : ℕ). record { declaration = declaration; member = m } ∷ []) same)
place_on declaration i (suc n) k is =
    ap (λ places. record { declaration = declaration; member = i } ∷ places) (place_on declaration (suc i) n k (omega (arith, is)))

pub place_more : (declaration n : ℕ)
    → member_places declaration 0 n ++ record { declaration = declaration; member = n } ∷ [] ≡ member_places declaration 0 (n + 1)
place_more declaration n = place_on declaration 0 n n (omega arith) ∙ ap (member_places declaration 0) (one_more n)

-- one item more of a list, as a function has it
pub map_next : {A B : Type 0} (f : A → B) (xs : List A) (n : ℕ) (x : A) → slice_get xs n ≡ Some x → map f (take n xs) ++ f x ∷ [] ≡ map f (take (n + 1) xs)
map_next f xs n x is =
    sym (ap (λ k. map f (take k xs)) (sym (one_more n)) ∙ ap (map f) (take_next xs n x is) ∙ map-append f (take n xs) (x ∷ []))

-- a program declares no more cowns than it has
pub declared_few : (cowns : List Cown) → IsTrue (have_members cowns) → length cowns ≤ cown_count cowns
declared_few [] have = omega arith
declared_few (c ∷ cs) have =
    let both = and_true (nat_lt 0 (members c.size)) (have_members cs) have in
    let some : 0 < members c.size = search (rules, both.0) in
    omega (arith, some, declared_few cs both.1)

-- a program has few declarations of cowns
pub few_declared : (p : Program) (declared : List Cown) → declared ≡ p.cowns → length declared < 2 ^ 32
few_declared p declared is =
    let few = declared_few p.cowns p.members in
    let same : length declared ≡ length p.cowns = ap length is in
    omega (arith, few, same, p.few_cowns)
