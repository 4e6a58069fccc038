-- Rows of one kind have the same cowns, and write the same of them.
use Rattle.std.proofs.Common.{◌≡◌, ℕ, suc, ◌+◌, ◌*◌, ◌<◌, ◌≤◌, Bool, true, false, cond, List, [], ◌∷◌, length, refl, sym, ap, ◌∙◌, subst, arith, inl, inr}
use Rattle.std.proofs.Common.{◌^◌, add-one, drop, drop-cons, get_or}
use Rattle.std.proofs.Math.Nat.{pow-le-pow_right, pow-succ'}
use Rattle.std.specs.Prelude.{nat_eq, All, slice_index}
use Rattle.std.specs.List.{Contains, list_any}
use Rattle.std.proofs.lemmas.Bool.{cases_lt}
use Rattle.std.proofs.lemmas.List.Elements.{All-head, All-tail}
use Rattle.boc_program.specs.declared.limits.TheConstants.{MOST_COWNS}
use Rattle.boc_runs.specs.declared.rows.Row.{Row}
use Rattle.boc_runs.specs.Rows.{IsRows, cowns_of, written_of}
use Rattle.boc_order.proofs.Remembering.{contains_cases}
use Rattle.boc_eager.specs.Kinds.{code_from, AreKinds}

abbrev wrote : ℕ → List ℕ → ℕ
wrote c written = cond (list_any (nat_eq c) written) 1 0

wrote_low : (c : ℕ) (written : List ℕ) → wrote c written < 2
wrote_low c written = by_test (list_any (nat_eq c) written)
  where
    by_test : (b : Bool) → cond b 1 0 < 2
    by_test true = omega arith
    by_test false = omega arith

-- the code grows by each cown
code_grows : (code : ℕ) (cowns written : List ℕ) → code ≤ code_from code cowns written
code_grows code [] written = omega arith
code_grows code (c ∷ cowns) written = omega (arith, code_grows (code * 512 + 2 * c + wrote c written) cowns written)

-- the same cowns, and of each it is the same whether it is written
pub record AreAlike (xs ys vs ws : List ℕ) : Type 0 where
  pub same : xs ≡ ys
  pub wrote_same : (c : ℕ) → Contains xs c → list_any (nat_eq c) vs ≡ list_any (nat_eq c) ws

test_same : (a b : Bool) → ◌≡◌ {A = ℕ} (cond a 1 0) (cond b 1 0) → a ≡ b
test_same true true e = refl
test_same true false e = absurd (omega (arith, e))
test_same false true e = absurd (omega (arith, e))
test_same false false e = refl

alike_more : (x y : ℕ) (xs ys vs ws : List ℕ) → x ≡ y → wrote x vs ≡ wrote y ws → AreAlike xs ys vs ws → AreAlike (x ∷ xs) (y ∷ ys) vs ws
alike_more x y xs ys vs ws e w a = record {
  same = ap (λ (z : ℕ). z ∷ xs) e ∙ ap (λ (zs : List ℕ). y ∷ zs) a.same;
  wrote_same = λ c m. elim (contains_cases x c xs m) [
    | inl s ↦ subst (λ (z : ℕ). list_any (nat_eq z) vs ≡ list_any (nat_eq z) ws) s
        (test_same _ _ (w ∙ ap (λ (z : ℕ). wrote z ws) (sym e)))
    | inr o ↦ a.wrote_same c o
  ];
}

-- codes of as many cowns are the same only where all is the same
same_length : (a b : ℕ) (xs ys vs ws : List ℕ) → All (λ c. c < MOST_COWNS) xs → All (λ c. c < MOST_COWNS) ys → length xs ≡ length ys
    → code_from a xs vs ≡ code_from b ys ws → (a ≡ b) × AreAlike xs ys vs ws
same_length a b [] [] vs ws hx hy l e = (e, record { same = refl; wrote_same = λ c m. absurd (omega (arith, m.1)) })
same_length a b [] (y ∷ ys) vs ws hx hy l e = absurd (omega (arith, l))
same_length a b (x ∷ xs) [] vs ws hx hy l e = absurd (omega (arith, l))
same_length a b (x ∷ xs) (y ∷ ys) vs ws hx hy l e =
    let low : x < 256 = All-head (λ c. c < MOST_COWNS) x xs hx in
    let small : y < 256 = All-head (λ c. c < MOST_COWNS) y ys hy in
    let rest = same_length (a * 512 + 2 * x + wrote x vs) (b * 512 + 2 * y + wrote y ws) xs ys vs ws (All-tail (λ c. c < MOST_COWNS) x xs hx)
    (All-tail (λ c. c < MOST_COWNS) y ys hy) (omega (arith, l)) e in
    let d : a * 512 + 2 * x + wrote x vs ≡ b * 512 + 2 * y + wrote y ws = rest.0 in
    let lx : wrote x vs < 2 = wrote_low x vs in
    let ly : wrote y ws < 2 = wrote_low y ws in
    let first : a ≡ b = omega (arith, d, lx, ly, low, small) in
    let here : x ≡ y = omega (arith, d, lx, ly, low, small) in
    let w : wrote x vs ≡ wrote y ws = omega (arith, d, lx, ly, low, small) in
    (first, alike_more x y xs ys vs ws here w rest.1)

-- a code of more cowns is another one
more_cowns : (a b : ℕ) (xs ys vs ws : List ℕ) → All (λ c. c < MOST_COWNS) xs → All (λ c. c < MOST_COWNS) ys → 0 < a → b < 512 → length ys < length xs
    → code_from a xs vs ≡ code_from b ys ws → ⊥
more_cowns a b [] ys vs ws hx hy pos low l e = omega (arith, l)
more_cowns a b (x ∷ xs) ys vs ws hx hy pos low l e = elim (cases_lt (length ys) (length xs)) [
  | inl less ↦ more_cowns (a * 512 + 2 * x + wrote x vs) b xs ys vs ws (All-tail (λ c. c < MOST_COWNS) x xs hx) hy (omega (arith, pos)) low less e
  | inr ge ↦ (
      let rest = same_length (a * 512 + 2 * x + wrote x vs) b xs ys vs ws (All-tail (λ c. c < MOST_COWNS) x xs hx) hy (omega (arith, l, ge)) e in
      let d : a * 512 + 2 * x + wrote x vs ≡ b = rest.0 in
      omega (arith, d, pos, low))
]

pub one_code : (xs ys vs ws : List ℕ) → All (λ c. c < MOST_COWNS) xs → All (λ c. c < MOST_COWNS) ys → code_from 1 xs vs ≡ code_from 1 ys ws
    → AreAlike xs ys vs ws
one_code xs ys vs ws hx hy e = elim (cases_lt (length xs) (length ys)) [
  | inl less ↦ absurd (more_cowns 1 1 ys xs ws vs hy hx (omega arith) (omega arith) less (sym e))
  | inr ge ↦ elim (cases_lt (length ys) (length xs)) [
    | inl more ↦ absurd (more_cowns 1 1 xs ys vs ws hx hy (omega arith) (omega arith) more e)
    | inr le ↦ (same_length 1 1 xs ys vs ws hx hy (omega arith) e).1
  ]
]

-- rows of one kind are alike
pub alike_kin : (rows : List Row) → IsRows rows → (kinds : List ℕ) → AreKinds rows kinds → (a b : ℕ) → a < length rows → b < length rows
    → slice_index kinds a ≡ slice_index kinds b → AreAlike (cowns_of rows a) (cowns_of rows b) (written_of rows a) (written_of rows b)
alike_kin rows hr kinds are a b ha hb e = one_code (cowns_of rows a) (cowns_of rows b) (written_of rows a) (written_of rows b)
    (hr.cowns_below a ha) (hr.cowns_below b hb) ((are.each a b ha hb).0 e)

-- one more cown keeps a code low
pub code_step : (code i c w : ℕ) → code < 2 * 512 ^ i → c < 256 → w < 2 → code * 512 + 2 * c + w < 2 * 512 ^ (i + 1)
code_step code i c w low small bit = rw (add-one i, pow-succ' 512 i) (omega (arith, low, small, bit))

pub code_fits : (code i c w : ℕ) → i < 8 → code < 2 * 512 ^ i → c < 256 → w < 2 → code * 512 + 2 * c + w < 340282366920938463463374607431768211456
code_fits code i c w few low small bit =
    let few' : i ≤ 7 = omega (arith, few) in
    let some : 0 < 512 = omega arith in
    let most : 512 ^ i ≤ 512 ^ 7 = pow-le-pow_right some few' in
    omega (arith, most, low, small, bit)

pub code_next : (cs ws : List ℕ) (code i a b x : ℕ) → i < length cs → a ≡ get_or cs i 0 → b ≡ wrote a ws → code_from code (drop i cs) ws ≡ x
    → code_from (code * 512 + 2 * a + b) (drop (i + 1) cs) ws ≡ x
code_next cs ws code i a b x there ea eb e =
    let d : drop i cs ≡ a ∷ drop (i + 1) cs = rw (add-one i) (drop-cons cs i 0 there ∙ ap (λ (z : ℕ). z ∷ drop (suc i) cs) (sym ea)) in
    ap (λ (z : ℕ). code_from (code * 512 + 2 * a + z) (drop (i + 1) cs) ws) eb ∙ (sym (ap (λ (zs : List ℕ). code_from code zs ws) d) ∙ e)

pub wrote_bit : (a b : ℕ) (ws : List ℕ) → b ≡ wrote a ws → b < 2
wrote_bit a b ws e = (let w = wrote_low a ws in omega (arith, e, w))
