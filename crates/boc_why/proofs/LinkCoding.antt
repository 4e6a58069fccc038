-- Links are the same where their numbers are.
use Rattle.std.proofs.Common.{◌≡◌, ℕ, zero, suc, ◌*◌, ◌^◌, ◌<◌, ◌≤◌, List, [], ◌∷◌, length, arith, sym, ap, ◌∙◌, ⊎_elim, refl, Some}
use Rattle.std.specs.Prelude.{All, slice_get, slice_index}
use Rattle.std.proofs.Math.Nat.{pow-succ'}
use Rattle.std.proofs.lemmas.List.Elements.{All-head, All-tail}
use Rattle.std.proofs.lemmas.Option.{slice_get_cases}
use Rattle.boc_program.specs.declared.limits.TheConstants.{MOST_COWNS}
use Rattle.boc_why.specs.declared.links.Link.{Link}
use Rattle.boc_why.specs.declared.links.Link.TheVariants.{SpawnBy, Hands, Frees, Ends}
use Rattle.boc_why.specs.Shares.{AreFirsts}
use Rattle.boc_why.specs.LinkCodes.{cowns_code, link_code, HasBytes, AreCodes, AreFirstPlaces}

pub code_low : (cowns : List ℕ) → 0 < cowns_code cowns
code_low [] = omega arith
code_low (c ∷ cowns) = omega (arith, code_low cowns)

-- so many cowns take so many bytes
pub code_high : (n : ℕ) (cowns : List ℕ) → length cowns ≤ n → All (λ c. c < MOST_COWNS) cowns → cowns_code cowns < 2 * 256 ^ n
code_high zero [] h small = omega arith
code_high zero (c ∷ cowns) h small = absurd (omega (arith, h))
code_high (suc n) [] h small = let one : 1 < 2 * 256 ^ n = code_high n [] (omega arith) small in rw (pow-succ' 256 n) (omega arith)
code_high (suc n) (c ∷ cowns) h small =
    let byte : c < 256 = All-head (λ x. x < MOST_COWNS) c cowns small in
    let others : cowns_code cowns < 2 * 256 ^ n = code_high n cowns (omega (arith, h)) (All-tail (λ x. x < MOST_COWNS) c cowns small) in
    rw (pow-succ' 256 n) (omega arith)

same_cowns : (xs ys : List ℕ) → All (λ c. c < MOST_COWNS) xs → All (λ c. c < MOST_COWNS) ys → cowns_code xs ≡ cowns_code ys → xs ≡ ys
same_cowns [] [] hx hy e = refl
same_cowns [] (y ∷ ys) hx hy e = absurd (omega (arith, e, code_low ys))
same_cowns (x ∷ xs) [] hx hy e = absurd (omega (arith, e, code_low xs))
same_cowns (x ∷ xs) (y ∷ ys) hx hy e =
    let small : x < 256 = All-head (λ c. c < MOST_COWNS) x xs hx in
    let low : y < 256 = All-head (λ c. c < MOST_COWNS) y ys hy in
    let here : x ≡ y = omega (arith, e) in
    let rest : cowns_code xs ≡ cowns_code ys = omega (arith, e) in
    ap (λ z. z ∷ xs) here ∙ ap (λ zs. y ∷ zs) (same_cowns xs ys (All-tail (λ c. c < MOST_COWNS) x xs hx) (All-tail (λ c. c < MOST_COWNS) y ys hy) rest)

pub same_links : (a b : Link) → HasBytes a → HasBytes b → link_code a ≡ link_code b → a ≡ b
same_links (SpawnBy d) (SpawnBy e) ha hb h = ap SpawnBy (omega (arith, h))
same_links (SpawnBy d) (Hands ys) ha hb h = absurd (omega (arith, h))
same_links (SpawnBy d) Frees ha hb h = absurd (omega (arith, h))
same_links (SpawnBy d) Ends ha hb h = absurd (omega (arith, h))
same_links (Hands xs) (SpawnBy e) ha hb h = absurd (omega (arith, h))
same_links (Hands xs) (Hands ys) ha hb h = ap (λ cs. Hands (record { items = cs })) (same_cowns xs.items ys.items ha hb (omega (arith, h)))
same_links (Hands xs) Frees ha hb h = absurd (omega (arith, h, code_low xs.items))
same_links (Hands xs) Ends ha hb h = absurd (omega (arith, h, code_low xs.items))
same_links Frees (SpawnBy e) ha hb h = absurd (omega (arith, h))
same_links Frees (Hands ys) ha hb h = absurd (omega (arith, h, code_low ys.items))
same_links Frees Frees ha hb h = refl
same_links Frees Ends ha hb h = absurd (omega (arith, h))
same_links Ends (SpawnBy e) ha hb h = absurd (omega (arith, h))
same_links Ends (Hands ys) ha hb h = absurd (omega (arith, h, code_low ys.items))
same_links Ends Frees ha hb h = absurd (omega (arith, h))
same_links Ends Ends ha hb h = refl

module _ (links : List Link) (codes : List ℕ) (coded : AreCodes links codes) where
  -- the link at a place
  link_at : (k : ℕ) → k < length codes → (a : Link) × (slice_get links k ≡ Some a)
  link_at k h = ⊎_elim (λ w. (w.0, w.2)) (λ w. absurd (omega (arith, h, w.0, coded.whole))) (slice_get_cases links k).1

  -- links are the same at two places where their numbers are
  same_at : (j k : ℕ) → j < length codes → k < length codes → slice_index codes j ≡ slice_index codes k → slice_get links j ≡ slice_get links k
  same_at j k hj hk e =
      let a = link_at j hj in
      let b = link_at k hk in
      let ca = coded.at j a.0 a.1 in
      let cb = coded.at k b.0 b.1 in
      a.1 ∙ (ap (λ l. Some l) (same_links a.0 b.0 ca.bytes cb.bytes (sym ca.is ∙ (e ∙ cb.is))) ∙ sym b.1)

  codes_at : (j k : ℕ) → j < length codes → k < length codes → slice_get links j ≡ slice_get links k → slice_index codes j ≡ slice_index codes k
  codes_at j k hj hk e =
      let b = link_at k hk in
      (coded.at j b.0 (e ∙ b.1)).is ∙ sym (coded.at k b.0 b.1).is

  -- the first places of the numbers are those of the links
  pub firsts_from_places : (firsts : List ℕ) → AreFirstPlaces codes firsts → AreFirsts links firsts
  firsts_from_places firsts are = record {
    whole = are.whole ∙ coded.whole;
    at = λ k h.
        let l : k < length codes = omega (arith, h, coded.whole) in
        let first = are.at k l in
        record {
          same = same_at (slice_index firsts k) k first.there l first.same;
          none_before = λ j b e. first.none_before j b (codes_at j k (omega (arith, b, first.there)) l e);
        };
  }
