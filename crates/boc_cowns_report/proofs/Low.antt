-- What holds of some cowns holds of them as they are judged.
use Rattle.std.proofs.Common.{◌≡◌, ◌<◌, ℕ, Bool, true, false, List, [], ◌∷◌, map, refl}
use Rattle.std.specs.Prelude.{All}
use Rattle.std.specs.List.{fold}
use Rattle.std.proofs.lemmas.List.Elements.{All-cons, All-head, All-nil, All-tail}
use Rattle.boc_cowns.specs.declared.hot.HotCown.{HotCown}
use Rattle.boc_remedies.specs.InOrder.{put_before}
use Rattle.boc_cowns_report.specs.declared.judged.JudgedCown.{JudgedCown}
use Rattle.boc_cowns_report.specs.Judged.{judged_by, judged_with}

-- one more in its place
All-put : {A : Type 0} (P : A → Type 0) (is : A → Bool) (xs : List A) (own : A) → All P xs → P own → All P (put_before is xs own)
All-put P is [] own all one = All-cons P own [] one (All-nil P)
All-put P is (x ∷ xs) own all one = by (is x) refl (All-put P is xs own (All-tail P x xs all) one)
  where
    by : (b : Bool) → is x ≡ b → All P (put_before is xs own) → All P (put_before is (x ∷ xs) own)
    by true e next = rw e (All-cons P own (x ∷ xs) one all)
    by false e next = rw e (All-cons P x (put_before is xs own) (All-head P x xs all) next)

-- what is held for less than a bound
pub All-judged : (ends : List ℕ) (bound : ℕ) (judged : List JudgedCown) (cowns : List HotCown) → All (λ j. j.hot.held < bound) judged
    → All (λ c. c.held < bound) cowns → All (λ j. j.hot.held < bound) (fold judged_with judged (map (judged_by ends) cowns))
All-judged ends bound judged [] all low = all
All-judged ends bound judged (c ∷ cowns) all low =
    let Low : JudgedCown → Type 0 = λ (j : JudgedCown). j.hot.held < bound in
    All-judged ends bound (judged_with judged (judged_by ends c)) cowns
    (All-put Low _ judged (judged_by ends c) all (All-head (λ (h : HotCown). h.held < bound) c cowns low))
    (All-tail (λ (h : HotCown). h.held < bound) c cowns low)
