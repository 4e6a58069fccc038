-- What is told of ends, end by end.
use Rattle.std.proofs.Common.{◌≡◌, ℕ, zero, suc, ◌+◌, List, [], ◌∷◌, ◌++◌, drop, sym, ◌∙◌, ap, append_assoc}
use Rattle.std.specs.Prelude.{slice_get, min, max, None, Some}
use Rattle.boc_program.specs.declared.cown.Cown.{Cown}
use Rattle.boc_all_ends.specs.declared.found.End.{End}
use Rattle.boc_all_ends_report.specs.EndTexts.{end_text, end_texts, least_of, most_of}

-- what is left of a list from a place on begins with the item there
pub left_at : {A : Type 0} (xs : List A) (i : ℕ) (x : A) → slice_get xs i ≡ Some x → drop i xs ≡ x ∷ drop (suc i) xs
left_at [] i x is = absurd (let f : None ≡ Some x = is in cc)
left_at (y ∷ ys) zero x is = (let f : Some y ≡ Some x = is in let same : y ≡ x = cc in ap (λ z. z ∷ ys) same)
left_at (y ∷ ys) (suc i) x is = left_at ys i x is

-- with one end more, what is told so far and what is left to tell are still all
pub one_told : (cowns : List Cown) (ends : List End) (i : ℕ) (e : End) (number : ℕ) (text more : List ℕ) → slice_get ends i ≡ Some e
    → more ≡ text ++ end_text cowns number e
    → more ++ end_texts cowns (suc number) (drop (suc i) ends) ≡ text ++ end_texts cowns number (drop i ends)
one_told cowns ends i e number text more is now =
    ap (λ t. t ++ end_texts cowns (suc number) (drop (suc i) ends)) now
    ∙ append_assoc text (end_text cowns number e) (end_texts cowns (suc number) (drop (suc i) ends))
    ∙ ap (λ es. text ++ end_texts cowns number es) (sym (left_at ends i e is))

-- the least of what is left, with one end looked at
pub least_left : (ends : List End) (i n : ℕ) (e : End) → slice_get ends i ≡ Some e → least_of (min n e.least) (drop (suc i) ends) ≡ least_of n (drop i ends)
least_left ends i n e is = sym (ap (least_of n) (left_at ends i e is))

pub most_left : (ends : List End) (i n : ℕ) (e : End) → slice_get ends i ≡ Some e → most_of (max n e.most) (drop (suc i) ends) ≡ most_of n (drop i ends)
most_left ends i n e is = sym (ap (most_of n) (left_at ends i e is))
