-- The lists of wishes that are added.
use Rattle.std.proofs.Common.{◌≡◌, ◌⊎◌, ℕ, zero, suc, ◌<◌, inl, inr, List, [], ◌∷◌, ◌++◌, length, map, refl, sym, ◌∙◌, ap, subst, append-nil, append_assoc}
use Rattle.boc_program.specs.declared.program.Program.{Program}
use Rattle.boc_runs.specs.Serial.{Behaviour, behaviour_of}
use Rattle.boc_eval.specs.declared.wish.SpawnWish.{SpawnWish}
use Rattle.boc_eval.specs.Queue.{QueueFits}
use Rattle.boc_eval.specs.Wishes.{wish_of}
use Rattle.boc_front_rows.specs.Lists.{Adds, list_at}
use Rattle.boc_all_ends.specs.Stepping.{Grows, ListsFit}
use Rattle.boc_all_ends.proofs.Seeing.{Lists, grows_not, grows_on}

abbrev pub asked : List SpawnWish → List Behaviour
asked ws = map behaviour_of (map wish_of ws)

-- of some wishes the last were added as a list, and these are left
pub record Added (a : Lists) (all left : List SpawnWish) (b : Lists) (list : ℕ) : Type 0 where
  pub grows : Grows a b
  pub there : list < length b
  pub so_far : asked left ++ list_at b list ≡ asked all
  pub fits : (p : Program) → ListsFit p a → QueueFits p (asked all) → ListsFit p b

adds_grow : (x : List Behaviour) (a b : Lists) → Adds x a b → Grows a b
adds_grow x a b (inl e) = subst (λ (ls : Lists). Grows a ls) (sym e) (grows_not a)
adds_grow x a b (inr e) = (x ∷ [], e)

last_at : (ls : Lists) (x : List Behaviour) (n : ℕ) → (list_at (ls ++ (x ∷ [])) n ≡ list_at ls n) ⊎ ((list_at (ls ++ (x ∷ [])) n ≡ x) ⊎ (list_at (ls ++ (x ∷ [])) n ≡ []))
last_at [] x zero = inr (inl refl)
last_at [] x (suc n) = inr (inr refl)
last_at (l ∷ ls) x zero = inl refl
last_at (l ∷ ls) x (suc n) = last_at ls x n

fits_more : (p : Program) (x : List Behaviour) (a b : Lists) → Adds x a b → QueueFits p x → ListsFit p a → ListsFit p b
fits_more p x a b (inl e) q fits n = subst (λ (ls : Lists). QueueFits p (list_at ls n)) (sym e) (fits n)
fits_more p x a b (inr e) q fits n =
    subst (λ (ls : Lists). QueueFits p (list_at ls n)) (sym e) (elim (last_at a x n) [
      | inl old ↦ subst (QueueFits p) (sym old) (fits n)
      | inr (inl new) ↦ subst (QueueFits p) (sym new) q
      | inr (inr none) ↦ subst (QueueFits p) (sym none) tt
    ])

fits_parts : (p : Program) (xs ys : List Behaviour) → QueueFits p (xs ++ ys) → QueueFits p ys
fits_parts p [] ys h = h
fits_parts p (x ∷ xs) ys h = fits_parts p xs ys h.1

asked_more : (left : List SpawnWish) (w : SpawnWish) → asked (left ++ (w ∷ [])) ≡ asked left ++ (behaviour_of (wish_of w) ∷ [])
asked_more [] w = refl
asked_more (v ∷ left) w = ap (λ bs. behaviour_of (wish_of v) ∷ bs) (asked_more left w)

pub none_added : (a : Lists) (all : List SpawnWish) (list : ℕ) → list < length a → list_at a list ≡ [] → Added a all all a list
none_added a all list there none = record {
  grows = grows_not a;
  there = there;
  so_far = ap (λ bs. asked all ++ bs) none ∙ append-nil (asked all);
  fits = λ p f q. f;
}

pub one_added : (a : Lists) (all left before : List SpawnWish) (w : SpawnWish) (b c : Lists) (list new : ℕ) (first : Behaviour) → Added a all before b list
    → before ≡ left ++ (w ∷ []) → first ≡ behaviour_of (wish_of w) → Adds (first ∷ list_at b list) b c → new < length c
    → list_at c new ≡ first ∷ list_at b list → Added a all left c new
one_added a all left before w b c list new first s cut is adds there at =
    let far : asked left ++ (first ∷ list_at b list) ≡ asked all =
    ap (λ f. asked left ++ (f ∷ list_at b list)) is
    ∙ sym (append_assoc (asked left) (behaviour_of (wish_of w) ∷ []) (list_at b list))
    ∙ ap (λ bs. bs ++ list_at b list) (sym (asked_more left w))
    ∙ ap (λ ws. asked ws ++ list_at b list) (sym cut) ∙ s.so_far in
    record {
      grows = grows_on a b c s.grows (adds_grow (first ∷ list_at b list) b c adds);
      there = there;
      so_far = ap (λ bs. asked left ++ bs) at ∙ far;
      fits = λ p f q. fits_more p (first ∷ list_at b list) b c adds
          (fits_parts p (asked left) (first ∷ list_at b list) (subst (QueueFits p) (sym far) q)) (s.fits p f q);
    }
