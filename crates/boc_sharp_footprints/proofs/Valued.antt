-- What is known of an expression is its value, if it has one.
use Rattle.std.proofs.Common.{◌≡◌, ◌∙◌, ℕ, zero, suc, refl, sym, ap, List, [], ◌∷◌, ℤ, pos, Option, Some, None, Ok, Err}
use Rattle.std.specs.Prelude.{slice_get, slice_index_or, neg_ℤ}
use Rattle.boc_program.specs.declared.body.Operator.{Operator}
use Rattle.boc_program.specs.Syntax.{SlotExpr, Number, Slot, Negate, Binary}
use Rattle.boc_program.specs.Value.{OrFault, then_value, in_64_bits, apply, value, values}
use Rattle.boc_sharp_footprints.specs.Known.{Known, known, known_at, known_if, if_known, unless_fault}

-- what is known of slots is so
abbrev pub AreKnown : Known → List ℤ → Type 0
AreKnown a slots = (i : ℕ) (v : ℤ) → known_at a i ≡ Some v → slice_index_or slots i (pos 0) ≡ v

agree : (o : OrFault ℤ) (v w : ℤ) → unless_fault o ≡ Some v → Ok w ≡ o → v ≡ w
agree (Ok z) v w h e = cc
agree (Err f) v w h e = absurd cc

agree_one : (k : Option ℤ) (o : OrFault ℤ) (go : ℤ → OrFault ℤ) (v w : ℤ) → ((x y : ℤ) → k ≡ Some x → Ok y ≡ o → x ≡ y)
    → if_known k (λ x. unless_fault (go x)) ≡ Some v → Ok w ≡ then_value o go → v ≡ w
agree_one None o go v w f h e = absurd cc
agree_one (Some x) (Err fault) go v w f h e = absurd cc
agree_one (Some x) (Ok y) go v w f h e =
    let same : x ≡ y = f x y refl refl in
    agree (go y) v w (ap (λ z. unless_fault (go z)) (sym same) ∙ h) e

agree_two : (k l : Option ℤ) (o p : OrFault ℤ) (op : Operator) (v w : ℤ) → ((x y : ℤ) → k ≡ Some x → Ok y ≡ o → x ≡ y)
    → ((x y : ℤ) → l ≡ Some x → Ok y ≡ p → x ≡ y)
    → if_known k (λ x. if_known l (λ y. unless_fault (apply op x y))) ≡ Some v → Ok w ≡ then_value o (λ x. then_value p (λ y. apply op x y)) → v ≡ w
agree_two None l o p op v w f g h e = absurd cc
agree_two (Some x) l (Err fault) p op v w f g h e = absurd cc
agree_two (Some x) l (Ok y) p op v w f g h e =
    let same : x ≡ y = f x y refl refl in
    agree_one l p (λ z. apply op y z) v w g (ap (λ t. if_known l (λ z. unless_fault (apply op t z))) (sym same) ∙ h) e

pub known_value : (e : SlotExpr) (a : Known) (slots : List ℤ) → AreKnown a slots → (v w : ℤ) → known e a ≡ Some v → Ok w ≡ value e slots → v ≡ w
known_value (Number z) a slots f v w h e = cc
known_value (Slot i) a slots f v w h e =
    let same : slice_index_or slots i (pos 0) ≡ v = f i v h in
    let is : w ≡ slice_index_or slots i (pos 0) = cc in
    sym (is ∙ same)
known_value (Negate x) a slots f v w h e =
    agree_one (known x a) (value x slots) (λ z. in_64_bits (neg_ℤ z)) v w (known_value x a slots f) h e
known_value (Binary op x y) a slots f v w h e =
    agree_two (known x a) (known y a) (value x slots) (value y slots) op v w (known_value x a slots f) (known_value y a slots f) h e

values_cons : (o : OrFault ℤ) (p : OrFault (List ℤ)) (vs : List ℤ) (P : Type 0) → ((w : ℤ) (ws : List ℤ) → Ok w ≡ o → Ok ws ≡ p → vs ≡ w ∷ ws → P)
    → Ok vs ≡ then_value o (λ v. then_value p (λ ws. Ok (v ∷ ws))) → P
values_cons (Err f) p vs P h e = absurd cc
values_cons (Ok w) (Err f) vs P h e = absurd cc
values_cons (Ok w) (Ok ws) vs P h e = h w ws refl refl cc

-- what is known of an argument is its value
pub known_argument : (es : List SlotExpr) (a : Known) (slots vs : List ℤ) (place : ℕ) (v : ℤ) → AreKnown a slots → Ok vs ≡ values es slots
    → known_if (slice_get es place) a ≡ Some v → slice_get vs place ≡ Some v
known_argument [] a slots vs place v f e h = absurd cc
known_argument (x ∷ es) a slots vs zero v f e h =
    values_cons (value x slots) (values es slots) vs (slice_get vs zero ≡ Some v)
    (λ w ws is rest same. ap (λ (xs : List ℤ). slice_get xs zero) same ∙ ap Some (sym (known_value x a slots f v w h is))) e
known_argument (x ∷ es) a slots vs (suc place) v f e h =
    values_cons (value x slots) (values es slots) vs (slice_get vs (suc place) ≡ Some v)
    (λ w ws is rest same. ap (λ (xs : List ℤ). slice_get xs (suc place)) same ∙ known_argument es a slots ws place v f rest h) e
