-- Blanks at the end of texts.
use Rattle.std.proofs.Common.{◌≡◌, ℕ, ◌+◌, ◌-◌, ◌<◌, ◌≤◌, Bool, true, false, ◌&&◌, cond, List, [], ◌∷◌, ◌++◌, refl, ap, sym, ◌∙◌, flat_map, append_assoc}
use Rattle.std.proofs.Common.{length, take, drop, get_or, arith, subst, length-take, take-append-drop}
use Rattle.std.specs.Prelude.{◌==◌}
use Rattle.std.specs.List.{list_all}
use Rattle.std.proofs.lemmas.List.{append-nil, drop-append-le, take-take, take_all, take_more}
use Rattle.std.proofs.lemmas.List.Folds.{list_all-append}
use Rattle.boc_table.specs.Tables.{blanks, spaced, without_blanks_behind}

abbrev is_blank : ℕ → Bool
is_blank byte = byte == 32

and_true : (b : Bool) → (b && true) ≡ b
and_true true = refl
and_true false = refl

and_false : (b : Bool) → (b && false) ≡ false
and_false true = refl
and_false false = refl

-- a blank at the end is cut off
pub blank_cut : (bytes : List ℕ) → without_blanks_behind (bytes ++ 32 ∷ []) ≡ without_blanks_behind bytes
blank_cut [] = refl
blank_cut (byte ∷ bytes) =
    ap (λ all. cond all [] (byte ∷ without_blanks_behind (bytes ++ 32 ∷ []))) (list_all-append is_blank (byte ∷ bytes) (32 ∷ []) ∙ and_true _)
    ∙ ap (λ rest. cond (list_all is_blank (byte ∷ bytes)) [] (byte ∷ rest)) (blank_cut bytes)

-- any other byte stays, with all that is before it
pub other_stays : (bytes : List ℕ) (last : ℕ) → (last == 32) ≡ false → without_blanks_behind (bytes ++ last ∷ []) ≡ bytes ++ last ∷ []
other_stays [] last other = ap (λ blank. cond (blank && true) [] (last ∷ [])) other
other_stays (byte ∷ bytes) last other =
    ap (λ all. cond all [] (byte ∷ without_blanks_behind (bytes ++ last ∷ []))) (list_all-append is_blank (byte ∷ bytes) (last ∷ [])
    ∙ ap (λ blank. list_all is_blank (byte ∷ bytes) && (blank && true)) other ∙ and_false _)
    ∙ ap (λ rest. byte ∷ rest) (other_stays bytes last other)

-- two blanks behind each text are two between them, and two at the end
blanks_behind : (text : List ℕ) (texts : List (List ℕ)) → flat_map (λ t. t ++ blanks 2) (text ∷ texts) ≡ spaced (text ∷ texts) ++ 32 ∷ [] ++ 32 ∷ []
blanks_behind text [] = simp (append_assoc, append-nil)
blanks_behind text (next ∷ texts) = ap (λ rest. (text ++ blanks 2) ++ rest) (blanks_behind next texts) ∙ simp append_assoc

-- which are cut off
pub same_cut : (texts : List (List ℕ)) → without_blanks_behind (flat_map (λ t. t ++ blanks 2) texts) ≡ without_blanks_behind (spaced texts)
same_cut [] = refl
same_cut (text ∷ texts) =
    ap without_blanks_behind (blanks_behind text texts) ∙ blank_cut (spaced (text ∷ texts) ++ 32 ∷ []) ∙ blank_cut (spaced (text ∷ texts))

-- what a text has from a place on, with its last byte apart
end_apart : (text : List ℕ) (start n last : ℕ) → length text ≡ n → start < n → last ≡ get_or text (n - 1) last
    → drop start text ≡ drop start (take (n - 1) text) ++ last ∷ []
end_apart text start n last long some is =
    ap (drop start) (sym (take_all ((n - 1) + 1) text (omega arith)) ∙ take_more text (n - 1) last (omega arith)
    ∙ ap (λ b. take (n - 1) text ++ b ∷ []) (sym is))
    ∙ drop-append-le start (take (n - 1) text) (last ∷ []) (omega (arith, length-take (n - 1) text))

-- what is cut off of a text, from a place on
pub record IsCut (start : ℕ) (text cut : List ℕ) : Type 0 where
  pub behind : start ≤ length cut
  pub front : take start cut ≡ take start text
  pub same : without_blanks_behind (drop start cut) ≡ without_blanks_behind (drop start text)

-- a blank is cut off
pub blank_off : (text shorter : List ℕ) (start n last : ℕ) → length text ≡ n → start < n → last ≡ get_or text (n - 1) last → last ≡ 32
    → shorter ≡ take (n - 1) text
    → IsCut start text shorter
blank_off text shorter start n last long some is blank short = subst (IsCut start text) (sym short) (record {
  behind = omega (arith, length-take (n - 1) text);
  front = take-take start (n - 1) text (omega arith);
  same = sym (ap without_blanks_behind (end_apart text start n last long some is ∙ ap (λ b. drop start (take (n - 1) text) ++ b ∷ []) blank)
      ∙ blank_cut (drop start (take (n - 1) text)));
})

-- nothing is cut off of a text that ends with another byte
pub all_cut : (text : List ℕ) (start n last : ℕ) → length text ≡ n → start < n → last ≡ get_or text (n - 1) last → (last == 32) ≡ false
    → text ≡ take start text ++ without_blanks_behind (drop start text)
all_cut text start n last long some is other =
    let end : drop start text ≡ drop start (take (n - 1) text) ++ last ∷ [] = end_apart text start n last long some is in
    sym (take-append-drop start text) ∙ ap (λ rest. take start text ++ rest)
    (end ∙ sym (other_stays (drop start (take (n - 1) text)) last other) ∙ ap without_blanks_behind (sym end))
