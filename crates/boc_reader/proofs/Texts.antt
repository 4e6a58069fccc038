-- How the tokens of a text follow from its front.
use Rattle.std.proofs.Common.{lit<, zero, suc, ◌⊎◌, ◌*◌, ◌-◌, ◌^◌, get_or, length, take, drop, ◌≡◌, ◌≢◌, ℕ, ◌+◌, ◌≤◌, ◌<◌, ◌∷◌, List, [], ◌++◌}
use Rattle.std.proofs.Common.{true, false, cond, eqb, ltb, ◌&&◌, ◌||◌, Option, Some, None, refl, sym, ap, ◌∙◌, subst, arith, inl, inr}
use Rattle.std.proofs.lemmas.Bool.Decides.{nat_tests}
use Rattle.std.proofs.lemmas.Bool.{or_cases, and_right, eqb-true, ne_eqb, cases_Bool}
use Rattle.std.proofs.lemmas.Bool.{lt-ltb}
use Rattle.std.proofs.lemmas.List.Sums.{fold-append, fold_more}
use Rattle.std.proofs.lemmas.List.{take-append-drop, append-nil}
use Rattle.std.specs.Prelude.{fold}
use Rattle.std.specs.Str.{IsAscii}
use Rattle.std.proofs.lemmas.Str.{IsAscii-append}
use Rattle.boc_reader.specs.declared.terminal.Sign.{Sign}
use Rattle.std.proofs.lemmas.List.Folds.{length-prefix_len}
use Rattle.std.proofs.Math.Seq.{take-append_seam, drop-append_seam}
use Rattle.std.specs.List.{AllByRecursion, prefix_len, take_while}
use Rattle.boc_reader.specs.Tokens.{Token, is_name_byte, is_blank, without_comments, Piece, run, pair, single, join, in_front, begins_pair, cut}
use Rattle.boc_reader.specs.Tokens.{pair_sign, single_sign, tokens_of_pieces, tokens_of_text, IsApart, value_of}
use Rattle.boc_reader.specs.WrongTokens.{pieces_of, LeadOn}

-- a byte that begins no pair
pub cut_front : (b : ℕ) (bs : List ℕ) → begins_pair b ≡ false → cut (b ∷ bs) ≡ in_front b (cut bs)
unfolding cut
cut_front b [] h = refl
cut_front b (c ∷ bs) h = rw h refl

-- nor does one before another than an equals sign
pub cut_apart : (b c : ℕ) (bs : List ℕ) → eqb c 61 ≡ false → cut (b ∷ c ∷ bs) ≡ in_front b (cut (c ∷ bs))
unfolding cut
cut_apart b c bs h = rw (and_right (begins_pair b) (eqb c 61) h) refl

-- a blank is one of four bytes
pub blank_by : (P : ℕ → Type 0) → P 32 → P 9 → P 13 → P 10 → (b : ℕ) → is_blank b ≡ true → P b
blank_by P p q r s b h =
    elim (or_cases (eqb b 32 || eqb b 9 || eqb b 13) (eqb b 10) h) [
      | inl h1 ↦ elim (or_cases (eqb b 32 || eqb b 9) (eqb b 13) h1) [
        | inl h2 ↦ elim (or_cases (eqb b 32) (eqb b 9) h2) [
          | inl h3 ↦ subst P (sym (eqb-true b 32 h3)) p
          | inr h3 ↦ subst P (sym (eqb-true b 9 h3)) q
        ]
        | inr h2 ↦ subst P (sym (eqb-true b 13 h2)) r
      ]
      | inr h1 ↦ subst P (sym (eqb-true b 10 h1)) s
    ]

pub name_byte_is : (b : ℕ) → is_name_byte b ≡ true → (begins_pair b ≡ false) × (eqb b 35 ≡ false)
name_byte_is b h = (grind (arith, nat_tests), grind (arith, nat_tests))

pub blank_is : (b : ℕ) → is_blank b ≡ true → (is_name_byte b ≡ false) × (begins_pair b ≡ false) × (eqb b 35 ≡ false)
blank_is b h = blank_by (λ b. (is_name_byte b ≡ false) × (begins_pair b ≡ false) × (eqb b 35 ≡ false)) (refl, refl, refl) (refl, refl, refl) (refl, refl, refl)
    (refl, refl, refl) b h

-- a byte that is neither a name byte nor the first of a pair is a piece by itself
by_itself : (b : ℕ) (bs : List ℕ) → begins_pair b ≡ false → is_name_byte b ≡ false → cut (b ∷ bs) ≡ single b ∷ cut bs
by_itself b bs p w = cut_front b bs p ∙ rw w refl

blank_by_itself : (b : ℕ) (bs : List ℕ) → is_blank b ≡ true → cut (b ∷ bs) ≡ single b ∷ cut bs
blank_by_itself b bs h = let i = blank_is b h in by_itself b bs i.1 i.0

pub pieces_of_blank : (b : ℕ) (bs : List ℕ) → is_blank b ≡ true → pieces_of (b ∷ bs) ≡ single b ∷ pieces_of bs
pieces_of_blank b bs h = let e = (blank_is b h).2 in rw e (blank_by_itself b (without_comments false bs) h)

-- the pieces of what stands inside of a comment
abbrev pub in_comment : List ℕ → List Piece
in_comment bs = cut (without_comments true bs)

pub pieces_of_hash : (bs : List ℕ) → pieces_of (35 ∷ bs) ≡ single 32 ∷ in_comment bs
pieces_of_hash bs = blank_by_itself 32 (without_comments true bs) refl

-- what has been cut after a run
abbrev NoRun : List Piece → Type 0
NoRun [] = Unit {0}
NoRun (run bs ∷ ps) = ⊥
NoRun (pair b ∷ ps) = Unit {0}
NoRun (single b ∷ ps) = Unit {0}

abbrev pub NoNameByte : List ℕ → Type 0
NoNameByte [] = Unit {0}
NoNameByte (b ∷ bs) = is_name_byte b ≡ false

cut_no_run : (bs : List ℕ) → NoNameByte bs → NoRun (cut bs)
unfolding cut
cut_no_run [] h = tt
cut_no_run (b ∷ []) h = rw h tt
cut_no_run (b ∷ c ∷ bs) h = rw h (elim (begins_pair b && eqb c 61) as (λ t. NoRun (cond t (pair b ∷ cut bs) (single b ∷ cut (c ∷ bs))))
    [ true ↦ tt | false ↦ tt ])

join_no_run : (b : ℕ) (ps : List Piece) → NoRun ps → join b ps ≡ run (b ∷ []) ∷ ps
join_no_run b (run bs ∷ ps) h = absurd h
join_no_run b _ h = refl

-- name bytes before others are one run
cut_run : (b : ℕ) (w bs : List ℕ) → is_name_byte b ≡ true → AllByRecursion (λ c. is_name_byte c ≡ true) w → NoNameByte bs
    → cut (b ∷ (w ++ bs)) ≡ run (b ∷ w) ∷ cut bs
cut_run b [] bs h all none =
    cut_front b bs (name_byte_is b h).0 ∙ rw h (join_no_run b (cut bs) (cut_no_run bs none))
cut_run b (c ∷ w) bs h all none =
    cut_front b (c ∷ (w ++ bs)) (name_byte_is b h).0 ∙ rw h (ap (join b) (cut_run c w bs all.0 all.1 none))

no_comment_in_run : (w bs : List ℕ) → AllByRecursion (λ c. is_name_byte c ≡ true) w → without_comments false (w ++ bs) ≡ w ++ without_comments false bs
no_comment_in_run [] bs all = refl
no_comment_in_run (c ∷ w) bs all =
    let e = (name_byte_is c all.0).1 in rw e (ap (λ xs. c ∷ xs) (no_comment_in_run w bs all.1))

still_none : (bs : List ℕ) → NoNameByte bs → NoNameByte (without_comments false bs)
still_none [] h = tt
still_none (b ∷ bs) h = elim (cases_Bool (eqb b 35)) [ inl e ↦ rw e refl | inr e ↦ rw e h ]

pieces_of_run : (b : ℕ) (w bs : List ℕ) → is_name_byte b ≡ true → AllByRecursion (λ c. is_name_byte c ≡ true) w → NoNameByte bs
    → pieces_of (b ∷ (w ++ bs)) ≡ run (b ∷ w) ∷ pieces_of bs
pieces_of_run b w bs h all none =
    ap cut (no_comment_in_run (b ∷ w) bs (h, all)) ∙ cut_run b w (without_comments false bs) h all (still_none bs none)

pieces_of_pair : (b : ℕ) (bs : List ℕ) → begins_pair b ≡ true → eqb b 35 ≡ false → pieces_of (b ∷ 61 ∷ bs) ≡ pair b ∷ pieces_of bs
unfolding cut
pieces_of_pair b bs h e = rw e (rw h refl)

in_front_alone : (b : ℕ) (ps : List Piece) → is_name_byte b ≡ false → in_front b ps ≡ single b ∷ ps
in_front_alone b ps w = rw w refl

pieces_of_last : (b : ℕ) → is_name_byte b ≡ false → eqb b 35 ≡ false → pieces_of (b ∷ []) ≡ single b ∷ pieces_of []
unfolding cut
pieces_of_last b w e = rw e (rw w refl)

pieces_of_single : (b c : ℕ) (bs : List ℕ) → is_name_byte b ≡ false → eqb b 35 ≡ false → (begins_pair b && eqb c 61) ≡ false
    → pieces_of (b ∷ c ∷ bs) ≡ single b ∷ pieces_of (c ∷ bs)
unfolding cut
pieces_of_single b c bs w e apart =
    elim (cases_Bool (eqb c 35)) [
      | inl e2 ↦ rw (e, e2) (cut_apart b 32 (without_comments true bs) refl ∙ in_front_alone b (cut (32 ∷ without_comments true bs)) w)
      | inr e2 ↦ rw (e, e2) (rw apart (in_front_alone b (cut (c ∷ without_comments false bs)) w))
    ]

pub comment_goes_on : (b : ℕ) (bs : List ℕ) → eqb b 10 ≡ false → b < 128 → in_comment (b ∷ bs) ≡ single 32 ∷ in_comment bs
comment_goes_on b bs e h = rw (e, lt-ltb b 128 h) (blank_by_itself 32 (without_comments true bs) refl)

-- a byte from 128 on is a piece by itself
high_by_itself : (b : ℕ) (bs : List ℕ) → 128 ≤ b → cut (b ∷ bs) ≡ single b ∷ cut bs
high_by_itself b bs h = by_itself b bs (grind (arith, nat_tests)) (grind (arith, nat_tests))

pub pieces_of_high : (b : ℕ) (bs : List ℕ) → 128 ≤ b → pieces_of (b ∷ bs) ≡ single b ∷ pieces_of bs
pieces_of_high b bs h =
    let e35 : eqb b 35 ≡ false = grind (arith, nat_tests) in
    rw e35 (high_by_itself b (without_comments false bs) h)

-- and no token
pub none_high : (b : ℕ) (ps : List Piece) → 128 ≤ b → tokens_of_pieces (single b ∷ ps) ≡ None
none_high b ps h =
    let k : is_blank b ≡ false = grind (arith, nat_tests) in
    let s : single_sign b ≡ None = grind (arith, nat_tests) in
    rw (k, s) refl

-- what ends a comment is what follows it
pub comment_leads_on : (b : ℕ) (bs : List ℕ) → (b ≡ 10) ⊎ (128 ≤ b) → LeadOn (in_comment (b ∷ bs)) (b ∷ bs)
comment_leads_on b bs (inl e) = inl (rw e refl)
comment_leads_on b bs (inr h) =
    let e10 : eqb b 10 ≡ false = grind (arith, nat_tests) in
    let lt : ltb b 128 ≡ false = grind (arith, nat_tests) in
    inr (b, bs, in_comment bs, refl, rw (e10, lt) (high_by_itself b (without_comments true bs) h), h)

split_run : (bs : List ℕ) → (w : List ℕ) × (rest : List ℕ) × (bs ≡ w ++ rest) × AllByRecursion (λ c. is_name_byte c ≡ true) w × NoNameByte rest
    × (length w ≡ prefix_len is_name_byte bs)
split_run [] = ([], [], refl, tt, tt, refl)
split_run (b ∷ bs) =
    elim (cases_Bool (is_name_byte b)) [
      | inl e ↦ let s = split_run bs in (b ∷ s.0, s.1, ap (λ xs. b ∷ xs) s.2, (e, s.3), s.4, rw e (omega (arith, s.5)))
      | inr e ↦ ([], b ∷ bs, refl, tt, e, rw e refl)
    ]

run_of : (w bs : List ℕ) → AllByRecursion (λ c. is_name_byte c ≡ true) w → NoNameByte bs → 0 < length w → pieces_of (w ++ bs) ≡ run w ∷ pieces_of bs
run_of [] bs all none h = absurd (omega arith)
run_of (b ∷ w) bs all none h = pieces_of_run b w bs all.0 all.1 none

-- the longest run of name bytes at the front is a piece
pub run_at : (bs : List ℕ) (n : ℕ) → n ≡ length (take_while is_name_byte bs) → 0 < n → pieces_of bs ≡ run (take n bs) ∷ pieces_of (drop n bs)
run_at bs n e h =
    let s = split_run bs in
    let k : n ≡ length s.0 = e ∙ length-prefix_len is_name_byte bs ∙ sym s.5 in
    let t : take n bs ≡ s.0 = ap (λ m. take m bs) k ∙ ap (take (length s.0)) s.2 ∙ take-append_seam s.0 s.1 in
    let d : drop n bs ≡ s.1 = ap (λ m. drop m bs) k ∙ ap (drop (length s.0)) s.2 ∙ drop-append_seam s.0 s.1 in
    ap pieces_of s.2 ∙ run_of s.0 s.1 s.3 s.4 (omega arith)
    ∙ sym (ap (λ x. run x ∷ pieces_of (drop n bs)) t ∙ ap (λ x. run s.0 ∷ pieces_of x) d)

one_ascii : (c : ℕ) → c < 128 → IsAscii (c ∷ [])
one_ascii c h zero = h
one_ascii c h (suc i) = lit< tt

-- name bytes are ASCII
ascii_of : (w : List ℕ) → AllByRecursion (λ c. is_name_byte c ≡ true) w → IsAscii w
ascii_of [] all = λ i. lit< tt
ascii_of (c ∷ w) all = IsAscii-append (c ∷ []) w (one_ascii c (grind (arith, nat_tests))) (ascii_of w all.1)

pub run_ascii : (bs : List ℕ) (n : ℕ) → n ≡ length (take_while is_name_byte bs) → IsAscii (take n bs)
run_ascii bs n e =
    let s = split_run bs in
    let k : n ≡ length s.0 = e ∙ length-prefix_len is_name_byte bs ∙ sym s.5 in
    let t : take n bs ≡ s.0 = ap (λ m. take m bs) k ∙ ap (take (length s.0)) s.2 ∙ take-append_seam s.0 s.1 in
    subst IsAscii (sym t) (ascii_of s.0 s.3)

-- the tokens so far, before others
abbrev pub put_all : List Token → Option (List Token) → Option (List Token)
put_all ws None = None
put_all ws (Some vs) = Some (ws ++ vs)

pub pair_at : (b : ℕ) (bs : List ℕ) (s : Sign) → pair_sign b ≡ Some s → pieces_of (b ∷ 61 ∷ bs) ≡ pair b ∷ pieces_of bs
pair_at b bs s h =
    let p : begins_pair b ≡ true = grind (arith, nat_tests) in
    let e : eqb b 35 ≡ false = grind (arith, nat_tests) in
    pieces_of_pair b bs p e

pub single_at : (b : ℕ) (bs : List ℕ) → is_name_byte b ≡ false → b ≢ 35 → IsApart b bs → pieces_of (b ∷ bs) ≡ single b ∷ pieces_of bs
single_at b [] w e a = pieces_of_last b w (ne_eqb b 35 e)
single_at b (c ∷ bs) w e a = pieces_of_single b c bs w (ne_eqb b 35 e) a

value_grows : (ds : List ℕ) (v : ℕ) → v ≤ fold (λ v d. 10 * v + (d - 48)) v ds
value_grows [] v = omega arith
value_grows (d ∷ ds) v = let h = value_grows ds (10 * v + (d - 48)) in omega arith

-- once the value is too large, it stays so
pub stays_large : (ds : List ℕ) (i : ℕ) → i < length ds → 2 ^ 63 ≤ 10 * value_of (take i ds) + (get_or ds i 0 - 48) → 2 ^ 63 ≤ value_of ds
stays_large ds i lt h =
    let whole : fold (λ v d. 10 * v + (d - 48)) (value_of (take (i + 1) ds)) (drop (i + 1) ds) ≡ value_of ds =
    sym (fold-append (λ v d. 10 * v + (d - 48)) 0 (take (i + 1) ds) (drop (i + 1) ds)) ∙ ap value_of (take-append-drop (i + 1) ds) in
    let more = fold_more (λ v d. 10 * v + (d - 48)) 0 ds i 0 lt in
    let grows = value_grows (drop (i + 1) ds) (value_of (take (i + 1) ds)) in
    omega arith

pub no_tokens : (ws : List Token) → put_all ws (tokens_of_text []) ≡ Some ws
unfolding tokens_of_text cut
no_tokens ws = ap Some (append-nil ws)
