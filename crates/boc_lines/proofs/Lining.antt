-- Ticks by line.
use Rattle.std.proofs.Common.{◌≡◌, ℕ, suc, ◌+◌, ◌≤◌, ◌<◌, List, [], ◌∷◌, ◌++◌, Bool, true, false, refl, sym, ap, ◌∙◌, subst, arith, length, drop, take, get_or, sum, append-nil}
use Rattle.std.specs.Prelude.{All, nat_lt, ◌||◌, if◌then◌else◌}
use Rattle.std.proofs.Math.ListN.{drop_of_length-le}
use Rattle.std.proofs.lemmas.Bool.Decides.{nat_tests}
use Rattle.std.proofs.lemmas.List.{take_all}
use Rattle.std.proofs.lemmas.List.Sums.{sum_by-cons}
use Rattle.boc_lines.specs.declared.by_line.LineTicks.{LineTicks}
use Rattle.boc_lines.specs.Charges.{total}
use Rattle.boc_lines.specs.Books.{add_at, tally}
use Rattle.boc_lines.specs.Lines.{AddUp, line_charges, lines_from}
use Rattle.boc_lines.proofs.Agreeing.{AreBelow}
use Rattle.boc_lines.proofs.Places.{numbers_on}

-- ---- numbers on lines

pub lines_below : (ends : ℕ) (lines ticks : List ℕ) → All (λ l. l < ends) lines → AreBelow ends (line_charges lines ticks)
lines_below ends [] ticks h = tt
lines_below ends (l ∷ lines) [] h = tt
lines_below ends (l ∷ lines) (n ∷ ticks) h = (h 0 0 (omega arith), lines_below ends lines ticks (λ k d low. h (suc k) d (omega (arith, low))))

pub total_lines : (lines ticks : List ℕ) → length lines ≡ length ticks → total (line_charges lines ticks) ≡ sum ticks
total_lines [] [] h = refl
total_lines [] (n ∷ ticks) h = absurd (omega (arith, h))
total_lines (l ∷ lines) [] h = absurd (omega (arith, h))
total_lines (l ∷ lines) (n ∷ ticks) h = ap (λ m. n + m) (total_lines lines ticks (omega (arith, h))) ∙ sym (sum_by-cons (λ x. x) n ticks)

pub line_on : (lines ticks : List ℕ) (i : ℕ) → i < length lines → i < length ticks
    → line_charges (drop i lines) (drop i ticks)
    ≡ (record { statement = get_or lines i 0; ticks = get_or ticks i 0 }) ∷ line_charges (drop (i + 1) lines) (drop (i + 1) ticks)
line_on lines ticks i h k =
    ap (λ ls. line_charges ls (drop i ticks)) (numbers_on lines i h)
    ∙ ap (line_charges (get_or lines i 0 ∷ drop (i + 1) lines)) (numbers_on ticks i k)

pub line_counted : (counts new lines ticks : List ℕ) (i : ℕ) (all : List ℕ) → i < length lines → i < length ticks
    → new ≡ add_at counts (get_or lines i 0) (get_or ticks i 0) → tally counts (line_charges (drop i lines) (drop i ticks)) ≡ all
    → tally new (line_charges (drop (i + 1) lines) (drop (i + 1) ticks)) ≡ all
line_counted counts new lines ticks i all h k new_is so_far =
    ap (λ c. tally c (line_charges (drop (i + 1) lines) (drop (i + 1) ticks))) new_is
    ∙ ap (tally counts) (sym (line_on lines ticks i h k)) ∙ so_far

pub lines_done : (counts lines ticks : List ℕ) (i : ℕ) (all : List ℕ) → length lines ≤ i
    → tally counts (line_charges (drop i lines) (drop i ticks)) ≡ all → counts ≡ all
lines_done counts lines ticks i all h so_far = ap (λ ls. tally counts (line_charges ls (drop i ticks))) (sym (drop_of_length-le lines h)) ∙ so_far

-- ---- lines that take ticks

pub told_on : (line : ℕ) (ticks chain : List ℕ) → line < length ticks → length ticks ≡ length chain
    → lines_from line (drop line ticks) (drop line chain) ≡ lines_from line (get_or ticks line 0 ∷ drop (line + 1) ticks) (get_or chain line 0 ∷ drop (line + 1) chain)
told_on line ticks chain h both =
    ap (λ ts. lines_from line ts (drop line chain)) (numbers_on ticks line h)
    ∙ ap (lines_from line (get_or ticks line 0 ∷ drop (line + 1) ticks)) (numbers_on chain line (omega (arith, h, both)))

none : (k n : ℕ) → n ≡ 0 → k ≡ n + k
none k n h = omega (arith, h)

or_false : (a b : Bool) → (a || b) ≡ false → (a ≡ false) × (b ≡ false)
or_false true b e = absurd cc
or_false false b e = (refl, e)

not_above : (n : ℕ) → nat_lt 0 n ≡ false → n ≡ 0
not_above n e = grind (arith, nat_tests)

neither : (n m : ℕ) → (nat_lt 0 n || nat_lt 0 m) ≡ false → (n ≡ 0) × (m ≡ 0)
neither n m e = (not_above n (or_false (nat_lt 0 n) (nat_lt 0 m) e).0, not_above m (or_false (nat_lt 0 n) (nat_lt 0 m) e).1)

sums_if : (b : Bool) (line n m : ℕ) (rest : List LineTicks) (ticks chain : List ℕ) → (nat_lt 0 n || nat_lt 0 m) ≡ b
    → AddUp (sum ticks) (sum chain) rest
    → AddUp (sum (n ∷ ticks)) (sum (m ∷ chain)) (if b then (record { line = line; ticks = n; chain = m }) ∷ rest else rest)
sums_if true line n m rest ticks chain e h =
    let own : LineTicks = record { line = line; ticks = n; chain = m } in
    record {
      ticks = sum_by-cons (λ (l : LineTicks). l.ticks) own rest ∙ ap (λ k. n + k) h.ticks ∙ sym (sum_by-cons (λ x. x) n ticks);
      chain = sum_by-cons (λ (l : LineTicks). l.chain) own rest ∙ ap (λ k. m + k) h.chain ∙ sym (sum_by-cons (λ x. x) m chain);
    }
sums_if false line n m rest ticks chain e h =
    record {
      ticks = h.ticks ∙ none (sum ticks) n (neither n m e).0 ∙ sym (sum_by-cons (λ x. x) n ticks);
      chain = h.chain ∙ none (sum chain) m (neither n m e).1 ∙ sym (sum_by-cons (λ x. x) m chain);
    }

pub sums_from : (line : ℕ) (ticks chain : List ℕ) → length ticks ≡ length chain → AddUp (sum ticks) (sum chain) (lines_from line ticks chain)
sums_from line [] [] h = record { ticks = refl; chain = refl }
sums_from line [] (m ∷ chain) h = absurd (omega (arith, h))
sums_from line (n ∷ ticks) [] h = absurd (omega (arith, h))
sums_from line (n ∷ ticks) (m ∷ chain) h =
    sums_if (nat_lt 0 n || nat_lt 0 m) line n m (lines_from (line + 1) ticks chain) ticks chain refl
    (sums_from (line + 1) ticks chain (omega (arith, h)))

pub told_done : (lines : List LineTicks) (line : ℕ) (ticks chain : List ℕ) (all : List LineTicks) → length ticks ≤ line
    → lines ++ lines_from line (drop line ticks) (drop line chain) ≡ all → lines ≡ all
told_done lines line ticks chain all h so_far =
    sym (append-nil lines) ∙ ap (λ ts. lines ++ lines_from line ts (drop line chain)) (sym (drop_of_length-le ticks h)) ∙ so_far

-- ---- numbers that are below an end

pub larger : (end new : ℕ) (lines : List ℕ) → end ≤ new → All (λ line. line < end) lines → All (λ line. line < new) lines
larger end new lines h below = λ k d low. omega (arith, h, below k d low)

pub all_taken : (end : ℕ) (lines : List ℕ) (i : ℕ) → length lines ≤ i → All (λ line. line < end) (take i lines) → All (λ line. line < end) lines
all_taken end lines i h below = subst (All (λ line. line < end)) (take_all i lines h) below
