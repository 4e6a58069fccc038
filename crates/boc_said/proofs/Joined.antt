-- Lines that are put together.
use Rattle.std.proofs.Common.{◌≡◌, ℕ, ◌+◌, ◌≤◌, List, [], ◌∷◌, ◌++◌, length}
use Rattle.std.proofs.Common.{codes, refl, sym, ap, subst, ◌∙◌, append_assoc, arith, length-append}
use Rattle.std.proofs.lemmas.List.Elements.{All-nil, All-cons, All-append}
use Rattle.boc_said.specs.Lines.{IsPrintable, IsShort, IsHeaded, AreLines, lines_text}
use Rattle.boc_said.specs.declared.said.TheConstants.{MOST_LINE, MOST_WIDTH}

-- the parts of a line
pub short-append : (m n most : ℕ) (l k : List ℕ) → m + n ≤ most → IsShort m l → IsShort n k → IsShort most (l ++ k)
short-append m n most l k le a b = record {
  printable = All-append IsPrintable l k a.printable b.printable;
  few = let e = length-append l k in omega (arith, e, a.few, b.few, le);
}

-- a line of one byte
pub short-one : (b : ℕ) → IsPrintable b → IsShort 1 (b ∷ [])
short-one b p = record { printable = All-cons IsPrintable b [] p (All-nil IsPrintable); few = omega arith }

-- an indent
pub short-indent : IsShort 5 (codes "     ")
short-indent =
    let p : IsPrintable 32 = (omega arith, omega arith) in
    let one : IsShort 1 (32 ∷ []) = short-one 32 p in
    let two : IsShort 2 (32 ∷ 32 ∷ []) = short-append 1 1 2 _ _ (omega arith) one one in
    let four : IsShort 4 (32 ∷ 32 ∷ 32 ∷ 32 ∷ []) = short-append 2 2 4 _ _ (omega arith) two two in
    short-append 4 1 5 (32 ∷ 32 ∷ 32 ∷ 32 ∷ []) (32 ∷ []) (omega arith) four one

-- the text of lines behind others
pub lines_text-append : (ls ks : List (List ℕ)) → lines_text (ls ++ ks) ≡ lines_text ls ++ lines_text ks
lines_text-append [] ks = refl
lines_text-append (l ∷ ls) ks =
    ap (λ t. l ++ (10 ∷ t)) (lines_text-append ls ks) ∙ sym (append_assoc l (10 ∷ lines_text ls) (lines_text ks))

-- no lines
pub no-lines : AreLines []
no-lines = record { lines = []; short = All-nil (IsShort MOST_LINE); is = refl }

-- lines behind others
pub lines-append : (t u : List ℕ) → AreLines t → AreLines u → AreLines (t ++ u)
lines-append t u a b = record {
  lines = a.lines ++ b.lines;
  short = All-append (IsShort MOST_LINE) a.lines b.lines a.short b.short;
  is = rw (a.is, b.is) (sym (lines_text-append a.lines b.lines));
}

-- one line
pub one-line : (l : List ℕ) → IsShort MOST_LINE l → AreLines (l ++ (10 ∷ []))
one-line l s = record { lines = l ∷ []; short = All-cons (IsShort MOST_LINE) l [] s (All-nil (IsShort MOST_LINE)); is = refl }

-- one more line, behind its indent
pub line-behind : (t l : List ℕ) → AreLines t → IsShort MOST_WIDTH l → AreLines (t ++ codes "     " ++ l ++ (10 ∷ []))
line-behind t l a s =
    let indent = codes "     " in
    let short : IsShort MOST_LINE (indent ++ l) = short-append 5 MOST_WIDTH MOST_LINE indent l (omega arith) short-indent s in
    let e : t ++ indent ++ l ++ (10 ∷ []) ≡ t ++ (indent ++ l ++ (10 ∷ [])) =
    ap (λ u. u ++ (10 ∷ [])) (append_assoc t indent l) ∙ append_assoc t (indent ++ l) (10 ∷ []) in
    subst AreLines (sym e) (lines-append t (indent ++ l ++ (10 ∷ [])) a (one-line (indent ++ l) short))

-- a first line behind a name, the place of the fault and the message, on one line or on two
pub headed-one : (name place message : List ℕ) → IsShort MOST_WIDTH place → IsShort MOST_WIDTH message → length place + 1 + length message ≤ MOST_LINE
    → IsHeaded name (name ++ place ++ (32 ∷ []) ++ message ++ (10 ∷ []))
headed-one name place message p m le =
    let blank : IsShort 1 (32 ∷ []) = short-one 32 (omega arith, omega arith) in
    let pl : IsShort (length place) place = record { printable = p.printable; few = omega arith } in
    let ml : IsShort (length message) message = record { printable = m.printable; few = omega arith } in
    let first : IsShort (length place + 1) (place ++ (32 ∷ [])) = short-append (length place) 1 (length place + 1) place (32 ∷ []) (omega arith) pl blank in
    let short : IsShort MOST_LINE (place ++ (32 ∷ []) ++ message) =
    short-append (length place + 1) (length message) MOST_LINE (place ++ (32 ∷ [])) message le first ml in
    let e : name ++ place ++ (32 ∷ []) ++ message ++ (10 ∷ []) ≡ name ++ (place ++ (32 ∷ []) ++ message ++ (10 ∷ [])) =
    ap (λ u. u ++ message ++ (10 ∷ [])) (append_assoc name place (32 ∷ []))
    ∙ ap (λ u. u ++ (10 ∷ [])) (append_assoc name (place ++ (32 ∷ [])) message)
    ∙ append_assoc name (place ++ (32 ∷ []) ++ message) (10 ∷ []) in
    record { rest = place ++ (32 ∷ []) ++ message ++ (10 ∷ []); lines = one-line (place ++ (32 ∷ []) ++ message) short; is = e }

pub headed-two : (name place message : List ℕ) → IsShort MOST_WIDTH place → IsShort MOST_WIDTH message
    → IsHeaded name (name ++ place ++ codes "\n     " ++ message ++ (10 ∷ []))
headed-two name place message p m =
    let wide : IsShort MOST_LINE place = record { printable = p.printable; few = omega (arith, p.few) } in
    let lines : AreLines (place ++ (10 ∷ []) ++ codes "     " ++ message ++ (10 ∷ [])) =
    line-behind (place ++ (10 ∷ [])) message (one-line place wide) m in
    let s : place ++ (10 ∷ []) ++ codes "     " ≡ place ++ codes "\n     " = append_assoc place (10 ∷ []) (codes "     ") in
    let e : name ++ place ++ codes "\n     " ++ message ++ (10 ∷ []) ≡ name ++ (place ++ codes "\n     " ++ message ++ (10 ∷ [])) =
    ap (λ u. u ++ message ++ (10 ∷ [])) (append_assoc name place (codes "\n     "))
    ∙ ap (λ u. u ++ (10 ∷ [])) (append_assoc name (place ++ codes "\n     ") message)
    ∙ append_assoc name (place ++ codes "\n     " ++ message) (10 ∷ []) in
    record {
      rest = place ++ codes "\n     " ++ message ++ (10 ∷ []);
      lines = subst (λ (u : List ℕ). AreLines (u ++ message ++ (10 ∷ []))) s lines;
      is = e;
    }

-- lines behind a headed text
pub headed-append : (name t u : List ℕ) → IsHeaded name t → AreLines u → IsHeaded name (t ++ u)
headed-append name t u h b = record {
  rest = h.rest ++ u;
  lines = lines-append h.rest u h.lines b;
  is = ap (λ v. v ++ u) h.is ∙ append_assoc name h.rest u;
}
