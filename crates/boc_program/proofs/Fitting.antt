-- The wishes of a body whose calls fit, fit.
use Rattle.std.proofs.Common.{◌≡◌, ℕ, zero, suc, ◌+◌, ◌<◌, ◌≤◌, List, [], ◌∷◌, map, length, ap, ◌∙◌, refl, arith, IsTrue, ℤ, pos, negsuc, Bool, true, false, Ok}
use Rattle.std.proofs.Common.{Err, Option, Some, None}
use Rattle.std.specs.Prelude.{slice_get, slice_index, nat_lt, nat_eq, ◌&&◌, if◌then◌else◌}
use Rattle.std.proofs.lemmas.List.{length-map}
use Rattle.std.proofs.lemmas.Bool.Decides.{nat_tests}
use Rattle.boc_program.specs.declared.body.Body.{Body}
use Rattle.boc_program.specs.declared.body.EndStatus.TheVariants.{Done, OutOfRange, SameCown}
use Rattle.boc_program.specs.Syntax.{SlotExpr, CownRef, Held, Single, Member}
use Rattle.boc_program.specs.declared.short.Input.{Input}
use Rattle.boc_program.specs.Value.{OrFault, value, values, then_value}
use Rattle.boc_program.specs.Meaning.{State, start, ends, meaning, member, cown_of, cowns_of, distinct, has_same_twice, cowns_held}
use Rattle.boc_program.specs.Resolved.{every}
use Rattle.boc_program.specs.Signatures.{Signature, ref_below, counts_fit, call_fits, calls_fit, AllBelow, CountsAre, WishFits, WishesFit}
use Rattle.boc_program.proofs.Law.{Keeps, law}
use Rattle.boc_program.proofs.Truth.{and_true}

values_cons : (o : OrFault ℤ) (p : OrFault (List ℤ)) (n : ℕ) (vs : List ℤ) → ((ws : List ℤ) → Ok ws ≡ p → length ws ≡ n)
    → Ok vs ≡ then_value o (λ v. then_value p (λ ws. Ok (v ∷ ws))) → length vs ≡ suc n
values_cons (Err f) p n vs h e = absurd cc
values_cons (Ok v) (Err f) n vs h e = absurd cc
values_cons (Ok v) (Ok ws) n vs h e =
    let same : vs ≡ v ∷ ws = cc in
    ap length same ∙ ap suc (h ws refl)

pub values-length : (es : List SlotExpr) (slots : List ℤ) (vs : List ℤ) → Ok vs ≡ values es slots → length vs ≡ length es
values-length [] slots vs e = let same : vs ≡ [] = cc in ap length same
values-length (x ∷ es) slots vs e =
    values_cons (value x slots) (values es slots) (length es) vs (λ ws is. values-length es slots ws is) e

held_below : (n : ℕ) (held : List ℕ) (i : ℕ) → AllBelow n held → i < length held → slice_index held i < n
held_below n [] i all h = absurd (omega arith)
held_below n (c ∷ cs) zero all h = all.0
held_below n (c ∷ cs) (suc i) all h = held_below n cs i all.1 (omega arith)

member_is : (b : Bool) (n first size i c : ℕ) → nat_lt i size ≡ b → first + size ≤ n
    → Ok c ≡ (let r : OrFault ℕ = if b then Ok (first + i) else Err OutOfRange in r) → c < n
member_is true n first size i c t h e = let same : c ≡ first + i = cc in let lt : i < size = grind (arith, nat_tests) in omega arith
member_is false n first size i c t h e = absurd cc

member_below : (o : OrFault ℤ) (n first size c : ℕ) → first + size ≤ n → Ok c ≡ then_value o (member first size) → c < n
member_below (Err f) n first size c h e = absurd cc
member_below (Ok (pos i)) n first size c h e = member_is (nat_lt i size) n first size i c refl h e
member_below (Ok (negsuc i)) n first size c h e = absurd cc

cown_below : (r : CownRef) (s : State) (n c : ℕ) → AllBelow n s.held → IsTrue (ref_below (length s.held) n r) → Ok c ≡ cown_of r s → c < n
cown_below (Held i) s n c all t e =
    let same : c ≡ slice_index s.held i = cc in
    let lt : i < length s.held = grind (arith, nat_tests) in
    let h = held_below n s.held i all lt in omega arith
cown_below (Single cown) s n c all t e =
    let same : c ≡ cown = cc in let lt : cown < n = grind (arith, nat_tests) in omega arith
cown_below (Member first size index) s n c all t e =
    let le : first + size ≤ n = grind (arith, nat_tests) in
    member_below (value index s.slots) n first size c le e

cowns_cons : (o : OrFault ℕ) (p : OrFault (List ℕ)) (n k : ℕ) (cs : List ℕ) → ((c : ℕ) → Ok c ≡ o → c < n)
    → ((ds : List ℕ) → Ok ds ≡ p → (length ds ≡ k) × AllBelow n ds) → Ok cs ≡ then_value o (λ c. then_value p (λ ds. Ok (c ∷ ds)))
    → (length cs ≡ suc k) × AllBelow n cs
cowns_cons (Err f) p n k cs h g e = absurd cc
cowns_cons (Ok c) (Err f) n k cs h g e = absurd cc
cowns_cons (Ok c) (Ok ds) n k cs h g e =
    let same : cs ≡ c ∷ ds = cc in
    let both = g ds refl in
    rw same (ap suc both.0, (h c refl, both.1))

cowns_below : (rs : List CownRef) (s : State) (n : ℕ) (cs : List ℕ) → AllBelow n s.held → IsTrue (every (map (ref_below (length s.held) n) rs))
    → Ok cs ≡ cowns_of rs s → (length cs ≡ length rs) × AllBelow n cs
cowns_below [] s n cs all t e = let same : cs ≡ [] = cc in rw same (refl, tt)
cowns_below (r ∷ rs) s n cs all t e =
    let both = and_true (ref_below (length s.held) n r) (every (map (ref_below (length s.held) n) rs)) t in
    cowns_cons (cown_of r s) (cowns_of rs s) n (length rs) cs (λ c is. cown_below r s n c all both.0 is) (λ ds is. cowns_below rs s n ds all both.1 is) e

distinct_if : (b : Bool) (ds cs : List ℕ) → Ok cs ≡ (let r : OrFault (List ℕ) = if b then Err SameCown else Ok ds in r) → cs ≡ ds
distinct_if true ds cs e = absurd cc
distinct_if false ds cs e = cc

were_distinct : (o : OrFault (List ℕ)) (cs : List ℕ) → Ok cs ≡ then_value o distinct → Ok cs ≡ o
were_distinct (Err f) cs e = e
were_distinct (Ok ds) cs e = ap Ok (distinct_if (has_same_twice ds) ds cs e)

counts_are : (o : Option Signature) (args : List SlotExpr) (refs : List CownRef) (a c : ℕ) → IsTrue (counts_fit o args refs) → a ≡ length args → c ≡ length refs
    → CountsAre o a c
counts_are None args refs a c t h g = absurd cc
counts_are (Some sig) args refs a c t h g =
    let both = and_true (nat_eq (length args) sig.args) (nat_eq (length refs) sig.cowns) t in
    (h ∙ grind (arith, nat_tests, both.0), g ∙ grind (arith, nat_tests, both.1))

abbrev Holding : ℕ → ℕ → State → Type 0
Holding held n s = (length s.held ≡ held) × AllBelow n s.held

fitting_keeps : (sigs : List Signature) (held n : ℕ) → Keeps (Holding held n) (λ s r. WishesFit sigs n r.wishes) (call_fits sigs held n)
fitting_keeps sigs held n = record {
  at_end = λ status s i. tt;
  ticks_keep = λ k s i fits. i;
  ticks_back = λ k s r i h. h;
  write_keeps = λ slot v s i. i;
  write_back = λ slot v s r i h. h;
  wish_back = λ kind args refs s vs cs r t i is_vs is_cs h.
      let named = and_true (nat_lt 0 kind) (counts_fit (slice_get sigs kind) args refs && every (map (ref_below held n) refs)) t in
      let both = and_true (counts_fit (slice_get sigs kind) args refs) (every (map (ref_below held n) refs)) named.1 in
      let s1 : State = record s { ticks = s.ticks + 1 } in
      let below = cowns_below refs s1 n cs i.1 (rw i.0 both.1) (were_distinct (cowns_of refs s1) cs is_cs) in
      let fits : WishFits sigs n (record { offset = s.ticks + 1; kind = kind; args = vs; cowns = cs }) = record {
        of_def = grind (arith, nat_tests, named.0);
        counts = counts_are (slice_get sigs kind) args refs (length vs) (length cs) both.0 (values-length args s.slots vs is_vs) below.0;
        below = below.1;
      } in
      (fits, h);
}

pub meaning_fits : (sigs : List Signature) (n : ℕ) (body : Body) (args : List ℤ) (inputs : List Input) → IsTrue (calls_fit sigs n body)
    → length inputs ≡ body.cown_params → AllBelow n (cowns_held inputs) → WishesFit sigs n (meaning body args inputs).wishes
meaning_fits sigs n body args inputs t len below =
    let same : length (cowns_held inputs) ≡ length inputs = simp length-map in
    law (Holding body.cown_params n) (λ s r. WishesFit sigs n r.wishes) (call_fits sigs body.cown_params n) (fitting_keeps sigs body.cown_params n) body.block t
    (start body args inputs) (ends Done) (same ∙ len, below) (λ s i. tt)
