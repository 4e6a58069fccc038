-- Whether several have values, and whether several cowns are named once each.
use Rattle.std.proofs.Common.{◌≡◌, ◌-◌, ◌≤◌, ℕ, arith, length, map, take, drop, get_or, List, [], ◌∷◌, Bool, true, false, Ok, Err, ℤ, refl, sym, ap, ◌∙◌, is_ok}
use Rattle.std.specs.Prelude.{◌&&◌, ◌||◌, not, nat_eq, if◌then◌else◌}
use Rattle.std.specs.List.{list_any}
use Rattle.std.proofs.lemmas.List.{take_rest}
use Rattle.boc_program.specs.declared.body.CownRef.{CownRef}
use Rattle.boc_program.specs.memory.View.{cown_ref_of}
use Rattle.boc_program.specs.declared.body.EndStatus.{EndStatus}
use Rattle.boc_program.specs.declared.body.EndStatus.TheVariants.{SameCown}
use Rattle.boc_program.specs.Syntax.{SlotExpr}
use Rattle.boc_program.specs.Value.{OrFault, then_value, value, values}
use Rattle.boc_program.specs.Meaning.{distinct, has_same_twice, State, cown_of, cowns_of}
use Rattle.boc_lines.specs.Charges.{Bill, closed, given}

have_step : (r : OrFault ℤ) (q : OrFault (List ℤ)) → is_ok (then_value r (λ v. then_value q (λ vs. Ok (v ∷ vs)))) ≡ (is_ok r && is_ok q)
have_step (Ok v) (Ok vs) = refl
have_step (Ok v) (Err fault) = refl
have_step (Err fault) q = refl

pub have_more : (e : SlotExpr) (es : List SlotExpr) (slots : List ℤ) → is_ok (values (e ∷ es) slots) ≡ (is_ok (value e slots) && is_ok (values es slots))
have_more e es slots = have_step (value e slots) (values es slots)

-- a list of cowns, and one more before them
abbrev with_cown : OrFault ℕ → OrFault (List ℕ) → OrFault (List ℕ)
with_cown r q = then_value r (λ c. then_value q (λ cs. Ok (c ∷ cs)))

both : (twice same : Bool) (cs : List ℕ) (c : ℕ) → (is_ok {E = EndStatus} (if same then Err SameCown else Ok cs) && not twice)
    ≡ is_ok {E = EndStatus} (if twice || same then Err SameCown else Ok (c ∷ cs))
both true true cs c = refl
both true false cs c = refl
both false true cs c = refl
both false false cs c = refl

once_if : (twice same : Bool) (cs : List ℕ) (c : ℕ) → has_same_twice cs ≡ same → list_any (λ d. nat_eq d c) cs ≡ twice
    → (is_ok (then_value (Ok cs) distinct) && not twice) ≡ is_ok (then_value (Ok (c ∷ cs)) distinct)
once_if twice same cs c s t =
    ap (λ b. is_ok {E = EndStatus} (if b then Err SameCown else Ok cs) && not twice) s ∙ both twice same cs c
    ∙ sym (ap (λ b. is_ok {E = EndStatus} (if b || has_same_twice cs then Err SameCown else Ok (c ∷ cs))) t ∙ ap (λ b. is_ok {E = EndStatus} (if twice || b then Err SameCown else Ok (c ∷ cs))) s)

pub once_more : (r : OrFault ℕ) (q : OrFault (List ℕ)) (c : ℕ) (all twice : Bool) → r ≡ Ok c → all ≡ is_ok (then_value q distinct)
    → ((cs : List ℕ) → q ≡ Ok cs → twice ≡ list_any (λ d. nat_eq d c) cs) → (all && not twice) ≡ is_ok (then_value (with_cown r q) distinct)
once_more r (Ok cs) c all twice is all_are twice_is =
    ap (λ b. b && not twice) all_are ∙ once_if twice (has_same_twice cs) cs c refl (sym (twice_is cs refl))
    ∙ sym (ap (λ r. is_ok (then_value (with_cown r (Ok cs)) distinct)) is)
once_more r (Err fault) c all twice is all_are twice_is =
    ap (λ b. b && not twice) all_are ∙ sym (ap (λ r. is_ok (then_value (with_cown r (Err fault)) distinct)) is)

-- what comes after two values on which it doesn't depend
pub given_both : {A B : Type 0} (r : OrFault A) (q : OrFault B) (s : State) (b : Bill)
    → given r s (λ v. given q s (λ w. b)) ≡ (if is_ok r && is_ok q then b else closed s)
given_both (Ok v) (Ok w) s b = refl
given_both (Ok v) (Err fault) s b = refl
given_both (Err fault) q s b = refl

-- ---- references, the first and the others

other_than : (q : OrFault (List ℕ)) (other cown : ℕ) (cs : List ℕ) (found : Bool) → nat_eq other cown ≡ false
    → ((ds : List ℕ) → q ≡ Ok ds → found ≡ list_any (λ o. nat_eq o cown) ds) → then_value q (λ ds. Ok (other ∷ ds)) ≡ Ok cs
    → found ≡ list_any (λ o. nat_eq o cown) cs
other_than (Ok ds) other cown cs found differs rest is =
    let same : other ∷ ds ≡ cs = cc in
    rest ds refl ∙ sym (ap (λ b. b || list_any (λ o. nat_eq o cown) ds) differs) ∙ ap (list_any (λ o. nat_eq o cown)) same
other_than (Err fault) other cown cs found differs rest is = absurd cc

pub named_later : (refs : List CownRef) (first : CownRef) (s : State) (other cown : ℕ) (cs : List ℕ) (found : Bool) → 1 ≤ length refs
    → first ≡ get_or refs 0 first → Ok other ≡ cown_of (cown_ref_of first) s → nat_eq other cown ≡ false
    → ((ds : List ℕ) → cowns_of (map cown_ref_of (take (length refs - 1) (drop 1 refs))) s ≡ Ok ds → found ≡ list_any (λ o. nat_eq o cown) ds)
    → cowns_of (map cown_ref_of refs) s ≡ Ok cs → found ≡ list_any (λ o. nat_eq o cown) cs
named_later [] first s other cown cs found long first_is is differs rest all = absurd (omega arith)
named_later (z ∷ zs) first s other cown cs found long first_is is differs rest all =
    other_than (cowns_of (map cown_ref_of zs) s) other cown cs found differs
    (λ ds e. rest ds (ap (λ xs. cowns_of (map cown_ref_of xs) s) (take_rest (z ∷ zs) 1) ∙ e))
    (ap (λ r. then_value r (λ c. then_value (cowns_of (map cown_ref_of zs) s) (λ cs. Ok (c ∷ cs)))) (is ∙ ap (λ r. cown_of (cown_ref_of r) s) first_is) ∙ all)

pub named_once : (refs : List CownRef) (first : CownRef) (s : State) (cown : ℕ) (all twice : Bool) → 1 ≤ length refs → first ≡ get_or refs 0 first
    → Ok cown ≡ cown_of (cown_ref_of first) s
    → all ≡ is_ok (then_value (cowns_of (map cown_ref_of (take (length refs - 1) (drop 1 refs))) s) distinct)
    → ((cs : List ℕ) → cowns_of (map cown_ref_of (take (length refs - 1) (drop 1 refs))) s ≡ Ok cs → twice ≡ list_any (λ d. nat_eq d cown) cs)
    → all ≡ true → not twice ≡ is_ok (then_value (cowns_of (map cown_ref_of refs) s) distinct)
named_once [] first s cown all twice long first_is is all_are twice_is on = absurd (omega arith)
named_once (z ∷ zs) first s cown all twice long first_is is all_are twice_is on =
    sym (ap (λ b. b && not twice) on)
    ∙ once_more (cown_of (cown_ref_of z) s) (cowns_of (map cown_ref_of zs) s) cown all twice (sym (is ∙ ap (λ r. cown_of (cown_ref_of r) s) first_is))
    (all_are ∙ ap (λ xs. is_ok (then_value (cowns_of (map cown_ref_of xs) s) distinct)) (take_rest (z ∷ zs) 1))
    (λ cs e. twice_is cs (ap (λ xs. cowns_of (map cown_ref_of xs) s) (take_rest (z ∷ zs) 1) ∙ e))
