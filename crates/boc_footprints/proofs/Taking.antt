-- Wishes have as many arguments and cowns as their bodies take.
use Rattle.std.proofs.Common.{◌≡◌, ◌∙◌, ℕ, suc, ◌+◌, List, [], ◌∷◌, length, map, ap, refl, arith, IsTrue, Ok, Err, ℤ, Option, Some, None}
use Rattle.std.specs.Prelude.{nat_lt, nat_eq, ◌&&◌, slice_get}
use Rattle.std.specs.List.{Contains}
use Rattle.std.proofs.lemmas.Bool.Decides.{nat_tests}
use Rattle.boc_program.specs.declared.body.Body.{Body}
use Rattle.boc_program.specs.declared.body.EndStatus.TheVariants.{Done}
use Rattle.boc_program.specs.declared.short.Input.{Input}
use Rattle.boc_program.specs.Syntax.{SlotExpr, CownRef}
use Rattle.boc_program.specs.Value.{OrFault, then_value}
use Rattle.boc_program.specs.Meaning.{Wish, State, start, ends, meaning, cown_of, cowns_of}
use Rattle.boc_program.specs.Resolved.{every}
use Rattle.boc_program.specs.Signatures.{Signature, ref_below, counts_fit, call_fits, calls_fit, CountsAre}
use Rattle.boc_program.proofs.Law.{Keeps, law}
use Rattle.boc_program.proofs.Truth.{and_true}
use Rattle.boc_program.proofs.Fitting.{values-length}
use Rattle.boc_footprints.proofs.Listed.{none_contained}
use Rattle.boc_footprints.proofs.Wishing.{EachWish, one_more, were_distinct}

many_cons : (o : OrFault ℕ) (p : OrFault (List ℕ)) (n : ℕ) (cs : List ℕ) → ((ds : List ℕ) → Ok ds ≡ p → length ds ≡ n)
    → Ok cs ≡ then_value o (λ c. then_value p (λ ds. Ok (c ∷ ds))) → length cs ≡ suc n
many_cons (Err f) p n cs h e = absurd cc
many_cons (Ok c) (Err f) n cs h e = absurd cc
many_cons (Ok c) (Ok ds) n cs h e =
    let same : cs ≡ c ∷ ds = cc in
    ap length same ∙ ap suc (h ds refl)

many_cowns : (rs : List CownRef) (s : State) (cs : List ℕ) → Ok cs ≡ cowns_of rs s → length cs ≡ length rs
many_cowns [] s cs e = let same : cs ≡ [] = cc in ap length same
many_cowns (r ∷ rs) s cs e = many_cons (cown_of r s) (cowns_of rs s) (length rs) cs (λ ds is. many_cowns rs s ds is) e

counts_are : (o : Option Signature) (args : List SlotExpr) (refs : List CownRef) (a c : ℕ) → IsTrue (counts_fit o args refs) → a ≡ length args → c ≡ length refs
    → CountsAre o a c
counts_are None args refs a c t h g = absurd cc
counts_are (Some sig) args refs a c t h g =
    let both = and_true (nat_eq (length args) sig.args) (nat_eq (length refs) sig.cowns) t in
    (h ∙ grind (arith, nat_tests, both.0), g ∙ grind (arith, nat_tests, both.1))

abbrev pub TakesIts : List Signature → Wish → Type 0
TakesIts sigs w = CountsAre (slice_get sigs w.kind) (length w.args) (length w.cowns)

taking : (sigs : List Signature) (held n : ℕ) → Keeps (λ s. Unit {0}) (EachWish (TakesIts sigs)) (call_fits sigs held n)
taking sigs held n = record {
  at_end = λ status s i w among. absurd (none_contained w among);
  ticks_keep = λ k s i fits. tt;
  ticks_back = λ k s r i h. h;
  write_keeps = λ slot v s i. tt;
  write_back = λ slot v s r i h. h;
  wish_back = λ kind args refs s vs cs r t i is_vs is_cs h.
      let named = and_true (nat_lt 0 kind) (counts_fit (slice_get sigs kind) args refs && every (map (ref_below held n) refs)) t in
      let both = and_true (counts_fit (slice_get sigs kind) args refs) (every (map (ref_below held n) refs)) named.1 in
      let s1 : State = record s { ticks = s.ticks + 1 } in
      one_more (TakesIts sigs) (record { offset = s.ticks + 1; kind = kind; args = vs; cowns = cs }) r.wishes
      (counts_are (slice_get sigs kind) args refs (length vs) (length cs) both.0 (values-length args s.slots vs is_vs)
      (many_cowns refs s1 cs (were_distinct (cowns_of refs s1) cs is_cs))) h;
}

pub wish_takes : (sigs : List Signature) (n : ℕ) (body : Body) (args : List ℤ) (inputs : List Input) → IsTrue (calls_fit sigs n body)
    → (w : Wish) → Contains (meaning body args inputs).wishes w → TakesIts sigs w
wish_takes sigs n body args inputs fits w among =
    law (λ s. Unit {0}) (EachWish (TakesIts sigs)) (call_fits sigs body.cown_params n) (taking sigs body.cown_params n) body.block fits
    (start body args inputs) (ends Done) tt (λ s i v none. absurd (none_contained v none)) w among
