-- Each wish of a body is one of its `when`s.
use Rattle.std.proofs.Common.{◌≡◌, ◌⊎◌, ℕ, ◌+◌, ◌<◌, inl, inr, refl, List, ◌∷◌, length, map, ap, sym, subst, arith, IsTrue, Bool, true, false, ℤ, Ok}
use Rattle.std.proofs.Common.{Err}
use Rattle.std.specs.Prelude.{nat_eq, nat_lt, ◌&&◌, not, if◌then◌else◌, slice_get}
use Rattle.std.specs.List.{Contains, list_any}
use Rattle.std.proofs.lemmas.List.{length-map}
use Rattle.std.proofs.lemmas.Bool.Decides.{nat_tests}
use Rattle.boc_program.specs.declared.body.Body.{Body}
use Rattle.boc_program.specs.declared.body.EndStatus.TheVariants.{Done, SameCown}
use Rattle.boc_program.specs.declared.short.Input.{Input}
use Rattle.boc_program.specs.Value.{OrFault, then_value}
use Rattle.boc_program.specs.Meaning.{Wish, State, Rest, start, ends, meaning, cowns_of, distinct, has_same_twice, cowns_held}
use Rattle.boc_program.specs.Resolved.{every}
use Rattle.boc_program.specs.Signatures.{Test, Signature, ref_below, counts_fit, call_fits, calls_fit, whens_pass}
use Rattle.boc_program.proofs.Law.{Keeps, law}
use Rattle.boc_program.proofs.Truth.{and_true}
use Rattle.boc_runs.specs.machine.Queues.{times}
use Rattle.boc_footprints.specs.Whens.{may_name, names, spawns}
use Rattle.boc_footprints.proofs.Truths.{true_or_false, both_pass, none_pass, not_true}
use Rattle.boc_footprints.proofs.Listed.{none_contained, first_or_later}
use Rattle.boc_footprints.proofs.Named.{refs_named}

distinct_if : (b : Bool) (ds cs : List ℕ) → Ok cs ≡ (let r : OrFault (List ℕ) = if b then Err SameCown else Ok ds in r) → cs ≡ ds
distinct_if true ds cs e = absurd cc
distinct_if false ds cs e = cc

pub were_distinct : (o : OrFault (List ℕ)) (cs : List ℕ) → Ok cs ≡ then_value o distinct → Ok cs ≡ o
were_distinct (Err f) cs e = e
were_distinct (Ok ds) cs e = ap Ok (distinct_if (has_same_twice ds) ds cs e)

-- a fact of each wish
abbrev pub EachWish : (Wish → Type 0) → State → Rest → Type 0
EachWish P s r = (w : Wish) → Contains r.wishes w → P w

pub one_more : (P : Wish → Type 0) (v : Wish) (ws : List Wish) → P v → ((w : Wish) → Contains ws w → P w) → (w : Wish) → Contains (v ∷ ws) w → P w
one_more P v ws h all w among =
    elim (first_or_later v ws w among) [
      | inl is ↦ subst P is h
      | inr later ↦ all w later
    ]

-- no wish has a kind that no `when` has
abbrev NotOf : ℕ → Wish → Type 0
NotOf other w = w.kind ≡ other → ⊥

other_kinds : (other : ℕ) → Keeps (λ s. Unit {0}) (EachWish (NotOf other)) (λ kind args refs. not (nat_eq kind other))
other_kinds other = record {
  at_end = λ status s i w among. absurd (none_contained w among);
  ticks_keep = λ k s i fits. tt;
  ticks_back = λ k s r i h. h;
  write_keeps = λ slot v s i. tt;
  write_back = λ slot v s r i h. h;
  wish_back = λ kind args refs s vs cs r t i is_vs is_cs h.
      one_more (NotOf other) (record { offset = s.ticks + 1; kind = kind; args = vs; cowns = cs }) r.wishes
      (λ e. not_true (nat_eq kind other) t (grind (arith, nat_tests))) h;
}

pub kind_spawned : (body : Body) (args : List ℤ) (inputs : List Input) (w : Wish) → Contains (meaning body args inputs).wishes w
    → IsTrue (spawns w.kind body.block)
kind_spawned body args inputs w among =
    elim (true_or_false (spawns w.kind body.block)) [
      | inl does ↦ does
      | inr not_so ↦ absurd (law (λ s. Unit {0}) (EachWish (NotOf w.kind)) (λ kind args refs. not (nat_eq kind w.kind)) (other_kinds w.kind) body.block
          (none_pass (λ kind args refs. nat_eq kind w.kind) body.block not_so) (start body args inputs) (ends Done) tt
          (λ s i w' none. absurd (none_contained w' none)) w among refl)
    ]

-- a cown that no `when` names is, where a wish has it, one that the behaviour holds
abbrev HeldIf : ℕ → List ℕ → Wish → Type 0
HeldIf c held w = 0 < times c w.cowns → 0 < times c held

abbrev FitsUnnamed : List Signature → ℕ → ℕ → ℕ → Test
FitsUnnamed sigs held n c kind args refs = call_fits sigs held n kind args refs && not (list_any (may_name c) refs)

held_only : (sigs : List Signature) (held : List ℕ) (n c : ℕ)
    → Keeps (λ s. s.held ≡ held) (EachWish (HeldIf c held)) (FitsUnnamed sigs (length held) n c)
held_only sigs held n c = record {
  at_end = λ status s i w among. absurd (none_contained w among);
  ticks_keep = λ k s i fits. i;
  ticks_back = λ k s r i h. h;
  write_keeps = λ slot v s i. i;
  write_back = λ slot v s r i h. h;
  wish_back = λ kind args refs s vs cs r t i is_vs is_cs h.
      let both = and_true (call_fits sigs (length held) n kind args refs) (not (list_any (may_name c) refs)) t in
      let named = and_true (nat_lt 0 kind) (counts_fit (slice_get sigs kind) args refs && every (map (ref_below (length held) n) refs)) both.0 in
      let below = and_true (counts_fit (slice_get sigs kind) args refs) (every (map (ref_below (length held) n) refs)) named.1 in
      let s1 : State = record s { ticks = s.ticks + 1 } in
      let there : IsTrue (every (map (ref_below (length s1.held) n) refs)) = subst (λ hs. IsTrue (every (map (ref_below (length hs) n) refs))) (sym i) below.1 in
      one_more (HeldIf c held) (record { offset = s.ticks + 1; kind = kind; args = vs; cowns = cs }) r.wishes
      (λ among. elim (refs_named refs s1 n c cs there (were_distinct (cowns_of refs s1) cs is_cs) among) [
        | inl does ↦ absurd (not_true (list_any (may_name c) refs) both.1 does)
        | inr own ↦ subst (λ hs. 0 < times c hs) i own
      ]) h;
}

pub cown_named : (sigs : List Signature) (n : ℕ) (body : Body) (args : List ℤ) (inputs : List Input) → IsTrue (calls_fit sigs n body)
    → length inputs ≡ body.cown_params → (w : Wish) → Contains (meaning body args inputs).wishes w → (c : ℕ) → 0 < times c w.cowns
    → (0 < times c (cowns_held inputs)) ⊎ IsTrue (names c body.block)
cown_named sigs n body args inputs fits many w among c h =
    let same : length (cowns_held inputs) ≡ body.cown_params = simp length-map many in
    let held : List ℕ = cowns_held inputs in
    elim (true_or_false (names c body.block)) [
      | inl does ↦ inr does
      | inr not_so ↦ inl (law (λ s. s.held ≡ held) (EachWish (HeldIf c held)) (FitsUnnamed sigs (length held) n c) (held_only sigs held n c) body.block
          (both_pass (call_fits sigs (length held) n) (λ kind args refs. not (list_any (may_name c) refs)) body.block
          (subst (λ k. IsTrue (whens_pass (call_fits sigs k n) body.block)) (sym same) fits)
          (none_pass (λ kind args refs. list_any (may_name c) refs) body.block not_so)) (start body args inputs) (ends Done) refl
          (λ s i w' none. absurd (none_contained w' none)) w among h)
    ]
