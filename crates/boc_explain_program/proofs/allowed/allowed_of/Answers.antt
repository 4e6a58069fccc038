use Rattle.std.proofs.Common.{◌≡◌, ℕ, ◌+◌, ◌<◌, List, [], ◌∷◌, ◌++◌, length, get_or, take}
use Rattle.std.proofs.Common.{filter, cond, Bool, true, false, ◌&&◌, not, sym, ap, ◌∙◌, refl, append-nil}
use Rattle.std.proofs.lemmas.List.Elements.{filter_more}
use Rattle.boc_reader.specs.Expected.{is_allowed, is_lacked}
use Rattle.boc_explain_program.specs.Allowed.{is_first, is_other}
use Rattle.boc_explain_program.specs.declared.allowed.Candidate.{Candidate}
use Rattle.boc_explain_program.proofs.allowed.allowed_of.Goals as goal
use Rattle.boc_explain_program.proofs.allowed.allowed_of.Goals.{then-branch+in_ok-push, else-branch+then-allows+in_ok-push-2, else-branch+else-allows}

-- of one candidate more
more : (p : Candidate → Bool) (xs : List Candidate) (i : ℕ) (x : Candidate) → i < length xs → x ≡ get_or xs i x
    → filter p (take (i + 1) xs) ≡ filter p (take i xs) ++ cond (p x) (x ∷ []) []
more p xs i x small is = filter_more p xs i x small ∙ ap (λ (y : Candidate). filter p (take i xs) ++ cond (p y) (y ∷ []) []) (sym is)

taken : (p : Candidate → Bool) (xs : List Candidate) (i : ℕ) (x : Candidate) (old new : List Candidate) → i < length xs → x ≡ get_or xs i x
    → old ≡ filter p (take i xs) → new ≡ old ++ x ∷ [] → p x ≡ true → new ≡ filter p (take (i + 1) xs)
taken p xs i x old new small is front e yes_it =
    e ∙ ap (λ (ys : List Candidate). ys ++ x ∷ []) front
    ∙ sym (more p xs i x small is ∙ ap (λ (b : Bool). filter p (take i xs) ++ cond b (x ∷ []) []) yes_it)

left : (p : Candidate → Bool) (xs : List Candidate) (i : ℕ) (x : Candidate) (old new : List Candidate) → i < length xs → x ≡ get_or xs i x
    → old ≡ filter p (take i xs) → new ≡ old → p x ≡ false → new ≡ filter p (take (i + 1) xs)
left p xs i x old new small is front e no_it =
    e ∙ front ∙ sym (append-nil (filter p (take i xs)))
    ∙ sym (more p xs i x small is ∙ ap (λ (b : Bool). filter p (take i xs) ++ cond b (x ∷ []) []) no_it)

not_other : (allowed lacked : Bool) → lacked ≡ true → (allowed && not lacked) ≡ false
not_other true true e = refl
not_other true false e = sym e
not_other false lacked e = refl

an_other : (allowed lacked : Bool) → lacked ≡ false → allowed ≡ true → (allowed && not lacked) ≡ true
an_other true false e f = refl
an_other true true e f = sym e
an_other false lacked e f = absurd cc

refused : (allowed lacked : Bool) → allowed ≡ false → (allowed && not lacked) ≡ false
refused false lacked e = refl
refused true lacked e = absurd cc

pub loop-candidate-preserved : goal.loop-candidate-preserved
loop-candidate-preserved c =
    let e = c.args.expected.now in
    let xs = c.args.candidates.now in
    let i = c.loop-candidate.candidate-index in
    let x = c.candidate-item.result in
    let small = c.loop-candidate-test.true in
    let is = c.candidate-item.is in
    let old = c.loop-candidate.invariant in
    let says = c.in_ok-lacks.ensures in
    elim c.if-branch.branch [
      | then-branch+in_ok-push w ↦ (
        taken (is_first e) xs i x c.loop-candidate.lacked.items c.if-branch.lacked.items small is old.0
            (rw w.lacked-is w.in_ok-push.ensures.items) (sym says ∙ w.if-branch.true),
        left (is_other e) xs i x c.loop-candidate.others.items c.if-branch.others.items small is old.1 (rw w.others-is refl)
            (not_other (is_allowed e x.0) (is_lacked e x.0) (sym says ∙ w.if-branch.true)),
      )
      | else-branch+then-allows+in_ok-push-2 w ↦ (
        left (is_first e) xs i x c.loop-candidate.lacked.items c.if-branch.lacked.items small is old.0 (rw w.lacked-is refl) (sym says ∙ w.if-branch.false),
        taken (is_other e) xs i x c.loop-candidate.others.items c.if-branch.others.items small is old.1
            (rw w.others-is w.in_ok-push-2.ensures.items)
            (an_other (is_allowed e x.0) (is_lacked e x.0) (sym says ∙ w.if-branch.false) (sym w.allows.ensures ∙ w.if-allows.true)),
      )
      | else-branch+else-allows w ↦ (
        left (is_first e) xs i x c.loop-candidate.lacked.items c.if-branch.lacked.items small is old.0 (rw w.lacked-is refl) (sym says ∙ w.if-branch.false),
        left (is_other e) xs i x c.loop-candidate.others.items c.if-branch.others.items small is old.1 (rw w.others-is refl)
            (refused (is_allowed e x.0) (is_lacked e x.0) (sym w.allows.ensures ∙ w.if-allows.false)),
      )
    ]
