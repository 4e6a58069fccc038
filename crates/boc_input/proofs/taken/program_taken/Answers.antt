use Rattle.std.proofs.Common.{◌≡◌, ◌∙◌, ◌++◌, ℕ, List, Bool, true, false, sym, ap, subst, arith}
use Rattle.boc_input.specs.FirstTokens.{begins_program, is_told}
use Rattle.boc_input.specs.Taken.{Begin, TakesText}
use Rattle.boc_input.proofs.Taking.{begin_front, front_taken, given_back, text_taken}
use Rattle.boc_input.proofs.taken.program_taken.Goals as goal
use Rattle.boc_input.proofs.taken.program_taken.Goals.{then-is_told+in_ok-rest+in_ok-extend_from_slice, else-is_told}

pub returns-then-not-begins_program-clause-taken : goal.returns-then-not-begins_program-clause-taken
returns-then-not-begins_program-clause-taken g c =
    let text : List ℕ = c.in_ok-text.text.items in
    let begins : begins_program text ≡ false =
    ap begins_program (sym c.deref.ensures.value) ∙ sym c.begins_program.ensures ∙ c.if-not-begins_program.true in (
      given_back _ _ _ text c.in_ok-text.ensures.text.taken c.in_ok-take_back.ensures.bytes,
      subst (λ (so : Bool). Begin so (g.S.Source.remaining c.args.source.now)) begins (begin_front _ _ text c.in_ok-text.ensures.text),
    )

pub returns-clause-taken : goal.returns-clause-taken
returns-clause-taken g c =
    let text : List ℕ = c.in_ok-text.text.items in
    let begins : begins_program text ≡ true =
    ap begins_program (sym c.deref.ensures.value) ∙ sym c.begins_program.ensures ∙ c.if-not-begins_program.false in
    let told : c.is_told.result ≡ is_told text = c.is_told.ensures ∙ ap is_told c.deref-2.ensures.value in
    elim c.if-is_told.branch [
      | then-is_told+in_ok-rest+in_ok-extend_from_slice w ↦
          subst (λ s. TakesText (g.S.Source.remaining c.args.source.now) (g.S.Source.remaining s) c.if-is_told.text.items) (sym w.source-is)
          (subst (λ t. TakesText (g.S.Source.remaining c.args.source.now) (g.S.Source.remaining w.read_all.new.source) t.items) (sym w.text-is)
          (text_taken _ _ _ text w.in_ok-rest.rest.items w.extend_from_slice.new.self.items _ c.in_ok-text.ensures.text (sym told ∙ w.if-is_told.true) begins
          w.in_ok-rest.ensures.text (omega (arith, w.len.ensures))
          (w.in_ok-extend_from_slice.ensures.items ∙ ap (λ (more : List ℕ). text ++ more) w.deref-then-is_told.ensures.value)))
      | else-is_told w ↦
          subst (λ s. TakesText (g.S.Source.remaining c.args.source.now) (g.S.Source.remaining s) c.if-is_told.text.items) (sym w.source-is)
          (subst (λ t. TakesText (g.S.Source.remaining c.args.source.now) (g.S.Source.remaining c.front.new.source) t.items) (sym w.text-is)
          (front_taken _ _ text c.in_ok-text.ensures.text (sym told ∙ w.if-is_told.false) begins))
    ]
