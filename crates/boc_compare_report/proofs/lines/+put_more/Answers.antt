use Rattle.std.proofs.Common.{◌≡◌, ◌≤◌, ◌∙◌, ◌++◌, ℕ, zero, suc, List, [], ◌∷◌, length, codes, ap, refl, sym, arith}
use Rattle.boc_names.specs.declared.names.Names.{Names}
use Rattle.boc_why.specs.declared.shares.Share.{Share}
use Rattle.boc_why_report.specs.ShortTexts.{more_shares}
use Rattle.boc_compare_report.proofs.lines.+put_more.Goals as goal

left_out : (names : Names) (most : ℕ) (shares : List Share) → most ≡ 0 → 1 ≤ length shares → more_shares names most shares ≡ codes ", .."
left_out names zero [] none some = absurd (omega (arith, some))
left_out names zero (s ∷ shares) none some = refl
left_out names (suc most) shares none some = absurd (omega (arith, none))

pub returns-in_ok-extend_from_slice-in-len1-up : goal.returns-in_ok-extend_from_slice-in-len1-up
returns-in_ok-extend_from_slice-in-len1-up t c =
    c.in_ok-extend_from_slice-in-len1-up.ensures.items ∙ ap (λ told. c.args.text.now.items ++ told)
    (sym (left_out c.args.names.now c.args.most c.args.shares.now c.if-most-eq0.true c.in-len1-up.len_at_least))
