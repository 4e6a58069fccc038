use Rattle.std.proofs.Common.{◌≡◌, ◌++◌, ◌∙◌, List, ℕ, ap, append_assoc, codes, decimal}
use Rattle.boc_run_commands.proofs.timed_note.put_timed_note.Goals as goal

-- five texts behind one
regroup : (text a b c d e : List ℕ) → ((((text ++ a) ++ b) ++ c) ++ d) ++ e ≡ text ++ (a ++ b ++ c ++ d ++ e)
regroup text a b c d e = simp append_assoc

pub returns : goal.returns
returns c =
    c.in_ok-extend_from_slice-3.ensures.items ∙ ap (λ text. text ++ codes ": see --timed\n") (c.in_ok-put_number-2.ensures.ok
    ∙ ap (λ text. text ++ decimal c.args.span) (c.in_ok-extend_from_slice-2.ensures.items
    ∙ ap (λ text. text ++ codes " workers the span is ") (c.in_ok-put_number.ensures.ok
    ∙ ap (λ text. text ++ decimal c.args.workers) c.in_ok-extend_from_slice.ensures.items)))
    ∙ regroup c.args.note.now.items (codes "boc: note: timed on ") (decimal c.args.workers) (codes " workers the span is ") (decimal c.args.span)
    (codes ": see --timed\n")
