-- The text of a window is the answer of `cut`.
use Rattle.std.proofs.Common.{◌≡◌, ℕ, List, ◌∙◌, ap, sym, refl}
use Rattle.std.specs.Prelude.{Option, Some, None, IfSome}
use Rattle.boc_cut.specs.Cuts.{IsWindowOf}
use Rattle.boc_cut.specs.declared.window.Window.{Window}
use Rattle.boc_record.specs.RecordTexts.{Version, Second, IsTextOf, record_text}
use Rattle.boc_runs.specs.Records.{Recorded, IsRecord}
use Rattle.boc_cut_commands.specs.CutAnswers.{IsCutAnswer}

-- a record in the second version has its own text
same_text : (before : Option (List ℕ)) (made r : Recorded) → IfSome before (λ bytes. IsTextOf bytes r → made ≡ r)
    → IfSome before (λ bytes. (t : IsTextOf bytes r) → t.version ≡ Second → record_text Second made.cowns made.events ≡ bytes)
same_text None made r one = tt
same_text (Some bytes) made r one = λ t v.
    ap (λ (m : Recorded). record_text Second m.cowns m.events) (one t) ∙ ap (λ (w : Version). record_text w r.cowns r.events) (sym v) ∙ sym t.is

pub answer : (from : ℕ) (asked : Option ℕ) (before after : Option (List ℕ)) (window : Window) → IsRecord window.record
    → IsWindowOf from asked before after window.record window.origins.items
    → IsCutAnswer from asked before after (record_text Second window.record.cowns window.record.events)
answer from asked before after window legal cut_out = record {
  window = window;
  legal = legal;
  cut_out = cut_out;
  text = refl;
  same = λ none all r. same_text before window.record r (cut_out.whole none all r);
}
