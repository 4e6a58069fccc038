use Rattle.boc_record.specs.RecordTexts.{Second, record_text}
use Rattle.boc_run_commands.proofs.Asked.{unwritten}
use Rattle.boc_cut_commands.proofs.Answering.{answer}
use Rattle.boc_cut_commands.proofs.cut.cut_cmd.Goals as goal

pub returns-clause-written : goal.returns-clause-written
returns-clause-written g c =
    let asked = c.args.asked in
    let window = c.in_ok-window.window in (
      record_text Second window.record.cowns window.record.events,
      answer asked.from asked.rows (g.S.Source.remaining c.args.source.now) (g.S.Source.remaining c.window_cut.new.source) window
          c.cowns-cowns.ensures.run c.in_ok-window.ensures.window,
      c.in_ok-write_record.ensures.written,
    )

pub returns-in_err-write_record-clause-written : goal.returns-in_err-write_record-clause-written
returns-in_err-write_record-clause-written g c =
    let asked = c.args.asked in
    let window = c.in_ok-window.window in
    unwritten _ _ c.in_err-write_record.field-0.0 (record_text Second window.record.cowns window.record.events) _ _
    c.from_residual-in_err-write_record.ensures.1
    (answer asked.from asked.rows (g.S.Source.remaining c.args.source.now) (g.S.Source.remaining c.window_cut.new.source) window
    c.cowns-cowns.ensures.run c.in_ok-window.ensures.window) c.in_err-write_record.ensures.written
