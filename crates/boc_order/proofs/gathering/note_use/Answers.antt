use Rattle.std.proofs.Common.{refl, true≢false, ◌∙◌, sym}
use Rattle.boc_order.proofs.Near.{use_written, use_read}
use Rattle.boc_order.proofs.gathering.note_use.Goals as goal

pub returns-then-writes : goal.returns-then-writes
returns-then-writes c = use_written _ c.requires.shape _ _ c.requires.there c.requires.own _ _ c.requires.used (c.writes.ensures.0 c.if-writes.true) refl
    c.clear.ensures.items

pub returns-in_ok-push : goal.returns-in_ok-push
returns-in_ok-push c = use_read _ c.requires.shape _ _ c.requires.there c.requires.own _ _ c.requires.used
    (λ w. true≢false (sym (c.writes.ensures.1 w) ∙ c.if-writes.false)) refl c.in_ok-push.ensures.items
