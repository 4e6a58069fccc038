use Rattle.std.proofs.Common.{◌-◌, ap, sym, ◌∙◌, length, map, take, drop}
use Rattle.boc_program.specs.Meaning.{cowns_held}
use Rattle.boc_program.specs.memory.View.{cown_ref_of}
use Rattle.boc_uses.specs.Uses.{refs_slots_read, reads}
use Rattle.boc_uses.specs.Noting.{noted_all, standing}
use Rattle.boc_uses.proofs.Noted.{read_first_ref, split_first}
use Rattle.boc_uses.proofs.named.+name_all.Goals as goal

pub returns-in-Ok-clause-uses : goal.returns-in-Ok-clause-uses
returns-in-Ok-clause-uses t c =
    let r = c.args.reading.now in
    let s = standing (cowns_held c.args.inputs.now) c.args.slots.now r.tick in
    let refs = c.args.references.now in
    let first = c.first-item.result in
    read_first_ref r.params r.own c.args.uses.now c.name_one.new.uses c.name_all.new.uses (cown_ref_of first)
    (map cown_ref_of (take (length refs - 1) (drop 1 refs))) s c.in-Ok.cown c.in-Ok.ensures.cown c.name_one.ensures.uses c.name_all.ensures.uses
    ∙ ap (λ rs. noted_all r.params c.args.uses.now (reads r.tick r.own (refs_slots_read (map cown_ref_of rs) s)))
    (sym (split_first refs first c.in-len1-up.len_at_least c.first-item.is))
