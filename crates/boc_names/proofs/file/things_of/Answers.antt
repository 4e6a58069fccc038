use Rattle.boc_names.proofs.file.things_of.Goals as goal

pub returns : goal.returns
returns c = record {
  rows = rw (c.deref.ensures.value, c.deref-2.ensures.value) at c.in_ok-rows.ensures;
  cowns = rw (c.deref-3.ensures.value, c.deref-4.ensures.value) at c.in_ok-cowns.ensures;
}
