use Rattle.std.proofs.Common.{◌≡◌, map, take}
use Rattle.boc_names.specs.Names.{instance_text, texts_of}
use Rattle.boc_names.proofs.names.row_names.Given as goal

abbrev pub invariant-loop-row : goal.invariant-loop-row
invariant-loop-row l =
    (l.kinds.items ≡ map (λ i. i.kind) (take l.row l.instances))
    × (texts_of l.rows.items ≡ map (instance_text (texts_of l.defs) l.cowns) (take l.row l.instances))
