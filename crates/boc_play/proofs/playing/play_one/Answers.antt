use Rattle.std.proofs.Common.{ℕ, List, sym, ◌∙◌, ap, subst, arith}
use Rattle.boc_program.specs.declared.program.Program.{Program}
use Rattle.boc_program.specs.Programs.{cown_count}
use Rattle.boc_play.specs.Playing.{AllRestBut}
use Rattle.boc_play.specs.Waiting.{tables}
use Rattle.boc_play.proofs.Spawning.{rest_spawned, spawned, spawns_still, tables_more, tables_there}
use Rattle.boc_play.proofs.playing.play_one.Goals as goal

pub add_last-requires-clause-last : goal.add_last-requires-clause-last
add_last-requires-clause-last c =
    let s = spawned c.args.run.now c.spawn.new.run c.args.parent c.requires.tables.run c.in_ok-spawn.ensures in
    omega (arith, s.more.many, c.rows-row.ensures.count)

pub add_last-requires-clause-run : goal.add_last-requires-clause-run
add_last-requires-clause-run c = (spawned c.args.run.now c.spawn.new.run c.args.parent c.requires.tables.run c.in_ok-spawn.ensures).run

pub add_last-requires-clause-rows : goal.add_last-requires-clause-rows
add_last-requires-clause-rows c = c.requires.tables.rows ∙ sym c.rows-row.ensures.count

pub add_last-requires-clause-cowns : goal.add_last-requires-clause-cowns
add_last-requires-clause-cowns c =
    let s = spawned c.args.run.now c.spawn.new.run c.args.parent c.requires.tables.run c.in_ok-spawn.ensures in
    c.requires.tables.cowns ∙ ap (λ (p : Program). cown_count p.cowns) (sym s.spawns.program)

pub add_last-requires-clause-there : goal.add_last-requires-clause-there
add_last-requires-clause-there c = tables_there c.args.run.now (tables c.args.rows.now) c.requires.tables

pub settle_all-requires-clause-tables : goal.settle_all-requires-clause-tables
settle_all-requires-clause-tables c =
    tables_more c.args.run.now c.spawn.new.run c.args.parent c.rows-row.result (tables c.args.rows.now) (tables c.add_last.new.rows)
    (spawned c.args.run.now c.spawn.new.run c.args.parent c.requires.tables.run c.in_ok-spawn.ensures) c.requires.tables c.rows-row.ensures.count
    c.in_ok-add_last.ensures

pub settle_all-requires-clause-rest : goal.settle_all-requires-clause-rest
settle_all-requires-clause-rest c =
    subst (λ (xs : List ℕ). AllRestBut c.spawn.new.run xs) (sym c.in_ok-others.ensures)
    (rest_spawned c.args.run.now c.spawn.new.run c.args.parent c.rows-row.result
    (spawned c.args.run.now c.spawn.new.run c.args.parent c.requires.tables.run c.in_ok-spawn.ensures) c.rows-row.ensures.count c.requires.rest)

pub returns-clause-spawns : goal.returns-clause-spawns
returns-clause-spawns c =
    let s = spawned c.args.run.now c.spawn.new.run c.args.parent c.requires.tables.run c.in_ok-spawn.ensures in
    spawns_still c.args.run.now c.args.parent c.spawn.new.run c.settle_all.new.run s.spawns c.in_ok-settle_all.ensures.spawns
