use Rattle.boc_rules.proofs.Judging.{spawn_finds, start_finds, end_finds, kept_spawn, kept_start, kept_end}
use Rattle.boc_rules.proofs.so_far.RunSoFar.accept.Goals as goal

pub of-requires : goal.of-requires
of-requires c = (spawn_finds c.args.self.now c.in-Spawn.is c.requires.kept c.requires.allowed).small

pub spawn-requires-clause-cowns : goal.spawn-requires-clause-cowns
spawn-requires-clause-cowns c = rw c.of.ensures (spawn_finds c.args.self.now c.in-Spawn.is c.requires.kept c.requires.allowed).there

pub spawn-requires-clause-row : goal.spawn-requires-clause-row
spawn-requires-clause-row c = (spawn_finds c.args.self.now c.in-Spawn.is c.requires.kept c.requires.allowed).next

pub spawn-requires-clause-few : goal.spawn-requires-clause-few
spawn-requires-clause-few c = (spawn_finds c.args.self.now c.in-Spawn.is c.requires.kept c.requires.allowed).few

pub start-requires-clause-kept : goal.start-requires-clause-kept
start-requires-clause-kept c = start_finds c.args.self.now c.in-Start.is c.requires.kept c.requires.allowed

pub of-requires-in-End : goal.of-requires-in-End
of-requires-in-End c = (end_finds c.args.self.now c.in-End.is c.requires.kept c.requires.allowed).small

pub end-requires : goal.end-requires
end-requires c =
    let found = end_finds c.args.self.now c.in-End.is c.requires.kept c.requires.allowed in
    record { kept = found.kept; placed = found.placed; few = found.few; has = c.requires.has }

pub returns-in-Spawn-clause-kept : goal.returns-in-Spawn-clause-kept
returns-in-Spawn-clause-kept c = (kept_spawn c.in-Spawn.is c.requires.kept c.requires.allowed c.of.ensures c.spawn.ensures.spawned).kept

pub returns-in-Spawn-clause-rows : goal.returns-in-Spawn-clause-rows
returns-in-Spawn-clause-rows c = (kept_spawn c.in-Spawn.is c.requires.kept c.requires.allowed c.of.ensures c.spawn.ensures.spawned).rows_are

pub returns-in-Start-clause-kept : goal.returns-in-Start-clause-kept
returns-in-Start-clause-kept c = (kept_start c.in-Start.is c.requires.kept c.requires.allowed c.start.ensures.started).kept

pub returns-in-Start-clause-rows : goal.returns-in-Start-clause-rows
returns-in-Start-clause-rows c = (kept_start c.in-Start.is c.requires.kept c.requires.allowed c.start.ensures.started).rows_are

pub returns-in-End-clause-kept : goal.returns-in-End-clause-kept
returns-in-End-clause-kept c = (kept_end c.in-End.is c.requires.kept c.requires.allowed c.of-in-End.ensures c.end.ensures.ended).kept

pub returns-in-End-clause-rows : goal.returns-in-End-clause-rows
returns-in-End-clause-rows c = (kept_end c.in-End.is c.requires.kept c.requires.allowed c.of-in-End.ensures c.end.ensures.ended).rows_are
