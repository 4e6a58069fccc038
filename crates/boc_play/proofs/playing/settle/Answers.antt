use Rattle.std.proofs.Common.{ℕ, Bool, List, sym, subst}
use Rattle.boc_play.specs.Playing.{AllRestBut, AreTablesOf, GoesOn}
use Rattle.boc_play.specs.Waiting.{Tables, tables}
use Rattle.boc_play.proofs.Chaining.{left_same}
use Rattle.boc_play.proofs.Settling.{ended, ended_there, stays, tried}
use Rattle.boc_play.proofs.playing.settle.Goals as goal

pub end-requires : goal.end-requires
end-requires c =
    (tried c.args.run.now c.start.new.run (tables c.args.rows.now) c.args.row c.args.others.now.items c.requires.tables c.requires.rest c.in_ok-start.ensures).tables.run

pub release-requires : goal.release-requires
release-requires c =
    let t = tables c.args.rows.now in
    let x = tried c.args.run.now c.start.new.run t c.args.row c.args.others.now.items c.requires.tables c.requires.rest c.in_ok-start.ensures in
    ended_there c.start.new.run c.end.new.run t c.args.row x.tables
    (subst (λ (b : Bool). GoesOn c.start.new.run c.args.row b c.end.new.run) c.if-branch.true c.in_ok-end.ensures)

pub returns-in_ok-release-clause-tables : goal.returns-in_ok-release-clause-tables
returns-in_ok-release-clause-tables c =
    let t = tables c.args.rows.now in
    let x = tried c.args.run.now c.start.new.run t c.args.row c.args.others.now.items c.requires.tables c.requires.rest c.in_ok-start.ensures in
    subst (λ (u : Tables). AreTablesOf c.end.new.run u) (sym c.in_ok-release.ensures.rows)
    (ended c.args.run.now c.start.new.run c.end.new.run t c.args.row c.args.others.now.items x
    (subst (λ (b : Bool). GoesOn c.start.new.run c.args.row b c.end.new.run) c.if-branch.true c.in_ok-end.ensures)).tables

pub returns-in_ok-release-clause-rest : goal.returns-in_ok-release-clause-rest
returns-in_ok-release-clause-rest c =
    let t = tables c.args.rows.now in
    let x = tried c.args.run.now c.start.new.run t c.args.row c.args.others.now.items c.requires.tables c.requires.rest c.in_ok-start.ensures in
    subst (λ (xs : List ℕ). AllRestBut c.end.new.run xs) (sym c.in_ok-release.ensures.others)
    (ended c.args.run.now c.start.new.run c.end.new.run t c.args.row c.args.others.now.items x
    (subst (λ (b : Bool). GoesOn c.start.new.run c.args.row b c.end.new.run) c.if-branch.true c.in_ok-end.ensures)).rest

pub returns-in_ok-release-clause-spawns : goal.returns-in_ok-release-clause-spawns
returns-in_ok-release-clause-spawns c =
    let t = tables c.args.rows.now in
    let x = tried c.args.run.now c.start.new.run t c.args.row c.args.others.now.items c.requires.tables c.requires.rest c.in_ok-start.ensures in
    (ended c.args.run.now c.start.new.run c.end.new.run t c.args.row c.args.others.now.items x
    (subst (λ (b : Bool). GoesOn c.start.new.run c.args.row b c.end.new.run) c.if-branch.true c.in_ok-end.ensures)).spawns

pub returns-in_ok-release-clause-left : goal.returns-in_ok-release-clause-left
returns-in_ok-release-clause-left c =
    let t = tables c.args.rows.now in
    let x = tried c.args.run.now c.start.new.run t c.args.row c.args.others.now.items c.requires.tables c.requires.rest c.in_ok-start.ensures in
    left_same t (tables c.release.new.self) c.args.row c.args.others.now.items c.release.new.others.items
    (ended_there c.start.new.run c.end.new.run t c.args.row x.tables
    (subst (λ (b : Bool). GoesOn c.start.new.run c.args.row b c.end.new.run) c.if-branch.true c.in_ok-end.ensures))
    c.in_ok-release.ensures.rows c.in_ok-release.ensures.others

pub returns-else-branch-clause-tables : goal.returns-else-branch-clause-tables
returns-else-branch-clause-tables c =
    let t = tables c.args.rows.now in
    let x = tried c.args.run.now c.start.new.run t c.args.row c.args.others.now.items c.requires.tables c.requires.rest c.in_ok-start.ensures in
    (stays c.args.run.now c.start.new.run c.end.new.run t c.args.row c.args.others.now.items x
    (subst (λ (b : Bool). GoesOn c.start.new.run c.args.row b c.end.new.run) c.if-branch.false c.in_ok-end.ensures)).tables

pub returns-else-branch-clause-rest : goal.returns-else-branch-clause-rest
returns-else-branch-clause-rest c =
    let t = tables c.args.rows.now in
    let x = tried c.args.run.now c.start.new.run t c.args.row c.args.others.now.items c.requires.tables c.requires.rest c.in_ok-start.ensures in
    (stays c.args.run.now c.start.new.run c.end.new.run t c.args.row c.args.others.now.items x
    (subst (λ (b : Bool). GoesOn c.start.new.run c.args.row b c.end.new.run) c.if-branch.false c.in_ok-end.ensures)).rest

pub returns-else-branch-clause-spawns : goal.returns-else-branch-clause-spawns
returns-else-branch-clause-spawns c =
    let t = tables c.args.rows.now in
    let x = tried c.args.run.now c.start.new.run t c.args.row c.args.others.now.items c.requires.tables c.requires.rest c.in_ok-start.ensures in
    (stays c.args.run.now c.start.new.run c.end.new.run t c.args.row c.args.others.now.items x
    (subst (λ (b : Bool). GoesOn c.start.new.run c.args.row b c.end.new.run) c.if-branch.false c.in_ok-end.ensures)).spawns
