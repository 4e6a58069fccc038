use Rattle.std.proofs.Common.{drop, rules}
use Rattle.boc_reader.specs.Grammar.{stmt_phrase}
use Rattle.boc_reader.specs.Views.{stmt_of}
use Rattle.boc_reader.proofs.Refused.{passes}
use Rattle.boc_reader.proofs.Statements.{no_room_for_stmt, no_assign, no_let, no_work, no_when}
use Rattle.boc_reader.proofs.parse.simple.Goals as goal

pub returns-in_err-node-in-Some-Name-clause-answers : goal.returns-in_err-node-in-Some-Name-clause-answers
returns-in_err-node-in-Some-Name-clause-answers c =
    passes stmt_phrase stmt_of _ _ _ _ _ c.from_residual.ensures.1 c.in_err-node-in-Some-Name.ensures.room (no_room_for_stmt _)

pub returns-in_err-name-in-Some-Name-clause-answers : goal.returns-in_err-name-in-Some-Name-clause-answers
returns-in_err-name-in-Some-Name-clause-answers c =
    passes stmt_phrase stmt_of _ _ _ _ _ c.from_residual-in_err-name-in-Some-Name.ensures.1 c.in_err-name-in-Some-Name.ensures.answers
    (no_assign _ c.node.new.self (search rules) c.in-Some-Name.field-0-0.now (drop 1 c.args.cursor.now.tokens)
    (rw c.in-Some-Name.field-0-is at c.in-Some-Name.ensures) (search rules))

pub returns-in_err-begin-in-Some-Keyword-Let-clause-answers : goal.returns-in_err-begin-in-Some-Keyword-Let-clause-answers
returns-in_err-begin-in-Some-Keyword-Let-clause-answers c =
    passes stmt_phrase stmt_of _ _ _ _ _ c.from_residual-in_err-begin-in-Some-Keyword-Let.ensures.1 c.in_err-begin-in-Some-Keyword-Let.ensures
    (no_room_for_stmt _)

pub returns-in_err-name-in-Some-Keyword-Let-clause-answers : goal.returns-in_err-name-in-Some-Keyword-Let-clause-answers
returns-in_err-name-in-Some-Keyword-Let-clause-answers c =
    passes stmt_phrase stmt_of _ _ _ _ _ c.from_residual-in_err-name-in-Some-Keyword-Let.ensures.1 c.in_err-name-in-Some-Keyword-Let.ensures.answers
    (no_let _ c.begin.new.self (search rules) (search rules))

pub returns-in_err-begin-in-Some-Keyword-Work-clause-answers : goal.returns-in_err-begin-in-Some-Keyword-Work-clause-answers
returns-in_err-begin-in-Some-Keyword-Work-clause-answers c =
    passes stmt_phrase stmt_of _ _ _ _ _ c.from_residual-in_err-begin-in-Some-Keyword-Work.ensures.1 c.in_err-begin-in-Some-Keyword-Work.ensures
    (no_room_for_stmt _)

pub returns-in_err-ticks-in-Some-Keyword-Work-clause-answers : goal.returns-in_err-ticks-in-Some-Keyword-Work-clause-answers
returns-in_err-ticks-in-Some-Keyword-Work-clause-answers c =
    passes stmt_phrase stmt_of _ _ _ _ _ c.from_residual-in_err-ticks-in-Some-Keyword-Work.ensures.1 c.in_err-ticks-in-Some-Keyword-Work.ensures.answers
    (no_work _ c.begin-in-Some-Keyword-Work.new.self (search rules) (search rules))

pub returns-in_err-begin-in-Some-Keyword-When-clause-answers : goal.returns-in_err-begin-in-Some-Keyword-When-clause-answers
returns-in_err-begin-in-Some-Keyword-When-clause-answers c =
    passes stmt_phrase stmt_of _ _ _ _ _ c.from_residual-in_err-begin-in-Some-Keyword-When.ensures.1 c.in_err-begin-in-Some-Keyword-When.ensures
    (no_room_for_stmt _)

pub returns-in_err-def-in-Some-Keyword-When-clause-answers : goal.returns-in_err-def-in-Some-Keyword-When-clause-answers
returns-in_err-def-in-Some-Keyword-When-clause-answers c =
    passes stmt_phrase stmt_of _ _ _ _ _ c.from_residual-in_err-def-in-Some-Keyword-When.ensures.1 c.in_err-def-in-Some-Keyword-When.ensures.answers
    (no_when _ c.begin-in-Some-Keyword-When.new.self (search rules) (search rules))
