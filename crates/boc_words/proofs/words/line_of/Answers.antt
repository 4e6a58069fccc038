use Rattle.std.proofs.Common.{rules, ◌≡◌, ℕ, List, Option, Some, String, Result, Ok, Err, inl, inr, sym, subst}
use Rattle.std.specs.Prelude.{IfErr}
use Rattle.std.specs.Global.{Global}
use Rattle.std.specs.Result.{IsErrAnd}
use Rattle.clap.specs.Words.{Row, found_of, rows_of}
use Rattle.boc_words.specs.Commands.{signature_of}
use Rattle.boc_words.specs.Words.{IsMisnamed, IsUnread, ReadsFrom, input_words}
use Rattle.boc_words.specs.declared.commands.Kind.{Kind}
use Rattle.boc_words.specs.declared.commands.Kind.TheVariants as called
use Rattle.boc_words.specs.declared.fault.WordsFault.{WordsFault}
use Rattle.boc_words.specs.declared.fault.WordsFault.TheVariants as faults
use Rattle.boc_words.proofs.Given.{one_path}
use Rattle.boc_words.proofs.words.line_of.Goals as goal

-- what of a named command cannot be read, whose input has one path at most, is a fault of what was named
misnamed : (kind : Kind) (rows : List Row) (input : Option (String Global)) (named : Option (List ℕ × List Row)) (fault : WordsFault)
    → named ≡ Some ((signature_of kind).0, rows) → ReadsFrom kind rows input → IsUnread kind rows fault → IsMisnamed named fault
misnamed kind rows input named (faults.Parser e) is reads (inl misses) = inr (inl (kind, (rows, is, misses)))
misnamed kind rows input named (faults.Parser e) is reads (inr unfit) = inr (inr (kind, (rows, is, unfit)))
misnamed kind rows input named (faults.EditWord number) is reads unread = (
  rows,
  subst (λ (k : Kind). named ≡ Some ((signature_of k).0, rows)) unread.0 is,
  (unread.1, one_path (input_words called.WhatIf rows) input (subst (λ (k : Kind). ReadsFrom k rows input) unread.0 reads)),
)
misnamed kind rows input named faults.Memory is reads unread = tt

passed_on : {A : Type 0} (IsWrong : WordsFault → Type 0) (result : Result A WordsFault) (fault : WordsFault) → IsErrAnd result (λ f. f ≡ fault) → IsWrong fault
    → IfErr result IsWrong
passed_on IsWrong (Ok done) fault h wrong = absurd h
passed_on IsWrong (Err f) fault h wrong = subst IsWrong (sym h) wrong

pub returns-in_err-command-clause-misnamed : goal.returns-in_err-command-clause-misnamed
returns-in_err-command-clause-misnamed c =
    passed_on (IsMisnamed _) c.from_residual-in_err-command.result c.in_err-command.field-0.0 c.from_residual-in_err-command.ensures.1
    (misnamed c.in-Some-kind_of.kind (rows_of (found_of c.in-Some.matches.now)) c.in_ok-input.input _ c.in_err-command.field-0.0 (search rules)
    c.in_ok-input.ensures.asked c.in_err-command.ensures.refused)
