use Rattle.boc_reader.proofs.Spellings.{none_spelled, one_program}
use Rattle.boc_reader.proofs.Reading.{one_fault}
use Rattle.boc_reader.proofs.Strays.{one_shape_fault, one_stray, shaped_is_right}
use Rattle.boc_reader.proofs.WrongPlaces.{one_wrong_name}
use Rattle.boc_reader.proofs.read.refused_is_none.Goals as goal

pub returns-clause-none : goal.returns-clause-none
returns-clause-none c = none_spelled

pub returns-clause-one : goal.returns-clause-one
returns-clause-one c = one_program

pub returns-clause-first : goal.returns-clause-first
returns-clause-first c = one_fault

pub returns-clause-first_shape : goal.returns-clause-first_shape
returns-clause-first_shape c = one_shape_fault

pub returns-clause-shape : goal.returns-clause-shape
returns-clause-shape c = one_stray

pub returns-clause-right : goal.returns-clause-right
returns-clause-right c = shaped_is_right

pub returns-clause-first_name : goal.returns-clause-first_name
returns-clause-first_name c = one_wrong_name
