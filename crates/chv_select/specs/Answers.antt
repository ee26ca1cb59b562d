-- How a SELECT is answered.
use Rattle.std.specs.Prelude.{◌≡◌, true, false, List, Result, Ok, Err}
use Rattle.chv_ast.specs.declared.refusal.Refusal.TheVariants.{DivisionByZero}
use Rattle.chv_catalog.specs.declared.fault.StatementFault.{StatementFault}
use Rattle.chv_catalog.specs.declared.fault.StatementFault.TheVariants.{Refused, NoMemory}
use Rattle.chv_query.specs.Bound.{IsQuery}
use Rattle.chv_query.specs.Queries.{Asked, divides}
use Rattle.chv_query.specs.Shown.{kinds_shown, shown_of}
use Rattle.chv_select.specs.declared.answering.Answered.{Answered}
use Rattle.chv_select.specs.declared.preparing.Prepared.{Prepared}
use Rattle.chv_types.specs.declared.value.Value.{Value}

-- a query is prepared
abbrev pub IsPrepared : Prepared → Asked → Type 0
IsPrepared prepared asked = IsQuery prepared.query asked

-- the answer is what is shown over the rows of the table; it is refused where a divisor is zero on one of them
abbrev pub IsAnswer : Asked → List (List Value) → Result Answered StatementFault → Type 0
IsAnswer asked rows (Ok answered) = (divides asked rows ≡ false) × (answered.rows ≡ shown_of asked rows) × (answered.kinds ≡ kinds_shown asked)
IsAnswer asked rows (Err (Refused refusal)) = (refusal ≡ DivisionByZero) × (divides asked rows ≡ true)
IsAnswer asked rows (Err NoMemory) = Unit {0}
