-- Selects of views that are bound, and their output columns.
use Rattle.std.proofs.Common.{◌≡◌, ℕ, List, Some, Ok, Err, slice_get, refl, sym, ap}
use Rattle.chv_ast.specs.declared.refusal.Refusal.{Refusal}
use Rattle.chv_ast.specs.declared.statement.Select.{Select}
use Rattle.chv_catalog.specs.Schemas.{Catalog}
use Rattle.chv_catalog.specs.declared.fault.StatementFault.{StatementFault}
use Rattle.chv_catalog.specs.declared.fault.StatementFault.TheVariants.{Refused, NoMemory}
use Rattle.chv_types.specs.Names.{place_of}
use Rattle.chv_types.specs.declared.table.Column.{Column}
use Rattle.chv_define.specs.Checks.{checked_outputs, checked_select}
use Rattle.chv_query.specs.Bound.{AnswersAs, IsQuery}
use Rattle.chv_query.specs.Queries.{asked}
use Rattle.chv_query.specs.Views.{fills, names_in, widens_to}
use Rattle.chv_query.specs.declared.query.Query.{Query}

-- a column of a name is filled where it holds the values
pub fills-found : (target : List Column) (column to : Column) (place : ℕ) → place_of column.name (names_in target) ≡ Some place → slice_get target place ≡ Some to
    → fills target column ≡ widens_to column.kind to.kind
fills-found target column to place found stands = rw (found, stands) refl

-- the refusal of a binding is that of the select
pub refused-binding : (catalog : Catalog) (select : Select) (columns : List Column) (fault : StatementFault) (refusal : Refusal)
    → AnswersAs IsQuery (asked catalog select) (Err fault) → fault ≡ Refused refusal → checked_select catalog select columns ≡ Err refusal
unfolding checked_select
refused-binding catalog select columns (Refused other) refusal answers is = rw answers (let same : other ≡ refusal = cc in ap (λ refused. Err refused) same)
refused-binding catalog select columns NoMemory refusal answers is = absurd cc

-- a select is checked as its bound query
pub checked-bound : (catalog : Catalog) (select : Select) (columns : List Column) (query : Query) → AnswersAs IsQuery (asked catalog select) (Ok query)
    → checked_select catalog select columns ≡ checked_outputs columns query.columns
unfolding checked_select
checked-bound catalog select columns query answers = rw answers.1 (ap (checked_outputs columns) (sym answers.2.columns))
