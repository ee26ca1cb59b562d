use Rattle.chv_query.specs.Accepted.{IsCatalog}
use Rattle.chv_statement_tests.proofs.schemas.schema_of.Given as goal

abbrev pub invariant-loop-text : goal.invariant-loop-text
invariant-loop-text l = IsCatalog l.schema.catalog
