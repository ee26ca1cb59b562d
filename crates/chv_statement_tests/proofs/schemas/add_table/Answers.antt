use Rattle.std.proofs.Common.{refl}
use Rattle.chv_ast.specs.declared.statement.Statement.TheVariants as statement
use Rattle.chv_catalog.specs.declared.definition.Definition.TheVariants.{Table}
use Rattle.chv_statement_tests.proofs.schemas.add_table.Goals as goal

pub put-requires-clause-accepted : goal.put-requires-clause-accepted
put-requires-clause-accepted c =
    (record { statement = statement.CreateTable c.args.made; definition = Table c.in-Ok.table.def }, refl, record { formed = c.requires.formed; defines = c.in-Ok.ensures.defined })
