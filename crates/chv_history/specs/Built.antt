-- Which statements are built: docs/SQL.md, "What is built".
use Rattle.std.specs.Prelude.{Bool, true, false, not}
use Rattle.chv_ast.specs.declared.statement.Statement.{Statement}
use Rattle.chv_ast.specs.declared.statement.Statement.TheVariants as statement

-- each table and each view; rows that are not held for later; each query; and the parts of a table
unfoldable pub is_built : Statement → Bool
is_built (statement.CreateTable made) = true
is_built (statement.CreateView made) = true
is_built (statement.Insert brought) = not brought.settings.later
is_built (statement.Query asked) = true
is_built (statement.ShowParts asked) = true
is_built other = false
