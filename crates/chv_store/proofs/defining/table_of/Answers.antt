-- The table that a canonical text makes.
use Rattle.std.proofs.Common.{sym, ◌∙◌}
use Rattle.chv_ast.specs.declared.statement.Statement.TheVariants as statement
use Rattle.chv_catalog.specs.declared.definition.Definition.TheVariants.{Table}
use Rattle.chv_store.proofs.DefineLemmas.{other_text, refused_table_read, accepted_read, differs, is_same}
use Rattle.chv_store.proofs.defining.table_of.Goals as goal

pub returns-then-ne-clause-none : goal.returns-then-ne-clause-none
returns-then-ne-clause-none c =
    other_text c.args.schema.now.catalog c.args.text.now (statement.CreateTable c.args.made.now) c.requires.read (λ same. differs c.as_slice.result.now c.args.text.now c.ne.result c.ne.ensures c.if-ne.true (c.as_slice.ensures.value ∙ c.in-Ok.ensures.text ∙ same))

pub returns-else-ne-clause-some : goal.returns-else-ne-clause-some
returns-else-ne-clause-some c =
    accepted_read c.args.schema.now.catalog c.args.text.now (statement.CreateTable c.args.made.now) (Table c.in-Ok.table.def) c.requires.read (sym (c.as_slice.ensures.value ∙ c.in-Ok.ensures.text) ∙ is_same c.as_slice.result.now c.args.text.now c.ne.result c.ne.ensures c.if-ne.false) c.in-Ok.ensures.defined

pub returns-in-Err-Refused-clause-none : goal.returns-in-Err-Refused-clause-none
returns-in-Err-Refused-clause-none c =
    refused_table_read c.args.schema.now.catalog c.args.text.now c.args.made.now c.in-Err-Refused.field-0-0 c.requires.read (c.in-Err-Refused.ensures.refused c.in-Err-Refused.field-0-0 (search))
