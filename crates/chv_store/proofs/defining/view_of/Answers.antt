-- The view that a canonical text makes.
use Rattle.std.proofs.Common.{sym, ◌∙◌}
use Rattle.chv_ast.specs.declared.statement.Statement.TheVariants as statement
use Rattle.chv_catalog.specs.declared.definition.Definition.TheVariants.{View}
use Rattle.chv_store.proofs.DefineLemmas.{other_text, refused_view_read, accepted_read, differs, is_same}
use Rattle.chv_store.proofs.defining.view_of.Goals as goal

pub returns-then-ne-clause-none : goal.returns-then-ne-clause-none
returns-then-ne-clause-none c =
    other_text c.args.schema.now.catalog c.args.text.now (statement.CreateView c.args.made) c.requires.read (λ same. differs c.as_slice.result.now c.args.text.now c.ne.result c.ne.ensures c.if-ne.true (c.as_slice.ensures.value ∙ c.in-Ok.ensures.text ∙ same))

pub returns-else-ne-clause-some : goal.returns-else-ne-clause-some
returns-else-ne-clause-some c =
    accepted_read c.args.schema.now.catalog c.args.text.now (statement.CreateView c.args.made) (View c.in-Ok.view.def) c.requires.read (sym (c.as_slice.ensures.value ∙ c.in-Ok.ensures.text) ∙ is_same c.as_slice.result.now c.args.text.now c.ne.result c.ne.ensures c.if-ne.false) c.in-Ok.ensures.defined

pub returns-in-Err-Refused-clause-none : goal.returns-in-Err-Refused-clause-none
returns-in-Err-Refused-clause-none c =
    refused_view_read c.args.schema.now.catalog c.args.text.now c.args.made c.in-Err-Refused.field-0-0 c.requires.read (c.in-Err-Refused.ensures.refused c.in-Err-Refused.field-0-0 (search))
