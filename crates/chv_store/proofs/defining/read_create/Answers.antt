-- A text that is no statement makes no table.
use Rattle.std.proofs.Common.{sym, ◌∙◌}
use Rattle.chv_store.proofs.DefineLemmas.{none_read}
use Rattle.chv_store.proofs.defining.read_create.Goals as goal

pub returns-in-None-clause-none : goal.returns-in-None-clause-none
returns-in-None-clause-none c = none_read c.args.schema.now.catalog c.args.text.now (sym c.in_ok-statement.ensures ∙ c.in-None.is)
