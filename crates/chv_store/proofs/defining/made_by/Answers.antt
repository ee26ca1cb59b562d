-- Another statement than a CREATE statement makes nothing.
use Rattle.chv_store.proofs.DefineLemmas.{neither_read}
use Rattle.chv_store.proofs.defining.made_by.Goals as goal

pub returns-in_default-clause-none : goal.returns-in_default-clause-none
returns-in_default-clause-none c =
    neither_read c.args.schema.now.catalog c.args.text.now c.args.statement c.requires.read c.in_default.not-CreateTable c.in_default.not-CreateView
