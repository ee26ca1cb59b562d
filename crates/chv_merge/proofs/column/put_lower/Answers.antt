use Rattle.std.proofs.Common.{sym, ap, ◌∙◌}
use Rattle.std.specs.Option.{option_copied}
use Rattle.chv_merge.proofs.ColumnLemmas.{none-lower}
use Rattle.chv_merge.proofs.column.put_lower.Goals as goal

pub returns-in-None : goal.returns-in-None
returns-in-None c x e = none-lower _ _ _ x e (sym c.lower_at.ensures ∙ ap option_copied c.in-None.is)
