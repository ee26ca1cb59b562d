use Rattle.std.proofs.Common.{◌∙◌, ap, sym}
use Rattle.chv_types.specs.declared.table.Column.{Column}
use Rattle.chv_expr.proofs.ColumnLemmas.{Binds-column}
use Rattle.chv_expr.proofs.bind.bind_column.Goals as goal

pub returns-in_ok-column-in-Some : goal.returns-in_ok-column-in-Some
returns-in_ok-column-in-Some c =
    let kind = c.in_ok-column-in-Some.ensures.kind ∙ ap (λ (column : Column). column.kind) (sym c.index-columns-place.is) in
    Binds-column c.args.columns.now c.args.name.now c.in-Some.place c.index-columns-place.result c.in_ok-column-in-Some.field-0 (sym c.place_of.ensures.place ∙ c.in-Some.is)
    c.in-Some.ensures.within c.index-columns-place.is kind c.in_ok-column-in-Some.ensures.tree
