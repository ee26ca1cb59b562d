use Rattle.std.proofs.Common.{rules, tests, ◌∙◌, List, ℕ}
use Rattle.std.specs.Str.{bytes_eq}
use Rattle.std.proofs.lemmas.Iterator.{YieldsList-from_slice}
use Rattle.std.proofs.lemmas.Iterator.Search.{position_from_yields_List}
use Rattle.chv_types.specs.declared.table.Column.{Column}
use Rattle.chv_expr.proofs.ColumnLemmas.{position-map}
use Rattle.chv_expr.proofs.bind.place_of.Goals as goal

pub returns-clause-place : goal.returns-clause-place
returns-clause-place c =
    position_from_yields_List (λ (column : Column). bytes_eq column.name c.args.name.now) _ _ _ c.position.ensures.ran
    (YieldsList-from_slice c.args.columns.now cc) (λ x b q k. search (rules, tests))
    ∙ position-map (λ (column : Column). column.name) (λ (other : List ℕ). bytes_eq other c.args.name.now) c.args.columns.now
