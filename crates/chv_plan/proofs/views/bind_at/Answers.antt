use Rattle.std.proofs.lemmas.Result.{err_from_is_err_and}
use Rattle.std.proofs.Common.{◌∙◌}
use Rattle.chv_query.specs.Queries.{asked}
use Rattle.chv_query.specs.ViewQueries.{IsViewQuery}
use Rattle.chv_plan.proofs.CatalogLemmas.{not_refused, table_within, view_in}
use Rattle.chv_plan.proofs.views.bind_at.Goals as goal

pub table_def-target-requires-clause-first : goal.table_def-target-requires-clause-first
table_def-target-requires-clause-first c = (view_in c.args.schema.now.catalog c.requires.schema c.args.view c.view_def-def.result.now c.view_def-def.ensures).target_numbered

pub table_def-target-requires-clause-last : goal.table_def-target-requires-clause-last
table_def-target-requires-clause-last c =
    let catalog = c.args.schema.now.catalog in
    let view = view_in catalog c.requires.schema c.args.view c.view_def-def.result.now c.view_def-def.ensures in
    table_within catalog c.view_def-def.result.now.target view.target view.target_numbered view.writes

pub returns-in_err-query-clause-refused : goal.returns-in_err-query-clause-refused
returns-in_err-query-clause-refused c =
    let catalog = c.args.schema.now.catalog in
    let view = view_in catalog c.requires.schema c.args.view c.view_def-def.result.now c.view_def-def.ensures in
    let p = err_from_is_err_and c.from_residual.result c.from_residual.ensures.1 in
    rw p.1 (p.2 ∙ not_refused (IsViewQuery c.table_def-target.result.now.columns) (asked catalog c.view_def-def.result.now.select) view.query _ view.asks c.in_err-query.ensures)
