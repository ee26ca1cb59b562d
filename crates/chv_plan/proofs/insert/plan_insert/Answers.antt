use Rattle.std.proofs.Common.{◌≡◌, ◌≤◌, ◌+◌, ◌-◌, Some, Ok, option_map, sym, ◌∙◌}
use Rattle.std.proofs.lemmas.Result.{IfOk-weaker}
use Rattle.chv_query.proofs.AcceptedLemmas.{IsMade, catalog_made}
use Rattle.chv_query.proofs.GrowthLemmas.{All-at}
use Rattle.chv_query.specs.Tables.{table_of}
use Rattle.chv_catalog.specs.Schemas.{table_names}
use Rattle.chv_types.specs.Names.{place_of}
use Rattle.chv_plan.proofs.PlanLemmas.{found_table, planned_there, delivered, count-Brings}
use Rattle.chv_plan.proofs.insert.plan_insert.Goals.{After-table_def}
use Rattle.chv_plan.proofs.insert.plan_insert.Goals as goal

-- the table that was found stands at its number
found : (c : After-table_def) → (table_of c.args.schema.now.catalog c.args.insert.now.table ≡ Ok (c.in-Some.number, c.table_def.result.now)) × (1 ≤ c.in-Some.number)
found c =
    let is : Some c.in-Some.number ≡ option_map (λ place. place + 1) (place_of c.args.insert.now.table (table_names c.args.schema.now.catalog.tables)) =
    sym c.in-Some.is ∙ (rw c.as_slice.ensures at c.table.ensures) in
    found_table c.args.schema.now.catalog c.args.insert.now.table c.in-Some.number c.table_def.result.now is c.table_def.ensures

pub plan_for-requires-clause-few : goal.plan_for-requires-clause-few
plan_for-requires-clause-few c =
    let catalog = c.args.schema.now.catalog in
    (All-at IsMade catalog.tables (c.in-Some.number - 1) c.table_def.result.now (catalog_made catalog c.requires.schema) c.table_def.ensures).most

pub returns-in-Some-clause-planned : goal.returns-in-Some-clause-planned
returns-in-Some-clause-planned c =
    let stands = found (goal.at.returns-in-Some-clause-planned c).After-table_def in
    IfOk-weaker c.plan_for.result _ _
    (λ held brings.
    delivered c.args.schema.now.catalog c.requires.schema c.args.insert.now c.in-Some.number c.table_def.result.now held.deliveries
    (planned_there c.args.schema.now.catalog c.args.insert.now c.in-Some.number c.table_def.result.now stands.0) brings)
    c.plan_for.ensures.planned

pub returns-in-Some-clause-refused : goal.returns-in-Some-clause-refused
returns-in-Some-clause-refused c =
    let stands = found (goal.at.returns-in-Some-clause-refused c).After-table_def in
    rw (planned_there c.args.schema.now.catalog c.args.insert.now c.in-Some.number c.table_def.result.now stands.0) c.plan_for.ensures.refused

pub returns-in-Some-clause-count : goal.returns-in-Some-clause-count
returns-in-Some-clause-count c =
    IfOk-weaker c.plan_for.result _ _ (λ held brings. count-Brings c.args.schema.now.catalog _ _ c.args.insert.now held.deliveries brings) c.plan_for.ensures.planned
