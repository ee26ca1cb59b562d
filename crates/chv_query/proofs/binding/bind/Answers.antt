use Rattle.std.proofs.Common.{◌≡◌, ◌+◌, None, Some, option_map, ◌∙◌, sym}
use Rattle.chv_catalog.specs.Schemas.{table_names}
use Rattle.chv_types.specs.Names.{place_of}
use Rattle.chv_query.proofs.TableLemmas.{asked-absent, asked-found, table_of-absent, table_of-found}
use Rattle.chv_query.proofs.binding.bind.Goals as goal

pub returns-in-Some : goal.returns-in-Some
returns-in-Some c =
    let catalog = c.args.schema.now.catalog in
    let name = c.args.select.now.table in
    let is : Some c.in-Some.table ≡ option_map (λ place. place + 1) (place_of name (table_names catalog.tables)) = sym c.in-Some.is ∙ (rw c.as_slice.ensures at c.table.ensures) in
    rw (asked-found catalog c.args.select.now c.in-Some.table c.table_def.result.now (table_of-found catalog name c.in-Some.table c.table_def.result.now is c.table_def.ensures))
    c.bind_to.ensures

pub returns-in-None : goal.returns-in-None
returns-in-None c =
    let catalog = c.args.schema.now.catalog in
    let name = c.args.select.now.table in
    let is : None ≡ option_map (λ place. place + 1) (place_of name (table_names catalog.tables)) = sym c.in-None.is ∙ (rw c.as_slice.ensures at c.table.ensures) in
    asked-absent catalog c.args.select.now (table_of-absent catalog name is)
