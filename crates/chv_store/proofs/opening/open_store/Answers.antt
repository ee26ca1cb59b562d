-- The catalog is opened, and then the tables.
use Rattle.std.proofs.Common.{inr, map, Err, refl, sym, ap, ◌∙◌, arith}
use Rattle.std.specs.Prelude.{IsErrOf}
use Rattle.chv_query.specs.Accepted.{catalog_payload, tables_of}
use Rattle.chv_part.specs.Forms.{form_of}
use Rattle.chv_site.specs.FileIds.{catalog_log, table_log}
use Rattle.chv_site.specs.declared.file_id.FileId.{FileId}
use Rattle.chv_store.specs.declared.store.Store.{Store}
use Rattle.chv_table.specs.declared.fault.TableFault.{TableFault}
use Rattle.chv_store.proofs.BeginLemmas.{begins_log, begins_then}
use Rattle.chv_store.proofs.CatalogLemmas.{defined_columns}
use Rattle.chv_store.proofs.OpenLemmas.{are_tables, catalog_during, holds_store, mid_settles, opens_as, store_during, table_damaged}
use Rattle.chv_store.proofs.opening.open_store.Goals as goal

-- the tables have columns
pub open_tables-requires : goal.open_tables-requires
open_tables-requires g c = record { columns = defined_columns c.open_catalog.new.schema.catalog c.in-Ok.ensures.defined.0 }

pub returns-in-Err-clause-during : goal.returns-in-Err-clause-during
returns-in-Err-clause-during g c tells schema books lawful settles =
    catalog_during (map catalog_payload schema) (map form_of (tables_of schema)) books (g.W.Site.outside c.args.site.now) (g.W.Site.outside c.open_catalog.new.site) settles (c.open_catalog.ensures.during tells)

pub returns-in-Ok-open_tables-clause-holds : goal.returns-in-Ok-open_tables-clause-holds
returns-in-Ok-open_tables-clause-holds g c tells schema books lawful settles =
    let catalog = c.open_catalog.new.schema.catalog in
    let gate = c.in-Ok.log.gate in
    let old = (g.W.Site.outside c.args.site.now).files in
    let mid = (g.W.Site.outside c.open_catalog.new.site).files in
    let others = c.open_catalog.ensures.keeps.others tells in
    let holds = c.in-Ok.ensures.holds tells in
    let opened = c.in-Ok-open_tables.ensures in
    let store : Store = record { catalog = c.in-Ok.log; schema = c.open_catalog.new.schema; tables = c.in-Ok-open_tables.tables } in
    let held = opened.holds tells (map catalog_payload schema) books (mid_settles catalog gate old mid others holds schema books lawful settles) in
    holds_store catalog gate old mid others holds schema books lawful settles store (g.W.Site.outside c.open_tables.new.site).files c.in-Ok.ensures.log.0 refl refl (opened.catalog tells) held.0 held.1

pub returns-in-Ok-open_tables-clause-opened : goal.returns-in-Ok-open_tables-clause-opened
returns-in-Ok-open_tables-clause-opened g c tells =
    let store : Store = record { catalog = c.in-Ok.log; schema = c.open_catalog.new.schema; tables = c.in-Ok-open_tables.tables } in
    let opened = c.in-Ok-open_tables.ensures in
    opens_as c.open_catalog.new.schema.catalog c.in-Ok.log.gate (g.W.Site.outside c.args.site.now).files (g.W.Site.outside c.open_catalog.new.site).files (c.open_catalog.ensures.keeps.others tells) (c.in-Ok.ensures.holds tells)
    store (g.W.Site.outside c.open_tables.new.site).files c.in-Ok.ensures.log.0 refl refl (opened.catalog tells) (opened.opened tells)

pub returns-in-Ok-open_tables-clause-others : goal.returns-in-Ok-open_tables-clause-others
returns-in-Ok-open_tables-clause-others g c tells table beyond =
    c.in-Ok-open_tables.ensures.others tells table beyond
    ∙ c.open_catalog.ensures.keeps.others tells (table_log table) (λ same. absurd (omega (arith, beyond, ap (λ (f : FileId). f.table) same)))

pub returns-in-Ok-open_tables-clause-during : goal.returns-in-Ok-open_tables-clause-during
returns-in-Ok-open_tables-clause-during g c tells schema books lawful settles =
    let catalog = c.open_catalog.new.schema.catalog in
    let gate = c.in-Ok.log.gate in
    let old = g.W.Site.outside c.args.site.now in
    let mid = g.W.Site.outside c.open_catalog.new.site in
    let others = c.open_catalog.ensures.keeps.others tells in
    let holds = c.in-Ok.ensures.holds tells in
    store_during schema catalog.tables books old mid (g.W.Site.outside c.open_tables.new.site) settles (are_tables catalog gate old.files mid.files others holds schema books lawful settles)
    (c.open_catalog.ensures.keeps.said tells) (c.open_catalog.ensures.during tells)
    (c.open_tables.ensures.during tells (map catalog_payload schema) books (mid_settles catalog gate old.files mid.files others holds schema books lawful settles))

pub returns-in-Err-open_tables-clause-damaged : goal.returns-in-Err-open_tables-clause-damaged
returns-in-Err-open_tables-clause-damaged g c tells damage is =
    inr (table_damaged c.open_catalog.new.schema.catalog c.in-Ok.log.gate (g.W.Site.outside c.args.site.now).files (g.W.Site.outside c.open_catalog.new.site).files
    (c.open_catalog.ensures.keeps.others tells) (c.in-Ok.ensures.holds tells) damage (c.open_tables.ensures.damaged tells damage (c.in-Err-open_tables.is ∙ ap Err is)))

pub returns-in-Err-open_tables-clause-during : goal.returns-in-Err-open_tables-clause-during
returns-in-Err-open_tables-clause-during g c tells schema books lawful settles =
    let catalog = c.open_catalog.new.schema.catalog in
    let gate = c.in-Ok.log.gate in
    let old = g.W.Site.outside c.args.site.now in
    let mid = g.W.Site.outside c.open_catalog.new.site in
    let others = c.open_catalog.ensures.keeps.others tells in
    let holds = c.in-Ok.ensures.holds tells in
    store_during schema catalog.tables books old mid (g.W.Site.outside c.open_tables.new.site) settles (are_tables catalog gate old.files mid.files others holds schema books lawful settles)
    (c.open_catalog.ensures.keeps.said tells) (c.open_catalog.ensures.during tells)
    (c.open_tables.ensures.during tells (map catalog_payload schema) books (mid_settles catalog gate old.files mid.files others holds schema books lawful settles))

pub returns-in-Err-open_tables-clause-keeps : goal.returns-in-Err-open_tables-clause-keeps
returns-in-Err-open_tables-clause-keeps g c =
    let old = g.W.Site.outside c.args.site.now in
    let mid = g.W.Site.outside c.open_catalog.new.site in
    begins_then g.W.Site.tells (IsErrOf c.open_catalog.result TableFault.Failed) (IsErrOf c.open_tables.result TableFault.Failed) _ old mid (g.W.Site.outside c.open_tables.new.site)
    (λ is. cc (sym c.in-Ok.is ∙ is)) (λ is. c.in-Err-open_tables.is ∙ ap Err is) (λ is. cc (sym c.in-Err-open_tables.is ∙ is))
    (begins_log g.W.Site.tells _ catalog_log old mid refl c.open_catalog.ensures.kept c.open_catalog.ensures.keeps) c.open_tables.ensures.keeps
