-- The tables are opened one after the other.
use Rattle.std.proofs.Common.{◌≡◌, ◌++◌, ◌∷◌, ◌-◌, [], List, map, Err, refl, sym, ap, subst, ◌∙◌, arith}
use Rattle.std.proofs.lemmas.Result.{err_from_is_err_and}
use Rattle.chv_catalog.specs.Schemas.{kinds_of}
use Rattle.chv_catalog.specs.declared.table_def.TableDef.{TableDef}
use Rattle.chv_part.specs.Books.{AreColumns}
use Rattle.chv_part.specs.Forms.{form_of}
use Rattle.chv_site.specs.FileIds.{catalog_log, table_log}
use Rattle.chv_site.specs.declared.file_id.FileId.{FileId}
use Rattle.chv_site.proofs.Moments.{started}
use Rattle.chv_table.specs.declared.fault.TableFault.{TableFault}
use Rattle.chv_table.specs.declared.table.Table.{Table}
use Rattle.chv_store.specs.Calls.{StandsLeft}
use Rattle.chv_store.specs.Stores.{EachTable, IsHeldAs}
use Rattle.chv_store.proofs.BeginLemmas.{begins_as, begins_log, begins_none, begins_then}
use Rattle.chv_store.proofs.FaultLemmas.{same_error}
use Rattle.chv_store.proofs.OpenedLemmas.{AreOpened, all_hold, all_open, all_placed, catalog_kept, def_has, first_damaged, held_more, opened_more, opened_none, others_kept, pushed, table_during, table_settles}
use Rattle.chv_store.proofs.SettleLemmas.{settles_left}
use Rattle.chv_store.proofs.opening.open_tables.Goals as goal

pub loop-number-init : goal.loop-number-init
loop-number-init g c =
    let site = c.args.site.now in
    let before = g.W.Site.outside site in
    let defs = c.args.schema.now.catalog.tables in
    let none = c.new-tables.ensures.items in
    record {
      within = subst (λ (ts : List Table). EachTable IsHeldAs 1 [] ts) (sym none) tt;
      opened = λ tells. subst (λ (ts : List Table). AreOpened before.files before.files defs 1 ts) (sym none) (opened_none before.files defs);
      settles = λ tells payloads books settles. settles;
      during = λ tells payloads books settles.
          started before (StandsLeft payloads (map form_of defs) books before.said)
          (λ image text left. settles_left payloads (map form_of defs) books before.files before.said image text settles (g.met.W.Site.only_now site image text left));
      begins = begins_none g.W.Site.tells ⊥ before (λ n. n);
    }

pub open_table-requires : goal.open_table-requires
open_table-requires g c = record { columns = def_has (λ (def : TableDef). AreColumns (kinds_of def)) c.args.schema.now.catalog.tables (c.loop-number.number - 1) c.table_def.result.now c.requires.columns c.table_def.ensures }

-- one of them is not opened
pub returns-in_err-table-clause-damaged : goal.returns-in_err-table-clause-damaged
returns-in_err-table-clause-damaged g c tells damage is =
    let so_far = c.loop-number.invariant in
    let p = err_from_is_err_and c.from_residual.result c.from_residual.ensures.1 in
    let same : p.0 ≡ TableFault.Damaged damage = cc (sym p.1 ∙ is) in
    first_damaged (g.W.Site.outside c.args.site.now).files (g.W.Site.outside c.loop-number.site).files c.args.schema.now.catalog.tables c.loop-number.number c.loop-number.auto.number c.table_def.result.now c.table_def.ensures
    c.loop-number.tables.items (so_far.opened tells) damage (c.in_err-table.ensures.damaged tells damage (ap Err (sym p.2 ∙ same)))

pub returns-in_err-table-clause-during : goal.returns-in_err-table-clause-during
returns-in_err-table-clause-during g c tells payloads books settles =
    let so_far = c.loop-number.invariant in
    table_during payloads c.args.schema.now.catalog.tables books c.loop-number.number c.loop-number.auto.number c.table_def.result.now c.table_def.ensures
    (g.W.Site.outside c.args.site.now) (g.W.Site.outside c.loop-number.site) (g.W.Site.outside c.open_table.new.site)
    (so_far.settles tells payloads books settles) (so_far.begins.said tells) (so_far.during tells payloads books settles) (c.in_err-table.ensures.during tells)

pub returns-in_err-table-clause-catalog : goal.returns-in_err-table-clause-catalog
returns-in_err-table-clause-catalog g c tells =
    let before = (g.W.Site.outside c.args.site.now).files in
    let mid = (g.W.Site.outside c.loop-number.site).files in
    let number = c.loop-number.number in
    c.in_err-table.ensures.keeps.others tells catalog_log (λ same. absurd (omega (arith, c.loop-number.auto.number, ap (λ (f : FileId). f.table) same)))
    ∙ catalog_kept before mid c.args.schema.now.catalog.tables number c.loop-number.tables.items (c.loop-number.invariant.opened tells)

pub returns-in_err-table-clause-keeps : goal.returns-in_err-table-clause-keeps
returns-in_err-table-clause-keeps g c =
    let before = g.W.Site.outside c.args.site.now in
    let mid = g.W.Site.outside c.loop-number.site in
    let new = g.W.Site.outside c.open_table.new.site in
    let p = err_from_is_err_and c.from_residual.result c.from_residual.ensures.1 in
    begins_then g.W.Site.tells ⊥ _ _ before mid new (λ n. n)
    (λ is. ap Err (sym p.2 ∙ same_error c.from_residual.result p.0 TableFault.Failed p.1 is))
    (λ is. p.1 ∙ ap Err (p.2 ∙ cc is))
    c.loop-number.invariant.begins (begins_log g.W.Site.tells _ (table_log c.loop-number.number) mid new refl c.in_err-table.ensures.kept c.in_err-table.ensures.keeps)

-- there is no memory for it
pub returns-then-is_err-clause-during : goal.returns-then-is_err-clause-during
returns-then-is_err-clause-during g c tells payloads books settles =
    let so_far = c.loop-number.invariant in
    table_during payloads c.args.schema.now.catalog.tables books c.loop-number.number c.loop-number.auto.number c.table_def.result.now c.table_def.ensures
    (g.W.Site.outside c.args.site.now) (g.W.Site.outside c.loop-number.site) (g.W.Site.outside c.open_table.new.site)
    (so_far.settles tells payloads books settles) (so_far.begins.said tells) (so_far.during tells payloads books settles) (c.in_ok-table.ensures.during tells)

pub returns-then-is_err-clause-catalog : goal.returns-then-is_err-clause-catalog
returns-then-is_err-clause-catalog g c tells =
    let before = (g.W.Site.outside c.args.site.now).files in
    let mid = (g.W.Site.outside c.loop-number.site).files in
    let number = c.loop-number.number in
    c.in_ok-table.ensures.keeps.others tells catalog_log (λ same. absurd (omega (arith, c.loop-number.auto.number, ap (λ (f : FileId). f.table) same)))
    ∙ catalog_kept before mid c.args.schema.now.catalog.tables number c.loop-number.tables.items (c.loop-number.invariant.opened tells)

pub returns-then-is_err-clause-keeps : goal.returns-then-is_err-clause-keeps
returns-then-is_err-clause-keeps g c =
    let before = g.W.Site.outside c.args.site.now in
    let mid = g.W.Site.outside c.loop-number.site in
    let new = g.W.Site.outside c.open_table.new.site in
    begins_then g.W.Site.tells ⊥ _ _ before mid new (λ n. n) (λ is. absurd (cc is)) (λ is. absurd (cc is))
    c.loop-number.invariant.begins (begins_log g.W.Site.tells _ (table_log c.loop-number.number) mid new refl c.in_ok-table.ensures.kept c.in_ok-table.ensures.keeps)

-- one table more
pub loop-number-preserved : goal.loop-number-preserved
loop-number-preserved g c =
    let so_far = c.loop-number.invariant in
    let defs = c.args.schema.now.catalog.tables in
    let number = c.loop-number.number in
    let some = c.loop-number.auto.number in
    let def = c.table_def.result.now in
    let at = c.table_def.ensures in
    let tables = c.loop-number.tables.items in
    let table = c.in_ok-table.table in
    let opened = c.in_ok-table.ensures in
    let old = g.W.Site.outside c.args.site.now in
    let mid = g.W.Site.outside c.loop-number.site in
    let new = g.W.Site.outside c.open_table.new.site in
    let now : c.push.new.self.items ≡ tables ++ table ∷ [] = pushed c.push.result tables (tables ++ table ∷ []) c.push.new.self.items c.is_err.result c.is_err.ensures.value c.if-is_err.false c.push.ensures.items in
    let held : IsHeldAs number def table = (opened.within.0, opened.within.1) in
    record {
      within = rw now (held_more defs number some def at tables table so_far.within held);
      opened = λ tells.
          let has = opened.commits tells in
          rw now (opened_more old.files mid.files new.files defs number some def at tables (so_far.opened tells) table held (opened.placed tells) (opened.keeps.others tells) has.0 has.1 has.2
          (λ book settles. (opened.book tells book settles).done));
      settles = λ tells payloads books settles.
          let has = opened.commits tells in
          table_settles payloads defs books number some def at mid.files new.files table has.0 (so_far.settles tells payloads books settles) held (opened.keeps.others tells) has.1 has.2;
      during = λ tells payloads books settles.
          table_during payloads defs books number some def at old mid new (so_far.settles tells payloads books settles) (so_far.begins.said tells) (so_far.during tells payloads books settles) (opened.during tells);
      begins = begins_then g.W.Site.tells ⊥ _ ⊥ old mid new (λ n. n) (λ n. absurd n) (λ is. cc is) so_far.begins
          (begins_log g.W.Site.tells _ (table_log number) mid new refl opened.kept opened.keeps);
    }

-- all of them are opened
pub returns-clause-placed : goal.returns-clause-placed
returns-clause-placed g c tells =
    all_placed (g.W.Site.outside c.args.site.now).files (g.W.Site.outside c.loop-number.site).files c.args.schema.now.catalog.tables c.loop-number.number (omega arith) c.loop-number.tables.items (c.loop-number.invariant.opened tells)

pub returns-clause-holds : goal.returns-clause-holds
returns-clause-holds g c tells payloads books settles = (
  all_hold (g.W.Site.outside c.args.site.now).files (g.W.Site.outside c.loop-number.site).files c.args.schema.now.catalog.tables c.loop-number.number (omega arith) c.loop-number.tables.items (c.loop-number.invariant.opened tells) payloads books settles,
  c.loop-number.invariant.settles tells payloads books settles,
)

pub returns-clause-opened : goal.returns-clause-opened
returns-clause-opened g c tells =
    all_open (g.W.Site.outside c.args.site.now).files (g.W.Site.outside c.loop-number.site).files c.args.schema.now.catalog.tables c.loop-number.number (omega arith) c.loop-number.tables.items (c.loop-number.invariant.opened tells)

pub returns-clause-others : goal.returns-clause-others
returns-clause-others g c tells =
    others_kept (g.W.Site.outside c.args.site.now).files (g.W.Site.outside c.loop-number.site).files c.args.schema.now.catalog.tables c.loop-number.number (omega arith) c.loop-number.tables.items (c.loop-number.invariant.opened tells)

pub returns-clause-catalog : goal.returns-clause-catalog
returns-clause-catalog g c tells =
    catalog_kept (g.W.Site.outside c.args.site.now).files (g.W.Site.outside c.loop-number.site).files c.args.schema.now.catalog.tables c.loop-number.number c.loop-number.tables.items (c.loop-number.invariant.opened tells)

pub returns-clause-keeps : goal.returns-clause-keeps
returns-clause-keeps g c =
    begins_as g.W.Site.tells ⊥ _ (g.W.Site.outside c.args.site.now) (g.W.Site.outside c.loop-number.site) (λ is. cc is) (λ n. absurd n) c.loop-number.invariant.begins
