-- The rows of the table of a number.
use Rattle.std.proofs.Common.{◌≡◌, ◌-◌, ℕ, List, Some, slice_get, ap, subst, ◌∙◌, arith}
use Rattle.chv_types.specs.declared.kind.Kind.{Kind}
use Rattle.std.proofs.lemmas.Result.{IfOk-weaker, on_ok_weaker}
use Rattle.chv_catalog.specs.declared.table_def.TableDef.{TableDef}
use Rattle.chv_block.specs.Spellings.{AllAreOf}
use Rattle.chv_catalog.specs.Schemas.{kinds_of}
use Rattle.chv_part.specs.Books.{Book, TableForm, normal_rows, rows_in}
use Rattle.chv_part.specs.Forms.{form_of}
use Rattle.chv_site.specs.Outside.{bytes_in}
use Rattle.chv_store.specs.Holding.{HoldsBooks}
use Rattle.chv_store.proofs.PlaceLemmas.{damage_of, items_within, its_book, its_form, table_of, whole_of}
use Rattle.chv_store.proofs.store.Store.rows.Goals as goal

pub index-requires : goal.index-requires
index-requires g c = omega (arith, items_within c.args.self.now c.args.table c.requires.within c.requires.table)

pub rows-requires : goal.rows-requires
rows-requires g c = record { within = (table_of c.args.self.now c.args.table c.index.result.now c.requires.within c.requires.table c.index.ensures).held_as.0 }

pub returns-clause-rows : goal.returns-clause-rows
returns-clause-rows g c tells =
    let self = c.args.self.now in
    let table = c.args.table in
    let held = c.index.result.now in
    let files = (g.W.Site.outside c.args.site.now).files in
    let at = table_of self table held c.requires.within c.requires.table c.index.ensures in
    IfOk-weaker c.rows.result _
    (λ rows. (def : TableDef) → slice_get self.schema.catalog.tables (table - 1) ≡ Some def → (payloads : List (List ℕ)) (books : ℕ → Book) → HoldsBooks self files payloads books → rows ≡ normal_rows (form_of def) (rows_in (books table)))
    (λ rows are def stands payloads books holds.
    are (books table) (its_book self table held at files payloads books holds) ∙ ap (λ form. normal_rows form (rows_in (books table))) (its_form self table held at def stands))
    (c.rows.ensures.rows tells)

pub returns-clause-whole : goal.returns-clause-whole
returns-clause-whole g c tells =
    let self = c.args.self.now in
    let held = c.index.result.now in
    let at = table_of self c.args.table held c.requires.within c.requires.table c.index.ensures in
    on_ok_weaker c.rows.result (λ whole def stands. whole_of self c.args.table held at def stands (bytes_in (g.W.Site.outside c.args.site.now)) whole) (c.rows.ensures.whole tells)

pub returns-clause-damaged : goal.returns-clause-damaged
returns-clause-damaged g c tells damage is def stands =
    let self = c.args.self.now in
    let held = c.index.result.now in
    let at = table_of self c.args.table held c.requires.within c.requires.table c.index.ensures in
    damage_of self c.args.table held at def stands (bytes_in (g.W.Site.outside c.args.site.now)) damage (c.rows.ensures.damaged tells damage is)

pub returns-clause-kinds : goal.returns-clause-kinds
returns-clause-kinds g c =
    let self = c.args.self.now in
    let held = c.index.result.now in
    let at = table_of self c.args.table held c.requires.within c.requires.table c.index.ensures in
    IfOk-weaker c.rows.result _
    (λ rows. (def : TableDef) → slice_get self.schema.catalog.tables (c.args.table - 1) ≡ Some def → AllAreOf (kinds_of def) rows)
    (λ rows are def stands. subst (λ (kinds : List Kind). AllAreOf kinds rows) (ap (λ (form : TableForm). form.kinds) (its_form self c.args.table held at def stands)) are)
    c.rows.ensures.kinds
