-- The entry of an arrival is one of its table.
use Rattle.std.proofs.Common.{◌≡◌, ◌∙◌, ◌≤◌, ◌-◌, ◌^◌, ℕ, List, [], ◌∷◌, length, Some, slice_get, refl, sym, ap, subst, arith}
use Rattle.std.specs.List.{All}
use Rattle.chv_agg.specs.Sets.{SetsWithin}
use Rattle.chv_block.specs.Spellings.{AllAreOf}
use Rattle.chv_catalog.specs.Paths.{IsPath, end_of, links_of, target_of}
use Rattle.chv_catalog.specs.Schemas.{Catalog, kinds_of}
use Rattle.chv_catalog.specs.declared.link.Link.{Link}
use Rattle.chv_catalog.specs.declared.table_def.TableDef.{TableDef}
use Rattle.chv_part.proofs.BookRowLemmas.{IsEntry-entry_of}
use Rattle.chv_part.specs.Books.{IsEntry, MAX_ROWS, TableForm, normal_rows}
use Rattle.chv_part.specs.Forms.{form_of}
use Rattle.chv_types.specs.declared.value.Value.{Value}
use Rattle.chv_query.proofs.AptLemmas.{IsAptTable, schema-apt}
use Rattle.chv_query.proofs.GrowthLemmas.{All-at, IsViewIn, linked, schema-views}
use Rattle.chv_query.proofs.ViewFits.{SetsWithin-small, viewed-fits}
use Rattle.chv_query.specs.Accepted.{Accepted, IsSchema, catalog_of}
use Rattle.chv_query.specs.Arrivals.{Arrival, IsArrival, end_at, entry_in}
use Rattle.chv_query.specs.Derived.{def_at, derived, form_at, form_in, through, viewed}

-- rows of the columns of a table, as many as a block has at most, with no larger sets in states than a block brings
pub record AreRowsOf (def : TableDef) (rows : List (List Value)) : Type 0 where
  pub kinds_fit : AllAreOf (kinds_of def) rows
  pub most : length rows ≤ MAX_ROWS
  pub sets : SetsWithin (2 ^ 40) (kinds_of def) rows

module _ (catalog : Catalog) (views : All (IsViewIn catalog) catalog.views) (apt : All IsAptTable catalog.tables) where
  -- what a view makes of rows of its source is of the columns of its target
  pub through-fits : (view : ℕ) (link : Link) (source : TableDef) → slice_get (links_of catalog.views) view ≡ Some link → def_at catalog link.source ≡ Some source → (rows : List (List Value)) → AreRowsOf source rows
      → (target : TableDef) × (def_at catalog link.target ≡ Some target) × AreRowsOf target (through catalog (slice_get catalog.views view) rows)
  through-fits view link source at stands rows are =
      let there = linked catalog view link at in
      let of = All-at (IsViewIn catalog) catalog.views view there.def views there.at in
      let reads : there.def.source ≡ link.source = ap (λ (l : Link). l.source) there.is in
      let fills : there.def.target ≡ link.target = ap (λ (l : Link). l.target) there.is in
      let same : of.source ≡ source = one_def of.source source (sym of.reads ∙ ap (def_at catalog) reads ∙ stands) in
      let here : AreRowsOf of.source rows = subst (λ (d : TableDef). AreRowsOf d rows) (sym same) are in
      let sound : IsAptTable of.source = All-at IsAptTable catalog.tables (there.def.source - 1) of.source apt of.reads in
      let short : length rows ≤ 2 ^ 40 = omega (arith, here.most) in
      let made = viewed-fits there.def.source of.source of.target there.def.select of.query of.asks_of of.fit of.once sound (2 ^ 40) (omega arith) rows here.kinds_fit short here.sets in
      let is : through catalog (slice_get catalog.views view) rows ≡ viewed of.query of.target.columns rows = rw (there.at, of.asks, of.writes) refl in (
        of.target,
        ap (def_at catalog) (sym fills) ∙ of.writes,
        subst (AreRowsOf of.target) (sym is) (record { kinds_fit = made.0; most = omega (arith, made.1, are.most); sets = made.2 }),
      )
    where
      one_def : (a b : TableDef) → Some a ≡ Some b → a ≡ b
      one_def a b is = cc

  -- what is derived along a path is of the columns of the table at which it ends
  pub derived-fits : (table : ℕ) (def : TableDef) (path : List ℕ) → def_at catalog table ≡ Some def → IsPath (links_of catalog.views) table path → (rows : List (List Value)) → AreRowsOf def rows
      → (end : TableDef) × (def_at catalog (end_at catalog table path) ≡ Some end) × AreRowsOf end (derived catalog rows path)
  derived-fits table def [] stands is rows are = (def, stands, are)
  derived-fits table def (view ∷ path) stands is rows are =
      let next : target_of (links_of catalog.views) view ≡ is.0.target = rw is.1 refl in
      let made = through-fits view is.0 def is.1 (ap (def_at catalog) is.2 ∙ stands) rows are in
      let behind = derived-fits is.0.target made.0 path made.1 is.3 (through catalog (slice_get catalog.views view) rows) made.2 in
      subst (λ (t : ℕ). (end : TableDef) × (def_at catalog (end_of (links_of catalog.views) t path) ≡ Some end) × AreRowsOf end (derived catalog (through catalog (slice_get catalog.views view) rows) path))
      (sym next) behind

-- rows of a table's columns are those of an entry, under any id
entry_rows : (def : TableDef) (a : Arrival) (rows : List (List Value)) → a.rows ≡ normal_rows (form_of def) rows → AreRowsOf def rows → 1 ≤ length rows → IsEntry (form_of def) (entry_in a)
entry_rows def a rows is are some =
    let entry = IsEntry-entry_of (form_of def) a.contribution.source rows are.kinds_fit are.sets some are.most in
    let here : IsEntry (form_of def) (record { id = a.id; rows = normal_rows (form_of def) rows }) =
    record { kinds_fit = entry.kinds_fit; normal = entry.normal; some = entry.some; most = entry.most } in
    subst (λ (r : List (List Value)). IsEntry (form_of def) (record { id = a.id; rows = r })) (sym is) here

-- the entry of an arrival is one of its table
pub arrival-entry : (schema : List Accepted) → IsSchema schema → (table : ℕ) (def : TableDef) → def_at (catalog_of schema) table ≡ Some def → (a : Arrival) → IsArrival (catalog_of schema) table a
    → IsEntry (form_of def) (entry_in a)
arrival-entry schema lawful table def stands a is =
    let catalog = catalog_of schema in
    let origin = a.contribution.origin in
    let path = a.contribution.path in
    let made = derived-fits catalog (schema-views schema lawful) (schema-apt schema lawful) origin is.origin path is.stands is.leads a.block
    (record { kinds_fit = is.kinds_fit; most = is.most; sets = SetsWithin-small (kinds_of is.origin) a.block is.small is.most }) in
    let there : def_at catalog (end_at catalog origin path) ≡ Some def = ap (def_at catalog) is.ends ∙ stands in
    let same : made.0 ≡ def = one_def made.0 def (sym made.1 ∙ there) in
    let form : form_at catalog (end_at catalog origin path) ≡ form_of def = ap form_in there in
    let rows : a.rows ≡ normal_rows (form_of def) (derived catalog a.block path) =
    ap (λ (x : Arrival). x.rows) is.is ∙ ap (λ (f : TableForm). normal_rows f (derived catalog a.block path)) form in
    entry_rows def a (derived catalog a.block path) rows (subst (λ (d : TableDef). AreRowsOf d (derived catalog a.block path)) same made.2) is.reaches
  where
    one_def : (a b : TableDef) → Some a ≡ Some b → a ≡ b
    one_def a b is = cc
