-- What stands of a catalog where a definition is put behind the others.
use Rattle.std.proofs.Common.{◌≡◌, ◌∙◌, ◌≤◌, ◌+◌, ◌-◌, ◌||◌, ℕ, suc, zero, Bool, false, not, List, [], ◌∷◌, ◌++◌, length, map, Option, None, Some, Result, Ok, slice_get, refl, sym, ap, ap₂, subst, arith}
use Rattle.std.specs.List.{All, list_any}
use Rattle.std.specs.Option.{option_map}
use Rattle.std.proofs.lemmas.List.{append-nil, map-append}
use Rattle.std.proofs.lemmas.List.Elements.{All-append, All-cons, All-head, All-nil, All-tail, All-weaker}
use Rattle.std.proofs.lemmas.Option.{slice_get-map, slice_get_within}
use Rattle.chv_ast.specs.declared.refusal.Refusal.TheVariants.{UnknownTable}
use Rattle.chv_ast.specs.declared.statement.Select.{Select}
use Rattle.chv_ast.specs.declared.statement.Statement.{Statement}
use Rattle.chv_ast.specs.declared.refusal.Refusal.{Refusal}
use Rattle.chv_catalog.proofs.PathLemmas.{IsPath-append, target_of-append}
use Rattle.chv_catalog.proofs.SchemaLemmas.{place_of-append-Some}
use Rattle.chv_catalog.proofs.StepLemmas.{and_then-Ok}
use Rattle.chv_catalog.specs.Checks.{has_repeat}
use Rattle.chv_catalog.specs.Paths.{IsPath, end_of, link_of, links_of, target_of}
use Rattle.chv_catalog.specs.Schemas.{Catalog, no_definitions, table_names, with_definition}
use Rattle.chv_catalog.specs.declared.definition.Definition.{Definition}
use Rattle.chv_catalog.specs.declared.definition.Definition.TheVariants.{Table, View}
use Rattle.chv_catalog.specs.declared.link.Link.{Link}
use Rattle.chv_catalog.specs.declared.table_def.TableDef.{TableDef}
use Rattle.chv_catalog.specs.declared.view_def.ViewDef.{ViewDef}
use Rattle.chv_part.specs.Books.{normal_rows}
use Rattle.chv_sip.specs.BlockIds.{SourceKey, path_id, source_id}
use Rattle.chv_sip.specs.declared.block_id.BlockId.{BlockId}
use Rattle.chv_types.specs.Names.{place_of}
use Rattle.chv_types.specs.Steps.{and_then, or_refuse}
use Rattle.chv_types.specs.declared.value.Value.{Value}
use Rattle.chv_query.proofs.AcceptedLemmas.{catalog_of-push, defines_table, defines_view, with_schema, with_schema-cons, with_schema-nil}
use Rattle.chv_query.proofs.DefinitionLemmas.{IsOnce, once_named}
use Rattle.chv_query.proofs.ViewLemmas.{passed_view}
use Rattle.chv_query.specs.Accepted.{Accepted, AreAccepted, Defines, IsSchema, catalog_of}
use Rattle.chv_query.specs.Arrivals.{Arrival, Contribution, IsArrival, arrival_in, contribution_id, end_at, names_along}
use Rattle.chv_query.specs.Derived.{columns_at, def_at, derived, divides_along, divides_in, form_at, form_in, through}
use Rattle.chv_query.specs.Queries.{Asked, asked, asked_of}
use Rattle.chv_query.specs.Tables.{table_of}
use Rattle.chv_query.specs.Views.{fills, names_in}

ok_same : {A : Type 0} (x y : A) → ◌≡◌ {A = Result A Refusal} (Ok x) (Ok y) → x ≡ y
ok_same {A} x y same = cc

there_is : {A : Type 0} (found : Option A) (a : A) → or_refuse UnknownTable found ≡ Ok a → found ≡ Some a
there_is {A} None a is = absurd cc
there_is {A} (Some b) a is = cc

-- what stands at a place stands there where more follow
pub slice_get-more : {A : Type 0} (xs more : List A) (k : ℕ) (x : A) → slice_get xs k ≡ Some x → slice_get (xs ++ more) k ≡ Some x
slice_get-more {A} [] more k x is = absurd cc
slice_get-more {A} (y ∷ xs) more zero x is = is
slice_get-more {A} (y ∷ xs) more (suc k) x is = slice_get-more xs more k x is

-- what holds of all of a list holds of what stands at a place
pub All-at : {A : Type 0} (P : A → Type 0) (xs : List A) (k : ℕ) (x : A) → All P xs → slice_get xs k ≡ Some x → P x
All-at {A} P [] k x all is = absurd cc
All-at {A} P (y ∷ xs) zero x all is = let same : y ≡ x = cc in subst P same (All-head P y xs all)
All-at {A} P (y ∷ xs) (suc k) x all is = All-at P xs k x (All-tail P y xs all) is

-- a table keeps its number
pub def_at-more : (definition : Definition) (catalog : Catalog) (table : ℕ) (def : TableDef) → def_at catalog table ≡ Some def → def_at (with_definition definition catalog) table ≡ Some def
def_at-more (Table new) catalog table def is = slice_get-more catalog.tables (new ∷ []) (table - 1) def is
def_at-more (View new) catalog table def is = is

-- a view keeps its number
pub view_at-more : (definition : Definition) (catalog : Catalog) (view : ℕ) (def : ViewDef) → slice_get catalog.views view ≡ Some def → slice_get (with_definition definition catalog).views view ≡ Some def
view_at-more (Table new) catalog view def is = is
view_at-more (View new) catalog view def is = slice_get-more catalog.views (new ∷ []) view def is

-- a table that is found stands at its number
pub found_stands : (catalog : Catalog) (name : List ℕ) (found : ℕ × TableDef) → table_of catalog name ≡ Ok found → (1 ≤ found.0) × (def_at catalog found.0 ≡ Some found.1)
found_stands catalog name found is =
    let tables = catalog.tables in
    let place = and_then-Ok (or_refuse UnknownTable (place_of name (table_names tables))) (λ p. and_then (or_refuse UnknownTable (slice_get tables p)) (λ def. Ok (p + 1, def))) found is in
    let there = and_then-Ok (or_refuse UnknownTable (slice_get tables place.0)) (λ def. Ok (place.0 + 1, def)) found place.2 in
    let same : (place.0 + 1, there.0) ≡ found = ok_same (place.0 + 1, there.0) found there.2 in
    let before : place.0 + 1 - 1 ≡ place.0 = omega arith in
    subst (λ (f : ℕ × TableDef). (1 ≤ f.0) × (slice_get tables (f.0 - 1) ≡ Some f.1)) same
    (omega arith, ap (slice_get tables) before ∙ there_is (slice_get tables place.0) there.0 there.1)

-- a table that is found is found where more are defined
pub table_of-more : (definition : Definition) (catalog : Catalog) (name : List ℕ) (found : ℕ × TableDef) → table_of catalog name ≡ Ok found → table_of (with_definition definition catalog) name ≡ Ok found
table_of-more (View new) catalog name found is = is
table_of-more (Table new) catalog name found is =
    let tables = catalog.tables in
    let place = and_then-Ok (or_refuse UnknownTable (place_of name (table_names tables))) (λ p. and_then (or_refuse UnknownTable (slice_get tables p)) (λ def. Ok (p + 1, def))) found is in
    let there = and_then-Ok (or_refuse UnknownTable (slice_get tables place.0)) (λ def. Ok (place.0 + 1, def)) found place.2 in
    let named = place_of-append-Some name tables new place.0 (there_is (place_of name (table_names tables)) place.0 place.1) in
    let stands = slice_get-more tables (new ∷ []) place.0 there.0 (there_is (slice_get tables place.0) there.0 there.1) in
    rw (named, stands) there.2

-- what is asked is asked where more is defined
pub asked-more : (definition : Definition) (catalog : Catalog) (select : Select) (query : Asked) → asked catalog select ≡ Ok query → asked (with_definition definition catalog) select ≡ Ok query
unfolding asked
asked-more definition catalog select query is =
    let found = and_then-Ok (table_of catalog select.table) (λ f. asked_of f.0 f.1 select) query is in
    rw (table_of-more definition catalog select.table found.0 found.1) found.2

-- a view of a catalog: its tables stand, what it asks is not refused, and its output columns may fill those of its target
pub record IsViewIn (catalog : Catalog) (view : ViewDef) : Type 0 where
  pub source : TableDef
  pub source_numbered : 1 ≤ view.source
  pub reads : def_at catalog view.source ≡ Some source
  pub target : TableDef
  pub target_numbered : 1 ≤ view.target
  pub writes : def_at catalog view.target ≡ Some target
  pub query : Asked
  pub asks : asked catalog view.select ≡ Ok query
  pub asks_of : asked_of view.source source view.select ≡ Ok query
  pub fit : list_any (λ column. not (fills target.columns column)) query.columns ≡ false
  pub once : has_repeat (names_in target.columns) ≡ false

pub IsViewIn-more : (definition : Definition) (catalog : Catalog) (view : ViewDef) → IsViewIn catalog view → IsViewIn (with_definition definition catalog) view
IsViewIn-more definition catalog view is = record {
  source = is.source;
  source_numbered = is.source_numbered;
  reads = def_at-more definition catalog view.source is.source is.reads;
  target = is.target;
  target_numbered = is.target_numbered;
  writes = def_at-more definition catalog view.target is.target is.writes;
  query = is.query;
  asks = asked-more definition catalog view.select is.query is.asks;
  asks_of = is.asks_of;
  fit = is.fit;
  once = is.once;
}

-- what is asked of the table that a name stands for
asked-at : (catalog : Catalog) (select : Select) (found : ℕ × TableDef) (query : Asked) → table_of catalog select.table ≡ Ok found → asked_of found.0 found.1 select ≡ Ok query → asked catalog select ≡ Ok query
unfolding asked
asked-at catalog select found query is asks = rw is asks

-- a view that is defined is one of its catalog, where no table has a column's name twice
new_view : (catalog : Catalog) (accepted : Accepted) (def : ViewDef) → All IsOnce catalog.tables → Defines catalog accepted.statement (View def) → IsViewIn catalog def
new_view catalog accepted def once defines =
    let view = defines_view catalog accepted.statement def defines in
    let made = view.made in
    let checks = passed_view catalog made def view.defines in
    let source = found_stands catalog made.select.table checks.source checks.source_is in
    let target = found_stands catalog made.target checks.target checks.target_is in
    subst (IsViewIn catalog) checks.is
    (record {
      source = checks.source.1;
      source_numbered = source.0;
      reads = source.1;
      target = checks.target.1;
      target_numbered = target.0;
      writes = target.1;
      query = checks.query;
      asks = asked-at catalog made.select checks.source checks.query checks.source_is checks.query_is;
      asks_of = checks.query_is;
      fit = checks.fit;
      once = All-at IsOnce catalog.tables (checks.target.0 - 1) checks.target.1 once target.1;
    })

-- each view of a catalog is one with a definition more
views-more : (definition : Definition) (catalog : Catalog) (accepted : Accepted) → definition ≡ accepted.definition → Defines catalog accepted.statement definition → All IsOnce catalog.tables → All (IsViewIn catalog) catalog.views
    → All (IsViewIn (with_definition definition catalog)) (with_definition definition catalog).views
views-more (Table new) catalog accepted is defines once all = All-weaker (IsViewIn catalog) (IsViewIn (with_definition (Table new) catalog)) (λ view of. IsViewIn-more (Table new) catalog view of) catalog.views all
views-more (View new) catalog accepted is defines once all =
    let Of = IsViewIn (with_definition (View new) catalog) in
    All-append Of catalog.views (new ∷ [])
    (All-weaker (IsViewIn catalog) Of (λ view of. IsViewIn-more (View new) catalog view of) catalog.views all)
    (All-cons Of new [] (IsViewIn-more (View new) catalog new (new_view catalog accepted new once defines)) (All-nil Of))

-- so is no name of a column of a table that is defined
once-more : (definition : Definition) (catalog : Catalog) (s : Statement) → Defines catalog s definition → All IsOnce catalog.tables → All IsOnce (with_definition definition catalog).tables
once-more (View new) catalog s defines once = once
once-more (Table new) catalog s defines once =
    let table = defines_table catalog s new defines in
    All-append IsOnce catalog.tables (new ∷ []) once (All-cons IsOnce new [] (once_named catalog table.made new table.defines) (All-nil IsOnce))

views_behind : (catalog : Catalog) (schema : List Accepted) → AreAccepted catalog schema → All IsOnce catalog.tables → All (IsViewIn catalog) catalog.views
    → All (IsViewIn (with_schema catalog schema)) (with_schema catalog schema).views
views_behind catalog [] are once all = subst (λ (c : Catalog). All (IsViewIn c) c.views) (sym (with_schema-nil catalog)) all
views_behind catalog (accepted ∷ schema) are once all =
    subst (λ (c : Catalog). All (IsViewIn c) c.views) (with_schema-cons catalog accepted.definition schema)
    (views_behind (with_definition accepted.definition catalog) schema are.1 (once-more accepted.definition catalog accepted.statement are.0.defines once)
    (views-more accepted.definition catalog accepted refl are.0.defines once all))

-- each view of a schema is one of its catalog
pub schema-views : (schema : List Accepted) → IsSchema schema → All (IsViewIn (catalog_of schema)) (catalog_of schema).views
schema-views schema is = views_behind no_definitions schema is (All-nil IsOnce) (All-nil (IsViewIn no_definitions))

-- a view at a place of the links
pub record IsLinked (catalog : Catalog) (view : ℕ) (link : Link) : Type 0 where
  pub def : ViewDef
  pub at : slice_get catalog.views view ≡ Some def
  pub is : link_of def ≡ link

linked_by : (def : Option ViewDef) (link : Link) → option_map link_of def ≡ Some link → (found : ViewDef) × (def ≡ Some found) × (link_of found ≡ link)
linked_by None link is = absurd cc
linked_by (Some found) link is = (found, refl, cc)

pub linked : (catalog : Catalog) (view : ℕ) (link : Link) → slice_get (links_of catalog.views) view ≡ Some link → IsLinked catalog view link
linked catalog view link at =
    let found = linked_by (slice_get catalog.views view) link (sym (slice_get-map link_of catalog.views view) ∙ at) in
    record { def = found.0; at = found.1; is = found.2 }

-- the links of a catalog with a definition more
pub links-more : (definition : Definition) (catalog : Catalog) → (more : List Link) × (links_of (with_definition definition catalog).views ≡ links_of catalog.views ++ more)
links-more (Table new) catalog = ([], sym (append-nil (links_of catalog.views)))
links-more (View new) catalog = (link_of new ∷ [], map-append link_of catalog.views (new ∷ []))

-- a path stays one
pub path-more : (definition : Definition) (catalog : Catalog) (table : ℕ) (path : List ℕ) → IsPath (links_of catalog.views) table path → IsPath (links_of (with_definition definition catalog).views) table path
path-more definition catalog table path is =
    let more = links-more definition catalog in
    subst (λ (links : List Link). IsPath links table path) (sym more.1) (IsPath-append (links_of catalog.views) more.0 table path is)

module _ (definition : Definition) (catalog : Catalog) (views : All (IsViewIn catalog) catalog.views) where
  abbrev after : Catalog
  after = with_definition definition catalog

  -- where a view's target stands, its columns stay
  columns-more : (table : ℕ) (def : TableDef) → def_at catalog table ≡ Some def → columns_at after table ≡ columns_at catalog table
  columns-more table def is = rw (is, def_at-more definition catalog table def is) refl

  -- a view makes the same of rows
  through-more : (view : ℕ) (link : Link) → slice_get (links_of catalog.views) view ≡ Some link → (rows : List (List Value))
      → through after (slice_get after.views view) rows ≡ through catalog (slice_get catalog.views view) rows
  through-more view link at rows =
      let there = linked catalog view link at in
      let of = All-at (IsViewIn catalog) catalog.views view there.def views there.at in
      rw (there.at, view_at-more definition catalog view there.def there.at, of.asks, asked-more definition catalog there.def.select of.query of.asks, columns-more there.def.target of.target of.writes) refl

  divides-more : (view : ℕ) (link : Link) → slice_get (links_of catalog.views) view ≡ Some link → (rows : List (List Value))
      → divides_in after (slice_get after.views view) rows ≡ divides_in catalog (slice_get catalog.views view) rows
  divides-more view link at rows =
      let there = linked catalog view link at in
      let of = All-at (IsViewIn catalog) catalog.views view there.def views there.at in
      rw (there.at, view_at-more definition catalog view there.def there.at, of.asks, asked-more definition catalog there.def.select of.query of.asks) refl

  -- the same is derived along a path
  pub derived-more : (table : ℕ) (path : List ℕ) → IsPath (links_of catalog.views) table path → (block : List (List Value)) → derived after block path ≡ derived catalog block path
  derived-more table [] is block = refl
  derived-more table (view ∷ path) is block =
      ap (λ (rows : List (List Value)). derived after rows path) (through-more view is.0 is.1 block)
      ∙ derived-more is.0.target path is.3 (through catalog (slice_get catalog.views view) block)

  -- the same views on it divide by zero
  pub divides_along-more : (table : ℕ) (path : List ℕ) → IsPath (links_of catalog.views) table path → (block : List (List Value)) → divides_along after block path ≡ divides_along catalog block path
  divides_along-more table [] is block = refl
  divides_along-more table (view ∷ path) is block =
      ap₂ (λ (a b : Bool). a || b) (divides-more view is.0 is.1 block)
      (ap (λ (rows : List (List Value)). divides_along after rows path) (through-more view is.0 is.1 block)
      ∙ divides_along-more is.0.target path is.3 (through catalog (slice_get catalog.views view) block))

  -- its views have the same names
  names-more : (table : ℕ) (path : List ℕ) → IsPath (links_of catalog.views) table path → names_along after path ≡ names_along catalog path
  names-more table [] is = refl
  names-more table (view ∷ path) is =
      let there = linked catalog view is.0 is.1 in
      rw (there.at, view_at-more definition catalog view there.def there.at, names-more is.0.target path is.3) refl

  -- the same id goes with it
  pub id-more : (source : SourceKey) (table : ℕ) (path : List ℕ) → IsPath (links_of catalog.views) table path → contribution_id after source path ≡ contribution_id catalog source path
  id-more source table [] is = refl
  id-more source table (view ∷ path) is = ap (path_id (source_id source)) (names-more table (view ∷ path) is)

  -- it ends at the same table
  pub end-more : (table : ℕ) (path : List ℕ) → IsPath (links_of catalog.views) table path → end_at after table path ≡ end_at catalog table path
  end-more table [] is = refl
  end-more table (view ∷ path) is =
      let more = links-more definition catalog in
      let links = links_of catalog.views in
      let same : target_of (links_of after.views) view ≡ target_of links view =
      ap (λ (l : List Link). target_of l view) more.1 ∙ target_of-append links more.0 view (slice_get_within links view is.0 is.1) in
      let next : target_of links view ≡ is.0.target = rw is.1 refl in
      ap (λ (t : ℕ). end_of (links_of after.views) t path) (same ∙ next) ∙ end-more is.0.target path is.3 ∙ ap (λ (t : ℕ). end_of links t path) (sym next)

  -- the table at which a path ends stands
  pub end_stands : (table : ℕ) (def : TableDef) (path : List ℕ) → 1 ≤ table → def_at catalog table ≡ Some def → IsPath (links_of catalog.views) table path
      → (end : TableDef) × (1 ≤ end_at catalog table path) × (def_at catalog (end_at catalog table path) ≡ Some end)
  end_stands table def [] numbered stands is = (def, numbered, stands)
  end_stands table def (view ∷ path) numbered stands is =
      let there = linked catalog view is.0 is.1 in
      let of = All-at (IsViewIn catalog) catalog.views view there.def views there.at in
      let filled : there.def.target ≡ is.0.target = ap (λ (l : Link). l.target) there.is in
      let next : target_of (links_of catalog.views) view ≡ is.0.target = rw is.1 refl in
      let ended = end_stands is.0.target of.target path (subst (λ (t : ℕ). 1 ≤ t) filled of.target_numbered) (ap (def_at catalog) (sym filled) ∙ of.writes) is.3 in
      subst (λ (t : ℕ). (end : TableDef) × (1 ≤ end_of (links_of catalog.views) t path) × (def_at catalog (end_of (links_of catalog.views) t path) ≡ Some end)) (sym next) ended

  -- a block arrives as before
  arrival-same : (contribution : Contribution) (block : List (List Value)) (origin : TableDef) → 1 ≤ contribution.origin → def_at catalog contribution.origin ≡ Some origin
      → IsPath (links_of catalog.views) contribution.origin contribution.path → arrival_in after contribution block ≡ arrival_in catalog contribution block
  arrival-same contribution block origin numbered stands leads =
      let table = contribution.origin in
      let path = contribution.path in
      let end = end_stands table origin path numbered stands leads in
      let form : form_at after (end_at after table path) ≡ form_at catalog (end_at catalog table path) =
      ap (form_at after) (end-more table path leads) ∙ ap form_in (def_at-more definition catalog (end_at catalog table path) end.0 end.2 ∙ sym end.2) in
      ap₂ (λ (id : BlockId) (rows : List (List Value)). record { contribution = contribution; block = block; id = id; rows = rows })
      (id-more contribution.source table path leads)
      (ap₂ normal_rows form (derived-more table path leads block))

  -- an arrival stays one
  pub arrival-more : (table : ℕ) (a : Arrival) → IsArrival catalog table a → IsArrival after table a
  arrival-more table a is = record {
    origin = is.origin;
    numbered = is.numbered;
    stands = def_at-more definition catalog a.contribution.origin is.origin is.stands;
    leads = path-more definition catalog a.contribution.origin a.contribution.path is.leads;
    ends = end-more a.contribution.origin a.contribution.path is.leads ∙ is.ends;
    kinds_fit = is.kinds_fit;
    some = is.some;
    most = is.most;
    small = is.small;
    named = is.named;
    sound = divides_along-more a.contribution.origin a.contribution.path is.leads a.block ∙ is.sound;
    reaches = subst (λ (rows : List (List Value)). 1 ≤ length rows) (sym (derived-more a.contribution.origin a.contribution.path is.leads a.block)) is.reaches;
    is = is.is ∙ sym (arrival-same a.contribution a.block is.origin is.numbered is.stands is.leads);
  }

-- the schema in front of its last statement is one
pub IsSchema-front : (schema : List Accepted) (accepted : Accepted) (catalog : Catalog) → AreAccepted catalog (schema ++ accepted ∷ []) → AreAccepted catalog schema
IsSchema-front [] accepted catalog are = tt
IsSchema-front (first ∷ schema) accepted catalog are = (are.0, IsSchema-front schema accepted (with_definition first.definition catalog) are.1)

-- an arrival stays one where a statement is accepted
pub IsArrival-more : (schema : List Accepted) (accepted : Accepted) → IsSchema (schema ++ accepted ∷ []) → (table : ℕ) (a : Arrival) → IsArrival (catalog_of schema) table a
    → IsArrival (catalog_of (schema ++ accepted ∷ [])) table a
IsArrival-more schema accepted lawful table a is =
    subst (λ (c : Catalog). IsArrival c table a) (sym (catalog_of-push schema accepted))
    (arrival-more accepted.definition (catalog_of schema) (schema-views schema (IsSchema-front schema accepted no_definitions lawful)) table a is)
