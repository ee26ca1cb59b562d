-- Which table a name names, and that what is planned, or asked, is for one that stands.
use Rattle.std.proofs.Common.{◌≡◌, ℕ, zero, suc, ◌+◌, ◌-◌, ◌<◌, ◌≤◌, List, [], ◌∷◌, length, Bool, true, false, Option, None, Some, Ok, Err, IfOk, slice_get, option_map, refl, sym, ap, ap₂, subst, ◌∙◌, arith}
use Rattle.std.specs.Prelude.{Result, nat_lt}
use Rattle.std.specs.List.{All, list_any}
use Rattle.std.proofs.lemmas.List.{length-append}
use Rattle.std.proofs.lemmas.List.Elements.{All-append, All-cons, All-filter, All-map, All-nil, All-weaker}
use Rattle.std.proofs.lemmas.Option.{slice_get_within}
use Rattle.chv_ast.specs.declared.refusal.Refusal.{Refusal}
use Rattle.chv_ast.specs.declared.refusal.Refusal.TheVariants.{UnknownTable, UnknownColumn, NameTaken, TypeMismatch, DivisionByZero, LimitPassed}
use Rattle.chv_ast.specs.declared.statement.Insert.{Insert}
use Rattle.chv_ast.specs.declared.statement.Select.{Select}
use Rattle.chv_ast.specs.declared.statement.Statement.{Statement}
use Rattle.chv_block.specs.Blocks.{blocks_of}
use Rattle.chv_block.specs.declared.squasher.Sizes.{Sizes}
use Rattle.chv_catalog.specs.Checks.{has_repeat, is_unknown, is_state, places_of}
use Rattle.chv_catalog.specs.Paths.{IsPath, MAX_PATH, end_of, links_of, paths_from, target_of}
use Rattle.chv_catalog.specs.Walks.{IsPathWithin}
use Rattle.chv_catalog.specs.Schemas.{Catalog, columns_of, kinds_of, table_names, with_definition}
use Rattle.chv_catalog.specs.declared.definition.Definition.{Definition}
use Rattle.chv_catalog.specs.declared.definition.Definition.TheVariants.{Table, View}
use Rattle.chv_catalog.specs.declared.link.Link.{Link}
use Rattle.chv_catalog.specs.declared.table_def.TableDef.{TableDef}
use Rattle.chv_catalog.specs.declared.view_def.ViewDef.{ViewDef}
use Rattle.chv_catalog.proofs.PathLemmas.{paths_from-are}
use Rattle.chv_catalog.proofs.SchemaLemmas.{place_of-within, length-table_names}
use Rattle.chv_part.specs.Books.{MAX_ROWS}
use Rattle.chv_query.specs.Accepted.{Accepted, Defines, IsSchema, catalog_of}
use Rattle.chv_query.specs.Arrivals.{end_at}
use Rattle.chv_query.specs.Outputs.{filter_of}
use Rattle.chv_query.specs.Plans.{Delivery, block_deliveries, deliveries_for, deliveries_of, delivery_along, divides_below, filled_names, is_long, kinds_at, paths_for, planned, planned_for, rows_for, sized_rows, sizes_for, source_of}
use Rattle.chv_query.specs.Queries.{Asked, asked, asked_of, limit_of, sorts_of}
use Rattle.chv_query.specs.Shapes.{shape_of}
use Rattle.chv_query.specs.Tables.{table_of}
use Rattle.chv_query.proofs.AcceptedLemmas.{defines_view}
use Rattle.chv_query.proofs.GrowthLemmas.{All-at, IsViewIn, linked, schema-views}
use Rattle.chv_query.proofs.ViewLemmas.{passed_view}
use Rattle.chv_sip.specs.BlockIds.{SourceKey}
use Rattle.chv_types.specs.Names.{place_of}
use Rattle.chv_types.specs.Steps.{refuse_if, and_then}
use Rattle.chv_types.specs.declared.value.Value.{Value}

-- the table of a name, by its number
pub record IsNamed (catalog : Catalog) (name : List ℕ) (number : ℕ) : Type 0 where
  pub def : TableDef
  pub stands : slice_get catalog.tables (number - 1) ≡ Some def
  pub is : table_of catalog name ≡ Ok (number, def)
  pub first : 1 ≤ number
  pub last : number ≤ length catalog.tables

-- a table stands at each place within
pub table_at : (tables : List TableDef) (place : ℕ) → place < length tables → (def : TableDef) × (slice_get tables place ≡ Some def)
table_at [] place below = absurd (omega (arith, below))
table_at (def ∷ defs) zero below = (def, refl)
table_at (def ∷ defs) (suc place) below = table_at defs place (omega arith)

found_at : (catalog : Catalog) (name : List ℕ) (place : ℕ) (def : TableDef) → place_of name (table_names catalog.tables) ≡ Some place → slice_get catalog.tables place ≡ Some def → table_of catalog name ≡ Ok (place + 1, def)
found_at catalog name place def found stands = rw (found, stands) refl

named_at : (catalog : Catalog) (name : List ℕ) (place : ℕ) → place_of name (table_names catalog.tables) ≡ Some place → IsNamed catalog name (place + 1)
named_at catalog name place found =
    let below : place < length catalog.tables = omega (arith, place_of-within name (table_names catalog.tables) place found, length-table_names catalog.tables) in
    let at = table_at catalog.tables place below in
    let same : place + 1 - 1 ≡ place = omega arith in
    record {
      def = at.0;
      stands = rw same at.1;
      is = found_at catalog name place at.0 found at.1;
      first = omega arith;
      last = omega (arith, below);
    }

named_by : (catalog : Catalog) (name : List ℕ) (number : ℕ) (place : Option ℕ) → place_of name (table_names catalog.tables) ≡ place → option_map (λ p. p + 1) place ≡ Some number → IsNamed catalog name number
named_by catalog name number None found is = absurd (cc is)
named_by catalog name number (Some place) found is = let same : place + 1 ≡ number = cc in subst (IsNamed catalog name) same (named_at catalog name place found)

-- a name that is found is that of a table
pub table_of-known : (catalog : Catalog) (name : List ℕ) (number : ℕ) → option_map (λ place. place + 1) (place_of name (table_names catalog.tables)) ≡ Some number → IsNamed catalog name number
table_of-known catalog name number is = named_by catalog name number (place_of name (table_names catalog.tables)) refl is

unnamed_by : (catalog : Catalog) (name : List ℕ) (place : Option ℕ) → place_of name (table_names catalog.tables) ≡ place → option_map (λ p. p + 1) place ≡ None → table_of catalog name ≡ Err UnknownTable
unnamed_by catalog name None found is = rw found refl
unnamed_by catalog name (Some place) found is = absurd (cc is)

-- and one that is not, is of none
pub table_of-none : (catalog : Catalog) (name : List ℕ) → option_map (λ place. place + 1) (place_of name (table_names catalog.tables)) ≡ None → table_of catalog name ≡ Err UnknownTable
table_of-none catalog name is = unnamed_by catalog name (place_of name (table_names catalog.tables)) refl is

-- one table is found
pub one_found : (p q : ℕ × TableDef) → ◌≡◌ {A = Result (ℕ × TableDef) Refusal} (Ok p) (Ok q) → p ≡ q
one_found p q same = cc

-- what is found of a name: the number and the definition of a table that stands
pub record IsFound (catalog : Catalog) (name : List ℕ) (found : ℕ × TableDef) : Type 0 where
  pub first : 1 ≤ found.0
  pub last : found.0 ≤ length catalog.tables
  pub stands : slice_get catalog.tables (found.0 - 1) ≡ Some found.1
  pub is : table_of catalog name ≡ Ok found

found_by : (catalog : Catalog) (name : List ℕ) (found : ℕ × TableDef) (place : Option ℕ) → place_of name (table_names catalog.tables) ≡ place → table_of catalog name ≡ Ok found → IsFound catalog name found
found_by catalog name found None at is = let none = unnamed_by catalog name None at refl in absurd (cc (none, is))
found_by catalog name found (Some place) at is =
    let named = named_at catalog name place at in
    subst (IsFound catalog name) (one_found (place + 1, named.def) found (sym named.is ∙ is))
    (record { first = named.first; last = named.last; stands = named.stands; is = named.is })

-- a table that is found stands
pub table_of-found : (catalog : Catalog) (name : List ℕ) (found : ℕ × TableDef) → table_of catalog name ≡ Ok found → IsFound catalog name found
table_of-found catalog name found is = found_by catalog name found (place_of name (table_names catalog.tables)) refl is

-- whatever a step gives, what holds of the rest holds of the whole
if_ok-rest : {A B : Type 0} (r : Result A Refusal) (rest : A → Result B Refusal) (Q : B → Type 0) → ((a : A) → IfOk (rest a) Q) → IfOk (and_then r rest) Q
if_ok-rest (Ok a) rest Q then = then a
if_ok-rest (Err refusal) rest Q then = tt

-- a query is asked of this table
abbrev IsOf : ℕ → TableDef → Asked → Type 0
IsOf table def query = (query.table ≡ table) × (query.def ≡ def)

asked_of-table : (table : ℕ) (def : TableDef) (select : Select) → IfOk (asked_of table def select) (IsOf table def)
asked_of-table table def select =
    if_ok-rest (filter_of def.columns select.filter) _ (IsOf table def)
    (λ filter. if_ok-rest (shape_of def.columns select) _ (IsOf table def)
    (λ shape. if_ok-rest (sorts_of shape.columns select.order) _ (IsOf table def)
    (λ order. if_ok-rest (limit_of select.limit) _ (IsOf table def) (λ limit. (refl, refl)))))

asked_by : (catalog : Catalog) (select : Select) (query : Asked) (found : Result (ℕ × TableDef) Refusal) → table_of catalog select.table ≡ found
    → and_then found (λ f. asked_of f.0 f.1 select) ≡ Ok query → IsFound catalog select.table (query.table, query.def)
asked_by catalog select query (Ok found) is asks =
    let same : IsOf found.0 found.1 query = subst (λ (r : Result Asked Refusal). IfOk r (IsOf found.0 found.1)) asks (asked_of-table found.0 found.1 select) in
    let pair : ◌≡◌ {A = ℕ × TableDef} found (query.table, query.def) = ap₂ (λ (table : ℕ) (def : TableDef). (table, def)) (sym same.0) (sym same.1) in
    subst (IsFound catalog select.table) pair (table_of-found catalog select.table found is)
asked_by catalog select query (Err refusal) is asks = absurd (cc asks)

-- the table of a query is the one that its name finds, and stands
pub asked_stands : (catalog : Catalog) (select : Select) (query : Asked) → asked catalog select ≡ Ok query → IsFound catalog select.table (query.table, query.def)
unfolding asked
asked_stands catalog select query asks = asked_by catalog select query (table_of catalog select.table) refl asks

-- the number of a table that stands
abbrev pub StandsIn : Catalog → ℕ → Type 0
StandsIn catalog table = (1 ≤ table) × (table ≤ length catalog.tables)

-- a delivery goes to a table that stands
abbrev pub GoesTo : Catalog → Delivery → Type 0
GoesTo catalog d = StandsIn catalog d.table

-- what passes all checks is planned
checked-plan : {A S : Type 0} (unknown twice state long many : Bool) (sizes : Result S Refusal) (rows : Result A Refusal) (plan : S → A → Result (List Delivery) Refusal) (P : List Delivery → Type 0)
    → ((s : S) (a : A) → IfOk (plan s a) P)
    → IfOk (refuse_if unknown UnknownColumn (refuse_if twice NameTaken (refuse_if state TypeMismatch (and_then sizes (λ s. refuse_if long LimitPassed (refuse_if many LimitPassed (and_then rows (plan s)))))))) P
checked-plan true twice state long many sizes rows plan P so = tt
checked-plan false true state long many sizes rows plan P so = tt
checked-plan false false true long many sizes rows plan P so = tt
checked-plan false false false long many (Err refusal) rows plan P so = tt
checked-plan false false false true many (Ok s) rows plan P so = tt
checked-plan false false false false true (Ok s) rows plan P so = tt
checked-plan false false false false false (Ok s) (Err refusal) plan P so = tt
checked-plan false false false false false (Ok s) (Ok a) plan P so = so s a

undivided : (divides : Bool) (plan : List Delivery) (P : List Delivery → Type 0) → P plan → IfOk (refuse_if divides DivisionByZero (Ok plan)) P
undivided true plan P holds = tt
undivided false plan P holds = holds

-- each view of a catalog fills a table that stands
abbrev pub AreFilling : Catalog → Type 0
AreFilling catalog = All (λ (view : ViewDef). StandsIn catalog view.target) catalog.views

-- so do the views of a schema
pub schema-filling : (schema : List Accepted) → IsSchema schema → AreFilling (catalog_of schema)
schema-filling schema lawful =
    let catalog = catalog_of schema in
    All-weaker (IsViewIn catalog) (λ (view : ViewDef). StandsIn catalog view.target)
    (λ view is. (is.target_numbered, omega (arith, is.target_numbered, slice_get_within catalog.tables (view.target - 1) is.target is.writes))) catalog.views (schema-views schema lawful)

-- and with a definition more
pub filling-more : (definition : Definition) (catalog : Catalog) (s : Statement) → Defines catalog s definition → AreFilling catalog → AreFilling (with_definition definition catalog)
filling-more (Table new) catalog s defines filling =
    All-weaker (λ (view : ViewDef). StandsIn catalog view.target) (λ (view : ViewDef). StandsIn (with_definition (Table new) catalog) view.target)
    (λ view is. (is.0, omega (arith, is.1, length-append catalog.tables (new ∷ [])))) catalog.views filling
filling-more (View new) catalog s defines filling =
    let Filling : ViewDef → Type 0 = λ view. StandsIn catalog view.target in
    let view = defines_view catalog s new defines in
    let checks = passed_view catalog view.made new view.defines in
    let target = table_of-found catalog view.made.target checks.target checks.target_is in
    All-append Filling catalog.views (new ∷ []) filling (All-cons Filling new [] (subst Filling checks.is (target.first, target.last)) (All-nil Filling))

-- where each view fills a table that stands, a path from one ends at one
ends_within : (catalog : Catalog) → AreFilling catalog → (table : ℕ) (path : List ℕ) → StandsIn catalog table → IsPath (links_of catalog.views) table path → StandsIn catalog (end_at catalog table path)
ends_within catalog filling table [] within is = within
ends_within catalog filling table (view ∷ path) within is =
    let links = links_of catalog.views in
    let there = linked catalog view is.0 is.1 in
    let filled = All-at (λ (v : ViewDef). StandsIn catalog v.target) catalog.views view there.def filling there.at in
    let same : there.def.target ≡ is.0.target = ap (λ (link : Link). link.target) there.is in
    let next : target_of links view ≡ is.0.target = rw is.1 refl in
    subst (λ (t : ℕ). StandsIn catalog (end_of links t path)) (sym next) (ends_within catalog filling is.0.target path (subst (StandsIn catalog) same filled) is.3)

-- so blocks are delivered to tables that stand
module _ (catalog : Catalog) (filling : AreFilling catalog) (table : ℕ) (def : TableDef) (within : StandsIn catalog table) where
  along : (source : SourceKey) (block : List (List Value)) (path : List ℕ) → IsPath (links_of catalog.views) table path → GoesTo catalog (delivery_along catalog table source block path)
  along source block path is = ends_within catalog filling table path within is

  block_goes : (source : SourceKey) (block : List (List Value)) → All (GoesTo catalog) (block_deliveries catalog table source block)
  block_goes source block =
      let links = links_of catalog.views in
      let Goes : List ℕ → Type 0 = λ path. GoesTo catalog (delivery_along catalog table source block path) in
      let paths = paths_from links table in
      All-map (GoesTo catalog) (delivery_along catalog table source block) (paths_for catalog table block)
      (All-cons Goes [] _ (along source block [] tt)
      (All-filter _ Goes paths (All-weaker (IsPathWithin MAX_PATH links table) Goes (λ path is. along source block path is.is_path) paths (paths_from-are links table))))

  deliveries_go : (token : Option (List ℕ)) (number : ℕ) (blocks : List (List (List Value))) → All (GoesTo catalog) (deliveries_of catalog table (kinds_of def) token number blocks)
  deliveries_go token number [] = All-nil (GoesTo catalog)
  deliveries_go token number (block ∷ blocks) =
      let source = source_of (kinds_of def) token number block in
      All-append (GoesTo catalog) (block_deliveries catalog table source block) (deliveries_of catalog table (kinds_of def) token (number + 1) blocks)
      (block_goes source block) (deliveries_go token (number + 1) blocks)

  -- so is what an insert into a table brings
  planned_for-goes : (brought : Insert) → IfOk (planned_for catalog table def brought) (All (GoesTo catalog))
  planned_for-goes brought =
      let settings = brought.settings in
      let names = filled_names (columns_of def) brought.columns in
      let places = places_of (columns_of def) names in
      let blocks : Sizes → List (List Value) → List (List (List Value)) = λ sizes written. blocks_of sizes (sized_rows (kinds_of def) written) in
      checked-plan (list_any (is_unknown (columns_of def)) names) (has_repeat names) (list_any is_state (kinds_at (kinds_of def) places)) (is_long settings.token) (nat_lt MAX_ROWS (length brought.rows)) (sizes_for settings)
      (rows_for (kinds_of def) places brought.rows) (λ sizes written. deliveries_for catalog table def settings.token (blocks sizes written)) (All (GoesTo catalog))
      (λ sizes written.
      undivided (list_any (divides_below catalog table) (blocks sizes written)) (deliveries_of catalog table (kinds_of def) settings.token 0 (blocks sizes written)) (All (GoesTo catalog))
      (deliveries_go settings.token 0 (blocks sizes written)))

goes_by : (catalog : Catalog) → AreFilling catalog → (brought : Insert) (found : Result (ℕ × TableDef) Refusal) → table_of catalog brought.table ≡ found
    → IfOk (and_then found (λ f. planned_for catalog f.0 f.1 brought)) (All (GoesTo catalog))
goes_by catalog filling brought (Ok found) is =
    let at = table_of-found catalog brought.table found is in
    planned_for-goes catalog filling found.0 found.1 (at.first, at.last) brought
goes_by catalog filling brought (Err refusal) is = tt

-- each delivery that is planned goes to a table
pub planned-within : (catalog : Catalog) → AreFilling catalog → (brought : Insert) → IfOk (planned catalog brought) (All (GoesTo catalog))
unfolding planned
planned-within catalog filling brought = goes_by catalog filling brought (table_of catalog brought.table) refl
