-- The views of a catalog that a schema defines, and the same views bound.
use Rattle.std.proofs.Common.{◌≡◌, ◌∙◌, ◌≤◌, ◌<◌, ◌-◌, ◌&&◌, ℕ, Bool, nat_lt, zero, suc, List, [], ◌∷◌, ◌++◌, length, Option, None, Some, Result, Ok, Err, slice_get, option_map, ◌^◌, refl, sym, ap, subst, arith}
use Rattle.std.specs.List.{All, list_all}
use Rattle.std.proofs.lemmas.Bool.{and_parts, ltb-true}
use Rattle.std.proofs.lemmas.List.Elements.{All-append, All-cons, All-head, All-nil, All-tail, All-weaker}
use Rattle.std.proofs.lemmas.Option.{slice_get-map, slice_get_within}
use Rattle.chv_ast.specs.Formed.{WellFormed}
use Rattle.chv_ast.specs.Words.{IsName, begins_word, is_word_byte, is_word_text}
use Rattle.chv_ast.specs.declared.refusal.Refusal.{Refusal}
use Rattle.chv_ast.specs.declared.statement.Select.{Select}
use Rattle.chv_ast.specs.declared.statement.Statement.{Statement}
use Rattle.chv_block.proofs.FitLemmas.{rows_fit}
use Rattle.chv_agg.specs.Sets.{SetsWithin}
use Rattle.chv_block.specs.Spellings.{AllAreOf}
use Rattle.chv_catalog.proofs.StepLemmas.{and_then-Ok}
use Rattle.chv_catalog.specs.Paths.{link_of, links_of, target_of}
use Rattle.chv_catalog.specs.Schemas.{Catalog, kinds_of, no_definitions, with_definition}
use Rattle.chv_catalog.specs.declared.definition.Definition.{Definition}
use Rattle.chv_catalog.specs.declared.definition.Definition.TheVariants.{Table, View}
use Rattle.chv_catalog.specs.declared.fault.StatementFault.{StatementFault}
use Rattle.chv_catalog.specs.declared.fault.StatementFault.TheVariants.{NoMemory, Refused}
use Rattle.chv_catalog.specs.declared.table_def.TableDef.{TableDef}
use Rattle.chv_catalog.specs.declared.view_def.ViewDef.{ViewDef}
use Rattle.chv_query.proofs.AcceptedLemmas.{defines_view}
use Rattle.chv_query.proofs.AptLemmas.{IsAptTable, schema-apt}
use Rattle.chv_query.proofs.EntryLemmas.{AreRowsOf, through-fits}
use Rattle.chv_query.proofs.GrowthLemmas.{All-at, IsViewIn, schema-views}
use Rattle.chv_query.proofs.ViewLemmas.{passed_view}
use Rattle.chv_query.specs.Accepted.{Accepted, AreAccepted, Defines, IsCatalog, views_in, views_of}
use Rattle.chv_query.specs.Arrivals.{names_along}
use Rattle.chv_query.specs.Bound.{AnswersAs, TakesRow}
use Rattle.chv_query.specs.Derived.{columns_at, def_at, divides_in, form_at, form_in, through, viewed}
use Rattle.chv_query.specs.Outputs.{filter_of}
use Rattle.chv_query.specs.Queries.{Asked, asked, asked_of, divides, limit_of, sorts_of}
use Rattle.chv_query.specs.Shapes.{shape_of}
use Rattle.chv_types.specs.Fits.{FitAll}
use Rattle.chv_types.specs.declared.kind.Kind.{Kind}
use Rattle.chv_types.specs.declared.value.Value.{Value}
use Rattle.chv_plan.specs.Below.{IsBlockOf}
use Rattle.chv_plan.specs.Bound.{IsBound}
use Rattle.chv_plan.specs.declared.views.BoundView.{BoundView}

-- the views of a catalog
pub view_in : (catalog : Catalog) → IsCatalog catalog → (view : ℕ) (def : ViewDef) → slice_get catalog.views view ≡ Some def → IsViewIn catalog def
view_in catalog is view def at =
    let all : All (IsViewIn catalog) catalog.views = subst (λ (c : Catalog). All (IsViewIn c) c.views) is.2 (schema-views is.0 is.1) in
    All-at (IsViewIn catalog) catalog.views view def all at

-- the table of a number that stands is one of so many
pub table_within : (catalog : Catalog) (table : ℕ) (def : TableDef) → 1 ≤ table → def_at catalog table ≡ Some def → table ≤ length catalog.tables
table_within catalog table def numbered stands =
    let within = slice_get_within catalog.tables (table - 1) def stands in
    omega (arith, within, numbered)

-- there is something at each place
pub some_there : {A : Type 0} (xs : List A) (i : ℕ) → i < length xs → (x : A) × (slice_get xs i ≡ Some x)
some_there {A} [] i within = absurd (omega arith)
some_there {A} (x ∷ xs) zero within = (x, refl)
some_there {A} (x ∷ xs) (suc i) within = some_there xs i (omega arith)

-- what is asked is not refused where it is something
pub not_refused : {A B : Type 0} (Is : A → B → Type 0) (outcome : Result B Refusal) (query : B) (fault : StatementFault) → outcome ≡ Ok query → AnswersAs Is outcome (Err fault) → fault ≡ NoMemory
not_refused {A} {B} Is outcome query NoMemory is answers = refl
not_refused {A} {B} Is outcome query (Refused refusal) is answers = absurd cc

-- the names of a path with a view more
pub names-more : (catalog : Catalog) (path : List ℕ) (view : ℕ) (def : ViewDef) → slice_get catalog.views view ≡ Some def → names_along catalog (path ++ view ∷ []) ≡ names_along catalog path ++ def.name ∷ []
names-more catalog [] view def at = rw at refl
names-more catalog (first ∷ path) view def at = by (slice_get catalog.views first) refl (names-more catalog path view def at)
  where
    by : (found : Option ViewDef) → slice_get catalog.views first ≡ found → names_along catalog (path ++ view ∷ []) ≡ names_along catalog path ++ def.name ∷ []
        → names_along catalog (first ∷ (path ++ view ∷ [])) ≡ names_along catalog (first ∷ path) ++ def.name ∷ []
    by None e rest = rw e rest
    by (Some other) e rest = rw e (ap (λ (names : List (List ℕ)). other.name ∷ names) rest)

-- a path has as many names as views
pub names-length : (catalog : Catalog) (path : List ℕ) → All (λ view. view < length catalog.views) path → length (names_along catalog path) ≡ length path
names-length catalog [] there = refl
names-length catalog (view ∷ path) there =
    let Within = λ (v : ℕ). v < length catalog.views in
    let found = some_there catalog.views view (All-head Within view path there) in
    rw found.1 (ap suc (names-length catalog path (All-tail Within view path there)))

-- a view has a short name
abbrev IsShort : ViewDef → Type 0
IsShort view = length view.name ≤ 64

short_name : (name : List ℕ) → IsName name → length name ≤ 64
unfolding is_word_text
short_name [] is = omega arith
short_name (byte ∷ name) is =
    let parts = and_parts (begins_word byte) (list_all is_word_byte name && nat_lt (length name) 64) is in
    let rest = and_parts (list_all is_word_byte name) (nat_lt (length name) 64) parts.1 in
    let few : length name < 64 = ltb-true (length name) 64 rest.1 in
    omega (arith, few)

short_views : (catalog : Catalog) (s : Statement) (definition : Definition) → Defines catalog s definition → WellFormed s → All IsShort (views_in definition)
short_views catalog s (Table def) defines formed = All-nil IsShort
short_views catalog s (View def) defines formed =
    let view = defines_view catalog s def defines in
    let made = view.made in
    let named : IsName made.name = (subst WellFormed view.is formed).0 in
    let same = (passed_view catalog made def view.defines).is in
    All-cons IsShort def [] (subst IsShort same (short_name made.name named)) (All-nil IsShort)

all_short : (catalog : Catalog) (schema : List Accepted) → AreAccepted catalog schema → All IsShort (views_of schema)
all_short catalog [] are = All-nil IsShort
all_short catalog (accepted ∷ schema) are =
    All-append IsShort (views_in accepted.definition) (views_of schema)
    (short_views catalog accepted.statement accepted.definition are.0.defines are.0.formed)
    (all_short (with_definition accepted.definition catalog) schema are.1)

pub view_short : (catalog : Catalog) → IsCatalog catalog → (view : ℕ) (def : ViewDef) → slice_get catalog.views view ≡ Some def → length def.name ≤ 64
view_short catalog is view def at =
    let all : All IsShort catalog.views = subst (λ (c : Catalog). All IsShort c.views) is.2 (all_short no_definitions is.0 is.1) in
    All-at IsShort catalog.views view def all at

-- what a view makes of a block of its source is one of its target
pub derived_block : (catalog : Catalog) → IsCatalog catalog → (view : ℕ) (def : ViewDef) (rows : List (List Value)) → slice_get catalog.views view ≡ Some def → IsBlockOf (form_at catalog def.source) rows
    → IsBlockOf (form_at catalog def.target) (through catalog (Some def) rows)
derived_block catalog is view def rows at block =
    let in_it = view_in catalog is view def at in
    let views : All (IsViewIn catalog) catalog.views = subst (λ (c : Catalog). All (IsViewIn c) c.views) is.2 (schema-views is.0 is.1) in
    let apt : All IsAptTable catalog.tables = subst (λ (c : Catalog). All IsAptTable c.tables) is.2 (schema-apt is.0 is.1) in
    let linked : slice_get (links_of catalog.views) view ≡ Some (link_of def) = slice_get-map link_of catalog.views view ∙ ap (option_map link_of) at in
    let kinds : (form_at catalog def.source).kinds ≡ kinds_of in_it.source = ap (λ found. (form_in found).kinds) in_it.reads in
    let from : AreRowsOf in_it.source rows =
    record {
      kinds_fit = subst (λ (k : List Kind). AllAreOf k rows) kinds block.kinds_fit;
      most = block.few;
      sets = subst (λ (k : List Kind). SetsWithin (2 ^ 40) k rows) kinds block.sets;
    } in
    let made = through-fits catalog views apt view (link_of def) in_it.source linked in_it.reads rows from in
    let after : kinds_of made.0 ≡ (form_at catalog def.target).kinds = sym (ap (λ found. (form_in found).kinds) made.1) in
    let here : IsBlockOf (form_at catalog def.target) (through catalog (slice_get catalog.views view) rows) =
    record {
      kinds_fit = subst (λ (k : List Kind). AllAreOf k (through catalog (slice_get catalog.views view) rows)) after made.2.kinds_fit;
      few = made.2.most;
      sets = subst (λ (k : List Kind). SetsWithin (2 ^ 40) k (through catalog (slice_get catalog.views view) rows)) after made.2.sets;
    } in
    subst (λ (v : Option ViewDef). IsBlockOf (form_at catalog def.target) (through catalog v rows)) at here

-- no items are none
pub none_left : {A : Type 0} (xs : List A) → length xs ≡ 0 → xs ≡ []
none_left {A} [] none = refl
none_left {A} (x ∷ xs) none = absurd (omega (arith, none))

-- what one step answers
ok_same : {A : Type 0} (x y : A) → ◌≡◌ {A = Result A Refusal} (Ok x) (Ok y) → x ≡ y
ok_same {A} x y same = cc

-- what is asked of a table has its definition
asked_of-def : (table : ℕ) (def : TableDef) (select : Select) (query : Asked) → asked_of table def select ≡ Ok query → query.def ≡ def
asked_of-def table def select query is =
    let filter = and_then-Ok (filter_of def.columns select.filter) _ query is in
    let shape = and_then-Ok (shape_of def.columns select) _ query filter.2 in
    let order = and_then-Ok (sorts_of shape.0.columns select.order) _ query shape.2 in
    let limit = and_then-Ok (limit_of select.limit) _ query order.2 in
    cc limit.2

module _ (catalog : Catalog) (is : IsCatalog catalog) (view : ℕ) (def : ViewDef) (at : slice_get catalog.views view ≡ Some def) where
  -- a view fills the table of its link
  pub target_is : target_of (links_of catalog.views) view ≡ def.target
  target_is = rw (slice_get-map link_of catalog.views view, at) refl

  -- what a view makes of a block of its source is one of its target
  pub made_block : (rows made : List (List Value)) → IsBlockOf (form_at catalog def.source) rows → made ≡ through catalog (slice_get catalog.views view) rows → IsBlockOf (form_at catalog def.target) made
  made_block rows made block h =
      subst (IsBlockOf (form_at catalog def.target)) (sym (h ∙ ap (λ (v : Option ViewDef). through catalog v rows) at))
      (derived_block catalog is view def rows at block)

  module _ (bound : BoundView) (of : IsBound catalog def bound) where
    -- a bound view takes rows of its source
    pub takes_source : (rows : List (List Value)) → IsBlockOf (form_at catalog def.source) rows → All (TakesRow bound.query.query) rows
    takes_source rows block =
        let in_it = view_in catalog is view def at in
        let same : in_it.query ≡ of.query = same_asked in_it.query in_it.asks in
        let source : of.query.def ≡ in_it.source = asked_of-def def.source in_it.source def.select of.query (in_it.asks_of ∙ ap Ok same) in
        let kinds : (form_at catalog def.source).kinds ≡ kinds_of of.query.def = ap (λ found. (form_in found).kinds) in_it.reads ∙ ap kinds_of (sym source) in
        All-weaker (FitAll (kinds_of of.query.def)) (TakesRow bound.query.query) of.is.asks.takes rows
        (rows_fit (kinds_of of.query.def) rows (subst (λ (k : List Kind). AllAreOf k rows) kinds block.kinds_fit))
      where
        same_asked : (query : Asked) → asked catalog def.select ≡ Ok query → query ≡ of.query
        same_asked query asks = ok_same query of.query (sym asks ∙ of.asks)

    -- it makes what the view makes
    pub makes : (rows made : List (List Value)) → made ≡ viewed of.query (columns_at catalog def.target) rows → made ≡ through catalog (slice_get catalog.views view) rows
    makes rows made h = h ∙ rw (at, of.asks) refl

    -- and divides by zero where it does
    pub divides_so : (rows : List (List Value)) (b : Bool) → divides of.query rows ≡ b → divides_in catalog (slice_get catalog.views view) rows ≡ b
    divides_so rows b h = rw (at, of.asks) h
