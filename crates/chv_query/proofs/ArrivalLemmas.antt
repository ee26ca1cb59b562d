-- What an INSERT that is planned brings are arrivals in its table.
use Rattle.std.proofs.Common.{◌≡◌, ◌≤◌, ◌<◌, ◌+◌, ◌-◌, ◌^◌, ◌||◌, ℕ, Bool, true, false, not, List, [], ◌∷◌, length, Option, None, Some, Result, Ok, nat_lt, refl, sym, subst, ◌∙◌, arith}
use Rattle.std.specs.List.{All, filter, list_any}
use Rattle.std.proofs.lemmas.Bool.{ltb-false, or_parts}
use Rattle.std.proofs.lemmas.Bool.Decides.{nat_tests}
use Rattle.std.proofs.lemmas.List.{length-map}
use Rattle.std.proofs.lemmas.List.Elements.{All-append, All-cons, All-head, All-map, All-nil, All-tail, All-weaker}
use Rattle.chv_ast.specs.declared.refusal.Refusal.TheVariants.{UnknownColumn, NameTaken, TypeMismatch, DivisionByZero, LimitPassed}
use Rattle.chv_ast.specs.declared.statement.Insert.{Insert}
use Rattle.chv_ast.specs.declared.statement.Settings.{Settings}
use Rattle.chv_ast.specs.declared.refusal.Refusal.{Refusal}
use Rattle.chv_block.specs.Blocks.{blocks_of}
use Rattle.chv_block.specs.Spellings.{AllAreOf, IsSmall}
use Rattle.chv_block.specs.declared.squasher.Sizes.{Sizes}
use Rattle.chv_catalog.proofs.PathLemmas.{paths_from-are}
use Rattle.chv_catalog.proofs.StepLemmas.{and_then-Ok, refuse_if-Ok}
use Rattle.chv_catalog.specs.Checks.{has_repeat, is_state, is_unknown, places_of}
use Rattle.chv_catalog.specs.Paths.{IsPath, MAX_PATH, links_of, paths_from}
use Rattle.chv_catalog.specs.Schemas.{Catalog, columns_of, kinds_of}
use Rattle.chv_catalog.specs.Walks.{IsPathWithin}
use Rattle.chv_catalog.specs.declared.definition.Definition.TheVariants.{Table}
use Rattle.chv_catalog.specs.declared.link.Link.{Link}
use Rattle.chv_catalog.specs.declared.table_def.TableDef.{TableDef}
use Rattle.chv_part.specs.Books.{MAX_ROWS}
use Rattle.chv_group.specs.Groups.{is_empty}
use Rattle.chv_part.specs.Naming.{Names}
use Rattle.chv_sip.specs.BlockIds.{SourceKey}
use Rattle.chv_types.specs.Steps.{and_then, or_refuse, refuse_if}
use Rattle.chv_types.specs.Texts.{whole_number}
use Rattle.chv_types.specs.declared.kind.Kind.{Kind}
use Rattle.chv_types.specs.declared.table.Column.{Column}
use Rattle.chv_types.specs.declared.value.Value.{Value}
use Rattle.chv_query.proofs.JoinLemmas.{All-blocks_of, AreBlocks-blocks_of}
use Rattle.chv_query.proofs.LiteralRowLemmas.{AreWithin, places_of-AreWithin, rows_kinds, rows_small}
use Rattle.chv_query.proofs.GrowthLemmas.{IsViewIn, end_stands, found_stands, schema-views}
use Rattle.chv_query.specs.Accepted.{Accepted, IsSchema, catalog_of}
use Rattle.chv_query.specs.Arrivals.{IsArrival}
use Rattle.chv_query.specs.Derived.{def_at, derived, divides_along}
use Rattle.chv_query.specs.Plans.{AreBlocks, Delivery, block_deliveries, deliveries_of, delivery_along, divides_below, filled_names, is_long, kinds_at, paths_for, planned, planned_for, rows_for, setting_in, sized_rows, sizes_for, source_of}
use Rattle.chv_query.specs.Tables.{table_of}

-- what one step answers
ok_same : {A : Type 0} (x y : A) → ◌≡◌ {A = Result A Refusal} (Ok x) (Ok y) → x ≡ y
ok_same {A} x y same = cc

-- a block has one row at least
some_rows : (given : Option (List ℕ)) (n : ℕ) → setting_in 1 1048576 65536 given ≡ Ok n → 1 ≤ n
some_rows None n is = let same : 65536 ≡ n = ok_same 65536 n is in subst (λ (m : ℕ). 1 ≤ m) same (omega arith)
some_rows (Some digits) n is =
    let found = and_then-Ok (or_refuse LimitPassed (whole_number digits)) (λ number. refuse_if (nat_lt number 1 || nat_lt 1048576 number) LimitPassed (Ok number)) n is in
    let checked = refuse_if-Ok (nat_lt found.0 1 || nat_lt 1048576 found.0) LimitPassed (Ok found.0) n found.2 in
    let parts = or_parts (nat_lt found.0 1) (nat_lt 1048576 found.0) checked.0 in
    subst (λ (m : ℕ). 1 ≤ m) (ok_same found.0 n checked.1) (ltb-false found.0 1 parts.0)

sizes_whole : (settings : Settings) (sizes : Sizes) → sizes_for settings ≡ Ok sizes → 1 ≤ sizes.max_rows
sizes_whole settings sizes is =
    let most = and_then-Ok (setting_in 1 1048576 65536 settings.max_rows) _ sizes is in
    let least = and_then-Ok (setting_in 0 1048576 65536 settings.min_rows) _ sizes most.2 in
    let bytes = and_then-Ok (setting_in 0 1073741824 16777216 settings.min_bytes) _ sizes least.2 in
    let whole : record { max_rows = most.0; min_rows = least.0; min_bytes = bytes.0 } ≡ sizes = ok_same (record { max_rows = most.0; min_rows = least.0; min_bytes = bytes.0 }) sizes bytes.2 in
    subst (λ (s : Sizes). 1 ≤ s.max_rows) whole (some_rows settings.max_rows most.0 most.1)

most-255 : (n : ℕ) → nat_lt 255 n ≡ false → n ≤ 255
most-255 n short = grind (arith, nat_tests)

-- a block of an insert goes by what names it
pub named : (kinds : List Kind) (token : Option (List ℕ)) (number : ℕ) (block : List (List Value)) → is_long token ≡ false → number < 2 ^ 20 → Names kinds block (source_of kinds token number block)
named kinds None number block short within = refl
named kinds (Some []) number block short within = refl
named kinds (Some (byte ∷ token)) number block short within = (omega arith, most-255 (length (byte ∷ token)) short, within)

-- the table of a delivery stands, and what is delivered arrives there
pub record ArrivesIn (catalog : Catalog) (delivery : Delivery) : Type 0 where
  pub def : TableDef
  pub numbered : 1 ≤ delivery.table
  pub stands : def_at catalog delivery.table ≡ Some def
  pub arrives : IsArrival catalog delivery.table delivery.entry

-- along a path rows are derived from a block, and no view on it divides by zero
record IsTaken (catalog : Catalog) (table : ℕ) (block : List (List Value)) (path : List ℕ) : Type 0 where
  leads : IsPath (links_of catalog.views) table path
  sound : divides_along catalog block path ≡ false
  reaches : 1 ≤ length (derived catalog block path)

some_items : {A : Type 0} (xs : List A) → not (is_empty xs) ≡ true → 1 ≤ length xs
some_items {A} [] some = absurd cc
some_items {A} (x ∷ xs) some = omega arith

module _ (catalog : Catalog) (views : All (IsViewIn catalog) catalog.views) (table : ℕ) (def : TableDef) (numbered : 1 ≤ table) (stands : def_at catalog table ≡ Some def) where
  abbrev links : List Link
  links = links_of catalog.views

  module _ (block : List (List Value)) where
    abbrev has : List ℕ → Bool
    has path = not (is_empty (derived catalog block path))

    one_path : (path : List ℕ) (paths : List (List ℕ)) → IsPath links table path → divides_along catalog block path ≡ false → All (IsTaken catalog table block) (filter has paths)
        → All (IsTaken catalog table block) (filter has (path ∷ paths))
    one_path path paths leads sound rest = by (has path) refl
      where
        by : (b : Bool) → has path ≡ b → All (IsTaken catalog table block) (filter has (path ∷ paths))
        by true e =
            rw e
            (All-cons (IsTaken catalog table block) path (filter has paths)
            (record { leads = leads; sound = sound; reaches = some_items (derived catalog block path) e })
            rest)
        by false e = rw e rest

    taken_paths : (paths : List (List ℕ)) → All (IsPathWithin MAX_PATH links table) paths → list_any (divides_along catalog block) paths ≡ false → All (IsTaken catalog table block) (filter has paths)
    taken_paths [] are none = All-nil (IsTaken catalog table block)
    taken_paths (path ∷ paths) are none =
        let Within = IsPathWithin MAX_PATH links table in
        let parts = or_parts (divides_along catalog block path) (list_any (divides_along catalog block) paths) none in
        one_path path paths (All-head Within path paths are).is_path parts.0 (taken_paths paths (All-tail Within path paths are) parts.1)

    -- so it is along each path that is taken
    taken : 1 ≤ length block → divides_below catalog table block ≡ false → All (IsTaken catalog table block) (paths_for catalog table block)
    taken some none =
        All-cons (IsTaken catalog table block) [] (filter has (paths_from links table))
        (record { leads = tt; sound = refl; reaches = some })
        (taken_paths (paths_from links table) (paths_from-are links table) none)

    -- a block arrives along each of them
    block_arrives : (source : SourceKey) → AllAreOf (kinds_of def) block → 1 ≤ length block → length block ≤ MAX_ROWS → All (All IsSmall) block → Names (kinds_of def) block source → divides_below catalog table block ≡ false
        → All (ArrivesIn catalog) (block_deliveries catalog table source block)
    block_arrives source kinds_fit some most small named none =
        All-map (ArrivesIn catalog) (delivery_along catalog table source block) (paths_for catalog table block)
        (All-weaker (IsTaken catalog table block) (λ path. ArrivesIn catalog (delivery_along catalog table source block path))
        (λ path is.
        let end = end_stands (Table def) catalog views table def path numbered stands is.leads in
        record {
          def = end.0;
          numbered = end.1;
          stands = end.2;
          arrives =
              record {
                origin = def;
                numbered = numbered;
                stands = stands;
                leads = is.leads;
                ends = refl;
                kinds_fit = kinds_fit;
                some = some;
                most = most;
                small = small;
                named = named;
                sound = is.sound;
                reaches = is.reaches;
                is = refl;
              };
        })
        (paths_for catalog table block) (taken some none))

  -- so does each of some blocks
  blocks_arrive : (token : Option (List ℕ)) (from most : ℕ) (blocks : List (List (List Value))) → is_long token ≡ false → from + most ≤ MAX_ROWS → AreBlocks (kinds_of def) most blocks → All (All (All IsSmall)) blocks
      → list_any (divides_below catalog table) blocks ≡ false → All (ArrivesIn catalog) (deliveries_of catalog table (kinds_of def) token from blocks)
  blocks_arrive token from most [] short room are small none = All-nil (ArrivesIn catalog)
  blocks_arrive token from most (block ∷ blocks) short room are small none =
      let parts = or_parts (divides_below catalog table block) (list_any (divides_below catalog table) blocks) none in
      let source = source_of (kinds_of def) token from block in
      All-append (ArrivesIn catalog) (block_deliveries catalog table source block) (deliveries_of catalog table (kinds_of def) token (from + 1) blocks)
      (block_arrives block source are.0 are.1 (omega (arith, are.2, room)) (All-head (All (All IsSmall)) block blocks small) (named (kinds_of def) token from block short (omega (arith, are.1, are.2, room))) parts.0)
      (blocks_arrive token (from + 1) (most - length block) blocks short (omega (arith, are.1, are.2, room)) are.3 (All-tail (All (All IsSmall)) block blocks small) parts.1)

  -- so do those of rows
  planned_for-arrives : (insert : Insert) (plan : List Delivery) → planned_for catalog table def insert ≡ Ok plan → All (ArrivesIn catalog) plan
  planned_for-arrives insert plan is =
      let names = filled_names (columns_of def) insert.columns in
      let places = places_of (columns_of def) names in
      let known = refuse_if-Ok (list_any (is_unknown (columns_of def)) names) UnknownColumn _ plan is in
      let once = refuse_if-Ok (has_repeat names) NameTaken _ plan known.1 in
      let kinds_fit = refuse_if-Ok (list_any is_state (kinds_at (kinds_of def) places)) TypeMismatch _ plan once.1 in
      let sizes = and_then-Ok (sizes_for insert.settings) _ plan kinds_fit.1 in
      let short = refuse_if-Ok (is_long insert.settings.token) LimitPassed _ plan sizes.2 in
      let few = refuse_if-Ok (nat_lt MAX_ROWS (length insert.rows)) LimitPassed _ plan short.1 in
      let written = and_then-Ok (rows_for (kinds_of def) places insert.rows) _ plan few.1 in
      let blocks = blocks_of sizes.0 (sized_rows (kinds_of def) written.0) in
      let sound = refuse_if-Ok (list_any (divides_below catalog table) blocks) DivisionByZero _ plan written.2 in
      let all = deliveries_of catalog table (kinds_of def) insert.settings.token 0 blocks in
      let same : all ≡ plan = ok_same all plan sound.1 in
      let wide : length (columns_of def) ≡ length (kinds_of def) = length-map def.columns (λ (column : Column). column.name) ∙ sym (length-map def.columns (λ (column : Column). column.kind)) in
      let within : AreWithin (length (kinds_of def)) places = subst (λ (n : ℕ). AreWithin n places) wide (places_of-AreWithin (columns_of def) names) in
      let of = rows_kinds (kinds_of def) places insert.rows written.0 within written.1 in
      subst (All (ArrivesIn catalog)) same
      (blocks_arrive insert.settings.token 0 MAX_ROWS blocks short.0 (omega arith)
      (AreBlocks-blocks_of (kinds_of def) sizes.0 written.0 MAX_ROWS (sizes_whole insert.settings sizes.0 sizes.1) of.0 (omega (arith, of.1, ltb-false MAX_ROWS (length insert.rows) few.0)))
      (All-blocks_of (All IsSmall) (kinds_of def) sizes.0 written.0 (sizes_whole insert.settings sizes.0 sizes.1) (rows_small (kinds_of def) places insert.rows written.0 written.1))
      sound.0)

-- each delivery that is planned beside what a schema defines is of an arrival in its table
pub planned-arrives : (schema : List Accepted) → IsSchema schema → (insert : Insert) (plan : List Delivery) → planned (catalog_of schema) insert ≡ Ok plan → All (ArrivesIn (catalog_of schema)) plan
unfolding planned
planned-arrives schema lawful insert plan is =
    let catalog = catalog_of schema in
    let found = and_then-Ok (table_of catalog insert.table) (λ f. planned_for catalog f.0 f.1 insert) plan is in
    let stands = found_stands catalog insert.table found.0 found.1 in
    planned_for-arrives catalog (schema-views schema lawful) found.0.0 found.0.1 stands.0 stands.1 insert plan found.2
