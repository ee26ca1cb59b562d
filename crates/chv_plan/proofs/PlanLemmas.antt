-- What an INSERT brings, step by step.
use Rattle.std.proofs.Common.{◌≡◌, ◌≤◌, ◌+◌, ◌-◌, Bool, true, false, ℕ, List, length, Option, Some, None, option_map, Result, Ok, Err, nat_lt, slice_get, refl, sym, ap, subst, ◌∙◌, arith, rules, tests}
use Rattle.std.specs.List.{All, list_any}
use Rattle.chv_ast.specs.declared.expr.Literal.{Literal}
use Rattle.chv_ast.specs.declared.statement.Insert.{Insert}
use Rattle.chv_ast.specs.declared.refusal.Refusal.{Refusal}
use Rattle.chv_ast.specs.declared.refusal.Refusal.TheVariants.{UnknownTable, UnknownColumn, NameTaken, TypeMismatch, DivisionByZero, LimitPassed}
use Rattle.chv_block.specs.Blocks.{blocks_of}
use Rattle.chv_block.specs.declared.squasher.Sizes.{Sizes}
use Rattle.chv_query.specs.Tables.{table_of}
use Rattle.chv_catalog.specs.Schemas.{Catalog, kinds_of, table_names}
use Rattle.chv_catalog.specs.declared.table_def.TableDef.{TableDef}
use Rattle.chv_part.specs.Books.{MAX_ROWS}
use Rattle.chv_types.specs.Names.{place_of}
use Rattle.chv_types.specs.Steps.{refuse_if, and_then, or_refuse}
use Rattle.chv_types.specs.declared.kind.Kind.{Kind}
use Rattle.chv_types.specs.declared.value.Value.{Value}
use Rattle.chv_plan.proofs.HeldLemmas.{delivers_all, held_some}
use Rattle.chv_query.proofs.ArrivalLemmas.{ArrivesIn, planned-arrives}
use Rattle.chv_plan.specs.Below.{HoldsAll}
use Rattle.chv_plan.specs.Blocks.{Brings}
use Rattle.chv_plan.specs.Deliveries.{DeliversAll}
use Rattle.chv_plan.specs.Places.{filled_places}
use Rattle.chv_query.specs.Plans.{Delivery, deliveries_for, deliveries_of, divides_below, is_long, planned, planned_for, rows_for, sized_rows, sizes_for}
use Rattle.chv_query.specs.Accepted.{IsCatalog}
use Rattle.chv_plan.specs.declared.delivery.Delivery.{Delivery as Held}

-- checks that refuse nothing leave what follows them
passed : {A : Type 0} (unknown repeated state : Bool) (places found : List ℕ) (rest : List ℕ → Result A Refusal)
    → refuse_if unknown UnknownColumn (refuse_if repeated NameTaken (refuse_if state TypeMismatch (Ok places))) ≡ Ok found
    → refuse_if unknown UnknownColumn (refuse_if repeated NameTaken (refuse_if state TypeMismatch (rest places))) ≡ rest found
passed false false false places found rest e = let same : places ≡ found = cc in rw same refl
passed true repeated state places found rest e = cc
passed false true state places found rest e = cc
passed false false true places found rest e = cc

module _ (catalog : Catalog) (table : ℕ) (def : TableDef) (insert : Insert) where
  -- what follows the checks of columns
  abbrev behind : List ℕ → Result (List Delivery) Refusal
  behind places =
      and_then (sizes_for insert.settings) (λ sizes.
      refuse_if (is_long insert.settings.token) LimitPassed
      (refuse_if (nat_lt MAX_ROWS (length insert.rows)) LimitPassed
      (and_then (rows_for (kinds_of def) places insert.rows) (λ written.
      deliveries_for catalog table def insert.settings.token (blocks_of sizes (sized_rows (kinds_of def) written))))))

  planned_for-behind : (places : List ℕ) → filled_places def.columns insert.columns ≡ Ok places → planned_for catalog table def insert ≡ behind places
  planned_for-behind places filled = passed _ _ _ _ places behind filled

  -- a size that is refused is so behind the checks of columns
  pub sizes_refused_for : (places : List ℕ) (refusal : Refusal) → filled_places def.columns insert.columns ≡ Ok places → sizes_for insert.settings ≡ Err refusal → planned_for catalog table def insert ≡ Err refusal
  sizes_refused_for places refusal filled refused = planned_for-behind places filled ∙ rw refused refl

  module _ (lists : List (List Literal)) (places filled : List ℕ) (kinds : List Kind) (sizes : Sizes) (written : List (List Value)) (blocks : List (List (List Value)))
      (checked : filled_places def.columns insert.columns ≡ Ok places) (sized : sizes_for insert.settings ≡ Ok sizes) (short : is_long insert.settings.token ≡ false) (most : length insert.rows ≤ MAX_ROWS)
      (kinds_are : kinds ≡ kinds_of def) (filled_are : filled ≡ places) (lists_are : lists ≡ insert.rows) (read : rows_for kinds filled lists ≡ Ok written) (is : blocks ≡ blocks_of sizes (sized_rows kinds written)) where
    -- rows that are written are brought as blocks, where no view divides by zero
    pub planned_for-blocks : planned_for catalog table def insert ≡ deliveries_for catalog table def insert.settings.token blocks
    planned_for-blocks =
        let few : nat_lt MAX_ROWS (length insert.rows) ≡ false = search (rules, tests) in
        let is_read : rows_for (kinds_of def) places insert.rows ≡ Ok written = cc in
        planned_for-behind places checked ∙ rw (sized, short, few, is_read, is, kinds_are) refl

    -- and what is held of them is what the INSERT brings
    pub Brings-blocks : (held : List Held) → 1 ≤ length insert.rows → (1 ≤ length lists → 1 ≤ length blocks) → list_any (divides_below catalog table) blocks ≡ false
        → HoldsAll catalog held (deliveries_of catalog table kinds insert.settings.token 0 blocks) → Brings catalog table def insert held
    Brings-blocks held some there sound holds = record {
      blocks = blocks;
      planned = planned_for-blocks ∙ rw sound refl;
      some = there (omega (arith, some, ap length lists_are));
      holds = rw kinds_are at holds;
    }

    pub divided : (refusal : Refusal) → refusal ≡ DivisionByZero → list_any (divides_below catalog table) blocks ≡ true → planned_for catalog table def insert ≡ Err refusal
    divided refusal same divides = planned_for-blocks ∙ rw (divides, same) refl

-- the table at a place, and its number
abbrev table_at : List TableDef → Option ℕ → Result (ℕ × TableDef) Refusal
table_at tables found = and_then (or_refuse UnknownTable found) (λ place. and_then (or_refuse UnknownTable (slice_get tables place)) (λ def. Ok (place + 1, def)))

-- the table of a number is the one at its place
numbered : (tables : List TableDef) (found : Option ℕ) (number : ℕ) (def : TableDef) → option_map (λ place. place + 1) found ≡ Some number → slice_get tables (number - 1) ≡ Some def
    → (table_at tables found ≡ Ok (number, def)) × (1 ≤ number)
numbered tables None number def is stands = cc
numbered tables (Some place) number def is stands =
    let next : place + 1 ≡ number = cc in
    let before : number - 1 ≡ place = omega arith in
    let there : slice_get tables place ≡ Some def = rw before at stands in
    (rw (there, next) refl, omega arith)

pub found_table : (catalog : Catalog) (name : List ℕ) (number : ℕ) (def : TableDef) → Some number ≡ option_map (λ place. place + 1) (place_of name (table_names catalog.tables))
    → slice_get catalog.tables (number - 1) ≡ Some def → (table_of catalog name ≡ Ok (number, def)) × (1 ≤ number)
found_table catalog name number def is stands = numbered catalog.tables (place_of name (table_names catalog.tables)) number def (sym is) stands

-- an INSERT brings what it brings to its table
pub planned_there : (catalog : Catalog) (insert : Insert) (number : ℕ) (def : TableDef) → table_of catalog insert.table ≡ Ok (number, def)
    → planned catalog insert ≡ planned_for catalog number def insert
unfolding planned
planned_there catalog insert number def found = rw found refl

-- what is planned arrives
arrives_in : (catalog : Catalog) → IsCatalog catalog → (insert : Insert) (plan : List Delivery) → planned catalog insert ≡ Ok plan → All (ArrivesIn catalog) plan
arrives_in catalog is insert plan h =
    subst (λ (c : Catalog). planned c insert ≡ Ok plan → All (ArrivesIn c) plan) is.2 (planned-arrives is.0 is.1 insert plan) h

-- the blocks that are brought arrive in their tables
pub delivered : (catalog : Catalog) → IsCatalog catalog → (insert : Insert) (number : ℕ) (def : TableDef) (held : List Held) → planned catalog insert ≡ planned_for catalog number def insert → Brings catalog number def insert held
    → (plan : List Delivery) × (planned catalog insert ≡ Ok plan) × DeliversAll catalog held plan
delivered catalog is insert number def held same brings =
    let plan = deliveries_of catalog number (kinds_of def) insert.settings.token 0 brings.blocks in
    (plan, same ∙ brings.planned, delivers_all catalog held plan (arrives_in catalog is insert plan (same ∙ brings.planned)) brings.holds)

-- there is one delivery at least
pub count-Brings : (catalog : Catalog) (table : ℕ) (def : TableDef) (insert : Insert) (held : List Held) → Brings catalog table def insert held → 1 ≤ length held
count-Brings catalog table def insert held brings = held_some catalog table (kinds_of def) insert.settings.token 0 brings.blocks held brings.some brings.holds
