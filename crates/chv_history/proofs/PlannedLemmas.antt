-- What an INSERT with a row brings: one delivery at least.
use Rattle.std.proofs.Common.{◌≡◌, ◌≤◌, ◌||◌, ℕ, List, [], ◌∷◌, length, Option, None, Some, Result, Ok, IfOk, nat_lt, subst, arith}
use Rattle.std.specs.List.{list_any}
use Rattle.std.proofs.lemmas.Bool.{ltb-false, or_parts}
use Rattle.chv_ast.specs.Formed.{EachOfSome, FormedLiteral}
use Rattle.chv_ast.specs.declared.expr.Literal.{Literal}
use Rattle.chv_ast.specs.declared.refusal.Refusal.{Refusal}
use Rattle.chv_ast.specs.declared.refusal.Refusal.TheVariants.{UnknownColumn, NameTaken, TypeMismatch, DivisionByZero, LimitPassed}
use Rattle.chv_ast.specs.declared.statement.Insert.{Insert}
use Rattle.chv_ast.specs.declared.statement.Settings.{Settings}
use Rattle.chv_ast.specs.declared.statement.Statement.{Statement}
use Rattle.chv_ast.specs.declared.statement.Statement.TheVariants as statement
use Rattle.chv_block.specs.Blocks.{blocks_of}
use Rattle.chv_block.specs.declared.squasher.Sizes.{Sizes}
use Rattle.chv_catalog.proofs.StepLemmas.{and_then-Ok, refuse_if-Ok}
use Rattle.chv_catalog.specs.Checks.{has_repeat, is_state, is_unknown, places_of}
use Rattle.chv_catalog.specs.Schemas.{Catalog, columns_of, kinds_of}
use Rattle.chv_catalog.specs.declared.table_def.TableDef.{TableDef}
use Rattle.chv_part.specs.Books.{MAX_ROWS}
use Rattle.chv_query.proofs.JoinLemmas.{some-blocks_of}
use Rattle.chv_query.specs.Plans.{Delivery, deliveries_of, divides_below, filled_names, is_long, kinds_at, planned, planned_for, row_for, rows_for, setting_in, sized_rows, sizes_for}
use Rattle.chv_query.specs.Tables.{table_of}
use Rattle.chv_types.specs.Steps.{and_then, or_refuse, refuse_if}
use Rattle.chv_types.specs.Texts.{whole_number}
use Rattle.chv_types.specs.declared.kind.Kind.{Kind}
use Rattle.chv_types.specs.declared.value.Value.{Value}
use Rattle.chv_history.specs.Tasks.{Task, Bring, Make, TellParts, TellRows, task_of}
use Rattle.chv_history.proofs.ScriptLemmas.{IsAskFormed}
use Rattle.chv_history.proofs.TaskLemmas.{task_holds}

-- what one step answers
ok_same : {A : Type 0} (x y : A) → ◌≡◌ {A = Result A Refusal} (Ok x) (Ok y) → x ≡ y
ok_same {A} x y same = cc

-- a block has one row at least
some_rows : (given : Option (List ℕ)) (n : ℕ) → setting_in 1 1048576 65536 given ≡ Ok n → 1 ≤ n
some_rows None n is = let same : 65536 ≡ n = ok_same 65536 n is in subst (λ (m : ℕ). 1 ≤ m) same (omega arith)
some_rows (Some digits) n is =
    let found = and_then-Ok (or_refuse LimitPassed (whole_number digits)) (λ number. refuse_if (nat_lt number 1 || nat_lt 1048576 number) LimitPassed (Ok number)) n is in
    let checked = refuse_if-Ok (nat_lt found.0 1 || nat_lt 1048576 found.0) LimitPassed (Ok found.0) n found.2 in
    let parts = or_parts (nat_lt found.0 1) (nat_lt 1048576 found.0) checked.0 in
    subst (λ (m : ℕ). 1 ≤ m) (ok_same found.0 n checked.1) (ltb-false found.0 1 parts.0)

sizes_whole : (settings : Settings) (sizes : Sizes) → sizes_for settings ≡ Ok sizes → 1 ≤ sizes.max_rows
sizes_whole settings sizes is =
    let most = and_then-Ok (setting_in 1 1048576 65536 settings.max_rows) _ sizes is in
    let least = and_then-Ok (setting_in 0 1048576 65536 settings.min_rows) _ sizes most.2 in
    let bytes = and_then-Ok (setting_in 0 1073741824 16777216 settings.min_bytes) _ sizes least.2 in
    let whole : record { max_rows = most.0; min_rows = least.0; min_bytes = bytes.0 } ≡ sizes = ok_same (record { max_rows = most.0; min_rows = least.0; min_bytes = bytes.0 }) sizes bytes.2 in
    subst (λ (s : Sizes). 1 ≤ s.max_rows) whole (some_rows settings.max_rows most.0 most.1)

-- a row is written for the first literals
rows_some : (kinds : List Kind) (places : List ℕ) (lists : List (List Literal)) (rows : List (List Value)) → 1 ≤ length lists → rows_for kinds places lists ≡ Ok rows → 1 ≤ length rows
rows_some kinds places [] rows some is = absurd (omega (arith, some))
rows_some kinds places (literals ∷ lists) rows some is =
    let first = and_then-Ok (row_for kinds places literals) (λ row. and_then (rows_for kinds places lists) (λ rest. Ok (row ∷ rest))) rows is in
    let later = and_then-Ok (rows_for kinds places lists) (λ rest. Ok (first.0 ∷ rest)) rows first.2 in
    subst (λ (l : List (List Value)). 1 ≤ length l) (ok_same (first.0 ∷ later.0) rows later.2) (omega arith)

-- a block is delivered to its own table at least
deliveries_some : (catalog : Catalog) (table : ℕ) (kinds : List Kind) (token : Option (List ℕ)) (number : ℕ) (blocks : List (List (List Value))) → 1 ≤ length blocks → 1 ≤ length (deliveries_of catalog table kinds token number blocks)
deliveries_some catalog table kinds token number [] some = some
deliveries_some catalog table kinds token number (block ∷ blocks) some = omega arith

planned_for-some : (catalog : Catalog) (table : ℕ) (def : TableDef) (insert : Insert) (plan : List Delivery) → 1 ≤ length insert.rows → planned_for catalog table def insert ≡ Ok plan → 1 ≤ length plan
planned_for-some catalog table def insert plan some is =
    let names = filled_names (columns_of def) insert.columns in
    let places = places_of (columns_of def) names in
    let known = refuse_if-Ok (list_any (is_unknown (columns_of def)) names) UnknownColumn _ plan is in
    let once = refuse_if-Ok (has_repeat names) NameTaken _ plan known.1 in
    let kinds_fit = refuse_if-Ok (list_any is_state (kinds_at (kinds_of def) places)) TypeMismatch _ plan once.1 in
    let sizes = and_then-Ok (sizes_for insert.settings) _ plan kinds_fit.1 in
    let short = refuse_if-Ok (is_long insert.settings.token) LimitPassed _ plan sizes.2 in
    let few = refuse_if-Ok (nat_lt MAX_ROWS (length insert.rows)) LimitPassed _ plan short.1 in
    let written = and_then-Ok (rows_for (kinds_of def) places insert.rows) _ plan few.1 in
    let blocks = blocks_of sizes.0 (sized_rows (kinds_of def) written.0) in
    let sound = refuse_if-Ok (list_any (divides_below catalog table) blocks) DivisionByZero _ plan written.2 in
    let all = deliveries_of catalog table (kinds_of def) insert.settings.token 0 blocks in
    let same : all ≡ plan = ok_same all plan sound.1 in
    subst (λ (l : List Delivery). 1 ≤ length l) same
    (deliveries_some catalog table (kinds_of def) insert.settings.token 0 blocks
    (some-blocks_of (kinds_of def) sizes.0 written.0 (sizes_whole insert.settings sizes.0 sizes.1) (rows_some (kinds_of def) places insert.rows written.0 some written.1)))

planned-some : (catalog : Catalog) (insert : Insert) (plan : List Delivery) → 1 ≤ length insert.rows → planned catalog insert ≡ Ok plan → 1 ≤ length plan
unfolding planned
planned-some catalog insert plan some is =
    let found = and_then-Ok (table_of catalog insert.table) (λ f. planned_for catalog f.0 f.1 insert) plan is in
    planned_for-some catalog found.0.0 found.0.1 insert plan some found.2

-- so does one that is well formed
some_written : (rows : List (List Literal)) → EachOfSome (EachOfSome FormedLiteral) rows → 1 ≤ length rows
some_written [] some = absurd some
some_written (row ∷ rows) some = omega arith

abbrev pub TaskBrings : Task → Type 0
TaskBrings (Make accepted) = Unit {0}
TaskBrings (Bring plan) = 1 ≤ length plan
TaskBrings (TellRows query) = Unit {0}
TaskBrings (TellParts table def) = Unit {0}

pub task_brings : (catalog : Catalog) (entries : ℕ → ℕ) (asked : Option Statement) → IsAskFormed asked → IfOk (task_of catalog entries asked) TaskBrings
task_brings catalog entries asked formed =
    task_holds catalog entries TaskBrings (λ select query asks. tt) (λ table def. tt) asked (λ accepted is defines. tt)
    (λ brought is plan brings room. planned-some catalog brought plan (some_written brought.rows (formed (statement.Insert brought) is).3) brings)
