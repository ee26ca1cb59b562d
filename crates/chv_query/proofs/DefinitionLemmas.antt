-- What a definition says.
use Rattle.std.proofs.Common.{◌≡◌, ◌<◌, ◌≤◌, ◌&&◌, ℕ, Bool, true, false, not, nat_lt, List, [], ◌∷◌, length, map, Option, Some, None, is_some, Ok, refl, sym, subst, arith}
use Rattle.std.specs.List.{list_any}
use Rattle.std.proofs.lemmas.Bool.{ltb-true, ltb-false}
use Rattle.chv_ast.specs.Formed.{EachOfSome, FormedColumn, FormedTable}
use Rattle.chv_ast.specs.declared.refusal.Refusal.TheVariants.{ColumnNotMergeable, LimitPassed, NameTaken, TypeMismatch, UnknownColumn}
use Rattle.chv_ast.specs.declared.statement.ColumnDef.{ColumnDef}
use Rattle.chv_ast.specs.declared.statement.CreateTable.{CreateTable}
use Rattle.chv_ast.specs.declared.statement.Statement.TheVariants as statement
use Rattle.chv_catalog.proofs.StepLemmas.{and_then-Ok, refuse_if-Ok}
use Rattle.chv_catalog.specs.Checks.{has_repeat, is_unknown}
use Rattle.chv_catalog.specs.Schemas.{Catalog, definitions_in, names_of}
use Rattle.chv_catalog.specs.declared.table_def.TableDef.{TableDef}
use Rattle.chv_print.specs.StatementTexts.{statement_text}
use Rattle.chv_types.specs.Names.{place_of}
use Rattle.chv_types.specs.declared.table.Column.{Column}
use Rattle.chv_query.specs.Definitions.{column_names, columns_of, defined, has_loose, has_state, is_aggregating, kind_of, table_with, window_of}

-- nothing is there
pub none_there : {A : Type 0} (o : Option A) → is_some o ≡ false → o ≡ None
none_there None h = refl
none_there (Some a) h = cc

-- a test that is negated
pub negated : (b : Bool) → not b ≡ false → b ≡ true
negated true h = refl
negated false h = cc

-- what holds of each definition that a statement makes beside what is defined
pub record Passed (catalog : Catalog) (made : CreateTable) (def : TableDef) : Type 0 where
  pub free : place_of def.name (names_of catalog) ≡ None
  pub room : definitions_in catalog < 256
  pub some : FormedTable made → 1 ≤ length def.columns
  pub few : length def.columns ≤ 64
  pub short : length (statement_text (statement.CreateTable made)) ≤ 1048576
  pub columns_are : columns_of made.columns ≡ Ok def.columns
  pub once : has_repeat (column_names made.columns) ≡ false

-- there are as many as are written
pub length-columns_of : (columns : List ColumnDef) (made : List Column) → columns_of columns ≡ Ok made → length made ≡ length columns
length-columns_of [] made h = let none : made ≡ [] = cc in rw none refl
length-columns_of (column ∷ columns) made h =
    let kind = and_then-Ok (kind_of column.kind) _ made h in
    let rest = and_then-Ok (columns_of columns) _ made kind.2 in
    let whole : made ≡ record { name = column.name; kind = kind.0 } ∷ rest.0 = cc rest.2 in
    rw (whole, length-columns_of columns rest.0 rest.1) refl

some_columns : (columns : List ColumnDef) → EachOfSome FormedColumn columns → 1 ≤ length columns
some_columns [] formed = absurd formed
some_columns (column ∷ columns) formed = omega arith

module _ (catalog : Catalog) (made : CreateTable) where
  -- what a statement defines has passed the checks
  pub passed : (def : TableDef) → defined catalog made ≡ Ok def → Passed catalog made def
  unfolding defined
  passed def h =
      let text = statement_text (statement.CreateTable made) in
      let free = refuse_if-Ok (is_some (place_of made.name (names_of catalog))) NameTaken _ def h in
      let room = refuse_if-Ok (not (nat_lt (definitions_in catalog) 256)) LimitPassed _ def free.1 in
      let few = refuse_if-Ok (nat_lt 64 (length made.columns)) LimitPassed _ def room.1 in
      let once = refuse_if-Ok (has_repeat (column_names made.columns)) NameTaken _ def few.1 in
      let columns = and_then-Ok (columns_of made.columns) _ def once.1 in
      let known = refuse_if-Ok (list_any (is_unknown (column_names made.columns)) made.key) UnknownColumn _ def columns.2 in
      let key_once = refuse_if-Ok (has_repeat made.key) NameTaken _ def known.1 in
      let plain_key = refuse_if-Ok (has_state made.key columns.0) TypeMismatch _ def key_once.1 in
      let merged = refuse_if-Ok (is_aggregating made.engine && has_loose made.key columns.0) ColumnNotMergeable _ def plain_key.1 in
      let window = and_then-Ok (window_of made.window) _ def merged.1 in
      let short = refuse_if-Ok (nat_lt 1048576 (length text)) LimitPassed _ def window.2 in
      let whole : table_with made columns.0 window.0 ≡ def = cc short.1 in
      let many = length-columns_of made.columns columns.0 columns.1 in
      let most = ltb-false 64 (length made.columns) few.0 in
      subst (Passed catalog made) whole
      (record {
        free = none_there (place_of made.name (names_of catalog)) free.0;
        room = ltb-true (definitions_in catalog) 256 (negated (nat_lt (definitions_in catalog) 256) room.0);
        some = λ formed. omega (arith, some_columns made.columns formed.1);
        few = omega (arith, many, most);
        short = ltb-false 1048576 (length text) short.0;
        columns_are = columns.1;
        once = once.0;
      })

-- no two columns of a table have one name
abbrev pub IsOnce : TableDef → Type 0
IsOnce def = has_repeat (map (λ (column : Column). column.name) def.columns) ≡ false

-- the names of columns that are made are those that are written
names-columns_of : (columns : List ColumnDef) (made : List Column) → columns_of columns ≡ Ok made → map (λ (column : Column). column.name) made ≡ column_names columns
names-columns_of [] made h = let none : made ≡ [] = cc in rw none refl
names-columns_of (column ∷ columns) made h =
    let kind = and_then-Ok (kind_of column.kind) _ made h in
    let rest = and_then-Ok (columns_of columns) _ made kind.2 in
    let whole : made ≡ record { name = column.name; kind = kind.0 } ∷ rest.0 = cc rest.2 in
    rw (whole, names-columns_of columns rest.0 rest.1) refl

-- so is it in each table that a statement defines
pub once_named : (catalog : Catalog) (made : CreateTable) (def : TableDef) → defined catalog made ≡ Ok def → IsOnce def
once_named catalog made def h =
    let checks = passed catalog made def h in
    subst (λ (names : List (List ℕ)). has_repeat names ≡ false) (sym (names-columns_of made.columns def.columns checks.columns_are)) checks.once
