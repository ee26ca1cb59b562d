-- The sorting key of a table that a statement defines has no states.
use Rattle.std.proofs.Common.{◌≡◌, ℕ, zero, suc, nat_eq, Bool, true, false, ◌&&◌, ◌||◌, not, nat_lt, List, [], ◌∷◌, length, get_or, map, Option, None, Some, is_some, Ok, slice_get, option_map, refl, sym, ap, subst, ◌∙◌, rules}
use Rattle.std.proofs.lemmas.List.Elements.{All-append, All-cons, All-nil}
use Rattle.std.proofs.lemmas.List.Quantifiers.{position-Some}
use Rattle.std.proofs.lemmas.Option.{slice_get-get_or, slice_get-map}
use Rattle.std.proofs.lemmas.Slice.Eq.{bytes_eq-Decides}
use Rattle.std.specs.List.{All, cons_option, list_any}
use Rattle.std.specs.Str.{bytes_eq}
use Rattle.chv_ast.specs.declared.refusal.Refusal.TheVariants.{ColumnNotMergeable, LimitPassed, NameTaken, TypeMismatch, UnknownColumn}
use Rattle.chv_ast.specs.declared.statement.ColumnDef.{ColumnDef}
use Rattle.chv_ast.specs.declared.statement.CreateTable.{CreateTable}
use Rattle.chv_ast.specs.declared.statement.Statement.TheVariants as statement
use Rattle.chv_catalog.proofs.Positions.{is_some-position}
use Rattle.chv_catalog.proofs.StepLemmas.{and_then-Ok, refuse_if-Ok}
use Rattle.chv_catalog.specs.Checks.{has_repeat, is_state, is_unknown, places_of}
use Rattle.chv_catalog.specs.Schemas.{Catalog, definitions_in, kinds_of, names_of, no_definitions, with_definition}
use Rattle.chv_catalog.specs.declared.definition.Definition.{Definition}
use Rattle.chv_catalog.specs.declared.definition.Definition.TheVariants.{Table, View}
use Rattle.chv_catalog.specs.declared.table_def.TableDef.{TableDef}
use Rattle.chv_print.specs.StatementTexts.{statement_text}
use Rattle.chv_query.proofs.AcceptedLemmas.{defines_table}
use Rattle.chv_query.proofs.GroupFits.{slice_get-mapped}
use Rattle.chv_query.specs.Accepted.{Accepted, AreAccepted, Defines, IsCatalog, tables_in, tables_of}
use Rattle.chv_query.specs.Definitions.{column_names, columns_of, defined, has_loose, has_state, is_aggregating, kind_of, table_with, window_of}
use Rattle.chv_types.specs.Names.{place_of}
use Rattle.chv_types.specs.declared.kind.Kind.{Kind}
use Rattle.chv_types.specs.declared.table.Column.{Column}

-- no column of the sorting key is a state
abbrev pub HasPlainKey : TableDef → Type 0
HasPlainKey def = (place : ℕ) (of : Kind) → list_any (nat_eq place) def.key ≡ true → slice_get (kinds_of def) place ≡ Some of → is_state of ≡ false

-- a name stands at a place of a list of names
abbrev Stands : List (List ℕ) → List (List ℕ) → ℕ → Type 0
Stands names written place = (name : List ℕ) × (place_of name names ≡ Some place) × (is_some (place_of name written) ≡ true)

is_some-any : (name : List ℕ) (written : List (List ℕ)) → is_some (place_of name written) ≡ list_any (λ (other : List ℕ). bytes_eq other name) written
is_some-any name written = is_some-position (λ (other : List ℕ). bytes_eq other name) written

first_stands : (name : List ℕ) (written : List (List ℕ)) → is_some (place_of name (name ∷ written)) ≡ true
first_stands name written =
    is_some-any name (name ∷ written) ∙ ap (λ (b : Bool). b || list_any (λ (other : List ℕ). bytes_eq other name) written) ((bytes_eq-Decides name name).1 refl)

other_stands : (name first : List ℕ) (written : List (List ℕ)) → is_some (place_of name written) ≡ true → is_some (place_of name (first ∷ written)) ≡ true
other_stands name first written h =
    is_some-any name (first ∷ written) ∙ last (bytes_eq first name) (list_any (λ (other : List ℕ). bytes_eq other name) written) (sym (is_some-any name written) ∙ h)
  where
    last : (p q : Bool) → q ≡ true → (p || q) ≡ true
    last true q h = refl
    last false q h = h

same_place : (m n : ℕ) → nat_eq m n ≡ true → n ≡ m
same_place m n h = search (rules, h)

module _ (names written : List (List ℕ)) (place : ℕ) (first : List ℕ) (rest : list_any (nat_eq place) (places_of names written) ≡ true → Stands names written place) where
  behind_first : list_any (nat_eq place) (places_of names written) ≡ true → Stands names (first ∷ written) place
  behind_first h = let found = rest h in (found.0, found.1, other_stands found.0 first written found.2)

  at_first : (at : ℕ) (b : Bool) → place_of first names ≡ Some at → nat_eq place at ≡ b → (b || list_any (nat_eq place) (places_of names written)) ≡ true
      → Stands names (first ∷ written) place
  at_first at true e same h = (first, e ∙ ap Some (same_place place at same), first_stands first written)
  at_first at false e same h = behind_first h

  one_stands : (o : Option ℕ) → place_of first names ≡ o → list_any (nat_eq place) (cons_option o (places_of names written)) ≡ true → Stands names (first ∷ written) place
  one_stands None e h = behind_first h
  one_stands (Some at) e h = at_first at (nat_eq place at) e refl h

-- a place of a key is that of a written name
key_name : (names written : List (List ℕ)) (place : ℕ) → list_any (nat_eq place) (places_of names written) ≡ true → Stands names written place
key_name names [] place any = absurd (cc any)
key_name names (first ∷ written) place any = one_stands names written place first (key_name names written place) (place_of first names) refl any

-- no column of these names is a state
plain_column : (key : List (List ℕ)) (columns : List Column) (place : ℕ) (column : Column) → has_state key columns ≡ false → slice_get columns place ≡ Some column
    → is_some (place_of column.name key) ≡ true → is_state column.kind ≡ false
plain_column key [] place column none at there = absurd (cc at)
plain_column key (first ∷ columns) zero column none at there =
    let same : first ≡ column = cc at in
    by (is_some (place_of column.name key)) (is_state column.kind) (has_state key columns) there (subst (λ (c : Column). ((is_some (place_of c.name key) && is_state c.kind) || has_state key columns) ≡ false) same none)
  where
    by : (p q r : Bool) → p ≡ true → ((p && q) || r) ≡ false → q ≡ false
    by true true r h e = absurd (cc e)
    by true false r h e = refl
    by false q r h e = absurd (cc h)
plain_column key (first ∷ columns) (suc place) column none at there =
    plain_column key columns place column (by (is_some (place_of first.name key) && is_state first.kind) (has_state key columns) none) at there
  where
    by : (p r : Bool) → (p || r) ≡ false → r ≡ false
    by true r e = absurd (cc e)
    by false r e = e

names-made : (columns : List ColumnDef) (made : List Column) → columns_of columns ≡ Ok made → map (λ (column : Column). column.name) made ≡ column_names columns
names-made [] made h = let none : made ≡ [] = cc in rw none refl
names-made (column ∷ columns) made h =
    let kind = and_then-Ok (kind_of column.kind) _ made h in
    let rest = and_then-Ok (columns_of columns) _ made kind.2 in
    let whole : made ≡ record { name = column.name; kind = kind.0 } ∷ rest.0 = cc rest.2 in
    rw (whole, names-made columns rest.0 rest.1) refl

module _ (names key : List (List ℕ)) (columns : List Column) (named : map (λ (column : Column). column.name) columns ≡ names) (none : has_state key columns ≡ false) where
  plain_at : (place : ℕ) (of : Kind) → list_any (nat_eq place) (places_of names key) ≡ true → slice_get (map (λ (column : Column). column.kind) columns) place ≡ Some of → is_state of ≡ false
  plain_at place of any at =
      let column = slice_get-mapped (λ (column : Column). column.kind) columns place of at in
      let found = key_name names key place any in
      let stands = position-Some (λ (other : List ℕ). bytes_eq other found.0) names place found.0 found.1 in
      let there : slice_get names place ≡ Some (get_or names place found.0) = slice_get-get_or names place found.0 stands.0 in
      let same : get_or names place found.0 ≡ found.0 = (bytes_eq-Decides (get_or names place found.0) found.0).0 stands.1 in
      let name_at : slice_get names place ≡ Some column.0.name =
      ap (λ (l : List (List ℕ)). slice_get l place) (sym named) ∙ slice_get-map (λ (column : Column). column.name) columns place ∙ ap (option_map (λ (column : Column). column.name)) column.1 in
      let equal : Some column.0.name ≡ Some found.0 = sym name_at ∙ there ∙ ap Some same in
      let name_is : found.0 ≡ column.0.name = cc equal in
      subst (λ (k : Kind). is_state k ≡ false) column.2
      (plain_column key columns place column.0 none column.1 (subst (λ (name : List ℕ). is_some (place_of name key) ≡ true) name_is found.2))

defined_plain : (catalog : Catalog) (made : CreateTable) (def : TableDef) → defined catalog made ≡ Ok def → HasPlainKey def
unfolding defined
defined_plain catalog made def h =
    let free = refuse_if-Ok (is_some (place_of made.name (names_of catalog))) NameTaken _ def h in
    let room = refuse_if-Ok (not (nat_lt (definitions_in catalog) 256)) LimitPassed _ def free.1 in
    let few = refuse_if-Ok (nat_lt 64 (length made.columns)) LimitPassed _ def room.1 in
    let once = refuse_if-Ok (has_repeat (column_names made.columns)) NameTaken _ def few.1 in
    let columns = and_then-Ok (columns_of made.columns) _ def once.1 in
    let known = refuse_if-Ok (list_any (is_unknown (column_names made.columns)) made.key) UnknownColumn _ def columns.2 in
    let key_once = refuse_if-Ok (has_repeat made.key) NameTaken _ def known.1 in
    let plain_key = refuse_if-Ok (has_state made.key columns.0) TypeMismatch _ def key_once.1 in
    let merged = refuse_if-Ok (is_aggregating made.engine && has_loose made.key columns.0) ColumnNotMergeable _ def plain_key.1 in
    let window = and_then-Ok (window_of made.window) _ def merged.1 in
    let short = refuse_if-Ok (nat_lt 1048576 (length (statement_text (statement.CreateTable made)))) LimitPassed _ def window.2 in
    let whole : table_with made columns.0 window.0 ≡ def = cc short.1 in
    subst HasPlainKey whole (plain_at (column_names made.columns) made.key columns.0 (names-made made.columns columns.0 columns.1) plain_key.0)

-- so is it in each table of a catalog
definition_plain : (catalog : Catalog) (accepted : Accepted) → Defines catalog accepted.statement accepted.definition → All HasPlainKey (tables_in accepted.definition)
definition_plain catalog accepted defines = by accepted.definition defines
  where
    by : (definition : Definition) → Defines catalog accepted.statement definition → All HasPlainKey (tables_in definition)
    by (Table def) defines =
        let table = defines_table catalog accepted.statement def defines in
        All-cons HasPlainKey def [] (defined_plain catalog table.made def table.defines) (All-nil HasPlainKey)
    by (View def) defines = All-nil HasPlainKey

schema_plain : (catalog : Catalog) (schema : List Accepted) → AreAccepted catalog schema → All HasPlainKey (tables_of schema)
schema_plain catalog [] are = All-nil HasPlainKey
schema_plain catalog (accepted ∷ schema) are =
    All-append HasPlainKey (tables_in accepted.definition) (tables_of schema) (definition_plain catalog accepted are.0.defines)
    (schema_plain (with_definition accepted.definition catalog) schema are.1)

pub catalog_plain : (catalog : Catalog) → IsCatalog catalog → All HasPlainKey catalog.tables
catalog_plain catalog is = subst (λ (c : Catalog). All HasPlainKey c.tables) is.2 (schema_plain no_definitions is.0 is.1)
