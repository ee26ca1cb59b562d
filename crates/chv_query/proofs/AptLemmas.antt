-- The states of tables that are defined are of functions that have a result over their values.
use Rattle.std.proofs.Common.{◌≡◌, ℕ, Bool, true, false, if◌then◌else◌, List, [], ◌∷◌, Option, None, Some, is_some, Ok, Err, refl, sym, subst}
use Rattle.std.proofs.lemmas.List.Elements.{All-append, All-cons, All-nil}
use Rattle.std.specs.List.{All}
use Rattle.chv_ast.specs.declared.refusal.Refusal.TheVariants.{TypeMismatch, UnknownFunction}
use Rattle.chv_ast.specs.declared.statement.ColumnDef.{ColumnDef}
use Rattle.chv_ast.specs.declared.statement.CreateTable.{CreateTable}
use Rattle.chv_ast.specs.declared.statement.KindWord.{KindWord}
use Rattle.chv_ast.specs.declared.statement.KindWord.TheVariants as kind_word
use Rattle.chv_ast.specs.declared.statement.Statement.{Statement}
use Rattle.chv_catalog.proofs.StepLemmas.{and_then-Ok}
use Rattle.chv_catalog.specs.Schemas.{Catalog, kinds_of, no_definitions, with_definition}
use Rattle.chv_catalog.specs.declared.definition.Definition.{Definition}
use Rattle.chv_catalog.specs.declared.definition.Definition.TheVariants.{Table, View}
use Rattle.chv_catalog.specs.declared.table_def.TableDef.{TableDef}
use Rattle.chv_query.proofs.AcceptedLemmas.{defines_table, with_schema, with_schema-cons, with_schema-nil}
use Rattle.chv_query.proofs.DefinitionLemmas.{passed}
use Rattle.chv_query.proofs.GroupFits.{IsApt, column_kinds}
use Rattle.chv_query.proofs.TakesLemmas.{ok_same}
use Rattle.chv_query.specs.Accepted.{Accepted, AreAccepted, Defines, IsSchema, catalog_of}
use Rattle.chv_query.specs.Definitions.{columns_of, defined, function_of, kind_of, scalar_of, state_of, state_over}
use Rattle.chv_types.specs.Aggregates.{result_of}
use Rattle.chv_types.specs.Steps.{and_then, or_refuse}
use Rattle.chv_types.specs.declared.aggregate.AggName.{AggName}
use Rattle.chv_types.specs.declared.aggregate.AggName.TheVariants as agg
use Rattle.chv_types.specs.declared.kind.Kind.{Kind}
use Rattle.chv_types.specs.declared.kind.Kind.TheVariants as kind
use Rattle.chv_types.specs.declared.kind.Scalar.{Scalar}
use Rattle.chv_types.specs.declared.table.Column.{Column}

over_apt : (function : AggName) (arg : Scalar) (of : Kind) → state_over function arg ≡ Ok of → IsApt of
over_apt function arg of is = by (is_some (result_of function arg)) refl is
  where
    by : (some : Bool) → is_some (result_of function arg) ≡ some → (if some then Ok (kind.State function arg) else Err TypeMismatch) ≡ Ok of → IsApt of
    by true e is = subst IsApt (ok_same is) e
    by false e is = absurd (cc is)

named_apt : (function : AggName) (name : Option Scalar) (of : Kind) → and_then (or_refuse TypeMismatch name) (state_over function) ≡ Ok of → IsApt of
named_apt function name of is = let arg = and_then-Ok (or_refuse TypeMismatch name) (state_over function) of is in over_apt function arg.0 of arg.2

state_apt : (function : AggName) (arg : Option (List ℕ)) (of : Kind) → state_of function arg ≡ Ok of → IsApt of
state_apt agg.Count None of is = subst IsApt (ok_same is) refl
state_apt agg.Count (Some name) of is = absurd (cc is)
state_apt agg.Sum None of is = absurd (cc is)
state_apt agg.Min None of is = absurd (cc is)
state_apt agg.Max None of is = absurd (cc is)
state_apt agg.UniqExact None of is = absurd (cc is)
state_apt agg.Sum (Some name) of is = named_apt agg.Sum (scalar_of name) of is
state_apt agg.Min (Some name) of is = named_apt agg.Min (scalar_of name) of is
state_apt agg.Max (Some name) of is = named_apt agg.Max (scalar_of name) of is
state_apt agg.UniqExact (Some name) of is = named_apt agg.UniqExact (scalar_of name) of is

kind_apt : (word : KindWord) (of : Kind) → kind_of word ≡ Ok of → IsApt of
unfolding kind_of
kind_apt (kind_word.Plain name) of is =
    let plain = and_then-Ok (or_refuse TypeMismatch (scalar_of name)) (λ plain. Ok (kind.Plain plain)) of is in subst IsApt (ok_same plain.2) tt
kind_apt (kind_word.Agg function arg) of is =
    let found = and_then-Ok (or_refuse UnknownFunction (function_of function)) (λ name. state_of name arg) of is in state_apt found.0 arg of found.2

columns_apt : (defs : List ColumnDef) (columns : List Column) → columns_of defs ≡ Ok columns → All IsApt (column_kinds columns)
columns_apt [] columns is = subst (λ (cs : List Column). All IsApt (column_kinds cs)) (ok_same is) (All-nil IsApt)
columns_apt (def ∷ defs) columns is =
    let first = and_then-Ok (kind_of def.kind) _ columns is in
    let rest = and_then-Ok (columns_of defs) _ columns first.2 in
    subst (λ (cs : List Column). All IsApt (column_kinds cs)) (ok_same rest.2)
    (All-cons IsApt first.0 (column_kinds rest.0) (kind_apt def.kind first.0 first.1) (columns_apt defs rest.0 rest.1))

-- each state of a table is of a function that has a result
abbrev pub IsAptTable : TableDef → Type 0
IsAptTable def = All IsApt (kinds_of def)

defined_apt : (catalog : Catalog) (made : CreateTable) (def : TableDef) → defined catalog made ≡ Ok def → IsAptTable def
defined_apt catalog made def is = let checks = passed catalog made def is in columns_apt made.columns def.columns checks.columns_are

apt-more : (definition : Definition) (catalog : Catalog) (s : Statement) → Defines catalog s definition → All IsAptTable catalog.tables → All IsAptTable (with_definition definition catalog).tables
apt-more (View new) catalog s defines all = all
apt-more (Table new) catalog s defines all =
    let table = defines_table catalog s new defines in
    All-append IsAptTable catalog.tables (new ∷ []) all (All-cons IsAptTable new [] (defined_apt catalog table.made new table.defines) (All-nil IsAptTable))

tables_behind : (catalog : Catalog) (schema : List Accepted) → AreAccepted catalog schema → All IsAptTable catalog.tables → All IsAptTable (with_schema catalog schema).tables
tables_behind catalog [] are all = subst (λ (c : Catalog). All IsAptTable c.tables) (sym (with_schema-nil catalog)) all
tables_behind catalog (accepted ∷ schema) are all =
    subst (λ (c : Catalog). All IsAptTable c.tables) (with_schema-cons catalog accepted.definition schema)
    (tables_behind (with_definition accepted.definition catalog) schema are.1 (apt-more accepted.definition catalog accepted.statement are.0.defines all))

-- so it is in each table of a schema
pub schema-apt : (schema : List Accepted) → IsSchema schema → All IsAptTable (catalog_of schema).tables
schema-apt schema is = tables_behind no_definitions schema is (All-nil IsAptTable)
