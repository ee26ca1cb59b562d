-- Queries of views whose names are places.
use Rattle.std.specs.Prelude.{ℕ, ◌≡◌, ◌+◌, List, [], ◌∷◌, map, slice_get, Some}
use Rattle.std.specs.Option.{option_and_then, unwrap_or}
use Rattle.chv_types.specs.Names.{place_of}
use Rattle.chv_types.specs.Values.{default_of}
use Rattle.chv_types.specs.declared.table.Column.{Column}
use Rattle.chv_types.specs.declared.value.Value.{Value}
use Rattle.chv_query.specs.Bound.{IsQuery}
use Rattle.chv_query.specs.Queries.{Asked}
use Rattle.chv_query.specs.Views.{names_in}
use Rattle.chv_query.specs.declared.view.Filling.{Filling}
use Rattle.chv_query.specs.declared.view.ViewQuery.{ViewQuery}

-- what goes to a column of these output columns: that of its name, if there is one
abbrev pub filling_of : List Column → Column → Filling
filling_of shown column = record { place = place_of column.name (names_in shown); kind = column.kind }

-- what goes to each column
abbrev pub fillings : List Column → List Column → List Filling
fillings shown columns = map (filling_of shown) columns

-- the value for a column: that of a place, or its default
abbrev pub filling_value : List Value → Filling → Value
filling_value values filling = unwrap_or (option_and_then (slice_get values) filling.place) (default_of filling.kind)

-- values as a row of the columns that they fill
abbrev pub filled_by : List Filling → List Value → List Value
filled_by fillings values = map (filling_value values) fillings

-- values fill the columns in their order, from a place on
abbrev pub AreInOrder : ℕ → List Filling → Type 0
AreInOrder place [] = Unit {0}
AreInOrder place (filling ∷ fillings) = (filling.place ≡ Some place) × AreInOrder (place + 1) fillings

-- a bound view is what is asked, for a target of these columns
pub record IsViewQuery (columns : List Column) (view : ViewQuery) (query : Asked) : Type 0 where
  pub asks : IsQuery view.query query
  pub fills : view.fillings ≡ fillings query.columns columns
