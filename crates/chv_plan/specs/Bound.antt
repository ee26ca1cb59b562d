-- Views that are bound.
use Rattle.std.specs.Prelude.{ℕ, ◌≡◌, List, length, Option, Some, Ok, slice_get}
use Rattle.std.specs.List.{All}
use Rattle.chv_catalog.specs.Schemas.{Catalog}
use Rattle.chv_catalog.specs.declared.view_def.ViewDef.{ViewDef}
use Rattle.chv_query.specs.Derived.{columns_at, form_at}
use Rattle.chv_query.specs.Queries.{Asked, asked}
use Rattle.chv_query.specs.ViewQueries.{IsViewQuery}
use Rattle.chv_plan.specs.declared.views.BoundView.{BoundView}

-- a view is bound: to what it asks, and to the columns of its target
pub record IsBound (catalog : Catalog) (view : ViewDef) (bound : BoundView) : Type 0 where
  pub query : Asked
  pub asks : asked catalog view.select ≡ Ok query
  pub is : IsViewQuery (columns_at catalog view.target) bound.query query
  pub kinds : bound.kinds ≡ (form_at catalog view.target).kinds

-- each view has a place, and what stands there is that view, bound
pub record AreBound (catalog : Catalog) (bound : List (Option BoundView)) : Type 0 where
  pub places : length bound ≡ length catalog.views
  pub are : (view : ℕ) (def : ViewDef) (one : BoundView) → slice_get catalog.views view ≡ Some def → slice_get bound view ≡ Some (Some one) → IsBound catalog def one

-- the view of a number is bound
abbrev pub IsThere : List (Option BoundView) → ℕ → Type 0
IsThere bound view = (one : BoundView) × (slice_get bound view ≡ Some (Some one))

-- each view on these paths is bound
abbrev pub AreThere : List (Option BoundView) → List (List ℕ) → Type 0
AreThere bound paths = All (All (IsThere bound)) paths

-- views that were bound still are, and perhaps more
pub record BindsMore (catalog : Catalog) (old new : List (Option BoundView)) : Type 0 where
  pub bound : AreBound catalog new
  pub kept : (view : ℕ) → IsThere old view → IsThere new view
