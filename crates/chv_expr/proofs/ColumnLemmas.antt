-- The columns that names name.
use Rattle.std.specs.Prelude.{ℕ, ◌≡◌, ◌<◌, Bool, List, [], ◌∷◌, map, length, get_or, slice_get, Some, Ok}
use Rattle.std.specs.List.{position, position_or_len}
use Rattle.std.specs.Option.{option_map}
use Rattle.std.proofs.Common.{ap, refl, sym, ◌∙◌}
use Rattle.std.proofs.lemmas.List.{length-map}
use Rattle.std.proofs.lemmas.Option.{slice_get-get_or, slice_get-map}
use Rattle.chv_types.specs.Names.{place_of}
use Rattle.chv_types.specs.declared.table.Column.{Column}
use Rattle.chv_expr.specs.Bindings.{Binds, kinds_of, tree_value}
use Rattle.chv_expr.specs.Terms.{column_at, column_term}
use Rattle.chv_expr.specs.declared.bound.Bound.{Bound}
use Rattle.chv_expr.specs.declared.tree.Tree.TheVariants as tree
use Rattle.chv_expr.proofs.FitLemmas.{fits-value_at}
use Rattle.chv_expr.proofs.TreeLaws.{value-Column}

position_or_len-map : {X Y : Type 0} (f : X → Y) (p : Y → Bool) (xs : List X) → position_or_len (λ x. p (f x)) xs ≡ position_or_len p (map f xs)
position_or_len-map f p [] = refl
position_or_len-map f p (x ∷ xs) = rw (position_or_len-map f p xs) refl

-- among images an item stands where it stands itself
pub position-map : {X Y : Type 0} (f : X → Y) (p : Y → Bool) (xs : List X) → position (λ x. p (f x)) xs ≡ position p (map f xs)
position-map f p xs = rw (position_or_len-map f p xs, length-map) refl

-- a column by its place
pub Binds-column : (columns : List Column) (name : List ℕ) (place : ℕ) (column : Column) (bound : Bound)
    → place_of name (map (λ column. column.name) columns) ≡ Some place → place < length columns → column ≡ get_or columns place column
    → bound.kind ≡ column.kind → bound.tree ≡ tree.Column place → Binds columns (column_term columns name) (Ok bound)
Binds-column columns name place column bound e below is k t =
    let here : slice_get columns place ≡ Some column = slice_get-get_or columns place column below ∙ ap Some (sym is) in
    let kind_of = λ (column : Column). column.kind in
    let kind_here : slice_get (kinds_of columns) place ≡ Some column.kind = slice_get-map kind_of columns place ∙ ap (option_map kind_of) here in (
      column_at place column,
      rw (e, here) refl,
      record {
        kind = k;
        same = λ row. ap (λ t. tree_value t row) t ∙ value-Column place row;
        fits = λ row f. fits-value_at (kinds_of columns) row place column.kind f kind_here;
      },
    )
