-- The value of each form of tree.
use Rattle.std.specs.Prelude.{ℕ, ◌≡◌, Bool, List, Option, Some}
use Rattle.std.proofs.Common.{ap, sym, ◌∙◌}
use Rattle.chv_types.specs.declared.value.Value.{Value}
use Rattle.chv_expr.specs.Bindings.{tree_value, tree_step}
use Rattle.chv_expr.specs.Terms.{value_at}
use Rattle.chv_expr.specs.Values.{arithmetic, comparison, conjunction, disjunction, negation, choice, widened, text_length}
use Rattle.chv_expr.specs.declared.tree.Arithmetic.{Arithmetic}
use Rattle.chv_expr.specs.declared.tree.Comparison.{Comparison}
use Rattle.chv_expr.specs.declared.tree.Tree.{Tree, roll-Tree, map-Tree}
use Rattle.chv_expr.specs.declared.tree.Tree.TheVariants as tree
use Rattle.chv_expr.specs.declared.tree.Tree.TheOpen.{Tree-F}
use Rattle.chv_expr.specs.declared.tree.Tree.TheFolds.{fold-roll-Tree}

-- the value of one layer
value_of_layer : (layer : Tree-F Tree) → tree_value (roll-Tree layer) ≡ tree_step (map-Tree Tree (List Value → Option Value) tree_value layer)
unfolding tree_value
value_of_layer layer = fold-roll-Tree (List Value → Option Value) tree_step layer

at : (t : Tree) (layer : Tree-F Tree) → roll-Tree layer ≡ t → (row : List Value)
    → tree_value t row ≡ tree_step (map-Tree Tree (List Value → Option Value) tree_value layer) row
at t layer rolls row = ap (λ f. f row) (ap tree_value (sym rolls) ∙ value_of_layer layer)

pub value-Column : (place : ℕ) (row : List Value) → tree_value (tree.Column place) row ≡ Some (value_at place row)
value-Column place = at _ _ (tree.rolls-Column place)

pub value-Constant : (value : Value) (row : List Value) → tree_value (tree.Constant value) row ≡ Some value
value-Constant value = at _ _ (tree.rolls-Constant value)

pub value-Not : (arg : Tree) (row : List Value) → tree_value (tree.Not arg) row ≡ negation (tree_value arg row)
value-Not arg = at _ _ (tree.rolls-Not arg)

pub value-And : (left right : Tree) (row : List Value) → tree_value (tree.And left right) row ≡ conjunction (tree_value left row) (tree_value right row)
value-And left right = at _ _ (tree.rolls-And left right)

pub value-Or : (left right : Tree) (row : List Value) → tree_value (tree.Or left right) row ≡ disjunction (tree_value left row) (tree_value right row)
value-Or left right = at _ _ (tree.rolls-Or left right)

pub value-Compare : (test : Comparison) (left right : Tree) (row : List Value)
    → tree_value (tree.Compare test left right) row ≡ comparison test (tree_value left row) (tree_value right row)
value-Compare test left right = at _ _ (tree.rolls-Compare test left right)

pub value-Calculate : (operation : Arithmetic) (signed : Bool) (left right : Tree) (row : List Value)
    → tree_value (tree.Calculate operation signed left right) row ≡ arithmetic operation signed (tree_value left row) (tree_value right row)
value-Calculate operation signed left right = at _ _ (tree.rolls-Calculate operation signed left right)

pub value-Widen : (signed : Bool) (arg : Tree) (row : List Value) → tree_value (tree.Widen signed arg) row ≡ widened signed (tree_value arg row)
value-Widen signed arg = at _ _ (tree.rolls-Widen signed arg)

pub value-Length : (arg : Tree) (row : List Value) → tree_value (tree.Length arg) row ≡ text_length (tree_value arg row)
value-Length arg = at _ _ (tree.rolls-Length arg)

pub value-If : (test left right : Tree) (row : List Value)
    → tree_value (tree.If test left right) row ≡ choice (tree_value test row) (tree_value left row) (tree_value right row)
value-If test left right = at _ _ (tree.rolls-If test left right)

pub ruleset tree_laws =
    (value-Column, value-Constant, value-Not, value-And, value-Or, value-Compare, value-Calculate, value-Widen, value-Length, value-If)
