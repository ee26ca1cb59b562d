use Rattle.std.proofs.Common.{◌≡◌, ◌++◌, length, map}
use Rattle.std.specs.List.{All}
use Rattle.chv_group.specs.Keys.{AreApart, HasStates, placed_row, states_at}
use Rattle.chv_group.specs.declared.placed_key.PlacedKey.{PlacedKey}
use Rattle.chv_group.proofs.rows.rows_of.Given as goal

abbrev pub invariant-loop-key : goal.invariant-loop-key
invariant-loop-key l = record {
  so_far : l.rows.items ++ map (placed_row l.calls l.initial.tallies.items) l.left.items ≡ map (placed_row l.calls l.initial.tallies.items) l.initial.left.items;
  apart : AreApart l.left.items;
  states : All (HasStates l.calls l.tallies.items) l.left.items;
  same : All (λ (key : PlacedKey). states_at l.calls l.tallies.items key ≡ states_at l.calls l.initial.tallies.items key) l.left.items;
}

abbrev pub decreases-loop-key : goal.decreases-loop-key
decreases-loop-key l = length l.left.items
