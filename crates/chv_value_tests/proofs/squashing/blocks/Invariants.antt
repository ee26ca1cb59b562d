use Rattle.std.proofs.Common.{List}
use Rattle.chv_types.specs.declared.value.Value.{Value}
use Rattle.chv_block.specs.Blocks.{Sized, IsFed}
use Rattle.chv_block.specs.declared.squasher.Sizes.{Sizes}
use Rattle.chv_value_tests.proofs.squashing.blocks.Given as goal

abbrev pub invariant-loop-n : goal.invariant-loop-n
invariant-loop-n l = (sizes : Sizes) × (fed : List Sized) × (given : List (List (List Value))) × IsFed sizes fed given l.squasher
