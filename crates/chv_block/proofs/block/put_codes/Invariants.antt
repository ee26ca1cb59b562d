use Rattle.std.proofs.Common.{◌≡◌, ◌++◌, drop}
use Rattle.chv_block.specs.Spellings.{codes_of}
use Rattle.chv_block.proofs.block.put_codes.Given as goal

abbrev pub invariant-loop-i : goal.invariant-loop-i
invariant-loop-i l = l.out.items ++ codes_of (drop l.i l.kinds) ≡ l.fn.out.items ++ codes_of l.kinds
