use Rattle.std.proofs.Common.{◌≡◌, ◌++◌, false, drop}
use Rattle.chv_ast.specs.Lexemes.{unquoted}
use Rattle.chv_parse.proofs.token_text.unquoted.Given as goal

abbrev pub invariant-loop-byte : goal.invariant-loop-byte
invariant-loop-byte l = l.meant ++ unquoted l.takes (drop l.byte-index l.written) ≡ unquoted false l.written
