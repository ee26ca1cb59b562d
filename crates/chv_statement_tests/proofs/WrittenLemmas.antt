-- What is read of a text is well formed.
use Rattle.std.proofs.Common.{ℕ, List}
use Rattle.chv_ast.specs.Formed.{WellFormed}
use Rattle.chv_ast.specs.GrammarStatements.{IsStatement}
use Rattle.chv_ast.specs.declared.statement.Statement.{Statement}
use Rattle.chv_lex.specs.Lexemes.{lexemes}
use Rattle.chv_lex.specs.Tokens.{Cut}
use Rattle.chv_lex.specs.declared.token.Token.{Token}
use Rattle.chv_lex.proofs.SpelledLaws.{written_is_formed}

pub read_is_formed : (text : List ℕ) (tokens : List Token) (s : Statement) → Cut 0 text tokens → IsStatement s (lexemes text tokens) → WellFormed s
read_is_formed text tokens s cut written = written_is_formed text s (record { tokens = tokens; cut = cut; spelled = written })
