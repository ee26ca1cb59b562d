-- Which texts write which value.
use Rattle.std.specs.Prelude.{ℕ, List}
use Rattle.chv_ast.specs.Spellings.{Spelling}
use Rattle.chv_lex.specs.Lexemes.{lexemes}
use Rattle.chv_lex.specs.Tokens.{Cut}
use Rattle.chv_lex.specs.declared.token.Token.{Token}

-- a text is cut into tokens that write the value
pub record Writes {A : Type 0} (p : Spelling A) (value : A) (text : List ℕ) : Type 0 where
  pub tokens : List Token
  pub cut : Cut 0 text tokens
  pub spelled : p value (lexemes text tokens)
