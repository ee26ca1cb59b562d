-- The statement that tokens write, and that a text writes, as functions.
use Rattle.std.specs.Prelude.{ℕ, List, [], ◌∷◌, Option, Some, None}
use Rattle.std.specs.Option.{option_and_then}
use Rattle.chv_ast.specs.Lexemes.{Lexeme}
use Rattle.chv_ast.specs.declared.statement.Statement.{Statement}
use Rattle.chv_lex.specs.Lexemes.{lexemes}
use Rattle.chv_lex.specs.Tokens.{tokens_of}
use Rattle.chv_parse.specs.StatementReading.{read_statement}

-- a statement behind which no token is left
abbrev pub alone : Statement → List Lexeme → Option Statement
alone s [] = Some s
alone s (token ∷ tokens) = None

-- the statement that tokens write, if they write one
unfoldable pub statement_of : List Lexeme → Option Statement
statement_of tokens = option_and_then (λ read. alone read.0 read.1) (read_statement tokens)

-- the statement that a text writes, if it writes one
unfoldable pub statement_in : List ℕ → Option Statement
statement_in text = option_and_then (λ tokens. statement_of (lexemes text tokens)) (tokens_of text)
