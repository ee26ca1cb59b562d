-- Tokens with their texts.
use Rattle.std.specs.Prelude.{ℕ, List, map}
use Rattle.std.specs.List.{slice_range}
use Rattle.chv_ast.specs.Lexemes.{Lexeme}
use Rattle.chv_lex.specs.declared.token.Token.{Token}

-- a token of a piece with its text
abbrev pub lexeme : List ℕ → Token → Lexeme
lexeme piece token = record { kind = token.kind; text = slice_range piece token.start token.end }

-- the tokens of a piece with their texts
abbrev pub lexemes : List ℕ → List Token → List Lexeme
lexemes piece tokens = map (lexeme piece) tokens
