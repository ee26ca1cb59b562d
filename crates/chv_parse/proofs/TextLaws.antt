-- The statement of a text is what the text writes.
use Rattle.std.proofs.Common.{◌≡◌, ℕ, List, [], ◌∷◌, Option, Some, None, refl, ap, subst}
use Rattle.std.proofs.lemmas.Option.{none-some}
use Rattle.std.specs.Option.{option_and_then}
use Rattle.chv_ast.specs.GrammarStatements.{IsStatement}
use Rattle.chv_ast.specs.Lexemes.{Lexeme}
use Rattle.chv_ast.specs.declared.statement.Statement.{Statement}
use Rattle.chv_lex.specs.Lexemes.{lexemes}
use Rattle.chv_lex.specs.Tokens.{Cut, tokens_of}
use Rattle.chv_lex.specs.Writes.{Writes}
use Rattle.chv_lex.specs.declared.token.Token.{Token}
use Rattle.chv_lex.proofs.ReadingLaws.{tokens_of-cut, cut-tokens_of}
use Rattle.chv_parse.specs.StatementReading.{read_statement}
use Rattle.chv_parse.specs.StatementTexts.{alone, statement_of, statement_in}
use Rattle.chv_parse.proofs.StatementLemmas.{statement_read, read_is_statement}

-- tokens that write a statement
pub statement_of-written : (tokens : List Lexeme) (s : Statement) → IsStatement s tokens → statement_of tokens ≡ Some s
unfolding statement_of
statement_of-written tokens s written = ap (option_and_then (λ (read : Statement × List Lexeme). alone read.0 read.1)) (statement_read tokens s written)

-- what is left of a reading
left_alone : (tokens : List Lexeme) (s : Statement) (read : Option (Statement × List Lexeme)) → read_statement tokens ≡ read
    → option_and_then (λ (r : Statement × List Lexeme). alone r.0 r.1) read ≡ Some s → IsStatement s tokens
left_alone tokens s None read is = absurd (none-some s is)
left_alone tokens s (Some (t, [])) read is =
    let same : t ≡ s = cc in
    read_is_statement tokens s (subst (λ (x : Statement). read_statement tokens ≡ Some (x, [])) same read)
left_alone tokens s (Some (t, token ∷ rest)) read is = absurd (none-some s is)

-- and back
pub written-statement_of : (tokens : List Lexeme) (s : Statement) → statement_of tokens ≡ Some s → IsStatement s tokens
unfolding statement_of
written-statement_of tokens s is = left_alone tokens s (read_statement tokens) refl is

-- tokens that write none
pub statement_of-none : (tokens : List Lexeme) → ((s : Statement) → IsStatement s tokens → ⊥) → statement_of tokens ≡ None
statement_of-none tokens none = other (statement_of tokens) refl
  where
    other : (s : Option Statement) → statement_of tokens ≡ s → statement_of tokens ≡ None
    other None is = is
    other (Some s) is = absurd (none s (written-statement_of tokens s is))

-- a text that is cut into tokens
pub statement_in-cut : (text : List ℕ) (tokens : List Token) (s : Option Statement) → Cut 0 text tokens → statement_of (lexemes text tokens) ≡ s → statement_in text ≡ s
unfolding statement_in
statement_in-cut text tokens s cut is = rw (tokens_of-cut text tokens cut) is

-- a text that is cut into none
pub statement_in-uncut : (text : List ℕ) → tokens_of text ≡ None → statement_in text ≡ None
unfolding statement_in
statement_in-uncut text uncut = rw uncut refl

-- a text that writes a statement
pub statement_in-written : (text : List ℕ) (s : Statement) → Writes IsStatement s text → statement_in text ≡ Some s
statement_in-written text s written =
    statement_in-cut text written.tokens (Some s) written.cut (statement_of-written (lexemes text written.tokens) s written.spelled)

cut_tokens : (text : List ℕ) (s : Statement) (tokens : Option (List Token)) → tokens_of text ≡ tokens
    → option_and_then (λ (l : List Token). statement_of (lexemes text l)) tokens ≡ Some s → Writes IsStatement s text
cut_tokens text s None cut is = absurd (none-some s is)
cut_tokens text s (Some tokens) cut is =
    record { tokens = tokens; cut = cut-tokens_of text tokens cut; spelled = written-statement_of (lexemes text tokens) s is }

-- and back
pub written-statement_in : (text : List ℕ) (s : Statement) → statement_in text ≡ Some s → Writes IsStatement s text
unfolding statement_in
written-statement_in text s is = cut_tokens text s (tokens_of text) refl is
