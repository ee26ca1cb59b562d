-- What is read of a text that is cut into tokens, and of one that is not.
use Rattle.std.proofs.Common.{◌≡◌, ℕ, List, Some, None, refl}
use Rattle.chv_ast.specs.Formed.{WellFormed}
use Rattle.chv_ast.specs.GrammarStatements.{IsStatement}
use Rattle.chv_ast.specs.declared.statement.Statement.{Statement}
use Rattle.chv_lex.specs.Lexemes.{lexemes}
use Rattle.chv_lex.specs.Tokens.{Cut, IsFaultOf}
use Rattle.chv_lex.specs.declared.token.LexFault.{LexFault}
use Rattle.chv_lex.specs.declared.token.LexFault.TheVariants as lex_fault
use Rattle.chv_lex.specs.declared.token.Token.{Token}
use Rattle.chv_lex.proofs.ReadingLaws.{tokens_of-stuck}
use Rattle.chv_lex.proofs.SpelledLaws.{written_is_formed}
use Rattle.chv_parse.specs.StatementTexts.{statement_in}
use Rattle.chv_parse.proofs.TextLaws.{statement_of-written, statement_of-none, statement_in-cut, statement_in-uncut, statement_in-written, written-statement_in}
use Rattle.chv_print.specs.StatementTexts.{statement_text}
use Rattle.chv_print.proofs.StatementBack.{statement_reads_back}

-- a text on which the lexer is stuck
pub read_uncut : (text : List ℕ) (fault : LexFault) (place : ℕ) → fault ≡ lex_fault.BadToken place → IsFaultOf text fault → statement_in text ≡ None
read_uncut text fault place is stuck = statement_in-uncut text (tokens_of-stuck text place (rw is at stuck))

-- a text whose tokens write a statement
pub read_written : (text : List ℕ) (tokens : List Token) (s : Statement) → Cut 0 text tokens → IsStatement s (lexemes text tokens) → statement_in text ≡ Some s
read_written text tokens s cut written = statement_in-cut text tokens (Some s) cut (statement_of-written (lexemes text tokens) s written)

-- a text whose tokens write none
pub read_unwritten : (text : List ℕ) (tokens : List Token) → Cut 0 text tokens → ((s : Statement) → IsStatement s (lexemes text tokens) → ⊥) → statement_in text ≡ None
read_unwritten text tokens cut none = statement_in-cut text tokens None cut (statement_of-none (lexemes text tokens) none)

-- what is read is well formed
pub read_formed : (text : List ℕ) (s : Statement) → statement_in text ≡ Some s → WellFormed s
read_formed text s read = written_is_formed text s (written-statement_in text s read)

-- a canonical text is read as the statement that it is the text of
pub read_back : (s : Statement) → WellFormed s → statement_in (statement_text s) ≡ Some s
read_back s formed = statement_in-written (statement_text s) s (statement_reads_back s (statement_text s) refl formed)
