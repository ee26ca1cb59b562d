-- What is asked for in a script is well formed.
use Rattle.std.proofs.Common.{◌≡◌, ℕ, List, Option, Some, All, slice_index_or, slice_range}
use Rattle.std.proofs.lemmas.List.Elements.{All-map}
use Rattle.chv_ast.specs.Formed.{WellFormed}
use Rattle.chv_ast.specs.declared.statement.Statement.{Statement}
use Rattle.chv_lex.specs.Scripts.{pieces_of}
use Rattle.chv_lex.specs.declared.piece.Piece.{Piece}
use Rattle.chv_lex.proofs.SpelledLaws.{written_is_formed}
use Rattle.chv_parse.specs.StatementTexts.{statement_in}
use Rattle.chv_parse.proofs.TextLaws.{written-statement_in}
use Rattle.chv_history.specs.Script.{Request, AreFormed, IsFormed, from_client, of_client, request_of, requests_in, requests_of}
use Rattle.chv_history.specs.Traces.{asks_in}

-- what is read is well formed
read_formed : (text : List ℕ) (s : Statement) → statement_in text ≡ Some s → WellFormed s
read_formed text s read = written_is_formed text s (written-statement_in text s read)

-- so is what is asked for, where it is a statement
abbrev pub IsAskFormed : Option Statement → Type 0
IsAskFormed asked = (s : Statement) → asked ≡ Some s → WellFormed s

-- each request of a script is well formed
request_formed : (script : List ℕ) (piece : Piece) → IsFormed (request_of script piece)
request_formed script piece s is = read_formed (slice_range script piece.start piece.end) s is

pub requests_formed : (script : List ℕ) (pieces : List Piece) → AreFormed (requests_in script pieces)
requests_formed script pieces = All-map IsFormed (request_of script) pieces (λ k piece within. request_formed script (slice_index_or pieces k piece))

-- so are all requests
pub script_formed : (script : List ℕ) → AreFormed (requests_of script)
unfolding requests_of
script_formed script = requests_formed script (from_client 0 (pieces_of script))

-- and what a client asks for
pub asks_formed : (script : List ℕ) (client : ℕ) → All IsAskFormed (asks_in script client)
asks_formed script client = All-map IsAskFormed (λ (request : Request). request.statement) (requests_in script (of_client (pieces_of script) client)) (requests_formed script (of_client (pieces_of script) client))
