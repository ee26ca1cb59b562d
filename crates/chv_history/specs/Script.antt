-- What the clients of a script ask for.
use Rattle.std.specs.Prelude.{ℕ, ◌≡◌, ◌+◌, ◌-◌, List, ◌++◌, map, drop, slice_range, ◌==◌, Option, Some}
use Rattle.std.specs.List.{All, filter, flat_map, range_with_len}
use Rattle.chv_lex.specs.Scripts.{pieces_of}
use Rattle.chv_lex.specs.declared.piece.Piece.{Piece}
use Rattle.chv_ast.specs.Formed.{WellFormed}
use Rattle.chv_ast.specs.declared.statement.Statement.{Statement}
use Rattle.chv_parse.specs.StatementTexts.{statement_in}

-- a client asks for a statement, where its text is one
pub record Request : Type 0 where
  pub client : ℕ
  pub statement : Option Statement

-- the pieces of a client, in the order of the script
abbrev pub of_client : List Piece → ℕ → List Piece
of_client pieces client = filter (λ piece. piece.client == client) pieces

-- the pieces of the clients from one on up to client 15, client by client
unfoldable pub from_client : ℕ → List Piece → List Piece
from_client client pieces = flat_map (of_client pieces) (range_with_len client (16 - client))

-- the pieces that are left of a client behind a place, and those of the clients behind it
unfoldable pub left_at : ℕ → ℕ → List Piece → List Piece
left_at client place pieces = of_client (drop place pieces) client ++ from_client (client + 1) pieces

-- what a piece of a script asks for
abbrev pub request_of : List ℕ → Piece → Request
request_of script piece = record { client = piece.client; statement = statement_in (slice_range script piece.start piece.end) }

-- what pieces of a script ask for
abbrev pub requests_in : List ℕ → List Piece → List Request
requests_in script = map (request_of script)

-- what a script asks for: the requests of client 0 in the order of the script, then those of client 1, and so on
unfoldable pub requests_of : List ℕ → List Request
requests_of script = requests_in script (from_client 0 (pieces_of script))

-- what is asked for is well formed, where it is a statement
abbrev pub IsFormed : Request → Type 0
IsFormed request = (asked : Statement) → request.statement ≡ Some asked → WellFormed asked

abbrev pub AreFormed : List Request → Type 0
AreFormed requests = All IsFormed requests
