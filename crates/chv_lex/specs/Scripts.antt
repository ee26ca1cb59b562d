-- The pieces of a script: docs/SQL.md, "Script".
use Rattle.std.specs.Prelude.{ℕ, zero, suc, ◌+◌, ◌-◌, ◌*◌, ◌<◌, ◌≤◌, max, cond, ◌==◌, nat_le, List, [], ◌∷◌, length, take, drop, Option, Some, None, option_map, unwrap_or}
use Rattle.std.specs.Char.{is_ascii_digit}
use Rattle.std.specs.List.{prefix_len, onto_first, cons_option}
use Rattle.chv_lex.specs.declared.piece.Piece.{Piece}
use Rattle.chv_lex.specs.declared.text.Within.TheVariants as within
use Rattle.chv_lex.specs.Blanks.{comment_length, behind_blanks}
use Rattle.chv_lex.specs.Texts.{text_length}

-- how many bytes stand up to the next backquote and with it, or up to the end
abbrev pub name_length : List ℕ → ℕ
name_length [] = 0
name_length (byte ∷ bytes) = cond (byte == 96) 1 (1 + name_length bytes)

-- how many bytes at the front belong together: a text in quotes, a name in backquotes, a comment, or else one byte
unfoldable pub unit_length : List ℕ → ℕ
unit_length [] = 0
unit_length (byte ∷ bytes) =
    cond (byte == 39) (1 + text_length within.Text bytes)
    (cond (byte == 96) (1 + name_length bytes)
    (max 1 (comment_length (byte ∷ bytes))))

-- the bytes of each piece: the script is cut at each `;` outside quotes and comments; so many of the first bytes still belong
-- to one of these
abbrev pub cut_from : ℕ → List ℕ → List (List ℕ)
cut_from left [] = [] ∷ []
cut_from (suc left) (byte ∷ bytes) = onto_first byte (cut_from left bytes)
cut_from zero (byte ∷ bytes) =
    cond (byte == 59) ([] ∷ cut_from 0 bytes) (onto_first byte (cut_from (unit_length (byte ∷ bytes) - 1) bytes))

-- what is cut behind a first piece of so many bytes: nothing where they are all, else the bytes behind the `;`
abbrev pub cut_behind : ℕ → List ℕ → List (List ℕ)
cut_behind n text = cond (n == length text) [] (cut_from 0 (drop (n + 1) text))

-- a number, where it is a client's
abbrev pub client : ℕ → Option ℕ
client n = cond (nat_le n 15) (Some n) None

-- the client that one or two digits name
abbrev pub client_of : List ℕ → Option ℕ
client_of [] = None
client_of (ones ∷ []) = client (ones - 48)
client_of (tens ∷ ones ∷ []) = client (10 * (tens - 48) + (ones - 48))
client_of (digit ∷ next ∷ other ∷ digits) = None

-- the tag at the front, `@` and all digits behind it where they name a client: that client, and what stands behind
abbrev pub tag_of : List ℕ → Option (ℕ × List ℕ)
tag_of [] = None
tag_of (byte ∷ bytes) =
    let n = prefix_len is_ascii_digit bytes in
    cond (byte == 64) (option_map (λ client. (client, drop n bytes)) (client_of (take n bytes))) None

-- the piece of a client with these bytes, that ends at this place; none where they are white space and comments alone
abbrev pub filled : ℕ → ℕ → List ℕ → Option Piece
filled end client bytes =
    cond (length (behind_blanks 0 bytes) == 0) None (Some (record { client = client; start = end - length bytes; end = end }))

-- the piece with these bytes, that ends at this place: it begins behind its tag, and without one it is client 0's
abbrev pub piece_of : ℕ → List ℕ → Option Piece
piece_of end bytes = let tag = unwrap_or (tag_of (behind_blanks 0 bytes)) (0, bytes) in filled end tag.0 tag.1

-- the pieces with these bytes, the first of which begins at this place, with one `;` between each two
abbrev pub pieces_at : ℕ → List (List ℕ) → List Piece
pieces_at start [] = []
pieces_at start (bytes ∷ rest) =
    cons_option (piece_of (start + length bytes) bytes) (pieces_at (start + length bytes + 1) rest)

-- the pieces of a script, without those that hold only white space, comments and a tag
abbrev pub pieces_of : List ℕ → List Piece
pieces_of text = pieces_at 0 (cut_from 0 text)

-- a piece of a client stands within a script
pub record IsPieceOf (text : List ℕ) (piece : Piece) : Type 0 where
  pub client : piece.client < 16
  pub start : piece.start ≤ piece.end
  pub end : piece.end ≤ length text
