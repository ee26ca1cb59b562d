-- The files of parts: docs/FORMATS.md, "Part files".
use Rattle.std.specs.Prelude.{ℕ, ⊤, ◌≡◌, ◌≢◌, ◌+◌, ◌<◌, ◌^◌, List, [], ◌∷◌, ◌++◌, length, codes, slice_get, Option, Some, None}
use Rattle.std.specs.Int.{w32, w64, to_le_bytes}
use Rattle.chv_block.specs.Spellings.{AllAreOf, codes_of, value_spelling}
use Rattle.chv_sip.specs.BlockIds.{keyed_hash, first_key}
use Rattle.chv_types.specs.declared.kind.Kind.{Kind}
use Rattle.chv_types.specs.declared.value.Value.{Value}
use Rattle.chv_part.specs.Books.{TableForm}
use Rattle.chv_part.specs.declared.reading.PartFault.{PartFault}
use Rattle.chv_part.specs.declared.reading.PartFault.TheVariants.{Failed, Hash, Shape, NoMemory}

-- a value in bytes, where a row has it
abbrev pub spelled : Kind → Option Value → List ℕ
spelled kind None = []
spelled kind (Some value) = value_spelling kind value

-- the values of the column at a place, in row order
abbrev pub column_spelling : Kind → ℕ → List (List Value) → List ℕ
column_spelling kind place [] = []
column_spelling kind place (row ∷ rows) = spelled kind (slice_get row place) ++ column_spelling kind place rows

-- columns one behind the other, the first of them at this place
abbrev pub columns_spelling : ℕ → List Kind → List (List Value) → List ℕ
columns_spelling place [] rows = []
columns_spelling place (kind ∷ kinds) rows = column_spelling kind place rows ++ columns_spelling (place + 1) kinds rows

-- the body of a part: the number of its columns and their kinds, the number of its rows, and the values column by column
abbrev pub part_body : List Kind → List (List Value) → List ℕ
part_body kinds rows =
    to_le_bytes w32 (length kinds) ++ codes_of kinds ++ to_le_bytes w64 (length rows) ++ columns_spelling 0 kinds rows

-- what stands in front of a body: a mark, the length of the body, and a hash
abbrev pub frame_head : ℕ → ℕ → List ℕ
frame_head size kept = codes "CHVPART1" ++ to_le_bytes w64 size ++ to_le_bytes w64 kept

-- a body in a frame that keeps this hash
abbrev pub framed : ℕ → List ℕ → List ℕ
framed kept body = frame_head (length body) kept ++ body

-- a body in its frame, which keeps the body's hash
abbrev pub part_frame : List ℕ → List ℕ
part_frame body = framed (keyed_hash first_key body) body

-- the bytes of a part with these rows
unfoldable pub part_file : List Kind → List (List Value) → List ℕ
part_file kinds rows = part_frame (part_body kinds rows)

-- a file is that of a part of a table of this form, with these rows
pub record IsPartFile (form : TableForm) (rows : List (List Value)) (file : List ℕ) : Type 0 where
  pub kinds_fit : AllAreOf form.kinds rows
  pub spelled : file ≡ part_file form.kinds rows

-- the frame of a file fits, and keeps another hash than the one that is found of its body
pub record HashDiffers (kept found : ℕ) (file : List ℕ) : Type 0 where
  pub body : List ℕ
  pub frame : file ≡ framed kept body
  pub hash : found ≡ keyed_hash first_key body
  pub words : (kept < 2 ^ 64) × (found < 2 ^ 64)
  pub differ : kept ≢ found

-- a file is that of no part of a table of this form; and its frame does not fit, or keeps the hash of its body
pub record IsShapeless (form : TableForm) (file : List ℕ) : Type 0 where
  pub off : (rows : List (List Value)) → IsPartFile form rows file → ⊥
  pub hash : (kept : ℕ) (body : List ℕ) → file ≡ framed kept body → file ≡ part_frame body

-- a file is that of some part of a table of this form
abbrev pub IsWhole : TableForm → List ℕ → Type 0
IsWhole form file = (rows : List (List Value)) × IsPartFile form rows file

-- a fault of the file itself
abbrev pub IsDamage : PartFault → Type 0
IsDamage Failed = ⊥
IsDamage (Hash kept found) = ⊤
IsDamage Shape = ⊤
IsDamage NoMemory = ⊥
