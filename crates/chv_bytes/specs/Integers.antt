-- Integers of eight kinds, and their bytes.
use Rattle.std.specs.Prelude.{ℕ, ℤ, pos, negsuc, neg_ℤ, Bool, true, false, ◌-◌, ◌^◌, ◌≤ℤ◌, if◌then◌else◌, List}
use Rattle.byteorder.specs.Endian.{little_bytes, little_number, twos_complement}
use Rattle.chv_bytes.specs.declared.integer.IntKind.{IntKind}
use Rattle.chv_bytes.specs.declared.integer.IntKind.TheVariants.{U8, U16, U32, U64, I8, I16, I32, I64}

-- how many bytes an integer has, whether it may be below zero, and its least and greatest value
pub record IntForm : Type 0 where
  pub width : ℕ
  pub signed : Bool
  pub least : ℤ
  pub greatest : ℤ

-- the table of the eight kinds
abbrev pub form_of : IntKind → IntForm
form_of U8 = record { width = 1; signed = false; least = pos 0; greatest = pos (2 ^ 8 - 1) }
form_of U16 = record { width = 2; signed = false; least = pos 0; greatest = pos (2 ^ 16 - 1) }
form_of U32 = record { width = 4; signed = false; least = pos 0; greatest = pos (2 ^ 32 - 1) }
form_of U64 = record { width = 8; signed = false; least = pos 0; greatest = pos (2 ^ 64 - 1) }
form_of I8 = record { width = 1; signed = true; least = neg_ℤ (pos (2 ^ 7)); greatest = pos (2 ^ 7 - 1) }
form_of I16 = record { width = 2; signed = true; least = neg_ℤ (pos (2 ^ 15)); greatest = pos (2 ^ 15 - 1) }
form_of I32 = record { width = 4; signed = true; least = neg_ℤ (pos (2 ^ 31)); greatest = pos (2 ^ 31 - 1) }
form_of I64 = record { width = 8; signed = true; least = neg_ℤ (pos (2 ^ 63)); greatest = pos (2 ^ 63 - 1) }

-- how many bytes an integer of a kind has
abbrev pub width_of : IntKind → ℕ
width_of kind = (form_of kind).width

-- an integer lies between the least and the greatest of a kind
pub record InRange (kind : IntKind) (v : ℤ) : Type 0 where
  pub least : (form_of kind).least ≤ℤ v
  pub greatest : v ≤ℤ (form_of kind).greatest

-- an integer as a number of that many bytes: below zero it is 256 ^ width more, which is two's complement
abbrev pub number_for : ℕ → ℤ → ℕ
number_for width (pos n) = n
number_for width (negsuc n) = 256 ^ width - 1 - n

-- the integer that a number of that many bytes is, where it may be below zero and where not
abbrev pub integer_for : Bool → ℕ → ℕ → ℤ
integer_for signed width n = if signed then twos_complement width n else pos n

-- an integer in bytes
abbrev pub int_bytes : IntKind → ℤ → List ℕ
int_bytes kind v = little_bytes (width_of kind) (number_for (width_of kind) v)

-- the integer that the first bytes are
abbrev pub int_value : IntKind → List ℕ → ℤ
int_value kind bytes = integer_for (form_of kind).signed (width_of kind) (little_number (width_of kind) bytes)
