-- What is said of damage: docs/FORMATS.md, "Damage".
use Rattle.std.specs.Prelude.{ℕ, zero, suc, ◌/◌, ◌%◌, List, [], ◌∷◌, ◌++◌, codes, decimal}
use Rattle.chv_part.specs.declared.damage.Damage.{Damage}
use Rattle.chv_text.specs.Rows.{hex_digit}
use Rattle.chv_part.specs.declared.damage.Damage.TheVariants.{Catalog, Log, PartHash, PartShape}

-- a number in so many hexadecimal digits: those of its sixteenth, and then the digit for the remainder
unfoldable pub hex_digits : ℕ → ℕ → List ℕ
hex_digits zero number = []
hex_digits (suc width) number = hex_digits width (number / 16) ++ hex_digit (number % 16) ∷ []

-- a part of a table, by the part's number and the table's name
abbrev pub part_of : ℕ → List ℕ → List ℕ
part_of part name = codes "part " ++ decimal part ++ codes " of " ++ name

-- what is damaged, where a table goes by this name
abbrev pub damage_text : Damage → List ℕ → List ℕ
damage_text (Catalog at) name = codes "catalog at " ++ decimal at
damage_text (Log table at) name = codes "log of " ++ name ++ codes " at " ++ decimal at
damage_text (PartHash table part kept found) name =
    part_of part name ++ codes ": kept " ++ hex_digits 16 kept ++ codes ", found " ++ hex_digits 16 found
damage_text (PartShape table part) name = part_of part name ++ codes ": shape"

-- the line that says damage
abbrev pub damage_line : Damage → List ℕ → List ℕ
damage_line damage name = codes "Damaged " ++ damage_text damage name ++ codes "\n"
