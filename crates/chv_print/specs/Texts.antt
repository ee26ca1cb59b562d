-- The canonical text of names, literals and lists: docs/SQL.md, "Canonical text".
use Rattle.std.specs.Prelude.{ℕ, ◌==◌, List, [], ◌∷◌, ◌++◌, if◌then◌else◌, codes, Option, Some, None}
use Rattle.std.specs.List.{flat_map, join_by}
use Rattle.chv_ast.specs.Lexemes.{is_reserved}
use Rattle.chv_ast.specs.declared.expr.Literal.{Literal}
use Rattle.chv_ast.specs.declared.expr.Literal.TheVariants as literal

-- a text, and another one behind it
infixr 60 ◌<>◌
abbrev pub ◌<>◌ : List ℕ → List ℕ → List ℕ
text <> behind = text ++ behind

-- a name, in backquotes where it is a reserved word
unfoldable pub name_text : List ℕ → List ℕ
name_text name = if is_reserved name then codes "`" <> name <> codes "`" else name

-- a byte of a text: behind a backslash where it is one of the eight that have an escape
unfoldable pub escaped : ℕ → List ℕ
escaped byte =
    if byte == 8 then codes "\\b"
    else (if byte == 12 then codes "\\f"
    else (if byte == 13 then codes "\\r"
    else (if byte == 10 then codes "\\n"
    else (if byte == 9 then codes "\\t"
    else (if byte == 0 then codes "\\0"
    else (if byte == 39 then codes "\\'"
    else (if byte == 92 then codes "\\\\"
    else byte ∷ [])))))))

-- a text in quotes
abbrev pub quoted_text : List ℕ → List ℕ
quoted_text text = codes "'" <> flat_map escaped text <> codes "'"

-- a literal
abbrev pub literal_text : Literal → List ℕ
literal_text (literal.Whole minus digits) = (if minus then codes "-" else []) <> digits
literal_text (literal.Quoted text) = quoted_text text
literal_text (literal.Truth truth) = if truth then codes "TRUE" else codes "FALSE"

-- texts with a comma and a space between two of them
abbrev pub listed : {A : Type 0} → (A → List ℕ) → List A → List ℕ
listed text values = join_by text (codes ", ") values

-- a text in parentheses
abbrev pub enclosed : List ℕ → List ℕ
enclosed text = codes "(" <> text <> codes ")"

-- what may be absent, behind its words
abbrev pub optional_text : {A : Type 0} → List ℕ → (A → List ℕ) → Option A → List ℕ
optional_text words text None = []
optional_text words text (Some value) = words <> text value

-- a list that may be empty, behind its words
abbrev pub list_text : {A : Type 0} → List ℕ → (A → List ℕ) → List A → List ℕ
list_text words text [] = []
list_text words text (value ∷ values) = words <> listed text (value ∷ values)
