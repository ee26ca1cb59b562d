-- The lines that are said to clients: docs/FORMATS.md, "Replies".
use Rattle.std.specs.Prelude.{ℕ, List, ◌++◌, codes, decimal}
use Rattle.chv_ast.specs.declared.refusal.Refusal.{Refusal}
use Rattle.chv_ast.specs.Refusals.{code_of, name_of}

-- a line to a client, by its number
abbrev pub line_to : ℕ → List ℕ → List ℕ
line_to client text = codes "@" ++ decimal client ++ codes " " ++ text ++ codes "\n"

-- a statement is done
abbrev pub ok_line : ℕ → List ℕ
ok_line client = line_to client (codes "Ok.")

-- an insert is done: how many of its deliveries were written, and how many skipped
abbrev pub insert_line : ℕ → ℕ → ℕ → List ℕ
insert_line client written skipped =
    line_to client (codes "Ok. " ++ decimal written ++ codes " written, " ++ decimal skipped ++ codes " skipped")

-- a select is done: the number of its rows
abbrev pub rows_line : ℕ → ℕ → List ℕ
rows_line client rows = line_to client (codes "Ok. " ++ decimal rows ++ codes " rows")

-- a statement is refused
abbrev pub refused_line : ℕ → Refusal → List ℕ
refused_line client refusal = line_to client (codes "Refused " ++ decimal (code_of refusal) ++ codes " " ++ name_of refusal)
