-- The refusals, as clients are told them: docs/SQL.md, "Refusals".
use Rattle.std.specs.Prelude.{ℕ, List, codes}
use Rattle.chv_ast.specs.declared.refusal.Refusal.{Refusal}
use Rattle.chv_ast.specs.declared.refusal.Refusal.TheVariants.{Syntax, UnknownTable, UnknownColumn, NameTaken, UnknownFunction, TypeMismatch, BadLiteral, WrongWidth, DivisionByZero, ViewCycle, TooManyPaths, NeedsFinal, ColumnNotMergeable, AsyncWithViews, LimitPassed, NotBuilt}

-- the number of a refusal
abbrev pub code_of : Refusal → ℕ
code_of Syntax = 1
code_of UnknownTable = 2
code_of UnknownColumn = 3
code_of NameTaken = 4
code_of UnknownFunction = 5
code_of TypeMismatch = 6
code_of BadLiteral = 7
code_of WrongWidth = 8
code_of DivisionByZero = 9
code_of ViewCycle = 10
code_of TooManyPaths = 11
code_of NeedsFinal = 12
code_of ColumnNotMergeable = 13
code_of AsyncWithViews = 14
code_of LimitPassed = 15
code_of NotBuilt = 16

-- the name of a refusal
abbrev pub name_of : Refusal → List ℕ
name_of Syntax = codes "Syntax"
name_of UnknownTable = codes "UnknownTable"
name_of UnknownColumn = codes "UnknownColumn"
name_of NameTaken = codes "NameTaken"
name_of UnknownFunction = codes "UnknownFunction"
name_of TypeMismatch = codes "TypeMismatch"
name_of BadLiteral = codes "BadLiteral"
name_of WrongWidth = codes "WrongWidth"
name_of DivisionByZero = codes "DivisionByZero"
name_of ViewCycle = codes "ViewCycle"
name_of TooManyPaths = codes "TooManyPaths"
name_of NeedsFinal = codes "NeedsFinal"
name_of ColumnNotMergeable = codes "ColumnNotMergeable"
name_of AsyncWithViews = codes "AsyncWithViews"
name_of LimitPassed = codes "LimitPassed"
name_of NotBuilt = codes "NotBuilt"
