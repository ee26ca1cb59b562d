-- How expressions are written: docs/SQL.md, "Expressions".
use Rattle.std.specs.Prelude.{ℕ, suc, ◌≤◌, ◌≡◌, ◌⊎◌, List, [], ◌∷◌, ◌++◌, true, false, Some, codes, IsTrue}
use Rattle.std.specs.Str.{str_eq_ignore_ascii_case}
use Rattle.chv_ast.specs.Lexemes.{Lexeme, is_keyword, is_sign, name_of, digits_of, text_of}
use Rattle.chv_ast.specs.declared.expr.UnaryOp.{UnaryOp}
use Rattle.chv_ast.specs.declared.expr.UnaryOp.TheVariants as unary
use Rattle.chv_ast.specs.declared.expr.BinaryOp.{BinaryOp}
use Rattle.chv_ast.specs.declared.expr.BinaryOp.TheVariants as binary
use Rattle.chv_ast.specs.declared.expr.Literal.{Literal}
use Rattle.chv_ast.specs.declared.expr.Literal.TheVariants as literal
use Rattle.chv_ast.specs.declared.expr.Expr.{Expr}
use Rattle.chv_ast.specs.declared.expr.Expr.TheVariants as expr
use Rattle.chv_ast.specs.declared.expr.Args.{Args}
use Rattle.chv_ast.specs.declared.expr.Args.TheVariants as args

-- a literal without a minus, as one token
pub data IsLiteral : Literal → Lexeme → Type 0 where
  Whole : (token : Lexeme) (digits : List ℕ) → digits_of token ≡ Some digits → IsLiteral (literal.Whole false digits) token
  Quoted : (token : Lexeme) (text : List ℕ) → text_of token ≡ Some text → IsLiteral (literal.Quoted text) token
  True : (token : Lexeme) → IsTrue (is_keyword (codes "TRUE") token) → IsLiteral (literal.Truth true) token
  False : (token : Lexeme) → IsTrue (is_keyword (codes "FALSE") token) → IsLiteral (literal.Truth false) token

-- how an operation with one operand is written
abbrev pub IsUnary : UnaryOp → Lexeme → Type 0
IsUnary unary.Minus token = IsTrue (is_sign (codes "-") token)
IsUnary unary.Not token = IsTrue (is_keyword (codes "NOT") token)

-- how an operation with two operands is written: `==` is `=`, and `<>` is `!=`
abbrev pub IsBinary : BinaryOp → Lexeme → Type 0
IsBinary binary.Or token = IsTrue (is_keyword (codes "OR") token)
IsBinary binary.And token = IsTrue (is_keyword (codes "AND") token)
IsBinary binary.Equal token = IsTrue (is_sign (codes "=") token) ⊎ IsTrue (is_sign (codes "==") token)
IsBinary binary.Unequal token = IsTrue (is_sign (codes "!=") token) ⊎ IsTrue (is_sign (codes "<>") token)
IsBinary binary.Less token = IsTrue (is_sign (codes "<") token)
IsBinary binary.LessEqual token = IsTrue (is_sign (codes "<=") token)
IsBinary binary.Greater token = IsTrue (is_sign (codes ">") token)
IsBinary binary.GreaterEqual token = IsTrue (is_sign (codes ">=") token)
IsBinary binary.Plus token = IsTrue (is_sign (codes "+") token)
IsBinary binary.Minus token = IsTrue (is_sign (codes "-") token)
IsBinary binary.Times token = IsTrue (is_sign (codes "*") token)
IsBinary binary.Modulo token = IsTrue (is_sign (codes "%") token)

-- how tightly an operation binds: OR 0, AND 1, NOT 2, comparisons 3, sums 4, products 5, a minus 6, and what stands by itself 7
abbrev pub level_of : BinaryOp → ℕ
level_of binary.Or = 0
level_of binary.And = 1
level_of binary.Equal = 3
level_of binary.Unequal = 3
level_of binary.Less = 3
level_of binary.LessEqual = 3
level_of binary.Greater = 3
level_of binary.GreaterEqual = 3
level_of binary.Plus = 4
level_of binary.Minus = 4
level_of binary.Times = 5
level_of binary.Modulo = 5

-- how tightly an operation with one operand binds
abbrev pub unary_level : UnaryOp → ℕ
unary_level unary.Minus = 6
unary_level unary.Not = 2

-- how tightly the left operand binds at least: chains go to the left, but a comparison is no operand of one
abbrev pub left_level : BinaryOp → ℕ
left_level binary.Or = 0
left_level binary.And = 1
left_level binary.Equal = 4
left_level binary.Unequal = 4
left_level binary.Less = 4
left_level binary.LessEqual = 4
left_level binary.Greater = 4
left_level binary.GreaterEqual = 4
left_level binary.Plus = 4
left_level binary.Minus = 4
left_level binary.Times = 5
left_level binary.Modulo = 5

-- a token that is the sign
abbrev pub IsSign : List ℕ → Lexeme → Type 0
IsSign sign token = IsTrue (is_sign sign token)

mutual
  -- the tokens write the expression: it binds as the level says, its tree is at most `room` deep, a leaf being 1 deep, and at
  -- most `nest` parentheses are open in it at one place
  pub data Spells : (level room nest : ℕ) → Expr → List Lexeme → Type 0 where
    Column : (room nest : ℕ) (token : Lexeme) (name : List ℕ) → name_of token ≡ Some name
        → Spells 7 (suc room) nest (expr.Column name) (token ∷ [])
    Constant : (room nest : ℕ) (token : Lexeme) (value : Literal) → IsLiteral value token
        → Spells 7 (suc room) nest (expr.Literal value) (token ∷ [])
    Unary : (op : UnaryOp) (level room nest : ℕ) (token : Lexeme) (arg : Expr) (us : List Lexeme)
        → IsUnary op token → unary_level op ≤ level → Spells level room nest arg us
        → Spells (unary_level op) (suc room) nest (expr.Unary op arg) (token ∷ us)
    Binary : (op : BinaryOp) (before behind room nest : ℕ) (token : Lexeme) (left right : Expr) (us vs : List Lexeme)
        → IsBinary op token → left_level op ≤ before → suc (level_of op) ≤ behind
        → Spells before room nest left us → Spells behind room nest right vs
        → Spells (level_of op) (suc room) nest (expr.Binary op left right) (us ++ token ∷ vs)
    Call : (room nest : ℕ) (token opening closing : Lexeme) (function : List ℕ) (list : Args) (us : List Lexeme)
        → name_of token ≡ Some function → IsSign (codes "(") opening → IsSign (codes ")") closing
        → AreSpelled 8 room nest list us
        → Spells 7 (suc room) (suc nest) (expr.Call function list) (token ∷ opening ∷ us ++ closing ∷ [])
    Count : (room nest : ℕ) (token opening star closing : Lexeme) (function : List ℕ)
        → name_of token ≡ Some function → IsTrue (str_eq_ignore_ascii_case function (codes "COUNT"))
        → IsSign (codes "(") opening → IsSign (codes "*") star → IsSign (codes ")") closing
        → Spells 7 (suc room) (suc nest) (expr.Call function args.End) (token ∷ opening ∷ star ∷ closing ∷ [])
    Nested : (level room nest : ℕ) (opening closing : Lexeme) (e : Expr) (us : List Lexeme)
        → IsSign (codes "(") opening → IsSign (codes ")") closing → Spells level room nest e us
        → Spells 7 room (suc nest) e (opening ∷ us ++ closing ∷ [])

  -- the tokens write the arguments, of which there are at most `count`, with a comma between two of them
  pub data AreSpelled : (count room nest : ℕ) → Args → List Lexeme → Type 0 where
    Nothing : (count room nest : ℕ) → AreSpelled count room nest args.End []
    First : (count level room nest : ℕ) (first : Expr) (list : Args) (us vs : List Lexeme)
        → Spells level room nest first us → AreBehind count room nest list vs
        → AreSpelled (suc count) room nest (args.More first list) (us ++ vs)

  -- the same behind an argument
  pub data AreBehind : (count room nest : ℕ) → Args → List Lexeme → Type 0 where
    End : (count room nest : ℕ) → AreBehind count room nest args.End []
    More : (count level room nest : ℕ) (comma : Lexeme) (first : Expr) (list : Args) (us vs : List Lexeme)
        → IsSign (codes ",") comma → Spells level room nest first us → AreBehind count room nest list vs
        → AreBehind (suc count) room nest (args.More first list) (comma ∷ us ++ vs)

-- the tokens write the expression, within the bounds: 128 deep, and 128 open parentheses
pub record IsExpr (e : Expr) (tokens : List Lexeme) : Type 0 where
  pub level : ℕ
  pub spelled : Spells level 128 128 e tokens
