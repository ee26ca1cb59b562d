-- The canonical text of an expression reads back as it.
use Rattle.std.specs.Prelude.{ℕ, suc, ◌≤◌, ◌==◌, if◌then◌else◌, Bool, true, false, List, [], ◌∷◌, ◌++◌, ◌≡◌, IsTrue, codes}
use Rattle.std.specs.List.{flat_map}
use Rattle.std.proofs.Common.{refl, append_assoc, inl, arith}
use Rattle.chv_ast.specs.Formed.{FormedIn, FormedArgs, FormedExpr, FormedConstant}
use Rattle.chv_ast.specs.Formed as formed
use Rattle.chv_ast.specs.Grammar.{Spells, AreSpelled, AreBehind, IsExpr, IsLiteral, IsBinary, level_of, left_level, unary_level}
use Rattle.chv_ast.specs.Grammar as grammar
use Rattle.chv_ast.specs.Lexemes.{Lexeme, is_reserved}
use Rattle.chv_ast.specs.Words.{IsName, IsDigits, is_word_text}
use Rattle.chv_ast.specs.declared.expr.UnaryOp.TheVariants as unary
use Rattle.chv_ast.specs.declared.expr.BinaryOp.{BinaryOp}
use Rattle.chv_ast.specs.declared.expr.BinaryOp.TheVariants as binary
use Rattle.chv_ast.specs.declared.expr.Literal.{Literal}
use Rattle.chv_ast.specs.declared.expr.Literal.TheVariants as literal
use Rattle.chv_ast.specs.declared.expr.Expr.{Expr}
use Rattle.chv_ast.specs.declared.expr.Expr.TheVariants as expr
use Rattle.chv_ast.specs.declared.expr.Args.{Args}
use Rattle.chv_lex.specs.Bytes.{begins}
use Rattle.chv_lex.specs.Spellings.{is_sign_byte, is_sign_pair}
use Rattle.chv_print.specs.Texts.{name_text, literal_text, listed, enclosed}
use Rattle.chv_print.specs.ExprTexts.{expr_text, argument_texts, binary_text}
use Rattle.chv_print.proofs.ExprLaws.{text-Column, text-Literal, text-Unary, text-Binary, text-Call, texts-End, texts-More}
use Rattle.chv_print.proofs.Parts.{ends_tokens, IsPart, part_then, part_spaced, part_empty, part_open, part_minus, part_comma, part_closing, part_sign, sign_token, word_token}
use Rattle.chv_print.proofs.Prints.{Prints}
use Rattle.chv_print.proofs.Tokens.{part_word, part_name, part_digits, part_quoted, name_of-text, digits_of-text, text_of-text, is_keyword-word, is_sign-sign, not_first, no_digit_first, whole_token}

-- a literal without a minus is printed as one token
pub record IsConstant (value : Literal) : Type 0 where
  pub token : Lexeme
  pub written : IsLiteral value token
  pub part : IsPart (literal_text value) (token ∷ [])

constant-Whole : (minus : Bool) (digits : List ℕ) → minus ≡ false → IsDigits digits → IsConstant (literal.Whole minus digits)
constant-Whole true digits e h = cc
constant-Whole false digits e h = record {
  token = whole_token digits;
  written = grammar.Whole (whole_token digits) digits (digits_of-text digits h);
  part = part_digits digits h;
}

pub constant : (value : Literal) → FormedConstant value → IsConstant value
unfolding is_word_text
constant (literal.Whole minus digits) h = constant-Whole minus digits h.0 h.1
constant (literal.Quoted text) h = record { token = _; written = grammar.Quoted _ text (text_of-text text); part = part_quoted text }
constant (literal.Truth true) h = record {
  token = word_token (codes "TRUE");
  written = grammar.True (word_token (codes "TRUE")) (is_keyword-word (codes "TRUE"));
  part = part_word (codes "TRUE") refl;
}
constant (literal.Truth false) h = record {
  token = word_token (codes "FALSE");
  written = grammar.False (word_token (codes "FALSE")) (is_keyword-word (codes "FALSE"));
  part = part_word (codes "FALSE") refl;
}

-- an operation with two operands is printed as one token
record IsOperator (op : BinaryOp) : Type 0 where
  token : Lexeme
  written : IsBinary op token
  part : IsPart (binary_text op) (token ∷ [])
  left : left_level op ≤ 7
  right : suc (level_of op) ≤ 7

operator : (op : BinaryOp) → IsOperator op
unfolding is_word_text is_sign_byte is_sign_pair
operator binary.Or = record { token = word_token (codes "OR"); written = is_keyword-word (codes "OR"); part = part_word (codes "OR") refl; left = omega arith; right = omega arith }
operator binary.And = record { token = word_token (codes "AND"); written = is_keyword-word (codes "AND"); part = part_word (codes "AND") refl; left = omega arith; right = omega arith }
operator binary.Equal = record { token = sign_token (codes "="); written = inl (is_sign-sign (codes "=")); part = part_sign (codes "=") refl refl refl refl refl; left = omega arith; right = omega arith }
operator binary.Unequal = record { token = sign_token (codes "!="); written = inl (is_sign-sign (codes "!=")); part = part_sign (codes "!=") refl refl refl refl refl; left = omega arith; right = omega arith }
operator binary.Less = record { token = sign_token (codes "<"); written = is_sign-sign (codes "<"); part = part_sign (codes "<") refl refl refl refl refl; left = omega arith; right = omega arith }
operator binary.LessEqual = record { token = sign_token (codes "<="); written = is_sign-sign (codes "<="); part = part_sign (codes "<=") refl refl refl refl refl; left = omega arith; right = omega arith }
operator binary.Greater = record { token = sign_token (codes ">"); written = is_sign-sign (codes ">"); part = part_sign (codes ">") refl refl refl refl refl; left = omega arith; right = omega arith }
operator binary.GreaterEqual = record { token = sign_token (codes ">="); written = is_sign-sign (codes ">="); part = part_sign (codes ">=") refl refl refl refl refl; left = omega arith; right = omega arith }
operator binary.Plus = record { token = sign_token (codes "+"); written = is_sign-sign (codes "+"); part = part_sign (codes "+") refl refl refl refl refl; left = omega arith; right = omega arith }
operator binary.Minus = record { token = sign_token (codes "-"); written = is_sign-sign (codes "-"); part = part_sign (codes "-") refl refl refl refl refl; left = omega arith; right = omega arith }
operator binary.Times = record { token = sign_token (codes "*"); written = is_sign-sign (codes "*"); part = part_sign (codes "*") refl refl refl refl refl; left = omega arith; right = omega arith }
operator binary.Modulo = record { token = sign_token (codes "%"); written = is_sign-sign (codes "%"); part = part_sign (codes "%") refl refl refl refl refl; left = omega arith; right = omega arith }

-- the text of a name does not begin with a minus
name_no_minus : (name : List ℕ) → IsName name → (behind : List ℕ) → begins (λ next. next == 45) (name_text name ++ behind) ≡ false
unfolding name_text
name_no_minus name h behind =
    elim (is_reserved name) as (λ r. begins (λ next. next == 45) ((if r then 96 ∷ name ++ 96 ∷ [] else name) ++ behind) ≡ false) [
      | true ↦ refl
      | false ↦ not_first name 45 h refl behind
    ]

constant_no_minus : (value : Literal) → FormedConstant value → (behind : List ℕ) → begins (λ next. next == 45) (literal_text value ++ behind) ≡ false
constant_no_minus (literal.Whole true digits) h behind = let e = h.0 in cc
constant_no_minus (literal.Whole false digits) h behind = no_digit_first digits 45 h.1 refl behind
constant_no_minus (literal.Quoted text) h behind = refl
constant_no_minus (literal.Truth true) h behind = refl
constant_no_minus (literal.Truth false) h behind = refl

-- the text of an expression does not begin with a minus
no_minus : (room : ℕ) (e : Expr) → FormedIn room e → (behind : List ℕ) → begins (λ next. next == 45) (expr_text e ++ behind) ≡ false
no_minus room e (formed.Column r name h) behind = rw (text-Column name) (name_no_minus name h behind)
no_minus room e (formed.Constant r value h) behind = rw (text-Literal value) (constant_no_minus value h behind)
no_minus room e (formed.Unary r op arg h) behind = rw (text-Unary op arg) refl
no_minus room e (formed.Binary r op left right h k) behind = rw (text-Binary op left right) refl
no_minus room e (formed.Call r function list h k) behind =
    let rest = enclosed (listed (λ text. text) (argument_texts list)) in
    rw (text-Call function list, append_assoc (name_text function) rest behind) (name_no_minus function h (rest ++ behind))

ends_arguments : (texts : List (List ℕ)) → IsTrue (ends_tokens (flat_map (λ text. codes ", " ++ text) texts))
ends_arguments [] = refl
ends_arguments (text ∷ texts) = refl

part_not : IsPart (codes "NOT") (word_token (codes "NOT") ∷ [])
unfolding is_word_text
part_not = part_word (codes "NOT") refl

mutual
  -- an expression is printed as it is written, between parentheses where it is an operation
  printed : (room : ℕ) (e : Expr) → FormedIn room e → Prints (Spells 7 room room) e (expr_text e)
  printed room e (formed.Column r name h) = rw (text-Column name) (record {
    lexemes = word_token (name_text name) ∷ [];
    written = grammar.Column r (suc r) (word_token (name_text name)) name (name_of-text name h);
    part = part_name name h;
  })
  printed room e (formed.Constant r value h) = let c = constant value h in rw (text-Literal value) (record {
    lexemes = c.token ∷ [];
    written = grammar.Constant r (suc r) c.token value c.written;
    part = c.part;
  })
  printed room e (formed.Unary r unary.Minus arg h) = let k = printed r arg h in rw (text-Unary unary.Minus arg) (record {
    lexemes = sign_token (codes "(") ∷ (sign_token (codes "-") ∷ k.lexemes) ++ sign_token (codes ")") ∷ [];
    written = grammar.Nested 6 (suc r) r (sign_token (codes "(")) (sign_token (codes ")")) (expr.Unary unary.Minus arg)
        (sign_token (codes "-") ∷ k.lexemes) (is_sign-sign (codes "(")) (is_sign-sign (codes ")"))
        (grammar.Unary unary.Minus 7 r r (sign_token (codes "-")) arg k.lexemes (is_sign-sign (codes "-")) (omega arith) k.written);
    part = part_open (part_minus (part_then k.part refl part_closing)
        (λ behind. rw (append_assoc (expr_text arg) (codes ")") behind) (no_minus r arg h (codes ")" ++ behind))));
  })
  printed room e (formed.Unary r unary.Not arg h) = let k = printed r arg h in rw (text-Unary unary.Not arg) (record {
    lexemes = sign_token (codes "(") ∷ (word_token (codes "NOT") ∷ k.lexemes) ++ sign_token (codes ")") ∷ [];
    written = grammar.Nested 2 (suc r) r (sign_token (codes "(")) (sign_token (codes ")")) (expr.Unary unary.Not arg)
        (word_token (codes "NOT") ∷ k.lexemes) (is_sign-sign (codes "(")) (is_sign-sign (codes ")"))
        (grammar.Unary unary.Not 7 r r (word_token (codes "NOT")) arg k.lexemes (is_keyword-word (codes "NOT")) (omega arith) k.written);
    part = part_open (part_then part_not refl (part_spaced (part_then k.part refl part_closing)));
  })
  printed room e (formed.Binary r op left right h k) =
      let l = printed r left h in
      let o = operator op in
      let m = printed r right k in
      rw (text-Binary op left right) (record {
        lexemes = sign_token (codes "(") ∷ (l.lexemes ++ o.token ∷ m.lexemes) ++ sign_token (codes ")") ∷ [];
        written = grammar.Nested (level_of op) (suc r) r (sign_token (codes "(")) (sign_token (codes ")")) (expr.Binary op left right)
            (l.lexemes ++ o.token ∷ m.lexemes) (is_sign-sign (codes "(")) (is_sign-sign (codes ")"))
            (grammar.Binary op 7 7 r r o.token left right l.lexemes m.lexemes o.written o.left o.right l.written m.written);
        part = rw (append_assoc l.lexemes (o.token ∷ m.lexemes) (sign_token (codes ")") ∷ []))
            (part_open (part_then l.part refl (part_spaced (part_then o.part refl (part_spaced (part_then m.part refl part_closing))))));
      })
  printed room e (formed.Call r function list h k) = let a = arguments_printed 8 r list k in rw (text-Call function list) (record {
    lexemes = word_token (name_text function) ∷ sign_token (codes "(") ∷ a.lexemes ++ sign_token (codes ")") ∷ [];
    written = grammar.Call r r (word_token (name_text function)) (sign_token (codes "(")) (sign_token (codes ")")) function list a.lexemes
        (name_of-text function h) (is_sign-sign (codes "(")) (is_sign-sign (codes ")")) a.written;
    part = part_then (part_name function h) refl (part_open (part_then a.part refl part_closing));
  })

  -- the arguments of a call
  arguments_printed : (count room : ℕ) (list : Args) → FormedArgs count room list
      → Prints (AreSpelled count room room) list (listed (λ text. text) (argument_texts list))
  arguments_printed count room list (formed.End n r) = rw texts-End (record { lexemes = []; written = grammar.Nothing n r r; part = part_empty })
  arguments_printed count room list (formed.More n r first rest h k) =
      let f = printed r first h in
      let b = more_printed n r rest k in
      rw (texts-More first rest) (record {
        lexemes = f.lexemes ++ b.lexemes;
        written = grammar.First n 7 r r first rest f.lexemes b.lexemes f.written b.written;
        part = part_then f.part (ends_arguments (argument_texts rest)) b.part;
      })

  -- the arguments of a call behind the first
  more_printed : (count room : ℕ) (list : Args) → FormedArgs count room list
      → Prints (AreBehind count room room) list (flat_map (λ text. codes ", " ++ text) (argument_texts list))
  more_printed count room list (formed.End n r) = rw texts-End (record { lexemes = []; written = grammar.End n r r; part = part_empty })
  more_printed count room list (formed.More n r first rest h k) =
      let f = printed r first h in
      let b = more_printed n r rest k in
      rw (texts-More first rest) (record {
        lexemes = sign_token (codes ",") ∷ f.lexemes ++ b.lexemes;
        written = grammar.More n 7 r r (sign_token (codes ",")) first rest f.lexemes b.lexemes (is_sign-sign (codes ",")) f.written b.written;
        part = part_then part_comma refl (part_spaced (part_then f.part (ends_arguments (argument_texts rest)) b.part));
      })

-- an expression within its bounds is printed
pub printed_expr : (e : Expr) → FormedExpr e → Prints IsExpr e (expr_text e)
printed_expr e h =
    let p = printed 128 e h in
    record { lexemes = p.lexemes; written = record { level = 7; spelled = p.written }; part = p.part }
