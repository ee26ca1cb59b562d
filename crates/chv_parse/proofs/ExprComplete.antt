-- What is written as an expression is read.
use Rattle.std.proofs.Common.{◌≡◌, ◌≤◌, ◌<◌, ℕ, zero, suc, ◌+◌, max, List, [], ◌∷◌, ◌++◌, true, false, refl, ap, sym, ◌∙◌, subst, Option, Some, None, arith, append_assoc, ◌⊎◌, inl, inr}
use Rattle.std.specs.Prelude.{codes, IsTrue, if◌then◌else◌, nat_le}
use Rattle.std.specs.Str.{str_eq_ignore_ascii_case}
use Rattle.std.proofs.lemmas.Bool.Decides.{leb_tells}
use Rattle.std.proofs.Math.Dec.{eqb-suc-zero}
use Rattle.chv_ast.specs.Grammar.{Spells, AreSpelled, AreBehind, IsBinary, IsUnary, IsLiteral, IsSign, level_of, unary_level, left_level}
use Rattle.chv_ast.specs.Lexemes.{Lexeme, is_sign, name_of}
use Rattle.chv_ast.specs.declared.expr.BinaryOp.{BinaryOp}
use Rattle.chv_ast.specs.declared.expr.BinaryOp.TheVariants as binary
use Rattle.chv_ast.specs.declared.expr.UnaryOp.{UnaryOp}
use Rattle.chv_ast.specs.declared.expr.UnaryOp.TheVariants as unary
use Rattle.chv_ast.specs.declared.expr.Literal.{Literal}
use Rattle.chv_ast.specs.declared.expr.Expr.{Expr}
use Rattle.chv_ast.specs.declared.expr.Expr.TheVariants as expr
use Rattle.chv_ast.specs.declared.expr.Args.{Args}
use Rattle.chv_ast.specs.declared.expr.Args.TheVariants as args
use Rattle.chv_parse.specs.Reading.{Reader, ◌>>=◌, ◌>>◌, given, meant, marked, next_is}
use Rattle.chv_parse.specs.declared.expr_reading.Operand.{Operand}
use Rattle.chv_parse.specs.declared.expr_reading.Arguments.{Arguments}
use Rattle.chv_parse.specs.ExprReading.{EndsExpr, sign_next, read_sign, operation_next, leaf, over, between, calling, no_arguments, with_argument, read_literal, read_opening, read_nested, read_more, read_next, read_chain, read_some, read_star, read_arguments, read_call, read_named, read_atom, is_unary, read_unary, read_operand, takes, passing, onward, climb, read_in, read_at, read_inside}
use Rattle.chv_parse.proofs.ExprSteps.{none_read, both_reads, marked_reads}
use Rattle.chv_parse.proofs.ExprTokens.{IsBinary-operation_next, IsBinary-opening, name-stays, name-is_name, literal-stays, literal-is_name, keyword-keyword, sign-sign, sign-keyword, digits-keyword, digits-quoted, text-keyword, text-quoted, comma-EndsExpr, closing-EndsExpr, Begins, stays-Begins, opening-Begins, unary-Begins, append-Begins}

-- ---- operations that go on, and where none does

-- what numbers tell of a test
pub leb-yes : (a b : ℕ) → a ≤ b → nat_le a b ≡ true
leb-yes a b h = by (leb_tells a b)
  where
    by : ((nat_le a b ≡ true) × (a ≤ b)) ⊎ ((nat_le a b ≡ false) × (b < a)) → nat_le a b ≡ true
    by (inl t) = t.0
    by (inr t) = absurd (omega (arith, t.1))

pub leb-no : (a b : ℕ) → b < a → nat_le a b ≡ false
leb-no a b h = by (leb_tells a b)
  where
    by : ((nat_le a b ≡ true) × (a ≤ b)) ⊎ ((nat_le a b ≡ false) × (b < a)) → nat_le a b ≡ false
    by (inl t) = absurd (omega (arith, t.1))
    by (inr t) = t.0

pub takes-true : (room level : ℕ) (left : Operand) (op : BinaryOp) → level ≤ level_of op → left_level op ≤ left.level → left.depth ≤ room → takes room level left op ≡ true
unfolding takes
takes-true room level left op a b c = rw (leb-yes level (level_of op) a, leb-yes (left_level op) left.level b, leb-yes left.depth room c) refl

takes-false : (room level : ℕ) (left : Operand) (op : BinaryOp) → level_of op < level → takes room level left op ≡ false
unfolding takes
takes-false room level left op a = rw (leb-no level (level_of op) a) refl

-- no operation comes next that binds as tightly as the level says
abbrev pub Halts : (level : ℕ) → List Lexeme → Type 0
Halts level tokens = (op : BinaryOp) → operation_next tokens ≡ Some op → level_of op < level

onward-halts : (room level : ℕ) (left : Operand) (tokens : List Lexeme) → Halts level tokens → onward room level left tokens ≡ None
unfolding onward
onward-halts room level left tokens h = by (operation_next tokens) refl
  where
    by : (o : Option BinaryOp) → operation_next tokens ≡ o → passing (takes room level left) o ≡ None
    by None e = refl
    by (Some op) e = rw (takes-false room level left op (h op e)) refl

pub climb-halts : (deeper : ℕ → Reader Operand) (room level turns : ℕ) (left : Operand) (tokens : List Lexeme) → Halts level tokens
    → climb deeper room level turns left tokens ≡ Some (left, tokens)
unfolding climb
climb-halts deeper room level zero left tokens h = refl
climb-halts deeper room level (suc turns) left tokens h = rw (onward-halts room level left tokens h) refl

-- one operation that goes on
pub climb-goes_on : (deeper : ℕ → Reader Operand) (room level turns : ℕ) (op : BinaryOp) (left right : Operand) (token : Lexeme) (tokens behind : List Lexeme)
    → IsBinary op token → level ≤ level_of op → left_level op ≤ left.level → left.depth ≤ room
    → deeper (level_of op + 1) tokens ≡ Some (right, behind)
    → climb deeper room level (suc turns) left (token ∷ tokens) ≡ climb deeper room level turns (between op left right) behind
unfolding climb onward
climb-goes_on deeper room level turns op left right token tokens behind b tight fits shallow r =
    rw (IsBinary-operation_next op token tokens b, takes-true room level left op tight fits shallow)
    (both_reads (deeper (level_of op + 1)) (λ right. climb deeper room level turns (between op left right)) tokens behind right _ r refl)

-- what may stand behind an operation of this level so that it is whole
pub record Stops (level : ℕ) (tokens : List Lexeme) : Type 0 where
  pub no_opening : sign_next (codes "(") tokens ≡ false
  pub loose : (op : BinaryOp) → operation_next tokens ≡ Some op → level_of op ≤ level

-- ---- what is read of what is written

-- reading has come as far as an operand, and so many operations may still follow
pub record Climbed (low least nest : ℕ) (left : Operand) (tokens rest : List Lexeme) : Type 0 where
  pub turns : ℕ
  pub enough : suc low ≤ left.depth + turns
  pub reads : read_at nest (suc low) least tokens ≡ climb (read_at nest low) low least turns left rest

-- an expression that was read
abbrev pub operand : Expr → ℕ → ℕ → Operand
operand e level depth = record { expr = e; level = level; depth = depth }

-- the tokens are read as the expression, and operations behind it are read on with it on their left
pub record ReadsOn (level room nest : ℕ) (e : Expr) (us : List Lexeme) : Type 0 where
  pub depth : ℕ
  pub some : 1 ≤ depth
  pub shallow : depth ≤ room
  pub begins : Begins us
  pub reads : (low least : ℕ) (rest : List Lexeme) → room ≤ suc low → least ≤ level → Stops level rest → Climbed low least nest (operand e level depth) (us ++ rest) rest

-- the whole expression is read, where no operation goes on with it
pub whole : (level room nest : ℕ) (e : Expr) (us : List Lexeme) (r : ReadsOn level room nest e us) (roomy least : ℕ) (rest : List Lexeme) → room ≤ roomy → least ≤ level
    → sign_next (codes "(") rest ≡ false → Halts least rest → read_at nest roomy least (us ++ rest) ≡ Some (operand e level r.depth, rest)
whole level room nest e us r zero least rest h l n halts = absurd (omega (arith, r.some, r.shallow))
whole level room nest e us r (suc low) least rest h l n halts =
    let c = r.reads low least rest h l (record { no_opening = n; loose = λ op k. omega (arith, halts op k) }) in
    c.reads ∙ climb-halts (read_at nest low) low least c.turns (operand e level r.depth) rest halts

-- so it is where an expression ends
pub whole_ends : (level room nest : ℕ) (e : Expr) (us : List Lexeme) (r : ReadsOn level room nest e us) (roomy : ℕ) (rest : List Lexeme) → room ≤ roomy
    → EndsExpr rest → read_at nest roomy 0 (us ++ rest) ≡ Some (operand e level r.depth, rest)
whole_ends level room nest e us r roomy rest h ends =
    whole level room nest e us r roomy 0 rest h (omega arith) ends.0 (λ op k. none_read (level_of op < 0) op (sym ends.1 ∙ k))

read_at-operand : (nest low least : ℕ) (tokens : List Lexeme) → read_at nest (suc low) least tokens
    ≡ (read_operand (read_at nest low) nest (read_inside nest) low least >>= climb (read_at nest low) low least low) tokens
unfolding read_at read_in read_inside read_chain
read_at-operand zero low least tokens = refl
read_at-operand (suc nest) low least tokens = refl

-- what is read as an operand
operand-reads : (level room nest depth : ℕ) (e : Expr) (us : List Lexeme) → 1 ≤ depth → depth ≤ room → Begins us
    → ((low least : ℕ) (rest : List Lexeme) → room ≤ suc low → least ≤ level → Stops level rest
    → read_operand (read_at nest low) nest (read_inside nest) low least (us ++ rest) ≡ Some (operand e level depth, rest))
    → ReadsOn level room nest e us
operand-reads level room nest depth e us some shallow begins f = record {
  depth = depth;
  some = some;
  shallow = shallow;
  begins = begins;
  reads = λ low least rest h l s. record {
    turns = low;
    enough = omega arith;
    reads = read_at-operand nest low least (us ++ rest)
        ∙ both_reads (read_operand (read_at nest low) nest (read_inside nest) low least) (climb (read_at nest low) low least low) (us ++ rest) rest (operand e level depth) _ (f low least rest h l s) refl;
  };
}

-- ---- columns and literals

column-operand : (deeper : ℕ → Reader Operand) (nest : ℕ) (inside : ℕ → Reader Operand) (low least : ℕ) (token : Lexeme) (name : List ℕ) (rest : List Lexeme)
    → name_of token ≡ Some name → sign_next (codes "(") rest ≡ false
    → read_operand deeper nest inside low least (token ∷ rest) ≡ Some (leaf (expr.Column name), rest)
unfolding read_operand read_atom read_named meant next_is
column-operand deeper nest inside low least token name rest h n =
    let s = name-stays token name h in
    rw (s.no_not, s.no_sign (codes "-"), s.no_sign (codes "("), name-is_name token name h, h, n) refl

pub column-reads : (room nest : ℕ) (token : Lexeme) (name : List ℕ) → name_of token ≡ Some name → ReadsOn 7 (suc room) nest (expr.Column name) (token ∷ [])
column-reads room nest token name h =
    operand-reads 7 (suc room) nest 1 (expr.Column name) (token ∷ []) (omega arith) (omega arith) (stays-Begins token [] (name-stays token name h))
    (λ low least rest k l s. column-operand (read_at nest low) nest (read_inside nest) low least token name rest h s.no_opening)

pub literal-read : (value : Literal) (token : Lexeme) (rest : List Lexeme) → IsLiteral value token → read_literal (token ∷ rest) ≡ Some (value, rest)
unfolding read_literal meant marked next_is
literal-read _ _ rest (IsLiteral.Whole token digits h) =
    rw (digits-keyword (codes "TRUE") token digits h, digits-keyword (codes "FALSE") token digits h, digits-quoted token digits h, h) refl
literal-read _ _ rest (IsLiteral.Quoted token text h) =
    rw (text-keyword (codes "TRUE") token text h, text-keyword (codes "FALSE") token text h, text-quoted token text h, h) refl
literal-read _ _ rest (IsLiteral.True token h) = rw h refl
literal-read _ _ rest (IsLiteral.False token h) = rw (keyword-keyword (codes "FALSE") (codes "TRUE") token refl h, h) refl

literal-operand : (deeper : ℕ → Reader Operand) (nest : ℕ) (inside : ℕ → Reader Operand) (low least : ℕ) (token : Lexeme) (value : Literal) (rest : List Lexeme)
    → IsLiteral value token → read_operand deeper nest inside low least (token ∷ rest) ≡ Some (leaf (expr.Literal value), rest)
unfolding read_operand read_atom next_is
literal-operand deeper nest inside low least token value rest h =
    let s = literal-stays value token h in
    rw (s.no_not, s.no_sign (codes "-"), s.no_sign (codes "("), literal-is_name value token h, literal-read value token rest h) refl

pub literal-reads : (room nest : ℕ) (token : Lexeme) (value : Literal) → IsLiteral value token → ReadsOn 7 (suc room) nest (expr.Literal value) (token ∷ [])
literal-reads room nest token value h =
    operand-reads 7 (suc room) nest 1 (expr.Literal value) (token ∷ []) (omega arith) (omega arith) (stays-Begins token [] (literal-stays value token h))
    (λ low least rest k l s. literal-operand (read_at nest low) nest (read_inside nest) low least token value rest h)

-- ---- operations

-- the levels of operations with one operand are none of those with two
pub level-apart : (op : BinaryOp) (one : UnaryOp) → level_of op ≤ unary_level one → level_of op < unary_level one
level-apart binary.Or unary.Minus h = omega arith
level-apart binary.And unary.Minus h = omega arith
level-apart binary.Equal unary.Minus h = omega arith
level-apart binary.Unequal unary.Minus h = omega arith
level-apart binary.Less unary.Minus h = omega arith
level-apart binary.LessEqual unary.Minus h = omega arith
level-apart binary.Greater unary.Minus h = omega arith
level-apart binary.GreaterEqual unary.Minus h = omega arith
level-apart binary.Plus unary.Minus h = omega arith
level-apart binary.Minus unary.Minus h = omega arith
level-apart binary.Times unary.Minus h = omega arith
level-apart binary.Modulo unary.Minus h = omega arith
level-apart binary.Or unary.Not h = omega arith
level-apart binary.And unary.Not h = omega arith
level-apart binary.Equal unary.Not h = absurd (omega arith)
level-apart binary.Unequal unary.Not h = absurd (omega arith)
level-apart binary.Less unary.Not h = absurd (omega arith)
level-apart binary.LessEqual unary.Not h = absurd (omega arith)
level-apart binary.Greater unary.Not h = absurd (omega arith)
level-apart binary.GreaterEqual unary.Not h = absurd (omega arith)
level-apart binary.Plus unary.Not h = absurd (omega arith)
level-apart binary.Minus unary.Not h = absurd (omega arith)
level-apart binary.Times unary.Not h = absurd (omega arith)
level-apart binary.Modulo unary.Not h = absurd (omega arith)

-- a left operand binds at least as tightly as its operation
pub left_level-bound : (op : BinaryOp) → level_of op ≤ left_level op
left_level-bound binary.Or = omega arith
left_level-bound binary.And = omega arith
left_level-bound binary.Equal = omega arith
left_level-bound binary.Unequal = omega arith
left_level-bound binary.Less = omega arith
left_level-bound binary.LessEqual = omega arith
left_level-bound binary.Greater = omega arith
left_level-bound binary.GreaterEqual = omega arith
left_level-bound binary.Plus = omega arith
left_level-bound binary.Minus = omega arith
left_level-bound binary.Times = omega arith
left_level-bound binary.Modulo = omega arith

unary-operand : (deeper : ℕ → Reader Operand) (nest : ℕ) (inside : ℕ → Reader Operand) (low least : ℕ) (op : UnaryOp) (token : Lexeme) (tokens : List Lexeme)
    → IsUnary op token → read_operand deeper nest inside low least (token ∷ tokens) ≡ read_unary deeper least op (token ∷ tokens)
unfolding read_operand next_is
unary-operand deeper nest inside low least unary.Minus token tokens h = rw (sign-keyword (codes "-") (codes "NOT") token h, h) refl
unary-operand deeper nest inside low least unary.Not token tokens h = rw h refl

unary-read : (deeper : ℕ → Reader Operand) (least : ℕ) (op : UnaryOp) (token : Lexeme) (tokens rest : List Lexeme) (arg : Operand) → IsUnary op token
    → least ≤ unary_level op → deeper (unary_level op) tokens ≡ Some (arg, rest) → read_unary deeper least op (token ∷ tokens) ≡ Some (over op arg, rest)
unfolding read_unary
unary-read deeper least op token tokens rest arg h l e =
    rw (leb-yes least (unary_level op) l)
    (both_reads (marked (is_unary op)) (λ _. deeper (unary_level op) >>= λ arg. given (over op arg)) (token ∷ tokens) tokens tt _ (marked_reads (is_unary op) token tokens (by op h))
    (both_reads (deeper (unary_level op)) (λ arg. given (over op arg)) tokens rest arg _ e refl))
  where
    by : (o : UnaryOp) → IsUnary o token → IsTrue (is_unary o token)
    by unary.Minus h = h
    by unary.Not h = h

pub unary-reads : (op : UnaryOp) (level room nest : ℕ) (token : Lexeme) (arg : Expr) (us : List Lexeme) → IsUnary op token → unary_level op ≤ level
    → ReadsOn level room nest arg us → ReadsOn (unary_level op) (suc room) nest (expr.Unary op arg) (token ∷ us)
unary-reads op level room nest token arg us h tight r =
    let some = r.some in let shallow = r.shallow in
    operand-reads (unary_level op) (suc room) nest (r.depth + 1) (expr.Unary op arg) (token ∷ us) (omega arith) (omega arith) (unary-Begins op token us h)
    (λ low least rest k l s. unary-operand (read_at nest low) nest (read_inside nest) low least op token (us ++ rest) h
    ∙ unary-read (read_at nest low) least op token (us ++ rest) rest (operand arg level r.depth) h l
    (whole level room nest arg us r low (unary_level op) rest (omega arith) tight s.no_opening (λ other e. level-apart other op (s.loose other e))))

-- behind its left operand an operation goes on
binary-climbs : (op : BinaryOp) (before behind room nest : ℕ) (token : Lexeme) (left right : Expr) (us vs : List Lexeme) → IsBinary op token
    → left_level op ≤ before → suc (level_of op) ≤ behind → (l : ReadsOn before room nest left us) (r : ReadsOn behind room nest right vs)
    → (low least : ℕ) (rest : List Lexeme) → suc room ≤ suc low → least ≤ level_of op → Stops (level_of op) rest
    → Climbed low least nest (operand left before l.depth) (us ++ (token ∷ vs ++ rest)) (token ∷ vs ++ rest)
    → Climbed low least nest (operand (expr.Binary op left right) (level_of op) (max l.depth r.depth + 1)) ((us ++ token ∷ vs) ++ rest) rest
binary-climbs op before behind room nest token left right us vs b fits tight l r low least rest h k s c = by c.turns c.enough c.reads
  where
    shallow : l.depth ≤ low
    shallow = omega (arith, l.shallow)

    second : read_at nest low (level_of op + 1) (vs ++ rest) ≡ Some (operand right behind r.depth, rest)
    second = whole behind room nest right vs r low (level_of op + 1) rest (omega arith) (omega arith) s.no_opening (λ other e. omega (arith, s.loose other e))

    by : (turns : ℕ) → suc low ≤ l.depth + turns
        → read_at nest (suc low) least (us ++ (token ∷ vs ++ rest)) ≡ climb (read_at nest low) low least turns (operand left before l.depth) (token ∷ vs ++ rest)
        → Climbed low least nest (operand (expr.Binary op left right) (level_of op) (max l.depth r.depth + 1)) ((us ++ token ∷ vs) ++ rest) rest
    by zero enough e = absurd (omega (arith, shallow))
    by (suc turns) enough e = record {
      turns = turns;
      enough = omega arith;
      reads = ap (read_at nest (suc low) least) (append_assoc us (token ∷ vs) rest) ∙ e
          ∙ climb-goes_on (read_at nest low) low least turns op (operand left before l.depth) (operand right behind r.depth) token (vs ++ rest) rest b k fits shallow second;
    }

-- a left operand ends in front of its operation
binary-Stops : (op : BinaryOp) (before : ℕ) (token : Lexeme) (tokens : List Lexeme) → IsBinary op token → left_level op ≤ before → Stops before (token ∷ tokens)
unfolding next_is
binary-Stops op before token tokens b fits = record {
  no_opening = IsBinary-opening op token b;
  loose = λ other e.
      let k : Some op ≡ Some other = sym (IsBinary-operation_next op token tokens b) ∙ e in
      let same : op ≡ other = cc in
      subst (λ o. level_of o ≤ before) same (omega (arith, left_level-bound op));
}

pub binary-reads : (op : BinaryOp) (before behind room nest : ℕ) (token : Lexeme) (left right : Expr) (us vs : List Lexeme) → IsBinary op token
    → left_level op ≤ before → suc (level_of op) ≤ behind → ReadsOn before room nest left us → ReadsOn behind room nest right vs
    → ReadsOn (level_of op) (suc room) nest (expr.Binary op left right) (us ++ token ∷ vs)
binary-reads op before behind room nest token left right us vs b fits tight l r =
    let some = l.some in let left_shallow = l.shallow in let right_shallow = r.shallow in
    record {
      depth = max l.depth r.depth + 1;
      some = omega arith;
      shallow = omega arith;
      begins = append-Begins us (token ∷ vs) l.begins;
      reads = λ low least rest h k s. binary-climbs op before behind room nest token left right us vs b fits tight l r low least rest h k s
          (l.reads low least (token ∷ vs ++ rest) (omega arith) (omega (arith, left_level-bound op)) (binary-Stops op before token (vs ++ rest) b fits));
    }

-- ---- parentheses

-- what stands in parentheses, and what follows
enclosed : (opening closing : Lexeme) (us rest : List Lexeme) → (opening ∷ us ++ closing ∷ []) ++ rest ≡ opening ∷ us ++ closing ∷ rest
enclosed opening closing us rest = ap (λ ts. opening ∷ ts) (append_assoc us (closing ∷ []) rest)

opening_reads : (nest : ℕ) (opening : Lexeme) (tokens : List Lexeme) → IsSign (codes "(") opening → read_opening (suc nest) (opening ∷ tokens) ≡ Some (tt, tokens)
unfolding read_opening
opening_reads nest opening tokens h = rw (eqb-suc-zero nest) (marked_reads (is_sign (codes "(")) opening tokens h)

nested-operand : (deeper : ℕ → Reader Operand) (nest : ℕ) (inside : ℕ → Reader Operand) (low least : ℕ) (token : Lexeme) (tokens : List Lexeme)
    → IsSign (codes "(") token → read_operand deeper nest inside low least (token ∷ tokens) ≡ read_nested nest (inside (low + 1)) (token ∷ tokens)
unfolding read_operand read_atom next_is
nested-operand deeper nest inside low least token tokens h =
    rw (sign-keyword (codes "(") (codes "NOT") token h, sign-sign (codes "(") (codes "-") token refl h, h) refl

nested-read : (nest : ℕ) (inside : Reader Operand) (opening closing : Lexeme) (us rest : List Lexeme) (e : Operand) → IsSign (codes "(") opening → IsSign (codes ")") closing
    → inside (us ++ closing ∷ rest) ≡ Some (e, closing ∷ rest)
    → read_nested (suc nest) inside (opening ∷ us ++ closing ∷ rest) ≡ Some (operand e.expr 7 e.depth, rest)
unfolding read_nested
nested-read nest inside opening closing us rest e h k r =
    let made : Operand → Operand = λ e. record { expr = e.expr; level = 7; depth = e.depth } in
    both_reads (read_opening (suc nest)) (λ _. inside >>= λ e. read_sign (codes ")") >> given (made e)) _ (us ++ closing ∷ rest) tt _ (opening_reads nest opening _ h)
    (both_reads inside (λ e. read_sign (codes ")") >> given (made e)) _ (closing ∷ rest) e _ r
    (both_reads (read_sign (codes ")")) (λ _. given (made e)) _ rest tt _ (marked_reads (is_sign (codes ")")) closing rest k) refl))

inside-is : (nest room : ℕ) (tokens : List Lexeme) → read_inside (suc nest) room tokens ≡ read_at nest room 0 tokens
unfolding read_inside
inside-is nest room tokens = refl

pub nested-reads : (level room nest : ℕ) (opening closing : Lexeme) (e : Expr) (us : List Lexeme) → IsSign (codes "(") opening → IsSign (codes ")") closing
    → ReadsOn level room nest e us → ReadsOn 7 room (suc nest) e (opening ∷ us ++ closing ∷ [])
nested-reads level room nest opening closing e us h k r =
    operand-reads 7 room (suc nest) r.depth e (opening ∷ us ++ closing ∷ []) r.some r.shallow (opening-Begins opening (us ++ closing ∷ []) h)
    (λ low least rest a b s.
    ap (read_operand (read_at (suc nest) low) (suc nest) (read_inside (suc nest)) low least) (enclosed opening closing us rest)
    ∙ nested-operand (read_at (suc nest) low) (suc nest) (read_inside (suc nest)) low least opening (us ++ closing ∷ rest) h
    ∙ nested-read nest (read_inside (suc nest) (low + 1)) opening closing us rest (operand e level r.depth) h k
    (inside-is nest (low + 1) (us ++ closing ∷ rest)
    ∙ whole_ends level room nest e us r (low + 1) (closing ∷ rest) (omega arith) (closing-EndsExpr closing rest k)))

-- ---- arguments

-- arguments that were read
abbrev pub arguments : Args → ℕ → Arguments
arguments list depth = record { list = list; depth = depth }

-- the tokens behind an argument are read as further arguments
pub record ReadsMore (count room nest : ℕ) (list : Args) (us : List Lexeme) : Type 0 where
  pub depth : ℕ
  pub shallow : depth ≤ room
  pub ends : (closing : Lexeme) (rest : List Lexeme) → IsSign (codes ")") closing → EndsExpr (us ++ closing ∷ rest)
  pub reads : (low : ℕ) (closing : Lexeme) (rest : List Lexeme) → room ≤ low → IsSign (codes ")") closing
      → read_more (read_at nest low 0) count (us ++ closing ∷ rest) ≡ Some (arguments list depth, closing ∷ rest)

more-end : (inside : Reader Operand) (count : ℕ) (closing : Lexeme) (rest : List Lexeme) → IsSign (codes ")") closing
    → read_more inside count (closing ∷ rest) ≡ Some (no_arguments, closing ∷ rest)
unfolding read_more read_next next_is
more-end inside zero closing rest h = refl
more-end inside (suc count) closing rest h = rw (sign-sign (codes ")") (codes ",") closing refl h) refl

pub end-reads : (count room nest : ℕ) → ReadsMore count room nest args.End []
end-reads count room nest = record {
  depth = 0;
  shallow = omega arith;
  ends = closing-EndsExpr';
  reads = λ low closing rest h k. more-end (read_at nest low 0) count closing rest k;
}
  where
    closing-EndsExpr' : (closing : Lexeme) (rest : List Lexeme) → IsSign (codes ")") closing → EndsExpr (closing ∷ rest)
    closing-EndsExpr' closing rest h = closing-EndsExpr closing rest h

more-read : (inside : Reader Operand) (count : ℕ) (comma : Lexeme) (tokens middle rest : List Lexeme) (first : Operand) (list : Arguments) → IsSign (codes ",") comma
    → inside tokens ≡ Some (first, middle) → read_more inside count middle ≡ Some (list, rest)
    → read_more inside (suc count) (comma ∷ tokens) ≡ Some (with_argument first list, rest)
unfolding read_more read_next next_is
more-read inside count comma tokens middle rest first list h a b =
    rw h
    (both_reads (read_sign (codes ",")) (λ _. inside >>= λ first. read_more inside count >>= λ rest. given (with_argument first rest)) (comma ∷ tokens) tokens tt _ (marked_reads (is_sign (codes ",")) comma tokens h)
    (both_reads inside (λ first. read_more inside count >>= λ rest. given (with_argument first rest)) tokens middle first _ a
    (both_reads (read_more inside count) (λ rest. given (with_argument first rest)) middle rest list _ b refl)))

pub more-reads : (count level room nest : ℕ) (comma : Lexeme) (first : Expr) (list : Args) (us vs : List Lexeme) → IsSign (codes ",") comma
    → ReadsOn level room nest first us → ReadsMore count room nest list vs → ReadsMore (suc count) room nest (args.More first list) (comma ∷ us ++ vs)
more-reads count level room nest comma first list us vs h f m =
    let first_shallow = f.shallow in let more_shallow = m.shallow in
    record {
      depth = max f.depth m.depth;
      shallow = omega arith;
      ends = λ closing rest k. comma-EndsExpr comma ((us ++ vs) ++ closing ∷ rest) h;
      reads = λ low closing rest a k.
          ap (λ ts. read_more (read_at nest low 0) (suc count) (comma ∷ ts)) (append_assoc us vs (closing ∷ rest))
          ∙ more-read (read_at nest low 0) count comma (us ++ (vs ++ closing ∷ rest)) (vs ++ closing ∷ rest) (closing ∷ rest) (operand first level f.depth) (arguments list m.depth) h
          (whole_ends level room nest first us f low (vs ++ closing ∷ rest) a (m.ends closing rest k)) (m.reads low closing rest a k);
    }

-- what stands between the parentheses of a call, with so many arguments behind the first
abbrev pub read_counted : (inside : Reader Operand) (count : ℕ) (function : List ℕ) → Reader Arguments
read_counted inside count function tokens =
    if sign_next (codes ")") tokens then given no_arguments tokens
    else (if sign_next (codes "*") tokens then read_star function tokens
    else (inside >>= λ first. read_more inside count >>= λ rest. given (with_argument first rest)) tokens)

-- the tokens between the parentheses of a call are read as its arguments
pub record ReadsArgs (count room nest : ℕ) (list : Args) (us : List Lexeme) : Type 0 where
  pub depth : ℕ
  pub shallow : depth ≤ room
  pub reads : (behind low : ℕ) (function : List ℕ) (closing : Lexeme) (rest : List Lexeme) → count ≡ suc behind → room ≤ low → IsSign (codes ")") closing
      → read_counted (read_at nest low 0) behind function (us ++ closing ∷ rest) ≡ Some (arguments list depth, closing ∷ rest)

pub nothing-reads : (count room nest : ℕ) → ReadsArgs count room nest args.End []
unfolding next_is
nothing-reads count room nest = record { depth = 0; shallow = omega arith; reads = λ behind low function closing rest e a k. rw k refl }

first-read : (inside : Reader Operand) (count : ℕ) (function : List ℕ) (tokens middle rest : List Lexeme) (first : Operand) (list : Arguments) → Begins tokens
    → inside tokens ≡ Some (first, middle) → read_more inside count middle ≡ Some (list, rest)
    → read_counted inside count function tokens ≡ Some (with_argument first list, rest)
unfolding next_is
first-read inside count function tokens middle rest first list begins a b =
    let c : sign_next (codes ")") tokens ≡ false = ap (sign_next (codes ")")) begins.split ∙ begins.no_closing in
    let s : sign_next (codes "*") tokens ≡ false = ap (sign_next (codes "*")) begins.split ∙ begins.no_star in
    rw (c, s)
    (both_reads inside (λ first. read_more inside count >>= λ rest. given (with_argument first rest)) tokens middle first _ a
    (both_reads (read_more inside count) (λ rest. given (with_argument first rest)) middle rest list _ b refl))

pub first-reads : (count level room nest : ℕ) (first : Expr) (list : Args) (us vs : List Lexeme)
    → ReadsOn level room nest first us → ReadsMore count room nest list vs → ReadsArgs (suc count) room nest (args.More first list) (us ++ vs)
first-reads count level room nest first list us vs f m =
    let first_shallow = f.shallow in let more_shallow = m.shallow in
    record {
      depth = max f.depth m.depth;
      shallow = omega arith;
      reads = λ behind low function closing rest e a k.
          let same : count ≡ behind = omega arith in
          ap (read_counted (read_at nest low 0) behind function) (append_assoc us vs (closing ∷ rest))
          ∙ first-read (read_at nest low 0) behind function (us ++ (vs ++ closing ∷ rest)) (vs ++ closing ∷ rest) (closing ∷ rest) (operand first level f.depth) (arguments list m.depth)
          (append-Begins us (vs ++ closing ∷ rest) f.begins)
          (whole_ends level room nest first us f low (vs ++ closing ∷ rest) a (m.ends closing rest k))
          (subst (λ n. read_more (read_at nest low 0) n (vs ++ closing ∷ rest) ≡ Some (arguments list m.depth, closing ∷ rest)) same (m.reads low closing rest a k));
    }

-- ---- calls

call-operand : (deeper : ℕ → Reader Operand) (nest : ℕ) (inside : ℕ → Reader Operand) (low least : ℕ) (token opening : Lexeme) (function : List ℕ) (tokens : List Lexeme)
    → name_of token ≡ Some function → IsSign (codes "(") opening
    → read_operand deeper nest inside low least (token ∷ opening ∷ tokens) ≡ read_call nest (inside low) function (opening ∷ tokens)
unfolding read_operand read_atom read_named meant next_is
call-operand deeper nest inside low least token opening function tokens h k =
    let s = name-stays token function h in
    rw (s.no_not, s.no_sign (codes "-"), s.no_sign (codes "("), name-is_name token function h, h, k) refl

call-read : (nest : ℕ) (inside : Reader Operand) (function : List ℕ) (opening closing : Lexeme) (us rest : List Lexeme) (list : Arguments)
    → IsSign (codes "(") opening → IsSign (codes ")") closing → read_arguments inside function (us ++ closing ∷ rest) ≡ Some (list, closing ∷ rest)
    → read_call (suc nest) inside function (opening ∷ us ++ closing ∷ rest) ≡ Some (calling function list, rest)
unfolding read_call
call-read nest inside function opening closing us rest list h k r =
    both_reads (read_opening (suc nest)) (λ _. read_arguments inside function >>= λ arguments. read_sign (codes ")") >> given (calling function arguments)) _ (us ++ closing ∷ rest) tt _ (opening_reads nest opening _ h)
    (both_reads (read_arguments inside function) (λ arguments. read_sign (codes ")") >> given (calling function arguments)) _ (closing ∷ rest) list _ r
    (both_reads (read_sign (codes ")")) (λ _. given (calling function list)) _ rest tt _ (marked_reads (is_sign (codes ")")) closing rest k) refl))

-- a call whose arguments are read is read
called : (room nest depth : ℕ) (token opening closing : Lexeme) (function : List ℕ) (list : Args) (us : List Lexeme)
    → name_of token ≡ Some function → IsSign (codes "(") opening → IsSign (codes ")") closing → depth ≤ room
    → ((low : ℕ) (rest : List Lexeme) → room ≤ low → read_arguments (read_at nest low 0) function (us ++ closing ∷ rest) ≡ Some (arguments list depth, closing ∷ rest))
    → ReadsOn 7 (suc room) (suc nest) (expr.Call function list) (token ∷ opening ∷ us ++ closing ∷ [])
unfolding read_inside
called room nest depth token opening closing function list us n h k shallow f =
    operand-reads 7 (suc room) (suc nest) (depth + 1) (expr.Call function list) (token ∷ opening ∷ us ++ closing ∷ []) (omega arith) (omega arith) (stays-Begins token (opening ∷ us ++ closing ∷ []) (name-stays token function n))
    (λ low least rest a b s.
    ap (λ ts. read_operand (read_at (suc nest) low) (suc nest) (read_inside (suc nest)) low least (token ∷ ts)) (enclosed opening closing us rest)
    ∙ call-operand (read_at (suc nest) low) (suc nest) (read_inside (suc nest)) low least token opening function (us ++ closing ∷ rest) n h
    ∙ call-read nest (read_at nest low 0) function opening closing us rest (arguments list depth) h k (f low rest (omega arith)))

arguments-counted : (inside : Reader Operand) (function : List ℕ) (tokens : List Lexeme) → read_arguments inside function tokens ≡ read_counted inside 7 function tokens
unfolding read_arguments read_some
arguments-counted inside function tokens = refl

pub call-reads : (room nest : ℕ) (token opening closing : Lexeme) (function : List ℕ) (list : Args) (us : List Lexeme)
    → name_of token ≡ Some function → IsSign (codes "(") opening → IsSign (codes ")") closing → ReadsArgs 8 room nest list us
    → ReadsOn 7 (suc room) (suc nest) (expr.Call function list) (token ∷ opening ∷ us ++ closing ∷ [])
call-reads room nest token opening closing function list us n h k r =
    called room nest r.depth token opening closing function list us n h k r.shallow
    (λ low rest a. arguments-counted (read_at nest low 0) function (us ++ closing ∷ rest) ∙ r.reads 7 low function closing rest refl a k)

star-read : (inside : Reader Operand) (function : List ℕ) (star : Lexeme) (rest : List Lexeme) → IsTrue (str_eq_ignore_ascii_case function (codes "COUNT")) → IsSign (codes "*") star
    → read_arguments inside function (star ∷ rest) ≡ Some (no_arguments, rest)
unfolding read_arguments read_star marked next_is
star-read inside function star rest c h = rw (sign-sign (codes "*") (codes ")") star refl h, h, c) refl

pub count-reads : (room nest : ℕ) (token opening star closing : Lexeme) (function : List ℕ)
    → name_of token ≡ Some function → IsTrue (str_eq_ignore_ascii_case function (codes "COUNT"))
    → IsSign (codes "(") opening → IsSign (codes "*") star → IsSign (codes ")") closing
    → ReadsOn 7 (suc room) (suc nest) (expr.Call function args.End) (token ∷ opening ∷ star ∷ closing ∷ [])
count-reads room nest token opening star closing function n c h s k =
    called room nest 0 token opening closing function args.End (star ∷ []) n h k (omega arith)
    (λ low rest a. star-read (read_at nest low 0) function star (closing ∷ rest) c s)

-- ---- expressions

mutual
  pub spelled-reads : (level room nest : ℕ) (e : Expr) (us : List Lexeme) → Spells level room nest e us → ReadsOn level room nest e us
  spelled-reads _ _ _ _ _ (Spells.Column room nest token name h) = column-reads room nest token name h
  spelled-reads _ _ _ _ _ (Spells.Constant room nest token value h) = literal-reads room nest token value h
  spelled-reads _ _ _ _ _ (Spells.Unary op level room nest token arg us h tight s) =
      unary-reads op level room nest token arg us h tight (spelled-reads level room nest arg us s)
  spelled-reads _ _ _ _ _ (Spells.Binary op before behind room nest token left right us vs h fits tight s t) =
      binary-reads op before behind room nest token left right us vs h fits tight (spelled-reads before room nest left us s) (spelled-reads behind room nest right vs t)
  spelled-reads _ _ _ _ _ (Spells.Call room nest token opening closing function list us n h k s) =
      call-reads room nest token opening closing function list us n h k (args-reads 8 room nest list us s)
  spelled-reads _ _ _ _ _ (Spells.Count room nest token opening star closing function n c h s k) = count-reads room nest token opening star closing function n c h s k
  spelled-reads _ _ _ _ _ (Spells.Nested level room nest opening closing e us h k s) = nested-reads level room nest opening closing e us h k (spelled-reads level room nest e us s)

  pub args-reads : (count room nest : ℕ) (list : Args) (us : List Lexeme) → AreSpelled count room nest list us → ReadsArgs count room nest list us
  args-reads _ _ _ _ _ (AreSpelled.Nothing count room nest) = nothing-reads count room nest
  args-reads _ _ _ _ _ (AreSpelled.First count level room nest first list us vs s b) =
      first-reads count level room nest first list us vs (spelled-reads level room nest first us s) (behind-reads count room nest list vs b)

  pub behind-reads : (count room nest : ℕ) (list : Args) (us : List Lexeme) → AreBehind count room nest list us → ReadsMore count room nest list us
  behind-reads _ _ _ _ _ (AreBehind.End count room nest) = end-reads count room nest
  behind-reads _ _ _ _ _ (AreBehind.More count level room nest comma first list us vs h s b) =
      more-reads count level room nest comma first list us vs h (spelled-reads level room nest first us s) (behind-reads count room nest list vs b)
