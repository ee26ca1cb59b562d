-- Tokens in front of an expression, behind it, and between two operands.
use Rattle.std.proofs.Common.{◌≡◌, ℕ, List, [], ◌∷◌, ◌++◌, Bool, true, false, ◌&&◌, refl, ap, sym, ◌∙◌, subst, inl, inr, Option, Some, None}
use Rattle.std.specs.Prelude.{codes, IsTrue, if◌then◌else◌, ◌==◌}
use Rattle.std.specs.List.{list_any}
use Rattle.std.specs.Str.{bytes_eq, str_eq_ignore_ascii_case, str_to_ascii_lowercase}
use Rattle.std.proofs.lemmas.Bool.{false≢true}
use Rattle.std.proofs.lemmas.Bool.Decides.{Decides-eqb}
use Rattle.std.specs.Char.{to_ascii_lowercase}
use Rattle.std.proofs.lemmas.Slice.Eq.{bytes_eq-Decides}
use Rattle.chv_ast.specs.Grammar.{IsBinary, IsUnary, IsLiteral, IsSign}
use Rattle.chv_ast.specs.Lexemes.{Lexeme, reserved, is_reserved, is_backquoted, is_keyword, is_sign, is_sign_kind, is_word_kind, is_whole_kind, is_quoted_kind, name_in, name_of, digits_of, text_of}
use Rattle.chv_ast.specs.declared.token.TokenKind.{TokenKind}
use Rattle.chv_ast.specs.declared.token.TokenKind.TheVariants as kind
use Rattle.chv_ast.specs.declared.expr.BinaryOp.{BinaryOp}
use Rattle.chv_ast.specs.declared.expr.BinaryOp.TheVariants as binary
use Rattle.chv_ast.specs.declared.expr.UnaryOp.{UnaryOp}
use Rattle.chv_ast.specs.declared.expr.UnaryOp.TheVariants as unary
use Rattle.chv_ast.specs.declared.expr.Literal.{Literal}
use Rattle.chv_parse.specs.Reading.{next_is, is_name}
use Rattle.chv_parse.specs.ExprReading.{word_next, comparison_next, arithmetic_next, operation_next, first_there, EndsExpr}

-- a test that two facts decide
pub both : (a b : Bool) → (a && b) ≡ true → (a ≡ true) × (b ≡ true)
both true b e = (refl, e)
both false b e = absurd (false≢true e)

-- a kind that is the last of the four
pub sign_kind : (k : TokenKind) → is_sign_kind k ≡ true → k ≡ kind.Sign
sign_kind kind.Word e = absurd (false≢true e)
sign_kind kind.Whole e = absurd (false≢true e)
sign_kind kind.Quoted e = absurd (false≢true e)
sign_kind kind.Sign e = refl

-- a kind that is the first of the four
pub word_kind : (k : TokenKind) → is_word_kind k ≡ true → k ≡ kind.Word
word_kind kind.Word e = refl
word_kind kind.Whole e = absurd (false≢true e)
word_kind kind.Quoted e = absurd (false≢true e)
word_kind kind.Sign e = absurd (false≢true e)

-- the token that is a sign
abbrev pub token_of : List ℕ → Lexeme
token_of text = record { kind = kind.Sign; text = text }

-- what holds of a sign's token holds of a token that is this sign
pub by_sign : (text : List ℕ) (token : Lexeme) (P : Lexeme → Type 0) → IsTrue (is_sign text token) → P (token_of text) → P token
unfolding is_sign
by_sign text token P h p =
    let parts = both (is_sign_kind token.kind) (bytes_eq token.text text) h in
    let k : token.kind ≡ kind.Sign = sign_kind token.kind parts.0 in
    let t : token.text ≡ text = (bytes_eq-Decides token.text text).0 parts.1 in
    let e : token ≡ token_of text = (λ i. record { kind = k i; text = t i }) in
    subst P (sym e) p

-- a keyword's token: its kind, and its text in small letters
pub keyword_parts : (word : List ℕ) (token : Lexeme) → IsTrue (is_keyword word token) → (token.kind ≡ kind.Word) × (str_to_ascii_lowercase token.text ≡ str_to_ascii_lowercase word)
unfolding is_keyword
keyword_parts word token h =
    let parts = both (is_word_kind token.kind) (str_eq_ignore_ascii_case token.text word) h in
    (word_kind token.kind parts.0, (bytes_eq-Decides (str_to_ascii_lowercase token.text) (str_to_ascii_lowercase word)).0 parts.1)

-- a keyword is no sign
pub keyword-sign : (word text : List ℕ) (token : Lexeme) → IsTrue (is_keyword word token) → is_sign text token ≡ false
unfolding is_sign
keyword-sign word text token h = rw ((keyword_parts word token h).0) refl

-- a token is not two keywords
pub keyword-keyword : (word other : List ℕ) (token : Lexeme) → bytes_eq (str_to_ascii_lowercase word) (str_to_ascii_lowercase other) ≡ false
    → IsTrue (is_keyword word token) → is_keyword other token ≡ false
unfolding is_keyword
keyword-keyword word other token apart h =
    let parts = keyword_parts word token h in
    rw (parts.0, parts.1) apart

-- a text is no text in backquotes where its first byte is a letter of a keyword
plain_text : (b : ℕ) (text bytes : List ℕ) → (b == 96) ≡ false → str_to_ascii_lowercase text ≡ b ∷ bytes → is_backquoted text ≡ false
plain_text b [] bytes apart e = refl
plain_text b (c ∷ text) bytes apart e = by (c == 96) refl
  where
    by : (t : Bool) → (c == 96) ≡ t → t ≡ false
    by false k = refl
    by true k =
        let n : c ≡ 96 = (Decides-eqb c 96).0 k in
        let first : to_ascii_lowercase c ≡ b = cc in
        let second : to_ascii_lowercase c ≡ 96 = rw n refl in
        absurd (false≢true (sym apart ∙ ap (λ x. x == 96) (sym first ∙ second)))

-- a reserved word is no name
pub keyword-name : (word : List ℕ) (token : Lexeme) (b : ℕ) (bytes : List ℕ) → str_to_ascii_lowercase word ≡ b ∷ bytes → (b == 96) ≡ false
    → list_any (λ other. bytes_eq (str_to_ascii_lowercase word) (str_to_ascii_lowercase other)) reserved ≡ true
    → IsTrue (is_keyword word token) → name_of token ≡ None
unfolding name_of name_in is_reserved reserved
keyword-name word token b bytes e plain some h =
    let parts = keyword_parts word token h in
    let p : is_backquoted token.text ≡ false = plain_text b token.text bytes plain (parts.1 ∙ e) in
    let r : list_any (str_eq_ignore_ascii_case token.text) reserved ≡ true = rw (parts.1) some in
    rw (parts.0, p, r) refl

-- what is found where a test fails, or there
split_if : {A : Type 0} (P : A → Type 0) (test : Bool) (x : A) (rest : Option A) (y : A)
    → (test ≡ true → P x) → (rest ≡ Some y → P y) → (if test then Some x else rest) ≡ Some y → P y
split_if P true x rest y here there e = let k : x ≡ y = cc in subst P k (here refl)
split_if P false x rest y here there e = there e

-- what is found by the first, or by the other
split_first : {A : Type 0} (P : A → Type 0) (first other : Option A) (y : A)
    → (first ≡ Some y → P y) → (other ≡ Some y → P y) → first_there first other ≡ Some y → P y
split_first P None other y here there e = there e
split_first P (Some x) other y here there e = here e

-- none is found
not_there : {A : Type 0} (P : A → Type 0) (y : A) → None ≡ Some y → P y
not_there P y e = cc

word_next-IsBinary : (token : Lexeme) (tokens : List Lexeme) (op : BinaryOp) → word_next (token ∷ tokens) ≡ Some op → IsBinary op token
unfolding word_next next_is
word_next-IsBinary token tokens op =
    let P = λ (op : BinaryOp). IsBinary op token in
    split_if P (is_keyword (codes "OR") token) binary.Or _ op (λ h. h) (split_if P (is_keyword (codes "AND") token) binary.And _ op (λ h. h) (not_there P op))

comparison_next-IsBinary : (token : Lexeme) (tokens : List Lexeme) (op : BinaryOp) → comparison_next (token ∷ tokens) ≡ Some op → IsBinary op token
unfolding comparison_next next_is
comparison_next-IsBinary token tokens op =
    let P = λ (op : BinaryOp). IsBinary op token in
    split_if P (is_sign (codes "=") token) binary.Equal _ op (λ h. inl h)
    (split_if P (is_sign (codes "==") token) binary.Equal _ op (λ h. inr h)
    (split_if P (is_sign (codes "!=") token) binary.Unequal _ op (λ h. inl h)
    (split_if P (is_sign (codes "<>") token) binary.Unequal _ op (λ h. inr h)
    (split_if P (is_sign (codes "<") token) binary.Less _ op (λ h. h)
    (split_if P (is_sign (codes "<=") token) binary.LessEqual _ op (λ h. h)
    (split_if P (is_sign (codes ">") token) binary.Greater _ op (λ h. h)
    (split_if P (is_sign (codes ">=") token) binary.GreaterEqual _ op (λ h. h) (not_there P op))))))))

arithmetic_next-IsBinary : (token : Lexeme) (tokens : List Lexeme) (op : BinaryOp) → arithmetic_next (token ∷ tokens) ≡ Some op → IsBinary op token
unfolding arithmetic_next next_is
arithmetic_next-IsBinary token tokens op =
    let P = λ (op : BinaryOp). IsBinary op token in
    split_if P (is_sign (codes "+") token) binary.Plus _ op (λ h. h)
    (split_if P (is_sign (codes "-") token) binary.Minus _ op (λ h. h)
    (split_if P (is_sign (codes "*") token) binary.Times _ op (λ h. h)
    (split_if P (is_sign (codes "%") token) binary.Modulo _ op (λ h. h) (not_there P op))))

-- the operation that comes next is written by the next token
pub operation_next-IsBinary : (token : Lexeme) (tokens : List Lexeme) (op : BinaryOp) → operation_next (token ∷ tokens) ≡ Some op → IsBinary op token
unfolding operation_next
operation_next-IsBinary token tokens op =
    let P = λ (op : BinaryOp). IsBinary op token in
    split_first P _ _ op (word_next-IsBinary token tokens op) (split_first P _ _ op (comparison_next-IsBinary token tokens op) (arithmetic_next-IsBinary token tokens op))

-- no operation comes next where no token does
pub operation_next-nothing : operation_next [] ≡ None
unfolding operation_next word_next comparison_next arithmetic_next next_is
operation_next-nothing = refl

-- a sign that comes next, and none of the others
sign_operation : (text : List ℕ) (op : Option BinaryOp) (token : Lexeme) (tokens : List Lexeme) → operation_next (token_of text ∷ tokens) ≡ op
    → IsTrue (is_sign text token) → operation_next (token ∷ tokens) ≡ op
sign_operation text op token tokens e h = by_sign text token (λ t. operation_next (t ∷ tokens) ≡ op) h e

-- a token that writes an operation with two operands is the operation that comes next
pub IsBinary-operation_next : (op : BinaryOp) (token : Lexeme) (tokens : List Lexeme) → IsBinary op token → operation_next (token ∷ tokens) ≡ Some op
unfolding operation_next word_next comparison_next arithmetic_next next_is is_sign is_keyword
IsBinary-operation_next binary.Or token tokens h = rw h refl
IsBinary-operation_next binary.And token tokens h = rw (keyword-keyword (codes "AND") (codes "OR") token refl h, h) refl
IsBinary-operation_next binary.Equal token tokens (inl h) = sign_operation (codes "=") (Some binary.Equal) token tokens refl h
IsBinary-operation_next binary.Equal token tokens (inr h) = sign_operation (codes "==") (Some binary.Equal) token tokens refl h
IsBinary-operation_next binary.Unequal token tokens (inl h) = sign_operation (codes "!=") (Some binary.Unequal) token tokens refl h
IsBinary-operation_next binary.Unequal token tokens (inr h) = sign_operation (codes "<>") (Some binary.Unequal) token tokens refl h
IsBinary-operation_next binary.Less token tokens h = sign_operation (codes "<") (Some binary.Less) token tokens refl h
IsBinary-operation_next binary.LessEqual token tokens h = sign_operation (codes "<=") (Some binary.LessEqual) token tokens refl h
IsBinary-operation_next binary.Greater token tokens h = sign_operation (codes ">") (Some binary.Greater) token tokens refl h
IsBinary-operation_next binary.GreaterEqual token tokens h = sign_operation (codes ">=") (Some binary.GreaterEqual) token tokens refl h
IsBinary-operation_next binary.Plus token tokens h = sign_operation (codes "+") (Some binary.Plus) token tokens refl h
IsBinary-operation_next binary.Minus token tokens h = sign_operation (codes "-") (Some binary.Minus) token tokens refl h
IsBinary-operation_next binary.Times token tokens h = sign_operation (codes "*") (Some binary.Times) token tokens refl h
IsBinary-operation_next binary.Modulo token tokens h = sign_operation (codes "%") (Some binary.Modulo) token tokens refl h

-- a kind that two tests tell apart
name_kind : (k : TokenKind) (o : Option (List ℕ)) (name : List ℕ) → (if is_word_kind k then o else None) ≡ Some name → k ≡ kind.Word
name_kind kind.Word o name e = refl
name_kind kind.Whole o name e = cc
name_kind kind.Quoted o name e = cc
name_kind kind.Sign o name e = cc

digits_kind : (k : TokenKind) (o : Option (List ℕ)) (digits : List ℕ) → (if is_whole_kind k then o else None) ≡ Some digits → k ≡ kind.Whole
digits_kind kind.Word o digits e = cc
digits_kind kind.Whole o digits e = refl
digits_kind kind.Quoted o digits e = cc
digits_kind kind.Sign o digits e = cc

text_kind : (k : TokenKind) (o : Option (List ℕ)) (text : List ℕ) → (if is_quoted_kind k then o else None) ≡ Some text → k ≡ kind.Quoted
text_kind kind.Word o text e = cc
text_kind kind.Whole o text e = cc
text_kind kind.Quoted o text e = refl
text_kind kind.Sign o text e = cc

-- digits are no keyword, and no text in quotes
pub digits-keyword : (word : List ℕ) (token : Lexeme) (digits : List ℕ) → digits_of token ≡ Some digits → is_keyword word token ≡ false
unfolding is_keyword digits_of
digits-keyword word token digits h = let k : token.kind ≡ kind.Whole = digits_kind token.kind _ digits h in rw k refl

pub digits-quoted : (token : Lexeme) (digits : List ℕ) → digits_of token ≡ Some digits → is_quoted_kind token.kind ≡ false
unfolding digits_of
digits-quoted token digits h = let k : token.kind ≡ kind.Whole = digits_kind token.kind _ digits h in rw k refl

-- a text in quotes is no keyword
pub text-keyword : (word : List ℕ) (token : Lexeme) (text : List ℕ) → text_of token ≡ Some text → is_keyword word token ≡ false
unfolding is_keyword text_of
text-keyword word token text h = let k : token.kind ≡ kind.Quoted = text_kind token.kind _ text h in rw k refl

pub text-quoted : (token : Lexeme) (text : List ℕ) → text_of token ≡ Some text → is_quoted_kind token.kind ≡ true
unfolding text_of
text-quoted token text h = let k : token.kind ≡ kind.Quoted = text_kind token.kind _ text h in rw k refl

-- how a token begins an expression that stands by itself: with no operation of one operand, and with no sign but a parenthesis
pub record Stays (token : Lexeme) : Type 0 where
  pub no_not : is_keyword (codes "NOT") token ≡ false
  pub no_sign : (text : List ℕ) → is_sign text token ≡ false

-- a test that is not true
not_true : (test : Bool) → (test ≡ true → ⊥) → test ≡ false
not_true true f = absurd (f refl)
not_true false f = refl

-- a name begins so, and is a name
pub name-stays : (token : Lexeme) (name : List ℕ) → name_of token ≡ Some name → Stays token
unfolding name_of is_sign reserved
name-stays token name h =
    let k : token.kind ≡ kind.Word = name_kind token.kind (name_in token.text) name h in
    record {
      no_not = not_true (is_keyword (codes "NOT") token) (λ t. let e = keyword-name (codes "NOT") token 110 (codes "ot") refl refl refl t in let c : ⊥ = cc in c);
      no_sign = λ text. rw k refl;
    }

pub name-is_name : (token : Lexeme) (name : List ℕ) → name_of token ≡ Some name → is_name token ≡ true
unfolding is_name
name-is_name token name h = rw h refl

-- so does a literal, and is no name
pub literal-stays : (value : Literal) (token : Lexeme) → IsLiteral value token → Stays token
unfolding digits_of text_of is_sign is_keyword
literal-stays _ _ (IsLiteral.Whole token digits h) =
    let k : token.kind ≡ kind.Whole = digits_kind token.kind _ digits h in
    record { no_not = rw k refl; no_sign = λ text. rw k refl }
literal-stays _ _ (IsLiteral.Quoted token text h) =
    let k : token.kind ≡ kind.Quoted = text_kind token.kind _ text h in
    record { no_not = rw k refl; no_sign = λ text. rw k refl }
literal-stays _ _ (IsLiteral.True token h) =
    record { no_not = keyword-keyword (codes "TRUE") (codes "NOT") token refl h; no_sign = λ text. keyword-sign (codes "TRUE") text token h }
literal-stays _ _ (IsLiteral.False token h) =
    record { no_not = keyword-keyword (codes "FALSE") (codes "NOT") token refl h; no_sign = λ text. keyword-sign (codes "FALSE") text token h }

pub literal-is_name : (value : Literal) (token : Lexeme) → IsLiteral value token → is_name token ≡ false
unfolding digits_of text_of name_of is_name reserved
literal-is_name _ _ (IsLiteral.Whole token digits h) = let k : token.kind ≡ kind.Whole = digits_kind token.kind _ digits h in rw k refl
literal-is_name _ _ (IsLiteral.Quoted token text h) = let k : token.kind ≡ kind.Quoted = text_kind token.kind _ text h in rw k refl
literal-is_name _ _ (IsLiteral.True token h) = rw (keyword-name (codes "TRUE") token 116 (codes "rue") refl refl refl h) refl
literal-is_name _ _ (IsLiteral.False token h) = rw (keyword-name (codes "FALSE") token 102 (codes "alse") refl refl refl h) refl

-- ---- signs and words that stand around expressions

-- a token is not two signs
pub sign-sign : (text other : List ℕ) (token : Lexeme) → bytes_eq text other ≡ false → IsSign text token → is_sign other token ≡ false
unfolding is_sign
sign-sign text other token apart h = by_sign text token (λ t. is_sign other t ≡ false) h apart

-- a sign is no keyword
pub sign-keyword : (text word : List ℕ) (token : Lexeme) → IsSign text token → is_keyword word token ≡ false
unfolding is_keyword
sign-keyword text word token h = by_sign text token (λ t. is_keyword word t ≡ false) h refl

-- a sign is no name
pub sign-is_name : (text : List ℕ) (token : Lexeme) → IsSign text token → is_name token ≡ false
unfolding is_name name_of
sign-is_name text token h = by_sign text token (λ t. is_name t ≡ false) h refl

-- an operation with two operands is no opening parenthesis
pub IsBinary-opening : (op : BinaryOp) (token : Lexeme) → IsBinary op token → is_sign (codes "(") token ≡ false
IsBinary-opening binary.Or token h = keyword-sign (codes "OR") (codes "(") token h
IsBinary-opening binary.And token h = keyword-sign (codes "AND") (codes "(") token h
IsBinary-opening binary.Equal token (inl h) = sign-sign (codes "=") (codes "(") token refl h
IsBinary-opening binary.Equal token (inr h) = sign-sign (codes "==") (codes "(") token refl h
IsBinary-opening binary.Unequal token (inl h) = sign-sign (codes "!=") (codes "(") token refl h
IsBinary-opening binary.Unequal token (inr h) = sign-sign (codes "<>") (codes "(") token refl h
IsBinary-opening binary.Less token h = sign-sign (codes "<") (codes "(") token refl h
IsBinary-opening binary.LessEqual token h = sign-sign (codes "<=") (codes "(") token refl h
IsBinary-opening binary.Greater token h = sign-sign (codes ">") (codes "(") token refl h
IsBinary-opening binary.GreaterEqual token h = sign-sign (codes ">=") (codes "(") token refl h
IsBinary-opening binary.Plus token h = sign-sign (codes "+") (codes "(") token refl h
IsBinary-opening binary.Minus token h = sign-sign (codes "-") (codes "(") token refl h
IsBinary-opening binary.Times token h = sign-sign (codes "*") (codes "(") token refl h
IsBinary-opening binary.Modulo token h = sign-sign (codes "%") (codes "(") token refl h

-- an expression ends in front of a comma, and of a closing parenthesis
pub comma-EndsExpr : (token : Lexeme) (tokens : List Lexeme) → IsSign (codes ",") token → EndsExpr (token ∷ tokens)
unfolding operation_next word_next comparison_next arithmetic_next next_is is_sign is_keyword
comma-EndsExpr token tokens h = by_sign (codes ",") token (λ t. EndsExpr (t ∷ tokens)) h (refl, refl)

pub closing-EndsExpr : (token : Lexeme) (tokens : List Lexeme) → IsSign (codes ")") token → EndsExpr (token ∷ tokens)
unfolding operation_next word_next comparison_next arithmetic_next next_is is_sign is_keyword
closing-EndsExpr token tokens h = by_sign (codes ")") token (λ t. EndsExpr (t ∷ tokens)) h (refl, refl)

-- an expression ends in front of a word that is neither OR nor AND
pub keyword-EndsExpr : (word : List ℕ) (token : Lexeme) (tokens : List Lexeme) → bytes_eq (str_to_ascii_lowercase word) (codes "or") ≡ false
    → bytes_eq (str_to_ascii_lowercase word) (codes "and") ≡ false → IsTrue (is_keyword word token) → EndsExpr (token ∷ tokens)
unfolding operation_next word_next comparison_next arithmetic_next next_is
keyword-EndsExpr word token tokens a b h =
    let k = keyword-sign word in
    let o = keyword-keyword word (codes "OR") token a h in
    let n = keyword-keyword word (codes "AND") token b h in
    (k (codes "(") token h, rw (o, n, k (codes "=") token h, k (codes "==") token h, k (codes "!=") token h, k (codes "<>") token h, k (codes "<") token h, k (codes "<=") token h, k (codes ">") token h, k (codes ">=") token h, k (codes "+") token h, k (codes "-") token h, k (codes "*") token h, k (codes "%") token h) refl)

-- where nothing follows
pub nothing-EndsExpr : EndsExpr []
unfolding next_is
nothing-EndsExpr = (refl, operation_next-nothing)

-- the first token of an expression neither closes a parenthesis nor is a star
pub record Begins (tokens : List Lexeme) : Type 0 where
  pub token : Lexeme
  pub behind : List Lexeme
  pub split : tokens ≡ token ∷ behind
  pub no_closing : is_sign (codes ")") token ≡ false
  pub no_star : is_sign (codes "*") token ≡ false

pub stays-Begins : (token : Lexeme) (tokens : List Lexeme) → Stays token → Begins (token ∷ tokens)
stays-Begins token tokens s = record { token = token; behind = tokens; split = refl; no_closing = s.no_sign (codes ")"); no_star = s.no_sign (codes "*") }

pub opening-Begins : (token : Lexeme) (tokens : List Lexeme) → IsSign (codes "(") token → Begins (token ∷ tokens)
opening-Begins token tokens h =
    record { token = token; behind = tokens; split = refl; no_closing = sign-sign (codes "(") (codes ")") token refl h; no_star = sign-sign (codes "(") (codes "*") token refl h }

pub unary-Begins : (op : UnaryOp) (token : Lexeme) (tokens : List Lexeme) → IsUnary op token → Begins (token ∷ tokens)
unary-Begins unary.Minus token tokens h =
    record { token = token; behind = tokens; split = refl; no_closing = sign-sign (codes "-") (codes ")") token refl h; no_star = sign-sign (codes "-") (codes "*") token refl h }
unary-Begins unary.Not token tokens h =
    record { token = token; behind = tokens; split = refl; no_closing = keyword-sign (codes "NOT") (codes ")") token h; no_star = keyword-sign (codes "NOT") (codes "*") token h }

pub append-Begins : (us vs : List Lexeme) → Begins us → Begins (us ++ vs)
append-Begins us vs b = record { token = b.token; behind = b.behind ++ vs; split = ap (λ ts. ts ++ vs) b.split; no_closing = b.no_closing; no_star = b.no_star }
