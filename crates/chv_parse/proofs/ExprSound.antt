-- What is read as an expression is one.
use Rattle.std.proofs.Common.{◌≡◌, ◌≤◌, ◌<◌, ℕ, zero, suc, ◌+◌, max, List, [], ◌∷◌, ◌++◌, Bool, true, false, ◌&&◌, refl, ap, sym, ◌∙◌, subst, Option, Some, None, arith, append_assoc, ◌⊎◌, inl, inr}
use Rattle.std.specs.Prelude.{codes, IsTrue, if◌then◌else◌, nat_le, drop}
use Rattle.std.specs.Str.{str_eq_ignore_ascii_case}
use Rattle.std.proofs.lemmas.Bool.{false≢true}
use Rattle.std.proofs.lemmas.Bool.Decides.{leb_tells}
use Rattle.std.proofs.Math.Dec.{eqb-suc-zero}
use Rattle.chv_ast.specs.Grammar.{Spells, AreSpelled, AreBehind, IsBinary, IsUnary, IsLiteral, IsSign, level_of, unary_level, left_level}
use Rattle.chv_ast.specs.Lexemes.{Lexeme, is_keyword, is_sign, name_of, digits_of, text_of}
use Rattle.chv_ast.specs.declared.expr.BinaryOp.{BinaryOp}
use Rattle.chv_ast.specs.declared.expr.BinaryOp.TheVariants as binary
use Rattle.chv_ast.specs.declared.expr.UnaryOp.{UnaryOp}
use Rattle.chv_ast.specs.declared.expr.UnaryOp.TheVariants as unary
use Rattle.chv_ast.specs.declared.expr.Literal.{Literal}
use Rattle.chv_ast.specs.declared.expr.Literal.TheVariants as literal
use Rattle.chv_ast.specs.declared.expr.Expr.TheVariants as expr
use Rattle.chv_ast.specs.declared.expr.Args.{Args}
use Rattle.chv_ast.specs.declared.expr.Args.TheVariants as args
use Rattle.chv_parse.specs.Reading.{Reader, ◌>>=◌, ◌>>◌, given, meant, marked, next_is, is_name}
use Rattle.chv_parse.specs.declared.expr_reading.Operand.{Operand}
use Rattle.chv_parse.specs.declared.expr_reading.Arguments.{Arguments}
use Rattle.chv_parse.specs.ExprReading.{sign_next, keyword_next, read_sign, operation_next, leaf, over, between, calling, no_arguments, with_argument, read_literal, read_opening, read_nested, read_more, read_next, read_chain, read_some, read_star, read_arguments, read_call, read_named, read_atom, is_unary, read_unary, read_operand, takes, passing, onward, read_right, climb, read_in, read_at, unreadable}
use Rattle.chv_parse.proofs.ExprSteps.{chosen, none_read, same_read, both_read, One, marked_read, meant_read, behind_one, behind_some}
use Rattle.chv_parse.proofs.ExprTokens.{both, operation_next-IsBinary, operation_next-nothing}

-- the tokens in front of the rest write what was read, which binds as tightly as the level says and is at most `room` deep
pub record Written (level room nest : ℕ) (tokens rest : List Lexeme) (read : Operand) : Type 0 where
  pub us : List Lexeme
  pub split : tokens ≡ us ++ rest
  pub tight : level ≤ read.level
  pub shallow : read.depth ≤ room
  pub spelled : (deep : ℕ) → read.depth ≤ deep → Spells read.level deep nest read.expr us

-- so it is with all that a reader reads
abbrev pub Sound : (level room nest : ℕ) → Reader Operand → Type 0
Sound level room nest r = (tokens rest : List Lexeme) (read : Operand) → r tokens ≡ Some (read, rest) → Written level room nest tokens rest read

-- so it is with what a reader reads inside of parentheses
abbrev pub SoundInside : (room nest : ℕ) → Reader Operand → Type 0
SoundInside room nest r = (inner : ℕ) → nest ≡ suc inner → Sound 0 room inner r

-- what binds more tightly and is less deep will do
pub loosely : (level more room deeper nest : ℕ) (tokens rest : List Lexeme) (read : Operand) → level ≤ more → room ≤ deeper
    → Written more room nest tokens rest read → Written level deeper nest tokens rest read
loosely level more room deeper nest tokens rest read h k w =
    record { us = w.us; split = w.split; tight = omega (arith, w.tight); shallow = omega (arith, w.shallow); spelled = w.spelled }

-- what was made of the tokens is what was read
pub ends : (level room nest : ℕ) (tokens us middle rest : List Lexeme) (made read : Operand) → given made middle ≡ Some (read, rest) → tokens ≡ us ++ middle
    → level ≤ made.level → made.depth ≤ room → ((deep : ℕ) → made.depth ≤ deep → Spells made.level deep nest made.expr us)
    → Written level room nest tokens rest read
ends level room nest tokens us middle rest made read e split tight shallow spelled =
    let s = same_read made read middle rest e in
    subst (Written level room nest tokens rest) s.0
    (record { us = us; split = split ∙ ap (λ x. us ++ x) s.1; tight = tight; shallow = shallow; spelled = spelled })

-- one deeper than something
pub one_deeper : (P : ℕ → Type 0) (n : ℕ) → ((m : ℕ) → n ≤ m → P (suc m)) → (deep : ℕ) → n + 1 ≤ deep → P deep
one_deeper P n f zero h = absurd (omega arith)
one_deeper P n f (suc m) h = f m (omega arith)

-- ---- literals

pub read_literal-IsLiteral : (tokens rest : List Lexeme) (value : Literal) → read_literal tokens ≡ Some (value, rest)
    → (token : Lexeme) × (tokens ≡ token ∷ rest) × IsLiteral value token
unfolding read_literal
read_literal-IsLiteral tokens rest value =
    let P : Type 0 = (token : Lexeme) × (tokens ≡ token ∷ rest) × IsLiteral value token in
    let word : (letters : List ℕ) (constant : Literal) → ((token : Lexeme) → IsTrue (is_keyword letters token) → IsLiteral constant token)
    → (marked (is_keyword letters) >> given constant) tokens ≡ Some (value, rest) → P = λ letters constant law e.
    let b = both_read (marked (is_keyword letters)) (λ _. given constant) tokens value rest e in
    let o = marked_read (is_keyword letters) tokens b.middle b.value b.first in
    let s = same_read constant value b.middle rest b.second in
    (o.token, o.split ∙ ap (λ x. o.token ∷ x) s.1, subst (λ v. IsLiteral v o.token) s.0 (law o.token o.marked)) in
    let meaning : (means : Lexeme → Option (List ℕ)) (constant : List ℕ → Literal) → ((token : Lexeme) (a : List ℕ) → means token ≡ Some a → IsLiteral (constant a) token)
    → (meant means >>= λ a. given (constant a)) tokens ≡ Some (value, rest) → P = λ means constant law e.
    let b = both_read (meant means) (λ a. given (constant a)) tokens value rest e in
    let o = meant_read means tokens b.value b.middle b.first in
    let s = same_read (constant b.value) value b.middle rest b.second in
    (o.token, o.split ∙ ap (λ x. o.token ∷ x) s.1, subst (λ v. IsLiteral v o.token) s.0 (law o.token b.value o.means)) in
    chosen P (keyword_next (codes "TRUE") tokens) _ _ (value, rest) (λ h. word (codes "TRUE") (literal.Truth true) IsLiteral.True)
    (λ h. chosen P (keyword_next (codes "FALSE") tokens) _ _ (value, rest) (λ h. word (codes "FALSE") (literal.Truth false) IsLiteral.False)
    (λ h. chosen P _ _ _ (value, rest) (λ h. meaning text_of (λ a. literal.Quoted a) IsLiteral.Quoted)
    (λ h. meaning digits_of (λ a. literal.Whole false a) IsLiteral.Whole)))

-- ---- operations with two operands

-- what a test passes is there, and passes it
pub passed : {A : Type 0} (test : A → Bool) (o : Option A) (a : A) → passing test o ≡ Some a → (o ≡ Some a) × (test a ≡ true)
passed test None a e = none_read _ a e
passed test (Some b) a e = by (test b) refl e
  where
    by : (t : Bool) → test b ≡ t → (if t then Some b else None) ≡ Some a → (Some b ≡ Some a) × (test a ≡ true)
    by true k e = let p : b ≡ a = cc in (e, subst (λ x. test x ≡ true) p k)
    by false k e = none_read _ a e

-- what a test of two numbers tells
pub leb-true : (a b : ℕ) → nat_le a b ≡ true → a ≤ b
leb-true a b e = by (leb_tells a b)
  where
    by : ((nat_le a b ≡ true) × (a ≤ b)) ⊎ ((nat_le a b ≡ false) × (b < a)) → a ≤ b
    by (inl h) = h.1
    by (inr h) = absurd (false≢true (sym h.0 ∙ e))

-- what it means that an operation takes an operand
pub record Taken (room level : ℕ) (left : Operand) (op : BinaryOp) : Type 0 where
  pub tight : level ≤ level_of op
  pub fits : left_level op ≤ left.level
  pub shallow : left.depth ≤ room

pub takes-Taken : (room level : ℕ) (left : Operand) (op : BinaryOp) → takes room level left op ≡ true → Taken room level left op
unfolding takes
takes-Taken room level left op h =
    let p = both (nat_le level (level_of op)) (nat_le (left_level op) left.level && nat_le left.depth room) h in
    let q = both (nat_le (left_level op) left.level) (nat_le left.depth room) p.1 in
    record { tight = leb-true level (level_of op) p.0; fits = leb-true (left_level op) left.level q.0; shallow = leb-true left.depth room q.1 }

-- the token of an operation that comes next
pub record Onward (room level : ℕ) (left : Operand) (op : BinaryOp) (tokens : List Lexeme) : Type 0 where
  pub token : Lexeme
  pub behind : List Lexeme
  pub split : tokens ≡ token ∷ behind
  pub writes : IsBinary op token
  pub taken : Taken room level left op

pub onward-Onward : (room level : ℕ) (left : Operand) (op : BinaryOp) (tokens : List Lexeme) → onward room level left tokens ≡ Some op → Onward room level left op tokens
unfolding onward
onward-Onward room level left op [] e = let p = passed (takes room level left) (operation_next []) op e in none_read _ op (sym operation_next-nothing ∙ p.0)
onward-Onward room level left op (token ∷ tokens) e =
    let p = passed (takes room level left) (operation_next (token ∷ tokens)) op e in
    record { token = token; behind = tokens; split = refl; writes = operation_next-IsBinary token tokens op p.0; taken = takes-Taken room level left op p.1 }

-- no operation is as tight as what stands by itself
pub level_of-bound : (op : BinaryOp) → level_of op + 1 ≤ 7
level_of-bound binary.Or = omega arith
level_of-bound binary.And = omega arith
level_of-bound binary.Equal = omega arith
level_of-bound binary.Unequal = omega arith
level_of-bound binary.Less = omega arith
level_of-bound binary.LessEqual = omega arith
level_of-bound binary.Greater = omega arith
level_of-bound binary.GreaterEqual = omega arith
level_of-bound binary.Plus = omega arith
level_of-bound binary.Minus = omega arith
level_of-bound binary.Times = omega arith
level_of-bound binary.Modulo = omega arith

pub unary_level-bound : (op : UnaryOp) → unary_level op ≤ 7
unary_level-bound unary.Minus = omega arith
unary_level-bound unary.Not = omega arith

-- an operation over what was written on both sides
pub binary-spelled : (op : BinaryOp) (left right : Operand) (nest : ℕ) (token : Lexeme) (us vs : List Lexeme) → IsBinary op token
    → left_level op ≤ left.level → level_of op + 1 ≤ right.level
    → ((deep : ℕ) → left.depth ≤ deep → Spells left.level deep nest left.expr us)
    → ((deep : ℕ) → right.depth ≤ deep → Spells right.level deep nest right.expr vs)
    → (deep : ℕ) → max left.depth right.depth + 1 ≤ deep → Spells (level_of op) deep nest (expr.Binary op left.expr right.expr) (us ++ token ∷ vs)
binary-spelled op left right nest token us vs b fits tight l r =
    one_deeper (λ deep. Spells (level_of op) deep nest (expr.Binary op left.expr right.expr) (us ++ token ∷ vs)) (max left.depth right.depth)
    (λ deep h. Spells.Binary op left.level right.level deep nest token left.expr right.expr us vs b fits (omega (arith, tight)) (l deep (omega (arith, h))) (r deep (omega (arith, h))))

-- a reader that goes on behind a left operand
abbrev pub GoesOn : (level room nest : ℕ) → (Operand → Reader Operand) → Type 0
GoesOn level room nest more = (left : Operand) (us tokens rest : List Lexeme) (read : Operand)
    → level ≤ left.level → left.depth ≤ room → ((deep : ℕ) → left.depth ≤ deep → Spells left.level deep nest left.expr us)
    → more left tokens ≡ Some (read, rest) → Written level room nest (us ++ tokens) rest read

-- readers of operands that bind as tightly as is asked
abbrev pub SoundBelow : (room nest : ℕ) → (ℕ → Reader Operand) → Type 0
SoundBelow room nest deeper = (level : ℕ) → level ≤ 7 → Sound level room nest (deeper level)

right-sound : (deeper : ℕ → Reader Operand) (room level nest : ℕ) → SoundBelow room nest deeper
    → (more : Operand → Reader Operand) → GoesOn level (suc room) nest more
    → (op : BinaryOp) (left : Operand) (us tokens rest : List Lexeme) (read : Operand) → Onward room level left op tokens
    → ((deep : ℕ) → left.depth ≤ deep → Spells left.level deep nest left.expr us)
    → read_right deeper more left (Some op) tokens ≡ Some (read, rest) → Written level (suc room) nest (us ++ tokens) rest read
right-sound deeper room level nest below more law op left us tokens rest read on spelled e =
    let b = both_read (deeper (level_of op + 1)) (λ right. more (between op left right)) (drop 1 tokens) read rest e in
    let w = below (level_of op + 1) (level_of-bound op) (drop 1 tokens) b.middle b.value b.first in
    let k : left.depth ≤ room = on.taken.shallow in
    let s : b.value.depth ≤ room = w.shallow in
    let x = law (between op left b.value) (us ++ on.token ∷ w.us) b.middle rest read on.taken.tight (omega arith)
    (binary-spelled op left b.value nest on.token us w.us on.writes on.taken.fits w.tight spelled w.spelled) b.second in
    let front : drop 1 tokens ≡ on.behind = ap (λ ts. drop 1 ts) on.split in
    let q : tokens ≡ on.token ∷ (w.us ++ b.middle) = on.split ∙ ap (λ ts. on.token ∷ ts) (sym front ∙ w.split) in
    subst (λ all. Written level (suc room) nest all rest read) (append_assoc us (on.token ∷ w.us) b.middle ∙ ap (λ ts. us ++ ts) (sym q)) x

-- operations that go on behind a left operand
pub climb-sound : (deeper : ℕ → Reader Operand) (room level nest : ℕ) → SoundBelow room nest deeper
    → (turns : ℕ) → GoesOn level (suc room) nest (climb deeper room level turns)
unfolding climb
climb-sound deeper room level nest below zero left us tokens rest read tight shallow spelled e =
    ends level (suc room) nest (us ++ tokens) us tokens rest left read e refl tight shallow spelled
climb-sound deeper room level nest below (suc turns) left us tokens rest read tight shallow spelled e =
    by (climb deeper room level turns) (climb-sound deeper room level nest below turns) (onward room level left tokens) refl e
  where
    by : (more : Operand → Reader Operand) → GoesOn level (suc room) nest more → (o : Option BinaryOp) → onward room level left tokens ≡ o
        → read_right deeper more left o tokens ≡ Some (read, rest) → Written level (suc room) nest (us ++ tokens) rest read
    by more law None k e = ends level (suc room) nest (us ++ tokens) us tokens rest left read e refl tight shallow spelled
    by more law (Some op) k e = right-sound deeper room level nest below more law op left us tokens rest read (onward-Onward room level left op tokens k) spelled e

-- ---- operations with one operand

unary-spelled : (op : UnaryOp) (nest : ℕ) (token : Lexeme) (arg : Operand) (us : List Lexeme) → IsTrue (is_unary op token) → unary_level op ≤ arg.level
    → ((deep : ℕ) → arg.depth ≤ deep → Spells arg.level deep nest arg.expr us)
    → (deep : ℕ) → arg.depth + 1 ≤ deep → Spells (unary_level op) deep nest (expr.Unary op arg.expr) (token ∷ us)
unary-spelled op nest token arg us marked tight spelled =
    one_deeper (λ deep. Spells (unary_level op) deep nest (expr.Unary op arg.expr) (token ∷ us)) arg.depth
    (λ deep h. Spells.Unary op arg.level deep nest token arg.expr us (by op marked) tight (spelled deep h))
  where
    by : (o : UnaryOp) → IsTrue (is_unary o token) → IsUnary o token
    by unary.Minus h = h
    by unary.Not h = h

pub read_unary-sound : (deeper : ℕ → Reader Operand) (room level nest : ℕ) → SoundBelow room nest deeper → (op : UnaryOp) → Sound level (suc room) nest (read_unary deeper level op)
unfolding read_unary
read_unary-sound deeper room level nest below op tokens rest read =
    chosen (Written level (suc room) nest tokens rest read) (nat_le level (unary_level op)) _ _ (read, rest)
    (λ h e.
    let b = both_read (marked (is_unary op)) (λ _. deeper (unary_level op) >>= λ arg. given (over op arg)) tokens read rest e in
    let o = marked_read (is_unary op) tokens b.middle b.value b.first in
    let c = both_read (deeper (unary_level op)) (λ arg. given (over op arg)) b.middle read rest b.second in
    let w = below (unary_level op) (unary_level-bound op) b.middle c.middle c.value c.first in
    let s : c.value.depth ≤ room = w.shallow in
    ends level (suc room) nest tokens (o.token ∷ w.us) c.middle rest (over op c.value) read c.second
    (behind_one o.token tokens b.middle w.us c.middle o.split w.split) (leb-true level (unary_level op) h) (omega arith)
    (unary-spelled op nest o.token c.value w.us o.marked w.tight w.spelled))
    (λ h e. none_read _ (read, rest) e)

-- ---- parentheses

opening_none : (tokens rest : List Lexeme) (u : Unit {0}) → read_opening zero tokens ≡ Some (u, rest) → ⊥
unfolding read_opening
opening_none tokens rest u e = cc

opening_read : (inner : ℕ) (tokens rest : List Lexeme) (u : Unit {0}) → read_opening (suc inner) tokens ≡ Some (u, rest) → One (is_sign (codes "(")) tokens rest
unfolding read_opening
opening_read inner tokens rest u e = marked_read (is_sign (codes "(")) tokens rest u (sym (rw (eqb-suc-zero inner) refl) ∙ e)

-- what stands in parentheses, and what follows
enclosed_split : (opening closing : Lexeme) (tokens us first second rest : List Lexeme) → tokens ≡ opening ∷ first → first ≡ us ++ second → second ≡ closing ∷ rest
    → tokens ≡ (opening ∷ us ++ closing ∷ []) ++ rest
enclosed_split opening closing tokens us first second rest a b c =
    a ∙ ap (λ ts. opening ∷ ts) (b ∙ ap (λ ts. us ++ ts) c ∙ sym (append_assoc us (closing ∷ []) rest))

pub read_nested-sound : (nest room : ℕ) (inside : Reader Operand) → SoundInside room nest inside → Sound 7 room nest (read_nested nest inside)
unfolding read_nested
read_nested-sound zero room inside law tokens rest read e =
    let b = both_read (read_opening zero) (λ _. inside >>= λ e. read_sign (codes ")") >> given (record { expr = e.expr; level = 7; depth = e.depth })) tokens read rest e in
    absurd (opening_none tokens b.middle b.value b.first)
read_nested-sound (suc inner) room inside law tokens rest read e =
    let made : Operand → Operand = λ e. record { expr = e.expr; level = 7; depth = e.depth } in
    let b = both_read (read_opening (suc inner)) (λ _. inside >>= λ e. read_sign (codes ")") >> given (made e)) tokens read rest e in
    let o = opening_read inner tokens b.middle b.value b.first in
    let c = both_read inside (λ e. read_sign (codes ")") >> given (made e)) b.middle read rest b.second in
    let w = law inner refl b.middle c.middle c.value c.first in
    let d = both_read (read_sign (codes ")")) (λ _. given (made c.value)) c.middle read rest c.second in
    let z = marked_read (is_sign (codes ")")) c.middle d.middle d.value d.first in
    ends 7 room (suc inner) tokens (o.token ∷ w.us ++ z.token ∷ []) d.middle rest (made c.value) read d.second
    (enclosed_split o.token z.token tokens w.us b.middle c.middle d.middle o.split w.split z.split) (omega arith) w.shallow
    (λ deep h. Spells.Nested c.value.level deep inner o.token z.token c.value.expr w.us o.marked z.marked (w.spelled deep h))

-- ---- calls

-- the tokens in front of the rest write the arguments that were read, none of which is deeper than `room`
pub record Listed (P : ℕ → Args → List Lexeme → Type 0) (room : ℕ) (tokens rest : List Lexeme) (read : Arguments) : Type 0 where
  pub us : List Lexeme
  pub split : tokens ≡ us ++ rest
  pub shallow : read.depth ≤ room
  pub spelled : (deep : ℕ) → read.depth ≤ deep → P deep read.list us

-- what was made of the tokens is what was read
list_ends : (P : ℕ → Args → List Lexeme → Type 0) (room : ℕ) (tokens us middle rest : List Lexeme) (made read : Arguments) → given made middle ≡ Some (read, rest)
    → tokens ≡ us ++ middle → made.depth ≤ room → ((deep : ℕ) → made.depth ≤ deep → P deep made.list us) → Listed P room tokens rest read
list_ends P room tokens us middle rest made read e split shallow spelled =
    let s = same_read made read middle rest e in
    subst (Listed P room tokens rest) s.0
    (record { us = us; split = split ∙ ap (λ x. us ++ x) s.1; shallow = shallow; spelled = spelled })

pub read_more-sound : (room inner : ℕ) (inside : Reader Operand) → Sound 0 room inner inside → (count : ℕ) (tokens rest : List Lexeme) (read : Arguments)
    → read_more inside count tokens ≡ Some (read, rest) → Listed (λ deep. AreBehind count deep inner) room tokens rest read
unfolding read_more read_next
read_more-sound room inner inside law zero tokens rest read e =
    list_ends (λ deep. AreBehind zero deep inner) room tokens [] tokens rest no_arguments read e refl (omega arith) (λ deep h. AreBehind.End zero deep inner)
read_more-sound room inner inside law (suc count) tokens rest read e =
    chosen (Listed (λ deep. AreBehind (suc count) deep inner) room tokens rest read) (sign_next (codes ",") tokens) _ _ (read, rest) (behind (read_more inside count) (read_more-sound room inner inside law count))
    (λ h e. list_ends (λ deep. AreBehind (suc count) deep inner) room tokens [] tokens rest no_arguments read e refl (omega arith) (λ deep h. AreBehind.End (suc count) deep inner)) e
  where
    behind : (more : Reader Arguments) → ((tokens rest : List Lexeme) (read : Arguments) → more tokens ≡ Some (read, rest) → Listed (λ deep. AreBehind count deep inner) room tokens rest read)
        → sign_next (codes ",") tokens ≡ true
        → (read_sign (codes ",") >> (inside >>= λ first. more >>= λ rest. given (with_argument first rest))) tokens ≡ Some (read, rest)
        → Listed (λ deep. AreBehind (suc count) deep inner) room tokens rest read
    behind more ih h e =
        let b = both_read (read_sign (codes ",")) (λ _. inside >>= λ first. more >>= λ rest. given (with_argument first rest)) tokens read rest e in
        let o = marked_read (is_sign (codes ",")) tokens b.middle b.value b.first in
        let c = both_read inside (λ first. more >>= λ rest. given (with_argument first rest)) b.middle read rest b.second in
        let w = law b.middle c.middle c.value c.first in
        let d = both_read more (λ rest. given (with_argument c.value rest)) c.middle read rest c.second in
        let l = ih c.middle d.middle d.value d.first in
        let s : c.value.depth ≤ room = w.shallow in
        let t : d.value.depth ≤ room = l.shallow in
        list_ends (λ deep. AreBehind (suc count) deep inner) room tokens (o.token ∷ w.us ++ l.us) d.middle rest (with_argument c.value d.value) read d.second
        (behind_one o.token tokens b.middle (w.us ++ l.us) d.middle o.split (behind_some b.middle w.us c.middle l.us d.middle w.split l.split)) (omega arith)
        (λ deep h. AreBehind.More count c.value.level deep inner o.token c.value.expr d.value.list w.us l.us o.marked (w.spelled deep (omega (arith, h))) (l.spelled deep (omega (arith, h))))

pub read_some-sound : (room inner : ℕ) (inside : Reader Operand) → Sound 0 room inner inside → (tokens rest : List Lexeme) (read : Arguments)
    → read_some inside tokens ≡ Some (read, rest) → Listed (λ deep. AreSpelled 8 deep inner) room tokens rest read
unfolding read_some
read_some-sound room inner inside law tokens rest read e =
    let c = both_read inside (λ first. read_more inside 7 >>= λ rest. given (with_argument first rest)) tokens read rest e in
    let w = law tokens c.middle c.value c.first in
    let d = both_read (read_more inside 7) (λ rest. given (with_argument c.value rest)) c.middle read rest c.second in
    let l = read_more-sound room inner inside law 7 c.middle d.middle d.value d.first in
    let s : c.value.depth ≤ room = w.shallow in
    let t : d.value.depth ≤ room = l.shallow in
    list_ends (λ deep. AreSpelled 8 deep inner) room tokens (w.us ++ l.us) d.middle rest (with_argument c.value d.value) read d.second
    (behind_some tokens w.us c.middle l.us d.middle w.split l.split) (omega arith)
    (λ deep h. AreSpelled.First 7 c.value.level deep inner c.value.expr d.value.list w.us l.us (w.spelled deep (omega (arith, h))) (l.spelled deep (omega (arith, h))))

-- in parentheses behind the function's name, the tokens write a call with these arguments
pub record CallsWith (function : List ℕ) (inner deep : ℕ) (list : Args) (us : List Lexeme) : Type 0 where
  pub call : (token opening closing : Lexeme) → name_of token ≡ Some function → IsSign (codes "(") opening → IsSign (codes ")") closing
      → Spells 7 (suc deep) (suc inner) (expr.Call function list) (token ∷ opening ∷ us ++ closing ∷ [])

spelled-CallsWith : (function : List ℕ) (inner deep : ℕ) (list : Args) (us : List Lexeme) → AreSpelled 8 deep inner list us → CallsWith function inner deep list us
spelled-CallsWith function inner deep list us s =
    record { call = λ token opening closing n a b. Spells.Call deep inner token opening closing function list us n a b s }

pub read_star-sound : (room inner : ℕ) (function : List ℕ) (tokens rest : List Lexeme) (read : Arguments)
    → read_star function tokens ≡ Some (read, rest) → Listed (CallsWith function inner) room tokens rest read
unfolding read_star
read_star-sound room inner function tokens rest read =
    chosen (Listed (CallsWith function inner) room tokens rest read) (str_eq_ignore_ascii_case function (codes "COUNT")) _ _ (read, rest)
    (λ h e.
    let b = both_read (read_sign (codes "*")) (λ _. given no_arguments) tokens read rest e in
    let o = marked_read (is_sign (codes "*")) tokens b.middle b.value b.first in
    list_ends (CallsWith function inner) room tokens (o.token ∷ []) b.middle rest no_arguments read b.second o.split (omega arith)
    (λ deep k. record { call = λ token opening closing n a z. Spells.Count deep inner token opening o.token closing function n h a o.marked z }))
    (λ h e. none_read _ (read, rest) e)

pub read_arguments-sound : (room inner : ℕ) (inside : Reader Operand) → Sound 0 room inner inside → (function : List ℕ) (tokens rest : List Lexeme) (read : Arguments)
    → read_arguments inside function tokens ≡ Some (read, rest) → Listed (CallsWith function inner) room tokens rest read
unfolding read_arguments
read_arguments-sound room inner inside law function tokens rest read =
    let P : Type 0 = Listed (CallsWith function inner) room tokens rest read in
    chosen P (sign_next (codes ")") tokens) _ _ (read, rest)
    (λ h e. list_ends (CallsWith function inner) room tokens [] tokens rest no_arguments read e refl (omega arith) (λ deep k. spelled-CallsWith function inner deep args.End [] (AreSpelled.Nothing 8 deep inner)))
    (λ h. chosen P (sign_next (codes "*") tokens) _ _ (read, rest) (λ h. read_star-sound room inner function tokens rest read)
    (λ h e. let l = read_some-sound room inner inside law tokens rest read e in
    record { us = l.us; split = l.split; shallow = l.shallow; spelled = λ deep k. spelled-CallsWith function inner deep read.list l.us (l.spelled deep k) }))

pub read_call-sound : (nest room : ℕ) (inside : Reader Operand) → SoundInside room nest inside → (function : List ℕ) (token : Lexeme) → name_of token ≡ Some function
    → (tokens rest : List Lexeme) (read : Operand) → read_call nest inside function tokens ≡ Some (read, rest) → Written 7 (suc room) nest (token ∷ tokens) rest read
unfolding read_call
read_call-sound zero room inside law function token n tokens rest read e =
    let b = both_read (read_opening zero) (λ _. read_arguments inside function >>= λ arguments. read_sign (codes ")") >> given (calling function arguments)) tokens read rest e in
    absurd (opening_none tokens b.middle b.value b.first)
read_call-sound (suc inner) room inside law function token n tokens rest read e =
    let b = both_read (read_opening (suc inner)) (λ _. read_arguments inside function >>= λ arguments. read_sign (codes ")") >> given (calling function arguments)) tokens read rest e in
    let o = opening_read inner tokens b.middle b.value b.first in
    let c = both_read (read_arguments inside function) (λ arguments. read_sign (codes ")") >> given (calling function arguments)) b.middle read rest b.second in
    let l = read_arguments-sound room inner inside (law inner refl) function b.middle c.middle c.value c.first in
    let d = both_read (read_sign (codes ")")) (λ _. given (calling function c.value)) c.middle read rest c.second in
    let z = marked_read (is_sign (codes ")")) c.middle d.middle d.value d.first in
    let s : c.value.depth ≤ room = l.shallow in
    ends 7 (suc room) (suc inner) (token ∷ tokens) (token ∷ o.token ∷ l.us ++ z.token ∷ []) d.middle rest (calling function c.value) read d.second
    (ap (λ ts. token ∷ ts) (enclosed_split o.token z.token tokens l.us b.middle c.middle d.middle o.split l.split z.split)) (omega arith) (omega arith)
    (one_deeper (λ deep. Spells 7 deep (suc inner) (expr.Call function c.value.list) (token ∷ o.token ∷ l.us ++ z.token ∷ [])) c.value.depth
    (λ deep h. (l.spelled deep h).call token o.token z.token n o.marked z.marked))

-- ---- what stands by itself

pub read_named-sound : (nest room : ℕ) (inside : Reader Operand) → SoundInside room nest inside → Sound 7 (suc room) nest (read_named nest inside)
unfolding read_named
read_named-sound nest room inside law tokens rest read e =
    let f : List ℕ → Reader Operand = λ name tokens. if sign_next (codes "(") tokens then read_call nest inside name tokens else given (leaf (expr.Column name)) tokens in
    let b = both_read (meant name_of) f tokens read rest e in
    let o = meant_read name_of tokens b.value b.middle b.first in
    let w = chosen (Written 7 (suc room) nest (o.token ∷ b.middle) rest read) (sign_next (codes "(") b.middle) _ _ (read, rest)
    (λ h. read_call-sound nest room inside law b.value o.token o.means b.middle rest read)
    (λ h k. ends 7 (suc room) nest (o.token ∷ b.middle) (o.token ∷ []) b.middle rest (leaf (expr.Column b.value)) read k refl (omega arith) (omega arith)
    (one_deeper (λ deep. Spells 7 deep nest (expr.Column b.value) (o.token ∷ [])) 0 (λ deep h. Spells.Column deep nest o.token b.value o.means))) b.second in
    subst (λ all. Written 7 (suc room) nest all rest read) (sym o.split) w

pub read_atom-sound : (nest : ℕ) (inside : ℕ → Reader Operand) → ((room : ℕ) → SoundInside room nest (inside room)) → (room : ℕ) → Sound 7 (suc room) nest (read_atom nest inside room)
unfolding read_atom
read_atom-sound nest inside law room tokens rest read =
    let P : Type 0 = Written 7 (suc room) nest tokens rest read in
    chosen P (sign_next (codes "(") tokens) _ _ (read, rest)
    (λ h e. loosely 7 7 (room + 1) (suc room) nest tokens rest read (omega arith) (omega arith) (read_nested-sound nest (room + 1) (inside (room + 1)) (law (room + 1)) tokens rest read e))
    (λ h. chosen P (next_is is_name tokens) _ _ (read, rest) (λ h. read_named-sound nest room (inside room) (law room) tokens rest read)
    (λ h e.
    let b = both_read read_literal (λ value. given (leaf (expr.Literal value))) tokens read rest e in
    let o = read_literal-IsLiteral tokens b.middle b.value b.first in
    ends 7 (suc room) nest tokens (o.0 ∷ []) b.middle rest (leaf (expr.Literal b.value)) read b.second o.1 (omega arith) (omega arith)
    (one_deeper (λ deep. Spells 7 deep nest (expr.Literal b.value) (o.0 ∷ [])) 0 (λ deep h. Spells.Constant deep nest o.0 b.value o.2))))

-- ---- expressions

pub read_operand-sound : (deeper : ℕ → Reader Operand) (nest : ℕ) (inside : ℕ → Reader Operand) (room level : ℕ) → level ≤ 7 → SoundBelow room nest deeper
    → ((room : ℕ) → SoundInside room nest (inside room)) → Sound level (suc room) nest (read_operand deeper nest inside room level)
unfolding read_operand
read_operand-sound deeper nest inside room level bound below law tokens rest read =
    let P : Type 0 = Written level (suc room) nest tokens rest read in
    chosen P (keyword_next (codes "NOT") tokens) _ _ (read, rest) (λ h. read_unary-sound deeper room level nest below unary.Not tokens rest read)
    (λ h. chosen P (sign_next (codes "-") tokens) _ _ (read, rest) (λ h. read_unary-sound deeper room level nest below unary.Minus tokens rest read)
    (λ h e. loosely level 7 (suc room) (suc room) nest tokens rest read bound (omega arith) (read_atom-sound nest inside law room tokens rest read e)))

pub read_in-sound : (nest : ℕ) (inside : ℕ → Reader Operand) → ((room : ℕ) → SoundInside room nest (inside room)) → (room : ℕ) → SoundBelow room nest (read_in nest inside room)
unfolding read_in read_chain
read_in-sound nest inside law zero level bound tokens rest read e = none_read _ (read, rest) e
read_in-sound nest inside law (suc room) level bound tokens rest read e =
    let deeper : ℕ → Reader Operand = read_in nest inside room in
    let below : SoundBelow room nest deeper = read_in-sound nest inside law room in
    let b = both_read (read_operand deeper nest inside room level) (climb deeper room level room) tokens read rest e in
    let w = read_operand-sound deeper nest inside room level bound below law tokens b.middle b.value b.first in
    subst (λ all. Written level (suc room) nest all rest read) (sym w.split)
    (climb-sound deeper room level nest below room b.value w.us b.middle rest read w.tight w.shallow w.spelled b.second)

pub read_at-sound : (nest room : ℕ) → SoundBelow room nest (read_at nest room)
unfolding read_at
read_at-sound zero room = read_in-sound zero (λ room. unreadable) (λ room inner e. let c : ⊥ = cc in absurd c) room
read_at-sound (suc nest) room =
    read_in-sound (suc nest) (λ room. read_at nest room 0)
    (let below : (room : ℕ) → SoundBelow room nest (read_at nest room) = read_at-sound nest in
    λ room inner e. let same : nest ≡ inner = omega arith in subst (λ n. Sound 0 room n (read_at nest room 0)) same (below room 0 (omega arith))) room
