-- What is bound means what a definition gives.
use Rattle.std.specs.Prelude.{ℕ, pos, ◌≡◌, ◌<◌, ◌≤◌, ◌^◌, ◌||◌, nat_lt, length, Bool, true, false, List, [], ◌∷◌, Option, None, Some, IfSome, IfOk, IfErr, Result, Ok, Err}
use Rattle.std.specs.Option.{option_map, option_and_then}
use Rattle.std.proofs.Common.{ap, ap₂, arith, refl, sym, subst, ◌∙◌}
use Rattle.std.proofs.lemmas.Bool.Decides.{nat_tests}
use Rattle.chv_ast.specs.declared.expr.BinaryOp.{BinaryOp}
use Rattle.chv_ast.specs.declared.expr.BinaryOp.TheVariants as binary
use Rattle.chv_ast.specs.declared.expr.Literal.TheVariants as literal
use Rattle.chv_ast.specs.declared.expr.UnaryOp.{UnaryOp}
use Rattle.chv_ast.specs.declared.expr.UnaryOp.TheVariants as unary
use Rattle.chv_ast.specs.declared.refusal.Refusal.{Refusal}
use Rattle.chv_ast.specs.declared.refusal.Refusal.TheVariants.{BadLiteral, TypeMismatch}
use Rattle.chv_types.specs.Fits.{Fits, IsOfScalar}
use Rattle.chv_types.specs.Steps.{or_refuse}
use Rattle.chv_types.specs.Texts.{whole_number}
use Rattle.chv_types.specs.declared.kind.Kind.{Kind}
use Rattle.chv_types.specs.declared.kind.Kind.TheVariants as kind
use Rattle.chv_types.specs.declared.kind.Scalar.{Scalar}
use Rattle.chv_types.specs.declared.kind.Scalar.TheVariants as scalar
use Rattle.chv_types.specs.declared.table.Column.{Column}
use Rattle.chv_types.specs.declared.value.Value.{Value}
use Rattle.chv_types.specs.declared.value.Value.TheVariants.{Whole, Truth, Text}
use Rattle.chv_expr.specs.Bindings.{AreMeant, Binds, Means, Refuses, tree_value}
use Rattle.chv_expr.specs.Kinds.{class_of, wide, numbers, truths, joined, compared_kind, binary_kind, unary_kind}
use Rattle.chv_expr.specs.Terms.{Term, is_signed, in_classes, unary_value, binary_value, unary_term, binary_term, quotient_term, chosen_value, chosen_of, length_of, widened_of, constant, literal_term}
use Rattle.chv_expr.specs.Values.{arithmetic, comparison, conjunction, disjunction, choice, widened, text_length}
use Rattle.chv_expr.specs.declared.arguments.Arguments.TheVariants as arguments
use Rattle.chv_expr.specs.declared.bound.Bound.{Bound}
use Rattle.chv_expr.specs.declared.fault.Untyped.{Untyped}
use Rattle.chv_expr.specs.declared.kind.Class.{Class}
use Rattle.chv_expr.specs.declared.kind.Class.TheVariants as class
use Rattle.chv_expr.specs.declared.tree.Arithmetic.{Arithmetic}
use Rattle.chv_expr.specs.declared.tree.Arithmetic.TheVariants as sum
use Rattle.chv_expr.specs.declared.tree.Comparison.{Comparison}
use Rattle.chv_expr.specs.declared.tree.Comparison.TheVariants as test
use Rattle.chv_expr.specs.declared.tree.Tree.TheVariants as tree
use Rattle.chv_expr.proofs.TreeLaws.{value-Constant}
use Rattle.chv_expr.proofs.FitLemmas.{IsPlainly, fits-small, fits-arithmetic, fits-widened, fits-comparison, fits-negation, fits-choice, fits-conjunction, fits-disjunction, fits-text_length}

-- what follows from the classes of two kinds
abbrev pub of_kinds : {C : Type 0} → (Class → Class → Option C) → Kind → Kind → Option C
of_kinds f j k = option_and_then (λ x. option_and_then (λ y. f x y) (class_of k)) (class_of j)

-- both kinds have a class where something follows from them
both_classes : {C : Type 0} (f : Class → Class → Option C) (c d : Option Class) (r : C)
    → option_and_then (λ x. option_and_then (λ y. f x y) d) c ≡ Some r → (a b : Class) × (c ≡ Some a) × (d ≡ Some b) × (f a b ≡ Some r)
both_classes f None d r e = absurd (cc)
both_classes f (Some a) None r e = absurd (cc)
both_classes f (Some a) (Some b) r e = (a, b, refl, refl, e)

-- a truth is of the kind Bool
class_of-truth : (k : Kind) → class_of k ≡ Some class.Truth → k ≡ kind.Plain scalar.Bool
class_of-truth (kind.Plain scalar.Bool) e = refl
class_of-truth (kind.Plain other) e = absurd (cc)
class_of-truth (kind.State agg arg) e = absurd (cc)

-- a text is of the kind Text
class_of-text : (k : Kind) → class_of k ≡ Some class.Text → k ≡ kind.Plain scalar.Text
class_of-text (kind.Plain scalar.Text) e = refl
class_of-text (kind.Plain other) e = absurd (cc)
class_of-text (kind.State agg arg) e = absurd (cc)

fits-truth : (k : Kind) (value : Option Value) → class_of k ≡ Some class.Truth → IfSome value (Fits k) → IsPlainly scalar.Bool value
fits-truth k value e f = subst (λ j. IfSome value (Fits j)) (class_of-truth k e) f

pub fits-text : (k : Kind) (value : Option Value) → class_of k ≡ Some class.Text → IfSome value (Fits k) → IsPlainly scalar.Text value
fits-text k value e f = subst (λ j. IfSome value (Fits j)) (class_of-text k e) f

pub fits-unary_value : (op : UnaryOp) (c : Option Class) (plain : Scalar) (a : Option Value)
    → option_and_then (unary_kind op) c ≡ Some plain → IsPlainly plain (unary_value op a)
fits-unary_value op None plain a e = absurd (cc)
fits-unary_value unary.Minus (Some (class.Number signed)) plain a e =
    let h : scalar.Int64 ≡ plain = cc in subst (λ p. IsPlainly p (unary_value unary.Minus a)) h (fits-arithmetic sum.Minus true (Some (Whole (pos 0))) a)
fits-unary_value unary.Minus (Some class.Truth) plain a e = absurd (cc)
fits-unary_value unary.Minus (Some class.Text) plain a e = absurd (cc)
fits-unary_value unary.Not (Some class.Truth) plain a e =
    let h : scalar.Bool ≡ plain = cc in subst (λ p. IsPlainly p (unary_value unary.Not a)) h (fits-negation a)
fits-unary_value unary.Not (Some (class.Number signed)) plain a e = absurd (cc)
fits-unary_value unary.Not (Some class.Text) plain a e = absurd (cc)

-- only truths join to truths
truths-both : (a b : Class) (plain : Scalar) → truths a b ≡ Some plain → (b ≡ class.Truth) × (scalar.Bool ≡ plain)
truths-both class.Truth class.Truth plain e = (refl, cc)
truths-both class.Truth class.Text plain e = absurd (cc)
truths-both class.Truth (class.Number signed) plain e = absurd (cc)
truths-both class.Text b plain e = absurd (cc)
truths-both (class.Number signed) b plain e = absurd (cc)

fits-wide : (operation : Arithmetic) (signed : Bool) (x y : Option Value) → IsPlainly (wide signed) (arithmetic operation (is_signed (wide signed)) x y)
fits-wide operation false x y = fits-arithmetic operation false x y
fits-wide operation true x y = fits-arithmetic operation true x y

-- a calculation with a sign where one of its operands has one
fits-numbers : (operation : Arithmetic) (signs : Option Bool) (plain : Scalar) (x y : Option Value)
    → option_map wide signs ≡ Some plain → IsPlainly plain (arithmetic operation (is_signed plain) x y)
fits-numbers operation None plain x y e = absurd (cc)
fits-numbers operation (Some signed) plain x y e =
    let h : wide signed ≡ plain = cc in subst (λ p. IsPlainly p (arithmetic operation (is_signed p) x y)) h (fits-wide operation signed x y)

-- what is always of one kind
kind_alone : {A : Type 0} (o : Option A) (alone plain : Scalar) → option_map (λ _. alone) o ≡ Some plain → alone ≡ plain
kind_alone None alone plain e = absurd (cc)
kind_alone (Some a) alone plain e = cc

fits-difference : (signs : Option Bool) (plain : Scalar) (x y : Option Value)
    → option_map (λ _. scalar.Int64) signs ≡ Some plain → IsPlainly plain (arithmetic sum.Minus (is_signed plain) x y)
fits-difference signs plain x y e =
    subst (λ p. IsPlainly p (arithmetic sum.Minus (is_signed p) x y)) (kind_alone signs scalar.Int64 plain e) (fits-arithmetic sum.Minus true x y)

fits-compared : (test : Comparison) (a b : Class) (plain : Scalar) (x y : Option Value)
    → compared_kind a b ≡ Some plain → IsPlainly plain (comparison test x y)
fits-compared test a b plain x y e = subst (λ p. IsPlainly p (comparison test x y)) (kind_alone (joined a b) scalar.Bool plain e) (fits-comparison test x y)

-- the right operand of AND is a truth
fits-and : (a b : Class) (k : Kind) (plain : Scalar) (x y : Option Value)
    → truths a b ≡ Some plain → class_of k ≡ Some b → IfSome y (Fits k) → IsPlainly plain (conjunction x y)
fits-and a b k plain x y e g f =
    let both = truths-both a b plain e in
    subst (λ p. IsPlainly p (conjunction x y)) both.1 (fits-conjunction x y (fits-truth k y (g ∙ ap Some both.0) f))

-- the right operand of OR is a truth
fits-or : (a b : Class) (k : Kind) (plain : Scalar) (x y : Option Value)
    → truths a b ≡ Some plain → class_of k ≡ Some b → IfSome y (Fits k) → IsPlainly plain (disjunction x y)
fits-or a b k plain x y e g f =
    let both = truths-both a b plain e in
    subst (λ p. IsPlainly p (disjunction x y)) both.1 (fits-disjunction x y (fits-truth k y (g ∙ ap Some both.0) f))

fits-binary_classes : (op : BinaryOp) (a b : Class) (k : Kind) (plain : Scalar) (x y : Option Value)
    → binary_kind op a b ≡ Some plain → class_of k ≡ Some b → IfSome y (Fits k) → IsPlainly plain (binary_value op (is_signed plain) x y)
fits-binary_classes binary.Or a b k plain x y e g f = fits-or a b k plain x y e g f
fits-binary_classes binary.And a b k plain x y e g f = fits-and a b k plain x y e g f
fits-binary_classes binary.Equal a b k plain x y e g f = fits-compared test.Equal a b plain x y e
fits-binary_classes binary.Unequal a b k plain x y e g f = fits-compared test.Unequal a b plain x y e
fits-binary_classes binary.Less a b k plain x y e g f = fits-compared test.Less a b plain x y e
fits-binary_classes binary.LessEqual a b k plain x y e g f = fits-compared test.LessEqual a b plain x y e
fits-binary_classes binary.Greater a b k plain x y e g f = fits-compared test.Greater a b plain x y e
fits-binary_classes binary.GreaterEqual a b k plain x y e g f = fits-compared test.GreaterEqual a b plain x y e
fits-binary_classes binary.Plus a b k plain x y e g f = fits-numbers sum.Plus (numbers a b) plain x y e
fits-binary_classes binary.Minus a b k plain x y e g f = fits-difference (numbers a b) plain x y e
fits-binary_classes binary.Times a b k plain x y e g f = fits-numbers sum.Times (numbers a b) plain x y e
fits-binary_classes binary.Modulo a b k plain x y e g f = fits-numbers sum.Remainder (numbers a b) plain x y e

pub fits-binary_value : (op : BinaryOp) (j k : Kind) (plain : Scalar) (x y : Option Value)
    → of_kinds (binary_kind op) j k ≡ Some plain → IfSome y (Fits k) → IsPlainly plain (binary_value op (is_signed plain) x y)
fits-binary_value op j k plain x y e f =
    let both = both_classes (binary_kind op) (class_of j) (class_of k) plain e in
    fits-binary_classes op both.0 both.1 k plain x y both.4 both.3 f

-- a chosen integer has 64 bits
fits-chosen_number : (signed : Bool) (chosen : Option Value) → IsPlainly (wide signed) (chosen_value (wide signed) chosen)
fits-chosen_number false chosen = fits-widened false chosen
fits-chosen_number true chosen = fits-widened true chosen

fits-chosen_classes : (a b : Class) (j k : Kind) (plain : Scalar) (t x y : Option Value)
    → joined a b ≡ Some plain → class_of j ≡ Some a → class_of k ≡ Some b → IfSome x (Fits j) → IfSome y (Fits k)
    → IsPlainly plain (chosen_value plain (choice t x y))
fits-chosen_classes (class.Number c) (class.Number d) j k plain t x y e g h f i =
    let wide_is : wide (c || d) ≡ plain = cc in
    subst (λ p. IsPlainly p (chosen_value p (choice t x y))) wide_is (fits-chosen_number (c || d) (choice t x y))
fits-chosen_classes class.Truth class.Truth j k plain t x y e g h f i =
    let bool_is : scalar.Bool ≡ plain = cc in
    subst (λ p. IsPlainly p (chosen_value p (choice t x y))) bool_is
    (fits-choice (kind.Plain scalar.Bool) t x y (fits-truth j x g f) (fits-truth k y h i))
fits-chosen_classes class.Text class.Text j k plain t x y e g h f i =
    let text_is : scalar.Text ≡ plain = cc in
    subst (λ p. IsPlainly p (chosen_value p (choice t x y))) text_is
    (fits-choice (kind.Plain scalar.Text) t x y (fits-text j x g f) (fits-text k y h i))
fits-chosen_classes (class.Number c) other j k plain t x y e g h f i = absurd (cc)
fits-chosen_classes class.Truth other j k plain t x y e g h f i = absurd (cc)
fits-chosen_classes class.Text other j k plain t x y e g h f i = absurd (cc)

pub fits-chosen_value : (j k : Kind) (plain : Scalar) (t x y : Option Value)
    → of_kinds joined j k ≡ Some plain → IfSome x (Fits j) → IfSome y (Fits k) → IsPlainly plain (chosen_value plain (choice t x y))
fits-chosen_value j k plain t x y e f g =
    let both = both_classes joined (class_of j) (class_of k) plain e in
    fits-chosen_classes both.0 both.1 j k plain t x y both.4 both.2 both.3 f g

-- of kinds that are no truth and no text, what is chosen has 64 bits
pub chosen_value-number : (plain : Scalar) (chosen : Option Value) → (plain ≡ scalar.Bool → ⊥) → (plain ≡ scalar.Text → ⊥)
    → widened (is_signed plain) chosen ≡ chosen_value plain chosen
chosen_value-number scalar.Bool chosen f g = absurd (f refl)
chosen_value-number scalar.Text chosen f g = absurd (g refl)
chosen_value-number integers chosen f g = refl

-- what is bound, where the definition gives a term
Binds-given : {K : Type 0} (columns : List Column) (term : K → Term) (o : Option K) (k : K) (bound : Bound)
    → o ≡ Some k → Means columns bound (term k) → Binds columns (or_refuse TypeMismatch (option_map term o)) (Ok bound)
Binds-given columns term o k bound e m = (term k, ap (λ o. or_refuse TypeMismatch (option_map term o)) e, m)

-- the kinds of what is bound are those of its terms
same_kinds : {C : Type 0} (f : Class → Class → Option C) (columns : List Column) (a b : Bound) (x y : Term)
    → Means columns a x → Means columns b y → in_classes f x y ≡ of_kinds f a.kind b.kind
same_kinds f columns a b x y m n = rw (m.kind, n.kind) refl

-- an operation with one operand
pub Binds-unary : (columns : List Column) (op : UnaryOp) (a bound : Bound) (x : Term) (plain : Scalar)
    → Means columns a x → option_and_then (unary_kind op) (class_of a.kind) ≡ Some plain → bound.kind ≡ kind.Plain plain
    → ((row : List Value) → tree_value bound.tree row ≡ unary_value op (tree_value a.tree row))
    → Binds columns (or_refuse TypeMismatch (unary_term op x)) (Ok bound)
Binds-unary columns op a bound x plain m e k s =
    let given : option_and_then (unary_kind op) (class_of x.kind) ≡ Some plain = ap (λ j. option_and_then (unary_kind op) (class_of j)) (sym m.kind) ∙ e in
    Binds-given columns _ _ plain bound given (record {
      kind = k;
      same = λ row. s row ∙ ap (unary_value op) (m.same row);
      fits = λ row f. fits-unary_value op (class_of x.kind) plain (x.value row) given;
    })

-- an operation with two operands
pub Binds-binary : (columns : List Column) (op : BinaryOp) (a b bound : Bound) (x y : Term) (plain : Scalar)
    → Means columns a x → Means columns b y → of_kinds (binary_kind op) a.kind b.kind ≡ Some plain → bound.kind ≡ kind.Plain plain
    → ((row : List Value) → tree_value bound.tree row ≡ binary_value op (is_signed plain) (tree_value a.tree row) (tree_value b.tree row))
    → Binds columns (or_refuse TypeMismatch (binary_term op x y)) (Ok bound)
Binds-binary columns op a b bound x y plain m n e k s =
    let given : in_classes (binary_kind op) x y ≡ Some plain = same_kinds (binary_kind op) columns a b x y m n ∙ e in
    Binds-given columns _ _ plain bound given (record {
      kind = k;
      same = λ row. s row ∙ ap₂ (binary_value op (is_signed plain)) (m.same row) (n.same row);
      fits = λ row f. fits-binary_value op x.kind y.kind plain (x.value row) (y.value row) given (n.fits row f);
    })

-- what is made of something, is made of it
mapped : {K L : Type 0} (f : K → L) (o : Option K) (l : L) → option_map f o ≡ Some l → (k : K) × (o ≡ Some k) × (f k ≡ l)
mapped f None l e = absurd (cc)
mapped f (Some k) l e = (k, refl, cc)

-- of nothing nothing is made
unmapped : {K L : Type 0} (f : K → L) (o : Option K) → option_map f o ≡ None → o ≡ None
unmapped f None e = refl
unmapped f (Some k) e = absurd (cc)

is_signed-wide : (signed : Bool) → is_signed (wide signed) ≡ signed
is_signed-wide false = refl
is_signed-wide true = refl

-- a number by another one
pub Binds-quotient : (columns : List Column) (a b bound : Bound) (x y : Term) (plain : Scalar)
    → Means columns a x → Means columns b y → option_map wide (of_kinds numbers a.kind b.kind) ≡ Some plain → bound.kind ≡ kind.Plain plain
    → ((row : List Value) → tree_value bound.tree row ≡ arithmetic sum.Quotient (is_signed plain) (tree_value a.tree row) (tree_value b.tree row))
    → Binds columns (or_refuse TypeMismatch (quotient_term x y)) (Ok bound)
Binds-quotient columns a b bound x y plain m n e k s =
    let given = mapped wide (of_kinds numbers a.kind b.kind) plain e in
    let signed = given.0 in
    let sign : is_signed plain ≡ signed = ap is_signed (sym given.2) ∙ is_signed-wide signed in
    Binds-given columns _ _ signed bound (same_kinds numbers columns a b x y m n ∙ given.1) (record {
      kind = k ∙ ap kind.Plain (sym given.2);
      same = λ row. s row ∙ rw (sign, m.same row, n.same row) refl;
      fits = λ row f. fits-arithmetic sum.Quotient signed (x.value row) (y.value row);
    })

-- one of two, by a truth
pub Binds-if : (columns : List Column) (test a b bound : Bound) (c x y : Term) (plain : Scalar)
    → Means columns test c → Means columns a x → Means columns b y → class_of test.kind ≡ Some class.Truth → of_kinds joined a.kind b.kind ≡ Some plain
    → bound.kind ≡ kind.Plain plain
    → ((row : List Value) → tree_value bound.tree row ≡ chosen_value plain (choice (tree_value test.tree row) (tree_value a.tree row) (tree_value b.tree row)))
    → Binds columns (or_refuse TypeMismatch (option_and_then (chosen_of c x y) (class_of c.kind))) (Ok bound)
Binds-if columns test a b bound c x y plain l m n t e k s =
    let given : in_classes joined x y ≡ Some plain = same_kinds joined columns a b x y m n ∙ e in
    let truth : class_of c.kind ≡ Some class.Truth = ap class_of (sym l.kind) ∙ t in
    rw truth (Binds-given columns _ _ plain bound given (record {
      kind = k;
      same = λ row. s row ∙ rw (l.same row, m.same row, n.same row) refl;
      fits = λ row f. fits-chosen_value x.kind y.kind plain (c.value row) (x.value row) (y.value row) given (m.fits row f) (n.fits row f);
    }))

-- what has no kind is refused
refused-given : {K : Type 0} (term : K → Term) (o : Option K) → o ≡ None → or_refuse TypeMismatch (option_map term o) ≡ Err TypeMismatch
refused-given term o e = ap (λ o. or_refuse TypeMismatch (option_map term o)) e

-- an operation with one operand that has no kind
pub refused-unary : (columns : List Column) (op : UnaryOp) (a : Bound) (x : Term)
    → Means columns a x → option_and_then (unary_kind op) (class_of a.kind) ≡ None → or_refuse TypeMismatch (unary_term op x) ≡ Err TypeMismatch
refused-unary columns op a x m e = refused-given _ _ (ap (λ j. option_and_then (unary_kind op) (class_of j)) (sym m.kind) ∙ e)

-- an operation with two operands that has no kind
pub refused-binary : (columns : List Column) (op : BinaryOp) (a b : Bound) (x y : Term)
    → Means columns a x → Means columns b y → of_kinds (binary_kind op) a.kind b.kind ≡ None → or_refuse TypeMismatch (binary_term op x y) ≡ Err TypeMismatch
refused-binary columns op a b x y m n e = refused-given _ _ (same_kinds (binary_kind op) columns a b x y m n ∙ e)

-- what is no number by another one
pub refused-quotient : (columns : List Column) (a b : Bound) (x y : Term)
    → Means columns a x → Means columns b y → option_map wide (of_kinds numbers a.kind b.kind) ≡ None
    → or_refuse TypeMismatch (quotient_term x y) ≡ Err TypeMismatch
refused-quotient columns a b x y m n e = refused-given _ _ (same_kinds numbers columns a b x y m n ∙ unmapped wide (of_kinds numbers a.kind b.kind) e)

refused-chosen : (o : Option Class) (c x y : Term) → (o ≡ Some class.Truth → in_classes joined x y ≡ None)
    → or_refuse TypeMismatch (option_and_then (chosen_of c x y) o) ≡ Err TypeMismatch
refused-chosen None c x y e = refl
refused-chosen (Some class.Truth) c x y e = refused-given _ _ (e refl)
refused-chosen (Some class.Text) c x y e = refl
refused-chosen (Some (class.Number signed)) c x y e = refl

-- one of two that have no kind together, or by what is no truth
pub refused-if : (columns : List Column) (test a b : Bound) (c x y : Term)
    → Means columns test c → Means columns a x → Means columns b y → (class_of test.kind ≡ Some class.Truth → of_kinds joined a.kind b.kind ≡ None)
    → or_refuse TypeMismatch (option_and_then (chosen_of c x y) (class_of c.kind)) ≡ Err TypeMismatch
refused-if columns test a b c x y l m n e =
    refused-chosen (class_of c.kind) c x y (λ t. same_kinds joined columns a b x y m n ∙ e (ap class_of l.kind ∙ t))

-- what is bound where there is a kind, and refused where there is none
pub Binds-of_kind : (P : Bound → Type 0) (columns : List Column) (plain : Option Scalar) (outcome : Result Term Refusal) (result : Result Bound Untyped)
    → IfOk result (λ bound. option_map kind.Plain plain ≡ Some bound.kind) → IfOk result P
    → IfErr result (Refuses (or_refuse TypeMismatch plain)) → (plain ≡ None → outcome ≡ Err TypeMismatch)
    → ((p : Scalar) (bound : Bound) → plain ≡ Some p → bound.kind ≡ kind.Plain p → P bound → Binds columns outcome (Ok bound))
    → Binds columns outcome result
Binds-of_kind P columns None outcome (Ok bound) k s r none some = absurd (cc)
Binds-of_kind P columns (Some p) outcome (Ok bound) k s r none some = some p bound refl (cc) s
Binds-of_kind P columns None outcome (Err fault) k s r none some = λ refusal e.
    let same : TypeMismatch ≡ refusal = cc (r refusal e) in none refl ∙ ap Err same
Binds-of_kind P columns (Some p) outcome (Err fault) k s r none some = λ refusal e. absurd (cc (r refusal e))

-- the length of a text
pub Binds-length : (columns : List Column) (a bound : Bound) (x : Term)
    → Means columns a x → class_of a.kind ≡ Some class.Text → bound.kind ≡ kind.Plain scalar.UInt64
    → ((row : List Value) → tree_value bound.tree row ≡ text_length (tree_value a.tree row))
    → Binds columns (or_refuse TypeMismatch (option_and_then (length_of x) (class_of x.kind))) (Ok bound)
Binds-length columns a bound x m t k s =
    let text : class_of x.kind ≡ Some class.Text = ap class_of (sym m.kind) ∙ t in (
      _,
      ap (λ c. or_refuse TypeMismatch (option_and_then (length_of x) c)) text,
      record {
        kind = k;
        same = λ row. s row ∙ ap text_length (m.same row);
        fits = λ row f. fits-text_length (x.value row) (fits-text x.kind (x.value row) text (m.fits row f));
      },
    )

-- a number of 64 bits
pub Binds-widen : (columns : List Column) (signed other : Bool) (a bound : Bound) (x : Term)
    → Means columns a x → class_of a.kind ≡ Some (class.Number other) → bound.kind ≡ kind.Plain (wide signed)
    → ((row : List Value) → tree_value bound.tree row ≡ widened signed (tree_value a.tree row))
    → Binds columns (or_refuse TypeMismatch (option_and_then (widened_of signed x) (class_of x.kind))) (Ok bound)
Binds-widen columns signed other a bound x m t k s =
    let number : class_of x.kind ≡ Some (class.Number other) = ap class_of (sym m.kind) ∙ t in (
      _,
      ap (λ c. or_refuse TypeMismatch (option_and_then (widened_of signed x) c)) number,
      record {
        kind = k;
        same = λ row. s row ∙ ap (widened signed) (m.same row);
        fits = λ row f. fits-widened signed (x.value row);
      },
    )

-- the same value over each row
pub Means-constant : (columns : List Column) (plain : Scalar) (value : Value) (bound : Bound)
    → IsOfScalar plain value → bound.kind ≡ kind.Plain plain → bound.tree ≡ tree.Constant value → Means columns bound (constant plain value)
Means-constant columns plain value bound f k t = record {
  kind = k;
  same = λ row. ap (λ t. tree_value t row) t ∙ value-Constant value row;
  fits = λ row _. f;
}

-- a number that is written
pub Binds-whole : (columns : List Column) (digits : List ℕ) (n : ℕ) (bound : Bound)
    → n < 2 ^ 64 → whole_number digits ≡ Some n → bound.kind ≡ kind.Plain scalar.UInt64 → bound.tree ≡ tree.Constant (Whole (pos n))
    → Binds columns (literal_term (literal.Whole false digits)) (Ok bound)
Binds-whole columns digits n bound below e k t =
    let given = ap (λ o. or_refuse BadLiteral (option_map (λ n. constant scalar.UInt64 (Whole (pos n))) o)) e in
    (_, given, Means-constant columns _ _ bound (fits-small n below) k t)

-- a text that is written
pub Binds-text : (columns : List Column) (text : List ℕ) (bound : Bound)
    → length text ≤ 1048576 → bound.kind ≡ kind.Plain scalar.Text → bound.tree ≡ tree.Constant (Text text)
    → Binds columns (literal_term (literal.Quoted text)) (Ok bound)
Binds-text columns text bound below k t =
    let short : nat_lt 1048576 (length text) ≡ false = grind (arith, nat_tests) in
    rw short (_, refl, Means-constant columns scalar.Text (Text text) bound (refl, below) k t)

-- a truth that is written
pub Binds-truth : (columns : List Column) (truth : Bool) (bound : Bound)
    → bound.kind ≡ kind.Plain scalar.Bool → bound.tree ≡ tree.Constant (Truth truth) → Binds columns (literal_term (literal.Truth truth)) (Ok bound)
Binds-truth columns truth bound k t = (_, refl, Means-constant columns scalar.Bool (Truth truth) bound refl k t)

-- no bound arguments mean no terms
pub none_meant : (P : List Term → Type 0) (columns : List Column) (terms : List Term) → AreMeant columns arguments.None terms → P [] → P terms
none_meant P columns [] m p = p
none_meant P columns (x ∷ terms) m p = absurd m

-- one bound argument means one term
pub one_meant : (P : List Term → Type 0) (columns : List Column) (a : Bound) (terms : List Term)
    → AreMeant columns (arguments.One a) terms → ((x : Term) → Means columns a x → P (x ∷ [])) → P terms
one_meant P columns a [] m f = absurd m
one_meant P columns a (x ∷ []) m f = f x m
one_meant P columns a (x ∷ y ∷ terms) m f = absurd m

-- two bound arguments mean two terms
pub two_meant : (P : List Term → Type 0) (columns : List Column) (a b : Bound) (terms : List Term)
    → AreMeant columns (arguments.Two a b) terms → ((x y : Term) → Means columns a x → Means columns b y → P (x ∷ y ∷ [])) → P terms
two_meant P columns a b [] m f = absurd m
two_meant P columns a b (x ∷ []) m f = absurd m
two_meant P columns a b (x ∷ y ∷ []) m f = f x y m.0 m.1
two_meant P columns a b (x ∷ y ∷ z ∷ terms) m f = absurd m

-- three bound arguments mean three terms
pub three_meant : (P : List Term → Type 0) (columns : List Column) (a b c : Bound) (terms : List Term)
    → AreMeant columns (arguments.Three a b c) terms
    → ((x y z : Term) → Means columns a x → Means columns b y → Means columns c z → P (x ∷ y ∷ z ∷ [])) → P terms
three_meant P columns a b c [] m f = absurd m
three_meant P columns a b c (x ∷ []) m f = absurd m
three_meant P columns a b c (x ∷ y ∷ []) m f = absurd m
three_meant P columns a b c (x ∷ y ∷ z ∷ []) m f = f x y z m.0 m.1 m.2
three_meant P columns a b c (x ∷ y ∷ z ∷ more ∷ terms) m f = absurd m
