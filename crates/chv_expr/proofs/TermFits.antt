-- The values of a term are of its kind, over rows of the columns' kinds. What it is to be of a kind is given, for kinds of plain
-- values as ever: states may be asked to be spelled whole, or to be short.
use Rattle.std.specs.Prelude.{ℕ, pos, zero, suc, ◌≡◌, ◌↔◌, ◌^◌, nat_lt, length, Bool, true, false, cond, if◌then◌else◌, List, [], ◌∷◌, slice_get, map, Option, None, Some, IfSome, IfOk, Result, Ok, Err}
use Rattle.std.specs.Option.{option_map, option_and_then}
use Rattle.std.specs.List.{All}
use Rattle.std.proofs.Common.{ap, refl, sym, subst, ◌∙◌, ◌⊎◌, inl, inr}
use Rattle.std.proofs.lemmas.List.Elements.{All-cons, All-nil}
use Rattle.std.proofs.lemmas.Bool.{ltb-true, ltb-false}
use Rattle.std.proofs.lemmas.Option.{slice_get-map}
use Rattle.chv_ast.specs.declared.expr.Args.{Args, roll-Args, map-Args}
use Rattle.chv_ast.specs.declared.expr.Args.TheFolds.{ind-Expr, ind-Args}
use Rattle.chv_ast.specs.declared.expr.Args.TheOpen.{Expr-F, Args-F}
use Rattle.chv_ast.specs.declared.expr.Args.TheVariants as args
use Rattle.chv_ast.specs.declared.expr.BinaryOp.{BinaryOp}
use Rattle.chv_ast.specs.declared.expr.BinaryOp.TheVariants as binary
use Rattle.chv_ast.specs.declared.expr.Expr.{Expr, map-Expr, out-Expr, roll-Expr, roll-out-Expr}
use Rattle.chv_ast.specs.declared.expr.Expr.TheVariants as expr
use Rattle.chv_ast.specs.declared.expr.Literal.{Literal}
use Rattle.chv_ast.specs.declared.expr.Literal.TheVariants as literal
use Rattle.chv_ast.specs.declared.expr.UnaryOp.{UnaryOp}
use Rattle.chv_ast.specs.declared.refusal.Refusal.{Refusal}
use Rattle.chv_ast.specs.declared.refusal.Refusal.TheVariants.{BadLiteral, TypeMismatch, UnknownColumn}
use Rattle.chv_types.specs.Fits.{Fits, IsOfScalar}
use Rattle.chv_types.specs.Names.{place_of}
use Rattle.chv_types.specs.Steps.{and_then, or_refuse}
use Rattle.chv_types.specs.Texts.{digits_number, small}
use Rattle.chv_types.specs.Values.{IsPlain}
use Rattle.chv_types.specs.declared.kind.Kind.{Kind}
use Rattle.chv_types.specs.declared.kind.Kind.TheVariants as kind
use Rattle.chv_types.specs.declared.kind.Scalar.{Scalar}
use Rattle.chv_types.specs.declared.kind.Scalar.TheVariants as scalar
use Rattle.chv_types.specs.declared.table.Column.{Column}
use Rattle.chv_types.specs.declared.value.Value.{Value}
use Rattle.chv_types.specs.declared.value.Value.TheVariants.{Whole, Truth, Text}
use Rattle.chv_expr.specs.Bindings.{kinds_of}
use Rattle.chv_expr.specs.Kinds.{class_of, wide, numbers, joined, binary_kind, unary_kind}
use Rattle.chv_expr.specs.Terms.{Term, applied, binary_term, binary_value, chosen_of, chosen_value, column_at, constant, function_named, in_classes, is_signed, length_of, literal_term, no_function, quotient_term, term_of, terms_of, unary_term, unary_value, value_at, widened_of}
use Rattle.chv_expr.specs.Values.{arithmetic, choice, text_length, widened}
use Rattle.chv_expr.specs.declared.function.Function.{Function}
use Rattle.chv_expr.specs.declared.function.Function.TheVariants.{Modulo, IntDiv, Length, If, ToUInt64, ToInt64}
use Rattle.chv_expr.specs.declared.kind.Class.{Class}
use Rattle.chv_expr.specs.declared.kind.Class.TheVariants as class
use Rattle.chv_expr.specs.declared.tree.Arithmetic.TheVariants as sum
use Rattle.chv_expr.proofs.FitLemmas.{IsPlainly, fits-arithmetic, fits-small, fits-text_length, fits-widened}
use Rattle.chv_expr.proofs.MeansLemmas.{fits-binary_value, fits-chosen_value, fits-text, fits-unary_value, of_kinds}
use Rattle.chv_expr.proofs.TermLaws.{term-Binary, term-Call, term-Column, term-Literal, term-Unary, terms-End, terms-More}

-- values are of these kinds, one for one
abbrev pub AllOf : (Kind → Value → Type 0) → List Kind → List Value → Type 0
AllOf P [] [] = Unit {0}
AllOf P [] (value ∷ values) = ⊥
AllOf P (of ∷ kinds) [] = ⊥
AllOf P (of ∷ kinds) (value ∷ values) = P of value × AllOf P kinds values

-- over rows of these kinds the value of a term is of its kind
abbrev pub IsTyped : (Kind → Value → Type 0) → List Kind → Term → Type 0
IsTyped P kinds term = (row : List Value) → AllOf P kinds row → IfSome (term.value row) (P term.kind)

-- likewise of each of these terms
abbrev pub AllTyped : (Kind → Value → Type 0) → List Kind → List Term → Type 0
AllTyped P kinds [] = Unit {0}
AllTyped P kinds (term ∷ terms) = IsTyped P kinds term × AllTyped P kinds terms

-- what is made of each kind holds of what is there
from_each : {K L : Type 0} (Q : L → Type 0) (make : K → L) (o : Option K) → ((k : K) → o ≡ Some k → Q (make k)) → IfSome (option_map make o) Q
from_each Q make None f = tt
from_each Q make (Some k) f = f k refl

-- what is there is not refused
refused : {A : Type 0} (Q : A → Type 0) (refusal : Refusal) (o : Option A) → IfSome o Q → IfOk (or_refuse refusal o) Q
refused Q refusal None h = tt
refused Q refusal (Some a) h = h

-- a step behind another
stepped : {A B : Type 0} (P : A → Type 0) (Q : B → Type 0) (r : Result A Refusal) (rest : A → Result B Refusal) → IfOk r P → ((a : A) → P a → IfOk (rest a) Q)
    → IfOk (and_then r rest) Q
stepped P Q (Ok a) rest h f = f a h
stepped P Q (Err refusal) rest h f = tt

module _ (P : Kind → Value → Type 0) (plain : (of : Scalar) (value : Value) → P (kind.Plain of) value ↔ IsOfScalar of value) where
  -- a value of a kind of plain values, where it is there
  forth : (of : Scalar) (value : Option Value) → IfSome value (P (kind.Plain of)) → IsPlainly of value
  forth of None h = tt
  forth of (Some value) h = (plain of value).0 h

  back : (of : Scalar) (value : Option Value) → IsPlainly of value → IfSome value (P (kind.Plain of))
  back of None h = tt
  back of (Some value) h = (plain of value).1 h

  -- kinds of states have no class
  class_fits : (k : Kind) (c : Class) (value : Option Value) → class_of k ≡ Some c → IfSome value (P k) → IfSome value (Fits k)
  class_fits (kind.Plain of) c value e h = forth of value h
  class_fits (kind.State agg arg) c value e h = absurd (cc e)

  left_fits : {C : Type 0} (f : Class → Class → Option C) (j k : Kind) (r : C) (value : Option Value) → of_kinds f j k ≡ Some r → IfSome value (P j) → IfSome value (Fits j)
  left_fits f (kind.Plain of) k r value e h = forth of value h
  left_fits f (kind.State agg arg) k r value e h = absurd (cc e)

  right_fits : {C : Type 0} (f : Class → Class → Option C) (j k : Kind) (r : C) (value : Option Value) → of_kinds f j k ≡ Some r → IfSome value (P k) → IfSome value (Fits k)
  right_fits f j (kind.Plain of) r value e h = forth of value h
  right_fits f (kind.Plain of) (kind.State agg arg) r value e h = absurd (cc e)
  right_fits f (kind.State other of) (kind.State agg arg) r value e h = absurd (cc e)

  -- the value of a place is of the kind of that place
  pub value_at-of : (kinds : List Kind) (row : List Value) (place : ℕ) (k : Kind) → AllOf P kinds row → slice_get kinds place ≡ Some k → P k (value_at place row)
  value_at-of [] [] place k all e = absurd (cc e)
  value_at-of [] (value ∷ row) place k all e = absurd all
  value_at-of (of ∷ kinds) [] place k all e = absurd all
  value_at-of (of ∷ kinds) (value ∷ row) zero k all e = let same : of ≡ k = cc e in subst (λ k. P k value) same all.0
  value_at-of (of ∷ kinds) (value ∷ row) (suc place) k all e = value_at-of kinds row place k all.1 e

  column-typed : (columns : List Column) (place : ℕ) (found : Option Column) → slice_get columns place ≡ found
      → IfSome (option_map (column_at place) found) (IsTyped P (kinds_of columns))
  column-typed columns place None e = tt
  column-typed columns place (Some column) e =
      let kind_of = λ (column : Column). column.kind in
      λ row all. value_at-of (kinds_of columns) row place column.kind all (slice_get-map kind_of columns place ∙ ap (option_map kind_of) e)

  named-typed : (columns : List Column) (place : Option ℕ)
      → IfSome (option_and_then (λ place. option_map (column_at place) (slice_get columns place)) place) (IsTyped P (kinds_of columns))
  named-typed columns None = tt
  named-typed columns (Some place) = column-typed columns place (slice_get columns place) refl

  module _ (kinds : List Kind) where
    -- a literal
    small-typed : (n : ℕ) (within : Bool) → nat_lt n (2 ^ 64) ≡ within
        → IfSome (option_map (λ n. constant scalar.UInt64 (Whole (pos n))) (cond within (Some n) None)) (IsTyped P kinds)
    small-typed n false e = tt
    small-typed n true e = λ row all. (plain scalar.UInt64 (Whole (pos n))).1 (fits-small n (ltb-true n (2 ^ 64) e))

    whole-typed : (number : Option ℕ) → IfSome (option_map (λ n. constant scalar.UInt64 (Whole (pos n))) (option_and_then small number)) (IsTyped P kinds)
    unfolding small
    whole-typed None = tt
    whole-typed (Some n) = small-typed n (nat_lt n (2 ^ 64)) refl

    text-typed : (text : List ℕ) (long : Bool) → nat_lt 1048576 (length text) ≡ long
        → IfOk (if long then Err BadLiteral else Ok (constant scalar.Text (Text text))) (IsTyped P kinds)
    text-typed text true e = tt
    text-typed text false e = λ row all. (plain scalar.Text (Text text)).1 (refl, ltb-false 1048576 (length text) e)

    literal-typed : (value : Literal) → IfOk (literal_term value) (IsTyped P kinds)
    literal-typed (literal.Whole false digits) = refused (IsTyped P kinds) BadLiteral _ (whole-typed (digits_number digits))
    literal-typed (literal.Whole true digits) = tt
    literal-typed (literal.Quoted text) = text-typed text (nat_lt 1048576 (length text)) refl
    literal-typed (literal.Truth truth) = λ row all. (plain scalar.Bool (Truth truth)).1 refl

    -- operations
    unary-typed : (op : UnaryOp) (a : Term) → IfSome (unary_term op a) (IsTyped P kinds)
    unary-typed op a =
        from_each (IsTyped P kinds) _ (option_and_then (unary_kind op) (class_of a.kind))
        (λ of e row all. back of (unary_value op (a.value row)) (fits-unary_value op (class_of a.kind) of (a.value row) e))

    binary-typed : (op : BinaryOp) (a b : Term) → IsTyped P kinds b → IfSome (binary_term op a b) (IsTyped P kinds)
    binary-typed op a b t =
        from_each (IsTyped P kinds) _ (in_classes (binary_kind op) a b)
        (λ of e row all. back of (binary_value op (is_signed of) (a.value row) (b.value row))
        (fits-binary_value op a.kind b.kind of (a.value row) (b.value row) e (right_fits (binary_kind op) a.kind b.kind of (b.value row) e (t row all))))

    quotient-typed : (a b : Term) → IfSome (quotient_term a b) (IsTyped P kinds)
    quotient-typed a b =
        from_each (IsTyped P kinds) _ (in_classes numbers a b)
        (λ signed e row all. back (wide signed) (arithmetic sum.Quotient signed (a.value row) (b.value row)) (fits-arithmetic sum.Quotient signed (a.value row) (b.value row)))

    -- functions
    length-typed : (a : Term) → IsTyped P kinds a → (c : Option Class) → class_of a.kind ≡ c → IfSome (option_and_then (length_of a) c) (IsTyped P kinds)
    length-typed a t None e = tt
    length-typed a t (Some class.Text) e =
        λ row all. back scalar.UInt64 (text_length (a.value row))
        (fits-text_length (a.value row) (fits-text a.kind (a.value row) e (class_fits a.kind class.Text (a.value row) e (t row all))))
    length-typed a t (Some class.Truth) e = tt
    length-typed a t (Some (class.Number signed)) e = tt

    widened-typed : (signed : Bool) (a : Term) (c : Option Class) → IfSome (option_and_then (widened_of signed a) c) (IsTyped P kinds)
    widened-typed signed a None = tt
    widened-typed signed a (Some (class.Number other)) = λ row all. back (wide signed) (widened signed (a.value row)) (fits-widened signed (a.value row))
    widened-typed signed a (Some class.Truth) = tt
    widened-typed signed a (Some class.Text) = tt

    if-typed : (test a b : Term) → IsTyped P kinds a → IsTyped P kinds b → (c : Option Class) → IfSome (option_and_then (chosen_of test a b) c) (IsTyped P kinds)
    if-typed test a b s t None = tt
    if-typed test a b s t (Some class.Truth) =
        from_each (IsTyped P kinds) _ (in_classes joined a b)
        (λ of e row all. back of (chosen_value of (choice (test.value row) (a.value row) (b.value row)))
        (fits-chosen_value a.kind b.kind of (test.value row) (a.value row) (b.value row) e (left_fits joined a.kind b.kind of (a.value row) e (s row all))
        (right_fits joined a.kind b.kind of (b.value row) e (t row all))))
    if-typed test a b s t (Some class.Text) = tt
    if-typed test a b s t (Some (class.Number signed)) = tt

    applied-typed : (function : Function) (terms : List Term) → AllTyped P kinds terms → IfSome (applied function terms) (IsTyped P kinds)
    applied-typed Modulo (a ∷ b ∷ []) all = binary-typed binary.Modulo a b all.1.0
    applied-typed IntDiv (a ∷ b ∷ []) all = quotient-typed a b
    applied-typed Length (a ∷ []) all = length-typed a all.0 (class_of a.kind) refl
    applied-typed If (test ∷ a ∷ b ∷ []) all = if-typed test a b all.1.0 all.1.1.0 (class_of test.kind)
    applied-typed ToUInt64 (a ∷ []) all = widened-typed false a (class_of a.kind)
    applied-typed ToInt64 (a ∷ []) all = widened-typed true a (class_of a.kind)
    applied-typed function other all = tt

    called-typed : (refusal : Refusal) (found : Option Function) (terms : List Term) → AllTyped P kinds terms
        → IfOk (and_then (or_refuse refusal found) (λ function. or_refuse TypeMismatch (applied function terms))) (IsTyped P kinds)
    called-typed refusal None terms all = tt
    called-typed refusal (Some function) terms all = refused (IsTyped P kinds) TypeMismatch (applied function terms) (applied-typed function terms all)

  module _ (columns : List Column) where
    -- what an expression means is so, and what arguments mean
    abbrev ExprTyped : Expr → Type 0
    ExprTyped e = IfOk (term_of columns e) (IsTyped P (kinds_of columns))

    abbrev ArgsTyped : Args → Type 0
    ArgsTyped list = IfOk (terms_of columns list) (AllTyped P (kinds_of columns))

    binary_step : (op : BinaryOp) (left right : Expr) → ExprTyped left → ExprTyped right
        → IfOk (and_then (term_of columns left) (λ a. and_then (term_of columns right) (λ b. or_refuse TypeMismatch (binary_term op a b)))) (IsTyped P (kinds_of columns))
    binary_step op left right s t =
        let T = IsTyped P (kinds_of columns) in
        stepped T T (term_of columns left) _ s (λ a p. stepped T T (term_of columns right) _ t (λ b q.
        refused T TypeMismatch (binary_term op a b) (binary-typed (kinds_of columns) op a b q)))

    more_step : (first : Expr) (list : Args) → ExprTyped first → ArgsTyped list
        → IfOk (and_then (term_of columns first) (λ a. and_then (terms_of columns list) (λ terms. Ok (a ∷ terms)))) (AllTyped P (kinds_of columns))
    more_step first list s t =
        let T = IsTyped P (kinds_of columns) in let All = AllTyped P (kinds_of columns) in
        stepped T All (term_of columns first) _ s (λ a p. stepped All All (terms_of columns list) _ t (λ terms q. (p, q)))

    expr_layer : (layer : Expr-F ((list : Args) × ArgsTyped list) ((e : Expr) × ExprTyped e))
        → ExprTyped (roll-Expr (map-Expr ((list : Args) × ArgsTyped list) ((e : Expr) × ExprTyped e) Args Expr (λ list. list.0) (λ e. e.0) layer))
    expr_layer (Expr-F.Column name) =
        subst ExprTyped (sym (expr.rolls-Column name)) (rw (term-Column columns name)
        (refused (IsTyped P (kinds_of columns)) UnknownColumn _ (named-typed columns (place_of name (map (λ column. column.name) columns)))))
    expr_layer (Expr-F.Literal value) =
        subst ExprTyped (sym (expr.rolls-Literal value)) (rw (term-Literal columns value) (literal-typed (kinds_of columns) value))
    expr_layer (Expr-F.Unary op arg) =
        let T = IsTyped P (kinds_of columns) in
        subst ExprTyped (sym (expr.rolls-Unary op arg.0)) (rw (term-Unary columns op arg.0)
        (stepped T T (term_of columns arg.0) _ arg.1 (λ a p. refused T TypeMismatch (unary_term op a) (unary-typed (kinds_of columns) op a))))
    expr_layer (Expr-F.Binary op left right) =
        subst ExprTyped (sym (expr.rolls-Binary op left.0 right.0)) (rw (term-Binary columns op left.0 right.0) (binary_step op left.0 right.0 left.1 right.1))
    expr_layer (Expr-F.Call name list) =
        subst ExprTyped (sym (expr.rolls-Call name list.0)) (rw (term-Call columns name list.0)
        (stepped (AllTyped P (kinds_of columns)) (IsTyped P (kinds_of columns)) (terms_of columns list.0) _ list.1
        (λ terms all. called-typed (kinds_of columns) (no_function name) (function_named name) terms all)))

    args_layer : (layer : Args-F ((list : Args) × ArgsTyped list) ((e : Expr) × ExprTyped e))
        → ArgsTyped (roll-Args (map-Args ((list : Args) × ArgsTyped list) ((e : Expr) × ExprTyped e) Args Expr (λ list. list.0) (λ e. e.0) layer))
    args_layer Args-F.End = subst ArgsTyped (sym args.rolls-End) (rw (terms-End columns) tt)
    args_layer (Args-F.More first list) =
        subst ArgsTyped (sym (args.rolls-More first.0 list.0)) (rw (terms-More columns first.0 list.0) (more_step first.0 list.0 first.1 list.1))

    -- the values of what an expression means are of its kind
    pub term_of-typed : (e : Expr) → IfOk (term_of columns e) (IsTyped P (kinds_of columns))
    term_of-typed =
        ind-Expr ArgsTyped ExprTyped
        (λ x y is. subst (λ z. ArgsTyped (roll-Args z)) is (args_layer y))
        (λ x y is. subst (λ z. ExprTyped (roll-Expr z)) is (expr_layer y))

    pub terms_of-typed : (list : Args) → IfOk (terms_of columns list) (AllTyped P (kinds_of columns))
    terms_of-typed =
        ind-Args ArgsTyped ExprTyped
        (λ x y is. subst (λ z. ArgsTyped (roll-Args z)) is (args_layer y))
        (λ x y is. subst (λ z. ExprTyped (roll-Expr z)) is (expr_layer y))

    -- the same of a term that is there
    pub IsTyped-term : (e : Expr) (term : Term) → term_of columns e ≡ Ok term → IsTyped P (kinds_of columns) term
    IsTyped-term e term is = subst (λ r. IfOk r (IsTyped P (kinds_of columns))) is (term_of-typed e)

-- a term is of plain values, or it is a column
abbrev pub IsForm : List Kind → Term → Type 0
IsForm kinds term =
    IsPlain term.kind ⊎ ((place : ℕ) × (slice_get kinds place ≡ Some term.kind) × ((row : List Value) → term.value row ≡ Some (value_at place row)))

-- whatever a step gives
whatever : {A B : Type 0} (Q : B → Type 0) (r : Result A Refusal) (rest : A → Result B Refusal) → ((a : A) → IfOk (rest a) Q) → IfOk (and_then r rest) Q
whatever Q (Ok a) rest f = f a
whatever Q (Err refusal) rest f = tt

module _ (kinds : List Kind) where
  small-form : (number : Option ℕ) → IfSome (option_map (λ n. constant scalar.UInt64 (Whole (pos n))) number) (IsForm kinds)
  small-form number = from_each (IsForm kinds) _ number (λ n e. inl tt)

  literal-form : (value : Literal) → IfOk (literal_term value) (IsForm kinds)
  literal-form (literal.Whole false digits) = refused (IsForm kinds) BadLiteral _ (small-form (option_and_then small (digits_number digits)))
  literal-form (literal.Whole true digits) = tt
  literal-form (literal.Quoted text) = by (nat_lt 1048576 (length text))
    where
      by : (long : Bool) → IfOk (if long then Err BadLiteral else Ok (constant scalar.Text (Text text))) (IsForm kinds)
      by true = tt
      by false = inl tt
  literal-form (literal.Truth truth) = inl tt

  binary-form : (op : BinaryOp) (a b : Term) → IfSome (binary_term op a b) (IsForm kinds)
  binary-form op a b = from_each (IsForm kinds) _ (in_classes (binary_kind op) a b) (λ of e. inl tt)

  length-form : (a : Term) (c : Option Class) → IfSome (option_and_then (length_of a) c) (IsForm kinds)
  length-form a None = tt
  length-form a (Some class.Text) = inl tt
  length-form a (Some class.Truth) = tt
  length-form a (Some (class.Number signed)) = tt

  widened-form : (signed : Bool) (a : Term) (c : Option Class) → IfSome (option_and_then (widened_of signed a) c) (IsForm kinds)
  widened-form signed a None = tt
  widened-form signed a (Some (class.Number other)) = inl tt
  widened-form signed a (Some class.Truth) = tt
  widened-form signed a (Some class.Text) = tt

  if-form : (test a b : Term) (c : Option Class) → IfSome (option_and_then (chosen_of test a b) c) (IsForm kinds)
  if-form test a b None = tt
  if-form test a b (Some class.Truth) = from_each (IsForm kinds) _ (in_classes joined a b) (λ of e. inl tt)
  if-form test a b (Some class.Text) = tt
  if-form test a b (Some (class.Number signed)) = tt

  applied-form : (function : Function) (terms : List Term) → IfSome (applied function terms) (IsForm kinds)
  applied-form Modulo (a ∷ b ∷ []) = binary-form binary.Modulo a b
  applied-form IntDiv (a ∷ b ∷ []) = from_each (IsForm kinds) _ (in_classes numbers a b) (λ signed e. inl tt)
  applied-form Length (a ∷ []) = length-form a (class_of a.kind)
  applied-form If (test ∷ a ∷ b ∷ []) = if-form test a b (class_of test.kind)
  applied-form ToUInt64 (a ∷ []) = widened-form false a (class_of a.kind)
  applied-form ToInt64 (a ∷ []) = widened-form true a (class_of a.kind)
  applied-form function other = tt

-- a column is one
pub column_at-form : (columns : List Column) (place : ℕ) (column : Column) → slice_get columns place ≡ Some column → IsForm (kinds_of columns) (column_at place column)
column_at-form columns place column e =
    let kind_of = λ (column : Column). column.kind in
    inr (place, slice_get-map kind_of columns place ∙ ap (option_map kind_of) e, λ row. refl)

module _ (columns : List Column) where
  found-form : (place : ℕ) (found : Option Column) → slice_get columns place ≡ found → IfSome (option_map (column_at place) found) (IsForm (kinds_of columns))
  found-form place None e = tt
  found-form place (Some column) e = column_at-form columns place column e

  named-form : (place : Option ℕ) → IfSome (option_and_then (λ place. option_map (column_at place) (slice_get columns place)) place) (IsForm (kinds_of columns))
  named-form None = tt
  named-form (Some place) = found-form place (slice_get columns place) refl

  abbrev HasForm : Expr → Type 0
  HasForm e = IfOk (term_of columns e) (IsForm (kinds_of columns))

  form_layer : (layer : Expr-F Args Expr) → HasForm (roll-Expr layer)
  form_layer (Expr-F.Column name) =
      subst HasForm (sym (expr.rolls-Column name)) (rw (term-Column columns name)
      (refused (IsForm (kinds_of columns)) UnknownColumn _ (named-form (place_of name (map (λ column. column.name) columns)))))
  form_layer (Expr-F.Literal value) = subst HasForm (sym (expr.rolls-Literal value)) (rw (term-Literal columns value) (literal-form (kinds_of columns) value))
  form_layer (Expr-F.Unary op arg) =
      let Q = IsForm (kinds_of columns) in
      subst HasForm (sym (expr.rolls-Unary op arg)) (rw (term-Unary columns op arg)
      (whatever Q (term_of columns arg) _ (λ a. refused Q TypeMismatch (unary_term op a) (from_each Q _ (option_and_then (unary_kind op) (class_of a.kind)) (λ of e. inl tt)))))
  form_layer (Expr-F.Binary op left right) =
      let Q = IsForm (kinds_of columns) in
      subst HasForm (sym (expr.rolls-Binary op left right)) (rw (term-Binary columns op left right)
      (whatever Q (term_of columns left) _ (λ a. whatever Q (term_of columns right) _ (λ b. refused Q TypeMismatch (binary_term op a b) (binary-form (kinds_of columns) op a b)))))
  form_layer (Expr-F.Call name list) =
      let Q = IsForm (kinds_of columns) in
      subst HasForm (sym (expr.rolls-Call name list)) (rw (term-Call columns name list)
      (whatever Q (terms_of columns list) _ (λ terms. whatever Q (or_refuse (no_function name) (function_named name)) _
      (λ function. refused Q TypeMismatch (applied function terms) (applied-form (kinds_of columns) function terms)))))

  -- what an expression means is of plain values, or it is a column
  pub term_of-form : (e : Expr) → IfOk (term_of columns e) (IsForm (kinds_of columns))
  term_of-form e = subst HasForm (roll-out-Expr e) (form_layer (out-Expr e))

-- what holds of what each expression means holds of what arguments mean
module _ (columns : List Column) (Q : Term → Type 0) (each : (e : Expr) → IfOk (term_of columns e) Q) where
  abbrev EachOf : Args → Type 0
  EachOf list = IfOk (terms_of columns list) (All Q)

  each_layer : (layer : Args-F ((list : Args) × EachOf list) ((e : Expr) × Unit {0}))
      → EachOf (roll-Args (map-Args ((list : Args) × EachOf list) ((e : Expr) × Unit {0}) Args Expr (λ list. list.0) (λ e. e.0) layer))
  each_layer Args-F.End = subst EachOf (sym args.rolls-End) (rw (terms-End columns) (All-nil Q))
  each_layer (Args-F.More first list) =
      subst EachOf (sym (args.rolls-More first.0 list.0)) (rw (terms-More columns first.0 list.0)
      (stepped Q (All Q) (term_of columns first.0) _ (each first.0) (λ a p. stepped (All Q) (All Q) (terms_of columns list.0) _ list.1 (λ terms q. All-cons Q a terms p q))))

  pub terms_of-each : (list : Args) → IfOk (terms_of columns list) (All Q)
  terms_of-each = ind-Args EachOf (λ e. Unit {0}) (λ x y is. subst (λ z. EachOf (roll-Args z)) is (each_layer y)) (λ x y is. tt)
