-- What an expression means that uses only columns of a key goes by the values of the key.
use Rattle.std.specs.Prelude.{ℕ, pos, ◌≡◌, ◌||◌, nat_eq, nat_lt, length, Bool, true, false, if◌then◌else◌, List, [], ◌∷◌, slice_get, map, Option, None, Some, IfSome, IfOk, Result, Ok, Err}
use Rattle.std.specs.List.{list_any}
use Rattle.std.specs.Option.{option_map, option_and_then, unwrap_or}
use Rattle.std.proofs.Common.{ap, ap₂, refl, sym, subst, ◌∙◌, rules}
use Rattle.std.proofs.lemmas.Bool.{and_parts}
use Rattle.chv_ast.specs.declared.expr.Args.{Args, roll-Args, map-Args}
use Rattle.chv_ast.specs.declared.expr.Args.TheFolds.{ind-Expr}
use Rattle.chv_ast.specs.declared.expr.Args.TheOpen.{Expr-F, Args-F}
use Rattle.chv_ast.specs.declared.expr.Args.TheVariants as args
use Rattle.chv_ast.specs.declared.expr.BinaryOp.{BinaryOp}
use Rattle.chv_ast.specs.declared.expr.BinaryOp.TheVariants as binary
use Rattle.chv_ast.specs.declared.expr.Expr.{Expr, map-Expr, roll-Expr}
use Rattle.chv_ast.specs.declared.expr.Expr.TheVariants as expr
use Rattle.chv_ast.specs.declared.expr.Literal.{Literal}
use Rattle.chv_ast.specs.declared.expr.Literal.TheVariants as literal
use Rattle.chv_ast.specs.declared.expr.UnaryOp.{UnaryOp}
use Rattle.chv_ast.specs.declared.refusal.Refusal.{Refusal}
use Rattle.chv_ast.specs.declared.refusal.Refusal.TheVariants.{BadLiteral, TypeMismatch, UnknownColumn}
use Rattle.chv_catalog.specs.declared.table_def.TableDef.{TableDef}
use Rattle.chv_expr.proofs.TermLaws.{term-Binary, term-Call, term-Column, term-Literal, term-Unary, terms-End, terms-More}
use Rattle.chv_expr.specs.Kinds.{class_of, numbers, joined, binary_kind, unary_kind}
use Rattle.chv_expr.specs.Terms.{Term, applied, binary_term, binary_value, chosen_of, chosen_value, column_at, constant, function_named, in_classes, is_signed, length_of, literal_term, no_function, quotient_term, term_of, terms_of, unary_term, unary_value, widened_of}
use Rattle.chv_expr.specs.Values.{arithmetic, choice, text_length, widened}
use Rattle.chv_expr.specs.declared.function.Function.{Function}
use Rattle.chv_expr.specs.declared.function.Function.TheVariants.{Modulo, IntDiv, Length, If, ToUInt64, ToInt64}
use Rattle.chv_expr.specs.declared.kind.Class.{Class}
use Rattle.chv_expr.specs.declared.kind.Class.TheVariants as class
use Rattle.chv_expr.specs.declared.tree.Arithmetic.TheVariants as sum
use Rattle.chv_merge.proofs.KeyLemmas.{same_at_places}
use Rattle.chv_merge.specs.NormalForms.{values_at}
use Rattle.chv_query.proofs.MergeBlindLaws.{use-More, uses-Binary, uses-Call, uses-Column, uses-Unary}
use Rattle.chv_query.specs.MergeBlind.{is_among, use_key, uses_key}
use Rattle.chv_types.specs.Names.{place_of}
use Rattle.chv_types.specs.Steps.{and_then, or_refuse}
use Rattle.chv_types.specs.Texts.{whole_number}
use Rattle.chv_types.specs.declared.kind.Scalar.TheVariants as scalar
use Rattle.chv_types.specs.declared.table.Column.{Column}
use Rattle.chv_types.specs.declared.value.Value.{Value}
use Rattle.chv_types.specs.declared.value.Value.TheVariants.{Whole, Text}

-- the value of a term goes by the values of a key
abbrev pub GoesBy : List ℕ → Term → Type 0
GoesBy key term = (a b : List Value) → values_at key a ≡ values_at key b → term.value a ≡ term.value b

-- likewise of each of these terms
abbrev pub AllGoBy : List ℕ → List Term → Type 0
AllGoBy key [] = Unit {0}
AllGoBy key (term ∷ terms) = GoesBy key term × AllGoBy key terms

-- what is made of each that is there holds of what is there
from_each : {K L : Type 0} (Q : L → Type 0) (make : K → L) (o : Option K) → ((k : K) → Q (make k)) → IfSome (option_map make o) Q
from_each Q make None f = tt
from_each Q make (Some k) f = f k

refused : {A : Type 0} (Q : A → Type 0) (refusal : Refusal) (o : Option A) → IfSome o Q → IfOk (or_refuse refusal o) Q
refused Q refusal None h = tt
refused Q refusal (Some a) h = h

stepped : {A B : Type 0} (P : A → Type 0) (Q : B → Type 0) (r : Result A Refusal) (rest : A → Result B Refusal) → IfOk r P → ((a : A) → P a → IfOk (rest a) Q)
    → IfOk (and_then r rest) Q
stepped P Q (Ok a) rest h f = f a h
stepped P Q (Err refusal) rest h f = tt

nat_eq-comm : (m n : ℕ) → nat_eq m n ≡ true → nat_eq n m ≡ true
nat_eq-comm m n h = search (rules, h)

either : (p q r s : Bool) → (p ≡ true → q ≡ true) → (r ≡ true → s ≡ true) → (p || r) ≡ true → (q || s) ≡ true
either true true r s f g h = refl
either true false r s f g h = absurd (cc (f refl))
either false true r s f g h = refl
either false false r s f g h = g h

-- a place is among those of a key
any_among : (key : List ℕ) (place : ℕ) → is_among key place ≡ true → list_any (nat_eq place) key ≡ true
any_among [] place h = absurd (cc h)
any_among (first ∷ key) place h =
    either (nat_eq first place) (nat_eq place first) (is_among key place) (list_any (nat_eq place) key) (nat_eq-comm first place) (any_among key place) h

module _ (key : List ℕ) where
  abbrev By : Term → Type 0
  By term = GoesBy key term

  column-by : (place : ℕ) (column : Column) → is_among key place ≡ true → By (column_at place column)
  column-by place column among a b same = ap (λ (o : Option Value). Some (unwrap_or o (Whole (pos 0)))) (same_at_places key a b same place (any_among key place among))

  named-by : (columns : List Column) (place : Option ℕ) → unwrap_or (option_map (is_among key) place) false ≡ true
      → IfSome (option_and_then (λ place. option_map (column_at place) (slice_get columns place)) place) By
  named-by columns None h = absurd (cc h)
  named-by columns (Some place) h = from_each By (column_at place) (slice_get columns place) (λ column. column-by place column h)

  literal-by : (value : Literal) → IfOk (literal_term value) By
  literal-by (literal.Whole false digits) = refused By BadLiteral _ (from_each By _ (whole_number digits) (λ n a b same. refl))
  literal-by (literal.Whole true digits) = tt
  literal-by (literal.Quoted text) = by (nat_lt 1048576 (length text))
    where
      by : (long : Bool) → IfOk (if long then Err BadLiteral else Ok (constant scalar.Text (Text text))) By
      by true = tt
      by false = λ a b same. refl
  literal-by (literal.Truth truth) = λ a b same. refl

  unary-by : (op : UnaryOp) (x : Term) → By x → IfSome (unary_term op x) By
  unary-by op x f = from_each By _ (option_and_then (unary_kind op) (class_of x.kind)) (λ of a b same. ap (unary_value op) (f a b same))

  binary-by : (op : BinaryOp) (x y : Term) → By x → By y → IfSome (binary_term op x y) By
  binary-by op x y f g =
      from_each By _ (in_classes (binary_kind op) x y) (λ of a b same. ap₂ (binary_value op (is_signed of)) (f a b same) (g a b same))

  quotient-by : (x y : Term) → By x → By y → IfSome (quotient_term x y) By
  quotient-by x y f g =
      from_each By _ (in_classes numbers x y) (λ signed a b same. ap₂ (arithmetic sum.Quotient signed) (f a b same) (g a b same))

  length-by : (x : Term) → By x → (c : Option Class) → IfSome (option_and_then (length_of x) c) By
  length-by x f None = tt
  length-by x f (Some class.Text) = λ a b same. ap text_length (f a b same)
  length-by x f (Some class.Truth) = tt
  length-by x f (Some (class.Number signed)) = tt

  widened-by : (signed : Bool) (x : Term) → By x → (c : Option Class) → IfSome (option_and_then (widened_of signed x) c) By
  widened-by signed x f None = tt
  widened-by signed x f (Some (class.Number other)) = λ a b same. ap (widened signed) (f a b same)
  widened-by signed x f (Some class.Truth) = tt
  widened-by signed x f (Some class.Text) = tt

  if-by : (test x y : Term) → By test → By x → By y → (c : Option Class) → IfSome (option_and_then (chosen_of test x y) c) By
  if-by test x y t f g None = tt
  if-by test x y t f g (Some class.Truth) =
      from_each By _ (in_classes joined x y) (λ of a b same.
      ap (λ (o : Option Value). chosen_value of (choice o (x.value a) (y.value a))) (t a b same)
      ∙ ap₂ (λ (o r : Option Value). chosen_value of (choice (test.value b) o r)) (f a b same) (g a b same))
  if-by test x y t f g (Some class.Text) = tt
  if-by test x y t f g (Some (class.Number signed)) = tt

  applied-by : (function : Function) (terms : List Term) → AllGoBy key terms → IfSome (applied function terms) By
  applied-by Modulo (x ∷ y ∷ []) all = binary-by binary.Modulo x y all.0 all.1.0
  applied-by IntDiv (x ∷ y ∷ []) all = quotient-by x y all.0 all.1.0
  applied-by Length (x ∷ []) all = length-by x all.0 (class_of x.kind)
  applied-by If (test ∷ x ∷ y ∷ []) all = if-by test x y all.0 all.1.0 all.1.1.0 (class_of test.kind)
  applied-by ToUInt64 (x ∷ []) all = widened-by false x all.0 (class_of x.kind)
  applied-by ToInt64 (x ∷ []) all = widened-by true x all.0 (class_of x.kind)
  applied-by function other all = tt

  called-by : (refusal : Refusal) (found : Option Function) (terms : List Term) → AllGoBy key terms
      → IfOk (and_then (or_refuse refusal found) (λ function. or_refuse TypeMismatch (applied function terms))) By
  called-by refusal None terms all = tt
  called-by refusal (Some function) terms all = refused By TypeMismatch (applied function terms) (applied-by function terms all)

module _ (def : TableDef) where
  -- an expression that uses only columns of the key goes by it, and so do arguments
  abbrev ExprBy : Expr → Type 0
  ExprBy e = uses_key def e ≡ true → IfOk (term_of def.columns e) (GoesBy def.key)

  abbrev ArgsBy : Args → Type 0
  ArgsBy list = use_key def list ≡ true → IfOk (terms_of def.columns list) (AllGoBy def.key)

  column_by : (name : List ℕ) → ExprBy (expr.Column name)
  column_by name uses =
      rw (term-Column def.columns name)
      (refused (GoesBy def.key) UnknownColumn _ (named-by def.key def.columns (place_of name (map (λ (column : Column). column.name) def.columns)) (sym (uses-Column def name) ∙ uses)))

  unary_by : (op : UnaryOp) (arg : Expr) → ExprBy arg → ExprBy (expr.Unary op arg)
  unary_by op arg f uses =
      let T = GoesBy def.key in
      rw (term-Unary def.columns op arg)
      (stepped T T (term_of def.columns arg) _ (f (sym (uses-Unary def op arg) ∙ uses)) (λ x p. refused T TypeMismatch (unary_term op x) (unary-by def.key op x p)))

  binary_by : (op : BinaryOp) (left right : Expr) → ExprBy left → ExprBy right → ExprBy (expr.Binary op left right)
  binary_by op left right f g uses =
      let T = GoesBy def.key in
      let parts = and_parts (uses_key def left) (uses_key def right) (sym (uses-Binary def op left right) ∙ uses) in
      rw (term-Binary def.columns op left right)
      (stepped T T (term_of def.columns left) _ (f parts.0) (λ x p. stepped T T (term_of def.columns right) _ (g parts.1) (λ y q.
      refused T TypeMismatch (binary_term op x y) (binary-by def.key op x y p q))))

  call_by : (name : List ℕ) (list : Args) → ArgsBy list → ExprBy (expr.Call name list)
  call_by name list f uses =
      rw (term-Call def.columns name list)
      (stepped (AllGoBy def.key) (GoesBy def.key) (terms_of def.columns list) _ (f (sym (uses-Call def name list) ∙ uses))
      (λ terms all. called-by def.key (no_function name) (function_named name) terms all))

  more_by : (first : Expr) (list : Args) → ExprBy first → ArgsBy list → ArgsBy (args.More first list)
  more_by first list f g uses =
      let T = GoesBy def.key in let All = AllGoBy def.key in
      let parts = and_parts (uses_key def first) (use_key def list) (sym (use-More def first list) ∙ uses) in
      rw (terms-More def.columns first list)
      (stepped T All (term_of def.columns first) _ (f parts.0) (λ x p. stepped All All (terms_of def.columns list) _ (g parts.1) (λ terms q. (p, q))))

  abbrev SomeArgs : Type 0
  SomeArgs = (list : Args) × ArgsBy list

  abbrev SomeExpr : Type 0
  SomeExpr = (e : Expr) × ExprBy e

  expr_layer : (layer : Expr-F SomeArgs SomeExpr) → ExprBy (roll-Expr (map-Expr SomeArgs SomeExpr Args Expr (λ list. list.0) (λ e. e.0) layer))
  expr_layer (Expr-F.Column name) = subst ExprBy (sym (expr.rolls-Column name)) (column_by name)
  expr_layer (Expr-F.Literal value) =
      subst ExprBy (sym (expr.rolls-Literal value)) (λ uses. rw (term-Literal def.columns value) (literal-by def.key value))
  expr_layer (Expr-F.Unary op arg) = subst ExprBy (sym (expr.rolls-Unary op arg.0)) (unary_by op arg.0 arg.1)
  expr_layer (Expr-F.Binary op left right) = subst ExprBy (sym (expr.rolls-Binary op left.0 right.0)) (binary_by op left.0 right.0 left.1 right.1)
  expr_layer (Expr-F.Call name list) = subst ExprBy (sym (expr.rolls-Call name list.0)) (call_by name list.0 list.1)

  args_layer : (layer : Args-F SomeArgs SomeExpr) → ArgsBy (roll-Args (map-Args SomeArgs SomeExpr Args Expr (λ list. list.0) (λ e. e.0) layer))
  args_layer Args-F.End = subst ArgsBy (sym args.rolls-End) (λ uses. rw (terms-End def.columns) tt)
  args_layer (Args-F.More first list) = subst ArgsBy (sym (args.rolls-More first.0 list.0)) (more_by first.0 list.0 first.1 list.1)

  term_of-by : (e : Expr) → ExprBy e
  term_of-by =
      ind-Expr ArgsBy ExprBy
      (λ x y is. subst (λ z. ArgsBy (roll-Args z)) is (args_layer y))
      (λ x y is. subst (λ z. ExprBy (roll-Expr z)) is (expr_layer y))

  -- a term that is there
  pub term-by : (e : Expr) (term : Term) → uses_key def e ≡ true → term_of def.columns e ≡ Ok term → GoesBy def.key term
  term-by e term uses is = subst (λ r. IfOk r (GoesBy def.key)) is (term_of-by e uses)
