-- What a query evaluates that does not see merges.
use Rattle.std.proofs.Common.{◌≡◌, inl, ℕ, ◌&&◌, Bool, true, false, if◌then◌else◌, List, [], ◌∷◌, ◌++◌, length, map, take, Option, None, Some, Ok, refl, sym, ap, subst, ◌∙◌, option_map}
use Rattle.std.proofs.Math.Seq.{take-append_seam}
use Rattle.std.proofs.lemmas.Bool.{and_parts}
use Rattle.std.proofs.lemmas.List.Elements.{All-tail}
use Rattle.std.specs.List.{All, list_all}
use Rattle.std.specs.Option.{unwrap_or}
use Rattle.chv_ast.specs.declared.expr.Expr.{Expr}
use Rattle.chv_ast.specs.declared.refusal.Refusal.{Refusal}
use Rattle.chv_ast.specs.declared.refusal.Refusal.TheVariants.{TypeMismatch, UnknownColumn}
use Rattle.chv_ast.specs.declared.statement.Item.{Item}
use Rattle.chv_ast.specs.declared.statement.Select.{Select}
use Rattle.chv_catalog.proofs.StepLemmas.{and_then-Ok, refuse_if-Ok}
use Rattle.chv_catalog.specs.Checks.{is_state}
use Rattle.chv_catalog.specs.Schemas.{kinds_of}
use Rattle.chv_catalog.specs.declared.table_def.TableDef.{TableDef}
use Rattle.chv_expr.proofs.TermFits.{IsForm, column_at-form, term_of-form}
use Rattle.chv_expr.specs.Terms.{Term, term_of}
use Rattle.chv_query.proofs.KeyLemmas.{length-terms}
use Rattle.chv_query.proofs.ShapeTerms.{AllOn, IsLaid, IsLaidOut, shape_of-laid}
use Rattle.chv_query.proofs.TakesLemmas.{ok_same}
use Rattle.chv_query.specs.Keys.{Key, key_of, key_term, key_tree, keys_of}
use Rattle.chv_query.specs.MergeBlind.{all_take_states, filter_uses, group_uses, is_blind, uses_key}
use Rattle.chv_query.specs.Outputs.{filter_of, outputs_of}
use Rattle.chv_query.specs.Queries.{Asked, asked_of, limit_of, sorts_of}
use Rattle.chv_query.specs.Shapes.{Shape, is_grouping, no_cells, put_items, shape_of, shape_of_cells, shape_of_groups, shape_of_outputs}
use Rattle.chv_query.specs.declared.groups.Groups.{Groups}
use Rattle.chv_types.specs.Steps.{and_then, or_refuse}
use Rattle.chv_history.proofs.MergeBlindTerms.{AllGoBy, GoesBy, term-by}

-- a condition goes by the values of a key
abbrev pub FilterGoesBy : List ℕ → Option Term → Type 0
FilterGoesBy key None = Unit {0}
FilterGoesBy key (Some condition) = GoesBy key condition

-- what is evaluated: keys that go by the sorting key, and behind them columns, of whose states calls take each those of their own
pub record IsBlindOver (def : TableDef) (filter : Option Term) (terms : List Term) (groups : Groups) : Type 0 where
  pub keys : List Term
  pub args : List Term
  pub are : terms ≡ keys ++ args
  pub count : groups.keys ≡ length keys
  pub filter_by : FilterGoesBy def.key filter
  pub keys_by : AllGoBy def.key keys
  pub on : AllOn groups.calls args
  pub forms : All (IsForm (kinds_of def)) args
  pub take : all_take_states groups.calls ≡ true

-- a query groups so
pub record IsBlindQuery (def : TableDef) (query : Asked) : Type 0 where
  pub of : query.def ≡ def
  pub groups : Groups
  pub grouping : query.grouping ≡ Some groups
  pub over : IsBlindOver def query.filter query.terms groups

-- what is not refused is there
pub there : {A : Type 0} (refusal : Refusal) (o : Option A) (a : A) → or_refuse refusal o ≡ Ok a → o ≡ Some a
there refusal None a is = absurd (cc is)
there refusal (Some b) a is = cc is

module _ (def : TableDef) where
  key_by : (items : List Item) (e : Expr) (key : Key) → group_uses def items e ≡ true → key_of def.columns items e ≡ Ok key → GoesBy def.key key.term
  key_by items e key uses is =
      let tree = and_then-Ok (or_refuse UnknownColumn (key_tree def.columns items e)) _ key is in
      let term = and_then-Ok (key_term def.columns tree.0) _ key tree.2 in
      let found = and_then-Ok (term_of def.columns tree.0) _ term.0 term.1 in
      let passed = refuse_if-Ok (is_state found.0.kind) TypeMismatch (Ok found.0) term.0 found.2 in
      let uses_tree : uses_key def tree.0 ≡ true =
      sym (ap (λ (o : Option Expr). unwrap_or (option_map (uses_key def) o) false) (there UnknownColumn (key_tree def.columns items e) tree.0 tree.1)) ∙ uses in
      subst (λ (k : Key). GoesBy def.key k.term) (ok_same term.2) (subst (GoesBy def.key) (ok_same passed.1) (term-by def tree.0 found.0 uses_tree found.1))

  keys_by : (items : List Item) (trees : List Expr) (keys : List Key) → list_all (group_uses def items) trees ≡ true → keys_of def.columns items trees ≡ Ok keys
      → AllGoBy def.key (map (λ (key : Key). key.term) keys)
  keys_by items [] keys uses is = subst (λ (ks : List Key). AllGoBy def.key (map (λ (key : Key). key.term) ks)) (ok_same is) tt
  keys_by items (tree ∷ trees) keys uses is =
      let first = and_then-Ok (key_of def.columns items tree) _ keys is in
      let rest = and_then-Ok (keys_of def.columns items trees) _ keys first.2 in
      let parts = and_parts (group_uses def items tree) (list_all (group_uses def items) trees) uses in
      subst (λ (ks : List Key). AllGoBy def.key (map (λ (key : Key). key.term) ks)) (ok_same rest.2)
      (key_by items tree first.0 parts.0 first.1, keys_by items trees rest.0 parts.1 rest.1)

  filter_by : (condition : Option Expr) (filter : Option Term) → filter_uses def condition ≡ true → filter_of def.columns condition ≡ Ok filter → FilterGoesBy def.key filter
  filter_by None filter uses is = subst (FilterGoesBy def.key) (ok_same is) tt
  filter_by (Some condition) filter uses is =
      let term = and_then-Ok (term_of def.columns condition) _ filter is in
      let passed = refuse_if-Ok _ TypeMismatch (Ok (Some term.0)) filter term.2 in
      subst (FilterGoesBy def.key) (ok_same passed.1) (term-by def condition term.0 uses term.1)

  -- the groups of a query that does not see merges, with the keys in front of what is evaluated
  pub record AreBlind (select : Select) (shape : Shape) : Type 0 where
    pub groups : Groups
    pub grouping : shape.grouping ≡ Some groups
    pub first_by : AllGoBy def.key (take groups.keys shape.terms)
    pub filter : filter_uses def select.filter ≡ true
    pub take : all_take_states groups.calls ≡ true

  blind_groups : (groups : Bool) (select : Select) (shape : Shape)
      → (if groups then shape_of_groups def.columns select.keys select.items
      else and_then (outputs_of def.columns select.items) (λ outputs. Ok (shape_of_outputs outputs))) ≡ Ok shape
      → is_blind def select shape.grouping ≡ true → AreBlind select shape
  unfolding is_blind
  blind_groups true select shape is blind =
      let keys = and_then-Ok (keys_of def.columns select.items select.keys) _ shape is in
      let cells = and_then-Ok (put_items def.columns keys.0 no_cells select.items) _ shape keys.2 in
      let terms = map (λ (key : Key). key.term) keys.0 in
      let same : shape_of_cells keys.0 cells.0 ≡ shape = ok_same cells.2 in
      let blind_here = subst (λ (s : Shape). is_blind def select s.grouping ≡ true) (sym same) blind in
      let calls = cells.0.calls in
      let parts = and_parts (filter_uses def select.filter) (list_all (group_uses def select.items) select.keys && all_take_states calls) blind_here in
      let more = and_parts (list_all (group_uses def select.items) select.keys) (all_take_states calls) parts.1 in
      let front : take (length keys.0) (terms ++ cells.0.args) ≡ terms =
      ap (λ (n : ℕ). take n (terms ++ cells.0.args)) (sym (length-terms keys.0)) ∙ take-append_seam terms cells.0.args in
      subst (AreBlind select) same
      (record {
        groups = _;
        grouping = refl;
        first_by = subst (AllGoBy def.key) (sym front) (keys_by select.items select.keys keys.0 more.0 keys.1);
        filter = parts.0;
        take = more.1;
      })
  blind_groups false select shape is blind =
      let found = and_then-Ok (outputs_of def.columns select.items) _ shape is in
      absurd (cc (subst (λ (s : Shape). is_blind def select s.grouping ≡ true) (sym (ok_same found.2)) blind))

  blind_shape : (select : Select) (shape : Shape) → shape_of def.columns select ≡ Ok shape → is_blind def select shape.grouping ≡ true → AreBlind select shape
  unfolding shape_of
  blind_shape select shape is blind = blind_groups (is_grouping select) select shape is blind

  All-behind : (P : Term → Type 0) (xs ys : List Term) → All P (xs ++ ys) → All P ys
  All-behind P [] ys all = all
  All-behind P (x ∷ xs) ys all = All-behind P xs ys (All-tail P x (xs ++ ys) all)

  -- the shape of such a query
  shape_over : (select : Select) (shape : Shape) (filter : Option Term) → shape_of def.columns select ≡ Ok shape → filter_of def.columns select.filter ≡ Ok filter
      → (blind : AreBlind select shape) → IsBlindOver def filter shape.terms blind.groups
  shape_over select shape filter is passes blind =
      let Q = IsForm (kinds_of def) in
      let laid = shape_of-laid def.columns Q (term_of-form def.columns) (column_at-form def.columns) (inl tt) select shape is in
      let out : IsLaid blind.groups shape.terms shape.columns = subst (λ (grouping : Option Groups). IsLaidOut grouping shape.terms shape.columns) blind.grouping laid.1 in
      let front : take blind.groups.keys shape.terms ≡ out.keys =
      ap (λ (n : ℕ). take n shape.terms) out.count ∙ ap (take (length out.keys)) out.are ∙ take-append_seam out.keys out.args in
      record {
        keys = out.keys;
        args = out.args;
        are = out.are;
        count = out.count;
        filter_by = filter_by select.filter filter blind.filter passes;
        keys_by = subst (AllGoBy def.key) front blind.first_by;
        on = out.on;
        forms = All-behind Q out.keys out.args (subst (All Q) out.are laid.0);
        take = blind.take;
      }

  -- what a query asks of a table and does not see merges
  pub asked_blind : (number : ℕ) (select : Select) (query : Asked) → asked_of number def select ≡ Ok query → query.blind ≡ true → IsBlindQuery def query
  asked_blind number select query asks blind =
      let filter = and_then-Ok (filter_of def.columns select.filter) _ query asks in
      let shape = and_then-Ok (shape_of def.columns select) _ query filter.2 in
      let order = and_then-Ok (sorts_of shape.0.columns select.order) _ query shape.2 in
      let limit = and_then-Ok (limit_of select.limit) _ query order.2 in
      let same = ok_same limit.2 in
      let found = blind_shape select shape.0 shape.1 (ap (λ (q : Asked). q.blind) same ∙ blind) in
      subst (IsBlindQuery def) same
      (record {
        of = refl;
        groups = found.groups;
        grouping = found.grouping;
        over = shape_over select shape.0 filter.0 shape.1 filter.1 found;
      })
