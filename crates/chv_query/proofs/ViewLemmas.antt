-- What a definition of a view says.
use Rattle.std.proofs.Common.{◌≡◌, ◌<◌, ◌≤◌, ℕ, false, not, nat_lt, ◌∷◌, [], ◌++◌, length, None, is_some, Result, Ok, subst}
use Rattle.std.specs.List.{list_any}
use Rattle.std.proofs.lemmas.Bool.{ltb-true, ltb-false}
use Rattle.chv_ast.specs.declared.refusal.Refusal.TheVariants.{LimitPassed, NameTaken, TooManyPaths, TypeMismatch, UnknownColumn, ViewCycle}
use Rattle.chv_ast.specs.declared.statement.CreateView.{CreateView}
use Rattle.chv_ast.specs.declared.statement.Statement.TheVariants as statement
use Rattle.chv_ast.specs.declared.refusal.Refusal.{Refusal}
use Rattle.chv_catalog.proofs.StepLemmas.{and_then-Ok, refuse_if-Ok}
use Rattle.chv_catalog.specs.Checks.{has_repeat, is_unknown}
use Rattle.chv_catalog.specs.Paths.{links_of, passes_limits, reaches}
use Rattle.chv_catalog.specs.Schemas.{Catalog, definitions_in, names_of}
use Rattle.chv_catalog.specs.declared.table_def.TableDef.{TableDef}
use Rattle.chv_catalog.specs.declared.view_def.ViewDef.{ViewDef}
use Rattle.chv_print.specs.StatementTexts.{statement_text}
use Rattle.chv_types.specs.Names.{place_of}
use Rattle.chv_query.specs.Queries.{Asked, asked_of}
use Rattle.chv_query.specs.Tables.{table_of}
use Rattle.chv_query.specs.Views.{defined_view, fills, names_in, view_with}
use Rattle.chv_query.proofs.DefinitionLemmas.{negated, none_there}

ok_same : {A : Type 0} (x y : A) → ◌≡◌ {A = Result A Refusal} (Ok x) (Ok y) → x ≡ y
ok_same {A} x y same = cc

-- what holds of each view that a statement makes beside what is defined
pub record PassedView (catalog : Catalog) (made : CreateView) (def : ViewDef) : Type 0 where
  pub free : place_of def.name (names_of catalog) ≡ None
  pub room : definitions_in catalog < 256
  pub short : length (statement_text (statement.CreateView made)) ≤ 1048576
  pub source : ℕ × TableDef
  pub source_is : table_of catalog made.select.table ≡ Ok source
  pub target : ℕ × TableDef
  pub target_is : table_of catalog made.target ≡ Ok target
  pub query : Asked
  pub query_is : asked_of source.0 source.1 made.select ≡ Ok query
  pub once : has_repeat (names_in query.columns) ≡ false
  pub known : list_any (is_unknown (names_in target.1.columns)) (names_in query.columns) ≡ false
  pub fit : list_any (λ column. not (fills target.1.columns column)) query.columns ≡ false
  pub acyclic : reaches (links_of catalog.views) target.0 source.0 ≡ false
  pub limits : passes_limits (length catalog.tables) (links_of catalog.views ++ record { source = source.0; target = target.0 } ∷ []) ≡ false
  pub is : view_with made source.0 target.0 ≡ def

module _ (catalog : Catalog) (made : CreateView) where
  -- what a statement defines has passed the checks
  pub passed_view : (def : ViewDef) → defined_view catalog made ≡ Ok def → PassedView catalog made def
  unfolding defined_view
  passed_view def h =
      let text = statement_text (statement.CreateView made) in
      let free = refuse_if-Ok (is_some (place_of made.name (names_of catalog))) NameTaken _ def h in
      let room = refuse_if-Ok (not (nat_lt (definitions_in catalog) 256)) LimitPassed _ def free.1 in
      let source = and_then-Ok (table_of catalog made.select.table) _ def room.1 in
      let target = and_then-Ok (table_of catalog made.target) _ def source.2 in
      let query = and_then-Ok (asked_of source.0.0 source.0.1 made.select) _ def target.2 in
      let once = refuse_if-Ok (has_repeat (names_in query.0.columns)) NameTaken _ def query.2 in
      let known = refuse_if-Ok (list_any (is_unknown (names_in target.0.1.columns)) (names_in query.0.columns)) UnknownColumn _ def once.1 in
      let fit = refuse_if-Ok (list_any (λ column. not (fills target.0.1.columns column)) query.0.columns) TypeMismatch _ def known.1 in
      let acyclic = refuse_if-Ok (reaches (links_of catalog.views) target.0.0 source.0.0) ViewCycle _ def fit.1 in
      let limits = refuse_if-Ok (passes_limits (length catalog.tables) (links_of catalog.views ++ record { source = source.0.0; target = target.0.0 } ∷ [])) TooManyPaths _ def acyclic.1 in
      let short = refuse_if-Ok (nat_lt 1048576 (length text)) LimitPassed _ def limits.1 in
      let whole : view_with made source.0.0 target.0.0 ≡ def = ok_same (view_with made source.0.0 target.0.0) def short.1 in
      record {
        free = subst (λ (v : ViewDef). place_of v.name (names_of catalog) ≡ None) whole (none_there (place_of made.name (names_of catalog)) free.0);
        room = ltb-true (definitions_in catalog) 256 (negated (nat_lt (definitions_in catalog) 256) room.0);
        short = ltb-false 1048576 (length text) short.0;
        source = source.0;
        source_is = source.1;
        target = target.0;
        target_is = target.1;
        query = query.0;
        query_is = query.1;
        once = once.0;
        known = known.0;
        fit = fit.0;
        acyclic = acyclic.0;
        limits = limits.0;
        is = whole;
      }
