-- A view is defined step by step, in the order of its checks.
use Rattle.std.proofs.Common.{◌≡◌, ◌∙◌, ◌-◌, ℕ, List, Some, Result, Ok, Err, slice_get, refl, sym, ap}
use Rattle.chv_ast.specs.declared.refusal.Refusal.{Refusal}
use Rattle.chv_ast.specs.declared.statement.CreateView.{CreateView}
use Rattle.chv_ast.specs.declared.statement.Select.{Select}
use Rattle.chv_ast.specs.declared.statement.Statement.TheVariants as statement
use Rattle.chv_catalog.proofs.StepLemmas.{and_then-refuse_if}
use Rattle.chv_catalog.specs.Schemas.{Catalog}
use Rattle.chv_catalog.specs.declared.link.Link.{Link}
use Rattle.chv_catalog.specs.declared.table_def.TableDef.{TableDef}
use Rattle.chv_catalog.specs.declared.view_def.ViewDef.{ViewDef}
use Rattle.chv_types.specs.Steps.{and_then}
use Rattle.chv_types.specs.declared.table.Column.{Column}
use Rattle.chv_define.proofs.ViewTables.{linked-numbers, linked-refused, number-some, number-table_of}
use Rattle.chv_define.specs.Checks.{checked_free, checked_outputs, checked_paths, checked_select, checked_text, linked}
use Rattle.chv_query.proofs.TableLemmas.{asked-found}
use Rattle.chv_query.specs.Queries.{asked_of}
use Rattle.chv_query.specs.Tables.{table_of}
use Rattle.chv_query.specs.Views.{defined_view, view_with}

-- a step behind two steps is one behind the first, and then the second
and_then-and_then : {A B C E : Type 0} (r : Result A E) (f : A → Result B E) (g : B → Result C E)
    → and_then (and_then r f) g ≡ and_then r (λ a. and_then (f a) g)
and_then-and_then (Ok a) f g = refl
and_then-and_then (Err refusal) f g = refl

-- the checks of a select are those of its binding, and then of its output columns
selected : {A : Type 0} (catalog : Catalog) (select : Select) (columns : List Column) (number : ℕ) (source : TableDef) (more : Unit {0} → Result A Refusal)
    → table_of catalog select.table ≡ Ok (number, source)
    → and_then (checked_select catalog select columns) more ≡ and_then (asked_of number source select) (λ query. and_then (checked_outputs columns query.columns) more)
unfolding checked_select
selected catalog select columns number source more is =
    ap (λ r. and_then (and_then r (λ query. checked_outputs columns query.columns)) more) (asked-found catalog select number source is)
    ∙ and_then-and_then (asked_of number source select) (λ query. checked_outputs columns query.columns) more

module _ (catalog : Catalog) (made : CreateView) where
  -- what follows the look-ups of the tables
  abbrev rest : ℕ × TableDef → ℕ × TableDef → Result ViewDef Refusal
  rest source target =
      and_then (asked_of source.0 source.1 made.select) (λ query. and_then (checked_outputs target.1.columns query.columns) (λ u.
      and_then (checked_paths catalog (record { source = source.0; target = target.0 })) (λ v. and_then (checked_text (statement.CreateView made)) (λ w.
      Ok (view_with made source.0 target.0)))))

  -- the checks in groups
  steps : defined_view catalog made
      ≡ and_then (checked_free catalog made.name) (λ u. and_then (table_of catalog made.select.table) (λ source. and_then (table_of catalog made.target) (λ target. rest source target)))
  unfolding defined_view checked_free checked_outputs checked_paths checked_text
  steps = simp and_then-refuse_if

  -- the checks pass or refuse in this order
  pub refused-free : (refusal : Refusal) → checked_free catalog made.name ≡ Err refusal → defined_view catalog made ≡ Err refusal
  refused-free refusal free = steps ∙ rw free refl

  module _ (free : checked_free catalog made.name ≡ Ok tt) where
    pub refused-link : (refusal : Refusal) → linked catalog made ≡ Err refusal → defined_view catalog made ≡ Err refusal
    refused-link refusal is = steps ∙ rw free (linked-refused catalog made refusal rest is)

    module _ (link : Link) (target : TableDef) (is : linked catalog made ≡ Ok link) (stands : slice_get catalog.tables (link.target - 1) ≡ Some target) where
      -- the checks behind those of the name and the tables
      abbrev checks : Result ViewDef Refusal
      checks =
          and_then (checked_select catalog made.select target.columns) (λ u. and_then (checked_paths catalog link) (λ v. and_then (checked_text (statement.CreateView made)) (λ w.
          Ok (view_with made link.source link.target))))

      behind_link : defined_view catalog made ≡ checks
      behind_link =
          let numbers = linked-numbers catalog made link is in
          let source = number-some catalog made.select.table link.source numbers.0 in
          let found = number-table_of catalog made.target link.target target numbers.1 stands in
          steps ∙ rw (free, source.1, found) (sym (selected catalog made.select target.columns link.source source.0 _ source.1))

      pub refused-select : (refusal : Refusal) → checked_select catalog made.select target.columns ≡ Err refusal → defined_view catalog made ≡ Err refusal
      refused-select refusal select = behind_link ∙ rw select refl

      module _ (select : checked_select catalog made.select target.columns ≡ Ok tt) where
        pub refused-paths : (refusal : Refusal) → checked_paths catalog link ≡ Err refusal → defined_view catalog made ≡ Err refusal
        refused-paths refusal paths = behind_link ∙ rw (select, paths) refl

        pub refused-view-text : (refusal : Refusal) → checked_paths catalog link ≡ Ok tt → checked_text (statement.CreateView made) ≡ Err refusal → defined_view catalog made ≡ Err refusal
        refused-view-text refusal paths text = behind_link ∙ rw (select, paths, text) refl

        pub defined-view : checked_paths catalog link ≡ Ok tt → checked_text (statement.CreateView made) ≡ Ok tt → defined_view catalog made ≡ Ok (view_with made link.source link.target)
        defined-view paths text = behind_link ∙ rw (select, paths, text) refl
