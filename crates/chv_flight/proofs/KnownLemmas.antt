-- What a statement asks for that is built, by its form, and one that is not.
use Rattle.std.proofs.Common.{◌≡◌, ◌≢◌, ℕ, Bool, true, false, not, Some, Err, refl, sym, ap, ◌∙◌}
use Rattle.chv_ast.specs.declared.refusal.Refusal.TheVariants.{NotBuilt}
use Rattle.chv_ast.specs.declared.statement.CreateTable.{CreateTable}
use Rattle.chv_ast.specs.declared.statement.CreateView.{CreateView}
use Rattle.chv_ast.specs.declared.statement.Insert.{Insert}
use Rattle.chv_ast.specs.declared.statement.Select.{Select}
use Rattle.chv_ast.specs.declared.statement.ShowParts.{ShowParts}
use Rattle.chv_ast.specs.declared.statement.Statement.{Statement}
use Rattle.chv_ast.specs.declared.statement.Statement.TheVariants as statement
use Rattle.chv_catalog.specs.Schemas.{Catalog}
use Rattle.chv_types.specs.Steps.{refuse_if}
use Rattle.chv_history.specs.Built.{is_built}
use Rattle.chv_history.specs.Tasks.{built_task}
use Rattle.chv_flight.specs.Answers.{create_wish, insert_wish, parts_wish, query_wish, statement_wish, view_wish}

module _ (asked : Statement) (catalog : Catalog) (entries : ℕ → ℕ) where
  -- one that is not is refused
  pub known_unbuilt : is_built asked ≡ false → statement_wish (Some asked) catalog entries ≡ Err NotBuilt
  known_unbuilt unbuilt = ap (λ (b : Bool). refuse_if (not b) NotBuilt (built_task catalog entries asked)) unbuilt

  known_built : is_built asked ≡ true → statement_wish (Some asked) catalog entries ≡ built_task catalog entries asked
  known_built built = ap (λ (b : Bool). refuse_if (not b) NotBuilt (built_task catalog entries asked)) built

  pub known_create : (made : CreateTable) → asked ≡ statement.CreateTable made → create_wish made catalog entries ≡ statement_wish (Some asked) catalog entries
  unfolding is_built
  known_create made is = sym (ap (built_task catalog entries) is) ∙ sym (known_built (ap is_built is))

  pub known_view : (made : CreateView) → asked ≡ statement.CreateView made → view_wish made catalog entries ≡ statement_wish (Some asked) catalog entries
  unfolding is_built
  known_view made is = sym (ap (built_task catalog entries) is) ∙ sym (known_built (ap is_built is))

  pub known_insert : (brought : Insert) → is_built asked ≡ true → asked ≡ statement.Insert brought → insert_wish brought catalog entries ≡ statement_wish (Some asked) catalog entries
  known_insert brought built is = sym (ap (built_task catalog entries) is) ∙ sym (known_built built)

  pub known_query : (query : Select) → asked ≡ statement.Query query → query_wish query catalog entries ≡ statement_wish (Some asked) catalog entries
  unfolding is_built
  known_query query is = sym (ap (built_task catalog entries) is) ∙ sym (known_built (ap is_built is))

  pub known_parts : (parts : ShowParts) → asked ≡ statement.ShowParts parts → parts_wish parts.table catalog entries ≡ statement_wish (Some asked) catalog entries
  unfolding is_built
  known_parts parts is = sym (ap (built_task catalog entries) is) ∙ sym (known_built (ap is_built is))

-- an INSERT is built whose rows are not held for later
pub built_insert : (brought : Insert) → brought.settings.later ≡ false → is_built (statement.Insert brought) ≡ true
unfolding is_built
built_insert brought now = ap not now

pub unbuilt_insert : (brought : Insert) → brought.settings.later ≡ true → is_built (statement.Insert brought) ≡ false
unfolding is_built
unbuilt_insert brought later = ap not later

-- a statement of another form is not built
pub unbuilt_form : (asked : Statement) → ((made : CreateTable) → asked ≢ statement.CreateTable made) → ((made : CreateView) → asked ≢ statement.CreateView made) → ((brought : Insert) → asked ≢ statement.Insert brought)
    → ((query : Select) → asked ≢ statement.Query query) → ((parts : ShowParts) → asked ≢ statement.ShowParts parts) → is_built asked ≡ false
unfolding is_built
unbuilt_form (statement.CreateTable made) create view insert query parts = absurd (create made refl)
unbuilt_form (statement.CreateView made) create view insert query parts = absurd (view made refl)
unbuilt_form (statement.Insert brought) create view insert query parts = absurd (insert brought refl)
unbuilt_form (statement.Query all) create view insert query parts = absurd (query all refl)
unbuilt_form (statement.ShowParts all) create view insert query parts = absurd (parts all refl)
unbuilt_form (statement.Optimize all) create view insert query parts = refl
unbuilt_form statement.FlushQueue create view insert query parts = refl
