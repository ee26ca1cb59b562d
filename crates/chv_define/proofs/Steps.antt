-- A definition is made step by step, in the order of its checks.
use Rattle.std.proofs.Common.{◌≡◌, ◌∙◌, ℕ, List, Ok, Err, refl}
use Rattle.chv_ast.specs.declared.refusal.Refusal.{Refusal}
use Rattle.chv_ast.specs.declared.statement.CreateTable.{CreateTable}
use Rattle.chv_ast.specs.declared.statement.Statement.TheVariants as statement
use Rattle.chv_catalog.proofs.StepLemmas.{and_then-refuse_if}
use Rattle.chv_catalog.specs.Schemas.{Catalog}
use Rattle.chv_types.specs.Steps.{and_then}
use Rattle.chv_types.specs.declared.table.Column.{Column}
use Rattle.chv_define.specs.Checks.{checked_free, checked_key, checked_names, checked_text}
use Rattle.chv_query.specs.Definitions.{columns_of, defined, table_with, window_of}

module _ (catalog : Catalog) (made : CreateTable) where
  -- a definition is made step by step, in the order of its checks
  pub defined-steps :
      defined catalog made
      ≡ and_then (checked_names catalog made.name made.columns) (λ u. and_then (columns_of made.columns) (λ columns. and_then (checked_key made.columns columns made.engine made.key) (λ v.
      and_then (window_of made.window) (λ window. and_then (checked_text (statement.CreateTable made)) (λ w. Ok (table_with made columns window))))))
  unfolding defined checked_free checked_names checked_key checked_text
  defined-steps = simp and_then-refuse_if

  -- the checks pass or refuse in this order
  pub refused-names : (refusal : Refusal) → checked_names catalog made.name made.columns ≡ Err refusal → defined catalog made ≡ Err refusal
  refused-names refusal names = defined-steps ∙ rw names refl

  pub refused-columns : (refusal : Refusal) → checked_names catalog made.name made.columns ≡ Ok tt → columns_of made.columns ≡ Err refusal → defined catalog made ≡ Err refusal
  refused-columns refusal names columns = defined-steps ∙ rw (names, columns) refl

  module _ (columns : List Column) (names : checked_names catalog made.name made.columns ≡ Ok tt) (are : columns_of made.columns ≡ Ok columns) where
    pub refused-key : (refusal : Refusal) → checked_key made.columns columns made.engine made.key ≡ Err refusal → defined catalog made ≡ Err refusal
    refused-key refusal key = defined-steps ∙ rw (names, are, key) refl

    pub refused-window : (refusal : Refusal) → checked_key made.columns columns made.engine made.key ≡ Ok tt → window_of made.window ≡ Err refusal → defined catalog made ≡ Err refusal
    refused-window refusal key window = defined-steps ∙ rw (names, are, key, window) refl

    pub refused-text : (refusal : Refusal) (n : ℕ) → checked_key made.columns columns made.engine made.key ≡ Ok tt → window_of made.window ≡ Ok n → checked_text (statement.CreateTable made) ≡ Err refusal
        → defined catalog made ≡ Err refusal
    refused-text refusal n key window text = defined-steps ∙ rw (names, are, key, window, text) refl

    pub defined-passed : (n : ℕ) → checked_key made.columns columns made.engine made.key ≡ Ok tt → window_of made.window ≡ Ok n → checked_text (statement.CreateTable made) ≡ Ok tt
        → defined catalog made ≡ Ok (table_with made columns n)
    defined-passed n key window text = defined-steps ∙ rw (names, are, key, window, text) refl
