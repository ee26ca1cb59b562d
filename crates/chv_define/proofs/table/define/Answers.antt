use Rattle.std.proofs.Common.{◌≡◌, ◌∙◌, refl, sym, Err}
use Rattle.std.proofs.lemmas.List.{map-id}
use Rattle.chv_catalog.proofs.FaultLemmas.{passed_on, refused_by}
use Rattle.chv_query.specs.Definitions.{defined}
use Rattle.chv_define.proofs.Steps.{refused-names, refused-columns, refused-key, refused-window, refused-text, defined-passed}
use Rattle.chv_define.proofs.table.define.Goals as goal

pub returns-in_err-check_names-clause-refused : goal.returns-in_err-check_names-clause-refused
returns-in_err-check_names-clause-refused c =
    refused_by c.from_residual.result _ (λ refusal. defined c.args.schema.now.catalog c.args.made.now ≡ Err refusal) c.from_residual.ensures.1
    (refused-names c.args.schema.now.catalog c.args.made.now _ (sym c.check_names.ensures.checked ∙ c.in_err-check_names.was))

pub returns-in_err-columns-clause-refused : goal.returns-in_err-columns-clause-refused
returns-in_err-columns-clause-refused c =
    passed_on c.from_residual-in_err-columns.result _ (λ refusal. defined c.args.schema.now.catalog c.args.made.now ≡ Err refusal) c.from_residual-in_err-columns.ensures.1
    (λ refusal told. refused-columns c.args.schema.now.catalog c.args.made.now refusal (sym c.check_names.ensures.checked ∙ c.in_ok-check_names.was)
    (c.in_err-columns.ensures.refused refusal told))

pub returns-in_err-check_key-clause-refused : goal.returns-in_err-check_key-clause-refused
returns-in_err-check_key-clause-refused c =
    refused_by c.from_residual-in_err-check_key.result _ (λ refusal. defined c.args.schema.now.catalog c.args.made.now ≡ Err refusal) c.from_residual-in_err-check_key.ensures.1
    (refused-key c.args.schema.now.catalog c.args.made.now _ (sym c.check_names.ensures.checked ∙ c.in_ok-check_names.was)
    c.in_ok-columns.ensures.columns _ (sym c.check_key.ensures ∙ c.in_err-check_key.was))

pub returns-in_err-window-clause-refused : goal.returns-in_err-window-clause-refused
returns-in_err-window-clause-refused c =
    refused_by c.from_residual-in_err-window.result _ (λ refusal. defined c.args.schema.now.catalog c.args.made.now ≡ Err refusal) c.from_residual-in_err-window.ensures.1
    (refused-window c.args.schema.now.catalog c.args.made.now _ (sym c.check_names.ensures.checked ∙ c.in_ok-check_names.was)
    c.in_ok-columns.ensures.columns _ (sym c.check_key.ensures ∙ c.in_ok-check_key.was) (sym c.window_of.ensures ∙ c.in_err-window.was))

pub returns-in_err-text-clause-refused : goal.returns-in_err-text-clause-refused
returns-in_err-text-clause-refused c =
    passed_on c.from_residual-in_err-text.result _ (λ refusal. defined c.args.schema.now.catalog c.args.made.now ≡ Err refusal) c.from_residual-in_err-text.ensures.1
    (λ refusal told. refused-text c.args.schema.now.catalog c.args.made.now _ (sym c.check_names.ensures.checked ∙ c.in_ok-check_names.was)
    c.in_ok-columns.ensures.columns refusal _ (sym c.check_key.ensures ∙ c.in_ok-check_key.was) (sym c.window_of.ensures ∙ c.in_ok-window.was)
    (c.in_err-text.ensures.long refusal told))

pub returns-clause-defined : goal.returns-clause-defined
returns-clause-defined c =
    defined-passed c.args.schema.now.catalog c.args.made.now _ (sym c.check_names.ensures.checked ∙ c.in_ok-check_names.was)
    c.in_ok-columns.ensures.columns _ (sym c.check_key.ensures ∙ c.in_ok-check_key.was) (sym c.window_of.ensures ∙ c.in_ok-window.was)
    c.in_ok-text.ensures.short
    ∙ rw (c.in_ok-from_slice.ensures, c.as_slice.ensures, c.columns.view_is, c.engine_of.ensures, c.in_ok-places_of.ensures, c.as_slice-2.ensures, c.as_slice-3.ensures, map-id c.args.made.now.key) refl
