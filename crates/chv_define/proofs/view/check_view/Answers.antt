use Rattle.std.proofs.Common.{◌≡◌, ◌∙◌, sym, Err}
use Rattle.chv_catalog.proofs.FaultLemmas.{passed_on, refused_by}
use Rattle.chv_query.specs.Views.{defined_view}
use Rattle.chv_define.proofs.ViewSteps.{refused-free, refused-link, refused-select, refused-paths, refused-view-text, defined-view}
use Rattle.chv_define.proofs.view.check_view.Goals as goal

pub returns-in_err-check_free-clause-refused : goal.returns-in_err-check_free-clause-refused
returns-in_err-check_free-clause-refused c =
    refused_by c.from_residual.result _ (λ refusal. defined_view c.args.schema.now.catalog c.args.made.now ≡ Err refusal) c.from_residual.ensures.1
    (refused-free c.args.schema.now.catalog c.args.made.now _ (sym c.check_free.ensures ∙ c.in_err-check_free.was))

pub returns-in_err-link-clause-refused : goal.returns-in_err-link-clause-refused
returns-in_err-link-clause-refused c =
    refused_by c.from_residual-in_err-link.result _ (λ refusal. defined_view c.args.schema.now.catalog c.args.made.now ≡ Err refusal) c.from_residual-in_err-link.ensures.1
    (refused-link c.args.schema.now.catalog c.args.made.now (sym c.check_free.ensures ∙ c.in_ok-check_free.was) _ (sym c.link_of.ensures.link ∙ c.in_err-link.was))

pub returns-in_err-check_select-clause-refused : goal.returns-in_err-check_select-clause-refused
returns-in_err-check_select-clause-refused c =
    passed_on c.from_residual-in_err-check_select.result _ (λ refusal. defined_view c.args.schema.now.catalog c.args.made.now ≡ Err refusal) c.from_residual-in_err-check_select.ensures.1
    (λ refusal told. refused-select c.args.schema.now.catalog c.args.made.now (sym c.check_free.ensures ∙ c.in_ok-check_free.was)
    c.in_ok-link.link c.table_def-target.result.now (sym c.link_of.ensures.link ∙ c.in_ok-link.was) c.table_def-target.ensures refusal
    (c.in_err-check_select.ensures.refused refusal told))

pub returns-in_err-check_paths-clause-refused : goal.returns-in_err-check_paths-clause-refused
returns-in_err-check_paths-clause-refused c =
    refused_by c.from_residual-in_err-check_paths.result _ (λ refusal. defined_view c.args.schema.now.catalog c.args.made.now ≡ Err refusal) c.from_residual-in_err-check_paths.ensures.1
    (refused-paths c.args.schema.now.catalog c.args.made.now (sym c.check_free.ensures ∙ c.in_ok-check_free.was)
    c.in_ok-link.link c.table_def-target.result.now (sym c.link_of.ensures.link ∙ c.in_ok-link.was) c.table_def-target.ensures
    c.in_ok-check_select.ensures.passed _ (sym c.check_paths.ensures ∙ c.in_err-check_paths.was))

pub returns-in_err-text-clause-refused : goal.returns-in_err-text-clause-refused
returns-in_err-text-clause-refused c =
    passed_on c.from_residual-in_err-text.result _ (λ refusal. defined_view c.args.schema.now.catalog c.args.made.now ≡ Err refusal) c.from_residual-in_err-text.ensures.1
    (λ refusal told. refused-view-text c.args.schema.now.catalog c.args.made.now (sym c.check_free.ensures ∙ c.in_ok-check_free.was)
    c.in_ok-link.link c.table_def-target.result.now (sym c.link_of.ensures.link ∙ c.in_ok-link.was) c.table_def-target.ensures
    c.in_ok-check_select.ensures.passed refusal (sym c.check_paths.ensures ∙ c.in_ok-check_paths.was)
    (c.in_err-text.ensures.long refusal told))

pub returns-clause-passed : goal.returns-clause-passed
returns-clause-passed c =
    defined-view c.args.schema.now.catalog c.args.made.now (sym c.check_free.ensures ∙ c.in_ok-check_free.was)
    c.in_ok-link.link c.table_def-target.result.now (sym c.link_of.ensures.link ∙ c.in_ok-link.was) c.table_def-target.ensures
    c.in_ok-check_select.ensures.passed (sym c.check_paths.ensures ∙ c.in_ok-check_paths.was) c.in_ok-text.ensures.short
