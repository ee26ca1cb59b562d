use Rattle.std.proofs.Common.{rules, tests, ◌∙◌, is_some, ◌&&◌}
use Rattle.std.proofs.lemmas.Iterator.{YieldsList-from_slice}
use Rattle.std.proofs.lemmas.Iterator.Search.{any_from_yields_List}
use Rattle.chv_types.specs.Names.{place_of}
use Rattle.chv_types.specs.declared.table.Column.{Column}
use Rattle.chv_catalog.specs.Checks.{is_state}
use Rattle.chv_define.proofs.ListLemmas.{has_state-any}
use Rattle.chv_define.proofs.checks.has_state.Goals as goal

pub returns : goal.returns
returns c =
    any_from_yields_List (λ (column : Column). is_some (place_of column.name c.args.key.now) && is_state column.kind) _ _ _ c.any.ensures.ran
    (YieldsList-from_slice c.args.made.now cc) (λ x b q k. search (rules, tests))
    ∙ has_state-any c.args.key.now c.args.made.now
