use Rattle.std.proofs.Common.{true, false}
use Rattle.chv_plan.proofs.CatalogLemmas.{divides_so, makes, some_there, takes_source}
use Rattle.chv_plan.proofs.below.made_by.Goals as goal

pub run_view-requires : goal.run_view-requires
run_view-requires c =
    let catalog = c.args.bound.now.schema.now.catalog in
    let found = some_there catalog.views c.args.view c.requires.last in
    record {
      takes =
          takes_source catalog c.requires.schema c.args.view found.0 found.1 _ (c.requires.bound.are c.args.view found.0 c.bound_view.result.now found.1 c.bound_view.ensures)
          c.args.rows.now (c.requires.rows found.0 found.1);
    }

pub returns-in-Ok-clause-made : goal.returns-in-Ok-clause-made
returns-in-Ok-clause-made c =
    let catalog = c.args.bound.now.schema.now.catalog in
    let found = some_there catalog.views c.args.view c.requires.last in
    let bound = c.requires.bound.are c.args.view found.0 c.bound_view.result.now found.1 c.bound_view.ensures in
    makes catalog c.requires.schema c.args.view found.0 found.1 _ bound c.args.rows.now c.in-Ok.made (c.in-Ok.ensures.rows bound.query _ bound.is).0

pub returns-in-Ok-clause-sound : goal.returns-in-Ok-clause-sound
returns-in-Ok-clause-sound c =
    let catalog = c.args.bound.now.schema.now.catalog in
    let found = some_there catalog.views c.args.view c.requires.last in
    let bound = c.requires.bound.are c.args.view found.0 c.bound_view.result.now found.1 c.bound_view.ensures in
    divides_so catalog c.requires.schema c.args.view found.0 found.1 _ bound c.args.rows.now false (c.in-Ok.ensures.rows bound.query _ bound.is).1

pub returns-in-Err-ZeroDivisor-clause-refused : goal.returns-in-Err-ZeroDivisor-clause-refused
returns-in-Err-ZeroDivisor-clause-refused c = λ refusal is.
    let catalog = c.args.bound.now.schema.now.catalog in
    let found = some_there catalog.views c.args.view c.requires.last in
    let bound = c.requires.bound.are c.args.view found.0 c.bound_view.result.now found.1 c.bound_view.ensures in (
      cc is,
      divides_so catalog c.requires.schema c.args.view found.0 found.1 _ bound c.args.rows.now true
          (c.in-Err-ZeroDivisor.ensures.zero _ bound.query _ c.in-Err-ZeroDivisor.field-0-is bound.is),
    )
