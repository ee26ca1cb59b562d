use Rattle.std.proofs.Common.{◌≡◌, ◌∙◌, Some, get_or, sym}
use Rattle.std.proofs.lemmas.Option.{slice_get-get_or}
use Rattle.chv_types.specs.Names.{place_of}
use Rattle.chv_query.specs.Views.{names_in}
use Rattle.chv_define.proofs.OutputLemmas.{fills-found}
use Rattle.chv_define.proofs.WidenLemmas.{widens_to-from}
use Rattle.chv_define.proofs.outputs.fills.Goals as goal

pub returns-in-Some : goal.returns-in-Some
returns-in-Some c =
    let target = c.args.target.now in
    let column = c.args.column.now in
    let to = get_or target c.in-Some.place c.index-target-place.result in
    let found : place_of column.name (names_in target) ≡ Some c.in-Some.place = rw c.as_slice.ensures at (sym c.place.ensures.place ∙ c.in-Some.is) in
    widens_to-from column.kind to.kind c.widens.result c.widens.ensures
    ∙ sym (fills-found target column to c.in-Some.place found (slice_get-get_or target c.in-Some.place c.index-target-place.result c.in-Some.ensures.within))
