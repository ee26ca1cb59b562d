use Rattle.std.proofs.Common.{◌≡◌, ◌∙◌, ◌≤◌, ◌+◌, ◌∷◌, ◌++◌, [], ℕ, List, length, ap, subst, sym, take, arith, slice_index_or}
use Rattle.std.proofs.lemmas.List.{take_all, take_more}
use Rattle.chv_query.specs.Arrivals.{names_along}
use Rattle.chv_sip.specs.Below.{IsGiven}
use Rattle.chv_plan.proofs.CatalogLemmas.{names-length, names-more, view_short}
use Rattle.chv_plan.proofs.ids.id_along.Goals as goal

pub name-requires : goal.name-requires
name-requires c =
    let short : length c.view_def.result.now.name ≤ 64 = view_short c.args.schema.now.catalog c.requires.schema _ c.view_def.result.now c.view_def.ensures in
    record { short = omega (arith, short, ap length c.as_slice.ensures) }

pub loop-view-preserved : goal.loop-view-preserved
loop-view-preserved c =
    let catalog = c.args.schema.now.catalog in
    let path = c.args.path.now in
    let i = c.loop-view.view-index in
    let name = c.view_def.result.now.name in
    let given : IsGiven c.args.id (length path) (names_along catalog (take i path) ++ c.as_slice.result.now ∷ []) c.name.new.self =
    c.name.ensures c.args.id (length path) (names_along catalog (take i path)) c.loop-view.invariant in
    let more : names_along catalog (take (i + 1) path) ≡ names_along catalog (take i path) ++ c.as_slice.result.now ∷ [] =
    ap (names_along catalog) (take_more path i 0 c.loop-view-test.true)
    ∙ names-more catalog (take i path) (slice_index_or path i 0) c.view_def.result.now c.view_def.ensures
    ∙ ap (λ (n : List ℕ). names_along catalog (take i path) ++ n ∷ []) (sym c.as_slice.ensures) in
    subst (λ (names : List (List ℕ)). IsGiven c.args.id (length path) names c.name.new.self) (sym more) given

pub returns : goal.returns
returns c =
    let catalog = c.args.schema.now.catalog in
    let path = c.args.path.now in
    let whole : names_along catalog (take c.loop-view.view-index path) ≡ names_along catalog path =
    ap (names_along catalog) (take_all c.loop-view.view-index path (omega (arith, c.loop-view-test.false))) in
    let given : IsGiven c.args.id (length path) (names_along catalog path) c.loop-view.below =
    subst (λ (names : List (List ℕ)). IsGiven c.args.id (length path) names c.loop-view.below) whole c.loop-view.invariant in
    c.finish.ensures c.args.id (names_along catalog path)
    (subst (λ (n : ℕ). IsGiven c.args.id n (names_along catalog path) c.loop-view.below) (sym (names-length catalog path c.requires.there)) given)
