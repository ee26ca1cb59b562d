-- A query that does not see merges has one result, whichever rows of its table are merged.
use Rattle.std.proofs.Common.{◌≡◌, ℕ, Bool, true, false, List, [], ◌∷◌, ◌++◌, map, Some, Ok, Less, Equal, Greater, refl, sym, ap, ap₂, subst, ◌∙◌, slice_get, flat_map}
use Rattle.std.proofs.lemmas.List.{map-append}
use Rattle.std.specs.Option.{unwrap_or}
use Rattle.chv_agg.proofs.JoinOrder.{join-assoc}
use Rattle.chv_agg.proofs.PairLemmas.{collapse-alike, join_each-IsAssociative}
use Rattle.chv_agg.specs.OfKinds.{AllAreOf}
use Rattle.chv_agg.specs.Pairs.{collapse, join_each, put_pair}
use Rattle.chv_agg.specs.States.{join}
use Rattle.chv_agg.specs.declared.any_agg.AnyAgg.{AnyAgg}
use Rattle.chv_ast.specs.declared.refusal.Refusal.TheVariants.{UnknownTable}
use Rattle.chv_ast.specs.declared.statement.Select.{Select}
use Rattle.chv_catalog.proofs.StepLemmas.{and_then-Ok}
use Rattle.chv_catalog.specs.Schemas.{Catalog, kinds_of, table_names}
use Rattle.chv_catalog.specs.declared.table_def.TableDef.{TableDef}
use Rattle.chv_group.proofs.CollapseLemmas.{grouped-collapse}
use Rattle.chv_group.specs.Collapses.{states_alone, states_row}
use Rattle.chv_group.specs.Groups.{grouped}
use Rattle.chv_group.specs.declared.call.AggCall.{AggCall}
use Rattle.chv_group.specs.declared.call.Keyed.{Keyed}
use Rattle.chv_merge.proofs.EngineLemmas.{normal_form_of-again, normal_form_of-append}
use Rattle.chv_merge.specs.NormalForms.{normal_form_of}
use Rattle.chv_part.specs.Books.{TableForm, normal_rows}
use Rattle.chv_part.specs.Forms.{form_of}
use Rattle.chv_query.proofs.GrowthLemmas.{All-at}
use Rattle.chv_query.proofs.TakesLemmas.{ok_same}
use Rattle.chv_query.specs.Accepted.{IsCatalog}
use Rattle.chv_query.specs.Queries.{Asked, asked, is_merge_blind, made_of, result_of}
use Rattle.chv_query.specs.Results.{arranged, keyed, outcome, results, shaped}
use Rattle.chv_query.specs.Tables.{table_of}
use Rattle.chv_query.specs.declared.groups.Groups.{Groups}
use Rattle.chv_types.specs.Members.{by_order}
use Rattle.chv_types.specs.Names.{place_of}
use Rattle.chv_types.specs.Order.{row_cmp}
use Rattle.chv_types.specs.OrderLaws.{row_cmp_total, row_cmp-IsAntisymmetric}
use Rattle.chv_types.specs.Steps.{or_refuse}
use Rattle.chv_types.specs.declared.value.Value.{Value}
use Rattle.chv_history.proofs.MergeBlindDefinitions.{HasPlainKey, catalog_plain}
use Rattle.chv_history.proofs.MergeBlindLayouts.{group_over, layouts-over, pieces}
use Rattle.chv_history.proofs.MergeBlindQueries.{IsBlindOver, IsBlindQuery, asked_blind, there}

-- a group with its states
abbrev Pair : Type 0
Pair = List Value × List AnyAgg

abbrev collapsed : List Pair → List Pair
collapsed pairs = collapse row_cmp (join_each join) pairs

put_some : (pair : Pair) (pairs : List Pair) → [] ≡ put_pair row_cmp (join_each join) pair pairs → ⊥
put_some pair [] e = cc e
put_some pair (first ∷ pairs) e =
    elim (row_cmp pair.0 first.0) as (λ o. [] ≡ by_order o (pair ∷ (first ∷ pairs)) ((first.0, join_each join pair.1 first.1) ∷ pairs)
    (first ∷ put_pair row_cmp (join_each join) pair pairs) → ⊥) [
      | Less ↦ λ h. cc h
      | Equal ↦ λ h. cc h
      | Greater ↦ λ h. cc h
    ] e

module _ (calls : List AggCall) where
  groups_same : (xs ys : List Keyed) → collapsed (states_alone calls xs) ≡ collapsed (states_alone calls ys) → grouped calls xs false ≡ grouped calls ys false
  groups_same xs ys same = grouped-collapse calls xs ∙ ap (map (states_row calls)) same ∙ sym (grouped-collapse calls ys)

  -- groups go by the collapsed states
  grouped_same : (xs ys : List Keyed) (always : Bool) → collapsed (states_alone calls xs) ≡ collapsed (states_alone calls ys) → grouped calls xs always ≡ grouped calls ys always
  unfolding grouped
  grouped_same xs ys false same = groups_same xs ys same
  grouped_same [] [] true same = refl
  grouped_same [] (y ∷ ys) true same = absurd (put_some _ (collapsed (states_alone calls ys)) same)
  grouped_same (x ∷ xs) [] true same = absurd (put_some _ (collapsed (states_alone calls xs)) (sym same))
  grouped_same (x ∷ xs) (y ∷ ys) true same = groups_same (x ∷ xs) (y ∷ ys) same

module _ (def : TableDef) (plain : HasPlainKey def) (query : Asked) (groups : Groups) (blind : IsBlindOver def query.filter query.terms groups) where
  made_pieces : (rows : List (List Value)) → flat_map (pieces def plain query.filter query.terms groups blind) rows ≡ states_alone groups.calls (map (keyed groups.keys) (results (made_of query) rows))
  made_pieces [] = refl
  made_pieces (row ∷ rows) =
      let here = unwrap_or (outcome query.filter query.terms row) [] in
      let others = results (made_of query) rows in
      ap (λ (pairs : List Pair). pieces def plain query.filter query.terms groups blind row ++ pairs) (made_pieces rows)
      ∙ sym (ap (states_alone groups.calls) (map-append (keyed groups.keys) here others)
      ∙ map-append _ (map (keyed groups.keys) here) (map (keyed groups.keys) others))

  -- rows over which each group has the same states have one result
  shaped_same : (a b : List (List Value))
      → ((group : List Value) → group_over def plain query.filter query.terms groups blind group a ≡ group_over def plain query.filter query.terms groups blind group b)
      → shaped (Some groups) (results (made_of query) a) ≡ shaped (Some groups) (results (made_of query) b)
  unfolding shaped
  shaped_same a b same =
      ap (map (arranged groups.cells))
      (grouped_same groups.calls (map (keyed groups.keys) (results (made_of query) a)) (map (keyed groups.keys) (results (made_of query) b)) groups.always
      (ap collapsed (sym (made_pieces a))
      ∙ collapse-alike row_cmp (join_each join) row_cmp_total row_cmp-IsAntisymmetric (join_each-IsAssociative join join-assoc) _ _ same
      ∙ ap collapsed (made_pieces b)))

-- over any layout of rows of a table's kinds
abbrev SameResult : Asked → List (List (List Value)) → Type 0
SameResult query parts =
    AllAreOf (kinds_of query.def) (flat_map (λ rows. rows) parts)
    → result_of query (flat_map (normal_rows (form_of query.def)) parts) ≡ result_of query (normal_rows (form_of query.def) (flat_map (λ rows. rows) parts))

blind_result : (def : TableDef) (query : Asked) → HasPlainKey def → IsBlindQuery def query → (parts : List (List (List Value))) → SameResult query parts
blind_result def query plain blind parts are =
    let over = blind.over in
    let sames : AllAreOf (kinds_of def) (flat_map (λ rows. rows) parts) = subst (λ (d : TableDef). AllAreOf (kinds_of d) (flat_map (λ rows. rows) parts)) blind.of are in
    let form = normal_form_of def.engine (kinds_of def) def.key in
    let result = shaped_same def plain query blind.groups over (flat_map form parts) (form (flat_map (λ rows. rows) parts))
    (λ group. layouts-over def plain query.filter query.terms blind.groups over group def.engine parts sames) in
    let as_grouped : (rows : List (List Value)) → result_of query rows ≡ shaped (Some blind.groups) (results (made_of query) rows) =
    λ rows. ap (λ (grouping : _). shaped grouping (results (made_of query) rows)) blind.grouping in
    subst (λ (d : TableDef). result_of query (flat_map (normal_rows (form_of d)) parts) ≡ result_of query (normal_rows (form_of d) (flat_map (λ rows. rows) parts))) (sym blind.of)
    (as_grouped _ ∙ result ∙ sym (as_grouped _))

-- the result goes by the rows of the table, however they are merged
pub merge_blind : (catalog : Catalog) (select : Select) (query : Asked) (parts : List (List (List Value))) → IsCatalog catalog → asked catalog select ≡ Ok query
    → is_merge_blind query ≡ true → SameResult query parts
unfolding asked
merge_blind catalog select query parts is asks blind =
    let found = and_then-Ok (table_of catalog select.table) _ query asks in
    let place = and_then-Ok (or_refuse UnknownTable (place_of select.table (table_names catalog.tables))) _ found.0 found.1 in
    let def = and_then-Ok (or_refuse UnknownTable (slice_get catalog.tables place.0)) _ found.0 place.2 in
    let plain = All-at HasPlainKey catalog.tables place.0 def.0 (catalog_plain catalog is) (there UnknownTable (slice_get catalog.tables place.0) def.0 def.1) in
    let same : def.0 ≡ found.0.1 = ap (λ (f : ℕ × TableDef). f.1) (ok_same def.2) in
    blind_result found.0.1 query (subst HasPlainKey same plain) (asked_blind found.0.1 found.0.0 select query found.2 blind) parts

-- rows of parts in normal form have the normal form of all rows
pub final_of_parts : (form : TableForm) (parts : List (List (List Value))) → normal_rows form (flat_map (normal_rows form) parts) ≡ normal_rows form (flat_map (λ rows. rows) parts)
final_of_parts form [] = refl
final_of_parts form (part ∷ parts) =
    let normal = normal_rows form in
    let rest = flat_map normal parts in
    let all = flat_map (λ (rows : List (List Value)). rows) parts in
    normal_form_of-append form.engine form.kinds form.key (normal part) rest
    ∙ ap₂ (λ (a b : List (List Value)). normal (a ++ b)) (normal_form_of-again form.engine form.kinds form.key part) (final_of_parts form parts)
    ∙ sym (normal_form_of-append form.engine form.kinds form.key part all)
