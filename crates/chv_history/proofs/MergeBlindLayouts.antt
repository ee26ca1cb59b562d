-- Each group has the same states over rows of which some are merged.
use Rattle.std.proofs.Common.{◌≡◌, ℕ, Bool, true, false, if◌then◌else◌, List, [], ◌∷◌, ◌++◌, length, map, take, drop, Option, None, Some, refl, sym, ap, ap₂, ◌∙◌, option_map, flat_map}
use Rattle.std.proofs.Math.Seq.{drop-append_seam, take-append_seam}
use Rattle.std.specs.Option.{option_and_then, unwrap_or}
use Rattle.chv_agg.proofs.JoinOrder.{join-assoc, join-comm}
use Rattle.chv_agg.proofs.PairLemmas.{join_each-IsAssociative, join_each-IsCommutative}
use Rattle.chv_agg.specs.OfKinds.{AllAreOf}
use Rattle.chv_agg.specs.Pairs.{join_each, join_found, joint}
use Rattle.chv_agg.specs.States.{join}
use Rattle.chv_agg.specs.declared.any_agg.AnyAgg.{AnyAgg}
use Rattle.chv_catalog.specs.Schemas.{kinds_of}
use Rattle.chv_catalog.specs.declared.table_def.TableDef.{TableDef}
use Rattle.chv_expr.proofs.TermFits.{AllOf}
use Rattle.chv_expr.specs.Terms.{Term}
use Rattle.chv_group.specs.Collapses.{states_alone}
use Rattle.chv_group.specs.Tallies.{states_over}
use Rattle.chv_group.specs.declared.call.Keyed.{Keyed}
use Rattle.chv_merge.proofs.KeyLemmas.{merge_rows-key}
use Rattle.chv_merge.proofs.NormalFormLemmas.{normal_form-IsPermutation}
use Rattle.chv_merge.specs.NormalForms.{aggregated, merge_rows, normal_form_of, values_at}
use Rattle.chv_merge.specs.NormalForms as merging
use Rattle.chv_query.specs.Results.{arranged, keyed, outcome, output_row, passes}
use Rattle.chv_query.specs.declared.groups.Groups.{Groups}
use Rattle.chv_types.specs.Order.{row_cmp}
use Rattle.chv_types.specs.OrderLaws.{row_cmp-IsAntisymmetric}
use Rattle.chv_types.specs.declared.table.Engine.{Engine}
use Rattle.chv_types.specs.declared.table.Engine.TheVariants.{MergeTree, Aggregating}
use Rattle.chv_types.specs.declared.value.Value.{Value}
use Rattle.chv_history.proofs.MergeBlindDefinitions.{HasPlainKey}
use Rattle.chv_history.proofs.MergeBlindJoints.{AllAre, alone, collapse-behind, over, over-append, over-permuted}
use Rattle.chv_history.proofs.MergeBlindQueries.{IsBlindOver}
use Rattle.chv_history.proofs.MergeBlindRows.{IsShaped, merged_shaped, row_shaped}
use Rattle.chv_history.proofs.MergeBlindStates.{AreRead, are_read, states_in, states_merged}
use Rattle.chv_history.proofs.MergeBlindOutcomes.{output_row-behind, output_row-by, output_row-length, passes-by, piece, piece_joined}

module _ (def : TableDef) (plain : HasPlainKey def) (filter : Option Term) (terms : List Term) (groups : Groups) (blind : IsBlindOver def filter terms groups) where
  read : AreRead (kinds_of def) groups.calls blind.args
  read = are_read (kinds_of def) groups.calls blind.args blind.on blind.take blind.forms

  -- what is grouped of a row: its key, with the states of the calls
  abbrev pub pieces : List Value → List (List Value × List AnyAgg)
  pieces row = states_alone groups.calls (map (keyed groups.keys) (unwrap_or (outcome filter terms row) []))

  abbrev states : List Value → List Value → List AnyAgg
  states row = states_in groups.calls read.places row

  -- the key of a row and its arguments
  keyed_is : (row front : List Value) → output_row blind.keys row ≡ Some front
      → keyed groups.keys (front ++ arranged read.places row) ≡ record { key = front; args = arranged read.places row }
  keyed_is row front is =
      let size : groups.keys ≡ length front = blind.count ∙ sym (output_row-length blind.keys row front is) in
      let values = arranged read.places row in
      ap₂ (λ (key args : List Value). record { key = key; args = args })
      (ap (λ (n : ℕ). take n (front ++ values)) size ∙ take-append_seam front values)
      (ap (λ (n : ℕ). drop n (front ++ values)) size ∙ drop-append_seam front values)

  -- it is the piece of the row
  pieces-is : (row : List Value) → pieces row ≡ piece (passes filter row) (output_row blind.keys row) (states row)
  unfolding outcome
  pieces-is row =
      ap (λ (values : Option (List Value)). states_alone groups.calls (map (keyed groups.keys) (unwrap_or
      (option_and_then (λ passed. if passed then option_map (λ values. values ∷ []) values else Some []) (passes filter row)) [])))
      (ap (λ (ts : List Term). output_row ts row) blind.are ∙ output_row-behind blind.keys blind.args row (arranged read.places row) (read.read row))
      ∙ by (passes filter row) (output_row blind.keys row) refl
    where
      by : (passed : Option Bool) (found : Option (List Value)) → output_row blind.keys row ≡ found
          → states_alone groups.calls (map (keyed groups.keys) (unwrap_or
          (option_and_then (λ passed. if passed then option_map (λ values. values ∷ []) (option_map (λ (front : List Value). front ++ arranged read.places row) found) else Some []) passed) []))
          ≡ piece passed found (states row)
      by None found e = refl
      by (Some false) found e = refl
      by (Some true) None e = refl
      by (Some true) (Some front) e = ap (λ (input : Keyed). (input.key, states_over 0 groups.calls (input ∷ [])) ∷ []) (keyed_is row front e)

  module _ (group : List Value) where
    abbrev pub group_over : List (List Value) → Option (List AnyAgg)
    group_over rows = over row_cmp (join_each join) (join_each-IsAssociative join join-assoc) pieces group rows

    abbrev group_alone : List Value → Option (List AnyAgg)
    group_alone row = alone row_cmp (join_each join) (join_each-IsAssociative join join-assoc) pieces group row

    abbrev IsPair : List Value × List Value → Type 0
    IsPair pair = (pair.0 ≡ values_at def.key pair.1) × AllOf IsShaped (kinds_of def) pair.1

    -- rows of one sorting key have pieces of one key
    alone_as : (row like : List Value) → values_at def.key row ≡ values_at def.key like
        → group_alone row ≡ joint row_cmp (join_each join) group (piece (passes filter like) (output_row blind.keys like) (states row))
    alone_as row like same =
        ap (joint row_cmp (join_each join) group) (pieces-is row
        ∙ ap₂ (λ (passed : Option Bool) (found : Option (List Value)). piece passed found (states row))
        (passes-by def.key filter row like blind.filter_by same) (output_row-by def.key blind.keys row like blind.keys_by same))

    -- two rows of one sorting key as one row give the states of both
    pairs_merged : (p q : List Value × List Value) → IsPair p → IsPair q → p.0 ≡ q.0
        → IsPair (q.0, merge_rows (kinds_of def) def.key p.1 q.1)
        × (group_alone (merge_rows (kinds_of def) def.key p.1 q.1) ≡ join_found (join_each join) (group_alone p.1) (group_alone q.1))
    pairs_merged p q is are e =
        let same : values_at def.key p.1 ≡ values_at def.key q.1 = sym is.0 ∙ e ∙ are.0 in
        let kept = merge_rows-key (kinds_of def) def.key p.1 q.1 same in (
          (are.0 ∙ sym kept, merged_shaped (kinds_of def) def.key p.1 q.1 is.1 are.1),
          alone_as (merge_rows (kinds_of def) def.key p.1 q.1) q.1 kept
              ∙ piece_joined group (passes filter q.1) (output_row blind.keys q.1) (states p.1) (states q.1) (states (merge_rows (kinds_of def) def.key p.1 q.1))
              (states_merged def plain groups.calls read.places read.columns p.1 q.1 is.1 are.1)
              ∙ sym (ap₂ (join_found (join_each join)) (alone_as p.1 q.1 same) (alone_as q.1 q.1 refl)),
        )

    abbrev Pairs : List (List Value × List Value) → Type 0
    Pairs = AllAre row_cmp row_cmp (merge_rows (kinds_of def) def.key) (join_each join) pieces group row_cmp-IsAntisymmetric (join_each-IsAssociative join join-assoc)
        (join_each-IsCommutative join join-comm) IsPair pairs_merged

    all_pairs : (rows : List (List Value)) → AllAreOf (kinds_of def) rows → Pairs (map (merging.keyed def.key) rows)
    all_pairs [] are = tt
    all_pairs (row ∷ rows) are = ((refl, row_shaped (kinds_of def) row are.0), all_pairs rows are.1)

    rows_again : (rows : List (List Value)) → map (λ (pair : List Value × List Value). pair.1) (map (merging.keyed def.key) rows) ≡ rows
    rows_again [] = refl
    rows_again (row ∷ rows) = ap (λ (others : List (List Value)). row ∷ others) (rows_again rows)

    -- rows of each sorting key as one give the same states
    aggregated-over : (rows : List (List Value)) → AllAreOf (kinds_of def) rows → group_over (aggregated (kinds_of def) def.key rows) ≡ group_over rows
    unfolding aggregated
    aggregated-over rows are =
        (collapse-behind row_cmp row_cmp (merge_rows (kinds_of def) def.key) (join_each join) pieces group row_cmp-IsAntisymmetric (join_each-IsAssociative join join-assoc)
        (join_each-IsCommutative join join-comm) IsPair pairs_merged (map (merging.keyed def.key) rows) (all_pairs rows are)).1
        ∙ ap group_over (rows_again rows)

    -- and so does the normal form of each engine
    normal-over : (engine : Engine) (rows : List (List Value)) → AllAreOf (kinds_of def) rows → group_over (normal_form_of engine (kinds_of def) def.key rows) ≡ group_over rows
    normal-over MergeTree rows are =
        over-permuted row_cmp (join_each join) (join_each-IsAssociative join join-assoc) pieces group (join_each-IsCommutative join join-comm) _ rows (normal_form-IsPermutation def.key rows)
    normal-over Aggregating rows are = aggregated-over rows are

    first_are : (a b : List (List Value)) → AllAreOf (kinds_of def) (a ++ b) → AllAreOf (kinds_of def) a
    first_are [] b are = tt
    first_are (row ∷ a) b are = (are.0, first_are a b are.1)

    others_are : (a b : List (List Value)) → AllAreOf (kinds_of def) (a ++ b) → AllAreOf (kinds_of def) b
    others_are [] b are = are
    others_are (row ∷ a) b are = others_are a b are.1

    parts-over : (engine : Engine) (parts : List (List (List Value))) → AllAreOf (kinds_of def) (flat_map (λ part. part) parts)
        → group_over (flat_map (normal_form_of engine (kinds_of def) def.key) parts) ≡ group_over (flat_map (λ part. part) parts)
    parts-over engine [] are = refl
    parts-over engine (part ∷ parts) are =
        let rest = flat_map (λ (part : List (List Value)). part) parts in
        let form = normal_form_of engine (kinds_of def) def.key in
        over-append row_cmp (join_each join) (join_each-IsAssociative join join-assoc) pieces group (form part) (flat_map form parts)
        ∙ ap₂ (join_found (join_each join)) (normal-over engine part (first_are part rest are)) (parts-over engine parts (others_are part rest are))
        ∙ sym (over-append row_cmp (join_each join) (join_each-IsAssociative join join-assoc) pieces group part rest)

    -- a group has the same states over parts in normal form as over the normal form of all rows
    pub layouts-over : (engine : Engine) (parts : List (List (List Value))) → AllAreOf (kinds_of def) (flat_map (λ part. part) parts)
        → group_over (flat_map (normal_form_of engine (kinds_of def) def.key) parts) ≡ group_over (normal_form_of engine (kinds_of def) def.key (flat_map (λ part. part) parts))
    layouts-over engine parts are = parts-over engine parts are ∙ sym (normal-over engine (flat_map (λ part. part) parts) are)
