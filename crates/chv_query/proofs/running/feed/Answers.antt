use Rattle.std.proofs.Common.{◌≡◌, ◌++◌, ◌∙◌, List, [], ◌∷◌, Some, map, take, drop, true, ap, subst, option_map, rules}
use Rattle.chv_group.specs.Takings.{HasTaken}
use Rattle.chv_group.specs.declared.call.Keyed.{Keyed}
use Rattle.chv_query.specs.Bound.{term_in}
use Rattle.chv_query.specs.Results.{keyed, output_row, passes}
use Rattle.chv_query.proofs.FeedLemmas.{args-taken, input-keyed, made-one}
use Rattle.chv_types.specs.Values.{seen_value}
use Rattle.chv_types.specs.declared.value.Value.{Value}
use Rattle.chv_query.proofs.running.feed.Goals as goal

pub feed-requires : goal.feed-requires
feed-requires c =
    let query = c.args.query.now in
    let row = c.args.row.now in
    let values = c.see_row.new.values.items in
    let passed : passes (option_map term_in query.filter) row ≡ Some true = search rules in
    let made : output_row (map term_in query.terms) row ≡ Some (map seen_value values) = search rules in
    record {
      takes = rw (c.requires.calls, c.args_of-args.ensures, c.as_slice-3.ensures.value)
          (args-taken query c.args.groups.now row values c.requires.groups c.requires.takes passed made);
    }

pub returns-clause-taken : goal.returns-clause-taken
returns-clause-taken c = λ made is taken has.
    let query = c.args.query.now in
    let row = c.args.row.now in
    let keys = c.args.groups.now.keys in
    let values = c.see_row.new.values.items in
    let grouping = c.feed.new.self in
    let passed : passes (option_map term_in query.filter) row ≡ Some true = search rules in
    let whole : output_row (map term_in query.terms) row ≡ Some (map seen_value values) = search rules in
    let one : map seen_value values ∷ [] ≡ made = made-one query row (map seen_value values) made passed whole is in
    let key : c.key_of-key.result.now ≡ take keys values = c.key_of-key.ensures ∙ ap (take keys) c.as_slice-2.ensures.value in
    let args : c.args_of-args.result.now ≡ drop keys values = c.args_of-args.ensures ∙ ap (drop keys) c.as_slice-3.ensures.value in
    let input : record { key = map seen_value c.key_of-key.result.now; args = map seen_value c.args_of-args.result.now } ≡ keyed keys (map seen_value values) = rw (key, args) (input-keyed keys values) in
    subst (λ (rows : List (List Value)). HasTaken grouping (taken ++ map (keyed keys) rows)) one
    (subst (λ (i : Keyed). HasTaken grouping (taken ++ i ∷ [])) input (c.in_ok-feed.ensures.taken taken has))
