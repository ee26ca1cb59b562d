-- What is fed to a grouping.
use Rattle.std.proofs.Common.{◌≡◌, ◌+◌, ◌<◌, ◌++◌, ◌∙◌, ℕ, zero, suc, true, false, List, [], ◌∷◌, length, map, get_or, take, drop, Option, None, Some, IsSome, is_none, refl, sym, ap, subst, option_map, append-nil}
use Rattle.std.proofs.lemmas.List.Elements.{All-head}
use Rattle.std.proofs.lemmas.Grind.{flat_map-append}
use Rattle.std.proofs.lemmas.List.{map-append, take_more}
use Rattle.std.specs.List.{All}
use Rattle.std.specs.Option.{IfSome, unwrap_or}
use Rattle.chv_group.specs.Groups.{TakesArguments}
use Rattle.chv_group.specs.Takings.{Gathered, HasTaken}
use Rattle.chv_group.specs.declared.call.Keyed.{Keyed}
use Rattle.chv_query.specs.Bound.{TakesRow, TakesValues, first_division, made_by, term_in}
use Rattle.chv_query.specs.Results.{keyed, outcome, output_row, passes, results}
use Rattle.chv_query.proofs.RunLemmas.{none-more}
use Rattle.chv_query.specs.declared.groups.Groups.{Groups}
use Rattle.chv_query.specs.declared.query.Query.{Query}
use Rattle.chv_types.specs.Values.{seen_value}
use Rattle.chv_types.specs.declared.seen.Seen.{Seen}
use Rattle.chv_types.specs.declared.value.Value.{Value}

map-drop : (n : ℕ) (values : List Seen) → map seen_value (drop n values) ≡ drop n (map seen_value values)
map-drop zero values = refl
map-drop (suc n) [] = refl
map-drop (suc n) (value ∷ values) = map-drop n values

-- what is made of a row that passes
made_whole : (query : Query) (row : List Value) (values : List Value) → passes (option_map term_in query.filter) row ≡ Some true
    → output_row (map term_in query.terms) row ≡ Some values → made_by query row ≡ Some (values ∷ [])
unfolding outcome
made_whole query row values passed made = rw (passed, made) refl

-- the arguments of a row that passes are taken
pub args-taken : (query : Query) (groups : Groups) (row : List Value) (values : List Seen) → query.grouping ≡ Some groups → TakesRow query row
    → passes (option_map term_in query.filter) row ≡ Some true → output_row (map term_in query.terms) row ≡ Some (map seen_value values)
    → TakesArguments groups.calls (map seen_value (drop groups.keys values))
args-taken query groups row values grouping takes passed made =
    let all : All (TakesValues query.grouping) (map seen_value values ∷ []) =
    subst (λ (o : Option (List (List Value))). IfSome o (All (TakesValues query.grouping))) (made_whole query row (map seen_value values) passed made) takes in
    let first : TakesValues query.grouping (map seen_value values) = All-head (TakesValues query.grouping) (map seen_value values) [] all in
    rw (map-drop groups.keys values) (subst (λ (g : Option Groups). TakesValues g (map seen_value values)) grouping first)

-- what is made of a row that passes is one row
pub made-one : (query : Query) (row values : List Value) (made : List (List Value)) → passes (option_map term_in query.filter) row ≡ Some true
    → output_row (map term_in query.terms) row ≡ Some values → made_by query row ≡ Some made → values ∷ [] ≡ made
made-one query row values made passed whole is = let same : Some (values ∷ []) ≡ Some made = sym (made_whole query row values passed whole) ∙ is in cc

map-take : (n : ℕ) (values : List Seen) → map seen_value (take n values) ≡ take n (map seen_value values)
map-take zero values = refl
map-take (suc n) [] = refl
map-take (suc n) (value ∷ values) = ap (λ (l : List Value). seen_value value ∷ l) (map-take n values)

-- the first values are the key, the others the arguments
pub input-keyed : (n : ℕ) (values : List Seen) → record { key = map seen_value (take n values); args = map seen_value (drop n values) } ≡ keyed n (map seen_value values)
input-keyed n values = rw (map-take n values, map-drop n values) refl

-- what is made of one row more is taken
pub fed-more : (query : Query) (keys : ℕ) (old new : Gathered) (rows : List (List Value)) (i : ℕ) (row : List Value) → i < length rows → row ≡ get_or rows i row
    → IsSome (made_by query row) → HasTaken old (map (keyed keys) (results (made_by query) (take i rows)))
    → ((made : List (List Value)) → made_by query row ≡ Some made → (taken : List Keyed) → HasTaken old taken → HasTaken new (taken ++ map (keyed keys) made))
    → HasTaken new (map (keyed keys) (results (made_by query) (take (i + 1) rows)))
fed-more query keys old new rows i row within is some has fed =
    elim (made_by query row) as (λ (o : Option (List (List Value))). made_by query row ≡ o → IsSome o → HasTaken new (map (keyed keys) (results (made_by query) (take (i + 1) rows)))) [
      | None ↦ λ e none. cc
      | Some made ↦ λ e there.
          let before = results (made_by query) (take i rows) in
          let one : results (made_by query) (row ∷ []) ≡ made = rw e (append-nil made) in
          let more : results (made_by query) (take (i + 1) rows) ≡ before ++ made =
          ap (results (made_by query)) (take_more rows i row within ∙ ap (λ (r : List Value). take i rows ++ r ∷ []) (sym is))
          ∙ flat_map-append (λ (r : List Value). unwrap_or (made_by query r) []) (take i rows) (row ∷ []) ∙ ap (λ (l : List (List Value)). before ++ l) one in
          subst (HasTaken new) (sym (map-append (keyed keys) before made) ∙ ap (map (keyed keys)) (sym more)) (fed made e (map (keyed keys) before) has)
    ] refl some

-- a row of which something is made divides by nothing
pub none-fed : (query : Query) (rows : List (List Value)) (i : ℕ) (row : List Value) → i < length rows → row ≡ get_or rows i row → IsSome (made_by query row)
    → first_division query (take i rows) ≡ None → first_division query (take (i + 1) rows) ≡ None
none-fed query rows i row within is some none =
    let there : is_none (made_by query row) ≡ false =
    elim (made_by query row) as (λ (o : Option (List (List Value))). IsSome o → is_none o ≡ false) [ None ↦ λ no. cc | Some made ↦ λ yes. refl ] some in
    ap (first_division query) (take_more rows i row within ∙ ap (λ (r : List Value). take i rows ++ r ∷ []) (sym is))
    ∙ none-more (λ (r : List Value). is_none (made_by query r)) (take i rows) row none there
