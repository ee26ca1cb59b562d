-- What is grouped of one row.
use Rattle.std.proofs.Common.{◌≡◌, ℕ, suc, Bool, true, false, if◌then◌else◌, List, [], ◌∷◌, ◌++◌, length, Option, None, Some, refl, sym, ap, ap₂, ◌∙◌, option_map}
use Rattle.std.specs.Option.{option_and_then}
use Rattle.std.specs.Ordering.{is_eq}
use Rattle.chv_agg.specs.Pairs.{join_each, join_found, joint}
use Rattle.chv_agg.specs.States.{join}
use Rattle.chv_agg.specs.declared.any_agg.AnyAgg.{AnyAgg}
use Rattle.chv_expr.specs.Terms.{Term}
use Rattle.chv_expr.specs.Values.{is_true}
use Rattle.chv_merge.specs.NormalForms.{values_at}
use Rattle.chv_query.specs.Results.{output_row, passes}
use Rattle.chv_types.specs.Order.{row_cmp}
use Rattle.chv_types.specs.declared.value.Value.{Value}
use Rattle.chv_history.proofs.MergeBlindQueries.{FilterGoesBy}
use Rattle.chv_history.proofs.MergeBlindTerms.{AllGoBy}

-- the piece of a row: its key with its states, where it passes and no key divides by zero
abbrev pub piece : Option Bool → Option (List Value) → (List Value → List AnyAgg) → List (List Value × List AnyAgg)
piece None found states = []
piece (Some false) found states = []
piece (Some true) None states = []
piece (Some true) (Some key) states = (key, states key) ∷ []

-- the piece of joined states stands for both
pub piece_joined : (group : List Value) (passed : Option Bool) (found : Option (List Value)) (f g h : List Value → List AnyAgg) → ((key : List Value) → h key ≡ join_each join (f key) (g key))
    → joint row_cmp (join_each join) group (piece passed found h)
    ≡ join_found (join_each join) (joint row_cmp (join_each join) group (piece passed found f)) (joint row_cmp (join_each join) group (piece passed found g))
piece_joined group None found f g h same = refl
piece_joined group (Some false) found f g h same = refl
piece_joined group (Some true) None f g h same = refl
piece_joined group (Some true) (Some key) f g h same =
    elim (is_eq (row_cmp key group)) as (λ b. join_found (join_each join) (if b then Some (h key) else None) None
    ≡ join_found (join_each join) (join_found (join_each join) (if b then Some (f key) else None) None) (join_found (join_each join) (if b then Some (g key) else None) None)) [
      | true ↦ ap Some (same key)
      | false ↦ refl
    ]

-- keys in front of what is evaluated besides
put_behind : (values : List Value) (o : Option Value) (r : Option (List Value))
    → option_and_then (λ value. option_map (λ (others : List Value). value ∷ others) (option_map (λ (front : List Value). front ++ values) r)) o
    ≡ option_map (λ (front : List Value). front ++ values) (option_and_then (λ value. option_map (λ (others : List Value). value ∷ others) r) o)
put_behind values None r = refl
put_behind values (Some value) None = refl
put_behind values (Some value) (Some front) = refl

pub output_row-behind : (keys args : List Term) (row values : List Value) → output_row args row ≡ Some values
    → output_row (keys ++ args) row ≡ option_map (λ (front : List Value). front ++ values) (output_row keys row)
output_row-behind [] args row values read = read
output_row-behind (term ∷ keys) args row values read =
    ap (λ (r : Option (List Value)). option_and_then (λ value. option_map (λ (others : List Value). value ∷ others) r) (term.value row)) (output_row-behind keys args row values read)
    ∙ put_behind values (term.value row) (output_row keys row)

some_same : {A : Type 0} (a b : A) → Some a ≡ Some b → a ≡ b
some_same a b e = cc e

one_longer : (o : Option Value) (r : Option (List Value)) (n : ℕ) (front : List Value) → ((rest : List Value) → r ≡ Some rest → length rest ≡ n)
    → option_and_then (λ value. option_map (λ (others : List Value). value ∷ others) r) o ≡ Some front → length front ≡ suc n
one_longer None r n front h e = absurd (cc e)
one_longer (Some value) None n front h e = absurd (cc e)
one_longer (Some value) (Some rest) n front h e = sym (ap length (some_same (value ∷ rest) front e)) ∙ ap suc (h rest refl)

pub output_row-length : (keys : List Term) (row front : List Value) → output_row keys row ≡ Some front → length front ≡ length keys
output_row-length [] row front is = sym (ap length (some_same [] front is))
output_row-length (term ∷ keys) row front is = one_longer (term.value row) (output_row keys row) (length keys) front (λ rest e. output_row-length keys row rest e) is

-- whether a row passes goes by its key, and so do its keys
pub passes-by : (key : List ℕ) (filter : Option Term) (a b : List Value) → FilterGoesBy key filter → values_at key a ≡ values_at key b → passes filter a ≡ passes filter b
passes-by key None a b by same = refl
passes-by key (Some condition) a b by same = ap (option_map is_true) (by a b same)

pub output_row-by : (key : List ℕ) (keys : List Term) (a b : List Value) → AllGoBy key keys → values_at key a ≡ values_at key b → output_row keys a ≡ output_row keys b
output_row-by key [] a b all same = refl
output_row-by key (term ∷ keys) a b all same =
    ap₂ (λ (o : Option Value) (r : Option (List Value)). option_and_then (λ value. option_map (λ (others : List Value). value ∷ others) r) o)
    (all.0 a b same) (output_row-by key keys a b all.1 same)
