-- What CREATE and INSERT check alike: names of columns, and numbers within bounds.
use Rattle.std.specs.Prelude.{ℕ, Bool, true, false, ◌||◌, nat_lt, List, [], ◌∷◌, is_some, is_none, Result, Ok}
use Rattle.std.specs.List.{filter_map}
use Rattle.chv_ast.specs.declared.refusal.Refusal.{Refusal}
use Rattle.chv_ast.specs.declared.refusal.Refusal.TheVariants.{LimitPassed}
use Rattle.chv_types.specs.Names.{place_of}
use Rattle.chv_types.specs.Steps.{and_then, or_refuse, refuse_if}
use Rattle.chv_types.specs.Texts.{whole_number}
use Rattle.chv_types.specs.declared.kind.Kind.{Kind}
use Rattle.chv_types.specs.declared.kind.Kind.TheVariants as kind

-- a name stands twice in a list
abbrev pub has_repeat : List (List ℕ) → Bool
has_repeat [] = false
has_repeat (name ∷ names) = is_some (place_of name names) || has_repeat names

-- a name is that of no column
abbrev pub is_unknown : List (List ℕ) → List ℕ → Bool
is_unknown columns name = is_none (place_of name columns)

-- the places of the columns with these names
abbrev pub places_of : List (List ℕ) → List (List ℕ) → List ℕ
places_of columns names = filter_map (λ name. place_of name columns) names

-- a kind is one of states
abbrev pub is_state : Kind → Bool
is_state (kind.Plain plain) = false
is_state (kind.State agg arg) = true

-- the number that digits write, from the least to the most that it may be
abbrev pub number_within : ℕ → ℕ → List ℕ → Result ℕ Refusal
number_within least most digits =
    and_then (or_refuse LimitPassed (whole_number digits)) (λ number. refuse_if (nat_lt number least || nat_lt most number) LimitPassed (Ok number))
