-- The kinds that names stand for.
use Rattle.std.proofs.Common.{◌≡◌, ◌≢◌, ℕ, Bool, false, List, [], ◌∷◌, Option, Some, None, refl}
use Rattle.std.specs.Option.{IfSome, IsNone, ok_or}
use Rattle.std.specs.Str.{bytes_eq}
use Rattle.std.proofs.lemmas.Bool.{false_from_ne_true}
use Rattle.std.proofs.lemmas.Slice.Eq.{bytes_eq-Decides}
use Rattle.chv_ast.specs.declared.refusal.Refusal.TheVariants.{TypeMismatch}
use Rattle.chv_query.specs.Definitions.{first_with, scalar_of, scalars, state_of, state_over}
use Rattle.chv_types.specs.Kinds.{scalar_name}
use Rattle.chv_types.specs.Steps.{and_then, or_refuse}
use Rattle.chv_types.specs.declared.aggregate.AggName.{AggName}
use Rattle.chv_types.specs.declared.aggregate.AggName.TheVariants.{Count, Sum, Min, Max, UniqExact}
use Rattle.chv_types.specs.declared.kind.Scalar.{Scalar}
use Rattle.chv_types.specs.declared.kind.Scalar.TheVariants as scalar

-- nothing passes a test that nothing passes
first_with-none : {A : Type 0} (p : A → Bool) (xs : List A) → ((x : A) → p x ≡ false) → first_with p xs ≡ None
first_with-none p [] h = refl
first_with-none p (x ∷ xs) h = rw (h x) (first_with-none p xs h)

-- a kind is found by its name
pub scalar_of-scalar_name : (kind : Scalar) → scalar_of (scalar_name kind) ≡ Some kind
unfolding scalar_of
scalar_of-scalar_name scalar.UInt8 = refl
scalar_of-scalar_name scalar.UInt16 = refl
scalar_of-scalar_name scalar.UInt32 = refl
scalar_of-scalar_name scalar.UInt64 = refl
scalar_of-scalar_name scalar.Int8 = refl
scalar_of-scalar_name scalar.Int16 = refl
scalar_of-scalar_name scalar.Int32 = refl
scalar_of-scalar_name scalar.Int64 = refl
scalar_of-scalar_name scalar.Bool = refl
scalar_of-scalar_name scalar.Text = refl

-- a name of no kind finds none
pub scalar_of-none : (name : List ℕ) → ((kind : Scalar) → name ≢ scalar_name kind) → scalar_of name ≡ None
unfolding scalar_of
scalar_of-none name h =
    first_with-none (λ kind. bytes_eq name (scalar_name kind)) scalars (λ kind. false_from_ne_true (bytes_eq name (scalar_name kind)) (λ e. h kind ((bytes_eq-Decides name (scalar_name kind)).0 e)))

-- what has been found by names is what the name finds
pub scalar_of-found : (name : List ℕ) (found : Option Scalar) → IfSome found (λ kind. name ≡ scalar_name kind)
    → (IsNone found → (kind : Scalar) → name ≢ scalar_name kind) → ok_or found TypeMismatch ≡ or_refuse TypeMismatch (scalar_of name)
scalar_of-found name None some none = rw (scalar_of-none name (none refl)) refl
scalar_of-found name (Some kind) some none = rw (some, scalar_of-scalar_name kind) refl

-- the states of every function but count
pub state_of-Some : (agg : AggName) (arg : List ℕ) → agg ≢ Count
    → state_of agg (Some arg) ≡ and_then (or_refuse TypeMismatch (scalar_of arg)) (state_over agg)
state_of-Some Count arg h = absurd (h refl)
state_of-Some Sum arg h = refl
state_of-Some Min arg h = refl
state_of-Some Max arg h = refl
state_of-Some UniqExact arg h = refl
