-- One kind's values may stand in a column of another.
use Rattle.std.proofs.Common.{◌≡◌, ◌∙◌, ◌↔◌, ◌⊎◌, inl, inr, ◌+◌, ◌-◌, ◌≤ℤ◌, ◌||◌, ℤ, Bool, true, false, List, [], ◌∷◌, Option, None, Some, IsSome, slice_get, refl, sym, ap, arith, rules}
use Rattle.std.proofs.lemmas.Bool.{or_left, or_right}
use Rattle.std.proofs.lemmas.Slice.Eq.{bytes_eq-Decides}
use Rattle.chv_agg.specs.Plain.{scalar_code}
use Rattle.chv_agg.specs.StateBytes.{agg_number}
use Rattle.chv_block.specs.Spellings.{kind_code}
use Rattle.chv_query.specs.Views.{is_wider, kind_eq, lies_within, widens_to}
use Rattle.chv_types.proofs.RangeLemmas.{Widens-ranges}
use Rattle.chv_types.specs.Kinds.{Widens, range_of}
use Rattle.chv_types.specs.declared.aggregate.AggName.{AggName}
use Rattle.chv_types.specs.declared.aggregate.AggName.TheVariants as agg
use Rattle.chv_types.specs.declared.kind.Kind.{Kind}
use Rattle.chv_types.specs.declared.kind.Kind.TheVariants as kind
use Rattle.chv_types.specs.declared.kind.Scalar.{Scalar}
use Rattle.chv_types.specs.declared.kind.Scalar.TheVariants as scalar

-- the kinds of plain values, in the order of their codes
abbrev plains : List Scalar
plains =
    scalar.UInt8 ∷ scalar.UInt16 ∷ scalar.UInt32 ∷ scalar.UInt64 ∷ scalar.Int8 ∷ scalar.Int16 ∷ scalar.Int32 ∷ scalar.Int64 ∷ scalar.Bool ∷ scalar.Text ∷ []

-- a kind of plain values is known by its code
plain_at : (plain : Scalar) → slice_get plains (scalar_code plain - 1) ≡ Some plain
plain_at scalar.UInt8 = refl
plain_at scalar.UInt16 = refl
plain_at scalar.UInt32 = refl
plain_at scalar.UInt64 = refl
plain_at scalar.Int8 = refl
plain_at scalar.Int16 = refl
plain_at scalar.Int32 = refl
plain_at scalar.Int64 = refl
plain_at scalar.Bool = refl
plain_at scalar.Text = refl

-- the functions, in the order of their numbers
abbrev functions : List AggName
functions = agg.Count ∷ agg.Sum ∷ agg.Min ∷ agg.Max ∷ agg.UniqExact ∷ []

-- a function is known by its number
function_at : (function : AggName) → slice_get functions (agg_number function) ≡ Some function
function_at agg.Count = refl
function_at agg.Sum = refl
function_at agg.Min = refl
function_at agg.Max = refl
function_at agg.UniqExact = refl

same_plain : (a b : Scalar) → scalar_code a ≡ scalar_code b → a ≡ b
same_plain a b same =
    let both : Some a ≡ Some b = sym (plain_at a) ∙ ap (λ code. slice_get plains (code - 1)) same ∙ plain_at b in
    cc

same_function : (a b : AggName) → agg_number a ≡ agg_number b → a ≡ b
same_function a b same =
    let both : Some a ≡ Some b = sym (function_at a) ∙ ap (slice_get functions) same ∙ function_at b in
    cc

-- kinds of one code are the same
same_kind : (a b : Kind) → kind_code a ≡ kind_code b → a ≡ b
same_kind (kind.Plain a) (kind.Plain b) same = let code : scalar_code a ≡ scalar_code b = cc in ap (λ plain. kind.Plain plain) (same_plain a b code)
same_kind (kind.Plain a) (kind.State f b) same = absurd cc
same_kind (kind.State f a) (kind.Plain b) same = absurd cc
same_kind (kind.State f a) (kind.State g b) same =
    let first : 16 + agg_number f ≡ 16 + agg_number g = cc in
    let number : agg_number f ≡ agg_number g = omega arith in
    let code : scalar_code a ≡ scalar_code b = cc in
    let functions : f ≡ g = same_function f g number in
    let plains : a ≡ b = same_plain a b code in
    cc

kind_eq-same : (a b : Kind) → (kind_eq a b ≡ true) ↔ (a ≡ b)
kind_eq-same a b =
    ((λ e. same_kind a b ((bytes_eq-Decides (kind_code a) (kind_code b)).0 e)), (λ same. (bytes_eq-Decides (kind_code a) (kind_code b)).1 (ap kind_code same)))

-- ranges that lie within each other, where both are there
lies_within-parts : (low high least greatest : ℤ) → (lies_within (Some (low, high)) (Some (least, greatest)) ≡ true) ↔ ((least ≤ℤ low) × (high ≤ℤ greatest))
lies_within-parts low high least greatest = search rules

wider : (from to : Scalar) (inner outer : Option (ℤ × ℤ)) → range_of from ≡ inner → range_of to ≡ outer → (lies_within inner outer ≡ true) ↔ Widens (kind.Plain from) (kind.Plain to)
wider from to None outer e f = ((λ t. absurd cc), (λ w. let none : IsSome (range_of from) = w.0 in absurd (search rules)))
wider from to (Some inner) None e f = ((λ t. absurd cc), (λ w. let none : IsSome (range_of to) = w.1 in absurd (search rules)))
wider from to (Some (low, high)) (Some (least, greatest)) e f =
    let parts = lies_within-parts low high least greatest in
    let both = Widens-ranges from to low high least greatest e f in
    ((λ t. both.0 (parts.0 t)), (λ w. parts.1 (both.1 w)))

is_wider-Widens : (from to : Kind) → (is_wider from to ≡ true) ↔ Widens from to
is_wider-Widens (kind.Plain from) (kind.Plain to) = wider from to (range_of from) (range_of to) refl refl
is_wider-Widens (kind.Plain from) (kind.State f to) = ((λ t. absurd cc), (λ w. absurd w))
is_wider-Widens (kind.State f from) (kind.Plain to) = ((λ t. absurd cc), (λ w. absurd w))
is_wider-Widens (kind.State f from) (kind.State g to) = ((λ t. absurd cc), (λ w. absurd w))

-- values may stand there where the kinds are the same, or the second is the wider of two integer kinds
pub widens_to-parts : (from to : Kind) → (widens_to from to ≡ true) ↔ ((from ≡ to) ⊎ Widens from to)
unfolding widens_to
widens_to-parts from to = (there (kind_eq from to) (is_wider from to) (kind_eq-same from to) (is_wider-Widens from to), back)
  where
    there : {A B : Type 0} (a b : Bool) → (a ≡ true) ↔ A → (b ≡ true) ↔ B → (a || b) ≡ true → A ⊎ B
    there true b one two is = inl (one.0 refl)
    there false b one two is = inr (two.0 is)

    back : (from ≡ to) ⊎ Widens from to → (kind_eq from to || is_wider from to) ≡ true
    back (inl same) = or_left (kind_eq from to) (is_wider from to) ((kind_eq-same from to).1 same)
    back (inr wide) = or_right (kind_eq from to) (is_wider from to) ((is_wider-Widens from to).1 wide)

-- two tests of the same fact are one
both_true : {P : Type 0} (a b : Bool) → (a ≡ true) ↔ P → (b ≡ true) ↔ P → a ≡ b
both_true true b one two = sym (two.1 (one.0 refl))
both_true false true one two = one.1 (two.0 refl)
both_true false false one two = refl

-- a test of what `Widens` says is the definition's
pub widens_to-from : (from to : Kind) (test : Bool) → (test ≡ true) ↔ ((from ≡ to) ⊎ Widens from to) → test ≡ widens_to from to
widens_to-from from to test is = both_true test (widens_to from to) is (widens_to-parts from to)
