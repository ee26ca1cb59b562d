-- Values of kinds, and their spellings.
use Rattle.std.proofs.Common.{◌≡◌, ℕ, List, ◌++◌, sym, ap, ◌∙◌}
use Rattle.chv_agg.specs.PlainLaws.{one_scalar}
use Rattle.chv_agg.proofs.StateFrontLemmas.{one_state_in_front}
use Rattle.chv_agg.specs.StateBytes.{AreState, state_bytes}
use Rattle.chv_types.specs.declared.aggregate.AggName.{AggName}
use Rattle.chv_types.specs.declared.kind.Kind.{Kind}
use Rattle.chv_types.specs.declared.kind.Kind.TheVariants as kind
use Rattle.chv_types.specs.declared.kind.Scalar.{Scalar}
use Rattle.chv_types.specs.declared.value.Value.{Value}
use Rattle.chv_types.specs.declared.value.Value.TheVariants.{Whole, Truth, Text, State}
use Rattle.chv_block.specs.Spellings.{IsOf, value_spelling}

-- bytes begin with those of one state at most
one_spelling : (agg : AggName) (arg : Scalar) (a b x y : List ℕ) → AreState agg arg a → AreState agg arg b → a ++ x ≡ b ++ y → (a ≡ b) × (x ≡ y)
one_spelling agg arg a b x y h k same =
    let spelled : state_bytes arg h.state ++ x ≡ state_bytes arg k.state ++ y =
    ap (λ (l : List ℕ). l ++ x) (sym h.spelled) ∙ same ∙ ap (λ (l : List ℕ). l ++ y) k.spelled in
    let e = one_state_in_front agg arg h.state k.state x y h.fits k.fits spelled in
    (h.spelled ∙ ap (state_bytes arg) e.0 ∙ sym k.spelled, e.1)

-- bytes begin with one value of states at most
one_state_value : (agg : AggName) (arg : Scalar) (a b : Value) (x y : List ℕ) → IsOf (kind.State agg arg) a → IsOf (kind.State agg arg) b
    → value_spelling (kind.State agg arg) a ++ x ≡ value_spelling (kind.State agg arg) b ++ y → (a ≡ b) × (x ≡ y)
one_state_value agg arg (State s) (State t) x y h k same = let e = one_spelling agg arg s t x y h k same in (ap State e.0, e.1)
one_state_value agg arg (State s) (Whole n) x y h k same = absurd k
one_state_value agg arg (State s) (Truth b) x y h k same = absurd k
one_state_value agg arg (State s) (Text text) x y h k same = absurd k
one_state_value agg arg (Whole n) b x y h k same = absurd h
one_state_value agg arg (Truth a) b x y h k same = absurd h
one_state_value agg arg (Text text) b x y h k same = absurd h

-- bytes begin with one value of a kind at most
pub one_value : (kind : Kind) (a b : Value) (x y : List ℕ) → IsOf kind a → IsOf kind b
    → value_spelling kind a ++ x ≡ value_spelling kind b ++ y → (a ≡ b) × (x ≡ y)
one_value (kind.Plain plain) a b x y h k same = one_scalar plain a b x y h k same
one_value (kind.State agg arg) a b x y h k same = one_state_value agg arg a b x y h k same
