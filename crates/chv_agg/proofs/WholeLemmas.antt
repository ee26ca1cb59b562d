-- States that bytes spell whole.
use Rattle.std.proofs.Common.{◌≡◌, ◌≢◌, ℕ, ◌^◌, ◌<◌, List, [], ◌∷◌, ◌++◌, length, drop, length-drop, append-nil, refl, sym, ap, subst, ◌∙◌, arith}
use Rattle.std.specs.Prelude.{IfOk}
use Rattle.std.specs.declared.result.Result.{Result}
use Rattle.std.specs.declared.result.Result.TheVariants.{Ok, Err}
use Rattle.chv_agg.proofs.StateFrontLemmas.{state_in-longer, state_in-spelled, state_in-unfit, unit_of-fits}
use Rattle.chv_agg.specs.StateBytes.{state_bytes, state_in}
use Rattle.chv_agg.specs.States.{FitsState, unit_of}
use Rattle.chv_agg.specs.declared.any_agg.AnyAgg.{AnyAgg}
use Rattle.chv_bytes.specs.Places.{StandsAt}
use Rattle.chv_types.specs.declared.aggregate.AggName.{AggName}
use Rattle.chv_types.specs.declared.kind.Scalar.{Scalar}

nothing_left : (rest : List ℕ) → length rest ≡ 0 → rest ≡ []
nothing_left [] e = refl
nothing_left (byte ∷ rest) e = absurd (omega arith)

module _ (function : AggName) (arg : Scalar) (bytes : List ℕ) (short : length bytes < 2 ^ 64) where
  -- a state whose bytes are all that there are
  pub state_in-whole : (state : AnyAgg) (behind : ℕ) → FitsState function arg state → StandsAt (state_bytes arg state) bytes 0 behind → behind ≡ length bytes → state ≡ state_in function arg bytes
  state_in-whole state behind fits stands whole =
      let long : length (drop behind bytes) ≡ 0 = omega (arith, length-drop behind bytes) in
      let same : bytes ≡ state_bytes arg state =
      stands.spelled ∙ ap (λ (rest : List ℕ). state_bytes arg state ++ rest) (nothing_left (drop behind bytes) long) ∙ append-nil (state_bytes arg state) in
      sym (ap (state_in function arg) same ∙ state_in-spelled function arg state fits)

  -- a state whose bytes are not all
  pub state_in-part : (state : AnyAgg) (behind : ℕ) → FitsState function arg state → StandsAt (state_bytes arg state) bytes 0 behind → behind ≢ length bytes → unit_of function arg ≡ state_in function arg bytes
  state_in-part state behind fits stands part =
      let within = stands.within in
      let long : 0 < length (drop behind bytes) = omega (arith, length-drop behind bytes, part, within) in
      sym (state_in-longer function arg bytes (drop behind bytes) state short fits stands.spelled long)

  -- no state
  pub state_in-nothing : ((state : AnyAgg) (rest : List ℕ) → FitsState function arg state → drop 0 bytes ≢ state_bytes arg state ++ rest) → unit_of function arg ≡ state_in function arg bytes
  state_in-nothing none = sym (state_in-unfit function arg bytes short (λ state fits is. none state [] fits (is ∙ sym (append-nil (state_bytes arg state)))))

-- the state of no values is one over values of the kind
pub fitting_unit : {E : Type 0} (function : AggName) (arg : Scalar) (result : Result AnyAgg E) → IfOk result (λ state. state ≡ unit_of function arg) → IfOk result (λ state. FitsState function arg state)
fitting_unit function arg (Ok state) is = subst (FitsState function arg) (sym is) (unit_of-fits function arg)
fitting_unit function arg (Err fault) is = tt
