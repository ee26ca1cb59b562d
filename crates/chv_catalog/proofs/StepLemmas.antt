-- Steps that are taken, and checks that pass.
use Rattle.std.proofs.Common.{◌≡◌, Bool, true, false, Result, Ok, Err, refl}
use Rattle.chv_types.specs.Steps.{and_then, refuse_if}

-- what follows a step is made where the step is
pub and_then-Ok : {A B E : Type 0} (r : Result A E) (rest : A → Result B E) (b : B) → and_then r rest ≡ Ok b → (a : A) × (r ≡ Ok a) × (rest a ≡ Ok b)
and_then-Ok (Ok a) rest b h = (a, refl, h)
and_then-Ok (Err refusal) rest b h = absurd cc

-- a check that passes found nothing bad, and what follows it passes
pub refuse_if-Ok : {A E : Type 0} (bad : Bool) (refusal : E) (rest : Result A E) (a : A) → refuse_if bad refusal rest ≡ Ok a → (bad ≡ false) × (rest ≡ Ok a)
refuse_if-Ok false refusal rest a h = (refl, h)
refuse_if-Ok true refusal rest a h = absurd cc

-- what follows a check follows its pass
pub and_then-refuse_if : {A B E : Type 0} (bad : Bool) (refusal : E) (r : Result A E) (rest : A → Result B E)
    → and_then (refuse_if bad refusal r) rest ≡ refuse_if bad refusal (and_then r rest)
and_then-refuse_if true refusal r rest = refl
and_then-refuse_if false refusal r rest = refl
