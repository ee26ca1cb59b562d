-- Calls that answer as definitions.
use Rattle.std.proofs.Common.{◌≡◌, Result, Err, refl}
use Rattle.chv_ast.specs.declared.refusal.Refusal.{Refusal}
use Rattle.chv_catalog.specs.declared.fault.StatementFault.{StatementFault}
use Rattle.chv_catalog.specs.declared.fault.StatementFault.TheVariants.{Refused, NoMemory}
use Rattle.chv_query.specs.Bound.{AnswersAs}

-- a call that is refused answers as a definition that is refused so
pub refuses_as : {A B : Type 0} (Is : A → B → Type 0) (outcome : Result B Refusal) (fault : StatementFault)
    → ((refusal : Refusal) → fault ≡ Refused refusal → outcome ≡ Err refusal) → AnswersAs Is outcome (Err fault)
refuses_as Is outcome (Refused refusal) h = h refusal refl
refuses_as Is outcome NoMemory h = tt
