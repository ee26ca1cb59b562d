-- Faults that are passed on.
use Rattle.std.proofs.Common.{◌≡◌, Result, subst, IfErr, IsErrAnd}
use Rattle.std.proofs.lemmas.Result.{err_from_is_err_and}
use Rattle.chv_ast.specs.declared.refusal.Refusal.{Refusal}
use Rattle.chv_catalog.specs.declared.fault.StatementFault.{StatementFault}
use Rattle.chv_catalog.specs.declared.fault.StatementFault.TheVariants.{Refused}

-- what is known of the refusals that a fault tells is known of them where the fault is passed on
pub passed_on : {A : Type 0} (r : Result A StatementFault) (told : StatementFault) (P : Refusal → Type 0) → IsErrAnd r (λ fault. fault ≡ told)
    → ((refusal : Refusal) → told ≡ Refused refusal → P refusal) → IfErr r (λ fault. (refusal : Refusal) → fault ≡ Refused refusal → P refusal)
passed_on r told P h known = let at = err_from_is_err_and r h in rw (at.1, at.2) known

-- the same of a refusal that becomes a fault
pub refused_by : {A : Type 0} (r : Result A StatementFault) (told : Refusal) (P : Refusal → Type 0) → IsErrAnd r (λ fault. fault ≡ Refused told) → P told
    → IfErr r (λ fault. (refusal : Refusal) → fault ≡ Refused refusal → P refusal)
refused_by r told P h known = passed_on r (Refused told) P h (λ refusal e. let same : told ≡ refusal = cc in subst P same known)
