-- What holds of results.
use Rattle.std.proofs.Common.{◌≡◌, Bool, Ok, Err, IfOk, OnOk, sym, subst}
use Rattle.std.specs.Prelude.{Result}

pub if_ok_with : {T E : Type 0} (r : Result T E) (A : Type 0) (P Q : T → Type 0) → ((x : T) → A → P x → Q x) → OnOk r A → IfOk r P → IfOk r Q
if_ok_with (Ok x) A P Q so a p = so x a p
if_ok_with (Err e) A P Q so a p = tt

-- what holds of a mark holds of an answer that is this mark
pub if_ok_is : {E : Type 0} (r : Result Bool E) (A : Type 0) (mark : Bool) (Q : Bool → Type 0) → (A → Q mark) → OnOk r A → IfOk r (λ answer. answer ≡ mark) → IfOk r Q
if_ok_is r A mark Q so = if_ok_with r A (λ answer. answer ≡ mark) Q (λ x a is. subst Q (sym is) (so a))
