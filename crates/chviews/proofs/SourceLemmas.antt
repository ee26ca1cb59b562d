-- What a source has left, where its reader tells it.
use Rattle.std.proofs.Common.{◌≡◌, ◌↔◌, ◌<◌, ℕ, List, [], ◌++◌, Option, None, Some, Result, Ok, Err, IsSome, IfOk, OnErr, IsErr, sym, ap, ◌∙◌, subst, length, take, length-append, arith}
use Rattle.std.specs.Option.{unwrap_or}
use Rattle.std.specs.Io.{ReadsAtMost}
use Rattle.std.specs.Io.KnownBytes.{ReadConsumes}

-- a fact of what a call gave holds of what was passed on
pub passed_on : {E F : Type 0} (P : ℕ → Type 0) (answer : Result ℕ E) (result : Result ℕ F) → IfOk result (λ x. answer ≡ Ok x) → IfOk answer P → IfOk result P
passed_on P answer (Ok x) e p = subst (λ r. IfOk r P) e p
passed_on P answer (Err f) e p = tt

empty_front : (xs ys : List ℕ) → xs ++ ys ≡ [] → length xs ≡ 0
empty_front xs ys e = let none = ap length e in let sum = length-append xs ys in omega arith

-- a read gives nothing exactly where nothing is left
pub ends : {E : Type 0} (old new : Option (List ℕ)) (answer : Result ℕ E) (buf : List ℕ) → IsSome old → 0 < length buf → ReadsAtMost answer buf → ReadConsumes old new answer buf → IfOk answer (λ n. (n ≡ 0) ↔ (unwrap_or old [] ≡ []))
ends old new (Err e) buf told room bound p = tt
ends None new (Ok n) buf told room bound p = cc
ends (Some xs) None (Ok n) buf told room bound p = absurd p.0
ends (Some xs) (Some ys) (Ok n) buf told room bound p =
    (λ e. p.0 ∙ ap (λ m. take m buf ++ ys) e ∙ p.1 e room, λ e. bound.1 ∙ empty_front (take n buf) ys (sym p.0 ∙ e))

-- a read that failed has moved nothing
pub kept : {E F : Type 0} (old new : Option (List ℕ)) (answer : Result ℕ E) (result : Result ℕ F) (buf : List ℕ) → IsSome old → OnErr result (IsErr answer) → ReadConsumes old new answer buf → OnErr result (unwrap_or new [] ≡ unwrap_or old [])
kept old new answer (Ok n) buf told failed p = tt
kept old new (Ok n) (Err f) buf told failed p = cc
kept None new (Err e) (Err f) buf told failed p = cc
kept (Some xs) None (Err e) (Err f) buf told failed p = absurd p
kept (Some xs) (Some ys) (Err e) (Err f) buf told failed p = p
