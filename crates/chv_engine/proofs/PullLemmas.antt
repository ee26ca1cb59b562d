-- What pulls add up to.
use Rattle.std.proofs.Common.{◌≡◌, ℕ, ◌-◌, ◌<◌, ◌≤◌, List, [], ◌++◌, length, take, sym, ap, subst, ◌∙◌, arith, append_assoc, length-append, length-take}
use Rattle.std.proofs.lemmas.List.{append-nil}
use Rattle.chv_engine.specs.Pulls.{MAX_SCRIPT, MAX_PULL, PulledTooMuch}

module _ (first script left next chunk : List ℕ) (count : ℕ) (so_far : first ≡ script ++ left) (pulled : left ≡ take count chunk ++ next) where
  -- a pull goes on
  pub pulled_on : first ≡ (script ++ take count chunk) ++ next
  pulled_on = so_far ∙ ap (λ (l : List ℕ). script ++ l) pulled ∙ sym (append_assoc script (take count chunk) next)

  -- a pull of nothing ends it
  pub pulled_all : count ≡ 0 → left ≡ [] → (script ≡ first) × (next ≡ [])
  pulled_all none empty =
      let same : left ≡ next = subst (λ (n : ℕ). left ≡ take n chunk ++ next) none pulled in
      (sym (so_far ∙ ap (λ (l : List ℕ). script ++ l) empty ∙ append-nil script), sym same ∙ empty)

  -- a pull past the bound
  pub pulled_too_much : length script ≤ MAX_SCRIPT → count ≤ length chunk → count ≤ MAX_PULL → MAX_SCRIPT - length script < count → PulledTooMuch first next
  pulled_too_much kept within small past = record {
    pulled = script ++ take count chunk;
    is = pulled_on;
    more = omega (arith, within, past, length-append script (take count chunk), length-take count chunk);
    stops = omega (arith, kept, within, small, length-append script (take count chunk), length-take count chunk);
  }
