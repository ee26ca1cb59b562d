-- What one more read or write does to the bytes that a reader has left and a writer holds.
use Rattle.std.proofs.Common.{◌≡◌, ◌+◌, ◌≤◌, ℕ, List, ◌++◌, Option, None, Some, sym, ap, ap₂, ◌∙◌, append_assoc, length, take, le_refl}
use Rattle.std.proofs.Math.Seq.{take-add}
use Rattle.std.proofs.lemmas.List.{drop_at, length-take-le, take-append-le}
use Rattle.std.proofs.lemmas.Slice.{take-put_mid_below}
use Rattle.std.specs.Io.KnownBytes.{Appends, Consumes}
use borrow.Rule.Slice.PartMut.{put_mid}

pub Appends-trans : (a b c : Option (List ℕ)) (xs ys : List ℕ) → Appends a b xs → Appends b c ys → Appends a c (xs ++ ys)
Appends-trans None b c xs ys p q = tt
Appends-trans (Some x) None c xs ys p q = absurd p
Appends-trans (Some x) (Some y) None xs ys p q = absurd q
Appends-trans (Some x) (Some y) (Some z) xs ys p q = q ∙ ap (λ l. l ++ ys) p ∙ append_assoc x xs ys

pub Consumes-trans : (a b c : Option (List ℕ)) (xs ys : List ℕ) → Consumes a b xs → Consumes b c ys → Consumes a c (xs ++ ys)
Consumes-trans None b c xs ys p q = tt
Consumes-trans (Some x) None c xs ys p q = absurd p
Consumes-trans (Some x) (Some y) None xs ys p q = absurd q
Consumes-trans (Some x) (Some y) (Some z) xs ys p q = p ∙ ap (λ l. xs ++ l) q ∙ sym (append_assoc xs ys z)

-- a buffer that is filled to place a, after n bytes more from ys
pub take-put_mid_more : (a k n : ℕ) (buf ys : List ℕ) → a ≤ length buf → n ≤ length ys → take (a + n) (put_mid a k buf ys) ≡ take a buf ++ take n ys
take-put_mid_more a k n buf ys within fits =
    take-add a n (put_mid a k buf ys) ∙ ap₂ (λ xs zs. xs ++ zs) (take-put_mid_below a k buf ys a (le_refl a) within)
    (ap (take n) (drop_at (take a buf) _ a (length-take-le a buf within)) ∙ take-append-le n ys _ fits)
