-- A head that tells another length, or more than a hash, is none of the file's.
use Rattle.std.proofs.Common.{◌≡◌, ◌++◌, ◌-◌, ◌<◌, ◌^◌, ◌∙◌, ap, length, List, [], ◌∷◌, ℕ, Bool, false, ◌==◌, sym, Some, codes, arith}
use Rattle.std.proofs.lemmas.Bool.{false≢true}
use Rattle.std.specs.Int.{w64, to_le_bytes}
use Rattle.std.proofs.lemmas.Bool.Decides.{Decides-eqb}
use Rattle.std.proofs.lemmas.Slice.Eq.{strip_prefix_is}
use Rattle.chv_part.proofs.PartLemmas.{fits_head}
use Rattle.chv_part.proofs.reading.kept_hash.Goals as goal
use Rattle.chv_part.proofs.reading.kept_hash.Goals.{then-not-is_empty-via-then-not-is_empty, then-not-is_empty-via-else-not-is_empty+then-size, then-not-is_empty-via-else-not-is_empty+else-size+then-length-size}

-- bytes of which there are some are not empty
filled_up : (rest : List ℕ) (empty : Bool) → empty ≡ (length rest == 0) → empty ≡ false → length rest ≡ 0 → ⊥
filled_up [] empty is some none = false≢true (sym some ∙ is)
filled_up (byte ∷ rest) empty is some none = absurd (omega (arith, none))

pub returns-then-not-is_empty-clause-none : goal.returns-then-not-is_empty-clause-none
returns-then-not-is_empty-clause-none c = λ is room other same.
    let head = c.args.head.now in
    let mark = codes "CHVPART1" in
    let long = c.in_ok-length.length in
    let kept = c.in_ok-kept.kept in
    let rest = c.in_ok-kept.rest.now in
    let marked : head ≡ mark ++ c.in_ok-rest.rest.now = strip_prefix_is Decides-eqb head mark (Some c.in_ok-rest.rest) c.in_ok-rest.ensures.cases in
    let sized : c.in_ok-rest.rest.now ≡ to_le_bytes w64 long ++ (to_le_bytes w64 kept ++ rest) = c.in_ok-length.ensures.some ∙ ap (λ (l : List ℕ). to_le_bytes w64 long ++ l) c.in_ok-kept.ensures.some in
    let size : c.args.size - 24 < 2 ^ 64 = omega (arith, c.ranges.size.fits) in
    let fits = fits_head head rest (c.args.size - 24) long kept other size c.in_ok-length.ensures.fits.0 (marked ∙ ap (λ (l : List ℕ). mark ++ l) sized) same in
    let none : length rest ≡ 0 = ap length fits.1 in
    elim c.then-not-is_empty.branch as (λ _. ⊥) [
      | then-not-is_empty-via-then-not-is_empty w ↦ absurd (filled_up rest c.is_empty.result c.is_empty.ensures w.if-not-is_empty.true none)
      | then-not-is_empty-via-else-not-is_empty+then-size w ↦ absurd (omega (arith, w.if-size.true, room))
      | then-not-is_empty-via-else-not-is_empty+else-size+then-length-size w ↦ absurd (omega (arith, w.if-length-size.true, fits.0))
    ]
