-- Stretches of time that follow one another.
use Rattle.std.proofs.Common.{ℕ, ◌⊎◌, ◌≤◌, List, inl, inr, arith}
use Rattle.chv_site.specs.Images.{Image}
use Rattle.chv_site.specs.Outside.{Outside}
use Rattle.chv_site.specs.During.{During}

-- no call so far: there is one moment alone
pub started : (s : Outside) (P : Image → List ℕ → Type 0) → ((image : Image) (text : List ℕ) → s.left_since s.moment image text → P image text)
    → During s s P
started s P now = record { later = omega arith; each = now; before = λ t image text le left. inl left }

-- what has P has Q
pub weakened : (old new : Outside) (P Q : Image → List ℕ → Type 0) → During old new P
    → ((image : Image) (text : List ℕ) → P image text → Q image text) → During old new Q
weakened old new P Q during weaker = record {
  later = during.later;
  each = λ image text left. weaker image text (during.each image text left);
  before = λ t image text le left. elim (during.before t image text le left) as (λ _. old.left_since t image text ⊎ Q image text) [ inl earlier ↦ inl earlier | inr p ↦ inr (weaker image text p) ];
}

-- one stretch, and then another
pub goes_on : (old mid new : Outside) (P Q : Image → List ℕ → Type 0) → During old mid P → During mid new Q
    → ((image : Image) (text : List ℕ) → Q image text → P image text) → During old new P
goes_on old mid new P Q first second weaker = record {
  later = let a = first.later in let b = second.later in omega arith;
  each = λ image text left. elim (second.before old.moment image text first.later left) as (λ _. P image text) [ inl earlier ↦ first.each image text earlier | inr q ↦ weaker image text q ];
  before = λ t image text le left.
      let a : old.moment ≤ mid.moment = first.later in
      elim (second.before t image text (omega arith) left) as (λ _. old.left_since t image text ⊎ P image text) [ inl earlier ↦ first.before t image text le earlier | inr q ↦ inr (weaker image text q) ];
}
