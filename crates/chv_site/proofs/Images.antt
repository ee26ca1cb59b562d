-- What follows from being an image of a file.
use Rattle.std.proofs.Common.{ℕ, ◌≡◌, ◌⊎◌, ◌+◌, ◌<◌, ◌≤◌, List, length, take, drop, min, max, get_or, refl, sym, ap, subst, ◌∙◌, inl, inr, arith, length-take, length-drop}
use Rattle.std.proofs.lemmas.List.{get_or-take, get_or-drop}
use Rattle.std.proofs.lemmas.Grind.{same_number_lists}
use Rattle.chv_site.specs.declared.file_id.FileId.{FileId}
use Rattle.chv_site.specs.Files.{FileState, settled, IsPut, IsCut, KeepsFiles}
use Rattle.chv_site.specs.Images.{Image, IsFileImage, IsImage, IsTorn, HasLengths}

-- what a read gives is an image
pub reads_image : (state : FileState) → HasLengths state → IsFileImage state state.bytes
reads_image state lengths = record { no_shorter = lengths.no_shorter; no_longer = lengths.no_longer; safe = λ place below untouched. refl }

-- where nothing is pending, a crash leaves what a read gives
pub settled_image : (bytes image : List ℕ) → IsFileImage (settled bytes) image → image ≡ bytes
settled_image bytes image is =
    let a : length bytes ≤ length image = is.no_shorter in
    let b : length image ≤ length bytes = is.no_longer in
    same_number_lists image bytes (omega arith) (λ k below. is.safe k (omega arith) (record {}))

-- files that are as they were have the same images
pub kept_image : (old new : FileId → FileState) (image : Image) → KeepsFiles old new → IsImage new image → IsImage old image
kept_image old new image kept is f = subst (λ (s : FileState). IsFileImage s (image f)) (kept f) (is f)

-- the files as they read are an image of them
pub reads_images : (files : FileId → FileState) → ((f : FileId) → HasLengths (files f)) → IsImage files (λ f. (files f).bytes)
reads_images files lengths f = reads_image (files f) (lengths f)

-- a byte that was on the disk, outside the range that was put, is in each image
put_safe : (at n : ℕ) (old image : List ℕ) (new : FileState) → at ≤ length old → IsPut at n (settled old) new → IsFileImage new image
    → (place : ℕ) → place < length old → (place < at) ⊎ (at + n ≤ place) → get_or new.bytes place 0 ≡ get_or old place 0 → get_or image place 0 ≡ get_or old place 0
put_safe at n old image new within put is place below out same =
    let least : length old ≤ new.least = put.least in
    is.safe place (omega arith) (put.touched place (record {}) out) ∙ same

get_before : (at place : ℕ) (xs ys : List ℕ) → place < at → take at xs ≡ take at ys → get_or xs place 0 ≡ get_or ys place 0
get_before at place xs ys below e =
    sym (get_or-take at xs place 0 below) ∙ ap (λ (l : List ℕ). get_or l place 0) e ∙ get_or-take at ys place 0 below

get_behind : (at place : ℕ) (xs ys : List ℕ) → drop at xs ≡ drop at ys → get_or xs (at + place) 0 ≡ get_or ys (at + place) 0
get_behind at place xs ys e =
    sym (get_or-drop at xs place 0) ∙ ap (λ (l : List ℕ). get_or l place 0) e ∙ get_or-drop at ys place 0

-- what a crash may leave of a file with nothing pending to which a put was begun
pub torn_image : (at n : ℕ) (old image : List ℕ) (new : FileState) → at ≤ length old → IsPut at n (settled old) new → IsFileImage new image → IsTorn at n old image
torn_image at n old image new within put is =
    let least : length old ≤ new.least = put.least in
    let most : new.most ≤ max (length old) (at + n) = put.most in
    let no_shorter : new.least ≤ length image = is.no_shorter in
    let no_longer : length image ≤ new.most = is.no_longer in
    record {
      before = same_number_lists (take at image) (take at old) (omega (arith, length-take {A = ℕ})) (λ place below.
          let front : place < at = omega (arith, length-take {A = ℕ}, below) in
          get_or-take at image place 0 front
          ∙ put_safe at n old image new within put is place (omega arith) (inl front) (get_before at place new.bytes old front put.before)
          ∙ sym (get_or-take at old place 0 front));
      behind = same_number_lists (drop (at + n) image) (drop (at + n) old) (omega (arith, length-drop {A = ℕ})) (λ place below.
          let inside : at + n + place < length old = omega (arith, length-drop {A = ℕ}, below) in
          get_or-drop (at + n) image place 0
          ∙ put_safe at n old image new within put is (at + n + place) inside (inr (omega arith)) (get_behind (at + n) place new.bytes old put.behind)
          ∙ sym (get_or-drop (at + n) old place 0));
      no_shorter = omega arith;
      no_longer = omega arith;
    }

-- what a crash may leave of a file with nothing pending to which a cut was begun
pub cut_image : (len : ℕ) (old image : List ℕ) (new : FileState) → len ≤ length old → IsCut len (settled old) new → IsFileImage new image → (len ≤ length image) × (length image ≤ length old) × (take len image ≡ take len old)
cut_image len old image new within cut is =
    let least : min (length old) len ≤ new.least = cut.least in
    let most : new.most ≤ length old = cut.most in
    let no_shorter : new.least ≤ length image = is.no_shorter in
    let no_longer : length image ≤ new.most = is.no_longer in
    let kept : len ≤ length new.bytes = cut.no_shorter in (
      omega arith,
      omega arith,
      same_number_lists (take len image) (take len old) (omega (arith, length-take {A = ℕ})) (λ place below.
          let front : place < len = omega (arith, length-take {A = ℕ}, below) in
          get_or-take len image place 0 front
          ∙ is.safe place (omega arith) (cut.touched place (record {}))
          ∙ ap (λ (l : List ℕ). get_or l place 0) cut.front
          ∙ get_or-take (length new.bytes) old place 0 (omega arith)
          ∙ sym (get_or-take len old place 0 front)),
    )
