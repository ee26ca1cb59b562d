-- What is left by some events.
use Rattle.std.proofs.Common.{◌≡◌, ◌⊎◌, inl, inr, ℕ, Bool, List, [], ◌∷◌, ◌++◌, refl, sym, ap, subst, ◌∙◌, append_assoc}
use Rattle.std.proofs.Math.Seq.{take-nil}
use Rattle.std.proofs.lemmas.List.{append-nil}
use Rattle.chv_site.specs.Files.{IsFrontOf}
use Rattle.chv_site.specs.Images.{Image}
use Rattle.chv_history.specs.Crashes.{IsLeftBy, says_next}
use Rattle.chv_history.specs.Histories.{Stands}
use Rattle.chv_history.specs.Events.{Event, Replied, Plan, Moment, happen, behind}

-- nothing more is said
pub nothing_more : (bytes old text : List ℕ) → text ≡ old → IsFrontOf bytes old text
nothing_more bytes old text same = (0, same ∙ sym (append-nil old))

-- no event is done yet
pub left_first : (events : List Event) (before : List ℕ) (m : Moment) (image : Image) (text : List ℕ) → Stands image m.history → IsFrontOf (says_next events) (before ++ m.said) text → IsLeftBy events before m image text
left_first events before m image text stands said = record { done = []; left = events; split = refl; stands = stands; said = said }

-- and none of them says anything
pub left_still : (events : List Event) (before : List ℕ) (m : Moment) (image : Image) (text : List ℕ) → Stands image m.history → text ≡ before ++ m.said → IsLeftBy events before m image text
left_still events before m image text stands same = left_first events before m image text stands (nothing_more (says_next events) (before ++ m.said) text same)

-- one event is done
pub left_second : (event : Event) (events : List Event) (before : List ℕ) (m : Moment) (image : Image) (text : List ℕ) → Stands image (happen event m).history → IsFrontOf (says_next events) (before ++ (happen event m).said) text
    → IsLeftBy (event ∷ events) before m image text
left_second event events before m image text stands said = record { done = event ∷ []; left = events; split = refl; stands = stands; said = said }

-- no event is done yet, or the first is, and no text follows it
pub left_either : (event : Event) (events : List Event) (before : List ℕ) (m : Moment) (image : Image) (text : List ℕ) → (happen event m).said ≡ m.said
    → Stands image m.history ⊎ Stands image (happen event m).history → text ≡ before ++ m.said → IsLeftBy (event ∷ events) before m image text
left_either event events before m image text silent stands same =
    elim stands as (λ _. IsLeftBy (event ∷ events) before m image text) [
      | inl old ↦ left_still (event ∷ events) before m image text old same
      | inr new ↦ left_second event events before m image text new
          (nothing_more (says_next events) (before ++ (happen event m).said) text (same ∙ ap (λ (l : List ℕ). before ++ l) (sym silent)))
    ]

-- a front of a reply is said
pub left_saying : (line : List ℕ) (plans : List Plan) (refuses : Bool) (events : List Event) (before : List ℕ) (m : Moment) (image : Image) (text : List ℕ) → Stands image m.history
    → IsFrontOf line (before ++ m.said) text → IsLeftBy (Replied line plans refuses ∷ events) before m image text
left_saying line plans refuses events before m image text stands said = left_first (Replied line plans refuses ∷ events) before m image text stands said

-- all events are done
pub left_last : (events : List Event) (before : List ℕ) (m : Moment) (image : Image) (text : List ℕ) → Stands image (behind events m).history → text ≡ before ++ (behind events m).said → IsLeftBy events before m image text
left_last events before m image text stands same = record {
  done = events;
  left = [];
  split = sym (append-nil events);
  stands = stands;
  said = nothing_more [] (before ++ (behind events m).said) text same;
}

-- one list of events, and then another
pub behind-append : (xs ys : List Event) (m : Moment) → behind (xs ++ ys) m ≡ behind ys (behind xs m)
behind-append [] ys m = refl
behind-append (x ∷ xs) ys m = behind-append xs ys (happen x m)

says_more : (left ys : List Event) (old text : List ℕ) → IsFrontOf (says_next left) old text → IsFrontOf (says_next (left ++ ys)) old text
says_more [] ys old text said = nothing_more (says_next ys) old text (said.1 ∙ ap (λ (l : List ℕ). old ++ l) (take-nil said.0) ∙ append-nil old)
says_more (x ∷ left) ys old text said = said

-- what is left by events is left by them with others behind
pub early : (xs ys : List Event) (before : List ℕ) (m : Moment) (image : Image) (text : List ℕ) → IsLeftBy xs before m image text → IsLeftBy (xs ++ ys) before m image text
early xs ys before m image text left = record {
  done = left.done;
  left = left.left ++ ys;
  split = ap (λ (l : List Event). l ++ ys) left.split ∙ append_assoc left.done left.left ys;
  stands = left.stands;
  said = says_more left.left ys (before ++ (behind left.done m).said) text left.said;
}

-- what is left by events behind others is left by all
pub onward : (xs ys : List Event) (before : List ℕ) (m : Moment) (image : Image) (text : List ℕ) → IsLeftBy ys before (behind xs m) image text → IsLeftBy (xs ++ ys) before m image text
onward xs ys before m image text left =
    let same : behind (xs ++ left.done) m ≡ behind left.done (behind xs m) = behind-append xs left.done m in
    record {
      done = xs ++ left.done;
      left = left.left;
      split = ap (λ (l : List Event). xs ++ l) left.split ∙ sym (append_assoc xs left.done left.left);
      stands = subst (λ (n : Moment). Stands image n.history) (sym same) left.stands;
      said = subst (λ (n : Moment). IsFrontOf (says_next left.left) (before ++ n.said) text) (sym same) left.said;
    }
