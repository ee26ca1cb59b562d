-- What commits say one behind the other.
use Rattle.std.proofs.Common.{◌≡◌, ◌++◌, ◌∷◌, [], ◌∙◌, ℕ, List, Option, None, Some, sym, ap, refl}
use Rattle.chv_commit.specs.Replays.{State, at_place, taken, replayed}
use Rattle.chv_commit.specs.declared.commit.Commit.{Commit}

-- something comes of a place only where there is one
pub at_place-Some : {A B : Type 0} (o : Option A) (f : A → Option B) (y : B) → at_place o f ≡ Some y → (x : A) × (o ≡ Some x) × (f x ≡ Some y)
at_place-Some None f y e = cc
at_place-Some (Some x) f y e = (x, refl, e)

at_place-at_place : {A B C : Type 0} (o : Option A) (f : A → Option B) (g : B → Option C) (h : A → Option C)
    → ((x : A) → h x ≡ at_place (f x) g) → at_place o h ≡ at_place (at_place o f) g
at_place-at_place None f g h same = refl
at_place-at_place (Some x) f g h same = same x

-- commits behind others are taken where those left off
pub replayed-append_more : (window : ℕ) (state : State) (commits more : List Commit)
    → replayed window state (commits ++ more) ≡ at_place (replayed window state commits) (λ next. replayed window next more)
replayed-append_more window state [] more = refl
replayed-append_more window state (commit ∷ commits) more =
    at_place-at_place (taken window state commit) (λ next. replayed window next commits) (λ next. replayed window next more)
    (λ next. replayed window next (commits ++ more))
    (λ next. replayed-append_more window next commits more)

at_place-itself : {A : Type 0} (o : Option A) → at_place o (λ x. Some x) ≡ o
at_place-itself None = refl
at_place-itself (Some x) = refl

-- one commit behind others is taken where those left off
pub replayed-append : (window : ℕ) (state : State) (commits : List Commit) (commit : Commit)
    → replayed window state (commits ++ commit ∷ []) ≡ at_place (replayed window state commits) (λ next. taken window next commit)
replayed-append window state commits commit =
    replayed-append_more window state commits (commit ∷ [])
    ∙ ap (at_place (replayed window state commits)) (λ k next. at_place-itself (taken window next commit) k)

-- commits that fit, and one more that fits behind them
pub replayed-more : (window : ℕ) (state middle end : State) (commits : List Commit) (commit : Commit)
    → replayed window state commits ≡ Some middle → taken window middle commit ≡ Some end → replayed window state (commits ++ commit ∷ []) ≡ Some end
replayed-more window state middle end commits commit before one =
    replayed-append window state commits commit ∙ ap (λ (o : Option State). at_place o (λ next. taken window next commit)) before ∙ one

-- commits that fit, and more that fit behind them
pub replayed-then : (window : ℕ) (state middle end : State) (commits more : List Commit)
    → replayed window state commits ≡ Some middle → replayed window middle more ≡ Some end → replayed window state (commits ++ more) ≡ Some end
replayed-then window state middle end commits more before behind =
    replayed-append_more window state commits more ∙ ap (λ (o : Option State). at_place o (λ next. replayed window next more)) before ∙ behind

-- where commits fit, the first of them fit
pub replayed-front : (window : ℕ) (state end : State) (commits more : List Commit) → replayed window state (commits ++ more) ≡ Some end
    → (middle : State) × (replayed window state commits ≡ Some middle) × (replayed window middle more ≡ Some end)
replayed-front window state end commits more e =
    at_place-Some (replayed window state commits) (λ next. replayed window next more) end (sym (replayed-append_more window state commits more) ∙ e)
