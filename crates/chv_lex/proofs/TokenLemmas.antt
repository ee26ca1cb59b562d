-- A piece, from one token to the next.
use Rattle.std.proofs.Common.{◌≡◌, inl, inr, ℕ, ◌+◌, ◌<◌, ◌≤◌, List, [], ◌∷◌, ◌++◌, length, take, drop, refl, ap, sym, subst, ◌∙◌, arith, append_assoc, length-append}
use Rattle.std.proofs.lemmas.List.{append-nil, drop_at, drop_all, drop-drop, length-drop, length-take-le, take-append-drop}
use Rattle.std.proofs.lemmas.Option.{none-some, some_pair_parts}
use Rattle.std.specs.Prelude.{Option, Some, None, Err}
use Rattle.chv_ast.specs.declared.token.TokenKind.{TokenKind}
use Rattle.chv_lex.specs.declared.token.LexFault.{LexFault}
use Rattle.chv_lex.specs.declared.token.LexFault.TheVariants as faults
use Rattle.chv_lex.specs.declared.token.Token.{Token}
use Rattle.chv_lex.specs.Blanks.{blank_length}
use Rattle.chv_lex.specs.Reading.{token_length}
use Rattle.chv_lex.specs.Spellings.{IsToken}
use Rattle.chv_lex.specs.Tokens.{token_at, Cut, Done, Blank, Taken, IsBad, Stuck, Bad, BehindBlank, BehindToken, Takes, AreSpaced, GivesTokens, GivesBadToken, IsFaultAt, IsFaultOf}
use Rattle.chv_lex.proofs.BlankLemmas.{blank_within}
use Rattle.chv_lex.proofs.SpellingLemmas.{Found, found, IsFound, again}

-- ---- one token

pub token_taken : (text : List ℕ) (kind : TokenKind) (n : ℕ) → token_length text ≡ Some (kind, n)
    → (0 < n) × (n ≤ length text) × IsToken kind (take n text) (drop n text)
token_taken text kind n is = subst (λ (o : Option (TokenKind × ℕ)). Found text o) is (found text)

pub token_none : (text : List ℕ) → token_length text ≡ None → (kind : TokenKind) (spelling behind : List ℕ) → text ≡ spelling ++ behind → IsToken kind spelling behind → ⊥
token_none text none kind spelling behind split is =
    none-some (kind, length spelling) (sym none ∙ ap token_length split ∙ (again kind spelling behind is).read)

-- a token at the front of a text
at_front : (text : List ℕ) (kind : TokenKind) (spelling behind : List ℕ) → text ≡ spelling ++ behind → IsToken kind spelling behind → IsFound kind text (length spelling)
at_front text kind spelling behind split is = subst (λ (l : List ℕ). IsFound kind l (length spelling)) (sym split) (again kind spelling behind is)

-- ---- white space and comments

blank_back : (at : ℕ) (text : List ℕ) (tokens : List Token) → 0 < blank_length text → Cut at text tokens → Cut (at + blank_length text) (drop (blank_length text) text) tokens
blank_back at text tokens some (Done _) = absurd (omega (arith, some))
blank_back at text tokens some (Blank _ _ _ _ cut) = cut
blank_back at text tokens some (Taken _ kind _ spelling behind _ split is cut) =
    absurd (omega (arith, some, (at_front text kind spelling behind split is).no_blank))

blank_back_stuck : (at : ℕ) (text : List ℕ) (place : ℕ) → 0 < blank_length text → Stuck at text place → Stuck (at + blank_length text) (drop (blank_length text) text) place
blank_back_stuck at text place some (Bad _ _ is) = absurd (omega (arith, some, is.no_blank))
blank_back_stuck at text place some (BehindBlank _ _ _ _ stuck) = stuck
blank_back_stuck at text place some (BehindToken _ kind _ spelling behind _ split is stuck) =
    absurd (omega (arith, some, (at_front text kind spelling behind split is).no_blank))

-- ---- a token of so many bytes

-- it is the only one
pub record IsSame (n : ℕ) (kind : TokenKind) (text : List ℕ) (other : TokenKind) (spelling behind : List ℕ) : Type 0 where
  pub kind_is : other ≡ kind
  pub size_is : length spelling ≡ n
  pub behind_is : behind ≡ drop n text

same_token : (text : List ℕ) (kind : TokenKind) (n : ℕ) (other : TokenKind) (spelling behind : List ℕ) → token_length text ≡ Some (kind, n)
    → text ≡ spelling ++ behind → IsToken other spelling behind → IsSame n kind text other spelling behind
same_token text kind n other spelling behind read split is =
    let parts = some_pair_parts other kind (length spelling) n (sym (at_front text other spelling behind split is).read ∙ read) in
    record {
      kind_is = parts.0;
      size_is = parts.1;
      behind_is = sym (ap (λ (l : List ℕ). drop n l) split ∙ drop_at spelling behind n parts.1);
    }

-- what is cut behind it
abbrev IsCutBehind : ℕ → List ℕ → TokenKind → ℕ → List Token → Type 0
IsCutBehind at text kind n tokens = (rest : List Token) × (tokens ≡ token_at at kind n ∷ rest) × Cut (at + n) (drop n text) rest

token_back : (at : ℕ) (text : List ℕ) (tokens : List Token) (kind : TokenKind) (n : ℕ) → token_length text ≡ Some (kind, n) → 0 < n → n ≤ length text → blank_length text ≡ 0
    → Cut at text tokens → IsCutBehind at text kind n tokens
token_back at text tokens kind n read some within plain (Done _) = absurd (omega (arith, some, within))
token_back at text tokens kind n read some within plain (Blank _ _ _ more cut) = absurd (omega (arith, more, plain))
token_back at text tokens kind n read some within plain (Taken _ other _ spelling behind rest split is cut) =
    let same = same_token text kind n other spelling behind read split is in (
      rest,
      ap (λ (k : TokenKind). token_at at k (length spelling) ∷ rest) same.kind_is ∙ ap (λ (k : ℕ). token_at at kind k ∷ rest) same.size_is,
      subst (λ (l : List ℕ). Cut (at + n) l rest) same.behind_is (subst (λ (k : ℕ). Cut (at + k) behind rest) same.size_is cut),
    )

token_back_stuck : (at : ℕ) (text : List ℕ) (place : ℕ) (kind : TokenKind) (n : ℕ) → token_length text ≡ Some (kind, n) → blank_length text ≡ 0
    → IsToken kind (take n text) (drop n text) → Stuck at text place → Stuck (at + n) (drop n text) place
token_back_stuck at text place kind n read plain is (Bad _ _ bad) = absurd (bad.no_token kind (take n text) (drop n text) (sym (take-append-drop n text)) is)
token_back_stuck at text place kind n read plain is (BehindBlank _ _ _ more stuck) = absurd (omega (arith, more, plain))
token_back_stuck at text place kind n read plain is (BehindToken _ other _ spelling behind _ split one stuck) =
    let same = same_token text kind n other spelling behind read split one in
    subst (λ (l : List ℕ). Stuck (at + n) l place) same.behind_is (subst (λ (k : ℕ). Stuck (at + k) behind place) same.size_is stuck)

pub token_on : (at : ℕ) (text : List ℕ) (rest : List Token) (kind : TokenKind) (n : ℕ) → n ≤ length text → IsToken kind (take n text) (drop n text)
    → Cut (at + n) (drop n text) rest → Cut at text (token_at at kind n ∷ rest)
token_on at text rest kind n within is cut =
    let size : length (take n text) ≡ n = length-take-le n text within in
    subst (λ (k : ℕ). Cut at text (token_at at kind k ∷ rest)) size
    (Taken at kind text (take n text) (drop n text) rest (sym (take-append-drop n text)) is (subst (λ (k : ℕ). Cut (at + k) (drop n text) rest) (sym size) cut))

token_on_stuck : (at : ℕ) (text : List ℕ) (place : ℕ) (kind : TokenKind) (n : ℕ) → n ≤ length text → IsToken kind (take n text) (drop n text)
    → Stuck (at + n) (drop n text) place → Stuck at text place
token_on_stuck at text place kind n within is stuck =
    let size : length (take n text) ≡ n = length-take-le n text within in
    BehindToken at kind text (take n text) (drop n text) place (sym (take-append-drop n text)) is (subst (λ (k : ℕ). Stuck (at + k) (drop n text) place) (sym size) stuck)

-- ---- the tokens so far

-- a piece is read up to a place: what is cut, and where a reading is stuck, is decided by what stands from there on
pub record IsReadUpTo (piece : List ℕ) (at : ℕ) (tokens : List Token) : Type 0 where
  pub within : at ≤ length piece
  pub on : (rest : List Token) → Cut at (drop at piece) rest → Cut 0 piece (tokens ++ rest)
  pub back : (all : List Token) → Cut 0 piece all → (rest : List Token) × (all ≡ tokens ++ rest) × Cut at (drop at piece) rest
  pub on_stuck : (place : ℕ) → Stuck at (drop at piece) place → Stuck 0 piece place
  pub back_stuck : (place : ℕ) → Stuck 0 piece place → Stuck at (drop at piece) place

pub none_read : (piece : List ℕ) → IsReadUpTo piece 0 []
none_read piece = record {
  within = omega arith;
  on = λ rest cut. cut;
  back = λ all cut. (all, refl, cut);
  on_stuck = λ place stuck. stuck;
  back_stuck = λ place stuck. stuck;
}

blank_read : (piece : List ℕ) (at : ℕ) (tokens : List Token) → 0 < blank_length (drop at piece) → blank_length (drop at piece) ≤ length (drop at piece)
    → IsReadUpTo piece at tokens → IsReadUpTo piece (at + blank_length (drop at piece)) tokens
blank_read piece at tokens some within read =
    let text = drop at piece in
    let n = blank_length text in
    let e : drop n text ≡ drop (at + n) piece = drop-drop n at piece in
    record {
      within = omega (arith, within, length-drop at piece, read.within);
      on = λ rest cut. read.on rest (Blank at text rest some (subst (λ (l : List ℕ). Cut (at + n) l rest) (sym e) cut));
      back = λ all cut.
          let so_far = read.back all cut in
          (so_far.0, so_far.1, subst (λ (l : List ℕ). Cut (at + n) l so_far.0) e (blank_back at text so_far.0 some so_far.2));
      on_stuck = λ place stuck. read.on_stuck place (BehindBlank at text place some (subst (λ (l : List ℕ). Stuck (at + n) l place) (sym e) stuck));
      back_stuck = λ place stuck. subst (λ (l : List ℕ). Stuck (at + n) l place) e (blank_back_stuck at text place some (read.back_stuck place stuck));
    }

token_read : (piece : List ℕ) (at : ℕ) (tokens : List Token) (kind : TokenKind) (n : ℕ) → 0 < n → n ≤ length (drop at piece) → blank_length (drop at piece) ≡ 0
    → IsToken kind (take n (drop at piece)) (drop n (drop at piece)) → IsReadUpTo piece at tokens → IsReadUpTo piece (at + n) (tokens ++ token_at at kind n ∷ [])
token_read piece at tokens kind n some within plain is read =
    let text = drop at piece in
    let token = token_at at kind n in
    let e : drop n text ≡ drop (at + n) piece = drop-drop n at piece in
    let size : length (take n text) ≡ n = length-take-le n text within in
    let found : token_length text ≡ Some (kind, n) =
    (at_front text kind (take n text) (drop n text) (sym (take-append-drop n text)) is).read ∙ ap (λ (k : ℕ). Some (kind, k)) size in
    record {
      within = omega (arith, within, length-drop at piece, read.within);
      on = λ rest cut. subst (λ (l : List Token). Cut 0 piece l) (sym (append_assoc tokens (token ∷ []) rest))
          (read.on (token ∷ rest) (token_on at text rest kind n within is (subst (λ (l : List ℕ). Cut (at + n) l rest) (sym e) cut)));
      back = λ all cut.
          let so_far = read.back all cut in
          let behind = token_back at text so_far.0 kind n found some within plain so_far.2 in (
            behind.0,
            so_far.1 ∙ ap (λ (l : List Token). tokens ++ l) behind.1 ∙ sym (append_assoc tokens (token ∷ []) behind.0),
            subst (λ (l : List ℕ). Cut (at + n) l behind.0) e behind.2,
          );
      on_stuck = λ place stuck. read.on_stuck place (token_on_stuck at text place kind n within is (subst (λ (l : List ℕ). Stuck (at + n) l place) (sym e) stuck));
      back_stuck = λ place stuck. subst (λ (l : List ℕ). Stuck (at + n) l place) e (token_back_stuck at text place kind n found plain is (read.back_stuck place stuck));
    }

-- one step
pub more_read : (piece text : List ℕ) (at n : ℕ) (old new : List Token) → text ≡ drop at piece → n ≤ length text → Takes at text n old new → IsReadUpTo piece at old → IsReadUpTo piece (at + n) new
more_read piece text at n old new is within takes read =
    let takes' = subst (λ (l : List ℕ). Takes at l n old new) is takes in
    let within' : n ≤ length (drop at piece) = subst (λ (l : List ℕ). n ≤ length l) is within in
    step within' takes'
  where
    step : n ≤ length (drop at piece) → Takes at (drop at piece) n old new → IsReadUpTo piece (at + n) new
    step inside (inl blank) =
        let small : blank_length (drop at piece) ≤ length (drop at piece) = omega (arith, inside, blank.1) in
        let some : 0 < blank_length (drop at piece) = omega (arith, blank.0, blank.1) in
        subst (λ (k : ℕ). IsReadUpTo piece (at + k) new) (sym blank.1)
        (blank_read piece at new some small (subst (λ (l : List Token). IsReadUpTo piece at l) (sym blank.2) read))
    step inside (inr token) =
        subst (λ (l : List Token). IsReadUpTo piece (at + n) l) (sym token.5)
        (token_read piece at old token.0 n token.1 token.2 token.3 token.4 read)

-- ---- the end

none_left : (at : ℕ) (tokens : List Token) (text : List ℕ) → text ≡ [] → Cut at text tokens → tokens ≡ []
none_left at tokens text empty (Done _) = refl
none_left at tokens text empty (Blank _ _ _ some cut) = absurd (omega (arith, some, ap blank_length empty))
none_left at tokens text empty (Taken _ kind _ spelling behind _ split is cut) =
    absurd (omega (arith, (at_front text kind spelling behind split is).some, ap length (sym empty ∙ split), length-append spelling behind))

never_stuck : (at : ℕ) (text : List ℕ) (place : ℕ) → text ≡ [] → Stuck at text place → ⊥
never_stuck at text place empty (Bad _ _ bad) = absurd (omega (arith, bad.some, ap length empty))
never_stuck at text place empty (BehindBlank _ _ _ some stuck) = absurd (omega (arith, some, ap blank_length empty))
never_stuck at text place empty (BehindToken _ kind _ spelling behind _ split is stuck) =
    absurd (omega (arith, (at_front text kind spelling behind split is).some, ap length (sym empty ∙ split), length-append spelling behind))

pub all_read : (piece : List ℕ) (at : ℕ) (tokens : List Token) → length piece ≤ at → IsReadUpTo piece at tokens → Cut 0 piece tokens
all_read piece at tokens over read =
    subst (λ (l : List Token). Cut 0 piece l) (append-nil tokens)
    (read.on [] (subst (λ (l : List ℕ). Cut at l []) (sym (drop_all at piece over)) (Done at)))

pub all_only : (piece : List ℕ) (at : ℕ) (tokens all : List Token) → length piece ≤ at → IsReadUpTo piece at tokens → Cut 0 piece all → tokens ≡ all
all_only piece at tokens all over read cut =
    let left = read.back all cut in
    sym (left.1 ∙ ap (λ (l : List Token). tokens ++ l) (none_left at left.0 (drop at piece) (drop_all at piece over) left.2) ∙ append-nil tokens)

pub all_unstuck : (piece : List ℕ) (at : ℕ) (tokens : List Token) (place : ℕ) → length piece ≤ at → IsReadUpTo piece at tokens → Stuck 0 piece place → ⊥
all_unstuck piece at tokens place over read stuck = never_stuck at (drop at piece) place (drop_all at piece over) (read.back_stuck place stuck)

-- ---- a bad token

bad_uncut : (at : ℕ) (text : List ℕ) (tokens : List Token) → IsBad text → Cut at text tokens → ⊥
bad_uncut at text tokens bad (Done _) = absurd (omega (arith, bad.some))
bad_uncut at text tokens bad (Blank _ _ _ some cut) = absurd (omega (arith, some, bad.no_blank))
bad_uncut at text tokens bad (Taken _ kind _ spelling behind _ split is cut) = bad.no_token kind spelling behind split is

bad_here : (at : ℕ) (text : List ℕ) (place : ℕ) → IsBad text → Stuck at text place → at ≡ place
bad_here at text place bad (Bad _ _ _) = refl
bad_here at text place bad (BehindBlank _ _ _ some stuck) = absurd (omega (arith, some, bad.no_blank))
bad_here at text place bad (BehindToken _ kind _ spelling behind _ split is stuck) = absurd (bad.no_token kind spelling behind split is)

bad_read : (piece text : List ℕ) (at : ℕ) (tokens : List Token) → text ≡ drop at piece → IsBad text → IsReadUpTo piece at tokens → Stuck 0 piece at
bad_read piece text at tokens is bad read = read.on_stuck at (subst (λ (l : List ℕ). Stuck at l at) is (Bad at text bad))

bad_only : (piece text : List ℕ) (at : ℕ) (tokens all : List Token) → text ≡ drop at piece → IsBad text → IsReadUpTo piece at tokens → Cut 0 piece all → ⊥
bad_only piece text at tokens all is bad read cut =
    let left = read.back all cut in bad_uncut at (drop at piece) left.0 (subst IsBad is bad) left.2

bad_place : (piece text : List ℕ) (at : ℕ) (tokens : List Token) (place : ℕ) → text ≡ drop at piece → IsBad text → IsReadUpTo piece at tokens → Stuck 0 piece place → at ≡ place
bad_place piece text at tokens place is bad read stuck = bad_here at (drop at piece) place (subst IsBad is bad) (read.back_stuck place stuck)

-- ---- the places of tokens

spaced_from : (from at end : ℕ) (tokens : List Token) → from ≤ at → AreSpaced at end tokens → AreSpaced from end tokens
spaced_from from at end [] before spaced = omega (arith, before, spaced)
spaced_from from at end (token ∷ tokens) before spaced = (omega (arith, before, spaced.0), spaced.1, spaced.2)

pub spaced : (at end : ℕ) (text : List ℕ) (tokens : List Token) → at + length text ≡ end → Cut at text tokens → AreSpaced at end tokens
spaced at end text tokens is (Done _) = omega (arith, is)
spaced at end text tokens is (Blank _ _ _ some cut) =
    let n = blank_length text in
    let small = blank_within text in
    spaced_from at (at + n) end tokens (omega arith) (spaced (at + n) end (drop n text) tokens (omega (arith, is, small, length-drop n text)) cut)
spaced at end text tokens is (Taken _ kind _ spelling behind rest split one cut) =
    let some = (at_front text kind spelling behind split one).some in (
      omega arith,
      omega (arith, some),
      spaced (at + length spelling) end behind rest (omega (arith, is, ap length split, length-append spelling behind)) cut,
    )

-- ---- what a fault says

pub fault_of : (piece text : List ℕ) (at : ℕ) (tokens : List Token) (fault : LexFault) → text ≡ drop at piece → IsReadUpTo piece at tokens → IsFaultAt at text fault → IsFaultOf piece fault
fault_of piece text at tokens (faults.BadToken place) is read bad = subst (λ (p : ℕ). Stuck 0 piece p) (sym bad.0) (bad_read piece text at tokens is bad.1 read)
fault_of piece text at tokens faults.NoMemory is read bad = tt

pub fault_only : (piece text : List ℕ) (at : ℕ) (tokens all : List Token) (fault : LexFault) → text ≡ drop at piece → IsReadUpTo piece at tokens → IsFaultAt at text fault → Cut 0 piece all → GivesTokens all (Err fault)
fault_only piece text at tokens all (faults.BadToken place) is read bad cut = bad_only piece text at tokens all is bad.1 read cut
fault_only piece text at tokens all faults.NoMemory is read bad cut = tt

pub fault_stuck : (piece text : List ℕ) (at : ℕ) (tokens : List Token) (place : ℕ) (fault : LexFault) → text ≡ drop at piece → IsReadUpTo piece at tokens → IsFaultAt at text fault → Stuck 0 piece place → GivesBadToken place (Err fault)
fault_stuck piece text at tokens place (faults.BadToken there) is read bad stuck = bad.0 ∙ bad_place piece text at tokens place is bad.1 read stuck
fault_stuck piece text at tokens place faults.NoMemory is read bad stuck = tt
