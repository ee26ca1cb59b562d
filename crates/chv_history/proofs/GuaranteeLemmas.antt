-- Whatever a crash within a run leaves, clients can rely on.
use Rattle.std.proofs.Common.{◌≡◌, inl, inr, ℕ, ◌+◌, ◌≤◌, ◌<◌, Bool, false, List, [], ◌∷◌, ◌++◌, length, take, refl, sym, ap, subst, ◌∙◌, arith, append_assoc}
use Rattle.std.specs.Prelude.{codes, decimal}
use Rattle.std.proofs.lemmas.Bool.{cases_lt}
use Rattle.std.proofs.lemmas.List.{append_cancel_right, length-append, length-take, take_all}
use Rattle.chv_site.specs.Files.{IsFrontOf}
use Rattle.chv_site.specs.Images.{Image}
use Rattle.chv_text.specs.Replies.{insert_line, line_to}
use Rattle.chv_history.specs.Acknowledged.{IsAcknowledged}
use Rattle.chv_history.specs.Crashes.{IsLeftBy, says_next}
use Rattle.chv_history.specs.Events.{Event, Created, Committed, Replied, Plan, Moment, begins, behind, happen}
use Rattle.chv_history.specs.Guarantees.{HoldsAll, IsLeftWhole, IsSaidOk}
use Rattle.chv_history.specs.Histories.{History, IsLawful, Stands}
use Rattle.chv_history.specs.Runs.{run_events}
use Rattle.chv_history.specs.Script.{Request, AreFormed}
use Rattle.chv_history.proofs.AcknowledgedLemmas.{acknowledged_or_next, holding_behind, holding_none}
use Rattle.chv_history.proofs.LeftLemmas.{behind-append, nothing_more}
use Rattle.chv_history.proofs.LookupLemmas.{schema-filling}
use Rattle.chv_history.proofs.SpacedLemmas.{contributions_spaced}
use Rattle.chv_history.proofs.WholeLemmas.{arriving_behind, brought_behind, whole_behind}

-- events are cut where the text ends: not all was said of what the next event says
record IsCut (events : List Event) (before : List ℕ) (first : Moment) (image : Image) (text : List ℕ) : Type 0 where
  left : IsLeftBy events before first image text
  short : 1 ≤ length (says_next left.left) → length text < length (before ++ (behind left.done first).said) + length (says_next left.left)

module _ (events : List Event) (before : List ℕ) (first : Moment) (image : Image) (text : List ℕ) where
  -- the next event says nothing, or there is none
  cut_silent : (done left : List Event) → events ≡ done ++ left → Stands image (behind done first).history → IsFrontOf (says_next left) (before ++ (behind done first).said) text → says_next left ≡ []
      → IsCut events before first image text
  cut_silent done left split stands said silent = record {
    left = record { done = done; left = left; split = split; stands = stands; said = said };
    short = λ some. absurd (omega (arith, some, ap length silent));
  }

  -- a reply was said to its end: it is done
  cut_behind : (done left : List Event) (line : List ℕ) (plans : List Plan) (refuses : Bool) → events ≡ done ++ Replied line plans refuses ∷ left → Stands image (behind done first).history
      → text ≡ (before ++ (behind done first).said) ++ line → IsCut events before first image text
  cut_behind done left line plans refuses split stands said =
      let reply = Replied line plans refuses in
      let next : behind (done ++ reply ∷ []) first ≡ happen reply (behind done first) = behind-append done (reply ∷ []) first in
      let whole : text ≡ before ++ (behind (done ++ reply ∷ []) first).said = said ∙ append_assoc before (behind done first).said line ∙ ap (λ (m : Moment). before ++ m.said) (sym next) in
      record {
        left = record {
          done = done ++ reply ∷ [];
          left = left;
          split = split ∙ sym (append_assoc done (reply ∷ []) left);
          stands = subst (λ (m : Moment). Stands image m.history) (sym next) stands;
          said = nothing_more (says_next left) (before ++ (behind (done ++ reply ∷ []) first).said) text whole;
        };
        short = λ some. omega (arith, some, ap length whole);
      }

  cut_reply : (done left : List Event) (line : List ℕ) (plans : List Plan) (refuses : Bool) → events ≡ done ++ Replied line plans refuses ∷ left → Stands image (behind done first).history
      → IsFrontOf line (before ++ (behind done first).said) text → IsCut events before first image text
  cut_reply done left line plans refuses split stands said =
      let old = before ++ (behind done first).said in
      elim (cases_lt said.0 (length line)) as (λ _. IsCut events before first image text) [
        | inl short ↦
            let long : length text ≡ length old + length (take said.0 line) = ap length said.1 ∙ length-append old (take said.0 line) in
            record {
              left = record { done = done; left = Replied line plans refuses ∷ left; split = split; stands = stands; said = said };
              short = λ some. omega (arith, short, long, length-take said.0 line);
            }
        | inr whole ↦ cut_behind done left line plans refuses split stands (said.1 ∙ ap (λ (l : List ℕ). old ++ l) (take_all said.0 line whole))
      ]

  cut_at : (done left : List Event) → events ≡ done ++ left → Stands image (behind done first).history → IsFrontOf (says_next left) (before ++ (behind done first).said) text → IsCut events before first image text
  cut_at done [] split stands said = cut_silent done [] split stands said refl
  cut_at done (Created accepted ∷ left) split stands said = cut_silent done (Created accepted ∷ left) split stands said refl
  cut_at done (Committed table arrivals ∷ left) split stands said = cut_silent done (Committed table arrivals ∷ left) split stands said refl
  cut_at done (Replied line plans refuses ∷ left) split stands said = cut_reply done left line plans refuses split stands said

  -- so a reply that was said to its end is among the events that are done
  acknowledged_before : (cut : IsCut events before first image text) (xs ys : List Event) (line : List ℕ) (plans : List Plan) (refuses : Bool) → events ≡ xs ++ Replied line plans refuses ∷ ys
      → 1 ≤ length line → length (before ++ (behind xs first).said) + length line ≤ length text → IsAcknowledged plans (behind cut.left.done first)
  acknowledged_before cut xs ys line plans refuses split some whole =
      let done = cut.left.done in
      let left = cut.left.left in
      elim (acknowledged_or_next xs ys done left first before text line plans refuses (sym split ∙ cut.left.split) cut.left.said some whole) as (λ _. IsAcknowledged plans (behind done first)) [
        | inl is ↦ is
        | inr next ↦
            let same : xs ≡ done = append_cancel_right xs done (Replied line plans refuses ∷ ys) (sym split ∙ cut.left.split ∙ ap (λ (l : List Event). done ++ l) next) in
            let short : 1 ≤ length line → length text < length (before ++ (behind done first).said) + length line =
            subst (λ (l : List Event). 1 ≤ length (says_next l) → length text < length (before ++ (behind done first).said) + length (says_next l)) next cut.short in
            absurd (omega (arith, short some, whole, ap (λ (d : List Event). length (before ++ (behind d first).said)) same))
      ]

-- a line has its line feed
ends_some : (line : List ℕ) (byte : ℕ) → 1 ≤ length (line ++ byte ∷ [])
ends_some line byte = omega (arith, length-append line (byte ∷ []))

line_to-some : (client : ℕ) (text : List ℕ) → 1 ≤ length (line_to client text)
line_to-some client text = ends_some (codes "@" ++ decimal client ++ codes " " ++ text) 10

insert_line-some : (client written skipped : ℕ) → 1 ≤ length (insert_line client written skipped)
insert_line-some client written skipped =
    line_to-some client (codes "Ok. " ++ decimal written ++ codes " written, " ++ decimal skipped ++ codes " skipped")

-- what the events of a run leave is left whole
module _ (requests : List Request) (history : History) (lawful : IsLawful history) (formed : AreFormed requests) where
  abbrev first : Moment
  first = begins history

  holds_all : (done left : List Event) → run_events requests first ≡ done ++ left → HoldsAll history done (behind done first)
  holds_all done left split =
      let held = holding_behind requests first done left (schema-filling history.schema lawful.schema) (holding_none first refl) split in
      let both = arriving_behind requests first done left lawful formed refl split in
      record {
        held = held;
        whole = λ apart tokens. whole_behind done history (behind done first) refl apart tokens held (brought_behind requests first done left refl split) both.0 both.1;
        spaced = contributions_spaced (behind done first).history both.0;
      }

  pub left_whole : (before : List ℕ) (image : Image) (text : List ℕ) → IsLeftBy (run_events requests first) before first image text → IsLeftWhole requests history before image text
  left_whole before image text left =
      let events = run_events requests first in
      let cut = cut_at events before first image text left.done left.left left.split left.stands left.said in
      record {
        left = cut.left;
        told = λ plan ok.
            acknowledged_before events before first image text cut ok.earlier ok.later (insert_line ok.client ok.written ok.skipped) (plan ∷ []) false ok.split
            (insert_line-some ok.client ok.written ok.skipped) ok.reaches;
        holds = holds_all cut.left.done cut.left.left cut.left.split;
      }
