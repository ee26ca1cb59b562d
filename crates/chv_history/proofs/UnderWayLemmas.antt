-- An insert under way: some of its deliveries are made, and the others are left.
use Rattle.std.proofs.Common.{◌≡◌, ℕ, List, [], ◌∷◌, ◌++◌, Option, All, refl, sym, subst, ◌∙◌, append_assoc}
use Rattle.std.proofs.lemmas.List.{append-nil}
use Rattle.std.proofs.lemmas.List.Elements.{All-head, All-nil, All-push, All-tail, All-weaker}
use Rattle.chv_ast.specs.declared.statement.Statement.{Statement}
use Rattle.chv_query.specs.Plans.{Delivery}
use Rattle.chv_history.specs.Events.{Plan}
use Rattle.chv_history.specs.Machine.{Client, asking}
use Rattle.chv_history.proofs.TurnLemmas.{bringing}

-- one fact holds of each delivery that is made, and one of each that is left
pub record IsUnderWay (Made Left : Delivery → Type 0) (work : Client) : Type 0 where
  pub made : Plan
  pub split : work.plan ≡ made ++ work.left
  pub are_made : All Made made
  pub are_left : All Left work.left

-- weaker facts do
pub under_way-weaker : (Made Left Made2 Left2 : Delivery → Type 0) → ((d : Delivery) → Made d → Made2 d) → ((d : Delivery) → Left d → Left2 d) → (work : Client) → IsUnderWay Made Left work → IsUnderWay Made2 Left2 work
under_way-weaker Made Left Made2 Left2 made left work is = record {
  made = is.made;
  split = is.split;
  are_made = All-weaker Made Made2 made is.made is.are_made;
  are_left = All-weaker Left Left2 left work.left is.are_left;
}

module _ (Made Left : Delivery → Type 0) where
  -- no insert is
  pub under_way-none : (asks : List (Option Statement)) → IsUnderWay Made Left (asking asks)
  under_way-none asks = record { made = []; split = refl; are_made = All-nil Made; are_left = All-nil Left }

  -- none of its deliveries is made yet
  pub under_way-planned : (asks : List (Option Statement)) (plan : Plan) → All Left plan → IsUnderWay Made Left (bringing asks plan)
  under_way-planned asks plan left = record { made = []; split = refl; are_made = All-nil Made; are_left = left }

  module _ (work : Client) (is : IsUnderWay Made Left work) where
    -- the first that is left
    pub under_way-first : (d : Delivery) (left : Plan) → work.left ≡ d ∷ left → Left d
    under_way-first d left left_is = All-head Left d left (subst (All Left) left_is is.are_left)

    -- it is made
    pub under_way-made : (d : Delivery) (left : Plan) (written : ℕ) → work.left ≡ d ∷ left → Made d → IsUnderWay Made Left (record work { left = left; written = written })
    under_way-made d left written left_is made = record {
      made = is.made ++ d ∷ [];
      split = subst (λ (l : Plan). work.plan ≡ is.made ++ l) left_is is.split ∙ sym (append_assoc is.made (d ∷ []) left);
      are_made = All-push Made is.made d is.are_made made;
      are_left = All-tail Left d left (subst (All Left) left_is is.are_left);
    }

    -- where none is left, all are made
    pub under_way-all : work.left ≡ [] → All Made work.plan
    under_way-all none = subst (All Made) (sym (subst (λ (l : Plan). work.plan ≡ is.made ++ l) none is.split ∙ append-nil is.made)) is.are_made
