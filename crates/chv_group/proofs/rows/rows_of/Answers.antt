use Rattle.std.proofs.Common.{◌≡◌, ◌∷◌, List, map, nat_eq, subst}
use Rattle.std.proofs.lemmas.List.Elements.{All-head, All-rest}
use Rattle.std.proofs.lemmas.Map.Keys.{IsDistinct-tail}
use Rattle.std.specs.List.{All}
use Rattle.chv_group.proofs.KeyLemmas.{all-same-kept, all-states-kept, placed-step}
use Rattle.chv_group.specs.Keys.{AreApart, HasStates, states_at}
use Rattle.chv_group.specs.declared.placed_key.PlacedKey.{PlacedKey}
use Rattle.chv_group.proofs.rows.rows_of.Goals as goal

pub loop-key-preserved : goal.loop-key-preserved
loop-key-preserved c =
    let calls = c.args.calls.now in
    let whole = c.args.tallies.items in
    let old = c.loop-key.tallies.items in
    let new = c.row_for.new.tallies.items in
    let key : PlacedKey = c.in-Some.key in
    let left : List PlacedKey = c.loop-key.left.items in
    let rest : List PlacedKey = c.pop_front.new.self.items in
    let is : left ≡ key ∷ rest = c.in-Some.ensures.items in
    let apart : AreApart (key ∷ rest) = subst AreApart is c.loop-key.invariant.apart in
    let same : All (λ (one : PlacedKey). states_at calls old one ≡ states_at calls whole one) (key ∷ rest) =
    subst (All (λ (one : PlacedKey). states_at calls old one ≡ states_at calls whole one)) is c.loop-key.invariant.same in
    record {
      so_far =
          placed-step calls old whole left rest key c.loop-key.rows.items c.push.new.self.items _ c.in_ok-row_for.field-0 is c.in_ok-row_for.ensures.row c.in_ok-push.ensures.items
          (All-head (λ (one : PlacedKey). states_at calls old one ≡ states_at calls whole one) key rest same) c.loop-key.invariant.so_far;
      apart = IsDistinct-tail nat_eq key.place (map (λ (one : PlacedKey). one.place) rest) apart;
      states =
          all-states-kept calls old new key rest apart c.in_ok-row_for.ensures.others c.in_ok-row_for.ensures.size
          (All-rest (HasStates calls old) key rest left is c.loop-key.invariant.states);
      same =
          all-same-kept calls old new whole key rest apart c.in_ok-row_for.ensures.others
          (All-rest (λ (one : PlacedKey). states_at calls old one ≡ states_at calls whole one) key rest left is c.loop-key.invariant.same);
    }
