use Rattle.std.proofs.Common.{◌≡◌, ◌++◌, ◌∷◌, ◌∙◌, [], List, OnOk, map, ap, ap₂, subst}
use Rattle.chv_group.specs.Takings.{HasTaken}
use Rattle.chv_group.specs.declared.call.Keyed.{Keyed}
use Rattle.chv_types.specs.Values.{seen_value}
use Rattle.chv_types.specs.declared.value.Value.{Value}
use Rattle.chv_group.proofs.grouping.feed_input.Goals as goal

-- a key with arguments
abbrev keyed : List Value → List Value → Keyed
keyed key args = record { key = key; args = args }

pub returns-clause-taken : goal.returns-clause-taken
returns-clause-taken c =
    let key : map seen_value c.as_slice.result.now ≡ c.args.input.now.key = ap (map seen_value) c.as_slice.ensures.value ∙ c.in_ok-key.ensures in
    let args : map seen_value c.as_slice-2.result.now ≡ c.args.input.now.args = ap (map seen_value) c.as_slice-2.ensures.value ∙ c.in_ok-args.ensures in
    let input : keyed (map seen_value c.as_slice.result.now) (map seen_value c.as_slice-2.result.now) ≡ keyed c.args.input.now.key c.args.input.now.args = ap₂ keyed key args in
    subst (λ (one : Keyed). OnOk c.feed.result ((taken : List Keyed) → HasTaken c.args.grouping.now taken → HasTaken c.feed.new.self (taken ++ one ∷ []))) input c.feed.ensures.taken
