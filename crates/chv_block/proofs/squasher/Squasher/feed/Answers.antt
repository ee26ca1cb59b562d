use Rattle.std.proofs.Common.{refl, ◌∙◌, rules}
use Rattle.chv_block.proofs.PieceLemmas.{IsFed-short, IsFed-unclosed, IsFed-closed}
use Rattle.chv_block.proofs.squasher.Squasher.feed.Goals as goal

pub returns-then-self-clause-fed : goal.returns-then-self-clause-fed
returns-then-self-clause-fed c = λ sizes fed given held.
    IsFed-short sizes fed given c.args.self.now _ _ held refl c.in_ok-push.ensures.ok c.saturating_add-self.ensures refl c.if-self.true

pub returns-then-not-is_closed-clause-fed : goal.returns-then-not-is_closed-clause-fed
returns-then-not-is_closed-clause-fed c = λ sizes fed given held.
    IsFed-unclosed sizes fed given c.args.self.now _ _ c.is_closed.result held refl c.in_ok-push.ensures.ok c.saturating_add-self.ensures refl c.if-self.false
    c.is_closed.ensures (search rules)

pub returns-clause-fed : goal.returns-clause-fed
returns-clause-fed c = λ sizes fed given held.
    rw c.replace.ensures.value
    (IsFed-closed sizes fed given c.args.self.now _ _ c.push.new.self c.saturating_add-self.result c.is_closed.result held c.in_ok-push.ensures.ok c.saturating_add-self.ensures
    c.if-self.false c.is_closed.ensures (search rules) refl (c.replace.ensures.after ∙ c.new.ensures) refl refl)
