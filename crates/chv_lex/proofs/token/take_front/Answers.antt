use Rattle.std.proofs.Common.{inr, refl, sym, ◌∙◌, arith}
use Rattle.chv_lex.proofs.TokenLemmas.{token_taken, token_none}
use Rattle.chv_lex.proofs.token.take_front.Goals as goal

pub returns-in_ok-push-in-Some-clause-front : goal.returns-in_ok-push-in-Some-clause-front
returns-in_ok-push-in-Some-clause-front c =
    let kind = c.in-Some.kind in
    let n = c.in-Some.length in
    let taken = token_taken c.args.text.now kind n (sym c.token_length.ensures.value ∙ c.in-Some.is) in
    inr (kind, taken.0, taken.1, omega (arith, c.blank_length-blank.ensures.value, c.if-blank-gt0.false), taken.2, c.in_ok-push-in-Some.ensures.ok)

pub returns-in_ok-push-in-Some-clause-within : goal.returns-in_ok-push-in-Some-clause-within
returns-in_ok-push-in-Some-clause-within c =
    let taken = token_taken c.args.text.now c.in-Some.kind c.in-Some.length (sym c.token_length.ensures.value ∙ c.in-Some.is) in
    (taken.0, taken.1)

pub returns-in-None-clause-bad : goal.returns-in-None-clause-bad
returns-in-None-clause-bad c = (
  refl,
  record {
    some = c.requires.some;
    no_blank = omega (arith, c.blank_length-blank.ensures.value, c.if-blank-gt0.false);
    no_token = token_none c.args.text.now (sym c.token_length.ensures.value ∙ c.in-None.is);
  },
)
