-- A commit that is read is taken, and a payload of which no commit fits is damage.
use Rattle.std.proofs.Common.{◌∙◌, length, sym, ap, subst, arith}
use Rattle.chv_commit.specs.Commits.{commit_spelling}
use Rattle.chv_gate.specs.Reading.{Reads, GoesOn}
use Rattle.chv_gate.proofs.GateLogLemmas.{length-frame_of}
use Rattle.chv_gate.proofs.DamageLaws.{followed_unique}
use Rattle.chv_table.proofs.opening.take_commit.Goals as goal

pub returns-then-branch-clause-forward : goal.returns-then-branch-clause-forward
returns-then-branch-clause-forward g c =
    let read = c.in_ok-take_payload-in-Ok-Body.ensures.taken c.if-branch.true in
    let forward = subst (GoesOn c.args.gate) c.in-Ok-Body.field-0-is c.in-Ok-Body.ensures.forward in
    record {
      commit = read.0;
      fits = read.3;
      place = omega (arith, forward.1, length-frame_of c.in-Ok-Body.payload.items, ap length (sym c.deref.ensures.value ∙ read.2));
    }

pub returns-in-Ok-Body-clause-damaged : goal.returns-in-Ok-Body-clause-damaged
returns-in-Ok-Body-clause-damaged g c = λ tells damage is.
    let file = ((g.W.Site.outside c.args.site.now).files c.args.log).bytes in
    let payload = c.in-Ok-Body.payload.items in
    let read = subst (Reads c.args.gate file) c.in-Ok-Body.field-0-is (c.in-Ok-Body.ensures.read tells) in (
      cc is,
      record {
        opened = read.0;
        lacks = λ commit next right follows.
            let same = followed_unique c.args.gate next c.in-Ok-Body.next (commit_spelling commit) payload file follows read.1 in
            c.in_ok-take_payload-in-Ok-Body.ensures.lacks c.if-branch.false commit right (c.deref.ensures.value ∙ sym same);
      },
    )
