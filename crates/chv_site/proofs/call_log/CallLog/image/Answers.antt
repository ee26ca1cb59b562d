use Rattle.std.proofs.Common.{reverse, sym, subst}
use Rattle.chv_site.specs.Images.{HasLengths}
use Rattle.chv_site.specs.Calls.{Kept}
use Rattle.chv_site.specs.Laws.{lengths_after}
use Rattle.chv_site.proofs.call_log.CallLog.image.Goals as goal

pub image-requires : goal.image-requires
image-requires c =
    subst (λ (k : Kept). HasLengths k.state) (sym (c.self.invariant.files c.args.f)) (lengths_after (reverse c.self.inside.calls.items) c.args.f)
