use Rattle.chv_commit.specs.Replays.{no_state}
use Rattle.chv_commit.proofs.SoundLemmas.{IsSound-no_state, IsSound-replayed}
use Rattle.chv_commit.proofs.laws.law_replay_is_sound.Goals as goal

pub returns : goal.returns
returns c = λ window commits state. IsSound-replayed window no_state state commits IsSound-no_state
