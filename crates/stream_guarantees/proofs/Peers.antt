-- Peers as text: read back as they were put.
use Prim.Native.Nat.{ℕ}
use mathlib.Core.Path.{◌≡◌, refl, sym, ap, ◌∙◌}
use mathlib.Core.List.{List}
use lib.ListN.{replicate}
use Rattle.std.specs.Prelude.{Ok}
use Rattle.refusal.specs.Answer.{given, beside}
use Rattle.refusal.proofs.Answers.{same_given}
use Rattle.placing.proofs.Puts.{puts_front}
use Rattle.peers.specs.Text.{peer_text}
use Rattle.peer_reading.specs.Reading.{peer_in, peer_of}
use Rattle.peer_reading.proofs.RoundTrip.{read_back}
use Rattle.stream_guarantees.specs.Peers.{IsPeer, PutThenRead, OnePeer, ToldApart}
use Rattle.guarantees.specs.Apart.{TellsApart}
use Rattle.guarantees.proofs.Refusals.{apart}

back : (p : List ℕ) → IsPeer p → peer_in (peer_text p) ≡ given p
back p i = read_back p i.size i.bytes

one_peer_read : TellsApart peer_of
one_peer_read = apart (List ℕ) peer_of (replicate 18 0) (record { value = λ v. refl; refusal = λ e. refl })

pub put_then_read : PutThenRead
put_then_read p i old n new room q r e =
    let k = e ∙ ap (beside (replicate 18 0)) (ap peer_in (puts_front q room) ∙ back p i) in
    one_peer_read r (Ok p) k

pub one_peer : OnePeer
one_peer p q i j e = same_given (sym (back p i) ∙ (ap peer_in e ∙ back q j))

pub told_apart : ToldApart
told_apart = record { peers_read = one_peer_read }
