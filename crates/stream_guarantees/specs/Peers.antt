-- Peers as text: what is put is read back, and no two peers have one text.
use Rattle.std.specs.Prelude.{ℕ, ◌≤◌, ◌≡◌, List, length, take, Result, Ok}
use Rattle.ground.specs.Part.{Bytes}
use Rattle.refusal.specs.declared.Refusal.{Refusal}
use Rattle.placing.specs.Put.{Puts}
use Rattle.peers.specs.Text.{peer_text}
use Rattle.peer_reading.specs.Reading.{peer_in, peer_of, ReadsPeer}
use Rattle.guarantees.specs.Apart.{TellsApart}

-- A peer: 18 bytes.
pub record IsPeer (p : List ℕ) : Type 0 where
  pub size : length p ≡ 18
  pub bytes : Bytes p

-- What is put of a peer at the front of an output that has room is read back as that peer.
abbrev pub PutThenRead : Type 0
PutThenRead =
    (p : List ℕ) → IsPeer p → (old : List ℕ) (n : ℕ) (new : List ℕ) → length (peer_text p) ≤ length old → Puts old 0 (peer_text p) n new
    → (r : Result (List ℕ) Refusal) → ReadsPeer (peer_in (take n new)) r → r ≡ Ok p

-- No two peers have one text.
abbrev pub OnePeer : Type 0
OnePeer = (p q : List ℕ) → IsPeer p → IsPeer q → peer_text p ≡ peer_text q → p ≡ q

-- The definition that a promise of peers tells its answer by tells answers apart.
pub record ToldApart : Type 0 where
  pub peers_read : TellsApart peer_of
