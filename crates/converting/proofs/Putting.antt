-- Putting the messages of a stream in another form: what is known before each, and how a turn goes.
use Prim.Native.Nat.{ℕ, ◌+◌, ◌-◌, ◌<◌, ◌≤◌}
use mathlib.Core.Path.{◌≡◌, sym, ap, subst, ◌∙◌}
use mathlib.Core.List.{List, []}
use native.Mathlib.Omega.{arith}
use lib.ListN.{length, take, drop}
use lib.Seq.{length-sets, take_at}
use Rattle.ground.proofs.Part.{put_front}
use Rattle.refusal.specs.Answer.{refused}
use Rattle.packet.specs.Limits.{full_size}
use Rattle.placing.specs.Put.{Put, Puts}
use Rattle.placing.proofs.Puts.{Putting, putting_start, putting_turn, putting_end, puts_whole}
use Rattle.stream.specs.declared.Form.{Form}
use Rattle.stream.specs.declared.Step.{Step}
use Rattle.std.specs.Prelude.{Result, Ok}
use Rattle.refusal.specs.declared.Refusal.{Refusal}
use Rattle.stream.specs.Stream.{Frozen, message_of, stream_of}
use Rattle.stream.specs.Answers.{step_read}
use Rattle.stream.proofs.Complete.{message_some}
use Rattle.stream.proofs.Left.{Left, left_start, left_none, First, left_first}
use Rattle.thawing.specs.Message.{NextMessage}
use Rattle.thawing.proofs.Message.{taken, never_refused}
use Rattle.converting.specs.Converting.{Convertible}

module _ (from to : Form) (s : List ℕ) where
  -- Before a message: once those that are left are put, all are. The array holds any datagram.
  pub record PutWalk (l : List Frozen) (old out array : List ℕ) (at place : ℕ) : Type 0 where
    pub rest : List Frozen
    pub left : Left from s at rest
    pub put : Putting old 0 (stream_of to l) out place (stream_of to rest)
    pub array_is : length array ≡ full_size

  pub put_start : (old array : List ℕ) → length array ≡ full_size → (g : Convertible from to s (length old)) → PutWalk g.messages old old array 0 0
  put_start old array a g =
      record { rest = g.messages; left = left_start from s g.messages g.are; put = putting_start old 0 (stream_of to g.messages); array_is = a }

  module _ (l : List Frozen) (old out array : List ℕ) (at place : ℕ) (w : PutWalk l old out array at place) where
    pub put_ends : length s ≤ at → length (stream_of to l) ≤ length old → Put old 0 (stream_of to l) place out
    put_ends h b =
        let z : w.rest ≡ [] = left_none from s at w.rest w.left h in
        puts_whole (putting_end w.put (ap (stream_of to) z)) (omega arith)

    module _ (h : at < length s) where
      abbrev pub first : First from s at w.rest
      first = left_first from s at w.rest w.left h

      fits : 0 + length first.message.datagram ≤ length array
      fits = omega (arith, w.array_is, first.sized.most)

      -- The step isn't refused.
      pub put_some {ℓ} : {C : Type ℓ} (r : Result Step Refusal) (newer : List ℕ) (k : ℕ) → NextMessage from s at array 0 r newer → step_read r ≡ refused k → C
      put_some r newer k n e = never_refused from s at w.rest first array 0 fits r newer k n e

      -- The message that the step gave: its datagram at the front of the array, its peer in the stream.
      pub record Given (len next : ℕ) (newer : List ℕ) : Type 0 where
        pub front : take len newer ≡ first.message.datagram
        pub count : length (take len newer) ≡ len
        pub within : len ≤ length newer
        pub size : length newer ≡ full_size
        pub peer : take (at + 19 - (at + 1)) (drop (at + 1) s) ≡ first.message.peer
        pub inside : at + 19 ≤ length s
        pub next_is : next ≡ at + length (message_of from first.message)
        pub onwards : at < next

      pub put_given : (r : Result Step Refusal) (len next : ℕ) (newer : List ℕ) → r ≡ Ok (record { len = len; next = next }) → NextMessage from s at array 0 r newer → Given len next newer
      put_given r len next newer e n =
          let d : List ℕ = first.message.datagram in
          let t = taken from s at w.rest first array 0 fits len next newer (rw e at n) in
          let z : length newer ≡ full_size = ap length t.out ∙ (length-sets array 0 d ∙ w.array_is) in
          let f : take len newer ≡ d = ap (take len) (t.out ∙ put_front array d (omega (arith, fits))) ∙ take_at d (drop (length d) array) len (sym t.len_is) in
          let k : at + 19 - (at + 1) ≡ 18 = omega arith in
          record {
            front = f;
            count = ap length f ∙ sym t.len_is;
            within = omega (arith, t.len_is, z, first.sized.most);
            size = z;
            peer = ap (λ (i : ℕ). take i (drop (at + 1) s)) k ∙ first.peer;
            inside = first.inside;
            next_is = t.next_is;
            onwards = omega (arith, t.next_is, message_some from first.message);
          }

      pub put_turn : (len next : ℕ) (newer newOut : List ℕ) (r : ℕ) (peer datagram : List ℕ) → (g : Given len next newer) → peer ≡ first.message.peer → datagram ≡ first.message.datagram
          → Puts out place (message_of to (record { peer = peer; datagram = datagram })) r newOut → PutWalk l old newOut newer next r
      put_turn len next newer newOut r peer datagram g p d q =
          let m : ◌≡◌ {A = Frozen} (record { peer = peer; datagram = datagram }) first.message =
          ap (λ (x : List ℕ). record { peer = x; datagram = datagram }) p ∙ ap (λ (x : List ℕ). record { peer = first.message.peer; datagram = x }) d in
          record {
            rest = first.others;
            left = rw g.next_is first.left;
            put = putting_turn w.put (ap (stream_of to) first.is) (subst (λ (x : Frozen). Puts out place (message_of to x) r newOut) m q);
            array_is = g.size;
          }
