-- The message of sound numbers for which there is room: its parts, one after the other.
use Prim.Native.Nat.{ℕ, ◌+◌, ◌≤◌}
use mathlib.Core.Path.{◌≡◌, refl, sym, ap, subst, ◌∙◌}
use mathlib.Core.Bool.{Bool, false}
use mathlib.Core.List.{List}
use native.Mathlib.Nat.{zero-add}
use native.Mathlib.Omega.{arith}
use lib.ListN.{length, get_or}
use lib.Seq.{sets, length-sets}
use Rattle.std.specs.Prelude.{Result, Ok}
use Rattle.rfc.specs.Message.{options_layout, payload_layout}
use Rattle.refusal.specs.Answer.{given, written}
use Rattle.refusal.specs.declared.Refusal.{Refusal}
use Rattle.placing.specs.Put.{Put}
use Rattle.packet.specs.Packet.{Stores, bytes_of}
use Rattle.packet.specs.Meaning.{meaning}
use Rattle.judging.specs.Judge.{lengths_of}
use Rattle.judging.proofs.Ranges.{range_exactly}
use Rattle.laying.specs.Laying.{laid, LaysHeader, LaysPayload}
use Rattle.laying.proofs.Laid.{lays_given, lays_put}
use Rattle.writing.specs.Writing.{sent, bytes_written}
use Rattle.writing.proofs.Sizes.{message_length}
use Rattle.writing.proofs.Parts.{head_kept, options_within, last_given, whole}
use Rattle.unflat.specs.Unflat.{bad_head, header_in, range_at, packet_in}
use Rattle.flat_measuring.specs.FlatMeasuring.{Sound, sent_in}
use Rattle.flat_measuring.proofs.Sent.{sent_is}
use Rattle.flat_measuring.proofs.Places.{places}
use Rattle.flat_writing.specs.Loosely.{Like, Loosely}
use Rattle.flat_writing.proofs.Loosely.{like_put, like_end}

module _ (strict : Bool) (s : Stores) (l old : List ℕ) (k : Sound (lengths_of s) l) (room : length (bytes_written strict s (packet_in l)) ≤ length old) where
  token_room : 4 + length (bytes_of s (range_at l 4)) ≤ length (bytes_written strict s (packet_in l))
  unfolding packet_in
  token_room = omega (arith, message_length (meaning s (sent strict (packet_in l))))

  module _ (token : List ℕ) (t : token ≡ bytes_of s (range_at l 4)) where
    -- What `put_head` asks.
    pub head_fits : (11 ≤ length l) × (bad_head l ≡ false) × (get_or l 0 0 ≤ 3) × (length token ≡ get_or l 6 0) × (get_or l 6 0 ≤ 15) × (4 + length token ≤ length old)
    head_fits =
        let p = places (lengths_of s) l k in
        (p.head, p.fields, p.version, ap length t ∙ range_exactly s (range_at l 4) p.token, p.token_length, omega (arith, room, token_room, ap length t))

    module _ (first : ℕ) (mid : List ℕ) (h : LaysHeader (header_in l) token old (Ok first) mid) where
      head : LaysHeader (packet_in l).header (meaning s (sent strict (packet_in l))).token old (Ok first) mid
      unfolding packet_in
      head = subst (λ (x : List ℕ). LaysHeader (header_in l) x old (Ok first) mid) t h

      -- The options end within the message, and there is room for all of it.
      pub options_fit : (first + length (options_layout 0 (meaning s (packet_in l)).options) ≤ length (bytes_written strict s (packet_in l))) × (length (bytes_written strict s (packet_in l)) ≤ length mid)
      options_fit =
          let kept = head_kept strict s (packet_in l) old k.packet room (Ok first) first mid head refl in
          (options_within strict s (packet_in l) old k.packet room (Ok first) first mid head refl, omega (arith, room, kept))

      module _ (out : List ℕ) (next : ℕ) (o : Loosely mid first (options_layout 0 (meaning s (packet_in l)).options) (length (bytes_written strict s (packet_in l))) next out) (payload : List ℕ) (y : payload ≡ bytes_of s (sent_in strict l)) where
        payload_is : payload ≡ (meaning s (sent strict (packet_in l))).payload
        payload_is = y ∙ ap (bytes_of s) (sym (sent_is strict l))

        -- The output that holds the options and is otherwise as it was.
        abbrev exact : List ℕ
        exact = sets mid first (options_layout 0 (meaning s (packet_in l)).options)

        options_put : Put mid first (options_layout 0 (meaning s (packet_in l)).options) next exact
        options_put = record { next = o.next; out = refl }

        same : length out ≡ length exact
        same = o.kept ∙ sym (length-sets mid first (options_layout 0 (meaning s (packet_in l)).options))

        exact_fits : laid (length exact) next (payload_layout payload) ≡ given (length (payload_layout payload))
        exact_fits =
            subst (λ (x : List ℕ). laid (length exact) next (payload_layout x) ≡ given (length (payload_layout x))) (sym payload_is)
            (last_given strict s (packet_in l) old k.packet room (Ok first) first mid head refl exact next options_put)

        -- The payload is laid, and then all is put: nothing is loose any more.
        pub payload_fits : laid (length out) next (payload_layout payload) ≡ given (length (payload_layout payload))
        payload_fits = rw same exact_fits

        exactly : Put old 0 (bytes_written strict s (packet_in l)) (next + length (payload_layout payload)) (sets exact next (payload_layout payload))
        exactly =
            let bytes = payload_layout payload in
            let laid-there = lays_given _ next bytes exact (length bytes) (sets exact next bytes) exact_fits refl in
            whole strict s (packet_in l) old k.packet room (Ok first) first mid head refl exact next options_put (Ok (length bytes)) (length bytes) (sets exact next bytes)
            (subst (λ (x : List ℕ). LaysPayload x next exact (Ok (length bytes)) (sets exact next bytes)) payload_is laid-there) refl

        pub message_put : (final : Result ℕ Refusal) (n : ℕ) (new : List ℕ) → LaysPayload payload next out final new → written final ≡ given n → Put old 0 (bytes_written strict s (packet_in l)) (next + n) new
        message_put final n new m v =
            let bytes = payload_layout payload in
            let end = length (bytes_written strict s (packet_in l)) in
            let p = lays_put _ next bytes out final n new payload_fits m v in
            let ends : next + length bytes ≡ end = exactly.next ∙ zero-add end in
            let fits : end ≤ length out = omega (arith, room, o.kept, options_fit.1) in
            let like : Like end end (sets out next bytes) (sets exact next bytes) = rw ends at (like_put out exact next bytes end o.like (omega (arith, ends)) fits same) in
            record { next = p.next ∙ exactly.next; out = p.out ∙ (like_end end _ _ like ∙ exactly.out) }
