-- What a packet means stays: over any datagram, and any edit store that begins with the live bytes.
use Prim.Native.Nat.{ℕ, ◌+◌, ◌≤◌}
use mathlib.Core.Path.{◌≡◌, refl, sym, ap, ◌∙◌}
use mathlib.Core.Bool.{false}
use mathlib.Core.List.{List, [], ◌∷◌, ◌++◌, map, append_assoc}
use native.Mathlib.Omega.{arith}
use lib.ListN.{length, length-append}
use lib.Seq.{take_at, drop_at}
use borrow.Author.Tests.{le-leb}
use Rattle.ground.proofs.Choice.{neither}
use Rattle.packet.specs.Packet.{Stores, stores, bytes_in, bytes_of, value_of, records_of}
use Rattle.packet.specs.Meaning.{option_of, meaning}
use Rattle.packet.specs.declared.Packet.{Packet}
use Rattle.packet.specs.declared.OptionRecord.{OptionRecord}
use Rattle.class.specs.Class.{byte_of}
use Rattle.header.specs.Header.{number_of_type}
use Rattle.judging.specs.Judge.{lengths_of, bad_value, bad_values}
use Rattle.judging.proofs.Good.{Good}
use Rattle.compacting.specs.Compacting.{values_of, live_bytes, values_length, relaid, relocated}
use Rattle.judging.proofs.Ranges.{range_exactly, value_exactly}
use Rattle.compacting.proofs.Live.{values_exactly}
use Rattle.compacting.proofs.Relaid.{relocated_records}

-- What stands between two parts of a store is named by their lengths.
bytes_between : (t a b c : List ℕ) (at len : ℕ) → t ≡ a ++ (b ++ c) → length a ≡ at → length b ≡ len → bytes_in t at len ≡ b
unfolding bytes_in
bytes_between t a b c at len e h k =
    let inside : at + len ≤ length t = omega (arith, ap length e, length-append a (b ++ c), length-append b c) in
    rw (le-leb (at + len) (length t) inside, e, drop_at a (b ++ c) at h) (take_at b c len k)

module _ (s : Stores) (d t : List ℕ) where
  -- Each record that is relaid has its value in a store where the values stand end to end.
  options_kept : (at : ℕ) (rs : List OptionRecord) (a c : List ℕ) → bad_values (lengths_of s) rs ≡ false → length a ≡ at → t ≡ a ++ (values_of s rs ++ c)
      → (map (option_of (stores d t)) (relaid at rs) ≡ map (option_of s) rs) × (values_of (stores d t) (relaid at rs) ≡ values_of s rs)
  options_kept at [] a c g h e = (refl, refl)
  options_kept at (r ∷ rs) a c g h e =
      let both = neither (bad_value (lengths_of s) r) (bad_values (lengths_of s) rs) g in
      let v = value_of s r in
      let n = value_exactly s r both.0 in
      let e₁ : t ≡ a ++ (v ++ (values_of s rs ++ c)) = e ∙ ap (λ (l : List ℕ). a ++ l) (append_assoc v (values_of s rs) c) in
      let e₂ : t ≡ (a ++ v) ++ (values_of s rs ++ c) = e₁ ∙ sym (append_assoc a v (values_of s rs ++ c)) in
      let value : bytes_in t at r.len ≡ v = bytes_between t a v (values_of s rs ++ c) at r.len e₁ h n in
      let more = options_kept (at + r.len) rs (a ++ v) c both.1 (length-append a v ∙ omega (arith, h, n)) e₂ in
      (λ k. record { number = r.number; value = value k } ∷ more.0 k, λ k. value k ++ more.1 k)

module _ (s : Stores) (p : Packet) (g : Good (lengths_of s) p) (used : length (records_of p) ≡ p.count) (d t rest : List ℕ) (e : t ≡ live_bytes s p ++ rest) where
  abbrev token : List ℕ
  token = bytes_of s p.token

  abbrev values : List ℕ
  values = values_of s (records_of p)

  abbrev payload : List ℕ
  payload = bytes_of s p.payload

  token_long : length token ≡ p.token.len
  token_long = range_exactly s p.token g.token

  whole : t ≡ token ++ (values ++ (payload ++ rest))
  whole = e ∙ (append_assoc token (values ++ payload) rest ∙ ap (λ (l : List ℕ). token ++ l) (append_assoc values payload rest))

  token_kept : bytes_in t 0 p.token.len ≡ token
  token_kept = bytes_between t [] token (values ++ (payload ++ rest)) 0 p.token.len whole refl token_long

  payload_kept : bytes_in t (p.token.len + values_length (records_of p)) p.payload.len ≡ payload
  payload_kept =
      bytes_between t (token ++ values) payload rest (p.token.len + values_length (records_of p)) p.payload.len
      (whole ∙ sym (append_assoc token values (payload ++ rest)))
      (length-append token values ∙ omega (arith, token_long, values_exactly s (records_of p) g.values))
      (range_exactly s p.payload g.payload)

  values_stay : (map (option_of (stores d t)) (relaid p.token.len (records_of p)) ≡ map (option_of s) (records_of p)) × (values_of (stores d t) (relaid p.token.len (records_of p)) ≡ values)
  values_stay = options_kept s d t p.token.len (records_of p) token (payload ++ rest) g.values token_long whole

  pub options_stay : map (option_of (stores d t)) (records_of (relocated p)) ≡ map (option_of s) (records_of p)
  options_stay = ap (map (option_of (stores d t))) (relocated_records p used) ∙ values_stay.0

  -- The meaning is the same.
  pub meaning_kept : meaning (stores d t) (relocated p) ≡ meaning s p
  meaning_kept =
      λ k. record {
        version = p.header.version;
        type = number_of_type p.header.message_type;
        code = byte_of p.header.code;
        id = p.header.message_id;
        token = token_kept k;
        options = options_stay k;
        payload = payload_kept k;
      }

  -- And so are the live bytes.
  pub live_kept : live_bytes (stores d t) (relocated p) ≡ live_bytes s p
  live_kept =
      let v : values_of (stores d t) (records_of (relocated p)) ≡ values = ap (values_of (stores d t)) (relocated_records p used) ∙ values_stay.1 in
      λ k. token_kept k ++ (v k ++ payload_kept k)
