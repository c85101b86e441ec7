-- What the packet of a text means: the new message with the options that the text says.
use Prim.Native.Nat.{ℕ, ◌+◌, ◌≤◌}
use mathlib.Core.Path.{◌≡◌, refl, sym, ap, ◌∙◌}
use mathlib.Core.List.{List, [], ◌∷◌, ◌++◌, map, append_assoc}
use native.Mathlib.Omega.{arith}
use lib.ListN.{length, take, drop, replicate, length-append, length-take, length-replicate}
use lib.Seq.{sets, sets-eq, length-sets, take_at, drop_at, drop-drop}
use borrow.Author.Tests.{le-leb}
use Rattle.rfc.specs.Message.{Opt}
use Rattle.rfc.specs.Target.{Target, options_for, options_of}
use Rattle.rfc.specs.Text.{joined}
use Rattle.packet.specs.Limits.{max_options}
use Rattle.packet.specs.Packet.{none, new_packet, stores, bytes_in, records_of}
use Rattle.packet.specs.Meaning.{option_of}
use Rattle.packet.specs.declared.OptionRecord.{OptionRecord}
use Rattle.uri_text.specs.Tally.{total}
use Rattle.target_reading.specs.FromText.{records_at, records_for, packet_for}
use Rattle.target_reading.proofs.Placing.{records_count, joined_length}

-- The value at a place where it stands.
stands : (s : List ℕ) (at : ℕ) (v rest : List ℕ) → drop at s ≡ v ++ rest → at + length v ≤ length s → bytes_in s at (length v) ≡ v
unfolding bytes_in
stands s at v rest e h = rw (le-leb (at + length v) (length s) h) (ap (take (length v)) e ∙ take_at v rest (length v) refl)

-- Records of values that stand end to end mean those values.
pub meant : (number : ℕ) (d s : List ℕ) (at : ℕ) (vs : List (List ℕ)) (rest : List ℕ) → drop at s ≡ joined vs ++ rest → at + total vs ≤ length s → map (option_of (stores d s)) (records_at number at vs) ≡ options_for number vs
meant number d s at [] rest e h = refl
meant number d s at (v ∷ vs) rest e h =
    let here : drop at s ≡ v ++ (joined vs ++ rest) = e ∙ append_assoc v (joined vs) rest in
    let next : drop (at + length v) s ≡ joined vs ++ rest = sym (drop-drop (length v) at s) ∙ (ap (drop (length v)) here ∙ drop_at v (joined vs ++ rest) (length v) refl) in
    let value : bytes_in s at (length v) ≡ v = stands s at v (joined vs ++ rest) here (omega arith) in
    ap (λ (x : List ℕ). record { number = number; value = x } ∷ map (option_of (stores d s)) (records_at number (at + length v) vs)) value
    ∙ ap (λ (os : List Opt). record { number = number; value = v } ∷ os) (meant number d s (at + length v) vs rest next (omega arith))

map-append : {A B : Type 0} (f : A → B) (xs ys : List A) → map f (xs ++ ys) ≡ map f xs ++ map f ys
map-append f [] ys = refl
map-append f (x ∷ xs) ys = ap (λ l. f x ∷ l) (map-append f xs ys)

module _ (start : ℕ) (t : Target) (few : length t.path + length t.query ≤ max_options) where
  count_is : length (records_for start t) ≡ length t.path + length t.query
  count_is =
      length-append (records_at 11 start t.path) (records_at 15 (start + total t.path) t.query)
      ∙ (ap (λ (n : ℕ). n + length (records_at 15 (start + total t.path) t.query)) (records_count 11 start t.path)
      ∙ ap (λ (n : ℕ). length t.path + n) (records_count 15 (start + total t.path) t.query))

  -- The records in use are those of the text.
  pub records_are : records_of (packet_for start t) ≡ records_for start t
  unfolding packet_for new_packet
  records_are =
      let rs : List OptionRecord = records_for start t in
      let room : 0 + length rs ≤ length (replicate max_options none) = omega (arith, count_is, length-replicate max_options none) in
      ap (take (length t.path + length t.query)) (sets-eq rs (replicate max_options none) 0 room)
      ∙ take_at rs (drop (0 + length rs) (replicate max_options none)) (length t.path + length t.query) count_is

  -- They mean the options of the text, whatever the datagram holds.
  pub options_are : (d old : List ℕ) → start + (total t.path + total t.query) ≤ length old → map (option_of (stores d (sets old start (joined t.path ++ joined t.query)))) (records_of (packet_for start t)) ≡ options_of t
  options_are d old room =
      let P : List (List ℕ) = t.path in
      let Q : List (List ℕ) = t.query in
      let bytes : List ℕ = joined P ++ joined Q in
      let new : List ℕ = sets old start bytes in
      let size : length bytes ≡ total P + total Q = length-append (joined P) (joined Q) ∙ omega (arith, joined_length P, joined_length Q) in
      let same : length new ≡ length old = length-sets old start bytes in
      let rest : List ℕ = drop (start + length bytes) old in
      let fits : start + length bytes ≤ length old = omega (arith, size) in
      let front : length (take start old) ≡ start = length-take start old ∙ omega (arith, fits) in
      let stored : drop start new ≡ bytes ++ rest = ap (drop start) (sets-eq bytes old start fits ∙ append_assoc (take start old) bytes rest) ∙ drop_at (take start old) (bytes ++ rest) start front in
      let first : drop start new ≡ joined P ++ (joined Q ++ rest) = stored ∙ append_assoc (joined P) (joined Q) rest in
      let second : drop (start + total P) new ≡ joined Q ++ rest = sym (drop-drop (total P) start new) ∙ (ap (drop (total P)) first ∙ drop_at (joined P) (joined Q ++ rest) (total P) (joined_length P)) in
      ap (map (option_of (stores d new))) records_are
      ∙ (map-append (option_of (stores d new)) (records_at 11 start P) (records_at 15 (start + total P) Q)
      ∙ (ap (λ (os : List Opt). os ++ map (option_of (stores d new)) (records_at 15 (start + total P) Q)) (meant 11 d new start P (joined Q ++ rest) first (omega (arith, same)))
      ∙ ap (λ (os : List Opt). options_for 11 P ++ os) (meant 15 d new (start + total P) Q rest second (omega (arith, same)))))
