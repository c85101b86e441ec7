-- What is answered to a piece: the refusals by their tests, what a length says, and when a piece is laid.
use Prim.Native.Nat.{ℕ, ◌+◌, ◌-◌, ◌<◌, ◌≤◌}
use mathlib.Core.Path.{◌≡◌, refl, sym, ap, ◌∙◌}
use mathlib.Core.List.{List, [], ◌∷◌}
use native.Mathlib.Nat.{zero-add}
use native.Mathlib.Omega.{arith}
use lib.ListN.{length, set, length-set, length-append}
use lib.Seq.{sets}
use borrow.Author.Tests.{lt-ltb, le-ltb}
use Rattle.std.specs.Prelude.{Result, Ok, Err, IsOk}
use Rattle.rfc.specs.Message.{Opt, option_layout, payload_layout, header_layout}
use Rattle.ground.proofs.Choice.{on_lt}
use Rattle.refusal.specs.Answer.{Answer, given, refused, written, fitted, after}
use Rattle.refusal.specs.declared.Refusal.TheVariants.{NoRoom}
use Rattle.refusal.specs.declared.Refusal.{Refusal}
use Rattle.refusal.proofs.Answers.{not_refused, same_given}
use Rattle.refusal.proofs.Fitted.{put_fits}
use Rattle.header.specs.Header.{raw_bytes, raw_of}
use Rattle.header.specs.declared.Header.{Header}
use Rattle.header.proofs.Raw.{header_layout_lem}
use Rattle.placing.specs.Put.{Put, Puts}
use Rattle.placing.proofs.Puts.{put_one, put_length, put_put, puts_whole}
use Rattle.laying.specs.Laying.{Lays, LaysHeader, LaysPayload, laid, headed, head_layout, laid_header, laid_option, size_of, judged_option}
use Rattle.laying.proofs.Pieces.{option_length, payload_none, payload_some}

module _ (a : Answer ℕ) (at : ℕ) (bytes old : List ℕ) where
  -- A refusal, with the output as it was.
  pub lays_refused : (k : ℕ) (r : Result ℕ Refusal) → written r ≡ refused k → a ≡ refused k → Lays a at bytes old r old
  lays_refused k r w e = record { answer = w ∙ sym e; output = rw e }

  -- A length, with the bytes at their place.
  pub lays_given : (n : ℕ) (new : List ℕ) → a ≡ given n → new ≡ sets old at bytes → Lays a at bytes old (Ok n) new
  lays_given n new e h = record { answer = sym e; output = rw e h }

  -- What is laid is put, and its length is answered.
  pub lays_put : (r : Result ℕ Refusal) (n : ℕ) (new : List ℕ) → a ≡ given (length bytes) → Lays a at bytes old r new → written r ≡ given n → Put old at bytes (at + n) new
  lays_put r n new e p w =
      record {
        next = ap (λ (k : ℕ). at + k) (same_given (sym w ∙ (p.answer ∙ e)));
        out = rw e at p.output;
      }

-- A piece that has a length was laid.
pub is_laid : (r : Result ℕ Refusal) (n : ℕ) → written r ≡ given n → IsOk r
is_laid (Ok m) n e = refl
is_laid (Err k) n e = cc

-- Bytes for which there is room.
pub laid_room : (room at : ℕ) (bytes : List ℕ) → at + length bytes ≤ room → laid room at bytes ≡ given (length bytes)
laid_room room at bytes h = rw (le-ltb room (at + length bytes) h)

pub laid_full : (room at : ℕ) (bytes : List ℕ) → room < at + length bytes → laid room at bytes ≡ refused 12
laid_full room at bytes h = rw (lt-ltb room (at + length bytes) h)

-- The length of a header and a token.
pub head_length : (h : Header) (token : List ℕ) → length (head_layout h token) ≡ 4 + length token
unfolding header_layout
head_length h token = simp length-append (omega arith)

-- A header and a token are laid where both are in range and there is room.
pub header_laid : (h : Header) (token : List ℕ) (room : ℕ) → h.version ≤ 3 → length token ≤ 15 → length (head_layout h token) ≤ room → laid_header h token room ≡ given (length (head_layout h token))
unfolding laid_header
header_laid h token room v t r =
    rw (le-ltb 3 h.version v, le-ltb 15 (length token) t) (laid_room room 0 (head_layout h token) (omega arith))

pub header_full : (h : Header) (token : List ℕ) (room : ℕ) → h.version ≤ 3 → length token ≤ 15 → room < 4 + length token → laid_header h token room ≡ refused 12
unfolding laid_header
header_full h token room v t r =
    rw (le-ltb 3 h.version v, le-ltb 15 (length token) t) (laid_full room 0 (head_layout h token) (omega (arith, head_length h token)))

-- So is an option whose number doesn't fall, with a value that a length reaches.
pub option_laid : (before : ℕ) (o : Opt) (room at : ℕ) → before ≤ o.number → length o.value ≤ 65804 → at + length (option_layout before o) ≤ room → laid_option before o room at ≡ given (length (option_layout before o))
unfolding laid_option
option_laid before o room at n v r =
    rw (le-ltb o.number before n, le-ltb 65804 (length o.value) v) (laid_room room at (option_layout before o) r)

-- The answer to an option is that to its numbers.
pub laid_judged : (before : ℕ) (o : Opt) (room at : ℕ) → laid_option before o room at ≡ judged_option before o.number (length o.value) room at
unfolding laid_option judged_option
laid_judged before o room at = rw (option_length before o)

-- The room decides where the number doesn't fall and the value isn't too long.
module _ (before number len room at : ℕ) (n : before ≤ number) (l : len ≤ 65804) where
  pub judged_full : room < at + size_of (number - before) len → judged_option before number len room at ≡ refused 12
  unfolding judged_option
  judged_full h = rw (le-ltb number before n, le-ltb 65804 len l, lt-ltb room (at + size_of (number - before) len) h)

  pub judged_fits : at + size_of (number - before) len ≤ room → judged_option before number len room at ≡ given (size_of (number - before) len)
  unfolding judged_option
  judged_fits h = rw (le-ltb number before n, le-ltb 65804 len l, le-ltb room (at + size_of (number - before) len) h)

-- What a length says of an option's numbers.
pub record Judged (before number len room at n : ℕ) : Type 0 where
  pub rises : before ≤ number
  pub short : len ≤ 65804
  pub fits : at + size_of (number - before) len ≤ room
  pub size : n ≡ size_of (number - before) len

pub judged_given : (before number len room at n : ℕ) → judged_option before number len room at ≡ given n → Judged before number len room at n
unfolding judged_option
judged_given before number len room at n =
    let P : Answer ℕ → Type 0 = λ b. b ≡ given n → Judged before number len room at n in
    on_lt P number before (λ h e. not_refused (sym e))
    (λ h. on_lt P 65804 len (λ l e. not_refused (sym e))
    (λ l. on_lt P room (at + size_of (number - before) len) (λ r e. not_refused (sym e))
    (λ r e. record { rises = h; short = l; fits = r; size = sym (same_given e) })))

-- The raw header and then the token are header and token laid at the start.
pub head_put : (h : Header) (token old mid new : List ℕ) (r : ℕ) → h.version ≤ 3 → length token ≤ 15 → 4 + length token ≤ length old
    → mid ≡ after (fitted (length old) (raw_bytes (raw_of h (length token)))) 0 (raw_bytes (raw_of h (length token))) old
    → Puts mid 4 token r new → LaysHeader h token old (Ok r) new
head_put h token old mid new r v t room e p =
    let raw = raw_bytes (raw_of h (length token)) in
    let is : raw ≡ header_layout (headed h token) = header_layout_lem h token [] [] v t in
    let first : Put old 0 raw 4 mid = record { next = refl; out = e ∙ sym (put_fits old raw _ _ refl (omega arith) refl).1 } in
    let all = put_put _ _ _ _ _ _ _ _ (rw is at first) (puts_whole p (omega (arith, put_length _ _ _ _ _ first))) in
    lays_given _ 0 _ old r new (header_laid h token (length old) v t (omega (arith, head_length h token)) ∙ ap given (sym (all.next ∙ zero-add _))) all.out

-- A payload: none, one that has no room, and one after its marker.
module _ (payload old : List ℕ) (at : ℕ) where
  pub payload_absent : at ≤ length old → length payload ≡ 0 → LaysPayload payload at old (Ok 0) old
  payload_absent h e =
      rw (payload_none payload e) (lays_given _ at [] old 0 old (laid_room (length old) at [] (omega arith)) refl)

  pub payload_past : length old < at → LaysPayload payload at old (Err NoRoom) old
  payload_past h = lays_refused _ at _ old 12 _ refl (laid_full (length old) at (payload_layout payload) (omega arith))

  module _ (some : length payload ≡ 0 → ⊥) where
    pub payload_full : length old - at ≤ length payload → LaysPayload payload at old (Err NoRoom) old
    payload_full h =
        lays_refused _ at _ old 12 _ refl (laid_full (length old) at (payload_layout payload) (omega (arith, ap length (payload_some payload some))))

    pub payload_put : (new : List ℕ) (r : ℕ) → at < length old → length payload < length old - at → Puts (set old at 255) (at + 1) payload r new → LaysPayload payload at old (Ok (r - at)) new
    payload_put new r h room p =
        let all = put_put _ _ _ (255 ∷ []) _ _ _ _ (put_one old at 255) (puts_whole p (omega (arith, length-set old at 255))) in
        rw (payload_some payload some) (lays_given _ at (255 ∷ payload) old (r - at) new (laid_room (length old) at (255 ∷ payload) (omega arith) ∙ ap given (omega (arith, all.next))) all.out)
