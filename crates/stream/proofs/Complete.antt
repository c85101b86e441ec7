-- The stream of a list is read as that list.
use Prim.Native.Nat.{ℕ, zero, suc, ◌+◌, ◌-◌, ◌<◌, ◌≤◌, min}
use mathlib.Core.Path.{◌≡◌, refl, sym, ap, ◌∙◌}
use mathlib.Core.Bool.{true}
use mathlib.Core.List.{List, [], ◌∷◌, ◌++◌, append_assoc}
use native.Mathlib.Nat.{add-zero}
use native.Mathlib.Omega.{arith}
use lib.Dec.{eqb}
use lib.ListN.{length, get_or, take, drop, replicate, length-append, length-drop, length-take, take-append-drop, length-replicate}
use lib.Seq.{take-append_seam}
use borrow.Author.Tests.{ne_eqb, eq-eqb, lt-ltb, le-ltb}
use Rattle.ground.specs.Choice.{pick}
use Rattle.ground.specs.Part.{part}
use Rattle.ground.proofs.Choice.{by_lt, by_eq}
use Rattle.refusal.specs.Answer.{given}
use Rattle.reading.proofs.Complete.{past, fits, byte}
use Rattle.packet.specs.Limits.{full_size}
use Rattle.stream.specs.declared.Form.{Form}
use Rattle.stream.specs.declared.Form.TheVariants.{Old, New}
use Rattle.stream.specs.Stream.{Frozen, Sized, AllSized, full, head, head_size, padding, chunk_of, chunk_count, chunks_of, message_of, stream_of}
use Rattle.stream.specs.Messages.{count_at, end_of_chunk, zeros, chunk_at, body_at, sized_body, message_at, messages_at, thawed}
use Rattle.stream.proofs.Sound.{count_more, count_none, count_one, full_some}

-- The bytes at a position.
pub names : (s : List ℕ) (at : ℕ) (x rest : List ℕ) → drop at s ≡ x ++ rest → part s at (length x) ≡ x
names s at x rest e = ap (take (length x)) e ∙ take-append_seam x rest

pub head_length : (form : Form) (n : ℕ) → length (head form n) ≡ head_size form
head_length Old n = refl
head_length New n = refl

-- The head of a chunk says its count, and is no kind 3.
module _ (s : List ℕ) (at n : ℕ) (rest : List ℕ) (inside : at ≤ length s) (some : 1 ≤ n) where
  pub count_says : (form : Form) → n ≤ full form → drop at s ≡ head form n ++ rest → count_at form s at ≡ n
  unfolding count_at
  count_says Old small e =
      let a : get_or s at 0 ≡ 2 = rw add-zero at (byte s at (2 ∷ n ∷ []) rest e inside 0 (omega arith)) in
      let b : get_or s (at + 1) 0 ≡ n = byte s at (2 ∷ n ∷ []) rest e inside 1 (omega arith) in
      rw (eq-eqb (get_or s at 0) 2 a) b
  count_says New small e =
      by_eq n 64
      (λ q.
      let a : get_or s at 0 ≡ 4 = rw add-zero at (byte s at (pick (eqb n 64) 4 (128 + n) ∷ []) rest e inside 0 (omega arith)) ∙ rw (eq-eqb n 64 q) refl in
      rw (eq-eqb (get_or s at 0) 4 a) (sym q))
      (λ q.
      let a : get_or s at 0 ≡ 128 + n = rw add-zero at (byte s at (pick (eqb n 64) 4 (128 + n) ∷ []) rest e inside 0 (omega arith)) ∙ rw (ne_eqb n 64 q) refl in
      let m : n < 64 = omega arith in
      rw (ne_eqb (get_or s at 0) 4 (λ z. omega arith), lt-ltb (get_or s at 0) 192 (omega arith)) (omega arith))

  pub head_is : (form : Form) → n ≤ full form → drop at s ≡ head form n ++ rest → get_or s at 0 ≡ 3 → ⊥
  head_is Old small e t =
      let a : get_or s at 0 ≡ 2 = rw add-zero at (byte s at (2 ∷ n ∷ []) rest e inside 0 (omega arith)) in omega arith
  head_is New small e t =
      let b : get_or s at 0 ≡ pick (eqb n 64) 4 (128 + n) = rw add-zero at (byte s at (pick (eqb n 64) 4 (128 + n) ∷ []) rest e inside 0 (omega arith)) in
      by_eq n 64
      (λ q. let a : get_or s at 0 ≡ 4 = b ∙ rw (eq-eqb n 64 q) refl in omega arith)
      (λ q. let a : get_or s at 0 ≡ 128 + n = b ∙ rw (ne_eqb n 64 q) refl in omega arith)

pub zeros_all : (n : ℕ) → zeros (replicate n 0) ≡ true
zeros_all zero = refl
zeros_all (suc n) = zeros_all n

-- A chunk at a position is found there, with its bytes and what follows.
pub record Chunked (form : Form) (s : List ℕ) (at : ℕ) (c rest : List ℕ) : Type 0 where
  pub is : chunk_at form s at ≡ given (length c)
  pub none : get_or s at 0 ≡ 3 → ⊥
  pub bytes : part s (at + head_size form) (length c) ≡ c
  pub after : drop (end_of_chunk form at (length c)) s ≡ rest
  pub inside : end_of_chunk form at (length c) ≤ length s

join_three : (a b c d : List ℕ) → (a ++ (b ++ c)) ++ d ≡ a ++ (b ++ (c ++ d))
join_three a b c d = simp append_assoc

pub chunk_complete : (form : Form) (s : List ℕ) (at : ℕ) (c rest : List ℕ) → 1 ≤ length c → length c ≤ full form → at ≤ length s
    → drop at s ≡ chunk_of form c ++ rest → Chunked form s at c rest
unfolding chunk_of chunk_at
chunk_complete form s at c rest some small h e =
    let n : ℕ = length c in
    let z : List ℕ = replicate (padding form n) 0 in
    let zl : length z ≡ padding form n = length-replicate (padding form n) 0 in
    let e₁ : drop at s ≡ head form n ++ (c ++ (z ++ rest)) = e ∙ join_three (head form n) c z rest in
    let a₂ : ℕ = at + head_size form in
    let e₂ : drop a₂ s ≡ c ++ (z ++ rest) = rw head_length at (past s at (head form n) (c ++ (z ++ rest)) e₁ h) in
    let h₂ : a₂ ≤ length s = rw head_length at (fits s at (head form n) (c ++ (z ++ rest)) e₁ h) in
    let e₃ : drop (a₂ + n) s ≡ z ++ rest = past s a₂ c (z ++ rest) e₂ h₂ in
    let h₃ : a₂ + n ≤ length s = fits s a₂ c (z ++ rest) e₂ h₂ in
    let e₄ : drop (a₂ + n + padding form n) s ≡ rest = rw zl at (past s (a₂ + n) z rest e₃ h₃) in
    let h₄ : a₂ + n + padding form n ≤ length s = rw zl at (fits s (a₂ + n) z rest e₃ h₃) in
    let k : count_at form s at ≡ n = count_says s at n (c ++ (z ++ rest)) h some form small e₁ in
    let p : part s (a₂ + n) (padding form n) ≡ z = rw zl at (names s (a₂ + n) z rest e₃) in
    record {
      is = rw (k, le-ltb n 1 some, le-ltb (full form) n small, le-ltb (length s) (a₂ + n + padding form n) h₄, p, zeros_all (padding form n)) refl;
      none = head_is s at n (c ++ (z ++ rest)) h some form small e₁;
      bytes = names s a₂ c (z ++ rest) e₂;
      after = e₄;
      inside = h₄;
    }

-- The chunks of a datagram that isn't empty: the first, and those of what is left.
pub chunks_first : (form : Form) (d : List ℕ) → 1 ≤ length d → chunks_of form (chunk_count form (length d)) d
    ≡ chunk_of form (take (full form) d) ++ chunks_of form (chunk_count form (length (drop (full form) d))) (drop (full form) d)
unfolding chunks_of
chunks_first form d some =
    let e : chunk_count form (length d) ≡ suc (chunk_count form (length (drop (full form) d))) =
    by_lt (full form) (length d)
    (λ l. let q : length d ≡ full form + (length d - full form) = omega arith in
    ap (chunk_count form) q ∙ (count_more form (length d - full form) ∙ ap (λ (n : ℕ). suc (chunk_count form n)) (sym (length-drop (full form) d))))
    (λ l. let q : length (drop (full form) d) ≡ 0 = length-drop (full form) d ∙ omega arith in
    count_one form (length d) some l ∙ ap suc (sym (ap (chunk_count form) q ∙ count_none form))) in
    rw e refl

no_bytes : (d : List ℕ) → length d ≤ 0 → d ≡ []
no_bytes [] h = refl
no_bytes (x ∷ d) h = absurd (omega arith)

-- A chunk's length is that of its head, its bytes and its padding.
pub chunk_end : (form : Form) (at : ℕ) (c : List ℕ) → at + length (chunk_of form c) ≡ end_of_chunk form at (length c)
unfolding chunk_of
chunk_end form at c = simp (length-append, head_length, length-replicate) (omega arith)

pub chunks_none : (form : Form) (d : List ℕ) → d ≡ [] → chunks_of form (chunk_count form (length d)) d ≡ []
unfolding chunks_of
chunks_none form d z = rw (z, count_none form) refl

regrouped : (p c r : List ℕ) → (p ++ (c ++ (3 ∷ []))) ++ r ≡ p ++ (c ++ (3 ∷ r))
regrouped p c r = simp append_assoc

pub message_some : (form : Form) (m : Frozen) → 1 ≤ length (message_of form m)
unfolding message_of
message_some form m = omega arith

-- The chunks of a datagram at a position, with what ends them, are read as its bytes.
pub body_complete : (form : Form) (s : List ℕ) (fuel before at : ℕ) (d rest : List ℕ) → length s ≤ at + fuel → at ≤ length s → (1 ≤ length d → full form ≤ before)
    → drop at s ≡ chunks_of form (chunk_count form (length d)) d ++ (3 ∷ rest)
    → body_at form s fuel before at ≡ given (record { bytes = d; next = at + length (chunks_of form (chunk_count form (length d)) d) + 1 })
unfolding body_at
body_complete form s zero before at d rest fuelled h more e =
    let x : List ℕ = chunks_of form (chunk_count form (length d)) d in
    absurd (omega (arith, sym (length-drop at s) ∙ (ap length e ∙ length-append x (3 ∷ rest))))
body_complete form s (suc fuel) before at d rest fuelled h more e =
    by_lt 0 (length d)
    (λ some.
    let c : List ℕ = take (full form) d in
    let d' : List ℕ = drop (full form) d in
    let x' : List ℕ = chunks_of form (chunk_count form (length d')) d' in
    let f : chunks_of form (chunk_count form (length d)) d ≡ chunk_of form c ++ x' = chunks_first form d some in
    let cl : length c ≡ min (full form) (length d) = length-take (full form) d in
    let dl : length d' ≡ length d - full form = length-drop (full form) d in
    let n : ℕ = length c in
    let ns : 1 ≤ length c = omega (arith, full_some form) in
    let e₁ : drop at s ≡ chunk_of form c ++ (x' ++ (3 ∷ rest)) = e ∙ (ap (λ (l : List ℕ). l ++ (3 ∷ rest)) f ∙ append_assoc (chunk_of form c) x' (3 ∷ rest)) in
    let k : Chunked form s at c (x' ++ (3 ∷ rest)) = chunk_complete form s at c (x' ++ (3 ∷ rest)) ns (omega arith) h e₁ in
    let r : body_at form s fuel n (end_of_chunk form at n) ≡ given (record { bytes = d'; next = end_of_chunk form at n + length x' + 1 }) =
    body_complete form s fuel n (end_of_chunk form at n) d' rest (omega arith) k.inside (λ l. omega arith) k.after in
    let o : full form ≤ before = more some in
    let j : at + length (chunk_of form c) ≡ end_of_chunk form at n = chunk_end form at c in
    let t : end_of_chunk form at n + length x' + 1 ≡ at + length (chunks_of form (chunk_count form (length d)) d) + 1 =
    omega (arith, ap length f, length-append (chunk_of form c) x') in
    rw (ne_eqb (get_or s at 0) 3 k.none, le-ltb before (full form) o, k.is, r)
    (ap (λ (l : List ℕ). given (record { bytes = l; next = end_of_chunk form at n + length x' + 1 })) (ap (λ (l : List ℕ). l ++ d') k.bytes ∙ take-append-drop (full form) d)
    ∙ ap (λ (m : ℕ). given (record { bytes = d; next = m })) t))
    (λ none.
    let z : d ≡ [] = no_bytes d none in
    let x : chunks_of form (chunk_count form (length d)) d ≡ [] = chunks_none form d z in
    let e₁ : drop at s ≡ (3 ∷ []) ++ rest = e ∙ ap (λ (l : List ℕ). l ++ (3 ∷ rest)) x in
    let b : get_or s at 0 ≡ 3 = rw add-zero at (byte s at (3 ∷ []) rest e₁ h 0 (omega arith)) in
    let t : at + 1 ≡ at + length (chunks_of form (chunk_count form (length d)) d) + 1 = omega (arith, ap length x) in
    rw (eq-eqb (get_or s at 0) 3 b)
    (ap (λ (l : List ℕ). given (record { bytes = l; next = at + 1 })) (sym z) ∙ ap (λ (m : ℕ). given (record { bytes = d; next = m })) t))

-- The parts of a message at a position.
pub record Parts (form : Form) (s : List ℕ) (at : ℕ) (m : Frozen) (rest : List ℕ) : Type 0 where
  pub kind : get_or s at 0 ≡ 1
  pub inside : at + 19 ≤ length s
  pub peer : part s (at + 1) 18 ≡ m.peer
  pub chunks : drop (at + 19) s ≡ chunks_of form (chunk_count form (length m.datagram)) m.datagram ++ (3 ∷ rest)

pub parts : (form : Form) (s : List ℕ) (at : ℕ) (m : Frozen) (rest : List ℕ) → at ≤ length s → length m.peer ≡ 18 → drop at s ≡ message_of form m ++ rest
    → Parts form s at m rest
unfolding message_of
parts form s at m rest h z e =
    let p : List ℕ = m.peer in
    let x : List ℕ = chunks_of form (chunk_count form (length m.datagram)) m.datagram in
    let r₁ : List ℕ = p ++ (x ++ (3 ∷ rest)) in
    let e₁ : drop at s ≡ (1 ∷ []) ++ r₁ = e ∙ ap (λ (l : List ℕ). 1 ∷ l) (regrouped p x rest) in
    let e₂ : drop (at + 1) s ≡ r₁ = past s at (1 ∷ []) r₁ e₁ h in
    let h₂ : at + 1 ≤ length s = fits s at (1 ∷ []) r₁ e₁ h in
    let k : at + 1 + length p ≡ at + 19 = omega arith in
    record {
      kind = rw add-zero at (byte s at (1 ∷ []) r₁ e₁ h 0 (omega arith));
      inside = rw k at (fits s (at + 1) p (x ++ (3 ∷ rest)) e₂ h₂);
      peer = ap (λ (n : ℕ). part s (at + 1) n) (sym z) ∙ names s (at + 1) p (x ++ (3 ∷ rest)) e₂;
      chunks = rw k at (past s (at + 1) p (x ++ (3 ∷ rest)) e₂ h₂);
    }

-- A message takes the kinds 1 and 3, the peer and the chunks.
pub message_length : (form : Form) (m : Frozen) → length m.peer ≡ 18 → length (message_of form m) ≡ 20 + length (chunks_of form (chunk_count form (length m.datagram)) m.datagram)
unfolding message_of
message_length form m z =
    let x : List ℕ = chunks_of form (chunk_count form (length m.datagram)) m.datagram in
    omega (arith, length-append m.peer (x ++ (3 ∷ [])), length-append x (3 ∷ []))

-- A message at a position is found there.
pub message_complete : (form : Form) (s : List ℕ) (at : ℕ) (m : Frozen) (rest : List ℕ) → at ≤ length s → Sized m → drop at s ≡ message_of form m ++ rest
    → message_at form s at ≡ given (record { message = m; next = at + length (message_of form m) })
unfolding message_at sized_body
message_complete form s at m rest h z e =
    let d : List ℕ = m.datagram in
    let x : List ℕ = chunks_of form (chunk_count form (length d)) d in
    let p : Parts form s at m rest = parts form s at m rest h z.peer e in
    let f : body_at form s (length s) (full form) (at + 19) ≡ given (record { bytes = d; next = at + 19 + length x + 1 }) =
    body_complete form s (length s) (full form) (at + 19) d rest (omega arith) p.inside (λ _. omega arith) p.chunks in
    let t : at + 19 + length x + 1 ≡ at + length (message_of form m) = omega (arith, message_length form m z.peer) in
    rw (eq-eqb (get_or s at 0) 1 p.kind, le-ltb (length s) (at + 19) p.inside, f, le-ltb (length d) 4 z.least, le-ltb full_size (length d) z.most)
    (ap (λ (l : List ℕ). given (record { message = record { peer = l; datagram = d }; next = at + 19 + length x + 1 })) p.peer
    ∙ ap (λ (n : ℕ). given (record { message = m; next = n })) t)

-- The messages of a stream from a position are found there.
pub messages_complete : (form : Form) (s : List ℕ) (fuel at : ℕ) (l : List Frozen) → length s ≤ at + fuel → at ≤ length s → AllSized l → drop at s ≡ stream_of form l
    → messages_at form s fuel at ≡ given l
unfolding messages_at
messages_complete form s zero at [] fuelled h z e = rw (le-ltb at (length s) (omega (arith, sym (length-drop at s) ∙ ap length e))) refl
messages_complete form s (suc fuel) at [] fuelled h z e = rw (le-ltb at (length s) (omega (arith, sym (length-drop at s) ∙ ap length e))) refl
messages_complete form s zero at (m ∷ l) fuelled h z e =
    absurd (omega (arith, sym (length-drop at s) ∙ (ap length e ∙ length-append (message_of form m) (stream_of form l)), message_some form m))
messages_complete form s (suc fuel) at (m ∷ l) fuelled h z e =
    let i : at + length (message_of form m) ≤ length s = fits s at (message_of form m) (stream_of form l) e h in
    let k : 1 ≤ length (message_of form m) = message_some form m in
    let f = message_complete form s at m (stream_of form l) h z.0 e in
    let r : messages_at form s fuel (at + length (message_of form m)) ≡ given l =
    messages_complete form s fuel (at + length (message_of form m)) l (omega arith) i z.1 (past s at (message_of form m) (stream_of form l) e h) in
    rw (lt-ltb at (length s) (omega arith), f, r) refl

pub thawed_complete : (form : Form) (l : List Frozen) → AllSized l → thawed form (stream_of form l) ≡ given l
thawed_complete form l z = messages_complete form (stream_of form l) (length (stream_of form l)) 0 l (omega arith) (omega arith) z refl

-- A message has a chunk of its form after the peer.
pub first_chunk : (form : Form) (s : List ℕ) (m : Frozen) (rest : List ℕ) → Sized m → s ≡ message_of form m ++ rest → 1 ≤ count_at form s 19
unfolding chunk_of
first_chunk form s m rest z e =
    let d : List ℕ = m.datagram in
    let c : List ℕ = take (full form) d in
    let x' : List ℕ = chunks_of form (chunk_count form (length (drop (full form) d))) (drop (full form) d) in
    let r : List ℕ = (c ++ replicate (padding form (length c)) 0) ++ (x' ++ (3 ∷ rest)) in
    let p : Parts form s 0 m rest = parts form s 0 m rest (omega arith) z.peer e in
    let some : 1 ≤ length d = omega (arith, z.least) in
    let cl : length c ≡ min (full form) (length d) = length-take (full form) d in
    let ns : 1 ≤ length c = omega (arith, full_some form) in
    let e₁ : drop 19 s ≡ head form (length c) ++ r =
    p.chunks ∙ (ap (λ (l : List ℕ). l ++ (3 ∷ rest)) (chunks_first form d some)
    ∙ (append_assoc (chunk_of form c) x' (3 ∷ rest) ∙ append_assoc (head form (length c)) (c ++ replicate (padding form (length c)) 0) (x' ++ (3 ∷ rest)))) in
    let k : count_at form s 19 ≡ length c = count_says s 19 (length c) r p.inside ns form (omega arith) e₁ in
    omega arith
