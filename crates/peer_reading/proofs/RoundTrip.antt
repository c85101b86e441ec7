-- What is put of a peer is read back as that peer.
use Prim.Native.Nat.{ℕ, zero, suc, ◌+◌, ◌-◌, ◌*◌, ◌<◌, ◌≤◌}
use mathlib.Core.Path.{◌≡◌, refl, sym, ap, ◌∙◌}
use mathlib.Core.Bool.{Bool, true, false}
use mathlib.Core.Logic.{◌⊎◌, inl, inr, ⊎_elim}
use mathlib.Core.List.{List, [], ◌∷◌, ◌++◌, append_assoc, append-nil}
use native.Mathlib.Nat.{add-zero}
use native.Mathlib.Omega.{arith}
use lib.Dec.{eqb}
use lib.ListN.{length, get_or, drop, replicate, length-append}
use lib.Seq.{take_at, drop-append-add}
use borrow.Author.Tests.{lt-ltb, le-ltb, eqb-true}
use Rattle.ground.specs.Choice.{pick}
use Rattle.ground.specs.Part.{Bytes}
use Rattle.ground.proofs.Choice.{on_lt, on_eq, both_true}
use Rattle.ground.proofs.Part.{byte_at}
use Rattle.refusal.specs.Answer.{Answer, given, onward}
use Rattle.decimal.specs.Decimal.{decimal}
use Rattle.uri_text.specs.Tally.{first_length}
use Rattle.peers.specs.Text.{group, row, run_in, run_end, longest_in, longest, groups_text, is_mapped, dotted, peer_text}
use Rattle.peer_reading.specs.Reading.{pair_bytes, mapped_peer, from_port, from_fourth, from_third, from_second, dotted_peer, gap_in, whole_address, cut_address, address_in, port_in, grouped_peer, peer_in}
use Rattle.peer_reading.proofs.Digits.{Without, without_append, first_at, after_mark, digits_without, numeral_decimal, then_number}
use Rattle.peer_reading.proofs.Rows.{bytes_from, bytes_length, bytes_split, group_small, pair_back, side_judged, side_read, side_passed, side_plain}
use Rattle.peer_reading.proofs.Putting.{peer_grouped, peer_dotted}

-- A list by its elements.
abbrev table : (ℕ → ℕ) → ℕ → List ℕ
table f zero = []
table f (suc n) = f 0 ∷ table (λ i. f (suc i)) n

tabled : (l : List ℕ) (n : ℕ) → length l ≡ n → l ≡ table (λ i. get_or l i 0) n
tabled [] zero e = refl
tabled [] (suc n) e = absurd (omega arith)
tabled (c ∷ l) zero e = absurd (omega arith)
tabled (c ∷ l) (suc n) e = ap (λ (k : List ℕ). c ∷ k) (tabled l n (omega arith))

-- The end of a run: it lies behind its start and within the groups, and all before it are zeros.
run_after : (p : List ℕ) (n g : ℕ) → g ≤ run_in p n g
unfolding run_in
run_after p zero g = omega arith
run_after p (suc n) g = on_eq (λ (e : ℕ). g ≤ e) (group p g) 0 (λ _. omega (arith, run_after p n (suc g))) (λ _. omega arith)

run_within : (p : List ℕ) (n g : ℕ) → run_in p n g ≤ g + n
unfolding run_in
run_within p zero g = omega arith
run_within p (suc n) g = on_eq (λ (e : ℕ). e ≤ g + suc n) (group p g) 0 (λ _. omega (arith, run_within p n (suc g))) (λ _. omega arith)

run_zeros : (p : List ℕ) (n g : ℕ) → bytes_from p (run_in p n g - g) g ≡ replicate (2 * (run_in p n g - g)) 0
unfolding run_in
run_zeros p zero g = let e : g - g ≡ 0 = omega arith in rw e refl
run_zeros p (suc n) g =
    on_eq (λ (e : ℕ). bytes_from p (e - g) g ≡ replicate (2 * (e - g)) 0) (group p g) 0
    (λ z.
    let a = run_after p n (suc g) in
    let k : run_in p n (suc g) - g ≡ suc (run_in p n (suc g) - suc g) = omega arith in
    let t : 2 * suc (run_in p n (suc g) - suc g) ≡ suc (suc (2 * (run_in p n (suc g) - suc g))) = omega arith in
    let x : get_or p (2 * g) 0 ≡ 0 = omega arith in
    let y : get_or p (2 * g + 1) 0 ≡ 0 = omega arith in
    rw (k, t, x, y, run_zeros p n (suc g)) refl)
    (λ z. let e : g - g ≡ 0 = omega arith in rw e refl)

-- The run that `::` stands for is none, or has a group.
Some : List ℕ → ℕ → Type 0
Some p start = (start ≡ 8) ⊎ (start < run_end p start)

longest_some : (p : List ℕ) (n g start size : ℕ) → Some p start → Some p (longest_in p n g start size)
unfolding longest_in Some
longest_some p zero g start size s = s
longest_some p (suc n) g start size s =
    on_lt (Some p) size (run_end p g - g) (λ h. longest_some p n (suc g) g (run_end p g - g) (inr (omega arith)))
    (λ h. longest_some p n (suc g) start size s)

-- An address of groups, by the run that it has.
module _ (p : List ℕ) (b : Bytes p) where
  no_gap : gap_in [] ≡ 0
  unfolding gap_in
  no_gap = refl

  gap_first : (s : List ℕ) → gap_in (58 ∷ 58 ∷ s) ≡ 0
  unfolding gap_in
  gap_first s = refl

  whole : address_in (row p 0 8) ≡ given (bytes_from p 8 0)
  unfolding address_in whole_address
  whole =
      let t : List ℕ = row p 0 8 in
      let e : gap_in t ≡ length t =
      ap gap_in (sym (append-nil t)) ∙ (side_passed p b 8 0 [] ∙ (ap (λ (n : ℕ). length t + n) no_gap ∙ add-zero (length t))) in
      rw (e, le-ltb (length t) (length t) (omega arith), side_judged p b 8 0, side_read p b 8 0) refl

  cut : (start : ℕ) → start < run_end p start → address_in (row p 0 start ++ (58 ∷ 58 ∷ row p (run_end p start) 8)) ≡ given (bytes_from p 8 0)
  unfolding address_in cut_address
  cut start h =
      let e : ℕ = run_end p start in
      let l : List ℕ = row p 0 start in
      let r : List ℕ = row p e 8 in
      let t : List ℕ = l ++ (58 ∷ 58 ∷ r) in
      let w : e ≤ start + (8 - start) = run_within p (8 - start) start in
      let zero-start : start - 0 ≡ start = omega arith in
      let g : gap_in t ≡ length l = side_passed p b (start - 0) 0 (58 ∷ 58 ∷ r) ∙ (ap (λ (n : ℕ). length l + n) (gap_first r) ∙ add-zero (length l)) in
      let k : length l < length t = omega (arith, length-append l (58 ∷ 58 ∷ r)) in
      let x : List ℕ = bytes_from p (start - 0) 0 in
      let y : List ℕ = bytes_from p (8 - e) e in
      let nx : length x ≡ 2 * (start - 0) = bytes_length p (start - 0) 0 in
      let ny : length y ≡ 2 * (8 - e) = bytes_length p (8 - e) e in
      let z : replicate (16 - (length x + length y)) 0 ≡ bytes_from p (e - start) start =
      ap (λ (n : ℕ). replicate n 0) (let q : 16 - (length x + length y) ≡ 2 * (e - start) = omega arith in q) ∙ sym (run_zeros p (8 - start) start) in
      let d : drop (length l + 2) t ≡ r = drop_append_two l r in
      let all : bytes_from p 8 0 ≡ x ++ (bytes_from p (e - start) start ++ y) = pieced start e (omega arith) (omega arith) in
      rw (g, lt-ltb (length l) (length t) k, take_at l (58 ∷ 58 ∷ r) (length l) refl, d, side_judged p b (start - 0) 0, side_judged p b (8 - e) e, side_read p b (start - 0) 0, side_read p b (8 - e) e, le-ltb 15 (length x + length y) (omega arith), z)
      (ap given (sym all))
    where
      drop_append_two : (l r : List ℕ) → drop (length l + 2) (l ++ (58 ∷ 58 ∷ r)) ≡ r
      drop_append_two l r = drop-append-add l (58 ∷ 58 ∷ r) 2

      pieced : (start e : ℕ) → start ≤ e → e ≤ 8 → bytes_from p 8 0 ≡ bytes_from p (start - 0) 0 ++ (bytes_from p (e - start) start ++ bytes_from p (8 - e) e)
      pieced start e a c =
          let s₀ : 8 ≡ (start - 0) + ((e - start) + (8 - e)) = omega arith in
          let s₁ : 0 + (start - 0) ≡ start = omega arith in
          let s₂ : start + (e - start) ≡ e = omega arith in
          ap (λ (n : ℕ). bytes_from p n 0) s₀ ∙ (bytes_split p (start - 0) ((e - start) + (8 - e)) 0
          ∙ ap (λ (m : List ℕ). bytes_from p (start - 0) 0 ++ m) (ap (bytes_from p ((e - start) + (8 - e))) s₁ ∙ (bytes_split p (e - start) (8 - e) start ∙ ap (λ (n : ℕ). bytes_from p (e - start) start ++ bytes_from p (8 - e) n) s₂)))

  pub groups_back : address_in (groups_text p) ≡ given (bytes_from p 8 0)
  unfolding Some
  groups_back =
      on_eq (λ (t : List ℕ). address_in t ≡ given (bytes_from p 8 0)) (longest p) 8 (λ e. whole)
      (λ z. ⊎_elim (λ e. absurd (z e)) (λ h. cut (longest p) h) (longest_some p 8 0 8 1 (inl refl)))

  groups_plain : Without 93 (groups_text p)
  groups_plain =
      on_eq (Without 93) (longest p) 8 (λ e. side_plain p b 8 0)
      (λ z. without_append 93 (row p 0 (longest p)) (58 ∷ 58 ∷ row p (run_end p (longest p)) 8) (side_plain p b (longest p - 0) 0)
      (λ e. omega arith, (λ e. omega arith, side_plain p b (8 - run_end p (longest p)) (run_end p (longest p)))))

-- A port behind its colon.
port_back : (port : ℕ) → port ≤ 65535 → port_in (58 ∷ decimal port) ≡ given port
unfolding port_in
port_back port h = numeral_decimal 65535 port h h

-- No digit is a dot, a colon or a bracket.
no_dot : (n : ℕ) → Without 46 (decimal n)
no_dot n = digits_without 46 (λ d h e. omega arith) 20 n

no_colon : (n : ℕ) → Without 58 (decimal n)
no_colon n = digits_without 58 (λ d h e. omega arith) 20 n

no_bracket : (n : ℕ) → Without 91 (decimal n)
no_bracket n = digits_without 91 (λ d h e. omega arith) 20 n

first_other : (s t : List ℕ) → Without 91 s → get_or (s ++ (46 ∷ t)) 0 0 ≡ 91 → ⊥
first_other [] t w e = omega arith
first_other (c ∷ s) t w e = w.0 e

regroup : (a b c d r : List ℕ) → (a ++ (46 ∷ (b ++ (46 ∷ (c ++ (46 ∷ d)))))) ++ (58 ∷ r) ≡ a ++ (46 ∷ (b ++ (46 ∷ (c ++ (46 ∷ (d ++ (58 ∷ r)))))))
regroup a b c d r = simp append_assoc

dotted_back : (a b c d port : ℕ) → a < 256 → b < 256 → c < 256 → d < 256 → port ≤ 65535
    → dotted_peer (decimal a ++ (46 ∷ (decimal b ++ (46 ∷ (decimal c ++ (46 ∷ (decimal d ++ (58 ∷ decimal port)))))))) ≡ given (mapped_peer a b c d port)
dotted_back a b c d port ha hb hc hd hp =
    then_number 46 255 a (decimal b ++ (46 ∷ (decimal c ++ (46 ∷ (decimal d ++ (58 ∷ decimal port)))))) from_second (no_dot a) (omega arith) (omega arith)
    ∙ (then_number 46 255 b (decimal c ++ (46 ∷ (decimal d ++ (58 ∷ decimal port)))) (from_third a) (no_dot b) (omega arith) (omega arith)
    ∙ (then_number 46 255 c (decimal d ++ (58 ∷ decimal port)) (from_fourth a b) (no_dot c) (omega arith) (omega arith)
    ∙ (then_number 58 255 d (decimal port) (from_port a b c) (no_colon d) (omega arith) (omega arith)
    ∙ ap (λ (x : Answer ℕ). onward x (λ n. given (mapped_peer a b c d n))) (numeral_decimal 65535 port hp hp))))

module _ (p : List ℕ) (e : length p ≡ 18) (b : Bytes p) where
  port_small : group p 8 ≤ 65535
  port_small = omega (arith, group_small p b 8)

  -- A peer is the bytes of its groups and of its port.
  parts : p ≡ bytes_from p 8 0 ++ pair_bytes (group p 8)
  parts = tabled p 18 e ∙ ap (λ (l : List ℕ). bytes_from p 8 0 ++ l) (sym (pair_back p b 8))

  grouped_back : grouped_peer (groups_text p ++ (93 ∷ (58 ∷ decimal (group p 8)))) ≡ given (bytes_from p 8 0 ++ pair_bytes (group p 8))
  unfolding grouped_peer
  grouped_back =
      let t : List ℕ = groups_text p in
      let s : List ℕ = t ++ (93 ∷ (58 ∷ decimal (group p 8))) in
      let k : first_length 93 s ≡ length t = first_at 93 t (58 ∷ decimal (group p 8)) (groups_plain p b) in
      let l : length t < length s = omega (arith, length-append t (93 ∷ (58 ∷ decimal (group p 8)))) in
      rw (k, lt-ltb (length t) (length s) l, after_mark 93 t (58 ∷ decimal (group p 8)), port_back (group p 8) port_small, take_at t (93 ∷ (58 ∷ decimal (group p 8))) (length t) refl, groups_back p b) refl

  -- The bytes of an IPv4-mapped address.
  module _ (run : run_end p 0 ≡ 5) (ones : group p 5 ≡ 65535) where
    ten : bytes_from p 5 0 ≡ replicate 10 0
    ten = rw run at (run_zeros p 8 0)

    eleventh : get_or p 10 0 ≡ 255
    eleventh = omega (arith, byte_at p 10 b, byte_at p 11 b, ones)

    twelfth : get_or p 11 0 ≡ 255
    twelfth = omega (arith, byte_at p 10 b, byte_at p 11 b, ones)

    mapped_parts : p ≡ mapped_peer (get_or p 12 0) (get_or p 13 0) (get_or p 14 0) (get_or p 15 0) (group p 8)
    mapped_parts =
        let rest : List ℕ = get_or p 12 0 ∷ get_or p 13 0 ∷ get_or p 14 0 ∷ get_or p 15 0 ∷ pair_bytes (group p 8) in
        parts ∙ (ap (λ (l : List ℕ). l ++ (get_or p 10 0 ∷ get_or p 11 0 ∷ rest)) ten
        ∙ (ap (λ (x : ℕ). replicate 10 0 ++ (x ∷ get_or p 11 0 ∷ rest)) eleventh ∙ ap (λ (x : ℕ). replicate 10 0 ++ (255 ∷ x ∷ rest)) twelfth))

    mapped_back : peer_in (dotted p ++ (58 ∷ decimal (group p 8))) ≡ given p
    mapped_back =
        let da : List ℕ = decimal (get_or p 12 0) in
        let r : List ℕ = decimal (get_or p 13 0) ++ (46 ∷ (decimal (get_or p 14 0) ++ (46 ∷ (decimal (get_or p 15 0) ++ (58 ∷ decimal (group p 8)))))) in
        ap peer_in (regroup da (decimal (get_or p 13 0)) (decimal (get_or p 14 0)) (decimal (get_or p 15 0)) (decimal (group p 8)))
        ∙ (peer_dotted (da ++ (46 ∷ r)) (first_other da r (no_bracket (get_or p 12 0)))
        ∙ (dotted_back (get_or p 12 0) (get_or p 13 0) (get_or p 14 0) (get_or p 15 0) (group p 8) (byte_at p 12 b) (byte_at p 13 b) (byte_at p 14 b) (byte_at p 15 b) port_small
        ∙ ap given (sym mapped_parts)))

  other_back : peer_in ((91 ∷ (groups_text p ++ (93 ∷ []))) ++ (58 ∷ decimal (group p 8))) ≡ given p
  other_back =
      peer_grouped ((91 ∷ (groups_text p ++ (93 ∷ []))) ++ (58 ∷ decimal (group p 8))) refl
      ∙ (ap grouped_peer (append_assoc (groups_text p) (93 ∷ []) (58 ∷ decimal (group p 8))) ∙ (grouped_back ∙ ap given (sym parts)))

  by_kind : (m : Bool) → is_mapped p ≡ m → peer_in (pick m (dotted p) (91 ∷ (groups_text p ++ (93 ∷ []))) ++ (58 ∷ decimal (group p 8))) ≡ given p
  by_kind true q = let h = both_true (eqb (run_end p 0) 5) (eqb (group p 5) 65535) q in mapped_back (eqb-true (run_end p 0) 5 h.0) (eqb-true (group p 5) 65535 h.1)
  by_kind false q = other_back

  pub read_back : peer_in (peer_text p) ≡ given p
  read_back = by_kind (is_mapped p) refl
