-- The next chunk of a datagram, by its place and its length.
use Prim.Native.Nat.{ℕ, ◌+◌, ◌-◌, min}
use mathlib.Core.Path.{◌≡◌, sym, ap, ◌∙◌}
use mathlib.Core.List.{List}
use native.Mathlib.Omega.{arith}
use lib.ListN.{length, take, drop, length-take, length-drop, drop_of_length-le}
use lib.Seq.{drop-drop, take_all, take-length, drop-length}
use Rattle.ground.proofs.Choice.{by_lt}
use Rattle.stream.specs.declared.Form.{Form}
use Rattle.stream.specs.Stream.{full}

-- As many as there are, if there are fewer.
take_least : (k : ℕ) (x : List ℕ) → take (min k (length x)) x ≡ take k x
take_least k x =
    by_lt (length x) k
    (λ h. let m : min k (length x) ≡ length x = omega arith in ap (λ (j : ℕ). take j x) m ∙ (take-length x ∙ sym (take_all k x (omega arith))))
    (λ h. let m : min k (length x) ≡ k = omega arith in ap (λ (j : ℕ). take j x) m)

drop_least : (k : ℕ) (x : List ℕ) → drop (min k (length x)) x ≡ drop k x
drop_least k x =
    by_lt (length x) k
    (λ h. let m : min k (length x) ≡ length x = omega arith in ap (λ (j : ℕ). drop j x) m ∙ (drop-length x ∙ sym (drop_of_length-le x {i = k} (omega arith))))
    (λ h. let m : min k (length x) ≡ k = omega arith in ap (λ (j : ℕ). drop j x) m)

module _ (form : Form) (d : List ℕ) (i n : ℕ) (least : n ≡ min (full form) (length d - i)) where
  count : n ≡ min (full form) (length (drop i d))
  count = least ∙ ap (min (full form)) (sym (length-drop i d))

  pub next_bytes : take n (drop i d) ≡ take (full form) (drop i d)
  next_bytes = ap (λ (k : ℕ). take k (drop i d)) count ∙ take_least (full form) (drop i d)

  pub next_rest : drop (i + n) d ≡ drop (full form) (drop i d)
  next_rest = sym (drop-drop n i d) ∙ (ap (λ (k : ℕ). drop k (drop i d)) count ∙ drop_least (full form) (drop i d))

  pub next_length : length (take (full form) (drop i d)) ≡ n
  next_length = length-take (full form) (drop i d) ∙ sym count
