-- Records copied one by one to a new array, and the packet that is made of them.
use Prim.Native.Nat.{ℕ, suc, ◌+◌, ◌-◌, ◌<◌, ◌≤◌}
use mathlib.Core.Path.{◌≡◌, refl, sym, ◌∙◌}
use mathlib.Core.List.{List, [], ◌∷◌, ◌++◌, append_assoc}
use native.Mathlib.Numerals.{add-one}
use native.Mathlib.Omega.{arith}
use lib.ListN.{length, get_or, take, set, replicate, length-append}
use lib.Seq.{set_at, take-suc, take_all}
use Rattle.packet.specs.Limits.{max_options}
use Rattle.packet.specs.Packet.{none}
use Rattle.packet.specs.declared.Packet.{Packet}
use Rattle.packet.specs.declared.OptionRecord.{OptionRecord}
use Rattle.splicing.specs.Splice.{with_records}

-- Records that stand in the first places of a new array.
pub record Copied (done records : List OptionRecord) (count : ℕ) : Type 0 where
  pub array : records ≡ done ++ replicate (max_options - count) none
  pub counted : count ≡ length done

pub copied_none : Copied [] (replicate max_options none) 0
copied_none = record { array = refl; counted = refl }

pub copied_more : (done records : List OptionRecord) (count : ℕ) (y : OptionRecord) → Copied done records count → count < max_options
    → Copied (done ++ (y ∷ [])) (set records count y) (count + 1)
copied_more done records count y c h =
    let left : max_options - count ≡ suc (max_options - (count + 1)) = omega arith in
    record {
      array = rw (c.array, left)
          (set_at done none (replicate (max_options - (count + 1)) none) y count (sym c.counted)
          ∙ sym (append_assoc done (y ∷ []) (replicate (max_options - (count + 1)) none)));
      counted = simp length-append (omega (arith, c.counted));
    }

-- The loop over the places: what stands in the array so far is the beginning of the whole.
pub record Filling (whole records : List OptionRecord) (count i : ℕ) : Type 0 where
  pub fits : count ≤ max_options
  pub long : length whole ≡ count
  pub place : i ≤ count
  pub copied : Copied (take i whole) records i

pub fills_none : (whole : List OptionRecord) (count : ℕ) → count ≤ max_options → length whole ≡ count → Filling whole (replicate max_options none) count 0
fills_none whole count h e = record { fits = h; long = e; place = omega arith; copied = copied_none }

module _ (whole records : List OptionRecord) (count i : ℕ) (w : Filling whole records count i) where
  pub fills_more : i < count → (y : OptionRecord) → y ≡ get_or whole i none → Filling whole (set records i y) count (i + 1)
  fills_more h y e =
      let inside : i < length whole = omega (arith, w.long) in
      let next : take (i + 1) whole ≡ take i whole ++ (y ∷ []) = rw (add-one, take-suc whole i none inside, e) refl in
      record {
        fits = w.fits;
        long = w.long;
        place = omega arith;
        copied = rw next (copied_more (take i whole) records i y w.copied (omega (arith, w.fits)));
      }

  -- The packet that is made of them.
  pub fills_all : count ≤ i → (p : Packet) → record { header = p.header; token = p.token; count = count; options = records; payload = p.payload } ≡ with_records p whole
  fills_all h p =
      let at_end : i ≡ length whole = omega (arith, w.place, w.long) in
      let all : take i whole ≡ whole = take_all i whole (omega arith) in
      let options : records ≡ whole ++ replicate (max_options - length whole) none = w.copied.array ∙ cc (all, at_end) in
      λ k. record { header = p.header; token = p.token; count = sym w.long k; options = options k; payload = p.payload }
