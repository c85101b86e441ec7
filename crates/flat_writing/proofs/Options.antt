-- The walk that puts the options loosely: the output is like one that holds just those that were put.
use Prim.Native.Nat.{ℕ, ◌+◌, ◌-◌, ◌≤◌}
use mathlib.Core.Path.{◌≡◌, refl, sym, ap, ◌∙◌}
use mathlib.Core.Bool.{false}
use mathlib.Core.List.{List, [], ◌∷◌}
use native.Mathlib.Omega.{arith}
use lib.ListN.{length, drop, length-append}
use lib.Seq.{sets}
use borrow.Author.Tests.{le-leb}
use Rattle.std.specs.Prelude.{Ok}
use Rattle.ground.specs.Part.{part}
use Rattle.rfc.specs.Message.{option_layout}
use Rattle.packet.specs.Packet.{Stores, store_of, bytes_in, value_of}
use Rattle.packet.specs.Meaning.{option_of}
use Rattle.packet.specs.declared.OptionRecord.{OptionRecord}
use Rattle.judging.specs.Judge.{lengths_of, falling, bad_value, bad_values}
use Rattle.judging.proofs.Good.{value_inside, value_length}
use Rattle.judging.proofs.Ranges.{length_in_lem, value_exactly}
use Rattle.laying.specs.Laying.{size_of}
use Rattle.laying.proofs.Laid.{lays_given}
use Rattle.laying.proofs.Pieces.{option_delta, option_length}
use Rattle.writing.proofs.Options.{Putting, leftover}
use Rattle.writing.proofs.Options as Exactly
use Rattle.flat_writing.specs.Loosely.{Like, Loosely}
use Rattle.flat_writing.proofs.Loosely.{like_same, like_like, like_put}

-- Before the option at an index.
pub record Going (s : Stores) (rs : List OptionRecord) (old : List ℕ) (from end : ℕ) (out : List ℕ) (before next i : ℕ) : Type 0 where
  pub exact : List ℕ
  pub putting : Putting s rs old from exact before next i
  pub like : Like next end out exact
  pub kept : length out ≡ length old

module _ (s : Stores) (rs : List OptionRecord) (old : List ℕ) (from end : ℕ) (h : from + length (leftover s rs 0 0) ≤ end) (k : end ≤ length old) where
  pub start : falling 0 rs ≡ false → bad_values (lengths_of s) rs ≡ false → Going s rs old from end old 0 from 0
  start o v = record { exact = old; putting = Exactly.start s rs old from (omega arith) o v; like = like_same from end old; kept = refl }

  module _ (out : List ℕ) (before next i : ℕ) (g : Going s rs old from end out before next i) where
    -- What is left ends where all end.
    ends : next + length (leftover s rs before i) ≤ end
    ends = omega (arith, h, (g.putting.whole _ _ (record { next = refl; out = refl })).next)

    module _ (r : OptionRecord) (d : drop i rs ≡ r ∷ drop (i + 1) rs) where
      pub room : next + length (option_layout before (option_of s r)) ≤ end
      room = omega (arith, ends, simp length-append at (ap length (Exactly.split s rs old from g.exact before next i g.putting r d)))

      pub rises : before ≤ r.number
      rises = Exactly.rises s rs old from g.exact before next i g.putting r d

      good : (bad_value (lengths_of s) r ≡ false) × (bad_values (lengths_of s) (drop (i + 1) rs) ≡ false)
      good = Exactly.good s rs old from g.exact before next i g.putting r d

      turned : (q : ℕ) (new : List ℕ) → Loosely out next (option_layout before (option_of s r)) end q new → Going s rs old from end new r.number q (i + 1)
      turned q new l =
          let bytes = option_layout before (option_of s r) in
          let given = Exactly.option_given s rs old from g.exact before next i g.putting r d in
          let same : length out ≡ length g.exact = g.kept ∙ sym g.putting.kept in
          record {
            exact = sets g.exact next bytes;
            putting = rw l.next (Exactly.turn s rs old from g.exact before next i g.putting r d (Ok (length bytes)) (length bytes) _ (lays_given _ next bytes g.exact (length bytes) _ given refl) refl);
            like = like_like q end new (sets out next bytes) _ l.like (rw l.next (like_put out g.exact next bytes end g.like room (omega (arith, g.kept)) same));
            kept = l.kept ∙ g.kept;
          }

      module _ (store : List ℕ) (e : store ≡ store_of s r.home) where
        inside : r.start + r.len ≤ length store
        inside = omega (arith, value_inside (lengths_of s) r good.0, ap length e ∙ length_in_lem s r.home)

        -- The value's bytes are that part of its store.
        value_is : part store r.start r.len ≡ value_of s r
        unfolding bytes_in
        value_is = rw (sym e, le-leb (r.start + r.len) (length store) inside)

        layout_is : option_layout 0 (record { number = r.number - before; value = part store r.start r.len }) ≡ option_layout before (option_of s r)
        layout_is = option_delta before r.number (part store r.start r.len) ∙ ap (λ (v : List ℕ). option_layout before (record { number = r.number; value = v })) value_is

        pub option_fits : (r.len ≤ 65804) × (r.start + r.len ≤ length store) × (next + size_of (r.number - before) r.len ≤ end)
        option_fits =
            (value_length (lengths_of s) r good.0, inside, omega (arith, room, rw (value_exactly s r good.0) at (option_length before (option_of s r))))

        -- One option more was put.
        pub turn : (q : ℕ) (new : List ℕ) → Loosely out next (option_layout 0 (record { number = r.number - before; value = part store r.start r.len })) end q new → Going s rs old from end new r.number q (i + 1)
        turn q new l = turned q new (rw layout_is at l)

    -- All were put.
    pub all : drop i rs ≡ [] → Loosely old from (leftover s rs 0 0) end next out
    all e =
        let p = Exactly.all s rs old from g.exact before next i g.putting e in
        record { next = p.next; like = rw (sym p.out) g.like; kept = g.kept }
