-- Bytes put into the edit store: a range that they do not touch names what it named, and their own range names them.
use Prim.Native.Nat.{ℕ, ◌+◌, ◌≤◌}
use mathlib.Core.Path.{◌≡◌, refl, ap}
use mathlib.Core.List.{List, [], ◌∷◌, map}
use mathlib.Core.Logic.{◌⊎◌, ⊎_elim}
use lib.ListN.{length, take, drop}
use lib.Seq.{sets, length-sets}
use borrow.Author.Tests.{le-leb}
use Rattle.ground.proofs.Part.{part_before, part_after, part_put}
use Rattle.packet.specs.Packet.{chosen, Stores, stores, store_of, bytes_in, bytes_of, range_of, records_of}
use Rattle.packet.specs.Meaning.{option_of, meaning}
use Rattle.packet.specs.declared.Packet.{Packet}
use Rattle.packet.specs.declared.OptionRecord.{OptionRecord}
use Rattle.packet.specs.declared.Range.{Range}
use Rattle.packet.specs.declared.Home.{Home}
use Rattle.packet.specs.declared.Home.TheVariants.{Datagram, Edits}
use Rattle.typed_options.specs.Apart.{Apart, AllApart, Untouched}

module _ (old : List ℕ) (start : ℕ) (bytes : List ℕ) where
  apart_in : (from size : ℕ) → (from + size ≤ start) ⊎ (start + length bytes ≤ from) → bytes_in (sets old start bytes) from size ≡ bytes_in old from size
  unfolding bytes_in
  apart_in from size a =
      let same : take size (drop from (sets old start bytes)) ≡ take size (drop from old) =
      ⊎_elim (λ h. part_before bytes old start from size h) (λ h. ap (take size) (part_after bytes old start from h)) a in
      rw (length-sets old start bytes, same) refl

  pub own_bytes : start + length bytes ≤ length old → bytes_in (sets old start bytes) start (length bytes) ≡ bytes
  unfolding bytes_in
  own_bytes h =
      let inside : start + length bytes ≤ length (sets old start bytes) = rw length-sets h in
      rw (le-leb (start + length bytes) (length (sets old start bytes)) inside) (part_put old start bytes h)

  -- The bytes of a range, the options of records, and the whole meaning, beside any datagram.
  module _ (d : List ℕ) where
    abbrev was : Stores
    was = stores d old

    abbrev then : Stores
    then = stores d (sets old start bytes)

    pub apart_bytes : (r : Range) → Apart start (length bytes) r → bytes_of then r ≡ bytes_of was r
    apart_bytes r = go r.home
      where
        go : (h : Home) → chosen h (Unit {0}) ((r.start + r.len ≤ start) ⊎ (start + length bytes ≤ r.start))
            → bytes_in (store_of then h) r.start r.len ≡ bytes_in (store_of was h) r.start r.len
        go Datagram a = refl
        go Edits a = apart_in r.start r.len a

    pub apart_options : (rs : List OptionRecord) → AllApart start (length bytes) rs → map (option_of then) rs ≡ map (option_of was) rs
    apart_options [] a = refl
    apart_options (r ∷ rs) a =
        let first : bytes_of then (range_of r) ≡ bytes_of was (range_of r) = apart_bytes (range_of r) a.0 in
        rw (first, apart_options rs a.1) refl

    pub meaning_apart : (p : Packet) → Untouched start (length bytes) p (records_of p) → meaning then p ≡ meaning was p
    meaning_apart p u =
        let token = apart_bytes p.token u.token in
        let payload = apart_bytes p.payload u.payload in
        rw (token, payload, apart_options (records_of p) u.options) refl
