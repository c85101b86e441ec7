-- Records at the edges of the register, computed by the definitions, so that a slip in a definition shows.
use Prim.Native.Nat.{ℕ}
use mathlib.Core.Path.{◌≡◌, refl}
use mathlib.Core.Bool.{Bool, true, false}
use mathlib.Core.List.{List, [], ◌∷◌, map}
use Rattle.rfc.specs.Recognised.{recognised, fate}
use Rattle.packet.specs.declared.OptionRecord.{OptionRecord}
use Rattle.packet.specs.declared.Home.TheVariants.{Datagram}
use Rattle.register.specs.Register.{register, is_recognised}
use Rattle.register.specs.Check.{passes, refused_at, fates, first_rejected, is_kept}

-- A record of a number whose value has a length.
option : ℕ → ℕ → OptionRecord
option number len = record { number = number; home = Datagram; spare = 0; start = 0; len = len }

-- Records that pass, and whether each is kept.
pub record Kept : Type 0 where
  pub records : List OptionRecord
  pub marked : List Bool

-- A mark for each: an elective record of a bad length, a surplus one and an unlisted one are passed over. One that is passed over is
-- no first occurrence: after `12:3` comes the first 12, and after `12:2` there is no second one, whatever stands between.
pub table : List Kept
table =
    record { records = []; marked = [] }
    ∷ record { records = option 4 9 ∷ option 4 8 ∷ []; marked = false ∷ true ∷ [] }
    ∷ record { records = option 12 3 ∷ option 12 2 ∷ option 12 1 ∷ []; marked = false ∷ true ∷ false ∷ [] }
    ∷ record { records = option 12 2 ∷ option 12 3 ∷ option 12 1 ∷ []; marked = true ∷ false ∷ false ∷ [] }
    ∷ record { records = option 60 5 ∷ option 60 4 ∷ option 60 4 ∷ []; marked = false ∷ true ∷ false ∷ [] }
    ∷ record { records = option 28 9 ∷ option 258 9 ∷ []; marked = false ∷ false ∷ [] }
    ∷ record { records = option 2 0 ∷ option 2 0 ∷ []; marked = false ∷ false ∷ [] }
    ∷ record { records = option 0 0 ∷ option 0 0 ∷ option 6 4 ∷ []; marked = false ∷ false ∷ false ∷ [] }
    ∷ record { records = option 1 8 ∷ option 1 0 ∷ option 1 8 ∷ []; marked = true ∷ true ∷ true ∷ [] }
    ∷ record { records = option 11 255 ∷ option 15 0 ∷ option 35 1034 ∷ []; marked = true ∷ true ∷ true ∷ [] }
    ∷ []

pub kept_examples : map (λ (e : Kept). map is_kept (fates [] e.records)) table ≡ map (λ (e : Kept). e.marked) table
unfolding table option register is_recognised recognised fate
kept_examples = refl

pub pass_examples : map (λ (e : Kept). first_rejected 0 (fates [] e.records)) table ≡ map (λ (e : Kept). passes) table
unfolding table option register is_recognised recognised fate
pass_examples = refl

-- Records that don't pass, and the index of the first critical one that isn't recognised: those passed over count too.
pub record Refused : Type 0 where
  pub records : List OptionRecord
  pub index : ℕ

pub refusals : List Refused
refusals =
    record { records = option 9 0 ∷ []; index = 0 }
    ∷ record { records = option 5 1 ∷ []; index = 0 }
    ∷ record { records = option 3 0 ∷ []; index = 0 }
    ∷ record { records = option 11 256 ∷ []; index = 0 }
    ∷ record { records = option 5 0 ∷ option 5 0 ∷ []; index = 1 }
    ∷ record { records = option 12 3 ∷ option 17 3 ∷ []; index = 1 }
    ∷ record { records = option 6 3 ∷ option 9 0 ∷ option 9 0 ∷ []; index = 1 }
    ∷ record { records = option 4 9 ∷ option 5 0 ∷ option 5 0 ∷ []; index = 2 }
    ∷ record { records = option 11 255 ∷ option 15 0 ∷ option 35 1035 ∷ []; index = 2 }
    ∷ record { records = option 2 300 ∷ option 65534 0 ∷ option 65535 0 ∷ []; index = 2 }
    ∷ record { records = option 14 0 ∷ option 14 0 ∷ option 17 0 ∷ option 17 0 ∷ []; index = 3 }
    ∷ []

pub refusal_examples : map (λ (e : Refused). first_rejected 0 (fates [] e.records)) refusals ≡ map (λ (e : Refused). refused_at 16 e.index) refusals
unfolding refusals option register is_recognised recognised fate
refusal_examples = refl
