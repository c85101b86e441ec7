-- Values that a text can say: what the identity on options asks.
use Rattle.std.specs.Prelude.{ℕ, ◌≤◌, ◌≡◌, false, List, [], ◌∷◌, length}
use Rattle.ground.specs.Part.{Bytes}
use Rattle.rfc.specs.Text.{Text}
use Rattle.rfc.specs.Uri.{Kind, segment, query}
use Rattle.rfc.specs.Target.{Target, one_empty, dotted}

-- UTF-8 of at most 255 bytes, and no segment `.` or `..`.
pub record Sayable (kind : Kind) (v : List ℕ) : Type 0 where
  pub bytes : Bytes v
  pub utf8 : Text v
  pub short : length v ≤ 255
  pub undotted : dotted kind v ≡ false

abbrev pub AllSayable : Kind → List (List ℕ) → Type 0
AllSayable kind [] = Unit {0}
AllSayable kind (v ∷ vs) = Sayable kind v × AllSayable kind vs

-- Every value is one, the path isn't one empty segment, and the query isn't one empty part.
pub record SayableTarget (t : Target) : Type 0 where
  pub segments : AllSayable segment t.path
  pub parts : AllSayable query t.query
  pub path : one_empty t.path ≡ false
  pub query : one_empty t.query ≡ false
