-- Values are read back from their text, and so what was read from any text is read from its own.
use Prim.Native.Nat.{ℕ, ◌+◌}
use mathlib.Core.Path.{◌≡◌, refl}
use mathlib.Core.List.{List, [], ◌∷◌, map}
use lib.ListN.{length}
use borrow.Author.Tests.{le-ltb}
use Rattle.rfc.specs.Uri.{Kind, segment, query}
use Rattle.rfc.specs.Percent.{code, good}
use Rattle.rfc.specs.Target.{Target, Values, text_of}
use Rattle.rfc.proofs.Uri.{is_true}
use Rattle.rfc.proofs.Percent.{decode_code}
use Rattle.rfc.proofs.Target.{path_joined, parts_joined, path_of_text, query_of_text}
use Rattle.utf8.specs.Walk.{text}
use Rattle.utf8.proofs.Grammar.{texts}
use Rattle.uri_text.specs.Reading.{ruled, values_of, reading}
use Rattle.uri_text.specs.Sayable.{Sayable, AllSayable, SayableTarget}
use Rattle.uri_text.proofs.Said.{says}

-- A value that can be said meets the rules.
ruled_good : (kind : Kind) (index : ℕ) (v : List ℕ) → Sayable kind v → ruled kind index v ≡ good v
unfolding ruled
ruled_good kind index v s = rw (is_true (text v) ((texts v).1 s.utf8), le-ltb 255 (length v) s.short, s.undotted) refl

values_code : (kind : Kind) (index : ℕ) (vs : List (List ℕ)) → AllSayable kind vs → values_of kind index (map (code kind) vs) ≡ good vs
values_code kind index [] a = refl
values_code kind index (v ∷ vs) a =
    rw (decode_code kind v a.0.bytes, ruled_good kind index v a.0, values_code kind (index + 1) vs a.1) refl

pub all_bytes : (kind : Kind) (vs : List (List ℕ)) → AllSayable kind vs → Values vs
all_bytes kind [] a = tt
all_bytes kind (v ∷ vs) a = (a.0.bytes, all_bytes kind vs a.1)

-- Options to text to options is the identity.
pub identity : (t : Target) → SayableTarget t → reading (text_of t) ≡ good t
unfolding reading
identity t s =
    rw (
      path_of_text t (all_bytes segment t.path s.segments),
      query_of_text t (all_bytes segment t.path s.segments),
      path_joined t.path,
      parts_joined segment t.path (all_bytes segment t.path s.segments) s.path,
      values_code segment 0 t.path s.segments,
      parts_joined query t.query (all_bytes query t.query s.parts) s.query,
      values_code query (length t.path) t.query s.parts,
    ) refl

-- What is read from a text is read from its own text too: a second pass changes nothing.
pub stable : (s : List ℕ) (t : Target) → reading s ≡ good t → reading (text_of t) ≡ good t
stable s t e = identity t (says s t e)
