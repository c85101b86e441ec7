-- A message built call by call in a lent output (docs/RULES.md, Building): what each call answers, in the order of its refusals,
-- and what it leaves in the output.
use Rattle.std.specs.Prelude.{ℕ, ◌+◌, ◌-◌, ◌≡◌, Bool, true, false, not, List, [], length, ltb, eqb, Result, Ok, Err}
use Rattle.ground.specs.Choice.{pick, both}
use Rattle.rfc.specs.Message.{Opt, option_layout, payload_layout}
use Rattle.refusal.specs.Answer.{Answer, given, refused, onward, room_from, after}
use Rattle.refusal.specs.Number.{number_of}
use Rattle.refusal.specs.declared.Refusal.{Refusal}
use Rattle.class.specs.Class.{byte_of}
use Rattle.class.specs.declared.MessageClass.{MessageClass}
use Rattle.class.specs.declared.MessageClass.TheVariants.{Empty, Request, Response, Reserved}
use Rattle.header.specs.declared.Header.{Header}
use Rattle.packet.specs.Limits.{max_token, max_value, max_store, max_options}
use Rattle.laying.specs.Laying.{Lays, head_layout}
use Rattle.building.specs.declared.Builder.{Builder}

-- The answer of a call after which the message goes on: the builder for the next.
abbrev pub built_of : Result Builder Refusal → Answer Builder
built_of (Ok b) = given b
built_of (Err e) = refused (number_of e)

-- What such a call promises, of its answer and of the output that is lent: the bytes stand at their place, or all is as it was.
pub record Builds (a : Answer Builder) (at : ℕ) (bytes old : List ℕ) (r : Result Builder Refusal) (new : List ℕ) : Type 0 where
  pub answer : built_of r ≡ a
  pub output : new ≡ after a at bytes old

-- The code is that of an empty message: to strict every code byte 0, to plain class `Empty` alone, whose payload writing drops
-- too.
abbrev pub empty_in : Bool → MessageClass → Bool
empty_in true code = eqb (byte_of code) 0
empty_in false Empty = true
empty_in false (Request r) = false
empty_in false (Response r) = false
empty_in false (Reserved b) = false

-- Code byte 0 with a token of this length.
abbrev pub token_carried : MessageClass → ℕ → Bool
token_carried code len = both (eqb (byte_of code) 0) (ltb 0 len)

-- What strict asks of a header and a token of this length: a version that is not 1 gives 7, a token over 8 bytes 2, a token in
-- an empty message 8.
unfoldable pub strict_start : Bool → Header → ℕ → Answer (Unit {0})
strict_start strict h len =
    pick (both strict (not (eqb h.version 1))) (refused 7)
    (pick (both strict (ltb 8 len)) (refused 2)
    (pick (both strict (token_carried h.code len)) (refused 8) (given tt)))

-- What is asked of them before their room: a version over 3 or a token over 15 bytes gives 11, then what strict asks.
unfoldable pub start_judged : Bool → Header → ℕ → Answer (Unit {0})
start_judged strict h len =
    pick (ltb 3 h.version) (refused 11) (pick (ltb max_token len) (refused 11) (strict_start strict h len))

-- The builder after header and token: no option yet, and room for 128.
abbrev pub begun : Bool → Header → List ℕ → Builder
begun strict h token =
    record {
      strict = strict;
      empty = empty_in strict h.code;
      before = 0;
      at = length (head_layout h token);
      left = max_options;
    }

-- Header and token at the start of an output of this length: what is asked of them, then NoRoom (12).
abbrev pub starting : Bool → Header → List ℕ → ℕ → Answer Builder
starting strict h token room =
    onward (start_judged strict h (length token)) (λ _. room_from room 0 (head_layout h token) (begun strict h token))

-- The builder after an option more.
abbrev pub added : Builder → Opt → Builder
added b o =
    record {
      strict = b.strict;
      empty = b.empty;
      before = o.number;
      at = b.at + length (option_layout b.before o);
      left = b.left - 1;
    }

-- An option after what was built: no option left, a number that falls or a value over 65,804 bytes gives 11, an empty message in
-- strict mode 8, then NoRoom (12).
unfoldable pub adding : Builder → Opt → ℕ → Answer Builder
adding b o room =
    pick (eqb b.left 0) (refused 11)
    (pick (ltb o.number b.before) (refused 11)
    (pick (ltb max_value (length o.value)) (refused 11)
    (pick (both b.strict b.empty) (refused 8) (room_from room b.at (option_layout b.before o) (added b o)))))

-- The payload that is sent: an empty message has none. Strict refuses one that is handed over, plain drops it.
abbrev pub sent_by : Bool → List ℕ → List ℕ
sent_by empty payload = pick empty [] payload

-- The end of the message: a payload over 70,000 bytes gives 10, a payload of an empty message in strict mode 8, then NoRoom
-- (12); else the length of all that was built.
unfoldable pub ending : Builder → List ℕ → ℕ → Answer ℕ
ending b payload room =
    pick (ltb max_store (length payload)) (refused 10)
    (pick (both b.empty (both b.strict (ltb 0 (length payload)))) (refused 8)
    (room_from room b.at (payload_layout (sent_by b.empty payload)) (b.at + length (payload_layout (sent_by b.empty payload)))))

-- What `Builder::start` promises.
abbrev pub Starts : Bool → Header → List ℕ → List ℕ → Result Builder Refusal → List ℕ → Type 0
Starts strict h token old r new = Builds (starting strict h token (length old)) 0 (head_layout h token) old r new

-- What `Builder::option` promises.
abbrev pub Adds : Builder → Opt → List ℕ → Result Builder Refusal → List ℕ → Type 0
Adds b o old r new = Builds (adding b o (length old)) b.at (option_layout b.before o) old r new

-- What `Builder::payload` promises: marker and payload, and nothing for no payload.
abbrev pub Ends : Builder → List ℕ → List ℕ → Result ℕ Refusal → List ℕ → Type 0
Ends b payload old r new = Lays (ending b payload (length old)) b.at (payload_layout (sent_by b.empty payload)) old r new

-- The refusal of an option in an empty message in strict mode, by its numbers.
unfoldable pub bare_refusal : ℕ → ℕ → ℕ → ℕ
bare_refusal before number len = pick (ltb number before) 11 (pick (ltb max_value len) 11 8)

-- The end of an empty message, by the length of its payload.
unfoldable pub bare_end : Bool → ℕ → ℕ → ℕ → Answer ℕ
bare_end strict at len room = pick (both strict (ltb 0 len)) (refused 8) (pick (ltb room at) (refused 12) (given at))
