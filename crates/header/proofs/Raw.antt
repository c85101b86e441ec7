-- Laws of headers: types and their numbers, a raw header and its bytes, a header and its raw header, and the layout of a message.
use Prim.Native.Nat.{ℕ, ◌+◌, ◌*◌, ◌/◌, ◌%◌, ◌<◌, ◌≤◌}
use mathlib.Core.Path.{◌≡◌, refl, sym, ap, ◌∙◌}
use mathlib.Core.List.{List, [], ◌∷◌, ◌++◌}
use native.Mathlib.Omega.{arith}
use lib.Dec.{lit<}
use lib.ListN.{length, take}
use borrow.Author.Tests.{le-ltb}
use Rattle.ground.specs.Part.{Bytes}
use Rattle.rfc.specs.Message.{Opt, header_layout}
use Rattle.ground.proofs.Choice.{on_eq}
use Rattle.refusal.specs.Answer.{given, Beside}
use Rattle.refusal.specs.Number.{number_of}
use Rattle.std.specs.Prelude.{Result, Ok, Err}
use Rattle.refusal.specs.declared.Refusal.{Refusal}
use Rattle.refusal.proofs.Distinct.{distinct}
use Rattle.class.specs.Class.{byte_of, class_of}
use Rattle.class.proofs.Class.{byte_back}
use Rattle.header.specs.Header.{number_of_type, type_of, new_raw, raw_bytes, raw_in, raw_read, new_header, header_of, token_of, first_byte, raw_of, setting_of}
use Rattle.header.specs.declared.MessageType.{MessageType}
use Rattle.header.specs.declared.MessageType.TheVariants.{Confirmable, NonConfirmable, Acknowledgement, Reset}
use Rattle.header.specs.declared.HeaderRaw.{HeaderRaw}
use Rattle.header.specs.declared.Header.{Header}

-- A type's number has two bits.
pub type_small : (t : MessageType) → number_of_type t < 4
type_small Confirmable = lit< tt
type_small NonConfirmable = lit< tt
type_small Acknowledgement = lit< tt
type_small Reset = lit< tt

-- A type comes back from its number.
pub type_back : (t : MessageType) → type_of (number_of_type t) ≡ t
unfolding type_of
type_back Confirmable = refl
type_back NonConfirmable = refl
type_back Acknowledgement = refl
type_back Reset = refl

-- Of a number its low two bits come back, so a number below four itself.
pub number_back : (n : ℕ) → number_of_type (type_of n) ≡ n % 4
unfolding type_of
number_back n =
    on_eq (λ (t : MessageType). number_of_type t ≡ n % 4) (n % 4) 0 (λ e. sym e)
    (λ a. on_eq (λ (t : MessageType). number_of_type t ≡ n % 4) (n % 4) 1 (λ e. sym e)
    (λ b. on_eq (λ (t : MessageType). number_of_type t ≡ n % 4) (n % 4) 2 (λ e. sym e)
    (λ d. omega (arith, a, b, d))))

-- What a type is of a number says nothing of the number's higher bits.
pub type_low : (n : ℕ) → type_of (n % 4) ≡ type_of n
unfolding type_of
type_low n = let e : n % 4 % 4 ≡ n % 4 = omega arith in rw e

-- The four bytes of a raw header read as that raw header, whatever follows.
pub raw_back : (raw : HeaderRaw) (rest : List ℕ) → raw_in (raw_bytes raw ++ rest) ≡ given raw
unfolding raw_in
raw_back raw rest =
    let long : 4 ≤ length (raw_bytes raw ++ rest) = omega arith in
    let id : raw.message_id / 256 * 256 + raw.message_id % 256 ≡ raw.message_id = omega arith in
    rw (le-ltb _ _ long) (λ i. given (record { ver_type_tkl = raw.ver_type_tkl; code = raw.code; message_id = id i }))

-- Bytes that read as a raw header start with its four bytes.
pub bytes_back : (s : List ℕ) (raw : HeaderRaw) → Bytes s → raw_in s ≡ given raw → raw_bytes raw ≡ take 4 s
unfolding raw_in
bytes_back [] raw bytes e = cc
bytes_back (a ∷ []) raw bytes e = cc
bytes_back (a ∷ b ∷ []) raw bytes e = cc
bytes_back (a ∷ b ∷ h ∷ []) raw bytes e = cc
bytes_back (a ∷ b ∷ h ∷ l ∷ s) raw bytes e =
    let long : 4 ≤ length (a ∷ b ∷ h ∷ l ∷ s) = omega arith in
    let read : HeaderRaw = record { ver_type_tkl = a; code = b; message_id = h * 256 + l } in
    let is : given read ≡ given raw = rw (le-ltb _ _ long) at e in
    let same : read ≡ raw = cc in
    let high : (h * 256 + l) / 256 ≡ h = omega (arith, bytes.1.1.1.0) in
    let low : (h * 256 + l) % 256 ≡ l = omega (arith, bytes.1.1.1.0) in
    ap raw_bytes (sym same) ∙ rw (high, low)

-- The four bytes are bytes.
pub raw_bytes_lem : (raw : HeaderRaw) → raw.ver_type_tkl < 256 → raw.code < 256 → raw.message_id ≤ 65535 → Bytes (raw_bytes raw)
raw_bytes_lem raw a b h = (a, (b, (omega arith, (omega arith, tt))))

-- An answer in the words of the promise is that of one value only.
pub one_raw : (a b : Result HeaderRaw Refusal) → raw_read a ≡ raw_read b → a ≡ b
one_raw (Ok x) (Ok y) e = cc
one_raw (Ok x) (Err k) e = cc
one_raw (Err j) (Ok y) e = cc
one_raw (Err j) (Err k) e = let n : number_of j ≡ number_of k = cc in rw (distinct j k n)

pub one_setting : (h : Header) (a b : Result Header Refusal) → setting_of h a ≡ setting_of h b → a ≡ b
one_setting h (Ok x) (Ok y) e = ap Ok (ap (λ (s : Beside Header). s.value) e)
one_setting h (Ok x) (Err k) e = let n = ap (λ (s : Beside Header). s.answer) e in cc
one_setting h (Err j) (Ok y) e = let n = ap (λ (s : Beside Header). s.answer) e in cc
one_setting h (Err j) (Err k) e =
    let w = ap (λ (s : Beside Header). s.answer) e in
    let n : number_of j ≡ number_of k = cc in
    rw (distinct j k n)

-- A new header is that of a new raw header.
pub new_header_lem : header_of new_raw ≡ new_header
unfolding header_of type_of class_of
new_header_lem = refl

-- The first byte is a byte, and holds what it was made of.
pub first_small : (h : Header) (n : ℕ) → first_byte h n < 256
first_small h n = omega (arith, type_small h.message_type)

-- A header comes back from its raw header up to its version's low two bits and the class of its byte.
pub header_back : (h : Header) (n : ℕ) → header_of (raw_of h n) ≡ record { version = h.version % 4; message_type = h.message_type; code = class_of (byte_of h.code); message_id = h.message_id }
unfolding header_of
header_back h n =
    let v : first_byte h n / 64 ≡ h.version % 4 = omega (arith, type_small h.message_type) in
    let k : first_byte h n / 16 % 4 ≡ number_of_type h.message_type = omega (arith, type_small h.message_type) in
    let t : type_of (first_byte h n / 16) ≡ h.message_type = sym (type_low (first_byte h n / 16)) ∙ (ap type_of k ∙ type_back h.message_type) in
    rw (v, t)

-- A raw header comes back from its header, with the token's length that its first byte gives.
pub raw_header_back : (raw : HeaderRaw) → raw.ver_type_tkl < 256 → raw_of (header_of raw) (token_of raw) ≡ raw
unfolding header_of
raw_header_back raw h =
    let b : ℕ = raw.ver_type_tkl in
    let first : b / 64 % 4 * 64 + number_of_type (type_of (b / 16)) * 16 + b % 16 % 16 ≡ b = omega (arith, number_back (b / 16)) in
    rw (byte_back, first)

-- The four bytes are the header's layout in RFC 7252, section 3, where the version and the token's length have their bits.
pub header_layout_lem : (h : Header) (token : List ℕ) (options : List Opt) (payload : List ℕ) → h.version ≤ 3 → length token ≤ 15 → raw_bytes (raw_of h (length token)) ≡ header_layout (record { version = h.version; type = number_of_type h.message_type; code = byte_of h.code; id = h.message_id; token = token; options = options; payload = payload })
unfolding header_layout
header_layout_lem h token options payload v l =
    let a : h.version % 4 ≡ h.version = omega arith in
    let b : length token % 16 ≡ length token = omega arith in
    rw (a, b)
