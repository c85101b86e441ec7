-- How long printed text can be: the lines of a message against the bytes of its layout.
use Prim.Native.Nat.{ℕ, suc, ◌+◌, ◌*◌, ◌-◌, ◌≤◌}
use mathlib.Core.List.{List, [], ◌∷◌, ◌++◌}
use native.Mathlib.Omega.{arith}
use lib.ListN.{length, length-append}
use Rattle.rfc.specs.Message.{Message, Opt, extension_of, option_layout, options_layout, payload_layout, header_layout, layout}
use Rattle.code_text.specs.CodeText.{code_text}
use Rattle.decimal.specs.Decimal.{decimal}
use Rattle.decimal.proofs.Laws.{decimal_size}
use Rattle.hexadecimal.proofs.Laws.{hex_size}
use Rattle.lines.specs.Lines.{space, head, token, option, payload, refusal, numbered, bytes_line, head_line, option_line, option_lines, message_lines, refusal_line}

-- The bytes of an option: at least its value and one more.
layout_size : (before : ℕ) (o : Opt) → suc (length o.value) ≤ length (option_layout before o)
unfolding option_layout
layout_size before o =
    let delta = extension_of (o.number - before) in
    let len = extension_of (length o.value) in
    omega (arith, length-append delta (len ++ o.value), length-append len o.value)

-- The bytes of a payload: at least the payload.
payload_size : (bytes : List ℕ) → length bytes ≤ length (payload_layout bytes)
payload_size [] = omega arith
payload_size (b ∷ bytes) = omega arith

module _ (end : ℕ) where
  pub bytes_line_size : (word bytes : List ℕ) → length (bytes_line end word bytes) ≤ length word + 2 * length bytes + 2
  bytes_line_size word bytes = simp length-append (omega (arith, hex_size bytes))

  pub option_line_size : (number : ℕ) (value : List ℕ) → length (option_line end number value) ≤ 2 * length value + 30
  option_line_size number value =
      omega (arith, length-append (numbered option number) (bytes_line end space value), length-append option (decimal number), decimal_size 20 number, bytes_line_size space value)

  pub header_line_size : (version type code id : ℕ) → length (head_line end version type code id) ≤ 73
  header_line_size version type code id =
      let first : List ℕ = numbered head version ++ numbered space type in
      let code-text : List ℕ = space ++ code_text code in
      omega (
        arith,
        length-append (first ++ code-text ++ numbered space id) (end ∷ []),
        length-append (first ++ code-text) (numbered space id),
        length-append first code-text,
        length-append (numbered head version) (numbered space type),
        decimal_size 20 version,
        decimal_size 20 type,
        decimal_size 20 id,
      )

  pub refusal_line_size : (k : ℕ) → length (refusal_line end k) ≤ 29
  refusal_line_size k = omega (arith, length-append (numbered refusal k) (end ∷ []), decimal_size 20 k)

  -- A line is at most twice as long as its option's bytes, and 28 more.
  pub option_lines_size : (before : ℕ) (os : List Opt) → length (option_lines end os) ≤ 2 * length (options_layout before os) + 28 * length os
  option_lines_size before [] = omega arith
  option_lines_size before (o ∷ os) =
      omega (
        arith,
        length-append (option_line end o.number o.value) (option_lines end os),
        length-append (option_layout before o) (options_layout o.number os),
        option_line_size o.number o.value,
        layout_size before o,
        option_lines_size o.number os,
      )

  -- The lines of a message are at most twice as long as its layout, and a little for each line.
  pub message_size_lem : (m : Message) → length (message_lines end m) ≤ 2 * length (layout m) + 28 * length m.options + 83
  unfolding layout header_layout
  message_size_lem m =
      let head-line : List ℕ = head_line end m.version m.type m.code m.id in
      let token-line : List ℕ = bytes_line end token m.token in
      let options : List ℕ = option_lines end m.options in
      omega (
        arith,
        length-append (head-line ++ token-line ++ options) (bytes_line end payload m.payload),
        length-append (head-line ++ token-line) options,
        length-append head-line token-line,
        header_line_size m.version m.type m.code m.id,
        bytes_line_size token m.token,
        bytes_line_size payload m.payload,
        option_lines_size 0 m.options,
        length-append m.token (options_layout 0 m.options ++ payload_layout m.payload),
        length-append (options_layout 0 m.options) (payload_layout m.payload),
        payload_size m.payload,
      )
