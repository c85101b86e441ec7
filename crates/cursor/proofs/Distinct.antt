-- The definitions that tell the answers of starts and steps tell them apart.
use mathlib.Core.Path.{◌≡◌, ap}
use Rattle.std.specs.Prelude.{Result, Ok, Err}
use Rattle.refusal.specs.Number.{number_of}
use Rattle.refusal.specs.declared.Refusal.{Refusal}
use Rattle.refusal.proofs.Answers.{same_given}
use Rattle.refusal.proofs.Distinct.{distinct}
use Rattle.packet.specs.declared.OptionRecord.{OptionRecord}
use Rattle.cursor.specs.Cursor.{Started, start_read, record_of, step_read}
use Rattle.cursor.specs.declared.Start.{Start}
use Rattle.cursor.specs.declared.Step.{Step}
use Rattle.cursor.specs.declared.Step.TheVariants.{Option, Payload}

pub one_start : (x y : Result Start Refusal) → start_read x ≡ start_read y → x ≡ y
one_start (Ok x) (Ok y) e =
    let k : ◌≡◌ {A = Started} (record { raw = x.raw; cursor = x.cursor }) (record { raw = y.raw; cursor = y.cursor }) = same_given e in
    λ i. Ok (record { raw = ap (λ (o : Started). o.raw) k i; cursor = ap (λ (o : Started). o.cursor) k i })
one_start (Ok x) (Err b) e = cc
one_start (Err a) (Ok y) e = cc
one_start (Err a) (Err b) e = let k : number_of a ≡ number_of b = cc in rw (distinct a b k)

pub one_step : (x y : Result Step Refusal) → step_read x ≡ step_read y → x ≡ y
one_step (Ok (Option n v c)) (Ok (Option m w d)) e =
    let k : record_of n v ≡ record_of m w = cc in
    let next : c ≡ d = cc in
    let value : v ≡ w = λ i. record { home = ap (λ (r : OptionRecord). r.home) k i; start = ap (λ (r : OptionRecord). r.start) k i; len = ap (λ (r : OptionRecord). r.len) k i } in
    λ i. Ok (Option (ap (λ (r : OptionRecord). r.number) k i) (value i) (next i))
one_step (Ok (Option n v c)) (Ok (Payload q)) e = cc
one_step (Ok (Option n v c)) (Err b) e = cc
one_step (Ok (Payload p)) (Ok (Option m w d)) e = cc
one_step (Ok (Payload p)) (Ok (Payload q)) e = cc
one_step (Ok (Payload p)) (Err b) e = cc
one_step (Err a) (Ok (Option m w d)) e = cc
one_step (Err a) (Ok (Payload q)) e = cc
one_step (Err a) (Err b) e = let k : number_of a ≡ number_of b = cc in rw (distinct a b k)
