-- No second answer meets a promise. A promise is an equation between the answer, told by a definition, and a definition of the
-- arguments; so it has one answer where that definition tells answers apart. Those of the codec stand here, the others on the page of
-- their subject.
use Rattle.std.specs.Prelude.{◌≡◌}
use Rattle.refusal.specs.Answer.{written, outcome}
use Rattle.decimal.specs.Decimal.{decimal_of}
use Rattle.header.specs.Header.{raw_read}
use Rattle.judging.specs.Judge.{judged}
use Rattle.option_reading.specs.Answers.{found_of}
use Rattle.reading.specs.Reading.{decoded}
use Rattle.unflat.specs.Unflat.{taken}
use Rattle.guarantees.specs.Apart.{TellsApart}

-- An equation has one answer.
abbrev pub OneAnswer : Type 1
OneAnswer = (A B : Type 0) (f : A → B) → TellsApart f → (d : B) (x y : A) → f x ≡ d → f y ≡ d → x ≡ y

-- Every definition that a promise of the codec tells its answer by. (The other promises name the answer itself.)
pub record Told : Type 0 where
  pub writers : TellsApart written
  pub outcomes : TellsApart outcome
  pub decimals : TellsApart decimal_of
  pub raw_headers : TellsApart raw_read
  pub judgements : TellsApart judged
  pub places : TellsApart found_of
  pub packets_read : TellsApart decoded
  pub flat_packets : TellsApart taken
