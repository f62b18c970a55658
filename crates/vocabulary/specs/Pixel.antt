-- A pixel's answer: its refusal and three bytes. It hands no chip back, since a pixel changes none.
use Rattle.std.specs.Prelude.{ℕ, Result, Ok, Err}
use Rattle.vocabulary.specs.Outcome.{Outcome}
use Rattle.vocabulary.specs.Component.{colour_word}
use Rattle.vocabulary.specs.Refusal.{number}
use Rattle.vocabulary.specs.declared.Refusal.{Refusal}
use Rattle.vocabulary.specs.declared.Colour.{Colour}
use Rattle.vocabulary.specs.declared.Shown.{Shown}

-- as an outcome of the chip that it was asked of; the bytes are below 256 by their types, so that the value tells each
abbrev pub showing : {C : Type 0} → Shown → C → Outcome C
showing a c = record {
  refusal = a.refusal;
  value = colour_word a.red a.green a.blue;
  count = 0;
  line = 0;
  left = c;
}

-- a refused pixel's answer
abbrev pub dark : ℕ → Shown
dark n = record { refusal = n; red = 0; green = 0; blue = 0 }

-- the answer that a pixel's result makes
abbrev pub telling_pixel : Result Colour Refusal → Shown
telling_pixel (Ok c) = record { refusal = 0; red = c.red; green = c.green; blue = c.blue }
telling_pixel (Err r) = dark (number r)
