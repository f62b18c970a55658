-- The words of a sheet's lines are the grammar's. Assumes nothing.
use mathlib.Core.Path.{refl}
use Rattle.sheet.specs.Sheet.{front}
use Rattle.sheet.specs.Words.{Words}

pub words : Words
unfolding front
words = record {
  chip = refl;
  readmask = refl;
  blinkmask = refl;
  overlay = refl;
  timing = refl;
  o = λ e. refl;
  c = λ e. refl;
}
