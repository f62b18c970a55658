-- NO CHIP LOCKS ITSELF OUT: a call on a chip in range leaves it in range. Said once, of the face of any chip: its
-- calls, what is in range, which tables are short, what is outside, and its reset.
use Rattle.std.specs.Prelude.{◌≡◌, Bool, false}
use Rattle.vocabulary.specs.Outcome.{Outcome}
use Rattle.vocabulary.specs.Run.{Accepted, Keeps}
use Rattle.hd153108.specs.Hd153108 as A
use Rattle.ms622424.specs.Ms622424 as B
use Rattle.rgb640.specs.Rgb640 as C

pub record NeverLockedOut {C K : Type 0} (called : K → C → Outcome C) (InRange : C → Type 0)
    (short outside : C → Bool) (reset : K) : Type 0 where
  -- a chip in range is refused neither for its tables nor for its state
  pub clear : (c : C) → InRange c → (short c ≡ false) × (outside c ≡ false)
  -- whatever the call, it stays in range
  pub keeps : Keeps called InRange
  -- and an accepted reset brings there any chip whose tables have their lengths
  pub restores : (c : C) → short c ≡ false → Accepted called reset c → InRange (called reset c).left

pub record NoneLockedOut : Type 0 where
  pub a : NeverLockedOut A.called A.InRange A.short A.outside A.resets
  pub b : NeverLockedOut B.called B.InRange B.short B.outside B.resets
  pub c : NeverLockedOut C.called C.InRange C.short C.outside C.resets
