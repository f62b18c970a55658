-- THE IMPOSTORS, put to every call of every chip. An impostor is any chip that goes wrong in one way at every call of
-- a kind (every write, every pixel, ..), whatever else it does. `Caught`: it does not keep that kind's promise, the
-- equation with `called`. Where a kind's row does not list one, the chip itself is so, and the row says why.
use Rattle.std.specs.Prelude.{ℕ, ◌≡◌, List, [], ◌∷◌}
use Rattle.vocabulary.specs.Outcome.{Outcome}
use Rattle.vocabulary.specs.Reply.{telling}
use Rattle.vocabulary.specs.Run.{Accepted}
use Rattle.hd153108.specs.Hd153108 as A
use Rattle.ms622424.specs.Ms622424 as B
use Rattle.rgb640.specs.Rgb640 as C

pub data Impostor : Type 0 where
  refuses_all : Impostor
  accepts_all : Impostor
  one_reply : Impostor
  does_nothing : Impostor

-- what each does at every call of a kind: `call` makes the kind's calls of their arguments, `step` is the impostor
module _ {X C K : Type 0} (call : X → K) (step : K → C → Outcome C) where
  abbrev pub Is : Impostor → Type 0
  Is refuses_all = (x : X) (c : C) → ¬ Accepted step (call x) c
  Is accepts_all = (x : X) (c : C) → Accepted step (call x) c
  -- whatever it accepts, it tells the same
  Is one_reply =
      (x y : X) (c d : C) → Accepted step (call x) c → Accepted step (call y) d
      → telling (step (call x) c) ≡ telling (step (call y) d)
  Is does_nothing = (x : X) (c : C) → (step (call x) c).left ≡ c

-- no such chip keeps the kind's promise; so of all in a list
module _ {X C K : Type 0} (called : K → C → Outcome C) (call : X → K) where
  abbrev pub Caught : Impostor → Type 0
  Caught i =
      (step : K → C → Outcome C) → ((x : X) (c : C) → step (call x) c ≡ called (call x) c) → ¬ Is call step i

  abbrev pub AllCaught : List Impostor → Type 0
  AllCaught [] = Unit
  AllCaught (i ∷ is) = Caught i × AllCaught is

-- a kind of one call, which has no argument
pub data Once : Type 0 where
  once : Once

abbrev pub alone : {K : Type 0} → K → Once → K
alone k x = k

pub record ImpostorsA : Type 0 where
  -- an accepted write answers nothing
  pub writes : AllCaught A.called (λ (x : ℕ × ℕ). A.writes x.0 x.1) (refuses_all ∷ accepts_all ∷ does_nothing ∷ [])
  pub reads : AllCaught A.called A.reads (refuses_all ∷ accepts_all ∷ one_reply ∷ does_nothing ∷ [])
  -- a reset is never refused, and answers nothing
  pub resets : AllCaught A.called (alone A.resets) (refuses_all ∷ does_nothing ∷ [])
  pub ticks : AllCaught A.called (alone A.ticks) (refuses_all ∷ accepts_all ∷ does_nothing ∷ [])
  -- pixels and looks change nothing
  pub pixels : AllCaught A.called (λ (x : ℕ × ℕ × ℕ). A.pixels x.0 x.1 x.2)
      (refuses_all ∷ accepts_all ∷ one_reply ∷ [])
  pub looks : AllCaught A.called A.looks (refuses_all ∷ accepts_all ∷ one_reply ∷ [])

pub record ImpostorsB : Type 0 where
  -- a write that makes room counts 4, another 0
  pub writes : AllCaught B.called (λ (x : ℕ × ℕ). B.writes x.0 x.1)
      (refuses_all ∷ accepts_all ∷ one_reply ∷ does_nothing ∷ [])
  pub reads : AllCaught B.called B.reads (refuses_all ∷ accepts_all ∷ one_reply ∷ does_nothing ∷ [])
  pub blanks : AllCaught B.called B.blanks (refuses_all ∷ accepts_all ∷ one_reply ∷ does_nothing ∷ [])
  -- pixels, signals and looks change nothing
  pub pixels : AllCaught B.called (λ (x : ℕ × ℕ). B.pixels x.0 x.1) (refuses_all ∷ accepts_all ∷ one_reply ∷ [])
  pub signals : AllCaught B.called B.signals (refuses_all ∷ accepts_all ∷ one_reply ∷ [])
  -- an accepted reset answers nothing
  pub resets : AllCaught B.called (alone B.resets) (refuses_all ∷ accepts_all ∷ does_nothing ∷ [])
  pub looks : AllCaught B.called B.looks (refuses_all ∷ accepts_all ∷ one_reply ∷ [])

pub record ImpostorsC : Type 0 where
  pub writes : AllCaught C.called (λ (x : ℕ × ℕ). C.writes x.0 x.1) (refuses_all ∷ accepts_all ∷ does_nothing ∷ [])
  pub reads : AllCaught C.called C.reads (refuses_all ∷ accepts_all ∷ one_reply ∷ does_nothing ∷ [])
  pub resets : AllCaught C.called (alone C.resets) (refuses_all ∷ does_nothing ∷ [])
  pub looks : AllCaught C.called C.looks (refuses_all ∷ accepts_all ∷ one_reply ∷ [])
