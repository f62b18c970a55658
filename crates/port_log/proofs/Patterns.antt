-- The first form that a line has, and what it says. Assumes nothing.
use Prim.Native.Nat.{ℕ, ◌≤◌, ◌<◌}
use mathlib.Core.Path.{◌≡◌, refl, sym, ◌∙◌}
use mathlib.Core.Bool.{Bool, true, false, ◌&&◌}
use mathlib.Core.List.{List, [], ◌∷◌}
use native.Mathlib.Omega.{arith}
use lib.ListN.{length}
use lib.Dec.{ltb}
use borrow.Author.Tests.{ltb-true, lt-ltb, le-ltb}
use Rattle.vocabulary.proofs.Choice.{picks_first, picks_second}
use Rattle.vocabulary.proofs.Range.{both}
use Rattle.log_pattern.specs.Pattern.{fits}
use Rattle.log_pattern.proofs.Patterns.{fits_length}
use Rattle.port_log.specs.declared.Line.{Line}
use Rattle.port_log.specs.declared.Line.TheVariants.{To, Expand, Bad}
use Rattle.port_log.specs.declared.Call.TheVariants.{Write, Read, Look, OfA, OfB}
use Rattle.port_log.specs.declared.CallA.TheVariants.{Pixel as PixelA}
use Rattle.port_log.specs.declared.CallB.TheVariants.{Pixel as PixelB, Blank, Sync}
use Rattle.port_log.specs.Log.{shows, Form, said, line_of}

-- the enables that chip A has
module _ (e o b : ℕ) where
  pub shows_it : e < 2 → To (OfA (PixelA e o b)) ≡ shows e o b
  unfolding shows
  shows_it h = sym (picks_first _ _ (lt-ltb e 2 h))

  pub shows_not : 2 ≤ e → Bad ≡ shows e o b
  unfolding shows
  shows_not h = sym (picks_second _ _ (le-ltb e 2 h))

-- the first form of a list: a line that has it, and one that has not, whatever function tested it
pub said_none : (t : List ℕ) → Bad ≡ said [] t
unfolding said
said_none t = refl

module _ (f : Form) (fs : List Form) (t : List ℕ) {b : Bool} {x : Line} (e : b ≡ fits f.pattern t) where
  pub said_first : b ≡ true → x ≡ f.says t → x ≡ said (f ∷ fs) t
  unfolding said
  said_first h s = s ∙ sym (picks_first _ _ (sym e ∙ h))

  pub said_next : b ≡ false → x ≡ said fs t → x ≡ said (f ∷ fs) t
  unfolding said
  said_next h s = s ∙ sym (picks_second _ _ (sym e ∙ h))

-- what a line says, from the numbers that its digits spell
module _ {a b c d : ℕ} (p : a ≡ c) where
  pub says_write : b ≡ d → To (Write a b) ≡ To (Write c d)
  says_write q = rw (p, q)

  pub says_pixel : b ≡ d → To (OfB (PixelB a b)) ≡ To (OfB (PixelB c d))
  says_pixel q = rw (p, q)

  pub says_expand : b ≡ d → Expand a b ≡ Expand c d
  says_expand q = rw (p, q)

  pub says_shown : {e f : ℕ} {x : Line} → b ≡ d → e ≡ f → x ≡ shows a b e → x ≡ shows c d f
  says_shown q r e = rw (sym p, sym q, sym r) e

module _ {a c : ℕ} (p : a ≡ c) where
  pub says_read : To (Read a) ≡ To (Read c)
  says_read = rw p

  pub says_look : To (Look a) ≡ To (Look c)
  says_look = rw p

  pub says_blank : To (OfB (Blank a)) ≡ To (OfB (Blank c))
  says_blank = rw p

  pub says_sync : To (OfB (Sync a)) ≡ To (OfB (Sync c))
  says_sync = rw p

-- every form is shorter than 16 bytes, so that a line of 16 or more has none
short : List Form → Bool
short [] = true
short (f ∷ fs) = ltb (length f.pattern) 16 && short fs

said_long : (fs : List Form) (t : List ℕ) → short fs ≡ true → 16 ≤ length t → said fs t ≡ Bad
unfolding said short
said_long [] t e h = refl
said_long (f ∷ fs) t e h =
    let tests = both (ltb (length f.pattern) 16) (short fs) e in
    let less = ltb-true (length f.pattern) 16 tests.0 in
    picks_second _ _ (fits_length f.pattern t (λ same. omega arith)) ∙ said_long fs t tests.1 h

pub line_long : (t : List ℕ) → 16 ≤ length t → line_of t ≡ Bad
unfolding short
line_long t h = said_long _ t refl h

-- what a line says, by the first form that it has
pub ruleset forms = (
  said_first,
  said_next,
  said_none,
  says_write,
  says_read,
  says_pixel,
  says_blank,
  says_sync,
  says_expand,
  says_shown,
  says_look,
  shows_it,
  shows_not,
)
