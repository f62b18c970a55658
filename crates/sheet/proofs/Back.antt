-- Lawful lines, some of them missing, make a good sheet of just those lines. Assumes nothing.
use Prim.Native.Nat.{ℕ, ◌+◌, ◌≤◌}
use mathlib.Core.Path.{◌≡◌, refl, ap}
use mathlib.Core.List.{List, [], ◌∷◌}
use native.Mathlib.Omega.{arith}
use lib.ListN.{length}
use lib.Seq.{drop-append_seam}
use Rattle.vocabulary.specs.Choice.{pick}
use Rattle.sheet.specs.Sheet.{Line}
use Rattle.std.specs.Prelude.{Some, None}
use Rattle.sheet.specs.Sheet.{keys, key_at, line_text, good, led, read_from, sheet_of, text_from}
use Rattle.sheet.specs.Grammar.{Lawful}
use Rattle.sheet.proofs.Lines.{line_there}
use Rattle.sheet.proofs.Apart.{entry_by, behind}

good_from : (l : List Line) (k n : ℕ) → k + length l ≤ keys → Lawful k l
    → read_from (length l) k n (text_from k l) ≡ good l
unfolding read_from text_from pick
good_from [] k n h f = refl
good_from (Some v ∷ l) k n h (fits, taken, f) =
    let line = line_text (key_at k) v in
    rw (line_there (key_at k) v (text_from (k + 1) l) fits taken, drop-append_seam line (text_from (k + 1) l))
    (ap (led (Some v)) (good_from l (k + 1) _ (omega arith) f))
good_from (None ∷ l) k n h (free, f) =
    let rest = good_from l (k + 1) n (omega arith) f in
    rw (behind k (entry_by k free) l (k + 1) (omega arith) (omega arith) f) (cc)

good_all : (l : List Line) (more n : ℕ) → length l ≡ more → more ≤ keys → Lawful 0 l
    → read_from more 0 n (text_from 0 l) ≡ good l
good_all l more n e h f = rw e at (good_from l 0 n (omega arith) f)

pub lawful_good : (l : List Line) → length l ≡ keys → Lawful 0 l → sheet_of (text_from 0 l) ≡ good l
lawful_good l e f = good_all l keys _ e (omega arith) f
