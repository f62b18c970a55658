-- The part that the word is copied over is just the word.
use Rattle.std.proofs.Common.{◌≡◌, ℕ, ◌+◌, ◌-◌, List, length, refl, arith, append_assoc}
use borrow.Rule.Slice.PartMut.{put_mid}
use lib.Seq.{drop-drop}
use Rattle.sheet.specs.Sheet.{pasted}
use Rattle.sheet_lines.proofs.put.Goals as goal

copied : (d : List ℕ) (at : ℕ) (word new : List ℕ) → new ≡ word
    → put_mid at (at + length word - at) d new ≡ pasted d at word
unfolding pasted
copied d at word new e = let n : at + length word - at ≡ length word = omega arith in rw (n, e, drop-drop, append_assoc)

pub returns : goal.returns
returns c = (refl, copied c.args.out.now c.args.at c.args.word.now _ c.copy_from_slice.ensures.after)
