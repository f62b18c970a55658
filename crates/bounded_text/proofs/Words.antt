-- A word that was copied to the front of a text's bytes is read back whole. Assumes nothing.
use Rattle.std.proofs.Math.Seq.{take-append_seam}

pub ruleset words = (take-append_seam)
