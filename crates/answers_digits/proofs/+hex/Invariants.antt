use Rattle.answers_digits.proofs.+hex.Given as goal

-- the digits that are left to write
abbrev pub decreases-hex : goal.decreases-hex
decreases-hex l = l.width
